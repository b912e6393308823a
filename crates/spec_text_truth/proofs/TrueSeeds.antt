-- What `gen` writes is true of the model that is made from the seed.
use Rattle.std.proofs.Common.{◌≡◌, ℕ, Option, List, ◌∷◌, ◌++◌, refl, ap, ◌∙◌, subst}
use Rattle.std.specs.Prelude.{codes}
use Rattle.spec_model.specs.Model.{Model}
use Rattle.spec_commands.specs.Generated.{generated}
use Rattle.spec_program.specs.declared.command_line.CommandLine.TheVariants.{Generate}
use Rattle.spec_commands.specs.GenOut.{GenOut}
use Rattle.spec_text_truth.specs.TrueOutput.{HasNoFeed, IsNumber, IsTrueLine, OfFirst, IsTrueOf}
use Rattle.spec_text_truth.proofs.GeneratedModels.{size_other, optimal_follows, never_infeasible, never_unbounded}
use Rattle.spec_text_truth.proofs.TrueLines.{tail_no_feed, other_true}

-- what `gen` writes for a seed and sizes is true, whatever input is left
pub seed_true : (seed rows columns : ℕ) (after : Option (List ℕ)) (read written : List ℕ) →
    GenOut seed rows columns written → IsTrueOf (Generate seed rows columns) after read written
seed_true seed rows columns after read written out size rest size_plain e =
    (other_true IsMade IsNumber size (size_other seed rows columns written out size size_plain rest e), second)
  where
    IsMade : Model → Type 0
    IsMade m = m ≡ generated seed rows columns

    second : OfFirst (IsTrueLine IsMade IsNumber) rest
    second line behind no_feed f =
        record {
          optimal = λ text same.
              let v = optimal_follows seed rows columns written out size size_plain text behind
              (tail_no_feed (codes "OPTIMAL ") text (subst HasNoFeed same no_feed)) (as_line (codes "OPTIMAL " ++ text) same) in
              (generated seed rows columns, refl, v);
          infeasible = λ same.
              absurd (never_infeasible seed rows columns written out size size_plain behind (as_line (codes "INFEASIBLE") same));
          unbounded = λ same.
              absurd (never_unbounded seed rows columns written out size size_plain behind (as_line (codes "UNBOUNDED") same));
        }
      where
        as_line : (text : List ℕ) → line ≡ text → written ≡ size ++ 10 ∷ (text ++ 10 ∷ behind)
        as_line text same = e ∙ ap (λ (r : List ℕ). size ++ 10 ∷ r) (f ∙ ap (λ (l : List ℕ). l ++ 10 ∷ behind) same)
