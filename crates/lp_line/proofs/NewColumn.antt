-- What the words of a new column are read as: its name, its cost and pairs, or the first fault.
use Rattle.std.proofs.Common.{◌≡◌, ◌≢◌, ◌%◌, ℕ, List, [], ◌∷◌, Option, Some, None, option_map, Result, Ok, Err, length}
use Rattle.std.proofs.Common.{refl, ap, sym, ◌∙◌, subst, arith}
use Rattle.std.specs.Prelude.{IfSome}
use Rattle.spec_exact.specs.Fraction.{ℚ}
use Rattle.spec_model.specs.Model.{Name}
use Rattle.spec_edit.specs.declared.edit.Edit.TheVariants.{AddCol}
use Rattle.spec_edit.specs.Edited.{ExactEdit, Pairs}
use Rattle.spec_server.specs.declared.command.LineFault.{LineFault}
use Rattle.spec_server.specs.declared.command.LineFault.TheVariants as fault
use Rattle.spec_server.specs.EditCommand.{Reads, ◌>>=◌, number_in, two_by_two, numbers_in, column_in}
use Rattle.lp_line.specs.declared.edits.EditStop.{EditStop}
use Rattle.lp_line.specs.declared.edits.EditStop.TheVariants.{Fault, NoMemory}
use Rattle.lp_line.specs.GivesWords.{GivesWords}
use Rattle.lp_line.proofs.PairsLeft.{Words}

-- an odd number of words makes no list of pairs
two_by_two-odd : (words : List (List ℕ)) → length words % 2 ≢ 0 → two_by_two words ≡ None
unfolding two_by_two
two_by_two-odd [] odd = absurd (odd refl)
two_by_two-odd (word ∷ []) odd = refl
two_by_two-odd (name ∷ value ∷ words) odd =
    ap (option_map (λ pairs. (name, value) ∷ pairs)) (two_by_two-odd words (omega arith))

-- an even number of words makes a list of pairs
two_by_two-even : (words : List (List ℕ)) → length words % 2 ≡ 0 → (pairs : Words) × (two_by_two words ≡ Some pairs)
unfolding two_by_two
two_by_two-even [] even = ([], refl)
two_by_two-even (word ∷ []) even = absurd (omega arith)
two_by_two-even (name ∷ value ∷ words) even =
    let rest = two_by_two-even words (omega arith) in
    ((name, value) ∷ rest.0, ap (option_map (λ pairs. (name, value) ∷ pairs)) rest.1)

-- where the words behind a new column's cost are odd in number, reading them fails with `Word`
pub odd_column : (name cost : List ℕ) (words : List (List ℕ)) → length words % 2 ≢ 0 →
    column_in name cost (two_by_two words) ≡ Err fault.Word
odd_column name cost words odd = ap (column_in name cost) (two_by_two-odd words odd)

module _ (name cost : List ℕ) (words : List (List ℕ)) (even : length words % 2 ≡ 0) where
  -- where the cost reads as `answer`, and the words behind it are even in number, reading a new column is the answer's
  -- fault, or else the reading of the pairs behind it
  cost_read : (answer : Reads ℚ) → number_in cost ≡ answer →
      column_in name cost (two_by_two words) ≡
      (answer >>= λ c. numbers_in (two_by_two-even words even).0 >>= λ ps. Ok (AddCol name c ps))
  cost_read answer e =
      let pairs = two_by_two-even words even in
      ap (column_in name cost) pairs.1
      ∙ ap (λ (a : Reads ℚ). a >>= λ c. numbers_in pairs.0 >>= λ ps. Ok (AddCol name c ps)) e

  -- where reading the cost gives a fault, reading a new column gives this fault
  pub cost_fault : (why : LineFault) → number_in cost ≡ Err why → column_in name cost (two_by_two words) ≡ Err why
  cost_fault why e = cost_read (Err why) e

  -- where the cost is the number v, the words are read as a new column with v and the pairs behind, or as the fault of
  -- these
  pairs_read : (v : ℚ) → number_in cost ≡ Ok v → (result : Result Pairs EditStop) →
      IfSome (two_by_two words) (λ pairs. GivesWords (numbers_in pairs) result) →
      (answer : Reads Pairs) × (GivesWords answer result) ×
      (column_in name cost (two_by_two words) ≡ (answer >>= λ ps. Ok (AddCol name v ps)))
  pairs_read v e result g =
      let pairs = two_by_two-even words even in (
        numbers_in pairs.0,
        subst (λ (o : Option Words). IfSome o (λ ps. GivesWords (numbers_in ps) result)) pairs.1 g,
        cost_read (Ok v) e,
      )

  -- where the cost is a number, and reading the pairs stops, reading the new column stops for the same reason
  pub pairs_fault : (v : ℚ) → number_in cost ≡ Ok v → (stop : EditStop) (result : Result ExactEdit EditStop) →
      result ≡ Err stop →
      IfSome (two_by_two words) (λ pairs. GivesWords (numbers_in pairs) (Err stop)) →
      GivesWords (column_in name cost (two_by_two words)) result
  pairs_fault v e stop result is g =
      subst (GivesWords (column_in name cost (two_by_two words))) (sym is) (by stop (pairs_read v e (Err stop) g))
    where
      by : (stop : EditStop) →
          (answer : Reads Pairs) × (GivesWords answer (Err stop)) ×
          (column_in name cost (two_by_two words) ≡ (answer >>= λ ps. Ok (AddCol name v ps))) →
          GivesWords (column_in name cost (two_by_two words)) (Err stop)
      by (Fault why) (answer, g, e) = e ∙ ap (λ (a : Reads Pairs). a >>= λ ps. Ok (AddCol name v ps)) g
      by NoMemory (answer, g, e) = tt

  -- where the cost reads as v, and the words behind it as pairs, the words are the new column of this name, v and pairs
  pub column_read : (v : ℚ) → Ok v ≡ number_in cost → (pairs : Pairs) →
      IfSome (two_by_two words) (λ ps. GivesWords (numbers_in ps) (Ok pairs)) → (same : List ℕ) → same ≡ name →
      column_in name cost (two_by_two words) ≡ Ok (AddCol same v pairs)
  column_read v e pairs g same is =
      let read = pairs_read v (sym e) (Ok pairs) g in
      read.2 ∙ ap (λ (a : Reads Pairs). a >>= λ ps. Ok (AddCol name v ps)) read.1
      ∙ ap (λ (n : Name). Ok (AddCol n v pairs)) (sym is)
