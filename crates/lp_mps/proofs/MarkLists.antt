-- The rows and the objective that have a number already, as a list of marks.
--
-- `among_marks`: the mark of a target is in the list exactly if the target is among those of the list's marks.
-- `mark_put`: inserting a mark that is new puts its target in front of the others, and inserting an old one puts none.
use Rattle.std.proofs.Common.{◌≡◌, ℕ, Bool, true, false, not, ◌||◌, cond, nat_eq, Option, Some, None}
use Rattle.std.proofs.Common.{List, [], ◌∷◌, ◌++◌, map, reverse, refl, sym, ap, ap₂, ◌∙◌}
use Rattle.std.specs.List.{list_any}
use Rattle.std.specs.Option.{option_eq}
use Rattle.std.proofs.lemmas.List.{map-append, reverse-append}
use Rattle.spec_mps.specs.declared.target.Target.{Target}
use Rattle.spec_mps.specs.declared.target.Target.TheVariants.{Objective, Row}
use Rattle.spec_mps.specs.Reader.{is_among, same_target}
use Rattle.lp_mps.specs.Marks.{mark_of, target_of}
use Rattle.lp_mps.proofs.ListItems.{list_any-reverse}

-- two marks are the same exactly where they are marks of one target, which is the objective or a row
same_mark : (t : Target) (k : Option ℕ) → option_eq nat_eq (mark_of t) k ≡ same_target t (target_of k)
same_mark Objective None = refl
same_mark Objective (Some j) = refl
same_mark (Row i) None = refl
same_mark (Row i) (Some j) = refl

-- a target, which is the objective or a row, is the one that its mark stands for
target_back : (t : Target) → target_of (mark_of t) ≡ t
target_back Objective = refl
target_back (Row i) = refl

-- the mark of a target is among marks exactly where the target is among their targets
marked : (t : Target) (marks : List (Option ℕ)) →
    list_any (option_eq nat_eq (mark_of t)) marks ≡ list_any (same_target t) (map target_of marks)
marked t [] = refl
marked t (k ∷ marks) = ap₂ ◌||◌ (same_mark t k) (marked t marks)

-- the mark of a target is among the marks exactly if the target is among theirs
pub among_marks : (t : Target) (m : Option ℕ) (marks : List (Option ℕ)) (ts : List Target) → m ≡ mark_of t →
    reverse (map target_of marks) ≡ ts → list_any (option_eq nat_eq m) marks ≡ is_among t ts
among_marks t m marks ts e seen =
    ap (λ m. list_any (option_eq nat_eq m) marks) e ∙ marked t marks
    ∙ sym (list_any-reverse (same_target t) (map target_of marks)) ∙ ap (is_among t) seen

-- a mark that is new goes last, so its target stands first
pub mark_put : (t : Target) (m : Option ℕ) (marks new : List (Option ℕ)) (ts : List Target) (is_new : Bool) →
    m ≡ mark_of t → reverse (map target_of marks) ≡ ts → is_new ≡ not (list_any (option_eq nat_eq m) marks) →
    new ≡ cond (list_any (option_eq nat_eq m) marks) marks (marks ++ m ∷ []) →
    reverse (map target_of new) ≡ cond is_new (t ∷ ts) ts
mark_put t m marks new ts is_new e seen told put = by (list_any (option_eq nat_eq m) marks) told put
  where
    by : (b : Bool) → is_new ≡ not b → new ≡ cond b marks (marks ++ m ∷ []) →
        reverse (map target_of new) ≡ cond is_new (t ∷ ts) ts
    by true n p = ap (λ xs. reverse (map target_of xs)) p ∙ seen ∙ ap (λ b. cond b (t ∷ ts) ts) (sym n)
    by false n p =
        ap (λ xs. reverse (map target_of xs)) p ∙ ap reverse (map-append target_of marks (m ∷ []))
        ∙ reverse-append (map target_of marks) (target_of m ∷ []) ∙ ap₂ ◌∷◌ (ap target_of e ∙ target_back t) seen
        ∙ ap (λ b. cond b (t ∷ ts) ts) (sym n)
