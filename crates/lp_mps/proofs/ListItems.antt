-- Changes of one item of a list, and of one number of a column.
--
-- `changed_at-set`: setting an item of a list to f of it is changing the list at its place by f.
-- `changed_at-past`: changing a list at a place behind its end leaves the list.
-- `number_zero`: giving a column the number 0 in a row leaves the column.
-- `number_put`: pushing a number other than 0 to a column's entries gives, once sorted, the column with that number.
-- `list_any-reverse`: whether some item passes a test does not change when the list is reversed.
use Rattle.std.proofs.Common.{◌≡◌, ℕ, zero, suc, ◌<◌, ◌≤◌, Bool, true, false, List, [], ◌∷◌, ◌++◌}
use Rattle.std.proofs.Common.{length, reverse, ◌||◌, get_or, cond, refl, ap, ◌∙◌, arith, Result, Ok, Err, OnOk}
use Rattle.std.specs.List.{list_any}
use Rattle.std.proofs.Math.ListN.{set}
use Rattle.std.proofs.lemmas.List.{reverse-append}
use Rattle.std.proofs.lemmas.List.Folds.{list_any-append}
use Rattle.spec_exact.specs.Fraction.{ℚ, 0ℚ, eq_ℚ}
use Rattle.spec_exact.proofs.Same.{eq_test, eq_if}
use Rattle.spec_model.specs.Model.{ExactColumn}
use Rattle.spec_mps.specs.declared.target.Target.TheVariants as target
use Rattle.spec_mps.specs.Reader.{put_entry, with_number}
use Rattle.spec_mps.specs.Sides.{changed_at}
use Rattle.lp_mps.specs.InOrder.{in_order, ordered}
use Rattle.lp_mps.proofs.EntryOrder.{put_pushed}

-- the item at a place is written
pub changed_at-set : {A : Type 0} (xs : List A) (i : ℕ) (f : A → A) (d : A) → i < length xs →
    set xs i (f (get_or xs i d)) ≡ changed_at i f xs
changed_at-set [] i f d l = absurd (omega arith)
changed_at-set (x ∷ xs) zero f d l = refl
changed_at-set (x ∷ xs) (suc i) f d l = ap (λ ys. x ∷ ys) (changed_at-set xs i f d (omega arith))

pub changed_at-past : {A : Type 0} (xs : List A) (i : ℕ) (f : A → A) → length xs ≤ i → xs ≡ changed_at i f xs
changed_at-past [] i f l = refl
changed_at-past (x ∷ xs) zero f l = absurd (omega arith)
changed_at-past (x ∷ xs) (suc i) f l = ap (λ ys. x ∷ ys) (changed_at-past xs i f (omega arith))

-- a number that is 0 is no entry
pub number_zero : (c : ExactColumn) (i : ℕ) (v : ℚ) → v ≡ 0ℚ → c ≡ with_number c (target.Row i) v
number_zero c i v e = rw (eq_test v 0ℚ e) refl

-- any other is put among them, unless there is no memory
pub number_put : {T E : Type 0} (result : Result T E) (c : ExactColumn) (i : ℕ) (v : ℚ) (new : List (ℕ × ℚ))
    (is_zero : Bool) → (v ≡ 0ℚ → is_zero ≡ true) → is_zero ≡ false → OnOk result (new ≡ c.entries ++ (i, v) ∷ []) →
    OnOk result (ordered (record c { entries = new }) ≡ with_number (ordered c) (target.Row i) v)
number_put (Ok done) c i v new is_zero e f h =
    ap (λ es. record c { entries = es }) (ap in_order h ∙ put_pushed [] c.entries (i, v)) ∙ go (eq_ℚ v 0ℚ) refl
  where
    go : (b : Bool) → eq_ℚ v 0ℚ ≡ b →
        record c { entries = put_entry i v (in_order c.entries) }
        ≡ cond b (ordered c) (record c { entries = put_entry i v (in_order c.entries) })
    go true q = absurd (let t = e (eq_if v 0ℚ q) in cc)
    go false q = refl
number_put (Err fault) c i v new is_zero e f h = tt

-- a test that some element passes does not ask in which order they stand
pub list_any-reverse : {X : Type 0} (p : X → Bool) (xs : List X) → list_any p (reverse xs) ≡ list_any p xs
list_any-reverse p [] = refl
list_any-reverse p (x ∷ xs) =
    ap (list_any p) (reverse-append (x ∷ []) xs) ∙ list_any-append p (reverse xs) (x ∷ [])
    ∙ ap (λ t. t || (p x || false)) (list_any-reverse p xs) ∙ turned (list_any p xs) (p x)
  where
    turned : (s t : Bool) → (s || (t || false)) ≡ (t || s)
    turned true true = refl
    turned true false = refl
    turned false true = refl
    turned false false = refl
