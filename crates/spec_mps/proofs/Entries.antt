-- The entries of the column whose cards are being read: rows strictly ascending, below the number of rows, none zero.
--
-- `climbs_more`: entries of a column stay in order where one more row or the objective has got its number.
-- `climbs_higher`: entries of a column over some rows are in order over more rows as well.
-- `climbs_put`: a nonzero entry put at its place, for a row without a number so far, keeps the entries in order.
-- `climbs_entries`: entries in order over some rows are the entries of a column of a model with these rows.
use Rattle.std.proofs.Common.{◌≡◌, ◌≢◌, ℕ, suc, ◌<◌, ◌≤◌, Bool, true, false, ◌||◌, cond}
use Rattle.std.proofs.Common.{ltb, List, [], ◌∷◌, All, refl, sym, ap, ◌∙◌, arith, eq-eqb}
use borrow.Author.Tests.{ltb-true, ltb-false}
use Rattle.std.specs.List.{AllPairs}
use Rattle.std.proofs.lemmas.List.Elements.{All-nil, All-cons}
use Rattle.std.proofs.lemmas.List.Kept.{AllPairs-cons}
use Rattle.spec_exact.specs.Fraction.{ℚ, 0ℚ}
use Rattle.spec_model.specs.Kept.{AreEntries}
use Rattle.spec_mps.specs.declared.target.Target.{Target}
use Rattle.spec_mps.specs.declared.target.Target.TheVariants as target
use Rattle.spec_mps.specs.Reader.{is_among, same_target, put_entry}

-- an entry that is not 0, in one of n rows that is not below `low` and is among those that have a number
pub record IsEntry (n low : ℕ) (paired : List Target) (e : ℕ × ℚ) : Type 0 where
  pub above : low ≤ e.0
  pub inside : e.0 < n
  pub not_zero : e.1 ≢ 0ℚ
  pub known : is_among (target.Row e.0) paired ≡ true

-- entries that are not 0, in strictly ascending rows from `low` on, of n rows, each of which has a number
abbrev pub Climbs : ℕ → ℕ → List Target → List (ℕ × ℚ) → Type 0
Climbs n low paired [] = Unit {0}
Climbs n low paired (e ∷ es) = IsEntry n low paired e × Climbs n (suc e.0) paired es

-- a target among those that have a number is among them with one more
among_more : (t u : Target) (paired : List Target) → is_among t paired ≡ true → is_among t (u ∷ paired) ≡ true
among_more t u paired h = by (same_target t u) (is_among t paired) h
  where
    by : (s b : Bool) → b ≡ true → (s || b) ≡ true
    by true b e = refl
    by false b e = e

-- an entry of a row that has a number stays one where one more target has a number
entry_more : (n low : ℕ) (u : Target) (paired : List Target) (e : ℕ × ℚ) → IsEntry n low paired e →
    IsEntry n low (u ∷ paired) e
entry_more n low u paired e h =
    record {
      above = h.above;
      inside = h.inside;
      not_zero = h.not_zero;
      known = among_more (target.Row e.0) u paired h.known;
    }

pub climbs_more : (n low : ℕ) (u : Target) (paired : List Target) (es : List (ℕ × ℚ)) → Climbs n low paired es →
    Climbs n low (u ∷ paired) es
climbs_more n low u paired [] h = tt
climbs_more n low u paired (e ∷ es) h = (entry_more n low u paired e h.0, climbs_more n (suc e.0) u paired es h.1)

-- an entry of one of n rows is one of more rows
entry_higher : (n m low : ℕ) (paired : List Target) (e : ℕ × ℚ) → n ≤ m → IsEntry n low paired e →
    IsEntry m low paired e
entry_higher n m low paired e l h =
    record { above = h.above; inside = omega arith; not_zero = h.not_zero; known = h.known }

-- more rows do no harm
pub climbs_higher : (n m low : ℕ) (paired : List Target) (es : List (ℕ × ℚ)) → n ≤ m → Climbs n low paired es →
    Climbs m low paired es
climbs_higher n m low paired [] l h = tt
climbs_higher n m low paired (e ∷ es) l h =
    (entry_higher n m low paired e l h.0, climbs_higher n m (suc e.0) paired es l h.1)

-- a row is among the targets that have a number once it has one
itself : (i : ℕ) (paired : List Target) → is_among (target.Row i) (target.Row i ∷ paired) ≡ true
itself i paired = rw (eq-eqb i i refl) refl

-- a row that has no number is not one that has a number
apart : (i j : ℕ) (paired : List Target) → is_among (target.Row i) paired ≡ false →
    is_among (target.Row j) paired ≡ true → i ≢ j
apart i j paired p q e =
    let f : is_among (target.Row j) paired ≡ false = ap (λ k. is_among (target.Row k) paired) (sym e) ∙ p in
    cc

-- an entry that is put at its place
pub climbs_put : (n low i : ℕ) (v : ℚ) (paired : List Target) (es : List (ℕ × ℚ)) → low ≤ i → i < n → v ≢ 0ℚ →
    is_among (target.Row i) paired ≡ false → Climbs n low paired es →
    Climbs n low (target.Row i ∷ paired) (put_entry i v es)
climbs_put n low i v paired [] l k z p h = (record { above = l; inside = k; not_zero = z; known = itself i paired }, tt)
climbs_put n low i v paired (e ∷ es) l k z p h =
    go (ltb i e.0) refl (λ m. climbs_put n (suc e.0) i v paired es m k z p h.1)
  where
    here : IsEntry n low (target.Row i ∷ paired) (i, v)
    here = record { above = l; inside = k; not_zero = z; known = itself i paired }

    later : i < e.0 → IsEntry n (suc i) (target.Row i ∷ paired) e
    later m =
        record {
          above = omega arith;
          inside = h.0.inside;
          not_zero = h.0.not_zero;
          known = among_more (target.Row e.0) (target.Row i) paired h.0.known;
        }

    go : (t : Bool) → ltb i e.0 ≡ t → (suc e.0 ≤ i → Climbs n (suc e.0) (target.Row i ∷ paired) (put_entry i v es)) →
        Climbs n low (target.Row i ∷ paired) (cond t ((i, v) ∷ e ∷ es) (e ∷ put_entry i v es))
    go true t rest = (here, (later (ltb-true i e.0 t), climbs_more n (suc e.0) (target.Row i) paired es h.1))
    go false t rest =
        let ne : i ≢ e.0 = apart i e.0 paired p h.0.known in
        let le : e.0 ≤ i = ltb-false i e.0 t in
        (entry_more n low (target.Row i) paired e h.0, rest (omega arith))

-- entries that climb over n rows are all in rows below n
inside_all : (n low : ℕ) (paired : List Target) (es : List (ℕ × ℚ)) → Climbs n low paired es → All (λ e. e.0 < n) es
inside_all n low paired [] h = All-nil (λ e. e.0 < n)
inside_all n low paired (e ∷ es) h = All-cons (λ e. e.0 < n) e es h.0.inside (inside_all n (suc e.0) paired es h.1)

-- entries that climb are all other than 0
not_zero_all : (n low : ℕ) (paired : List Target) (es : List (ℕ × ℚ)) → Climbs n low paired es → All (λ e. e.1 ≢ 0ℚ) es
not_zero_all n low paired [] h = All-nil (λ e. e.1 ≢ 0ℚ)
not_zero_all n low paired (e ∷ es) h =
    All-cons (λ e. e.1 ≢ 0ℚ) e es h.0.not_zero (not_zero_all n (suc e.0) paired es h.1)

-- entries that climb from row low on are all above each row below low
above_all : (n low m : ℕ) (paired : List Target) (es : List (ℕ × ℚ)) → m < low → Climbs n low paired es →
    All (λ e. m < e.0) es
above_all n low m paired [] l h = All-nil (λ e. m < e.0)
above_all n low m paired (e ∷ es) l h =
    All-cons (λ e. m < e.0) e es (by h.0.above) (above_all n (suc e.0) m paired es (by2 h.0.above) h.1)
  where
    by : low ≤ e.0 → m < e.0
    by k = omega arith

    by2 : low ≤ e.0 → m < suc e.0
    by2 k = omega arith

-- entries that climb are in ascending rows
ascending_all : (n low : ℕ) (paired : List Target) (es : List (ℕ × ℚ)) → Climbs n low paired es →
    AllPairs (λ d e. d.0 < e.0) es
ascending_all n low paired [] h = λ i j d l k. absurd (omega arith)
ascending_all n low paired (e ∷ es) h =
    AllPairs-cons (λ d e. d.0 < e.0) e es (above_all n (suc e.0) e.0 paired es (omega arith) h.1)
    (ascending_all n (suc e.0) paired es h.1)

pub climbs_entries : (n low : ℕ) (paired : List Target) (es : List (ℕ × ℚ)) → Climbs n low paired es → AreEntries n es
climbs_entries n low paired es h =
    record {
      inside = inside_all n low paired es h;
      ascending = ascending_all n low paired es h;
      not_zero = not_zero_all n low paired es h;
    }
