-- Numbers that are read of the rows for a certificate.
--
-- `read_at`: a number that was read of a list, over the list's denominator, is the fraction of its column.
-- `last_is`: the last number of a position's row, if it was made a fraction, is the value of the basic column.
-- `entry_is`: a number that was read of a position's row is the entry of the tableau that the rows show.
-- `moved_here`: where column k is basic at position i, the positions up to i move it by minus the directed entry.
-- `moved_elsewhere`: where column k is not basic at position i, that position does not move it.
-- `moved_all`: where i is the number of positions, how column k moves by the positions below i is how it moves along
--   the ray.
-- `listed_is`: a number of a list that is made of a fraction is the one made of an equal fraction.
-- `all_made`: a list of n items is one of m where n is m.
-- `by_end`: the certificate of an end is that of an equal end.
use Rattle.std.proofs.Common.{◌≡◌, ◌≢◌, ℕ, ◌+◌, ◌*◌, ◌<◌, List, [], ◌∷◌, ◌++◌, length, get_or, Option, Some}
use Rattle.std.proofs.Common.{Result, cond, All}
use Rattle.std.proofs.Common.{eq-eqb, ne_eqb, sym, ap, ap₂, subst, ◌∙◌, arith, add-one}
use Rattle.std.specs.Prelude.{IfSome, IfOk}
use Rattle.std.proofs.lemmas.List.{get_or_default}
use Rattle.std.proofs.lemmas.List.Elements.{All-nil, All-cons, All-append}
use Rattle.spec_exact.specs.Fraction.{ℚ, over, neg_ℚ}
use Rattle.spec_exact.specs.Run.{made}
use Rattle.spec_check.specs.declared.certificate.Certificate.{Certificate}
use Rattle.spec_pivot.specs.declared.status.Way.{Way}
use Rattle.spec_simplex.specs.declared.ends.PrimalEnd.{PrimalEnd}
use Rattle.spec_simplex.specs.Step.{directed}
use Rattle.spec_simplex.specs.Tableau.{Tableau, entry_at, basic_at}
use Rattle.spec_runs.specs.Cold.{moves_below, moves_by}
use Rattle.lp_natural.specs.Whole.{whole}
use Rattle.lp_natural.specs.declared.words.signed.Signed.{Signed}
use Rattle.lp_rows.specs.declared.fractions.Row.{Row}
use Rattle.lp_rows.specs.declared.number.RowFraction.{RowFraction}
use Rattle.lp_rows.specs.Number.{fraction_of}
use Rattle.lp_rows.specs.Row.{fraction_at}
use Rattle.lp_rows.proofs.Done.{item-at}
use Rattle.lp_rows.proofs.Cleared.{fraction-at}
use Rattle.lp_rows.specs.declared.tableau.tableau.RowTableau.{RowTableau}
use Rattle.lp_rows.specs.Shows.{IsWhole, Shows, row_at, height, width}
use Rattle.lp_rows.specs.Ends.{certificate_as}
use Rattle.lp_rows.proofs.Asks.{row-at}
use Rattle.lp_rows.proofs.Converted.{if_some}
use Rattle.lp_rows.proofs.SameNumbers.{of_some}

-- a number that was read, as a fraction on d
pub read_at : {T : Type 0} (value : T → ℕ) (numbers : List (Signed T)) (d e k : ℕ) (n : Signed T) →
    k < length numbers → n ≡ get_or numbers k n → e ≡ d →
    over (whole n.negative (value n.size)) e ≡ fraction_at value numbers d k
read_at value numbers d e k n l g same =
    ap₂ over (sym (item-at value numbers k n l g)) same ∙ sym (fraction-at value numbers d k l)

pub last_is : {T : Type 0} (value : T → ℕ) (r : RowTableau T) (i n : ℕ) (row : Row T) (o : Option (RowFraction T)) →
    i < height r → row ≡ get_or r.rows.items i row → n ≡ width r →
    IfSome o (λ v. fraction_of value v ≡
    fraction_at value row.numbers.items (value r.denominator * value row.denominator) n) →
    IfSome o (λ v. fraction_of value v ≡ row_at value (value r.denominator) r.rows.items i (width r))
last_is value r i n row o l g e h =
    if_some _ _ o
    (λ v is. is ∙ ap (fraction_at value row.numbers.items (value r.denominator * value row.denominator)) e
    ∙ sym (row-at value (value r.denominator) r.rows.items i (width r) row l g)) h

-- an entry that was read
pub entry_is : {T : Type 0} (value : T → ℕ) (r : RowTableau T) (t : Tableau) (i j : ℕ) (row : Row T) → Shows value r t →
    i < height r → j < width r → row ≡ get_or r.rows.items i row →
    fraction_at value row.numbers.items (value row.denominator) j ≡ entry_at t i j
entry_is value r t i j row s l m g =
    (let one : value row.denominator ≡ 1 * value row.denominator = omega arith in
    ap (λ d. fraction_at value row.numbers.items d j) one)
    ∙ sym (row-at value 1 r.rows.items i j row l g)
    ∙ sym (s.entries i j (omega (arith, l, s.rows)) (omega (arith, m, s.rows, s.cols)))

-- ---- how a column moves

-- where rows show a tableau, the basic column that is read at position i is the tableau's
basic_is : {T : Type 0} (value : T → ℕ) (r : RowTableau T) (t : Tableau) (i b : ℕ) → Shows value r t →
    IsWhole value r → i < height r → b ≡ get_or r.basic.items i b → basic_at t i ≡ b
basic_is value r t i b s w l g =
    sym (ap (λ (ks : List ℕ). get_or ks i 0) s.basic)
    ∙ get_or_default r.basic.items i 0 b (omega (arith, l, w.all_basic)) ∙ sym g

pub moved_here : {T : Type 0} (value : T → ℕ) (r : RowTableau T) (t : Tableau) (i j k b : ℕ) (way : Way) (v : ℚ) →
    Shows value r t → IsWhole value r → i < height r → b ≡ get_or r.basic.items i b → b ≡ k →
    v ≡ neg_ℚ (directed way (entry_at t i j)) → v ≡ moves_below t j way k (i + 1)
moved_here value r t i j k b way v s w l g e is =
    is
    ∙ sym (ap (moves_below t j way k) (add-one i)
    ∙ ap (λ c. cond c (neg_ℚ (directed way (entry_at t i j))) (moves_below t j way k i))
    (eq-eqb (basic_at t i) k (basic_is value r t i b s w l g ∙ e)))

pub moved_elsewhere : {T : Type 0} (value : T → ℕ) (r : RowTableau T) (t : Tableau) (i j k b : ℕ) (way : Way) (v : ℚ) →
    Shows value r t → IsWhole value r → i < height r → b ≡ get_or r.basic.items i b → b ≢ k →
    v ≡ moves_below t j way k i → v ≡ moves_below t j way k (i + 1)
moved_elsewhere value r t i j k b way v s w l g n is =
    is
    ∙ sym (ap (moves_below t j way k) (add-one i)
    ∙ ap (λ c. cond c (neg_ℚ (directed way (entry_at t i j))) (moves_below t j way k i))
    (ne_eqb (basic_at t i) k (λ e. n (sym (basic_is value r t i b s w l g) ∙ e))))

pub moved_all : {T : Type 0} (value : T → ℕ) (r : RowTableau T) (t : Tableau) (i j k : ℕ) (way : Way) (v : ℚ) →
    Shows value r t → i ≡ height r → v ≡ moves_below t j way k i → v ≡ moves_by t j way k
moved_all value r t i j k way v s e is = is ∙ ap (moves_below t j way k) (e ∙ s.rows)

-- ---- lists

-- a number of a list is that of the same fraction
pub listed_is : {N E : Type 0} (of : ℚ → N) (p q : ℚ) (o : Result (Option N) E) → p ≡ q →
    IfOk o (λ o. IfSome o (λ n. n ≡ of p)) → IfOk o (λ o. IfSome o (λ n. n ≡ of q))
listed_is of p q o e h = subst (λ q. IfOk o (λ o. IfSome o (λ n. n ≡ of q))) e h

module _ {N : Type 0} (old new : List N) (v : N) (pushed : new ≡ old ++ v ∷ []) where
  -- where a list is made of f's first k items, and a number that is f k is pushed, the list is made of the first k + 1
  pub one_more : (f : ℕ → N) (k : ℕ) (o : Option N) → o ≡ Some v → old ≡ made k f → IfSome o (λ n. n ≡ f k) →
      new ≡ made (k + 1) f
  one_more f k o is before h =
      pushed ∙ ap₂ (λ xs x. xs ++ x ∷ []) before (of_some (λ n. n ≡ f k) o v is h)
      ∙ sym (ap (λ n. made n f) (add-one k))

  -- where P holds of each item of a list, and of the number that is pushed, P holds of each item of the longer list
  pub all_more : (P : N → Type 0) (o : Option N) → o ≡ Some v → All P old → IfSome o P → All P new
  all_more P o is before h =
      subst (All P) (sym pushed)
      (All-append P old (v ∷ []) before (All-cons P v [] (of_some P o v is h) (All-nil P)))

-- as many as there are
pub all_made : {N : Type 0} (f : ℕ → N) (xs : List N) (n m : ℕ) → n ≡ m → xs ≡ made n f → xs ≡ made m f
all_made f xs n m e h = h ∙ ap (λ n. made n f) e

-- ---- by the end
pub by_end : {N E : Type 0} (of : ℚ → N) (t : Tableau) (a b : Option PrimalEnd)
    (r : Result (Option (Certificate (List N))) E) → a ≡ b →
    IfOk r (λ o. IfSome o (λ c. c ≡ certificate_as of t b)) → IfOk r (λ o. IfSome o (λ c. c ≡ certificate_as of t a))
by_end of t a b r e h = subst (λ end. IfOk r (λ o. IfSome o (λ c. c ≡ certificate_as of t end))) (sym e) h
