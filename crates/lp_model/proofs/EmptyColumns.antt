-- Taking a row out of a list of columns, one column after the other.
--
-- `ascending_here`: where the first k columns are without row i and the rest as before, column k still has ascending
--   rows.
-- `lowered-more`: where the first k columns are without row i and column k is set to its entries without it, the first
--   k + 1 columns are without it.
-- `mapped_back`: where f was mapped over a slice of the whole list and the slice written back, the list is mapped by f.
use Rattle.std.proofs.Common.{◌≡◌, ℕ, ◌+◌, ◌<◌, List, ◌++◌, map, length, get_or, set}
use Rattle.std.proofs.Common.{take, drop, All, sym, ap, ◌∙◌, subst, arith, get_or-drop}
use Rattle.std.specs.List.{AllPairs}
use Rattle.std.proofs.Math.Seq.{drop-append_seam}
use Rattle.std.proofs.lemmas.List.{length-map, length-take-le, get_or_default, append-nil, take_all, drop_all}
use Rattle.std.proofs.lemmas.List.Edits.{map_over_more}
use Rattle.spec_exact.specs.Fraction.{ℚ}
use Rattle.spec_model.specs.Model.{ExactColumn}
use Rattle.spec_edit.specs.Changes.{without_entry}
use Rattle.spec_edit.proofs.Keeping.{lowered}

-- an item that a map in place has not come to yet is as it was
passed : {X : Type 0} (f : X → X) (xs ys : List X) (k : ℕ) (d : X) → k < length xs →
    ys ≡ map f (take k xs) ++ drop k xs → get_or ys k d ≡ get_or xs k d
passed f xs ys k d l e =
    let long : length (map f (take k xs)) ≡ k = length-map (take k xs) f ∙ length-take-le k xs (omega arith) in
    let rest : drop k ys ≡ drop k xs =
    ap (drop k) e ∙ ap (λ n. drop n (map f (take k xs) ++ drop k xs)) (sym long)
    ∙ drop-append_seam (map f (take k xs)) (drop k xs) in
    let at : k + 0 ≡ k = omega arith in
    sym (ap (λ n. get_or ys n d) at) ∙ sym (get_or-drop k ys 0 d)
    ∙ ap (λ zs. get_or zs 0 d) rest ∙ get_or-drop k xs 0 d ∙ ap (λ n. get_or xs n d) at

pub ascending_here : (i : ℕ) (xs ys : List ExactColumn) (k : ℕ) (d : ExactColumn) →
    k < length xs → ys ≡ map (lowered i) (take k xs) ++ drop k xs
    → All (λ (c : ExactColumn). AllPairs (λ d e. d.0 < e.0) c.entries) xs →
    AllPairs (λ d e. d.0 < e.0) (get_or ys k d).entries
ascending_here i xs ys k d l e h =
    subst (λ (c : ExactColumn). AllPairs (λ d e. d.0 < e.0) c.entries)
    (sym (passed (lowered i) xs ys k d l e)) (h k d l)

pub lowered-more : (i : ℕ) (xs ys : List ExactColumn) (k : ℕ) (d : ExactColumn) (es : List (ℕ × ℚ)) → k < length xs →
    length ys ≡ length xs → ys ≡ map (lowered i) (take k xs) ++ drop k xs → es ≡ without_entry i (get_or ys k d).entries
    → set ys k (record (get_or ys k d) { entries = es }) ≡ map (lowered i) (take (k + 1) xs) ++ drop (k + 1) xs
lowered-more i xs ys k d es l long e f =
    ap (λ es. set ys k (record (get_or ys k d) { entries = es })) f
    ∙ map_over_more (lowered i) xs ys k (get_or ys k d) l e (get_or_default ys k d (get_or ys k d) (omega arith))

-- a map in place of the slice that a vector is seen as, written back to it
pub mapped_back : {X : Type 0} (f : X → X) (n : ℕ) (xs seen new : List X) → seen ≡ xs → length seen ≡ n →
    new ≡ map f seen → take n (new ++ drop (length new) xs) ≡ map f xs
mapped_back f n xs seen new e l g =
    let long : length new ≡ length xs = ap length g ∙ length-map seen f ∙ ap length e in
    let same : length seen ≡ length xs = ap length e in
    ap (λ ys. take n (new ++ ys)) (drop_all (length new) xs (omega arith))
    ∙ ap (take n) (append-nil new) ∙ take_all n new (omega arith) ∙ g ∙ ap (map f) e
