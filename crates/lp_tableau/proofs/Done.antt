-- Lists whose items are replaced one after the other, from the first on, and rows among rows that are replaced so.
--
-- `none_done`: a list is done up to item 0 before any item is replaced.
-- `one_done`: where a list is done up to item k and item k becomes what the run gives, it is done up to item k + 1.
-- `all_done`: where a list of n items is done up to item n, the run over all items gives it.
-- `as_before`: where a list is done up to item k, item k is as it was.
-- `no_row_done`: a row among rows is done up to item 0 before any item is replaced.
-- `one_row_done`: where row p is done up to item k and item k is replaced by the run's, it is done up to k + 1.
-- `row_all_done`: where row p has n items and is done up to item n, the run over the row and its write give the rows.
-- `row_stops`: where row p is done up to item k, and the run refuses item k, the run over the whole row is refused at
--   that operation.
-- `row_as_before`: where row p is done up to item k, its item k is as it was.
-- `others_as_before`: where a row is done up to some item, each other row is as it was.
-- `other_as_before`: where a row is done up to some item, each item of another row is as it was.
-- `grid_row`: where m rows have width n, each of them has n items.
-- `row_inside`: a row number below m is one of the list of m rows.
-- `column_inside`: where m rows have width n, a column number below n is inside each row.
-- `grid_set`: m rows of width n stay such where one entry is replaced.
-- `row_finished`: where a loop has replaced all n items of row p, the run that makes these items and writes them as row
--   p gives the rows that the loop leaves.
-- `list_finished`: where a loop over a list of n items ends at n, the run over all items gives the list.
-- `item_is`: an item that was read inside the list is the list's item, whatever default is asked with.
use Rattle.std.proofs.Common.{◌≡◌, ◌≢◌, ℕ, ◌+◌, ◌<◌, ◌≤◌, List, [], length, take}
use Rattle.std.proofs.Common.{drop, get_or, Ok, Err, refl, sym, ap, ◌∙◌, subst, arith}
use Rattle.std.proofs.Math.ListN.{set}
use Rattle.std.proofs.Math.Seq.{take-length}
use Rattle.std.proofs.lemmas.List.{get_or_default, take_more_set, drop-set-lt, drop-drop, set-get_or}
use Rattle.std.proofs.lemmas.List.{set-set, get_or-set_same, get_or-set_other, get_or-drop, length-set}
use Rattle.std.proofs.lemmas.List.Elements.{All-set, All-get_or}
use Rattle.spec_exact.specs.Fraction.{ℚ, 0ℚ}
use Rattle.spec_exact.specs.declared.past.Past.{Past}
use Rattle.spec_exact.specs.Run.{Run, ◌>>=◌, list_run}
use Rattle.spec_simplex.specs.Tableau.{at_place}
use Rattle.spec_exact.proofs.RunsInOrder.{list_more, list_stops}
use Rattle.lp_tableau.specs.Grid.{IsGrid}

-- the first k items are those of the run, and the others are as they were
pub record IsDone (k : ℕ) (f : ℕ → Run ℚ) (old new : List ℚ) : Type 0 where
  pub done : list_run k f ≡ Ok (take k new)
  pub rest : drop k new ≡ drop k old
  pub len : length new ≡ length old

pub none_done : (f : ℕ → Run ℚ) (old : List ℚ) → IsDone 0 f old old
none_done f old = record { done = refl; rest = refl; len = refl }

-- lists that are equal behind their first k items are equal behind their first k + 1
drop_one_more : (k : ℕ) (xs ys : List ℚ) → drop k xs ≡ drop k ys → drop (k + 1) xs ≡ drop (k + 1) ys
drop_one_more k xs ys e = sym (drop-drop 1 k xs) ∙ ap (drop 1) e ∙ drop-drop 1 k ys

pub one_done : (k : ℕ) (f : ℕ → Run ℚ) (old new : List ℚ) (v : ℚ) → IsDone k f old new → k < length new → f k ≡ Ok v →
    IsDone (k + 1) f old (set new k v)
one_done k f old new v d h e =
    record {
      done = list_more k f (take k new) v d.done e ∙ ap Ok (sym (take_more_set new k v h));
      rest = drop-set-lt (k + 1) new k v (omega arith) ∙ drop_one_more k new old d.rest;
      len = length-set new k v ∙ d.len;
    }

pub all_done : (n : ℕ) (f : ℕ → Run ℚ) (old new : List ℚ) → IsDone n f old new → length old ≡ n → list_run n f ≡ Ok new
all_done n f old new d e = d.done ∙ ap Ok (ap (λ k. take k new) (sym (d.len ∙ e)) ∙ take-length new)

-- an item that is to come is as it was
pub as_before : (k : ℕ) (f : ℕ → Run ℚ) (old new : List ℚ) → IsDone k f old new → get_or new k 0ℚ ≡ get_or old k 0ℚ
as_before k f old new d =
    let z : k + 0 ≡ k = omega arith in
    ap (λ i. get_or new i 0ℚ) (sym z) ∙ sym (get_or-drop k new 0 0ℚ)
    ∙ ap (λ xs. get_or xs 0 0ℚ) d.rest ∙ get_or-drop k old 0 0ℚ ∙ ap (λ i. get_or old i 0ℚ) z

-- ---- a row among rows
pub record IsRowDone (p k : ℕ) (f : ℕ → Run ℚ) (old new : List (List ℚ)) : Type 0 where
  pub row : IsDone k f (get_or old p []) (get_or new p [])
  pub frame : new ≡ set old p (get_or new p [])

pub no_row_done : (p : ℕ) (f : ℕ → Run ℚ) (old : List (List ℚ)) → IsRowDone p 0 f old old
no_row_done p f old = record { row = none_done f (get_or old p []); frame = sym (set-get_or old p []) }

-- the rows with v as item k of row p
abbrev pub with_item : List (List ℚ) → ℕ → ℕ → ℚ → List (List ℚ)
with_item rows p k v = set rows p (set (get_or rows p []) k v)

pub one_row_done : (p k : ℕ) (f : ℕ → Run ℚ) (old new : List (List ℚ)) (v : ℚ) → IsRowDone p k f old new →
    p < length new → k < length (get_or new p []) → f k ≡ Ok v → IsRowDone p (k + 1) f old (with_item new p k v)
one_row_done p k f old new v d h l e =
    let r : List ℚ = set (get_or new p []) k v in
    let same : get_or (set new p r) p [] ≡ r = get_or-set_same new p r [] h in
    record {
      row =
          subst (IsDone (k + 1) f (get_or old p [])) (sym same)
          (one_done k f (get_or old p []) (get_or new p []) v d.row l e);
      frame =
          ap (λ rows. set rows p r) d.frame ∙ set-set old p (get_or new p []) r ∙ ap (λ row. set old p row) (sym same);
    }

-- the whole run
pub row_all_done : (p n : ℕ) (f : ℕ → Run ℚ) (old new : List (List ℚ)) → IsRowDone p n f old new →
    length (get_or old p []) ≡ n → (list_run n f >>= λ row. Ok (set old p row)) ≡ Ok new
row_all_done p n f old new d e =
    ap (λ o. o >>= λ row. Ok (set old p row)) (all_done n f (get_or old p []) (get_or new p []) d.row e)
    ∙ ap Ok (sym d.frame)

pub row_stops : (p k n : ℕ) (f : ℕ → Run ℚ) (old new : List (List ℚ)) (e : Past ℚ) → IsRowDone p k f old new → k < n →
    f k ≡ Err e → (list_run n f >>= λ row. Ok (set old p row)) ≡ Err e
row_stops p k n f old new e d h g =
    ap (λ o. o >>= λ row. Ok (set old p row)) (list_stops k n f (take k (get_or new p [])) e h d.row.done g)

-- what is read of the row, and of another one
pub row_as_before : (p k : ℕ) (f : ℕ → Run ℚ) (old new : List (List ℚ)) → IsRowDone p k f old new →
    at_place new p k ≡ at_place old p k
row_as_before p k f old new d = as_before k f (get_or old p []) (get_or new p []) d.row

pub others_as_before : (p k q : ℕ) (f : ℕ → Run ℚ) (old new : List (List ℚ)) → IsRowDone p k f old new → q ≢ p →
    get_or new q [] ≡ get_or old q []
others_as_before p k q f old new d n =
    ap (λ rows. get_or rows q []) d.frame ∙ get_or-set_other old p q (get_or new p []) [] n

pub other_as_before : (p k q : ℕ) (f : ℕ → Run ℚ) (old new : List (List ℚ)) → IsRowDone p k f old new → p ≢ q →
    at_place new q k ≡ at_place old q k
other_as_before p k q f old new d n = ap (λ row. get_or row k 0ℚ) (others_as_before p k q f old new d (λ e. n (sym e)))

-- ---- rows of one width
pub grid_row : (m n : ℕ) (rows : List (List ℚ)) (i : ℕ) → IsGrid m n rows → i < m → length (get_or rows i []) ≡ n
grid_row m n rows i g h = All-get_or (λ row. length row ≡ n) rows i [] (omega (arith, h, g.height)) g.width

pub row_inside : (m n : ℕ) (rows : List (List ℚ)) (i : ℕ) → IsGrid m n rows → i < m → i < length rows
row_inside m n rows i g h = omega (arith, h, g.height)

pub column_inside : (m n : ℕ) (rows : List (List ℚ)) (i k : ℕ) → IsGrid m n rows → i < m → k < n →
    k < length (get_or rows i [])
column_inside m n rows i k g h l = omega (arith, l, grid_row m n rows i g h)

pub grid_set : (m n : ℕ) (rows : List (List ℚ)) (i k : ℕ) (v : ℚ) → IsGrid m n rows → i < m →
    IsGrid m n (with_item rows i k v)
grid_set m n rows i k v g h =
    record {
      height = length-set rows i (set (get_or rows i []) k v) ∙ g.height;
      width =
          All-set (λ row. length row ≡ n) rows i (set (get_or rows i []) k v)
          (length-set (get_or rows i []) k v ∙ grid_row m n rows i g h) g.width;
    }

-- the end of a loop
pub row_finished : (p k n : ℕ) (f : ℕ → Run ℚ) (old new : List (List ℚ)) → IsRowDone p k f old new → n ≤ k → k ≤ n →
    length (get_or old p []) ≡ n → (list_run n f >>= λ row. Ok (set old p row)) ≡ Ok new
row_finished p k n f old new d h l e =
    let z : k ≡ n = omega arith in
    row_all_done p n f old new (subst (λ i. IsRowDone p i f old new) z d) e

pub list_finished : (k n : ℕ) (f : ℕ → Run ℚ) (old new : List ℚ) → IsDone k f old new → n ≤ k → k ≤ n → length old ≡ n →
    list_run n f ≡ Ok new
list_finished k n f old new d h l e =
    let z : k ≡ n = omega arith in
    all_done n f old new (subst (λ i. IsDone i f old new) z d) e

-- an item that was read
pub item_is : (xs : List ℚ) (i : ℕ) (x : ℚ) → x ≡ get_or xs i x → i < length xs → x ≡ get_or xs i 0ℚ
item_is xs i x e h = e ∙ get_or_default xs i x 0ℚ h
