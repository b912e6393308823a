-- Rows with twins: what is read of them, and that the steps of a pivot on the rows without
-- twins are those on the rows with them.
use Rattle.std.proofs.Common.{◌≡◌, ℕ, zero, suc, ◌+◌, ◌-◌, ◌<◌, List, [], ◌∷◌, ◌++◌, length, get_or, Option, Ok, Err}
use Rattle.std.proofs.Common.{Result, Bool, false, refl, sym, ap, ap₂, ◌∙◌, subst, subst₂, arith, append_assoc, ⊎_elim}
use Rattle.std.specs.Prelude.{⊤, All}
use Rattle.std.proofs.Math.ListN.{set, get_or-append}
use Rattle.std.proofs.Math.Seq.{get_or-append_seam}
use Rattle.std.proofs.lemmas.Bool.{cases_eq}
use Rattle.std.proofs.lemmas.List.{get_or-append_right, length-append, append-nil}
use Rattle.std.proofs.lemmas.List.Elements.{All-cons, All-head, All-tail, All-nil}
use Rattle.spec_exact.specs.Fraction.{ℚ, 0ℚ}
use Rattle.spec_exact.specs.declared.past.Past.{Past}
use Rattle.spec_exact.specs.Run.{Run, ◌>>=◌, list_run, made, quotient_run, less_product}
use Rattle.spec_simplex.specs.Tableau.{at_place}
use Rattle.spec_simplex.specs.Step.{scaled_run, cleared_run, turned_run}
use Rattle.spec_exact.proofs.RunsInOrder.{list_more, length-list_run, length-made, get_or-made}
use Rattle.lp_tableau.specs.Answer.{GivesRun}
use Rattle.lp_tableau.specs.Grid.{IsGrid}
use Rattle.lp_tableau.specs.Twins.{IsTwinned, signed, twin, with_twins, twinned, scaled_by, cleared_by}
use Rattle.lp_tableau.proofs.Done.{grid_row}
use Rattle.lp_tableau.proofs.NegatedOperands.{quotient_signed, less_signed}

-- ---- lists of runs

-- runs that are equal at each of n places give equal lists
list_same : (n : ℕ) (f g : ℕ → Run ℚ) → ((k : ℕ) → k < n → g k ≡ f k) → list_run n g ≡ list_run n f
list_same zero f g h = refl
list_same (suc n) f g h =
    ap₂ (λ o p. o >>= λ xs. p >>= λ x. Ok (xs ++ x ∷ []))
    (list_same n f g (λ k l. h k (omega (arith, l)))) (h n (omega arith))

-- where a run over n places gives a row, the run at place k gives the row's item k
list_item : (n : ℕ) (f : ℕ → Run ℚ) (row : List ℚ) → list_run n f ≡ Ok row → (k : ℕ) → k < n →
    f k ≡ Ok (get_or row k 0ℚ)
list_item zero f row e k h = absurd (omega (arith, h))
list_item (suc n) f row e k h = by (λ ys. list_item n f ys) (list_run n f) (f n) refl refl e
  where
    by : ((ys : List ℚ) → list_run n f ≡ Ok ys → (k : ℕ) → k < n → f k ≡ Ok (get_or ys k 0ℚ)) →
        (o : Run (List ℚ)) (p : Run ℚ) → list_run n f ≡ o → f n ≡ p →
        (o >>= λ ys. p >>= λ x. Ok (ys ++ x ∷ [])) ≡ Ok row → f k ≡ Ok (get_or row k 0ℚ)
    by ih (Ok ys) (Ok x) a b g =
        let r : ys ++ x ∷ [] ≡ row = cc in
        let l : length ys ≡ n = length-list_run n f ys a in
        ⊎_elim
        (λ s. ap f s ∙ b ∙ ap Ok (sym (ap (λ i. get_or (ys ++ x ∷ []) i 0ℚ) (s ∙ sym l) ∙ get_or-append_seam ys x [] 0ℚ)
        ∙ ap (λ zs. get_or zs k 0ℚ) r))
        (λ ne. ih ys a k (omega (arith, h, ne))
        ∙ ap Ok (sym (get_or-append ys (x ∷ []) 0ℚ k (omega (arith, h, ne, l))) ∙ ap (λ zs. get_or zs k 0ℚ) r))
        (cases_eq k n)
    by ih (Ok ys) (Err p) a b g = cc
    by ih (Err p) o a b g = cc

-- where a run over n places is refused, a run over d more places is refused with that error
list_err : (n d : ℕ) (f : ℕ → Run ℚ) (e : Past ℚ) → list_run n f ≡ Err e → list_run (n + d) f ≡ Err e
list_err n zero f e h = (let z : n + 0 ≡ n = omega arith in ap (λ k. list_run k f) z) ∙ h
list_err n (suc d) f e h =
    (let z : n + suc d ≡ suc (n + d) = omega arith in ap (λ k. list_run k f) z)
    ∙ ap (λ o. o >>= λ xs. f (n + d) >>= λ x. Ok (xs ++ x ∷ [])) (list_err n d f e h)

-- where a run over n places gives a row, and those behind give g, the run over all gives the row and then g
list_onto : (n m : ℕ) (f : ℕ → Run ℚ) (g : ℕ → ℚ) (row : List ℚ) → list_run n f ≡ Ok row →
    ((r : ℕ) → r < m → f (n + r) ≡ Ok (g r)) → list_run (n + m) f ≡ Ok (row ++ made m g)
list_onto n zero f g row e h =
    (let z : n + 0 ≡ n = omega arith in ap (λ k. list_run k f) z) ∙ e ∙ ap Ok (sym (append-nil row))
list_onto n (suc m) f g row e h =
    (let z : n + suc m ≡ (n + m) + 1 = omega arith in ap (λ k. list_run k f) z)
    ∙ list_more (n + m) f (row ++ made m g) (g m)
    (list_onto n m f g row e (λ r l. h r (omega (arith, l)))) (h m (omega arith))
    ∙ ap Ok (append_assoc row (made m g) (g m ∷ []))

-- ---- what is read of rows with twins

-- row i of rows with twins is row i with its twins
twinned_row : (c : ℕ) (turned : List Bool) (rows : List (List ℚ)) (i : ℕ) → i < length rows →
    get_or (twinned c turned rows) i [] ≡ with_twins c turned (get_or rows i [])
twinned_row c turned [] i h = absurd (omega (arith, h))
twinned_row c turned (row ∷ rows) zero h = refl
twinned_row c turned (row ∷ rows) (suc i) h = twinned_row c turned rows i (omega (arith, h))

-- rows with twins are as many as the rows
length-twinned : (c : ℕ) (turned : List Bool) (rows : List (List ℚ)) → length (twinned c turned rows) ≡ length rows
length-twinned c turned [] = refl
length-twinned c turned (row ∷ rows) = ap suc (length-twinned c turned rows)

-- replacing row i and then adding twins is adding twins and then replacing row i by the row with its twins
twinned_set : (c : ℕ) (turned : List Bool) (rows : List (List ℚ)) (i : ℕ) (row : List ℚ) →
    twinned c turned (set rows i row) ≡ set (twinned c turned rows) i (with_twins c turned row)
twinned_set c turned [] i row = refl
twinned_set c turned (x ∷ rows) zero row = refl
twinned_set c turned (x ∷ rows) (suc i) row = ap (λ zs. with_twins c turned x ∷ zs) (twinned_set c turned rows i row)

-- a row with twins is longer than the row by the number of its twins
length-with_twins : (c : ℕ) (turned : List Bool) (row : List ℚ) →
    length (with_twins c turned row) ≡ length row + length turned
length-with_twins c turned row =
    omega (
      arith,
      length-append row (made (length turned) (twin c turned row)),
      length-made (length turned) (twin c turned row),
    )

module _ (c m : ℕ) (turned : List Bool) (rows : List (List ℚ))
    (t : length turned ≡ m) (g : IsGrid m (c + m) rows) (i : ℕ) (h : i < m) where
  row_of : get_or (twinned c turned rows) i [] ≡ with_twins c turned (get_or rows i [])
  row_of = twinned_row c turned rows i (omega (arith, h, g.height))

  width_of : length (get_or rows i []) ≡ c + m
  width_of = grid_row m (c + m) rows i g h

  pub row_width : length (get_or (twinned c turned rows) i []) ≡ c + m + m
  row_width = ap length row_of ∙ omega (arith, length-with_twins c turned (get_or rows i []), width_of, t)

  pub at_low : (k : ℕ) → k < c + m → at_place (twinned c turned rows) i k ≡ at_place rows i k
  at_low k l =
      ap (λ row. get_or row k 0ℚ) row_of ∙ get_or-append (get_or rows i [])
      (made (length turned) (twin c turned (get_or rows i []))) 0ℚ k (omega (arith, l, width_of))

  pub at_high : (k r : ℕ) → k ≡ c + m + r → r < m →
      at_place (twinned c turned rows) i k ≡ signed (get_or turned r false) (at_place rows i (c + r))
  at_high k r e l =
      let row : List ℚ = get_or rows i [] in
      let z : k - (c + m) ≡ r = omega (arith, e) in
      ap (λ xs. get_or xs k 0ℚ) row_of
      ∙ get_or-append_right row (made (length turned) (twin c turned row)) (c + m) k 0ℚ width_of (omega (arith, e))
      ∙ ap (λ j. get_or (made (length turned) (twin c turned row)) j 0ℚ) z
      ∙ get_or-made (length turned) (twin c turned row) r 0ℚ (omega (arith, l, t))

-- ---- a row that is replaced
module _ (c m : ℕ) (turned : List Bool) (t : length turned ≡ m) (f f' : ℕ → Run ℚ)
    (low : (k : ℕ) → k < c + m → f' k ≡ f k)
    (high : (r : ℕ) (z : ℚ) → r < m → f (c + r) ≡ Ok z → f' (c + m + r) ≡ Ok (signed (get_or turned r false) z)) where
  twins_made : (row : List ℚ) → list_run (c + m) f ≡ Ok row → list_run (c + m + m) f' ≡ Ok (with_twins c turned row)
  twins_made row e =
      list_onto (c + m) m f' (twin c turned row) row (list_same (c + m) f f' low ∙ e)
      (λ r l. high r (get_or row (c + r) 0ℚ) l (list_item (c + m) f row e (c + r) (omega (arith, l))))
      ∙ ap (λ n. Ok (row ++ made n (twin c turned row))) (sym t)

  twins_refused : (e : Past ℚ) → list_run (c + m) f ≡ Err e → list_run (c + m + m) f' ≡ Err e
  twins_refused e h = list_err (c + m) m f' e (list_same (c + m) f f' low ∙ h)

  twins_given : (rows : List (List ℚ)) (p : ℕ) (new : List (List ℚ)) (r : Result ⊤ (Past ℚ)) →
      GivesRun (list_run (c + m) f >>= λ row. Ok (set rows p row)) new r →
      GivesRun (list_run (c + m + m) f' >>= λ row. Ok (set (twinned c turned rows) p row)) (twinned c turned new) r
  twins_given rows p new r g = by (list_run (c + m) f) refl r g
    where
      by : (o : Run (List ℚ)) → list_run (c + m) f ≡ o → (r : Result ⊤ (Past ℚ)) →
          GivesRun (o >>= λ row. Ok (set rows p row)) new r →
          GivesRun (list_run (c + m + m) f' >>= λ row. Ok (set (twinned c turned rows) p row)) (twinned c turned new) r
      by (Ok row) e (Ok u) g =
          let s : set rows p row ≡ new = cc in
          ap (λ o. o >>= λ row. Ok (set (twinned c turned rows) p row)) (twins_made row e)
          ∙ ap Ok (sym (twinned_set c turned rows p row) ∙ ap (twinned c turned) s)
      by (Ok row) e (Err x) g = cc
      by (Err y) e (Ok u) g = cc
      by (Err y) e (Err x) g =
          let s : y ≡ x = cc in
          ap (λ o. o >>= λ row. Ok (set (twinned c turned rows) p row)) (twins_refused y e)
          ∙ ap (λ (z : Past ℚ). Err z) s

module _ (limit : Option ℕ) (c m : ℕ) (turned : List Bool) (rows : List (List ℚ))
    (t : length turned ≡ m) (g : IsGrid m (c + m) rows) where
  pub scaled_twins : (p j : ℕ) (by : ℚ) (new : List (List ℚ)) (r : Result ⊤ (Past ℚ)) →
      p < m → by ≡ at_place (twinned c turned rows) p j →
      GivesRun (scaled_by limit (c + m) rows p by) new r →
      GivesRun (scaled_run limit (c + m + m) (twinned c turned rows) p j) (twinned c turned new) r
  unfolding scaled_by scaled_run
  scaled_twins p j by new r h e w =
      twins_given c m turned t (λ k. quotient_run limit (at_place rows p k) by)
      (λ k. quotient_run limit (at_place (twinned c turned rows) p k) (at_place (twinned c turned rows) p j))
      (λ k l. ap₂ (quotient_run limit) (at_low c m turned rows t g p h k l) (sym e))
      (λ s z l o. ap₂ (quotient_run limit) (at_high c m turned rows t g p h (c + m + s) s refl l) (sym e)
      ∙ quotient_signed limit (get_or turned s false) (at_place rows p (c + s)) by z o)
      rows p new r w

  pub cleared_twins : (p j i : ℕ) (times : ℚ) (new : List (List ℚ)) (r : Result ⊤ (Past ℚ)) →
      p < m → i < m → times ≡ at_place (twinned c turned rows) i j →
      GivesRun (cleared_by limit (c + m) p times i rows) new r →
      GivesRun (cleared_run limit (c + m + m) p j i (twinned c turned rows)) (twinned c turned new) r
  unfolding cleared_by cleared_run
  cleared_twins p j i times new r h l e w =
      twins_given c m turned t (λ k. less_product limit times (at_place rows p k) (at_place rows i k))
      (λ k. less_product limit (at_place (twinned c turned rows) i j)
      (at_place (twinned c turned rows) p k) (at_place (twinned c turned rows) i k))
      (λ k q.
      ap (λ (x : ℚ). less_product limit x (at_place (twinned c turned rows) p k) (at_place (twinned c turned rows) i k))
      (sym e)
      ∙ ap₂ (less_product limit times) (at_low c m turned rows t g p h k q) (at_low c m turned rows t g i l k q))
      (λ s z q o. ap (λ (x : ℚ). less_product limit x (at_place (twinned c turned rows) p (c + m + s))
      (at_place (twinned c turned rows) i (c + m + s))) (sym e)
      ∙ ap₂ (less_product limit times) (at_high c m turned rows t g p h (c + m + s) s refl q)
      (at_high c m turned rows t g i l (c + m + s) s refl q)
      ∙ less_signed limit (get_or turned s false) times (at_place rows p (c + s)) (at_place rows i (c + s)) z o)
      rows i new r w

-- ---- rows that are seen with their twins

-- where each row has c + m items, each row with its m twins has c + m + m
all_wide : (c m : ℕ) (turned : List Bool) (rows : List (List ℚ)) → length turned ≡ m →
    All (λ row. length row ≡ c + m) rows → All (λ row. length row ≡ c + m + m) (twinned c turned rows)
all_wide c m turned [] t h = All-nil (λ row. length row ≡ c + m + m)
all_wide c m turned (row ∷ rows) t h =
    All-cons (λ row. length row ≡ c + m + m) (with_twins c turned row) (twinned c turned rows)
    (let w : length row ≡ c + m = All-head (λ row. length row ≡ c + m) row rows h in
    omega (arith, length-with_twins c turned row, w, t))
    (all_wide c m turned rows t (All-tail (λ row. length row ≡ c + m) row rows h))

-- where m rows have c + m items each, the rows with twins are m rows of c + m + m items
grid_twinned : (c m : ℕ) (turned : List Bool) (rows : List (List ℚ)) → length turned ≡ m → IsGrid m (c + m) rows →
    IsGrid m (c + m + m) (twinned c turned rows)
grid_twinned c m turned rows t g =
    record { height = length-twinned c turned rows ∙ g.height; width = all_wide c m turned rows t g.width }

module _ (c m : ℕ) (turned : List Bool) (grid rows : List (List ℚ))
    (e : twinned c turned grid ≡ rows) (v : IsTwinned c m turned grid) where
  all_rows : length rows ≡ m
  all_rows = ap length (sym e) ∙ length-twinned c turned grid ∙ v.grid.height

  pub row_in : (i : ℕ) → i < length rows → i < m
  row_in i h = omega (arith, h, all_rows)

  row_wide : (i : ℕ) → i < m → length (get_or rows i []) ≡ c + m + m
  row_wide i h = ap (λ xs. length (get_or xs i [])) (sym e) ∙ row_width c m turned grid v.twins v.grid i h

  pub column_in : (i : ℕ) → i < length rows → (k : ℕ) → k < length (get_or rows i []) → k < c + m + m
  column_in i h k l = omega (arith, l, row_wide i (row_in i h))

  module _ (height width : ℕ) (g : IsGrid height width rows) where
    pub height_is : height ≡ m
    height_is = sym g.height ∙ all_rows

    pub width_is : (p : ℕ) → p < height → width ≡ c + m + m
    width_is p h = sym (grid_row height width rows p g h) ∙ row_wide p (omega (arith, h, height_is))

    pub turned_same : (limit : Option ℕ) (p j : ℕ) (new : List (List ℚ)) (r : Result ⊤ (Past ℚ)) → p < height →
        GivesRun (turned_run limit m (c + m + m) (twinned c turned grid) p j) new r →
        GivesRun (turned_run limit height width rows p j) new r
    turned_same limit p j new r h w =
        subst (λ run. GivesRun run new r)
        (ap₂ (λ a b. turned_run limit a b (twinned c turned grid) p j) (sym height_is) (sym (width_is p h))
        ∙ ap (λ xs. turned_run limit height width xs p j) e) w

    pub grid_after : (new : List (List ℚ)) (p : ℕ) → p < height → IsGrid m (c + m) new →
        IsGrid height width (twinned c turned new)
    grid_after new p h k =
        subst₂ (λ a b. IsGrid a b (twinned c turned new)) (sym height_is)
        (sym (width_is p h)) (grid_twinned c m turned new v.twins k)
