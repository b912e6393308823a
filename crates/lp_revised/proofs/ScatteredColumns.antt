-- A column of the form's equations, put into zeros entry by entry.
use Rattle.std.proofs.Common.{◌≡◌, ◌≢◌, ℕ, zero, suc, ◌+◌, ◌-◌, ◌<◌, ◌≤◌, List, [], ◌∷◌, ◌++◌, length, get_or, set}
use Rattle.std.proofs.Common.{replicate, Ok, refl, sym, ap, ◌∙◌, subst, arith, eq-eqb, ne_eqb, lt-ltb, le-ltb}
use Rattle.std.proofs.lemmas.List.{length-replicate, get_or-replicate, get_or_default}
use Rattle.spec_exact.specs.Fraction.{ℚ, 0ℚ, 1ℚ, neg_ℚ}
use Rattle.spec_exact.proofs.Ruleset.{neg-zero}
use Rattle.spec_model.specs.Model.{entry_of}
use Rattle.spec_model.specs.Kept.{AreEntries}
use Rattle.spec_simplex.specs.Form.{Form}
use Rattle.spec_exact.specs.Run.{Run, ◌>>=◌, list_run, made}
use Rattle.spec_factor.specs.Factors.{column_entry, column_of}
use Rattle.lp_revised.proofs.Gaps.{Entries, row_at, value_at, bound, entry_there, row_inside, bound_at, bound_end}
use Rattle.lp_revised.proofs.Gaps.{bound_least, next_bound, none_first, none_between}
use Rattle.lp_revised.proofs.Gaps.{DoneTo, none_done, one_done, still_to, whole_done}

-- a list whose items are all given is made of them
all_made : (n : ℕ) (f : ℕ → ℚ) (xs : List ℚ) → list_run n (λ i. Ok (f i)) ≡ Ok xs → xs ≡ made n f
all_made n f xs h = let z : xs ≡ made n f = let both = sym h ∙ given n in cc in z
  where
    given : (n : ℕ) → list_run n (λ i. Ok (f i)) ≡ Ok (made n f)
    given zero = refl
    given (suc n) = ap (λ (r : Run (List ℚ)). r >>= λ xs. Ok (xs ++ f n ∷ [])) (given n)

module _ (f : Form) (k : ℕ) where
  abbrev item : ℕ → Run ℚ
  item i = Ok (column_entry f i k)

  abbrev zeros : List ℚ
  zeros = replicate f.rows 0ℚ

  long : length zeros ≡ f.rows
  long = length-replicate f.rows 0ℚ

  nothing : (i : ℕ) → i < f.rows → column_entry f i k ≡ 0ℚ → item i ≡ Ok (get_or zeros i 0ℚ)
  nothing i l e = ap Ok (e ∙ sym (get_or-replicate f.rows i 0ℚ 0ℚ l))

  -- the items of the rows so far are put in
  abbrev PutTo : ℕ → List ℚ → Type 0
  PutTo b w = DoneTo item b zeros w

  in_zeros : (b : ℕ) → b ≤ f.rows → b ≤ length zeros
  in_zeros b l = subst (λ n. b ≤ n) (sym long) l

  whole : (w : List ℚ) → PutTo f.rows w → w ≡ column_of f k
  whole w d = all_made f.rows (λ i. column_entry f i k) w (whole_done item f.rows zeros w d long)

  -- the list has the items of column k that the entries before entry c make, and 0 elsewhere
  abbrev pub NegatedTo : Entries → ℕ → List ℚ → Type 0
  NegatedTo es c w = PutTo (bound f.rows es c) w

  -- ---- a structural column
  module _ (es : Entries) (es_is : es ≡ get_or f.entries k []) (h : AreEntries f.rows es) (inside : k < f.cols) where
    structural : (i : ℕ) → column_entry f i k ≡ neg_ℚ (entry_of es i)
    structural i = rw (lt-ltb k f.cols inside) (ap (λ xs. neg_ℚ (entry_of xs i)) (sym es_is))

    gap : (i : ℕ) → i < f.rows → entry_of es i ≡ 0ℚ → item i ≡ Ok (get_or zeros i 0ℚ)
    gap i l e = nothing i l (structural i ∙ ap neg_ℚ e ∙ neg-zero)

    -- zeros are the column with none of its entries put in yet
    pub negated_first : (w : List ℚ) → w ≡ zeros → NegatedTo es 0 w
    negated_first w e =
        subst (NegatedTo es 0) (sym e)
        (still_to item 0 (bound f.rows es 0) zeros zeros (none_done item zeros) (omega arith)
        (in_zeros (bound f.rows es 0) (bound_least f.rows es h 0))
        (λ i _ l. let b = bound_least f.rows es h 0 in gap i (omega (arith, l, b)) (none_first f.rows es h i l)))

    module _ (c : ℕ) (e : ℕ × ℚ) (is : e ≡ get_or es c e) (here : c < length es) where
      e_is : e ≡ get_or es c (0, 0ℚ)
      e_is = is ∙ get_or_default es c e (0, 0ℚ) here

      row_is : row_at es c ≡ e.0
      row_is = sym (ap (λ (e : ℕ × ℚ). e.0) e_is)

      value_is : value_at es c ≡ e.1
      value_is = sym (ap (λ (e : ℕ × ℚ). e.1) e_is)

      row_in : row_at es c < f.rows
      row_in = row_inside f.rows es h c here

      -- the row of entry c is a place of the list
      pub in_column : (w : List ℚ) → NegatedTo es c w → e.0 < length w
      in_column w d = subst (λ n. e.0 < n) (sym (d.all ∙ long)) (subst (λ r. r < f.rows) row_is row_in)

      -- where the entries before c are put in, setting the negative of entry c in its row puts in those before c + 1
      pub negated_next : (w u : List ℚ) (x : ℚ) → NegatedTo es c w → x ≡ neg_ℚ e.1 → u ≡ set w e.0 x →
          NegatedTo es (c + 1) u
      negated_next w u x d x_is u_is =
          let there : PutTo (row_at es c) w = subst (λ b. PutTo b w) (bound_at f.rows es h c here) d in
          let put : item (row_at es c) ≡ Ok x =
          ap Ok (structural (row_at es c) ∙ ap neg_ℚ (entry_there es h.ascending c here ∙ value_is) ∙ sym x_is) in
          let inside_w : row_at es c < length w = subst (λ n. row_at es c < n) (sym (d.all ∙ long)) row_in in
          let after : PutTo (row_at es c + 1) (set w (row_at es c) x) =
          one_done item (row_at es c) zeros w x there inside_w put in
          let l : row_at es c < bound f.rows es (c + 1) = next_bound f.rows es h c here in
          let b = bound_least f.rows es h (c + 1) in
          subst (NegatedTo es (c + 1)) (ap (λ r. set w r x) row_is ∙ sym u_is)
          (still_to item (row_at es c + 1) (bound f.rows es (c + 1)) zeros (set w (row_at es c) x) after
          (omega (arith, l))
          (subst (λ n. bound f.rows es (c + 1) ≤ n) (sym (after.all ∙ long)) b)
          (λ i p q. gap i (omega (arith, q, b)) (none_between f.rows es h c i here (omega (arith, p)) q)))

    -- where all entries are put in, the list is the form's column k
    pub negated_whole : (c : ℕ) (w : List ℚ) → length es ≤ c → NegatedTo es c w → w ≡ column_of f k
    negated_whole c w l d = whole w (subst (λ b. PutTo b w) (bound_end f.rows es h c l) d)

  -- ---- a column that is not structural
  module _ (out : f.cols ≤ k) (r : ℕ) (r_is : r ≡ k - f.cols) where
    own : column_entry f r k ≡ 1ℚ
    own = rw (le-ltb k f.cols out, eq-eqb r (k - f.cols) r_is) refl

    other : (i : ℕ) → i ≢ r → column_entry f i k ≡ 0ℚ
    other i e = rw (le-ltb k f.cols out, ne_eqb i (k - f.cols) (λ z. e (z ∙ sym r_is))) refl

    -- zeros are the column of a k past the last logical column
    pub no_row : (w : List ℚ) → f.rows ≤ r → w ≡ zeros → w ≡ column_of f k
    no_row w l e =
        whole w (subst (PutTo f.rows) (sym e)
        (still_to item 0 f.rows zeros zeros (none_done item zeros) (omega arith) (in_zeros f.rows (omega arith))
        (λ i _ q. nothing i q (other i (λ z. let y : ⊥ = omega (arith, q, l, z) in y)))))

    -- zeros with 1 set in row r are the form's logical column of row r
    pub one_row : (v w : List ℚ) (x : ℚ) → r < f.rows → v ≡ zeros → x ≡ 1ℚ → w ≡ set v r x → w ≡ column_of f k
    one_row v w x here e x_is w_is =
        let before : PutTo r zeros =
        still_to item 0 r zeros zeros (none_done item zeros) (omega arith) (in_zeros r (omega (arith, here)))
        (λ i _ q. nothing i (omega (arith, q, here)) (other i (λ z. let y : ⊥ = omega (arith, q, z) in y))) in
        let after : PutTo (r + 1) (set zeros r x) =
        one_done item r zeros zeros x before (subst (λ n. r < n) (sym long) here) (ap Ok (own ∙ sym x_is)) in
        whole w (subst (PutTo f.rows) (ap (λ u. set u r x) (sym e) ∙ sym w_is)
        (still_to item (r + 1) f.rows zeros (set zeros r x) after (omega (arith, here))
        (subst (λ n. f.rows ≤ n) (sym (after.all ∙ long)) (omega arith))
        (λ i p q. nothing i q (other i (λ z. let y : ⊥ = omega (arith, p, z) in y)))))
