-- The values after a move of the entering column, with all basic columns but that of one position.
use Rattle.std.proofs.Common.{◌≡◌, ◌≢◌, ◌⊎◌, inl, inr, ⊎_elim, ℕ, suc, ◌<◌, List, length, get_or, set}
use Rattle.std.proofs.Common.{Option, Ok, Bool, true, false, cond, refl, sym, ap, ◌∙◌, subst, arith}
use Rattle.std.proofs.lemmas.List.{length-set, get_or-set_same, get_or-set_other}
use Rattle.spec_exact.specs.Fraction.{ℚ, 0ℚ, ◌+ℚ◌, ◌-ℚ◌, ◌*ℚ◌, neg_ℚ}
use Rattle.spec_exact.proofs.Ruleset.{ring}
use Rattle.spec_pivot.specs.declared.status.Way.{Way}
use Rattle.spec_pivot.specs.Tableau.{Matrix}
use Rattle.spec_pivot.specs.Simplex.{Bounds, Table, IsTableau, sign, moved}
use Rattle.spec_pivot.proofs.Pivot.{by_eq}
use Rattle.spec_pivot.proofs.Unique.{apart}
use Rattle.spec_pivot.proofs.SameEquations.{outside}
use Rattle.spec_pivot.proofs.Ray.{ray_basic, ray_still}
use Rattle.spec_pivot.proofs.Values.{by_basic}
use Rattle.spec_exact.specs.Run.{less_product}
use Rattle.spec_simplex.specs.Tableau.{Tableau, all_columns, basic_at, entry_at, value_at}
use Rattle.spec_simplex.specs.Step.{is_place, moved_at, moved_run}
use Rattle.spec_simplex.specs.Tables.{table_of, IsWhole}
use Rattle.spec_simplex.proofs.RunParts.{then_ok, less_ok, steps_ok}
use Rattle.spec_simplex.proofs.ListIndices.{by_lt}

-- a column of a tableau is basic at one of its positions, or at none
pub at_position : (m n : ℕ) (f : Matrix) (cost : ℕ → ℚ) (b : Bounds) (t : Table) → IsTableau m n f cost b t → (k : ℕ) →
    ((r : ℕ) × (r < m) × (t.basic r ≡ k)) ⊎ ((r : ℕ) → r < m → t.basic r ≢ k)
at_position m n f cost b t g k =
    by_lt k n
    (λ h. by_basic (t.status k) (λ s. inl (g.placed k h s)) (λ s. inr (outside m n f cost b t g k s)))
    (λ h. inr (λ r q e. let l : t.basic r < n = g.in_range r q in let z : ⊥ = omega (arith, h, l, e) in z))

module _ (limit : Option ℕ) (t : Tableau) (w : IsWhole t) (f : Matrix) (cost : ℕ → ℚ)
    (b : Bounds) (g : IsTableau t.rows (all_columns t) f cost b (table_of t)) where
  -- no column is basic at two positions
  unique : (r s : ℕ) → r < t.rows → s < t.rows → basic_at t r ≡ basic_at t s → r ≡ s
  unique r s = apart t.rows (entry_at t) (basic_at t) g.units r s

  module _ (j : ℕ) (theta : ℚ) (but : Option ℕ) where
    -- the values after the move of the positions below i: their basic columns have lost their entry in column j times
    -- theta, but for the position that is left out, and all other columns have their old values
    record Moved (i : ℕ) (values : List ℚ) : Type 0 where
      all : length values ≡ all_columns t
      placed : (r : ℕ) → r < i → r < t.rows → is_place but r ≡ false →
          get_or values (basic_at t r) 0ℚ ≡ value_at t (basic_at t r) -ℚ entry_at t r j *ℚ theta
      others : (k : ℕ) → ((r : ℕ) → r < i → r < t.rows → is_place but r ≡ false → basic_at t r ≢ k) →
          get_or values k 0ℚ ≡ value_at t k

    -- where the columns of the first i positions are moved, and the run moves that of position i, those of the first i
    -- + 1 are
    moved_step : (i : ℕ) (x y : List ℚ) → i < t.rows → Moved i x →
        cond (is_place but i) (Ok x) (moved_at limit t j theta i x) ≡ Ok y → Moved (suc i) y
    moved_step i x y i_in v h = go (is_place but i) refl h
      where
        no_more : {P : Type 0} (r : ℕ) → r < suc i → (r < i → P) → (r ≡ i → P) → P
        no_more r h f k = by_eq r i k (λ d. f (omega (arith, h, d)))

        go : (c : Bool) → is_place but i ≡ c → cond c (Ok x) (moved_at limit t j theta i x) ≡ Ok y → Moved (suc i) y
        go true c h =
            let e : x ≡ y = cc in
            subst (Moved (suc i)) e (record {
              all = v.all;
              placed =
                  λ r q l s. no_more r q (λ q. v.placed r q l s)
                  (λ z. let c' : is_place but r ≡ true = ap (is_place but) z ∙ c in
                  let y : true ≡ false = sym c' ∙ s in cc);
              others = λ k o. v.others k (λ r q l s. o r (omega (arith, q)) l s);
            })
        go false c h =
            let o =
            then_ok (less_product limit (entry_at t i j) theta (get_or x (basic_at t i) 0ℚ))
            (λ a. Ok (set x (basic_at t i) a)) y h in
            let e : set x (basic_at t i) o.0 ≡ y = cc in
            let inside : basic_at t i < all_columns t = g.in_range i i_in in
            let old : get_or x (basic_at t i) 0ℚ ≡ value_at t (basic_at t i) =
            v.others (basic_at t i)
            (λ r q l s z. let u : r ≡ i = unique r i l i_in z in let y : ⊥ = omega (arith, q, u) in y) in
            subst (Moved (suc i)) e (record {
              all = length-set x (basic_at t i) o.0 ∙ v.all;
              placed = λ r q l s. no_more r q
                  (λ q. get_or-set_other x (basic_at t i) (basic_at t r) o.0 0ℚ
                  (λ z. let u : r ≡ i = unique r i l i_in z in let y : ⊥ = omega (arith, q, u) in y) ∙ v.placed r q l s)
                  (λ z. subst (λ r. get_or (set x (basic_at t i) o.0) (basic_at t r) 0ℚ
                  ≡ value_at t (basic_at t r) -ℚ entry_at t r j *ℚ theta) (sym z)
                  (get_or-set_same x (basic_at t i) o.0 0ℚ (omega (arith, inside, v.all))
                  ∙ less_ok limit (entry_at t i j) theta (get_or x (basic_at t i) 0ℚ) o.0 o.1
                  ∙ ap (λ a. a -ℚ entry_at t i j *ℚ theta) old));
              others = λ k q.
                  get_or-set_other x (basic_at t i) k o.0 0ℚ (λ z. q i (omega arith) i_in c (sym z))
                  ∙ v.others k (λ r p l s. q r (omega (arith, p)) l s);
            })

    module _ (values : List ℚ) (ok : moved_run limit t j theta but ≡ Ok values) where
      -- the run's move moves the columns of all positions
      moved_all : Moved t.rows values
      unfolding moved_run
      moved_all =
          steps_ok Moved t.rows
          (λ i values. cond (is_place but i) (Ok values) (moved_at limit t j theta i values)) t.value values ok
          (record {
            all = w.all_values;
            placed = λ r q. absurd (let z : ⊥ = omega (arith, q) in z);
            others = λ k o. refl;
          })
          moved_step

      -- the moved values are as many as t has columns
      pub moved_length : length values ≡ all_columns t
      moved_length = moved_all.all

      -- after a move, a column that is basic at no position that moved has its old value
      pub moved_others : (k : ℕ) → ((r : ℕ) → r < t.rows → is_place but r ≡ false → basic_at t r ≢ k) →
          get_or values k 0ℚ ≡ value_at t k
      moved_others k o = moved_all.others k (λ r q l s. o r l s)

      -- where the column is not basic, these are the values along the ray
      module _ (way : Way) (j_off : (r : ℕ) → r < t.rows → ¬ (basic_at t r ≡ j))
          (ratio : ℚ) (same : theta ≡ sign way *ℚ ratio) where
        -- the move of the basic columns leaves the value of the nonbasic column j
        pub moved_own : get_or values j 0ℚ ≡ value_at t j
        moved_own = moved_others j (λ r q s. j_off r q)

        -- after a move of the nonbasic column j by a ratio, each other column has the value along the ray, but for the
        -- position that is left out
        pub moved_ray : (k : ℕ) → k ≢ j → ((r : ℕ) → r < t.rows → is_place but r ≡ true → basic_at t r ≢ k) →
            get_or values k 0ℚ ≡ moved t.rows (table_of t) way j ratio k
        moved_ray k k_other but_not =
            ⊎_elim
            (λ p. go (is_place but p.0) p.0 refl p.1 p.2)
            (λ none. moved_others k (λ r q s. none r q)
            ∙ sym (ap (λ a. value_at t k +ℚ ratio *ℚ a) (ray_still t.rows
            (table_of t) g.units way j j_off k (λ z. k_other (sym z)) none) ∙ still (value_at t k) ratio))
            (at_position t.rows (all_columns t) f cost b (table_of t) g k)
          where
            still : (v s : ℚ) → v +ℚ s *ℚ 0ℚ ≡ v
            still v s = simp ring

            along : (v a s r : ℚ) → v -ℚ a *ℚ (s *ℚ r) ≡ v +ℚ r *ℚ neg_ℚ (s *ℚ a)
            along v a s r = simp ring

            go : (c : Bool) (r : ℕ) → is_place but r ≡ c → r < t.rows → basic_at t r ≡ k →
                get_or values k 0ℚ ≡ moved t.rows (table_of t) way j ratio k
            go true r c q z = absurd (but_not r q c z)
            go false r c q z = subst (λ k. get_or values k 0ℚ ≡ moved t.rows (table_of t) way j ratio k) z
                (moved_all.placed r q q c ∙ ap (λ a. value_at t (basic_at t r) -ℚ entry_at t r j *ℚ a) same
                ∙ along (value_at t (basic_at t r)) (entry_at t r j) (sign way) ratio
                ∙ sym (ap (λ a. value_at t (basic_at t r) +ℚ ratio *ℚ a)
                (ray_basic t.rows (table_of t) g.units way j j_off r q)))
