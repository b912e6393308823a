-- What the check of a certificate has read of rows and columns.
use Rattle.std.proofs.Common.{◌≡◌, ℕ, ◌<◌, Bool, true, false, cond, List, [], ◌∷◌, All, Option, Ok, refl, sym, ap, ◌∙◌}
use Rattle.std.proofs.lemmas.List.Elements.{All-nil, All-cons, All-append}
use Rattle.spec_exact.specs.Fraction.{ℚ, 0ℚ, lt_ℚ}
use Rattle.spec_exact.specs.Run.{◌>>=◌}
use Rattle.spec_exact.proofs.Order.{<ℚ-le, lt_if, not_lt_test}
use Rattle.spec_model.specs.Model.{Model, width, height, row, limits, part}
use Rattle.spec_check.specs.declared.certificate.Certificate.{Certificate}
use Rattle.spec_check.specs.declared.certificate.Certificate.TheVariants.{Optimal, Infeasible, Clash, Unbounded}
use Rattle.spec_check.specs.declared.certificate.Known.TheVariants as known
use Rattle.spec_check.specs.Checks.{priced}
use Rattle.spec_check.specs.Run.{Run, lower_run, upper_run, weighed_at, weighed, row_asks_run, priced_run, column_gives_run}
use Rattle.spec_check.specs.Run.{rows_ask_run, columns_give_run, infeasible_run, check_run}
use Rattle.spec_check.specs.Checks.{turned_limits}
use Rattle.spec_model.specs.Model.{bounds, coefficient}
use Rattle.spec_check.proofs.StepsSound.{after_ok, some_ok_at, products_ok, lower_ok, upper_ok}
use Rattle.spec_iis.specs.Rule.{row_sides, column_sides, used, IsRead}
use Rattle.spec_iis.proofs.Used.{All-gathered, All-side_if}
use Rattle.spec_iis.proofs.Points.{side}

module _ (limit : Option ℕ) (m : Model) (y : List ℚ) where
  -- where the check has taken what row i asks, it has read the exact limit that the sign of the row's multiplier needs
  read_row : (i : ℕ) (s u : ℚ) → row_asks_run limit m y i s ≡ Ok u →
      ((lt_ℚ 0ℚ (part y i) ≡ true → lower_run limit (row m i) ≡ Ok (limits m i).lower)
      × (lt_ℚ (part y i) 0ℚ ≡ true → upper_run limit (row m i) ≡ Ok (limits m i).upper))
  read_row i s u e = by (lt_ℚ 0ℚ d) (lt_ℚ d 0ℚ) refl refl e
    where
      d : ℚ
      d = part y i

      low : Run ℚ
      low = lower_run limit (row m i) >>= λ l. weighed_at 1 limit (part y i) l s

      high : Run ℚ
      high = upper_run limit (row m i) >>= λ h. weighed_at 1 limit (part y i) h s

      not_both : lt_ℚ 0ℚ d ≡ true → lt_ℚ d 0ℚ ≡ false
      not_both p = not_lt_test d 0ℚ (<ℚ-le 0ℚ d (lt_if 0ℚ d p))

      by : (a b : Bool) → lt_ℚ 0ℚ d ≡ a → lt_ℚ d 0ℚ ≡ b → cond a low (cond b high (Ok s)) ≡ Ok u →
          ((a ≡ true → lower_run limit (row m i) ≡ Ok (limits m i).lower)
          × (b ≡ true → upper_run limit (row m i) ≡ Ok (limits m i).upper))
      by true b p q h =
          let a = after_ok (lower_run limit (row m i)) (λ l. weighed_at 1 limit (part y i) l s) u h in (
            λ _. a.1 ∙ ap Ok (lower_ok limit (row m i) a.0 a.1),
            λ e. absurd (let f : lt_ℚ d 0ℚ ≡ false = not_both p in let g : true ≡ false = sym e ∙ sym q ∙ f in cc),
          )
      by false true p q h =
          let a = after_ok (upper_run limit (row m i)) (λ l. weighed_at 1 limit (part y i) l s) u h in
          (λ e. absurd (let g : false ≡ true = e in cc), λ _. a.1 ∙ ap Ok (upper_ok limit (row m i) a.0 a.1))
      by false false p q h =
          (λ e. absurd (let g : false ≡ true = e in cc), λ e. absurd (let g : false ≡ true = e in cc))

  module _ (e : check_run limit m (Infeasible y) ≡ Ok known.Infeasible) where
    -- the check of infeasible multipliers accepts them
    run_is : infeasible_run limit m y ≡ Ok known.Infeasible
    unfolding check_run
    run_is = e

    -- where the check accepts multipliers, it has read for each row the exact limit that the multiplier's sign needs
    rows_read : (i : ℕ) → i < height m →
        ((lt_ℚ 0ℚ (part y i) ≡ true → lower_run limit (row m i) ≡ Ok (limits m i).lower)
        × (lt_ℚ (part y i) 0ℚ ≡ true → upper_run limit (row m i) ≡ Ok (limits m i).upper))
    rows_read i l =
        let a = after_ok (rows_ask_run limit m y) _ known.Infeasible run_is in
        let b = some_ok_at 0ℚ (height m) (row_asks_run limit m y) a.0 a.1 i l in
        read_row i b.0 b.1 b.2

    -- where the check accepts multipliers, it has worked out their exact part in each column
    pub priced_read : (j : ℕ) → j < width m → priced_run limit m y j ≡ Ok (priced m y j)
    priced_read j l =
        let a = after_ok (rows_ask_run limit m y) _ known.Infeasible run_is in
        let c = after_ok (columns_give_run limit m y) _ known.Infeasible a.2 in
        let b = some_ok_at 0ℚ (width m) (column_gives_run limit m y) c.0 c.1 j l in
        let g = after_ok (priced_run limit m y j) (λ g. weighed 2 limit (turned_limits (bounds m j)) g b.0) b.1 b.2 in
        g.1 ∙ ap Ok (products_ok limit (height m) (λ i. part y i) (λ i. coefficient m i j) g.0 g.1)

-- where the check at a limit accepts a certificate, the limit refuses none of the row limits that it uses
pub used_read : (limit : Option ℕ) (m : Model) (cert : Certificate (List ℚ)) →
    check_run limit m cert ≡ Ok known.Infeasible → All (IsRead limit m) (used m cert)
unfolding used row_sides column_sides
used_read limit m (Optimal x y) e = All-nil (IsRead limit m)
used_read limit m (Infeasible y) e =
    All-append (IsRead limit m) _ _
    (All-gathered (IsRead limit m) (λ i. row_sides i (part y i)) (height m)
    (λ i l. All-append (IsRead limit m) _ _
    (All-side_if (IsRead limit m) (lt_ℚ 0ℚ (part y i)) (side true i false) (λ h _. (rows_read limit m y e i l).0 h))
    (All-side_if (IsRead limit m) (lt_ℚ (part y i) 0ℚ) (side true i true) (λ h _. (rows_read limit m y e i l).1 h))))
    (All-gathered (IsRead limit m) (λ j. column_sides j (priced m y j)) (width m)
    (λ j l. All-append (IsRead limit m) _ _
    (All-side_if (IsRead limit m) (lt_ℚ (priced m y j) 0ℚ) (side false j false)
    (λ h k. absurd (let g : false ≡ true = k in cc)))
    (All-side_if (IsRead limit m) (lt_ℚ 0ℚ (priced m y j)) (side false j true)
    (λ h k. absurd (let g : false ≡ true = k in cc)))))
used_read limit m (Clash j) e =
    All-cons (IsRead limit m) (side false j false) (side false j true ∷ []) (λ k. absurd (let g : false ≡ true = k in cc))
    (All-cons (IsRead limit m) (side false j true) [] (λ k. absurd (let g : false ≡ true = k in cc))
    (All-nil (IsRead limit m)))
used_read limit m (Unbounded x r) e = All-nil (IsRead limit m)
