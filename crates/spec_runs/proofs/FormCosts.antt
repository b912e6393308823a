-- The costs of a form are those of the model, with the sign of its sense; and a clash of the form is one of the model.
--
-- `cost_structural`: the cost of a structural column in the form is the model's cost with the sign of the sense.
-- `clash_is`: where the form has a clash at a column, the model's bounds of that column clash.
use Rattle.std.proofs.Common.{◌≡◌, ◌≢◌, ℕ, zero, suc, ◌<◌, List}
use Rattle.std.proofs.Common.{Option, Some, None, Result, Ok, Err, refl, sym, ap, ◌∙◌, subst, arith}
use Rattle.std.specs.declared.cmp.Ordering.{Ordering}
use Rattle.std.specs.declared.cmp.Ordering.TheVariants.{Less, Equal, Greater}
use Rattle.spec_exact.specs.Fraction.{ℚ}
use Rattle.spec_exact.specs.Limit.{order}
use Rattle.spec_exact.proofs.Compare.{order_greater}
use Rattle.spec_model.specs.declared.parts.Sense.{Sense}
use Rattle.spec_model.specs.declared.parts.Sense.TheVariants.{Min, Max}
use Rattle.spec_model.specs.Model.{Model, width}
use Rattle.spec_model.specs.Model.{height, row, column, bounds, cost}
use Rattle.spec_check.specs.Checks.{signed, ChecksClash}
use Rattle.spec_simplex.specs.declared.ends.FormFault.{FormFault}
use Rattle.spec_simplex.specs.declared.ends.FormFault.TheVariants as fault
use Rattle.spec_exact.specs.Run.{Run, ◌>>=◌, refused_as, order_run, steps, list_run}
use Rattle.spec_simplex.specs.Form.{Form, form_cost, limits_run}
use Rattle.spec_simplex.specs.Form.{clash_by, bounds_clash, column_clash, least_cost, formed, form_of}
use Rattle.spec_simplex.proofs.RunParts.{refused_ok, order_ok}
use Rattle.spec_simplex.proofs.FormOfModel.{Limited, least_structural}

abbrev Pair : Type 0
Pair = Option ℚ × Option ℚ

-- `least_cost` of a cost is the cost with the sign of the sense: its negative where the most is best
least_is : (s : Sense) (c : ℚ) → least_cost s c ≡ signed s c
least_is Min c = refl
least_is Max c = refl

pub cost_structural : (m : Model) (ls : List (Option ℚ × Option ℚ)) → Limited m ls → (j : ℕ) → j < width m →
    form_cost (formed m ls) j ≡ signed m.sense (cost m j)
cost_structural m ls h j l = least_structural m ls h j l ∙ least_is m.sense (cost m j)

-- ---- a clash

-- where two steps in turn end in an error that is not the first one's, the second ends in it
then_err : {A B E : Type 0} (o : Result A E) (f : A → Result B E) (e : E) → (o >>= f) ≡ Err e → (o ≢ Err e) →
    (a : A) × (o ≡ Ok a) × (f a ≡ Err e)
then_err (Ok a) f e h n = (a, refl, h)
then_err (Err d) f e h n = absurd (n (let z : d ≡ e = cc in ap Err z))

-- an operation that is refused is no clash of a column
never_clash : {A : Type 0} (j : ℕ) (o : Run A) → refused_as fault.Past o ≢ Err (fault.Clash j)
never_clash {A} j (Ok a) h = let z : ◌≡◌ {A = Result A (FormFault ℚ)} (Ok a) (Err (fault.Clash j)) = h in cc
never_clash {A} j (Err p) h =
    let z : ◌≡◌ {A = Result A (FormFault ℚ)} (Err (fault.Past p)) (Err (fault.Clash j)) = h in
    let y : ◌≡◌ {A = FormFault ℚ} (fault.Past p) (fault.Clash j) = cc in cc

-- where n steps end in an error, one of them ends in it
steps_err : {A E : Type 0} (n : ℕ) (f : ℕ → A → Result A E) (a : A) (e : E) → steps n f a ≡ Err e →
    (i : ℕ) × (i < n) × (x : A) × (f i x ≡ Err e)
steps_err {A} {E} zero f a e h = let z : ◌≡◌ {A = Result A E} (Ok a) (Err e) = h in cc
steps_err {A} {E} (suc n) f a e h = by (steps n f a) refl h (λ h. steps_err n f a e h)
  where
    by : (o : Result A E) → steps n f a ≡ o → (o >>= λ b. f n b) ≡ Err e →
        (steps n f a ≡ Err e → (i : ℕ) × (i < n) × (x : A) × (f i x ≡ Err e)) →
        (i : ℕ) × (i < suc n) × (x : A) × (f i x ≡ Err e)
    by (Ok x) p h more = (n, omega arith, x, h)
    by (Err d) p h more = let o = more (p ∙ h) in (o.0, omega (arith, o.1), o.2, o.3)

-- where the test of a column finds that column j clashes, the bounds of column j clash
clash_at : (limit : Option ℕ) (m : Model) (i j : ℕ) → i < width m → column_clash limit m i ≡ Err (fault.Clash j) →
    ChecksClash m j
clash_at limit m i j i_in h = by (column m i).lower (column m i).upper refl refl h
  where
    by : (l u : Option ℚ) → (bounds m i).lower ≡ l → (bounds m i).upper ≡ u →
        bounds_clash limit i l u ≡ Err (fault.Clash j) → ChecksClash m j
    by None u p q h = let z : ◌≡◌ {A = Result (Unit {0}) (FormFault ℚ)} (Ok tt) (Err (fault.Clash j)) = h in cc
    by (Some l) None p q h = let z : ◌≡◌ {A = Result (Unit {0}) (FormFault ℚ)} (Ok tt) (Err (fault.Clash j)) = h in cc
    by (Some l) (Some u) p q h =
        let o =
        then_err (refused_as fault.Past (order_run limit l u)) (λ o. clash_by i o)
        (fault.Clash j) h (never_clash j (order_run limit l u)) in
        go o.0 (order_ok limit l u o.0 (refused_ok fault.Past (order_run limit l u) o.0 o.1)) o.2
      where
        go : (o : Ordering) → o ≡ order l u → clash_by i o ≡ Err (fault.Clash j) → ChecksClash m j
        go Less e h = let z : ◌≡◌ {A = Result (Unit {0}) (FormFault ℚ)} (Ok tt) (Err (fault.Clash j)) = h in cc
        go Equal e h = let z : ◌≡◌ {A = Result (Unit {0}) (FormFault ℚ)} (Ok tt) (Err (fault.Clash j)) = h in cc
        go Greater e h =
            let y : ◌≡◌ {A = FormFault ℚ} (fault.Clash i) (fault.Clash j) = cc in
            let z : i ≡ j = cc in
            subst (ChecksClash m) z
            (record { inside = i_in; low = l; high = u; lower = p; upper = q; crossed = (order_greater l u).0 (sym e) })

pub clash_is : (limit : Option ℕ) (m : Model) (j : ℕ) → form_of limit m ≡ Err (fault.Clash j) → ChecksClash m j
unfolding form_of
clash_is limit m j h =
    let o =
    then_err (refused_as fault.Past (list_run (height m) (λ i. limits_run limit (row m i))))
    (λ ls. steps (width m) (λ j _. column_clash limit m j) tt >>= λ _. Ok (formed m ls)) (fault.Clash j) h
    (never_clash j (list_run (height m) (λ i. limits_run limit (row m i)))) in
    by o.0 (steps (width m) (λ j _. column_clash limit m j) tt) refl o.2
  where
    by : (ls : List Pair) (s : Result (Unit {0}) (FormFault ℚ)) →
        steps (width m) (λ j _. column_clash limit m j) tt ≡ s → (s >>= λ _. Ok (formed m ls)) ≡ Err (fault.Clash j) →
        ChecksClash m j
    by ls (Ok x) p h = let z : ◌≡◌ {A = Result Form (FormFault ℚ)} (Ok (formed m ls)) (Err (fault.Clash j)) = h in cc
    by ls (Err d) p h =
        let y : d ≡ fault.Clash j = cc in
        let o = steps_err (width m) (λ j _. column_clash limit m j) tt (fault.Clash j) (p ∙ ap Err y) in
        clash_at limit m o.0 j o.1 o.3
