-- What the runs of ftran and btran give, where they give a list, at each limit.
use Rattle.std.proofs.Common.{◌≡◌, ℕ, ◌<◌, List, [], ◌∷◌, length, get_or, set, Option, Ok}
use Rattle.std.proofs.Common.{Bool, true, false, cond, nat_eq, refl, sym, ap, ◌∙◌, subst}
use Rattle.std.specs.Prelude.{All}
use Rattle.std.proofs.lemmas.List.{length-set}
use Rattle.std.proofs.lemmas.List.Elements.{All-head, All-tail}
use Rattle.spec_exact.specs.Fraction.{ℚ, ◌+ℚ◌, ◌-ℚ◌, ◌*ℚ◌, 0ℚ, inverse}
use Rattle.spec_exact.specs.Sums.{sum_below}
use Rattle.spec_exact.proofs.Results.{ok_same}
use Rattle.spec_exact.proofs.Ruleset.{ring}
use Rattle.spec_exact.specs.Run.{quotient_run, less_product, steps}
use Rattle.spec_simplex.proofs.RunParts.{then_ok, quotient_ok, less_ok, steps_ok, IsListOf, list_ok}
use Rattle.spec_simplex.proofs.ListIndices.{set_reads}
use Rattle.spec_factor.specs.Factors.{Pair, pair_at, forward_run, ftran_run, backward_run, btran_run}
use Rattle.spec_factor.specs.Basis.{forward_one, forward, IsPair}
use Rattle.spec_factor.proofs.Forward.{forward_same}
use Rattle.spec_factor.proofs.Backward.{off, taken, backward_one, backward, backward_one_same}

-- a list of m items is f
pub record Reads (m : ℕ) (xs : List ℚ) (f : ℕ → ℚ) : Type 0 where
  pub all : length xs ≡ m
  pub each : (i : ℕ) → i < m → get_or xs i 0ℚ ≡ f i

abbrev pub read : List ℚ → ℕ → ℚ
read xs i = get_or xs i 0ℚ

module _ (limit : Option ℕ) (m : ℕ) where
  -- ---- ftran
  pub forward_ok : (e : Pair) (v w : List ℚ) → forward_run limit m e v ≡ Ok w → Reads m w (forward_one e (read v))
  unfolding forward_run
  forward_ok e v w h =
      let a = then_ok (quotient_run limit (read v e.place) (pair_at e e.place)) _ w h in
      let q : a.0 ≡ read v e.place *ℚ inverse (pair_at e e.place) =
      quotient_ok limit (read v e.place) (pair_at e e.place) a.0 a.1 in
      let l : IsListOf m
      (λ i. cond (nat_eq i e.place) (Ok a.0) (less_product limit (pair_at e i) a.0 (read v i))) 0ℚ w =
      list_ok m _ 0ℚ w a.2 in
      record { all = l.all; each = λ i i_in. by (nat_eq i e.place) a.0 q (read w i) i (l.each i i_in) }
    where
      by : (c : Bool) (q : ℚ) → q ≡ read v e.place *ℚ inverse (pair_at e e.place) → (x : ℚ) (i : ℕ) →
          cond c (Ok q) (less_product limit (pair_at e i) q (read v i)) ≡ Ok x
          → x ≡ cond c (read v e.place *ℚ inverse (pair_at e e.place))
          (read v i -ℚ pair_at e i *ℚ (read v e.place *ℚ inverse (pair_at e e.place)))
      by true q is x i h = sym (ok_same q x h) ∙ is
      by false q is x i h = less_ok limit (pair_at e i) q (read v i) x h ∙ ap (λ a. read v i -ℚ pair_at e i *ℚ a) is

  pub ftran_ok : (pairs : List Pair) (v z : List ℚ) → All (IsPair m) pairs → length v ≡ m →
      ftran_run limit m pairs v ≡ Ok z → Reads m z (forward pairs (read v))
  ftran_ok [] v z s all h =
      let e : v ≡ z = ok_same v z h in subst (λ z. Reads m z (read v)) e (record { all = all; each = λ i _. refl })
  ftran_ok (e ∷ es) v z s all h =
      let a = then_ok (forward_run limit m e v) (λ w. ftran_run limit m es w) z h in
      let one : Reads m a.0 (forward_one e (read v)) = forward_ok e v a.0 a.1 in
      let rest : Reads m z (forward es (read a.0)) = ftran_ok es a.0 z (All-tail (IsPair m) e es s) one.all a.2 in
      record {
        all = rest.all;
        each =
            λ i l. rest.each i l
            ∙ forward_same m es (read a.0) (forward_one e (read v)) (All-tail (IsPair m) e es s) one.each i l;
      }

  -- ---- btran
  less_others : (e : Pair) (v : List ℚ) (s : ℚ) →
      steps m (λ i s. cond (nat_eq i e.place) (Ok s) (less_product limit (read v i) (pair_at e i) s)) (read v e.place)
      ≡ Ok s
      → s ≡ read v e.place -ℚ taken m e (read v)
  unfolding taken
  less_others e v s h =
      steps_ok (λ n s. s ≡ read v e.place -ℚ sum_below n (λ i. off e.place i (read v i *ℚ pair_at e i))) m _
      (read v e.place) s h (sym (whole (read v e.place)))
      (λ i x y _ was is. by (nat_eq i e.place) i x y was is)
    where
      whole : (a : ℚ) → a -ℚ 0ℚ ≡ a
      whole a = simp ring

      more : (c s p : ℚ) → (c -ℚ s) -ℚ p ≡ c -ℚ (s +ℚ p)
      more c s p = simp ring

      none : (c s : ℚ) → c -ℚ s ≡ c -ℚ (s +ℚ 0ℚ)
      none c s = simp ring

      by : (c : Bool) (i : ℕ) (x y : ℚ) →
          x ≡ read v e.place -ℚ sum_below i (λ i. off e.place i (read v i *ℚ pair_at e i))
          → cond c (Ok x) (less_product limit (read v i) (pair_at e i) x) ≡ Ok y
          → y ≡ read v
          e.place -ℚ (sum_below i (λ i. off e.place i (read v i *ℚ pair_at e i)) +ℚ cond c 0ℚ (read v i *ℚ pair_at e i))
      by true i x y was is = sym (ok_same x y is) ∙ was ∙ none _ _
      by false i x y was is =
          less_ok limit (read v i) (pair_at e i) x y is ∙ ap (λ a. a -ℚ read v i *ℚ pair_at e i) was ∙ more _ _ _

  pub backward_ok : (e : Pair) (v w : List ℚ) → e.place < m → length v ≡ m → backward_run limit m e v ≡ Ok w →
      Reads m w (backward_one m e (read v))
  unfolding backward_run backward_one
  backward_ok e v w p all h =
      let a =
      then_ok (steps m (λ i s. cond (nat_eq i e.place) (Ok s) (less_product limit (read v i) (pair_at e i) s))
      (read v e.place)) _ w h in
      let b = then_ok (quotient_run limit a.0 (pair_at e e.place)) (λ q. Ok (set v e.place q)) w a.2 in
      let z : set v e.place b.0 ≡ w = ok_same (set v e.place b.0) w b.2 in
      let q : b.0 ≡ (read v e.place -ℚ taken m e (read v)) *ℚ inverse (pair_at e e.place) =
      quotient_ok limit a.0 (pair_at e e.place) b.0 b.1
      ∙ ap (λ a. a *ℚ inverse (pair_at e e.place)) (less_others e v a.0 a.1) in
      subst (λ w. Reads m w
      (λ i. cond (nat_eq i e.place) ((read v e.place -ℚ taken m e (read v)) *ℚ inverse (pair_at e e.place)) (read v i)))
      z (record {
        all = length-set v e.place b.0 ∙ all;
        each =
            λ i l. set_reads v e.place b.0 0ℚ (subst (λ n. e.place < n) (sym all) p) i
            ∙ ap (λ a. cond (nat_eq i e.place) a (read v i)) q;
      })

  pub btran_ok : (pairs : List Pair) (c y : List ℚ) → All (IsPair m) pairs → length c ≡ m →
      btran_run limit m pairs c ≡ Ok y → Reads m y (backward m pairs (read c))
  unfolding backward
  btran_ok [] c y s all h =
      let e : c ≡ y = ok_same c y h in subst (λ y. Reads m y (read c)) e (record { all = all; each = λ i _. refl })
  btran_ok (e ∷ es) c y s all h =
      let a = then_ok (btran_run limit m es c) (λ w. backward_run limit m e w) y h in
      let rest : Reads m a.0 (backward m es (read c)) = btran_ok es c a.0 (All-tail (IsPair m) e es s) all a.1 in
      let p : e.place < m = (All-head (IsPair m) e es s).place in
      let one : Reads m y (backward_one m e (read a.0)) = backward_ok e a.0 y p rest.all a.2 in
      record {
        all = one.all;
        each = λ i l. one.each i l ∙ backward_one_same m e (read a.0) (backward m es (read c)) p rest.each i l;
      }
