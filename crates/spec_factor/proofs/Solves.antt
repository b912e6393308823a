-- Where pairs stand for a basis, ftran solves for its columns and btran for its rows; and a column can be replaced.
--
-- `pair_keeps`: an elementary matrix leaves a list as it is that is 0 at its place.
-- `replaced_basic`: after a replacement the list of basic columns is the old one with the new column at its place.
use Rattle.std.proofs.Common.{◌≡◌, ◌≢◌, ℕ, ◌<◌, List, [], ◌∷◌, length, set, Option}
use Rattle.std.proofs.Common.{Ok, refl, sym, ap, ap₂, ◌∙◌, subst, eq-eqb, ne_eqb}
use Rattle.std.specs.Prelude.{All}
use Rattle.std.proofs.lemmas.List.Elements.{All-push}
use Rattle.spec_exact.specs.Fraction.{ℚ, ◌-ℚ◌, ◌*ℚ◌, 0ℚ, 1ℚ, inverse}
use Rattle.spec_exact.specs.Sums.{sum_below}
use Rattle.spec_exact.proofs.Field.{*ℚ_comm, *ℚ_inverse}
use Rattle.spec_exact.proofs.Ruleset.{ring}
use Rattle.spec_exact.proofs.Sums.{sum_below_same, exchange}
use Rattle.spec_pivot.specs.Tableau.{Matrix, delta}
use Rattle.spec_pivot.proofs.Pivot.{by_eq, delta_same, delta_other, sum_below-delta}
use Rattle.spec_pivot.proofs.Ray.{delta_sym}
use Rattle.spec_simplex.proofs.RunParts.{then_ok}
use Rattle.spec_factor.specs.Factors.{Pair, pair_at, Factors, ftran_run, btran_run, with_pair, replace_run}
use Rattle.spec_factor.specs.Basis.{forward_one, forward, IsPair, StandsFor, SolvesColumns, SolvesRows, with_column}
use Rattle.spec_factor.proofs.Forward.{one_at_place, one_off_place, forward-append}
use Rattle.spec_factor.proofs.Forward.{forward_same, forward_combines, forward_apart}
use Rattle.spec_factor.proofs.Backward.{backward, adjoint}
use Rattle.spec_factor.proofs.RunLists.{Reads, read, ftran_ok, btran_ok}

module _ (m : ℕ) (pairs : List Pair) (basis : Matrix) (stands : StandsFor m pairs basis) where
  -- a combination of the basis's columns has its weights as its solution
  pub weights_are : (x v : ℕ → ℚ) → ((r : ℕ) → r < m → v r ≡ sum_below m (λ s. basis r s *ℚ x s)) → (i : ℕ) → i < m →
      forward pairs v i ≡ x i
  weights_are x v h i l =
      forward_combines m m pairs basis x v stands.sound h i l
      ∙ sum_below_same m _ (λ s. delta i s *ℚ x s) (λ s k. ap (λ a. a *ℚ x s) (stands.units s i k l ∙ delta_sym s i))
      ∙ sum_below-delta m i x l

  pub columns_solved : (v : ℕ → ℚ) (r : ℕ) → r < m → sum_below m (λ s. basis r s *ℚ forward pairs v s) ≡ v r
  columns_solved v =
      forward_apart m pairs (λ r. sum_below m (λ s. basis r s *ℚ forward pairs v s)) v stands.sound
      (weights_are (forward pairs v) (λ r. sum_below m (λ s. basis r s *ℚ forward pairs v s)) (λ r _. refl))

  pub rows_solved : (c : ℕ → ℚ) (s : ℕ) → s < m → sum_below m (λ r. backward m pairs c r *ℚ basis r s) ≡ c s
  rows_solved c s l =
      adjoint m pairs c (λ r. basis r s) stands.sound
      ∙ sum_below_same m _ (λ i. delta s i *ℚ c i)
      (λ i k. ap (λ a. c i *ℚ a) (stands.units s i l k) ∙ *ℚ_comm (c i) (delta s i))
      ∙ sum_below-delta m s c l

  -- what solves for the rows, at row r
  row_at : (x c : ℕ → ℚ) → ((s : ℕ) → s < m → sum_below m (λ r. x r *ℚ basis r s) ≡ c s) → (r : ℕ) → r < m →
      x r ≡ sum_below m (λ s. forward pairs (delta r) s *ℚ c s)
  row_at x c h r l =
      sym (sum_below-delta m r x l)
      ∙ sum_below_same m _ (λ k. x k *ℚ sum_below m (λ s. basis k s *ℚ forward pairs (delta r) s))
      (λ k q. *ℚ_comm (delta r k) (x k) ∙ ap (λ a. x k *ℚ a) (sym (columns_solved (delta r) k q)))
      ∙ exchange m m x (forward pairs (delta r)) basis
      ∙ sum_below_same m _ _ (λ s q. ap (λ a. forward pairs (delta r) s *ℚ a) (h s q))

  pub ftran_solves : (limit : Option ℕ) (v z : List ℚ) → length v ≡ m → ftran_run limit m pairs v ≡ Ok z →
      SolvesColumns m basis v z
  ftran_solves limit v z all h =
      let is : Reads m z (forward pairs (read v)) = ftran_ok limit m pairs v z stands.sound all h in
      record {
        all = is.all;
        solves =
            λ r l. sum_below_same m _ _ (λ s k. ap (λ a. basis r s *ℚ a) (is.each s k)) ∙ columns_solved (read v) r l;
        only = λ x e s l. sym (is.each s l ∙ weights_are x (read v) (λ r k. sym (e r k)) s l);
      }

  pub btran_solves : (limit : Option ℕ) (c y : List ℚ) → length c ≡ m → btran_run limit m pairs c ≡ Ok y →
      SolvesRows m basis c y
  btran_solves limit c y all h =
      let is : Reads m y (backward m pairs (read c)) = btran_ok limit m pairs c y stands.sound all h in
      record {
        all = is.all;
        solves = λ s l. sum_below_same m _ _ (λ r k. ap (λ a. a *ℚ basis r s) (is.each r k)) ∙ rows_solved (read c) s l;
        only =
            λ x e r l. row_at x (read c) e r l
            ∙ sym (is.each r l ∙ row_at (backward m pairs (read c)) (read c) (rows_solved (read c)) r l);
      }

-- ---- one more pair

-- the pair of a column makes of the column, where that is not 0 at the pair's place, the unit vector of this place
pair_unit : (e : Pair) (v : ℕ → ℚ) (i : ℕ) → v e.place ≢ 0ℚ → pair_at e e.place ≡ v e.place → pair_at e i ≡ v i →
    forward_one e v i ≡ delta e.place i
pair_unit e v i n own here =
    by_eq i e.place
    (λ d. subst (λ i. forward_one e v i ≡ delta e.place i) (sym d)
    (one_at_place e v ∙ ap (λ a. v e.place *ℚ inverse a) own ∙ *ℚ_inverse (v e.place) n ∙ sym (delta_same e.place)))
    (λ d. one_off_place e v i d ∙ ap₂ (λ a b. v i -ℚ a *ℚ (v e.place *ℚ inverse b)) here own
    ∙ ap (λ a. v i -ℚ v i *ℚ a) (*ℚ_inverse (v e.place) n) ∙ none (v i) ∙ sym (delta_other e.place i (λ y. d (sym y))))
  where
    none : (a : ℚ) → a -ℚ a *ℚ 1ℚ ≡ 0ℚ
    none a = simp ring

-- what is 0 at its place stays as it is
pub pair_keeps : (e : Pair) (v : ℕ → ℚ) → v e.place ≡ 0ℚ → (i : ℕ) → forward_one e v i ≡ v i
pair_keeps e v z i =
    by_eq i e.place
    (λ d. subst (λ i. forward_one e v i ≡ v i) (sym d)
    (one_at_place e v ∙ ap (λ a. a *ℚ inverse (pair_at e e.place)) z ∙ nothing (inverse (pair_at e e.place)) ∙ sym z))
    (λ d. one_off_place e v i d ∙ ap (λ a. v i -ℚ pair_at e i *ℚ (a *ℚ inverse (pair_at e e.place))) z
    ∙ less (v i) (pair_at e i) (inverse (pair_at e e.place)))
  where
    nothing : (a : ℚ) → 0ℚ *ℚ a ≡ 0ℚ
    nothing a = simp ring

    less : (v a b : ℚ) → v -ℚ a *ℚ (0ℚ *ℚ b) ≡ v
    less v a b = simp ring

-- pairs that make v, which is not 0 at place p, the list z, with the pair of z at p
module _ (m : ℕ) (pairs : List Pair) (p : ℕ) (z : List ℚ)
    (sound : All (IsPair m) pairs) (p_in : p < m) (n : read z p ≢ 0ℚ) where
  pub sound_with : All (IsPair m) (with_pair pairs p z)
  sound_with = All-push (IsPair m) pairs (record { place = p; column = z }) sound (record { place = p_in; pivot = n })

  pub with_own : (v : ℕ → ℚ) → ((i : ℕ) → i < m → read z i ≡ forward pairs v i) → (i : ℕ) → i < m →
      forward (with_pair pairs p z) v i ≡ delta p i
  with_own v is i l =
      ap (λ w. w i) (forward-append pairs (record { place = p; column = z } ∷ []) v)
      ∙ pair_unit (record { place = p; column = z }) (forward pairs v) i (λ y. n (is p p_in ∙ y)) (is p p_in) (is i l)

  pub with_other : (v : ℕ → ℚ) (q : ℕ) → p ≢ q → ((i : ℕ) → i < m → forward pairs v i ≡ delta q i) → (i : ℕ) → i < m →
      forward (with_pair pairs p z) v i ≡ delta q i
  with_other v q d is i l =
      ap (λ w. w i) (forward-append pairs (record { place = p; column = z } ∷ []) v)
      ∙ pair_keeps (record { place = p; column = z }) (forward pairs v) (is p p_in ∙ delta_other q p (λ y. d (sym y))) i
      ∙ is i l

-- ---- another column in one place
module _ (m : ℕ) (basis : Matrix) (limit : Option ℕ) (s u : Factors) (p k : ℕ) (column : List ℚ)
    (stands : StandsFor m s.pairs basis) (p_in : p < m) (all : length column ≡ m)
    (entry : (z : List ℚ) → SolvesColumns m basis column z → read z p ≢ 0ℚ)
    (ok : replace_run limit m s p k column ≡ Ok u) where
  pub record Replaced (w : Factors) : Type 0 where
    pub stand : StandsFor m w.pairs (with_column basis p column)
    pub basic : w.basic ≡ set s.basic p k

  with_at : (r : ℕ) → with_column basis p column r p ≡ read column r
  with_at r = rw (eq-eqb p p refl) refl

  with_off : (r q : ℕ) → q ≢ p → with_column basis p column r q ≡ basis r q
  with_off r q d = rw (ne_eqb q p d) refl

  with_list : (v : List ℚ) → ftran_run limit m s.pairs column ≡ Ok v →
      StandsFor m (with_pair s.pairs p v) (with_column basis p column)
  with_list v h =
      let is : Reads m v (forward s.pairs (read column)) = ftran_ok limit m s.pairs column v stands.sound all h in
      let n : read v p ≢ 0ℚ = entry v (ftran_solves m s.pairs basis stands limit column v all h) in
      record {
        sound = sound_with m s.pairs p v stands.sound p_in n;
        units = λ q i l g. by_eq q p
            (λ d. subst (λ q. forward (with_pair s.pairs p v) (λ r. with_column basis p column r q) i ≡ delta q i)
            (sym d)
            (with_own m s.pairs p v stands.sound p_in n (λ r. with_column basis p column r p)
            (λ i l. is.each i l ∙ forward_same m s.pairs (read column)
            (λ r. with_column basis p column r p) stands.sound (λ r _. sym (with_at r)) i l) i g))
            (λ d. with_other m s.pairs p v stands.sound p_in n (λ r. with_column basis p column r q) q (λ y. d (sym y))
            (λ i g. forward_same m s.pairs (λ r. with_column basis p column r q)
            (λ r. basis r q) stands.sound (λ r _. with_off r q d) i g ∙ stands.units q i l g) i g);
      }

  pub replaced : Replaced u
  unfolding replace_run
  replaced =
      let a = then_ok (ftran_run limit m s.pairs column) _ u ok in
      let z : ◌≡◌ {A = Factors} (record { pairs = with_pair s.pairs p a.0; basic = set s.basic p k }) u = cc in
      subst Replaced z (record { stand = with_list a.0 a.1; basic = refl })

pub replaced_basic : (limit : Option ℕ) (m : ℕ) (s u : Factors) (p k : ℕ) (column : List ℚ) →
    replace_run limit m s p k column ≡ Ok u → u.basic ≡ set s.basic p k
unfolding replace_run
replaced_basic limit m s u p k column ok =
    let a = then_ok (ftran_run limit m s.pairs column) _ u ok in
    let z : ◌≡◌ {A = Factors} (record { pairs = with_pair s.pairs p a.0; basic = set s.basic p k }) u = cc in
    sym (ap (λ (u : Factors). u.basic) z)
