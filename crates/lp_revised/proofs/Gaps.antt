-- Runs over all places that change something at the places of some entries alone. An operand 0 is never refused, so
-- between two entries nothing changes.
--
-- `bound`: where entry c exists it is that entry's place, and past the last entry it is the end m.
-- `less_zero_left`: a number of at most 127 bits less 0 times a number of at most 127 bits is that number, and nothing
--   is refused.
-- `less_zero_right`: a number of at most 127 bits less a number of at most 127 bits times 0 is that number, and nothing
--   is refused.
-- `entry_there`: in entries of ascending places, the number at the place of entry c is the value of entry c.
-- `entry_narrow`: where all values of entries have at most 127 bits, the number that is read at any place has at most
--   127 bits.
-- `none_done`: before the first step the list is the one at the start.
-- `one_done`: where f gives x at place b, setting place b to x carries the run on to b + 1.
-- `still`: where f gives the items at the start for the n places from b, the list stays and the run is done to b + n.
-- `still_to`: where f gives the items at the start from b up to c, the list stays and the run is done to c.
-- `whole_done`: a run that is done to the length of the list gives that list.
-- `steps_to`: where the steps from b up to c leave the state as it is, all c steps end as the first b do.
-- `read_narrow`: where the first i items have at most 127 bits, and so has item i, the first i + 1 items have.
use Rattle.std.proofs.Common.{◌≡◌, ◌≢◌, ℕ, zero, suc, ◌+◌, ◌-◌, ◌<◌, ◌≤◌, List, [], ◌∷◌, length, take}
use Rattle.std.proofs.Common.{get_or, set, slice_get, All, Some, Ok, Bool, true, false, cond, nat_eq, nat_lt}
use Rattle.std.proofs.Common.{refl, sym, ap, ◌∙◌, subst, arith, eq-eqb, ne_eqb, lt-ltb, le-ltb}
use Rattle.std.specs.List.{AllPairs}
use Rattle.std.proofs.lemmas.List.{take_more, take_more_set, length-set, get_or-set_other}
use Rattle.std.proofs.lemmas.List.Elements.{All-get_or, All-more, All-head, All-tail}
use Rattle.std.proofs.lemmas.Option.{get_or_from_slice_get}
use Rattle.std.proofs.Math.Seq.{take-length}
use Rattle.spec_exact.specs.Fraction.{ℚ, 0ℚ, eq_ℚ}
use Rattle.spec_exact.specs.Laws.{IsWithin}
use Rattle.spec_exact.specs.Narrow.{IsNarrow, number_limit}
use Rattle.spec_exact.specs.Answer.{told}
use Rattle.spec_exact.specs.declared.past.Op.TheVariants.{Sub, Mul}
use Rattle.spec_exact.proofs.Same.{eq_if, eq_test}
use Rattle.spec_exact.proofs.Zero.{sub_right, mul_left, mul_right}
use Rattle.spec_model.specs.Model.{entry_of}
use Rattle.spec_model.specs.Kept.{AreEntries}
use Rattle.spec_pivot.proofs.Pivot.{by_eq}
use Rattle.spec_exact.specs.Run.{Run, ◌>>=◌, difference_run, less_product, steps, list_run}
use Rattle.spec_exact.proofs.RunsInOrder.{list_more, steps_more}
use Rattle.spec_exact.proofs.Narrow.{zero_narrow}
use Rattle.spec_simplex.proofs.ListIndices.{by_lt}

-- places with their values, as the items of a list that are not 0
abbrev pub Entries : Type 0
Entries = List (ℕ × ℚ)

-- the place of entry c
abbrev pub row_at : Entries → ℕ → ℕ
row_at es c = (get_or es c (0, 0ℚ)).0

-- the value of entry c
abbrev pub value_at : Entries → ℕ → ℚ
value_at es c = (get_or es c (0, 0ℚ)).1

-- the place of entry c, and after the last one the end
pub bound : ℕ → Entries → ℕ → ℕ
bound m es c = cond (nat_lt c (length es)) (row_at es c) m

-- ---- where an operand is 0

-- a number of at most 127 bits is within the limit of numbers
within : (v : ℚ) → IsNarrow v → IsWithin number_limit v
within v n = record { num_fits = n.top; den_fits = n.bottom }

pub less_zero_left : (q s : ℚ) → IsNarrow q → IsNarrow s → less_product (Some number_limit) 0ℚ q s ≡ Ok s
less_zero_left q s n k =
    ap (λ o. told Mul 0ℚ q o >>= λ p. difference_run (Some number_limit) s p) (mul_left number_limit q (within q n))
    ∙ ap (told Sub s 0ℚ) (sub_right number_limit s (within s k))

pub less_zero_right : (q s : ℚ) → IsNarrow q → IsNarrow s → less_product (Some number_limit) q 0ℚ s ≡ Ok s
less_zero_right q s n k =
    ap (λ o. told Mul q 0ℚ o >>= λ p. difference_run (Some number_limit) s p) (mul_right number_limit q (within q n))
    ∙ ap (told Sub s 0ℚ) (sub_right number_limit s (within s k))

-- ---- where entries stand

-- a place at which entries are not 0 is the place of one of the entries
found_entry : (es : Entries) (i : ℕ) → entry_of es i ≢ 0ℚ → (c : ℕ) × (c < length es) × (row_at es c ≡ i)
found_entry [] i n = absurd (n refl)
found_entry (e ∷ es) i n =
    by_eq e.0 i
    (λ d. (0, omega arith, d))
    (λ d. let w = found_entry es i (λ z. n (rw (ne_eqb e.0 i d) z)) in (suc w.0, omega (arith, w.1), w.2))

pub entry_there : (es : Entries) → AllPairs (λ d e. d.0 < e.0) es → (c : ℕ) → c < length es →
    entry_of es (row_at es c) ≡ value_at es c
entry_there [] h c l = absurd (let z : ⊥ = omega (arith, l) in z)
entry_there (e ∷ es) h zero l = rw (eq-eqb e.0 e.0 refl) refl
entry_there (e ∷ es) h (suc c) l =
    let first : e.0 < row_at es c = h 0 (suc c) (0, 0ℚ) (omega arith) (omega (arith, l)) in
    rw (ne_eqb e.0 (row_at es c) (λ d. let z : ⊥ = omega (arith, first, d) in z))
    (entry_there es (λ i j d lt k. h (suc i) (suc j) d (omega (arith, lt)) (omega (arith, k))) c (omega (arith, l)))

pub entry_narrow : (es : Entries) → All (λ e. IsNarrow e.1) es → (i : ℕ) → IsNarrow (entry_of es i)
entry_narrow [] h i = zero_narrow
entry_narrow (e ∷ es) h i = by (nat_eq e.0 i) (entry_narrow es (All-tail (λ (e : ℕ × ℚ). IsNarrow e.1) e es h) i)
  where
    by : (c : Bool) → IsNarrow (entry_of es i) → IsNarrow (cond c e.1 (entry_of es i))
    by true k = All-head (λ (e : ℕ × ℚ). IsNarrow e.1) e es h
    by false k = k

module _ (m : ℕ) (es : Entries) (h : AreEntries m es) where
  -- the place of each entry is one of the m places
  pub row_inside : (c : ℕ) → c < length es → row_at es c < m
  row_inside c l = All-get_or (λ (e : ℕ × ℚ). e.0 < m) es c (0, 0ℚ) l h.inside

  -- where entry c exists, `bound` of c is its place
  pub bound_at : (c : ℕ) → c < length es → bound m es c ≡ row_at es c
  unfolding bound
  bound_at c l = rw (lt-ltb c (length es) l) refl

  -- past the last entry, `bound` is m, the number of places
  pub bound_end : (c : ℕ) → length es ≤ c → bound m es c ≡ m
  unfolding bound
  bound_end c l = rw (le-ltb c (length es) l) refl

  -- the place of entry c, or the end past the last entry, is at most m
  pub bound_least : (c : ℕ) → bound m es c ≤ m
  bound_least c = by_lt c (length es)
      (λ l. subst (λ b. b ≤ m) (sym (bound_at c l)) (let z = row_inside c l in omega (arith, z)))
      (λ l. subst (λ b. b ≤ m) (sym (bound_end c l)) (omega arith))

  in_order : (c d : ℕ) → c < d → d < length es → row_at es c < row_at es d
  in_order c d l k = h.ascending c d (0, 0ℚ) l k

  -- in entries of ascending places, the place of entry c is below that of the next entry, or below the end
  pub next_bound : (c : ℕ) → c < length es → row_at es c < bound m es (c + 1)
  next_bound c l = by_lt (c + 1) (length es)
      (λ k. subst (λ b. row_at es c < b) (sym (bound_at (c + 1) k)) (in_order c (c + 1) (omega arith) k))
      (λ k. subst (λ b. row_at es c < b) (sym (bound_end (c + 1) k)) (row_inside c l))

  is_zero_or : (i : ℕ) → ((c : ℕ) → c < length es → row_at es c ≢ i) → entry_of es i ≡ 0ℚ
  is_zero_or i n = by (eq_ℚ (entry_of es i) 0ℚ) refl
    where
      by : (t : Bool) → eq_ℚ (entry_of es i) 0ℚ ≡ t → entry_of es i ≡ 0ℚ
      by true e = eq_if (entry_of es i) 0ℚ e
      by false e =
          let w =
          found_entry es i (λ z. let y : true ≡ false = sym (eq_test (entry_of es i) 0ℚ z) ∙ e in cc) in
          absurd (n w.0 w.1 w.2)

  -- at the places before that of the first entry the entries are 0
  pub none_first : (i : ℕ) → i < bound m es 0 → entry_of es i ≡ 0ℚ
  none_first i l = is_zero_or i (λ c k e. by_eq c 0
      (λ z. let y : i < row_at es 0 = subst (λ b. i < b) (bound_at 0 (subst (λ c. c < length es) z k)) l in
      let x : row_at es 0 ≡ i = ap (row_at es) (sym z) ∙ e in let w : ⊥ = omega (arith, y, x) in w)
      (λ z. let y : i < row_at es 0 = subst (λ b. i < b) (bound_at 0 (omega (arith, k))) l in
      let x : row_at es 0 < row_at es c = in_order 0 c (omega (arith, z)) k in
      let w : ⊥ = omega (arith, y, x, e) in w))

  -- at the places between those of entry c and of the next entry, or the end, the entries are 0
  pub none_between : (c i : ℕ) → c < length es → row_at es c < i → i < bound m es (c + 1) → entry_of es i ≡ 0ℚ
  none_between c i l after before =
      is_zero_or i (λ d k e. by_lt d (c + 1)
      (λ z. by_eq d c
      (λ y. let x : row_at es c ≡ i = ap (row_at es) (sym y) ∙ e in let w : ⊥ = omega (arith, after, x) in w)
      (λ y. let x : row_at es d < row_at es c = in_order d c (omega (arith, z, y)) l in
      let w : ⊥ = omega (arith, after, x, e) in w))
      (λ z. let y : i < row_at es (c + 1) = subst (λ b. i < b) (bound_at (c + 1) (omega (arith, z, k))) before in
      by_eq d (c + 1)
      (λ x. let v : row_at es (c + 1) ≡ i = ap (row_at es) (sym x) ∙ e in let w : ⊥ = omega (arith, y, v) in w)
      (λ x. let v : row_at es (c + 1) < row_at es d = in_order (c + 1) d (omega (arith, z, x)) k in
      let w : ⊥ = omega (arith, y, v, e) in w)))

-- ---- lists whose items are replaced in order

-- the first b items of w are those that the run f gives, and the others are those of the list at the start
pub record DoneTo (f : ℕ → Run ℚ) (b : ℕ) (start w : List ℚ) : Type 0 where
  pub all : length w ≡ length start
  pub done : list_run b f ≡ Ok (take b w)
  pub rest : (i : ℕ) → b ≤ i → get_or w i 0ℚ ≡ get_or start i 0ℚ

pub none_done : (f : ℕ → Run ℚ) (start : List ℚ) → DoneTo f 0 start start
none_done f start = record { all = refl; done = refl; rest = λ i l. refl }

-- where f gives the item at place b, the list stays and the run is done to b + 1
one_still : (f : ℕ → Run ℚ) (b : ℕ) (start w : List ℚ) → DoneTo f b start w → b < length w → f b ≡ Ok (get_or w b 0ℚ) →
    DoneTo f (b + 1) start w
one_still f b start w d l e = record {
  all = d.all;
  done = list_more b f (take b w) (get_or w b 0ℚ) d.done e ∙ ap Ok (sym (take_more w b 0ℚ l));
  rest = λ i k. d.rest i (omega (arith, k));
}

pub one_done : (f : ℕ → Run ℚ) (b : ℕ) (start w : List ℚ) (x : ℚ) → DoneTo f b start w → b < length w → f b ≡ Ok x →
    DoneTo f (b + 1) start (set w b x)
one_done f b start w x d l e = record {
  all = length-set w b x ∙ d.all;
  done = list_more b f (take b w) x d.done e ∙ ap Ok (sym (take_more_set w b x l));
  rest = λ i k. get_or-set_other w b i x 0ℚ (λ z. let y : ⊥ = omega (arith, k, z) in y) ∙ d.rest i (omega (arith, k));
}

-- places at which nothing is done
pub still : (f : ℕ → Run ℚ) (b n : ℕ) (start w : List ℚ) → DoneTo f b start w → b + n ≤ length w →
    ((i : ℕ) → b ≤ i → i < b + n → f i ≡ Ok (get_or start i 0ℚ)) → DoneTo f (b + n) start w
still f b zero start w d l h = subst (λ k. DoneTo f k start w) (let z : b ≡ b + 0 = omega arith in z) d
still f b (suc n) start w d l h =
    let before : DoneTo f (b + n) start w =
    still f b n start w d (omega (arith, l)) (λ i p q. h i p (omega (arith, q))) in
    subst (λ k. DoneTo f k start w) (let z : b + n + 1 ≡ b + suc n = omega arith in z)
    (one_still f (b + n) start w before (omega (arith, l))
    (h (b + n) (omega arith) (omega arith) ∙ ap Ok (sym (before.rest (b + n) (omega arith)))))

pub still_to : (f : ℕ → Run ℚ) (b c : ℕ) (start w : List ℚ) → DoneTo f b start w → b ≤ c → c ≤ length w →
    ((i : ℕ) → b ≤ i → i < c → f i ≡ Ok (get_or start i 0ℚ)) → DoneTo f c start w
still_to f b c start w d p l h =
    let z : b + (c - b) ≡ c = omega (arith, p) in
    subst (λ k. DoneTo f k start w) z
    (still f b (c - b) start w d (omega (arith, l, z)) (λ i q r. h i q (omega (arith, r, z))))

pub whole_done : (f : ℕ → Run ℚ) (m : ℕ) (start w : List ℚ) → DoneTo f m start w → length start ≡ m →
    list_run m f ≡ Ok w
whole_done f m start w d e = d.done ∙ ap Ok (ap (λ k. take k w) (sym (d.all ∙ e)) ∙ take-length w)

-- ---- steps, of which some do nothing

-- where the steps from b on leave the state as it is, b + n steps end as b steps do
steps_still : {A : Type 0} (f : ℕ → A → Run A) (a s : A) (b n : ℕ) → steps b f a ≡ Ok s →
    ((i : ℕ) → b ≤ i → i < b + n → f i s ≡ Ok s) → steps (b + n) f a ≡ Ok s
steps_still f a s b zero h k = ap (λ i. steps i f a) (let z : b + 0 ≡ b = omega arith in z) ∙ h
steps_still f a s b (suc n) h k =
    ap (λ i. steps i f a) (let z : b + suc n ≡ b + n + 1 = omega arith in z)
    ∙ steps_more (b + n) f a s s (steps_still f a s b n h (λ i p q. k i p (omega (arith, q))))
    (k (b + n) (omega arith) (omega arith))

pub steps_to : {A : Type 0} (f : ℕ → A → Run A) (a s : A) (b c : ℕ) → steps b f a ≡ Ok s → b ≤ c →
    ((i : ℕ) → b ≤ i → i < c → f i s ≡ Ok s) → steps c f a ≡ Ok s
steps_to f a s b c h p k =
    let z : b + (c - b) ≡ c = omega (arith, p) in
    ap (λ i. steps i f a) (sym z) ∙ steps_still f a s b (c - b) h (λ i q r. k i q (omega (arith, r, z)))

-- ---- narrow items
pub read_narrow : (xs : List ℚ) (i : ℕ) (x : ℚ) → All IsNarrow (take i xs) → i < length xs → slice_get xs i ≡ Some x →
    IsNarrow x → All IsNarrow (take (i + 1) xs)
read_narrow xs i x h l e n = All-more IsNarrow xs i x l h (subst IsNarrow (sym (get_or_from_slice_get xs i x x e)) n)
