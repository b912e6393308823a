-- Runs of operations in order, step by step: one more step, and a refusal, which ends the run.
--
-- `refused_then`: a refusal becomes another kind of error alike for a whole run and for its two parts.
-- `steps_more`: a run of k steps that succeeds and a step k that succeeds are a run of k + 1 steps.
-- `steps_stop`: where step k fails after k steps that succeed, all n steps fail with its error.
-- `list_more`: a list of k items and an item k that succeeds are a list of k + 1 items.
-- `list_stops`: where item k fails after k items that succeed, the list of n items fails with its error.
-- `length-made`: the list of f 0 to f (n - 1) has n items.
-- `made_more`: the list of k items with f k at its end is the list of k + 1 items.
-- `made_same`: two functions that agree below n make the same list of n items.
-- `length-list_run`: a run that gives a list of n items gives one of that length.
-- `get_or-made`: item i of the list of f 0 to f (n - 1) is f i, where i is below n.
-- `All-made`: where f i has a property for each i below n, each item of the list has it.
use Rattle.std.proofs.Common.{◌≡◌, ℕ, zero, suc, ◌+◌, ◌-◌, ◌<◌, List, [], ◌∷◌, ◌++◌, length}
use Rattle.std.proofs.Common.{get_or, Result, Ok, Err, ⊎_elim, refl, sym, subst, ap, ◌∙◌, arith, add-one, ap₂}
use Rattle.std.proofs.lemmas.Bool.{cases_eq}
use Rattle.std.proofs.lemmas.List.{length-append}
use Rattle.std.proofs.lemmas.List.Elements.{All-nil, All-push}
use Rattle.std.specs.Prelude.{All}
use Rattle.std.proofs.Math.ListN.{get_or-append}
use Rattle.std.proofs.Math.Seq.{get_or-append_seam}
use Rattle.spec_exact.specs.Fraction.{ℚ}
use Rattle.spec_exact.specs.declared.past.Past.{Past}
use Rattle.spec_exact.specs.Run.{Run, ◌>>=◌, refused_as, steps, list_run, made}

-- a refusal as another kind of error, by each of two parts of a run
pub refused_then : {A B E : Type 0} (kind : Past ℚ → E) (o : Run A) (next : A → Run B) →
    refused_as kind (o >>= next) ≡ (refused_as kind o >>= λ a. refused_as kind (next a))
refused_then kind (Ok a) next = refl
refused_then kind (Err e) next = refl

-- where k is below n, k + 1 and n - (k + 1) are together n
up_to : (k n : ℕ) → k < n → suc k + (n - suc k) ≡ n
up_to k n h = omega arith

-- ---- steps

-- where n steps end in an error, more steps end in the same error
steps_stay : {A E : Type 0} (n d : ℕ) (f : ℕ → A → Result A E) (a : A) (e : E) → steps n f a ≡ Err e →
    steps (n + d) f a ≡ Err e
steps_stay n zero f a e h = (let z : n + 0 ≡ n = omega arith in ap (λ k. steps k f a) z) ∙ h
steps_stay n (suc d) f a e h =
    (let z : n + suc d ≡ suc (n + d) = omega arith in ap (λ k. steps k f a) z)
    ∙ ap (λ o. o >>= λ b. f (n + d) b) (steps_stay n d f a e h)

-- one more step
pub steps_more : {A E : Type 0} (k : ℕ) (f : ℕ → A → Result A E) (a b c : A) → steps k f a ≡ Ok b → f k b ≡ Ok c →
    steps (k + 1) f a ≡ Ok c
steps_more k f a b c h g = ap (λ i. steps i f a) (add-one k) ∙ ap (λ o. o >>= λ b. f k b) h ∙ g

-- a stop at step k stops all n
pub steps_stop : {A E : Type 0} (k n : ℕ) (f : ℕ → A → Result A E) (a b : A) (e : E) → k < n → steps k f a ≡ Ok b →
    f k b ≡ Err e → steps n f a ≡ Err e
steps_stop k n f a b e p h g =
    subst (λ i. steps i f a ≡ Err e) (up_to k n p)
    (steps_stay (suc k) (n - suc k) f a e (ap (λ o. o >>= λ b. f k b) h ∙ g))

-- ---- lists

-- where a list of n items ends in a refusal, a list of more items ends in the same refusal
list_stays : {A : Type 0} (n d : ℕ) (f : ℕ → Run A) (e : Past ℚ) → list_run n f ≡ Err e → list_run (n + d) f ≡ Err e
list_stays n zero f e h = (let z : n + 0 ≡ n = omega arith in ap (λ k. list_run k f) z) ∙ h
list_stays n (suc d) f e h =
    (let z : n + suc d ≡ suc (n + d) = omega arith in ap (λ k. list_run k f) z)
    ∙ ap (λ o. o >>= λ xs. f (n + d) >>= λ x. Ok (xs ++ x ∷ [])) (list_stays n d f e h)

-- one more item
pub list_more : {A : Type 0} (k : ℕ) (f : ℕ → Run A) (xs : List A) (x : A) → list_run k f ≡ Ok xs → f k ≡ Ok x →
    list_run (k + 1) f ≡ Ok (xs ++ x ∷ [])
list_more k f xs x h g =
    ap (λ i. list_run i f) (add-one k) ∙ ap (λ o. o >>= λ xs. f k >>= λ x. Ok (xs ++ x ∷ [])) h
    ∙ ap (λ o. o >>= λ x. Ok (xs ++ x ∷ [])) g

-- a refusal of item k stops the list of n
pub list_stops : {A : Type 0} (k n : ℕ) (f : ℕ → Run A) (xs : List A) (e : Past ℚ) → k < n → list_run k f ≡ Ok xs →
    f k ≡ Err e → list_run n f ≡ Err e
list_stops k n f xs e p h g =
    subst (λ i. list_run i f ≡ Err e) (up_to k n p)
    (list_stays (suc k) (n - suc k) f e
    (ap (λ o. o >>= λ xs. f k >>= λ x. Ok (xs ++ x ∷ [])) h ∙ ap (λ o. o >>= λ x. Ok (xs ++ x ∷ [])) g))

-- ---- lists without operations
pub length-made : {A : Type 0} (n : ℕ) (f : ℕ → A) → length (made n f) ≡ n
length-made zero f = refl
length-made (suc n) f = omega (arith, length-append (made n f) (f n ∷ []), length-made n f)

-- one more item
pub made_more : {A : Type 0} (k : ℕ) (f : ℕ → A) (xs : List A) → xs ≡ made k f → xs ++ f k ∷ [] ≡ made (k + 1) f
made_more k f xs h = ap (λ ys. ys ++ f k ∷ []) h ∙ ap (λ i. made i f) (sym (add-one k))

pub made_same : {A : Type 0} (n : ℕ) (f g : ℕ → A) → ((i : ℕ) → i < n → f i ≡ g i) → made n f ≡ made n g
made_same zero f g h = refl
made_same (suc n) f g h =
    ap₂ (λ xs x. xs ++ x ∷ []) (made_same n f g (λ i l. h i (omega (arith, l)))) (h n (omega arith))

pub length-list_run : {A : Type 0} (n : ℕ) (f : ℕ → Run A) (xs : List A) → list_run n f ≡ Ok xs → length xs ≡ n
length-list_run zero f xs e = let g : xs ≡ [] = cc in ap length g
length-list_run {A} (suc n) f xs e = by (list_run n f) (f n) e (λ ys h. length-list_run n f ys h)
  where
    by : (o : Run (List A)) (p : Run A) → (o >>= λ ys. p >>= λ x. Ok (ys ++ x ∷ [])) ≡ Ok xs →
        ((ys : List A) → o ≡ Ok ys → length ys ≡ n) → length xs ≡ suc n
    by (Ok ys) (Ok x) e h =
        let g : xs ≡ ys ++ x ∷ [] = cc in omega (arith, ap length g, length-append ys (x ∷ []), h ys refl)
    by (Ok ys) (Err p) e h = cc
    by (Err p) o e h = cc

pub get_or-made : {A : Type 0} (n : ℕ) (f : ℕ → A) (i : ℕ) (d : A) → i < n → get_or (made n f) i d ≡ f i
get_or-made zero f i d h = absurd (omega arith)
get_or-made {A} (suc n) f i d h = ⊎_elim at_end (λ ne. before (get_or-made n f i d) (omega (arith, ne))) (cases_eq i n)
  where
    at_end : i ≡ n → get_or (made n f ++ f n ∷ []) i d ≡ f i
    at_end e =
        ap (λ k. get_or (made n f ++ f n ∷ []) k d) (e ∙ sym (length-made n f))
        ∙ get_or-append_seam (made n f) (f n) [] d ∙ ap f (sym e)

    before : (i < n → get_or (made n f) i d ≡ f i) → i < n → get_or (made n f ++ f n ∷ []) i d ≡ f i
    before g l = get_or-append (made n f) (f n ∷ []) d i (omega (arith, l, length-made n f)) ∙ g l

pub All-made : {A : Type 0} (P : A → Type 0) (n : ℕ) (f : ℕ → A) → ((i : ℕ) → i < n → P (f i)) → All P (made n f)
All-made P zero f h = All-nil P
All-made P (suc n) f h = All-push P (made n f) (f n) (All-made P n f (λ i l. h i (omega arith))) (h n (omega arith))
