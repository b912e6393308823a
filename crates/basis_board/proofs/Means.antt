-- The rule in plain words.
use Rattle.std.proofs.Common.{◌≡◌, ◌≢◌, ℕ, zero, suc, ◌+◌, List, [], ◌∷◌, refl}
use Rattle.std.proofs.Common.{sym, ap, ◌∙◌, subst, ⊎_elim, inl, inr, arith}
use Rattle.std.proofs.lemmas.Bool.{cases_eq}
use mathlib.Core.Option.{some, some-injective, some-ne-none}
use lib.ListN.{get_elem?}
use Rattle.basis_board.specs.declared.seats.View.{View}
use Rattle.basis_board.specs.Board.{total, times, done, holding}
use Rattle.basis_board.specs.Rule.{HeldFits, SeenFits, OwnFits, Kept}
use Rattle.basis_board.specs.Meaning.{JustOne, NoView, Means}
use Rattle.basis_board.proofs.Totals.{each_has}
use Rattle.basis_board.proofs.Frames.{St}

-- where f adds up to 0 over the passes, f is 0 of each pass
no_view : (f : View → ℕ) (vs : List View) → total f vs ≡ 0 → NoView f vs
no_view f [] z j u e = absurd (some-ne-none u (sym e))
no_view f (v ∷ vs) z zero u e = let same : f v ≡ f u = ap f (some-injective v u e) in omega arith
no_view f (v ∷ vs) z (suc j) u e = no_view f vs (omega arith) j u e

-- where f adds up to 1 over the passes, f is 1 of one pass and 0 of any other
just_one : (f : View → ℕ) (vs : List View) → total f vs ≡ 1 → JustOne f vs
just_one f [] z = absurd (omega arith)
just_one f (v ∷ vs) z = ⊎_elim
    (λ (one : f v ≡ 1). record {
      seat = 0;
      view = v;
      there = refl;
      one = one;
      others = elsewhere one;
    })
    (λ (apart : f v ≡ 1 → ⊥).
    let none : f v ≡ 0 = zero_of (f v) (total f vs) z apart in
    let h = just_one f vs (omega arith) in record {
      seat = suc h.seat;
      view = h.view;
      there = h.there;
      one = h.one;
      others = later none h.seat h.others;
    })
    (cases_eq (f v) 1)
  where
    zero_of : (a b : ℕ) → a + b ≡ 1 → (a ≡ 1 → ⊥) → a ≡ 0
    zero_of a b e n = ⊎_elim (λ (z : a ≡ 0). z) (λ (m : a ≡ 0 → ⊥). absurd (n (omega arith))) (cases_eq a 0)

    elsewhere : f v ≡ 1 → (j : ℕ) (u : View) → j ≢ 0 → get_elem? (v ∷ vs) j ≡ some u → f u ≡ 0
    elsewhere one zero u n e = absurd (n refl)
    elsewhere one (suc j) u n e = no_view f vs (omega arith) j u e

    later : f v ≡ 0 → (seat : ℕ) → ((j : ℕ) (u : View) → j ≢ seat → get_elem? vs j ≡ some u → f u ≡ 0) →
        (j : ℕ) (u : View) → j ≢ suc seat → get_elem? (v ∷ vs) j ≡ some u → f u ≡ 0
    later none seat rest zero u n e = ap f (sym (some-injective v u e)) ∙ none
    later none seat rest (suc j) u n e = rest j u (λ q. n (ap suc q)) e

-- a state of a board that keeps the rule `Kept` has what `Means` says in plain words
pub means : (places : ℕ) (s : St) → Kept places s → Means s
means places s r = record {
  below = λ k l.
      let p = r.each_place k in
      let c = p.claimed l in
      let o = p.owned in
      ⊎_elim
      (λ (d : done s.words k ≡ 1). inr (record {
        no_holder = no_view (holding k) s.views (omega arith);
        is_done = d;
        formed = p.formed d;
        owner = just_one (λ v. times k v.own) s.views (omega arith);
      }))
      (λ (n : done s.words k ≡ 1 → ⊥).
      let undone : done s.words k ≡ 0 = zero_bit (total (holding k) s.views) (done s.words k) c n in
      let h = just_one (holding k) s.views (omega arith) in
      inl (record {
        holder = h;
        words = λ xs is. subst (HeldFits s.words) is (r.each_seat h.seat h.view h.there).held;
        undone = undone;
        in_no_own = no_view (λ v. times k v.own) s.views (omega arith);
      }))
      (cases_eq (done s.words k) 1);
  beyond =
      λ k l. let p = r.each_place k in let f = p.free l in (omega arith, no_view (holding k) s.views (omega arith));
  views = λ j v at. let f = r.each_seat j v at in record {
    seen = λ k xs h. each_has (SeenFits s.words) v.seen (k, xs) f.seen h;
    own = λ k h. each_has (OwnFits v.seen) v.own k f.own h;
  };
}
  where
    zero_bit : (a b : ℕ) → a + b ≡ 1 → (b ≡ 1 → ⊥) → b ≡ 0
    zero_bit a b e n = ⊎_elim (λ (z : b ≡ 0). z) (λ (m : b ≡ 0 → ⊥). absurd (n (omega arith))) (cases_eq b 0)
