-- The loads of a look.
use Rattle.std.proofs.Common.{set, take}
use Rattle.basis_board.proofs.Neat.{fits_noted, neat_opening, neat_reading, after}
use Rattle.std.proofs.Common.{◌≡◌, ℕ, ◌+◌, ◌-◌, ◌*◌, ◌/◌, ◌%◌, ◌<◌, ◌≤◌, List, [], ◌∷◌, ◌++◌, length}
use Rattle.std.proofs.Common.{get_or, sym, refl, ap, ◌∙◌, subst, ⊎_elim, inr, arith, length-append}
use Rattle.std.proofs.lemmas.Bool.{cases_lt, cases_eq}
use Rattle.std.proofs.lemmas.List.{get_or_append_left, get_or_push, length-take}
use mathlib.Core.Option.{none}
use Rattle.atomic_table.specs.Table.{Me, step, keeps, Allows}
use Rattle.basis_board.specs.declared.seats.View.{View}
use Rattle.basis_board.specs.declared.seats.RawRead.{RawRead}
use Rattle.basis_board.specs.declared.seats.RawRead.TheVariants.{Open, See}
use Rattle.spec_board.specs.Words.{IsWellFormed}
use Rattle.basis_board.specs.Board.{Each, Has, count, done, Shows, noted, opening_place}
use Rattle.basis_board.specs.Board.{grown_seen, grown_reads, reading, head_words}
use Rattle.basis_board.specs.Rule.{SeenFits, OwnFits, ReadFits, Kept, saw, HasAt, word_read}
use Rattle.basis_board.specs.Calls.{IsReading}
use Rattle.basis_board.proofs.Totals.{each_map}
use Rattle.basis_board.proofs.Frames.{shows_same, shows_none, unmoved}

module _ (places : ℕ) where
  -- a pass may load the done word of place k: the rule `Kept` allows this step
  pub sees : (slots id : ℕ) (me : Me ℕ View) (i k : ℕ) → 0 < me.0.share → i ≡ 50 * k + 50 →
      Allows (Kept places) slots id me i (λ n. n) (saw (step slots i 0 0 none) me)
  sees slots id me i k share is s r _ at _ =
      let v : View = me.0 in
      let ws : List ℕ = s.words in
      let n : ℕ = get_or ws i 0 in
      let back : k ≡ i / 50 - 1 = omega arith in
      let p = r.each_place k in
      let fits = r.each_seat id v at in
      let here : done ws k ≡ n = ap (λ (z : ℕ). get_or ws z 0) (sym is) in
      let bit : n ≤ 1 = ⊎_elim (λ (l : k < count ws). (let c = p.claimed l in omega arith))
      (λ (l : count ws ≤ k). (let c = p.free l in omega arith)) (cases_lt k (count ws)) in
      let known : Each (λ (q : ℕ × List ℕ). q.0 ≡ i / 50 - 1 → n ≡ 1) v.seen =
      each_map (SeenFits ws) (λ (q : ℕ × List ℕ). q.0 ≡ i / 50 - 1 → n ≡ 1)
      (λ q f e. sym here ∙ (ap (done ws) (back ∙ sym e) ∙ f.0)) v.seen fits.seen in
      ⊎_elim
      (λ (yes : n ≡ 1). let w : View = opening_place v k in
      let new : SeenFits ws (k, []) = (here ∙ yes, shows_none ws k) in
      let kept = unmoved places s r i id me.1 v w at
      (record {
        on_board = fits.on_board;
        is_spent = λ z. absurd (omega arith);
        held = fits.held;
        seen = (new, fits.seen);
        own = each_map (OwnFits v.seen) (OwnFits w.seen) (λ j f. (f.0, inr f.1, f.2)) v.own fits.own;
        reads = (new, fits.reads);
        neat = neat_opening v k fits.neat;
      })
      refl refl refl in (
        w,
        keeps,
        tt,
        kept,
        (
          record {
            bit = bit;
            yes = λ _. ap (opening_place v) back;
            not_done = λ z. absurd (omega arith);
            known = known;
          },
          refl,
          after places s (set ws i n) id v w at kept,
        ),
      ))
      (λ (miss : n ≡ 1 → ⊥).
      let w : View = noted v (Open k) in
      let kept = unmoved places s r i id me.1 v w at
      (fits_noted places ws v (Open k) share tt refl tt fits) refl refl refl in (
        w,
        keeps,
        tt,
        kept,
        (
          record {
            bit = bit;
            yes = λ e. absurd (miss e);
            not_done = λ _. ap (λ (z : ℕ). noted v (Open z)) back;
            known = known;
          },
          refl,
          after places s (set ws i n) id v w at kept,
        ),
      ))
      (cases_eq n 1)

  -- a place that is owned and seen stays so when the newest entry has one word more
  own_grows : (k : ℕ) (xs : List ℕ) (b : ℕ) (rest : List (ℕ × List ℕ)) → length xs < 49 → (j : ℕ) →
      OwnFits ((k, xs) ∷ rest) j → OwnFits ((k, xs ++ b ∷ []) ∷ rest) j
  own_grows k xs b rest short j f = (
    f.0,
    ⊎_elim (λ (e : (k, xs) ≡ (j, f.0)).
        absurd (let l : length xs ≡ length f.0 = ap (λ (p : ℕ × List ℕ). length p.1) e in let m = f.2 in omega arith))
        (λ (h : Has rest (j, f.0)). inr h) f.1,
    f.2,
  )

  -- a pass whose newest read is of the words xs of place k, fewer than 49, may load the next word of place k: the rule
  -- `Kept` allows this step
  reads : (slots id : ℕ) (me : Me ℕ View) (i k : ℕ) (xs : List ℕ) (rest : List (ℕ × List ℕ)) (old : List RawRead) →
      me.0.seen ≡ (k, xs) ∷ rest → me.0.reads ≡ See k xs ∷ old →
      0 < me.0.share → length xs < 49 → i ≡ 50 * k + 1 + length xs
      → Allows (Kept places) slots id me i (λ n. n) (word_read (step slots i 0 0 none) me)
  reads slots id me i k xs rest old top last share short is s r _ at _ =
      let v : View = me.0 in
      let ws : List ℕ = s.words in
      let n : ℕ = get_or ws i 0 in
      let m : ℕ = length xs in
      let w : View = reading v n in
      let fits = r.each_seat id v at in
      let on_k : k ≡ (i - 1) / 50 = omega arith in
      let on_m : m ≡ (i - 1) % 50 = omega arith in
      let seen : Each (SeenFits ws) ((k, xs) ∷ rest) = subst (Each (SeenFits ws)) top fits.seen in
      let word : get_or ws (50 * k + 1 + m) 0 ≡ n = ap (λ (z : ℕ). get_or ws z 0) (sym is) in
      let longer : Shows ws k (xs ++ n ∷ []) = shows_more ws k xs n short word seen.0.1 in
      let now : w.seen ≡ (k, xs ++ n ∷ []) ∷ rest = ap (λ (l : List (ℕ × List ℕ)). grown_seen l n) top in
      let noted_now : w.reads ≡ See k (xs ++ n ∷ []) ∷ old = ap (λ (l : List RawRead). grown_reads l n) last in
      let new : SeenFits ws (k, xs ++ n ∷ []) = (seen.0.0, longer) in
      let older = subst (Each (ReadFits ws)) last fits.reads in
      let head : head_words w.seen ≡ xs ++ n ∷ [] = ap head_words now in
      let formed = (r.each_place k).formed seen.0.0 in
      let kept = unmoved places s r i id me.1 v w at
      (record {
        on_board = fits.on_board;
        is_spent = λ z. absurd (omega arith);
        held = fits.held;
        seen = subst (Each (SeenFits ws)) (sym now) (new, seen.1);
        own = subst (λ (l : List (ℕ × List ℕ)). Each (OwnFits l) v.own) (sym now)
            (each_map (OwnFits ((k, xs) ∷ rest)) (OwnFits ((k, xs ++ n ∷ []) ∷ rest)) (own_grows k xs n rest short)
            v.own (subst (λ (l : List (ℕ × List ℕ)). Each (OwnFits l) v.own) top fits.own));
        reads = subst (Each (ReadFits ws)) (sym noted_now) (new, older.1);
        neat = neat_reading v k n xs rest old top last fits.neat;
      })
      refl refl refl in (
        w,
        keeps,
        tt,
        kept,
        (
          record {
            view = refl;
            known = each_map (SeenFits ws) (HasAt ((i - 1) / 50) ((i - 1) % 50) n)
                (λ q f e l. let same : q.0 ≡ k = e ∙ sym on_k in let at_m : m < length q.1 = omega arith in
                ap (λ (z : ℕ). get_or q.1 z 0) (sym on_m)
                ∙ (sym (f.1.same m at_m) ∙ (ap (λ (z : ℕ). get_or ws (50 * z + 1 + m) 0) same ∙ word)))
                v.seen fits.seen;
            formed =
                λ whole. subst IsWellFormed (shows_same ws k formed.0 (head_words w.seen)
                (formed.2.all ∙ sym whole) formed.1 (subst (Shows ws k) (sym head) longer)) formed.2;
          },
          refl,
          after places s (set ws i n) id v w at kept,
        ),
      )
    where
      shows_more : (ws : List ℕ) (k : ℕ) (xs : List ℕ) (n : ℕ) → length xs < 49 →
          get_or ws (50 * k + 1 + length xs) 0 ≡ n → Shows ws k xs → Shows ws k (xs ++ n ∷ [])
      shows_more ws k xs n short word h =
          let long : length (xs ++ n ∷ []) ≡ length xs + 1 = length-append xs (n ∷ []) in record {
            short = omega arith;
            same = λ j l. ⊎_elim
                (λ (e : j ≡ length xs). ap (λ (z : ℕ). get_or ws (50 * k + 1 + z) 0) e
                ∙ (word ∙ sym (get_or_push xs n 0 j (sym e))))
                (λ (e : j ≡ length xs → ⊥). let before : j < length xs = omega arith in
                h.same j before ∙ sym (get_or_append_left xs (n ∷ []) 0 j before))
                (cases_eq j (length xs));
          }

  -- a pass that has read j words of place k, where j is below 49, may load word j of the place: the rule `Kept` allows
  -- this step
  pub reads_next : (slots id : ℕ) (me : Me ℕ View) (v : View) (words : List ℕ) (i k j : ℕ) →
      IsReading k j words v me.0 → 0 < v.share → j < 49 → i ≡ 50 * k + 1 + j
      → Allows (Kept places) slots id me i (λ n. n) (word_read (step slots i 0 0 none) me)
  reads_next slots id me v words i k j h share room is =
      let long = h.long in
      let size : length (take j words) ≡ j = omega (arith, length-take j words) in
      let same = ap (λ v. v.share) h.view in
      reads slots id me i k (take j words) v.seen v.reads (ap (λ v. v.seen) h.view) (ap (λ v. v.reads) h.view)
      (omega arith) (omega arith) (omega arith)
