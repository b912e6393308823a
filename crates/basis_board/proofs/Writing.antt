-- The stores of the claimer.
use Rattle.basis_board.proofs.Neat.{neat_finished, after}
use Rattle.std.proofs.Common.{◌≡◌, ◌≢◌, ℕ, ◌+◌, ◌*◌, ◌<◌, ◌≤◌, List, [], ◌∷◌, ◌++◌, length, get_or}
use Rattle.std.proofs.Common.{set, Option, Some, None, eqb, sym, refl, ap, ◌∙◌, subst, ⊎_elim, inl, inr}
use Rattle.std.proofs.Common.{arith, length-set, length-append, get_or-set_other, get_or-set_same}
use Rattle.std.proofs.lemmas.Bool.{cases_lt, cases_eq}
use Rattle.std.proofs.lemmas.List.{get_or_append_left, get_or_push}
use mathlib.Core.Option.{none, some}
use lib.ListN.{get_elem?}
use Rattle.atomic_table.specs.Table.{Me, step, keeps, stepped, Allows}
use Rattle.basis_board.specs.declared.seats.View.{View}
use Rattle.spec_board.specs.Words.{IsWellFormed}
use Rattle.basis_board.specs.Board.{total, times, one_if, count, done, Shows, holding_in}
use Rattle.basis_board.specs.Board.{holding, owning, share_of, grown_held, writing, finished}
use Rattle.basis_board.specs.Rule.{HeldFits, SeenFits, OwnFits, ReadFits, Fits, Kept, wrote, published}
use Rattle.basis_board.proofs.Totals.{total_set, total_push, total_at, total_two}
use Rattle.basis_board.proofs.Totals.{each_map, each_push, times_here, times_else}
use Rattle.basis_board.proofs.Frames.{St, shows_set, done_set, reads_move}
use Rattle.basis_board.proofs.Frames.{same_total, seats_stay, held_stays, fits_move}

-- a place that shows the words xs, fewer than 49, shows xs and then b once b is stored in its next payload word
shows_push : (ws : List ℕ) (k i b : ℕ) (xs : List ℕ) → length xs < 49 → i ≡ 50 * k + 1 + length xs → i < length ws →
    Shows ws k xs → Shows (set ws i b) k (xs ++ b ∷ [])
shows_push ws k i b xs room is inside h =
    let n : ℕ = length xs in
    let long : length (xs ++ b ∷ []) ≡ n + 1 = length-append xs (b ∷ []) in record {
      short = omega arith;
      same = λ m l. ⊎_elim
          (λ (e : m ≡ n). let at : 50 * k + 1 + m ≡ i = omega arith in
          ap (λ (z : ℕ). get_or (set ws i b) z 0) at
          ∙ (get_or-set_same ws i b 0 inside ∙ sym (get_or_push xs b 0 m (sym e))))
          (λ (e : m ≡ n → ⊥). let before : m < n = omega arith in
          get_or-set_other ws i (50 * k + 1 + m) b 0 (λ q. e (omega arith))
          ∙ (h.same m before ∙ sym (get_or_append_left xs (b ∷ []) 0 m before)))
          (cases_eq m n);
    }

module _ (places : ℕ) where
  -- the place that a seat holds is claimed, it is not done, and no other seat holds it
  pub record Holds (s : St) (id k : ℕ) : Type 0 where
    pub inside : k < count s.words
    pub undone : done s.words k ≡ 0
    pub alone : (j : ℕ) (u : View) → j ≢ id → get_elem? s.views j ≡ some u → holding k u ≡ 0

  -- where pass `id` holds place k in a state that keeps the rule `Kept`, the place is claimed and not done, and no
  -- other pass holds it
  pub holds : (s : St) → Kept places s → (id : ℕ) (v : View) (k : ℕ) (xs : List ℕ) → get_elem? s.views id ≡ some v →
      v.held ≡ Some (k, xs) → Holds s id k
  holds s r id v k xs at held =
      let one : holding k v ≡ 1 = ap (holding_in k) held ∙ times_here k in
      let some_one = total_at (holding k) s.views id v at in
      let p = r.each_place k in
      ⊎_elim
      (λ (l : k < count s.words). let c = p.claimed l in record {
        inside = l;
        undone = omega arith;
        alone = λ j u apart e. (let two = total_two (holding k) s.views j id u v apart e at in omega arith);
      })
      (λ (l : count s.words ≤ k). let c = p.free l in absurd (omega arith))
      (cases_lt k (count s.words))

  -- what is held in another place than k still fits where all places but k show what they showed
  held_apart : (ws us : List ℕ) (k : ℕ) → ((j : ℕ) (xs : List ℕ) → j ≢ k → Shows ws j xs → Shows us j xs) →
      (o : Option (ℕ × List ℕ)) → holding_in k o ≡ 0 → HeldFits ws o → HeldFits us o
  held_apart ws us k shown None z h = tt
  held_apart ws us k shown (Some p) z h =
      shown p.0 p.1
      (λ e. (let q : one_if (eqb p.0 k) ≡ 1 = ap (λ x. one_if (eqb x k)) e ∙ times_here k in omega arith)) h

  -- a pass that holds place k, and has written fewer than 49 words there, may store the next one: the rule `Kept`
  -- allows this step
  pub writes : (slots id : ℕ) (me : Me ℕ View) (i b k : ℕ) (xs : List ℕ) →
      me.0.held ≡ Some (k, xs) → 0 < me.0.share → length xs < 49 → i ≡ 50 * k + 1 + length xs
      → Allows (Kept places) slots id me i (λ _. b) (λ _. wrote (step slots i b 0 none) me b)
  writes slots id me i b k xs held share room is s r _ at _ =
      let v : View = me.0 in
      let ws : List ℕ = s.words in
      let us : List ℕ = set ws i b in
      let w : View = writing v b in
      let h = holds s r id v k xs at held in
      let wide = r.wide in
      let bound = r.bounded in
      let inside : i < length ws = (let a = h.inside in omega arith) in
      let now : count us ≡ count ws = get_or-set_other ws i 0 b 0 (λ e. omega arith) in
      let d : (j : ℕ) → done us j ≡ done ws j = λ j. done_set ws i b j (λ e. omega arith) in
      let shown : (j : ℕ) (ys : List ℕ) → j ≢ k → Shows ws j ys → Shows us j ys =
      λ j ys apart y. shows_set ws i b j ys (λ m l e. apart (omega arith)) y in
      let other : (j : ℕ) → done ws j ≡ 1 → j ≢ k =
      λ j is_done e. (let o = h.undone in let same : done ws j ≡ done ws k = ap (done ws) e in omega arith) in
      let seen : (p : ℕ × List ℕ) → SeenFits ws p → SeenFits us p =
      λ p q. (d p.0 ∙ q.0, shown p.0 p.1 (other p.0 q.0) q.1) in
      let more : count ws ≤ count us = omega arith in
      let fits = r.each_seat id v at in
      let grown : w.held ≡ Some (k, xs ++ b ∷ []) = ap (λ o. grown_held o b) held in
      let mine_held : HeldFits us w.held =
      subst (HeldFits us) (sym grown) (shows_push ws k i b xs room is inside (subst (HeldFits ws) held fits.held)) in (
        w,
        keeps,
        tt,
        record {
          wide = length-set ws i b ∙ wide;
          bounded = omega arith;
          each_place = λ j. (let p = r.each_place j in
              let t : total (holding j) (set s.views id w) ≡ total (holding j) s.views =
              same_total (holding j) s.views id v w at (ap (holding_in j) grown ∙ sym (ap (holding_in j) held)) in
              let dj = d j in record {
                claimed = λ l. (let c = p.claimed (omega arith) in omega arith);
                free = λ l. (let c = p.free (omega arith) in omega arith);
                owned = same_total (owning j) s.views id v w at refl ∙ p.owned ∙ sym dj;
                formed =
                    λ e. (let is_done : done ws j ≡ 1 = sym dj ∙ e in
                    let f = p.formed is_done in (f.0, shown j f.0 (other j is_done) f.1, f.2));
              });
          each_seat = seats_stay (Fits places us) s.views id w
              (record {
                on_board = fits.on_board;
                is_spent = λ z. absurd (omega arith);
                held = mine_held;
                seen = each_map (SeenFits ws) (SeenFits us) seen v.seen fits.seen;
                own = fits.own;
                reads = each_map (ReadFits ws) (ReadFits us) (reads_move ws us more seen) v.reads fits.reads;
                neat = record { published = fits.neat.published; stands = fits.neat.stands };
              })
              (λ j u apart e. fits_move places ws us u more seen
              (held_apart ws us k shown u.held (h.alone j u apart e) (r.each_seat j u e).held) (r.each_seat j u e));
          shares = same_total share_of s.views id v w at refl ∙ r.shares;
        },
        (refl, refl),
      )

  -- a pass that holds place k, and has written well-formed words there, may set the done word of place k to 1: the rule
  -- `Kept` allows this step
  pub finishes : (slots id : ℕ) (me : Me ℕ View) (i k : ℕ) (xs : List ℕ) →
      me.0.held ≡ Some (k, xs) → 0 < me.0.share → IsWellFormed xs → i ≡ 50 * k + 50
      → Allows (Kept places) slots id me i (λ _. 1) (λ _. published (step slots i 1 0 none) me 1)
  finishes slots id me i k xs held share formed is s r _ at _ =
      let v : View = me.0 in
      let ws : List ℕ = s.words in
      let us : List ℕ = set ws i 1 in
      let w : View = finished (Some (k, xs)) v in
      let h = holds s r id v k xs at held in
      let wide = r.wide in
      let bound = r.bounded in
      let inside : i < length ws = (let a = h.inside in omega arith) in
      let now : count us ≡ count ws = get_or-set_other ws i 0 1 0 (λ e. omega arith) in
      let here : done us k ≡ 1 = ap (λ (z : ℕ). get_or us z 0) (sym is) ∙ get_or-set_same ws i 1 0 inside in
      let else : (j : ℕ) → j ≢ k → done us j ≡ done ws j = λ j apart. done_set ws i 1 j (λ e. apart (omega arith)) in
      let shown : (j : ℕ) (ys : List ℕ) → Shows ws j ys → Shows us j ys =
      λ j ys y. shows_set ws i 1 j ys (λ m l e. omega arith) y in
      let still : (j : ℕ) → done ws j ≡ 1 → done us j ≡ 1 =
      λ j was. ⊎_elim (λ (e : j ≡ k). ap (done us) e ∙ here)
      (λ (apart : j ≡ k → ⊥). else j apart ∙ was) (cases_eq j k) in
      let seen : (p : ℕ × List ℕ) → SeenFits ws p → SeenFits us p = λ p q. (still p.0 q.0, shown p.0 p.1 q.1) in
      let more : count ws ≤ count us = omega arith in
      let fits = r.each_seat id v at in
      let mine : Shows ws k xs = subst (HeldFits ws) held fits.held in
      let new : SeenFits us (k, xs) = (here, shown k xs mine) in
      let kept : Kept places (stepped s i 1 id me.1 w keeps) = record {
        wide = length-set ws i 1 ∙ wide;
        bounded = omega arith;
        each_place = λ j. (let p = r.each_place j in
            let t = total_set (holding j) s.views id v w at in
            let o = total_set (owning j) s.views id v w at in
            let pushed : times j w.own ≡ times j v.own + (one_if (eqb k j) + 0) = total_append j v.own k in
            let hv : holding j v ≡ one_if (eqb k j) = ap (holding_in j) held in
            ⊎_elim
            (λ (e : k ≡ j).
            let one : one_if (eqb k j) ≡ 1 = ap (λ x. one_if (eqb x j)) e ∙ times_here j in
            let was : done ws j ≡ 0 = ap (done ws) (sym e) ∙ h.undone in
            let is_done : done us j ≡ 1 = ap (done us) (sym e) ∙ here in
            let before = p.claimed (let a = h.inside in omega arith) in
            let owned = p.owned in record {
              claimed = λ l. omega arith;
              free = λ l. absurd (let a = h.inside in omega arith);
              owned = omega arith;
              formed =
                  λ _. subst (λ z. (ys : List ℕ) × Shows us z ys × IsWellFormed ys) e (xs, shown k xs mine, formed);
            })
            (λ (e : k ≡ j → ⊥).
            let none_here : one_if (eqb k j) ≡ 0 = times_else k j e in
            let dj : done us j ≡ done ws j = else j (λ q. e (sym q)) in
            let owned = p.owned in record {
              claimed = λ l. (let c = p.claimed (omega arith) in omega arith);
              free = λ l. (let c = p.free (omega arith) in omega arith);
              owned = omega arith;
              formed = λ d. (let f = p.formed (sym dj ∙ d) in (f.0, shown j f.0 f.1, f.2));
            })
            (cases_eq k j));
        each_seat = seats_stay (Fits places us) s.views id w
            (record {
              on_board = fits.on_board;
              is_spent = λ z. absurd (omega arith);
              held = tt;
              seen = (new, each_map (SeenFits ws) (SeenFits us) seen v.seen fits.seen);
              own =
                  each_push (OwnFits w.seen) v.own k
                  (each_map (OwnFits v.seen) (OwnFits w.seen) (λ j f. (f.0, inr f.1, f.2)) v.own fits.own)
                  (xs, inl refl, formed.all);
              reads = (new, each_map (ReadFits ws) (ReadFits us) (reads_move ws us more seen) v.reads fits.reads);
              neat = neat_finished v k xs fits.neat;
            })
            (λ j u apart e. fits_move places ws us u more seen
            (held_stays ws us shown u.held (r.each_seat j u e).held) (r.each_seat j u e));
        shares = same_total share_of s.views id v w at refl ∙ r.shares;
      } in (w, keeps, tt, kept, (sym (ap (λ o. finished o v) held), refl, after places s us id v w at kept))
    where
      total_append : (j : ℕ) (own : List ℕ) (k : ℕ) → times j (own ++ k ∷ []) ≡ times j own + (one_if (eqb k j) + 0)
      total_append j own k = let h = total_push (λ x. one_if (eqb x j)) own k in omega arith
