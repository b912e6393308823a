-- What the only pass of a board has published.
--
-- `only_first`: a pass of a board that knows what a new board's only pass knows, and so has the whole right to the
--   board, is the only pass of that board.
-- `stands_at`: where publications are in order, each place below their number was published, with as many words as a
--   basis.
-- `owns_all`: a neat pass owns as many places as it published.
-- `all_published`: where a pass owns as many places as it published, and owns just the places below n, it has published
--   n times.
-- `look_rests`: a look publishes nothing, and leaves the publications in order.
-- `rests_own`: a pass that owns as many places as it published still does later, where it published nothing since.
use Rattle.std.proofs.Common.{◌≡◌, ℕ, ◌+◌, ◌<◌, ◌≤◌, List, [], ◌∷◌, ◌++◌, length, get_or, refl, sym, ap, ap₂, ◌∙◌}
use Rattle.std.proofs.Common.{subst, ⊎_elim, inl, inr, arith, length-append}
use Rattle.std.proofs.lemmas.Bool.{cases_lt}
use Rattle.std.proofs.lemmas.List.{get_or_push, get_or_append_left}
use Rattle.spec_board.specs.Reads.{Words, basis_words}
use Rattle.basis_board.specs.declared.seats.View.{View}
use Rattle.basis_board.specs.declared.seats.RawRead.{RawRead}
use Rattle.basis_board.specs.declared.seats.RawRead.TheVariants.{Count, Open, See, Claim, Lost, Done}
use Rattle.basis_board.specs.declared.board.Look.{Look}
use Rattle.basis_board.specs.declared.board.Look.TheVariants.{Found, NoneReady}
use Rattle.atomic_table.specs.Seated.{TableId}
use Rattle.basis_board.specs.Board.{Has, first_view}
use Rattle.basis_board.specs.Known.{Known}
use Rattle.basis_board.specs.Rule.{published_places, Consistent, Neat, OwnsBelow}
use Rattle.basis_board.specs.Calls.{Passed, IsDownTo, Looks}
use Rattle.basis_board.proofs.OnceBelow.{length_own}
use Rattle.lp_script.specs.Only.{published_words, AreInOrder, IsOnly}

-- ---- the first pass of a board is the only one

-- what the only pass of a new board knows is consistent
first_consistent : (places : ℕ) → Consistent (first_view places)
first_consistent places = record {
  neat = record { published = refl; stands = tt };
  agree = tt;
  reads_agree = tt;
  formed = tt;
  own = tt;
  once = λ k. omega arith;
}

pub only_first : (board : TableId) (pass : Known) (places : ℕ) → pass.board ≡ board →
    pass.view ≡ first_view places → IsOnly board pass
only_first board pass places of_board first = record {
  of_board = of_board;
  whole = ap (λ (v : View). v.share) first;
  consistent = subst Consistent (sym first) (first_consistent places);
  in_order = subst (λ (v : View). AreInOrder v.reads) (sym first) tt;
}

-- ---- each place was published with the words that stand there
-- the reads publish place k with word list k of those that they publish, which has as many words as a basis
abbrev Stands : List RawRead → ℕ → Type 0
Stands reads k =
    Has reads (Done k (get_or (published_words reads) k [])) ×
    (length (get_or (published_words reads) k []) ≡ basis_words)

module _ (words : Words) (reads : List RawRead) (j : ℕ) (place : j ≡ length (published_words reads))
    (sized : length words ≡ basis_words) (k : ℕ) where
  -- a place that was published before stays so with one publication more
  stands_before : k < length (published_words reads) → Stands reads k → Stands (Done j words ∷ reads) k
  stands_before before h =
      let e : get_or (published_words reads ++ words ∷ []) k [] ≡ get_or (published_words reads) k [] =
      get_or_append_left (published_words reads) (words ∷ []) [] k before in
      (inr (subst (λ ws. Has reads (Done k ws)) (sym e) h.0), ap length e ∙ h.1)

  -- the place of one publication more is published with it
  stands_here : k ≡ length (published_words reads) → Stands (Done j words ∷ reads) k
  stands_here here =
      let e : get_or (published_words reads ++ words ∷ []) k [] ≡ words =
      get_or_push (published_words reads) words [] k (sym here) in
      (inl (ap₂ Done (place ∙ sym here) (sym e)), ap length e ∙ sized)

pub stands_at : (reads : List RawRead) → AreInOrder reads → (k : ℕ) → k < length (published_words reads) → Stands reads k
stands_at [] order k l = absurd (omega (arith, l))
stands_at (Done j words ∷ reads) order k l = ⊎_elim
    (λ (before : k < length (published_words reads)).
    stands_before words reads j order.0 order.1 k before (stands_at reads order.2 k before))
    (λ (late : length (published_words reads) ≤ k).
    stands_here words reads j order.0 order.1 k
    (omega (arith, late, l, length-append (published_words reads) (words ∷ []))))
    (cases_lt k (length (published_words reads)))
stands_at (Count c ∷ reads) order k l = let h = stands_at reads order k l in (inr h.0, h.1)
stands_at (Open j ∷ reads) order k l = let h = stands_at reads order k l in (inr h.0, h.1)
stands_at (See j words ∷ reads) order k l = let h = stands_at reads order k l in (inr h.0, h.1)
stands_at (Claim j ∷ reads) order k l = let h = stands_at reads order k l in (inr h.0, h.1)
stands_at (Lost c ∷ reads) order k l = let h = stands_at reads order k l in (inr h.0, h.1)

-- ---- they are as many as are owned

-- there are as many published places as there are words published for them
as_many : (reads : List RawRead) → length (published_places reads) ≡ length (published_words reads)
as_many [] = refl
as_many (Done k words ∷ reads) =
    omega (
      arith,
      as_many reads,
      length-append (published_places reads) (k ∷ []),
      length-append (published_words reads) (words ∷ []),
    )
as_many (Count c ∷ reads) = as_many reads
as_many (Open j ∷ reads) = as_many reads
as_many (See j words ∷ reads) = as_many reads
as_many (Claim j ∷ reads) = as_many reads
as_many (Lost c ∷ reads) = as_many reads

-- the pass owns as many places as its reads publish
abbrev pub OwnsAll : View → Type 0
OwnsAll v = length v.own ≡ length (published_words v.reads)

pub owns_all : (v : View) → Neat v → OwnsAll v
owns_all v neat = ap length neat.published ∙ as_many v.reads

pub all_published : (v : View) (n : ℕ) → OwnsAll v → OwnsBelow v n → n ≡ length (published_words v.reads)
all_published v n all owns = sym (length_own v n owns) ∙ all

-- ---- a look publishes nothing

-- reads of places passed by publish no words
passed_words : (shape : Words) (c k : ℕ) (added reads : List RawRead) → Passed shape c k added →
    published_words (added ++ reads) ≡ published_words reads
passed_words shape c k [] reads p = refl
passed_words shape c k (Open j ∷ added) reads p = passed_words shape c (k + 1) added reads p.1
passed_words shape c k (See j words ∷ added) reads p = passed_words shape c (k + 1) added reads p.1
passed_words shape c k (Count n ∷ added) reads p = absurd p.0
passed_words shape c k (Claim j ∷ added) reads p = absurd p.0
passed_words shape c k (Lost n ∷ added) reads p = absurd p.0
passed_words shape c k (Done j words ∷ added) reads p = absurd p.0

-- reads of places passed by leave the reads in order
passed_order : (shape : Words) (c k : ℕ) (added reads : List RawRead) → Passed shape c k added → AreInOrder reads →
    AreInOrder (added ++ reads)
passed_order shape c k [] reads p order = order
passed_order shape c k (Open j ∷ added) reads p order = passed_order shape c (k + 1) added reads p.1 order
passed_order shape c k (See j words ∷ added) reads p order = passed_order shape c (k + 1) added reads p.1 order
passed_order shape c k (Count n ∷ added) reads p order = absurd p.0
passed_order shape c k (Claim j ∷ added) reads p order = absurd p.0
passed_order shape c k (Lost n ∷ added) reads p order = absurd p.0
passed_order shape c k (Done j words ∷ added) reads p order = absurd p.0

-- the pass has published what it had, and nothing else
pub record Rests (v w : View) : Type 0 where
  pub places : w.places ≡ v.places
  pub share : w.share ≡ v.share
  pub own : w.own ≡ v.own
  pub words : published_words w.reads ≡ published_words v.reads
  pub order : AreInOrder w.reads

-- a look down to place k leaves the pass with what it had published, and nothing else
down_rests : (shape : Words) (c k : ℕ) (v w : View) → IsDownTo shape c k v w → AreInOrder v.reads → Rests v w
down_rests shape c k v w d order =
    subst (Rests v) (sym d.view)
    (record {
      places = refl;
      share = refl;
      own = refl;
      words = passed_words shape c k d.added (Count c ∷ v.reads) d.passed;
      order = passed_order shape c k d.added (Count c ∷ v.reads) d.passed order;
    })

pub look_rests : (shape : Words) (v w : View) (look : Look) → Looks shape v look w → AreInOrder v.reads → Rests v w
look_rests shape v w (NoneReady c) d order = down_rests shape c 0 v w d order
look_rests shape v w (Found k words) f order =
    let before = down_rests shape f.count (k + 1) v f.before f.down order in
    subst (Rests v) (sym f.finds.view)
    (record {
      places = before.places;
      share = before.share;
      own = before.own;
      words = before.words;
      order = before.order;
    })

pub rests_own : (v w : View) → Rests v w → OwnsAll v → OwnsAll w
rests_own v w rests all = ap length rests.own ∙ all ∙ sym (ap length rests.words)
