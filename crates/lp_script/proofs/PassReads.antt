-- What the only pass of a board reads in a step of a session is as the places are.
use Rattle.std.proofs.Common.{◌≡◌, ℕ, inl, inr, List, [], ◌∷◌, ◌++◌, length, refl, sym, ap, ◌∙◌, subst}
use Rattle.std.proofs.lemmas.List.{append_assoc}
use Rattle.spec_board.specs.declared.read.Read.TheVariants as read
use Rattle.spec_board.specs.Reads.{Words, basis_words}
use Rattle.spec_board.specs.Places.{logged, Plays}
use Rattle.spec_server.specs.Machine.{ExactAsk, ExactReply, State}
use Rattle.basis_board.specs.declared.seats.View.{View}
use Rattle.basis_board.specs.declared.seats.RawRead.{RawRead}
use Rattle.basis_board.specs.declared.seats.RawRead.TheVariants.{Count, Claim, Done}
use Rattle.basis_board.specs.declared.board.Look.{Look}
use Rattle.spec_board.specs.declared.read.Put.{Put}
use Rattle.basis_board.specs.Board.{Has}
use Rattle.basis_board.specs.Rule.{Consistent}
use Rattle.basis_board.specs.Calls.{Looks, Puts}
use Rattle.basis_board.proofs.Totals.{each_has, has_right}
use Rattle.lp_session.specs.Boarding.{AddsStep, StepCalls, MayPut}
use Rattle.lp_script.specs.Only.{published_words, AreInOrder, sharing_of}
use Rattle.lp_script.specs.Sharing.{as_places, SharesStep}
use Rattle.lp_script.proofs.Plays.{reads_since, has_newest, Played, played_on, played_each}
use Rattle.lp_script.proofs.Only.{OwnsAll, owns_all, look_rests, rests_own}
use Rattle.lp_script.proofs.Sights.{look_sees}
use Rattle.lp_script.proofs.Puts.{tried, put_reads, put_places, put_played, put_order}
use Rattle.lp_script.proofs.PublishedWords.{IsSized, step_sized}

-- from v to u the pass noted more reads, which the places that are done answer one after the other; its publications
-- are still in order
pub record Goes (v u : View) : Type 0 where
  pub more : List RawRead
  pub reads : u.reads ≡ more ++ v.reads
  pub places : u.places ≡ v.places
  pub played : Played v.places (published_words v.reads) more (published_words u.reads)
  pub order : AreInOrder u.reads

module _ (v u : View) (now : Consistent v) (whole : v.share ≡ 64) (order : AreInOrder v.reads) (later : Consistent u)
    (sized : (k : ℕ) (words : Words) (old : List RawRead) → u.reads ≡ (Done k words ∷ old) ++ v.reads →
    length words ≡ basis_words) where
  -- ---- a look
  -- a look of the only pass, whose reads u still has, makes reads that go on as the places are
  look_goes : (shape : Words) (look : Look) (w : View) → Looks shape v look w →
      ((r : RawRead) → Has w.reads r → Has u.reads r) → Goes v w
  look_goes shape look w called stay =
      let rests = look_rests shape v w look called order in
      let sees = look_sees shape v w u look called now whole order later stay in
      record {
        more = sees.more;
        reads = sees.reads;
        places = rests.places;
        played = subst (Played v.places (published_words v.reads) sees.more) (sym rests.words)
            (played_each v.places (published_words v.reads) sees.more sees.stays);
        order = rests.order;
      }

  -- ---- a look and a put
  -- a look and then a put of the only pass make reads that go on as the places are
  put_goes : (shape : Words) (look : Look) (w : View) (words : Words) (put : Put) → Looks shape v look w →
      Puts w words put u → Goes v u
  put_goes shape look w words put called puts =
      let rests = look_rests shape v w look called order in
      let all : OwnsAll w = rests_own v w rests (owns_all v now.neat) in
      let both : w.share ≡ 64 = rests.share ∙ whole in
      let more = tried w u words put puts in
      let reads : u.reads ≡ more ++ w.reads = put_reads w u words put puts in
      let first : Goes v w =
      look_goes shape look w called (λ r h. subst (λ rs. Has rs r) (sym reads) (has_right more w.reads r h)) in
      let since : u.reads ≡ (more ++ first.more) ++ v.reads =
      reads ∙ ap (λ rs. more ++ rs) first.reads ∙ sym (append_assoc more first.more v.reads) in
      record {
        more = more ++ first.more;
        reads = since;
        places = put_places w u words put puts ∙ first.places;
        played = played_on v.places (published_words v.reads) (published_words w.reads) (published_words u.reads)
            first.more more first.played
            (subst (λ n. Played n (published_words w.reads) more (published_words u.reads)) first.places
            (put_played w u words all both put puts));
        order = put_order w u words all both put puts first.order
            (λ k is. sized k words ((Claim k ∷ Count k ∷ []) ++ first.more)
            (since ∙ ap (λ rs. (rs ++ first.more) ++ v.reads) is));
      }

  -- where a look is followed by a put or by nothing, the reads go on as the places are
  may_go : (shape : Words) (look : Look) (w : View) → Looks shape v look w → MayPut w u → Goes v u
  may_go shape look w called (inl e) =
      subst (Goes v) (sym e)
      (look_goes shape look w called (λ r h. subst (λ (x : View). Has x.reads r) (sym e) h))
  may_go shape look w called (inr puts) = put_goes shape look w puts.0 puts.1 called puts.3

  -- the looks and puts of a step make reads that go on as the places are
  calls_go : StepCalls v u → Goes v u
  calls_go (inl e) =
      subst (Goes v) (sym e)
      (record { more = []; reads = refl; places = refl; played = λ session. refl; order = order })
  calls_go (inr calls) = may_go calls.0 calls.1 calls.2 calls.3 calls.5

-- ---- a step
module _ (before : State) (asked : ExactAsk) (v : View) (replied : ExactReply) (after : State) (u : View)
    (adds : AddsStep before asked v replied after u) where
  -- where the newest read of a session's step says that place k was done with these words, they are as many as those of
  -- a basis
  newest_sized : (k : ℕ) (words : Words) (old : List RawRead) → u.reads ≡ (Done k words ∷ old) ++ v.reads →
      length words ≡ basis_words
  newest_sized k words old e =
      each_has IsSized adds.reads (read.Done k words)
      (step_sized v.places before asked adds.reads replied after adds.step)
      (subst (λ rs. Has rs (read.Done k words)) (reads_since v u (Done k words ∷ old) adds.reads e adds.all)
      (has_newest (Done k words) old))

  -- where the reads of a step go on from those before as the places are, the step shares the places with others
  pub shares_so : Goes v u → SharesStep before asked (sharing_of v) replied after (sharing_of u)
  shares_so goes = record {
    reads = adds.reads;
    step = adds.step;
    shares = record {
      places = goes.places;
      played = λ session.
          subst (λ rs. Plays v.places (as_places (published_words v.reads)) (logged session rs)
          (as_places (published_words u.reads))) (reads_since v u goes.more adds.reads goes.reads adds.all)
          (goes.played session);
    };
  }

  -- where a step of the only, whole pass of a board makes looks and puts, its reads go on from those before as the
  -- places are
  pub step_goes : StepCalls v u → Consistent v → v.share ≡ 64 → AreInOrder v.reads → Consistent u → Goes v u
  step_goes calls now whole order later = calls_go v u now whole order later newest_sized calls
