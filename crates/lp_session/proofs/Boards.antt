-- The parts of a session's step over a board are a whole step.
--
-- `found_fits_form`: what a look for a form's shape finds has that shape and is well formed.
-- `begins_with`: where a step begins with `begun`, and `begun` goes on with a form, the step begins by going on with
--   that form.
-- `works_with`: where the work of a step goes on with words that are pending, these are well formed, and of an end of
--   the session's model.
-- `replies_so`: a step that breaks off when it begins is a whole step without reads.
-- `rests_fit`: a session that awaits nothing keeps neither a form nor an answer to fit.
-- `calls_look`: one look, after which the pass is consistent, is what a step may call.
-- `calls_both`: a look, after which the pass is consistent, and then a publication of well-formed words are what a step
--   may call.
use Rattle.std.proofs.Common.{◌≡◌, List, [], ◌++◌, Option, IfSome, ControlFlow, Continue, Break}
use Rattle.std.proofs.Common.{refl, sym, ap, ◌∙◌, subst}
use Rattle.std.proofs.Common.{inl, inr, append-nil}
use Rattle.std.proofs.lemmas.List.{append_assoc}
use Rattle.spec_model.specs.Model.{Model}
use Rattle.spec_simplex.specs.Form.{Form}
use Rattle.spec_board.specs.Words.{IsWellFormed, shape_of}
use Rattle.spec_board.specs.declared.read.Put.{Put}
use Rattle.spec_board.specs.Reads.{Words, ExactRead, Looked, LookReads, PutReads, front}
use Rattle.spec_server.specs.Machine.{ExactAsk, ExactReply, State}
use Rattle.spec_server.specs.Step as step
use Rattle.basis_board.specs.declared.seats.View.{View}
use Rattle.basis_board.specs.declared.board.Look.{Look}
use Rattle.basis_board.specs.declared.board.Look.TheVariants.{Found, NoneReady}
use Rattle.basis_board.specs.Calls.{Looks, Puts}
use Rattle.basis_board.specs.Rule.{Consistent}
use Rattle.basis_board.specs.PassReads.{reads_of, looked_by, AddsLook, AddsPut}
use Rattle.basis_board.proofs.ReadTying.{looks_read, puts_read}
use Rattle.lp_session.specs.Boarding.{AddsStep, StepCalls}
use Rattle.lp_session.specs.declared.awaited.Pending.{Pending}
use Rattle.spec_server.specs.Halves.{Nothing, WhatIsFound, WhatBecameOf}
use Rattle.lp_session.specs.declared.awaited.Awaited.{Awaited}
use Rattle.lp_session.specs.declared.awaited.Awaited.TheVariants as awaited
use Rattle.lp_session.specs.Parts.{FitsForm, BeginsSo, WorksSo, PublishesSo, pending_of, awaits_of, AwaitedFits}

-- ---- a look

-- a look leaves the board with as many places as it had
places_kept : (shape : Words) (v w : View) (look : Look) → Looks shape v look w → w.places ≡ v.places
places_kept shape v w (NoneReady c) d = ap (λ (x : View). x.places) d.view
places_kept shape v w (Found k xs) f =
    ap (λ (x : View). x.places) f.finds.view ∙ ap (λ (x : View). x.places) f.down.view

-- the words that a look for a shape finds, if any, are well formed and have that shape
look_fits : (shape : Words) (v w : View) (look : Look) → Looks shape v look w →
    IfSome (looked_by look) (λ place. IsWellFormed place.words × (front place.words ≡ shape))
look_fits shape v w (NoneReady c) d = tt
look_fits shape v w (Found k xs) f = (f.finds.formed, f.finds.shape_is)

pub found_fits_form : (f : Form) (shape : Words) (v w : View) (look : Look) (found : Looked) → shape ≡ shape_of f →
    Looks shape v look w → found ≡ looked_by look → FitsForm f found
found_fits_form f shape v w look found is called told =
    subst (λ shape. IfSome found (λ place. IsWellFormed place.words × (front place.words ≡ shape))) is
    (subst (λ found. IfSome found (λ place. IsWellFormed place.words × (front place.words ≡ shape))) (sym told)
    (look_fits shape v w look called))

-- ---- the reads of a look and a put

-- where reads grow by some and then by others, they grow by both in that order
reads_both : (xs made both ys zs : List ExactRead) → ys ≡ xs ++ made → zs ≡ ys ++ both → zs ≡ xs ++ (made ++ both)
reads_both xs made both ys zs e f = f ∙ ap (λ rs. rs ++ both) e ∙ append_assoc xs made both

-- ---- how an ask begins
pub begins_with : (old : State) (asked : ExactAsk) (begun : ControlFlow ExactReply Form) (form : Form) (middle : State) →
    BeginsSo old asked begun middle → begun ≡ Continue form → BeginsSo old asked (Continue form) middle
begins_with old asked begun form middle h is = subst (λ begun. BeginsSo old asked begun middle) is h

pub works_with : (old : State) (found : Looked) (worked : ControlFlow ExactReply Pending) (pending : Pending)
    (new : State) → WorksSo old found worked new → worked ≡ Continue pending → PublishesSo old found pending new
works_with old found worked pending new h is = subst (λ worked. WorksSo old found worked new) is h

-- nothing is looked for
pub replies_so : (old : State) (asked : ExactAsk) (begun : ControlFlow ExactReply Form) (replied : ExactReply)
    (new : State) (v : View) → BeginsSo old asked begun new → begun ≡ Break replied → AddsStep old asked v replied new v
replies_so old asked begun replied new v h is = record {
  reads = [];
  step = record {
    begun = step.Answers replied new;
    begins = subst (λ begun. BeginsSo old asked begun new) is h;
    goes_on = (refl, refl, refl);
  };
  all = sym (append-nil (reads_of v));
}

module _ (old : State) (asked : ExactAsk) (form : Form) (middle : State)
    (begins : BeginsSo old asked (Continue form) middle) (v : View) (shape : Words) (is_shape : shape ≡ shape_of form)
    (w : View) (look : Look) (called : Looks shape v look w) (found : Looked) (told : found ≡ looked_by look) where
  -- the look adds its reads to those of the pass
  made : AddsLook shape look v w
  made = looks_read shape v w look called

  -- the reads that the look adds are those of a look that found this
  look_reads : LookReads shape made.made found
  look_reads = subst (LookReads shape made.made) (sym told) made.reads

  -- the request begins with a look for this shape
  begins_so : step.Begins old asked (step.Looks shape)
  begins_so = subst (λ shape. step.Begins old asked (step.Looks shape)) (sym is_shape) begins.0

  -- where a solve breaks off with a reply after its look, the look and the solve are the whole step, by this pass
  pub ends_so : (worked : ControlFlow ExactReply Pending) (replied : ExactReply) (new : State) →
      WorksSo middle found worked new → worked ≡ Break replied → AddsStep old asked v replied new w
  ends_so worked replied new works is = record {
    reads = made.made;
    step = record {
      begun = step.Looks shape;
      begins = begins_so;
      goes_on = record {
        looked = made.made;
        found = found;
        worked = step.Ends replied new;
        look = look_reads;
        works = subst (λ s. step.Works s found (step.Ends replied new)) begins.1
            (subst (λ worked. WorksSo middle found worked new) is works);
        concludes = (refl, refl, refl);
      };
    };
    all = made.all;
  }

  module _ (pending : Pending) (new : State) (publishes : PublishesSo middle found pending new) (u : View) (put : Put)
      (puts : Puts w pending.words put u) where
    -- the publication adds its reads to those of the pass
    tried : AddsPut pending.words put w u
    tried = puts_read pending.words w u put puts

    -- the reads that the publication adds are those of a put of these words among the board's places
    put_reads : PutReads v.places pending.words put tried.made
    put_reads =
        subst (λ places. PutReads places pending.words put tried.made) (places_kept shape v w look called) tried.reads

    -- the session's state is the old one while its words are published
    stays : new ≡ old
    stays = publishes.kept ∙ begins.1

    -- a step that begins, looks, works and publishes words adds a step with the reads of the look and of the put
    pub publishes_so : (replied : ExactReply) (third : State) → replied ≡ step.answered new pending.end →
        third ≡ step.after_put new (pending_of pending) put → AddsStep old asked v replied third u
    publishes_so replied third answer kept = record {
      reads = made.made ++ tried.made;
      step = record {
        begun = step.Looks shape;
        begins = begins_so;
        goes_on = record {
          looked = made.made;
          found = found;
          worked = step.Publishes (pending_of pending);
          look = look_reads;
          works = subst (λ s. step.Works s found (step.Publishes (pending_of pending))) begins.1 publishes.works;
          concludes = record {
            put = put;
            tried = tried.made;
            puts = put_reads;
            all = refl;
            answer = answer ∙ ap (λ s. step.answered s pending.end) stays;
            kept = kept ∙ ap (λ s. step.after_put s (pending_of pending) put) stays;
          };
        };
      };
      all = reads_both (reads_of v) made.made tried.made (reads_of w) (reads_of u) made.all tried.all;
    }

-- ---- nothing is awaited, whatever the model is
pub rests_fit : (model : Option Model) (awaits : Awaited) → awaits_of awaits ≡ Nothing → AwaitedFits model awaits
rests_fit model awaited.Nothing e = tt
rests_fit model (awaited.WhatIsFound form) e = let z : WhatIsFound (shape_of form) ≡ Nothing = e in cc
rests_fit model (awaited.WhatBecameOf pending) e = let z : WhatBecameOf (pending_of pending) ≡ Nothing = e in cc

-- ---- the calls
pub calls_look : (shape : Words) (look : Look) (v w : View) → Looks shape v look w → Consistent w → StepCalls v w
calls_look shape look v w called consistent = inr (shape, look, w, called, consistent, inl refl)

pub calls_both : (shape : Words) (look : Look) (words : Words) (put : Put) (v w u : View) → Looks shape v look w →
    Consistent w → IsWellFormed words → Puts w words put u → StepCalls v u
calls_both shape look words put v w u called consistent formed puts =
    inr (shape, look, w, called, consistent, inr (words, put, formed, puts))
