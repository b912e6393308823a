-- Reading an input line by line: what was read at each turn, and what the reading answers where it stops.
--
-- `hears_as`: an answer equal to one that tells the truth of the lines read tells it too.
-- `memory_no_fault`: where memory ran out, the answer is not that the source failed.
use Rattle.std.proofs.Common.{◌≡◌, ◌≢◌, ℕ, ◌-◌, ◌^◌, ◌≤◌, ◌<◌, List, [], ◌∷◌, ◌++◌, length, Option, Some, None, Result}
use Rattle.std.proofs.Common.{Ok, Err, arith, ap, sym, ◌∙◌, append_assoc, append-nil, length-append, refl, inl, inr}
use Rattle.std.proofs.Common.{subst, ⊎_elim}
use Rattle.std.proofs.lemmas.List.Elements.{All-nil, All-push}
use Rattle.spec_text.specs.declared.line.Line.{Line}
use Rattle.spec_text.specs.declared.line.Line.TheVariants as line
use Rattle.lp_base.specs.LinesState.{LinesState}
use Rattle.lp_base.specs.NextLine.{GivesNext}
use Rattle.lp_base.specs.Taking.{ReadsLines}
use Rattle.lp_base.proofs.TakingLemmas.{reads_none, reads_line, reads_end, reads_until, given_line}
use Rattle.lp_base.specs.declared.lines.LineStop.{LineStop}
use Rattle.lp_base.specs.declared.lines.LineStop.TheVariants as stop
use Rattle.lp_line.specs.declared.hearing.Step.TheVariants as step
use Rattle.lp_line.specs.declared.hearing.Heard.{Heard}
use Rattle.lp_line.specs.declared.hearing.Heard.TheVariants as heard
use Rattle.lp_line.specs.Hearing.{Leads, IsGiven, AreGiven, HearsAt, HearsUntil, HearsNext}

-- a line that is neither the end nor too much takes at least one byte more, and at most 2 ^ 26 were taken in all
takes_more : {before after : Option (List ℕ)} {old new : LinesState} (next : Line (List ℕ)) →
    GivesNext before after old new (Ok next) →
    next ≢ line.End → next ≢ line.Over → (old.given < new.given) × (new.given ≤ 2 ^ 26)
takes_more {before} {after} {old} {new} next g no_end no_over =
    let given = given_line before after old g.bytes new next no_end no_over g.gives in (
      ⊎_elim
          (λ e. omega (arith, given.count, ap length e.0.cut, length-append e.0.raw (10 ∷ new.ahead)))
          (λ l. omega (arith, given.count, ap length l.0.all, l.0.some))
          given.taken,
      given.bound,
    )

-- given lines stay given with one more that is neither the end nor too long
one_more : (passed : List (Line (List ℕ))) (next : Line (List ℕ)) → AreGiven passed → next ≢ line.End →
    next ≢ line.Over → AreGiven (passed ++ next ∷ [])
one_more passed next given no_end no_over =
    let now : IsGiven next = (no_end, no_over) in All-push (λ (l : Line (List ℕ)). IsGiven l) passed next given now

-- a turn of the reading: lines were read from the start on, and what further lines say from the stage `at` on is what
-- they say from the first stage on behind these lines
pub record Turn {T R : Type 0} (Say : T → List (Line (List ℕ)) → Option R → Type 0) (count : T → ℕ) (first : T)
    (before now : Option (List ℕ)) (old reading : LinesState) (at : T) : Type 0 where
  pub passed : List (Line (List ℕ))
  pub reads : ReadsLines before now old reading passed
  pub given : AreGiven passed
  pub comes : (more : List (Line (List ℕ))) (answer : Option R) → Say at more answer → Say first (passed ++ more) answer
  pub kept : old.given ≤ reading.given
  pub few : count at ≤ reading.given
  pub small : count at ≤ 2 ^ 26

module _ {T R : Type 0} {Say : T → List (Line (List ℕ)) → Option R → Type 0} {count : T → ℕ} {first : T} where
  -- before anything is read, the reading is at a turn at which no lines were read
  pub started : (left : Option (List ℕ)) (reading : LinesState) → count first ≡ 0 →
      Turn Say count first left left reading reading first
  started left reading none = record {
    passed = [];
    reads = reads_none left reading;
    given = All-nil _;
    comes = λ more answer h. h;
    kept = omega arith;
    few = omega (arith, none);
    small = omega (arith, none);
  }

  -- at each turn the count of lines is below 2 ^ 32 - 1
  pub in_range : {before now : Option (List ℕ)} {old reading : LinesState} {at : T} →
      Turn Say count first before now old reading at → count at < 2 ^ 32 - 1
  in_range t = omega (arith, t.small)

  module _ {before now : Option (List ℕ)} {old reading : LinesState} {at : T}
      (t : Turn Say count first before now old reading at) (after : Option (List ℕ)) (new : LinesState) where
    -- a line that leads on brings the reading to the next turn, with this line read and at the stage to which it leads
    pub on_line : (here : Line (List ℕ)) → GivesNext now after reading new (Ok here) → here ≢ line.Over → (next : T) →
        Leads Say count at here (step.On next) → Turn Say count first before after old new next
    on_line here g no_over next leads =
        let more = takes_more here g leads.no_end no_over in
        record {
          passed = t.passed ++ here ∷ [];
          reads = reads_line here t.reads g leads.no_end no_over;
          given = one_more t.passed here t.given leads.no_end no_over;
          comes = λ behind answer h.
              subst (λ (ls : List (Line (List ℕ))). Say first ls answer)
              (sym (append_assoc t.passed (here ∷ []) behind))
              (t.comes (here ∷ behind) answer (leads.behind behind answer h));
          kept = omega (arith, t.kept, more.0);
          few = omega (arith, leads.counts, t.few, more.0);
          small = omega (arith, leads.counts, t.few, more.0, more.1);
        }

    -- a line that leads on and is not too long takes at least one byte more, and at most 2 ^ 26 are given in all
    pub goes_down : (here : Line (List ℕ)) → GivesNext now after reading new (Ok here) → here ≢ line.Over → (next : T) →
        Leads Say count at here (step.On next) → (reading.given < new.given) × (new.given ≤ 2 ^ 26)
    goes_down here g no_over next leads = takes_more here g leads.no_end no_over

    -- where no lines say nothing from the stage of a turn on, the lines read so far say nothing
    silent_so_far : Say at [] None → Say first t.passed None
    silent_so_far silent =
        subst (λ (ls : List (Line (List ℕ))). Say first ls None) (append-nil t.passed) (t.comes [] None silent)

    -- where the lines so far say nothing, and the next one leads to something said, it is heard at this line
    said_at : Say at [] None → (here : Line (List ℕ)) → GivesNext now after reading new (Ok here) → here ≢ line.End →
        here ≢ line.Over → (what : R) →
        Leads Say count at here (step.Says what) → HearsAt (Say first) before after old new what
    said_at silent here g no_end no_over what leads =
        let more = takes_more here g no_end no_over in
        record {
          earlier = t.passed;
          last = here;
          reads = reads_line here t.reads g no_end no_over;
          given = t.given;
          last_given = (no_end, no_over);
          silent = silent_so_far silent;
          says = λ behind. t.comes (here ∷ behind) (Some what) (leads behind);
          grows = omega (arith, t.kept, more.0);
          bound = more.1;
        }

    -- where the lines so far say nothing, they are heard up to what the next reading gives
    until : Say at [] None → (result : Result (Line (List ℕ)) LineStop) → GivesNext now after reading new result →
        HearsUntil (Say first) before after old result
    until silent result g =
        record { passed = t.passed; reads = reads_until t.reads g; given = t.given; silent = silent_so_far silent }

    -- where a line or the end of the input leads to a result, and the lines so far say nothing, the reading hears that
    -- result
    pub says_so : Say at [] None → (here : Line (List ℕ)) → GivesNext now after reading new (Ok here) →
        here ≢ line.Over → (what : R) →
        Leads Say count at here (step.Says what) → HearsNext (Say first) before after old new (Ok (heard.Says what))
    unfolding until
    says_so silent (line.Text bytes) g no_over what leads =
        inl (said_at silent (line.Text bytes) g (λ h. cc) no_over what leads)
    says_so silent (line.Long len) g no_over what leads =
        inl (said_at silent (line.Long len) g (λ h. cc) no_over what leads)
    says_so silent line.End g no_over what leads =
        inr (record { until = until silent (Ok line.End) g; says = t.comes (line.End ∷ []) (Some what) (leads []) })
    says_so silent line.Over g no_over what leads = absurd (no_over refl)

    -- where the source failed or memory ran out in place of a line, and the lines so far say nothing, the reading stops
    -- for that reason
    pub stopped : Say at [] None → (why : LineStop) → GivesNext now after reading new (Err why) →
        HearsNext (Say first) before after old new (Err why)
    stopped silent stop.Read g = until silent (Err stop.Read) g
    stopped silent stop.NoMemory g = record { passed = t.passed; reads = inr (reads_until t.reads g) }

    -- where the input is longer than may be read, and the lines so far say nothing, the reading hears that it is too
    -- long
    pub too_long : Say at [] None → GivesNext now after reading new (Ok line.Over) →
        HearsNext (Say first) before after old new (Ok heard.Over)
    too_long silent g = until silent (Ok line.Over) g

    -- where a line was read, and memory ran out for what it leads to, the reading stops for lack of memory
    pub wants : (here : Line (List ℕ)) → GivesNext now after reading new (Ok here) → here ≢ line.Over →
        HearsNext (Say first) before after old new (Err stop.NoMemory)
    wants (line.Text bytes) g no_over =
        record {
          passed = t.passed ++ line.Text bytes ∷ [];
          reads = inl (reads_line (line.Text bytes) t.reads g (λ h. cc) no_over);
        }
    wants (line.Long len) g no_over =
        record {
          passed = t.passed ++ line.Long len ∷ [];
          reads = inl (reads_line (line.Long len) t.reads g (λ h. cc) no_over);
        }
    wants line.End g no_over = record { passed = t.passed; reads = inl (reads_end t.reads g).0 }
    wants line.Over g no_over = absurd (no_over refl)

-- the same result
pub hears_as : {R : Type 0} (Say : List (Line (List ℕ)) → Option R →
    Type 0) (before after : Option (List ℕ)) (old new : LinesState) (result other : Result (Heard R) LineStop) →
    result ≡ other → HearsNext Say before after old new other → HearsNext Say before after old new result
hears_as {R} Say before after old new result other same h =
    subst (λ (r : Result (Heard R) LineStop). HearsNext Say before after old new r) (sym same) h

-- that memory runs out, and what is heard, is no fault of the source
pub memory_no_fault : {R P : Type 0} (result : Result R LineStop) → result ≡ Err stop.NoMemory →
    result ≡ Err stop.Read → P
memory_no_fault {R} result e h = absurd (differ (sym e ∙ h))
  where
    differ : ◌≡◌ {A = Result R LineStop} (Err stop.NoMemory) (Err stop.Read) → ⊥
    differ e = cc
