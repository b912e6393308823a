-- The lines of all bytes begin with those that end among the first ones, and a model that the lines say is one that they
-- spell.
--
-- `lines_begin`: the lines of bytes, with others behind them, begin with the lines that end among the first n bytes.
-- `spells_more`: lines that spell a model spell it with any lines behind them.
-- `said_of_read`: what is said of the bytes that were read is said of lines, whose model the input spells.
use Rattle.std.proofs.Common.{◌≡◌, ◌≢◌, ℕ, ◌+◌, Bool, true, false, nat_eq, eqb-true, List, [], ◌∷◌, ◌++◌, Some, Ok, Err}
use Rattle.std.proofs.Common.{refl, sym, ◌∙◌, ap, subst, append_assoc, append-nil, take, drop, inl, inr}
use Rattle.std.specs.Prelude.{All, Option}
use Rattle.std.specs.Str.Lines.{strip_carriage_return}
use Rattle.std.proofs.lemmas.List.{take-append-drop}
use Rattle.std.proofs.lemmas.List.Elements.{All-nil, All-cons, All-append}
use Rattle.spec_text.specs.declared.line.Line.{Line}
use Rattle.spec_text.specs.declared.line.Line.TheVariants.{End}
use Rattle.spec_text.specs.Lines.{line_of, lines_of, ended_lines_of, input_limit}
use Rattle.spec_text.proofs.LineLemmas.{lines_of_line, ended_lines_of_line, ended_lines_of_last}
use Rattle.spec_model.specs.declared.parts.SizeLimits.{SizeLimits}
use Rattle.spec_model.specs.Model.{Model}
use Rattle.spec_mps.specs.declared.style.Style.{Style}
use Rattle.spec_mps.specs.Reader.{State, start}
use Rattle.spec_mps.specs.Steps.{Outcome, More, Done, step, settled, judge, Spelled, SpellsWithin}
use Rattle.spec_program.specs.CommandLine.{ExactTextCommand}
use Rattle.spec_program.specs.TextLimits.{limits_of}
use Rattle.spec_commands.specs.InputSaid.{IsSaid}
use Rattle.spec_text_truth.specs.TrueOutput.{IsModelOf}

abbrev pub Lines : Type 0
Lines = List (Line (List ℕ))

-- ---- the lines of bytes

-- behind a beginning of a line, a text's ended lines stay the same with more bytes behind the text
goes_on : (line a c : List ℕ) → All (λ b. b ≢ 10) line →
    (more : Lines) × (lines_of (line ++ (a ++ c)) ≡ ended_lines_of (line ++ a) ++ more)
goes_on line [] c h = (
  lines_of (line ++ c),
  sym (ap (λ (ls : Lines). ls ++ lines_of (line ++ c)) (ap ended_lines_of (append-nil line) ∙ ended_lines_of_last line h)),
)
goes_on line (b ∷ a) c h = by (nat_eq b 10) refl (goes_on [] a c (All-nil (λ b. b ≢ 10))) (goes_on (line ++ b ∷ []) a c)
  where
    Goes : ℕ → Type 0
    Goes d = (more : Lines) × (lines_of (line ++ d ∷ (a ++ c)) ≡ ended_lines_of (line ++ d ∷ a) ++ more)

    at_feed : (more : Lines) × (lines_of (a ++ c) ≡ ended_lines_of a ++ more) → Goes 10
    at_feed r = (
      r.0,
      lines_of_line line (a ++ c) h ∙ ap (λ (ls : Lines). line_of (strip_carriage_return line) ∷ ls) r.1
          ∙ sym (ap (λ (ls : Lines). ls ++ r.0) (ended_lines_of_line line a h)),
    )

    by : (t : Bool) → nat_eq b 10 ≡ t →
        ((more : Lines) × (lines_of (a ++ c) ≡ ended_lines_of a ++ more)) →
        (All (λ b. b ≢ 10) (line ++ b ∷ []) → (more : Lines)
        × (lines_of ((line ++ b ∷ []) ++ (a ++ c)) ≡ ended_lines_of ((line ++ b ∷ []) ++ a) ++ more)) → Goes b
    by true e r more = subst Goes (sym (eqb-true b 10 e)) (at_feed r)
    by false e r more =
        let plain : All (λ b. b ≢ 10) (line ++ b ∷ []) =
        All-append (λ b. b ≢ 10) line (b ∷ []) h (All-cons (λ b. b ≢ 10) b [] (λ is. not_both is e) (All-nil (λ b. b ≢ 10))) in
        let rest = more plain in (
          rest.0,
          sym (ap lines_of (append_assoc line (b ∷ []) (a ++ c))) ∙ rest.1
              ∙ ap (λ (bytes : List ℕ). ended_lines_of bytes ++ rest.0) (append_assoc line (b ∷ []) a),
        )
      where
        not_both : b ≡ 10 → nat_eq b 10 ≡ false → ⊥
        not_both is other = let z : nat_eq 10 10 ≡ false = sym (ap (λ d. nat_eq d 10) is) ∙ other in cc

-- as far as an input may be read, or further, and whatever follows
pub lines_begin : (n : ℕ) (bytes more : List ℕ) →
    (rest : Lines) × (lines_of (bytes ++ more) ≡ ended_lines_of (take n bytes) ++ rest)
lines_begin n bytes more =
    let r = goes_on [] (take n bytes) (drop n bytes ++ more) (All-nil (λ b. b ≢ 10)) in
    let whole : take n bytes ++ (drop n bytes ++ more) ≡ bytes ++ more =
    sym (append_assoc (take n bytes) (drop n bytes) more)
    ∙ ap (λ (all : List ℕ). all ++ more) (take-append-drop n bytes) in
    (r.0, sym (ap lines_of whole) ∙ r.1)

-- ---- what they spell

-- where lines spell a model, they spell it with more lines behind them
spelled_more : (limits : SizeLimits) (style : Style) (s : State) (n : ℕ) (lines more : Lines) (m : Model) →
    judge limits style s n lines ≡ Spelled m → judge limits style s n (lines ++ more) ≡ Spelled m
spelled_more limits style s n [] more m e = cc
spelled_more limits style s n (line ∷ lines) more m e =
    by (step limits style s line) e (λ t. spelled_more limits style t (n + 1) lines more m)
  where
    by : (o : Outcome) → settled n (λ t. judge limits style t (n + 1) lines) o ≡ Spelled m →
        ((t : State) → judge limits style t (n + 1) lines ≡ Spelled m →
        judge limits style t (n + 1) (lines ++ more) ≡ Spelled m) →
        settled n (λ t. judge limits style t (n + 1) (lines ++ more)) o ≡ Spelled m
    by (Ok (More t)) h go = go t h
    by (Ok (Done d)) h go = h
    by (Err why) h go = cc

pub spells_more : (limits : SizeLimits) (style : Style) (lines more : Lines) (m : Model) →
    SpellsWithin limits style lines m → SpellsWithin limits style (lines ++ more) m
spells_more limits style lines more m e = spelled_more limits style start 1 lines more m e

-- the end of the input ends no text: what lines spell with it, they spell without it
spelled_before : (limits : SizeLimits) (style : Style) (s : State) (n : ℕ) (lines : Lines) (m : Model) →
    judge limits style s n (lines ++ End ∷ []) ≡ Spelled m → judge limits style s n lines ≡ Spelled m
unfolding step
spelled_before limits style s n [] m e = cc
spelled_before limits style s n (line ∷ lines) m e =
    by (step limits style s line) e (λ t. spelled_before limits style t (n + 1) lines m)
  where
    by : (o : Outcome) → settled n (λ t. judge limits style t (n + 1) (lines ++ End ∷ [])) o ≡ Spelled m →
        ((t : State) → judge limits style t (n + 1) (lines ++ End ∷ []) ≡ Spelled m →
        judge limits style t (n + 1) lines ≡ Spelled m) →
        settled n (λ t. judge limits style t (n + 1) lines) o ≡ Spelled m
    by (Ok (More t)) h go = go t h
    by (Ok (Done d)) h go = h
    by (Err why) h go = cc

-- ---- what was said of the bytes that were read

-- some lines say it, and what these spell the lines of the input spell
pub record IsSaidOf {R : Type 0} (said : Lines → Option R) (command : ExactTextCommand) (style : Style)
    (after : Option (List ℕ)) (read : List ℕ) (what : R) : Type 0 where
  pub lines : Lines
  pub says : said lines ≡ Some what
  pub spells : (m : Model) → SpellsWithin (limits_of command) style lines m → IsModelOf command style after read m

pub said_of_read : {R : Type 0} (said : Lines → Option R) (command : ExactTextCommand) (style : Style)
    (after : Option (List ℕ)) (read : List ℕ)
    (what : R) → IsSaid said after read what → IsSaidOf said command style after read what
said_of_read said command style after read what (inl early) =
    let first : Lines = ended_lines_of (take input_limit read) in
    record {
      lines = first;
      says = subst (λ (bytes : List ℕ). said (ended_lines_of (take input_limit bytes)) ≡ Some what) (append-nil read) (early []);
      spells = λ m h. inr λ more.
          let begins = lines_begin input_limit read more in
          subst (λ (ls : Lines). SpellsWithin (limits_of command) style ls m) (sym begins.1)
          (spells_more (limits_of command) style first begins.0 m h);
    }
said_of_read said command style after read what (inr ends) = record {
  lines = lines_of read ++ End ∷ [];
  says = ends.all;
  spells = λ m h. inl (ends.at_end, spelled_before (limits_of command) style start 1 (lines_of read) m h);
}
