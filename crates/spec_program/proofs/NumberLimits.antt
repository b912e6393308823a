-- The numbers of a command line are within their limits.
--
-- `none_is_not`: no option is both `None` and `Some a`.
-- `command-fits`: the numbers of a command line that words spell are within the limits of its command.
use Rattle.std.proofs.Common.{◌≡◌, ℕ, ◌+◌, ◌-◌, ◌*◌, ◌≤◌, Bool, true, false, ◌&&◌, not, cond, nat_le, nat_lt, arith}
use Rattle.std.proofs.Common.{List, [], ◌∷◌, length, Option, Some, None, refl, subst, ⊎_elim}
use Rattle.std.specs.Prelude.{codes, option_map, option_and_then}
use Rattle.std.specs.List.{list_all}
use Rattle.std.proofs.lemmas.Bool.{leb-true, eqb-false, and_parts, not-true, cases_lt}
use Rattle.spec_text.specs.Words.{same}
use Rattle.spec_mps.specs.declared.style.Style.{Style}
use Rattle.spec_mps.specs.NumberText.{spelled_from}
use Rattle.spec_mps.specs.Shapes.{look_up}
use Rattle.spec_mps.proofs.DigitLemmas.{spelled_grows}
use Rattle.spec_server.specs.Command.{is_digit, begins_with_zero, number_to}
use Rattle.spec_program.specs.CommandLine.{Word, ExactLine, ExactTextCommand, Given, given_in, given_or, form_given, workers_of, workers_given}
use Rattle.spec_program.specs.CommandLine.{places_of, places_given, links_of, links_given, seed_of, row_count_of, column_count_of}
use Rattle.spec_program.specs.CommandLine.{Options, Row, is_plain, applied, run_row, text_row}
use Rattle.spec_program.specs.CommandLine.{generate_with, generate_row, serve_with, serve_row, asked_by}
use Rattle.spec_program.specs.CommandLine.{is_all, moved_of, name_of, range_with, range_row}
use Rattle.spec_program.specs.CommandLine.{by_width, wide_row}
use Rattle.spec_program.specs.CommandLine.{command_line_of}
use Rattle.spec_program.specs.declared.command_line.CommandLine.TheVariants.{Run, Read, Generate, Serve}
use Rattle.spec_program.specs.declared.command_line.Moved.{Moved}
use Rattle.spec_program.specs.declared.command_line.TextCommand.TheVariants.{Solve, SolveWide, Check, CheckWide, Basis, BasisWide, Presolve, Iis, Range, RangeAll}
use Rattle.spec_server.specs.Shared.{IsWorkers, IsPlaces}
use Rattle.spec_program.specs.Fits.{IsLinks, Fits}

-- ---- numbers

pub none_is_not : {A : Type 0} (a : A) → ◌≡◌ {A = Option A} None (Some a) → ⊥
none_is_not a e = cc

-- where a number is given if five tests are true, and one is given, the last three are true and both are the same
all_five : (s t u v w : Bool) (k n : ℕ) → cond (s && t && u && v && w) (Some k) None ≡ Some n →
    (u ≡ true) × (v ≡ true) × (w ≡ true) × (k ≡ n)
all_five true true true true true k n e = let same : k ≡ n = cc in (refl, refl, refl, same)
all_five true true true true false k n e = absurd (none_is_not n e)
all_five true true true false w k n e = absurd (none_is_not n e)
all_five true true false v w k n e = absurd (none_is_not n e)
all_five true false u v w k n e = absurd (none_is_not n e)
all_five false t u v w k n e = absurd (none_is_not n e)

-- a number that is read from a word with a last value is at least 1 and at most the last
number-within : (last digits : ℕ) (text : List ℕ) (n : ℕ) → number_to last digits text ≡ Some n → (1 ≤ n) × (n ≤ last)
number-within last digits [] n e = absurd (none_is_not n e)
number-within last digits (b ∷ bs) n e =
    let tests = all_five (nat_lt 0 (length (b ∷ bs))) (nat_le (length (b ∷ bs)) digits) (list_all is_digit (b ∷ bs))
    (not (begins_with_zero (b ∷ bs))) (nat_le (spelled_from 0 (b ∷ bs)) last) (spelled_from 0 (b ∷ bs)) n e in
    let digit : is_digit b ≡ true = (and_parts (is_digit b) (list_all is_digit bs) tests.0).0 in
    let low : 48 ≤ b = leb-true 48 b (and_parts (nat_le 48 b) (nat_le b 57) digit).0 in
    let other : b ≡ 48 → ⊥ = eqb-false b 48 (not-true (begins_with_zero (b ∷ bs)) tests.1) in
    let high : 49 ≤ b = ⊎_elim (λ h. h) (λ h. absurd (other (omega (arith, low, h)))) (cases_lt 48 b) in
    let more = spelled_grows (0 * 10 + (b - 48)) bs in
    let within = leb-true (spelled_from 0 (b ∷ bs)) last tests.2 in
    let same = tests.3 in
    (omega (arith, high, more, same), omega (arith, within, same))

-- a number of workers that is read, or stands in for none given, is within its limits
workers-within : (options : Options) (k : ℕ) → workers_given options ≡ Some k → IsWorkers k
unfolding workers_of
workers-within options k e = by (look_up (codes "--workers") options) e
  where
    by : (given : Option Word) → given_or 1 workers_of given ≡ Some k → IsWorkers k
    by None h = let same : 1 ≡ k = cc in (omega (arith, same), omega (arith, same))
    by (Some word) h = number-within 16 2 word k h

-- a number of places that is read, or stands in for none given, is within its limits
places-within : (options : Options) (n : ℕ) → places_given options ≡ Some n → IsPlaces n
unfolding places_of
places-within options n e = by (look_up (codes "--places") options) e
  where
    by : (given : Option Word) → given_or 256 places_of given ≡ Some n → IsPlaces n
    by None h = let same : 256 ≡ n = cc in (omega (arith, same), omega (arith, same))
    by (Some word) h = number-within 1024 7 word n h

-- a number of links that is read, or stands in for none given, is within its limits
links-within : (options : Options) (n : ℕ) → links_given options ≡ Some n → IsLinks n
unfolding links_of
links-within options n e = by (look_up (codes "--each") options) e
  where
    by : (given : Option Word) → given_or 1 links_of given ≡ Some n → IsLinks n
    by None h = let same : 1 ≡ n = cc in (omega (arith, same), omega (arith, same))
    by (Some word) h = number-within 1000 4 word n h

-- a number of rows that is read from a word is at most 256
rows-within : (word : Word) (n : ℕ) → row_count_of word ≡ Some n → n ≤ 256
unfolding row_count_of
rows-within word n e = (number-within 256 3 word n e).1

-- a number of columns that is read from a word is at most 512
columns-within : (word : Word) (n : ℕ) → column_count_of word ≡ Some n → n ≤ 512
unfolding column_count_of
columns-within word n e = (number-within 512 3 word n e).1

-- ---- commands

-- where each command that a row gives has numbers within limits, each command that words give by that row has
row-fits : (row : Row) (words : List Word) (command : ExactLine) →
    ((given : Given) → row.asks given ≡ Some command → Fits command) → asked_by words row ≡ Some command →
    Fits command
row-fits row words command fits e = by (given_in (row.plain words) row.names row.switches words) e
  where
    by : (given : Option Given) → option_and_then row.asks given ≡ Some command → Fits command
    by None h = absurd (none_is_not command h)
    by (Some given) h = fits given h

-- where numbers of workers and places are within limits, so are those of the command line `run` with them
run-fits_by : (workers places : Option ℕ) (command : ExactLine) →
    ((k : ℕ) → workers ≡ Some k → IsWorkers k) → ((n : ℕ) → places ≡ Some n → IsPlaces n) →
    applied (option_map Run workers) places ≡ Some command → Fits command
run-fits_by None places command w p e = absurd (none_is_not command e)
run-fits_by (Some k) None command w p e = absurd (none_is_not command e)
run-fits_by (Some k) (Some n) command w p e =
    let same : Run k n ≡ command = cc in subst Fits same (w k refl, p n refl)

-- the numbers of a command line `run` are within their limits
run-fits : (words : List Word) (command : ExactLine) → asked_by words run_row ≡ Some command → Fits command
run-fits words command e =
    row-fits run_row words command
    (λ given h. run-fits_by (workers_given given.options) (places_given given.options) command
    (workers-within given.options) (places-within given.options) h) e

-- the numbers of a command line that reads a text are within their limits
read-fits : (asked : ExactTextCommand) (style : Option Style) (command : ExactLine) →
    option_map (Read asked) style ≡ Some command → Fits command
read-fits asked None command e = absurd (none_is_not command e)
read-fits asked (Some style) command e = let same : Read asked style ≡ command = cc in subst Fits same tt

-- a command that reads a text has numbers within limits
text-fits : (asked : ExactTextCommand) (words : List Word) (command : ExactLine) →
    asked_by words (text_row asked) ≡ Some command → Fits command
text-fits asked words command e =
    row-fits (text_row asked) words command (λ given h. read-fits asked (form_given given.options) command h) e

-- a command with `--wide` or without has numbers within limits
wide-fits : (narrow wide : ExactTextCommand) (words : List Word) (command : ExactLine) →
    asked_by words (wide_row narrow wide) ≡ Some command → Fits command
wide-fits narrow wide words command e =
    row-fits (wide_row narrow wide) words command
    (λ given h. read-fits (by_width narrow wide (look_up (codes "--wide") given.options))
    (form_given given.options) command h) e

-- the numbers of a command line `range` of a cost or a right side are within their limits
one-fits : (moved : Option Moved) (name : Option Word) (style : Option Style) (command : ExactLine) →
    applied (option_map Read (applied (option_map Range moved) name)) style ≡ Some command → Fits command
one-fits None name style command e = absurd (none_is_not command e)
one-fits (Some w) None style command e = absurd (none_is_not command e)
one-fits (Some w) (Some n) style command e = read-fits (Range w n) style command e

-- the words behind `range` give a command whose numbers are within limits
range_with-fits : (words : List Word) (options : Options) (command : ExactLine) →
    range_with words options ≡ Some command → Fits command
range_with-fits [] options command e = absurd (none_is_not command e)
range_with-fits (what ∷ []) options command e = by (is_all what) (form_given options) e
  where
    by : (t : Bool) (style : Option Style) → cond t (option_map (Read RangeAll) style) None ≡ Some command → Fits command
    by true style h = read-fits RangeAll style command h
    by false style h = absurd (none_is_not command h)
range_with-fits (what ∷ name ∷ []) options command e =
    one-fits (moved_of what) (name_of name) (form_given options) command e
range_with-fits (what ∷ name ∷ word ∷ words) options command e = absurd (none_is_not command e)

-- the numbers of a command line `range` are within their limits
range-fits : (words : List Word) (command : ExactLine) → asked_by words range_row ≡ Some command → Fits command
range-fits words command e =
    row-fits range_row words command (λ given h. range_with-fits given.plain given.options command h) e

-- where rows are at most 256 and columns at most 512, the numbers of the command line `gen` are within limits
generate-fits_by : (seed rows columns : Option ℕ) (command : ExactLine) →
    ((n : ℕ) → rows ≡ Some n → n ≤ 256) → ((n : ℕ) → columns ≡ Some n → n ≤ 512) →
    applied (applied (option_map Generate seed) rows) columns ≡ Some command → Fits command
generate-fits_by None rows columns command r c e = absurd (none_is_not command e)
generate-fits_by (Some s) None columns command r c e = absurd (none_is_not command e)
generate-fits_by (Some s) (Some n) None command r c e = absurd (none_is_not command e)
generate-fits_by (Some s) (Some n) (Some k) command r c e =
    let same : Generate s n k ≡ command = cc in subst Fits same (r n refl, c k refl)

-- the words behind `gen` give a command whose numbers are within limits
generate_with-fits : (words : List Word) (command : ExactLine) → generate_with words ≡ Some command → Fits command
generate_with-fits [] command e = absurd (none_is_not command e)
generate_with-fits (seed ∷ []) command e = absurd (none_is_not command e)
generate_with-fits (seed ∷ rows ∷ []) command e = absurd (none_is_not command e)
generate_with-fits (seed ∷ rows ∷ columns ∷ []) command e =
    generate-fits_by (seed_of seed) (row_count_of rows) (column_count_of columns) command (rows-within rows)
    (columns-within columns) e
generate_with-fits (seed ∷ rows ∷ columns ∷ word ∷ words) command e = absurd (none_is_not command e)

-- the numbers of a command line `gen` are within their limits
generate-fits : (words : List Word) (command : ExactLine) → asked_by words generate_row ≡ Some command → Fits command
generate-fits words command e =
    row-fits generate_row words command (λ given h. generate_with-fits given.plain command h) e

-- where numbers of workers, links and places are within limits, so are those of the command line `serve`
serve-fits_by : (workers each places : Option ℕ) (command : ExactLine) →
    ((k : ℕ) → workers ≡ Some k → IsWorkers k) → ((c : ℕ) → each ≡ Some c → IsLinks c) →
    ((n : ℕ) → places ≡ Some n → IsPlaces n) →
    applied (applied (option_map Serve workers) each) places ≡ Some command → Fits command
serve-fits_by None each places command w l p e = absurd (none_is_not command e)
serve-fits_by (Some k) None places command w l p e = absurd (none_is_not command e)
serve-fits_by (Some k) (Some c) None command w l p e = absurd (none_is_not command e)
serve-fits_by (Some k) (Some c) (Some n) command w l p e =
    let same : Serve k c n ≡ command = cc in subst Fits same (w k refl, l c refl, p n refl)

-- the words behind `serve` give a command whose numbers are within limits
serve_with-fits : (words : List Word) (options : Options) (command : ExactLine) →
    serve_with words options ≡ Some command → Fits command
serve_with-fits [] options command e = absurd (none_is_not command e)
serve_with-fits (address ∷ word ∷ words) options command e = absurd (none_is_not command e)
serve_with-fits (address ∷ []) options command e =
    by (is_plain address) (workers_given options) (links_given options) (places_given options)
    (workers-within options) (links-within options) (places-within options) e
  where
    by : (t : Bool) (k c n : Option ℕ) → ((v : ℕ) → k ≡ Some v → IsWorkers v) → ((v : ℕ) → c ≡ Some v → IsLinks v) →
        ((v : ℕ) → n ≡ Some v → IsPlaces v) →
        cond t (applied (applied (option_map Serve k) c) n) None ≡ Some command → Fits command
    by true k c n w l p h = serve-fits_by k c n command w l p h
    by false k c n w l p h = absurd (none_is_not command h)

-- the numbers of a command line `serve` are within their limits
serve-fits : (words : List Word) (command : ExactLine) → asked_by words serve_row ≡ Some command → Fits command
serve-fits words command e =
    row-fits serve_row words command (λ given h. serve_with-fits given.plain given.options command h) e

-- the row of a command's word, by whether it is each of the words
abbrev pub row_of : Bool → Bool → Bool → Bool → Bool → Bool → Bool → Bool → Bool → Option Row
row_of r s c b p i a g v =
    cond r (Some run_row)
    (cond s (Some (wide_row Solve SolveWide))
    (cond c (Some (wide_row Check CheckWide))
    (cond b (Some (wide_row Basis BasisWide))
    (cond p (Some (text_row Presolve))
    (cond i (Some (text_row Iis))
    (cond a (Some range_row) (cond g (Some generate_row) (cond v (Some serve_row) None))))))))

pub command-fits : (words : List Word) (command : ExactLine) → command_line_of words ≡ Some command → Fits command
unfolding command_line_of
command-fits [] command e = absurd (none_is_not command e)
command-fits (word ∷ words) command e =
    by (same word (codes "run")) (same word (codes "solve")) (same word (codes "check")) (same word (codes "basis"))
    (same word (codes "presolve")) (same word (codes "iis")) (same word (codes "range")) (same word (codes "gen"))
    (same word (codes "serve")) e
  where
    by : (r s c b p i a g v : Bool) → option_and_then (asked_by words) (row_of r s c b p i a g v) ≡ Some command →
        Fits command
    by true s c b p i a g v h = run-fits words command h
    by false true c b p i a g v h = wide-fits Solve SolveWide words command h
    by false false true b p i a g v h = wide-fits Check CheckWide words command h
    by false false false true p i a g v h = wide-fits Basis BasisWide words command h
    by false false false false true i a g v h = text-fits Presolve words command h
    by false false false false false true a g v h = text-fits Iis words command h
    by false false false false false false true g v h = range-fits words command h
    by false false false false false false false true v h = generate-fits words command h
    by false false false false false false false false true h = serve-fits words command h
    by false false false false false false false false false h = absurd (none_is_not command h)
