-- A command line that serves has an address, and no other has.
use Rattle.std.proofs.Common.{◌≡◌, ℕ, Bool, true, false, List, [], ◌∷◌, Option, Some, None, ap}
use Rattle.std.proofs.Common.{subst}
use Rattle.std.specs.Prelude.{codes, option_map, option_and_then}
use Rattle.spec_text.specs.Words.{same}
use Rattle.spec_mps.specs.declared.style.Style.{Style}
use Rattle.spec_mps.specs.Shapes.{look_up}
use Rattle.spec_program.specs.CommandLine.{Word, ExactLine, ExactTextCommand, Given, given_in, form_given, workers_given, places_given, seed_of}
use Rattle.spec_program.specs.CommandLine.{row_count_of, column_count_of, Row, applied, run_row, text_row}
use Rattle.spec_program.specs.CommandLine.{generate_with, generate_row, serve_row, asked_by, command_line_of}
use Rattle.spec_program.specs.CommandLine.{served_at, address_of, range_row, by_width, wide_row}
use Rattle.spec_program.specs.declared.command_line.CommandLine.TheVariants.{Run, Read, Generate, Serve}
use Rattle.spec_program.specs.declared.command_line.TextCommand.TheVariants.{Solve, SolveWide, Check, CheckWide, Basis, BasisWide, Presolve, Iis}
use Rattle.spec_program.proofs.NumberLimits.{none_is_not, row_of}

-- ---- a word alone asks for no server

-- the command line is no `serve`
abbrev IsNoServer : ExactLine → Type 0
IsNoServer (Run workers places) = Unit {0}
IsNoServer (Read command style) = Unit {0}
IsNoServer (Generate seed rows columns) = Unit {0}
IsNoServer (Serve workers each places) = ⊥

-- where a row gives no command that starts a server, words give none by that row
asked : (row : Row) (words : List Word) (command : ExactLine) →
    ((given : Given) → row.asks given ≡ Some command → IsNoServer command) → asked_by words row ≡ Some command →
    IsNoServer command
asked row words command none e = by (given_in (row.plain words) row.names row.switches words) e
  where
    by : (given : Option Given) → option_and_then row.asks given ≡ Some command → IsNoServer command
    by None h = absurd (none_is_not command h)
    by (Some given) h = none given h

-- the command `run` starts no server
runs : (workers places : Option ℕ) (command : ExactLine) →
    applied (option_map Run workers) places ≡ Some command → IsNoServer command
runs None places command e = absurd (none_is_not command e)
runs (Some k) None command e = absurd (none_is_not command e)
runs (Some k) (Some n) command e = let is : Run k n ≡ command = cc in subst IsNoServer is tt

-- a command that reads a text starts no server
reads : (text : ExactTextCommand) (style : Option Style) (command : ExactLine) →
    option_map (Read text) style ≡ Some command → IsNoServer command
reads text None command e = absurd (none_is_not command e)
reads text (Some style) command e = let is : Read text style ≡ command = cc in subst IsNoServer is tt

-- the command `gen` with its numbers starts no server
makes_by : (seed rows columns : Option ℕ) (command : ExactLine) →
    applied (applied (option_map Generate seed) rows) columns ≡ Some command → IsNoServer command
makes_by None rows columns command e = absurd (none_is_not command e)
makes_by (Some s) None columns command e = absurd (none_is_not command e)
makes_by (Some s) (Some n) None command e = absurd (none_is_not command e)
makes_by (Some s) (Some n) (Some k) command e = let is : Generate s n k ≡ command = cc in subst IsNoServer is tt

-- the words behind `gen` give no command that starts a server
makes : (words : List Word) (command : ExactLine) → generate_with words ≡ Some command → IsNoServer command
makes [] command e = absurd (none_is_not command e)
makes (seed ∷ []) command e = absurd (none_is_not command e)
makes (seed ∷ rows ∷ []) command e = absurd (none_is_not command e)
makes (seed ∷ rows ∷ columns ∷ []) command e =
    makes_by (seed_of seed) (row_count_of rows) (column_count_of columns) command e
makes (seed ∷ rows ∷ columns ∷ word ∷ words) command e = absurd (none_is_not command e)

-- `serve` without further words gives no command
serves_nothing : (command : ExactLine) → asked_by [] serve_row ≡ Some command → ⊥
unfolding given_in
serves_nothing command e = none_is_not command e

-- `range` without further words gives no command
ranges_nothing : (command : ExactLine) → asked_by [] range_row ≡ Some command → ⊥
unfolding given_in
ranges_nothing command e = none_is_not command e

-- a command line of one word starts no server
alone : (word : Word) (command : ExactLine) → command_line_of (word ∷ []) ≡ Some command → IsNoServer command
unfolding command_line_of
alone word command e =
    by (same word (codes "run")) (same word (codes "solve")) (same word (codes "check")) (same word (codes "basis"))
    (same word (codes "presolve")) (same word (codes "iis")) (same word (codes "range")) (same word (codes "gen")) (same word (codes "serve")) e
  where
    by : (r s c b p i a g v : Bool) → option_and_then (asked_by []) (row_of r s c b p i a g v) ≡ Some command →
        IsNoServer command
    by true s c b p i a g v h =
        asked run_row [] command (λ given. runs (workers_given given.options) (places_given given.options) command) h
    by false true c b p i a g v h =
        asked (wide_row Solve SolveWide) [] command
        (λ given. reads (by_width Solve SolveWide (look_up (codes "--wide") given.options))
        (form_given given.options) command) h
    by false false true b p i a g v h =
        asked (wide_row Check CheckWide) [] command
        (λ given. reads (by_width Check CheckWide (look_up (codes "--wide") given.options))
        (form_given given.options) command) h
    by false false false true p i a g v h =
        asked (wide_row Basis BasisWide) [] command
        (λ given. reads (by_width Basis BasisWide (look_up (codes "--wide") given.options))
        (form_given given.options) command) h
    by false false false false true i a g v h =
        asked (text_row Presolve) [] command (λ given. reads Presolve (form_given given.options) command) h
    by false false false false false true a g v h =
        asked (text_row Iis) [] command (λ given. reads Iis (form_given given.options) command) h
    by false false false false false false true g v h = absurd (ranges_nothing command h)
    by false false false false false false false true v h =
        asked generate_row [] command (λ given. makes given.plain command) h
    by false false false false false false false false true h = absurd (serves_nothing command h)
    by false false false false false false false false false h = absurd (none_is_not command h)

-- ---- so a server has an address

-- no words are no command line
empty : (command : ExactLine) → command_line_of [] ≡ Some command → ⊥
unfolding command_line_of
empty command e = none_is_not command e

-- a command line that starts a server has an address
pub has_address : (words : List Word) (workers each places : ℕ) →
    command_line_of words ≡ Some (Serve workers each places) →
    (address : Word) × (address_of words ≡ Some (record { address = address; workers = workers }))
unfolding address_of
has_address [] workers each places e = absurd (empty (Serve workers each places) e)
has_address (word ∷ []) workers each places e = absurd (alone word (Serve workers each places) e)
has_address (word ∷ address ∷ words) workers each places e =
    (address, ap (served_at (word ∷ address ∷ words)) e)
