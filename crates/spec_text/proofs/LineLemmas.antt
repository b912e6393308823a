-- The lines of a text, taken from its start one by one.
--
-- `lines_of_line`: a line that a line feed ends, less one carriage return, comes before the lines of the bytes after
--   it.
-- `lines_of_last`: bytes without a line feed are one line, where there is a byte.
-- `lines_of_none`: no bytes have no lines.
-- `line_short`: a line of at most 16,384 bytes is kept with its bytes.
-- `line_long`: of a longer line only its length is kept.
-- `ended_lines_of_line`: a line that a line feed ends, less one carriage return, comes before the ended lines of the
--   bytes after it.
-- `ended_lines_of_last`: bytes without a line feed have no ended line.
-- `line_of_cases`: a line is kept with its bytes or with its length.
use Rattle.std.proofs.Common.{◌≡◌, ℕ, Bool, true, false, List, [], ◌∷◌, ◌++◌, All, ◌≢◌, eqb, refl, ap, ◌∙◌}
use Rattle.std.proofs.Common.{cond, rules, tests, arith, map, length, ◌<◌, ◌≤◌, ◌⊎◌, inl, inr, ⊎_elim}
use Rattle.std.specs.List.{slice_split, onto_first}
use Rattle.std.specs.Str.Lines.{lines, lines_of_parts, strip_carriage_return}
use Rattle.std.proofs.lemmas.List.Splits.{slice_split_at, slice_split_none}
use Rattle.std.proofs.lemmas.List.Elements.{All-weaker}
use Rattle.std.proofs.lemmas.Bool.{cases_lt}
use Rattle.std.proofs.lemmas.Bool.Decides.{nat_tests}
use Rattle.spec_text.specs.Lines.{lines_of, line_of, ended_lines_of, all_but_last}
use Rattle.spec_text.specs.declared.line.Line.TheVariants.{Text, Long}

-- where another part follows a first one, the first line is that first part, less one carriage return
parts_more : (x : List ℕ) (parts : List (List ℕ)) → (y : List ℕ) (more : List (List ℕ)) → parts ≡ y ∷ more →
    lines_of_parts (x ∷ parts) ≡ strip_carriage_return x ∷ lines_of_parts parts
parts_more x [] y more h = cc
parts_more x (z ∷ zs) y more h = refl

-- putting a byte onto the first part leaves at least one part
onto_some : (b : ℕ) (parts : List (List ℕ)) → (y : List ℕ) × (more : List (List ℕ)) × (onto_first b parts ≡ y ∷ more)
onto_some b [] = (b ∷ [], [], refl)
onto_some b (p ∷ ps) = (b ∷ p, ps, refl)

-- splitting bytes gives at least one part
split_some : (p : ℕ → Bool) (bs : List ℕ) → (y : List ℕ) × (more : List (List ℕ)) × (slice_split p bs ≡ y ∷ more)
split_some p [] = ([], [], refl)
split_some p (b ∷ bs) =
    elim (p b) as (λ t. (y : List ℕ) × (more : List (List ℕ))
    × (cond t ([] ∷ slice_split p bs) (onto_first b (slice_split p bs)) ≡ y ∷ more))
    [ true ↦ ([], slice_split p bs, refl) | false ↦ onto_some b (slice_split p bs) ]

-- a line that ends is the first one, less its carriage return
lines_first : (line more : List ℕ) → All (λ b. eqb b 10 ≡ false) line →
    lines (line ++ 10 ∷ more) ≡ strip_carriage_return line ∷ lines more
lines_first line more h =
    let s = split_some (λ b. eqb b 10) more in
    ap lines_of_parts (slice_split_at (λ b. eqb b 10) line 10 more h refl)
    ∙ parts_more line (slice_split (λ b. eqb b 10) more) s.0 s.1 s.2

-- where no byte of a line is a line feed, the test for a line feed fails at each
tests_false : (line : List ℕ) → All (λ b. b ≢ 10) line → All (λ b. eqb b 10 ≡ false) line
tests_false line h = All-weaker (λ b. b ≢ 10) (λ b. eqb b 10 ≡ false) (λ b n. search (rules, tests)) line h

-- the first line stands before the others
pub lines_of_line : (line more : List ℕ) → All (λ b. b ≢ 10) line →
    lines_of (line ++ 10 ∷ more) ≡ line_of (strip_carriage_return line) ∷ lines_of more
unfolding lines_of
lines_of_line line more h = ap (λ ls. map line_of ls) (lines_first line more (tests_false line h))

-- a lone part is a line, as it stands, where it has a byte
last_line : (x : List ℕ) → 0 < length x → lines_of_parts (x ∷ []) ≡ x ∷ []
last_line x some = grind (arith, nat_tests)

-- bytes with no line feed are one line, unless there are none
pub lines_of_last : (line : List ℕ) → All (λ b. b ≢ 10) line → 0 < length line → lines_of line ≡ line_of line ∷ []
unfolding lines_of
lines_of_last line h some =
    ap (λ parts. map line_of (lines_of_parts parts)) (slice_split_none (λ b. eqb b 10) line (tests_false line h))
    ∙ ap (λ ls. map line_of ls) (last_line line some)

pub lines_of_none : lines_of [] ≡ []
unfolding lines_of
lines_of_none = refl

pub line_short : (bytes : List ℕ) → length bytes ≤ 16384 → line_of bytes ≡ Text bytes
unfolding line_of
line_short bytes h = grind (arith, nat_tests)

pub line_long : (bytes : List ℕ) → 16384 < length bytes → line_of bytes ≡ Long (length bytes)
unfolding line_of
line_long bytes h = grind (arith, nat_tests)

-- where another part follows a first one, the parts before the last are the first one and those of the others
parts_before : (x : List ℕ) (parts : List (List ℕ)) (y : List ℕ) (more : List (List ℕ)) → parts ≡ y ∷ more →
    all_but_last (x ∷ parts) ≡ x ∷ all_but_last parts
parts_before x [] y more h = cc
parts_before x (z ∷ zs) y more h = refl

pub ended_lines_of_line : (line more : List ℕ) → All (λ b. b ≢ 10) line →
    ended_lines_of (line ++ 10 ∷ more) ≡ line_of (strip_carriage_return line) ∷ ended_lines_of more
unfolding ended_lines_of
ended_lines_of_line line more h =
    let s = split_some (λ b. eqb b 10) more in
    ap (λ parts. map (λ raw. line_of (strip_carriage_return raw)) (all_but_last parts))
    (slice_split_at (λ b. eqb b 10) line 10 more (tests_false line h) refl)
    ∙ ap (map (λ raw. line_of (strip_carriage_return raw)))
    (parts_before line (slice_split (λ b. eqb b 10) more) s.0 s.1 s.2)

pub ended_lines_of_last : (line : List ℕ) → All (λ b. b ≢ 10) line → ended_lines_of line ≡ []
unfolding ended_lines_of
ended_lines_of_last line h =
    ap (λ parts. map (λ raw. line_of (strip_carriage_return raw)) (all_but_last parts))
    (slice_split_none (λ b. eqb b 10) line (tests_false line h))

-- a line has its bytes or its length
pub line_of_cases : (bytes : List ℕ) → (line_of bytes ≡ Text bytes) ⊎ (line_of bytes ≡ Long (length bytes))
line_of_cases bytes = ⊎_elim
    (λ long. inr (line_long bytes long))
    (λ short. inl (line_short bytes short))
    (cases_lt 16384 (length bytes))
