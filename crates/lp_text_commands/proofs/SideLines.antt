-- Lines of sides and of points, one more at a time.
--
-- `ended_first`: the bytes of a list of lines are the first line, a line feed, and the bytes of the later lines.
-- `ended_none`: no lines are no text.
-- `one_on`: a text that is appended to a first one stays behind it when more is appended.
-- `item_holds`: what holds of all items holds of the one at a place.
-- `sides_more`: the lines of one side more are those of the ones before and its own.
-- `parts_more`: the lines of the first j + 1 parts of a point are those of the first j parts, and then those of part j.
-- `part_on`: appending the lines of one part more to those of the first j parts gives those of the first j + 1.
-- `no_part`: a part that is 0 has no lines.
-- `some_part`: a part that is not 0 has one line, which is its text ended.
-- `points_more`: the lines of one point more are those of the ones before and its own, with its number.
-- `five_on`: five texts that are appended to a first one are behind it in their order.
-- `whole`: the text of a found irreducible subset is its heading, its sides, its certificate, its points and `END`.
-- `answer_line`: the line of an answer is the words of its end, ended.
-- `stopped_text`: the text of a search that stopped is `INFEASIBLE` and the words of the stop.
use Rattle.std.proofs.Common.{◌≡◌, ℕ, zero, suc, ◌+◌, ◌<◌, List, [], ◌∷◌, ◌++◌, take, map, length, Some, arith, ap, sym, ◌∙◌, refl}
use Rattle.std.proofs.Common.{append-nil, append_assoc, subst, Bool, true, false, cond, All}
use Rattle.std.specs.Prelude.{codes, decimal}
use Rattle.std.specs.List.{slice_get}
use Rattle.std.proofs.Math.Seq.{take-suc}
use Rattle.std.proofs.lemmas.List.{map-append}
use Rattle.std.proofs.lemmas.Option.{slice_get_within, get_or_from_slice_get}
use Rattle.spec_exact.specs.Fraction.{ℚ, 0ℚ, eq_ℚ}
use Rattle.spec_model.specs.Model.{Model, Name, part}
use Rattle.spec_check.specs.declared.certificate.Certificate.{Certificate}
use Rattle.spec_check.specs.declared.certificate.Letter.TheVariants.{X}
use Rattle.spec_certificate.specs.TextWritten.{part_text, part_lines, lines_below, column_lines, certificate_lines}
use Rattle.spec_iis.specs.declared.side.Side.{Side}
use Rattle.spec_iis.specs.Only.{only}
use Rattle.spec_runs.specs.Cold.{ExactSolveEnd}
use Rattle.spec_server.specs.declared.asks.Reply.TheVariants as reply
use Rattle.spec_server.specs.Machine.{opening_budget, answer_of}
use Rattle.spec_server.specs.Output.{check_line, ended_lines, reply_text}
use Rattle.spec_server.proofs.Output.{ended_append}
use Rattle.spec_commands.specs.IisOut.{side_line, point_lines, found_lines, end_words}

-- ---- lines in a row

-- one line with its end is the line and a newline
ended_one : (line : List ℕ) → ended_lines (line ∷ []) ≡ line ++ 10 ∷ []
unfolding ended_lines
ended_one line = append-nil (line ++ 10 ∷ [])

pub ended_first : (line : List ℕ) (lines : List (List ℕ)) →
    ended_lines (line ∷ lines) ≡ (line ++ 10 ∷ []) ++ ended_lines lines
unfolding ended_lines
ended_first line lines = refl

pub ended_none : (text : List ℕ) → text ≡ text ++ ended_lines []
unfolding ended_lines
ended_none text = sym (append-nil text)

-- ---- one item more

-- an addition behind another
pub one_on : (first now next so_far more all : List ℕ) → now ≡ first ++ so_far → next ≡ now ++ more →
    all ≡ so_far ++ more → next ≡ first ++ all
one_on first now next so_far more all e f g =
    f ∙ ap (λ text. text ++ more) e ∙ append_assoc first so_far more ∙ ap (λ text. first ++ text) (sym g)

pub item_holds : {A : Type 0} (P : A → Type 0) (xs : List A) (at : ℕ) (x : A) → slice_get xs at ≡ Some x → All P xs → P x
item_holds P xs at x e all =
    subst P (get_or_from_slice_get xs at x x e) (all at x (slice_get_within xs at x e))

-- where x stands at `at`, the first `at` + 1 elements are the first `at` and then x
taken_more : {A : Type 0} (xs : List A) (at : ℕ) (x : A) → slice_get xs at ≡ Some x →
    take (at + 1) xs ≡ take at xs ++ x ∷ []
taken_more xs at x e =
    let one : at + 1 ≡ suc at = omega arith in
    ap (λ k. take k xs) one ∙ take-suc xs at x (slice_get_within xs at x e)
    ∙ ap (λ y. take at xs ++ y ∷ []) (get_or_from_slice_get xs at x x e)

-- the first `at` elements of a longer list are `at` many
length_taken : {A : Type 0} (xs : List A) (at : ℕ) → at < length xs → length (take at xs) ≡ at
length_taken [] at l = absurd (omega arith)
length_taken (x ∷ xs) zero l = refl
length_taken (x ∷ xs) (suc at) l = ap suc (length_taken xs at (omega arith))

-- a side
pub sides_more : (m : Model) (sides : List Side) (at : ℕ) (s : Side) → slice_get sides at ≡ Some s →
    ended_lines (map (side_line m) (take (at + 1) sides))
    ≡ ended_lines (map (side_line m) (take at sides)) ++ (side_line m s ++ 10 ∷ [])
sides_more m sides at s e =
    ap (λ some. ended_lines (map (side_line m) some)) (taken_more sides at s e)
    ∙ ap ended_lines (map-append (side_line m) (take at sides) (s ∷ []))
    ∙ ended_append (map (side_line m) (take at sides)) (side_line m s ∷ [])
    ∙ ap (λ bs. ended_lines (map (side_line m) (take at sides)) ++ bs) (ended_one (side_line m s))

-- a part
pub parts_more : (names : ℕ → Name) (z : List ℚ) (j : ℕ) →
    ended_lines (lines_below X names z (j + 1))
    ≡ ended_lines (lines_below X names z j) ++ ended_lines (part_lines X (names j) (part z j))
parts_more names z j =
    let one : j + 1 ≡ suc j = omega arith in
    ap (λ k. ended_lines (lines_below X names z k)) one
    ∙ ended_append (lines_below X names z j) (part_lines X (names j) (part z j))

pub part_on : (names : ℕ → Name) (z : List ℚ) (j : ℕ) (first now next : List ℕ) (name : Name) (v : ℚ) →
    now ≡ first ++ ended_lines (lines_below X names z j) → next ≡ now ++ ended_lines (part_lines X name v) →
    name ≡ names j → v ≡ part z j → next ≡ first ++ ended_lines (lines_below X names z (j + 1))
part_on names z j first now next name v e f is_name is_part =
    one_on first now next (ended_lines (lines_below X names z j)) (ended_lines (part_lines X (names j) (part z j)))
    (ended_lines (lines_below X names z (j + 1))) e
    (f ∙ ap (λ n. now ++ ended_lines (part_lines X n v)) is_name
    ∙ ap (λ w. now ++ ended_lines (part_lines X (names j) w)) is_part) (parts_more names z j)

-- a part that is 0 has no line
pub no_part : (name : Name) (v : ℚ) (text : List ℕ) (is_zero : Bool) → is_zero ≡ eq_ℚ v 0ℚ → is_zero ≡ true →
    text ≡ text ++ ended_lines (part_lines X name v)
no_part name v text is_zero e h =
    ended_none text
    ∙ ap (λ b. text ++ ended_lines (cond b [] (part_text X name v ∷ []))) (sym (sym e ∙ h))

pub some_part : (name : Name) (v : ℚ) (is_zero : Bool) → is_zero ≡ eq_ℚ v 0ℚ → is_zero ≡ false →
    part_text X name v ++ 10 ∷ [] ≡ ended_lines (part_lines X name v)
some_part name v is_zero e h =
    sym (ap (λ b. ended_lines (cond b [] (part_text X name v ∷ []))) (sym e ∙ h) ∙ ended_one (part_text X name v))

-- the lines of a point: the one with its number, and one for each of its values that is not 0
abbrev pub numbered : Model → ℕ → List ℚ → List (List ℕ)
numbered m number z = (codes "POINT " ++ decimal number) ∷ column_lines m X z

-- the lines of points with one more are those of the points and then those of the new one
point_more : (m : Model) (n : ℕ) (points : List (List ℚ)) (z : List ℚ) →
    point_lines m n (points ++ z ∷ []) ≡ point_lines m n points ++ numbered m (n + length points + 1) z
point_more m n [] z =
    let same : n + 1 ≡ n + 0 + 1 = omega arith in
    ap (λ lines. (codes "POINT " ++ decimal (n + 1)) ∷ lines) (append-nil (column_lines m X z))
    ∙ ap (λ k. numbered m k z) same
point_more m n (x ∷ points) z =
    let same : n + 1 + length points + 1 ≡ n + suc (length points) + 1 = omega arith in
    ap (λ lines. (codes "POINT " ++ decimal (n + 1)) ∷ (column_lines m X x ++ lines))
    (point_more m (n + 1) points z ∙ ap (λ k. point_lines m (n + 1) points ++ numbered m k z) same)
    ∙ ap (λ lines. (codes "POINT " ++ decimal (n + 1)) ∷ lines)
    (sym (append_assoc (column_lines m X x) (point_lines m (n + 1) points) (numbered m (n + suc (length points) + 1) z)))

-- a point
pub points_more : (m : Model) (points : List (List ℚ)) (at : ℕ) (z : List ℚ) → slice_get points at ≡ Some z →
    ended_lines (point_lines m 0 (take (at + 1) points))
    ≡ ended_lines (point_lines m 0 (take at points)) ++ ended_lines (numbered m (at + 1) z)
points_more m points at z e =
    let len = length_taken points at (slice_get_within points at z e) in
    let number : 0 + length (take at points) + 1 ≡ at + 1 = omega (arith, len) in
    ap (λ some. ended_lines (point_lines m 0 some)) (taken_more points at z e)
    ∙ ap ended_lines (point_more m 0 (take at points) z ∙ ap (λ k. point_lines m 0 (take at points) ++ numbered m k z) number)
    ∙ ended_append (point_lines m 0 (take at points)) (numbered m (at + 1) z)

-- ---- the whole

-- the two lines above the sides of a set: `INFEASIBLE`, and `IIS` with the number of sides
abbrev heading : List Side → List (List ℕ)
heading sides = codes "INFEASIBLE" ∷ (codes "IIS " ++ decimal (length sides)) ∷ []

-- the text of the two lines above the sides of a set: `INFEASIBLE`, and `IIS` with the number of sides
abbrev pub heading_text : List Side → List ℕ
heading_text sides = (codes "INFEASIBLE\nIIS " ++ decimal (length sides)) ++ 10 ∷ []

-- the two lines above the sides, with their ends, are the text of the heading
heading_ended : (sides : List Side) → ended_lines (heading sides) ≡ heading_text sides
unfolding ended_lines
heading_ended sides =
    ap (λ text. (codes "INFEASIBLE" ++ 10 ∷ []) ++ text) (append-nil ((codes "IIS " ++ decimal (length sides)) ++ 10 ∷ []))

-- five pieces behind one another
pub five_on : (first t u v w last a b c d e : List ℕ) → t ≡ first ++ a → u ≡ t ++ b → v ≡ u ++ c → w ≡ v ++ d →
    last ≡ w ++ e → last ≡ first ++ (a ++ (((b ++ c) ++ d) ++ e))
five_on first t u v w last a b c d e is_t is_u is_v is_w is_last =
    is_last
    ∙ ap (λ x. x ++ e)
    (is_w
    ∙ ap (λ x. x ++ d) (is_v ∙ ap (λ x. x ++ c) (is_u ∙ ap (λ x. x ++ b) is_t) ∙ append_assoc (first ++ a) b c)
    ∙ append_assoc (first ++ a) (b ++ c) d)
    ∙ append_assoc (first ++ a) ((b ++ c) ++ d) e
    ∙ append_assoc first a (((b ++ c) ++ d) ++ e)

-- the bytes of three lists of lines and a line are those of the lists, one after the other, and of the line
ended_three : (xs ys zs : List (List ℕ)) (last : List ℕ) →
    ended_lines (((xs ++ ys) ++ zs) ++ last ∷ [])
    ≡ ((ended_lines xs ++ ended_lines ys) ++ ended_lines zs) ++ (last ++ 10 ∷ [])
ended_three xs ys zs last =
    ended_append ((xs ++ ys) ++ zs) (last ∷ [])
    ∙ ap (λ bs. bs ++ ended_lines (last ∷ []))
    (ended_append (xs ++ ys) zs ∙ ap (λ bs. bs ++ ended_lines zs) (ended_append xs ys))
    ∙ ap (λ bs. ((ended_lines xs ++ ended_lines ys) ++ ended_lines zs) ++ bs) (ended_one last)

pub whole : (m : Model) (sides : List Side) (cert : Certificate (List ℚ)) (points : List (List ℚ)) →
    ended_lines (found_lines m sides cert points)
    ≡ heading_text sides
    ++ (((ended_lines (map (side_line m) sides) ++ ended_lines (certificate_lines (only m sides) cert))
    ++ ended_lines (point_lines m 0 points)) ++ codes "END\n")
unfolding found_lines
whole m sides cert points =
    let rest : List (List ℕ) =
    ((map (side_line m) sides ++ certificate_lines (only m sides) cert) ++ point_lines m 0 points) ++ codes "END" ∷ [] in
    ended_append (heading sides) rest
    ∙ ap (λ bs. bs ++ ended_lines rest) (heading_ended sides)
    ∙ ap (λ bs. heading_text sides ++ bs)
    (ended_three (map (side_line m) sides) (certificate_lines (only m sides) cert) (point_lines m 0 points) (codes "END"))

-- ---- ends

-- the line of an answer
pub answer_line : (end : ExactSolveEnd) →
    check_line (answer_of opening_budget end) ≡ ended_lines (end_words end ∷ [])
unfolding ended_lines check_line reply_text
answer_line end = sym (append-nil (end_words end ++ 10 ∷ []))

-- that the search stopped, in one piece
pub stopped_text : (words : List ℕ) →
    ended_lines (codes "INFEASIBLE" ∷ (codes "STOPPED " ++ words) ∷ [])
    ≡ codes "INFEASIBLE\nSTOPPED " ++ ended_lines (words ∷ [])
unfolding ended_lines
stopped_text words =
    ap (λ text. (codes "INFEASIBLE" ++ 10 ∷ []) ++ (text ++ [])) (append_assoc (codes "STOPPED ") words (10 ∷ []))
    ∙ ap (λ text. (codes "INFEASIBLE" ++ 10 ∷ []) ++ text) (append_assoc (codes "STOPPED ") (words ++ 10 ∷ []) [])
