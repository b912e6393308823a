-- What was told is read off an output line by line.
--
-- `first_told`: where an output begins with a line without a line feed, this is the line of the first reply.
-- `alone_told`: where the first line begins with a letter that announces no lines, the next replies follow at once.
-- `is_four`: a number whose decimal text is 4 is 4.
-- `four_behind`: behind the line `CERT 4` stand four lines.
-- `behind_lines`: where two outputs of the same bytes begin with as many lines, the same bytes stand behind these.
use Rattle.std.proofs.Common.{◌≡◌, ◌≤◌, ℕ, zero, suc, ◌+◌, ◌/◌, ◌%◌, Bool, true, false, cond, nat_eq, List, [], ◌∷◌, ◌++◌, length}
use Rattle.std.proofs.Common.{refl, sym, ap, ◌∙◌, ◌⊎◌, inl, inr, append_assoc, arith, eqb-true}
use Rattle.std.specs.Prelude.{All, codes, decimal, nat_lt}
use Rattle.std.specs.Fmt.{digit_glyph, digits_onto, digits}
use Rattle.std.proofs.lemmas.List.Elements.{All-head, All-tail}
use Rattle.spec_server.specs.declared.addressing.Addressing.TheVariants.{Alone}
use Rattle.spec_server.specs.Output.{ended_lines}
use Rattle.spec_truth.proofs.AnswerLines.{first, apart, same_line, same_rest}
use Rattle.spec_text_truth.specs.TrueOutput.{HasNoFeed, Told, Announces, IsFramed, told_out}
use Rattle.spec_text_truth.proofs.SidesTexts.{ended_more}
use Rattle.spec_text_truth.proofs.ToldReplies.{counts, announced_first}

-- ---- the first of what was told

pub record IsFirst (told : List Told) (line rest : List ℕ) : Type 0 where
  pub one : Told
  pub more : List Told
  pub cut : told ≡ one ∷ more
  pub line_is : one.line ≡ line
  pub framed : IsFramed one
  pub later : All IsFramed more
  pub goes_on : ended_lines one.behind ++ told_out Alone more ≡ rest

-- a text that begins with a byte is not empty
no_byte : (b : ℕ) (bytes : List ℕ) → ◌≡◌ {A = List ℕ} [] (b ∷ bytes) → ⊥
no_byte b bytes e = cc

-- an empty text does not begin with a line
no_line : (line rest : List ℕ) → [] ≡ line ++ 10 ∷ rest → ⊥
no_line [] rest e = no_byte 10 rest e
no_line (b ∷ line) rest e = no_byte b (line ++ 10 ∷ rest) e

pub first_told : (told : List Told) (line rest : List ℕ) → All IsFramed told → HasNoFeed line →
    told_out Alone told ≡ line ++ 10 ∷ rest → IsFirst told line rest
first_told [] line rest framed plain e = absurd (no_line line rest e)
first_told (x ∷ told) line rest framed plain e =
    let own : IsFramed x = All-head IsFramed x told framed in
    let out : x.line ++ 10 ∷ (ended_lines x.behind ++ told_out Alone told) ≡ line ++ 10 ∷ rest =
    sym (append_assoc x.line (10 ∷ ended_lines x.behind) (told_out Alone told)) ∙ e in
    record {
      one = x;
      more = told;
      cut = refl;
      line_is = same_line x.line line _ rest own.one plain out;
      framed = own;
      later = All-tail IsFramed x told framed;
      goes_on = same_rest x.line line _ rest own.one plain out;
    }

-- ---- the lines behind it

-- where a line begins with another letter than the words that announce lines, none stand behind it
none_behind : (x : Told) (line : List ℕ) → IsFramed x → x.line ≡ line → counts (first line) ≡ false → x.behind ≡ []
none_behind x line framed is other = by framed.counted
  where
    not_both : counts (first x.line) ≡ true → ⊥
    not_both e = let z : false ≡ true = sym other ∙ sym (ap (λ (l : List ℕ). counts (first l)) is) ∙ e in cc

    by : Announces x.line (codes " " ++ decimal (length x.behind))
        ⊎ ((x.behind ≡ []) × ((more : List ℕ) → ¬ (Announces x.line more))) → x.behind ≡ []
    by (inl announced) = absurd (not_both (announced_first x.line _ announced))
    by (inr (e, none)) = e

pub alone_told : (told : List Told) (line rest : List ℕ) → counts (first line) ≡ false → (f : IsFirst told line rest) →
    told_out Alone f.more ≡ rest
unfolding ended_lines
alone_told told line rest other f =
    sym (ap (λ (lines : List (List ℕ)). ended_lines lines ++ told_out Alone f.more)
    (none_behind f.one line f.framed f.line_is other))
    ∙ f.goes_on

-- ---- as many as a digit says

-- digits that are written before a text make it no shorter
longer : (k n : ℕ) (acc : List ℕ) → length acc ≤ length (digits_onto k 10 false n acc)
longer zero n acc = omega arith
longer (suc k) n acc = by (nat_eq (n / 10) 0) (longer k (n / 10) (digit_glyph false (n % 10) ∷ acc))
  where
    by : (t : Bool) →
        suc (length acc) ≤ length (digits_onto k 10 false (n / 10) (digit_glyph false (n % 10) ∷ acc)) →
        length acc ≤ length (cond t (digit_glyph false (n % 10) ∷ acc)
        (digits_onto k 10 false (n / 10) (digit_glyph false (n % 10) ∷ acc)))
    by true l = omega arith
    by false l = omega (arith, l)

-- at least one digit that is written before a text makes it longer
two_digits : (k n : ℕ) (acc : List ℕ) → suc (length acc) ≤ length (digits_onto (suc k) 10 false n acc)
two_digits k n acc = by (nat_eq (n / 10) 0) (longer k (n / 10) (digit_glyph false (n % 10) ∷ acc))
  where
    by : (t : Bool) →
        suc (length acc) ≤ length (digits_onto k 10 false (n / 10) (digit_glyph false (n % 10) ∷ acc)) →
        suc (length acc) ≤ length (cond t (digit_glyph false (n % 10) ∷ acc)
        (digits_onto k 10 false (n / 10) (digit_glyph false (n % 10) ∷ acc)))
    by true l = omega arith
    by false l = l

-- where the glyph of a digit is `4`, the digit is 4
glyph_four : (d : ℕ) → digit_glyph false d ≡ 52 → d ≡ 4
glyph_four d = by (nat_lt d 10)
  where
    by : (t : Bool) → cond t (48 + d) (87 + d) ≡ 52 → d ≡ 4
    by true e = omega (arith, e)
    by false e = absurd (omega (arith, e))

pub is_four : (n : ℕ) → decimal n ≡ 52 ∷ [] → n ≡ 4
unfolding digits
is_four n e = by (nat_eq (n / 10) 0) refl e
  where
    by : (t : Bool) → nat_eq (n / 10) 0 ≡ t →
        cond t (digit_glyph false (n % 10) ∷ []) (digits_onto 63 10 false (n / 10) (digit_glyph false (n % 10) ∷ [])) ≡ 52 ∷ [] →
        n ≡ 4
    by true low same =
        let none : n / 10 ≡ 0 = eqb-true (n / 10) 0 low in
        let one : digit_glyph false (n % 10) ≡ 52 = ap first same in
        let four : n % 10 ≡ 4 = glyph_four (n % 10) one in
        omega (arith, none, four)
    by false high same =
        let two = two_digits 62 (n / 10) (digit_glyph false (n % 10) ∷ []) in
        let short = ap length same in
        absurd (omega (arith, two, short))

-- a certificate of four lines
pub four_behind : (x : Told) → IsFramed x → x.line ≡ codes "CERT 4" → length x.behind ≡ 4
four_behind x framed is = by framed.counted
  where
    by : Announces x.line (codes " " ++ decimal (length x.behind))
        ⊎ ((x.behind ≡ []) × ((more : List ℕ) → ¬ (Announces x.line more))) → length x.behind ≡ 4
    by (inl (inl e)) = absurd (apart 67 84 refl (ap first (sym is ∙ e)))
    by (inl (inr (inl e))) =
        let same : codes "CERT 4" ≡ codes "CERT" ++ (codes " " ++ decimal (length x.behind)) = sym is ∙ e in
        let digit : decimal (length x.behind) ≡ 52 ∷ [] = cc in
        is_four (length x.behind) digit
    by (inl (inr (inr e))) = absurd (apart 67 87 refl (ap first (sym is ∙ e)))
    by (inr (e, none)) = absurd (none (codes " 4") (inr (inl is)))

-- what stands behind as many lines
pub behind_lines : (lines others : List (List ℕ)) (out rest : List ℕ) → All HasNoFeed lines → All HasNoFeed others →
    length lines ≡ length others → ended_lines lines ++ out ≡ ended_lines others ++ rest → out ≡ rest
unfolding ended_lines
behind_lines [] [] out rest h k same e = e
behind_lines [] (b ∷ others) out rest h k same e = absurd (omega (arith, same))
behind_lines (a ∷ lines) [] out rest h k same e = absurd (omega (arith, same))
behind_lines (a ∷ lines) (b ∷ others) out rest h k same e =
    behind_lines lines others out rest (All-tail HasNoFeed a lines h) (All-tail HasNoFeed b others k) (omega (arith, same))
    (same_rest a b (ended_lines lines ++ out) (ended_lines others ++ rest) (All-head HasNoFeed a lines h)
    (All-head HasNoFeed b others k) (sym (ended_more a lines out) ∙ e ∙ ended_more b others rest))
