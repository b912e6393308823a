-- The kept bytes are enough for a line that is not too long.
use Rattle.std.proofs.Common.{◌≡◌, length, take, arith, sym, ◌∙◌, ap}
use Rattle.spec_text.proofs.LineLemmas.{line_long, line_short}
use Rattle.spec_text.specs.declared.line.Line.TheVariants.{Text, Long}
use Rattle.std.proofs.lemmas.List.{length-take-le}
use Rattle.lp_base.proofs.KeptLemmas.{cut_kept}
use Rattle.lp_base.proofs.part.Part.cut.Goals as goal

pub returns-then-len-gt-MAX_LINE : goal.returns-then-len-gt-MAX_LINE
returns-then-len-gt-MAX_LINE c = λ raw kept.
    let len : length (take c.args.len raw) ≡ c.args.len = length-take-le c.args.len raw (omega (arith, kept.len)) in
    sym (line_long (take c.args.len raw) (omega (arith, len)) ∙ ap Long len)

pub returns : goal.returns
returns c = λ raw kept.
    let len : length (take c.args.len raw) ≡ c.args.len = length-take-le c.args.len raw (omega (arith, kept.len)) in
    ap Text (c.from_vec.ensures ∙ c.truncate.ensures.items
    ∙ cut_kept c.args.self.bytes.items raw c.args.len 16385 kept.bytes (omega arith))
    ∙ sym (line_short (take c.args.len raw) (omega (arith, len)))
