-- An option that has none of the names or is given again, an option more, and the end.
use Rattle.std.proofs.Common.{sym, ◌∙◌, map}
use Rattle.std.specs.Prelude.{string_bytes, option_copied}
use Rattle.lp_command_line.specs.Words.{bytes_of}
use Rattle.lp_command_line.proofs.OptionLemmas.{are-short, are-unknown, are-again, are-more, some-copied}
use Rattle.lp_command_line.proofs.options.are_options.Goals as goal

pub returns-then-not-is_one_of : goal.returns-then-not-is_one_of
returns-then-not-is_one_of c =
    are-unknown c.args.names.now (bytes_of c.args.switches.now) (map string_bytes c.args.words.now) (map string_bytes c.loop-option.rest.now)
    c.loop-option.invariant c.in-Some.option.now c.in-Some.field-0-1.now (map string_bytes c.in-Some.more.now)
    c.in-Some.ensures.cut c.is_one_of.result c.is_one_of.ensures c.if-not-is_one_of.true

pub returns-then-is_some : goal.returns-then-is_some
returns-then-is_some c =
    are-again c.args.names.now (bytes_of c.args.switches.now) (map string_bytes c.args.words.now)
    (map string_bytes c.loop-option.rest.now) c.loop-option.invariant c.in-Some.option.now c.in-Some.field-0-1.now
    (map string_bytes c.in-Some.more.now) c.in-Some.ensures.cut c.is_one_of.result c.is_one_of.ensures
    c.if-not-is_one_of.false (option_copied c.value_of.result) c.value_of.ensures
    (some-copied c.value_of.result ∙ sym c.is_some.ensures ∙ c.if-is_some.true)

pub loop-option-preserved : goal.loop-option-preserved
loop-option-preserved c =
    are-more c.args.names.now (bytes_of c.args.switches.now) (map string_bytes c.args.words.now) (map string_bytes c.loop-option.rest.now)
    c.loop-option.invariant c.in-Some.option.now c.in-Some.field-0-1.now (map string_bytes c.in-Some.more.now)
    c.in-Some.ensures.cut c.is_one_of.result c.is_one_of.ensures c.if-not-is_one_of.false
    (option_copied c.value_of.result) c.value_of.ensures
    (some-copied c.value_of.result ∙ sym c.is_some.ensures ∙ c.if-is_some.false)

pub returns : goal.returns
returns c =
    c.is_empty.ensures
    ∙ are-short (bytes_of c.args.names.now) (bytes_of c.args.switches.now) string_bytes c.loop-option.rest.now c.in_default.ensures.cut
    ∙ c.loop-option.invariant
