-- A word that is none of the options, one that is given again, an option more, and the words that are left.
use Rattle.std.proofs.Common.{sym, ◌∙◌, map}
use Rattle.std.specs.Prelude.{string_bytes, option_copied}
use Rattle.lp_command_line.specs.Words.{bytes_of}
use Rattle.lp_command_line.proofs.OptionLemmas.{some-copied}
use Rattle.lp_command_line.proofs.OptionFaults.{unknown-fault, twice-fault, more-fault}
use Rattle.lp_command_line.proofs.finding.option_fault.Goals as goal

pub returns-then-not-is_one_of : goal.returns-then-not-is_one_of
returns-then-not-is_one_of c =
    unknown-fault c.args.names.now (bytes_of c.args.switches.now) (map string_bytes c.args.words.now) (map string_bytes c.loop-option.rest.now)
    c.loop-option.invariant c.in-Some.option.now c.in-Some.field-0-1.now (map string_bytes c.in-Some.more.now)
    c.in-Some.ensures.cut c.is_one_of.result c.is_one_of.ensures c.if-not-is_one_of.true

pub returns-then-is_some : goal.returns-then-is_some
returns-then-is_some c =
    twice-fault c.args.names.now (bytes_of c.args.switches.now) (map string_bytes c.args.words.now) (map string_bytes c.loop-option.rest.now)
    c.loop-option.invariant c.in-Some.option.now c.in-Some.field-0-1.now (map string_bytes c.in-Some.more.now)
    c.in-Some.ensures.cut c.is_one_of.result c.is_one_of.ensures c.if-not-is_one_of.false
    (option_copied c.value_of.result) c.value_of.ensures
    (some-copied c.value_of.result ∙ sym c.is_some.ensures ∙ c.if-is_some.true)

pub loop-option-preserved : goal.loop-option-preserved
loop-option-preserved c =
    more-fault c.args.names.now (bytes_of c.args.switches.now) (map string_bytes c.args.words.now) (map string_bytes c.loop-option.rest.now)
    c.loop-option.invariant c.in-Some.option.now c.in-Some.field-0-1.now (map string_bytes c.in-Some.more.now)
    c.in-Some.ensures.cut c.is_one_of.result c.is_one_of.ensures c.if-not-is_one_of.false
    (option_copied c.value_of.result) c.value_of.ensures
    (some-copied c.value_of.result ∙ sym c.is_some.ensures ∙ c.if-is_some.false)

pub returns : goal.returns
returns c = c.lone_fault.ensures ∙ c.loop-option.invariant
