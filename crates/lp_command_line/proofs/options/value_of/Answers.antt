-- The value, where the first option has the name, where it has not, and where no words are left.
use Rattle.std.proofs.Common.{true, false, sym, ◌∙◌, map}
use Rattle.std.specs.Prelude.{string_bytes}
use Rattle.lp_command_line.specs.Words.{bytes_of}
use Rattle.lp_command_line.proofs.OptionLemmas.{value-none, value-first}
use Rattle.lp_command_line.proofs.options.value_of.Goals as goal

pub returns-then-are_same : goal.returns-then-are_same
returns-then-are_same c =
    sym (value-first (bytes_of c.args.switches.now) c.args.name.now (map string_bytes c.loop-option.rest.now) c.in-Some.option.now
    c.in-Some.value.now (map string_bytes c.in-Some.more.now) true c.in-Some.ensures.cut
    (sym c.are_same.ensures.value ∙ c.if-are_same.true))
    ∙ c.loop-option.invariant

pub loop-option-preserved : goal.loop-option-preserved
loop-option-preserved c =
    sym (value-first (bytes_of c.args.switches.now) c.args.name.now (map string_bytes c.loop-option.rest.now) c.in-Some.option.now
    c.in-Some.value.now (map string_bytes c.in-Some.more.now) false c.in-Some.ensures.cut
    (sym c.are_same.ensures.value ∙ c.if-are_same.false))
    ∙ c.loop-option.invariant

pub returns : goal.returns
returns c =
    sym (value-none (bytes_of c.args.switches.now) c.args.name.now (map string_bytes c.loop-option.rest.now)
    c.in_default.ensures.cut)
    ∙ c.loop-option.invariant
