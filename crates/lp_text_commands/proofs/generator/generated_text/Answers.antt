-- Nothing stands before the lines, which are of the model of the seed.
use Rattle.std.proofs.Common.{◌++◌, ap, sym, subst, ◌∙◌}
use Rattle.spec_commands.specs.GenOut.{GenOut, SolvedOut}
use Rattle.lp_text_commands.proofs.generator.generated_text.Goals as goal

pub returns : goal.returns
returns c =
    let printed = c.in_ok-perform.ensures.output in
    subst (GenOut c.args.seed c.args.rows c.args.columns)
    (sym (printed.behind ∙ ap (λ text. text ++ printed.output) c.new-text.ensures))
    (subst (λ m. SolvedOut m printed.output) (c.model.ensures.value ∙ c.in_ok-made.ensures) printed.is_output)
