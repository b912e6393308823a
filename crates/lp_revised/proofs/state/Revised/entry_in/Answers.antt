-- The entry as the step sees it.
use Rattle.std.proofs.Common.{sym, ap, ◌∙◌}
use Rattle.spec_factor.specs.Revised.{seen_entry}
use Rattle.lp_revised.proofs.Seen.{seen_at}
use Rattle.lp_revised.proofs.state.Revised.entry_in.Goals as goal

pub returns : goal.returns
returns c =
    c.entry.ensures
    ∙ ap (λ z. seen_entry c.args.starts.now c.args.self.now.bare z c.args.place) c.as_slice.ensures
    ∙ sym (seen_at c.args.starts.now c.args.self.now.bare c.args.column.now.number c.args.column.now.solved
    c.args.place c.requires.place)
