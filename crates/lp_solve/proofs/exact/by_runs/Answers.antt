-- What the solve at 127 bits has ended with.
use Rattle.std.proofs.Common.{option_map}
use Rattle.lp_solve.proofs.Allowed.{starting_fits}
use Rattle.lp_solve.proofs.ExactLemmas.{ended_shown, end_based, gave_up}
use Rattle.lp_solve.proofs.exact.by_runs.Goals as goal

pub settled-requires-clause-shown : goal.settled-requires-clause-shown
settled-requires-clause-shown c =
    ended_shown c.args.model.now c.args.budget (option_map (λ basis. basis.now) c.args.starting) _
    c.in_ok-end.ensures.solved _ _ _ _ c.in-Ended.is

pub settled-requires-clause-based : goal.settled-requires-clause-based
settled-requires-clause-based c =
    end_based c.args.model.now c.args.budget (option_map (λ basis. basis.now) c.args.starting) _
    c.in_ok-end.ensures.solved c.args.form.now c.requires.formed
    (starting_fits (λ basis. basis.now) c.args.form.now c.args.starting c.requires.fits) _ _ _ _ c.in-Ended.is

pub returns-in_ok-beyond-in-Past : goal.returns-in_ok-beyond-in-Past
returns-in_ok-beyond-in-Past c =
    c.or_open.ensures c.args.model.now c.args.budget (option_map (λ basis. basis.now) c.args.starting)
    (λ usual. gave_up c.args.model.now c.args.budget (option_map (λ basis. basis.now) c.args.starting) _
    c.in_ok-end.ensures.solved _ c.in-Past.is tt)
    c.in_ok-beyond-in-Past.ensures

pub returns-in_ok-beside-in-Spent : goal.returns-in_ok-beside-in-Spent
returns-in_ok-beside-in-Spent c =
    c.or_open-in-Spent.ensures c.args.model.now c.args.budget (option_map (λ basis. basis.now) c.args.starting)
    (λ usual. gave_up c.args.model.now c.args.budget (option_map (λ basis. basis.now) c.args.starting) _
    c.in_ok-end.ensures.solved _ c.in-Spent.is tt)
    c.in_ok-beside-in-Spent.ensures
