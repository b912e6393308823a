-- The asks that were had are one more.
use Rattle.std.proofs.Common.{arith, rules}
use Rattle.basis_board.proofs.Timing.{notes_on}
use Rattle.lp_script.proofs.OneMore.{had_more}
use Rattle.lp_script.proofs.part.Part.answer.Goals as goal

pub returns-clause-hired : goal.returns-clause-hired
returns-clause-hired g c = record {
  of_board = search rules;
  places = search rules;
  share = search rules;
  consistent = search rules;
  notes = notes_on _ _ _ c.requires.hired.notes c.step.ensures.notes.notes;
  were_true = c.step.ensures.notes.were_true c.requires.hired.were_true;
  all = search rules;
  counted = search rules;
  at_rest = search rules;
}

pub returns-clause-had : goal.returns-clause-had
returns-clause-had g c = λ asks replies had.
    had_more c.args.self.now.sessions.items c.args.asked (omega (arith, c.requires.session, c.requires.hired.all))
    c.index_mut-2.result.now c.step.new.self c.index_mut-2.ensures.value c.args.pass.now.view
    c.step.new.pass.view c.step.result c.step.ensures.step asks replies had c.step.ensures.calls
    c.requires.hired.consistent
