-- What a solve ended with is kept, or its basis is published first.
use Rattle.std.proofs.Common.{IfSome, sym, ◌∙◌, subst, refl}
use Rattle.spec_runs.specs.Solve.{solve_end}
use Rattle.spec_board.specs.Words.{IsWellFormed}
use Rattle.lp_session.proofs.Works.{solved_end, ends_without, ends_same, publishes}
use Rattle.lp_session.proofs.holding.Holding.conclude.Goals as goal

pub keep-requires : goal.keep-requires
keep-requires c = solved_end c.args.self.now.model _ _ (solve_end (c.args.end, c.args.route)) c.requires.solved

pub keep-requires-in-Some : goal.keep-requires-in-Some
keep-requires-in-Some c = solved_end c.args.self.now.model _ _ (solve_end (c.args.end, c.args.route)) c.requires.solved

pub returns-in-None : goal.returns-in-None
returns-in-None c =
    ends_without c.args.self.now c.args.found c.args.form.now (solve_end (c.args.end, c.args.route)) _ _ c.requires.held c.requires.solved
    c.how_by-how.ensures c.words_of_end.ensures.value _ _ c.in-None.is c.keep.ensures.reply c.keep.ensures.kept

pub returns-in-Some : goal.returns-in-Some
returns-in-Some c =
    ends_same c.args.self.now c.args.found c.args.form.now (solve_end (c.args.end, c.args.route)) _ _ c.requires.held c.requires.solved
    c.how_by-how.ensures c.words_of_end.ensures.value c.in-Some.words c.in-Some.is _ _
    (sym c.is_found.ensures ∙ c.if-is_found.true) c.keep-in-Some.ensures.reply c.keep-in-Some.ensures.kept

pub returns-in-Some-2 : goal.returns-in-Some-2
returns-in-Some-2 c =
    record {
      works =
          publishes c.args.self.now c.args.found c.args.form.now (solve_end (c.args.end, c.args.route)) _ _ c.requires.held c.requires.solved
          c.how_by-how.ensures c.words_of_end.ensures.value c.in-Some.words c.in-Some.is
          (sym c.is_found.ensures ∙ c.if-is_found.false);
      formed = subst (λ o. IfSome o IsWellFormed) c.in-Some.is c.words_of_end.ensures.formed;
      kept = refl;
      fits = solved_end c.args.self.now.model _ _ (solve_end (c.args.end, c.args.route)) c.requires.solved;
    }
