-- Each step goes on from where the steps before it came to.
use Rattle.std.proofs.Common.{◌+◌, refl}
use Rattle.lp_row_runs.proofs.OneStep.{stays, ends, makes, then_comes, then_ends, kept}
use Rattle.lp_row_runs.proofs.steps.run.Goals as goal

pub loop-next-init : goal.loop-next-init
loop-next-init g c = record {
  comes = λ t reached shown. stays g.T.Words.value c.args.budget c.args.used.now t c.args.tab.now reached shown;
  keeps = record { whole = c.requires; rows = refl; cols = refl };
}

pub returns-in-End-clause-run : goal.returns-in-End-clause-run
returns-in-End-clause-run g c = λ t reached shown.
    let k = c.loop-next.invariant.comes t reached shown in
    then_ends g.T.Words.value c.args.budget c.args.used.now t c.loop-next.tab c.loop-next.used k c.loop-next.tab
    c.loop-next.used c.in-End.end
    (ends g.T.Words.value c.args.budget c.loop-next.used k.tableau c.loop-next.tab k.reached k.shown c.in-Some.next
    (c.in-Some.ensures.chosen k.tableau k.reached k.shown) c.in-End.end c.in-End.is)

pub loop-next-preserved : goal.loop-next-preserved
loop-next-preserved g c = record {
  comes = λ t reached shown.
      let k = c.loop-next.invariant.comes t reached shown in
      then_comes g.T.Words.value c.args.budget c.args.used.now t c.loop-next.tab c.loop-next.used k c.make.new.tab
      (c.loop-next.used + 1)
      (makes g.T.Words.value c.args.budget c.loop-next.used k.tableau c.loop-next.tab k.reached k.shown c.in-Some.next
      (c.in-Some.ensures.chosen k.tableau k.reached k.shown) c.make.new.tab c.in_default-next.not-End
      c.if-used-budget.false
      (λ u choice chosen is done. c.if-not-make.ensures.made refl k.tableau u choice k.reached k.shown chosen is done));
  keeps =
      kept g.T.Words.value c.args.tab.now c.loop-next.tab c.make.new.tab c.loop-next.invariant.keeps
      (record {
        whole = c.if-not-make.ensures.whole refl;
        rows = c.if-not-make.ensures.rows refl;
        cols = c.if-not-make.ensures.cols refl;
      });
}
