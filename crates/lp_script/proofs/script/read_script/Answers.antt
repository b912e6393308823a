-- Where the reading begins, goes on and halts.
use Rattle.std.proofs.Common.{◌∙◌, Some, None, Ok, Err, ap, arith, sym, subst}
use Rattle.std.proofs.lemmas.Result.{err_from_is_err_and}
use Rattle.lp_line.specs.declared.halt.Halt.TheVariants as halts
use Rattle.lp_script.proofs.Reading.{Reading, reading_start, reading_on, reads_some, reads_nothing, reads_till}
use Rattle.lp_script.proofs.Reading.{read_ended, read_halted, takes_as, ends_early}
use Rattle.lp_script.proofs.script.read_script.Goals as goal

pub loop-asked-init : goal.loop-asked-init
loop-asked-init g c = record {
  reading = subst (Reading _ _ c.in_ok-lines.lines) (sym c.new-asks.ensures.items)
      (reading_start _ c.in_ok-lines.lines c.in_ok-lines.ensures);
  read = omega arith;
}

pub returns-in-Ok-None-clause-script : goal.returns-in-Ok-None-clause-script
returns-in-Ok-None-clause-script g c =
    read_ended c.loop-asked.invariant.reading
    (takes_as _ _ _ _ _ (Ok None) (c.in-Ok-None.is ∙ ap Ok c.in-Ok-None.field-0-is) c.take.ensures.taken) tt

pub returns-in_default-clause-script : goal.returns-in_default-clause-script
returns-in_default-clause-script g c =
    read_halted c.loop-asked.invariant.reading _ c.in-Err.halt c.in_default.not-NoMemory
    (takes_as _ _ _ _ _ (Err c.in-Err.halt) c.in-Err.is c.take.ensures.taken)

pub returns-in-NoMemory-clause-script : goal.returns-in-NoMemory-clause-script
returns-in-NoMemory-clause-script g c =
    reads_some c.loop-asked.invariant.reading _
    (takes_as _ _ _ _ _ (Err halts.NoMemory) (c.in-Err.is ∙ ap Err c.in-NoMemory.is) c.take.ensures.taken)

-- one more ask
pub loop-asked-preserved : goal.loop-asked-preserved
loop-asked-preserved g c = record {
  reading = subst (Reading _ _ c.take.new.lines) (sym c.in_ok-push-in-Ok-Some.ensures.items)
      (reading_on c.loop-asked.invariant.reading c.take.new.lines c.in-Ok-Some.asked
      (takes_as _ _ _ _ _ (Ok (Some c.in-Ok-Some.asked)) (c.in-Ok-Some.is ∙ ap Ok c.in-Ok-Some.field-0-is)
      c.take.ensures.taken));
  read = omega (arith, c.take.ensures.later);
}

-- memory ran out
pub returns-in_err-lines-clause-script : goal.returns-in_err-lines-clause-script
returns-in_err-lines-clause-script g c =
    let p = err_from_is_err_and c.from_residual.result c.from_residual.ensures.1 in
    ends_early c.from_residual.result p.0 p.1 (reads_nothing _)

pub returns-in_err-push-in-Ok-Some-clause-script : goal.returns-in_err-push-in-Ok-Some-clause-script
returns-in_err-push-in-Ok-Some-clause-script g c =
    let p = err_from_is_err_and c.from_residual-in_err-push-in-Ok-Some.result
    c.from_residual-in_err-push-in-Ok-Some.ensures.1 in
    ends_early c.from_residual-in_err-push-in-Ok-Some.result p.0 p.1
    (reads_till
    (reading_on c.loop-asked.invariant.reading c.take.new.lines c.in-Ok-Some.asked
    (takes_as _ _ _ _ _ (Ok (Some c.in-Ok-Some.asked)) (c.in-Ok-Some.is ∙ ap Ok c.in-Ok-Some.field-0-is)
    c.take.ensures.taken)))
