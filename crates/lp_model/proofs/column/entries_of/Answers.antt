use Rattle.std.proofs.Common.{◌≡◌, ◌+◌, ℕ, [], All}
use Rattle.std.proofs.Common.{take, drop, sym, ap, ◌∙◌, subst, arith}
use Rattle.std.proofs.lemmas.List.{drop_all}
use Rattle.spec_exact.specs.Fraction.{ℚ}
use Rattle.spec_exact.specs.Narrow.{IsNarrow}
use Rattle.spec_model.specs.Model.{height}
use Rattle.spec_model.specs.Kept.{AreEntries}
use Rattle.spec_edit.specs.Edited.{entries_of}
use Rattle.spec_edit.specs.Changes.{with_entry}
use Rattle.spec_edit.proofs.Keeping.{with_entry-kept, with_entry-narrow}
use Rattle.lp_model.proofs.PairSteps.{unknown_read, repeated_read, read_on, given_so}
use Rattle.lp_model.proofs.column.entries_of.Goals as goal

pub bounds-as_slice-place : goal.bounds-as_slice-place
bounds-as_slice-place c = rw (c.as_slice.ensures, c.loop-place.invariant.pairs) (omega arith)

pub returns-in_default-clause-answer : goal.returns-in_default-clause-answer
returns-in_default-clause-answer c =
    sym c.loop-place.invariant.answer
    ∙ unknown_read c.args.model.now _ c.args.pairs.now c.loop-place.place c.loop-place.entries
    c.index-as_slice-place.result _ _ (c.as_slice.ensures ∙ c.loop-place.invariant.pairs) c.index-as_slice-place.is
    (omega arith) c.as_slice-in-loop-place.ensures c.row_of.ensures.value _ _ c.loop-place.invariant.pairs
    c.take_name.ensures c.in_default.is

pub returns-then-is_given-clause-answer : goal.returns-then-is_given-clause-answer
returns-then-is_given-clause-answer c =
    let given = given_so _ _ c.args.pairs.now _ _ _ _ c.as_slice-in-loop-place-2.ensures
    (c.as_slice-in-loop-place-3.ensures ∙ c.loop-place.invariant.pairs) c.is_given.ensures c.if-is_given.true in
    sym c.loop-place.invariant.answer
    ∙ repeated_read c.args.model.now _ c.args.pairs.now c.loop-place.place c.loop-place.entries
    c.index-as_slice-place.result _ _ (c.as_slice.ensures ∙ c.loop-place.invariant.pairs) c.index-as_slice-place.is
    (omega arith) c.as_slice-in-loop-place.ensures c.row_of.ensures.value _ _ c.loop-place.invariant.pairs
    c.take_name-then-is_given.ensures c.in-Some.row c.in-Some.is given

pub loop-place-preserved : goal.loop-place-preserved
loop-place-preserved c =
    let p = c.index-as_slice-place.result in
    let m = c.args.model.now in
    let put : c.put_entry.new.entries ≡ with_entry c.in-Some.row p.1 c.loop-place.entries =
    c.in_ok-put_entry.ensures.ok in
    record {
      answer =
          ap (entries_of m (take (c.loop-place.place + 1) c.args.pairs.now)
          (drop (c.loop-place.place + 1) c.args.pairs.now)) put
          ∙ read_on m _ c.args.pairs.now c.loop-place.place c.loop-place.entries p _ _
          (c.as_slice.ensures ∙ c.loop-place.invariant.pairs) c.index-as_slice-place.is (omega arith)
          c.as_slice-in-loop-place.ensures c.row_of.ensures.value c.in-Some.row c.in-Some.is
          (given_so _ _ c.args.pairs.now _ _ _ _ c.as_slice-in-loop-place-2.ensures
          (c.as_slice-in-loop-place-3.ensures ∙ c.loop-place.invariant.pairs) c.is_given.ensures c.if-is_given.false)
          ∙ c.loop-place.invariant.answer;
      kept =
          subst (AreEntries (height m)) (sym put) (with_entry-kept (height m) c.in-Some.row
          p.1 c.loop-place.entries c.loop-place.invariant.kept c.in-Some.ensures.inside);
      pairs = c.loop-place.invariant.pairs;
      narrow =
          subst (All (λ (e : ℕ × ℚ). IsNarrow e.1)) (sym put) (with_entry-narrow c.in-Some.row p.1
          c.loop-place.entries c.loop-place.invariant.narrow c.in_ok-put_entry.ensures.narrow);
    }

pub returns-clause-answer : goal.returns-clause-answer
returns-clause-answer c =
    let past : drop c.loop-place.place c.args.pairs.now ≡ [] =
    drop_all c.loop-place.place c.args.pairs.now (omega arith) in
    sym c.loop-place.invariant.answer
    ∙ ap (λ ps. entries_of c.args.model.now (take c.loop-place.place c.args.pairs.now) ps c.loop-place.entries) past
