-- A word has room for one more column, and is whole in the end.
use Rattle.std.proofs.Common.{◌+◌, ◌*◌, ap, ◌∙◌, arith}
use Rattle.lp_form.specs.Coded.{code_of}
use Rattle.lp_form.proofs.WordLists.{column_more, has_room, whole_word, code_small}
use Rattle.lp_form.proofs.packing.word_of.Goals as goal

pub overflow_mul-word : goal.overflow_mul-word
overflow_mul-word c =
    let h =
    has_room (code_of c.args.columns.now)
    (code_small c.args.columns.now) c.args.first c.loop-k.k c.loop-k.word (omega arith) c.loop-k.invariant in
    omega (arith, h)

pub overflow_add-word : goal.overflow_add-word
overflow_add-word c =
    let h =
    has_room (code_of c.args.columns.now)
    (code_small c.args.columns.now) c.args.first c.loop-k.k c.loop-k.word (omega arith) c.loop-k.invariant in
    omega (arith, h, c.code.ensures.small)

pub loop-k-preserved : goal.loop-k-preserved
loop-k-preserved c =
    ap (λ d. 4 * c.loop-k.word + d) c.code.ensures.value
    ∙ column_more (code_of c.args.columns.now) c.args.first c.loop-k.k c.loop-k.word
    (omega arith) (omega arith) c.loop-k.invariant

pub returns : goal.returns
returns c =
    whole_word (code_of c.args.columns.now) c.args.first c.loop-k.k c.loop-k.word (omega arith) c.loop-k.invariant
