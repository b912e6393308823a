-- One more word, and all of them.
use Rattle.std.proofs.Common.{◌≡◌, ◌+◌, ◌*◌, [], ◌∷◌, ◌++◌, ap, ◌∙◌, refl, arith}
use Rattle.std.proofs.lemmas.List.{length-set}
use Rattle.spec_exact.specs.Run.{made}
use Rattle.spec_board.specs.Words.{form_code, word_from, shape_of}
use Rattle.lp_form.proofs.WordLists.{word_more, all_put}
use Rattle.lp_form.proofs.packing.shape.Goals as goal

pub loop-w-preserved : goal.loop-w-preserved
loop-w-preserved c = (
  length-set c.loop-w.words (1 + c.loop-w.w) c.word_of.result ∙ c.loop-w.invariant.0,
  word_more c.loop-w.words ((65536 * c.args.form.now.rows + c.args.form.now.cols) ∷ [])
      (λ w. word_from (form_code c.args.form.now) (32 * w) 32) 1 c.loop-w.w (1 + c.loop-w.w) c.word_of.result
      refl (omega (arith, c.loop-w.invariant.0)) c.loop-w.invariant.1 c.word_of.ensures,
)

pub returns : goal.returns
unfolding shape_of
returns c =
    let all : c.loop-w.w ≡ 24 = omega arith in
    all_put c.loop-w.words (shape_of c.args.form.now) 1 c.loop-w.w 25 c.loop-w.invariant.0 (omega arith)
    (c.loop-w.invariant.1 ∙ ap (λ k. ((65536 * c.args.form.now.rows + c.args.form.now.cols) ∷ [])
    ++ made k (λ w. word_from (form_code c.args.form.now) (32 * w) 32)) all)
