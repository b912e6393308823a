-- One more word of the shape or of the statuses, and all of them.
use Rattle.std.proofs.Common.{◌≡◌, ◌+◌, ◌*◌, ◌++◌, take, get_or, slice_set, ap, ◌∙◌, refl, sym, arith}
use Rattle.std.proofs.lemmas.List.{take_all, length-set, append-nil}
use Rattle.spec_exact.specs.Run.{made}
use Rattle.spec_board.specs.Words.{basis_code, word_from, shape_of, packed}
use Rattle.spec_board.proofs.PackedPlaces.{shape_length}
use Rattle.lp_form.proofs.WordLists.{word_more, copied_more, all_put}
use Rattle.lp_form.proofs.packing.pack.Goals as goal

pub loop-i-preserved : goal.loop-i-preserved
loop-i-preserved c = (
  length-set c.loop-i.words c.loop-i.i _ ∙ c.loop-i.invariant.0,
  ap (λ s. take (c.loop-i.i + 1) (slice_set c.loop-i.words c.loop-i.i (get_or s c.loop-i.i 0))) c.shape-shape.ensures
      ∙ copied_more c.loop-i.words (shape_of c.args.form.now) c.loop-i.i (omega (arith, c.loop-i.invariant.0))
      (omega (arith, shape_length c.args.form.now)) c.loop-i.invariant.1,
)

pub loop-w-init : goal.loop-w-init
loop-w-init c =
    let all : c.loop-i.i ≡ 25 = omega arith in (
      c.loop-i.invariant.0,
      ap (λ i. take i c.loop-i.words) (sym all) ∙ c.loop-i.invariant.1
          ∙ take_all c.loop-i.i (shape_of c.args.form.now) (omega (arith, shape_length c.args.form.now))
          ∙ sym (append-nil (shape_of c.args.form.now)),
    )

pub loop-w-preserved : goal.loop-w-preserved
loop-w-preserved c = (
  length-set c.loop-w.words (25 + c.loop-w.w) c.word_of.result ∙ c.loop-w.invariant.0,
  word_more c.loop-w.words (shape_of c.args.form.now)
      (λ w. word_from (basis_code c.args.basis.now) (32 * w) 32) 25 c.loop-w.w (25 + c.loop-w.w) c.word_of.result
      refl (omega (arith, c.loop-w.invariant.0)) c.loop-w.invariant.1 c.word_of.ensures,
)

pub returns : goal.returns
unfolding packed
returns c =
    let all : c.loop-w.w ≡ 24 = omega arith in
    all_put c.loop-w.words (packed c.args.form.now c.args.basis.now) 25 c.loop-w.w 49 c.loop-w.invariant.0 (omega arith)
    (c.loop-w.invariant.1
    ∙ ap (λ k. shape_of c.args.form.now ++ made k (λ w. word_from (basis_code c.args.basis.now) (32 * w) 32)) all)
