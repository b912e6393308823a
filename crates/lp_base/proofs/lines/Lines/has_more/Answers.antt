-- What is ahead, by the buffer.
use Rattle.std.proofs.Common.{◌≡◌, ◌≤◌, ℕ, length, sym, subst, ap, ◌∙◌, arith}
use Rattle.lp_base.specs.LinesState.{LinesState}
use Rattle.lp_base.proofs.Ahead.{near, near_front, no_ahead, reads_none, reads_some}
use Rattle.lp_base.proofs.Ahead.{refilled, refilled_len, reads_filled}
use Rattle.lp_base.proofs.lines.Lines.has_more.Goals as goal

pub returns-then-self-clause-moved : goal.returns-then-self-clause-moved
returns-then-self-clause-moved g c =
    reads_none (g.S.Source.left c.args.source.now) c.self.inside c.args.self.now c.self.view_is c.self.invariant
    c.if-self.true

pub returns-then-self-clause-near : goal.returns-then-self-clause-near
returns-then-self-clause-near g c =
    subst (λ (s : LinesState). length s.ahead ≤ 4096) c.self.view_is
    (near c.self.inside.from c.self.inside.to c.self.inside.buffer.items (omega arith))

pub returns-then-self-2-clause-moved : goal.returns-then-self-2-clause-moved
returns-then-self-2-clause-moved g c =
    reads_some (g.S.Source.left c.args.source.now) c.self.inside c.args.self.now c.self.view_is c.self.invariant
    c.if-self.false c.if-self-2.true

pub returns-then-self-2-clause-near : goal.returns-then-self-2-clause-near
returns-then-self-2-clause-near g c =
    subst (λ (s : LinesState). length s.ahead ≤ 4096) c.self.view_is
    (near c.self.inside.from c.self.inside.to c.self.inside.buffer.items (omega arith))

pub returns-in_err-count-clause-near : goal.returns-in_err-count-clause-near
returns-in_err-count-clause-near g c =
    near c.self.inside.from c.self.inside.to _ (subst (λ (n : ℕ). c.self.inside.to ≤ n) c.self.invariant.len
    c.self.invariant.within)

pub returns-in_err-count-clause-held : goal.returns-in_err-count-clause-held
returns-in_err-count-clause-held g c =
    let none = no_ahead c.self.inside c.args.self.now c.self.view_is c.if-self-2.false in
    λ has. absurd (omega (arith, has, ap length none))

pub returns-clause-held : goal.returns-clause-held
returns-clause-held g c =
    let none = no_ahead c.self.inside c.args.self.now c.self.view_is c.if-self-2.false in
    λ has. absurd (omega (arith, has, ap length none))

pub returns-clause-moved : goal.returns-clause-moved
returns-clause-moved g c =
    let len : length c.read.new.buf ≡ 4096 = omega arith in
    let room : length c.read.new.buf ≤ c.self.inside.buffer.len = omega arith in
    reads_filled (g.S.Source.left c.args.source.now) (g.S.Source.left c.read.new.self) c.args.self.now _
    c.read.new.buf c.self.inside.given c.in_ok-count.count
    (no_ahead c.self.inside c.args.self.now c.self.view_is c.if-self-2.false)
    (ap (λ (s : LinesState). s.ended) (sym c.self.view_is) ∙ c.if-self.false)
    (ap (λ (s : LinesState). s.given) c.self.view_is)
    (refilled c.in_ok-count.count c.self.inside.buffer.len c.read.new.buf _ c.in_ok-count.ensures.bound.0 room)
    c.in_ok-count.ensures.bound.0 (omega (arith, len)) c.in_ok-count.ensures.bytes.0 c.in_ok-count.ensures.bytes.1

pub returns-clause-near : goal.returns-clause-near
returns-clause-near g c = near_front c.in_ok-count.count _ (omega (arith, c.in_ok-count.ensures.bound.0))

pub invariant_of-self : goal.invariant_of-self
invariant_of-self g c =
    let len = refilled_len c.self.inside.buffer.len c.read.new.buf _ (omega arith) (omega arith) in
    record {
      order = c.self.invariant.order;
      within = subst (λ (n : ℕ). c.self.inside.to ≤ n) (c.self.invariant.len ∙ sym len) c.self.invariant.within;
      len = len;
      given = c.self.invariant.given;
      ended = c.self.invariant.ended;
    }
