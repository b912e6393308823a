-- The piece that is read next, cut where there is room.
use Rattle.std.proofs.Common.{Some, ◌≡◌, ◌<◌, ◌-◌, List, ℕ, take, drop, arith, length, sym, ◌∙◌, ap, length-drop}
use Rattle.std.proofs.lemmas.List.{take_rest}
use Rattle.lp_base.specs.Pieces.{bytes_of, first_given, left_behind}
use Rattle.lp_base.proofs.PieceLemmas.{next_piece, no_pieces, taken_first, left_then, given_bytes, take_least}
use Rattle.lp_base.proofs.memory.MemSource.give.Goals as goal

pub returns-then-self-piece-clause-first : goal.returns-then-self-piece-clause-first
returns-then-self-piece-clause-first c =
    let s = c.loop-self.self in
    let room = length c.args.buf.now in
    let n = c.copy_front-count.result in
    let bytes = c.as_slice-piece.result.now in
    let at = c.get.ensures ∙ ap Some (sym c.as_slice-piece.ensures) in
    let front : take (length bytes - s.from) (drop s.from bytes) ≡ drop s.from bytes = take_rest bytes s.from in
    let count = c.copy_front-count.ensures.count in
    c.copy_front-count.ensures.copied
    ∙ ap (λ (xs : List ℕ). take n xs) front
    ∙ take_least room n (drop s.from bytes) (omega (arith, count, ap length front))
    ∙ sym (taken_first s.pieces s.piece s.from room bytes at (omega arith))
    ∙ ap (first_given room) c.loop-self.invariant.left

pub returns-then-self-piece-clause-behind : goal.returns-then-self-piece-clause-behind
returns-then-self-piece-clause-behind c =
    let s = c.loop-self.self in
    let room = length c.args.buf.now in
    let n = c.copy_front-count.result in
    let bytes = c.as_slice-piece.result.now in
    let at = c.get.ensures ∙ ap Some (sym c.as_slice-piece.ensures) in
    let len : length (take (length bytes - s.from) (drop s.from bytes)) ≡ length bytes - s.from =
    ap length (take_rest bytes s.from) ∙ length-drop s.from bytes in
    let count = c.copy_front-count.ensures.count in
    left_then s.pieces s.piece s.from room n bytes at (omega arith) (omega (arith, count, len))
    ∙ ap (left_behind room) c.loop-self.invariant.left

pub returns-then-self-piece-clause-bytes : goal.returns-then-self-piece-clause-bytes
returns-then-self-piece-clause-bytes c =
    given_bytes (length c.args.buf.now) _ _ _
    (returns-then-self-piece-clause-first c) (returns-then-self-piece-clause-behind c)

pub returns-then-self-piece-clause-end : goal.returns-then-self-piece-clause-end
returns-then-self-piece-clause-end c =
    let s = c.loop-self.self in
    let bytes = c.as_slice-piece.result.now in
    let some : 0 < length bytes - s.from = omega arith in
    let len : length (take (length bytes - s.from) (drop s.from bytes)) ≡ length bytes - s.from =
    ap length (take_rest bytes s.from) ∙ length-drop s.from bytes in
    λ zero room. absurd (omega (arith, c.copy_front-count.ensures.count, c.copy_front-count.ensures.len, len))

pub returns-clause-first : goal.returns-clause-first
returns-clause-first c =
    let s = c.loop-self.self in
    sym (ap (first_given (length c.args.buf.now))
    (sym c.loop-self.invariant.left ∙ no_pieces s.pieces s.piece s.from (omega arith)))

pub returns-clause-behind : goal.returns-clause-behind
returns-clause-behind c =
    let s = c.loop-self.self in
    let none = no_pieces s.pieces s.piece s.from (omega arith) in
    none ∙ sym (ap (left_behind (length c.args.buf.now)) (sym c.loop-self.invariant.left ∙ none))

pub returns-clause-bytes : goal.returns-clause-bytes
returns-clause-bytes c = given_bytes (length c.args.buf.now) _ _ _ (returns-clause-first c) (returns-clause-behind c)

pub returns-clause-end : goal.returns-clause-end
returns-clause-end c =
    let s = c.loop-self.self in
    λ zero room. ap bytes_of (no_pieces s.pieces s.piece s.from (omega arith))

pub loop-self-preserved : goal.loop-self-preserved
loop-self-preserved c =
    let s = c.loop-self.self in
    let at = c.get.ensures ∙ ap Some (sym c.as_slice-piece.ensures) in
    record {
      left =
          next_piece s.pieces s.piece s.from c.as_slice-piece.result.now at (omega arith)
          ∙ c.loop-self.invariant.left;
      calls = cc;
    }
