-- The lines so far, with those that follow.
use Rattle.std.proofs.Common.{◌≡◌, ◌+◌, ◌++◌, drop, map}
use Rattle.spec_serve.specs.Lines.{lines_from, serve_out}
use Rattle.lp_serve.specs.Desks.{ends_in}
use Rattle.lp_serve.proofs.ends.ends_text.Given as goal

abbrev pub invariant-loop-index : goal.invariant-loop-index
invariant-loop-index g l =
    l.text ++ lines_from (l.index + 1) (map ends_in (drop l.index l.desks)) ≡ serve_out (map ends_in l.desks)
