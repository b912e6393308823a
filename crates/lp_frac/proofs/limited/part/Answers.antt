-- Quotients of 64 bits.
use Rattle.std.proofs.Common.{SFits, int_div, to_z-of_z, subst, sym, ap₂, ◌∙◌}
use mir.Syntax.{w64, w128}
use Rattle.lp_frac.proofs.limited.part.Goals as goal

pub returns-in-Ok-Ok : goal.returns-in-Ok-Ok
returns-in-Ok-Ok c =
    let a = c.in-Ok-Ok.ensures in
    let g = c.in-Ok-Ok.ensures' in
    let x : SFits w64 c.in-Ok-Ok.x = subst (SFits w64) (sym a.1) a.0 in
    let y : SFits w64 c.in-Ok-Ok.y = subst (SFits w64) (sym g.1) g.0 in
    let r : SFits w128 c.short_part.result = record { sfits = c.short_part.type_inv } in
    to_z-of_z r ∙ c.short_part.ensures
    ∙ ap₂ int_div (to_z-of_z x ∙ a.1 ∙ to_z-of_z c.ranges.a) (to_z-of_z y ∙ g.1)
