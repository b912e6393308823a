use Rattle.std.proofs.Common.{◌≡◌, ◌≢◌, true, ◌∙◌, sym, subst, ap, set}
use Rattle.std.specs.List.{insert}
use Rattle.spec_exact.specs.Fraction.{0ℚ}
use Rattle.lp_model.specs.Place.{StandsAt, BelongsAt}
use Rattle.lp_model.proofs.Splits.{remove-put, set-put, same-put, insert-put}
use Rattle.lp_model.proofs.entries.put_entry.Goals as goal

pub returns-then-gone-clause-ok : goal.returns-then-gone-clause-ok
returns-then-gone-clause-ok c =
    let stands : StandsAt c.args.row c.in-Ok.place c.args.entries.now =
    subst (StandsAt c.args.row c.in-Ok.place) c.as_slice.ensures c.in-Ok.ensures in
    c.remove.ensures
    ∙ remove-put _ _ _ stands c.args.value (sym c.narrow-value.ensures.value ∙ c.is_zero-gone.ensures.0 c.if-gone.true)

pub returns-else-gone-clause-ok : goal.returns-else-gone-clause-ok
returns-else-gone-clause-ok c =
    let stands : StandsAt c.args.row c.in-Ok.place c.args.entries.now =
    subst (StandsAt c.args.row c.in-Ok.place) c.as_slice.ensures c.in-Ok.ensures in
    let other : c.args.value ≢ 0ℚ =
    λ e. let t : c.is_zero-gone.result ≡ true = c.is_zero-gone.ensures.1 (c.narrow-value.ensures.value ∙ e) in
    let f = c.if-gone.false in cc in
    c.set.ensures ∙ ap (λ v. set c.args.entries.now c.in-Ok.place (c.args.row, v)) c.narrow-value.ensures.value
    ∙ set-put _ _ _ stands c.args.value other

pub returns-then-gone-2-clause-ok : goal.returns-then-gone-2-clause-ok
returns-then-gone-2-clause-ok c =
    let belongs : BelongsAt c.args.row c.in-Err.place c.args.entries.now =
    subst (BelongsAt c.args.row c.in-Err.place) c.as_slice.ensures c.in-Err.ensures in
    same-put _ _ _ belongs c.args.value (sym c.narrow-value.ensures.value ∙ c.is_zero-gone.ensures.0 c.if-gone-2.true)

pub returns-else-gone-2-clause-ok : goal.returns-else-gone-2-clause-ok
returns-else-gone-2-clause-ok c =
    let belongs : BelongsAt c.args.row c.in-Err.place c.args.entries.now =
    subst (BelongsAt c.args.row c.in-Err.place) c.as_slice.ensures c.in-Err.ensures in
    let other : c.args.value ≢ 0ℚ =
    λ e. let t : c.is_zero-gone.result ≡ true = c.is_zero-gone.ensures.1 (c.narrow-value.ensures.value ∙ e) in
    let f = c.if-gone-2.false in cc in
    let put =
    ap (λ v. insert c.args.entries.now c.in-Err.place (c.args.row, v)) c.narrow-value.ensures.value
    ∙ insert-put _ _ _ belongs c.args.value other in
    rw (← put) c.insert.ensures.ok
