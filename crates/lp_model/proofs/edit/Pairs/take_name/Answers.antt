-- The pair that is taken out is the one at the place.
use Rattle.std.proofs.Common.{◌≡◌, Some, IfSome, get_or, refl, sym, ap, ◌∙◌, subst}
use Rattle.std.proofs.lemmas.Option.{slice_get-get_or}
use Rattle.lp_model.proofs.edit.Pairs.take_name.Goals as goal

pub returns : goal.returns
returns c =
    let pair = c.swap_remove.result in
    let here = c.swap_remove.ensures.value ∙ ap (λ pairs. get_or pairs c.args.place pair) c.self.view_is in
    subst (λ found. IfSome found (λ p. pair.0 ≡ p.0))
    (sym (slice_get-get_or c.args.self.now c.args.place pair c.requires ∙ ap Some (sym here))) refl
