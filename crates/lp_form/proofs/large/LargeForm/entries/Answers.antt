-- The entries of a form's column are kept.
use Rattle.std.proofs.Common.{[], get_or, sym, subst, ap, ◌∙◌, arith}
use Rattle.std.proofs.lemmas.List.Elements.{All-get_or}
use Rattle.std.proofs.lemmas.Option.{get_or_from_slice_get}
use Rattle.spec_model.specs.Kept.{AreEntries, large_limits}
use Rattle.spec_simplex.specs.Form.{Form, IsFormWithin}
use Rattle.lp_form.proofs.large.LargeForm.entries.Goals as goal

pub returns-clause-kept : goal.returns-clause-kept
returns-clause-kept c =
    let f : Form = c.args.self.now in
    let g : IsFormWithin large_limits f = subst (IsFormWithin large_limits) c.self.view_is c.self.invariant in
    subst (AreEntries f.rows)
    (sym (c.as_slice.ensures
    ∙ sym (get_or_from_slice_get c.self.inside.entries c.args.j c.get.result.now [] c.get.ensures)
    ∙ ap (λ (h : Form). get_or h.entries c.args.j []) c.self.view_is))
    (All-get_or (AreEntries f.rows) f.entries c.args.j [] (omega (arith, g.all_entries, c.requires)) g.columns)
