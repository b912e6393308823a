use Rattle.std.proofs.Common.{◌≡◌, ◌+◌, ℕ, Ok, refl, sym, subst, ap}
use Rattle.spec_bas.specs.Steps.{State, More, Done, step}
use Rattle.spec_bas.specs.Fits.{IsMarking}
use Rattle.spec_bas.proofs.MarkSteps.{step_keeps, step_fits}
use Rattle.lp_bas.specs.FileRead.{FileRead}
use Rattle.lp_bas.specs.Feeds.{GoesOn, Ends}
use Rattle.lp_bas.specs.Steps.{Advances}
use Rattle.lp_bas.proofs.reader.BasReader.feed.Goals as goal

abbrev read_of : State → ℕ → FileRead
read_of s n = record { state = s; lines = n }

pub returns-in-Ok-None : goal.returns-in-Ok-None
returns-in-Ok-None c =
    let m = c.args.model.now in
    let f = c.args.form.now in
    let line = c.args.line.now in
    let s = c.self.inside.marks in
    let t = c.take.new.self in
    let e : step m f s line ≡ Ok (More t) =
    subst (λ o. Advances (step m f s line) s t (Ok o)) c.in-Ok-None.field-0-is c.in-Ok-None.ensures in
    let g = subst (λ (old : FileRead). IsMarking f old.state) (sym c.self.view_is) c.requires.marking in
    subst (λ (old : FileRead). GoesOn f (step m f old.state line) old (read_of t (c.self.inside.lines + 1)))
    c.self.view_is
    (record { state = e; lines = refl; marking = step_keeps m f c.requires.sizes s g line t e })

pub returns-in-Ok-Some : goal.returns-in-Ok-Some
returns-in-Ok-Some c =
    let m = c.args.model.now in
    let f = c.args.form.now in
    let line = c.args.line.now in
    let s = c.self.inside.marks in
    let t = c.take.new.self in
    let e : (step m f s line ≡ Ok (Done c.in-Ok-Some.basis)) × (t ≡ s) =
    subst (λ o. Advances (step m f s line) s t (Ok o)) c.in-Ok-Some.field-0-is c.in-Ok-Some.ensures in
    let g = subst (λ (old : FileRead). IsMarking f old.state) (sym c.self.view_is) c.requires.marking in
    subst (λ (old : FileRead). Ends f (step m f old.state line) old (read_of t c.self.inside.lines)
    c.in-Ok-Some.basis) c.self.view_is
    (record {
      state = e.0;
      fits = step_fits m f c.requires.sizes s g line c.in-Ok-Some.basis e.0;
      kept = ap (λ u. read_of u c.self.inside.lines) e.1;
    })
