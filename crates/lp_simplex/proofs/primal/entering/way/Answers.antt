-- By the signs, and by the statuses.
use Rattle.std.proofs.Common.{sym, ap, ◌∙◌, ⊎_elim, Less, Equal, Greater}
use Rattle.lp_simplex.proofs.SignCases.{way_is, way_of, still}
use Rattle.lp_simplex.proofs.primal.entering.way.Goals as goal

pub returns-in-AtLower : goal.returns-in-AtLower
returns-in-AtLower c =
    let d = way_is c.args.status c.args.reduced Less (sym c.in-Less.is ∙ c.sign.ensures) in
    ⊎_elim (λ e. ap (λ s. way_of s Less) (sym e) ∙ d) (λ e. ap (λ s. way_of s Less) (sym e) ∙ d) c.in-AtLower.is

pub returns-in-Basic : goal.returns-in-Basic
returns-in-Basic c =
    let d = way_is c.args.status c.args.reduced Less (sym c.in-Less.is ∙ c.sign.ensures) in
    ⊎_elim (λ e. ap (λ s. way_of s Less) (sym e) ∙ d) (λ e. ap (λ s. way_of s Less) (sym e) ∙ d) c.in-Basic.is

pub returns-in-Equal : goal.returns-in-Equal
returns-in-Equal c =
    still c.args.status ∙ way_is c.args.status c.args.reduced Equal (sym c.in-Equal.is ∙ c.sign.ensures)

pub returns-in-AtUpper : goal.returns-in-AtUpper
returns-in-AtUpper c =
    let d = way_is c.args.status c.args.reduced Greater (sym c.in-Greater.is ∙ c.sign.ensures) in
    ⊎_elim (λ e. ap (λ s. way_of s Greater) (sym e) ∙ d) (λ e. ap (λ s. way_of s Greater) (sym e) ∙ d) c.in-AtUpper.is

pub returns-in-Basic-status : goal.returns-in-Basic-status
returns-in-Basic-status c =
    let d = way_is c.args.status c.args.reduced Greater (sym c.in-Greater.is ∙ c.sign.ensures) in
    ⊎_elim (λ e. ap (λ s. way_of s Greater) (sym e) ∙ d)
    (λ e. ap (λ s. way_of s Greater) (sym e) ∙ d) c.in-Basic-status.is
