use Rattle.lp_model.proofs.NamePlaces.{name_pushed}
use Rattle.lp_model.proofs.name_index.NameIndex.push.Goals as goal

pub returns-clause-ok : goal.returns-clause-ok
returns-clause-ok c =
    name_pushed (λ k. k.items) c.in_ok-name.name c.self.inside.names.keys _ c.args.name.now c.args.self.now
    c.self.view_is c.in_ok-name.ensures.items c.requires c.in_ok-insert.ensures.keys
