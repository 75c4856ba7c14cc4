use Rattle.std.proofs.Common.{nat_eq, ◌∙◌, rules, tests}
use Rattle.std.proofs.lemmas.Iterator.{YieldsList-from_slice}
use Rattle.std.proofs.lemmas.Iterator.Search.{position_from_yields_List}
use Rattle.cache.specs.declared.store.Place.{Place}
use Rattle.cache.proofs.Keys.{position_found}
use Rattle.cache.proofs.store.Store.find.Goals as goal

pub returns : goal.returns
returns c =
    let x = c.args.sector in
    let ps = c.args.self.now.places.items in
    position_from_yields_List (λ (p : Place). nat_eq p.sector x) _ _ c.position.result c.position.ensures.ran
    (YieldsList-from_slice ps (cc)) (λ p b q k. search (rules, tests)) ∙
    position_found (λ (p : Place). p.sector) x ps
