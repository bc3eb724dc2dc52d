use Rattle.{tte_units.proofs.general_lemmas.Lists.searched}
use Rattle.std.proofs.{Common.{◌&&◌, ◌==◌, ◌≡◌, false, rules, tests, true}, lemmas.Iterator.{IsFirst-from_position, YieldsList-from_slice}}
use Rattle.net_plan.proofs.network.Network.row_of.Goals as goal

pub returns-clause-is : goal.returns-clause-is
returns-clause-is c =
    let rows = c.args.self.now.row in
    let vl = c.args.vl in
    let link = c.args.link in
    let found = IsFirst-from_position _ _ c.position.result (λ row. (row.vl.0 == vl.0 && row.link.0 == link.0) ≡ true)
    (λ row. (row.vl.0 == vl.0 && row.link.0 == link.0) ≡ false) c.position.ensures.ran (YieldsList-from_slice rows cc)
    (λ x q k. search (rules, tests)) (λ x q k. search (rules, tests)) in
    searched (λ row. row.vl.0 == vl.0 && row.link.0 == link.0) rows c.position.result found
