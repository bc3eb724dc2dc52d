use Rattle.{net_plan.specs.declared.tables.Row.Row, run_law.specs.timed.Arrivals.is_row_with, tte_units.proofs.general_lemmas.Lists.searched}
use Rattle.run_law.specs.scenario.Ways.{is_way_of}
use Rattle.std.proofs.{Common.{◌&&◌, ◌≡◌, false, rules, tests, true}, lemmas.Iterator.{IsFirst-from_position, YieldsList-from_slice}}
use Rattle.lens_why.proofs.dropping.place_entering.Goals as goal

pub returns-clause-is : goal.returns-clause-is
returns-clause-is c =
    let network = c.args.network.now in
    let rows = network.row in
    let link = c.args.link in
    let way = c.args.way in
    let id = c.args.id in
    let found = IsFirst-from_position _ _ c.position.result
    (λ (row : Row). (is_way_of link way row.link row.way && is_row_with network id row) ≡ true)
    (λ (row : Row). (is_way_of link way row.link row.way && is_row_with network id row) ≡ false) c.position.ensures.ran (YieldsList-from_slice rows cc)
    (λ x q k. search (rules, tests)) (λ x q k. search (rules, tests)) in
    searched (λ (row : Row). is_way_of link way row.link row.way && is_row_with network id row) rows c.position.result found
