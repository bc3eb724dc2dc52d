use Rattle.{net_plan.specs.{Places.is_master, Rules.masters}, std.{proofs.lemmas.List.Sums.length-filter, specs.List.count_by}}
use Rattle.{net_plan.specs.declared.tables.Device.Device, std.proofs.{Common.{◌∙◌, Bool, is_some, rules, tests}, lemmas.Iterator.YieldsList-from_slice}}
use Rattle.std.proofs.lemmas.Iterator.Consumers.{YieldsList-from_filter, count_from_yields_List}
use Rattle.schedule_checker.proofs.ShapeRules.{decides_at_most}
use Rattle.schedule_checker.proofs.shape.masters.enough_begin_on.Goals as goal

pub returns : goal.returns
returns c =
    let n = c.args.network.now in
    let begins_on : Device → Bool = λ d. is_some d.start in
    let master : Device → Bool = λ d. is_master d.role in
    let count = count_from_yields_List c.filter-2.result c.count-begin_on.result c.count-begin_on.ensures.ran
    (YieldsList-from_filter _ begins_on (YieldsList-from_filter _ master (YieldsList-from_slice n.device cc) (search rules)
    (λ x b q k. search (rules, tests))) c.filter-2.ensures.closure (λ x b q k. search (rules, tests))) in
    let all = count ∙ length-filter begins_on (masters n) in
    decides_at_most n.sync_threshold c.count-begin_on.result (count_by begins_on (masters n)) all
