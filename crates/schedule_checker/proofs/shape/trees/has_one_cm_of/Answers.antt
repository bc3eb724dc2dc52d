use Rattle.std.proofs.{Common.{◌≡◌, Some, refl, rules, tests}, lemmas.{Bool.Decides.same_from_decides, Iterator.YieldsList-from_slice}}
use Rattle.std.proofs.lemmas.Iterator.Consumers.{YieldsList-from_filter, count_from_yields_List}
use Rattle.net_plan.specs.declared.{tables.{Role.TheVariants.Cm}}
use Rattle.schedule_checker.proofs.{Elements.decides_one, ShapeRules.{cm_test, decides_cm}}
use Rattle.schedule_checker.proofs.shape.trees.has_one_cm_of.Goals as goal

pub returns : goal.returns
returns c =
    let devices = c.args.network.now.device in
    let channel = c.args.channel in
    let count = count_from_yields_List c.filter.result c.count.result c.count.ensures.ran
    (YieldsList-from_filter _ (cm_test channel) (YieldsList-from_slice devices cc) c.filter.ensures.closure
    (λ x b q k. (search rules, same_from_decides b (cm_test channel x.now) (search (rules, tests)) (decides_cm channel x.now)))) in
    decides_one (λ d. d.0) (λ k. (record { 0 = k })) (λ d. refl) (λ k. refl) (cm_test channel)
    (λ d. (d.role ≡ Cm) × (d.channel ≡ Some channel)) (decides_cm channel) devices c.count.result count
