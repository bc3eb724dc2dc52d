use Rattle.net_plan.specs.{Places.IsSwitchOf, declared.{ids.LinkId.LinkId}}
use Rattle.std.proofs.Common.{◌≡◌, refl, rules, tests}
use Rattle.schedule_checker.proofs.{Elements.decides_one, ShapeRules.{decides_uplink, uplink_test}}
use Rattle.std.proofs.lemmas.{Bool.Decides.same_from_decides, Iterator.{Consumers.{YieldsList-from_filter, count_from_yields_List}, YieldsList-from_slice}}
use Rattle.schedule_checker.proofs.shape.trees.has_one_uplink.Goals as goal

pub returns : goal.returns
returns c =
    let n = c.args.network.now in
    let channel = c.args.channel in
    let device = c.args.device in
    let test = uplink_test n channel device in
    let count = count_from_yields_List c.filter.result c.count.result c.count.ensures.ran
    (YieldsList-from_filter _ test (YieldsList-from_slice n.link cc) c.filter.ensures.closure
    (λ x b q k. (search rules, same_from_decides b (test x.now) (search (rules, tests)) (decides_uplink n channel device x.now)))) in
    decides_one (λ l. l.0) (λ k. let l : LinkId = record { 0 = k } in l) (λ l. refl) (λ k. refl) test
    (λ l. (l.child ≡ device)
    × IsSwitchOf n channel l.parent) (decides_uplink n channel device) n.link c.count.result count
