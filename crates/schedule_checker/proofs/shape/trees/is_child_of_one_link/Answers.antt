use Rattle.net_plan.specs.declared.{ids.LinkId.LinkId}
use Rattle.std.proofs.Common.{◌≡◌, refl, rules, tests}
use Rattle.schedule_checker.proofs.{Elements.decides_one, ShapeRules.{child_test, decides_child}}
use Rattle.std.proofs.lemmas.{Bool.Decides.same_from_decides, Iterator.{Consumers.{YieldsList-from_filter, count_from_yields_List}, YieldsList-from_slice}}
use Rattle.schedule_checker.proofs.shape.trees.is_child_of_one_link.Goals as goal

pub returns : goal.returns
returns c =
    let links = c.args.network.now.link in
    let device = c.args.device in
    let test = child_test device in
    let count = count_from_yields_List c.filter.result c.count.result c.count.ensures.ran
    (YieldsList-from_filter _ test (YieldsList-from_slice links cc) c.filter.ensures.closure
    (λ x b q k. (search rules, same_from_decides b (test x.now) (search (rules, tests)) (decides_child device x.now)))) in
    decides_one (λ l. l.0) (λ k. let l : LinkId = record { 0 = k } in l) (λ l. refl) (λ k. refl) test
    (λ l. l.child ≡ device)
    (decides_child device) links c.count.result count
