use Rattle.{std.proofs.lemmas.Iterator.{YieldsList-from_slice, YieldsList-from_take, cases_from_all}}
use Rattle.std.proofs.Common.{◌≡◌, ◌≢◌, rules, tests}
use Rattle.schedule_checker.proofs.ShapeRules.{new_from_all}
use Rattle.schedule_checker.proofs.virtual_links.vl_id_is_new.Goals as goal

pub returns : goal.returns
returns c =
    let xs = c.args.network.now.vl in
    let place = c.args.place in
    let vl = c.vl_at-vl.result.now in
    new_from_all (λ v. v.id) xs place vl c.all.result c.vl_at-vl.ensures
    (cases_from_all _ _ c.all.result (λ e. e.id ≢ vl.id) (λ e. e.id ≡ vl.id) c.all.ensures.ran (YieldsList-from_take place (YieldsList-from_slice xs cc) cc)
    (λ x q k. search (rules, tests)) (λ x q k. search (rules, tests)))
