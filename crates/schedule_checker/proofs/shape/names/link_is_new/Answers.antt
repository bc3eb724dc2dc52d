use Rattle.net_plan.specs.declared.tables.Link.{Link}
use Rattle.std.proofs.Common.{◌∙◌, ◌≡◌, ◌≢◌, ap, get_or, rules, sym, take, tests}
use Rattle.schedule_checker.proofs.Elements.{decides_all, decides_new}
use Rattle.std.{proofs.lemmas.{Iterator.{YieldsList-from_slice, YieldsList-from_take, cases_from_all}, Option.slice_get-get_or}}
use Rattle.schedule_checker.proofs.shape.names.link_is_new.Goals as goal

abbrev Differ : Link → Link → Type 0
Differ l e = l.name ≢ e.name

abbrev Agree : Link → Link → Type 0
Agree l e = l.name ≡ e.name

pub returns : goal.returns
returns c =
    let links = c.args.network.now.link in
    let place = c.args.place in
    let link = c.index-links-place.result in
    let is : link ≡ get_or links place link = c.index-links-place.is ∙ ap (λ xs. get_or xs place link)
    c.as_slice-links.ensures in
    let at = slice_get-get_or links place link c.requires ∙ (rw (sym is)) in
    let cases = cases_from_all _ _ c.all.result (Differ link) (Agree link) c.all.ensures.ran
    (YieldsList-from_take place (YieldsList-from_slice links cc) c.take.ensures.count) (λ x q k. search (rules, tests)) (λ x q k. search (rules, tests))
    in
    decides_new Differ links place link c.all.result at (decides_all (Differ link) (Agree link) (take place links) c.all.result (λ e h g. h g) cases)
