use Rattle.lens_schedule.proofs.LawProofs.{few_links}
use Rattle.std.{proofs.{Common.{◌<◌, sym, subst}, lemmas.List.Elements.All-tail}, specs.List.All}
use Rattle.net_plan.specs.declared.ids.LinkId.{LinkId}
use Rattle.lens_schedule.proofs.tree.twig_of.Goals as goal

abbrev few : LinkId → Type 0
few l = l.0 < 128

pub place_of-requires : goal.place_of-requires
place_of-requires c =
    subst (All few) (sym c.as_slice-links.ensures.value)
    (few_links c.args.network.now c.args.channel c.args.device c.path-path.result c.requires.few c.path-path.ensures.leads)

pub place_of-requires-in-Some : goal.place_of-requires-in-Some
place_of-requires-in-Some c =
    let links = few_links c.args.network.now c.args.channel c.args.device c.path-path.result c.requires.few c.path-path.ensures.leads in
    All-tail few c.in-Some.link.now c.in-Some.above.now
    (subst (All few) c.in-Some.ensures.cases.0 (subst (All few) (sym c.as_slice-links.ensures.value) links))
