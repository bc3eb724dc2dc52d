use Rattle.lens_plan.{proofs.Attempts.links_next, specs.{declared.places.ways.Hop.Hop, places.Limits.hop_by_link}}
use Rattle.std.{proofs.Common.{◌++◌, ◌∙◌, Option, ap}, specs.Option.option_to_list}
use Rattle.lens_plan.proofs.places.limits.push_once.Goals as goal

pub links-preserved : goal.links-preserved
links-preserved c =
    links_next (hop_by_link c.args.ways.now) c.links.link c.args.hops.now.items c.links.hops.items c.push_some.new.items.items c.links.invariant
    (c.in-Ok.ensures ∙ ap (λ (o : Option Hop). c.links.hops.items ++ option_to_list o) c.hop_by_link.ensures)
