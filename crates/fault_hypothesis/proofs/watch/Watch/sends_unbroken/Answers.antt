use Rattle.std.proofs.Common.{◌∙◌, ap, sym}
use Rattle.fault_hypothesis.proofs.Keeping.{sends_by}
use Rattle.net_plan.specs.Places.{link_at}
use Rattle.fault_hypothesis.proofs.watch.Watch.sends_unbroken.Goals as goal

pub returns-in-Some : goal.returns-in-Some
returns-in-Some c = λ network admitted w.
    let at = ap (λ n. link_at n c.in-Send.link) (sym (c.network.ensures.value ∙ w.over)) ∙ sym c.in-Some.ensures in
    sends_by network admitted c.args.event.now c.in-Send.link c.in-Send.field-1 c.in-Some.found.now c.in-Send.is at c.is_broken.result
    (c.is_broken.ensures network admitted w)
