use Rattle.audit_law.{proofs.events_lemmas.Histories.two_more, specs.events.Beginnings.AreWaysOf}
use Rattle.tte_units.proofs.general_lemmas.Lists.{take_all}
use Rattle.{std.proofs.Common.{◌++◌, ◌∙◌, ◌∷◌, [], ap, subst, sym}}
use Rattle.{std.{proofs.lemmas.List.take_more, specs.Prelude.take}}
use Rattle.audit_law.proofs.events.history.untouched_ways.Goals as goal

pub loop-link-init : goal.loop-link-init
loop-link-init c = subst (AreWaysOf []) (sym c.new-ways.ensures.items) tt

pub loop-link-preserved : goal.loop-link-preserved
loop-link-preserved c =
    let links = c.as_slice-link-items.result.now in
    let n = c.loop-link.link-index in
    let link = c.link-item.result in
    let front =
    take_more links n link c.loop-link-test.true ∙ ap (λ l. take n links ++ l ∷ []) (sym c.link-item.is) in
    let ways = c.in_ok-push-2.ensures.items ∙ ap (λ l. l ++ c.untouched_way-in-loop-link.result ∷ [])
    c.in_ok-push.ensures.items in
    rw front (subst (AreWaysOf (take n links ++ link ∷ [])) (sym ways)
    (two_more (take n links) c.loop-link.ways.items link c.loop-link.invariant
    c.untouched_way.ensures c.untouched_way-in-loop-link.ensures))

pub returns : goal.returns
returns c =
    rw (take_all c.as_slice-link-items.result.now c.loop-link.link-index c.loop-link-test.false ∙
    c.as_slice-link-items.ensures) at c.loop-link.invariant
