use Rattle.audit_devices.proofs.clocks_lemmas.Reached.{none_reached, point_is}
use Rattle.run_law.specs.control.Corrections.{correction_value}
use Rattle.{run_law.specs.device.LocalClocks.Reaches, std.proofs.Common.{◌∙◌, ap, rules, subst, sym}}
use Rattle.std.{proofs.lemmas.{Bool.false≢true, Int.to_z-of_z}, specs.Int.w128}
use Rattle.audit_devices.proofs.clocks.correcting.coming_cycle.Goals as goal

pub returns-then-reaches : goal.returns-then-reaches
returns-then-reaches c s hs device t cycle stands =
    let n = c.in_ok-cycle.cycle in
    let value = to_z-of_z w128 c.correction_value.result (search rules) ∙ c.correction_value.ensures.value
    ∙ ap (λ x. correction_value x n) (sym stands.of_network) in
    point_is s hs device t n cycle (sym c.in_ok-cycle.was ∙ c.next_point.ensures s hs device t stands)
    (sym stands.befalls.broken ∙ c.if-moment.false)
    (subst (λ z. Reaches s hs device z t) value
    ((c.reaches.ensures s hs device t stands.befalls.reading stands.befalls.steady stands.shows).0 c.if-reaches.true))

pub returns-else-reaches : goal.returns-else-reaches
returns-else-reaches c s hs device t cycle stands =
    let n = c.in_ok-cycle.cycle in
    let value = to_z-of_z w128 c.correction_value.result (search rules) ∙ c.correction_value.ensures.value
    ∙ ap (λ x. correction_value x n) (sym stands.of_network) in (
      λ e. absurd cc,
      λ p. absurd (none_reached s hs device t n (sym c.in_ok-cycle.was ∙ c.next_point.ensures s hs device t stands)
          (λ r. false≢true (sym c.if-reaches.false ∙ (c.reaches.ensures s hs device t stands.befalls.reading stands.befalls.steady stands.shows).1
          (subst (λ z. Reaches s hs device z t) (sym value) r))) p),
    )
