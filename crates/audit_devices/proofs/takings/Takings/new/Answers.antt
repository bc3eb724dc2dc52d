use Rattle.audit_devices.proofs.Words.{◌++◌, ◌∙◌, ◌∷◌, ◌≡◌, [], ap, arith, length, length-append}
use Rattle.audit_devices.proofs.KeptAll.{items_by, more_devices, no_devices, none_taken}
use Rattle.audit_devices.proofs.takings.Takings.new.Goals as goal

pub loop-init : goal.loop-init
loop-init c = (λ i vl. ap (λ xs. items_by xs i vl) c.new-devices.ensures.items ∙ no_devices i vl, ap length c.new-devices.ensures.items)

pub loop-preserved : goal.loop-preserved
loop-preserved c =
    let xs = c.loop.devices.items in
    let items : c.push.new.self.items ≡ xs ++ c.new.result ∷ [] = c.in_ok-push.ensures.items in (
      λ i vl. ap (λ ys. items_by ys i vl) items ∙ more_devices xs c.new.result i vl c.new.ensures ∙ c.loop.invariant.0 i vl,
      omega (arith, c.loop.invariant.1, ap length items, length-append xs (c.new.result ∷ [])),
    )

pub returns-clause-none : goal.returns-clause-none
returns-clause-none c = none_taken c.args.network.now (record { devices = c.loop.devices }) c.loop.invariant.0

pub returns-clause-count : goal.returns-clause-count
returns-clause-count c = omega (arith, c.loop.invariant.1, c.loop-test.false, c.loop.auto.counter-end, ap length c.as_slice-end.ensures)
