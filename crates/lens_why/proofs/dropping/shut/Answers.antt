use Rattle.{audit_law.specs.events.Readings.scenario_under, lens_why.specs.declared.ground.Ground.{Ground, TheVariants.{Gate, Untold}}}
use Rattle.audit_sweep.specs.Indexing.{clock_at}
use Rattle.{run_law.specs.device.Standpoints.offset_in_cycle, std.proofs.Common.{◌*◌, ◌+ℤ◌, ◌+◌, ◌∙◌, Bool, ap, if◌then◌else◌, pos, rules, sym, ℤ}}
use Rattle.{std.{proofs.lemmas.Int.to_z-of_z, specs.Int.w128}, tte_units.specs.Amount.amount}
use Rattle.lens_why.proofs.dropping.shut.Goals as goal

pub returns-then-is_relay : goal.returns-then-is_relay
returns-then-is_relay c befallen hs k =
    let network = c.args.network.now in
    let s = scenario_under network befallen in
    let d = c.args.device in
    let at : ℤ → Ground = λ z. Gate (offset_in_cycle network (z +ℤ pos (2 * amount network.precision)))
    (amount network.correction + 2 * amount network.precision) in
    c.gate.ensures
    ∙ ap at (to_z-of_z w128 c.clock_at.result (search rules) ∙ c.clock_at.ensures.is befallen hs k
    ∙ ap (λ t. clock_at s hs d t) c.magnitude.ensures)
    ∙ sym (ap (λ (b : Bool). if b then at (clock_at s hs d (amount c.args.time)) else Untold) (sym c.is_relay.ensures ∙ c.if-is_relay.true))
