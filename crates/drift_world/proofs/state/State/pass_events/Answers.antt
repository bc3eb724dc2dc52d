use Rattle.drift_world.proofs.{BefallenLaws.befallen_behind, Signals.sound_same, Turning.plain_step}
use Rattle.drift_world.proofs.Words.{◌≡◌, ap, arith, eqb-true, length, refl, subst, sym}
use Rattle.drift_world.proofs.state.State.pass_events.Goals as goal
use Rattle.std.proofs.lemmas.List.{nil_from_length}
use Rattle.world_state.specs.Befalling.{AreSettledBy}

pub returns-then-is_empty-clause-step : goal.returns-then-is_empty-clause-step
returns-then-is_empty-clause-step g c =
    let w = c.args.self.now in
    let network = c.args.network.now in
    let well = c.requires.well in
    let own = w.befell.ok.0 in
    let zero = eqb-true _ _ (sym c.if-is_empty.ensures) in
    let none = nil_from_length w.befell.items (omega (arith, own, zero)) in
    let few : length w.befell.items ≡ 0 = ap length none in
    let numbers = c.requires.room.numbers in
    plain_step well
    (sound_same _ well.sound refl refl refl refl refl refl refl refl refl refl well.sound.fit.octets)
    (λ n. record {
      clocks = refl;
      time = refl;
      ended = refl;
      machines = λ i other. refl;
      waiting = λ v other. (λ there. there, λ there. there);
    }) refl refl
    (λ s notes old.
    let given = old.given in
    (befallen_behind w old c.if-self.true w.settled.items w.under_way.entries none
    (omega (arith, given, few, numbers))
    (subst (λ l. AreSettledBy network w.broken.items w.ups.items w.time l w.settled.items w.settled.items
    w.under_way.entries w.under_way.entries) (sym none) (refl, refl))).0)
