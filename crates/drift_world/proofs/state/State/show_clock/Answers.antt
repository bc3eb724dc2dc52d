use Rattle.drift_world.proofs.{Rising.settled_in_order, Turned.one_turn}
use Rattle.run_law.{proofs.runs.Determined.same_units, specs.declared.note.NoteBody.TheVariants.Clock as Shown}
use Rattle.world_law.proofs.{giving.GivenParts.some_same, steps_lemmas.turns.Turns.clock_turn}
use Rattle.drift_world.proofs.Words.{◌<◌, ◌∙◌, None, NoteBody, Settled, amount, ap, arith, keeps, length, pos}
use Rattle.drift_world.proofs.Words.{slice_get_read, sym, world_of}
use Rattle.drift_world.proofs.state.State.show_clock.Goals as goal

pub returns-clause-sound : goal.returns-clause-sound
returns-clause-sound g c =
    let z = c.requires.sound.sized in
    let fit = c.requires.sound.fit in
    let more = c.requires.more in
    let next = c.requires.next in
    record {
      sized = record {
        clocks = z.clocks;
        machines = z.machines;
        broken = z.broken;
        ups = z.ups;
        downs = z.downs;
        stepped = z.stepped;
        limit = z.limit;
        shown = omega arith;
      };
      under_way = c.requires.sound.under_way;
      fit = record {
        ups = fit.ups;
        downs = fit.downs;
        octets = fit.octets;
        below = fit.below;
        waits_below = fit.waits_below;
        apart = fit.apart;
      };
    }

pub returns-clause-turns : goal.returns-clause-turns
returns-clause-turns g c = λ ended s notes old first.
    let w = c.args.self.now in
    let K = g.C.Clock in
    let network = c.args.network.now in
    let world = world_of network w in
    let device = c.args.device in
    let there : device.0 < length s.network.device = rw old.same at c.requires.more in
    let more = c.requires.more in
    let clocks = c.requires.sound.sized.clocks in
    let machines = c.requires.sound.sized.machines in
    let held = w.clocks.ok.0 in
    let kept = w.machines.ok.0 in
    let own = old.clocks device there in
    let same = some_same _ _ _ own.1
    (slice_get_read w.clocks.items w.clocks.len device.0 c.index.result.now w.clocks.ok.0 (omega arith)
    c.index.ensures) in
    let read = same_units _ _
    (c.read-reading.ensures ∙ ap (λ t. pos (K.reading c.index.result.now (amount t))) c.from_amount.ensures.value
    ∙ ap (λ k. pos (K.reading k w.time)) (sym same) ∙ ap pos (sym (own.2 w.time (omega arith)))) in
    let shows : NoteBody → Settled = λ body. record { body = body; frame = None; octets = None } in
    one_turn g.M.Machine.stands network
    (shows (Shown device c.read-reading.result c.adjustment.result c.state.result)) (settled_in_order old)
    (rw read)
    (clock_turn K.reading (keeps g.M.Machine.stands) s world notes device c.index-machine.result.now c.state.result
    c.adjustment.result
    old there ended (sym c.requires.next) first
    (slice_get_read w.machines.items w.machines.len device.0 c.index-machine.result.now w.machines.ok.0 (omega arith)
    c.index-machine.ensures)
    (λ node of_it. (c.state.ensures s.network device node of_it, c.adjustment.ensures s.network device node of_it)))
