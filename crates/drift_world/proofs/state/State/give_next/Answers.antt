use Rattle.drift_world.{specs.declared.state.State.State}
use Rattle.drift_world.proofs.{Timings.in_range, Turning.{gives_first, kept_timers, plain_step, step_kept}}
use Rattle.drift_world.proofs.{state.State.give_next.Goals.In-Ok}
use Rattle.drift_world.proofs.Words.{◌++◌, ◌∙◌, ◌∷◌, ◌≡◌, List, Note, Scenario, Stands, World, [], ap, arith}
use Rattle.drift_world.proofs.Words.{keeps, note_of, settled_at, sym, units_of, world_of}
use Rattle.drift_world.proofs.state.State.give_next.Given as given
use Rattle.drift_world.proofs.state.State.give_next.Goals as goal

given_so : (g : given.Over) (c : In-Ok g) {s : Scenario} {notes : List Note}
    → Stands g.C.Clock.reading (keeps g.M.Machine.stands) s (world_of c.args.network.now c.args.self.now) notes
    → (c.give.new.note ≡ note_of notes (settled_at c.args.network.now c.args.self.now.time c.requires.first.first))
    × Stands g.C.Clock.reading (keeps g.M.Machine.stands) s (world_of c.args.network.now c.give.new.self)
    (notes ++ c.give.new.note ∷ [])
given_so g c {s} {notes} old =
    let f = c.requires.first in
    let step = c.in-Ok.ensures.stands s notes f.first f.others f.whole old
    (gives_first f s c.requires.well.sound old) in
    (step.0, step.1.0)

pub give-requires-clause-range : goal.give-requires-clause-range
give-requires-clause-range g c = in_range c.requires.well.running

pub rekey_after-requires-clause-may : goal.rekey_after-requires-clause-may
rekey_after-requires-clause-may g c =
    let well = c.requires.well in
    let run = well.running in
    let E = c.in-Ok.ensures in
    record {
      sized = E.sound.sized;
      slots = rw E.same well.timed.sized;
      running = record {
        s = run.s;
        notes = run.notes ++ c.give.new.note ∷ [];
        is = (given_so g (goal.at.rekey_after-requires-clause-may g c).In-Ok run.is).1;
      };
    }

pub returns-in-Ok-clause-kept : goal.returns-in-Ok-clause-kept
returns-in-Ok-clause-kept g c =
    let well = c.requires.well in
    let mid = c.give.new.self in
    let E = c.in-Ok.ensures in
    let time = ap State.time E.same in
    kept_timers (c.give.new.note
    ∷ []) well E.sound
    (record { clocks = ap State.clocks E.same; ended = ap State.ended E.same; later = omega arith })
    (λ s notes old. (given_so g (goal.at.returns-in-Ok-clause-kept g c).In-Ok old).1)
    c.rekey_after.ensures.same
    (c.rekey_after.ensures.timed c.args.self.now well.timed
    (rw c.body.ensures E.others)
    (ap State.machines E.same) (ap State.timers E.same))

pub returns-in-Ok-clause-says : goal.returns-in-Ok-clause-says
returns-in-Ok-clause-says g c =
    let run = c.requires.well.running in
    let E = c.in-Ok.ensures in
    let same = c.rekey_after.ensures.same in
    let time = ap State.time same ∙ ap State.time E.same in (
      ap Note.time (given_so g (goal.at.returns-in-Ok-clause-says g c).In-Ok run.is).0 ∙ ap units_of (sym time),
      time,
      ap State.given same ∙ E.given,
    )

pub returns-in-Err-clause-kept : goal.returns-in-Err-clause-kept
returns-in-Err-clause-kept g c =
    let E = c.in-Err.ensures in
    step_kept (plain_step c.requires.well E.sound E.unmoved
    (ap State.timers E.same)
    (ap World.given E.err)
    (λ s notes old. rw E.err old))

pub returns-in-Err-clause-err : goal.returns-in-Err-clause-err
returns-in-Err-clause-err g c = ap State.time c.in-Err.ensures.same
