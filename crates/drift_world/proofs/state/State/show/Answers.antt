use Rattle.drift_world.proofs.Timings.{aside}
use Rattle.drift_world.proofs.{Turned.{changes_both, first_given, next_first, no_change, no_shelf, no_waiter, turns_of}}
use Rattle.drift_world.proofs.{Turning.{kept_timers, source_at}}
use Rattle.drift_world.proofs.Words.{◌∙◌, None, Some, ap, arith, changed_device, refl, world_of}
use Rattle.drift_world.specs.declared.{source.Source.TheVariants.Clock, state.State.State}
use Rattle.drift_world.proofs.state.State.show.Goals as goal

pub give_first-requires-clause-number : goal.give_first-requires-clause-number
give_first-requires-clause-number g c =
    let numbers = c.requires.may.room.numbers in
    let given = ap State.given c.show_clock-record.ensures.same in
    omega arith

pub give_first-requires-clause-room : goal.give_first-requires-clause-room
give_first-requires-clause-room g c =
    rw c.show_clock-record.ensures.same c.requires.may.room.launches

pub give_first-requires-clause-capacity : goal.give_first-requires-clause-capacity
give_first-requires-clause-capacity g c =
    let own = c.show_clock-record.ensures.rank in
    no_waiter c.show_clock-record.result.body c.show_clock-record.new.self.waiting (λ two. omega arith)

pub give_first-requires-clause-place : goal.give_first-requires-clause-place
give_first-requires-clause-place g c =
    let own = c.show_clock-record.ensures.rank in
    no_shelf c.show_clock-record.result.body c.show_clock-record.new.self.stored (λ taken. omega arith)

pub give_first-requires-clause-next : goal.give_first-requires-clause-next
give_first-requires-clause-next g c =
    let run = c.requires.may.well.running in
    let mid = c.show_clock-record.new.self in
    let one = c.show_clock-record.result in
    let turn = turns_of mid (Some one) None c.requires.may tt
    (c.show_clock-record.ensures.turns c.requires.may.foremost.there.ended) run.is in
    record {
      s = run.s;
      notes = run.notes;
      next = next_first mid.settled.items refl turn mid.settled.items refl
          (source_at (Clock c.args.device) one.body c.show_clock-record.ensures.rank);
      own = turn.first_is;
    }

pub returns-clause-kept : goal.returns-clause-kept
returns-clause-kept g c =
    let w = c.args.self.now in
    let mid = c.show_clock-record.new.self in
    let gave = c.give_first.new.self in
    let one = c.show_clock-record.result in
    let other = changed_device one.body in
    let may = c.requires.may in
    let shown = c.show_clock-record.ensures in
    let give = c.give_first.ensures in
    let own = shown.rank in
    let far = no_change one.body (λ two. omega (arith, two, own)) in
    let few = may.range.few_devices in
    let changes = changes_both (shown.others other) give.others in
    let time = changes.time in
    kept_timers _
    may.well give.sound
    (record { clocks = changes.clocks; ended = changes.ended; later = omega arith })
    (λ s notes is.
    let network = c.args.network.now in
    (first_given mid.settled.items refl
    (turns_of mid (Some one) None may tt (shown.turns may.foremost.there.ended) is)
    mid.settled.items refl (source_at (Clock c.args.device) one.body shown.rank) (world_of network gave) give.note
    (rw give.same) (give.launched s notes)).0)
    refl
    (aside may.well.timed (omega arith) changes
    (ap State.timers give.same ∙ ap State.timers shown.same))
