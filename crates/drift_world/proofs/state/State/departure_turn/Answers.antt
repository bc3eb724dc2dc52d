use Rattle.drift_world.{specs.declared.{source.Source.TheVariants.Departure, state.State.State}}
use Rattle.drift_world.proofs.{Signals.{all_put, have_octets, sound_same}, Timings.aside}
use Rattle.drift_world.proofs.{Turning.{kept_timers, plain_step, source_at, step_kept}}
use Rattle.drift_world.proofs.Turned.{all_put_in, changes_both, first_given, next_first, no_shelf, no_waiter, turns_of}
use Rattle.drift_world.proofs.state.State.departure_turn.Goals.{After-leave_port}
use Rattle.drift_world.proofs.Words.{◌∙◌, ◌≡◌, List, None, Note, Option, Scenario, Settled, Some, Stands, TurnsIn, ap, arith}
use Rattle.drift_world.proofs.Words.{changed_device, keeps, numbers_of, rank, refl, subst, sym, world_of}
use Rattle.world_law.specs.world.World.{is_at_source}
use Rattle.drift_world.proofs.state.State.departure_turn.Given as given
use Rattle.drift_world.proofs.state.State.departure_turn.Goals as goal

-- what leaves is worked off, and this is its record, if there is one
turned : (g : given.Over) (c : After-leave_port g) {one : Option Settled} → c.leave_port.result ≡ one → {s : Scenario}
    {notes : List Note}
    → Stands g.C.Clock.reading (keeps g.M.Machine.stands) s (world_of c.args.network.now c.args.self.now) notes
    → TurnsIn g.C.Clock.reading g.M.Machine.stands c.args.network.now s notes
    (world_of c.args.network.now c.leave_port.new.self) (numbers_of c.args.place) one None
turned g c same {s} {notes} is =
    rw same at (turns_of c.leave_port.new.self c.leave_port.result None c.requires.may tt c.leave_port.ensures.turns is)

pub returns-in_default-clause-kept : goal.returns-in_default-clause-kept
returns-in_default-clause-kept g c =
    let mid = c.leave_port.new.self in
    let left = c.in_default.ensures in
    let here = (goal.at.returns-in_default-clause-kept g c).After-leave_port in
    step_kept (plain_step c.requires.may.well left.sound left.others
    (ap State.timers left.same)
    (ap State.given left.same)
    (λ s notes is.
    (all_put_in mid.settled.items refl
    mid.settled.items mid.settled.items (turned g here c.in_default.is is) refl refl refl).0))

pub give_first-requires-clause-number : goal.give_first-requires-clause-number
give_first-requires-clause-number g c =
    let numbers = c.requires.may.room.numbers in
    let given = ap State.given c.in-Some.ensures.same in
    omega (arith, given)

pub give_first-requires-clause-room : goal.give_first-requires-clause-room
give_first-requires-clause-room g c =
    let launches = c.requires.may.room.launches in
    let kept = c.in-Some.ensures.room in
    omega arith

pub give_first-requires-clause-octets : goal.give_first-requires-clause-octets
give_first-requires-clause-octets g c = subst have_octets (sym c.record-gone.ensures) c.in-Some.ensures.octets

pub give_first-requires-clause-capacity : goal.give_first-requires-clause-capacity
give_first-requires-clause-capacity g c =
    let eight : rank c.record-gone.result.body ≡ 8 = rw c.record-gone.ensures
    (c.leaves.ensures.yes c.if-leaves.true) in
    no_waiter c.record-gone.result.body c.leave_port.new.self.waiting (λ two. omega arith)

pub give_first-requires-clause-place : goal.give_first-requires-clause-place
give_first-requires-clause-place g c =
    let eight : rank c.record-gone.result.body ≡ 8 = rw c.record-gone.ensures
    (c.leaves.ensures.yes c.if-leaves.true) in
    no_shelf c.record-gone.result.body c.leave_port.new.self.stored (λ taken. omega arith)

pub give_first-requires-clause-next : goal.give_first-requires-clause-next
give_first-requires-clause-next g c =
    let run = c.requires.may.well.running in
    let here = (goal.at.give_first-requires-clause-next g c).After-leave_port in
    let mid = c.leave_port.new.self in
    let one = c.record-gone.result in
    let eight : rank one.body ≡ 8 = rw c.record-gone.ensures
    (c.leaves.ensures.yes c.if-leaves.true) in
    let turn = turned g here (c.in-Some.is ∙ ap Some (sym c.record-gone.ensures)) run.is in
    record {
      s = run.s;
      notes = run.notes;
      next = next_first mid.settled.items refl turn
          mid.settled.items refl (source_at (Departure c.args.place) one.body eight);
      own = turn.first_is;
    }

pub returns-then-leaves-clause-kept : goal.returns-then-leaves-clause-kept
returns-then-leaves-clause-kept g c =
    let mid = c.leave_port.new.self in
    let gave = c.give_first.new.self in
    let one = c.record-gone.result in
    let other = changed_device one.body in
    let may = c.requires.may in
    let left = c.in-Some.ensures in
    let give = c.give_first.ensures in
    let eight : rank one.body ≡ 8 = rw c.record-gone.ensures
    (c.leaves.ensures.yes c.if-leaves.true) in
    let far = ap (λ z. changed_device z.body) c.record-gone.ensures ∙ left.none in
    let few = may.range.few_devices in
    let changes = changes_both (left.others other) give.others in
    let time = changes.time in
    kept_timers _
    may.well give.sound
    (record { clocks = changes.clocks; ended = changes.ended; later = omega arith })
    (λ s notes is.
    let network = c.args.network.now in
    let here = (goal.at.returns-then-leaves-clause-kept g c).After-leave_port in
    (first_given mid.settled.items refl
    (turned g here (c.in-Some.is ∙ ap Some (sym c.record-gone.ensures)) is) mid.settled.items refl
    (source_at (Departure c.args.place) one.body eight)
    (world_of network gave) give.note
    (rw give.same) (give.launched s notes)).0)
    refl
    (aside may.well.timed (omega arith) changes
    (ap State.timers give.same ∙ ap State.timers left.same))

pub returns-clause-kept : goal.returns-clause-kept
returns-clause-kept g c =
    let mid = c.leave_port.new.self in
    let left = c.in-Some.ensures in
    let same = c.record-other.ensures in
    let put = c.put_in.ensures.is in
    let after : State _ _ = record mid { settled = c.put_in.new.settled } in
    let here = (goal.at.returns-clause-kept g c).After-leave_port in
    let late = ap (λ z. is_at_source z.body) same ∙ left.late (c.leaves.ensures.no c.if-leaves.false) in
    step_kept (plain_step c.requires.may.well
    (sound_same after left.sound refl refl refl refl refl refl refl refl refl refl
    (all_put have_octets put.1
    (subst have_octets (sym same) left.octets) left.sound.fit.octets))
    (λ n. let o = left.others n in record { clocks = o.clocks; time = o.time; ended = o.ended; machines = o.machines; waiting = o.waiting })
    (ap State.timers left.same) (ap State.given left.same)
    (λ s notes is.
    (all_put_in mid.settled.items refl c.put_in.new.settled.items c.put_in.new.settled.items
    (turned g here (c.in-Some.is ∙ ap Some (sym same)) is) put
    refl late).0))
