use Rattle.drift_world.{specs.declared.{source.Source.TheVariants.Ripening, state.State.State}}
use Rattle.drift_world.proofs.{Nearings.due_stays, Signals.{all_put_some, have_octets, sound_same}, Timings.rekeyed_by}
use Rattle.drift_world.proofs.{Turning.{is_at, kept_timers, rekeyed_step, runs_on, step_kept}}
use Rattle.drift_world.proofs.Turned.{all_put_in, dropped_late, first_given, joined_fits, judged_far, judged_rank}
use Rattle.drift_world.proofs.Turned.{judged_source, next_first, no_shelf, no_waiter, octets_fit, record_fits, turns_of}
use Rattle.run_law.specs.declared.steps.Ripe.{Ripe}
use Rattle.world_state.specs.Ripening.{joined_record, ripe_record}
use Rattle.drift_world.proofs.Words.{◌++◌, ◌+◌, ◌∙◌, ◌∷◌, ◌≡◌, ChangesOnly, IsSound, Kept, List, Meaning, Network, Note}
use Rattle.drift_world.proofs.Words.{Option, Scenario, Settled, Some, Stands, TurnsIn, Waits, World, [], ap, arith, both_ways}
use Rattle.drift_world.proofs.Words.{changed_device, keeps, length, rank, refl, ripe_place, subst, sym, true}
use Rattle.drift_world.proofs.Words.{waiting_as}
use Rattle.{drift_world.{proofs.Words.{world_of, ℕ}, specs.Ripening.IsJudged}, std.proofs.Common.{is_some, slice_get}, world_state.specs.Frames.first_of}
use Rattle.drift_world.specs.Turns.{IsRipe, MayWork}
use Rattle.drift_world.proofs.state.State.ripening_turn.Goals.{After-give_first, After-ripen_waits-ripened, After-settle_ripe}
use Rattle.world_law.{proofs.giving.GivenParts.some_same, specs.world.World.is_at_source}
use Rattle.drift_world.proofs.state.State.ripening_turn.Given as given
use Rattle.drift_world.proofs.state.State.ripening_turn.Goals as goal

pub ripen_waits-ripened-requires-clause-there : goal.ripen_waits-ripened-requires-clause-there
ripen_waits-ripened-requires-clause-there g c = ap is_some c.requires.may.foremost.there.is

pub ripen_waits-ripened-requires-clause-reached : goal.ripen_waits-ripened-requires-clause-reached
ripen_waits-ripened-requires-clause-reached g c = λ w clock at own.
    let it = c.requires.may.foremost.there in
    let same = some_same _ _ _ it.is at in
    let clocks = some_same _ _ _ it.own (rw same own) in
    rw clocks at (rw same at it.reached)

pub overflow_add-number : goal.overflow_add-number
overflow_add-number g c = let most = c.requires.may.room.numbers in omega arith

-- the frame that is permanent comes first
first_ripe : {C M : Type 0} {last_step : C → ℕ} {reading : C → ℕ → ℕ} {stands : Meaning M} {network : Network}
    {state : State C M} {one w : Waits} → MayWork last_step reading stands network state (Ripening one)
    → first_of state.waiting one.device.0 ≡ Some w → MayWork last_step reading stands network state (Ripening w)
first_ripe {last_step} {reading} {stands} {network} {state} may at =
    rw (some_same _ _ _ may.foremost.there.is at) at may

pub ripen_waits-ripened-requires-clause-comes : goal.ripen_waits-ripened-requires-clause-comes
ripen_waits-ripened-requires-clause-comes g c = λ w at.
    is_at
    (first_ripe c.requires.may at) tt

changed : {C M : Type 0} {reading : C → ℕ → ℕ} {network : Network} {old new : State C M} {one w : Waits} → IsRipe reading network old one
    → first_of old.waiting one.device.0 ≡ Some w → ChangesOnly w.device.0 old new → ChangesOnly one.device.0 old new
changed {old} {new} ripe at others = rw (some_same _ _ _ ripe.is at) others

-- ---- its record is given

pub give_first-requires-clause-octets : goal.give_first-requires-clause-octets
give_first-requires-clause-octets g c =
    subst have_octets (sym c.record_of-record.ensures) (record_fits c.ripen_waits-ripened.result.waits c.ripen_waits-ripened.result.ripe)

pub give_first-requires-clause-sound : goal.give_first-requires-clause-sound
give_first-requires-clause-sound g c =
    let got = c.ripen_waits-ripened.result in
    let mid = c.ripen_waits-ripened.new.self in
    let sound = c.ripen_waits-ripened.ensures.sound in
    let number = c.args.self.now.given + 1 in
    sound_same _ sound refl refl refl refl refl refl refl refl refl refl
    (all_put_some have_octets (joined_record number got.waits.device got.ripe) mid.settled.items c.put_change.new.settled.items
    (rw c.joined-change.ensures at c.put_change.ensures.is)
    (joined_fits number got.waits.device got.ripe) sound.fit.octets)

pub give_first-requires-clause-number : goal.give_first-requires-clause-number
give_first-requires-clause-number g c =
    let numbers = c.requires.may.room.numbers in
    let given = ap State.given c.ripen_waits-ripened.ensures.same in
    omega (arith, given)

pub give_first-requires-clause-room : goal.give_first-requires-clause-room
give_first-requires-clause-room g c =
    rw c.ripen_waits-ripened.ensures.same c.requires.may.room.launches

pub give_first-requires-clause-capacity : goal.give_first-requires-clause-capacity
give_first-requires-clause-capacity g c =
    let own = ap (λ z. rank z.body) c.record_of-record.ensures
    ∙ judged_rank c.ripen_waits-ripened.result.waits c.ripen_waits-ripened.result.ripe (c.is_judged.ensures.0 c.if-is_judged.true) in
    no_waiter c.record_of-record.result.body c.ripen_waits-ripened.new.self.waiting (λ two. omega arith)

pub give_first-requires-clause-place : goal.give_first-requires-clause-place
give_first-requires-clause-place g c =
    let own = ap (λ z. rank z.body) c.record_of-record.ensures
    ∙ judged_rank c.ripen_waits-ripened.result.waits c.ripen_waits-ripened.result.ripe (c.is_judged.ensures.0 c.if-is_judged.true) in
    no_shelf c.record_of-record.result.body c.ripen_waits-ripened.new.self.stored (λ taken. omega arith)

-- it is worked off, and these are its records
turned : (g : given.Over) (c : After-ripen_waits-ripened g) {s : Scenario} {notes : List Note}
    → Stands g.C.Clock.reading (keeps g.M.Machine.stands) s (world_of c.args.network.now c.args.self.now) notes
    → TurnsIn g.C.Clock.reading g.M.Machine.stands c.args.network.now s notes
    (world_of c.args.network.now c.ripen_waits-ripened.new.self)
    (ripe_place c.args.self.now.time (waiting_as c.ripen_waits-ripened.result.waits))
    (Some (ripe_record c.ripen_waits-ripened.result.waits c.ripen_waits-ripened.result.ripe))
    (joined_record (c.args.self.now.given + 1) c.ripen_waits-ripened.result.waits.device c.ripen_waits-ripened.result.ripe)
turned g c {s} {notes} is =
    let got = c.ripen_waits-ripened.result in
    turns_of c.ripen_waits-ripened.new.self
    (Some (ripe_record got.waits got.ripe)) (joined_record (c.args.self.now.given + 1) got.waits.device got.ripe)
    (first_ripe c.requires.may c.ripen_waits-ripened.ensures.is) tt
    c.ripen_waits-ripened.ensures.turns is

-- with the record that is made of it
turned_by : {C M : Type 0} {reading : C → ℕ → ℕ} {stands : Meaning M} {network : Network} {s : Scenario}
    {notes : List Note} {world : World C (Kept M)} {place : List ℕ} (w : Waits) (is : Ripe) {z : Settled} {second : Option Settled}
    → z ≡ ripe_record w is → TurnsIn reading stands network s notes world place (Some (ripe_record w is)) second
    → TurnsIn reading stands network s notes world place (Some z) second
turned_by {reading} {stands} {network} {s} {notes} {world} {place} w is {second} same =
    subst (λ x. TurnsIn reading stands network s notes world place (Some x) second) (sym same)

-- it stands where it was permanent
at_source : (w : Waits) (is : Ripe) {z : Settled} → z ≡ ripe_record w is → IsJudged is → is_at_source z.body ≡ true
at_source w is same judged = rw same (judged_source w is judged)

pub give_first-requires-clause-next : goal.give_first-requires-clause-next
give_first-requires-clause-next g c =
    let run = c.requires.may.well.running in
    let here = (goal.at.give_first-requires-clause-next g c).After-ripen_waits-ripened in
    let got = c.ripen_waits-ripened.result in
    let mid = c.ripen_waits-ripened.new.self in
    let turn = turned_by got.waits got.ripe c.record_of-record.ensures
    (turned g here run.is) in
    record {
      s = run.s;
      notes = run.notes;
      next = next_first mid.settled.items refl turn c.put_change.new.settled.items
          (rw c.joined-change.ensures at c.put_change.ensures.is)
          (at_source got.waits got.ripe c.record_of-record.ensures (c.is_judged.ensures.0 c.if-is_judged.true));
      own = turn.first_is;
    }

given_so : (g : given.Over) (c : After-give_first g) {s : Scenario} {notes : List Note}
    → TurnsIn g.C.Clock.reading g.M.Machine.stands c.args.network.now s notes
    (world_of c.args.network.now c.ripen_waits-ripened.new.self)
    (ripe_place c.args.self.now.time (waiting_as c.ripen_waits-ripened.result.waits))
    (Some (ripe_record c.ripen_waits-ripened.result.waits c.ripen_waits-ripened.result.ripe))
    (joined_record (c.args.self.now.given + 1) c.ripen_waits-ripened.result.waits.device c.ripen_waits-ripened.result.ripe)
    → Stands g.C.Clock.reading (keeps g.M.Machine.stands) s (world_of c.args.network.now c.give_first.new.self)
    (notes
    ++ c.give_first.new.note ∷ [])
given_so g c {s} {notes} from =
    let network = c.args.network.now in
    let got = c.ripen_waits-ripened.result in
    let mid = c.ripen_waits-ripened.new.self in
    let give = c.give_first.ensures in
    let turn = turned_by got.waits got.ripe c.record_of-record.ensures from in
    let put = rw c.joined-change.ensures at c.put_change.ensures.is in
    let source = at_source got.waits got.ripe c.record_of-record.ensures (c.is_judged.ensures.0 c.if-is_judged.true) in
    (first_given mid.settled.items refl turn
    c.put_change.new.settled.items put source (world_of network c.give_first.new.self) give.note
    (rw give.same) (give.launched s notes)).0

pub rekey_from-requires : goal.rekey_from-requires
rekey_from-requires g c =
    let may = c.requires.may in
    let run = may.well.running in
    let rip = c.ripen_waits-ripened.ensures in
    let give = c.give_first.ensures in
    let timers = ap State.timers give.same ∙ ap State.timers rip.same in
    record {
      may = record {
        sized = give.sound.sized;
        there = may.foremost.there.of;
        few = may.range.few_devices;
        slots = ap length timers ∙ may.well.timed.sized;
        running = record {
          s = run.s;
          notes = _;
          is = given_so g (goal.at.rekey_from-requires g c).After-give_first
              (turned g (goal.at.rekey_from-requires g c).After-ripen_waits-ripened run.is);
        };
      };
      before = due_stays g.M.Machine.stands c.args.network.now c.give_first.new.self
          (record { 0 = c.args.one.device.0 }) c.due_of-before.result may.well
          may.foremost.there.of
          c.due_of-before.ensures
          (ap State.clocks give.same ∙ ap State.clocks rip.same)
          (ap State.time give.same ∙ ap State.time rip.same)
          timers;
    }

pub returns-then-is_judged-clause-kept : goal.returns-then-is_judged-clause-kept
returns-then-is_judged-clause-kept g c =
    let may = c.requires.may in
    let got = c.ripen_waits-ripened.result in
    let rip = c.ripen_waits-ripened.ensures in
    let give = c.give_first.ensures in
    let o = changed
    c.requires.may.foremost.there c.ripen_waits-ripened.ensures.is c.ripen_waits-ripened.ensures.others in
    let far = ap (λ x. changed_device x.body) c.record_of-record.ensures ∙ judged_far got.waits got.ripe in
    let few = may.range.few_devices in
    let time = ap State.time give.same ∙ o.time in
    kept_timers _ may.well
    give.sound
    (record {
      clocks = ap State.clocks give.same ∙ o.clocks;
      ended = ap State.ended give.same ∙ o.ended;
      later = omega arith;
    })
    (λ s notes is. given_so g (goal.at.returns-then-is_judged-clause-kept g c).After-give_first
    (turned g (goal.at.returns-then-is_judged-clause-kept g c).After-ripen_waits-ripened is)) c.rekey_from.ensures.sets.same
    (rekeyed_by may.well.timed may.foremost.there.of
    (λ i ne. rw give.same (ap (λ t. slice_get t.clocks.items i) rip.same))
    (λ i ne. rw give.same (o.machines i ne))
    (λ x ne lt.
    let aside = give.others.waiting x (λ e. omega arith) in
    let before = o.waiting x ne in
    (λ i. before.0 (aside.0 i), λ i. aside.1 (before.1 i)))
    time
    (ap State.timers give.same ∙ ap State.timers rip.same) c.rekey_from.ensures)

-- ---- its records are put in among others

still : (g : given.Over) (c : After-settle_ripe g) {s : Scenario} {notes : List Note}
    → TurnsIn g.C.Clock.reading g.M.Machine.stands c.args.network.now s notes
    (world_of c.args.network.now c.ripen_waits-ripened.new.self)
    (ripe_place c.args.self.now.time (waiting_as c.ripen_waits-ripened.result.waits))
    (Some (ripe_record c.ripen_waits-ripened.result.waits c.ripen_waits-ripened.result.ripe))
    (joined_record (c.args.self.now.given + 1) c.ripen_waits-ripened.result.waits.device c.ripen_waits-ripened.result.ripe)
    → Stands g.C.Clock.reading (keeps g.M.Machine.stands) s
    (world_of c.args.network.now (record c.ripen_waits-ripened.new.self { settled = c.settle_ripe.new.settled })) notes
still g c {s} {notes} turn =
    let got = c.ripen_waits-ripened.result in
    let number = c.args.self.now.given + 1 in
    let so = c.settle_ripe.ensures in
    let not : IsJudged got.ripe → ⊥ = λ judged. both_ways c.is_judged.result c.if-is_judged.false
    (c.is_judged.ensures.1 judged) in
    (all_put_in c.ripen_waits-ripened.new.self.settled.items refl so.mid c.settle_ripe.new.settled.items turn
    (so.at, so.first) so.more (dropped_late number got.waits got.ripe not)).0

sound_after : (g : given.Over) (c : After-settle_ripe g)
    → IsSound g.C.Clock.last_step c.args.network.now (record c.ripen_waits-ripened.new.self { settled = c.settle_ripe.new.settled })
sound_after g c =
    let sound = c.ripen_waits-ripened.ensures.sound in
    sound_same _ sound refl refl refl refl refl refl refl refl refl refl
    (octets_fit c.settle_ripe.ensures sound.fit.octets)

pub rekey_from-requires-2 : goal.rekey_from-requires-2
rekey_from-requires-2 g c =
    let may = c.requires.may in
    let rip = c.ripen_waits-ripened.ensures in
    let after : State _ _ = record c.ripen_waits-ripened.new.self { settled = c.settle_ripe.new.settled } in
    let timers = ap State.timers rip.same in
    record {
      may = record {
        sized = (sound_after g (goal.at.rekey_from-requires-2 g c).After-settle_ripe).sized;
        there = may.foremost.there.of;
        few = may.range.few_devices;
        slots = ap length timers ∙ may.well.timed.sized;
        running = runs_on after may.well
            (λ s notes is. still g (goal.at.rekey_from-requires-2 g c).After-settle_ripe
            (turned g (goal.at.rekey_from-requires-2 g c).After-ripen_waits-ripened is));
      };
      before = due_stays g.M.Machine.stands c.args.network.now after (record { 0 = c.args.one.device.0 })
          c.due_of-before.result may.well may.foremost.there.of
          c.due_of-before.ensures (ap State.clocks rip.same) (ap State.time rip.same) timers;
    }

pub returns-clause-kept : goal.returns-clause-kept
returns-clause-kept g c =
    let may = c.requires.may in
    let rip = c.ripen_waits-ripened.ensures in
    let o = changed
    c.requires.may.foremost.there c.ripen_waits-ripened.ensures.is c.ripen_waits-ripened.ensures.others in
    step_kept (rekeyed_step may.well (sound_after g (goal.at.returns-clause-kept g c).After-settle_ripe) may.foremost.there.of
    (record { clocks = o.clocks; time = o.time; ended = o.ended; machines = o.machines; waiting = o.waiting })
    (ap State.timers rip.same) (ap State.given rip.same)
    (λ s notes is. still g (goal.at.returns-clause-kept g c).After-settle_ripe
    (turned g (goal.at.returns-clause-kept g c).After-ripen_waits-ripened is))
    c.rekey_from-2.ensures)
