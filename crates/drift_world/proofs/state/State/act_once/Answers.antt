use Rattle.drift_world.proofs.{Locals.shows_of, Signals.{all_put_some, have_octets, sized_so}}
use Rattle.drift_world.proofs.{Turned.{all_put_in, first_given, next_first, no_change, no_shelf, no_waiter}}
use Rattle.drift_world.proofs.{Turning.at_rank}
use Rattle.drift_world.proofs.ActSteps.{AreProper, IsFine, above_then, acted_turns, acts_late, asked_to_act}
use Rattle.drift_world.proofs.ActSteps.{behind_part, later_then, left_in, never_broken, octets_then, proper_at}
use Rattle.drift_world.proofs.ActSteps.{row_within}
use Rattle.world_law.specs.{source.Sources.task_place, steps.Acting.task_of, world.{World.is_at_source}}
use Rattle.drift_world.proofs.Words.{◌+◌, ◌∙◌, ◌≡◌, ◌≤◌, ComesFirst, HasActed, HasItsOctets, IsSomeAnd}
use Rattle.drift_world.proofs.Words.{List, None, Note, Option, Scenario, Settled, Some, Stands, TurnsIn, ap, arith}
use Rattle.drift_world.proofs.Words.{happenings, inl, is_set, keeps, length, length-set, moment_of, rank, refl}
use Rattle.drift_world.proofs.Words.{slice_get_read, slice_set, subst, sym, true, world_of, ℕ}
use Rattle.{drift_world.proofs.state.State.act_once.Goals.After-outcomes_of-outcomes, world_law.proofs.giving.GivenParts.some_same}
use Rattle.std.proofs.Common.{false, is_some, slice_get}
use Rattle.drift_world.specs.{Parts.part_place, declared.state.State.State}
use Rattle.drift_world.proofs.state.State.act_once.Given as given
use Rattle.drift_world.proofs.state.State.act_once.Goals as goal

-- the machine of the device
held : (g : given.Over) (c : After-outcomes_of-outcomes g) → slice_get c.args.self.now.machines.items c.args.device.0 ≡ Some c.index_mut.result.now
held g c =
    let lt = c.requires.there in
    let many = c.requires.sound.sized.machines in
    slice_get_read c.args.self.now.machines.items (length c.args.self.now.machines.items) c.args.device.0
    c.index_mut.result.now refl (omega arith)
    c.index_mut.ensures.value

pub act-requires : goal.act-requires
act-requires g c =
    let lt = c.requires.there in
    let many = c.requires.sound.sized.machines in
    let read = slice_get_read c.args.self.now.machines.items (length c.args.self.now.machines.items) c.args.device.0 c.index_mut.result.now refl
    (omega arith) c.index_mut.ensures.value in
    asked_to_act g.C.Clock.reading g.M.Machine.stands c.args.network.now c.args.self.now c.args.part c.args.device c.requires.there read
    c.requires.due c.requires.above c.requires.comes c.args.moment c.requires.moment

pub returns-in_default : goal.returns-in_default
returns-in_default g c =
    let lt = c.requires.there in
    let many = c.requires.sound.sized.machines in
    let read = slice_get_read c.args.self.now.machines.items (length c.args.self.now.machines.items) c.args.device.0 c.index_mut.result.now refl
    (omega arith) c.index_mut.ensures.value in
    absurd (never_broken g.C.Clock.reading g.M.Machine.stands c.args.network.now c.args.self.now c.args.part c.args.device c.requires.there read
    c.requires.due c.requires.above c.requires.comes
    c.in_default.ensures.none)

-- it has acted
acted_at : (g : given.Over) (c : After-outcomes_of-outcomes g) (s : Scenario) (notes : List Note)
    → Stands g.C.Clock.reading (keeps g.M.Machine.stands) s (world_of c.args.network.now c.args.self.now) notes
    → HasActed (keeps g.M.Machine.stands) s.network c.args.device (moment_of s c.args.device c.args.self.now.time) c.in-Some.act c.index_mut.result.now
    c.act.new.self
acted_at g c s notes old =
    rw (c.requires.moment s (shows_of c.args.self.now old)) at (c.in-Some.ensures.acted s.network c.args.device)

pub outcomes_of-outcomes-requires-clause-row : goal.outcomes_of-outcomes-requires-clause-row
outcomes_of-outcomes-requires-clause-row g c =
    let lt = c.requires.there in
    let many = c.requires.sound.sized.machines in
    let read = slice_get_read c.args.self.now.machines.items (length c.args.self.now.machines.items) c.args.device.0 c.index_mut.result.now refl
    (omega arith) c.index_mut.ensures.value in
    let at = c.requires.comes in
    row_within g.C.Clock.reading g.M.Machine.stands c.args.network.now c.args.self.now c.args.part c.args.device c.requires.there read c.requires.due
    c.requires.above at c.in-Some.act c.act.new.self
    (rw (c.requires.moment at.s (shows_of c.args.self.now at.is)) at (c.in-Some.ensures.acted at.s.network
    c.args.device))

-- its records are those of the law
own : (g : given.Over) (c : After-outcomes_of-outcomes g) → let at = c.requires.comes in
    AreProper at.s (happenings at.s.network at.notes) c.args.self.now.time c.args.device c.shown-was.result.state c.shown-is.result.adjustment c.in-Some.act
    c.outcomes_of-outcomes.result
own g c =
    let at = c.requires.comes in
    let of = shows_of c.args.self.now at.is in
    proper_at g.C.Clock.reading g.M.Machine.stands c.args.network.now c.args.self.now c.args.part c.args.device c.requires.there (held g c)
    c.requires.due c.requires.above at.s at.notes at.is at.first c.in-Some.act
    c.act.new.self c.shown-was.result.state c.shown-is.result.adjustment c.outcomes_of-outcomes.result (acted_at g c at.s at.notes at.is)
    (c.outcomes_of-outcomes.ensures at.s (record { same = of.same; clocks = of.clocks; broken = of.broken; ways = of.ways }))

-- the act is worked off, and these are its records
turned : (g : given.Over) (c : After-outcomes_of-outcomes g) {s : Scenario} {notes : List Note}
    → {old : Stands g.C.Clock.reading (keeps g.M.Machine.stands) s (world_of c.args.network.now c.args.self.now) notes}
    → ComesFirst g.C.Clock.reading (keeps g.M.Machine.stands) s (world_of c.args.network.now c.args.self.now) notes old
    (part_place c.args.part c.args.self.now.time c.args.device)
    → TurnsIn g.C.Clock.reading g.M.Machine.stands c.args.network.now s notes
    (record (world_of c.args.network.now c.args.self.now) {
      early = false;
      machines = slice_set c.args.self.now.machines.items c.args.device.0 c.act.new.self;
    })
    (task_place s.network c.args.self.now.time c.args.device (task_of c.in-Some.act))
    c.outcomes_of-outcomes.result.first c.outcomes_of-outcomes.result.second
turned g c {s} {notes} {old} first =
    let w = c.args.self.now in
    let lt = c.requires.there in
    let many = c.requires.sound.sized.machines in
    let device = c.args.device in
    let stands = g.M.Machine.stands in
    let machine = c.index_mut.result.now in
    let after = c.act.new.self in
    let was = slice_get_read w.machines.items (length w.machines.items) device.0 c.index.result.now refl
    (omega arith) c.index.ensures in
    let set = is_set w.machines.items device.0 after (omega arith) in
    let of = shows_of w old in
    let same = some_same _ _ _ was (held g c) in
    let longer = length-set w.machines.items device.0 after in
    let now_is = some_same _ _ _
    (slice_get_read (slice_set w.machines.items device.0 after) (length (slice_set w.machines.items device.0 after))
    device.0
    c.index-2.result.now refl (omega arith) c.index-2.ensures) set.there in
    acted_turns g.C.Clock.reading stands c.args.network.now w c.args.part device lt (held g c) c.requires.due
    c.requires.above
    c.shown-was.result.state
    c.shown-is.result.state c.shown-was.result.adjustment c.shown-is.result.adjustment c.in-Some.act
    c.outcomes_of-outcomes.result _ set s notes old first
    (acted_at g c s notes old)
    (rw same at (c.shown-was.ensures s.network device))
    (rw now_is at (c.shown-is.ensures s.network device))
    (c.outcomes_of-outcomes.ensures s
    (record { same = of.same; clocks = of.clocks; broken = of.broken; ways = of.ways }))

-- no other device's machine has changed
others : (g : given.Over) (c : After-outcomes_of-outcomes g) (i : ℕ) → (i ≡ c.args.device.0 → ⊥)
    → slice_get (slice_set c.args.self.now.machines.items c.args.device.0 c.act.new.self) i
    ≡ slice_get c.args.self.now.machines.items i
others g c =
    let lt = c.requires.there in
    let many = c.requires.sound.sized.machines in
    (is_set c.args.self.now.machines.items c.args.device.0 c.act.new.self (omega arith)).same

-- ---- none of its records stands where it is done

pub returns-then-not-is_at_source-clause-sound : goal.returns-then-not-is_at_source-clause-sound
returns-then-not-is_at_source-clause-sound g c =
    let fit = c.requires.sound.fit in
    let put = c.put_both.ensures in
    let here = (goal.at.returns-then-not-is_at_source-clause-sound g c).After-outcomes_of-outcomes in
    record {
      sized = sized_so _ c.requires.sound.sized refl
          (length-set c.args.self.now.machines.items c.args.device.0 c.act.new.self) refl refl refl refl refl;
      under_way = c.requires.sound.under_way;
      fit = record {
        ups = fit.ups;
        downs = fit.downs;
        octets = octets_then g.C.Clock.reading g.M.Machine.stands c.args.network.now c.args.self.now c.args.part c.args.device c.requires.there
            (held g here) c.requires.due c.requires.above put.0 c.put_both.new.settled.items
            (own g here) put.1 put.2 fit.octets;
        below = fit.below;
        waits_below = fit.waits_below;
        apart = fit.apart;
      };
    }

pub returns-then-not-is_at_source-clause-machines : goal.returns-then-not-is_at_source-clause-machines
returns-then-not-is_at_source-clause-machines g c =
    others g (goal.at.returns-then-not-is_at_source-clause-machines g c).After-outcomes_of-outcomes

pub returns-then-not-is_at_source-clause-goes_on : goal.returns-then-not-is_at_source-clause-goes_on
returns-then-not-is_at_source-clause-goes_on g c = λ no.
    let w = c.args.self.now in
    let lt = c.requires.there in
    let many = c.requires.sound.sized.machines in
    let network = c.args.network.now in
    let device = c.args.device in
    let K = g.C.Clock in
    let stands = g.M.Machine.stands in
    let after = c.act.new.self in
    let here = (goal.at.returns-then-not-is_at_source-clause-goes_on g c).After-outcomes_of-outcomes in
    let put = c.put_both.ensures in
    let late = c.is_at_source.ensures.no c.if-not-is_at_source.true in
    let set = is_set w.machines.items device.0 after (omega arith) in
    record {
      same = refl;
      above = above_then K.reading stands network w c.args.part device lt (held g here) c.requires.due
          c.requires.above put.0
          c.put_both.new.settled.items
          (own g here) late put.1 put.2;
      then_stands = λ s notes was first.
          let of = shows_of w was in
          let proper = proper_at K.reading stands network w c.args.part device lt (held g here) c.requires.due
          c.requires.above s notes was
          first c.in-Some.act after c.shown-was.result.state c.shown-is.result.adjustment c.outcomes_of-outcomes.result
          (acted_at g here s notes was)
          (c.outcomes_of-outcomes.ensures s
          (record { same = of.same; clocks = of.clocks; broken = of.broken; ways = of.ways })) in
          let at = all_put_in w.settled.items refl put.0 c.put_both.new.settled.items
          (turned g here first) put.1 put.2
          (acts_late K.reading stands network w c.args.part device lt (held g here) c.requires.due
          c.requires.above s _ proper late) in (
            at.0,
            behind_part K.reading stands network w c.args.part device lt (held g here) c.requires.due
                c.requires.above s notes was c.in-Some.act after (acted_at g here s notes was) at.1,
          );
      later = λ left is_left.
          later_then K.reading stands network w c.args.part device lt (held g here) c.requires.due
          c.requires.above c.requires.comes
          c.in-Some.act after left (acted_at g here)
          (λ s notes old.
          let of = shows_of w old in
          left_in stands device left is_left
          (record { same = of.same; clocks = of.clocks; broken = of.broken; ways = of.ways }) set.there);
      acted = λ s notes kept old there. (
        c.in-Some.act,
        after,
        set.there,
        rw (some_same _ _ _ (held g here) there) at (acted_at g here s notes old),
      );
    }

-- ---- its first record stands there, and is given

some_of : (o : Option Settled) → IsSomeAnd o (λ z. rank z.body ≤ 6) → is_some o ≡ true
some_of None none = absurd none
some_of (Some z) low = refl

-- it is of the rank of an act
low_of : {o : Option Settled} {z : Settled} → o ≡ Some z → IsSomeAnd o (λ x. rank x.body ≤ 6) → rank z.body ≤ 6
low_of is low = rw is at low

-- it has its octets, and stands where its source does
fine_of : (g : given.Over) (c : After-outcomes_of-outcomes g) {one : Settled}
    → c.outcomes_of-outcomes.result.first ≡ Some one
    → HasItsOctets one.body one.octets × (4 ≤ rank one.body)
fine_of g c is = subst (IsFine 4) is (own g c).first_fine

source_of : (one : Settled) → 4 ≤ rank one.body → rank one.body ≤ 6 → is_at_source one.body ≡ true
source_of one least most =
    at_rank one.body
    (record {
      least = omega arith;
      no_change = λ e. omega arith;
      either =
          inl (omega arith);
    })

-- so it is worked off, where this is its first record
turned_first : (g : given.Over) (c : After-outcomes_of-outcomes g) {one : Settled}
    → c.outcomes_of-outcomes.result.first ≡ Some one → {s : Scenario} {notes : List Note}
    → {old : Stands g.C.Clock.reading (keeps g.M.Machine.stands) s (world_of c.args.network.now c.args.self.now) notes}
    → ComesFirst g.C.Clock.reading (keeps g.M.Machine.stands) s (world_of c.args.network.now c.args.self.now) notes old
    (part_place c.args.part c.args.self.now.time c.args.device)
    → TurnsIn g.C.Clock.reading g.M.Machine.stands c.args.network.now s notes
    (record (world_of c.args.network.now c.args.self.now) {
      early = false;
      machines = slice_set c.args.self.now.machines.items c.args.device.0 c.act.new.self;
    })
    (task_place s.network c.args.self.now.time c.args.device (task_of c.in-Some.act)) (Some one)
    c.outcomes_of-outcomes.result.second
turned_first g c is {s} {notes} {old} first =
    rw is at (turned g c first)

pub unwrap-own-requires : goal.unwrap-own-requires
unwrap-own-requires g c = some_of c.outcomes_of-outcomes.result.first
    (c.is_at_source.ensures.yes c.if-not-is_at_source.false)

pub give_first-requires-clause-sound : goal.give_first-requires-clause-sound
give_first-requires-clause-sound g c =
    let fit = c.requires.sound.fit in
    let proper = own g (goal.at.give_first-requires-clause-sound g c).After-outcomes_of-outcomes in
    record {
      sized = sized_so _ c.requires.sound.sized refl
          (length-set c.args.self.now.machines.items c.args.device.0 c.act.new.self) refl refl refl refl refl;
      under_way = c.requires.sound.under_way;
      fit = record {
        ups = fit.ups;
        downs = fit.downs;
        octets = all_put_some have_octets c.outcomes_of-outcomes.result.second c.args.self.now.settled.items
            c.put_change.new.settled.items
            c.put_change.ensures.is (λ z e. (subst (IsFine 7) e proper.second_fine).0) fit.octets;
        below = fit.below;
        waits_below = fit.waits_below;
        apart = fit.apart;
      };
    }

pub give_first-requires-clause-next : goal.give_first-requires-clause-next
give_first-requires-clause-next g c =
    let at = c.requires.comes in
    let w = c.args.self.now in
    let here = (goal.at.give_first-requires-clause-next g c).After-outcomes_of-outcomes in
    let turn = turned_first g here c.unwrap-own.ensures at.first in
    let least = (fine_of g here c.unwrap-own.ensures).1 in
    let most = low_of c.unwrap-own.ensures (c.is_at_source.ensures.yes c.if-not-is_at_source.false) in
    record {
      s = at.s;
      notes = at.notes;
      next = next_first w.settled.items refl turn c.put_change.new.settled.items
          c.put_change.ensures.is (source_of c.unwrap-own.result least most);
      own = turn.first_is;
    }

pub give_first-requires-clause-octets : goal.give_first-requires-clause-octets
give_first-requires-clause-octets g c =
    (fine_of g (goal.at.give_first-requires-clause-octets g c).After-outcomes_of-outcomes
    c.unwrap-own.ensures).0

pub give_first-requires-clause-capacity : goal.give_first-requires-clause-capacity
give_first-requires-clause-capacity g c =
    let least =
    (fine_of g (goal.at.give_first-requires-clause-capacity g c).After-outcomes_of-outcomes
    c.unwrap-own.ensures).1 in
    no_waiter c.unwrap-own.result.body c.args.self.now.waiting (λ two. omega arith)

pub give_first-requires-clause-place : goal.give_first-requires-clause-place
give_first-requires-clause-place g c =
    let most = low_of c.unwrap-own.ensures (c.is_at_source.ensures.yes c.if-not-is_at_source.false) in
    no_shelf c.unwrap-own.result.body c.args.self.now.stored (λ taken. omega arith)

pub returns-clause-machines : goal.returns-clause-machines
returns-clause-machines g c = λ i apart.
    rw c.give_first.ensures.same
    (others g (goal.at.returns-clause-machines g c).After-outcomes_of-outcomes i apart)

pub returns-clause-gives : goal.returns-clause-gives
returns-clause-gives g c = λ yes.
    let w = c.args.self.now in
    let here = (goal.at.returns-clause-gives g c).After-outcomes_of-outcomes in
    let one = c.unwrap-own.result in
    let rest = c.put_change.new.settled.items in
    let give = c.give_first.ensures in
    let new = c.give_first.new.self in
    let least = (fine_of g here c.unwrap-own.ensures).1 in
    let most = low_of c.unwrap-own.ensures (c.is_at_source.ensures.yes c.if-not-is_at_source.false) in
    let far = no_change one.body (λ two. omega arith) in
    let rebuilt : State _ _ → State _ _ = λ q. record w {
      machines = q.machines;
      early = false;
      settled = q.settled;
      spare = q.spare;
      under_way = new.under_way;
      waiting = new.waiting;
      stored = new.stored;
      given = w.given + 1;
    } in
    record {
      same = give.same ∙ sym (ap rebuilt give.same);
      waiting = λ x lt. give.others.waiting x (λ e. omega arith);
      time = ap Note.time give.note;
      then_stands = λ s notes was first.
          let turn = turned_first g here c.unwrap-own.ensures first in
          (first_given w.settled.items refl turn rest c.put_change.ensures.is (source_of one least most)
          (world_of c.args.network.now new) give.note
          (rw give.same)
          (give.launched s notes)).0;
    }
