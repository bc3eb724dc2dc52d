-- A device acts again and again at one instant.
use Rattle.drift_world.{specs.Acting.{ActsOn, AreAbove, IsDueAt, IsFrom, IsLeft, StandsFrom}}
use Rattle.drift_world.proofs.{Foremost.{higher, made_of, not_earlier}, Locals.shows_of}
use Rattle.drift_world.proofs.{Signals.{have_octets, sound_same}, Timings.{first_no_sooner, one_rank}, Turning.each_of}
use Rattle.drift_world.proofs.{Words.{subst, sym, world_of, ℕ}}
use Rattle.drift_world.specs.{Parts.{IsLaterThan, IsNoSoonerLeft, part_place, part_rank}, declared.part.{Part.Part, ToDo.{ToDo, TheVariants.{Next, Now}}}}
use Rattle.drift_world.proofs.Words.{◌+◌, ◌<◌, ◌∙◌, ◌≡◌, ◌≤◌, ChangesOnly, ComesFirst, DeviceId, Happening, IsAt, IsBefore, IsDueNow, IsHeld, IsIn, IsSound, Kept, Meaning}
use Rattle.drift_world.proofs.Words.{List, Network, NoSourceBefore, Node, Note, Scenario, Some, Stands, World, [], ap, arith, cases_eq, chain}
use Rattle.drift_world.proofs.Words.{◌∷◌, false, happenings, inl, inr, keeps, length, length-map, map, moment_of, numbers_end, option_map_or, own_place, place_of, rank}
use Rattle.drift_world.proofs.Words.{refl, settled_at}
use Rattle.run_law.specs.records.Ranks.{key}
use Rattle.{drift_world.specs.declared.state.State.State, world_law.proofs.giving.GivenParts.some_same}
use Rattle.{run_law.proofs.runs.Places.either_way, std.specs.{List.slice_get, Prelude.All}}
use Rattle.world_law.{proofs.steps_lemmas.growing.Repeating.{acts_add_up, acts_are_bounded, no_act_yet}, specs.steps.Repeating.HasActedTimes}

-- the state stands, and the device's acts come first, but that there may be no numbers
pub record IsStill {C M : Type 0} (reading : C → ℕ → ℕ) (stands : Meaning M) (network : Network) (part : Part)
    (device : DeviceId) (time : ℕ) (now : State C M) (s : Scenario) (notes : List Note) : Type 0 where
  pub new : Stands reading (keeps stands) s (world_of network now) notes
  pub none : NoSourceBefore s (happenings s.network notes) new.frontier (part_place part time device)
  pub after : (z : Happening) → IsIn z (world_of network now).settled → IsBefore (place_of z) (part_place part time device) → ⊥

-- what a turn keeps, where the device has acted so often and has this to do
pub record IsTurn {C M : Type 0} (last_step : C → ℕ) (reading : C → ℕ → ℕ) (stands : Meaning M) (network : Network)
    (part : Part) (device : DeviceId) (first now : State C M) (left : ToDo) (acts : ℕ) : Type 0 where
  pub few : acts ≤ 259
  pub sound : IsSound last_step network now
  pub same : now ≡ record first { machines = now.machines; early = now.early; settled = now.settled; spare = now.spare }
  pub machines : (i : ℕ) → (i ≡ device.0 → ⊥) → slice_get now.machines.items i ≡ slice_get first.machines.items i
  pub is_left : IsLeft reading stands network now device left
  pub later : IsNoSoonerLeft part left
  pub above : AreAbove (part_rank part) now
  pub begun : IsDueAt reading stands network now part device → IsDueAt reading stands network first part device
  pub still : (s : Scenario) (notes : List Note) (old : Stands reading (keeps stands) s (world_of network first) notes)
      → ComesFirst reading (keeps stands) s (world_of network first) notes old
      (part_place part first.time device)
      → IsStill reading stands network part device first.time now s notes
  pub times : (s : Scenario) (notes : List Note) (old : Stands reading (keeps stands) s (world_of network first) notes)
      → ComesFirst reading (keeps stands) s (world_of network first) notes old
      (part_place part first.time device) → (machine last : Kept M)
      → slice_get first.machines.items device.0 ≡ Some machine → slice_get now.machines.items device.0 ≡ Some last
      → HasActedTimes (keeps stands) s.network device (moment_of s device first.time) acts machine last

-- after one
pub same_then : {C M : Type 0} (first : State C M) {now new : State C M}
    → now ≡ record first { machines = now.machines; early = now.early; settled = now.settled; spare = now.spare }
    → new ≡ record now { machines = new.machines; early = false; settled = new.settled; spare = new.spare }
    → new ≡ record first { machines = new.machines; early = new.early; settled = new.settled; spare = new.spare }
same_then {C} {M} first {new} same is =
    let early : new.early ≡ false = ap State.early is in
    is ∙ ap (λ x. let y : State C M = record x {
      machines = new.machines;
      early = false;
      settled = new.settled;
      spare =
          new.spare;
    } in y) same
    ∙ ap (λ b. let y : State C M = record first {
      machines = new.machines;
      early = b;
      settled = new.settled;
      spare =
          new.spare;
    } in y) (sym early)

-- nothing of other devices has changed
pub others_then : {C M : Type 0} (device : ℕ) (first new : State C M)
    → new ≡ record first { machines = new.machines; early = new.early; settled = new.settled; spare = new.spare }
    → ((i : ℕ) → (i ≡ device → ⊥) → slice_get new.machines.items i ≡ slice_get first.machines.items i) → ChangesOnly device first new
others_then {C} {M} device first new same machines = record {
  clocks = ap State.clocks same;
  time = ap State.time same;
  ended = ap State.ended same;
  machines = machines;
  waiting = λ w other.
      rw same ((λ there. there), (λ there. there));
}

module _ {C M : Type 0} (last_step : C → ℕ) (reading : C → ℕ → ℕ) (stands : Meaning M) (network : Network) (part : Part)
    (device : DeviceId) (first : State C M) where
  abbrev Turn : State C M → ToDo → ℕ → Type 0
  Turn now left acts = IsTurn last_step reading stands network part device first now left acts

  abbrev Due : State C M → Type 0
  Due state = IsDueAt reading stands network state part device

  abbrev Old : Scenario → List Note → Type 0
  Old s notes = Stands reading (keeps stands) s (world_of network first) notes

  abbrev First : (s : Scenario) (notes : List Note) → Old s notes → Type 0
  First s notes old = ComesFirst reading (keeps stands) s (world_of network first) notes old (part_place part first.time device)

  -- the node for which the machine stands
  node_at : (s : Scenario) (notes : List Note) (old : Old s notes) (machine : Kept M)
      → IsHeld (keeps stands) s (happenings s.network notes) (map (settled_at network first.time) first.settled.items)
      old.frontier first.time device machine
      → (node : Node) × keeps stands machine s.network device node
  node_at s notes old machine (inl k) = (k.node, k.is)
  node_at s notes old machine (inr out) = (out.node, out.is)

  -- where nothing of an earlier part is due, what comes first is of none
  from_then : (left : ToDo) → IsLeft reading stands network first device left → IsFrom reading stands network first part device
      → IsAt reading stands network first (part_place part first.time device) → device.0 < length network.device → IsNoSoonerLeft part left
  from_then (Next due) is from at lt = tt
  from_then (Now other) is from at lt =
      let m = at.is.devices device (rw at.is.same at lt) in
      let of = shows_of first at.is in
      let node = node_at at.s at.notes at.is m.0 m.2 in
      first_no_sooner part (is at.s m.0 node.0 of m.1 node.1) (from at.s m.0 node.0 of m.1 node.1)

  pub turn_begun : (left : ToDo) → IsSound last_step network first → IsLeft reading stands network first device left
      → IsFrom reading stands network first part device → AreAbove (part_rank part) first
      → IsAt reading stands network first (part_place part first.time device) → device.0 < length network.device → Turn first left 0
  turn_begun left sound is from above at lt = record {
    few = omega arith;
    sound = sound;
    same = refl;
    machines = λ i ne. refl;
    is_left = is;
    later = from_then left is from at lt;
    above = above;
    begun = λ due. due;
    still = λ s notes old f. record { new = old; none = f.none; after = f.after };
    times = λ s notes old f machine last there there_last.
        subst (HasActedTimes (keeps stands) s.network device (moment_of s device first.time) 0 machine) (some_same machine last _ there there_last)
        (no_act_yet (keeps stands) s.network device (moment_of s device first.time) machine);
  }

  -- ---- more room for what is settled

  same_world : (now mid : State C M) → mid.settled.items ≡ now.settled.items
      → world_of network now ≡ world_of network (record now { settled = mid.settled; spare = mid.spare })
  same_world now mid same =
      rw (sym same)

  -- a world stands, and the device's acts come first
  abbrev IsStillIn : Scenario → List Note → World C (Kept M) → Type 0
  IsStillIn s notes world = (new : Stands reading (keeps stands) s world notes)
      × NoSourceBefore s (happenings s.network notes) new.frontier (part_place part first.time device)
      × ((z : Happening) → IsIn z world.settled → IsBefore (place_of z) (part_place part first.time device) → ⊥)

  still_with : (s : Scenario) {notes : List Note} (now mid : State C M) → mid.settled.items ≡ now.settled.items
      → IsStill reading stands network part device first.time now s notes
      → IsStill reading stands network part device first.time (record now { settled = mid.settled; spare = mid.spare }) s notes
  still_with s {notes} now mid same was =
      let it = subst (IsStillIn s notes) (same_world now mid same) (was.new, was.none, was.after) in
      record { new = it.0; none = it.1; after = it.2 }

  sound_with : (now mid : State C M) → mid.settled.items ≡ now.settled.items → IsSound last_step network now
      → IsSound last_step network (record now { settled = mid.settled; spare = mid.spare })
  sound_with now mid same sound =
      sound_same _ sound refl refl refl refl refl refl refl refl refl refl (subst (All have_octets) (sym same) sound.fit.octets)

  left_with : (now mid : State C M) (left : ToDo) → mid.settled.items ≡ now.settled.items → IsLeft reading stands network now device left
      → IsLeft reading stands network (record now { settled = mid.settled; spare = mid.spare }) device left
  left_with now mid (Now other) same is =
      λ s machine node of there kept.
      is s machine node (record { same = of.same; clocks = of.clocks; broken = of.broken; ways = of.ways }) there kept
  left_with now mid (Next at) same is = (
    is.0,
    λ s machine of there. is.1 s machine (record { same = of.same; clocks = of.clocks; broken = of.broken; ways = of.ways }) there,
  )

  due_with : (now mid : State C M) → Due (record now { settled = mid.settled; spare = mid.spare }) → Due now
  due_with now mid is =
      λ s machine node of there kept.
      is s machine node (record { same = of.same; clocks = of.clocks; broken = of.broken; ways = of.ways }) there kept

  pub turn_with : (now : State C M) {mid : State C M} (left : ToDo) (acts : ℕ) → mid ≡ record now { settled = mid.settled; spare = mid.spare }
      → mid.settled.items ≡ now.settled.items → Turn now left acts → Turn mid left acts
  turn_with now {mid} left acts is same turn =
      rw is (record {
        few = turn.few;
        sound = sound_with now mid same turn.sound;
        same = rw turn.same;
        machines = turn.machines;
        is_left = left_with now mid left same turn.is_left;
        later = turn.later;
        above = rw same turn.above;
        begun = λ due. turn.begun (due_with now mid due);
        still = λ s notes old f. still_with s now mid same (turn.still s notes old f);
        times = turn.times;
      })

  -- ---- an act

  now_time : (now : State C M) (left : ToDo) (acts : ℕ) → Turn now left acts → now.time ≡ first.time
  now_time now left acts turn = ap State.time turn.same

  -- where there are numbers, the device's acts come first
  pub comes_first : (now : State C M) (left : ToDo) (acts : ℕ) (turn : Turn now left acts) → now.given + length now.settled.items + 2 < numbers_end
      → (s : Scenario) (notes : List Note) (old : Old s notes) (f : First s notes old)
      → ComesFirst reading (keeps stands) s (world_of network now) notes (turn.still s notes old f).new
      (part_place part now.time device)
  comes_first now left acts turn numbers s notes old f =
      let still = turn.still s notes old f in
      let given = still.new.given in
      let long = length-map now.settled.items (settled_at network now.time) in
      subst (λ t. ComesFirst reading (keeps stands) s (world_of network now) notes still.new (part_place part t device)) (sym (now_time now left acts turn))
      (record { none = still.none; after = still.after; room = omega (arith, numbers, given, long) })

  pub comes_at : (now : State C M) (left : ToDo) (acts : ℕ) → Turn now left acts → now.given + length now.settled.items + 2 < numbers_end
      → IsAt reading stands network first (part_place part first.time device) → IsAt reading stands network now (part_place part now.time device)
  comes_at now left acts turn numbers at = record {
    s = at.s;
    notes = at.notes;
    is = (turn.still at.s at.notes at.is at.first).new;
    first = comes_first now left acts turn numbers at.s at.notes at.is at.first;
  }

  still_then : {now new : State C M} (left : ToDo) (acts : ℕ) (turn : Turn now left acts)
      → now.given + length now.settled.items + 2 < numbers_end → ActsOn reading stands network part device now new → (s : Scenario)
      (notes : List Note) (old : Old s notes) → First s notes old
      → IsStill reading stands network part device first.time new s notes
  still_then {now} {new} left acts turn numbers acted s notes old f =
      let was = turn.still s notes old f in
      let time = now_time now left acts turn in
      let then = subst (λ t. StandsFrom reading stands s (world_of network new) notes (part_place part t device)) time
      (acted.then_stands s notes was.new (comes_first now left acts turn numbers s notes old f)) in
      let frontier = then.0.frontier in
      record {
        new = then.0;
        none = λ w source not_yet before. elim (either_way w frontier) [
          | inl lt ↦ not_yet lt
          | inr (inl e) ↦ then.1 (rw e at before)
          | inr (inr gt) ↦ then.1 (chain frontier w (part_place part first.time device) gt before)
        ];
        after = λ z there before.
            let made = made_of (settled_at network new.time) new.settled.items z there in
            let high = each_of (λ x. part_rank part < rank x.body) new.settled.items made.0 acted.above made.1 in
            let now_is : new.time ≡ first.time = ap State.time acted.same ∙ time in
            not_earlier new.time first.time (own_place made.0) (part_rank part ∷ device.0 ∷ []) (omega arith)
            (λ e. higher (rank made.0.body) (part_rank part) (key (option_map_or (λ frame. frame.members.0) made.0.frame 0) made.0.body) (device.0 ∷ []) high)
            (subst (λ h. IsBefore (place_of h) (part_place part first.time device)) (sym made.2) before);
      }

  due_now : (now : State C M) {s : Scenario} {notes : List Note} {machine : Kept M} → Due now → Stands reading (keeps stands) s (world_of network now) notes
      → slice_get now.machines.items device.0 ≡ Some machine → IsDueNow (keeps stands) s.network device (moment_of s device now.time) machine
  due_now now {s} {machine} due old there = λ node is.
      let f = (due s machine node (shows_of now old) there is).is in (f.task, f.pending, f.due)

  times_then : {now new : State C M} (left : ToDo) (acts : ℕ) (turn : Turn now left acts) → Due now
      → ActsOn reading stands network part device now new
      → device.0 < length network.device → (s : Scenario) (notes : List Note) (old : Old s notes)
      → (f : First s notes old) (machine last : Kept M)
      → slice_get first.machines.items device.0 ≡ Some machine → slice_get new.machines.items device.0 ≡ Some last
      → HasActedTimes (keeps stands) s.network device (moment_of s device first.time) (acts + 1) machine last
  times_then {now} {new} left acts turn due acted lt s notes old f machine last there there_last =
      let was = turn.still s notes old f in
      let time = now_time now left acts turn in
      let mid = was.new.devices device (rw was.new.same at lt) in
      let act = acted.acted s notes mid.0 was.new mid.1 in
      let same = some_same act.1 last (slice_get new.machines.items device.0) act.2 there_last in
      acts_add_up (keeps stands) s.network device (moment_of s device first.time) act.0 acts machine mid.0 last old.range old.rules
      (turn.times s notes old f machine mid.0 there mid.1)
      (rw time at (due_now now due was.new mid.1))
      (rw same at (rw time at act.3))

  -- it acts at most so often
  few_then : {now new : State C M} (left : ToDo) (acts : ℕ) (turn : Turn now left acts) → Due now
      → ActsOn reading stands network part device now new
      → device.0 < length network.device → IsAt reading stands network first (part_place part first.time device) → acts + 1 ≤ 259
  few_then {now} {new} left acts turn due acted lt at =
      let s = at.s in
      let own = rw at.is.same at lt in
      let machine = at.is.devices device own in
      let was = turn.still s at.notes at.is at.first in
      let mid = was.new.devices device own in
      let act = acted.acted s at.notes mid.0 was.new mid.1 in
      acts_are_bounded reading (keeps stands) s (world_of network first) at.notes device machine.0 act.1 (acts + 1) at.is own machine.1
      (due_now first (turn.begun due) at.is machine.1)
      (times_then left acts turn due acted lt s at.notes at.is at.first machine.0 act.1 machine.1 act.2)

  pub turn_on : {now new : State C M} (left then_left : ToDo) (acts : ℕ) → Turn now left acts → Due now
      → now.given + length now.settled.items + 2 < numbers_end → ActsOn reading stands network part device now new
      → IsSound last_step network new
      → ((i : ℕ) → (i ≡ device.0 → ⊥) → slice_get new.machines.items i ≡ slice_get now.machines.items i)
      → IsLeft reading stands network new device then_left
      → device.0 < length network.device → IsAt reading stands network first (part_place part first.time device) → Turn new then_left (acts + 1)
  turn_on {now} {new} left then_left acts turn due numbers acted sound machines is_left lt at = record {
    few = few_then left acts turn due acted lt at;
    sound = sound;
    same = same_then first turn.same acted.same;
    machines = λ i ne. machines i ne ∙ turn.machines i ne;
    is_left = is_left;
    later = acted.later then_left is_left;
    above = acted.above;
    begun = λ more. turn.begun due;
    still = still_then left acts turn numbers acted;
    times = times_then left acts turn due acted lt;
  }

-- where not this part comes first, what is left is of a later one
pub left_later : (part : Part) (left : ToDo) → (left ≡ Now part → ⊥) → IsNoSoonerLeft part left → IsLaterThan part left
left_later part (Next at) not later = tt
left_later part (Now other) not later = elim (cases_eq (part_rank part) (part_rank other)) [
  | inr apart ↦ omega arith
  | inl same ↦ absurd (not (rw (one_rank other part (sym same))))
]
