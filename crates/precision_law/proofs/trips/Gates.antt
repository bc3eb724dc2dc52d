-- The gates of the sound channel are open while the frames of a cycle come.
use Rattle.precision_law.proofs.{block.Dispatched.old_early, words.Runs.{is_relay, is_synchronised, is_turned_on_at, offset_in_cycle, state_before}}
use Rattle.precision_law.proofs.{block.Onward.hull_ordered}
use Rattle.precision_law.proofs.{words.Plans.{Channel, DeviceId, Integrating, Network, State, Synchronised, amount}}
use Rattle.precision_law.proofs.words.{Blocks.{before_narrow, block_ends, old_shows}, Std.{int_rem_euclid_is, ints, le-ltb, mod-mul-add, pos, suc, ℕ, ℤ}}
use Rattle.precision_law.proofs.words.Clocks.{frames_come_first, natural, natural_of, one_more, room, sizes_are, switches_are_good}
use Rattle.precision_law.proofs.words.Laws.{AreOpenFrom, AreOpenOn, BlocksGoSo, IsGood, HasTimeAt, HaveRoom, Hull, IsInBlock, IsNarrow, IsOpen, IsView, ShowsIn}
use Rattle.precision_law.proofs.words.Laws.{Sizes, View, first_correction, first_dispatch, has_time, last_dispatch, state_left}
use Rattle.precision_law.proofs.words.Std.{◌&&◌, ◌*◌, ◌+ℤ◌, ◌+◌, ◌-◌, ◌<◌, ◌∙◌, ◌≡◌, ◌≤ℤ◌, ◌≤◌, Bool, and_right, ap, arith, cases_Bool, false, if◌then◌else◌, inl, inr, int_lt, refl, true}

-- ---- a value's place in its cycle

-- a value behind the beginning of a cycle by less than a cycle stands so far in it
placed : (n : Network) (c r m : ℕ) (z : ℤ) → 0 < amount n.cycle → pos 0 ≤ℤ n.cycle.0 → r < amount n.cycle → m ≡ c * amount n.cycle + r → z ≡ pos m
    → offset_in_cycle n z ≡ pos r
placed n c r m z some begun small is same =
    int_rem_euclid_is z n.cycle.0 (amount n.cycle) 0 m some (natural n.cycle.0 begun) (omega (arith, ints))
    ∙ ap pos (rw is (mod-mul-add c (amount n.cycle) r small))

-- what a clock shows from shortly before the beginning of a cycle to its correction point
record IsInWindow (n : Sizes) (cycle : ℕ) (shown : ℤ) : Type 0 where
  pub least : pos (cycle * n.cycle) ≤ℤ (shown +ℤ pos (2 * n.precision))
  pub most : shown ≤ℤ pos (cycle * n.cycle + n.correction)

in_window : {s : Sizes} {shown : ℤ} {n u : ℕ} {hull : Hull} → HaveRoom s → IsNarrow s hull → ShowsIn s shown n hull u
    → first_dispatch s hull ≤ℤ pos u → pos u ≤ℤ first_correction s hull → IsInWindow s (suc n) shown
in_window {s} {n} space narrow shows low high =
    let more = one_more n s.cycle in
    record { least = omega (arith, ints, shows.least); most = omega (arith, ints, shows.most, space.errors.reach_is) }

-- ---- gates

-- then the gate is open
open_by : {v : View} {cycle : ℕ} {shown : ℤ} → IsView v → IsInWindow v.sizes cycle shown
    → int_lt (pos (amount v.scenario.network.correction + 2 * amount v.scenario.network.precision))
    (offset_in_cycle v.scenario.network (shown +ℤ pos (2 * amount v.scenario.network.precision))) ≡ false
open_by {v} {cycle} {shown} is window =
    let n = v.scenario.network in
    let precision = (sizes_are is).precision in
    let correction = (sizes_are is).correction in
    let length = (sizes_are is).cycle in
    let product : cycle * v.sizes.cycle ≡ cycle * amount n.cycle = rw length in
    let z = shown +ℤ pos (2 * amount n.precision) in
    let from : pos (cycle * amount n.cycle) ≤ℤ z = omega (arith, ints, window.least) in
    let m = natural_of z (cycle * amount n.cycle) from in
    let rest = m.0 - cycle * amount n.cycle in
    let is_rest : m.0 ≡ cycle * amount n.cycle + rest = omega (arith, ints, m.1) in
    let top : rest ≤ amount n.correction + 2 * amount n.precision = omega (arith, ints, window.most, m.1) in
    let small : rest < amount n.cycle = omega (arith, room is) in
    let some : 0 < amount n.cycle = omega arith in
    let place = placed n cycle rest m.0 z some (omega (arith, ints, is.lawful.range.cycle.least)) small is_rest m.1 in
    ap (int_lt (pos (amount n.correction + 2 * amount n.precision))) place ∙ le-ltb (amount n.correction + 2 * amount n.precision) rest top

-- a device whose state is that after the events of an instant, if it is synchronised, was so before it
synchronised_left : (b : Bool) (state : State) → is_synchronised (if b then Integrating else state) ≡ true → is_synchronised state ≡ true
synchronised_left true state e = absurd cc
synchronised_left false state e = e

and_middle : (a b c : Bool) → b ≡ false → (a && b && c) ≡ false
and_middle true false c e = refl
and_middle false false c e = refl
and_middle a true c e = absurd cc

-- a device in this state has the common time
pub has_it : (state : State) → is_synchronised state ≡ true → has_time state ≡ true
has_it Synchronised e = refl
has_it state e = absurd cc

-- from the first dispatch to the first correction of a cycle the gates are open
pub gate_is_open : BlocksGoSo → {v : View} {n u : ℕ} (block : IsInBlock v n u) (switch : DeviceId) → IsView v
    → IsGood v switch → first_dispatch v.sizes block.before.hull ≤ℤ pos u
    → pos u ≤ℤ first_correction v.sizes block.before.hull → IsOpen v switch u
gate_is_open goes {v} {n} {u} block switch is good low high =
    let s = v.scenario in
    let relay = is_relay s.network switch in
    let state = state_before s v.records switch u in
    elim (cases_Bool (is_synchronised state)) [
      | inr not_so ↦ and_middle relay (is_synchronised state) _ not_so
      | inl so ↦
          let left = synchronised_left (is_turned_on_at s switch u) (state_left v switch u) so in
          let has : HasTimeAt v switch u = record { good = good; timed = has_it (state_left v switch u) left } in
          let old = old_early goes v n u block switch u u is (omega (arith, ints, room is), omega arith) good
          (omega arith) left in
          let window = in_window (room is)
          (before_narrow block.before) (old_shows block is (omega arith) has old) low high in
          and_right (relay && is_synchronised state) _ (open_by is window)
    ]

-- so they are while a frame that is given then may travel
pub are_open_on : BlocksGoSo → {v : View} (channel : Channel) {n w : ℕ} (block : IsInBlock v n w) → IsView v
    → first_dispatch v.sizes block.before.hull ≤ℤ pos w
    → pos (w + v.sizes.dmax) ≤ℤ first_correction v.sizes block.before.hull
    → w + v.sizes.dmax ≤ v.until + v.sizes.path → AreOpenOn v channel w
are_open_on goes {v} channel {n} block is low high in_run switch u of_channel from to =
    let at : IsInBlock v n u = record {
      before = block.before;
      next = block.next;
      is_over = block.is_over;
      from = omega (arith, block.from);
      to = omega (
        arith,
        ints,
        block_ends v n block.next _ block.before.is_hull block.is_over,
        hull_ordered n
            block.before is,
      );
      in_run = omega arith;
    } in
    gate_is_open goes at switch is (switches_are_good v channel switch is of_channel)
    (omega (arith, ints)) (omega (arith, ints))

pub are_open_from : BlocksGoSo → {v : View} {n w : ℕ} (block : IsInBlock v n w) → IsView v
    → first_dispatch v.sizes block.before.hull ≤ℤ pos w
    → pos (w + v.sizes.dmax) ≤ℤ first_correction v.sizes block.before.hull
    → w + v.sizes.dmax ≤ v.until + v.sizes.path → AreOpenFrom v w
are_open_from goes {v} block is low high in_run = are_open_on goes v.channel block is low high in_run

-- so they are for the dispatches of the block's cycle
pub dispatches_pass : BlocksGoSo → {v : View} (channel : Channel) {n w : ℕ} (block : IsInBlock v n w) → IsView v
    → first_dispatch v.sizes block.before.hull ≤ℤ pos w → pos w ≤ℤ last_dispatch v.sizes block.before.hull
    → w + v.sizes.dmax ≤ v.until + v.sizes.path → AreOpenOn v channel w
dispatches_pass goes {v} channel block is low high in_run =
    let first = frames_come_first v.sizes block.before.hull (room is) (before_narrow block.before) in
    are_open_on goes channel block is low (omega (arith, ints)) in_run
