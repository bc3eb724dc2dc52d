use Rattle.drift_world.proofs.Words.{◌-◌, ◌∙◌, ◌∷◌, ◌≡◌, ◌≤◌, DeviceId, SlotTimer, [], ap, arith, inl, length, refl, sym}
use Rattle.drift_world.proofs.{Foremost.{due_acts, due_part, due_ripe, slot_high}}
use Rattle.drift_world.proofs.{state.State.source_of_slot.Given.Over}
use Rattle.drift_world.{proofs.state.State.source_of_slot.Goals.{After-of_rank, else-slot-devices, then-slot-devices+in_default}}
use Rattle.drift_world.proofs.state.State.source_of_slot.Goals as goal

-- the timer that is due
abbrev due : (g : Over) (c : After-of_rank g) → SlotTimer
due g c = record { time = c.args.self.now.time; rank = c.args.rank; slot = c.args.slot }

-- the slot is for the acts of a device: else a frame that waits were permanent
high : (g : Over) (c : After-of_rank g) → length c.args.network.now.device ≤ c.args.slot
high g c =
    let len : length c.as_slice-devices.result.now ≡ length c.args.network.now.device = ap length c.as_slice-devices.ensures in
    let limit = c.requires.well.sound.sized.limit in
    elim c.if-slot-devices.branch [
      | then-slot-devices+in_default w ↦
          let low = w.if-slot-devices.true in
          let ripe = due_ripe c.requires.well.timed c.requires.due
          (omega arith) (omega arith) in
          let none = rw w.in_default.is at w.ripe_frame.ensures.none in
          absurd (none ripe.2.0 ripe.0 ripe.2.1 (ap (λ n. let d : DeviceId = record { 0 = n } in d) ripe.2.2) ripe.1
          ripe.2.3)
      | else-slot-devices w ↦ let test = w.if-slot-devices.false in omega arith
    ]

pub overflow_sub-result : goal.overflow_sub-result
overflow_sub-result g c =
    let len : length c.as_slice-devices.result.now ≡ length c.args.network.now.device = ap length c.as_slice-devices.ensures in
    let le = high g c in
    omega arith

pub returns-clause-there : goal.returns-clause-there
returns-clause-there g c =
    let len : length c.as_slice-devices.result.now ≡ length c.args.network.now.device = ap length c.as_slice-devices.ensures in
    let limit = c.requires.well.sound.sized.limit in
    let le = high g c in
    let is = due_part c.requires.well.timed c.requires.due le in
    let device : DeviceId = record { 0 = c.args.slot - length c.as_slice-devices.result.now } in
    rw (c.of_rank.ensures is.0 is.1) (due_acts c.requires.well.timed c.requires.due device is.0
    refl limit (omega arith) (let few = is.2 in omega arith) is.1)

pub returns-clause-place : goal.returns-clause-place
returns-clause-place g c =
    let len : length c.as_slice-devices.result.now ≡ length c.args.network.now.device = ap length c.as_slice-devices.ensures in
    let le = high g c in
    let is = due_part c.requires.well.timed c.requires.due le in
    let slot = c.args.slot in
    let now = c.args.self.now.time in
    inl
    (rw (c.of_rank.ensures is.0 is.1)
    (ap (λ n. now ∷ n ∷ (slot - length c.as_slice-devices.result.now) ∷ []) (sym is.1)
    ∙ ap (λ n. now ∷ c.args.rank ∷ (slot - n) ∷ []) len
    ∙ ap (λ n. now ∷ c.args.rank ∷ n ∷ []) (sym (slot_high (length c.args.network.now.device) slot le))))
