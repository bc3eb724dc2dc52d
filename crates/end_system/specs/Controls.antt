-- How an end system judges control frames, by what it knows of its network.
use Rattle.std.specs.Prelude.{if◌then◌else◌, ◌&&◌, ◌+◌, ◌==◌, Err, Ok, Result, nat_lt, not, pos, ℕ}
use Rattle.{drift_clock.specs.transparent.Points.point_of, pcf_codec.specs.declared.refusal.PcfRefusal.PcfRefusal}
use Rattle.{end_system.specs.Owns.wire_by, sync_state.specs.Standing.Standing}
use Rattle.{end_system.specs.declared.own.Own.Own, run_law.specs.{control.Hearing.heard_as, declared.steps.Ripe.Ripe}}
use Rattle.{net_plan.specs.declared.ids.LinkId.LinkId, tte_units.specs.{Amount.amount, declared.units.Units.Units}}
use Rattle.{run_law.specs.control.Arrivals.{is_cold_start, refused}, tte_units.specs.declared.frames.pcf.Pcf.Pcf}
use Rattle.run_law.specs.{control.Permanence.ripe_as, declared.steps.Arrival.{Arrival, TheVariants.{Dropped, Waits}}}
use Rattle.run_law.specs.{declared.judgement.Reason.TheVariants.{ColdStart, Domain, Old}, records.Happenings.with_clock}

-- the frame waits until its point, with this grown clock, or it is too old
abbrev pub waits_with : Own → Units → Pcf → ℕ → Arrival
waits_with own reading frame clock =
    if nat_lt (amount own.dmax) clock then Dropped Old
    else Waits (with_clock clock frame) (record { 0 = point_of reading.0 clock own.dmax.0 })

-- what becomes of a frame that the decoder gives
abbrev pub frame_arrival_of : Own → Units → LinkId → Pcf → Arrival
frame_arrival_of own reading link frame =
    if is_cold_start frame.kind then Dropped ColdStart else
    (if not (frame.priority == own.frame.priority && frame.domain == own.frame.domain) then Dropped Domain else
    waits_with own reading frame (frame.clock + amount (wire_by own link)))

-- what becomes of a control frame
abbrev pub arrival_of : Own → Units → LinkId → Result Pcf PcfRefusal → Arrival
arrival_of own reading link (Ok frame) = frame_arrival_of own reading link frame
arrival_of own reading link (Err refusal) = Dropped (refused refusal)

-- how the device hears a frame
abbrev pub heard_by : Own → Standing → Pcf → Units → Ripe
heard_by own s frame point =
    ripe_as (heard_as own.plan (pos (amount own.precision)) s.state s.adjustment.0 point.0 frame.cycle frame.members)
