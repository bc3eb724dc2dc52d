-- What becomes of a frame at a port that leaves.
use Rattle.std.specs.Prelude.{if◌then◌else◌, ◌+◌, ◌-◌, Bool, None, Option, Some, nat_lt, ℕ}
use Rattle.{net_plan.specs.declared.network.Network.Network, world_law.specs.world.Outcomes.departure_body}
use Rattle.run_law.specs.{control.Leaving.{Departure, leaves, on_cut_way, too_old}, scenario.Ways.{is_cut, way_from}}
use Rattle.{run_law.specs.records.Happenings.with_clock, world_state.specs.declared.queue.DueAt.DueAt}
use Rattle.{run_law.specs.scenario.Scenarios.{Scenario, is_broken}, world_state.specs.declared.contents.Settled.Settled}
use Rattle.{tte_units.specs.{Amount.amount, declared.frames.pcf.Pcf.Pcf}, world_law.specs.world.World.AtPort}
use Rattle.world_state.specs.declared.leaving.Fate.{Fate}
use Rattle.world_state.specs.declared.leaving.Fate.TheVariants as fates

-- what is at the port
abbrev pub port_entry : DueAt → Pcf → ℕ → AtPort
port_entry place frame given = record {
  at = place.at;
  device = record { 0 = place.device };
  link = record { 0 = place.link };
  cause = place.cause;
  frame = frame;
  reading = given;
}

-- what becomes of it, where its device's clock reads this, and its way is cut or not
abbrev pub departure_by : Network → ℕ → Bool → AtPort → Departure
departure_by network reading cut e =
    if nat_lt (amount network.dmax) (e.frame.clock + (reading - e.reading)) then too_old
    else (if cut then on_cut_way else leaves (e.frame.clock + (reading - e.reading)))

-- the frame of the record
abbrev pub frame_after : Pcf → Departure → Option Pcf
frame_after frame (leaves clock) = Some (with_clock clock frame)
frame_after frame too_old = None
frame_after frame on_cut_way = None

-- the record of what becomes of it
abbrev pub departed_so : AtPort → Departure → Settled
departed_so e is = record { body = departure_body e is; frame = frame_after e.frame is; octets = None }

-- the record
abbrev pub departed : Network → ℕ → Bool → AtPort → Settled
departed network reading cut e = departed_so e (departure_by network reading cut e)

-- what becomes of it, as the world keeps it
abbrev pub departure_of : Fate → Departure
departure_of (fates.Leaves clock) = leaves clock
departure_of fates.TooOld = too_old
departure_of fates.OnCutWay = on_cut_way

-- the record at a time in a scenario: of a broken device there is none
abbrev pub departure_in : Scenario → ℕ → AtPort → Option Settled
departure_in s now e =
    if is_broken s e.device now then None
    else Some (departed s.network (s.reading e.device now) (is_cut s e.link (way_from s.network e.device e.link) now) e)
