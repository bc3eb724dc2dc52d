-- When a storm ends.
use Rattle.fault_hypothesis.proofs.storm_lemmas.{OneStorm.end_is_behind, Storms.storm_time}
use Rattle.fault_hypothesis.{specs.storm.Events.{AreStormEvents, time_of}}
use Rattle.{net_plan.specs.declared.{event.{Event.Event, What.TheVariants.End}, network.Network.Network}, std.proofs.Common.{◌*◌, ◌∙◌, ◌≡◌, List, ap, refl, ℕ}}
use Rattle.{run_law.specs.runs.DueRecords.EndsAt, tte_units.specs.declared.units.Units.Units, world_drive.proofs.exact_lemmas.Events.parted}

-- a storm ends behind all its steps
pub storm_ends : (network : Network) (seed cycles : ℕ) (events : List Event) (time : Units) → AreStormEvents network seed cycles events → EndsAt events time
    → time ≡ time_of network (8 * cycles)
storm_ends network seed cycles events time each ends =
    let end : Event = record { time = time; what = End } in
    let p = parted events end ends in
    let is = each p.0 p.1 end p.2 in
    storm_time network seed cycles p.0 _ end is ∙ ap (time_of network) (end_is_behind seed cycles _ is refl)
