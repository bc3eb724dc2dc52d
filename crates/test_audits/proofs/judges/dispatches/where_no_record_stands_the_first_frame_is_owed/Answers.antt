use Rattle.{audit_devices.specs.Showing.IsSteady, audit_law.specs.events.Readings.scenario_under, net_plan.specs.declared.ids.DeviceId.DeviceId}
use Rattle.std.proofs.Common.{[], refl}
use Rattle.test_audits.proofs.judges.dispatches.where_no_record_stands_the_first_frame_is_owed.Goals as goal

pub first_undispatched-requires-clause-known : goal.first_undispatched-requires-clause-known
first_undispatched-requires-clause-known g c =
    let network = c.in_ok-network.network in
    let remembers = c.in_ok-events.ensures in
    let s = scenario_under network [] in
    let steady : (device : DeviceId) → IsSteady s device = λ device.
    let on = c.reading_law.ensures network [] device remembers.range remembers.within remembers.begun in
    record { begins = on.begins; never_falls = on.never_falls } in (
      [],
      [],
      record {
        remembers = remembers;
        stands = c.in_ok-standings.ensures.stands s refl steady;
        taken = c.in_ok-takings.ensures.none;
        places = c.new-places.ensures;
      },
    )

pub first_undispatched-requires-2-clause-known : goal.first_undispatched-requires-2-clause-known
first_undispatched-requires-2-clause-known g c =
    let network = c.in_ok-network.network in
    let remembers = c.in_ok-events.ensures in
    let s = scenario_under network [] in
    let steady : (device : DeviceId) → IsSteady s device = λ device.
    let on = c.reading_law.ensures network [] device remembers.range remembers.within remembers.begun in
    record { begins = on.begins; never_falls = on.never_falls } in (
      [],
      [],
      record {
        remembers = remembers;
        stands = c.in_ok-standings.ensures.stands s refl steady;
        taken = c.in_ok-takings.ensures.none;
        places = c.new-places.ensures;
      },
    )
