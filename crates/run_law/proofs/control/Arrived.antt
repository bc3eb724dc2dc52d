-- What a device has found of a control frame that it does not drop at its arrival.
use Rattle.{net_plan.specs.declared.ids.DeviceId.DeviceId, run_law.specs.declared.judgement.Reason.Reason, std.specs.Prelude.{Err, Ok, Result, if◌then◌else◌}}
use Rattle.{net_plan.specs.declared.{ids.{LinkId.LinkId, VlId.VlId}, tables.Way.Way}, pcf_codec.specs.Fields.field, tte_units.specs.declared.units.Units.Units}
use Rattle.{net_plan.specs.declared.{network.Network.Network, tables.Way.TheVariants.{Down, Up}}, run_law.specs.device.Standpoints.{Standpoint, standpoint}}
use Rattle.{pcf_codec.specs.declared.refusal.PcfRefusal.PcfRefusal, run_law.specs.{records.Happenings.{Happening, with_clock}, runs.DueRecords.IsArrivedRecord}}
use Rattle.run_law.{proofs.control.Verdicts.none_first, specs.declared.steps.Arrival.Arrival}
use Rattle.tte_units.specs.{Amount.amount, declared.frames.pcf.Pcf.Pcf}
use Rattle.run_law.specs.control.Arrivals.{clock_on_arrival, control_arrival, frame_fault, frame_or_fault, is_cold_start, is_gate_shut, is_of_other_domain}
use Rattle.run_law.specs.{control.Arrivals.{is_of_other_member, point_on_arrival}, scenario.{Devices.{is_end, is_parent_of, is_relay}, Scenarios.Scenario}}
use Rattle.{run_law.specs.{control.Wires.{Signal, control, timed}, timed.Receptions.{arrival_of, last_taken}}, schedule_tables.specs.declared.entry.Entry.Entry}
use Rattle.run_law.specs.timed.Arrivals.{entry_arrival, entry_entering, octets_fault, octets_or_fault, row_fault, taken_or_fault, timed_arrival}
use Rattle.std.proofs.Common.{◌∙◌, ◌≡◌, ◌≤◌, ◌⊎◌, Bool, List, None, Option, Some, ap, arith, false, inl, inr, length, nat_lt, not, refl, sym, true, ℕ}
use Rattle.std.proofs.lemmas.Bool.{ltb-false}
use Rattle.run_law.specs.declared.steps.Arrival.TheVariants as arrivals

-- the frame, with this clock, waits or is passed on
abbrev Goes : Arrival → ℕ → Type 0
Goes a clock =
    (frame : Pcf) × (point : Units) × (way : Way) × (clock ≡ frame.clock)
    × ((a ≡ arrivals.Waits frame point) ⊎ ((a ≡ arrivals.Passes frame way) ⊎ (a ≡ arrivals.PassesAndWaits frame way point)))

-- what the device has found
pub record IsSoundArrival (network : Network) (device : DeviceId) (at : Standpoint) (clock : ℕ) : Type 0 where
  pub young : clock ≤ amount network.dmax
  pub unshut : is_gate_shut network device at ≡ false

-- what is dropped does not go so
no_drop : (reason : Reason) (clock : ℕ) → Goes (arrivals.Dropped reason) clock → ⊥
no_drop reason clock g = elim g.4 [ inl e ↦ cc | inr (inl e) ↦ cc | inr (inr e) ↦ cc ]

-- nor what is accepted
no_accept : (vl : VlId) (cycle clock : ℕ) → Goes (arrivals.Accepted vl cycle) clock → ⊥
no_accept vl cycle clock g = elim g.4 [ inl e ↦ cc | inr (inl e) ↦ cc | inr (inr e) ↦ cc ]

-- nor what is delivered
no_deliver : (vl : VlId) (cycle clock : ℕ) → Goes (arrivals.Delivered vl cycle) clock → ⊥
no_deliver vl cycle clock g = elim g.4 [ inl e ↦ cc | inr (inl e) ↦ cc | inr (inr e) ↦ cc ]

-- octets of other frames do not go so
no_timed : (network : Network) (device : DeviceId) (link : LinkId) (at : Standpoint) (octets : List ℕ) (last : VlId → Option ℕ) (clock : ℕ)
    → Goes (timed_arrival network device link at octets last) clock → ⊥
no_timed network device link at octets last clock g = by (octets_fault network at octets) g
  where
    by_end : (b : Bool) (vl : VlId) (cycle : ℕ) → Goes (if b then arrivals.Delivered vl cycle else arrivals.Accepted vl cycle) clock → ⊥
    by_end true vl cycle g = no_deliver vl cycle clock g
    by_end false vl cycle g = no_accept vl cycle clock g

    by_row : (entry : Entry) (o : Option Reason) → Goes (taken_or_fault network device at entry o) clock → ⊥
    by_row entry (Some reason) g = no_drop reason clock g
    by_row entry None g = by_end (is_end network device) entry.row.vl _ g

    by_entry : (o : Option Entry) → Goes (entry_arrival network device at (length octets) last o) clock → ⊥
    by_entry None g = no_drop _ clock g
    by_entry (Some entry) g = by_row entry (row_fault network at entry (length octets) (last entry.row.vl)) g

    by : (o : Option Reason) → Goes (octets_or_fault network device link at octets last o) clock → ⊥
    by (Some reason) g = no_drop reason clock g
    by None g = by_entry (entry_entering network device link (field 4 2 octets)) g

-- the clock with which a frame goes on
goes_with : (relay parent : Bool) (frame : Pcf) (point : Units) (clock : ℕ)
    → Goes (if relay then (if parent then arrivals.Passes frame Up else arrivals.PassesAndWaits frame Down point) else arrivals.Waits frame point) clock
    → clock ≡ frame.clock
goes_with true true frame point clock g =
    elim g.4 [
      | inl e ↦ absurd cc
      | inr (inl e) ↦ (let same : frame ≡ g.0 = cc in g.3 ∙ ap (λ f. f.clock) (sym same))
      | inr (inr e) ↦ absurd cc
    ]
goes_with true false frame point clock g =
    elim g.4 [
      | inl e ↦ absurd cc
      | inr (inl e) ↦ absurd cc
      | inr (inr e) ↦
          (let same : frame ≡ g.0 = cc in g.3 ∙ (rw (sym same)))
    ]
goes_with false parent frame point clock g =
    elim g.4 [
      | inl e ↦ (let same : frame ≡ g.0 = cc in g.3 ∙ ap (λ f. f.clock) (sym same))
      | inr (inl e) ↦
          absurd cc
      | inr (inr e) ↦ absurd cc
    ]

-- a control frame that goes on is young, and its gate open
control_finds : (network : Network) (device : DeviceId) (link : LinkId) (at : Standpoint) (frame : Result Pcf PcfRefusal) (clock : ℕ)
    → Goes (control_arrival network device link at frame) clock → IsSoundArrival network device at clock
control_finds network device link at (Err refusal) clock g = absurd (no_drop _ clock g)
control_finds network device link at (Ok frame) clock g = by (frame_fault network device link at frame) refl g
  where
    by : (o : Option Reason) → frame_fault network device link at frame ≡ o → Goes (frame_or_fault network device link at frame o) clock
        → IsSoundArrival network device at clock
    by (Some reason) e g = absurd (no_drop reason clock g)
    by None e g =
        let one = none_first (not at.takes_part) _ _ e in
        let two = none_first (is_cold_start frame.kind) _ _ one.1 in
        let three = none_first (is_of_other_domain network frame) _ _ two.1 in
        let four = none_first (is_of_other_member network device link frame.members) _ _ three.1 in
        let five = none_first (nat_lt (amount network.dmax) (clock_on_arrival network link frame)) _ _ four.1 in
        let six = none_first (is_gate_shut network device at) _ _ five.1 in
        let clock_is = goes_with (is_relay network device) (is_parent_of network device link) (with_clock (clock_on_arrival network link frame) frame)
        (point_on_arrival network at (clock_on_arrival network link frame)) clock g in
        let up = ltb-false (amount network.dmax) (clock_on_arrival network link frame) five.0 in
        record { young = omega arith; unshut = six.0 }

module _ {s : Scenario} {hs : List Happening} {device : DeviceId} {t : ℕ} {link : LinkId} {cause clock : ℕ}
    (a : IsArrivedRecord s hs device t link cause clock) where
  -- so does one whose arrival has a record
  pub arrived_finds : IsSoundArrival s.network device (standpoint s hs device t) clock
  arrived_finds =
      elim a.taken [
        | inl b ↦ by b.signal (a.frame, a.point, a.way, a.shows, inl (sym b.becomes))
        | inr (inl b) ↦ by b.signal (a.frame, a.point, a.way, a.shows, inr (inl (sym b.becomes)))
        | inr (inr b) ↦ by b.signal (a.frame, a.point, a.way, a.shows, inr (inr (sym b.becomes)))
      ]
    where
      by : (signal : Signal) → Goes (arrival_of s hs device t link cause signal) clock → IsSoundArrival s.network
          device (standpoint s hs device t) clock
      by (control frame) g = control_finds s.network device link (standpoint s hs device t) frame clock g
      by (timed octets) g = absurd (no_timed s.network device link (standpoint s hs device t) octets
          (last_taken hs device t link cause) clock g)

  -- so its clock is of at most the greatest delay
  pub arrived_young : clock ≤ amount s.network.dmax
  arrived_young = (arrived_finds).young
