-- What a judgement reads of the octets of a time-triggered frame.
use Rattle.std.specs.Prelude.{◌==◌, ◌∷◌, Bool, List, Option, [], length, nat_lt, not, ℕ}
use Rattle.{device_rules.specs.declared.heading.Heading.Heading, run_law.specs.declared.judgement.Reason.Reason}
use Rattle.{pcf_codec.specs.{EtherType.least_type, Fields.field}, sync_state.specs.declared.state.State.State}
use Rattle.run_law.specs.device.{Standpoints.first_reason, States.is_synchronised}
use Rattle.run_law.specs.declared.judgement.Reason.TheVariants as reasons

-- the heading of octets: how many they are, the marker, the id of the virtual link, and the EtherType
abbrev pub heading_of : List ℕ → Heading
heading_of octets = record {
  length = length octets;
  marker = field 0 4 octets;
  id = field 4 2 octets;
  ethertype = field 12 2 octets;
}

-- why a device that takes part or not, in this state, in a network of this marker, drops a frame of this heading before
-- its row is looked for, if it does: the first reason in this order
abbrev pub heading_fault : Bool → State → ℕ → Heading → Option Reason
heading_fault takes_part state marker heading =
    first_reason (
    (not takes_part, reasons.Off)
    ∷ (nat_lt heading.ethertype least_type, reasons.RefusedEtherType)
    ∷ (not (is_synchronised state), reasons.Unsynchronised)
    ∷ (not (heading.marker == marker), reasons.Unknown)
    ∷ [])
