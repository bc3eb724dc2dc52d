-- What `least` answers for the octets of a network file.
use Rattle.std.specs.Prelude.{if◌then◌else◌, ◌<◌, ◌^◌, ◌∷◌, ◌≡◌, ◌⊎◌, List, [], ℕ}
use Rattle.lens_slack.specs.{Answer.{IsFileAnswer, broken_answer}, declared.least.times.Times.Times}
use Rattle.lens_slack.specs.{declared.spot.Finding.Finding, least.{Lines.{keys_text, least_line}, Times.with_times}}
use Rattle.lens_slack.specs.{Bounds.end_bound, Lines.finding_line, Tightest.is_short, least.Least.AreLeast}
use Rattle.net_plan.specs.declared.network.Network.{Network}
use Rattle.schedule_tables.specs.{Numbers.number_of, Rules.{IsFirstBroken, KeepsBelow}, declared.rule.Rule.Rule}
use Rattle.tte_forms.specs.{Answering.Answer, declared.status.Status.TheVariants.{Done, NetworkRefused}}
use Rattle.tte_units.specs.Amount.{units_of}

-- the cycle, and where the schedule begins with these times, with room for the precision
abbrev pub room_of : Network → Times → Finding
room_of network times = end_bound (with_times network times)

-- the answer with these times: their line, and then the lines of their keys; or, where the cycle has no room for them, a
-- line of what is short
abbrev pub times_answer : Network → Times → Answer
times_answer network times =
    if is_short (room_of network times)
    then record {
      status = NetworkRefused;
      lines = least_line times ∷ finding_line network (room_of network times) ∷ [];
    }
    else record { status = Done; lines = least_line times ∷ keys_text times ∷ [] }

-- the answer for a network, which may break rules: where one of 1 to 7 is broken, that of `slack`
abbrev pub IsLeastOf : Network → Answer → Type 0
IsLeastOf network a =
    ((rule : Rule) × (place : ℕ) × (number_of rule < 8) × IsFirstBroken network rule place
    × (a ≡ broken_answer network rule place))
    ⊎ (KeepsBelow 8 network × ((times : Times) × AreLeast network times × (a ≡ times_answer network times)))

-- the network with the greatest number that `settled` may have, so that no start exceeds it
abbrev pub with_late : Network → Network
with_late network = record network { settled = units_of (2 ^ 40) }

-- the answer of `least NETWORK`: the `settled` of the file is not looked at
abbrev pub IsLeastAnswer : List ℕ → Answer → Type 0
IsLeastAnswer octets a = IsFileAnswer (λ network. IsLeastOf (with_late network)) octets a
