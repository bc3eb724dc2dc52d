-- What `latency` answers for the octets of a network file, and for the records of a report.
use Rattle.std.specs.Prelude.{◌≡◌, List, map, ℕ}
use Rattle.lens_latency.specs.{Arrivals.AreArrivals, Comings.AreComings, Lines.{latency_line, told_line}}
use Rattle.lens_latency.specs.Seeing.{AreTold}
use Rattle.lens_latency.specs.declared.{arrivals.FrameArrival.FrameArrival, comings.Coming.Coming, seeing.ReportedComing.ReportedComing}
use Rattle.run_law.specs.{declared.note.Note.Note, records.Happenings.happenings}
use Rattle.tte_units.specs.declared.units.Units.{Units}
use Rattle.net_plan.specs.declared.network.Network.{Network}
use Rattle.tte_forms.specs.{Answering.Answer, declared.status.Status.TheVariants.Done}
use Rattle.tte_forms.specs.networks.Accepting.{IsNetworkAnswer}

-- a line for each
abbrev pub latency_answer : Network → List Coming → Answer
latency_answer network cs = record { status = Done; lines = map (latency_line network) cs }

-- the answer for an accepted network
pub record IsLatencyOf (network : Network) (a : Answer) : Type 0 where
  pub comings : List Coming
  pub are : AreComings network comings
  pub is : a ≡ latency_answer network comings

-- the answer of `latency NETWORK`
abbrev pub IsLatencyAnswer : List ℕ → Answer → Type 0
IsLatencyAnswer octets a = IsNetworkAnswer IsLatencyOf octets a

-- a line for each, with what a report shows
abbrev pub told_answer : Network → List ReportedComing → Answer
told_answer network told = record { status = Done; lines = map (told_line network) told }

-- the answer for the records of a report of the network
pub record IsLatencyReport (network : Network) (ns : List Note) (end : Units) (a : Answer) : Type 0 where
  pub comings : List Coming
  pub are : AreComings network comings
  pub arrivals : List FrameArrival
  pub arrive : AreArrivals (happenings network ns) arrivals
  pub told : List ReportedComing
  pub tell : AreTold arrivals comings told
  pub is : a ≡ told_answer network told
