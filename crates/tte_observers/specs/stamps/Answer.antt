-- What `stamp` answers for the octets of a network file and of a trace, and a granule.
use Rattle.std.specs.Prelude.{◌++◌, ◌<◌, ◌≡◌, ◌≢◌, ◌≤◌, ◌⊎◌, List, Option, codes, decimal, ℕ}
use Rattle.{net_plan.specs.declared.network.Network.Network, tte_forms.specs.Answering.{Answer, Gives, line_answer}}
use Rattle.tte_forms.specs.{Putting.Shown, declared.status.Status.{Status, TheVariants.{GranuleRefused, ReadFault}}}
use Rattle.tte_observers.specs.stamps.{StampLines.stamp_lines, granules.Granules.least_granule}
use Rattle.tte_traces.specs.{Answer.{IsRunStatus, IsTraceAnswer}, Ending.RunEnds, Streaming.{ReadsLittle, StopsReading}}
use Rattle.tte_units.specs.{Amount.amount, declared.units.Units.Units}

-- the line of a granule that is less than the least, which is this
abbrev pub granule_line : ℕ → List ℕ
granule_line least = codes "refused granule least " ++ (decimal least ++ codes "\n")

-- the answer about a granule that is less than the network's least
abbrev pub granule_answer : Network → Answer
granule_answer network = line_answer GranuleRefused (granule_line (least_granule network))

-- the answer for an accepted network under the octets of a trace: the granule is refused, or the stamps are put
abbrev pub IsStampAnswer : Units → List ℕ → Network → Answer → Type 0
IsStampAnswer granule trace network a =
    ((amount granule < least_granule network) × (a ≡ granule_answer network))
    ⊎ ((least_granule network ≤ amount granule) × IsTraceAnswer (stamp_lines (amount granule)) trace network a)

-- how `stamp` ends for an accepted network: it refuses the granule, and the trace is unread; or it stamps the run
abbrev pub StampEnds : Units → Network → Type 0 → Option (List ℕ) → Option (List ℕ) → Status → Shown → Shown → Type 0
StampEnds granule network Unread first left status old new =
    ((amount granule < least_granule network)
    × Gives (granule_answer network) status old new × (status ≢ ReadFault) × Unread)
    ⊎ ((least_granule network ≤ amount granule)
    × RunEnds (λ trace. IsTraceAnswer (stamp_lines (amount granule)) trace network) (stamp_lines (amount granule))
    network first left status old new × (status ≢ GranuleRefused))

-- a read of the trace failed: what was put are the stamps of the lines that were taken
abbrev pub StampStops : Units → Option (List ℕ) → Option (List ℕ) → Option (List ℕ) → Shown → Shown → Type 0
StampStops granule first second left old new = StopsReading (stamp_lines (amount granule)) first second left old new

-- little was taken of the trace behind the lines whose stamps were put
abbrev pub StampTakesLittle : Units → Option (List ℕ) → Option (List ℕ) → Option (List ℕ) → Shown → Shown → Type 0
StampTakesLittle granule first second left old new =
    ReadsLittle (stamp_lines (amount granule)) first second left old new

-- the statuses of `stamp`
abbrev pub IsStampStatus : Status → Type 0
IsStampStatus GranuleRefused = Unit {0}
IsStampStatus other = IsRunStatus other
