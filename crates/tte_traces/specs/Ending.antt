-- How a run under a trace ends.
use Rattle.std.specs.Prelude.{◌≡◌, List, Option, ℕ}
use Rattle.net_plan.specs.declared.network.Network.{Network}
use Rattle.tte_forms.specs.{Answering.{Answer, ForOctets, GivesOne}, Putting.{IsPassedOn, Shown}}
use Rattle.tte_forms.specs.declared.status.Status.{Status, TheVariants.ReadFault}
use Rattle.tte_traces.specs.{Answer.LinesOf, Streaming.{ForTrace, StopsBehindLines, TakesLittle}}

-- one of the answers was given, as far as the status tells; where a read failed, all that was put was passed on, and it
-- stops behind the lines that were taken; and of the trace little more was taken than the lines whose lines were put
pub record RunEnds (IsAnswer : List ℕ → Answer → Type 0) (lines : LinesOf) (network : Network)
    (first left : Option (List ℕ)) (status : Status) (old new : Shown) : Type 0 where
  pub general : ForOctets first (λ octets. GivesOne (IsAnswer octets) status old new)
  pub cut : status ≡ ReadFault
      → IsPassedOn new × ForTrace first left (λ octets rest. StopsBehindLines lines network octets rest old new)
  pub little : ForTrace first left (λ octets rest. TakesLittle lines network octets rest old new)
