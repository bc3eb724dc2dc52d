-- The lines of records, from their pieces.
use Rattle.{net_plan.specs.declared.{event.What.What, network.Network.Network}, trace_text.specs.{EventLine.{what_text, what_words}, Steps.space}}
use Rattle.std.{proofs.Common.{◌++◌, ◌∷◌, ◌≡◌, List, refl, ℕ}, specs.List.join_with_byte}
use Rattle.net_plan.specs.declared.event.What.TheVariants as events

-- an event's text stands behind the words before it
pub event_joined : (word : List ℕ) (network : Network) (what : What) → join_with_byte space (word ∷ what_words network what) ≡ word ++ space
    ∷ what_text network what
unfolding what_text
event_joined word network (events.Rate d r) = refl
event_joined word network other = refl
