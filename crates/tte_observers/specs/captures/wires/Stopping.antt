-- The law of the observer of a way: where memory runs out in the world, what it has put is that of settled records.
use Rattle.std.proofs.Common.{◌∙◌, ap, inl, inr, refl, subst}
use Rattle.std.specs.Prelude.{if◌then◌else◌, ◌∷◌, ◌≡◌, Bool, List, [], false, filter, true, ℕ}
use Rattle.{net_plan.specs.declared.event.Event.Event, world_drive.specs.declared.observing.Cut.TheVariants.OutOfMemory}
use Rattle.{net_plan.specs.declared.{ids.LinkId.LinkId, tables.Way.Way}, world_drive.specs.Observing.{Start, Told}}
use Rattle.{net_plan.specs.declared.network.Network.Network, run_law.specs.records.Happenings.{Happening, happenings}}
use Rattle.{run_law.specs.declared.note.Note.Note, tte_observers.specs.declared.captures.wires.capture.Capture.Capture}
use Rattle.{run_law.specs.records.Order.IsIn, tte_forms.specs.Putting.PutsLines, tte_traces.specs.Report.shown_as}
use Rattle.tte_observers.specs.captures.wires.Packets.{is_settled, packets_of, scenario_under, settled, unsettled}
use Rattle.tte_observers.specs.captures.wires.Seeing.{SeesRecords, SeesWay, StopsRecords, StopsWay}

-- what is left of a list has the property
pub filter_has : {X : Type 0} (p : X → Bool) (xs : List X) (x : X) → IsIn x (filter p xs) → p x ≡ true
filter_has p [] x i = absurd i
filter_has p (y ∷ xs) x i =
    elim (p y) as (λ b. p y ≡ b → IsIn x (if b then y ∷ filter p xs else filter p xs) → p x ≡ true) [
      | true ↦ λ e j. elim j [ inl same ↦ ap p same ∙ e | inr more ↦ filter_has p xs x more ]
      | false ↦ λ e j. filter_has p xs x j
    ] refl i

module _ (network : Network) (events : List Event) (hs : List Happening) (start : Start Capture) (put : Told)
    (it : Capture) (seen : SeesRecords network events hs start put it) where
  -- the way is that of the start
  pub at_start : (at : List Event) (xs : List Happening) → packets_of (scenario_under network at) it.link it.way xs
      ≡ packets_of (scenario_under network at) start.observer.link start.observer.way xs
  at_start at xs =
      ap (λ (l : LinkId). packets_of (scenario_under network at) l it.way xs) seen.same_link
      ∙ ap (λ (w : Way). packets_of (scenario_under network at) start.observer.link w xs) seen.same_way

  pub memory_out : StopsRecords network events hs OutOfMemory start put
  memory_out = record {
    front = settled hs;
    rest = unsettled hs;
    parts = seen.parts;
    settled = λ h i. filter_has (is_settled hs) hs h i;
    stops =
        subst (λ (ls : List (List ℕ)). PutsLines ls (shown_as start.told) (shown_as put))
        (at_start events (settled hs)) seen.puts;
  }

pub no_more_seen : (network : Network) (events : List Event) (records : List Note) (start : Start Capture) (put : Told)
    (it : Capture) → SeesWay network events records start put it → StopsWay network events records OutOfMemory start put
no_more_seen network events records start put it seen =
    memory_out network events (happenings network records) start put it seen
