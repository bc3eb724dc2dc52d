-- What comes of the events of an instant.
use Rattle.std.specs.Prelude.{if◌then◌else◌, ◌+◌, ◌∷◌, ◌≡◌, Bool, List, None, Option, Some, [], option_and_then}
use Rattle.std.specs.Prelude.{slice_get, ℕ}
use Rattle.net_plan.specs.{Places.link_at, declared.{event.What.What, ids.{DeviceId.DeviceId, LinkId.LinkId}}}
use Rattle.net_plan.specs.declared.{network.Network.Network, tables.Link.Link}
use Rattle.run_law.specs.{control.Wires.{signal_of, time_on_port}, declared.note.NoteBody.NoteBody}
use Rattle.sync_state.specs.declared.state.State.TheVariants.{Integrating}
use Rattle.world_state.specs.declared.queue.Entry.{Entry}
use Rattle.world_state.specs.{Giving.IsPutOn, Places.IsSomePut, declared.contents.{Befallen.Befallen, Content.Content}}
use Rattle.world_state.specs.declared.contents.{Content.TheVariants.Wire, Settled.Settled, WayState.WayState}
use Rattle.net_plan.specs.declared.event.What.TheVariants as events
use Rattle.run_law.specs.declared.judgement.Why.TheVariants as whys
use Rattle.run_law.specs.declared.note.NoteBody.TheVariants as kinds
use Rattle.world_state.specs.declared.contents.Signal.TheVariants as signals

-- a record that has neither a frame nor octets
abbrev pub bare : NoteBody → Settled
bare body = record { body = body; frame = None; octets = None }

-- the record that the device is turned on, unless it is broken
abbrev pub turned_on : ℕ → DeviceId → Bool → Option Settled
turned_on number device broken = if broken then None else Some (bare (kinds.State device Integrating number whys.On))

-- the record that the octets meet a cut way, where it is cut
abbrev pub lost_on : ℕ → LinkId → Link → WayState → Option Settled
lost_on number link found way = if way.cut then Some (bare (kinds.Lost found.child link number)) else None

-- the octets on the way up, where it is not cut
abbrev pub sent_up : Network → ℕ → ℕ → LinkId → List ℕ → Link → WayState → Option (Entry Content)
sent_up network time number link octets found way =
    if way.cut then None
    else Some (record {
      place = record {
        at = time + time_on_port network link (signal_of octets) + way.delay;
        rank = 2;
        device = found.parent.0;
        link = link.0;
        cause = number;
      };
      content = Wire (signals.Octets octets);
    })

-- the record of what comes of the event of this number
abbrev pub record_of : Network → List Bool → List WayState → ℕ → What → Option Settled
record_of network broken ups number (events.On device) =
    option_and_then (turned_on number device) (slice_get broken device.0)
record_of network broken ups number (events.Send link octets) =
    option_and_then (λ l. option_and_then (lost_on number link l) (slice_get ups link.0)) (link_at network link)
record_of network broken ups number other = None

-- what it puts on a wire
abbrev pub entry_of : Network → List WayState → ℕ → ℕ → What → Option (Entry Content)
entry_of network ups time number (events.Send link octets) =
    option_and_then (λ l. option_and_then (sent_up network time number link octets l) (slice_get ups link.0))
    (link_at network link)
entry_of network ups time number other = None

-- what comes of each is settled, one after the other, and put under way
abbrev pub AreSettledBy : Network → List Bool → List WayState → ℕ → List Befallen → List Settled → List Settled
    → List (Entry Content)
    → List (Entry Content) → Type 0
AreSettledBy network broken ups time [] settled after entries then_ = (after ≡ settled) × (then_ ≡ entries)
AreSettledBy network broken ups time (b ∷ befell) settled after entries then_ =
    (mid : List Settled) × (between : List (Entry Content))
    × IsSomePut (record_of network broken ups b.number b.what) settled mid
    × IsPutOn (entry_of network ups time b.number b.what) entries between
    × AreSettledBy network broken ups time befell mid after between then_
