-- What comes of an arrival, an act, a departure or an event.
use Rattle.std.specs.Prelude.{if◌then◌else◌, ◌&&◌, ◌==◌, ◌∷◌, Bool, List, [], false, not, true, ℕ}
use Rattle.net_plan.specs.declared.{event.What.What, ids.LinkId.LinkId}
use Rattle.{net_plan.specs.declared.ids.DeviceId.DeviceId, world_law.specs.world.World.{AtPort, Befell, has_outcome}}
use Rattle.run_law.specs.{control.Leaving.{Departure, leaves, on_cut_way, too_old}, declared.note.NoteBody.NoteBody}
use Rattle.{run_law.specs.declared.judgement.Judgement.Judgement, sync_state.specs.declared.state.State.TheVariants.Off}
use Rattle.run_law.specs.{declared.steps.{Arrival.Arrival, Ripe.Ripe}, machines.{Answers.node_turned_on, Nodes.Node}}
use Rattle.net_plan.specs.declared.event.What.TheVariants as events
use Rattle.run_law.specs.declared.judgement.Reason.TheVariants as reasons
use Rattle.run_law.specs.declared.note.NoteBody.TheVariants as kinds
use Rattle.run_law.specs.declared.judgement.Judgement.TheVariants as judgements
use Rattle.run_law.specs.declared.steps.Ripe.TheVariants as ripe
use Rattle.run_law.specs.declared.steps.Arrival.TheVariants as arrivals

-- what becomes of a frame that arrives, as a record: one that waits or is passed on is an arrival
abbrev pub arrival_body : DeviceId → LinkId → ℕ → Arrival → NoteBody
arrival_body device link cause (arrivals.Dropped reason) = kinds.Dropped device link cause reason
arrival_body device link cause (arrivals.Waits frame point) = kinds.Arrived device link cause frame.clock
arrival_body device link cause (arrivals.Passes frame way) = kinds.Arrived device link cause frame.clock
arrival_body device link cause (arrivals.PassesAndWaits frame way point) = kinds.Arrived device link cause frame.clock
arrival_body device link cause (arrivals.Accepted vl cycle) = kinds.Accepted device link cause vl cycle
arrival_body device link cause (arrivals.Delivered vl cycle) = kinds.Delivered device link cause vl cycle

-- how a device judges a frame of its own
abbrev pub judged_as : Ripe → Judgement
judged_as ripe.Opened = judgements.Opened
judged_as ripe.Joined = judgements.Joined
judged_as ripe.Repeat = judgements.Repeat
judged_as ripe.Within = judgements.Within
judged_as ripe.Outside = judgements.Outside
judged_as ripe.Integrates = judgements.Integrates
judged_as ripe.Ignored = judgements.Ignored
judged_as (ripe.Dropped reason) = judgements.Ignored

-- what becomes of a frame at a port, as a record
abbrev pub departure_body : AtPort → Departure → NoteBody
departure_body e (leaves clock) = kinds.Left e.device e.link e.cause clock
departure_body e too_old = kinds.Dropped e.device e.link e.cause reasons.Old
departure_body e on_cut_way = kinds.Lost e.device e.link e.cause

-- what an event makes of a device. One that breaks at the instant at which it was turned on is off, as it was before
abbrev pub befallen_node : Bool → What → DeviceId → Node → Node
befallen_node on (events.Break other) device node =
    if other.0 == device.0 && not node.broken
    then record node {
      broken = true;
      standing = record node.standing { state = if on then Off else node.standing.state };
    } else node
befallen_node on (events.On other) device node =
    if device.0 == other.0 && not node.broken then node_turned_on node else node
befallen_node on other device node = node

-- what is pending with an event of this number
abbrev pub also_befell : ℕ → What → List Befell
also_befell number what = if has_outcome what then record { number = number; what = what } ∷ [] else []

-- does the event end the run?
abbrev pub ends_world : What → Bool
ends_world events.End = true
ends_world other = false
