-- What a device answers, and where each call leaves it.
use Rattle.std.specs.Prelude.{if◌then◌else◌, ◌++◌, ◌+ℤ◌, ◌∷◌, ◌≡◌, Bool, List, Option, Some, [], false, option_map}
use Rattle.std.specs.Prelude.{option_to_list, true, ℕ}
use Rattle.{compression.specs.Clusters.{Point, point_at}, sync_state.specs.membership.Hearing.Hearing}
use Rattle.{compression.specs.declared.compressed.Compressed.Compressed, net_plan.specs.declared.ids.DeviceId.DeviceId}
use Rattle.{net_plan.specs.declared.ids.{LinkId.LinkId, VlId.VlId}, sync_state.specs.Integration.joined_by}
use Rattle.{net_plan.specs.declared.network.Network.Network, sync_state.specs.membership.Summary.{Summarizes, Summary}}
use Rattle.tte_units.specs.declared.frames.{channel.Channel.Channel, members.Members.Members, pcf.Pcf.Pcf}
use Rattle.run_law.specs.control.{Arrivals.control_arrival, Hearing.heard_as, Permanence.{IsPermanenceOutcome, ripe_as}}
use Rattle.run_law.specs.control.{Collections.{master_of, observation_window}, Wires.{Signal, control, timed}}
use Rattle.{run_law.specs.declared.steps.Act.Act, sync_state.specs.Verdicts.HasVerdict}
use Rattle.run_law.specs.{declared.steps.{Arrival.Arrival, Moment.Moment, Ripe.Ripe}, device.States.is_synchronised}
use Rattle.run_law.specs.machines.Nodes.{ClockTask, Node, Phase, acting, correcting, dispatching, last_taken_by}
use Rattle.run_law.specs.machines.{Nodes.{local_at, sending, standpoint_at}, Tasks.{IsFirstTask, doing, emitting}}
use Rattle.run_law.specs.{records.Frames.{dispatched_frame, integration_frame}, scenario.Devices.{channel_of, plan_of}}
use Rattle.{run_law.specs.timed.Arrivals.timed_arrival, tte_units.specs.declared.units.Units.Units}
use Rattle.sync_state.specs.{Calls.{after, heard_frame, reached_point, turned_on}, declared.answers.Verdict.Verdict}
use Rattle.sync_state.specs.declared.answers.Verdict.TheVariants.{AsyncClique, Cleared, Corrected, SyncClique}
use Rattle.run_law.specs.declared.steps.Act.TheVariants as acts
use Rattle.run_law.specs.declared.steps.Arrival.TheVariants as arrivals
use Rattle.run_law.specs.declared.steps.Ripe.TheVariants as ripe

-- the device after a call of this kind at the moment
abbrev pub called : Moment → Phase → Node → Node
called moment phase node = record node { last = moment; phase = phase }

-- ---- it is turned on

-- the device that an event turned on
abbrev pub node_turned_on : Node → Node
node_turned_on node = record node { standing = after node.standing turned_on }

-- ---- a frame arrives

-- what becomes of what arrives at the device by the link
abbrev pub arrival_at : Network → DeviceId → Node → Moment → LinkId → Signal → Arrival
arrival_at network device node moment link (control frame) =
    control_arrival network device link (standpoint_at node moment) frame
arrival_at network device node moment link (timed octets) =
    timed_arrival network device link (standpoint_at node moment) octets (last_taken_by node)

-- the device took a frame
abbrev pub with_taken : Node → Moment → VlId → ℕ → Node
with_taken node moment vl cycle =
    record node { taken = node.taken ++ record { vl = vl; cycle = cycle; at = local_at node moment } ∷ [] }

-- the device after a frame of which this became
abbrev pub after_arrival : Node → Moment → Arrival → Node
after_arrival node moment (arrivals.Accepted vl cycle) = with_taken node moment vl cycle
after_arrival node moment (arrivals.Delivered vl cycle) = with_taken node moment vl cycle
after_arrival node moment other = node

-- ---- a frame is permanent, or one is sent by a compression master, which hears it itself

-- the frame of these members as it was heard by a channel
abbrev pub hearings : Option Channel → ℕ → Members → Units → Bool → List Hearing
hearings channel cycle members point within =
    option_to_list (option_map
    (λ c. record {
      channel = c;
      frame = record { cycle = cycle; members = members; point = point };
      within = within;
    }) channel)

-- the device that has heard the frame
abbrev pub with_heard : Node → Option Channel → Pcf → Units → Bool → Node
with_heard node channel frame point within =
    record node { heard = node.heard ++ hearings channel frame.cycle frame.members point within }

-- the device that the frame has told the time: it begins anew
abbrev pub with_joined : Node → Moment → Pcf → Units → Node
with_joined node moment frame point =
    let standing = after node.standing (heard_frame frame point (Some (joined_by node.standing.plan frame point))) in
    record node {
      standing = standing;
      changed = moment.reading.0 +ℤ standing.adjustment.0;
      done = [];
      heard = [];
      points = [];
      emitted = [];
    }

-- a compression master with one more point
abbrev pub with_point : Node → Pcf → Units → Node
with_point node frame point =
    record node { points = node.points ++ point_at point.0 (master_of frame.members.0) frame.cycle ∷ [] }

-- the device after a frame that came by a channel and of which this became
abbrev pub after_permanence : Node → Moment → Option Channel → Pcf → Units → Ripe → Node
after_permanence node moment channel frame point ripe.Opened = with_point node frame point
after_permanence node moment channel frame point ripe.Joined = with_point node frame point
after_permanence node moment channel frame point ripe.Repeat = with_point node frame point
after_permanence node moment channel frame point ripe.Within = with_heard node channel frame point true
after_permanence node moment channel frame point ripe.Outside = with_heard node channel frame point false
after_permanence node moment channel frame point ripe.Integrates = with_joined node moment frame point
after_permanence node moment channel frame point ripe.Ignored = node
after_permanence node moment channel frame point (ripe.Dropped reason) = node

-- this becomes of the frame that is permanent at the device
abbrev pub IsPermanenceOutcomeAt : Network → DeviceId → Node → Pcf → Units → Ripe → Type 0
IsPermanenceOutcomeAt network device node frame point is =
    IsPermanenceOutcome network device node.standing.state node.standing.adjustment.0 node.points frame point.0 is

-- ---- it acts

-- the device that has done the deed
abbrev pub with_done : Node → ClockTask → Node
with_done node deed = record node { done = node.done ++ deed ∷ [] }

-- the points of a stretch that goes on where the device was synchronised; a joiner's first correction ends it
abbrev pub kept_points : Node → List Point
kept_points node = if is_synchronised node.standing.state then node.points else []

-- and what it has sent of them
abbrev pub kept_emitted : Node → List Compressed
kept_emitted node = if is_synchronised node.standing.state then node.emitted else []

-- the device that has corrected its clock
abbrev pub with_corrected : Node → Moment → Summary → Units → Node
with_corrected node moment heard by =
    let standing = after node.standing (reached_point heard (Corrected by)) in
    record node {
      standing = standing;
      changed = moment.reading.0 +ℤ standing.adjustment.0;
      done = [];
      heard = [];
      points = kept_points node;
      emitted = kept_emitted node;
    }

-- the device that has found itself outside the others: it looks for them anew
abbrev pub with_clique : Node → Summary → Verdict → Node
with_clique node heard verdict =
    record node { standing = after node.standing (reached_point heard verdict); heard = []; points = []; emitted = [] }

-- the device after its correction point, at which all that it heard is gone
abbrev pub after_correction : Node → Moment → Summary → ℕ → Verdict → Node
after_correction node moment heard cycle (Corrected by) = with_corrected node moment heard by
after_correction node moment heard cycle SyncClique = with_clique node heard SyncClique
after_correction node moment heard cycle AsyncClique = with_clique node heard AsyncClique
after_correction node moment heard cycle Cleared =
    with_done (record node { standing = after node.standing (reached_point heard Cleared); heard = [] })
    (correcting cycle)

-- what the device heard since its last correction point comes to this
pub record ComesTo (node : Node) (heard : Summary) (verdict : Verdict) : Type 0 where
  pub summary : Summarizes heard node.heard
  pub verdict_is : HasVerdict node.standing heard verdict

-- how a compression master hears the frame that it sends
abbrev pub own_hearing : Network → DeviceId → Node → Compressed → Ripe
own_hearing network device node sent =
    ripe_as (heard_as (plan_of network device) (observation_window network) node.standing.state
    node.standing.adjustment.0 sent.at.0 sent.cycle sent.members)

-- the compression master that has sent a frame, and heard it so
abbrev pub after_emission : Network → DeviceId → Node → Moment → Compressed → Ripe → Node
after_emission network device node moment sent heard =
    after_permanence (record node { emitted = node.emitted ++ sent ∷ [] }) moment (channel_of network device)
    (integration_frame network device sent.cycle sent.members) sent.at heard

-- the device does the first of the tasks that are due at the moment, and this is how it stands then
abbrev pub IsActOf : Network → DeviceId → Node → Moment → Act → Node → Type 0
IsActOf network device node moment (acts.Send frame) new =
    (cycle : ℕ) × IsFirstTask network device node moment.reading.0 (doing (sending cycle))
    × (frame ≡ dispatched_frame network device cycle) × (new ≡ called moment acting (with_done node (sending cycle)))
IsActOf network device node moment (acts.Emit sent heard) new =
    IsFirstTask network device node moment.reading.0 (emitting sent)
    × (heard ≡ own_hearing network device node sent)
    × (new ≡ called moment acting (after_emission network device node moment sent heard))
IsActOf network device node moment (acts.Correct cycle verdict) new =
    IsFirstTask network device node moment.reading.0 (doing (correcting cycle))
    × ((heard : Summary) × ComesTo node heard verdict
    × (new ≡ called moment acting (after_correction node moment heard cycle verdict)))
IsActOf network device node moment (acts.Dispatch row cycle) new =
    IsFirstTask network device node moment.reading.0 (doing (dispatching row cycle))
    × (new ≡ called moment acting (with_done node (dispatching row cycle)))
