-- What a call changes in a switch.
use Rattle.std.specs.Prelude.{if◌then◌else◌, ◌++◌, ◌+ℤ◌, ◌∷◌, ◌≡◌, ◌⊎◌, Bool, List, None, Option, Some, [], false}
use Rattle.std.specs.Prelude.{option_and_then, true, ℤ}
use Rattle.compression.specs.{Clusters.{AreClusters, Cluster, Point, point_at}, Role.role, Stands.StandsForPoints}
use Rattle.compression.specs.{Collecting.{Collecting, fresh, with_joined, with_opened}, declared.taken.Taken.Taken}
use Rattle.{compression.specs.declared.compressed.Compressed.Compressed, sync_state.specs.correction.Deviation.IsSmall}
use Rattle.run_law.specs.{control.Collections.{master_of, ripe_by_role}, device.States.is_synchronised}
use Rattle.{run_law.specs.declared.steps.Act.Act, sync_state.specs.{Integration.joined_by, Standing.next_point}}
use Rattle.{run_law.specs.declared.steps.{Moment.Moment, Ripe.Ripe}, tte_units.specs.declared.frames.pcf.Pcf.Pcf}
use Rattle.{run_law.specs.machines.Answers.hearings, tte_units.specs.declared.units.Units.Units}
use Rattle.switch_ports.specs.{Corrections.correction_at, Leaving.closed, declared.switch.Switch.Switch}
use Rattle.switch_ports.specs.{Departing.{Changes, IsAwaitedSo, KnowsNext}, declared.departures.Dispatch.Dispatch}
use Rattle.sync_state.specs.{Calls.{after, heard_frame, reached_point}, Verdicts.{HasVerdict, IfCorrected}}
use Rattle.sync_state.specs.declared.answers.Verdict.TheVariants.{AsyncClique, Cleared, Corrected, SyncClique}
use Rattle.{sync_state.specs.declared.answers.Verdict.Verdict, tte_units.specs.declared.frames.channel.Channel.Channel}
use Rattle.sync_state.specs.membership.{Hearing.Hearing, Summary.{Hears as Keeps, Summarizes, Summary, silence}}
use Rattle.compression.specs.declared.taken.Taken.TheVariants as takens
use Rattle.run_law.specs.declared.steps.Act.TheVariants as acts
use Rattle.run_law.specs.declared.steps.Ripe.TheVariants as ripe

-- what it keeps of one more frame: nothing where it came by no channel
abbrev pub IsHeardSo : Summary → Option Channel → Pcf → Units → Bool → Summary → Type 0
IsHeardSo old None frame point within new = new ≡ old
IsHeardSo old (Some channel) frame point within new =
    Keeps old (record {
      channel = channel;
      frame = record { cycle = frame.cycle; members = frame.members; point = point };
      within = within;
    }) new

-- it has heard one more frame
pub record Hears (old : Switch) (channel : Option Channel) (frame : Pcf) (point : Units) (within : Bool)
    (new : Switch) : Type 0 where
  pub heard : (list : List Hearing) → Summarizes old.heard list
      → Summarizes new.heard (list ++ hearings channel frame.cycle frame.members point within)
  pub kept : IsHeardSo old.heard channel frame point within new.heard
  pub rest : new ≡ record old { heard = new.heard }

-- it has joined by the frame
pub record Joins (old : Switch) (moment : Moment) (frame : Pcf) (point : Units) (new : Switch) : Type 0 where
  pub site : new.site ≡ old.site
  pub sync : new.sync ≡ after old.sync (heard_frame frame point (Some (joined_by old.sync.plan frame point)))
  pub heard : new.heard ≡ silence
  pub intake : new.intake ≡ old.intake
  pub collector : new.collector ≡ fresh old.collector.ow old.collector.calc
  pub changed : new.changed.0 ≡ moment.reading.0 +ℤ new.sync.adjustment.0
  pub corrects : new.corrects_at ≡ correction_at old.site frame.cycle new.sync.adjustment.0 new.changed.0
  pub departures : new.departures ≡ record old.departures { next = None }

-- it has heard a frame so
abbrev pub HearsSo : Switch → Moment → Option Channel → Pcf → Units → Switch → Ripe → Type 0
HearsSo old moment channel frame point new ripe.Within = Hears old channel frame point true new
HearsSo old moment channel frame point new ripe.Outside = Hears old channel frame point false new
HearsSo old moment channel frame point new ripe.Integrates = Joins old moment frame point new
HearsSo old moment channel frame point new other = new ≡ old

-- what its clock showed when its adjustment changed last, where its correction point came to this at the local value
abbrev pub IsChangedSo : Units → ℤ → Verdict → Units → Type 0
IsChangedSo old value (Corrected by) new = new.0 ≡ value
IsChangedSo old value other new = new ≡ old

-- its collector then: a joiner's first correction, and a clique, end the collection
abbrev pub IsClearedSo : Bool → Collecting → Verdict → Collecting → Type 0
IsClearedSo was_synchronised old (Corrected by) new = new ≡ if was_synchronised then old else fresh old.ow old.calc
IsClearedSo was_synchronised old SyncClique new = new ≡ fresh old.ow old.calc
IsClearedSo was_synchronised old AsyncClique new = new ≡ fresh old.ow old.calc
IsClearedSo was_synchronised old Cleared new = new ≡ old

-- it has come to its correction point, which came to this
pub record Corrects (old : Switch) (moment : Moment) (verdict : Verdict) (new : Switch) : Type 0 where
  pub site : new.site ≡ old.site
  pub is : HasVerdict old.sync old.heard verdict
  pub sync : new.sync ≡ after old.sync (reached_point old.heard verdict)
  pub small : IfCorrected verdict (λ by. IsSmall new.sync.adjustment.0)
  pub heard : new.heard ≡ silence
  pub changed : IsChangedSo old.changed (moment.reading.0 +ℤ new.sync.adjustment.0) verdict new.changed
  pub intake : new.intake ≡ old.intake
  pub collector : IsClearedSo (is_synchronised old.sync.state) old.collector verdict new.collector
  pub corrects : new.corrects_at
      ≡ option_and_then (λ cycle. correction_at old.site cycle new.sync.adjustment.0 new.changed.0)
      (next_point new.sync)
  pub departures : IsAwaitedSo old.departures new.changed.0 new.sync.adjustment.0 verdict new.departures

-- it has done this dispatch
pub record Dispatches (old : Switch) (next : Dispatch) (new : Switch) : Type 0 where
  pub rest : new ≡ record old { departures = new.departures }
  pub changes : Changes (closed next.place) old.departures new.departures
  pub knows : KnowsNext old.sync.adjustment.0 new.departures

-- it has done the dispatch that came next, if one did
abbrev pub DispatchesSo : Switch → Option Dispatch → Act → Switch → Type 0
DispatchesSo old None act new = Unit {0}
DispatchesSo old (Some next) act new = (act ≡ acts.Dispatch next.row next.cycle) × Dispatches old next new

-- it has collected the frame, and this became of it
pub record CollectsSo (old : Switch) (frame : Pcf) (point : Units) (new : Switch) (is : Ripe) : Type 0 where
  pub rest : new ≡ record old { collector = new.collector }
  pub taken : Taken
  pub becomes : is ≡ ripe_by_role taken
  pub role : (points : List Point) (emitted : List Compressed) (clusters : List Cluster)
      → StandsForPoints old.collector points emitted
      → AreClusters old.collector.ow points clusters
      → taken ≡ role clusters (point_at point.0 (master_of frame.members.0) frame.cycle)
  pub stands : (points : List Point) (emitted : List Compressed) → StandsForPoints old.collector points emitted
      → StandsForPoints new.collector (points ++ point_at point.0 (master_of frame.members.0) frame.cycle ∷ []) emitted
  pub opened : taken ≡ takens.Opened
      → new.collector ≡ with_opened old.collector (point_at point.0 (master_of frame.members.0) frame.cycle)
  pub joined : taken ≡ takens.Joined
      → new.collector ≡ with_joined old.collector (point_at point.0 (master_of frame.members.0) frame.cycle)
  pub ignored : (taken ≡ takens.Repeat) ⊎ (taken ≡ takens.OtherCycle) → new.collector ≡ old.collector
