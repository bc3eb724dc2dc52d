-- The deliveries of a flow.
use Rattle.std.specs.Prelude.{if◌then◌else◌, ◌≡◌, ◌<◌, ℕ, ◌+◌, Bool, true, false, ◌&&◌, ◌==◌, List, filter}
use Rattle.std.specs.Prelude.{filter_map, length, Option, Some, None}
use Rattle.lens_flows.specs.counts.Nearest.{IsInsideSome, TellsLeast, nearer, place_at}
use Rattle.lens_flows.specs.declared.counts.deliveries.{Deliveries.Deliveries, Delivery.Delivery}
use Rattle.lens_flows.specs.declared.{counts.nearest.Nearest.Nearest, judge.{course.Course.Course, flow.Flow.Flow}}
use Rattle.{lens_flows.specs.judge.Courses.{IsCourse, scenario_of}, net_plan.specs.declared.network.Network.Network}
use Rattle.{net_plan.specs.declared.event.Event.Event, run_law.specs.records.{Happenings.Happening, Order.IsIn}}
use Rattle.tte_units.specs.declared.frames.channel.Channel.{Channel, TheVariants.{A, B}}
use Rattle.{run_law.specs.declared.note.Note.Note, tte_units.specs.Amount.amount}
use Rattle.run_law.specs.{declared.note.NoteBody.NoteBody, scenario.{Devices.channel_of_link, Scenarios.Scenario}}
use Rattle.audit_sweep.specs.declared.records.kept.{Kept.Kept, KeptRecord.KeptRecord}
use Rattle.audit_sweep.specs.declared.records.kept.Kept.TheVariants as kepts
use Rattle.run_law.specs.declared.note.NoteBody.TheVariants as notes

-- what a record at the time says of a delivery, if it says that a frame is delivered
abbrev pub delivery_by : ℕ → NoteBody → Option Delivery
delivery_by time (notes.Delivered device link cause vl cycle) =
    Some (record { time = time; device = device; link = link; vl = vl })
delivery_by time body = None

-- the same, by what an audit keeps of the record
abbrev pub delivered_by : ℕ → Kept → Option Delivery
delivered_by time (kepts.Delivered device link vl) =
    Some (record { time = time; device = device; link = link; vl = vl })
delivered_by time kept = None

abbrev pub delivery_kept : KeptRecord → Option Delivery
delivery_kept r = delivered_by r.time r.kept

-- the deliveries that the records tell
abbrev pub deliveries_of : List Note → List Delivery
deliveries_of ns = filter_map (λ n. delivery_by (amount n.time) n.body) ns

-- is the delivery one of the flow?
abbrev pub is_of : Flow → Delivery → Bool
is_of flow d = d.device.0 == flow.device.0 && d.vl.0 == flow.vl.0

-- is it the channel?
abbrev pub is_channel : Channel → Option Channel → Bool
is_channel A (Some A) = true
is_channel B (Some B) = true
is_channel wanted other = false

-- did it come on the channel?
abbrev pub is_on : Network → Channel → Delivery → Bool
is_on network channel d = is_channel channel (channel_of_link network d.link)

-- how many of the deliveries are of the flow, and came on the channel
abbrev pub delivered : Flow → List Delivery → ℕ
delivered flow ds = length (filter (λ d. is_of flow d) ds)

abbrev pub delivered_on : Network → Channel → Flow → List Delivery → ℕ
delivered_on network channel flow ds = length (filter (λ d. is_of flow d && is_on network channel d) ds)

-- one of these deliveries is of the flow, and came so far behind the beginning of the window of its row, and so far
-- before its end, by the receiver's clock
pub record IsDeliveredWithin (s : Scenario) (hs : List Happening) (ds : List Delivery) (flow : Flow) (early late : ℕ)
    : Type 0 where
  pub delivery : Delivery
  pub there : IsIn delivery ds
  pub of_flow : is_of flow delivery ≡ true
  pub inside : IsInsideSome s.network flow delivery.link (place_at s hs flow.device delivery.time) early late

-- one if it is so
abbrev pub one_if : Bool → ℕ
one_if b = if b then 1 else 0

-- one delivery more, on these channels and so near
abbrev pub delivered_more : Deliveries → Bool → Bool → Option Nearest → Deliveries
delivered_more ds on_a on_b found = record {
  total = ds.total + 1;
  by_a = ds.by_a + one_if on_a;
  by_b = ds.by_b + one_if on_b;
  nearest = nearer ds.nearest found;
}

-- what is counted is less than this
pub record IsBelow (limit : ℕ) (counted : Deliveries) : Type 0 where
  pub total : counted.total < limit
  pub by_a : counted.by_a < limit
  pub by_b : counted.by_b < limit

-- of a run: the place of its receiver's clock at the delivery is found so near in the windows of its rows
abbrev pub IsFoundAt : Course → Flow → Delivery → Option Nearest → Type 0
IsFoundAt course flow d found =
    (befallen : List Event) (hs : List Happening) → IsCourse befallen hs course
    → TellsLeast
    (IsInsideSome course.network.now flow d.link (place_at (scenario_of course befallen) hs flow.device d.time)) found

-- one delivery more was counted
abbrev pub IsOneMore : Course → Flow → Delivery → Deliveries → Deliveries → Type 0
IsOneMore course flow d old new =
    (found : Option Nearest) × IsFoundAt course flow d found
    × (new ≡ delivered_more old (is_on course.network.now A d) (is_on course.network.now B d) found)

-- this is counted of the deliveries of the flow
pub record AreDeliveries (s : Scenario) (hs : List Happening) (ds : List Delivery) (flow : Flow) (counted : Deliveries)
    : Type 0 where
  pub total : counted.total ≡ delivered flow ds
  pub by_a : counted.by_a ≡ delivered_on s.network A flow ds
  pub by_b : counted.by_b ≡ delivered_on s.network B flow ds
  pub nearest : TellsLeast (IsDeliveredWithin s hs ds flow) counted.nearest
