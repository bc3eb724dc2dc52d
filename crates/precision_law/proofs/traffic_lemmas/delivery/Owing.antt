-- What is due by events alone is owed.
use Rattle.net_plan.proofs.Trees.{rules_give_trees}
use Rattle.precision_law.proofs.{law.Precision.{view_at, view_of}}
use Rattle.precision_law.proofs.traffic_lemmas.{delivery.Forwarding.Brings}
use Rattle.precision_law.proofs.traffic_lemmas.{ports.Dispatched.{cycle_is, offset_in_schedule}}
use Rattle.run_law.proofs.scenario.Devices.{end_test}
use Rattle.precision_law.proofs.traffic_lemmas.{spans.Spans.{values_are_reached, values_are_reached_in_spans}}
use Rattle.precision_law.proofs.traffic_lemmas.delivery.Delivering.{IsFrontOf, from_before, last_in_schedule}
use Rattle.precision_law.proofs.traffic_lemmas.delivery.Delivering.{reaches_in, row_on, timed_behind}
use Rattle.schedule_tables.proofs.Margins.{same_or_other, shape_rules}
use Rattle.net_plan.specs.{Paths.IsUplink, declared.{ids.{DeviceId.DeviceId, VlId.VlId}, network.Network.Network}}
use Rattle.precision_law.proofs.traffic_lemmas.faults.Channels.{source_on, switch_channel, switch_no_end, target_on}
use Rattle.precision_law.proofs.traffic_lemmas.ports.Cycles.{same_hull, same_next}
use Rattle.precision_law.proofs.traffic_lemmas.schedule.Rows.{rows_are_in_time, rows_go_once}
use Rattle.precision_law.proofs.traffic_lemmas.Words.{◌*◌, ◌+ℤ◌, ◌+◌, ◌<◌, ◌∙◌, ◌≡◌, ◌≤ℤ◌, ◌≤◌, Entry, Happening, Hull}
use Rattle.precision_law.proofs.traffic_lemmas.Words.{IsEntry, IsGood, Sizes, IsInSpan, IsOnChannel, IsSwitchOf}
use Rattle.precision_law.proofs.traffic_lemmas.Words.{IsTimedAt, IsView, Joints, List, Reaches, Stands}
use Rattle.precision_law.proofs.traffic_lemmas.Words.{View, VirtualLink, amount, ap, arith, before_narrow, both_ways}
use Rattle.precision_law.proofs.traffic_lemmas.Words.{closed, false, inl, inr, ints, is_end, link_at, pos}
use Rattle.precision_law.proofs.traffic_lemmas.Words.{reaches_by, refl, room, same_some, slice_get, source_by}
use Rattle.precision_law.proofs.traffic_lemmas.Words.{source_of, state_after, subst, suc, sym, true, zero, ℕ}
use Rattle.precision_law.specs.{Hulls.IsNarrow, Progress.EndSystemsComeIn, Sizes.HaveRoom}
use Rattle.precision_law.specs.traffic.{Owing.{DueFramesAreOwed, IsDueAt}}
use Rattle.run_law.specs.{device.States.is_off, law.Safety.{IsInStep, IsOwed, ReachesPlace}}
use Rattle.run_law.specs.records.Happenings.{happenings, up_to}
use Rattle.schedule_tables.specs.{Windows.window_end}
use Rattle.schedule_tables.specs.declared.rule.Rule.TheVariants.{Forwarding, Senders, Sources}
use Rattle.net_plan.specs.declared.tables.Way.{TheVariants.{Down, Up}, Way}
use Rattle.tte_units.specs.declared.frames.channel.Channel.{Channel}

-- ---- the sender's row on a channel

-- a row of the virtual link that leaves its sender on the channel, no later than the offset
record IsFirstRow (network : Network) (vl : VlId) (channel : Channel) (offset : ℕ) : Type 0 where
  pub place : ℕ
  pub entry : Entry
  pub row : IsEntry network place entry
  pub own : entry.row.vl ≡ vl
  pub on : IsOnChannel network channel entry
  pub source : source_of entry ≡ entry.vl.sender
  pub early : amount entry.row.offset ≤ offset

-- each row of the channel has one
first_row : (bound : ℕ) {v : View} (vl : VlId) (channel : Channel) → IsView v → (place : ℕ) (entry : Entry)
    → IsEntry v.scenario.network place entry → entry.row.vl ≡ vl → IsOnChannel v.scenario.network channel entry
    → amount entry.row.offset < bound → IsFirstRow v.scenario.network vl channel (amount entry.row.offset)
first_row zero vl channel is place entry row own on below = absurd (omega arith)
first_row (suc bound) {v} vl channel is place entry row own on below =
    let device = source_of entry in
    elim (same_or_other device entry.vl.sender) [
      | inl sender ↦ record {
        place = place;
        entry = entry;
        row = row;
        own = own;
        on = on;
        source = sender;
        early = omega arith;
      }
      | inr other ↦ elim (is.lawful.rules Sources place entry row) [
        | inl sender ↦ absurd (other sender)
        | inr switch ↦
            let k = switch.1.0 in
            let enters = switch.1.2 in
            let entering = enters.entry in
            let of_channel = switch_channel device is.lawful.range switch.0 in
            let no_end = switch_no_end of_channel.0 device is.lawful.range of_channel.1 in
            let firm = source_on channel is.lawful.range is.lawful.rules row no_end on in
            let on_channel = target_on channel is.lawful.range is.lawful.rules enters.is
            (subst (IsSwitchOf v.scenario.network channel) (sym enters.target) firm) in
            let behind = (is.lawful.rules Forwarding place).from_switch k entering entry enters.is row
            (sym enters.same_vl) other enters.target in
            let times = rows_are_in_time v k entering is enters.is in
            let first = first_row bound vl channel is k entering enters.is (enters.same_vl ∙ own) on_channel
            (omega (arith, times.tolerates)) in
            record {
              place = first.place;
              entry = first.entry;
              row = first.row;
              own = first.own;
              on = first.on;
              source = first.source;
              early = omega (arith, first.early, times.tolerates);
            }
      ]
    ]

-- a row that leaves an end system goes by its uplink
by_uplink : {v : View} (channel : Channel) {place : ℕ} {entry : Entry} (device : DeviceId) → IsView v
    → IsEntry v.scenario.network place entry → IsOnChannel v.scenario.network channel entry
    → is_end v.scenario.network device ≡ true → source_of entry ≡ device
    → IsUplink v.scenario.network channel device entry.row.link
by_uplink {v} channel {entry} device is row on end source = by entry.row.way source
  where
    by : (way : Way) → source_by way entry.link ≡ device → IsUplink v.scenario.network channel device entry.row.link
    by Up e =
        closed (λ l. (l.child ≡ device) × IsSwitchOf v.scenario.network channel l.parent)
        (link_at v.scenario.network entry.row.link) entry.link
        row.link (e, on)
    by Down e =
        (let switch = subst (IsSwitchOf v.scenario.network channel) e on in
        absurd (both_ways _ (switch_no_end channel device is.lawful.range switch) end))

-- so an end system has one row of a virtual link on a channel
one_row : {v : View} (vl : VlId) (channel : Channel) (device : DeviceId) {place other : ℕ} {entry second : Entry}
    → IsView v → is_end v.scenario.network device ≡ true → IsEntry v.scenario.network place entry
    → IsEntry v.scenario.network other second → entry.row.vl ≡ vl → second.row.vl ≡ vl
    → IsOnChannel v.scenario.network channel entry → IsOnChannel v.scenario.network channel second
    → source_of entry ≡ device → source_of second ≡ device → entry ≡ second
one_row {v} vl channel device {place} {other} {entry} {second} is end row also own same on there source from =
    let n = v.scenario.network in
    let tree = rules_give_trees n (shape_rules n is.lawful.rules) in
    let link = tree.one_uplink channel device entry.row.link second.row.link
    (by_uplink channel device is row on end source) (by_uplink channel device is also there end from) in
    (rows_go_once n place other entry second is.lawful.rules row also (own ∙ sym same) link).1

-- the sender's rows leave before the last window into a device ends, with a precision to spare
leaves_early : {v : View} {hs : List Happening} {until : ℕ} {vl : VlId} {of_vl : VirtualLink} {cycle : ℕ}
    {device : DeviceId} → IsView v → (due : IsDueAt v.scenario hs until vl of_vl cycle device) {place : ℕ}
    {entry : Entry} → IsEntry v.scenario.network place entry → entry.row.vl ≡ vl → source_of entry ≡ of_vl.sender
    → amount entry.row.offset + v.sizes.precision ≤ due.last
leaves_early {v} {vl} {of_vl} is due {place} {entry} row own source =
    let n = v.scenario.network in
    let joint = is.lawful.rules Joints entry.row.link.0 entry.link row.link in
    let into = row_on joint.0 is due.end_system due.enters in
    let first = first_row (amount into.entry.row.offset + 1) vl joint.0 is into.place into.entry into.is into.same_vl
    into.on_channel (omega arith) in
    let vls = same_some (slice_get n.vl vl.0) first.entry.vl of_vl
    (rw first.own at first.row.vl) due.there in
    let from = first.source ∙ ap (λ x. x.sender) vls in
    let end = end_test n of_vl.sender (is.lawful.rules Senders vl.0 of_vl due.there) in
    let same = one_row vl joint.0 of_vl.sender is end row first.row own first.own joint.1 first.on source from in
    let offset : amount entry.row.offset ≡ amount first.entry.row.offset =
    ap (λ (e : Entry). amount e.row.offset) same in
    let times = rows_are_in_time v into.place into.entry is into.is in
    let ends = due.greatest.most (window_end n into.entry)
    (into.entry, record { place = into.place; is = into.is; of_vl = into.same_vl; enters = into.target }, refl) in
    omega (arith, first.early, times.tolerates)

-- ---- the law

-- a clock that reaches a place of the cycle in the view does so in the whole
reaches_out : {v : View} {hs : List Happening} {device : DeviceId} (cycle place : ℕ) {t : ℕ} → IsView v
    → IsFrontOf v hs → t ≤ v.until → Reaches v.scenario v.records device (pos (cycle * v.sizes.cycle + place)) t
    → ReachesPlace v.scenario hs device cycle place t
reaches_out {v} {hs} {device} cycle place {t} is front le reaches =
    reaches_by hs (sym (front.early t (omega arith)))
    (rw (cycle_is is) at reaches)

-- what comes in the span of a cycle comes behind what lies before the span
behind_by : {v : View} {n : ℕ} (from : ℕ) {t : ℕ} (before : Stands v n) (span : IsInSpan v n t) → from < before.next
    → from ≤ t
behind_by from before span lt = omega (arith, same_next span.block.before before, span.block.from)

-- and a value that lies a precision before the end of a window is reached before that end may be
reached_sooner : {s : Sizes} (hull own : Hull) (offset last at until : ℕ) → HaveRoom s → IsNarrow s hull → own ≡ hull
    → offset + s.precision ≤ last → (hull.least +ℤ pos last) ≤ℤ (pos until +ℤ pos s.reach)
    → pos at ≤ℤ ((own.greatest +ℤ pos offset) +ℤ pos s.reach) → at < until
reached_sooner hull own offset last at until space narrow same early low high =
    omega (
      arith,
      ints,
      ap (λ (w : Hull). w.greatest) same,
      space.eight_errors,
      space.errors.reach_is,
      space.errors.clock_is,
    )

-- in the view up to the end of the last window what is due is owed
owed_in_view : Brings → {v : View} {hs : List Happening} {until : ℕ} {vl : VlId} {of_vl : VirtualLink} {cycle : ℕ}
    {device : DeviceId} → IsView v → IsFrontOf v hs → (due : IsDueAt v.scenario hs until vl of_vl cycle device)
    → due.to ≡ v.until → ((x : DeviceId) (t : ℕ) → is_end v.scenario.network x ≡ true
    → is_off (state_after v.scenario (up_to due.on_at hs) x) ≡ false → IsGood v x → due.from ≤ t → t ≤ v.until
    → IsInStep v.scenario hs x t) → IsOwed v.scenario hs until vl of_vl cycle device
owed_in_view brings {v} {hs} {vl} {of_vl} {cycle} {device} is front due end steps =
    let n = v.scenario.network in
    let sender = of_vl.sender in
    let lt : due.from < v.until = omega (arith, due.in_order) in
    let fine : IsGood v device = rw end at due.receiver in
    let fine_sender : IsGood v sender = rw end at due.sender in
    let receiver : (t : ℕ) → due.from ≤ t → t ≤ v.until → IsInStep v.scenario hs device t =
    λ t from le. steps device t (end_test n device due.end_system) due.device_on fine from le in
    let sends : (t : ℕ) → due.from ≤ t → t ≤ v.until → IsInStep v.scenario hs sender t =
    λ t from le. steps sender t (end_test n sender (is.lawful.rules Senders vl.0 of_vl due.there)) due.sender_on
    fine_sender from le in
    let timed : (t : ℕ) → due.from < t → t ≤ v.until → IsTimedAt v device t =
    λ t less le. timed_behind device due.from t front fine receiver less le in
    let within = last_in_schedule is due.enters due.greatest in
    let ends = rw end at due.ends in
    let reached = values_are_reached_in_spans brings.blocks v cycle due.last v.until device is
    (timed v.until lt (omega arith)) (omega arith) due.occurs.begun
    within (reaches_in cycle due.last is front (omega arith) ends) in
    let begins = reaches_in cycle 0 is front (omega arith) due.begins in
    let block = reached.span.block in
    let before = block.before in
    let behind = from_before brings is reached.span due.occurs.begun lt begins
    (timed (due.from + 1) (omega arith) (omega arith)) in
    let begun = timed_behind sender due.from before.next front fine_sender sends behind block.from in
    record {
      there = due.there;
      occurs = due.occurs;
      end_system = due.end_system;
      into = due.into;
      enters = due.enters;
      last = due.last;
      greatest = due.greatest;
      from = due.from;
      to = due.to;
      begins = due.begins;
      ends = due.ends;
      in_order = due.in_order;
      in_run = due.in_run;
      receiver = λ t from le. receiver t from (omega arith);
      rows = λ place entry row own source.
          let early = leaves_early is due row own source in
          let narrow = before_narrow before in
          let space = room is in
          let offset = amount entry.row.offset in
          let last : ((before.hull.greatest +ℤ pos offset) +ℤ pos v.sizes.reach) ≤ℤ pos v.until =
          omega (arith, ints, reached.not_early, space.eight_errors) in
          let r = values_are_reached brings.blocks brings.not_on v cycle offset before sender is begun due.occurs.begun
          (offset_in_schedule is row) last in
          let less = reached_sooner before.hull r.in_span.span.block.before.hull offset due.last r.at v.until
          space narrow
          (same_hull v cycle r.in_span.span.block.before before) early reached.not_early r.in_span.not_late in
          let later = behind_by due.from before r.in_span.span behind in (
            r.at,
            omega arith,
            reaches_out cycle offset is front (omega arith) r.reached,
            (sends r.at later (omega arith)).synchronised,
          );
      sender = due.sender;
    }

pub due_frames_are_owed : Brings → EndSystemsComeIn → DueFramesAreOwed
due_frames_are_owed brings come s mark ns until up vl of_vl cycle device due =
    let hs = happenings s.network ns in
    let channel = brings.channels.sound s due.to up.lawful in
    let at = view_at due.to channel.0 up due.in_run channel.1 in
    let v = view_of s hs due.to channel.0 at in
    let front : IsFrontOf v hs = record {
      early = λ t le. sym (at.cut.early t le);
      inside = at.cut.inside;
      founded = up.run.founded;
    } in
    owed_in_view brings at.is front due refl (λ x t end on good from le.
    come s mark ns until up x due.on_at t end on (omega (arith, due.long)) (omega (arith, due.in_run))
    (brings.channels.correct v x t good le))
