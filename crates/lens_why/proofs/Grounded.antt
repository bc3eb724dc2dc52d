-- The ground of a record: what it names and is judged by, and the row by which its frame comes.
use Rattle.std.proofs.{lemmas.Int.ints}
use Rattle.std.proofs.Common
use Common.{if◌then◌else◌, ◌*◌, ◌+ℤ◌, ◌+◌, ◌-ℤ◌, ◌∙◌, ◌∷◌, ◌≡◌, Bool, List, None, Option, Some, [], ap, arith, false}
use Common.{filter, inl, inr, length, pos, refl, subst, sym, true, ℕ, ℤ}
use Rattle.std.specs.{List.last_or, Option.option_map_or}
use Rattle.std.specs.{Prelude.{◌++◌, nat_le, option_and_then, option_map, slice_get}}
use Rattle.audit_devices.specs.{Effects.carried_by, Keeping.records_before, declared.effect.Carried.Carried}
use Rattle.audit_sweep.{proofs.unpaid_lemmas.emissions_lemmas.Owing.last_in}
use Rattle.audit_sweep.{specs.{Indexing.{IsSomeIndex, permanence_place}, declared.index.Permanence.Permanence}}
use Rattle.device_rules.specs.{Headings.heading_of, declared.heading.Heading.Heading}
use Rattle.lens_why.{proofs.{Cutting.{IsCutBy, cut_or_whole, some_number}, LastRecords.parted_there}}
use Rattle.lens_why.specs.{Collections.collected_ground}
use Rattle.lens_why.specs.{Laws.{IsEarlier, NamesEarlier, best_number, named_in, told_number}}
use Rattle.lens_why.specs.{Records.{ComesFrom, IsCorrection, IsPermanence, IsState, IsThere}}
use Rattle.lens_why.specs.{Seeking.{cut_by, is_sought, last_sought}}
use Rattle.lens_why.specs.Corrections
use Corrections.{channel_ground, clique_ground, corrected_ground, heard_at_point, is_clique, said_by, told_by, told_on}
use Corrections.{value_of}
use Rattle.lens_why.specs.Grounds
use Grounds.{beside_ground, dispatch_ground, dropped_ground, entry_given, ground_by, ground_of, heard_ground}
use Grounds.{hearing_adjustment, held_ground, is_by_schedule, is_collected, length_ground, permanent_ground}
use Grounds.{places_ground, position_at, repeat_ground, scheduled_ground, unknown_ground, window_ground}
use Rattle.lens_why.specs.declared.{ground.Ground.{Ground, TheVariants.{Gate, Heard, Unknown, Untold}}}
use Rattle.lens_why.specs.declared.seeking.{Coming.Coming}
use Rattle.lens_why.specs.declared.seeking.{Sought.{Sought, TheVariants.{Frame, Opening, Taking, Turning}}}
use Rattle.net_plan.specs.{Places.row_of}
use Rattle.net_plan.specs.{declared.{ids.{DeviceId.DeviceId, LinkId.LinkId}, network.Network.Network, tables.Way.Way}}
use Rattle.run_law.proofs.{runs.Places.{in_parts, in_right}, timed.Rows.entry_is}
use Rattle.run_law.proofs.law.FirstDeliveries
use FirstDeliveries.{by_number, front_founded, in_filter, number_is, numbered_front, numbered_within}
use Rattle.run_law.specs.{runs.{DueRecords.IsDue, Runs.IsFounded}}
use Rattle.run_law.specs.{scenario.{Devices.is_relay, Scenarios.Scenario, Ways.way_from}}
use Rattle.run_law.specs.{timed.Arrivals.{entry_entering, entry_of}}
use Rattle.run_law.specs.declared.{judgement.{Judgement.Judgement, Reason.Reason, Why.Why}}
use Rattle.run_law.specs.declared.{note.{Note.Note, NoteBody.NoteBody}}
use Rattle.run_law.specs.device.{Standpoints.{clock_of, offset_in_cycle, standpoint}}
use Rattle.run_law.specs.device.{States.{adjustment_at_hearing, adjustment_before, cycle_in}}
use Rattle.run_law.specs.records.{Happenings.{Happening, happenings, numbered, time_of}, Order.IsIn}
use Rattle.run_law.specs.records.{Ranks.{members_in, place_at, place_of}}
use Rattle.schedule_tables.specs.{Entries.IsEntry, Windows.window_of, declared.entry.Entry.Entry}
use Rattle.sync_state.specs.{declared.{membership.frame.HeardFrame.HeardFrame, state.State.State}}
use Rattle.sync_state.specs.{membership.{Members.count_of, Summary.{Summary, best_on}}}
use Rattle.tte_audit.specs.Report.{events_of, scenario_of}
use Rattle.tte_reports.specs.{Commands.IsRead, Reports.IsReportOf, declared.reading.AuditedReport.AuditedReport}
use Rattle.tte_units.specs.{Amount.amount}
use Rattle.tte_units.specs.{declared.{frames.channel.Channel.{Channel, TheVariants.{A, B}}, units.Units.Units}}
use Rattle.run_law.specs.declared.judgement.Reason.TheVariants as reasons
use Rattle.run_law.specs.declared.note.NoteBody.TheVariants as notes

-- ---- the ground of a record, by what the record says

-- what the records of the report show is what some records show
pub index_there : {network : Network} {report : AuditedReport} → IsRead network report
    → IsSomeIndex network report.index
index_there {network} read =
    let r = read.some in (events_of r.0, happenings network r.0, read.index r.0 r.1 r.2)

module _ (s : Scenario) (hs : List Happening) (h : Happening) (note : Note) (giving : Option Note) (from : ComesFrom s hs h note giving) where
  -- what is the ground by the record's body is its ground
  pub ground_as : (body : NoteBody) → note.body ≡ body → (result : Ground) → result ≡ ground_by s hs h body → result ≡ ground_of s hs h
  ground_as body is result said = said ∙ ap (ground_by s hs h) (sym is ∙ ap (λ (n : Note). n.body) from.is)

  pub own_number : h.note.number ≡ note.number
  own_number = ap (λ (n : Note). n.number) (sym from.is)

  pub there_so : numbered hs note.number ≡ Some h
  there_so =
      let own : h.note.number ≡ from.number = number_is s hs from.number h from.founded from.there in
      subst (λ n. numbered hs n ≡ Some h) (sym own ∙ own_number) from.there

  -- where the frame came that the record tells of
  pub position_so : (device : DeviceId) (at : ℤ) → at ≡ position_at s hs device (amount note.time) → at ≡ position_at s hs device (time_of h)
  position_so device at is = is ∙ ap (λ (n : Note). position_at s hs device (amount n.time)) from.is

  -- the record is that of this correction
  pub correction_so : (device : DeviceId) (cycle : ℕ) (by adjustment : Units) → note.body ≡ notes.Corrected device cycle by adjustment
      → IsCorrection h note.time device cycle
  correction_so device cycle by adjustment is = record {
    by = by;
    adjustment = adjustment;
    at = sym (ap (λ (n : Note). n.time) from.is);
    is = sym (ap (λ (n : Note). n.body) from.is) ∙ is;
  }

  -- the record is that of this state
  pub state_so : (device : DeviceId) (state : State) (cause : ℕ) (why : Why) → note.body ≡ notes.State device state cause why → IsState h note.time device why
  state_so device state cause why is = record {
    state = state;
    cause = cause;
    at = sym (ap (λ (n : Note). n.time) from.is);
    is = sym (ap (λ (n : Note). n.body) from.is) ∙ is;
  }

-- the record of a report is there by its number
pub is_there : (network : Network) (ns : List Note) {h : Happening} {note : Note} {giving : Option Note}
    → ComesFrom (scenario_of network ns) (happenings network ns) h note giving → IsThere network ns note.number h
is_there network ns {h} {note} {giving} from =
    let s = scenario_of network ns in
    record { there = there_so s (happenings network ns) h note giving from; own = own_number s (happenings network ns) h note giving from }

-- ---- what the frame of a permanence is judged by

-- the same numbers make the same ground
pub heard_made : (point : Units) (a b c d e f : ℤ) (p q : ℕ) → a ≡ b → c ≡ d → e ≡ f → p ≡ q → Heard point a c e p ≡ Heard point b d f q
heard_made point a b c d e f p q first second third last =
    ap (λ (z : ℤ). Heard point z c e p) first ∙ ap (λ (z : ℤ). Heard point b z e p) second ∙ ap (λ (z : ℤ). Heard point b d z p) third
    ∙ ap (λ (n : ℕ). Heard point b d f n) last

-- the numbers that are told are those of the ground
pub heard_is : (point : Units) (adjustment expected joined sum off : ℤ) (precision : ℕ) → joined ≡ (expected -ℤ point.0) → sum ≡ (joined +ℤ point.0)
    → off ≡ (adjustment -ℤ joined) → Heard point adjustment sum off precision ≡ Heard point adjustment expected ((point.0 +ℤ adjustment) -ℤ expected) precision
heard_is point adjustment expected joined sum off precision a b c =
    let first : sum ≡ expected = omega (arith, ints, a, b) in
    let second : off ≡ ((point.0 +ℤ adjustment) -ℤ expected) = omega (arith, ints, a, c) in
    ap (λ (e : ℤ). Heard point adjustment e off precision) first ∙ ap (λ (o : ℤ). Heard point adjustment expected o precision) second

-- the place of a permanence is that of its record
place_is : {h : Happening} {time : Units} {frame : Permanence} {verdict : Judgement} (n : ℕ)
    → IsPermanence h time frame verdict → n ≡ members_in h → permanence_place (amount time) n frame ≡ place_of h
place_is {h} {time} {frame} n p same =
    ap (λ k. permanence_place (amount time) k frame) same
    ∙ sym (ap (λ u. place_at (amount u) (members_in h) h.note.body) p.at
    ∙ ap (λ b. place_at (amount time) (members_in h) b) p.is)

module _ (s : Scenario) (hs : List Happening) (h : Happening) (time : Units) (frame : Permanence)
    (verdict : Judgement) where
  -- the adjustment before that place is the one of the hearing
  adjustment_is : (n t : ℕ) (adjustment : ℤ) → IsPermanence h time frame verdict → n ≡ members_in h → t ≡ amount time
      → adjustment ≡ (adjustment_at_hearing s (records_before (permanence_place t n frame) hs) frame.device t).0
      → adjustment ≡ hearing_adjustment s hs frame.device h
  adjustment_is n t adjustment p same at is =
      is
      ∙ ap (λ u. (adjustment_at_hearing s (records_before (permanence_place u n frame) hs) frame.device u).0) at
      ∙ ap (λ q. (adjustment_at_hearing s (records_before q hs) frame.device (amount time)).0)
      (place_is n p same)
      ∙ ap (λ u. (adjustment_at_hearing s (records_before (place_of h) hs) frame.device (amount u)).0)
      (sym p.at)

  -- so what was told of the permanence is its ground
  pub scheduled_is : (carried : Carried) (t : ℕ) (adjustment : ℤ) (result : Ground)
      → IsPermanence h time frame verdict → carried ≡ carried_by h → t ≡ amount time → adjustment
      ≡ (adjustment_at_hearing s (records_before (permanence_place t carried.members.0 frame) hs) frame.device t).0
      → result ≡ heard_ground s.network frame.device adjustment carried.cycle frame.point
      → result ≡ scheduled_ground s hs frame.device frame.point h
  scheduled_is carried t adjustment result p said at is told =
      let cycle : carried.cycle ≡ cycle_in h = ap (λ (c : Carried). c.cycle) said in
      let members : carried.members.0 ≡ members_in h = ap (λ (c : Carried). c.members.0) said in
      let adjusted = adjustment_is carried.members.0 t adjustment p members at is in
      told
      ∙ ap (λ a. heard_ground s.network frame.device a carried.cycle frame.point) adjusted
      ∙ ap (λ c. heard_ground s.network frame.device (hearing_adjustment s hs frame.device h) c frame.point) cycle

module _ (s : Scenario) (hs : List Happening) (device : DeviceId) (point : Units) (verdict : Judgement)
    (h : Happening) where
  -- where it is judged by the schedule
  pub permanent_scheduled : is_by_schedule verdict ≡ true
      → scheduled_ground s hs device point h ≡ permanent_ground s hs device point verdict h
  permanent_scheduled scheduled =
      sym (ap (λ (b : Bool). if b then scheduled_ground s hs device point h
      else (if is_collected verdict then collected_ground s.network hs device h else Untold))
      scheduled)

  -- where it is judged by what was collected
  pub permanent_collected : is_by_schedule verdict ≡ false → is_collected verdict ≡ true
      → collected_ground s.network hs device h ≡ permanent_ground s hs device point verdict h
  permanent_collected unscheduled collected =
      sym (ap (λ (b : Bool). if b then scheduled_ground s hs device point h
      else (if is_collected verdict then collected_ground s.network hs device h else Untold))
      unscheduled
      ∙ ap (λ (b : Bool). if b then collected_ground s.network hs device h else Untold) collected)

  -- and where it is judged otherwise
  pub permanent_untold : is_by_schedule verdict ≡ false → is_collected verdict ≡ false
      → Untold ≡ permanent_ground s hs device point verdict h
  permanent_untold unscheduled uncollected =
      sym (ap (λ (b : Bool). if b then scheduled_ground s hs device point h
      else (if is_collected verdict then collected_ground s.network hs device h else Untold))
      unscheduled
      ∙ ap (λ (b : Bool). if b then collected_ground s.network hs device h else Untold) uncollected)

-- and the record is that of the permanence
pub permanence_so : {s : Scenario} {hs : List Happening} {h : Happening} {note : Note} {giving : Option Note}
    (frame : Permanence) (verdict : Judgement) → ComesFrom s hs h note giving
    → note.body ≡ notes.Permanent frame.device frame.link frame.cause frame.point verdict
    → IsPermanence h note.time frame verdict
permanence_so frame verdict from is =
    record { at = sym (ap (λ (n : Note). n.time) from.is); is = sym (ap (λ (n : Note). n.body) from.is) ∙ is }

-- ---- the records that a ground names stand earlier in the report

module _ (network : Network) (octets : List ℕ) (ns : List Note) (end : Units) (of : IsReportOf network octets ns end) (number : ℕ) (h : Happening)
    (there : numbered (happenings network ns) number ≡ Some h) where
  abbrev own : Scenario
  own = scenario_of network ns

  abbrev all : List Happening
  all = happenings network ns

  -- what is found among the records before this one is none, or stands earlier
  in_front : (sought : Sought) (before later : List Happening) → all ≡ before ++ h ∷ later → IsEarlier all h (last_sought network sought before)
  in_front sought before later parts = by (last_or None (filter test before)) refl
    where
      test : Happening → Bool
      test g = is_sought network sought g g.note.body

      by : (o : Option Happening) → last_or None (filter test before) ≡ o → IsEarlier all h (last_sought network sought before)
      by None e = inl (ap (λ (o : Option Happening). option_map_or (λ (g : Happening). g.note.number) o 0) e)
      by (Some g) e =
          let is : last_sought network sought before ≡ g.note.number = ap (λ (o : Option Happening). option_map_or (λ (x : Happening). x.note.number) o 0) e in
          let due = (of.run.founded before later h parts).1 in
          let founded = front_founded place_of (IsDue own) before (h ∷ later) (subst (IsFounded place_of (IsDue own)) parts of.run.founded) in
          let found = by_number own before g founded (in_filter test before g (last_in (filter test before) g e)) in
          let whole : numbered all g.note.number ≡ Some g = subst (λ hs. numbered hs g.note.number ≡ Some g) (sym parts)
          (numbered_front before (h ∷ later) g.note.number g found) in
          let within = numbered_within before g.note.number g found in
          inr (
            g,
            subst (λ n. numbered all n ≡ Some g) (sym is) whole,
            omega (arith, is, within, due.number),
          )

  pub earlier_by : (sought : Sought) → IsEarlier all h (last_sought network sought (records_before (place_of h) all))
  earlier_by sought =
      let p = parted_there of number h there in
      subst (λ hs. IsEarlier all h (last_sought network sought hs)) (sym p.are) (in_front sought p.before p.later p.parts)

  -- the one that cut a way is none, or stands earlier
  pub cut_earlier : (link : LinkId) (way : Way) → IsEarlier all h (cut_by link way (records_before (place_of h) all))
  cut_earlier link way =
      let p = parted_there of number h there in
      subst (λ hs. IsEarlier all h (cut_by link way hs)) (sym p.are)
      (elim (cut_or_whole link way p.before (some_number of number h there)) [
        | inl whole ↦ inl whole.0
        | inr cut ↦ by p.before p.later p.parts (cut_by link way p.before) cut.0
      ])
    where
      by : (before later : List Happening) → all ≡ before ++ h ∷ later → (since : ℕ) → IsCutBy link way before since → IsEarlier all h since
      by before later parts since cut =
          let g = cut.cutting in
          let i : IsIn g before = subst (IsIn g) (sym cut.parts) (in_right g cut.front (g ∷ cut.between) (inl refl)) in
          let due = (of.run.founded before later h parts).1 in
          let founded = front_founded place_of (IsDue own) before (h ∷ later) (subst (IsFounded place_of (IsDue own)) parts of.run.founded) in
          let found = by_number own before g founded i in
          let whole : numbered all g.note.number ≡ Some g = subst (λ hs. numbered hs g.note.number ≡ Some g) (sym parts)
          (numbered_front before (h ∷ later) g.note.number g found) in
          let within = numbered_within before g.note.number g found in
          let is = cut.number in
          inr (g, subst (λ n. numbered all n ≡ Some g) (sym is) whole, omega (arith, is, within, due.number))

  -- the records that it names stand earlier
  abbrev Names : Ground → Type 0
  Names said = (n : ℕ) → IsIn n (named_in said) → IsEarlier all h n

  one : (sought : Sought) (n : ℕ) → IsIn n (last_sought network sought (records_before (place_of h) all) ∷ []) → IsEarlier all h n
  one sought n (inl same) = subst (IsEarlier all h) (sym same) (earlier_by sought)
  one sought n (inr none) = absurd none

  -- ---- grounds that name none

  of_held : (device : DeviceId) (link : LinkId) (t : ℕ) (o : Option Happening) → Names (held_ground own device link t o)
  of_held device link t None n i = absurd i
  of_held device link t (Some g) n i = absurd i

  of_dispatch : (cycle : ℕ) (o : Option ℕ) → Names (dispatch_ground network cycle o)
  of_dispatch cycle None n i = absurd i
  of_dispatch cycle (Some place) n i = absurd i

  of_places : (at : ℤ) (o : Option Entry) → Names (option_map_or (λ entry. places_ground at (window_of network entry)) o Untold)
  of_places at None n i = absurd i
  of_places at (Some entry) n i = absurd i

  of_window : (at : ℤ) (o : Option ℕ) → Names (window_ground network at o)
  of_window at None n i = absurd i
  of_window at (Some place) n i = of_places at (option_and_then (entry_of network) (slice_get network.row place)) n i

  of_beside : (device : DeviceId) (t : ℕ) (o : Option Entry) → Names (beside_ground own all device t o)
  of_beside device t None n i = absurd i
  of_beside device t (Some entry) n i = absurd i

  of_length : (size : ℕ) (o : Option Entry) → Names (length_ground size o)
  of_length size None n i = absurd i
  of_length size (Some entry) n i = absurd i

  of_unknown : (o : Option Happening) → Names (unknown_ground network o)
  of_unknown None n i = absurd i
  of_unknown (Some g) n i = absurd i

  of_gate : (value : ℤ) (b : Bool) → Names (if b then Gate (offset_in_cycle network (value +ℤ pos (2 * amount network.precision)))
      (amount network.correction + 2 * amount network.precision) else Untold)
  of_gate value true n i = absurd i
  of_gate value false n i = absurd i

  of_permanent : (device : DeviceId) (point : Units) (b c : Bool)
      → Names (if b then scheduled_ground own all device point h else (if c then collected_ground network all device h else Untold))
  of_permanent device point true c n i = absurd i
  of_permanent device point false true n i = absurd i
  of_permanent device point false false n i = absurd i

  -- ---- grounds that name some

  of_repeat : (device : DeviceId) (link : LinkId) (cause : ℕ) (o : Option Entry) → Names (repeat_ground own all h device link cause o)
  of_repeat device link cause None n i = absurd i
  of_repeat device link cause (Some entry) n i =
      let coming : Coming = record { device = device; vl = entry.row.vl; time = time_of h; link = link; cause = cause } in
      one (Taking coming) n i

  of_enough : (sought : Sought) (frame : HeardFrame) (value : ℤ) (b : Bool) (n : ℕ) → IsIn n (best_number (if b then Some (record {
    number = last_sought network sought (records_before (place_of h) all);
    members = frame.members;
    value = value;
  }) else None)) → IsEarlier all h n
  of_enough sought frame value true n i = one sought n i
  of_enough sought frame value false n i = absurd i

  of_best : (device : DeviceId) (cycle : ℕ) (adjustment : ℤ) (channel : Channel) (o : Option HeardFrame) (n : ℕ)
      → IsIn n (best_number (option_and_then (said_by own all h device cycle adjustment channel) o)) → IsEarlier all h n
  of_best device cycle adjustment channel None n i = absurd i
  of_best device cycle adjustment channel (Some frame) n i =
      of_enough (Frame device channel frame) frame (value_of network device cycle adjustment frame.point)
      (nat_le network.sync_threshold (count_of frame.members)) n i

  of_channel : (device : DeviceId) (cycle : ℕ) (channel : Channel) (n : ℕ) → IsIn n (best_number (channel_ground own all h device cycle channel))
      → IsEarlier all h n
  of_channel device cycle channel n i =
      of_best device cycle (adjustment_before own all device (time_of h)).0 channel (best_on channel (heard_at_point own all device (time_of h))) n i

  of_corrected : (device : DeviceId) (cycle : ℕ) → Names (corrected_ground own all h device cycle)
  of_corrected device cycle n i =
      elim (in_parts n (best_number (channel_ground own all h device cycle A)) (best_number (channel_ground own all h device cycle B)) i) [
        | inl first ↦ of_channel device cycle A n first
        | inr second ↦ of_channel device cycle B n second
      ]

  of_told : (device : DeviceId) (channel : Channel) (o : Option HeardFrame) (n : ℕ)
      → IsIn n (told_number (option_map (told_by network all h device channel) o)) → IsEarlier all h n
  of_told device channel None n i = absurd i
  of_told device channel (Some frame) n i = one (Frame device channel frame) n i

  of_clique : (device : DeviceId) → Names (clique_ground own all h device)
  of_clique device n i =
      let heard : Summary = heard_at_point own all device (time_of h) in
      elim (in_parts n (told_number (told_on network all h device A heard)) (told_number (told_on network all h device B heard)) i) [
        | inl first ↦ of_told device A heard.best_a n first
        | inr second ↦ of_told device B heard.best_b n second
      ]

  of_state : (device : DeviceId) (b : Bool) → Names (if b then clique_ground own all h device else Untold)
  of_state device true n i = of_clique device n i
  of_state device false n i = absurd i

  of_dropped : (device : DeviceId) (link : LinkId) (cause : ℕ) (o : Option Happening) (reason : Reason)
      → Names (dropped_ground own all h device link cause o reason)
  of_dropped device link cause o reasons.Early n i = of_beside device (time_of h) (entry_given network device link o) n i
  of_dropped device link cause o reasons.Late n i = of_beside device (time_of h) (entry_given network device link o) n i
  of_dropped device link cause o reasons.Repeat n i = of_repeat device link cause (entry_given network device link o) n i
  of_dropped device link cause o reasons.Length n i = of_length (option_map_or (λ (g : Happening). length g.octets) o 0) (entry_given network device link o) n i
  of_dropped device link cause o reasons.Unknown n i = of_unknown o n i
  of_dropped device link cause o reasons.Unsynchronised n i = one (Turning device (time_of h)) n i
  of_dropped device link cause o reasons.Gate n i = of_gate (clock_of (standpoint own all device (time_of h))) (is_relay network device) n i
  of_dropped device link cause o other n i = absurd i

  pub names_by : (body : NoteBody) → Names (ground_by own all h body)
  names_by (notes.Event line what) n i = absurd i
  names_by (notes.Sent device cycle) n i = absurd i
  names_by (notes.Left device link cause clock) n i = of_held device link (time_of h) (numbered all cause) n i
  names_by (notes.Arrived device link cause clock) n i = absurd i
  names_by (notes.TtSent device link cause vl cycle) n i = of_dispatch cycle (row_of network vl link) n i
  names_by (notes.Accepted device link cause vl cycle) n i = of_window (position_at own all device (time_of h)) (row_of network vl link) n i
  names_by (notes.Delivered device link cause vl cycle) n i = of_window (position_at own all device (time_of h)) (row_of network vl link) n i
  names_by (notes.Dropped device link cause reason) n i = of_dropped device link cause (numbered all cause) reason n i
  names_by (notes.Compressed device opened at cycle members verdict) n i = one (Opening device opened) n i
  names_by (notes.Corrected device cycle by adjustment) n i = of_corrected device cycle n i
  names_by (notes.State device state cause why) n i = of_state device (is_clique why) n i
  names_by (notes.Lost device link cause) n (inl same) = subst (IsEarlier all h) (sym same) (cut_earlier link (way_from network device link))
  names_by (notes.Lost device link cause) n (inr none) = absurd none
  names_by (notes.Permanent device link cause point verdict) n i = of_permanent device point (is_by_schedule verdict) (is_collected verdict) n i
  names_by (notes.Clock device reading adjustment state) n i = absurd i

pub names_earlier : NamesEarlier
names_earlier network octets ns end number h n of there i = names_by network octets ns end of number h there h.note.body n i

-- ---- what the heading of a record's octets tells of the row by which its frame comes

-- the heading of a record's octets
abbrev headed : Option Happening → Option Heading
headed giving = option_map (λ h. heading_of h.octets) giving

module _ (network : Network) (device : DeviceId) (link : LinkId) where
  pub heading_some : (giving : Option Happening) (heading : Heading) → headed giving ≡ Some heading
      → entry_entering network device link heading.id ≡ entry_given network device link giving
  heading_some None heading e = absurd cc
  heading_some (Some g) heading e =
      let is : heading_of g.octets ≡ heading = cc in
      sym (ap (λ (h : Heading). entry_entering network device link h.id) is)

  pub heading_none : (giving : Option Happening) → headed giving ≡ None
      → None ≡ entry_given network device link giving
  heading_none None e = refl
  heading_none (Some g) e = absurd cc

pub size_some : (giving : Option Happening) (heading : Heading) → headed giving ≡ Some heading
    → heading.length ≡ option_map_or (λ (g : Happening). length g.octets) giving 0
size_some None heading e = absurd cc
size_some (Some g) heading e = let is : heading_of g.octets ≡ heading = cc in sym (ap (λ (h : Heading). h.length) is)

pub size_none : (giving : Option Happening) → headed giving ≡ None → 0 ≡ option_map_or (λ (g : Happening). length g.octets) giving 0
size_none None e = refl
size_none (Some g) e = absurd cc

pub unknown_some : (network : Network) (giving : Option Happening) (heading : Heading) → headed giving ≡ Some heading
    → Unknown heading.marker network.marker heading.id ≡ unknown_ground network giving
unknown_some network None heading e = absurd cc
unknown_some network (Some g) heading e =
    let is : heading_of g.octets ≡ heading = cc in
    sym (ap (λ (h : Heading). Unknown h.marker network.marker h.id) is)

pub unknown_none : (network : Network) (giving : Option Happening) → headed giving ≡ None → Untold ≡ unknown_ground network giving
unknown_none network None e = refl
unknown_none network (Some g) e = absurd cc

-- ---- the window of a row, by its entry

-- the window of a row is the ground
pub window_is : (network : Network) (at : ℤ) (place : ℕ) (entry : Entry) → IsEntry network place entry
    → places_ground at (window_of network entry) ≡ window_ground network at (Some place)
window_is network at place entry is =
    sym (ap (λ (o : Option Entry). option_map_or (λ (e : Entry). places_ground at (window_of network e)) o Untold)
    (entry_is is))
