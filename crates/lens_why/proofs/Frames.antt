-- What records tell of a frame: its sending, its row, how long it was held, and where it was taken.
use Rattle.std.proofs.Common
use Common.{◌&&◌, ◌*ℤ◌, ◌*◌, ◌+ℤ◌, ◌+◌, ◌-ℤ◌, ◌-◌, ◌<◌, ◌==◌, ◌∙◌, ◌∷◌, ◌≡◌, ◌≤ℤ◌, Bool, List, None, Option, Some, ap}
use Common.{arith, cond, false, get_or, inl, inr, length, pos, refl, subst, sym, true, ℕ, ℤ}
use Rattle.std.proofs.lemmas.{Bool.{cases_Bool, eqb-true, false_from_ne_true, ltb-false}, Grind.common_steps, Int.ints}
use Rattle.std.proofs.lemmas.{List.{Folds.find_at, Sums.position_or_len_is}}
use Rattle.std.proofs.lemmas.{Option.{get_or_from_slice_get, slice_get-get_or, slice_get_past}}
use Rattle.std.specs.{List.{find, position, position_or_len}}
use Rattle.std.specs.{Prelude.{if◌then◌else◌, nat_lt, option_and_then, option_map, slice_get}}
use Rattle.audit_law.proofs.law_lemmas.Owed.{before_is_front}
use Rattle.compression.specs.{Middle.{middle_of, relative}, declared.compressed.Compressed.Compressed}
use Rattle.lens_why.{proofs.{Grounded.window_is, LastRecords.parted_there}}
use Rattle.lens_why.specs.{Collections.{IsMiddle, MiddlesAreOfClusters}}
use Rattle.lens_why.specs.{Grounds.{ground_by, ground_of, held_ground, position_at, window_ground}}
use Rattle.lens_why.specs.{Laws.{IsInWindow, RowIsOne, TakenInWindows}, Records.{ComesFrom, clock_given}}
use Rattle.lens_why.specs.{declared.ground.Ground.{Ground, TheVariants.Held}}
use Rattle.net_plan.specs.{Places.row_of}
use Rattle.net_plan.specs.declared.{ids.{DeviceId.DeviceId, LinkId.LinkId, VlId.VlId}, network.Network.Network}
use Rattle.net_plan.specs.declared.{tables.Row.Row}
use Rattle.precision_law.{specs.traffic.Taken.SaysTaken}
use Rattle.precision_law.proofs.traffic_lemmas.delivery.{Faultless.{FindsNone, TakesIn, finds_none}}
use Rattle.precision_law.proofs.traffic_lemmas.delivery.{Taken.never_control}
use Rattle.run_law.{proofs.law.FirstDeliveries.{founded_at, numbered_front, numbered_in, same_earlier, split}}
use Rattle.run_law.specs.{declared.note.{Note.Note, NoteBody.NoteBody}}
use Rattle.run_law.specs.{device.{Standpoints.{clock_of, offset_in_cycle, standpoint}, States.adjustment_after}}
use Rattle.run_law.specs.{runs.{DueRecords.{IsCaused, IsDue}, Runs.IsFounded}}
use Rattle.run_law.specs.{scenario.{Scenarios.Scenario, Ways.{hold_at, is_cut, way_from}}}
use Rattle.run_law.specs.{timed.Receptions.{ArrivesAs, arrival_of, last_taken}}
use Rattle.run_law.specs.control.{Emissions.Emits}
use Rattle.run_law.specs.control.{Leaving.{Departs, Gives, clock_at_leaving, leaves, on_cut_way, too_old}}
use Rattle.run_law.specs.control.{Wires.{Signal, control, timed}}
use Rattle.run_law.specs.records.{Causes.cause_of}
use Rattle.run_law.specs.records.{Happenings.{Happening, earlier, frame_by, happenings, numbered, time_of}}
use Rattle.run_law.specs.records.{Ranks.{key, members_in, place_of, rank}}
use Rattle.schedule_tables.specs.{Entries.IsEntry, Rules.KeepsRules, Windows.window_of}
use Rattle.schedule_tables.specs.{declared.{entry.Entry.Entry, rule.Rule.TheVariants.LinksOnce}}
use Rattle.tte_audit.specs.Report.{scenario_of}
use Rattle.tte_reports.specs.Reports.{IsReportOf}
use Rattle.tte_units.{specs.{Amount.amount, declared.{frames.pcf.Pcf.Pcf, units.Units.Units}}}
use Rattle.tte_units.proofs.general_lemmas.{Bools.{both_left, both_right}, Lists.got_within, Naturals.eqb_same}
use Rattle.tte_units.proofs.general_lemmas.{Options.{mapped, some_same}}
use Rattle.run_law.specs.declared.note.NoteBody.TheVariants as notes
use Rattle.run_law.specs.declared.steps.Arrival.TheVariants as arrivals

-- ---- what a compression master sends, by the points of a cluster

-- the middle is what is left of the reading
left : (at opened middle : ℤ) (ow calc : ℕ) → at ≡ (opened +ℤ (pos 2 *ℤ pos ow) +ℤ pos calc +ℤ middle) → (at -ℤ opened) -ℤ pos (2 * ow + calc) ≡ middle
left at opened middle ow calc e = omega (arith, ints, e)

pub middles_are_of_clusters : MiddlesAreOfClusters
middles_are_of_clusters network octets ns end h device opened at of e =
    let s : Scenario = scenario_of network ns in
    let p = parted_there of e.number h e.there in
    let due = (of.run.founded p.before p.later h p.parts).1 in
    let body = notes.Compressed device opened at e.cycle e.members e.verdict in
    let emits : Emits s p.before device (time_of h) (record { opened = opened; at = at; cycle = e.cycle; members = e.members }) e.verdict =
    subst (λ b. IsCaused s p.before h.note.time b) e.is due.cause in
    let cluster = emits.cluster in
    let opens : opened.0 ≡ cluster.opened = ap (λ (c : Compressed). c.opened.0) emits.is in
    let reading = ap (λ (c : Compressed). c.at.0) emits.is in
    let own : IsMiddle network p.before device opened at = record {
      clusters = emits.clusters;
      are = emits.are;
      cluster = cluster;
      there = emits.there;
      opens = opens;
      middle = ap (λ z. (at.0 -ℤ z) -ℤ pos (2 * amount network.precision + amount network.calc)) opens
          ∙ left at.0 cluster.opened (middle_of (relative cluster.points)) (amount network.precision) (amount network.calc) reading;
    } in
    subst (λ hs. IsMiddle network hs device opened at) (sym p.are) own

-- ---- how long a frame was held, and how much of that was measured, as its records tell it

-- what leaves has the clock of its leaving
left_clock : (old cut : Bool) (clock n : ℕ) → leaves clock ≡ (if old then too_old else (if cut then on_cut_way else leaves n)) → clock ≡ n
left_clock true cut clock n e = absurd cc
left_clock false true clock n e = absurd cc
left_clock false false clock n e = cc

-- the clock of a frame that is given to a link
given_clock : (network : Network) (before : List Happening) (body : NoteBody) (device : DeviceId) (link : LinkId) (frame : Pcf) → Gives network body device link
    → frame_by network before body ≡ Some frame → frame.clock ≡ clock_given body
given_clock network before (notes.Sent master cycle) device link frame gives e = ap (λ (f : Pcf). f.clock) (some_same frame _ _ e refl)
given_clock network before (notes.Compressed cm opened at cycle members verdict) device link frame gives e =
    ap (λ (f : Pcf). f.clock) (some_same frame _ _ e refl)
given_clock network before (notes.Arrived relay by cause clock) device link frame gives e =
    let m = mapped _ _ frame e in ap (λ (f : Pcf). f.clock) (sym m.2)
given_clock network before other device link frame gives e = absurd gives

-- the record that gave a frame which leaves, how long its way held it, and how much of that was measured
pub record IsHeldBy (s : Scenario) (hs : List Happening) (device : DeviceId) (link : LinkId) (t cause clock : ℕ) (giving : Happening) : Type 0 where
  pub there : numbered hs cause ≡ Some giving
  pub held : t ≡ time_of giving + hold_at s link (way_from s.network device link) (time_of giving)
  pub measured : clock ≡ clock_given giving.note.body + (s.reading device t - s.reading device (time_of giving))

pub held_by : (s : Scenario) (hs : List Happening) → IsFounded place_of (IsDue s) hs → (n : ℕ) (h : Happening) (device : DeviceId) (link : LinkId)
    (cause clock : ℕ) → numbered hs n ≡ Some h → h.note.body ≡ notes.Left device link cause clock
    → (giving : Happening) × IsHeldBy s hs device link (time_of h) cause clock giving
held_by s hs founded n h device link cause clock there is =
    let at = founded_at s hs h founded (numbered_in hs n h there) in
    let d : Departs s at.front device (time_of h) link cause (leaves clock) = subst (λ b. IsCaused s at.front h.note.time b) is at.due.cause in
    let giving = d.giving in
    let own = founded_at s at.front giving at.founded (numbered_in at.front cause giving d.there) in
    let frame = ap (λ (g : Happening). g.frame) (sym own.due.same) ∙ d.of_frame in
    let given = given_clock s.network own.front giving.note.body device link d.frame d.gives frame in
    let left = left_clock (nat_lt (amount s.network.dmax) (clock_at_leaving s device d.frame (time_of giving) (time_of h)))
    (is_cut s link (way_from s.network device link) (time_of h)) clock (clock_at_leaving s device d.frame (time_of giving) (time_of h)) d.becomes in (
      giving,
      record {
        there = subst (λ t. numbered t cause ≡ Some giving) (sym at.whole) (numbered_front at.front (h ∷ at.rest) cause giving d.there);
        held = omega (arith, d.held);
        measured = omega (arith, left, given);
      },
    )

-- what the two records say is the ground
pub held_is : {s : Scenario} {hs : List Happening} {h : Happening} {note : Note} {giving : Option Note}
    (device : DeviceId) (link : LinkId) (cause clock : ℕ) (result : Ground) → ComesFrom s hs h note giving
    → note.body ≡ notes.Left device link cause clock → ((g : Note) → giving ≡ Some g
    → result ≡ Held (amount note.time - amount g.time) (clock - clock_given g.body)) → result ≡ ground_of s hs h
held_is {s} {hs} {h} {note} device link cause clock result from is told =
    let body : h.note.body ≡ notes.Left device link cause clock = ap (λ (n : Note). n.body) (sym from.is) ∙ is in
    let by = held_by s hs from.founded from.number h device link cause clock from.there body in
    let g = by.0 in
    let of_cause : option_map (λ (x : Happening). x.note) (numbered hs (cause_of h.note.body)) ≡ Some g.note =
    ap (λ (b : NoteBody). option_map (λ (x : Happening). x.note) (numbered hs (cause_of b))) body
    ∙ ap (λ (o : Option Happening). option_map (λ (x : Happening). x.note) o) by.1.there in
    let time : amount note.time ≡ time_of h = ap (λ (n : Note). amount n.time) from.is in
    let said = told g.note (from.from ∙ of_cause) in
    let long = hold_at s link (way_from s.network device link) (time_of g) in
    let later = by.1.held in
    let sum = by.1.measured in
    let held : amount note.time - amount g.note.time ≡ long = omega (arith, time, later) in
    let measured : clock - clock_given g.note.body ≡ s.reading device (time_of h) - s.reading device (time_of g) = omega (arith, sum) in
    said
    ∙ ap (λ (t : ℕ). Held t (clock - clock_given g.note.body)) held
    ∙ ap (λ (m : ℕ). Held (hold_at s link (way_from s.network device link) (time_of g)) m) measured
    ∙ sym (ap (λ b. ground_by s hs h b) body ∙ ap (held_ground s device link (time_of h)) by.1.there)

-- ---- the first row that passes a test, and that it is the only one

-- what is found stands at that place
pub found_at : {X : Type 0} (p : X → Bool) (xs : List X) → find p xs ≡ option_and_then (slice_get xs) (position p xs)
found_at {X} p xs =
    let n = position_or_len p xs in
    let by : Bool → Option X = λ b. option_and_then (slice_get xs) (cond b (Some n) None) in
    elim (cases_Bool (nat_lt n (length xs))) [
      | inl less ↦ find_at p xs ∙ sym (ap by less)
      | inr more ↦ find_at p xs ∙ slice_get_past xs n (ltb-false n (length xs) more) ∙ sym (ap by more)
    ]

-- ---- rows of one virtual link and link

abbrev vl_of : ℕ → VlId
vl_of n = record { 0 = n }

abbrev link_of : ℕ → LinkId
link_of n = record { 0 = n }

-- is it a row of this virtual link and this link?
abbrev is_of : VlId → LinkId → Row → Bool
is_of vl link row = row.vl.0 == vl.0 && row.link.0 == link.0

own_row : (row : Row) → is_of row.vl row.link row ≡ true
own_row row = ap (λ (b : Bool). b && row.link.0 == row.link.0) (eqb_same row.vl.0) ∙ eqb_same row.link.0

-- no earlier row is of both
none_earlier : {network : Network} {place : ℕ} {entry : Entry} → KeepsRules network → IsEntry network place entry
    → (k : ℕ) → k < place → is_of entry.row.vl entry.row.link (get_or network.row k entry.row) ≡ false
none_earlier {network} {place} {entry} rules is k lt =
    let earlier = get_or network.row k entry.row in
    let within = got_within network.row place entry.row is.row in
    let there = slice_get-get_or network.row k entry.row (omega (arith, lt, within)) in
    false_from_ne_true (is_of entry.row.vl entry.row.link earlier)
    (λ both. let vl = eqb-true earlier.vl.0 entry.row.vl.0 (both_left (earlier.vl.0 == entry.row.vl.0) (earlier.link.0 == entry.row.link.0) both) in
    let link = eqb-true earlier.link.0 entry.row.link.0 (both_right (earlier.vl.0 == entry.row.vl.0) (earlier.link.0 == entry.row.link.0) both) in
    rules LinksOnce place k earlier entry.row lt there is.row (ap vl_of (sym vl)) (ap link_of (sym link)))

pub row_is_one : RowIsOne
row_is_one network place entry rules is =
    let rows = network.row in
    let row = entry.row in
    let within : place < length rows = got_within rows place row is.row in
    let here : get_or rows place row ≡ row = get_or_from_slice_get rows place row row is.row in
    let at : position_or_len (is_of row.vl row.link) rows ≡ place =
    position_or_len_is (is_of row.vl row.link) rows place row (omega (arith, within)) (none_earlier rules is)
    (λ lt. ap (is_of row.vl row.link) here ∙ own_row row) in
    as_place (is_of row.vl row.link) rows place at within
  where
    as_place : (p : Row → Bool) (rows : List Row) (place : ℕ) → position_or_len p rows ≡ place → place < length rows → position p rows ≡ Some place
    as_place p rows place at within = grind (arith, common_steps)

-- ---- where a frame is taken its position lies in the window

-- what a device found where it took what came so
found : (s : Scenario) (hs : List Happening) (device : DeviceId) (t : ℕ) (link : LinkId) (cause : ℕ) (signal : Signal) (vl : VlId) (cycle : ℕ)
    → TakesIn (arrival_of s hs device t link cause signal) vl cycle
    → (octets : List ℕ) × FindsNone s.network device link (standpoint s hs device t) octets (last_taken hs device t link cause) vl cycle
found s hs device t link cause (control frame) vl cycle takes = absurd (never_control s.network device link (standpoint s hs device t) frame vl cycle takes)
found s hs device t link cause (timed octets) vl cycle takes = (
  octets,
  finds_none s.network device link (standpoint s hs device t) octets (last_taken hs device t link cause) vl cycle takes,
)

-- the local clock at a time, by the records of earlier times
abbrev shown_by : Scenario → DeviceId → ℕ → List Happening → ℤ
shown_by s device t es = pos (s.reading device t) +ℤ (adjustment_after s es device).0

module _ (network : Network) (octets : List ℕ) (ns : List Note) (end : Units) (of : IsReportOf network octets ns end) (rules : KeepsRules network)
    (number : ℕ) (h : Happening) (there : numbered (happenings network ns) number ≡ Some h) (device : DeviceId) (link : LinkId) (cause : ℕ) (vl : VlId)
    (cycle : ℕ) where
  abbrev own : Scenario
  own = scenario_of network ns

  abbrev all : List Happening
  all = happenings network ns

  abbrev before : List Happening
  before = (parted_there of number h there).before

  caused : (body : NoteBody) → h.note.body ≡ body → IsCaused own before h.note.time body
  caused body is =
      let p = parted_there of number h there in
      subst (λ b. IsCaused own p.before h.note.time b) is (of.run.founded p.before p.later h p.parts).1.cause

  -- the records of earlier times are those before the record
  same_times : earlier (time_of h) before ≡ earlier (time_of h) all
  same_times =
      let p = parted_there of number h there in
      let at = split place_of (IsDue own) all (place_of h) of.run.founded in
      ap (earlier (time_of h)) (sym p.are ∙ before_is_front at)
      ∙ same_earlier (time_of h) (rank h.note.body ∷ key (members_in h) h.note.body) at

  arrives : SaysTaken h.note.body device link cause vl cycle → (signal : Signal) × TakesIn (arrival_of own before device (time_of h) link cause signal) vl cycle
  arrives (inl is) =
      let a : ArrivesAs own before device (time_of h) link cause (arrivals.Accepted vl cycle) = caused (notes.Accepted device link cause vl cycle) is in
      (a.signal, inl (sym a.becomes))
  arrives (inr is) =
      let a : ArrivesAs own before device (time_of h) link cause (arrivals.Delivered vl cycle) = caused (notes.Delivered device link cause vl cycle) is in
      (a.signal, inr (sym a.becomes))

  said : SaysTaken h.note.body device link cause vl cycle
      → ground_of own all h ≡ window_ground network (position_at own all device (time_of h)) (row_of network vl link)
  said (inl is) = ap (ground_by own all h) is
  said (inr is) = ap (ground_by own all h) is

  pub taken_within : SaysTaken h.note.body device link cause vl cycle → IsInWindow (ground_of own all h)
  taken_within takes =
      let a = arrives takes in
      let f = (found own before device (time_of h) link cause a.0 vl cycle a.1).1 in
      let t = time_of h in
      let at = position_at own all device t in
      let clock : clock_of (standpoint own before device t) ≡ clock_of (standpoint own all device t) =
      ap (λ es. shown_by own device t es) same_times in
      let same : offset_in_cycle network (clock_of (standpoint own before device t)) ≡ at = ap (offset_in_cycle network) clock in
      let row : row_of network vl link ≡ Some f.enters.place = ap (λ l. row_of network vl l) (sym f.enters.by)
      ∙ ap (λ v. row_of network v f.entry.row.link) (sym f.of_vl)
      ∙ row_is_one network f.enters.place f.entry rules f.enters.row in
      let places = window_of network f.entry in
      record {
        position = at;
        from = places.from;
        to = places.to;
        is = said takes ∙ ap (λ o. window_ground network at o) row ∙ sym (window_is network at f.enters.place f.entry f.enters.row);
        not_before = subst (λ z. places.from.0 ≤ℤ z) same f.fits.not_before;
        not_behind = subst (λ z. z ≤ℤ places.to.0) same f.fits.not_behind;
      }

pub taken_in_windows : TakenInWindows
taken_in_windows network octets ns end number h device link cause vl cycle rules of there =
    taken_within network octets ns end of rules number h there device link cause vl cycle
