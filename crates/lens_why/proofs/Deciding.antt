-- What the grounds of corrections, cliques, drops, leavings and losses decide.
use Rattle.std.proofs.{lemmas.Bool.{cases_Bool, cases_lt}}
use Rattle.std.proofs.Common
use Common.{if◌then◌else◌, ◌&&◌, ◌*◌, ◌++◌, ◌+ℤ◌, ◌+◌, ◌-◌, ◌<ℤ◌, ◌<◌, ◌==◌, ◌∙◌, ◌∷◌, ◌≡◌, ◌≤◌, ◌⊎◌, Bool, Err, List}
use Common.{None, Ok, Option, Result, Some, [], ap, arith, false, inl, inr, length, pos, refl, subst, sym, true, ℕ, ℤ}
use Rattle.std.specs.{Int.int_div_euclid, List.AllByRecursion, Option.option_map_or}
use Rattle.std.specs.Prelude
use Prelude.{◌||◌, IfSome, IsSomeAnd, MatchBool, int_lt, nat_le, nat_lt, not, option_and_then, option_map}
use Rattle.audit_law.proofs.law_lemmas.Owed.{before_is_front}
use Rattle.audit_sweep.{proofs.Lacks.heard_before_corrections, specs.Indexing.before_corrections}
use Rattle.run_law.proofs.{control.{Points.point_is, Verdicts.never_dropped}, plain_lemmas.Same.not_true}
use Rattle.audit_law.{specs.law.CorrectionNumbers.{ComesToPoint, heard_since_point, standing_at}}
use Rattle.compression.specs.{Clusters.{Point, point_at}, declared.taken.Taken.Taken}
use Rattle.lens_why.proofs.{Frames.held_by}
use Rattle.lens_why.proofs.LastRecords
use LastRecords.{IsParted, before_all, before_founded, caused, none_later, parted_there, summary_is}
use Rattle.lens_why.specs.{Decisions.{IsCorrectedBy, IsDroppedBy, IsLeftBy, IsShutBy, IsStateBy, value_told}}
use Rattle.lens_why.specs.{Grounds.{beside_ground, entry_given, gate_ground, ground_by, held_ground}}
use Rattle.lens_why.specs.{declared.ground.{BestHeard.BestHeard, Ground.TheVariants.{Gate, Untold}}}
use Rattle.lens_why.specs.Corrections
use Corrections.{channel_ground, clique_ground, corrected_ground, heard_at_point, said_by, told_by}
use Rattle.net_plan.specs.{Places.device_at}
use Rattle.net_plan.specs.declared.{event.What.TheVariants.Send, ids.{DeviceId.DeviceId, LinkId.LinkId, VlId.VlId}}
use Rattle.net_plan.specs.declared.{network.Network.Network, tables.{Device.Device, Way.{TheVariants.{Down, Up}, Way}}}
use Rattle.pcf_codec.specs.{Decoding.decoded, EtherType.{least_type, pcf_type}, Fields.field}
use Rattle.pcf_codec.specs.{declared.refusal.PcfRefusal.PcfRefusal}
use Rattle.run_law.proofs.{runs.SameSteps.roles_differ}
use Rattle.run_law.proofs.law.FirstDeliveries
use FirstDeliveries.{founded_at, front_founded, numbered_front, numbered_in, same_earlier, split}
use Rattle.run_law.specs.{declared.{judgement.Reason.Reason, note.{Note.Note, NoteBody.NoteBody}}}
use Rattle.run_law.specs.{runs.{DueRecords.{IsCaused, IsDue}, Runs.IsFounded}}
use Rattle.run_law.specs.control.{Hearing.heard_as, Losses.IsDropped}
use Rattle.run_law.specs.control.{Permanence.{BecomesPermanent, IsCollectedOrDropped, before_permanence, ripe_as}}
use Rattle.run_law.specs.control.{Wires.{Launch, Signal, control, launched, signal_of, timed}}
use Rattle.run_law.specs.control.Arrivals
use Arrivals.{clock_on_arrival, control_arrival, frame_fault, frame_or_fault, is_cold_start, is_gate_shut}
use Arrivals.{is_of_other_domain, is_of_other_member, refused}
use Rattle.run_law.specs.control.Collections
use Collections.{dispatch_value, is_number, master_of, observation_window, point_fault, points_of, ripe_by_role}
use Rattle.run_law.specs.device.Standpoints.{Standpoint, clock_of, cycle_at, first_reason, offset_in_cycle, standpoint}
use Rattle.run_law.specs.device.States
use States.{adjustment_after, adjustment_at_hearing, adjustment_before, is_synchronised, state_at_hearing}
use Rattle.run_law.specs.records.{Happenings.{Happening, earlier, happenings, numbered, octets_by, time_of}}
use Rattle.run_law.specs.records.{Ranks.{key, members_in, place_of, rank}}
use Rattle.run_law.specs.scenario.{Devices.{is_cm, is_cm_role, is_end, is_parent_of, is_relay, is_relay_role, plan_of}}
use Rattle.run_law.specs.scenario.{Scenarios.Scenario, Ways.{hold_at, is_cut, way_from}}
use Rattle.run_law.specs.timed.{Receptions.{ArrivesAs, arrival_of, last_taken}}
use Rattle.run_law.specs.timed.Arrivals.{entry_arrival, entry_entering, is_taken_in, occurs_in, octets_fault, octets_or_fault, row_fault}
use Rattle.run_law.specs.timed.Arrivals.{taken_or_fault, timed_arrival}
use Rattle.schedule_tables.specs.{Rules.KeepsRules, Windows.window_of, declared.entry.Entry.Entry}
use Rattle.sync_state.specs.{Plan.expected_at, Standing.Standing, Verdicts.{HasVerdict, deviation_on}}
use Rattle.sync_state.specs.{correction.{Correction.correction_of, Deviation.deviation_of}}
use Rattle.sync_state.specs.{membership.{Members.count_of, Summary.{Summarizes, best_on}}}
use Rattle.sync_state.specs.declared.{answers.Verdict.Verdict, membership.frame.HeardFrame.HeardFrame}
use Rattle.sync_state.specs.declared.{state.State.State}
use Rattle.tte_audit.specs.{Named.IsNamed, Report.scenario_of}
use Rattle.tte_reports.{proofs.Answers.kept_apart, specs.Reports.IsReportOf}
use Rattle.tte_units.{proofs.general_lemmas.{Bools.both_right, Integers.int_lt-is}}
use Rattle.tte_units.specs.{Amount.amount}
use Rattle.tte_units.specs.declared.{frames.{channel.Channel.{Channel, TheVariants.{A, B}}, pcf.Pcf.Pcf}}
use Rattle.tte_units.specs.declared.{units.Units.Units}
use Rattle.audit_law.specs.law.DueRecords as audits
use Rattle.compression.specs.declared.taken.Taken.TheVariants as taken
use Rattle.net_plan.specs.declared.tables.Role.TheVariants as roles
use Rattle.pcf_codec.specs.declared.refusal.PcfRefusal.TheVariants as refusals
use Rattle.run_law.specs.declared.judgement.Judgement.TheVariants as judgements
use Rattle.run_law.specs.declared.judgement.Reason.TheVariants as reasons
use Rattle.run_law.specs.declared.judgement.Why.TheVariants as whys
use Rattle.run_law.specs.declared.note.NoteBody.TheVariants as notes
use Rattle.run_law.specs.declared.steps.Arrival.TheVariants as arrivals
use Rattle.run_law.specs.declared.steps.Ripe.TheVariants as ripe
use Rattle.sync_state.specs.declared.answers.Verdict.TheVariants as verdicts
use Rattle.sync_state.specs.declared.state.State.TheVariants as states

-- ---- what the grounds of corrections and of cliques decide

-- what a frame says to the correction is how far the clock is behind by it
said_so : (s : Scenario) (hs : List Happening) (h : Happening) (device : DeviceId) (cycle : ℕ) (adjustment : ℤ) (channel : Channel) (o : Option HeardFrame)
    → option_and_then (λ (frame : HeardFrame). if nat_le s.network.sync_threshold (count_of frame.members)
    then Some (let v : Units = record { 0 = deviation_of (expected_at (plan_of s.network device) cycle) frame.point.0 adjustment } in v) else None) o
    ≡ value_told (option_and_then (said_by s hs h device cycle adjustment channel) o)
said_so s hs h device cycle adjustment channel None = refl
said_so s hs h device cycle adjustment channel (Some frame) = by (nat_le s.network.sync_threshold (count_of frame.members)) refl
  where
    by : (b : Bool) → nat_le s.network.sync_threshold (count_of frame.members) ≡ b
        → (if nat_le s.network.sync_threshold (count_of frame.members)
        then Some (let v : Units = record { 0 = deviation_of (expected_at (plan_of s.network device) cycle) frame.point.0 adjustment } in v) else None)
        ≡ value_told (said_by s hs h device cycle adjustment channel frame)
    by true e = rw e refl
    by false e = rw e refl

module _ (tell : HeardFrame → BestHeard) (same : ((f : HeardFrame) → (tell f).members ≡ f.members)) where
  -- the best frame of too few masters is told so, and one that is outnumbered
  few_told : (threshold : ℕ) (o : Option HeardFrame) → (IsSomeAnd o (λ f. threshold ≤ count_of f.members) → ⊥)
      → IfSome (option_map tell o) (λ told. count_of told.members < threshold)
  few_told threshold None few = tt
  few_told threshold (Some f) few =
      elim (cases_lt (count_of f.members) threshold) [
        | inl less ↦ subst (λ m. count_of m < threshold) (sym (same f)) less
        | inr more ↦ absurd (few more)
      ]

  most_told : (most : ℕ) (o : Option HeardFrame) → IfSome o (λ f. count_of f.members ≤ most)
      → IfSome (option_map tell o) (λ told. count_of told.members ≤ most)
  most_told most None all = tt
  most_told most (Some f) all = subst (λ m. count_of m ≤ most) (sym (same f)) all

  enough_told : (threshold : ℕ) (o : Option HeardFrame) → IsSomeAnd o (λ f. threshold ≤ count_of f.members)
      → IsSomeAnd (option_map tell o) (λ told. threshold ≤ count_of told.members)
  enough_told threshold None all = absurd all
  enough_told threshold (Some f) all = subst (λ m. threshold ≤ count_of m) (sym (same f)) all

module _ (network : Network) (octets : List ℕ) (ns : List Note) (end : Units) (rules : KeepsRules network) (of : IsReportOf network octets ns end)
    (number : ℕ) (h : Happening) (there : numbered (happenings network ns) number ≡ Some h) (device : DeviceId) where
  abbrev own : Scenario
  own = scenario_of network ns

  abbrev all : List Happening
  all = happenings network ns

  abbrev before : List Happening
  before = (parted_there of number h there).before

  abbrev named : IsNamed network
  named = kept_apart network rules of.range

  caused_so : (body : NoteBody) → h.note.body ≡ body → audits.IsCaused own before h.note.time body
  caused_so body is =
      let p = parted_there of number h there in caused network octets ns end of named p.before p.later h p.parts device body is

  -- what it had heard is what is told
  heard_is : 6 ≤ rank h.note.body → (cycle : ℕ) (v : Verdict) (comes : ComesToPoint own before device (time_of h) cycle v)
      → comes.summary ≡ heard_at_point own all device (time_of h)
  heard_is high cycle v comes =
      let p = parted_there of number h there in
      let t = time_of h in
      let founded = before_founded network octets ns end of named p.before p.later h p.parts device in
      let none = none_later network octets ns end of named p.before p.later h p.parts device in
      let same : heard_since_point own before device t ≡ heard_since_point own (before_corrections t all) device t =
      sym (heard_before_corrections own p.before device t founded none)
      ∙ ap (λ hs. heard_since_point own hs device t) (before_all network octets ns end of named p.before p.later h p.parts device high) in
      summary_is (subst (Summarizes comes.summary) same comes.heard)

  -- the adjustment before it is that of the records of earlier times
  adjusted : (adjustment_before own before device (time_of h)).0 ≡ (adjustment_before own all device (time_of h)).0
  adjusted =
      let p = parted_there of number h there in
      let at = split place_of (IsDue own) all (place_of h) of.run.founded in
      ap (λ es. (adjustment_after own es device).0)
      (ap (earlier (time_of h)) (sym p.are ∙ before_is_front at)
      ∙ same_earlier (time_of h) (rank h.note.body ∷ key (members_in h) h.note.body) at)

  pub corrected_by : (cycle : ℕ) (by adjustment : Units) → h.note.body ≡ notes.Corrected device cycle by adjustment
      → IsCorrectedBy by (corrected_ground own all h device cycle)
  corrected_by cycle by adjustment is =
      let t = time_of h in
      let six : rank h.note.body ≡ 6 = ap rank is in
      let corrected : audits.IsCorrectedRecord own before device t cycle by adjustment = caused_so (notes.Corrected device cycle by adjustment) is in
      let comes = corrected.corrected in
      let standing : Standing = standing_at own before device t in
      let heard = heard_is (omega (arith, six)) cycle (verdicts.Corrected by) comes in
      let cycle_is : standing.number ≡ cycle = point_is standing.state standing.number cycle comes.next in
      let each : (channel : Channel) → deviation_on standing comes.summary channel ≡ value_told (channel_ground own all h device cycle channel) = λ channel.
      ap (λ m. deviation_on standing m channel) heard
      ∙ said_so own all h device standing.number standing.adjustment.0 channel (best_on channel (heard_at_point own all device t))
      ∙ ap (λ n. value_told (option_and_then (said_by own all h device n standing.adjustment.0 channel) (best_on channel
      (heard_at_point own all device t)))) cycle_is
      ∙ ap (λ a. value_told (option_and_then (said_by own all h device cycle a channel) (best_on channel (heard_at_point own all device t)))) adjusted in
      sym (ap (λ o. correction_of o (deviation_on standing comes.summary B)) (each A)
      ∙ ap (λ o. correction_of (value_told (channel_ground own all h device cycle A)) o) (each B))
      ∙ comes.comes.3

  -- what a clique tells of a channel has the members of its best frame
  tells : (channel : Channel) (f : HeardFrame) → (told_by network all h device channel f).members ≡ f.members
  tells channel f = refl

  pub clique_by : (state : State) (cause : ℕ) → h.note.body ≡ notes.State device state cause whys.SyncClique
      → IsStateBy whys.SyncClique (clique_ground own all h device)
  clique_by state cause is =
      let t = time_of h in
      let seven : rank h.note.body ≡ 7 = ap rank is in
      let changed : audits.ChangesState own before device t state cause whys.SyncClique = caused_so (notes.State device state cause whys.SyncClique) is in
      let comes = changed.2.1 in
      let so = subst (λ m. HasVerdict (standing_at own before device t) m verdicts.SyncClique)
      (heard_is (omega (arith, seven)) changed.2.0 verdicts.SyncClique comes) comes.comes in
      let heard = heard_at_point own all device t in (
        few_told (told_by network all h device A) (tells A) network.sync_threshold heard.best_a (λ q. so.1 (inl q)),
        few_told (told_by network all h device B) (tells B) network.sync_threshold heard.best_b (λ q. so.1 (inr q)),
      )

  pub outnumbered_by : (state : State) (cause : ℕ) → h.note.body ≡ notes.State device state cause whys.AsyncClique
      → IsStateBy whys.AsyncClique (clique_ground own all h device)
  outnumbered_by state cause is =
      let t = time_of h in
      let seven : rank h.note.body ≡ 7 = ap rank is in
      let changed : audits.ChangesState own before device t state cause whys.AsyncClique = caused_so (notes.State device state cause whys.AsyncClique) is in
      let comes = changed.2.1 in
      let so = subst (λ m. HasVerdict (standing_at own before device t) m verdicts.AsyncClique)
      (heard_is (omega (arith, seven)) changed.2.0 verdicts.AsyncClique comes) comes.comes in
      let heard = heard_at_point own all device t in (
        elim so.1 [
          | inl a ↦ inl (enough_told (told_by network all h device A) (tells A) network.sync_threshold heard.best_a a)
          | inr b ↦ inr (enough_told (told_by network all h device B) (tells B) network.sync_threshold heard.best_b b)
        ],
        most_told (told_by network all h device A) (tells A) (count_of heard.outside) heard.best_a (so.2 A),
        most_told (told_by network all h device B) (tells B) (count_of heard.outside) heard.best_b (so.2 B),
      )

-- ---- what the grounds of leavings and of losses decide

-- a frame that leaves was held so, and its clock has grown so
pub left_by : {network : Network} {octets : List ℕ} {ns : List Note} {end : Units} → IsReportOf network octets ns end
    → (number : ℕ) (h : Happening) → numbered (happenings network ns) number ≡ Some h
    → (device : DeviceId) (link : LinkId) (cause clock : ℕ) → h.note.body ≡ notes.Left device link cause clock
    → IsLeftBy (happenings network ns) cause (time_of h) clock
    (ground_by (scenario_of network ns) (happenings network ns) h (notes.Left device link cause clock))
left_by {network} {ns} of number h there device link cause clock is =
    let s : Scenario = scenario_of network ns in
    let hs = happenings network ns in
    let by = held_by s hs of.run.founded number h device link cause clock there is in
    let g = by.0 in
    record {
      giving = g;
      there = by.1.there;
      long = hold_at s link (way_from network device link) (time_of g);
      measured = s.reading device (time_of h) - s.reading device (time_of g);
      is = ap (held_ground s device link (time_of h)) by.1.there;
      at = by.1.held;
      sum = by.1.measured;
    }

-- ---- what the grounds of drops decide: reasons

-- is it the reason of a frame that came beside its window?
abbrev of_row : Reason → Bool
of_row reasons.Early = true
of_row reasons.Late = true
of_row other = false

-- is it that of a gate?
abbrev of_gate : Reason → Bool
of_gate reasons.Gate = true
of_gate other = false

true_is_false : true ≡ false → ⊥
true_is_false e = cc

-- the first reason is the first test's, or that of the others
one_more : (b : Bool) (q : Reason) (rest : List (Bool × Reason)) (r : Reason) → first_reason ((b, q) ∷ rest) ≡ Some r
    → ((b ≡ true) × (q ≡ r)) ⊎ ((b ≡ false) × (first_reason rest ≡ Some r))
one_more true q rest r e = inl (refl, cc)
one_more false q rest r e = inr (refl, e)

-- a first reason is none that no test has
never_first : (P : Reason → Bool) (tests : List (Bool × Reason)) (r : Reason) → AllByRecursion (λ t. P t.1 ≡ false) tests → first_reason tests ≡ Some r
    → P r ≡ false
never_first P [] r all_dropped e = absurd cc
never_first P (t ∷ rest) r all_dropped e =
    elim (one_more t.0 t.1 rest r e) [ inl both ↦ ap P (sym both.1) ∙ all_dropped.0 | inr next ↦ never_first P rest r all_dropped.1 next.1 ]

-- ---- rows

-- the tests of a row, from the last on
abbrev place_in : Network → Standpoint → ℤ
place_in network at = offset_in_cycle network (clock_of at)

abbrev is_early : Network → Standpoint → Entry → Bool
is_early network at entry =
    not (occurs_in entry.vl (cycle_at network (clock_of at))) || int_lt (place_in network at) (window_of network entry).from.0

abbrev is_late : Network → Standpoint → Entry → Bool
is_late network at entry = int_lt (window_of network entry).to.0 (place_in network at)

abbrev repeats : Network → Standpoint → Option ℕ → List (Bool × Reason)
repeats network at last = (is_taken_in (cycle_at network (clock_of at)) last, reasons.Repeat) ∷ []

abbrev beside : Network → Standpoint → Entry → Option ℕ → List (Bool × Reason)
beside network at entry last = (is_late network at entry, reasons.Late) ∷ repeats network at last

abbrev at_all : Network → Standpoint → Entry → Option ℕ → List (Bool × Reason)
at_all network at entry last = (is_early network at entry, reasons.Early) ∷ beside network at entry last

-- is it the reason of a frame that came early?
abbrev of_early : Reason → Bool
of_early reasons.Early = true
of_early other = false

either : (a b : Bool) → (a || b) ≡ true → (a ≡ true) ⊎ (b ≡ true)
either true b e = inl refl
either false b e = inr e

occurs : (b c : Bool) → (not b || c) ≡ false → b ≡ true
occurs true c e = refl
occurs false c e = absurd cc

early_length : reasons.Length ≡ reasons.Early → ⊥
early_length e = cc

late_length : reasons.Length ≡ reasons.Late → ⊥
late_length e = cc

late_early : reasons.Early ≡ reasons.Late → ⊥
late_early e = cc

-- a row finds a frame early so, or late
row_early : (network : Network) (at : Standpoint) (entry : Entry) (size : ℕ) (last : Option ℕ) → row_fault network at entry size last ≡ Some reasons.Early
    → (occurs_in entry.vl (cycle_at network (clock_of at)) ≡ false) ⊎ (place_in network at <ℤ (window_of network entry).from.0)
row_early network at entry size last e =
    elim (one_more (not (size == entry.vl.length)) reasons.Length (at_all network at entry last) reasons.Early e) [
      | inl both ↦ absurd (early_length both.1)
      | inr next ↦ elim (one_more (is_early network at entry) reasons.Early (beside network at entry last) reasons.Early next.1) [
        | inl both ↦ elim (either (not (occurs_in entry.vl (cycle_at network (clock_of at))))
            (int_lt (place_in network at) (window_of network entry).from.0) both.0) [
              | inl off ↦ inl (not_true (occurs_in entry.vl (cycle_at network (clock_of at))) off)
              | inr before_dropped ↦ inr (int_lt-is (place_in network at) (window_of network entry).from.0 before_dropped)
            ]
        | inr more ↦ absurd (true_is_false (never_first of_early (beside network at entry last) reasons.Early (refl, (refl, tt)) more.1))
      ]
    ]

row_late : (network : Network) (at : Standpoint) (entry : Entry) (size : ℕ) (last : Option ℕ) → row_fault network at entry size last ≡ Some reasons.Late
    → (occurs_in entry.vl (cycle_at network (clock_of at)) ≡ true) × ((window_of network entry).to.0 <ℤ place_in network at)
row_late network at entry size last e =
    elim (one_more (not (size == entry.vl.length)) reasons.Length (at_all network at entry last) reasons.Late e) [
      | inl both ↦ absurd (late_length both.1)
      | inr next ↦ elim (one_more (is_early network at entry) reasons.Early (beside network at entry last) reasons.Late next.1) [
        | inl both ↦ absurd (late_early both.1)
        | inr more ↦ elim (one_more (is_late network at entry) reasons.Late (repeats network at last) reasons.Late more.1) [
          | inl both ↦ (
            occurs (occurs_in entry.vl (cycle_at network (clock_of at))) (int_lt (place_in network at) (window_of network entry).from.0) more.0,
            int_lt-is (window_of network entry).to.0 (place_in network at) both.0,
          )
          | inr rest ↦ absurd (true_is_false (never_first of_row (repeats network at last) reasons.Late (refl, tt) rest.1))
        ]
      ]
    ]

-- what the octets were found to be a frame of, and its fault
record FindsFault (network : Network) (device : DeviceId) (link : LinkId) (at : Standpoint) (octets : List ℕ) (last : VlId → Option ℕ) (r : Reason) : Type
    0 where
  pub entry : Entry
  pub enters : entry_entering network device link (field 4 2 octets) ≡ Some entry
  pub fault : row_fault network at entry (length octets) (last entry.row.vl) ≡ Some r

-- the tests of octets
abbrev octets_tests : Network → Standpoint → List ℕ → List (Bool × Reason)
octets_tests network at octets =
    (not at.takes_part, reasons.Off) ∷ (nat_lt (field 12 2 octets) least_type, reasons.RefusedEtherType)
    ∷ (not (is_synchronised at.state), reasons.Unsynchronised) ∷ (not (field 0 4 octets == network.marker), reasons.Unknown) ∷ []

row_drop : (network : Network) (device : DeviceId) (link : LinkId) (at : Standpoint) (octets : List ℕ) (last : VlId → Option ℕ) (r : Reason)
    → of_row r ≡ true → arrivals.Dropped r ≡ timed_arrival network device link at octets last → FindsFault network device link at octets last r
row_drop network device link at octets last r row t = by (octets_fault network at octets) refl t
  where
    none_taken : (b : Bool) (vl : VlId) (cycle : ℕ) → arrivals.Dropped r ≡ (if b then arrivals.Delivered vl cycle else arrivals.Accepted vl cycle) → ⊥
    none_taken true vl cycle e = cc
    none_taken false vl cycle e = cc

    by_fault : (entry : Entry) → entry_entering network device link (field 4 2 octets) ≡ Some entry → (o : Option Reason)
        → row_fault network at entry (length octets) (last entry.row.vl) ≡ o → arrivals.Dropped r ≡ taken_or_fault network device at entry o
        → FindsFault network device link at octets last r
    by_fault entry found (Some q) e t =
        let same : q ≡ r = cc in record { entry = entry; enters = found; fault = e ∙ ap Some same }
    by_fault entry found None e t = absurd (none_taken (is_end network device) entry.row.vl (cycle_at network (clock_of at)) t)

    by_entry : (o : Option Entry) → entry_entering network device link (field 4 2 octets) ≡ o
        → arrivals.Dropped r ≡ entry_arrival network device at (length octets) last o → FindsFault network device link at octets last r
    by_entry None found t = let same : r ≡ reasons.Unknown = cc in absurd (true_is_false (sym row ∙ ap of_row same))
    by_entry (Some entry) found t = by_fault entry found (row_fault network at entry (length octets) (last entry.row.vl)) refl t

    by : (o : Option Reason) → octets_fault network at octets ≡ o → arrivals.Dropped r ≡ octets_or_fault network device link at octets last o
        → FindsFault network device link at octets last r
    by (Some q) e t =
        let same : r ≡ q = cc in
        absurd (true_is_false (sym row ∙ ap of_row same ∙ never_first of_row (octets_tests network at octets) q (refl, (refl, (refl, (refl, tt)))) e))
    by None e t = by_entry (entry_entering network device link (field 4 2 octets)) refl t

-- ---- control frames

refused_row : (b : Bool) (refusal : PcfRefusal) → of_row (if b then refused refusal else reasons.Off) ≡ false
refused_row false refusal = refl
refused_row true (refusals.Length n) = refl
refused_row true refusals.EtherType = refl
refused_row true (refusals.Reserved offset) = refl
refused_row true (refusals.Kind octet) = refl

refused_gate : (b : Bool) (refusal : PcfRefusal) → of_gate (if b then refused refusal else reasons.Off) ≡ false
refused_gate false refusal = refl
refused_gate true (refusals.Length n) = refl
refused_gate true refusals.EtherType = refl
refused_gate true (refusals.Reserved offset) = refl
refused_gate true (refusals.Kind octet) = refl

never_passed : (relay parent : Bool) (frame : Pcf) (point : Units) (r : Reason)
    → arrivals.Dropped r ≡ (if relay then (if parent then arrivals.Passes frame Up else arrivals.PassesAndWaits frame Down point) else arrivals.Waits frame point)
    → ⊥
never_passed true true frame point r e = cc
never_passed true false frame point r e = cc
never_passed false parent frame point r e = cc

-- a control frame is dropped for the fault that is found
control_drop : (network : Network) (device : DeviceId) (link : LinkId) (at : Standpoint) (f : Result Pcf PcfRefusal) (r : Reason)
    → arrivals.Dropped r ≡ control_arrival network device link at f
    → ((refusal : PcfRefusal) × (r ≡ (if at.takes_part then refused refusal else reasons.Off)))
    ⊎ ((frame : Pcf) × (frame_fault network device link at frame ≡ Some r))
control_drop network device link at (Err refusal) r t = inl (refusal, cc)
control_drop network device link at (Ok frame) r t = by (frame_fault network device link at frame) refl t
  where
    by : (o : Option Reason) → frame_fault network device link at frame ≡ o → arrivals.Dropped r ≡ frame_or_fault network device link at frame o
        → ((refusal : PcfRefusal) × (r ≡ (if at.takes_part then refused refusal else reasons.Off)))
        ⊎ ((frame : Pcf) × (frame_fault network device link at frame ≡ Some r))
    by (Some q) e t = let same : q ≡ r = cc in inr (frame, e ∙ ap Some same)
    by None e t = absurd (never_passed (is_relay network device) (is_parent_of network device link) _ _ r t)

-- the tests of a control frame but the gate's
abbrev frame_tests : Network → DeviceId → LinkId → Standpoint → Pcf → List (Bool × Reason)
frame_tests network device link at frame =
    (not at.takes_part, reasons.Off) ∷ (is_cold_start frame.kind, reasons.ColdStart) ∷ (is_of_other_domain network frame, reasons.Domain)
    ∷ (is_of_other_member network device link frame.members, reasons.Member)
    ∷ (nat_lt (amount network.dmax) (clock_on_arrival network link frame), reasons.Old) ∷ []

-- the last test is the one where the reason is none of the others
last_test : (P : Reason → Bool) (tests : List (Bool × Reason)) (b : Bool) (q r : Reason) → AllByRecursion (λ t. P t.1 ≡ false) tests → P r ≡ true
    → first_reason (tests ++ (b, q) ∷ []) ≡ Some r → b ≡ true
last_test P [] b q r all_dropped own_dropped e =
    elim (one_more b q [] r e) [ inl both ↦ both.0 | inr none ↦ absurd (none_found r none.1) ]
  where
    none_found : (r : Reason) → first_reason [] ≡ Some r → ⊥
    none_found r e = cc
last_test P (t ∷ tests) b q r all_dropped own_dropped e =
    elim (one_more t.0 t.1 (tests ++ (b, q) ∷ []) r e) [
      | inl both ↦ absurd (true_is_false (sym own_dropped ∙ ap P (sym both.1) ∙ all_dropped.0))
      | inr next ↦ last_test P tests b q r all_dropped.1 own_dropped next.1
    ]

module _ (network : Network) (device : DeviceId) (link : LinkId) (at : Standpoint) (frame : Pcf) where
  -- a gate that drops one is shut
  gate_fault : frame_fault network device link at frame ≡ Some reasons.Gate → is_gate_shut network device at ≡ true
  gate_fault e =
      last_test of_gate (frame_tests network device link at frame) (is_gate_shut network device at) reasons.Gate
      reasons.Gate
      (refl, (refl, (refl, (refl, (refl, tt))))) refl e

  row_control : (r : Reason) → frame_fault network device link at frame ≡ Some r → of_row r ≡ false
  row_control r e =
      never_first of_row (frame_tests network device link at frame ++ (is_gate_shut network device at, reasons.Gate)
      ∷ []) r
      (refl, (refl, (refl, (refl, (refl, (refl, tt)))))) e

-- ---- permanences

-- only a compression master drops a frame at its permanence, and for no window
permanent_drop : {s : Scenario} {hs : List Happening} {device : DeviceId} {t : ℕ} {link : LinkId} {cause : ℕ}
    {point : Units} (r : Reason) → BecomesPermanent s hs device t link cause point (ripe.Dropped r)
    → (is_cm s.network device ≡ true) × (of_row r ≡ false)
permanent_drop {s} {hs} {device} {t} {link} {cause} {point} r b =
    let judged = before_permanence hs device t link cause b.frame point in
    let state = state_at_hearing s judged device t in
    let adjustment = (adjustment_at_hearing s judged device t).0 in
    let p = point_at point.0 (master_of b.frame.members.0) b.frame.cycle in
    let Collects : Type 0 = IsCollectedOrDropped s.network (points_of judged device) p
    (point_fault s.network state adjustment point.0 b.frame.cycle) (ripe.Dropped r) in
    let Hears : Type 0 = ripe.Dropped r
    ≡ ripe_as (heard_as (plan_of s.network device) (observation_window s.network) state adjustment point.0 b.frame.cycle b.frame.members) in
    elim (cases_Bool (is_cm s.network device)) [
      | inl cm ↦ (
        cm,
        by s.network (points_of judged device) p state adjustment point.0 b.frame.cycle (point_fault s.network state adjustment point.0 b.frame.cycle) refl
            (subst (λ (c : Bool). MatchBool c Collects Hears) cm b.becomes),
      )
      | inr other ↦ absurd (never_dropped (heard_as (plan_of s.network device)
          (observation_window s.network) state adjustment point.0 b.frame.cycle b.frame.members)
          r (subst (λ (c : Bool). MatchBool c Collects Hears) other b.becomes))
    ]
  where
    by_role : (role : Taken) → ripe.Dropped r ≡ ripe_by_role role → of_row r ≡ false
    by_role taken.Opened e = absurd cc
    by_role taken.Joined e = absurd cc
    by_role taken.Repeat e = absurd cc
    by_role taken.OtherCycle e = let same : r ≡ reasons.Cycle = cc in ap of_row same

    by : (network : Network) (points : List Point) (p : Point) (state : State) (adjustment at : ℤ) (cycle : ℕ) (o : Option Reason)
        → point_fault network state adjustment at cycle ≡ o → IsCollectedOrDropped network points p o (ripe.Dropped r) → of_row r ≡ false
    by network points p state adjustment at cycle (Some q) e d =
        let same : r ≡ q = cc in
        let value = dispatch_value network adjustment at in
        ap of_row same
        ∙ never_first of_row ((is_synchronised state && int_lt (pos (4 * amount network.precision)) (offset_in_cycle network value), reasons.Gate)
        ∷ (is_synchronised state && not (is_number (int_div_euclid value network.cycle.0) cycle), reasons.Cycle) ∷ []) q (refl, (refl, tt)) e
    by network points p state adjustment at cycle None e d = by_role d.taken d.becomes

-- ---- gates

-- no frame of the schedule is dropped at a gate
never_gated : (network : Network) (device : DeviceId) (link : LinkId) (at : Standpoint) (octets : List ℕ) (last : VlId → Option ℕ)
    → arrivals.Dropped reasons.Gate ≡ timed_arrival network device link at octets last → ⊥
never_gated network device link at octets last t = by (octets_fault network at octets) refl t
  where
    none_taken : (b : Bool) (vl : VlId) (cycle : ℕ) → arrivals.Dropped reasons.Gate ≡
        (if b then arrivals.Delivered vl cycle else arrivals.Accepted vl cycle) → ⊥
    none_taken true vl cycle e = cc
    none_taken false vl cycle e = cc

    by_fault : (entry : Entry) (o : Option Reason) → row_fault network at entry (length octets) (last entry.row.vl) ≡ o
        → arrivals.Dropped reasons.Gate ≡ taken_or_fault network device at entry o → ⊥
    by_fault entry (Some q) e t =
        let same : reasons.Gate ≡ q = cc in
        true_is_false (ap of_gate same ∙ never_first of_gate ((not (length octets == entry.vl.length), reasons.Length) ∷ at_all network at entry
        (last entry.row.vl)) q
        (refl, (refl, (refl, (refl, tt)))) e)
    by_fault entry None e t = none_taken (is_end network device) entry.row.vl (cycle_at network (clock_of at)) t

    by_entry : (o : Option Entry) → arrivals.Dropped reasons.Gate ≡ entry_arrival network device at (length octets) last o → ⊥
    by_entry None t = let same : reasons.Gate ≡ reasons.Unknown = cc in true_is_false (ap of_gate same)
    by_entry (Some entry) t = by_fault entry (row_fault network at entry (length octets) (last entry.row.vl)) refl t

    by : (o : Option Reason) → octets_fault network at octets ≡ o → arrivals.Dropped reasons.Gate ≡ octets_or_fault network device link at octets last o → ⊥
    by (Some q) e t =
        let same : reasons.Gate ≡ q = cc in
        true_is_false (ap of_gate same ∙ never_first of_gate (octets_tests network at octets) q (refl, (refl, (refl, (refl, tt)))) e)
    by None e t = by_entry (entry_entering network device link (field 4 2 octets)) t

relay_is_none : (network : Network) (device : DeviceId) → is_cm network device ≡ true → is_relay network device ≡ true → ⊥
relay_is_none network device cm relay = by (device_at network device) cm relay
  where
    by : (o : Option Device) → option_map_or (λ (d : Device). is_cm_role d.role) o false ≡ true
        → option_map_or (λ (d : Device). is_relay_role d.role) o false ≡ true
        → ⊥
    by None a b = cc
    by (Some d) a b = roles_differ d.role a b

-- ---- what arrives

apart : (f : Result Pcf PcfRefusal) (octets : List ℕ) → control f ≡ timed octets → ⊥
apart f octets e = cc

timed_same : (xs ys : List ℕ) → timed xs ≡ timed ys → ys ≡ xs
timed_same xs ys e = cc

-- the octets that a record put on a wire are its own_dropped
launched_octets : (s : Scenario) (h : Happening) (t : ℕ) (link : LinkId) (way : Way) (octets : List ℕ) (body : NoteBody)
    → ((line : ℕ) (l : LinkId) (sent : List ℕ) → body ≡ notes.Event line (Send l sent) → h.octets ≡ sent)
    → launched s h t body ≡ Some (record { link = link; way = way; signal = timed octets }) → octets ≡ h.octets
launched_octets s h t link way octets (notes.TtSent device on cause vl cycle) sends e =
    let put : (let l : Launch = record { link = on; way = way_from s.network device on; signal = timed h.octets } in l)
    ≡ record { link = link; way = way; signal = timed octets } = cc in
    timed_same h.octets octets (ap (λ (l : Launch). l.signal) put)
launched_octets s h t link way octets (notes.Left device on cause clock) sends e = absurd (by h.frame e)
  where
    by : (o : Option Pcf) → option_map (λ (frame : Pcf). let l : Launch = record {
      link = on;
      way = way_from s.network device on;
      signal = control
          (Ok frame);
    } in l) o
        ≡ Some (record { link = link; way = way; signal = timed octets }) → ⊥
    by None e = cc
    by (Some f) e =
        let put : (let l : Launch = record { link = on; way = way_from s.network device on; signal = control (Ok f) } in l)
        ≡ record { link = link; way = way; signal = timed octets } = cc in
        apart (Ok f) octets (ap (λ (l : Launch). l.signal) put)
launched_octets s h t link way octets (notes.Event line (Send l sent)) sends e =
    by (is_cut s l Up t) e ∙ sym (sends line l sent refl)
  where
    by_type : (b : Bool) → (if b then control (decoded sent) else timed sent) ≡ timed octets → octets ≡ sent
    by_type true e = absurd cc
    by_type false e = cc

    by : (b : Bool) → (if b then None else Some (let l : Launch = record { link = l; way = Up; signal = signal_of sent } in l))
        ≡ Some (record { link = link; way = way; signal = timed octets }) → octets ≡ sent
    by true e = absurd cc
    by false e =
        let put : (let l : Launch = record { link = l; way = Up; signal = signal_of sent } in l)
        ≡ record { link = link; way = way; signal = timed octets } = cc in
        by_type (field 12 2 sent == pcf_type) (ap (λ (l : Launch). l.signal) put)
launched_octets s h t link way octets other sends e = absurd cc

-- ---- drops of a report

-- the local clock at a time, by the records of earlier times
abbrev shown_by : Scenario → DeviceId → ℕ → List Happening → ℤ
shown_by s device t es = pos (s.reading device t) +ℤ (adjustment_after s es device).0

module _ (network : Network) (octets : List ℕ) (ns : List Note) (end : Units) (of : IsReportOf network octets ns end) (number : ℕ) (h : Happening)
    (there : numbered (happenings network ns) number ≡ Some h) (device : DeviceId) (link : LinkId) (cause : ℕ) (reason : Reason)
    (is : h.note.body ≡ notes.Dropped device link cause reason) where
  abbrev own_dropped : Scenario
  own_dropped = scenario_of network ns

  abbrev all_dropped : List Happening
  all_dropped = happenings network ns

  abbrev before_dropped : List Happening
  before_dropped = (parted_there of number h there).before

  abbrev at : Standpoint
  at = standpoint own_dropped before_dropped device (time_of h)

  dropped : IsDropped own_dropped before_dropped device (time_of h) link cause reason
  dropped =
      let p = parted_there of number h there in
      subst (λ b. IsCaused own_dropped p.before h.note.time b) is (of.run.founded p.before p.later h p.parts).1.cause

  -- the clock that it is judged by is the one that is told
  clock_same : clock_of at ≡ clock_of (standpoint own_dropped all_dropped device (time_of h))
  clock_same =
      let p = parted_there of number h there in
      let f = split place_of (IsDue own_dropped) all_dropped (place_of h) of.run.founded in
      ap (λ es. shown_by own_dropped device (time_of h) es)
      (ap (earlier (time_of h)) (sym p.are ∙ before_is_front f)
      ∙ same_earlier (time_of h) (rank h.note.body ∷ key (members_in h) h.note.body) f)

  -- a frame that came beside its window is one of a row
  abbrev FromRow : Type 0
  FromRow = (entry : Entry) × (entry_given network device link (numbered all_dropped cause) ≡ Some entry) × (size : ℕ) × (last : Option ℕ)
      × (row_fault network at entry size last ≡ Some reason)

  arrived : of_row reason ≡ true → ArrivesAs own_dropped before_dropped device (time_of h) link cause (arrivals.Dropped reason) → FromRow
  arrived row a = by a.signal refl
    where
      p : IsParted network ns h
      p = parted_there of number h there

      put_there : numbered all_dropped cause ≡ Some a.putting
      put_there = subst (λ hs. numbered hs cause ≡ Some a.putting) (sym p.parts) (numbered_front p.before
          (h ∷ p.later) cause a.putting a.there)

      own_octets : (line : ℕ) (l : LinkId) (sent : List ℕ) → a.putting.note.body ≡ notes.Event line (Send l sent) → a.putting.octets ≡ sent
      own_octets line l sent body =
          let founded = front_founded place_of (IsDue own_dropped) p.before (h ∷ p.later) (subst (IsFounded place_of (IsDue own_dropped)) p.parts of.run.founded) in
          let f = founded_at own_dropped p.before a.putting founded (numbered_in p.before cause a.putting a.there) in
          ap (λ (x : Happening). x.octets) f.due.same ∙ ap (octets_by network f.front) body

      by : (signal : Signal) → a.signal ≡ signal → FromRow
      by (control f) e =
          let d = control_drop network device link at f reason (a.becomes ∙ ap (arrival_of own_dropped before_dropped device (time_of h) link cause) e) in
          elim d [
            | inl refusal ↦ absurd (true_is_false (sym row ∙ ap of_row refusal.1 ∙ refused_row at.takes_part refusal.0))
            | inr frame ↦ absurd (true_is_false (sym row ∙ row_control network device link at frame.0 reason frame.1))
          ]
      by (timed found) e =
          let f = row_drop network device link at found (last_taken before_dropped device (time_of h) link cause) reason row
          (a.becomes ∙ ap (arrival_of own_dropped before_dropped device (time_of h) link cause) e) in
          let put = a.arrives.put ∙ ap (λ (x : Signal). Some (let l : Launch = record { link = link; way = a.arrives.way; signal = x } in l)) e in
          let same = launched_octets own_dropped a.putting (time_of a.putting) link a.arrives.way found a.putting.note.body own_octets put in (
            f.entry,
            ap (option_and_then (λ (g : Happening). entry_entering network device link (field 4 2 g.octets))) put_there
                ∙ ap (λ os. entry_entering network device link (field 4 2 os)) (sym same)
                ∙ f.enters,
            length found,
            last_taken before_dropped device (time_of h) link cause f.entry.row.vl,
            f.fault,
          )

  from_row : of_row reason ≡ true → FromRow
  from_row row =
      elim dropped [
        | inl a ↦ arrived row a
        | inr (inl b) ↦ absurd (true_is_false (sym row ∙ (permanent_drop reason b.1).1))
        | inr (inr d) ↦ absurd (true_is_false (sym row ∙ ap of_row d.1))
      ]

  pub early_so : reason ≡ reasons.Early → IsDroppedBy network device (entry_given network device link (numbered all_dropped cause)) reasons.Early
      (beside_ground own_dropped all_dropped device (time_of h) (entry_given network device link (numbered all_dropped cause)))
  early_so same =
      let f = from_row (ap of_row same) in
      let found = row_early network at f.0 f.2 f.3 (f.4 ∙ ap Some same) in
      subst (λ o. IsDroppedBy network device o reasons.Early (beside_ground own_dropped all_dropped device (time_of h) o)) (sym f.1)
      (subst (λ z. (occurs_in f.0.vl (cycle_at network z) ≡ false) ⊎ (offset_in_cycle network z <ℤ (window_of network f.0).from.0)) clock_same found)

  pub late_so : reason ≡ reasons.Late → IsDroppedBy network device (entry_given network device link (numbered all_dropped cause)) reasons.Late
      (beside_ground own_dropped all_dropped device (time_of h) (entry_given network device link (numbered all_dropped cause)))
  late_so same =
      let f = from_row (ap of_row same) in
      let found = row_late network at f.0 f.2 f.3 (f.4 ∙ ap Some same) in
      subst (λ o. IsDroppedBy network device o reasons.Late (beside_ground own_dropped all_dropped device (time_of h) o)) (sym f.1)
      (subst (λ z. (occurs_in f.0.vl (cycle_at network z) ≡ true) × ((window_of network f.0).to.0 <ℤ offset_in_cycle network z)) clock_same found)

  old_gate : reasons.Old ≡ reasons.Gate → ⊥
  old_gate e = cc

  pub gate_so : reason ≡ reasons.Gate → is_relay network device ≡ true
      → IsShutBy (gate_ground network device (clock_of (standpoint own_dropped all_dropped device (time_of h))))
  gate_so same relay =
      let shut = shuts dropped in
      let test = both_right (is_relay network device && is_synchronised at.state) (is_beyond (clock_of at)) (regroup (is_relay network device)
      (is_synchronised at.state) (is_beyond (clock_of at)) shut) in
      let beyond = int_lt-is (pos (amount network.correction + 2 * amount network.precision)) (beyond_of (clock_of at)) test in
      let told = subst (λ (z : ℤ). pos (amount network.correction + 2 * amount network.precision) <ℤ beyond_of z) clock_same beyond in
      subst (λ (b : Bool). IsShutBy (if b then Gate (beyond_of (clock_of (standpoint own_dropped all_dropped device (time_of h))))
      (amount network.correction + 2 * amount network.precision) else Untold)) (sym relay) told
    where
      beyond_of : ℤ → ℤ
      beyond_of z = offset_in_cycle network (z +ℤ pos (2 * amount network.precision))

      is_beyond : ℤ → Bool
      is_beyond z = int_lt (pos (amount network.correction + 2 * amount network.precision)) (beyond_of z)

      regroup : (a b c : Bool) → (a && b && c) ≡ true → ((a && b) && c) ≡ true
      regroup true b c e = e
      regroup false b c e = e

      by_signal : (signal : Signal) → arrivals.Dropped reason ≡ arrival_of own_dropped before_dropped device (time_of h) link cause signal
          → is_gate_shut network device at ≡ true
      by_signal (timed found) e =
          absurd (never_gated network device link at found (last_taken before_dropped device (time_of h) link cause)
          (ap (λ (r : Reason). arrivals.Dropped r) (sym same) ∙ e))
      by_signal (control f) e =
          elim (control_drop network device link at f reason e) [
            | inl refusal ↦ absurd (true_is_false (ap of_gate (sym same ∙ refusal.1) ∙ refused_gate at.takes_part refusal.0))
            | inr frame ↦ gate_fault network device link at frame.0 (frame.1 ∙ ap Some same)
          ]

      shuts : IsDropped own_dropped before_dropped device (time_of h) link cause reason → is_gate_shut network device at ≡ true
      shuts (inl a) = by_signal a.signal a.becomes
      shuts (inr (inl b)) =
          absurd (relay_is_none network device (permanent_drop reason b.1).0 relay)
      shuts (inr (inr d)) = absurd (old_gate (sym d.1 ∙ same))
