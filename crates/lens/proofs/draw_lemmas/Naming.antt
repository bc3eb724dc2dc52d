-- The picture of one thing that is named: which lanes it has, and how it is answered.
use Rattle.std.{specs.{Option.option_map_or, Prelude.{if◌then◌else◌, ◌==◌, map, option_map, slice_get, unwrap_or}}}
use Rattle.std.proofs.{lemmas.{Bool.{cases_lt, eq-eqb, eqb-true, false≢true}, List.drop_all}}
use Rattle.std.proofs.Common
use Common.{◌<◌, ◌∙◌, ◌∷◌, ◌≡◌, ◌≤◌, ◌⊎◌, Bool, List, None, Ok, Option, Result, Some, [], ap, arith, drop, false, inl}
use Common.{inr, length, refl, subst, suc, sym, true, zero, ℕ}
use Rattle.lens.{proofs.draw_lemmas.Keeping.{flag_other, seen_at, set_still, with_long, with_other, with_same}}
use Rattle.lens.specs.{Limit.report_limit}
use Rattle.lens.specs.{declared.{draw.subject.Subject.{Subject, TheVariants.{Frames, Lane}}, forms.RunPart.RunPart}}
use Rattle.lens.specs.draw.{Answer.draw_answer, Spans.span_of}
use Rattle.lens.specs.draw.Keeping
use Keeping.{AreFlags, AreLanes, IsKept, StandsIn, Tells, lanes_on, passed_on, with_flag, with_lane}
use Rattle.lens.specs.draw.Naming
use Naming.{AnswersNamed, CompletesNamed, IsKeptAnswer, IsNamedAnswer, IsNamedStatus, IsUnknown, LeavesNamed}
use Naming.{LeavesUnnamed, Names, unknown_answer, view_of}
use Rattle.lens_svg.specs.{Bodies.scene_of, Layout.holds, Sketching.{glance_of, moment, with_at}, Views.flag_at}
use Rattle.lens_svg.specs.{declared.{glance.Glance.Glance, layout.Span.Span}}
use Rattle.lens_why.proofs.{Comings.comes_from_earlier, Cutting.{founded_of, happening_at, number_of}}
use Rattle.net_plan.specs.{Bearers.IsFirstBearer}
use Rattle.net_plan.specs.{declared.{ids.{DeviceId.DeviceId, VlId.VlId}, network.Network.Network}}
use Rattle.run_law.specs.{declared.note.Note.Note}
use Rattle.run_law.specs.{records.{Causes.cause_of, Happenings.{Happening, happenings, numbered}, Order.IsIn}}
use Rattle.schedule_checker.specs.Refusals.{RefusalIsOne}
use Rattle.tte_audit.specs.Report.{scenario_of}
use Rattle.tte_forms.proofs.{Octets.{for_all, for_more}, Puts.answer_widened}
use Rattle.tte_forms.proofs.{networks.Answers.{accepted_alone, network_answer_one}}
use Rattle.tte_forms.specs.{Answering.{Answer, ForOctets, Gives, GivesAnswer}, Putting.Shown}
use Rattle.tte_forms.specs.{networks.Accepting.{IsNetworkAnswer, MeansAccepted}}
use Rattle.tte_forms.specs.declared.status.Status.{Status}
use Rattle.tte_forms.specs.declared.status.Status.{TheVariants.{Done, NameRefused, OutOfMemory, ReadFault, WriteFault}}
use Rattle.tte_reports.proofs.{Reports.{files_safely, report_alone, report_one}, Sources.GivesFiles}
use Rattle.tte_reports.specs.{Answer.IsAuditStatus, Places.note_at}
use Rattle.tte_reports.specs.{Reports.{AnswersFor, IsOneFor, IsReportAnswer, IsReportOf}, Safely.AuditsSafely}
use Rattle.tte_units.specs.declared.units.Units.{Units}

-- ---- which lanes a picture of one thing has

none_set : {X : Type 0} (xs : List X) (place : ℕ) → unwrap_or (slice_get (map (λ x. false) xs) place) false ≡ false
none_set [] place = refl
none_set (x ∷ xs) zero = refl
none_set (x ∷ xs) (suc place) = none_set xs place

as_long : {X : Type 0} (xs : List X) → length (map (λ x. false) xs) ≡ length xs
as_long [] = refl
as_long (x ∷ xs) = ap suc (as_long xs)

module _ (network : Network) (span : Span) (records : List Bool) where
  -- one of the records stands there
  abbrev HasOne : List Note → ℕ → Type 0
  HasOne ns place = (note : Note) × IsIn note ns × StandsIn network span records note place

  -- of no records no device has a lane
  pub lanes_none : (lanes : List Bool) → lanes ≡ map (λ d. false) network.device → AreLanes network span records [] lanes
  lanes_none lanes are = record {
    count = ap length are ∙ as_long network.device;
    each = λ place within. record {
      holds = λ flag. absurd (false≢true (sym (ap (λ (ls : List Bool). unwrap_or (slice_get ls place) false) are ∙ none_set network.device place) ∙ flag));
      told = λ has. absurd has.1;
    };
  }

  -- so it is behind the last record
  pub lanes_first : (ns : List Note) (lanes : List Bool) → lanes ≡ map (λ d. false) network.device
      → AreLanes network span records (drop (length ns) ns) lanes
  lanes_first ns lanes are =
      subst (λ xs. AreLanes network span records xs lanes) (sym (drop_all (length ns) ns (omega arith))) (lanes_none lanes are)

  -- ---- one record more in front

  module _ (ns : List Note) (note : Note) where
    abbrev at : ℕ
    at = (scene_of network note.body).0

    -- the flag of a place where that of the record's lane is set
    abbrev flag_in : List Bool → ℕ → Bool
    flag_in lanes place = unwrap_or (slice_get (with_at lanes at true) place) false

    wider : (place : ℕ) → HasOne ns place → HasOne (note ∷ ns) place
    wider place has = (has.0, inr has.1, has.2)

    narrower : (place : ℕ) → (StandsIn network span records note place → ⊥) → HasOne (note ∷ ns) place → HasOne ns place
    narrower place not has = by has.1
      where
        by : (has.0 ≡ note) ⊎ IsIn has.0 ns → HasOne ns place
        by (inl same) = absurd (not (subst (λ n. StandsIn network span records n place) same has.2))
        by (inr there) = (has.0, there, has.2)

    -- what the flag of a lane tells, it tells with a record more that does not stand there
    still : (place : ℕ) (flag more : Bool) → more ≡ flag → (StandsIn network span records note place → ⊥)
        → Tells flag (HasOne ns place) → Tells more (HasOne (note ∷ ns) place)
    still place flag more same not tells = record {
      holds = λ set. wider place (tells.holds (sym same ∙ set));
      told = λ has. same ∙ tells.told (narrower place not has);
    }

    -- a record that is not drawn
    lanes_still : (lanes : List Bool) → ((place : ℕ) → StandsIn network span records note place → ⊥)
        → AreLanes network span records ns lanes → AreLanes network span records (note ∷ ns) lanes
    lanes_still lanes not are = record {
      count = are.count;
      each = λ place within. still place (unwrap_or (slice_get lanes place) false) (unwrap_or (slice_get lanes place) false) refl
          (not place) (are.each place within);
    }

    -- one that is
    lanes_more : (lanes : List Bool) → holds span (moment note) ≡ true → flag_at records note.number ≡ true
        → AreLanes network span records ns lanes
        → AreLanes network span records (note ∷ ns) (with_at lanes (scene_of network note.body).0 true)
    lanes_more lanes within kept are = record {
      count = with_long lanes (suc at) ∙ are.count;
      each = λ place inside. by place inside (place == at) refl;
    }
      where
        stands : StandsIn network span records note at
        stands = record { within = within; kept = kept; at = refl }

        here : at < length network.device → Tells (flag_in lanes at) (HasOne (note ∷ ns) at)
        here inside = let many = are.count in record {
          holds = λ set. (note, inl refl, stands);
          told = λ has. with_same lanes at (omega (arith, inside, many));
        }

        by : (place : ℕ) → place < length network.device → (b : Bool) → (place == at) ≡ b
            → Tells (flag_in lanes place) (HasOne (note ∷ ns) place)
        by place inside true e =
            let same : place ≡ at = eqb-true place at e in
            subst (λ (p : ℕ). Tells (flag_in lanes p) (HasOne (note ∷ ns) p)) (sym same)
            (here (subst (λ p. p < length network.device) same inside))
        by place inside false e =
            let apart : place ≡ at → ⊥ = λ same. false≢true (sym e ∙ eq-eqb place at same) in
            still place (unwrap_or (slice_get lanes place) false) (flag_in lanes place) (with_other lanes at place apart)
            (λ s. apart (sym s.at)) (are.each place inside)

    -- one without a flag
    pub lanes_unset : (lanes : List Bool) → flag_at records note.number ≡ false
        → AreLanes network span records ns lanes → AreLanes network span records (note ∷ ns) lanes
    lanes_unset lanes unset are = lanes_still lanes (λ place s. false≢true (sym unset ∙ s.kept)) are

    -- one with a flag, which may lie in the span
    pub lanes_set : (lanes : List Bool) → flag_at records note.number ≡ true → AreLanes network span records ns lanes
        → AreLanes network span records (note ∷ ns) (with_lane span (glance_of network note) lanes)
    lanes_set lanes kept are = by (holds span (moment note)) refl
      where
        by : (b : Bool) → holds span (moment note) ≡ b
            → AreLanes network span records (note ∷ ns) (if b then with_at lanes (scene_of network note.body).0 true else lanes)
        by true within = lanes_more lanes within kept are
        by false out = lanes_still lanes (λ place s. false≢true (sym out ∙ s.within)) are

-- the lanes are the same by other flags, which are the same for each of the records
lanes_same : (network : Network) (span : Span) (old new : List Bool) (ns : List Note) (lanes : List Bool)
    → ((n : Note) → IsIn n ns → flag_at new n.number ≡ flag_at old n.number)
    → AreLanes network span old ns lanes → AreLanes network span new ns lanes
lanes_same network span old new ns lanes same are = record {
  count = are.count;
  each = λ place within. let tells = are.each place within in record {
    holds = λ flag. let has = tells.holds flag in
        (has.0, has.1, record { within = has.2.within; kept = same has.0 has.1 ∙ has.2.kept; at = has.2.at });
    told = λ has. tells.told (has.0, has.1, record { within = has.2.within; kept = sym (same has.0 has.1) ∙ has.2.kept; at = has.2.at });
  };
}

-- ---- from the last record to the first

drop_at : (ns : List Note) (m : ℕ) (note : Note) → slice_get ns m ≡ Some note → drop m ns ≡ note ∷ drop (suc m) ns
drop_at [] zero note e = absurd cc
drop_at [] (suc m) note e = absurd cc
drop_at (n ∷ ns) zero note e = let same : n ≡ note = cc in ap (λ (x : Note). x ∷ ns) same
drop_at (n ∷ ns) (suc m) note e = drop_at ns m note e

drop_none : (ns : List Note) (m : ℕ) → slice_get ns m ≡ None → drop m ns ≡ drop (suc m) ns
drop_none [] zero e = refl
drop_none [] (suc m) e = refl
drop_none (n ∷ ns) zero e = absurd cc
drop_none (n ∷ ns) (suc m) e = drop_none ns m e

in_rest : (ns : List Note) (m : ℕ) (note : Note) → IsIn note (drop m ns) → (i : ℕ) × (m ≤ i) × (slice_get ns i ≡ Some note)
in_rest [] zero note there = absurd there
in_rest [] (suc m) note there = absurd there
in_rest (n ∷ ns) zero note (inl same) = (zero, omega arith, ap (λ (x : Note). Some x) (sym same))
in_rest (n ∷ ns) zero note (inr there) = let at = in_rest ns zero note there in (suc at.0, omega arith, at.2)
in_rest (n ∷ ns) (suc m) note there =
    let at = in_rest ns m note there in
    let le = at.1 in
    (suc at.0, omega (arith, le), at.2)

module _ (network : Network) (octets : List ℕ) (ns : List Note) (end : Units) (of : IsReportOf network octets ns end) where
  -- a cause is before what it causes
  cause_before : (n : ℕ) (note : Note) → note_at ns n ≡ Some note → cause_of note.body < n
  cause_before n note there =
      let h = happening_at network ns n note there in
      let some = numbered_some (happenings network ns) n h.0 h.1 in
      let before : cause_of h.0.note.body < n =
      elim (comes_from_earlier (scenario_of network ns) (happenings network ns) (founded_of of) n h.0 h.1) [
        | inl none ↦ omega (arith, none, some)
        | inr earlier ↦ earlier.2
      ] in
      subst (λ (x : Note). cause_of x.body < n) h.2 before
    where
      numbered_some : (hs : List Happening) (k : ℕ) (h : Happening) → numbered hs k ≡ Some h → 1 ≤ k
      numbered_some hs zero h e = absurd cc
      numbered_some hs (suc k) h e = omega arith

  module _ (span : Span) (m number : ℕ) (is : number ≡ suc m) (flags lanes : List Bool)
      (are : AreLanes network span flags (drop number ns) lanes) where
    rest : AreLanes network span flags (drop (suc m) ns) lanes
    rest = subst (λ k. AreLanes network span flags (drop k ns) lanes) is are

    without : note_at ns (suc m) ≡ None → AreLanes network span flags (drop m ns) lanes
    without none = subst (λ xs. AreLanes network span flags xs lanes) (sym (drop_none ns m none)) rest

    module _ (note : Note) (there : note_at ns (suc m) ≡ Some note) where
      its : note.number ≡ number
      its = number_of of (suc m) note there ∙ sym is

      in_front : (fs ls : List Bool) → AreLanes network span fs (note ∷ drop (suc m) ns) ls → AreLanes network span fs (drop m ns) ls
      in_front fs ls so = subst (λ xs. AreLanes network span fs xs ls) (sym (drop_at ns m note there)) so

      unset : flag_at flags number ≡ false → AreLanes network span flags (drop m ns) lanes
      unset e = in_front flags lanes (lanes_unset network span flags (drop (suc m) ns) note lanes (ap (flag_at flags) its ∙ e) rest)

      -- the records behind are not the cause
      apart : (n : Note) → IsIn n (drop (suc m) ns) → n.number ≡ cause_of note.body → ⊥
      apart n i same =
          let at = in_rest ns (suc m) n i in
          let later = at.1 in
          let numbered_so = number_of of (suc at.0) n at.2 in
          let less = cause_before (suc m) note there in
          omega (arith, later, numbered_so, less, same)

      set : flag_at flags number ≡ true
          → AreLanes network span (with_flag flags (cause_of note.body)) (drop m ns) (with_lane span (glance_of network note) lanes)
      set e =
          let cause = cause_of note.body in
          let more = with_flag flags cause in
          let kept = set_still flags cause note.number (ap (flag_at flags) its ∙ e) in
          in_front more (with_lane span (glance_of network note) lanes)
          (lanes_set network span more (drop (suc m) ns) note lanes kept
          (lanes_same network span flags more (drop (suc m) ns) lanes (λ n i. flag_other flags cause n.number (apart n i)) rest))

    -- behind a record of which this was taken, if it has a flag
    abbrev has_lanes : Option Glance → Bool → Type 0
    has_lanes o b =
        AreLanes network span (if b then with_flag flags (option_map_or (λ (glance : Glance). glance.cause) o 0) else flags) (drop m ns)
        (if b then option_map_or (λ (glance : Glance). with_lane span glance lanes) o lanes else lanes)

    next_by : (b : Bool) (o : Option Note) → flag_at flags number ≡ b → note_at ns number ≡ o
        → has_lanes (option_map (glance_of network) o) b
    next_by false None e at = without (sym (ap (note_at ns) is) ∙ at)
    next_by false (Some note) e at = unset note (sym (ap (note_at ns) is) ∙ at) e
    next_by true None e at = without (sym (ap (note_at ns) is) ∙ at)
    next_by true (Some note) e at = set note (sym (ap (note_at ns) is) ∙ at) e

    -- the flags and lanes with what comes of one record more
    pub lanes_next : AreLanes network span (passed_on (map (glance_of network) ns) number flags) (drop m ns)
        (lanes_on span (map (glance_of network) ns) number flags lanes)
    lanes_next =
        subst (λ o. has_lanes o (flag_at flags number)) (sym (seen_at network ns number)) (next_by (flag_at flags number) (note_at ns number) refl refl)

-- ---- what is answered where a name is given: how, safely, to its end, and once

-- it may end as an audit does
pub named_audits : (status : Status) → IsAuditStatus status → IsNamedStatus status
named_audits NameRefused h = tt
named_audits other h = h

-- ---- one name

first_same : {names : List (List ℕ)} {name : List ℕ} {i k : ℕ} → IsFirstBearer names name i
    → IsFirstBearer names name k → i ≡ k
first_same {i} {k} a b =
    elim (cases_lt i k) [
      | inl less ↦ absurd (b.first i less a.bears)
      | inr ge ↦ elim (cases_lt k i) [
        | inl less ↦ absurd (a.first k less b.bears)
        | inr le ↦ omega (arith, ge, le)
      ]
    ]

vl_made : (v : VlId) (n : ℕ) → v.0 ≡ n → v ≡ record { 0 = n }
vl_made v n e = ap (λ (i : ℕ). let w : VlId = record { 0 = i } in w) e

device_made : (d : DeviceId) (n : ℕ) → d.0 ≡ n → d ≡ record { 0 = n }
device_made d n e = ap (λ (i : ℕ). let w : DeviceId = record { 0 = i } in w) e

module _ (network : Network) (name : List ℕ) where
  -- a name names one thing
  one_subject : (a b : Subject) → Names network name a → Names network name b → a ≡ b
  one_subject (Frames v) (Frames w) p q =
      ap Frames (vl_made v w.0 (first_same p q))
  one_subject (Frames v) (Lane d) p q = absurd (q.0 v.0 p.bears)
  one_subject (Lane d) (Frames v) p q = absurd (p.0 v.0 q.bears)
  one_subject (Lane d) (Lane e) p q =
      ap Lane (device_made d e.0 (first_same p.1 q.1))

  -- what is named is not unknown
  pub not_unknown : (subject : Subject) → Names network name subject → IsUnknown network name → ⊥
  not_unknown (Frames v) names unknown = unknown.0 v.0 names.bears
  not_unknown (Lane d) names unknown = unknown.1 d.0 names.1.bears

-- ---- one picture

bools_same : (xs ys : List Bool) → length xs ≡ length ys → ((i : ℕ) → i < length xs → unwrap_or (slice_get xs i) false ≡ unwrap_or (slice_get ys i) false)
    → xs ≡ ys
bools_same [] [] count each = refl
bools_same [] (y ∷ ys) count each = absurd (omega (arith, count))
bools_same (x ∷ xs) [] count each = absurd (omega (arith, count))
bools_same (x ∷ xs) (y ∷ ys) count each =
    ap (λ (b : Bool). b ∷ xs) (each 0 (omega arith))
    ∙ ap (λ (bs : List Bool). y ∷ bs) (bools_same xs ys (omega (arith, count)) (λ i within. each (suc i) (omega (arith, within))))

tells_same : (a b : Bool) (P : Type 0) → Tells a P → Tells b P → a ≡ b
tells_same true b P p q = sym (q.told (p.holds refl))
tells_same false false P p q = refl
tells_same false true P p q = p.told (q.holds refl)

there_at : (hs : List Happening) (i : ℕ) → i < length hs → (h : Happening) × (slice_get hs i ≡ Some h)
there_at [] i within = absurd (omega (arith, within))
there_at (h ∷ hs) zero within = (h, refl)
there_at (h ∷ hs) (suc i) within = there_at hs i (omega (arith, within))

one_flags : {network : Network} {subject : Subject} {hs : List Happening} {xs ys : List Bool}
    → AreFlags network subject hs xs → AreFlags network subject hs ys → xs ≡ ys
one_flags {network} {subject} {hs} {xs} {ys} p q =
    let first = p.count in
    let second = q.count in
    bools_same xs ys (omega (arith, first, second)) (λ i within.
    let at = there_at hs i (omega (arith, within, first)) in
    tells_same (flag_at xs (suc i)) (flag_at ys (suc i)) (IsKept network subject hs at.0) (p.each (suc i) at.0 at.1) (q.each (suc i) at.0 at.1))

one_lanes : {network : Network} {span : Span} {records : List Bool} {ns : List Note} {xs ys : List Bool}
    → AreLanes network span records ns xs → AreLanes network span records ns ys → xs ≡ ys
one_lanes {network} {span} {records} {ns} {xs} {ys} p q =
    let first = p.count in
    let second = q.count in
    bools_same xs ys (omega (arith, first, second)) (λ i within.
    let inside : i < length network.device = omega (arith, within, first) in
    tells_same (unwrap_or (slice_get xs i) false) (unwrap_or (slice_get ys i) false)
    ((note : Note) × IsIn note ns × StandsIn network span records note i) (p.each i inside) (q.each i inside))

kept_one : (words : List (List ℕ)) (part : RunPart) (subject : Subject) → IsOneFor (IsKeptAnswer words part subject)
kept_one words part subject network octets ns end a b rules of p q =
    let span = span_of network part in
    let records = one_flags p.are_kept q.are_kept in
    let lanes = one_lanes
    (subst (λ rs. AreLanes network span rs ns p.lanes) records p.are_lanes) q.are_lanes in
    p.is
    ∙ ap (λ rs. draw_answer network (view_of words span rs p.lanes) ns) records
    ∙ ap (λ ls. draw_answer network (view_of words span q.records ls) ns) lanes
    ∙ sym q.is

-- ---- how it is given

module _ (words : List (List ℕ)) (part : RunPart) (name : List ℕ) (network : Network) where
  pub named_given : (subject : Subject) (second : Option (List ℕ)) (status : Status) (old new : Shown)
      → Names network name subject → ForOctets second
      (λ report. GivesAnswer (IsReportAnswer report_limit (IsKeptAnswer words part subject) report network) status
      old new)
      → ForOctets second (λ report. GivesAnswer (IsNamedAnswer words part name report network) status old new)
  named_given subject second status old new names given =
      for_more second (λ report. GivesAnswer (IsReportAnswer report_limit (IsKeptAnswer words part subject) report
      network) status old new)
      (λ report. GivesAnswer (IsNamedAnswer words part name report network) status old new)
      (λ report. answer_widened (IsReportAnswer report_limit (IsKeptAnswer words part subject) report network)
      (IsNamedAnswer words part name report network) status old new
      (λ a is. inr (subject, names, is))) given

  pub unknown_given : (second : Option (List ℕ)) (status : Status) {old new : Shown} → IsUnknown network name
      → Gives unknown_answer status old new → ForOctets second
      (λ report. GivesAnswer (IsNamedAnswer words part name report network) status old new)
  unknown_given second status {old} {new} unknown given =
      for_all second (λ report. GivesAnswer (IsNamedAnswer words part name report network) status old new)
      (λ report. inl (unknown_answer, inl (unknown, refl), given))

-- what is read is one network
same_read : {E : Type 0} (read : Result Network E) (n m : Network) → read ≡ Ok n → read ≡ Ok m → n ≡ m
same_read read n m p q = cc

-- what is said of the network that was accepted is said of the one that the octets mean
pub left_unnamed : (name : List ℕ) (first : Option (List ℕ)) (accepted : Network) (Unread : Type 0)
    → ForOctets first (λ octets. MeansAccepted octets accepted) → LeavesNamed accepted name Unread → LeavesUnnamed name first Unread
left_unnamed name None accepted Unread means leaves = tt
left_unnamed name (Some octets) accepted Unread means leaves = λ network other unknown.
    let same : network ≡ accepted = same_read _ network accepted other.read means.read in
    leaves (subst (λ n. IsUnknown n name) same unknown)

pub unread_unnamed : (name : List ℕ) (first : Option (List ℕ)) (Unread : Type 0) → Unread → LeavesUnnamed name first Unread
unread_unnamed name None Unread unread = tt
unread_unnamed name (Some octets) Unread unread = λ network other unknown. unread

-- ---- safely

-- the answers for the records, of whatever is named
abbrev KeptOfAny : List (List ℕ) → RunPart → AnswersFor
KeptOfAny words part network ns end a = (subject : Subject) × IsKeptAnswer words part subject network ns end a

report_of_any : (words : List (List ℕ)) (part : RunPart) (subject : Subject) {report : List ℕ} {network : Network}
    (a : Answer) → IsReportAnswer report_limit (IsKeptAnswer words part subject) report network a
    → IsReportAnswer report_limit (KeptOfAny words part) report network a
report_of_any words part subject a (inl h) = inl h
report_of_any words part subject a (inr (fits, inl h)) = inr (fits, inl h)
report_of_any words part subject a (inr (fits, inr h)) = inr (fits, inr (h.0, h.1, h.2, (subject, h.3)))

module _ (words : List (List ℕ)) (part : RunPart) (name : List ℕ) where
  done_known : {report : List ℕ} {network : Network} (a : Answer) → Done ≡ a.status
      → IsNamedAnswer words part name report network a → IsReportAnswer report_limit
      (KeptOfAny words part) report network a
  done_known a done (inl h) =
      let e : Done ≡ NameRefused = done ∙ ap (λ (x : Answer). x.status) h.1 in absurd cc
  done_known a done (inr h) = report_of_any words part h.0 a h.2

  done_files : {octets : List ℕ} (report : List ℕ) (a : Answer) → Done ≡ a.status
      → IsNetworkAnswer (IsNamedAnswer words part name report) octets a
      → IsNetworkAnswer (IsReportAnswer report_limit (KeptOfAny words part) report) octets a
  done_files report a done (inl h) = inl h
  done_files report a done (inr (inl h)) = inr (inl h)
  done_files report a done (inr (inr (inl h))) = inr (inr (inl h))
  done_files report a done (inr (inr (inr h))) = inr (inr (inr (h.0, h.1, done_known a done h.2)))

  done_given : (octets report : List ℕ) (status : Status) {old new : Shown} → status ≡ Done
      → GivesAnswer (IsNetworkAnswer (IsNamedAnswer words part name report) octets) status old new → GivesAnswer
      (IsNetworkAnswer (IsReportAnswer report_limit (KeptOfAny words part) report) octets) status old new
  done_given octets report status done (inl (a, is, inl g)) =
      inl (a, done_files report a (sym done ∙ g.0) is, inl g)
  done_given octets report status done (inl (a, is, inr (inl g))) = let e = g.0 in absurd cc
  done_given octets report status done (inl (a, is, inr (inr (inl r, p)))) = absurd cc
  done_given octets report status done (inl (a, is, inr (inr (inr m, p)))) = absurd cc
  done_given octets report status done (inr none) = inr none

  pub named_safely : (first second : Option (List ℕ)) (status : Status) (old new : Shown)
      → GivesFiles (λ report. IsNamedAnswer words part name report) first second status old new
      → AuditsSafely first second status
  named_safely first second status old new given done =
      files_safely report_limit (KeptOfAny words part) first second status old new
      (for_more first (λ octets. ForOctets second (λ report. GivesAnswer
      (IsNetworkAnswer (IsNamedAnswer words part name report) octets) status old new))
      (λ octets. ForOctets second (λ report. GivesAnswer
      (IsNetworkAnswer (IsReportAnswer report_limit (KeptOfAny words part) report) octets) status old new))
      (λ octets. for_more second (λ report. GivesAnswer
      (IsNetworkAnswer (IsNamedAnswer words part name report) octets) status old new)
      (λ report. GivesAnswer (IsNetworkAnswer (IsReportAnswer report_limit (KeptOfAny words part) report) octets)
      status old new)
      (λ report. done_given octets report status {old = old} {new = new} done)) given) done

  -- ---- to its end

  whole_unknown : {report : List ℕ} {network : Network} (a : Answer) → IsUnknown network name
      → IsNamedAnswer words part name report network a → a.status ≡ NameRefused
  whole_unknown a unknown (inl h) = ap (λ (x : Answer). x.status) h.1
  whole_unknown {network} a unknown (inr h) = absurd (not_unknown network name h.0 h.1 unknown)

  whole_named : {octets report : List ℕ} {network : Network} (subject : Subject) {ns : List Note} {end : Units}
      (a : Answer) → MeansAccepted octets network → Names network name subject → length report ≤ report_limit
      → IsReportOf network report ns end → IsNamedAnswer words part name report network a
      → IsKeptAnswer words part subject network ns end a
  whole_named {network} subject a means names fits of (inl h) = absurd (not_unknown network name subject names h.0)
  whole_named {report} {network} subject a means names fits of (inr h) =
      report_alone report_limit (IsKeptAnswer words part subject) means.rules fits of a
      (subst (λ s. IsReportAnswer report_limit (IsKeptAnswer words part s) report network a)
      (one_subject network name h.0 subject h.1 names) h.2)

module _ (words : List (List ℕ)) (part : RunPart) (name octets report : List ℕ) (status : Status) (old new : Shown) (SourceRose SinkRose : Type 0)
    (read : status ≡ ReadFault → SourceRose) (write : status ≡ WriteFault → SinkRose) (quiet : SourceRose → ⊥) (calm : SinkRose → ⊥) where
  -- the whole answer was given, or memory ran out
  abbrev Whole : Type 0
  Whole = (a : Answer) × IsNetworkAnswer (IsNamedAnswer words part name report) octets a × (status ≡ a.status)

  whole_or_less : GivesAnswer (IsNetworkAnswer (IsNamedAnswer words part name report) octets) status old new → Whole ⊎ (status ≡ OutOfMemory)
  whole_or_less (inl (a, is, inl g)) = inl (a, is, g.0)
  whole_or_less (inl (a, is, inr (inl g))) = absurd (calm (write g.0))
  whole_or_less (inl (a, is, inr (inr (inl f, p)))) = absurd (quiet (read f))
  whole_or_less (inl (a, is, inr (inr (inr o, p)))) = inr o
  whole_or_less (inr (inl f, p)) = absurd (quiet (read f))
  whole_or_less (inr (inr o, p)) = inr o

  answers_by : Whole ⊎ (status ≡ OutOfMemory) → AnswersNamed words part name octets report status
  answers_by (inr none) = record { unknown = λ network means unknown. inl none; named = λ network subject ns end means names fits of. inl none }
  answers_by (inl w) = record {
    unknown = λ network means unknown. inr (w.2 ∙ whole_unknown words part name w.0 unknown
        (accepted_alone (IsNamedAnswer words part name report) octets network means w.0 w.1));
    named = λ network subject ns end means names fits of. inr (
      w.0,
      whole_named words part name subject w.0 means names fits of
          (accepted_alone (IsNamedAnswer words part name report) octets network means w.0 w.1),
      w.2,
    );
  }

  answers_named : GivesAnswer (IsNetworkAnswer (IsNamedAnswer words part name report) octets) status old new → AnswersNamed words part name octets report status
  answers_named given = answers_by (whole_or_less given)

pub named_completed : (words : List (List ℕ)) (part : RunPart) (name : List ℕ) (first second : Option (List ℕ)) (status : Status) (old new : Shown) (SourceRose SinkRose : Type 0)
    → GivesFiles (λ report. IsNamedAnswer words part name report) first second status old new → (status ≡ ReadFault → SourceRose)
    → (status ≡ WriteFault → SinkRose) → CompletesNamed words part name first second SourceRose SinkRose status
named_completed words part name (Some octets) (Some report) status old new SourceRose SinkRose given read write = λ quiet calm.
    answers_named words part name octets report status old new SourceRose SinkRose read write quiet calm given
named_completed words part name (Some octets) None status old new SourceRose SinkRose given read write = tt
named_completed words part name None second status old new SourceRose SinkRose given read write = tt

-- ---- once

module _ (one : RefusalIsOne) (words : List (List ℕ)) (part : RunPart) (name : List ℕ) where
  named_both : {report octets : List ℕ} {network : Network} → MeansAccepted octets network → (a b : Answer)
      → IsNamedAnswer words part name report network a → IsNamedAnswer words part name report network b → a ≡ b
  named_both means a b (inl p) (inl q) = p.1 ∙ sym q.1
  named_both {network} means a b (inl p) (inr q) = absurd (not_unknown network name q.0 q.1 p.0)
  named_both {network} means a b (inr p) (inl q) = absurd (not_unknown network name p.0 p.1 q.0)
  named_both {report} {octets} {network} means a b (inr p) (inr q) =
      let same = subst (λ s. IsReportAnswer report_limit (IsKeptAnswer words part s) report network b)
      (one_subject network name q.0 p.0 q.1 p.1) q.2 in
      report_one one report_limit (IsKeptAnswer words part p.0) (kept_one words part p.0) {octets = octets} report a b
      (inr (inr (inr (network, means, p.2)))) (inr (inr (inr (network, means, same))))

  pub named_one : {octets : List ℕ} (report : List ℕ) (a b : Answer)
      → IsNetworkAnswer (IsNamedAnswer words part name report) octets a
      → IsNetworkAnswer (IsNamedAnswer words part name report) octets b → a ≡ b
  named_one {octets} report a b p q =
      network_answer_one one (IsNamedAnswer words part name report) octets
      (λ network means. named_both {report = report} means) a b p q
