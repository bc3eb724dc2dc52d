-- The records that told the best frames of channels are there.
use Rattle.lens_why.proofs.{Grounded.earlier_by, LastRecords.summarized}
use Rattle.run_law.{proofs.{law.FirstDeliveries.{founded_at, in_filter, last_there}, records.Members.in_kept}}
use Rattle.run_law.{specs.{device.LocalClocks.changes_adjustment, records.Order.{IsBefore, IsIn, is_before}}}
use Rattle.tte_reports.specs.Reports.{IsReportOf}
use Rattle.{audit_devices.specs.Keeping.records_before, sync_state.specs.membership.Members.count_of, tte_units.specs.declared.units.Units.Units}
use Rattle.{audit_law.specs.law.CorrectionNumbers.{heard_since_point, points_come}, run_law.specs.records.Happenings.{Happening, happenings, numbered, time_of}}
use Rattle.{audit_law.specs.law.CorrectionPoints.IsPointOf, net_plan.specs.declared.{ids.DeviceId.DeviceId, network.Network.Network}}
use Rattle.lens_why.specs.Corrections.{channel_ground, clique_ground, corrected_ground, heard_at_point, said_by, told_by, told_on, value_of}
use Rattle.{lens_why.specs.{Grounds.ground_by, declared.seeking.Sought.TheVariants.Frame}, run_law.specs.records.Ranks.{key, members_in, place_of, rank}}
use Rattle.lens_why.specs.{Laws.{BestAreThere, best_number, told_in, told_number}, Seeking.{is_channel, is_frame, is_hearing_of, is_sought, last_sought}}
use Rattle.{run_law.specs.control.Corrections.hearing_by, sync_state.specs.membership.Hearing.within_on}
use Rattle.audit_sweep.specs.Indexing.{before_corrections}
use Rattle.run_law.proofs.records.Order.{before_is, given_of, has_passed, in_drop, is_there}
use Rattle.sync_state.specs.declared.membership.frame.HeardFrame.{HeardFrame}
use Rattle.run_law.{proofs.runs.Places.{in_parts, in_right}, specs.{declared.note.{Note.Note, NoteBody.NoteBody}, device.States.adjustment_before}}
use Rattle.{run_law.specs.scenario.Scenarios.Scenario, std.proofs.{Common.{subst, sym, true, ℕ, ℤ}, lemmas.{Bool.{and_from, eq-eqb}, Int.ints}}}
use Rattle.std.proofs.Common.{◌&&◌, ◌<◌, ◌==◌, ◌∙◌, ◌∷◌, ◌≡◌, ◌≤◌, Bool, List, None, Option, Some, [], ap, arith, false, filter, if◌then◌else◌, inl, inr, refl}
use Rattle.{std.specs.{List.{after_last, last_or}, Option.option_map_or}, tte_audit.specs.Report.scenario_of}
use Rattle.{std.specs.Prelude.{int_le, nat_le, nat_lt, option_and_then, option_map}, tte_units.specs.declared.frames.channel.Channel.TheVariants.{A, B}}
use Rattle.{sync_state.specs.membership.{BestFrame.{IsBest, IsBestOf}, Summary.{Summary, best_on}}, tte_units.specs.declared.frames.channel.Channel.Channel}
use Rattle.run_law.specs.declared.judgement.Why.TheVariants as whys
use Rattle.run_law.specs.declared.note.NoteBody.TheVariants as notes

-- ---- lists

last_from : {X : Type 0} (a : X) (xs : List X) → (y : X) × (last_or (Some a) xs ≡ Some y)
last_from a [] = (a, refl)
last_from a (x ∷ xs) = last_from x xs

last_some : {X : Type 0} (xs : List X) (x : X) → IsIn x xs → (y : X) × (last_or None xs ≡ Some y)
last_some [] x i = absurd i
last_some (a ∷ xs) x i = last_from a xs

-- what is before the corrections of a time is before each place of the time and of that rank or a higher one
widened : (p : List ℕ) (t r : ℕ) (more : List ℕ) → 6 ≤ r → IsBefore p (t ∷ 6 ∷ []) → IsBefore p (t ∷ r ∷ more)
widened [] t r more high b = tt
widened (x ∷ xs) t r more high (inl less) = inl less
widened (x ∷ []) t r more high (inr b) = inr (b.0, tt)
widened (x ∷ y ∷ ys) t r more high (inr b) = inr (b.0, by b.1)
  where
    by : IsBefore (y ∷ ys) (6 ∷ []) → IsBefore (y ∷ ys) (r ∷ more)
    by (inl less) = inl (omega (arith, less, high))
    by (inr none) = absurd none.1

-- ---- the frame that is looked for

own_channel : (channel : Channel) → is_channel channel channel ≡ true
own_channel A = refl
own_channel B = refl

own_number : (z : ℤ) → int_le z z ≡ true
own_number z = grind (arith, ints)

own_frame : (frame : HeardFrame) → is_frame frame frame ≡ true
own_frame frame =
    and_from (frame.cycle == frame.cycle) (frame.members.0 == frame.members.0 && (int_le frame.point.0 frame.point.0 && int_le frame.point.0 frame.point.0))
    (eq-eqb frame.cycle frame.cycle refl)
    (and_from (frame.members.0 == frame.members.0) (int_le frame.point.0 frame.point.0 && int_le frame.point.0 frame.point.0)
    (eq-eqb frame.members.0 frame.members.0 refl)
    (and_from (int_le frame.point.0 frame.point.0) (int_le frame.point.0 frame.point.0) (own_number frame.point.0) (own_number frame.point.0)))

own_hearing : (channel : Channel) (frame : HeardFrame) → is_hearing_of channel frame (Some (within_on channel frame)) ≡ true
own_hearing channel frame = and_from (is_channel channel channel) (is_frame frame frame) (own_channel channel) (own_frame frame)

module _ (network : Network) (octets : List ℕ) (ns : List Note) (end : Units) (of : IsReportOf network octets ns end) (number : ℕ) (h : Happening)
    (there : numbered (happenings network ns) number ≡ Some h) where
  abbrev own : Scenario
  own = scenario_of network ns

  abbrev all : List Happening
  all = happenings network ns

  abbrev Earlier : ℕ → Type 0
  Earlier n = (g : Happening) × (numbered all n ≡ Some g) × (n < h.note.number)

  -- a record that is looked for is found where there is one
  there_by : (device : DeviceId) (channel : Channel) (frame : HeardFrame) (g : Happening) → IsIn g (records_before (place_of h) all)
      → is_sought network (Frame device channel frame) g g.note.body ≡ true
      → Earlier (last_sought network (Frame device channel frame) (records_before (place_of h) all))
  there_by device channel frame g i passes =
      let test : Happening → Bool = λ x. is_sought network (Frame device channel frame) x x.note.body in
      let before = records_before (place_of h) all in
      let last = last_some (filter test before) g (in_kept test before g i passes) in
      let is : last_sought network (Frame device channel frame) before ≡ last.0.note.number =
      ap (λ (o : Option Happening). option_map_or (λ (x : Happening). x.note.number) o 0) last.1 in
      elim (earlier_by network octets ns end of number h there (Frame device channel frame)) [
        | inl none ↦ absurd (never last.0 before test last.1 (sym is ∙ none))
        | inr e ↦ e
      ]
    where
      -- the number of a record of the report is not 0
      some : (x : Happening) → IsIn x all → x.note.number ≡ 0 → ⊥
      some x j zero_is =
          let at = founded_at own all x of.run.founded j in
          omega (arith, at.due.number, zero_is)

      never : (x : Happening) (before : List Happening) (test : Happening → Bool) → last_or None (filter test (records_before (place_of h) all)) ≡ Some x
          → x.note.number ≡ 0 → ⊥
      never x before test e zero_is =
          some x (in_filter (λ y. is_before (place_of y) (place_of h)) all x (in_filter test (records_before (place_of h) all) x
          (last_there (filter test (records_before (place_of h) all)) x e))) zero_is

  -- the best frame was told by a record before
  best_found : (device : DeviceId) (channel : Channel) (frame : HeardFrame) → 6 ≤ rank h.note.body
      → best_on channel (heard_at_point own all device (time_of h)) ≡ Some frame
      → Earlier (last_sought network (Frame device channel frame) (records_before (place_of h) all))
  best_found device channel frame high e =
      let t = time_of h in
      let heard = heard_since_point own (before_corrections t all) device t in
      let best : IsBest heard channel frame = subst (IsBestOf heard channel) e ((summarized heard).best channel) in
      let in_heard : IsIn (within_on channel frame) heard = subst (IsIn (within_on channel frame)) (sym best.is_heard)
      (in_right (within_on channel frame) best.before (within_on channel frame ∷ best.after) (inl refl)) in
      let bc : List Happening = before_corrections t all in
      let since : List Happening = after_last (λ x. nat_lt (time_of x) t && changes_adjustment device x.note.body) bc in
      let same : Happening → Bool = λ x. points_come own bc device t t == points_come own bc device t (time_of x) in
      let g = given_of (λ x. hearing_by network device x x.note.body) (filter same since) (within_on channel frame) in_heard in
      let early : IsIn g.0 bc = in_drop _ bc g.0 (in_filter same since g.0 g.1) in
      let test : Happening → Bool = λ x. is_before (place_of x) (t ∷ 6 ∷ []) in
      let ahead = is_there (place_of g.0) (t ∷ 6 ∷ []) (has_passed test all g.0 early) in
      let wide : is_before (place_of g.0) (place_of h) ≡ true =
      before_is (place_of g.0) (place_of h) (widened (place_of g.0) t (rank h.note.body) (key (members_in h) h.note.body) high ahead) in
      let kept = in_kept (λ x. is_before (place_of x) (place_of h)) all g.0 (in_filter test all g.0 early) wide in
      there_by device channel frame g.0 kept (ap (is_hearing_of channel frame) g.2 ∙ own_hearing channel frame)

  of_enough : (device : DeviceId) (channel : Channel) (frame : HeardFrame) (value : ℤ) (b : Bool) (n : ℕ)
      → Earlier (last_sought network (Frame device channel frame) (records_before (place_of h) all)) → IsIn n (best_number (if b then Some (record {
        number = last_sought network (Frame device channel frame) (records_before (place_of h) all);
        members = frame.members;
        value = value;
      }) else None)) → Earlier n
  of_enough device channel frame value true n found (inl same) = subst Earlier (sym same) found
  of_enough device channel frame value true n found (inr none) = absurd none
  of_enough device channel frame value false n found i = absurd i

  of_best : (device : DeviceId) (cycle : ℕ) (adjustment : ℤ) (channel : Channel) (o : Option HeardFrame) (n : ℕ) → 6 ≤ rank h.note.body
      → best_on channel (heard_at_point own all device (time_of h)) ≡ o
      → IsIn n (best_number (option_and_then (said_by own all h device cycle adjustment channel) o)) → Earlier n
  of_best device cycle adjustment channel None n high e i = absurd i
  of_best device cycle adjustment channel (Some frame) n high e i =
      of_enough device channel frame (value_of network device cycle adjustment frame.point) (nat_le network.sync_threshold (count_of frame.members)) n
      (best_found device channel frame high e) i

  of_told : (device : DeviceId) (channel : Channel) (o : Option HeardFrame) (n : ℕ) → 6 ≤ rank h.note.body
      → best_on channel (heard_at_point own all device (time_of h)) ≡ o → IsIn n (told_number (option_map (told_by network all h device channel) o)) → Earlier n
  of_told device channel None n high e i = absurd i
  of_told device channel (Some frame) n high e (inl same) = subst Earlier (sym same) (best_found device channel frame high e)
  of_told device channel (Some frame) n high e (inr none) = absurd none

  of_corrected : (device : DeviceId) (cycle : ℕ) (n : ℕ) → 6 ≤ rank h.note.body → IsIn n (told_in (corrected_ground own all h device cycle)) → Earlier n
  of_corrected device cycle n high i =
      let adjustment = (adjustment_before own all device (time_of h)).0 in
      elim (in_parts n (best_number (channel_ground own all h device cycle A)) (best_number (channel_ground own all h device cycle B)) i) [
        | inl first ↦ of_best device cycle adjustment A _ n high refl first
        | inr second ↦ of_best device cycle adjustment B _ n high refl second
      ]

  of_clique : (device : DeviceId) (n : ℕ) → 6 ≤ rank h.note.body → IsIn n (told_in (clique_ground own all h device)) → Earlier n
  of_clique device n high i =
      let heard : Summary = heard_at_point own all device (time_of h) in
      elim (in_parts n (told_number (told_on network all h device A heard)) (told_number (told_on network all h device B heard)) i) [
        | inl first ↦ of_told device A heard.best_a n high refl first
        | inr second ↦ of_told device B heard.best_b n high refl second
      ]

  pub by_body : (device : DeviceId) (n : ℕ) (body : NoteBody) → h.note.body ≡ body → IsPointOf device body → IsIn n (told_in (ground_by own all h body))
      → Earlier n
  by_body device n (notes.Corrected other cycle by adjustment) e p i =
      let six : rank h.note.body ≡ 6 = ap rank e in
      of_corrected other cycle n (omega (arith, six)) i
  by_body device n (notes.State other state cause whys.SyncClique) e p i =
      let seven : rank h.note.body ≡ 7 = ap rank e in
      of_clique other n (omega (arith, seven)) i
  by_body device n (notes.State other state cause whys.AsyncClique) e p i =
      let seven : rank h.note.body ≡ 7 = ap rank e in
      of_clique other n (omega (arith, seven)) i
  by_body device n (notes.State other state cause why) e p i = absurd p
  by_body device n body e p i = absurd p

pub best_are_there : BestAreThere
best_are_there network octets ns end number h device n of there point i = by_body network octets ns end of number h there device n h.note.body refl point i
