-- The last record that is looked for, and the best frames heard that a correction comes from.
use Rattle.std.proofs.{Math.Seq.take-append_seam}
use Rattle.std.proofs.Common
use Common.{if◌then◌else◌, ◌&&◌, ◌++◌, ◌-◌, ◌<◌, ◌==◌, ◌∙◌, ◌∷◌, ◌≡◌, ◌≤◌, Bool, List, None, Option, Some, [], ap}
use Common.{append_assoc, arith, false, filter, fold, inl, inr, length, length-append, refl, subst, suc, sym, true}
use Common.{zero, ℕ, ℤ}
use Rattle.std.proofs.lemmas.{List.{Elements.filter-append, append-nil}}
use Rattle.std.proofs.lemmas.Bool.{and_from, cases_Bool, eq-eqb, eqb-true, false_from_ne_true, lt-ltb, ltb-true}
use Rattle.std.proofs.lemmas.Bool.{or_left, or_right}
use Rattle.std.specs.{List.last_or, Option.option_map_or, Prelude.{◌||◌, int_lt, nat_le, nat_lt, option_and_then, take}}
use Rattle.audit_devices.specs.{Keeping.records_before, Showing.IsAfter}
use Rattle.audit_law.{proofs.law_lemmas.Correcting.time_before, specs.law.CorrectionNumbers.standing_at}
use Rattle.audit_sweep.{proofs.Lacks.{rank_below, unchanged_before}, specs.Indexing.before_corrections}
use Rattle.run_law.proofs.records.{Members.in_kept, Order.{all_kept, before_is, has_passed, is_there}}
use Rattle.lens_why.specs.{Records.IsThere, Seeking.{is_sought, last_sought}}
use Rattle.lens_why.specs.Corrections
use Corrections.{better, channel_ground, clique_ground, corrected_ground, heard_at_point, is_behind, is_clique, said_by}
use Corrections.{summary_of, told_on, value_of, with_hearing}
use Rattle.lens_why.specs.declared.{ground.{Best.Best, BestHeard.BestHeard, Ground.TheVariants.{Clique, Corrected}}}
use Rattle.lens_why.specs.declared.{seeking.Sought.{Sought, TheVariants.Frame}}
use Rattle.net_plan.specs.declared.{ids.DeviceId.DeviceId, network.Network.Network}
use Rattle.run_law.proofs.{law.FirstDeliveries.{front_founded, in_filter, none_kept, number_is, numbered_in}}
use Rattle.run_law.proofs.{runs.{Lacking.behind_first, Places.{chain, in_parts, never_self, parted}}}
use Rattle.run_law.specs.{declared.{judgement.Why.Why, note.{Note.Note, NoteBody.NoteBody}}}
use Rattle.run_law.specs.{device.States.adjustment_before, runs.{DueRecords.IsDue, Runs.IsFounded}}
use Rattle.run_law.specs.{scenario.Scenarios.Scenario}
use Rattle.run_law.specs.records.{Happenings.{Happening, happenings, numbered, time_of}}
use Rattle.run_law.specs.records.{Order.{IsBefore, IsIn, is_before}, Ranks.{key, members_in, place_of, rank}}
use Rattle.sync_state.proofs.membership_lemmas.SummaryLemmas
use SummaryLemmas.{hears_on_a, hears_on_b, hears_outside, one_summary, silence_summarizes}
use Rattle.sync_state.specs.{Standing.next_point, declared.{membership.frame.HeardFrame.HeardFrame, state.State.State}}
use Rattle.sync_state.specs.membership.{BestFrame.{IsBehind, IsBetterOf}, Hearing.Hearing, Members.count_of}
use Rattle.sync_state.specs.membership.{Summary.{Summarizes, Summary, best_on}}
use Rattle.tte_audit.{proofs.ReportRuns.audit_run, specs.{Named.IsNamed, Report.scenario_of}}
use Rattle.tte_reports.specs.Reports.{IsReportOf}
use Rattle.tte_units.proofs.general_lemmas.{Bools.{both_left, both_right, not_both}, Integers.{int_lt-from, int_lt-is}}
use Rattle.tte_units.proofs.general_lemmas.{Lists.{last_pushed, some_at, take_next}}
use Rattle.tte_units.specs.declared.{frames.{channel.Channel.{Channel, TheVariants.{A, B}}, members.Members.Members}}
use Rattle.tte_units.specs.declared.{units.Units.Units}
use Rattle.audit_law.specs.law.DueRecords as audits
use Rattle.run_law.specs.declared.judgement.Why.TheVariants as whys
use Rattle.run_law.specs.declared.note.NoteBody.TheVariants as notes

-- ---- what a correction comes from: the best frames that were heard: what is kept of what was heard

behind_of : (frame other : HeardFrame) → is_behind frame other ≡ true → IsBehind frame other
behind_of frame other e =
    elim (cases_Bool (nat_lt (count_of frame.members) (count_of other.members))) [
      | inl less ↦ inl (ltb-true (count_of frame.members) (count_of other.members) less)
      | inr not ↦
          let both : (count_of frame.members == count_of other.members && int_lt frame.point.0 other.point.0) ≡ true =
          sym (ap (λ (b : Bool). b || (count_of frame.members == count_of other.members && int_lt frame.point.0 other.point.0)) not) ∙ e in
          inr (
            eqb-true (count_of frame.members) (count_of other.members)
                (both_left (count_of frame.members == count_of other.members) (int_lt frame.point.0 other.point.0) both),
            int_lt-is frame.point.0 other.point.0
                (both_right (count_of frame.members == count_of other.members) (int_lt frame.point.0 other.point.0) both),
          )
    ]

behind_from : (frame other : HeardFrame) → IsBehind frame other → is_behind frame other ≡ true
behind_from frame other (inl less) =
    or_left (nat_lt (count_of frame.members) (count_of other.members))
    (count_of frame.members == count_of other.members && int_lt frame.point.0 other.point.0)
    (lt-ltb (count_of frame.members) (count_of other.members) less)
behind_from frame other (inr both) =
    or_right (nat_lt (count_of frame.members) (count_of other.members))
    (count_of frame.members == count_of other.members && int_lt frame.point.0 other.point.0)
    (and_from (count_of frame.members == count_of other.members) (int_lt frame.point.0 other.point.0)
    (eq-eqb (count_of frame.members) (count_of other.members) both.0) (int_lt-from frame.point.0 other.point.0 both.1))

better_is : (best : Option HeardFrame) (later : HeardFrame) → IsBetterOf best later (better best later)
better_is None later = refl
better_is (Some best) later =
    elim (cases_Bool (is_behind later best)) [
      | inl holds ↦ inl (behind_of later best holds, ap (λ (b : Bool). if b then best else later) holds)
      | inr lacks ↦ inr (λ b. not_both (is_behind later best) (behind_from later best b) lacks, ap (λ (b : Bool). if b then best else later) lacks)
    ]

step : {s : Summary} {before : List Hearing} (channel : Channel) (frame : HeardFrame) (within : Bool)
    → Summarizes s before → Summarizes (with_hearing s (record { channel = channel; frame = frame; within = within }))
    (before ++ record { channel = channel; frame = frame; within = within } ∷ [])
step {s} {before} A frame true is = hears_on_a s before frame (better s.best_a frame) (better_is s.best_a frame) is
step {s} {before} B frame true is = hears_on_b s before frame (better s.best_b frame) (better_is s.best_b frame) is
step {s} {before} channel frame false is =
    hears_outside s before (record { channel = channel; frame = frame; within = false }) refl is

summarizes_from : {s : Summary} {before : List Hearing} (rest : List Hearing) → Summarizes s before
    → Summarizes (fold with_hearing s rest) (before ++ rest)
summarizes_from {s} {before} [] is = subst (Summarizes s) (sym (append-nil before)) is
summarizes_from {s} {before} (h ∷ rest) is =
    subst (Summarizes (fold with_hearing (with_hearing s h) rest)) (append_assoc before (h ∷ []) rest)
    (summarizes_from {s = with_hearing s h} {before = before ++ h ∷ []} rest (step h.channel h.frame h.within is))

-- what is kept of what was heard sums it up
pub summarized : (heard : List Hearing) → Summarizes (summary_of heard) heard
summarized heard = summarizes_from heard silence_summarizes

-- what is kept is one
pub summary_is : {s : Summary} {heard : List Hearing} → Summarizes s heard → s ≡ summary_of heard
summary_is {s} {heard} is = one_summary heard s (summary_of heard) is (summarizes_from heard silence_summarizes)

-- ---- before a correction

-- no record of a correction's place, and none behind it, stands before the corrections of the time
never_before : (h : Happening) → 6 ≤ rank h.note.body → IsBefore (place_of h) (time_of h ∷ 6 ∷ []) → ⊥
never_before h high b =
    let low = rank_below (time_of h) (rank h.note.body) (time_of h) 6 (key (members_in h) h.note.body) refl b in
    omega (arith, low, high)

module _ (network : Network) (octets : List ℕ) (ns : List Note) (end : Units) (of : IsReportOf network octets ns end) (named : IsNamed network)
    (before later : List Happening) (h : Happening) (parts : happenings network ns ≡ before ++ h ∷ later) (device : DeviceId) where
  abbrev own : Scenario
  own = scenario_of network ns

  abbrev audited : IsFounded place_of (audits.IsDue own) (happenings network ns)
  audited = (audit_run ns end named of.events.right of.run).founded

  -- what causes a record of this body
  pub caused : (body : NoteBody) → h.note.body ≡ body → audits.IsCaused own before h.note.time body
  caused body is = subst (λ (b : NoteBody). audits.IsCaused own before h.note.time b) is (audited before later h parts).1.cause

  pub before_founded : IsFounded place_of (audits.IsDue own) before
  before_founded = front_founded place_of (audits.IsDue own) before (h ∷ later) (subst (IsFounded place_of (audits.IsDue own)) parts audited)

  pub none_later : (g : Happening) → IsIn g before → time_of g ≤ time_of h
  none_later g i =
      time_before (time_of g) (rank g.note.body) (time_of h) (rank h.note.body) (key (members_in g) g.note.body) (key (members_in h) h.note.body)
      ((audited before later h parts).0 g i)

  -- what stands before the corrections of the time is before this one
  stands_before : 6 ≤ rank h.note.body → (g : Happening) → IsIn g (happenings network ns) → IsBefore (place_of g) (time_of h ∷ 6 ∷ []) → IsIn g before
  stands_before high g i b =
      elim (in_parts g before (h ∷ later) (subst (IsIn g) parts i)) [
        | inl there ↦ there
        | inr (inl same) ↦ absurd (never_before h high (subst (λ x. IsBefore (place_of x) (time_of h ∷ 6 ∷ [])) same b))
        | inr (inr more) ↦
            let ahead = behind_first place_of (audits.IsDue own) before later h g (subst (IsFounded place_of (audits.IsDue own)) parts audited) more in
            absurd (never_before h high (chain (place_of h) (place_of g) (time_of h ∷ 6 ∷ []) ahead b))
      ]

  -- those before this one are all
  pub before_all : 6 ≤ rank h.note.body → records_before (time_of h ∷ 6 ∷ []) before ≡ before_corrections (time_of h) (happenings network ns)
  before_all high =
      let place = time_of h ∷ 6 ∷ [] in
      let test : Happening → Bool = λ g. is_before (place_of g) place in
      sym (ap (filter test) parts ∙ filter-append test before (h ∷ later)
      ∙ ap (λ (gs : List Happening). filter test before ++ gs) (none_kept test (h ∷ later) (λ g i. false_from_ne_true (test g) (λ e. never g i
      (is_there (place_of g) place e))))
      ∙ append-nil (filter test before))
    where
      never : (g : Happening) → IsIn g (h ∷ later) → IsBefore (place_of g) (time_of h ∷ 6 ∷ []) → ⊥
      never g (inl same) b = never_before h high (subst (λ x. IsBefore (place_of x) (time_of h ∷ 6 ∷ [])) same b)
      never g (inr more) b =
          let ahead = behind_first place_of (audits.IsDue own) before later h g (subst (IsFounded place_of (audits.IsDue own)) parts audited) more in
          never_before h high (chain (place_of h) (place_of g) (time_of h ∷ 6 ∷ []) ahead b)

  -- where the device comes to a correction point, no record before the corrections of the time changes its adjustment at it
  quiet_before : (cycle : ℕ) → 6 ≤ rank h.note.body → next_point (standing_at own before device (time_of h)) ≡ Some cycle
      → IsAfter (before_corrections (time_of h) (happenings network ns)) device (time_of h)
  quiet_before cycle high next =
      let test : Happening → Bool = λ g. is_before (place_of g) (time_of h ∷ 6 ∷ []) in
      let all = happenings network ns in
      let after = unchanged_before own before device (time_of h) cycle before_founded none_later next in
      let moved : (g : Happening) → IsIn g (filter test all) → IsIn g (filter test before) = λ g i.
      let passes = has_passed test all g i in
      in_kept test before g (stands_before high g (in_filter test all g i) (is_there (place_of g) (time_of h ∷ 6 ∷ []) passes)) passes in
      record { none_later = λ g i. after.none_later g (moved g i); unchanged = λ g i at. after.unchanged g (moved g i) at }

  -- so it is where the device is corrected
  pub after_change : (cycle : ℕ) (by adjustment : Units) → h.note.body ≡ notes.Corrected device cycle by adjustment
      → IsAfter (before_corrections (time_of h) (happenings network ns)) device (time_of h)
  after_change cycle by adjustment is =
      let six : rank h.note.body ≡ 6 = ap rank is in
      let corrected : audits.IsCorrectedRecord own before device (time_of h) cycle by adjustment = caused (notes.Corrected device cycle by adjustment) is in
      quiet_before cycle (omega (arith, six)) corrected.corrected.next

  -- and where it comes to a clique
  pub after_clique : (state : State) (cause : ℕ) (why : Why) → is_clique why ≡ true → h.note.body ≡ notes.State device state cause why
      → IsAfter (before_corrections (time_of h) (happenings network ns)) device (time_of h)
  after_clique state cause whys.SyncClique told is =
      let seven : rank h.note.body ≡ 7 = ap rank is in
      let changed : audits.ChangesState own before device (time_of h) state cause whys.SyncClique =
      caused (notes.State device state cause whys.SyncClique) is in
      quiet_before changed.2.0 (omega (arith, seven)) changed.2.1.next
  after_clique state cause whys.AsyncClique told is =
      let seven : rank h.note.body ≡ 7 = ap rank is in
      let changed : audits.ChangesState own before device (time_of h) state cause whys.AsyncClique =
      caused (notes.State device state cause whys.AsyncClique) is in
      quiet_before changed.2.0 (omega (arith, seven)) changed.2.1.next
  after_clique state cause whys.On told is = absurd cc
  after_clique state cause whys.Frame told is = absurd cc
  after_clique state cause whys.Correction told is = absurd cc

abbrev pub best : ℕ → Members → ℤ → Best
best n members v = record { number = n; members = members; value = v }

module _ (s : Scenario) (hs : List Happening) (h : Happening) (device : DeviceId) (cycle : ℕ) (adjustment : ℤ)
    (channel : Channel) (frame : HeardFrame) where
  -- what a best frame of enough members says
  pub said_is : (number : ℕ) (value : ℤ) → nat_le s.network.sync_threshold (count_of frame.members) ≡ true
      → number ≡ last_sought s.network (Frame device channel frame) (records_before (place_of h) hs)
      → value ≡ value_of s.network device cycle adjustment frame.point
      → Some (best number frame.members value) ≡ said_by s hs h device cycle adjustment channel frame
  said_is number value enough told is =
      let last = last_sought s.network (Frame device channel frame) (records_before (place_of h) hs) in
      ap (λ n. Some (best n frame.members value)) told
      ∙ ap (λ v. Some (best last frame.members v)) is
      ∙ sym (ap (λ (b : Bool). if b then Some (best last frame.members
      (value_of s.network device cycle adjustment frame.point)) else None) enough)

  -- one of too few members says nothing
  pub said_none : nat_le s.network.sync_threshold (count_of frame.members) ≡ false
      → None ≡ said_by s hs h device cycle adjustment channel frame
  said_none few =
      let last = last_sought s.network (Frame device channel frame) (records_before (place_of h) hs) in
      sym (ap (λ (b : Bool). if b then Some (best last frame.members
      (value_of s.network device cycle adjustment frame.point)) else None) few)

-- so what both channels say is the ground
pub corrected_is : (s : Scenario) (hs : List Happening) (h : Happening) (device : DeviceId) (cycle t : ℕ) (heard : Summary) (adjustment : ℤ)
    (a b : Option Best) → t ≡ time_of h → heard ≡ heard_at_point s hs device t → adjustment ≡ (adjustment_before s hs device t).0
    → a ≡ option_and_then (said_by s hs h device cycle adjustment A) (best_on A heard)
    → b ≡ option_and_then (said_by s hs h device cycle adjustment B) (best_on B heard) → Corrected a b ≡ corrected_ground s hs h device cycle
corrected_is s hs h device cycle t heard adjustment a b at is changed said_a said_b =
    let heard_so : heard ≡ heard_at_point s hs device (time_of h) = is ∙ ap (heard_at_point s hs device) at in
    let changed_so : adjustment ≡ (adjustment_before s hs device (time_of h)).0 = changed ∙ ap (λ u. (adjustment_before s hs device u).0) at in
    let each : (channel : Channel) → option_and_then (said_by s hs h device cycle adjustment channel) (best_on channel heard)
    ≡ channel_ground s hs h device cycle channel = λ channel.
    ap (λ z. option_and_then (said_by s hs h device cycle z channel) (best_on channel heard)) changed_so
    ∙ ap (λ m. option_and_then (said_by s hs h device cycle (adjustment_before s hs device (time_of h)).0 channel) (best_on channel m)) heard_so in
    ap (λ (o : Option Best). Corrected o b) (said_a ∙ each A)
    ∙ ap (λ (o : Option Best). Corrected (channel_ground s hs h device cycle A) o) (said_b ∙ each B)

-- what is told of both channels is the ground of a clique
pub clique_is : (s : Scenario) (hs : List Happening) (h : Happening) (device : DeviceId) (t : ℕ) (heard : Summary) (a b : Option BestHeard) (outside : Members)
    (threshold : ℕ) → t ≡ time_of h → heard ≡ heard_at_point s hs device t → a ≡ told_on s.network hs h device A heard
    → b ≡ told_on s.network hs h device B heard → outside ≡ heard.outside → threshold ≡ s.network.sync_threshold
    → Clique a b outside threshold ≡ clique_ground s hs h device
clique_is s hs h device t heard a b outside threshold at is first second others enough =
    let so : heard ≡ heard_at_point s hs device (time_of h) = is ∙ ap (heard_at_point s hs device) at in
    ap (λ (o : Option BestHeard). Clique o b outside threshold) first
    ∙ ap (λ (o : Option BestHeard). Clique (told_on s.network hs h device A heard) o outside threshold) second
    ∙ ap (λ (m : Members). Clique (told_on s.network hs h device A heard) (told_on s.network hs h device B heard) m threshold) others
    ∙ ap (λ (n : ℕ). Clique (told_on s.network hs h device A heard) (told_on s.network hs h device B heard) heard.outside n) enough
    ∙ ap (λ (m : Summary). Clique (told_on s.network hs h device A m) (told_on s.network hs h device B m) m.outside s.network.sync_threshold) so

-- ---- the last record that is looked for, found from one record back to another

-- the records before the place of one are those that stand before it
split_before : {network : Network} {octets : List ℕ} {ns : List Note} {end : Units}
    → IsReportOf network octets ns end → (before later : List Happening) (h : Happening)
    → happenings network ns ≡ before ++ h ∷ later → records_before (place_of h) (happenings network ns) ≡ before
split_before {network} {ns} of before later h parts =
    let test : Happening → Bool = λ g. is_before (place_of g) (place_of h) in
    let founded = subst (IsFounded place_of (IsDue (scenario_of network ns))) parts of.run.founded in
    let ahead : (g : Happening) → IsIn g before → test g ≡ true = λ g i.
    before_is (place_of g) (place_of h) ((of.run.founded before later h parts).0 g i) in
    let not_behind : (g : Happening) → IsIn g (h ∷ later) → test g ≡ false = λ g i.
    false_from_ne_true (test g) (λ e. never_behind before later h g founded i (is_there (place_of g) (place_of h) e)) in
    ap (filter test) parts
    ∙ filter-append test before (h ∷ later)
    ∙ ap (λ (gs : List Happening). filter test before ++ gs) (none_kept test (h ∷ later) not_behind)
    ∙ append-nil (filter test before)
    ∙ all_kept test before ahead
  where
    never_behind : (before later : List Happening) (h g : Happening)
        → IsFounded place_of (IsDue (scenario_of network ns)) (before ++ h ∷ later) → IsIn g (h ∷ later) → IsBefore (place_of g) (place_of h) → ⊥
    never_behind before later h g founded (inl same) b = never_self (place_of h) (subst (λ x. IsBefore (place_of x) (place_of h)) same b)
    never_behind before later h g founded (inr more) b =
        never_self (place_of h) (chain (place_of h) (place_of g) (place_of h)
        (behind_first place_of (IsDue (scenario_of network ns)) before later h g founded more) b)

-- a record that is there, with those before it and those behind it
pub record IsParted (network : Network) (ns : List Note) (h : Happening) : Type 0 where
  pub before : List Happening
  pub later : List Happening
  pub parts : happenings network ns ≡ before ++ h ∷ later
  pub are : records_before (place_of h) (happenings network ns) ≡ before

pub parted_there : {network : Network} {octets : List ℕ} {ns : List Note} {end : Units}
    → IsReportOf network octets ns end → (number : ℕ) (h : Happening)
    → numbered (happenings network ns) number ≡ Some h → IsParted network ns h
parted_there {network} {ns} of number h there =
    let at = parted h (happenings network ns) (numbered_in (happenings network ns) number h there) in
    record { before = at.0; later = at.1; parts = at.2; are = split_before of at.0 at.1 h at.2 }

-- ---- records by their numbers

module _ (network : Network) (octets : List ℕ) (ns : List Note) (end : Units) (of : IsReportOf network octets ns end) where
  abbrev all : List Happening
  all = happenings network ns

  -- a record has its number, and the records before its place are so many less one
  pub record HasBefore (number : ℕ) (h : Happening) : Type 0 where
    pub some : 1 ≤ number
    pub within : number ≤ length all
    pub are : records_before (place_of h) all ≡ take (number - 1) all

  pub before_number : (number : ℕ) (h : Happening) → IsThere network ns number h → HasBefore number h
  before_number number h at =
      let p = parted_there of number h at.there in
      let due = (of.run.founded p.before p.later h p.parts).1 in
      let long = ap (λ hs. length hs) p.parts ∙ length-append p.before (h ∷ p.later) in
      let count : number - 1 ≡ length p.before = omega (arith, at.own, due.number) in
      record {
        some = omega (arith, at.own, due.number);
        within = omega (arith, at.own, due.number, long);
        are = p.are ∙ sym (ap (λ (n : ℕ). take n all) count ∙ ap (λ (hs : List Happening). take (length p.before) hs) p.parts
            ∙ take-append_seam p.before (h ∷ p.later));
      }

  -- the record of a number that is none too great, behind those before it
  pub record IsBehindOthers (number : ℕ) : Type 0 where
    pub own : Happening
    pub there : IsThere network ns number own
    pub taken : take number all ≡ take (number - 1) all ++ own ∷ []

  pub own_at : (number : ℕ) → 1 ≤ number → number ≤ length all → IsBehindOthers number
  own_at zero some within = absurd (omega (arith, some))
  own_at (suc k) some within =
      let x = some_at all k (omega (arith, within)) in
      let before : suc k - 1 ≡ k = omega arith in
      record {
        own = x.0;
        there = record { there = x.1; own = number_is (scenario_of network ns) all (suc k) x.0 of.run.founded x.1 };
        taken = take_next all k x.0 x.1 ∙ ap (λ (n : ℕ). take n all ++ x.0 ∷ []) (sym before);
      }

-- one more record is found, or is not
sought_more : (network : Network) (sought : Sought) (before : List Happening) (h : Happening) (b : Bool) → is_sought network sought h h.note.body ≡ b
    → last_sought network sought (before ++ h ∷ []) ≡ (if b then h.note.number else last_sought network sought before)
sought_more network sought before h true is =
    let test : Happening → Bool = λ g. is_sought network sought g g.note.body in
    let kept : List Happening = filter test before in
    ap (λ (gs : List Happening). option_map_or (λ (g : Happening). g.note.number) (last_or None gs) 0)
    (filter-append test before (h ∷ []) ∙ ap (λ (b : Bool). kept ++ (if b then h ∷ [] else [])) is)
    ∙ ap (λ (o : Option Happening). option_map_or (λ (g : Happening). g.note.number) o 0) (last_pushed None kept h)
sought_more network sought before h false is =
    let test : Happening → Bool = λ g. is_sought network sought g g.note.body in
    let kept : List Happening = filter test before in
    ap (λ (gs : List Happening). option_map_or (λ (g : Happening). g.note.number) (last_or None gs) 0)
    (filter-append test before (h ∷ []) ∙ ap (λ (b : Bool). kept ++ (if b then h ∷ [] else [])) is ∙ append-nil kept)

-- the last before the record is the last of those of lower numbers than this
pub record IsSoughtDownTo (network : Network) (sought : Sought) (hs : List Happening) (h : Happening) (at : ℕ) : Type 0 where
  pub some : 1 ≤ at
  pub within : at ≤ length hs
  pub same : last_sought network sought (records_before (place_of h) hs) ≡ last_sought network sought (take (at - 1) hs)

module _ (network : Network) (octets : List ℕ) (ns : List Note) (end : Units) (of : IsReportOf network octets ns end) (sought : Sought) (h : Happening) where
  pub sought_from : (number : ℕ) → IsThere network ns number h → IsSoughtDownTo network sought (happenings network ns) h number
  sought_from number at =
      let b = before_number network octets ns end of number h at in
      record { some = b.some; within = b.within; same = ap (last_sought network sought) b.are }

  module _ (at : ℕ) (so : IsSoughtDownTo network sought (happenings network ns) h at) where
    -- the record of the number before was looked at
    sought_on : 1 < at → (b : Bool) → ((g : Happening) → IsThere network ns (at - 1) g → b ≡ is_sought network sought g g.note.body)
        → last_sought network sought (records_before (place_of h) (happenings network ns))
        ≡ (if b then at - 1 else last_sought network sought (take (at - 1 - 1) (happenings network ns)))
    sought_on more b is =
        let within = so.within in
        let o = own_at network octets ns end of (at - 1) (omega (arith, more)) (omega (arith, within)) in
        so.same
        ∙ ap (last_sought network sought) o.taken
        ∙ sought_more network sought (take (at - 1 - 1) (happenings network ns)) o.own b (sym (is o.own o.there))
        ∙ ap (λ (n : ℕ). if b then n else last_sought network sought (take (at - 1 - 1) (happenings network ns))) o.there.own

    -- it is the one
    pub sought_found : 1 < at → ((g : Happening) → IsThere network ns (at - 1) g → true ≡ is_sought network sought g g.note.body)
        → at - 1 ≡ last_sought network sought (records_before (place_of h) (happenings network ns))
    sought_found more is = sym (sought_on more true is)

    -- or it is not
    pub sought_back : 1 < at → ((g : Happening) → IsThere network ns (at - 1) g → false ≡ is_sought network sought g g.note.body)
        → IsSoughtDownTo network sought (happenings network ns) h (at - 1)
    sought_back more is =
        let within = so.within in record { some = omega (arith, more); within = omega (arith, within); same = sought_on more false is }

    -- none is left
    pub sought_none : at ≤ 1 → 0 ≡ last_sought network sought (records_before (place_of h) (happenings network ns))
    sought_none least =
        let some = so.some in
        let first : at - 1 ≡ 0 = omega (arith, least, some) in
        sym (so.same ∙ ap (λ (n : ℕ). last_sought network sought (take n (happenings network ns))) first)
