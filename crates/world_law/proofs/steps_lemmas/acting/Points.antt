-- A device comes to its correction point: what its record is, and how such a record moves it.
use Rattle.run_law.{proofs.runs.Determined.same_units}
use Rattle.run_law.specs.{declared.judgement.Judgement.TheVariants.Integrates}
use Rattle.run_law.specs.{device.{LocalClocks.local_at_change, States.joined_adjustment}}
use Rattle.run_law.specs.{machines.Answers.with_corrected, runs.DueRecords.IsCorrectedRecord}
use Rattle.sync_state.proofs.{VerdictLemmas.one_verdict, membership_lemmas.SummaryLemmas.one_summary}
use Rattle.world_law.proofs.{lists.Lists.map_none, putting.Near.placed_back, rows.Dispatching.no_row_at_correction}
use Rattle.sync_state.{specs.Integration.joined_by}
use Rattle.tte_units.proofs.general_lemmas.Lists.{last_pushed}
use Rattle.world_law.{specs.device.{Left.IsCounted, Told.change_in}}
use Rattle.world_law.proofs.steps_lemmas.{ripening.Judged.not_yet}
use Rattle.world_law.proofs.steps_lemmas.Words
use Words.{if◌then◌else◌, ◌&&◌, ◌++◌, ◌+ℤ◌, ◌+◌, ◌-◌, ◌<ℤ◌, ◌<◌, ◌==◌, ◌||◌, ◌∙◌, ◌∷◌, ◌≡◌, ◌≤ℤ◌, ◌≤◌, AsyncClique}
use Words.{Bool, Cleared, ComesTo, ComesToCorrection, Compressed, Corrected, DeviceId, Happening, Hearing, IfSome}
use Words.{Integrating, IsActing, IsAllOfIt, IsAtRest, IsBefore, IsFirstTask, IsIn, IsInRange, IsLeft, IsPending}
use Words.{IsSource, IsSteady, IsUnfollowed, IsWaiting, Joining, KeepsRules, List, Members, Moment, Network, Node, None}
use Words.{NoneBefore, NoteBody, Option, Pcf, Scenario, Some, State, Summary, SyncClique, Synchronised, Units, Verdict}
use Words.{Why, [], adjustment_after, adjustment_by, adjustment_with, amount, and_right, ap, append-nil, arith}
use Words.{behind_no, behind_yes, both_ways, cases_Bool, cases_int, cases_lt, changes_adjustment, cleared_in}
use Words.{correcting, correction_value, cycle_after, cycle_in, doing, earlier, emitting, ends_stretch, eq-eqb, false}
use Words.{filter, filter-append, filter_map, filter_map-append, filter_no, filter_yes, fold, fold-append, heard_since}
use Words.{hearing_by, in_left, in_right, inl, inr, int_le, int_lt, integration_cycle, is_broken, is_cm}
use Words.{is_integration_cycle, is_joined_by, is_timed, is_turned_on_at, key, last_unfollowed, local_in, lt-ltb}
use Words.{members_in, moves, nat_lt, ne_eqb, next_in, not, not_turned_on, option_map_or, place_of, plan_of, point_by}
use Words.{points_of, pos, rank, reading_for, record_of, recorded_cycle, refl, rows_place, same_kept, self, since_at}
use Words.{standing_before, state_after, state_by, state_with, sym, time_of, true, with_clique, with_joined, ℕ}
use Rattle.world_law.proofs.steps_lemmas.acting.{Complete.{IsPointCause, point_cause_of}, Kept.NoneDispatched}
use Rattle.world_law.proofs.steps_lemmas.acting.{OneAct.{IsActRecordAt, StageAt, fresh_above}}
use Rattle.world_law.proofs.steps_lemmas.acting.Work
use Work.{IsAtWork, IsPutAs, all_earlier, at_correction, comes, heard_by_these, heard_more, heard_put, none_heard}
use Rattle.run_law.specs.declared.judgement.Why.TheVariants as whys
use Rattle.run_law.specs.declared.note.NoteBody.TheVariants as kinds

-- ---- how a device stands at the next unit of time behind a record of the instant that moves it

fold_more : {A B : Type 0} (f : B → A → B) (a : B) (xs : List A) (x : A) → fold f a (xs ++ x ∷ []) ≡ f (fold f a xs) x
fold_more f a xs x = fold-append f a xs (x ∷ [])

-- what it heard of these, which stand behind the last change
abbrev heard_in : Scenario → DeviceId → List Happening → ℕ → List Happening → List Hearing
heard_in s device w t since =
    filter_map (λ h. hearing_by s.network device h h.note.body) (filter (λ h. not (cleared_in s device w t) || cleared_in s device w (time_of h)) since)

-- how the device stands by the records before this time, but for what it has heard and cleared
pub record IsBase (s : Scenario) (js : List Happening) (device : DeviceId) (u : ℕ) (node : Node) : Type 0 where
  pub plan : node.standing.plan ≡ plan_of s.network device
  pub state : node.standing.state ≡ state_after s (earlier u js) device
  pub adjustment : node.standing.adjustment ≡ adjustment_after s (earlier u js) device
  pub integrated : node.standing.integrated ≡ integration_cycle (earlier u js) device
  pub least : is_timed node.standing.state ≡ true → recorded_cycle (earlier u js) device ≤ node.standing.number
  pub changed : node.changed ≡ local_at_change s js device u
  pub started : IfSome (integration_cycle (earlier u js) device) (λ cycle. cycle ≤ recorded_cycle (earlier u js) device)
  pub broken : node.broken ≡ is_broken s device u
  pub points : is_cm s.network device ≡ true → node.points ≡ points_of js device

-- ---- the record is one of those before

pub one_earlier : (u : ℕ) (hs : List Happening) (h : Happening) → time_of h < u → earlier u (hs ++ h ∷ []) ≡ earlier u hs ++ h ∷ []
one_earlier u hs h lt = filter_yes (λ g. nat_lt (time_of g) u) hs h (lt-ltb (time_of h) u lt)

-- the adjustment changed last with this record
pub changed_by : (device : DeviceId) (w : List Happening) (h : Happening) → changes_adjustment device h.note.body ≡ true
    → change_in device (w ++ h ∷ []) ≡ time_of h
changed_by device w h it =
    rw (filter_yes (λ g. changes_adjustment device g.note.body) w h it)
    (ap (λ o. option_map_or time_of o 0) (last_pushed None (filter (λ g. changes_adjustment device g.note.body) w) h))

-- and nothing has been heard since
pub heard_anew : (s : Scenario) (hs : List Happening) (device : DeviceId) (u : ℕ) (h : Happening) → time_of h < u → changes_adjustment device h.note.body ≡ true
    → heard_since s (hs ++ h ∷ []) device u ≡ []
heard_anew s hs device u h lt it = grind (arith, nat_lt, time_of, changes_adjustment, lt-ltb, earlier, behind_yes)

-- ---- a correction

beyond : (o : Option ℕ) (least cycle : ℕ) → least ≤ cycle → IfSome o (λ c. c ≤ least) → option_map_or (λ c. (cycle + 1) == c) o false ≡ false
beyond None least cycle le h = refl
beyond (Some c) least cycle le h = ne_eqb (cycle + 1) c (λ e. omega arith)

started_on : (o : Option ℕ) (least cycle : ℕ) → least ≤ cycle → IfSome o (λ c. c ≤ least) → IfSome o (λ c. c ≤ cycle + 1)
started_on None least cycle le h = h
started_on (Some c) least cycle le h = omega arith

module _ (s : Scenario) (device : DeviceId) (w : List Happening) (h : Happening) (cycle : ℕ) (by adjustment : Units)
    (e : h.note.body ≡ kinds.Corrected device cycle by adjustment) where
  state_corrected : state_after s (w ++ h ∷ []) device ≡ state_after s w device
  state_corrected =
      fold_more (λ state g. state_with device state g.note.body) _ w h ∙ ap
      (state_with device (state_after s w device)) e

  adjustment_corrected : adjustment_after s (w ++ h ∷ []) device ≡ adjustment
  adjustment_corrected = grind (arith, fold_more, adjustment_with, cycle_in, adjustment_after, self)

module _ (device : DeviceId) (w : List Happening) (h : Happening) (cycle : ℕ) (by adjustment : Units)
    (e : h.note.body ≡ kinds.Corrected device cycle by adjustment) where
  integration_corrected : integration_cycle (w ++ h ∷ []) device ≡ integration_cycle w device
  integration_corrected =
      search (arith, fold_more, cycle_in)

  cycle_corrected : recorded_cycle (w ++ h ∷ []) device ≡ cycle + 1
  cycle_corrected = grind (arith, fold_more, cycle_after, recorded_cycle, self)

change_corrected : (device : DeviceId) (h : Happening) (cycle : ℕ) (by adjustment : Units) → h.note.body ≡ kinds.Corrected device cycle by adjustment
    → changes_adjustment device h.note.body ≡ true
change_corrected device h cycle by adjustment e = ap (changes_adjustment device) e ∙ self device

-- the record of a correction of the device, at a moment of a time before u: of the point that was next, and with the sum
pub record IsCorrectedSo (s : Scenario) (device : DeviceId) (u : ℕ) (node : Node) (h : Happening) (cycle : ℕ) (by adjustment : Units)
    (moment : Moment) : Type 0 where
  pub body : h.note.body ≡ kinds.Corrected device cycle by adjustment
  pub before : time_of h < u
  pub timed : is_timed node.standing.state ≡ true
  pub number : node.standing.number ≡ cycle
  pub sum : (node.standing.adjustment.0 +ℤ by.0) ≡ adjustment.0
  pub reads : moment.reading.0 ≡ pos (s.reading device (time_of h))

module _ {s : Scenario} {hs : List Happening} {device : DeviceId} {u : ℕ} {node : Node} {h : Happening} {cycle : ℕ}
    {by adjustment : Units} {moment : Moment} (heard : Summary) where
  pub corrected_counts : IsCorrectedSo s device u node h cycle by adjustment moment → IsBase s hs device u node
      → IsCounted s (hs ++ h ∷ []) device u (with_corrected node moment heard by)
  corrected_counts so left =
      let w = earlier u hs in
      let more = one_earlier u hs h so.before in
      let e = so.body in
      let changes = change_corrected device h cycle by adjustment e in
      let recorded = cycle_corrected device w h cycle by adjustment e in
      let integration = integration_corrected device w h cycle by adjustment e in
      let adjusted = adjustment_corrected s device w h cycle by adjustment e in
      let least : recorded_cycle w device ≤ cycle = omega (arith, left.least so.timed, so.number) in
      let other : is_integration_cycle (w ++ h ∷ []) device ≡ false =
      grind (arith, option_map_or, recorded_cycle, integration_cycle, beyond) in
      let none : cleared_in s device (w ++ h ∷ []) u ≡ false =
      grind (arith, int_lt, local_in, correction_value, recorded_cycle, int_le, adjustment_after) in
      let next : next_in s device (w ++ h ∷ []) u ≡ cycle + 1 =
      rw none recorded in
      let local : local_in s device (w ++ h ∷ []) ≡ (pos (s.reading device (time_of h)) +ℤ adjustment.0) =
      rw (changed_by device w h changes)
      (rw adjusted) in
      record {
        plan = left.plan;
        adjustment = same_units _ adjustment so.sum ∙ sym adjusted ∙ ap
            (λ l. adjustment_after s l device) (sym more);
        integrated =
            left.integrated ∙ sym integration ∙ ap (λ l. integration_cycle l device) (sym more);
        number = λ timed. rw so.number (sym next ∙ ap
            (λ l. next_in s device l u) (sym more));
        changed = grind (arith, time_of, local_in);
        heard = λ timed. sym (heard_anew s hs device u h so.before changes);
        started = grind (arith, integration_cycle, recorded_cycle, started_on);
        broken = left.broken;
      }

  -- a synchronised device that has corrected its clock stands as the records leave it
  pub corrects : IsCorrectedSo s device u node h cycle by adjustment moment → node.standing.state ≡ Synchronised
      → is_turned_on_at s device u ≡ false → IsBase s hs device u node
      → IsLeft s (hs ++ h ∷ []) device u (with_corrected node moment heard by)
  corrects so synchronised off left =
      search (arith, corrected_counts, state_corrected, earlier, one_earlier, not_turned_on, map_none, behind_no)

-- ---- a change of state

state_changed : (s : Scenario) (device : DeviceId) (w : List Happening) (h : Happening) (state : State) (cause : ℕ) (why : Why)
    → h.note.body ≡ kinds.State device state cause why → state_after s (w ++ h ∷ []) device ≡ state
state_changed s device w h state cause why e = grind (arith, fold_more, state_with, state_after, self)

-- a record that changes none of what the others tell
record TellsNoMore (s : Scenario) (device : DeviceId) (w : List Happening) (h : Happening) : Type 0 where
  pub next : (u : ℕ) → next_in s device (w ++ h ∷ []) u ≡ next_in s device w u
  pub local : local_in s device (w ++ h ∷ []) ≡ local_in s device w
  pub heard : (u : ℕ) (since : List Happening) → heard_in s device (w ++ h ∷ []) u since ≡ heard_in s device w u since

told_by : (s : Scenario) (device : DeviceId) (w : List Happening) (h : Happening) → integration_cycle (w ++ h ∷ []) device ≡ integration_cycle w device
    → recorded_cycle (w ++ h ∷ []) device ≡ recorded_cycle w device
    → change_in device (w ++ h ∷ []) ≡ change_in device w → adjustment_after s (w ++ h ∷ []) device ≡ adjustment_after s w device → TellsNoMore s device w h
told_by s device w h integration recorded changed adjusted =
    grind (arith, cleared_in, recorded_cycle, adjustment_after, integration_cycle, filter_map, hearing_by, same_kept, not, time_of)

heard_none_by : (s : Scenario) (device : DeviceId) (kept : List Happening) (h : Happening) (b : Bool) → hearing_by s.network device h h.note.body ≡ None
    → filter_map (λ g. hearing_by s.network device g g.note.body) (kept ++ (if b then h ∷ [] else [])) ≡ filter_map
    (λ g. hearing_by s.network device g g.note.body) kept
heard_none_by s device kept h true none = map_none (λ g. hearing_by s.network device g g.note.body) kept h none
heard_none_by s device kept h false none = ap (filter_map (λ g. hearing_by s.network device g g.note.body)) (append-nil kept)

-- a record by which the device hears nothing
heard_none : (s : Scenario) (device : DeviceId) (w since : List Happening) (u : ℕ) (h : Happening) → hearing_by s.network device h h.note.body ≡ None
    → heard_in s device w u (since ++ h ∷ []) ≡ heard_in s device w u since
heard_none s device w since u h none = grind (arith, filter_map, hearing_by, filter-append, not, cleared_in, time_of, heard_none_by, filter)

module _ {s : Scenario} (hs : List Happening) {device : DeviceId} {u : ℕ} {node : Node} (h : Happening)
    (state : State) (cause : ℕ) (why : Why) (e : h.note.body ≡ kinds.State device state cause why) where
  -- all but its state and its points is told by the other records
  pub change_counts : time_of h < u → IsCounted s hs device u node → IsCounted s (hs ++ h ∷ []) device u node
  change_counts lt left =
      let w = earlier u hs in
      let more = one_earlier u hs h lt in
      let adjusted =
      fold_more (λ old g. adjustment_with s device (cycle_in g) old g.note.body) _ w h ∙ ap
      (adjustment_with s device (cycle_in h) (adjustment_after s w device))
      e in
      let integration =
      fold_more (λ last g. if is_joined_by device g.note.body then Some (cycle_in g) else last) None w h
      ∙ ap (λ b. if is_joined_by device b then Some (cycle_in h) else integration_cycle w device) e in
      let recorded =
      fold_more (λ next g. cycle_after device next g g.note.body) 1 w h ∙ ap
      (cycle_after device (recorded_cycle w device) h) e in
      let changed : change_in device (w ++ h ∷ []) ≡ change_in device w =
      rw (filter_no (λ g. changes_adjustment device g.note.body) w h (ap (changes_adjustment device) e)) in
      let told = told_by s device w h integration recorded changed adjusted in
      record {
        plan = left.plan;
        adjustment =
            left.adjustment ∙ sym adjusted ∙ ap (λ l. adjustment_after s l device) (sym more);
        integrated =
            left.integrated ∙ sym integration ∙ ap (λ l. integration_cycle l device) (sym more);
        number = λ timed. left.number timed ∙ sym (told.next u) ∙ ap (λ l. next_in s device l u)
            (sym more);
        changed = left.changed ∙ sym told.local ∙ ap (local_in s device) (sym more);
        heard = λ timed.
            left.heard timed
            ∙ sym (told.heard u (since_at device u hs))
            ∙ (rw (sym more)
            (sym (heard_none s device (earlier u (hs ++ h ∷ [])) (since_at device u hs) u h
            (ap (hearing_by s.network device h) e))
            ∙ sym (ap (heard_in s device (earlier u (hs ++ h ∷ [])) u)
            (behind_no (λ g. nat_lt (time_of g) u && changes_adjustment device g.note.body) hs h
            (and_right _ _ (ap (changes_adjustment device) e))))));
        started = grind (arith, integration_cycle, recorded_cycle);
        broken = left.broken;
      }

  -- the state and the points are those of the record, which ends the stretch
  pub change_leaves : ends_stretch device (kinds.State device state cause why) ≡ true → time_of h < u
      → is_turned_on_at s device u ≡ false → node.standing.state ≡ state
      → (is_cm s.network device ≡ true → node.points ≡ []) → IsCounted s (hs ++ h ∷ []) device u node
      → IsLeft s (hs ++ h ∷ []) device u node
  change_leaves ends lt off is none counted =
      grind (arith, state_changed, earlier, state_after, one_earlier, not_turned_on, filter_map, point_by, behind_yes, ends_stretch)

module _ {s : Scenario} {hs : List Happening} {device : DeviceId} {u : ℕ} {node : Node} where
  -- a joiner that has its first correction stands as both records leave it
  pub joiner_corrects : {h : Happening} (g : Happening) {cycle : ℕ} (cause : ℕ) {by adjustment : Units}
      {moment : Moment} (heard : Summary) → IsCorrectedSo s device u node h cycle by adjustment moment
      → node.standing.state ≡ Joining → is_turned_on_at s device u ≡ false
      → g.note.body ≡ kinds.State device Synchronised cause whys.Correction → time_of g < u
      → IsBase s hs device u node → IsLeft s ((hs ++ h ∷ []) ++ g ∷ []) device u (with_corrected node moment heard by)
  joiner_corrects {h} g {cycle} cause {by} {adjustment} {moment} heard so joining off e lt left =
      change_leaves (hs ++ h ∷ []) g Synchronised cause
      whys.Correction e (self device) lt off refl
      (λ cm. rw joining)
      (change_counts (hs ++ h ∷ []) g Synchronised cause
      whys.Correction e lt
      (corrected_counts heard so left))

  -- a clique verdict changes no part that counts in the state that it leads to
  clique_counts : (heard : Summary) (verdict : Verdict) → state_by node.standing.state verdict ≡ Integrating
      → adjustment_by node.standing.adjustment verdict ≡ node.standing.adjustment → IsBase s hs device u node
      → IsCounted s hs device u (with_clique node heard verdict)
  clique_counts heard verdict lost same left = grind (arith, is_timed, state_by, both_ways)

  -- a device that found itself outside the others stands as the record of its state leaves it
  pub cliques : (h : Happening) (cause : ℕ) (why : Why) (heard : Summary) (verdict : Verdict)
      → state_by node.standing.state verdict ≡ Integrating
      → adjustment_by node.standing.adjustment verdict ≡ node.standing.adjustment
      → h.note.body ≡ kinds.State device Integrating cause why
      → ends_stretch device (kinds.State device Integrating cause why) ≡ true → time_of h < u
      → is_turned_on_at s device u ≡ false → IsBase s hs device u node
      → IsLeft s (hs ++ h ∷ []) device u (with_clique node heard verdict)
  cliques h cause why heard verdict lost same e ends lt off left =
      search (arith, change_leaves, change_counts, clique_counts)

-- ---- a frame tells the time

-- the record tells the device the time, at the moment before u: no time is between the two
pub record IsJoinedSo (s : Scenario) (device : DeviceId) (u : ℕ) (h : Happening) (opened : Units) (cycle : ℕ) (members : Members) (point : Units) (frame : Pcf)
    (moment : Moment) : Type 0 where
  pub body : h.note.body ≡ kinds.Compressed device opened point cycle members Integrates
  pub same_cycle : frame.cycle ≡ cycle
  pub of_frame : h.frame ≡ Some frame
  pub before : u ≡ time_of h + 1
  pub reads : moment.reading.0 ≡ pos (s.reading device (time_of h))

pub joins : {s : Scenario} (hs : List Happening) {device : DeviceId} {u : ℕ} (node : Node) {h : Happening}
    {opened : Units} {cycle : ℕ} {members : Members} {point : Units} {frame : Pcf} {moment : Moment}
    → IsJoinedSo s device u h opened cycle members point frame moment → is_turned_on_at s device u ≡ false
    → node.standing.plan ≡ plan_of s.network device → node.broken ≡ is_broken s device u
    → IsLeft s (hs ++ h ∷ []) device u (with_joined node moment frame point)
joins {s} hs {device} {u} node {h} {cycle} {point} {frame} so off plan sound =
    let w = earlier u hs in
    let lt : time_of h < u = omega (arith, so.before) in
    let more = one_earlier u hs h lt in
    let e = so.body in
    let joined : is_joined_by device h.note.body ≡ true = ap (is_joined_by device) e ∙ self device in
    let changes : changes_adjustment device h.note.body ≡ true = ap (changes_adjustment device) e ∙ self device in
    let of_cycle : cycle_in h ≡ frame.cycle = rw so.of_frame in
    let adjusted : adjustment_after s (w ++ h ∷ []) device ≡ joined_adjustment s device cycle point =
    grind (arith, fold_more, adjustment_with, cycle_in, adjustment_after, self) in
    let integration =
    fold_more (λ last g. if is_joined_by device g.note.body then Some (cycle_in g) else last) None w h
    ∙ ap (λ b. if b then Some (cycle_in h) else integration_cycle w device) joined in
    let recorded : recorded_cycle (w ++ h ∷ []) device ≡ cycle_in h =
    grind (arith, fold_more, cycle_after, recorded_cycle, cycle_in, self) in
    let at : u - 1 ≡ time_of h = omega (arith, so.before) in
    let local : local_in s device (w ++ h ∷ []) ≡ (pos (s.reading device (time_of h)) +ℤ (adjustment_after s (w ++ h ∷ []) device).0) =
    rw (changed_by device w h changes) in
    let v = correction_value s.network (recorded_cycle (w ++ h ∷ []) device) in
    let none = and_right (is_integration_cycle (w ++ h ∷ []) device) _
    (ap (λ z. int_lt z v && int_le v (pos (s.reading device (u - 1)) +ℤ (adjustment_after s (w ++ h ∷ []) device).0))
    local
    ∙ ap (λ n. int_lt (pos (s.reading device (time_of h)) +ℤ (adjustment_after s (w ++ h ∷ []) device).0) v
    && int_le v (pos (s.reading device n) +ℤ (adjustment_after s (w ++ h ∷ []) device).0)) at
    ∙ not_yet (pos (s.reading device (time_of h)) +ℤ (adjustment_after s (w ++ h ∷ []) device).0) v) in
    let own : joined_adjustment s device cycle point ≡ (joined_by node.standing.plan frame point).adjustment =
    rw (sym so.same_cycle)
    (ap (λ p. (joined_by p frame point).adjustment) (sym plan)) in
    record {
      counted = record {
        plan = plan;
        adjustment = sym own ∙ sym adjusted ∙ ap (λ l. adjustment_after s l device) (sym more);
        integrated = sym (rw of_cycle) ∙ sym integration ∙ ap (λ l. integration_cycle l device) (sym more);
        number = grind (arith, of_cycle, recorded, recorded_cycle, w, none, next_in, more);
        changed = grind (arith, time_of, local_in);
        heard = λ timed. sym (heard_anew s hs device u h lt changes);
        started = grind (arith, integration_cycle, recorded_cycle, cycle_in);
        broken = sound;
      };
      state = grind (arith, fold_more, state_with, state_after, self, not_turned_on);
      points =
          λ cm. sym (ap (filter_map (λ g. point_by device g g.note.body))
          (behind_yes (λ g. ends_stretch device g.note.body) hs h (ap (ends_stretch device) e ∙ self device)));
    }

-- ---- a device comes to its correction point: what its record is

-- All that is due from the correction point of a device is among the records to come, once it has come to that.

-- ---- it has come to its correction point

-- no frame of it was due
pub record IsAtPoint (s : Scenario) (device : DeviceId) (now : ℕ) (node : Node) (cycle : ℕ) (heard : Summary) (verdict : Verdict) : Type 0 where
  pub pending : IsPending s.network device node (doing (correcting cycle))
  pub due : reading_for s.network node (doing (correcting cycle)) ≤ℤ pos (s.reading device now)
  pub to : ComesTo node heard verdict
  pub no_frame : (c : Compressed) → IsPending s.network device node (emitting c) → pos (s.reading device now) <ℤ c.at.0

-- what it comes to, has its record among those to come
abbrev pub HasOutcome : List Happening → ℕ → DeviceId → Verdict → Type 0
HasOutcome new now device (Corrected by) = (z : Happening) × IsIn z new × (place_of z ≡ now ∷ 6 ∷ device.0 ∷ [])
HasOutcome new now device SyncClique = (z : Happening) × IsIn z new × (place_of z ≡ now ∷ 7 ∷ device.0 ∷ 0 ∷ [])
HasOutcome new now device AsyncClique = (z : Happening) × IsIn z new × (place_of z ≡ now ∷ 7 ∷ device.0 ∷ 0 ∷ [])
HasOutcome new now device Cleared = Unit {0}

pub late_none : (s : Scenario) (device : DeviceId) (h : Happening) (body : NoteBody) → 5 ≤ rank body → hearing_by s.network device h body ≡ None
late_none s device h (kinds.Permanent other link cause point verdict) late = absurd (omega arith)
late_none s device h (kinds.Compressed other opened at cycle members verdict) late = absurd (omega arith)
late_none s device h other late = refl

-- a list of records by which the same is heard
record HearsSame (s : Scenario) (hs coming front : List Happening) (now : ℕ) (device : DeviceId) : Type 0 where
  pub of_now : (z : Happening) → IsIn z front → time_of z ≡ now
  pub heard : heard_since s (hs ++ coming) device now ≡ heard_since s (hs ++ front) device now

one_point : {s : Scenario} {hs coming front : List Happening} {now : ℕ} {device : DeviceId} {node : Node} {cycle : ℕ}
    {heard : Summary} {verdict other : Verdict} {number : ℕ} → IsAtWork s hs coming now device node
    → IsAtPoint s device now node cycle heard verdict → HearsSame s hs coming front now device
    → ComesToCorrection s (hs ++ front) device now number other → verdict ≡ other
one_point {s} {hs} {coming} {front} {now} {device} {node} {cycle} {verdict} {other} w p h k =
    let mine = comes front cycle w h.of_now h.heard p.pending p.due p.to in
    one_verdict (standing_before s (hs ++ front) device now) mine.summary verdict other mine.comes
    (rw (one_summary _ mine.summary k.summary mine.heard k.heard) k.comes)

module _ {s : Scenario} {hs coming : List Happening} (new front : List Happening) {now : ℕ} {device : DeviceId}
    {node : Node} {cycle : ℕ} {heard : Summary} {verdict : Verdict} (y : Happening)
    (w : IsAtWork s hs coming now device node) where
  point_cause : IsAtPoint s device now node cycle heard verdict → HasOutcome new now device verdict
      → HearsSame s hs coming front now device → time_of y ≡ now → (body : NoteBody) → y.note.body ≡ body
      → IsPointCause s (hs ++ front) now device body → (z : Happening) × IsIn z new × (place_of z ≡ place_of y)
  point_cause p out hears at (kinds.Corrected other number by adjustment) is c =
      let same = one_point w p hears c.1.corrected in
      let found : HasOutcome new now device (Corrected by) =
      rw same at out in (
        found.0,
        found.1,
        found.2 ∙ sym (rw is (rw at
            ((rw c.0)))),
      )
  point_cause p out hears at (kinds.State other state cause whys.SyncClique) is c =
      let same = one_point w p hears c.3.1 in
      let found : HasOutcome new now device SyncClique =
      rw same at out in (
        found.0,
        found.1,
        found.2 ∙ sym (rw is (rw at
            ((rw c.0 ((rw c.2)))))),
      )
  point_cause p out hears at (kinds.State other state cause whys.AsyncClique) is c =
      let found : HasOutcome new now device AsyncClique =
      rw (one_point w p hears c.3.1) at out in (
        found.0,
        found.1,
        found.2 ∙ sym (rw is (rw at
            ((rw c.0 ((rw c.2)))))),
      )
  point_cause p out hears at other is c = absurd c

-- ---- with one record put in, of a rank behind the frames that are heard

heard_parts : (s : Scenario) (device : DeviceId) (xs ys : List Happening) → heard_by_these s device (xs ++ ys) ≡ heard_by_these s device xs
    ++ heard_by_these s device ys
heard_parts s device xs ys = filter_map-append (λ h. hearing_by s.network device h h.note.body) xs ys

-- the records to come with some more of them, behind the frames that are heard
pub record IsGrown (s : Scenario) (hs coming new : List Happening) (now : ℕ) (device : DeviceId) : Type 0 where
  pub of_now : (z : Happening) → IsIn z new → time_of z ≡ now
  pub heard : heard_since s (hs ++ coming) device now ≡ heard_since s (hs ++ new) device now

pub grown_none : (s : Scenario) (hs coming : List Happening) (now : ℕ) (device : DeviceId) → ((z : Happening) → IsIn z coming → time_of z ≡ now)
    → IsGrown s hs coming coming now device
grown_none s hs coming now device of = grind arith

pub no_less : {t now : ℕ} (k r : ℕ) (us ws : List ℕ) → t ≡ now → (IsBefore (t ∷ k ∷ us) (now ∷ r ∷ ws) → ⊥) → r ≤ k
no_less k r us ws e not = elim (cases_lt k r) [ inl lt ↦ absurd (not (inr (e, inl lt))) | inr ge ↦ ge ]

-- a record that comes from a correction point stands behind the frames that are heard
late_cause : (s : Scenario) (js : List Happening) (now : ℕ) (device : DeviceId) (body : NoteBody) → IsPointCause s js now device body → 6 ≤ rank body
late_cause s js now device (kinds.Corrected other cycle by adjustment) c = omega arith
late_cause s js now device (kinds.State other state cause why) c = omega arith
late_cause s js now device rest c = absurd c

pub all_point : {s : Scenario} {hs coming new : List Happening} {now : ℕ} {device : DeviceId} {node : Node}
    {cycle : ℕ} {heard : Summary} {verdict : Verdict} → IsAtWork s hs coming now device node
    → IsAtPoint s device now node cycle heard verdict → IsGrown s hs coming new now device
    → HasOutcome new now device verdict → IsAllOfIt s hs new (rows_place now device)
all_point {s} {hs} {new} {now} {device} {cycle} {heard} {verdict} w p g out front back y e all none due own =
    let c = point_cause_of s (hs ++ front) now device y.note.time (members_in y) y.note.body own due.cause in
    let late = late_cause s (hs ++ front) now device y.note.body c.1 in
    let inside : (z : Happening) → IsIn z front → IsIn z new = λ z i. rw e (in_left z front back i) in
    let behind_it : (z : Happening) → IsIn z back → IsIn z new = λ z i. rw e (in_right z front back i) in
    let also : (z : Happening) → IsIn z front → time_of z ≡ now = λ z i. g.of_now z (inside z i) in
    let nothing = none_heard s device back (λ z i.
    let high = no_less (rank z.note.body) (rank y.note.body) (key (members_in z) z.note.body)
    (key (members_in y) y.note.body)
    (g.of_now z (behind_it z i) ∙ sym c.0) (none z i) in
    late_none s device z z.note.body (omega arith)) in
    let hears = g.heard
    ∙ ap (λ l. heard_since s (hs ++ l) device now) e
    ∙ heard_more s hs device now (front ++ back) (λ z i. g.of_now z (rw e i))
    ∙ ap (λ l. heard_since s hs device now ++ l)
    (heard_parts s device front back ∙ ap (λ l. heard_by_these s device front ++ l) nothing
    ∙ Rattle.std.proofs.lemmas.List.append-nil (heard_by_these s device front))
    ∙ sym (heard_more s hs device now front also) in
    point_cause new front y w p out (record { of_now = also; heard = hears }) c.0
    y.note.body refl c.1

-- with one record put in
pub grown_more : {s : Scenario} {hs coming : List Happening} (front back : List Happening) {now : ℕ}
    {device : DeviceId} {v : Happening} → IsGrown s hs coming (front ++ back) now device → IsPutAs now v
    → 5 ≤ rank v.note.body → IsGrown s hs coming (front ++ v ∷ back) now device
grown_more {s} {hs} front back {now} {device} {v} g p late =
    let none = late_none s device v v.note.body late in
    record {
      of_now = λ z i. elim (placed_back [] front back v z i) [ inl e ↦ ap time_of e ∙ p.at | inr was ↦ g.of_now z was ];
      heard =
          g.heard
          ∙ sym (heard_put s hs front back device v (λ z i. g.of_now z i) p.at (inl none)
          ∙ (rw none
          (Rattle.std.proofs.lemmas.List.append-nil (heard_since s (hs ++ (front ++ back)) device now))));
    }

-- while the device is at work
pub grown_one : {s : Scenario} {hs : List Happening} (front back : List Happening) {now : ℕ} {device : DeviceId}
    {node : Node} {w : Happening} → IsAtWork s hs (front ++ back) now device node → IsPutAs now w
    → 5 ≤ rank w.note.body → IsGrown s hs (front ++ back) (front ++ w ∷ back) now device
grown_one {s} {hs} front back {now} {device} work p late =
    grown_more front back (grown_none s hs (front ++ back) now device (λ z i. (work.of_now z i).0)) p late

-- ---- it is the first of what is due

module _ (s : Scenario) {device : DeviceId} (now : ℕ) {node : Node} (cycle : ℕ) {heard : Summary}
    {verdict : Verdict} where
  pub at_point : IsFirstTask s.network device node (pos (s.reading device now)) (doing (correcting cycle))
      → ComesTo node heard verdict → IsAtPoint s device now node cycle heard verdict
  at_point first to = record {
    pending = first.pending;
    due = first.due;
    to = to;
    no_frame = λ c p. elim (cases_int (pos (s.reading device now)) c.at.0) [
      | inl lt ↦ lt
      | inr due ↦ absurd (first.first (emitting c) p due (inl (omega arith)))
    ];
  }

  -- no frame of it is due
  pub no_frames : node.broken ≡ false → IsAtPoint s device now node cycle heard verdict → (c : Compressed)
      → IsWaiting s.network device node c → pos (s.reading device now) <ℤ c.at.0
  no_frames sound p c w = p.no_frame c (sound, w)

module _ {s : Scenario} {hs coming : List Happening} {now : ℕ} {device : DeviceId} {node : Node} where
  -- it was not turned on at the instant
  pub not_on : IsAtWork s hs coming now device node → is_timed node.standing.state ≡ true
      → is_turned_on_at s device now ≡ false
  not_on w timed = grind (arith, cases_Bool, is_turned_on_at, state_after, earlier, is_timed)

  -- no row is dispatched at the instant
  pub none_at_point : (cycle : ℕ) → IsInRange s.network → KeepsRules s.network
      → IsSteady (s.reading device) (amount s.network.precision) → IsAtWork s hs coming now device node
      → IsPending s.network device node (doing (correcting cycle))
      → reading_for s.network node (doing (correcting cycle)) ≤ℤ pos (s.reading device now)
      → NoneDispatched s hs now device
  none_at_point cycle range rules steady w pending due other also link cause vl n d =
      no_row_at_correction range rules steady
      (at_correction other cycle w also pending due) d

-- ---- what it heard is told before its record

pub heard_before : {s : Scenario} {hs : List Happening} (front back : List Happening) {now : ℕ} {device : DeviceId}
    {node : Node} (w : Happening) → IsAtWork s hs (front ++ back) now device node → time_of w ≡ now
    → 5 ≤ rank w.note.body → NoneBefore place_of back (place_of w)
    → heard_since s (hs ++ (front ++ back)) device now ≡ heard_since s (hs ++ front) device now
heard_before {s} {hs} front back {now} {device} w work at late none =
    let nothing = none_heard s device back (λ z i.
    let high = no_less (rank z.note.body) (rank w.note.body) (key (members_in z) z.note.body)
    (key (members_in w) w.note.body)
    ((work.of_now z (in_right z front back i)).0 ∙ sym at) (none z i) in
    late_none s device z z.note.body (omega arith)) in
    heard_more s hs device now (front ++ back) (λ z i. (work.of_now z i).0)
    ∙ (rw (Rattle.std.proofs.lemmas.List.Elements.filter_map-append
    (λ h. Rattle.run_law.specs.control.Corrections.hearing_by s.network device h h.note.body) front
    back
    ∙ ap (λ l. heard_by_these s device front ++ l) nothing ∙ append-nil (heard_by_these s device front))
    (sym (heard_more s hs device now front (λ z i. (work.of_now z (in_left z front back i)).0))))

-- ---- what stands where its record does, is one of it

state_at : {t u : ℕ} (m : ℕ) {d c : ℕ} (body : NoteBody) → t ∷ 7 ∷ d ∷ c ∷ [] ≡ u ∷ rank body ∷ key m body
    → (device : DeviceId) → d ≡ device.0 → moves device body ≡ true
state_at m (kinds.State other state cause why) e device is = eq-eqb device.0 other.0 (sym is ∙ cc)
state_at m other e device is = absurd (grind arith)

-- a device that was not turned on, and is at rest, is not moved
pub not_moved : (s : Scenario) (device : DeviceId) (now : ℕ) (body : NoteBody) → is_turned_on_at s device now ≡ false → IsAtRest s device now body
    → moves device body ≡ true → ⊥
not_moved s device now body off (inl still) e = both_ways _ still e
not_moved s device now body off (inr on) e = both_ways _ off on.1

-- ---- the records

module _ {M : Type 0} {stands : M → Network → DeviceId → Node → Type 0} {s : Scenario}
    (hs front back : List Happening) {now : ℕ} {device : DeviceId} {machine : M} {node : Node}
    {cycle : ℕ} where
  -- what causes it
  pub corrected_cause : {heard : Summary} (by adjustment : Units)
      → StageAt stands s hs (front ++ back) now device machine node 6 (device.0 ∷ [])
      → IsAtPoint s device now node cycle heard (Corrected by) → adjustment.0 ≡ (node.standing.adjustment.0 +ℤ by.0)
      → NoneBefore place_of back
      (place_of (record_of s.network hs front now (kinds.Corrected device cycle by adjustment)))
      → IsCorrectedRecord s (hs ++ front) device now cycle by adjustment
  corrected_cause by adjustment st p sum none =
      let w = record_of s.network hs front now (kinds.Corrected device cycle by adjustment) in
      let also : (z : Happening) → IsIn z front → time_of z ≡ now =
      λ z i. (st.work.of_now z (in_left z front back i)).0 in
      let same = all_earlier s hs (front ++ back) front now (λ z i. (st.work.of_now z i).0) also in
      let six : 5 ≤ rank w.note.body = omega arith in
      let stood =
      st.work.left.counted.adjustment
      ∙ (rw same) in
      record {
        corrected = comes front cycle st.work also
            (heard_before front back w st.work refl six none) p.pending p.due p.to;
        sum = sum ∙ ap (λ a. a.0 +ℤ by.0) stood;
      }

  -- a correction
  pub corrected_record : {heard : Summary} (by adjustment : Units)
      → StageAt stands s hs (front ++ back) now device machine node 6 (device.0 ∷ [])
      → is_turned_on_at s device now ≡ false → IsAtPoint s device now node cycle heard (Corrected by)
      → adjustment.0 ≡ (node.standing.adjustment.0 +ℤ by.0) → NoneBefore place_of back
      (place_of (record_of s.network hs front now (kinds.Corrected device cycle by adjustment)))
      → IsUnfollowed s hs now (kinds.Corrected device cycle by adjustment)
      → IsActRecordAt s hs front back now device (kinds.Corrected device cycle by adjustment) (rows_place now device)
  corrected_record by adjustment st off p sum none lone =
      let w = record_of s.network hs front now (kinds.Corrected device cycle by adjustment) in
      let also : (z : Happening) → IsIn z front → time_of z ≡ now =
      λ z i. (st.work.of_now z (in_left z front back i)).0 in
      let same = all_earlier s hs (front ++ back) front now (λ z i. (st.work.of_now z i).0) also in
      let c = comes front cycle st.work also
      (heard_before front back w st.work refl (omega arith) none) p.pending p.due p.to in
      let stood =
      st.work.left.counted.adjustment
      ∙ (rw same) in
      record {
        own = λ m. refl;
        here = IsSource.acting now device (doing (correcting cycle))
            (IsActing.corrects cycle (at_correction front cycle st.work also
            p.pending p.due));
        caused = record { corrected = c; sum = sum ∙ ap (λ a. a.0 +ℤ by.0) stood };
        fresh = fresh_above front back st w (omega arith);
        apart = λ other not. (ne_eqb other.0 device.0 not, λ at. refl);
        lone = lone;
      }

-- the verdict of a clique, and the reason that it gives
pub data IsClique : Verdict → Why → Type 0 where
  alone : IsClique SyncClique whys.SyncClique
  outnumbered : IsClique AsyncClique whys.AsyncClique

module _ {M : Type 0} {stands : M → Network → DeviceId → Node → Type 0} {s : Scenario}
    (hs front back : List Happening) {now : ℕ} {device : DeviceId} {machine : M} {node : Node}
    {cycle : ℕ} where
  pub clique_record : {heard : Summary} (verdict : Verdict) {why : Why}
      → StageAt stands s hs (front ++ back) now device machine node 6 (device.0 ∷ [])
      → is_turned_on_at s device now ≡ false → IsAtPoint s device now node cycle heard verdict → IsClique verdict why
      → NoneBefore place_of back (place_of (record_of s.network hs front now (kinds.State device Integrating 0 why)))
      → IsActRecordAt s hs front back now device (kinds.State device Integrating 0 why) (rows_place now device)
  clique_record SyncClique st off p IsClique.alone none =
      let body = kinds.State device Integrating 0 whys.SyncClique in
      let w = record_of s.network hs front now body in
      let also : (z : Happening) → IsIn z front → time_of z ≡ now =
      λ z i. (st.work.of_now z (in_left z front back i)).0 in
      let six : 5 ≤ rank w.note.body = omega arith in
      let c = comes front cycle st.work also
      (heard_before front back w st.work refl six none) p.pending p.due p.to in
      record {
        own = λ m. (cycle, refl);
        here = IsSource.acting now device (doing (correcting cycle))
            (IsActing.corrects cycle (at_correction front cycle st.work also
            p.pending p.due));
        caused = (refl, refl, (cycle, c));
        fresh = λ y i e.
            let there = in_right y front back i in
            let at = st.work.of_now y there in
            not_moved s device now y.note.body off (st.work.still y (in_right y hs (front ++ back) there) at.0)
            (state_at (members_in y) y.note.body e device refl);
        apart = λ other not. (ne_eqb other.0 device.0 not, λ at. refl);
        lone = last_unfollowed s hs now body refl;
      }
  clique_record AsyncClique st off p IsClique.outnumbered none =
      let body = kinds.State device Integrating 0 whys.AsyncClique in
      let w = record_of s.network hs front now body in
      let also : (z : Happening) → IsIn z front → time_of z ≡ now =
      λ z i. (st.work.of_now z (in_left z front back i)).0 in
      let c = comes front cycle st.work also
      (heard_before front back w st.work refl (omega arith) none) p.pending p.due p.to in
      record {
        own = λ m. (cycle, refl);
        here = IsSource.acting now device (doing (correcting cycle))
            (IsActing.corrects cycle (at_correction front cycle st.work also
            p.pending p.due));
        caused = (refl, refl, (cycle, c));
        fresh = λ y i e.
            let there = in_right y front back i in
            let at = st.work.of_now y there in
            not_moved s device now y.note.body off (st.work.still y (in_right y hs (front ++ back) there) at.0)
            (state_at (members_in y) y.note.body e device refl);
        apart = λ other not. (ne_eqb other.0 device.0 not, λ at. refl);
        lone = last_unfollowed s hs now body refl;
      }
  clique_record verdict st off p x none = elim x [ ]
