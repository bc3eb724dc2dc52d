-- What the grounds of permanences decide, and the last collection of a compression master.
use Rattle.std.proofs.Common
use Common.{if◌then◌else◌, ◌&&◌, ◌++◌, ◌+ℤ◌, ◌+◌, ◌-ℤ◌, ◌-◌, ◌<ℤ◌, ◌<◌, ◌==◌, ◌∙◌, ◌∷◌, ◌≡◌, ◌≤ℤ◌, ◌≤◌, ◌⊎◌, Bool, List}
use Common.{None, Option, Some, [], ap, append_assoc, arith, false, filter, inl, inr, neg_ℤ, pos, refl, subst, sym}
use Common.{true, ℕ, ℤ}
use Rattle.std.proofs.lemmas.{Bool.{and_from, cases_Bool, eqb-true, le-leb, leb-true}, Int.ints}
use Rattle.std.proofs.lemmas.{List.{Elements.All-nil, Sums.fold_push, append-nil}}
use Rattle.std.specs.{List.{AllByRecursion, cons_option, last_or}, Option.option_map_or}
use Rattle.std.specs.Prelude
use Prelude.{IfSome, IsSomeAnd, MatchBool, filter_map, fold, int_le, int_lt, nat_le, not, option_and_then, option_map}
use Prelude.{take}
use Rattle.audit_devices.{proofs.stretches_lemmas.Stretches.went_on}
use Rattle.audit_devices.{specs.{Effects.carried_by, Keeping.records_before, declared.effect.Carried.Carried}}
use Rattle.audit_law.proofs.collections_lemmas.Clusters.{AreBefore, are-ignored, are-joined, are-opened}
use Rattle.compression.proofs.{Growth.{Ordered, Ordered-from}}
use Rattle.compression.proofs.Collectors.{AreClusters-unique, last_split, open_at-some, role_in-joined, role_in-opened}
use Rattle.run_law.proofs.records.Order.{all_kept, before_is}
use Rattle.compression.specs.{Clusters.{AreClusters, Cluster, Point, point_at}, Collection.{joined, opening}}
use Rattle.compression.specs.{Role.{has_point_of, open_at, role, role_in}}
use Rattle.compression.specs.{declared.taken.Taken.{Taken, TheVariants.{Joined, Opened, OtherCycle, Repeat}}}
use Rattle.lens_why.{proofs.LastRecords.{before_number, own_at, parted_there}}
use Rattle.lens_why.specs.{Decisions.{IsNoFarther, IsOpenFor, IsPermanentBy}}
use Rattle.lens_why.specs.{Grounds.{hearing_adjustment, is_by_schedule, is_collected, scheduled_ground}}
use Rattle.lens_why.specs.{Records.IsThere}
use Rattle.lens_why.specs.{declared.{collecting.LastCollection.LastCollection, ground.Ground.TheVariants.Collected}}
use Rattle.lens_why.specs.Collections
use Collections.{LastIsOfClusters, behind_point, collected_ground, last_collection, last_of, open_in, taken_to, told_of}
use Rattle.net_plan.specs.declared.{ids.{DeviceId.DeviceId, LinkId.LinkId}, network.Network.Network}
use Rattle.precision_law.proofs.records.Behind.{after_last_at}
use Rattle.run_law.specs.{declared.{judgement.{Judgement.Judgement, Reason.Reason}, note.Note.Note, steps.Ripe.Ripe}}
use Rattle.run_law.specs.{device.States.{adjustment_at_hearing, cycle_in, state_at_hearing}}
use Rattle.run_law.specs.{runs.DueRecords.{IsCaused, IsDue}, scenario.{Devices.{is_cm, plan_of}, Scenarios.Scenario}}
use Rattle.run_law.specs.control.{Hearing.{heard_as, heard_by_schedule, heard_enough, is_in_schedule, last_cycle}}
use Rattle.run_law.specs.control.Collections.{ends_stretch, master_of, observation_window, point_by, point_fault, points_of, ripe_by_role}
use Rattle.run_law.specs.control.Permanence
use Permanence.{BecomesPermanent, IsCollectedOrDropped, IsPermanenceOutcome, before_permanence, ripe_as}
use Rattle.run_law.specs.records.{Happenings.{Happening, frame_by, happenings, numbered, time_of}, Order.is_before}
use Rattle.run_law.specs.records.{Ranks.{members_in, place_at, place_of}}
use Rattle.sync_state.specs.{Plan.expected_at, membership.Members.count_of}
use Rattle.sync_state.specs.declared.{plan.SyncPlan.SyncPlan}
use Rattle.sync_state.specs.declared.{state.State.{State, TheVariants.{Integrating, Joining, Off, Synchronised}}}
use Rattle.tte_audit.specs.Report.{scenario_of}
use Rattle.tte_reports.specs.Reports.{IsReportOf}
use Rattle.tte_units.proofs.general_lemmas.{Bools.{both_left, both_right, not_both}}
use Rattle.tte_units.proofs.general_lemmas.{Integers.{int_le-from, int_le-is, int_lt-is, not_less}, Lists.last_pushed}
use Rattle.tte_units.specs.{Amount.amount, declared.{frames.{members.Members.Members, pcf.Pcf.Pcf}, units.Units.Units}}
use Rattle.compression.specs.declared.taken.Taken.TheVariants as taken
use Rattle.run_law.specs.declared.judgement.Judgement.TheVariants as judgements
use Rattle.run_law.specs.declared.note.NoteBody.TheVariants as notes
use Rattle.run_law.specs.declared.steps.Ripe.TheVariants as ripe

-- ---- the last collection of a compression master, point after point: one more record

module _ (network : Network) (d : DeviceId) (hs : List Happening) (h : Happening) where
  -- one that gives none leaves the collection
  pub behind_none : ends_stretch d h.note.body ≡ false → point_by d h h.note.body ≡ None
      → last_collection network d (hs ++ h ∷ []) ≡ last_collection network d hs
  behind_none on none =
      ap (last_of (observation_window network))
      (went_on hs h d on ∙ ap (λ (o : Option Point). points_of hs d ++ cons_option o []) none ∙ append-nil (points_of hs d))

  -- one that gives a point
  pub behind_given : (p : Point) → ends_stretch d h.note.body ≡ false → point_by d h h.note.body ≡ Some p
      → last_collection network d (hs ++ h ∷ []) ≡ behind_point (observation_window network) (last_collection network d hs) p
  behind_given p on given =
      ap (last_of (observation_window network))
      (went_on hs h d on ∙ ap (λ (o : Option Point). points_of hs d ++ cons_option o []) given)
      ∙ fold_push (behind_point (observation_window network)) None (points_of hs d) p

-- ---- the clusters

-- each of the later points is none before those before it
abbrev Rises : List Point → List Point → Type 0
Rises before [] = Unit {0}
Rises before (p ∷ after) = AreBefore before p.reading × Rises (before ++ p ∷ []) after

all_of : (before : List Point) (p : Point) (after : List Point) → Ordered (before ++ p ∷ after) → AreBefore before p.reading
all_of [] p after up = tt
all_of (b ∷ before) p after up = (first before up.0, all_of before p after up.1)
  where
    first : (bs : List Point) → AllByRecursion (λ q. b.reading ≤ℤ q.reading) (bs ++ p ∷ after) → b.reading ≤ℤ p.reading
    first [] all = all.0
    first (x ∷ bs) all = first bs all.1

rises_from : (before after : List Point) → Ordered (before ++ after) → Rises before after
rises_from before [] up = tt
rises_from before (p ∷ after) up = (all_of before p after up, rises_from (before ++ p ∷ []) after (subst Ordered (sym (append_assoc before (p ∷ []) after)) up))

-- these points have these clusters, the last of which is this collection
record IsLastOf (ow : ℤ) (points : List Point) (last : Option Cluster) : Type 0 where
  pub clusters : List Cluster
  pub are : AreClusters ow points clusters
  pub is : last ≡ last_or None clusters

one_point : (ow : ℤ) (points : List Point) (cs : List Cluster) (p : Point) → pos 0 ≤ℤ ow → AreClusters ow points cs → AreBefore points p.reading
    → (taken : Taken) → role cs p ≡ taken → IsLastOf ow (points ++ p ∷ []) (taken_to ow (last_or None cs) p taken)
one_point ow points cs p some are past Opened is = record {
  clusters = cs ++ opening ow p ∷ [];
  are = are-opened ow points cs p some are past (sym is);
  is = sym (last_pushed None cs (opening ow p));
}
one_point ow points cs p some are past Joined is =
    let j = role_in-joined (open_at cs p.reading) p is in
    let at = open_at-some cs p.reading j.c j.is in
    let split = last_split cs j.c at.0 in
    record {
      clusters = split.0 ++ joined ow j.c p.reading p.master ∷ [];
      are = are-joined ow points split.0 j.c p some (subst (AreClusters ow points) split.1 are) past
          (sym is ∙ ap (λ ks. role ks p) split.1);
      is = ap (λ (o : Option Cluster). option_map (λ (c : Cluster). joined ow c p.reading p.master) o) at.0
          ∙ sym (last_pushed None split.0 (joined ow j.c p.reading p.master));
    }
one_point ow points cs p some are past Repeat is =
    record { clusters = cs; are = are-ignored ow points cs p some are past (inl is); is = refl }
one_point ow points cs p some are past OtherCycle is =
    record { clusters = cs; are = are-ignored ow points cs p some are past (inr is); is = refl }

all_points : {ow : ℤ} {before : List Point} (after : List Point) {last : Option Cluster} → pos 0 ≤ℤ ow
    → IsLastOf ow before last → Rises before after → IsLastOf ow (before ++ after) (fold (behind_point ow) last after)
all_points {ow} {before} [] {last} some of up =
    subst (λ ps. IsLastOf ow ps last) (sym (append-nil before)) of
all_points {ow} {before} (p ∷ after) {last} some of up =
    let one = one_point ow before of.clusters p some of.are up.0 (role of.clusters p) refl in
    let next : IsLastOf ow (before ++ p ∷ []) (behind_point ow last p) =
    subst (λ o. IsLastOf ow (before ++ p ∷ []) (behind_point ow o p)) (sym of.is) one in
    subst (λ ps. IsLastOf ow ps (fold (behind_point ow) (behind_point ow last p) after)) (append_assoc before (p ∷ []) after)
    (all_points {before = before ++ p ∷ []} after some next up.1)

pub last_is_of_clusters : LastIsOfClusters
last_is_of_clusters ow points clusters some up are =
    let none : IsLastOf ow [] None = record { clusters = []; are = tt; is = refl } in
    let all = all_points points some none (rises_from [] points (Ordered-from points up)) in
    all.is ∙ ap (λ (cs : List Cluster). last_or None cs) (AreClusters-unique ow points all.clusters clusters all.are are)

-- ---- the stretch of a device

-- none of its points is later than the next
abbrev pub ComeInOrder : DeviceId → List Happening → Type 0
ComeInOrder d hs = (ps qs : List Happening) (x : Happening) (p : Point) → hs ≡ ps ++ x ∷ qs → ends_stretch d x.note.body ≡ false
    → point_by d x x.note.body ≡ Some p → AreBefore (points_of ps d) p.reading

-- the last collection of these records is the last of the clusters of their points
abbrev Stands : Network → DeviceId → List Happening → Type 0
Stands network d hs = IsLastOf (observation_window network) (points_of hs d) (last_collection network d hs)

module _ (network : Network) (d : DeviceId) where
  ended_there : (hs : List Happening) (x : Happening) → ends_stretch d x.note.body ≡ true
      → Stands network d (hs ++ x ∷ [])
  ended_there hs x ends =
      let none : points_of (hs ++ x ∷ []) d ≡ [] = ap (filter_map (λ y. point_by d y y.note.body))
      (after_last_at (λ y. ends_stretch d y.note.body) hs x [] ends
      (All-nil (λ y. not (ends_stretch d y.note.body) ≡ true))) in
      subst (λ ps. IsLastOf (observation_window network) ps (last_of (observation_window network) ps))
      (sym none)
      (record { clusters = []; are = tt; is = refl })

  went_further : (hs : List Happening) (x : Happening) (o : Option Point) → Stands network d hs
      → ends_stretch d x.note.body ≡ false → point_by d x x.note.body ≡ o
      → ((p : Point) → o ≡ Some p → AreBefore (points_of hs d) p.reading) → Stands network d (hs ++ x ∷ [])
  went_further hs x None so on given rises =
      let same : points_of (hs ++ x ∷ []) d ≡ points_of hs d =
      went_on hs x d on ∙ ap (λ (o : Option Point). points_of hs d ++ cons_option o []) given
      ∙ append-nil (points_of hs d) in
      subst (λ ps. IsLastOf (observation_window network) ps (last_of (observation_window network) ps))
      (sym same) so
  went_further hs x (Some p) so on given rises =
      let ow = observation_window network in
      let more : points_of (hs ++ x ∷ []) d ≡ points_of hs d ++ p ∷ [] = went_on hs x d on
      ∙ ap (λ (o : Option Point). points_of hs d ++ cons_option o []) given in
      let one = one_point ow (points_of hs d) so.clusters p (omega (arith, ints)) so.are (rises p refl)
      (role so.clusters p) refl in
      let next : IsLastOf ow (points_of hs d ++ p ∷ []) (behind_point ow (last_collection network d hs) p) =
      subst (λ o. IsLastOf ow (points_of hs d ++ p ∷ []) (behind_point ow o p)) (sym so.is) one in
      subst (λ ps. IsLastOf ow ps (last_of ow ps)) (sym more)
      (subst (IsLastOf ow (points_of hs d ++ p ∷ [])) (sym (fold_push (behind_point ow) None (points_of hs d) p)) next)

  all_stand : (all ps qs : List Happening) → ComeInOrder d all → all ≡ ps ++ qs → Stands network d ps
      → Stands network d all
  all_stand all ps [] rises parts so = subst (Stands network d) (sym (parts ∙ append-nil ps)) so
  all_stand all ps (x ∷ qs) rises parts so =
      let next : Stands network d (ps ++ x ∷ []) = elim (cases_Bool (ends_stretch d x.note.body)) [
        | inl ends ↦ ended_there ps x ends
        | inr on ↦ went_further ps x (point_by d x x.note.body) so on refl (λ p given. rises ps qs x p parts on given)
      ] in
      all_stand all (ps ++ x ∷ []) qs rises (parts ∙ sym (append_assoc ps (x ∷ []) qs)) next

  pub last_stands : (hs : List Happening) (clusters : List Cluster) → ComeInOrder d hs
      → AreClusters (observation_window network) (points_of hs d) clusters
      → last_collection network d hs ≡ last_or None clusters
  last_stands hs clusters rises are =
      let all = all_stand hs [] hs rises refl (record { clusters = []; are = tt; is = refl }) in
      all.is ∙ ap (λ (cs : List Cluster). last_or None cs)
      (AreClusters-unique (observation_window network) (points_of hs d) all.clusters clusters all.are are)

-- ---- the records of a report

-- behind the records of lower numbers than this, the last collection is this
pub record IsCollectedUpTo (network : Network) (device : DeviceId) (hs : List Happening) (number at : ℕ) (last : Option LastCollection) : Type 0 where
  pub within : at ≤ number
  pub is : last ≡ option_map told_of (last_collection network device (take (at - 1) hs))

module _ (network : Network) (octets : List ℕ) (ns : List Note) (end : Units) (of : IsReportOf network octets ns end) (device : DeviceId) (number : ℕ)
    (h : Happening) (there : IsThere network ns number h) where
  pub collected_none : IsCollectedUpTo network device (happenings network ns) number 1 None
  collected_none = record { within = (before_number network octets ns end of number h there).some; is = refl }

  pub collected_more : (at : ℕ) (last more : Option LastCollection) → 1 ≤ at → at < number
      → IsCollectedUpTo network device (happenings network ns) number at last
      → ((g : Happening) (before : List Happening) → IsThere network ns at g → last ≡ option_map told_of (last_collection network device before)
      → more ≡ option_map told_of (last_collection network device (before ++ g ∷ [])))
      → IsCollectedUpTo network device (happenings network ns) number (at + 1) more
  collected_more at last more some less so is =
      let within = (before_number network octets ns end of number h there).within in
      let o = own_at network octets ns end of at some (omega (arith, less, within)) in
      let next : at + 1 - 1 ≡ at = omega arith in
      record {
        within = omega (arith, less);
        is = is o.own (take (at - 1) (happenings network ns)) o.there so.is
            ∙ ap (λ gs. option_map told_of (last_collection network device gs)) (sym o.taken)
            ∙ ap (λ (n : ℕ). option_map told_of (last_collection network device (take n (happenings network ns)))) (sym next);
      }

  pub collected_all : (at : ℕ) (last : Option LastCollection) → number ≤ at → IsCollectedUpTo network device (happenings network ns) number at last
      → last ≡ option_map told_of (last_collection network device (records_before (place_of h) (happenings network ns)))
  collected_all at last past so =
      let within = so.within in
      let b = before_number network octets ns end of number h there in
      let reached : at ≡ number = omega (arith, past, within) in
      so.is
      ∙ ap (λ n. option_map told_of (last_collection network device (take (n - 1) (happenings network ns)))) reached
      ∙ ap (λ gs. option_map told_of (last_collection network device gs)) (sym b.are)

-- what is told is the ground
pub collected_is : (network : Network) (hs : List Happening) (device : DeviceId) (h : Happening) (carried : Carried) (master : ℕ) (last : Option LastCollection)
    → carried ≡ carried_by h → master ≡ master_of carried.members.0
    → last ≡ option_map told_of (last_collection network device (records_before (place_of h) hs))
    → Collected master carried.cycle last ≡ collected_ground network hs device h
collected_is network hs device h carried master last said is before =
    ap (λ (m : ℕ). Collected m carried.cycle last) (is ∙ ap (λ (c : Carried). master_of c.members.0) said)
    ∙ ap (λ (c : Carried). Collected (master_of (members_in h)) c.cycle last) said
    ∙ ap (λ (o : Option LastCollection). Collected (master_of (members_in h)) (cycle_in h) o) before

-- ---- what the grounds of permanences decide: by the schedule

-- the frame lies in the schedule, in a cycle that is used
abbrev in_time : SyncPlan → ℤ → ℤ → ℕ → Bool
in_time plan precision value cycle = nat_le cycle last_cycle && is_in_schedule plan precision cycle value

-- what a device that has the common time judges as within lies so, and what it judges as outside does not
by_time : (b : Bool) → ripe_as judgements.Within ≡ ripe_as (heard_by_schedule b) → b ≡ true
by_time true e = refl
by_time false e = absurd cc

not_by_time : (b : Bool) → ripe_as judgements.Outside ≡ ripe_as (heard_by_schedule b) → b ≡ false
not_by_time true e = absurd cc
not_by_time false e = refl

-- one that looks for it judges as neither
never_within : (b : Bool) → ripe_as judgements.Within ≡ ripe_as (heard_enough b) → ⊥
never_within true e = cc
never_within false e = cc

never_outside : (b : Bool) → ripe_as judgements.Outside ≡ ripe_as (heard_enough b) → ⊥
never_outside true e = cc
never_outside false e = cc

module _ (plan : SyncPlan) (precision : ℤ) where
  heard_within : (state : State) (adjustment point : ℤ) (cycle : ℕ) (members : Members)
      → ripe_as judgements.Within ≡ ripe_as (heard_as plan precision state adjustment point cycle members)
      → in_time plan precision (point +ℤ adjustment) cycle ≡ true
  heard_within Off adjustment point cycle members e = absurd cc
  heard_within Integrating adjustment point cycle members e =
      absurd (never_within (nat_le plan.threshold (count_of members) && nat_le cycle last_cycle) e)
  heard_within Joining adjustment point cycle members e = by_time (in_time plan precision (point +ℤ adjustment) cycle) e
  heard_within Synchronised adjustment point cycle members e =
      by_time (in_time plan precision (point +ℤ adjustment) cycle) e

  heard_outside : (state : State) (adjustment point : ℤ) (cycle : ℕ) (members : Members)
      → ripe_as judgements.Outside ≡ ripe_as (heard_as plan precision state adjustment point cycle members)
      → in_time plan precision (point +ℤ adjustment) cycle ≡ false
  heard_outside Off adjustment point cycle members e = absurd cc
  heard_outside Integrating adjustment point cycle members e =
      absurd (never_outside (nat_le plan.threshold (count_of members) && nat_le cycle last_cycle) e)
  heard_outside Joining adjustment point cycle members e =
      not_by_time (in_time plan precision (point +ℤ adjustment) cycle) e
  heard_outside Synchronised adjustment point cycle members e =
      not_by_time (in_time plan precision (point +ℤ adjustment) cycle) e

-- what lies so is no farther from the expected than the precision
near : (plan : SyncPlan) (precision cycle : ℕ) (value : ℤ) → is_in_schedule plan (pos precision) cycle value ≡ true
    → IsNoFarther (value -ℤ expected_at plan cycle) precision
near plan precision cycle value e =
    let e0 = expected_at plan cycle in
    let low = int_le-is (e0 -ℤ pos precision) value (both_left (int_le (e0 -ℤ pos precision) value) (int_le value (e0 +ℤ pos precision)) e) in
    let high = int_le-is value (e0 +ℤ pos precision) (both_right (int_le (e0 -ℤ pos precision) value) (int_le value (e0 +ℤ pos precision)) e) in
    (above e0 value precision low, below e0 value precision high)
  where
    above : (x v : ℤ) (p : ℕ) → (x -ℤ pos p) ≤ℤ v → neg_ℤ (pos p) ≤ℤ (v -ℤ x)
    above x v p le = omega (arith, ints, le)

    below : (x v : ℤ) (p : ℕ) → v ≤ℤ (x +ℤ pos p) → (v -ℤ x) ≤ℤ pos p
    below x v p le = omega (arith, ints, le)

-- and what is no farther lies so
in_schedule : (plan : SyncPlan) (precision cycle : ℕ) (value : ℤ) → IsNoFarther (value -ℤ expected_at plan cycle) precision
    → is_in_schedule plan (pos precision) cycle value ≡ true
in_schedule plan precision cycle value n =
    let e0 = expected_at plan cycle in
    and_from (int_le (e0 -ℤ pos precision) value) (int_le value (e0 +ℤ pos precision))
    (int_le-from (e0 -ℤ pos precision) value (above e0 value precision n.0)) (int_le-from value (e0 +ℤ pos precision) (below e0 value precision n.1))
  where
    above : (x v : ℤ) (p : ℕ) → neg_ℤ (pos p) ≤ℤ (v -ℤ x) → (x -ℤ pos p) ≤ℤ v
    above x v p le = omega (arith, ints, le)

    below : (x v : ℤ) (p : ℕ) → (v -ℤ x) ≤ℤ pos p → v ≤ℤ (x +ℤ pos p)
    below x v p le = omega (arith, ints, le)

-- is the frame heard by a schedule?
abbrev scheduled_ripe : Ripe → Bool
scheduled_ripe ripe.Within = true
scheduled_ripe ripe.Outside = true
scheduled_ripe other = false

ripe_scheduled : (j : Judgement) → scheduled_ripe (ripe_as j) ≡ is_by_schedule j
ripe_scheduled judgements.Opened = refl
ripe_scheduled j = refl

role_unscheduled : (role : Taken) → scheduled_ripe (ripe_by_role role) ≡ false
role_unscheduled taken.Opened = refl
role_unscheduled taken.Joined = refl
role_unscheduled taken.Repeat = refl
role_unscheduled taken.OtherCycle = refl

true_is_false : true ≡ false → ⊥
true_is_false e = cc

-- a compression master hears none so
never_collected : (network : Network) (points : List Point) (p : Point) (o : Option Reason) (verdict : Judgement) → is_by_schedule verdict ≡ true
    → IsCollectedOrDropped network points p o (ripe_as verdict) → ⊥
never_collected network points p (Some reason) verdict by e = true_is_false (sym by ∙ sym (ripe_scheduled verdict) ∙ ap scheduled_ripe e)
never_collected network points p None verdict by so =
    true_is_false (sym by ∙ sym (ripe_scheduled verdict) ∙ ap scheduled_ripe so.becomes ∙ role_unscheduled so.taken)

-- ---- by what was collected

-- is the frame's point one of a collection?
abbrev collected_ripe : Ripe → Bool
collected_ripe ripe.Opened = true
collected_ripe ripe.Joined = true
collected_ripe ripe.Repeat = true
collected_ripe other = false

ripe_collected : (j : Judgement) → collected_ripe (ripe_as j) ≡ is_collected j
ripe_collected judgements.Opened = refl
ripe_collected j = refl

by_enough : (b : Bool) → is_collected (heard_enough b) ≡ false
by_enough true = refl
by_enough false = refl

by_schedule : (b : Bool) → is_collected (heard_by_schedule b) ≡ false
by_schedule true = refl
by_schedule false = refl

-- what is heard by a schedule is none
heard_plain : (plan : SyncPlan) (precision : ℤ) (state : State) (adjustment point : ℤ) (cycle : ℕ) (members : Members)
    → is_collected (heard_as plan precision state adjustment point cycle members) ≡ false
heard_plain plan precision Off adjustment point cycle members = refl
heard_plain plan precision Integrating adjustment point cycle members = by_enough (nat_le plan.threshold (count_of members) && nat_le cycle last_cycle)
heard_plain plan precision Joining adjustment point cycle members = by_schedule (in_time plan precision (point +ℤ adjustment) cycle)
heard_plain plan precision Synchronised adjustment point cycle members = by_schedule (in_time plan precision (point +ℤ adjustment) cycle)

never_heard : (v j : Judgement) → is_collected v ≡ true → is_collected j ≡ false → ripe_as v ≡ ripe_as j → ⊥
never_heard v j is other e = true_is_false (sym is ∙ sym (ripe_collected v) ∙ ap collected_ripe e ∙ ripe_collected j ∙ other)

-- the role of a point of a collection is told by what becomes of it
role_opened : (role : Taken) → ripe.Opened ≡ ripe_by_role role → role ≡ taken.Opened
role_opened taken.Opened e = refl
role_opened taken.Joined e = absurd cc
role_opened taken.Repeat e = absurd cc
role_opened taken.OtherCycle e = absurd cc

role_joined : (role : Taken) → ripe.Joined ≡ ripe_by_role role → role ≡ taken.Joined
role_joined taken.Opened e = absurd cc
role_joined taken.Joined e = refl
role_joined taken.Repeat e = absurd cc
role_joined taken.OtherCycle e = absurd cc

role_repeat : (role : Taken) → ripe.Repeat ≡ ripe_by_role role → role ≡ taken.Repeat
role_repeat taken.Opened e = absurd cc
role_repeat taken.Joined e = absurd cc
role_repeat taken.Repeat e = refl
role_repeat taken.OtherCycle e = absurd cc

-- a point that opens a collection comes behind the last
opens_behind : (last : Option Cluster) (point : Units) (master cycle : ℕ) → role_in (open_in last point.0) (point_at point.0 master cycle) ≡ taken.Opened
    → IfSome (option_map told_of last) (λ c. c.ends <ℤ point.0)
opens_behind None point master cycle e = tt
opens_behind (Some c) point master cycle e =
    elim (cases_Bool (int_lt c.end point.0)) [
      | inl past ↦ int_lt-is c.end point.0 past
      | inr here ↦
          let none : Some c ≡ None = role_in-opened (Some c) (point_at point.0 master cycle)
          (ap (λ (b : Bool). role_in (if b then None else Some c) (point_at point.0 master cycle)) (sym here) ∙ e) in
          absurd cc
    ]

-- a point of the last collection finds it so
tests : (same has : Bool) (role : Taken) → (if same then (if has then taken.Repeat else taken.Joined) else taken.OtherCycle) ≡ role
    → ((role ≡ taken.Joined) → (same ≡ true) × (has ≡ false)) × ((role ≡ taken.Repeat) → (same ≡ true) × (has ≡ true))
tests true true role e = (λ r. absurd (repeat_joined (e ∙ r)), λ r. (refl, refl))
  where
    repeat_joined : taken.Repeat ≡ taken.Joined → ⊥
    repeat_joined e = cc
tests true false role e = (λ r. (refl, refl), λ r. absurd (joined_repeat (e ∙ r)))
  where
    joined_repeat : taken.Joined ≡ taken.Repeat → ⊥
    joined_repeat e = cc
tests false has role e = (λ r. absurd (other_joined (e ∙ r)), λ r. absurd (other_repeat (e ∙ r)))
  where
    other_joined : taken.OtherCycle ≡ taken.Joined → ⊥
    other_joined e = cc

    other_repeat : taken.OtherCycle ≡ taken.Repeat → ⊥
    other_repeat e = cc

joins_so : (last : Option Cluster) (point : Units) (master cycle : ℕ) → role_in (open_in last point.0) (point_at point.0 master cycle) ≡ taken.Joined
    → IsSomeAnd (option_map told_of last) (IsOpenFor point cycle master false)
joins_so None point master cycle e = absurd cc
joins_so (Some c) point master cycle e =
    elim (cases_Bool (int_lt c.end point.0)) [
      | inl past ↦
          let none : taken.Opened ≡ taken.Joined = ap (λ (b : Bool). role_in (if b then None else Some c) (point_at point.0 master cycle)) (sym past) ∙ e in
          absurd cc
      | inr here ↦
          let role = ap (λ (b : Bool). role_in (if b then None else Some c) (point_at point.0 master cycle)) (sym here) ∙ e in
          let t = (tests (cycle == c.cycle) (has_point_of c master) taken.Joined role).0 refl in
          record { until = not_less c.end point.0 here; same = eqb-true cycle c.cycle t.0; has_master = t.1 }
    ]

repeats_so : (last : Option Cluster) (point : Units) (master cycle : ℕ) → role_in (open_in last point.0) (point_at point.0 master cycle) ≡ taken.Repeat
    → IsSomeAnd (option_map told_of last) (IsOpenFor point cycle master true)
repeats_so None point master cycle e = absurd cc
repeats_so (Some c) point master cycle e =
    elim (cases_Bool (int_lt c.end point.0)) [
      | inl past ↦
          let none : taken.Opened ≡ taken.Repeat = ap (λ (b : Bool). role_in (if b then None else Some c) (point_at point.0 master cycle)) (sym past) ∙ e in
          absurd cc
      | inr here ↦
          let role = ap (λ (b : Bool). role_in (if b then None else Some c) (point_at point.0 master cycle)) (sym here) ∙ e in
          let t = (tests (cycle == c.cycle) (has_point_of c master) taken.Repeat role).1 refl in
          record { until = not_less c.end point.0 here; same = eqb-true cycle c.cycle t.0; has_master = t.1 }
    ]

-- ---- a permanence of the report

module _ (network : Network) (octets : List ℕ) (ns : List Note) (end : Units) (of : IsReportOf network octets ns end) (number : ℕ) (h : Happening)
    (there : numbered (happenings network ns) number ≡ Some h) (device : DeviceId) (link : LinkId) (cause : ℕ) (point : Units) (verdict : Judgement)
    (is : h.note.body ≡ notes.Permanent device link cause point verdict) where
  abbrev own : Scenario
  own = scenario_of network ns

  abbrev all : List Happening
  all = happenings network ns

  abbrev before : List Happening
  before = (parted_there of number h there).before

  are : records_before (place_of h) all ≡ before
  are = (parted_there of number h there).are

  due : IsDue own before h
  due = let p = parted_there of number h there in (of.run.founded p.before p.later h p.parts).1

  permanence : BecomesPermanent own before device (time_of h) link cause point (ripe_as verdict)
  permanence = subst (λ b. IsCaused own before h.note.time b) is due.cause

  frame_is : h.frame ≡ Some permanence.frame
  frame_is =
      ap (λ (x : Happening). x.frame) due.same
      ∙ ap (frame_by network before) is
      ∙ ap (option_and_then (λ (x : Happening). x.frame)) permanence.permanent.there
      ∙ permanence.permanent.of_frame

  cycle_is : permanence.frame.cycle ≡ cycle_in h
  cycle_is = ap (λ (o : Option Pcf). option_map_or (λ (f : Pcf). f.cycle) o 0) (sym frame_is)

  members_are : permanence.frame.members.0 ≡ members_in h
  members_are = ap (λ (o : Option Pcf). option_map_or (λ (f : Pcf). f.members.0) o 0) (sym frame_is)

  -- it is judged by the records before it
  judged : before_permanence before device (time_of h) link cause permanence.frame point ≡ before
  judged =
      let place : place_at (time_of h) permanence.frame.members.0 (notes.Permanent device link cause point judgements.Ignored) ≡ place_of h =
      ap (λ n. place_at (time_of h) n (notes.Permanent device link cause point verdict)) members_are
      ∙ ap (place_at (time_of h) (members_in h)) (sym is) in
      let p = parted_there of number h there in
      ap (λ (q : List ℕ). filter (λ g. is_before (place_of g) q) before) place
      ∙ all_kept (λ g. is_before (place_of g) (place_of h)) before
      (λ g i. before_is (place_of g) (place_of h) ((of.run.founded p.before p.later h p.parts).0 g i))

  outcome : IsPermanenceOutcome network device (state_at_hearing own before device (time_of h)) (adjustment_at_hearing own before device (time_of h)).0
      (points_of before device) permanence.frame point.0 (ripe_as verdict)
  outcome =
      subst (λ hs. IsPermanenceOutcome network device (state_at_hearing own hs device (time_of h))
      (adjustment_at_hearing own hs device (time_of h)).0 (points_of hs device) permanence.frame point.0 (ripe_as verdict)) judged permanence.becomes

  abbrev heard_so : Judgement
  heard_so = heard_as (plan_of network device) (observation_window network) (state_at_hearing own before device (time_of h))
      (adjustment_at_hearing own before device (time_of h)).0 point.0 permanence.frame.cycle permanence.frame.members

  abbrev collected_so : Type 0
  collected_so = IsCollectedOrDropped network (points_of before device) (point_at point.0 (master_of permanence.frame.members.0) permanence.frame.cycle)
      (point_fault network (state_at_hearing own before device (time_of h)) (adjustment_at_hearing own before device (time_of h)).0 point.0
      permanence.frame.cycle) (ripe_as verdict)

  -- a compression master collects it, any other device hears it
  by_device : ((is_cm network device ≡ true) × collected_so) ⊎ (ripe_as verdict ≡ ripe_as heard_so)
  by_device =
      elim (cases_Bool (is_cm network device)) [
        | inl cm ↦ inl (cm, subst (λ (b : Bool). MatchBool b collected_so (ripe_as verdict ≡ ripe_as heard_so)) cm outcome)
        | inr not ↦ inr (subst (λ (b : Bool). MatchBool b collected_so (ripe_as verdict ≡ ripe_as heard_so)) not outcome)
      ]

  -- by the schedule, where it is judged so
  by_plan : is_by_schedule verdict ≡ true → ripe_as verdict ≡ ripe_as heard_so
  by_plan scheduled =
      elim by_device [ inl both ↦ absurd (never_collected network _ _ _ verdict scheduled both.1) | inr e ↦ e ]

  adjustment_is : (adjustment_at_hearing own before device (time_of h)).0 ≡ hearing_adjustment own all device h
  adjustment_is = ap (λ hs. (adjustment_at_hearing own hs device (time_of h)).0) (sym are)

  pub within_so : verdict ≡ judgements.Within → IsPermanentBy point (cycle_in h) judgements.Within (scheduled_ground own all device point h)
  within_so same =
      let plan = plan_of network device in
      let heard = sym (ap ripe_as same) ∙ by_plan (ap is_by_schedule same) in
      let time = heard_within plan (observation_window network) (state_at_hearing own before device (time_of h))
      (adjustment_at_hearing own before device (time_of h)).0 point.0 permanence.frame.cycle permanence.frame.members heard in
      let there = ap (λ a. in_time plan (observation_window network) (point.0 +ℤ a) permanence.frame.cycle) (sym adjustment_is)
      ∙ time in
      let so = ap (λ c. in_time plan (observation_window network) (point.0 +ℤ hearing_adjustment own all device h) c) (sym cycle_is) ∙ there in
      let used = both_left (nat_le (cycle_in h) last_cycle)
      (is_in_schedule plan (observation_window network) (cycle_in h) (point.0 +ℤ hearing_adjustment own all device h)) so in
      let close = both_right (nat_le (cycle_in h) last_cycle)
      (is_in_schedule plan (observation_window network) (cycle_in h) (point.0 +ℤ hearing_adjustment own all device h)) so in (
        refl,
        refl,
        (
          leb-true (cycle_in h) last_cycle used,
          near plan (amount network.precision) (cycle_in h)
              (point.0 +ℤ hearing_adjustment own all device h) close,
        ),
      )

  pub outside_so : verdict ≡ judgements.Outside → IsPermanentBy point (cycle_in h) judgements.Outside (scheduled_ground own all device point h)
  outside_so same =
      let plan = plan_of network device in
      let heard = sym (ap ripe_as same) ∙ by_plan (ap is_by_schedule same) in
      let time = heard_outside plan (observation_window network) (state_at_hearing own before device (time_of h))
      (adjustment_at_hearing own before device (time_of h)).0 point.0 permanence.frame.cycle permanence.frame.members heard in
      let there = ap (λ a. in_time plan (observation_window network) (point.0 +ℤ a) permanence.frame.cycle) (sym adjustment_is)
      ∙ time in
      let so = ap (λ c. in_time plan (observation_window network) (point.0 +ℤ hearing_adjustment own all device h) c) (sym cycle_is) ∙ there in (
        refl,
        refl,
        λ used close.
            not_both (in_time plan (observation_window network) (point.0 +ℤ hearing_adjustment own all device h) (cycle_in h))
            (and_from (nat_le (cycle_in h) last_cycle)
            (is_in_schedule plan (observation_window network) (cycle_in h) (point.0 +ℤ hearing_adjustment own all device h)) (le-leb
            (cycle_in h) last_cycle used)
            (in_schedule plan (amount network.precision) (cycle_in h) (point.0 +ℤ hearing_adjustment own all device h) close)) so,
      )

  -- by the last collection before it, where it is judged so; that is the last of the clusters of the points before it
  module _ (rises : is_cm network device ≡ true → ComeInOrder device before) where
    collected : is_collected verdict ≡ true → (role : Taken) × (ripe_as verdict ≡ ripe_by_role role)
        × (role_in (open_in (last_collection network device (records_before (place_of h) all)) point.0)
        (point_at point.0 (master_of (members_in h)) (cycle_in h)) ≡ role)
    collected is_so =
        elim by_device [
          | inl both ↦ by both.0 (point_fault network (state_at_hearing own before device (time_of h)) (adjustment_at_hearing own before device
              (time_of h)).0 point.0 permanence.frame.cycle) both.1
          | inr e ↦ absurd (never_heard verdict heard_so is_so (heard_plain (plan_of network device) (observation_window network)
              (state_at_hearing own before device (time_of h))
              (adjustment_at_hearing own before device (time_of h)).0 point.0 permanence.frame.cycle permanence.frame.members) e)
        ]
      where
        never_dropped : (v : Judgement) (reason : Reason) → is_collected v ≡ true → ripe_as v ≡ ripe.Dropped reason → ⊥
        never_dropped v reason is e = true_is_false (sym is ∙ sym (ripe_collected v) ∙ ap collected_ripe e)

        by : is_cm network device ≡ true → (o : Option Reason) → IsCollectedOrDropped network (points_of before device)
            (point_at point.0 (master_of permanence.frame.members.0) permanence.frame.cycle) o (ripe_as verdict)
            → (role : Taken) × (ripe_as verdict ≡ ripe_by_role role)
            × (role_in (open_in (last_collection network device (records_before (place_of h) all)) point.0)
            (point_at point.0 (master_of (members_in h)) (cycle_in h)) ≡ role)
        by cm (Some reason) e = absurd (never_dropped verdict reason is_so e)
        by cm None so =
            let last : last_collection network device (records_before (place_of h) all) ≡ last_or None so.collected.clusters =
            ap (last_collection network device) are ∙ last_stands network device before so.collected.clusters (rises cm) so.collected.are in (
              so.taken,
              so.becomes,
              ap (λ o. role_in (open_in o point.0) (point_at point.0 (master_of (members_in h)) (cycle_in h))) last
                  ∙ sym (ap (λ m. role_in (open_in (last_or None so.collected.clusters) point.0) (point_at point.0 (master_of m)
                  (cycle_in h))) members_are)
                  ∙ sym (ap (λ c. role_in (open_in (last_or None so.collected.clusters) point.0)
                  (point_at point.0 (master_of permanence.frame.members.0) c)) cycle_is)
                  ∙ sym so.collected.is,
            )

    pub opened_so : verdict ≡ judgements.Opened → IsPermanentBy point (cycle_in h) judgements.Opened (collected_ground network all device h)
    opened_so same =
        let c = collected (ap is_collected same) in
        let role = role_opened c.0 (sym (ap ripe_as same) ∙ c.1) in
        (refl, opens_behind (last_collection network device (records_before (place_of h) all)) point (master_of (members_in h)) (cycle_in h) (c.2 ∙ role))

    pub joined_so : verdict ≡ judgements.Joined → IsPermanentBy point (cycle_in h) judgements.Joined (collected_ground network all device h)
    joined_so same =
        let c = collected (ap is_collected same) in
        let role = role_joined c.0 (sym (ap ripe_as same) ∙ c.1) in
        (refl, joins_so (last_collection network device (records_before (place_of h) all)) point (master_of (members_in h)) (cycle_in h) (c.2 ∙ role))

    pub repeat_so : verdict ≡ judgements.Repeat → IsPermanentBy point (cycle_in h) judgements.Repeat (collected_ground network all device h)
    repeat_so same =
        let c = collected (ap is_collected same) in
        let role = role_repeat c.0 (sym (ap ripe_as same) ∙ c.1) in
        (refl, repeats_so (last_collection network device (records_before (place_of h) all)) point (master_of (members_in h)) (cycle_in h) (c.2 ∙ role))
