-- The clusters of which a compression master owes a frame, and the records that pay it.
use Rattle.std.{specs.{List.last_or, Prelude.Contains}}
use Rattle.std.proofs.Common
use Common.{◌∙◌, ◌∷◌, ◌≡◌, ◌≤◌, Bool, List, None, Option, Some, [], ap, arith, false, filter, inl, inr, length, map}
use Common.{pos, refl, slice_get, subst, suc, sym, true, unsigned_abs, zero, ℕ}
use Rattle.audit_devices.specs.{Keeping.time_at, declared.stretches.kept.Entry.Entry}
use Rattle.audit_devices.specs.stretches.{Keeping.{Keeps, StandsFor, Stretches, entry_before}}
use Rattle.audit_devices.specs.stretches.{Points.{HasPoints, emissions_for}}
use Rattle.audit_law.{proofs.{collections_lemmas.Clusters.in_map, law_lemmas.Sound.due_in}}
use Rattle.audit_law.specs.{collections.Kept.{History, as_emitted, clusters_in, emitted}}
use Rattle.audit_law.specs.{declared.collections.{emitted.Emitted.Emitted, gathering.Gathering.Gathering}}
use Rattle.audit_law.specs.{law.{DueRecords.{IsCaused, IsDue}, Emitted.{TellsEmission, before_place, emission_place}}}
use Rattle.audit_sweep.specs.{records.places.Placing.HasRecordAt}
use Rattle.audit_sweep.specs.{unpaid.emissions.Emissions.{IsTold, Owes, OwesAt, OwesBehind, OwesWithin, sent_of}}
use Rattle.compression.{specs.{Clusters.{AreClusters, Cluster, Point}, declared.compressed.Compressed.Compressed}}
use Rattle.compression.proofs.{ClusterFacts.no_cluster, Collectors.AreClusters-unique}
use Rattle.run_law.proofs.{law.FirstDeliveries.in_filter, records.Order.{has_passed, index_of, is_there}}
use Rattle.compression.proofs.{Growth.{in_cases, in_head, in_none, in_tail}}
use Rattle.drift_clock.{proofs.Drifts.one_reach, specs.Reach.IsReach}
use Rattle.net_plan.{proofs.SameIds.same_device, specs.declared.{ids.DeviceId.DeviceId, network.Network.Network}}
use Rattle.run_law.proofs.{runs.Determined.same_members}
use Rattle.run_law.specs.{control.{Collections.{observation_window, points_of}, Emissions.Emits, Hearing.heard_as}}
use Rattle.run_law.specs.{declared.note.NoteBody.NoteBody, device.States.{adjustment_at_hearing, state_at_hearing}}
use Rattle.run_law.specs.{runs.Runs.IsFounded, scenario.{Devices.{is_cm, plan_of}, Scenarios.{Scenario, is_broken}}}
use Rattle.run_law.specs.records.{Happenings.{Happening, time_of}, Order.{IsBefore, IsIn, is_before}}
use Rattle.run_law.specs.records.{Ranks.{members_in, place_at, place_of, sign}}
use Rattle.tte_units.{proofs.general_lemmas.Lists.got_within, specs.{Amount.amount, declared.units.Units.Units}}
use Rattle.run_law.specs.declared.note.NoteBody.TheVariants as notes

-- ---- what a compression master owes is of a cluster that is kept: lists

contained : {X Y : Type 0} (f : X → Y) (xs : List X) (x : X) → Contains xs x → (k : ℕ) × (slice_get (map f xs) k ≡ Some (f x))
contained f [] x at = absurd (in_none x at)
contained f (z ∷ zs) x at =
    elim (in_cases z x zs at) [
      | inl e ↦ (zero, ap (λ (w : _). Some (f w)) e)
      | inr here ↦ let rest = contained f zs x here in (suc rest.0, rest.1)
    ]

last_there : {X : Type 0} (x : X) (xs : List X) (last : X) → last_or (Some x) xs ≡ Some last → IsIn last (x ∷ xs)
last_there x [] last e = inl cc
last_there x (y ∷ ys) last e = inr (last_there y ys last e)

pub last_in : {X : Type 0} (xs : List X) (last : X) → last_or None xs ≡ Some last → IsIn last xs
last_in [] last e = absurd cc
last_in (x ∷ xs) last e = last_there x xs last e

-- ---- what is owed

no_later : (p q : List ℕ) → IsBefore p q → time_at p ≤ time_at q
no_later p [] b = absurd b
no_later [] (y ∷ ys) b = omega arith
no_later (x ∷ xs) (y ∷ ys) (inl lt) = omega (arith, lt)
no_later (x ∷ xs) (y ∷ ys) (inr e) = omega (arith, e.0)

-- what is owed is of a cluster of an entry whose record is no later
pub owed_within : {s : Scenario} {hs : List Happening} {until : ℕ} {d : DeviceId} {kept : Stretches}
    {sent : Compressed} {t : ℕ} → Keeps s.network hs d kept → OwesAt s hs until d sent t
    → OwesWithin s hs until d kept.collections kept.entries (length kept.entries) sent t
owed_within {s} {hs} {until} {d} {kept} {sent} {t} keeps owed =
    by (entry_before place kept.entries) refl (keeps.before place)
  where
    place : List ℕ
    place = emission_place t d sent

    test : Entry → Bool
    test e = is_before e.place place

    emits : Emits s (before_place hs place) d t sent owed.owes.verdict
    emits = owed.owes.emits

    by : (o : Option Entry) → entry_before place kept.entries ≡ o → StandsFor kept.collections o (points_of (before_place hs place) d)
        → OwesWithin s hs until d kept.collections kept.entries (length kept.entries) sent t
    by None is stands =
        absurd (no_cluster (observation_window s.network) (points_of (before_place hs place) d) emits.clusters emits.cluster stands emits.are emits.there)
    by (Some e) is gathers =
        let passes = last_in (filter test kept.entries) e is in
        let at = index_of e kept.entries (in_filter test kept.entries e passes) in
        let before = is_there e.place place (has_passed test kept.entries e passes) in
        let clusters : emits.clusters ≡ clusters_in kept.collections e.gathering =
        AreClusters-unique (observation_window s.network) (points_of (before_place hs place) d) emits.clusters (clusters_in kept.collections e.gathering)
        emits.are
        (subst (λ w. AreClusters w (points_of (before_place hs place) d) (clusters_in kept.collections e.gathering)) keeps.ow gathers.are) in
        let found = contained (emitted kept.collections.ow kept.collections.calc) (clusters_in kept.collections e.gathering) emits.cluster
        (subst (λ (cs : List Cluster). Contains cs emits.cluster) clusters emits.there) in
        let same : as_emitted sent ≡ emitted kept.collections.ow kept.collections.calc emits.cluster = ap as_emitted emits.is
        ∙ sym (ap (λ w. emitted w (pos (amount s.network.calc)) emits.cluster) keeps.ow)
        ∙ sym (ap (λ w. emitted kept.collections.ow w emits.cluster) keeps.calc) in
        let behind : OwesBehind s hs until d kept.collections e 0 sent t = record {
          owed = owed;
          place = found.0;
          behind = omega arith;
          there = found.1 ∙ ap Some (sym same);
          begun = no_later e.place place before;
        } in
        record { index = at.0; e = e; below = got_within kept.entries at.0 e at.1; there = at.1; owed = behind }

-- ---- what is owed of the clusters before its place

pub are_in : {network : Network} {points : List Point} {h : History} {g : Gathering} → HasPoints network points h g
    → AreClusters (observation_window network) points (clusters_in h g)
are_in {points} {h} {g} has = subst (λ w. AreClusters w points (clusters_in h g)) has.ow has.gathers.are

to_map : {X Y : Type 0} (f : X → Y) (xs : List X) (x : X) → Contains xs x → Contains (map f xs) (f x)
to_map f [] x at = absurd (in_none x at)
to_map f (z ∷ zs) x at =
    elim (in_cases z x zs at) [
      | inl e ↦ subst (λ (w : _). Contains (f z ∷ map f zs) (f w)) e (in_head (f z) (map f zs))
      | inr here ↦ in_tail (f z) (f x) (map f zs) (to_map f zs x here)
    ]

pub owed_by : (s : Scenario) (hs : List Happening) (d : DeviceId) (a : Emitted) (t : ℕ) (clusters : List Cluster) → is_cm s.network d ≡ true
    → is_broken s d t ≡ false → AreClusters (observation_window s.network) (points_of (before_place hs (emission_place t d (sent_of a))) d) clusters
    → IsReach (s.reading d) (pos 0) a.at (pos t) → Contains (emissions_for s.network clusters) a → Owes s hs d (sent_of a) t
owed_by s hs d a t clusters cm correct are reach there =
    let found = in_map (emitted (observation_window s.network) (pos (amount s.network.calc))) clusters a there in
    let before = before_place hs (emission_place t d (sent_of a)) in
    record {
      verdict = heard_as (plan_of s.network d) (observation_window s.network) (state_at_hearing s before d t) (adjustment_at_hearing s before d t).0 a.at
          a.cycle
          (sent_of a).members;
      emits = record {
        cm = cm;
        correct = correct;
        clusters = clusters;
        are = are;
        cluster = found.0;
        there = found.1;
        is = ap sent_of (sym found.2);
        reached = reach;
        heard = refl;
      };
    }

pub emits_by : {s : Scenario} {hs : List Happening} {d : DeviceId} (a : Emitted) {t : ℕ} (clusters : List Cluster)
    → AreClusters (observation_window s.network)
    (points_of (before_place hs (emission_place t d (sent_of a))) d) clusters → Owes s hs d (sent_of a) t
    → Contains (emissions_for s.network clusters) a
emits_by {s} {hs} {d} a {t} clusters are owes =
    let emits = owes.emits in
    let window = observation_window s.network in
    let calc = pos (amount s.network.calc) in
    let one = AreClusters-unique window (points_of (before_place hs (emission_place t d (sent_of a))) d) emits.clusters clusters emits.are are in
    let there = subst (λ (cs : List Cluster). Contains cs emits.cluster) one emits.there in
    let same : a ≡ emitted window calc emits.cluster = ap as_emitted emits.is in
    subst (Contains (emissions_for s.network clusters)) (sym same) (to_map (emitted window calc) clusters emits.cluster there)

-- ---- the records that say that a compression master sent the frame of a cluster stand at one place

-- ---- the record at the place

same_units : (a b : Units) → amount a ≡ amount b → sign a.0 ≡ sign b.0 → a ≡ b
same_units a b amounts signs = grind (arith, unsigned_abs)

-- what stands at the place of an emission tells of it
pub told_at : (u m t : ℕ) (d : DeviceId) (sent : Compressed) (body : NoteBody) → place_at u m body ≡ emission_place t d sent → TellsEmission d sent body
told_at u m t d sent (notes.Event line what) e = absurd cc
told_at u m t d sent (notes.Arrived device link cause clock) e = absurd cc
told_at u m t d sent (notes.Permanent device link cause point verdict) e = absurd cc
told_at u m t d sent (notes.Compressed other opened at cycle members verdict) e = grind (arith, same_device, same_units, same_members)
told_at u m t d sent other e = absurd cc

pub told_there : (s : Scenario) (hs : List Happening) (d : DeviceId) (t : ℕ) (sent : Compressed) → HasRecordAt hs (emission_place t d sent) → IsTold s hs d sent
told_there s hs d t sent there = (there.0, there.1, told_at (time_of there.0) (members_in there.0) t d sent there.0.note.body there.2)

-- ---- the place of the record

-- a record that is due and tells of an emission
record IsSaid (s : Scenario) (device : DeviceId) (sent : Compressed) (x : Happening) : Type 0 where
  pub place : place_of x ≡ emission_place (time_of x) device sent
  pub reached : IsReach (s.reading device) (pos 0) sent.at.0 (pos (time_of x))

said : (s : Scenario) (before : List Happening) (device : DeviceId) (sent : Compressed) (x : Happening) (body : NoteBody)
    → x.note.body ≡ body → IsCaused s before x.note.time body → TellsEmission device sent body → IsSaid s device sent x
said s before device sent x (notes.Compressed other opened at cycle members verdict) is c e = grind arith
said s before device sent x other is c e = absurd e

pub there_told : (s : Scenario) (hs : List Happening) (d : DeviceId) (t : ℕ) (sent : Compressed) → IsFounded place_of (IsDue s) hs
    → IsReach (s.reading d) (pos 0) sent.at.0 (pos t) → IsTold s hs d sent → HasRecordAt hs (emission_place t d sent)
there_told s hs d t sent founded reach told =
    let x = told.0 in
    let due = due_in place_of (IsDue s) hs x founded told.1 in
    let is = said s due.before d sent x x.note.body refl due.due.cause told.2 in
    let times = one_reach (s.reading d) (pos 0) sent.at.0 (time_of x) t is.reached reach in
    (x, told.1, is.place ∙ ap (λ u. emission_place u d sent) times)
