-- The stretches of a compression master: its points in order, their clusters, and one more record.
use Rattle.std.proofs.Common
use Common.{if◌then◌else◌, ◌++◌, ◌+ℤ◌, ◌-ℤ◌, ◌<ℤ◌, ◌<◌, ◌∙◌, ◌∷◌, ◌≡◌, ◌≤ℤ◌, ◌≤◌, ◌⊎◌, All, Bool, List, None, Option}
use Common.{Some, [], ap, arith, false, filter, inl, inr, int_eq, length, map, negsuc, pos, refl, slice_get, subst, suc}
use Common.{sym, true, unsigned_abs, zero, ℕ, ℤ}
use Rattle.std.proofs.lemmas.{Bool.{and_from, and_parts, cases_lt, cases_order, eq-eqb, eqb-true}, Int.ints}
use Rattle.std.proofs.lemmas.{List.Elements.{All-cons, All-nil, filter_map-append}}
use Rattle.std.specs.{List.{Sorted.IsPartitionedBy, after_last, cons_option, last_or}}
use Rattle.std.specs.{Prelude.{◌&&◌, ◌==◌, IfSome, filter_map, slice_set}}
use Rattle.audit_devices.proofs.Kept.{parted_on, test_chain}
use Rattle.compression.{proofs.Collectors.AreClusters-unique, specs.Clusters.{AreClusters, Cluster, Point, point_at}}
use Rattle.run_law.proofs.records.Order.{after_more, all_kept, before_is, in_drop, place_order}
use Rattle.audit_devices.specs.{Effects.carried_by, Keeping.records_before}
use Rattle.audit_devices.specs.declared.stretches.{kept.Entry.Entry}
use Rattle.audit_devices.specs.declared.stretches.change.CollectionChange.{CollectionChange, TheVariants.{Ends, Gives}}
use Rattle.audit_devices.specs.stretches.{Changes.{change_by, collector_in, permanence_change}}
use Rattle.audit_devices.specs.stretches.{Points.{HasPoints, MayBring, emissions_for, points_with}}
use Rattle.audit_devices.specs.stretches.{Rising.{NeverFall, RisingLaw}}
use Rattle.audit_devices.specs.stretches.Keeping
use Keeping.{IsOfRecord, Keeps, KeepsAll, StandsFor, StandsForSome, Stretches, entry_before}
use Rattle.audit_law.specs.{collections.{Gathered.Gathers, Kept.{History, clusters_in, emissions_in, emitted}}}
use Rattle.audit_law.specs.{declared.collections.{emitted.Emitted.Emitted, gathering.Gathering.Gathering}}
use Rattle.audit_law.specs.{law.DueRecords.{IsCaused, IsDue}}
use Rattle.net_plan.{proofs.SameIds.other_device}
use Rattle.net_plan.specs.{Ranges.IsInRange, declared.{ids.{DeviceId.DeviceId, LinkId.LinkId}, network.Network.Network}}
use Rattle.run_law.proofs.{control.Arrived.arrived_young, law.FirstDeliveries.numbered_in}
use Rattle.run_law.proofs.{runs.Places.{in_left, in_parts, in_right, parted}}
use Rattle.run_law.specs.{declared.{judgement.{Judgement.Judgement, Why.TheVariants.On}, note.NoteBody.NoteBody}}
use Rattle.run_law.specs.{device.States.cycle_in, runs.Runs.IsFounded, scenario.{Devices.is_cm, Scenarios.Scenario}}
use Rattle.run_law.specs.control.{Collections.{ends_stretch, master_of, observation_window, point_by, points_of}}
use Rattle.run_law.specs.control.{Permanence.{BecomesPermanent, IsPermanent}}
use Rattle.run_law.specs.records.{Happenings.{Happening, time_of}, Order.{AllBefore, IsBefore, IsIn, is_before}}
use Rattle.run_law.specs.records.{Ranks.{members_in, place_at, place_of}}
use Rattle.tte_units.{specs.{Amount.amount, declared.units.Units.Units}}
use Rattle.tte_units.proofs.general_lemmas.Lists
use Lists.{after_one, filter_off, filter_on, got_within, last_pushed, set_other, set_same}
use Rattle.run_law.specs.declared.judgement.Judgement.TheVariants as judgements
use Rattle.run_law.specs.declared.note.NoteBody.TheVariants as notes

-- ---- the clusters of a gathering are those of its points

pub clusters_same : {network : Network} {points : List Point} (clusters : List Cluster) {h : History} {g : Gathering}
    → HasPoints network points h g → AreClusters (observation_window network) points clusters
    → clusters_in h g ≡ clusters
clusters_same {network} {points} clusters {h} {g} has are =
    AreClusters-unique (observation_window network) points (clusters_in h g) clusters
    (subst (λ w. AreClusters w points (clusters_in h g)) has.ow has.gathers.are) are

pub emissions_same : {network : Network} {points : List Point} (clusters : List Cluster) {h : History}
    {g : Gathering} → HasPoints network points h g → AreClusters (observation_window network) points clusters
    → emissions_in h g ≡ emissions_for network clusters
emissions_same clusters has are = grind (arith, map, clusters_same)

-- ---- the test of what is emitted

abbrev is_same : Emitted → Emitted → Bool
is_same f a = int_eq f.opened a.opened && (int_eq f.at a.at && (f.cycle == a.cycle && f.members == a.members))

same_numbers : (x y : ℤ) → int_eq x y ≡ true → x ≡ y
same_numbers x y e = grind (arith, ints, e)

number_same : (x : ℤ) → int_eq x x ≡ true
number_same x = grind (arith, ints)

abbrev of_numbers : ℤ → ℤ → ℕ → ℕ → Emitted
of_numbers opened at cycle members = record { opened = opened; at = at; cycle = cycle; members = members }

pub same_emitted : (f a : Emitted) (b : Bool) → b ≡ is_same f a → b ≡ true → f ≡ a
same_emitted f a b is told = grind (arith, and_parts, int_eq, same_numbers, eqb-true)

pub equal_emitted : (f a : Emitted) (b : Bool) → b ≡ is_same f a → f ≡ a → b ≡ true
equal_emitted f a b is same = grind (arith, and_from, int_eq, number_same, eq-eqb)

-- ---- what one more record makes of the points of a stretch: what a record does

same_id : (d other : DeviceId) → Some other ≡ Some d → (d.0 == other.0) ≡ true
same_id d other e = let one : other ≡ d = cc in eq-eqb d.0 other.0 (sym (ap (λ (x : DeviceId). x.0) one))

pub ended : (d : DeviceId) (body : NoteBody) → change_by body ≡ Some Ends → collector_in body ≡ Some d → ends_stretch d body ≡ true
ended d (notes.Permanent other link cause point judgements.Integrates) c e = same_id d other e
ended d (notes.Permanent other link cause point verdict) c e = absurd cc
ended d (notes.Compressed other opened at cycle members judgements.Integrates) c e = same_id d other e
ended d (notes.Compressed other opened at cycle members verdict) c e = absurd cc
ended d (notes.State other state cause On) c e = absurd cc
ended d (notes.State other state cause why) c e = same_id d other e
ended d body c e = absurd cc

pub given_goes_on : (d : DeviceId) (body : NoteBody) (p : Units) → change_by body ≡ Some (Gives p) → ends_stretch d body ≡ false
given_goes_on d (notes.Permanent other link cause point judgements.Integrates) p c = absurd cc
given_goes_on d (notes.Permanent other link cause point verdict) p c = refl
given_goes_on d (notes.Compressed other opened at cycle members judgements.Integrates) p c = absurd cc
given_goes_on d (notes.Compressed other opened at cycle members verdict) p c = absurd cc
given_goes_on d (notes.State other state cause On) p c = absurd cc
given_goes_on d (notes.State other state cause why) p c = absurd cc
given_goes_on d body p c = absurd cc

given_same : (point p : Units) (verdict : Judgement) → Some (permanence_change point verdict) ≡ Some (Gives p) → point ≡ p
given_same point p judgements.Integrates e = absurd cc
given_same point p verdict e = cc

abbrev point_in : Happening → Units → Point
point_in h p = point_at p.0 (master_of (members_in h)) (cycle_in h)

pub given_point : (d : DeviceId) (h : Happening) (body : NoteBody) (p : Units) → change_by body ≡ Some (Gives p) → collector_in body ≡ Some d
    → point_by d h body ≡ Some (point_at p.0 (master_of (members_in h)) (cycle_in h))
given_point d h (notes.Permanent other link cause point verdict) p c e =
    ap (λ (b : Bool). if b then Some (point_in h point) else None) (same_id d other e)
    ∙ ap (λ q. Some (point_in h q)) (given_same point p verdict c)
given_point d h (notes.Compressed other opened at cycle members judgements.Integrates) p c e = absurd cc
given_point d h (notes.Compressed other opened at cycle members verdict) p c e = absurd cc
given_point d h (notes.State other state cause On) p c e = absurd cc
given_point d h (notes.State other state cause why) p c e = absurd cc
given_point d h body p c e = absurd cc

-- no change of the device's collections
abbrev pub IsQuiet : DeviceId → NoteBody → Type 0
IsQuiet d body = (c : CollectionChange) → change_by body ≡ Some c → collector_in body ≡ Some d → ⊥

quiet_goes_on : (d : DeviceId) (body : NoteBody) → IsQuiet d body → ends_stretch d body ≡ false
quiet_goes_on d (notes.Permanent other link cause point judgements.Integrates) not = other_device d other (not Ends refl)
quiet_goes_on d (notes.Permanent other link cause point verdict) not = refl
quiet_goes_on d (notes.Compressed other opened at cycle members judgements.Integrates) not = other_device d other (not Ends refl)
quiet_goes_on d (notes.Compressed other opened at cycle members verdict) not = refl
quiet_goes_on d (notes.State other state cause On) not = refl
quiet_goes_on d (notes.State other state cause why) not = other_device d other (not Ends refl)
quiet_goes_on d body not = refl

quiet_point : (d : DeviceId) (h : Happening) (body : NoteBody) → IsQuiet d body → point_by d h body ≡ None
quiet_point d h (notes.Permanent other link cause point verdict) not =
    ap (λ (b : Bool). if b then Some (point_in h point) else None) (other_device d other (not (permanence_change point verdict) refl))
quiet_point d h body not = refl

-- ---- the points

one_more : (f : Happening → Option Point) (hs : List Happening) (h : Happening) → filter_map f (hs ++ h ∷ []) ≡ filter_map f hs ++ cons_option (f h) []
one_more f hs h = filter_map-append f hs (h ∷ [])

no_end : (d : DeviceId) (h : Happening) → ends_stretch d h.note.body ≡ false → (y : Happening) → IsIn y (h ∷ []) → ends_stretch d y.note.body ≡ false
no_end d h e y (inl s) = ap (λ (x : Happening). ends_stretch d x.note.body) s ∙ e
no_end d h e y (inr i) = absurd i

pub went_on : (hs : List Happening) (h : Happening) (d : DeviceId) → ends_stretch d h.note.body ≡ false
    → points_of (hs ++ h ∷ []) d ≡ points_of hs d ++ cons_option (point_by d h h.note.body) []
went_on hs h d on = grind (arith, after_more, no_end, one_more)

append_none : (ps : List Point) → ps ++ [] ≡ ps
append_none [] = refl
append_none (p ∷ ps) = ap (λ (t : List Point). p ∷ t) (append_none ps)

module _ (hs : List Happening) (h : Happening) (d : DeviceId) where
  pub points_quiet : IsQuiet d h.note.body → points_of (hs ++ h ∷ []) d ≡ points_of hs d
  points_quiet quiet = grind (arith, went_on, quiet_goes_on, quiet_point, append_none)

  pub points_ended : change_by h.note.body ≡ Some Ends → collector_in h.note.body ≡ Some d
      → points_of (hs ++ h ∷ []) d ≡ []
  points_ended change of = grind (arith, after_one, ended)

  pub points_given : (p : Units) → change_by h.note.body ≡ Some (Gives p) → collector_in h.note.body ≡ Some d
      → points_of (hs ++ h ∷ []) d ≡ points_of hs d ++ point_at p.0 (master_of (members_in h)) (cycle_in h) ∷ []
  points_given p change of =
      went_on hs h d (given_goes_on d h.note.body p change)
      ∙ ap (λ (o : Option Point). points_of hs d ++ cons_option o []) (given_point d h h.note.body p change of)

-- ---- what is kept of a device's stretches goes on by one more record

-- the points behind a record of the device that changes its collections
pub points_then : (hs : List Happening) (h : Happening) (d : DeviceId) (change : CollectionChange) → change_by h.note.body ≡ Some change
    → collector_in h.note.body ≡ Some d → points_of (hs ++ h ∷ []) d ≡ points_with (points_of hs d) change (carried_by h)
points_then hs h d Ends is of = points_ended hs h d is of
points_then hs h d (Gives p) is of = points_given hs h d p is of

-- ---- a device whose collections the record does not change

pub kept_still : {network : Network} {hs : List Happening} {d : DeviceId} (h : Happening) {kept : Stretches}
    → IsQuiet d h.note.body → Keeps network hs d kept → Keeps network (hs ++ h ∷ []) d kept
kept_still {hs} {d} h {kept} quiet keeps = record {
  ow = keeps.ow;
  calc = keeps.calc;
  latest = subst (Gathers kept.collections kept.latest) (sym (points_quiet hs h d quiet)) keeps.latest;
  before = λ place. by_place place (keeps.before place) (is_before (place_of h) place) refl;
  places = λ e i. let old = keeps.places e i in record { h = old.h; there = in_left old.h hs (h ∷ []) old.there; place = old.place };
  order = keeps.order;
  each = keeps.each;
}
  where
    by_place : (place : List ℕ) → StandsFor kept.collections (entry_before place kept.entries) (points_of (records_before place hs) d)
        → (b : Bool) → is_before (place_of h) place ≡ b
        → StandsFor kept.collections (entry_before place kept.entries) (points_of (records_before place (hs ++ h ∷ [])) d)
    by_place place old true e =
        subst (StandsFor kept.collections (entry_before place kept.entries))
        (sym (ap (λ xs. points_of xs d) (filter_on (λ x. is_before (place_of x) place) hs h e)
        ∙ points_quiet (records_before place hs) h d quiet)) old
    by_place place old false e =
        subst (StandsFor kept.collections (entry_before place kept.entries))
        (sym (ap (λ xs. points_of xs d) (filter_off (λ x. is_before (place_of x) place) hs h e))) old

-- ---- a device whose collections it changes

abbrev entry_of : Happening → Gathering → Entry
entry_of h g = record { place = place_of h; gathering = g }

-- what the new collections stand for
pub record GoesOn (hs : List Happening) (d : DeviceId) (h : Happening) (old new : Stretches) (g : Gathering) : Type 0 where
  pub ow : new.collections.ow ≡ old.collections.ow
  pub calc : new.collections.calc ≡ old.collections.calc
  pub latest : new.latest ≡ g
  pub gathers : Gathers new.collections g (points_of (hs ++ h ∷ []) d)
  pub kept : (other : Gathering) (points : List Point) → Gathers old.collections other points → Gathers new.collections other points
  pub entries : new.entries ≡ old.entries ++ record { place = place_of h; gathering = g } ∷ []

still_for : (old new : History) → ((other : Gathering) (points : List Point) → Gathers old other points → Gathers new other points)
    → (e : Option Entry) (points : List Point) → StandsFor old e points → StandsFor new e points
still_for old new kept None points stands = stands
still_for old new kept (Some e) points stands = kept e.gathering points stands

pub kept_on : {network : Network} {hs : List Happening} {d : DeviceId} {h : Happening} {old new : Stretches}
    {g : Gathering} → AllBefore place_of hs (place_of h) → GoesOn hs d h old new g → Keeps network hs d old
    → Keeps network (hs ++ h ∷ []) d new
kept_on {hs} {d} {h} {old} {new} {g} all goes keeps = record {
  ow = goes.ow ∙ keeps.ow;
  calc = goes.calc ∙ keeps.calc;
  latest = subst (λ x. Gathers new.collections x (points_of (hs ++ h ∷ []) d)) (sym goes.latest) goes.gathers;
  before = λ place. by_place place (is_before (place_of h) place) refl;
  places = λ e i. by_entry e (in_parts e old.entries (entry_of h g ∷ []) (subst (IsIn e) goes.entries i));
  order = λ place.
      let test : Entry → Bool = λ e. is_before e.place place in
      subst (IsPartitionedBy test) (sym goes.entries) (parted_on test old.entries (entry_of h g) (keeps.order place) (ordered place));
  each = λ e i. stands_still e (in_parts e old.entries (entry_of h g ∷ []) (subst (IsIn e) goes.entries i));
}
  where
    by_place : (place : List ℕ) → (b : Bool) → is_before (place_of h) place ≡ b
        → StandsFor new.collections (entry_before place new.entries) (points_of (records_before place (hs ++ h ∷ [])) d)
    by_place place true e =
        let test : Entry → Bool = λ x. is_before x.place place in
        let records : Happening → Bool = λ x. is_before (place_of x) place in
        let whole = filter_on records hs h e
        ∙ ap (λ (xs : List Happening). xs ++ h ∷ []) (all_kept records hs (λ x i.
        test_chain (place_of x) (place_of h) place (before_is (place_of x) (place_of h) (all x i)) e)) in
        let last : entry_before place new.entries ≡ Some (entry_of h g) = ap (entry_before place) goes.entries
        ∙ ap (λ (xs : List Entry). last_or None xs) (filter_on test old.entries (entry_of h g) e)
        ∙ last_pushed None (filter test old.entries) (entry_of h g) in
        subst (λ o. StandsFor new.collections o (points_of (records_before place (hs ++ h ∷ [])) d)) (sym last)
        (subst (λ xs. Gathers new.collections g (points_of xs d)) (sym whole) goes.gathers)
    by_place place false e =
        let test : Entry → Bool = λ x. is_before x.place place in
        let records : Happening → Bool = λ x. is_before (place_of x) place in
        let last : entry_before place new.entries ≡ entry_before place old.entries = ap (entry_before place) goes.entries
        ∙ ap (λ (xs : List Entry). last_or None xs) (filter_off test old.entries (entry_of h g) e) in
        subst (λ o. StandsFor new.collections o (points_of (records_before place (hs ++ h ∷ [])) d)) (sym last)
        (subst (λ xs. StandsFor new.collections (entry_before place old.entries) (points_of xs d)) (sym (filter_off records hs h e))
        (still_for old.collections new.collections goes.kept (entry_before place old.entries) (points_of (records_before place hs) d)
        (keeps.before place)))

    by_entry : (e : Entry) → IsIn e old.entries ⊎ IsIn e (entry_of h g ∷ []) → IsOfRecord (hs ++ h ∷ []) e
    by_entry e (inl there) =
        let r = keeps.places e there in
        record { h = r.h; there = in_left r.h hs (h ∷ []) r.there; place = r.place }
    by_entry e (inr (inl same)) = record { h = h; there = in_right h hs (h ∷ []) (inl refl); place = ap (λ (x : Entry). x.place) same }
    by_entry e (inr (inr none)) = absurd none

    stands_still : (e : Entry) → IsIn e old.entries ⊎ IsIn e (entry_of h g ∷ []) → StandsForSome new.collections e
    stands_still e (inl there) = let were = keeps.each e there in (were.0, goes.kept e.gathering were.0 were.1)
    stands_still e (inr (inl same)) = subst (StandsForSome new.collections) (sym same) (points_of (hs ++ h ∷ []) d, goes.gathers)
    stands_still e (inr (inr none)) = absurd none

    ordered : (place : List ℕ) → is_before (place_of h) place ≡ true → (y : Entry) → IsIn y old.entries → is_before y.place place ≡ true
    ordered place passes y i =
        let r = keeps.places y i in
        ap (λ p. is_before p place) r.place
        ∙ test_chain (place_of r.h) (place_of h) place (before_is (place_of r.h) (place_of h) (all r.h r.there)) passes

-- ---- all devices

pub all_still : (network : Network) (hs : List Happening) (h : Happening) (all : List Stretches)
    → ((d : DeviceId) → d.0 < length all → is_cm network d ≡ true → IsQuiet d h.note.body) → KeepsAll network hs all → KeepsAll network (hs ++ h ∷ []) all
all_still network hs h all quiet keeps d kept there cm =
    kept_still h (quiet d (got_within all d.0 kept there) cm) (keeps d kept there cm)

pub all_on : {network : Network} (hs : List Happening) (h : Happening) {d : DeviceId} {new : Stretches}
    (all : List Stretches) → collector_in h.note.body ≡ Some d → d.0 < length all
    → Keeps network (hs ++ h ∷ []) d new → KeepsAll network hs all
    → KeepsAll network (hs ++ h ∷ []) (slice_set all d.0 new)
all_on {network} hs h {d} {new} all of within kept keeps device stretches there cm =
    elim (cases_order d.0 device.0) [
      | inl same ↦
          let mk : ℕ → DeviceId = λ n. record { 0 = n } in
          let one : d ≡ device = ap mk same in
          let found : Some new ≡ Some stretches = sym (set_same all d.0 new within) ∙ ap (slice_get (slice_set all d.0 new)) same ∙ there in
          let is : new ≡ stretches = cc in
          subst (λ x. Keeps network (hs ++ h ∷ []) x stretches) one (subst (Keeps network (hs ++ h ∷ []) d) is kept)
      | inr (inl lt) ↦ other (λ e. absurd (omega (arith, e, lt)))
      | inr (inr gt) ↦ other (λ e. absurd (omega (arith, e, gt)))
    ]
  where
    other : (d.0 ≡ device.0 → ⊥) → Keeps network (hs ++ h ∷ []) device stretches
    other not =
        kept_still h
        (λ c is e. let one : Some d ≡ Some device = sym of ∙ e in let is : d ≡ device = cc in not (ap (λ (x : DeviceId). x.0) is))
        (keeps device stretches (sym (set_other all d.0 device.0 new not) ∙ there) cm)

-- what a record may bring to its compression master
pub may_bring : (hs : List Happening) (h : Happening) (d : DeviceId) (change : CollectionChange) → change_by h.note.body ≡ Some change
    → IfSome (change_by h.note.body) (MayBring (points_of hs d)) → MayBring (points_of hs d) change
may_bring hs h d change is may = subst (λ (o : Option CollectionChange). IfSome o (MayBring (points_of hs d))) is may

-- ---- at first

-- one more that holds
pub each_more : {X : Type 0} (P : X → Type 0) (xs : List X) (x : X) → ((i : ℕ) (y : X) → slice_get xs i ≡ Some y → P y) → P x
    → (i : ℕ) (y : X) → slice_get (xs ++ x ∷ []) i ≡ Some y → P y
each_more P [] x old new zero y e = let is : x ≡ y = cc in subst P is new
each_more P [] x old new (suc i) y e = absurd cc
each_more P (z ∷ xs) x old new zero y e = old zero y e
each_more P (z ∷ xs) x old new (suc i) y e = each_more P xs x (λ j w f. old (suc j) w f) new i y e

-- ---- the points of a compression master come in order: lists

all_given : (P : Point → Type 0) (f : Happening → Option Point) (xs : List Happening) → ((x : Happening) → IsIn x xs → IfSome (f x) P) → All P (filter_map f xs)
all_given P f [] each = All-nil P
all_given P f (x ∷ xs) each = grind (arith, All-cons, (all_given P f xs (λ y i. each y (inr i))))

-- ---- one point

-- the point is no earlier than the reading at the frame's arrival
at_arrival : {s : Scenario} {hs : List Happening} {device : DeviceId} {t : ℕ} {link : LinkId} {cause : ℕ} {frame : _}
    {point : Units} → IsInRange s.network → IsFounded place_of (IsDue s) hs
    → (p : IsPermanent s hs device t link cause frame point) → pos (s.reading device (time_of p.arrival)) ≤ℤ point.0
at_arrival {s} {hs} {device} {link} {cause} {point} range founded p =
    let split = parted p.arrival hs (numbered_in hs cause p.arrival p.there) in
    let due = (founded split.0 split.1 p.arrival split.2).1 in
    let arrived = subst (λ body. IsCaused s split.0 p.arrival.note.time body) p.arrived due.cause in
    let young = arrived_young arrived in
    after (s.reading device (time_of p.arrival)) p.clock s.network.dmax.0 point.0 range.dmax.least young p.at_point
  where
    after : (r clock : ℕ) (dmax x : ℤ) → pos 1 ≤ℤ dmax → clock ≤ unsigned_abs dmax → x ≡ (pos r +ℤ (dmax -ℤ pos clock)) → pos r ≤ℤ x
    after r clock (pos d) x least young is = omega (arith, ints, is, young)
    after r clock (negsuc d) x least young is = absurd (omega (arith, ints, least))

-- ---- two points of one device

amounts : (p q : Units) → pos 0 ≤ℤ p.0 → pos 0 ≤ℤ q.0 → amount p ≤ amount q → p.0 ≤ℤ q.0
amounts p q a b le = grind (arith, unsigned_abs, ints)

-- a permanence that is due, and its point
record IsRipe (s : Scenario) (hs : List Happening) (device : DeviceId) (t : ℕ) (point : Units) : Type 0 where
  pub from : ℕ
  pub later : pos (s.reading device from) ≤ℤ point.0
  pub natural : pos 0 ≤ℤ point.0
  pub reached : point.0 ≤ℤ pos (s.reading device t)
  pub not_before : (x : ℕ) → from ≤ x → x < t → pos (s.reading device x) <ℤ point.0

ripens : {s : Scenario} {hs : List Happening} {device : DeviceId} {t : ℕ} {link : LinkId} {cause : ℕ} {point : Units}
    {is : _} → IsInRange s.network → IsFounded place_of (IsDue s) hs
    → BecomesPermanent s hs device t link cause point is → IsRipe s hs device t point
ripens range founded b =
    let later = at_arrival range founded b.permanent in
    record {
      from = time_of b.permanent.arrival;
      later = later;
      natural = omega (arith, ints, later);
      reached = b.permanent.reached.reached;
      not_before = λ x a lt. b.permanent.reached.not_before x (omega (arith, ints, a)) (omega (arith, ints, lt));
    }

in_order : {s : Scenario} {ps hs : List Happening} {device : DeviceId} {t u : ℕ} {p q : Units} → NeverFall s
    → IsRipe s ps device t p → IsRipe s hs device u q → (t < u) ⊎ (amount p ≤ amount q) → p.0 ≤ℤ q.0
in_order {p} {q} rises a b (inr le) = amounts p q a.natural b.natural le
in_order {device} {t} rises a b (inl lt) =
    elim (cases_lt t b.from) [
      | inl before ↦
          let more = rises device t b.from (omega (arith, before)) in
          omega (arith, ints, more, a.reached, b.later)
      | inr behind ↦ omega (arith, ints, a.reached, b.not_before t behind lt)
    ]

-- ---- the law

due_ripe : {s : Scenario} {hs : List Happening} {h : Happening} (device : DeviceId) (link : LinkId) (cause : ℕ)
    (point : Units) (verdict : Judgement) → IsInRange s.network → IsFounded place_of (IsDue s) hs → IsDue s hs h
    → h.note.body ≡ notes.Permanent device link cause point verdict → IsRipe s hs device (time_of h) point
due_ripe {s} {hs} {h} device link cause point verdict range founded due is =
    ripens range founded (subst (λ body. IsCaused s hs h.note.time body) is due.cause)

front_founded : (s : Scenario) (hs ps qs : List Happening) → hs ≡ ps ++ qs → IsFounded place_of (IsDue s) hs → IsFounded place_of (IsDue s) ps
front_founded s hs ps qs e founded = λ ls rs x f. founded ls (rs ++ qs) x (e ∙ ap (λ (xs : List Happening). xs ++ qs) f ∙ assoc ls (x ∷ rs) qs)
  where
    assoc : (xs ys zs : List Happening) → (xs ++ ys) ++ zs ≡ xs ++ (ys ++ zs)
    assoc [] ys zs = refl
    assoc (x ∷ xs) ys zs = ap (λ (ts : List Happening). x ∷ ts) (assoc xs ys zs)

-- a point of the device before this one is no later
given_before : {s : Scenario} {hs : List Happening} {h : Happening} (x : Happening) (device : DeviceId)
    (link other_link : LinkId) (cause other_cause : ℕ) (point other : Units) (verdict other_verdict : Judgement)
    → IsInRange s.network → NeverFall s → IsFounded place_of (IsDue s) hs → AllBefore place_of hs (place_of h)
    → IsDue s hs h → h.note.body ≡ notes.Permanent device link cause point verdict → IsIn x hs
    → x.note.body ≡ notes.Permanent device other_link other_cause other other_verdict → other.0 ≤ℤ point.0
given_before {s} {hs} {h} x device link other_link cause other_cause point other verdict other_verdict range rises
    founded all due is there was =
    let split = parted x hs there in
    let x_due = (founded split.0 split.1 x split.2).1 in
    let front = front_founded s hs split.0 (x ∷ split.1) split.2 founded in
    let before : IsBefore (place_at (time_of x) (members_in x) x.note.body) (place_at (time_of h) (members_in h) h.note.body) = all x there in
    let placed = subst (λ body. IsBefore (place_at (time_of x) (members_in x) body) (place_at (time_of h) (members_in h) h.note.body)) was
    before in
    let both = subst (λ body. IsBefore (place_at (time_of x) (members_in x) (notes.Permanent device other_link other_cause other other_verdict))
    (place_at (time_of h) (members_in h) body)) is placed in
    in_order rises (due_ripe device other_link other_cause other other_verdict range front x_due was)
    (due_ripe device link cause point verdict range founded due is)
    (place_order (time_of x) (time_of h) device.0 (amount other) (amount point) (members_in x ∷ other_link.0 ∷ other_cause ∷ []) (members_in h ∷ link.0 ∷ cause
    ∷ []) both)

-- what any record gives to the device
gives : (device : DeviceId) (point : Units) (x : Happening) (body : NoteBody)
    → ((link : LinkId) (cause : ℕ) (other : Units) (verdict : Judgement) → body ≡ notes.Permanent device link cause other verdict → other.0 ≤ℤ point.0)
    → IfSome (point_by device x body) (λ p. p.reading ≤ℤ point.0)
gives device point x (notes.Permanent of link cause other verdict) each =
    by (device.0 == of.0) refl
  where
    by : (b : Bool) → (device.0 == of.0) ≡ b
        → IfSome (if b then Some (point_at other.0 (master_of (members_in x)) (cycle_in x)) else None) (λ p. p.reading ≤ℤ point.0)
    by false e = tt
    by true e =
        let mk : ℕ → NoteBody = λ n. notes.Permanent (record { 0 = n }) link cause other verdict in
        each link cause other verdict (ap mk (sym (eqb-true device.0 of.0 e)))
gives device point x body each = tt

points_before : {s : Scenario} {hs : List Happening} {h : Happening} (device : DeviceId) (link : LinkId) (cause : ℕ)
    (point : Units) (verdict : Judgement) → IsInRange s.network → NeverFall s → IsFounded place_of (IsDue s) hs
    → AllBefore place_of hs (place_of h) → IsDue s hs h
    → h.note.body ≡ notes.Permanent device link cause point verdict
    → All (λ p. p.reading ≤ℤ point.0) (points_of hs device)
points_before {hs} device link cause point verdict range rises founded all due is =
    all_given (λ p. p.reading ≤ℤ point.0) (λ x. point_by device x x.note.body) (after_last (λ x. ends_stretch device x.note.body) hs)
    (λ x i.
    gives device point x x.note.body
    (λ l c other v was. given_before x device link l cause c point other verdict v range rises founded all due is
    (in_drop _ hs x i) was))

stands : {s : Scenario} {hs : List Happening} {h : Happening} (body : NoteBody) → IsInRange s.network → NeverFall s
    → IsFounded place_of (IsDue s) hs → AllBefore place_of hs (place_of h) → IsDue s hs h → h.note.body ≡ body
    → (device : DeviceId) → collector_in body ≡ Some device → IfSome (change_by body) (MayBring (points_of hs device))
stands (notes.Permanent other link cause point judgements.Integrates) range rises founded all due is device of = tt
stands {hs} (notes.Permanent other link cause point verdict) range rises founded all due is device of =
    let one : other ≡ device = cc in
    subst (λ (d : DeviceId). All (λ p. p.reading ≤ℤ point.0) (points_of hs d)) one
    (points_before other link cause point verdict range rises founded all due is)
stands (notes.Compressed other opened at cycle members judgements.Integrates) range rises founded all due is device
    of = tt
stands (notes.Compressed other opened at cycle members verdict) range rises founded all due is device of = tt
stands (notes.State other state cause On) range rises founded all due is device of = tt
stands (notes.State other state cause why) range rises founded all due is device of = tt
stands body range rises founded all due is device of = tt

pub rising_law : RisingLaw
rising_law s hs h range rises founded all due = record {
  natural = λ device link cause point verdict is. (due_ripe device link cause point verdict range founded due
      is).natural;
  stands = λ device of cm. stands h.note.body range rises founded all due refl device of;
}
