-- The time-triggered frames that a device takes, the rows by which they enter it, and the links they come by.
use Rattle.std.proofs.Common
use Common.{if◌then◌else◌, ◌&&◌, ◌++◌, ◌<◌, ◌==◌, ◌∙◌, ◌∷◌, ◌≡◌, ◌≤◌, Bool, List, None, Option, Some, [], ap, arith}
use Common.{cond, false, get_or, length, map, refl, subst, suc, sym, take, true, zero, ℕ, ℤ, ⊎_elim}
use Rattle.std.proofs.lemmas.{Bool.{and_parts, cases_Bool, eq-eqb, eqb-true, false≢true}, Cmp.ranked}
use Rattle.std.proofs.lemmas.{List.{Elements.{All-head, All-map, All-tail, All-take, filter-append}, length-map}}
use Rattle.std.proofs.lemmas.{Option.{same_Some, slice_get_past, slice_get_read}}
use Rattle.std.specs.{BTreeMap.{BTreeMap, Updates, get}, Int.int_rem_euclid, List.All, Option.option_map_or}
use Rattle.std.specs.{Ordering.{is_eq, nat_cmp}}
use Rattle.std.specs.{Prelude.{IfSome, IsSome, filter, find, option_and_then, option_map, slice_get, unwrap_or}}
use Rattle.device_rules.specs.{Headings.{heading_fault, heading_of}}
use Rattle.device_rules.specs.{Intakes.{HasTaken, IsWhole, Takes, cycle_of, last_by, last_in, row_arrival}}
use Rattle.device_rules.specs.Entering
use Entering.{AreEntrances, AreRows, HasPeriod, HaveEntries, comes_by, entering_by, entrance_cmp, entrance_of, fault_of}
use Entering.{first_entering, is_by, is_of}
use Rattle.device_rules.specs.declared.{heading.Heading.Heading, intake.Intake.Intake}
use Rattle.device_rules.specs.declared.entrances.{EnteringRow.EnteringRow, Entrance.Entrance, Entrances.Entrances}
use Rattle.device_rules.specs.declared.entrances.{Which.{TheVariants.{Into, On}, Which}}
use Rattle.net_plan.{proofs.{SameIds.{same_link, same_vl}, Trees.id_by}}
use Rattle.net_plan.specs.{Places.link_at, Ranges.{IsInRange, IsRowInRange, IsVlInRange}}
use Rattle.net_plan.specs.declared.{ids.{DeviceId.DeviceId, LinkId.LinkId, VlId.VlId}, network.Network.Network}
use Rattle.net_plan.specs.declared.tables.{Link.Link, Row.Row, VirtualLink.VirtualLink}
use Rattle.net_plan.specs.declared.tables.{Way.{TheVariants.{Down, Up}, Way}}
use Rattle.run_law.{proofs.timed.Rows.{entry_at, has_entry}}
use Rattle.run_law.specs.{control.Arrivals.{are_others, is_of_other_member}}
use Rattle.run_law.specs.{declared.{judgement.Reason.Reason, steps.Arrival.Arrival}}
use Rattle.run_law.specs.{device.Standpoints.{Standpoint, clock_of, cycle_at, offset_in_cycle}}
use Rattle.run_law.specs.{machines.{Calls.IsLinkAt, Nodes.TakenFrame}}
use Rattle.run_law.specs.{scenario.{Devices.{is_end, is_parent_of, member_of}, Ways.{is_way, is_way_of, way_to}}}
use Rattle.run_law.specs.timed.Arrivals
use Arrivals.{entry_arrival, entry_entering, entry_of, is_row_with, octets_or_fault, row_fault, taken_by}
use Arrivals.{taken_or_fault, timed_arrival}
use Rattle.schedule_tables.specs.{Entries.IsEntry, declared.entry.Entry.Entry}
use Rattle.tte_units.{specs.declared.{frames.members.Members.Members, units.Units.Units}}
use Rattle.tte_units.proofs.general_lemmas.{Naturals.{cmp_equal, cmp_same, eqb_same, unequal}}
use Rattle.tte_units.proofs.general_lemmas.{Options.{no_entry, opened, some_or_none}}
use Rattle.tte_units.proofs.general_lemmas.Lists
use Lists.{find_new, find_of, find_skips, in_all, last_kept, last_pushed, some_at}
use Rattle.run_law.specs.declared.judgement.Reason.TheVariants as reasons
use Rattle.run_law.specs.declared.steps.Arrival.TheVariants as arrivals

-- ---- what is kept of the rows by which frames enter devices

-- ---- entrances

-- is the row one of these, and do its frames come by the entrance?
abbrev pub enters : Network → Which → Entrance → Row → Bool
enters network which e row = is_of network which row && is_by network e row

-- an entrance by its parts
abbrev pub made : LinkId → ℕ → Entrance
made link id = record { link = link; id = id }

-- a frame of the entry's row enters by its own entrance alone
entrance_is : (network : Network) (which : Which) (place : ℕ) (entry : Entry) (e : Entrance) → IsEntry network place entry
    → enters network which e entry.row ≡ true → (e ≡ entrance_of entry) × (is_of network which entry.row ≡ true)
entrance_is network which place entry e is t = grind (arith, and_parts, same_link, eqb-true, id_by)

enters_own : {network : Network} (which : Which) {place : ℕ} {entry : Entry} → IsEntry network place entry
    → is_of network which entry.row ≡ true → enters network which (entrance_of entry) entry.row ≡ true
enters_own {network} which {entry} is comes =
    rw comes (rw (eqb_same entry.row.link.0) (id_by (slice_get network.vl entry.row.vl.0) entry.vl entry.vl.id is.vl ∙ eqb_same entry.vl.id))

same_entrance : (a b : Entrance) → is_eq (entrance_cmp a b) ≡ true → a ≡ b
same_entrance a b e = grind (arith, cmp_same, ranked, same_link)

cmp_itself : (a : Entrance) → is_eq (entrance_cmp a a) ≡ true
cmp_itself a =
    rw (cmp_equal (nat_cmp a.link.0 a.link.0) a.link.0 a.link.0 (ranked a.link.0 a.link.0 (nat_cmp a.link.0 a.link.0) refl) refl)
    (rw (cmp_equal (nat_cmp a.id a.id) a.id a.id (ranked a.id a.id (nat_cmp a.id a.id) refl) refl) refl)

-- ---- the entry of a row that was found

no_kept : (network : Network) (o : Option Entry) → IsSome o → option_map (entering_by network) o ≡ None → ⊥
no_kept network None some e = absurd cc
no_kept network (Some x) some e = cc

module _ (network : Network) (which : Which) (rows : List Row) where
  -- where no row is kept for an entrance, none was found
  none_found : (e : Entrance) → HaveEntries network rows
      → option_map (entering_by network) (first_entering network which rows e) ≡ None
      → find (enters network which e) rows ≡ None
  none_found e have none = ⊎_elim
      (λ s.
      let some = find_of (λ row. IsSome (entry_of network row)) (enters network which e) rows s.0 have s.1 in
      absurd (no_kept network (entry_of network s.0) some
      (rw s.1 at none)))
      (λ n. n)
      (some_or_none (find (enters network which e) rows))

  -- ---- one row more

  -- a row that is not kept: it is none of these, or an earlier one stands for its entrance
  pub row_skipped : {place : ℕ} {entry : Entry} (kept : BTreeMap Entrance EnteringRow) → IsEntry network place entry
      → HaveEntries network rows → AreRows network which rows kept
      → (is_of network which entry.row ≡ true → IsSome (get entrance_cmp kept (entrance_of entry)))
      → AreRows network which (rows ++ entry.row ∷ []) kept
  row_skipped {place} {entry} kept is have are stands e =
      are e ∙ (rw (sym (find_skips (enters network which e) rows entry.row (λ t none.
      let own = entrance_is network which place entry e is t in
      let absent =
      are e ∙ (rw none)
      in
      no_entry (get entrance_cmp kept e) (rw own.0 (stands own.1)) absent))))

  -- a row that is kept, the first for its entrance
  pub row_kept : {place : ℕ} {entry : Entry} (old new : BTreeMap Entrance EnteringRow) → IsEntry network place entry
      → HaveEntries network rows → AreRows network which rows old → is_of network which entry.row ≡ true
      → get entrance_cmp old (entrance_of entry) ≡ None → Updates entrance_cmp old new (entrance_of entry)
      (Some (entering_by network entry)) → AreRows network which (rows ++ entry.row ∷ []) new
  row_kept {place} {entry} old new is have are comes absent up e = ⊎_elim
      (λ y.
      let same = same_entrance (entrance_of entry) e y in
      up.0 e ∙ ap (λ b. cond b (Some (entering_by network entry)) (get entrance_cmp old e)) y
      ∙ (rw (sym same) (sym (ap (λ o. option_map (entering_by network) (option_and_then (entry_of network) o))
      (find_new (enters network which (entrance_of entry)) rows entry.row (enters_own which is comes)
      (none_found (entrance_of entry) have (sym (are (entrance_of entry)) ∙ absent)))
      ∙ ap (option_map (entering_by network)) (entry_at is)))))
      (λ n.
      up.0 e ∙ ap (λ b. cond b (Some (entering_by network entry)) (get entrance_cmp old e)) n
      ∙ are e ∙ ap (λ o. option_map (entering_by network) (option_and_then (entry_of network) o))
      (sym (find_skips (enters network which e) rows entry.row (λ t none.
      let own = entrance_is network which place entry e is t in
      false≢true (sym n ∙ subst (λ x. is_eq (entrance_cmp x e) ≡ true) own.0 (cmp_itself e))))))
      (cases_Bool (is_eq (entrance_cmp (entrance_of entry) e)))

-- ---- rows in range

-- each front of the rows has entries
pub have_entries : {network : Network} (n : ℕ) → IsInRange network → HaveEntries network (take n network.row)
have_entries {network} n range =
    All-take (λ row. IsSome (entry_of network row)) n network.row (λ i d lt. has_entry (range.rows i d lt))

-- ---- time-triggered frames that a device takes, the rows by which they enter it, and the links they come by

-- ---- the row by which a frame enters a device

-- ---- the row that is kept

find_alike : (f g : Row → Bool) (rows : List Row) → ((row : Row) → f row ≡ g row) → find f rows ≡ find g rows
find_alike f g [] same = refl
find_alike f g (row ∷ rows) same =
    rw (same row) ((rw (find_alike f g rows same)))

-- the row by which a frame with the id comes on the way of the link
abbrev entering_on : Network → LinkId → ℕ → Way → Option Entry
entering_on network link id way =
    option_and_then (entry_of network) (find (λ row. is_way_of link way row.link row.way && is_row_with network id row) network.row)

-- where rows are alike to those of a way of the link, the same one is the first
alike : (network : Network) (which : Which) (link : LinkId) (id : ℕ) (way : Way)
    → ((row : Row) → (link.0 == row.link.0) ≡ true → is_of network which row ≡ is_way way row.way)
    → first_entering network which network.row (made link id) ≡ entering_on network link id way
alike network which link id way same =
    ap (option_and_then (entry_of network))
    (find_alike _ _ network.row (λ row. gated (is_of network which row) (link.0 == row.link.0) (is_way way row.way) (is_row_with network id row) (same row)))
  where
    gated : (e b v w : Bool) → (b ≡ true → e ≡ v) → (e && (b && w)) ≡ ((b && v) && w)
    gated e true v w h = rw (h refl) refl
    gated true false v w h = refl
    gated false false v w h = refl

module _ (network : Network) (entrances : Entrances) where
  row_found : (way : Way) (e : Entrance) (o : Option EnteringRow) → AreEntrances network entrances
      → (way ≡ Up → o ≡ get entrance_cmp entrances.up e) → (way ≡ Down → o ≡ get entrance_cmp entrances.down e)
      → o ≡ option_map (entering_by network) (first_entering network (On way) network.row e)
  row_found Up e o are up down = up refl ∙ are.up e
  row_found Down e o are up down = down refl ∙ are.down e

  -- what was looked up is kept of the row by which the frame enters
  pub found_is : (device : DeviceId) (link : LinkId) (id : ℕ) (way : Way) (o : Option EnteringRow)
      → AreEntrances network entrances → way ≡ way_to network device link
      → (way ≡ Up → o ≡ get entrance_cmp entrances.up (record { link = link; id = id }))
      → (way ≡ Down → o ≡ get entrance_cmp entrances.down (record { link = link; id = id }))
      → o ≡ option_map (entering_by network) (entry_entering network device link id)
  found_is device link id way o are is up down =
      row_found way (record { link = link; id = id }) o are up down
      ∙ ap (option_map (entering_by network)) (alike network (On way) link id way (λ row e. refl))
      ∙ (rw is)

-- a row comes to the device by a link of its own on the way on which it receives
comes_same : (parent : Bool) (l : Link) (device : DeviceId) (way : Way) → (l.parent.0 == device.0) ≡ parent → (parent ≡ false → (l.child.0 == device.0) ≡ true)
    → comes_by way l device ≡ is_way (if parent then Up else Down) way
comes_same true l device Up is child = is
comes_same true l device Down is child = rw is refl
comes_same false l device Up is child = is
comes_same false l device Down is child = rw (is, child refl) refl

link_of : (network : Network) (device : DeviceId) (link : LinkId) → IsLinkAt network device link
    → (l : Link) × (link_at network link ≡ Some l) × ((l.parent.0 == device.0) ≡ false → (l.child.0 == device.0) ≡ true)
link_of network device link is = grind (arith, opened, eq-eqb, false≢true)

-- the row by which a frame enters the device by one of its links
entered_at : (network : Network) (device : DeviceId) (link : LinkId) (id : ℕ) → IsLinkAt network device link
    → first_entering network (Into device) network.row (made link id) ≡ entry_entering network device link id
entered_at network device link id is =
    let l = link_of network device link is in
    alike network (Into device) link id (way_to network device link) (λ row e.
    let same = same_link link row.link (eqb-true link.0 row.link.0 e) in
    ap (λ o. option_map_or (λ x. comes_by row.way x device) o false)
    (subst (λ k. link_at network k ≡ Some l.0) same l.1)
    ∙ comes_same (is_parent_of network device link) l.0 device row.way
    (sym (rw l.1))
    (λ none. l.2 (sym (rw l.1) ∙ none)))

some_mapped : (network : Network) (o : Option Entry) (row : EnteringRow) → option_map (entering_by network) o ≡ Some row
    → (entry : Entry) × (o ≡ Some entry) × (row ≡ entering_by network entry)
some_mapped network None row e = absurd cc
some_mapped network (Some entry) row e = (entry, refl, sym (same_Some _ _ e))

none_mapped : (network : Network) (o : Option Entry) → option_map (entering_by network) o ≡ None → o ≡ None
none_mapped network None e = refl
none_mapped network (Some entry) e = absurd cc

-- ---- its virtual link

vl_by : (row : Row) (vl : Option VirtualLink) (link : Option Link) (entry : Entry)
    → option_and_then (λ v. option_map (λ l. record { row = row; vl = v; link = l }) link) vl ≡ Some entry → vl ≡ Some entry.vl
vl_by row None link entry e = absurd cc
vl_by row (Some v) None entry e = absurd cc
vl_by row (Some v) (Some l) entry e = ap (λ x. Some x.vl) (same_Some _ _ e)

has_vl : (network : Network) (o : Option Row) (entry : Entry) → option_and_then (entry_of network) o ≡ Some entry
    → (i : ℕ) × (slice_get network.vl i ≡ Some entry.vl)
has_vl network None entry e = absurd cc
has_vl network (Some row) entry e = (row.vl.0, vl_by row (slice_get network.vl row.vl.0) (slice_get network.link row.link.0) entry e)

module _ (network : Network) (device : DeviceId) (link : LinkId) where
  -- the row that is kept has a period
  pub has_period : (id : ℕ) (row : EnteringRow) → IsInRange network
      → option_map (entering_by network) (entry_entering network device link id) ≡ Some row → HasPeriod row
  has_period id row range e =
      let m = some_mapped network (entry_entering network device link id) row e in
      let v = has_vl network _ m.0 m.1 in
      subst HasPeriod (sym m.2) (in_all (IsVlInRange network) network.vl v.0 m.0.vl range.vls v.1).period_least

  -- ---- what becomes of the frame

  by_entry : (at : Standpoint) (octets : List ℕ) (heading : Heading) (o : Option Entry) (last : VlId → Option ℕ)
      → heading_of octets ≡ heading → heading_fault at.takes_part at.state network.marker heading ≡ None
      → entry_entering network device link heading.id ≡ o
      → timed_arrival network device link at octets last ≡ entry_arrival network device at (length octets) last o
  by_entry at octets heading o last is none there = grind (arith, length)

  -- a frame that enters by a row is judged by it
  pub entered : (at : Standpoint) (octets : List ℕ) (heading : Heading) (row : EnteringRow)
      → heading_of octets ≡ heading → heading_fault at.takes_part at.state network.marker heading ≡ None
      → option_map (entering_by network) (entry_entering network device link heading.id) ≡ Some row
      → (entry : Entry) × (row ≡ entering_by network entry)
      × ((last : VlId → Option ℕ) → timed_arrival network device link at octets last
      ≡ taken_or_fault network device at entry (row_fault network at entry (length octets) (last row.vl)))
  entered at octets heading row is none e =
      let m = some_mapped network (entry_entering network device link heading.id) row e in (
        m.0,
        m.2,
        λ last. by_entry at octets heading (Some m.0) last is none m.1
            ∙ ap (λ r. taken_or_fault network device at m.0
            (row_fault network at m.0 (length octets) (last r.vl))) (sym m.2),
      )

  -- a frame that enters by no row is unknown
  pub unknown : (at : Standpoint) (octets : List ℕ) (heading : Heading) → heading_of octets ≡ heading
      → heading_fault at.takes_part at.state network.marker heading ≡ None
      → option_map (entering_by network) (entry_entering network device link heading.id) ≡ None
      → (last : VlId → Option ℕ) → timed_arrival network device link at octets last ≡ arrivals.Dropped reasons.Unknown
  unknown at octets heading is none e last =
      by_entry at octets heading None last is none
      (none_mapped network (entry_entering network device link heading.id) e)

-- ---- time-triggered frames that a device takes

-- ---- what is kept can be judged

-- a row that can be judged, where so many virtual links are
abbrev IsFine : ℕ → EnteringRow → Type 0
IsFine count row = (1 ≤ row.period) × (row.vl.0 < count)

entry_fine : {network : Network} {row : Row} → IsInRange network → IsRowInRange network row
    → IfSome (option_map (entering_by network) (entry_of network row)) (IsFine (length network.vl))
entry_fine {network} {row} range r =
    let vl = some_at network.vl row.vl.0 r.vl in
    let link = some_at network.link row.link.0 r.link in
    let fine = in_all (IsVlInRange network) network.vl row.vl.0 vl.0 range.vls vl.1 in
    rw vl.1 (rw link.1 (fine.period_least, r.vl))

found_fine : {network : Network} (o : Option Row) → IsInRange network
    → ((row : Row) → o ≡ Some row → IsRowInRange network row)
    → IfSome (option_map (entering_by network) (option_and_then (entry_of network) o)) (IsFine (length network.vl))
found_fine None range each = tt
found_fine (Some row) range each = entry_fine range (each row refl)

module _ (network : Network) (device : DeviceId) (intake : Intake) (taken : List TakenFrame) where
  -- each row that frames enter by can be judged
  pub is_whole : IsInRange network → HasTaken network device intake taken → IsWhole intake
  is_whole range has link id =
      let entrance = made link id in
      rw (has.rows entrance) (rw has.count (found_fine (find (enters network (Into device) entrance) network.row) range
      (λ row e. find_of (IsRowInRange network) (enters network (Into device) entrance) network.row row range.rows e)))

  -- ---- how a frame is judged

  -- the row that was looked up is that by which the frame enters
  pub found_at : (link : LinkId) (id : ℕ) (o : Option EnteringRow) → HasTaken network device intake taken
      → IsLinkAt network device link → o ≡ get entrance_cmp intake.rows (made link id)
      → option_map (entering_by network) (entry_entering network device link id) ≡ o
  found_at link id o has at is =
      sym (is ∙ has.rows (made link id) ∙ ap (option_map (entering_by network)) (entered_at network device link id at))

-- there is none
pub none_there : (network : Network) (device : DeviceId) (link : LinkId) (heading : Heading) (at : Standpoint) (taken : List TakenFrame)
    → option_map (entering_by network) (entry_entering network device link heading.id) ≡ None
    → row_arrival network device link heading at taken ≡ arrivals.Dropped reasons.Unknown
none_there network device link heading at taken none =
    ap (entry_arrival network device at heading.length (last_by taken)) (none_mapped network (entry_entering network device link heading.id) none)

-- the cycle of the device's local value, and its place in it
pub cycle_same : (network : Network) (at : Standpoint) (local length : Units) → length ≡ network.cycle → local.0 ≡ clock_of at
    → cycle_of local.0 length.0 ≡ cycle_at network (clock_of at)
cycle_same network at local length l c = rw l ((rw c))

pub place_same : (network : Network) (at : Standpoint) (local length : Units) → length ≡ network.cycle → local.0 ≡ clock_of at
    → int_rem_euclid local.0 length.0 ≡ offset_in_cycle network (clock_of at)
place_same network at local length l c = rw l ((rw c))

-- what becomes of a frame of the virtual link in the cycle with this fault, or with none
abbrev pub arrival_by : Network → DeviceId → VlId → ℕ → Option Reason → Arrival
arrival_by network device vl cycle None = taken_by network device vl cycle
arrival_by network device vl cycle (Some reason) = arrivals.Dropped reason

by_fault : (network : Network) (device : DeviceId) (at : Standpoint) (entry : Entry) (fault : Option Reason)
    → taken_or_fault network device at entry fault ≡ arrival_by network device entry.row.vl (cycle_at network (clock_of at)) fault
by_fault network device at entry None = refl
by_fault network device at entry (Some reason) = refl

-- a frame of the row that was found is judged as the network says
pub judged : (network : Network) (device : DeviceId) (link : LinkId) (heading : Heading) (at : Standpoint) (taken : List TakenFrame) (row : EnteringRow)
    (cycle : ℕ) (place : ℤ) (last : Option ℕ) (fault : Option Reason)
    → option_map (entering_by network) (entry_entering network device link heading.id) ≡ Some row
    → cycle ≡ cycle_at network (clock_of at) → place ≡ offset_in_cycle network (clock_of at) → last ≡ last_by taken row.vl
    → fault ≡ fault_of row heading.length cycle place last → row_arrival network device link heading at taken ≡ arrival_by network device row.vl cycle fault
judged network device link heading at taken row cycle place last fault found cycle_is place_is last_is is =
    let m = some_mapped network (entry_entering network device link heading.id) row found in
    let entry = m.0 in
    let same = is ∙ ap (fault_of row heading.length cycle place) last_is
    ∙ ap (λ n. fault_of row heading.length n place (last_by taken row.vl)) cycle_is
    ∙ ap (λ z. fault_of row heading.length (cycle_at network (clock_of at)) z (last_by taken row.vl)) place_is
    ∙ ap (λ r. fault_of r heading.length (cycle_at network (clock_of at)) (offset_in_cycle network (clock_of at))
    (last_by taken r.vl)) m.2 in
    ap (entry_arrival network device at heading.length (last_by taken)) m.1
    ∙ ap (taken_or_fault network device at entry) (sym same)
    ∙ by_fault network device at entry fault
    ∙ ap (λ r. arrival_by network device r.vl (cycle_at network (clock_of at)) fault) (sym m.2)
    ∙ (rw (sym cycle_is))

-- ---- octets by their heading

module _ (network : Network) (device : DeviceId) (link : LinkId) (at : Standpoint) (octets : List ℕ)
    (heading : Heading) (taken : List TakenFrame) where
  -- octets without a fault of their heading are judged by the row by which they enter
  pub heard_by : heading ≡ heading_of octets → heading_fault at.takes_part at.state network.marker heading ≡ None
      → timed_arrival network device link at octets (last_by taken) ≡ row_arrival network device link heading at taken
  heard_by is none =
      by_entry network device link at octets heading (entry_entering network device link heading.id) (last_by taken)
      (sym is) none refl
      ∙ ap (λ h. entry_arrival network device at h.length (last_by taken)
      (entry_entering network device link heading.id)) (sym is)

  -- and others are dropped
  pub dropped_by : (reason : Reason) → heading ≡ heading_of octets
      → heading_fault at.takes_part at.state network.marker heading ≡ Some reason
      → timed_arrival network device link at octets (last_by taken) ≡ arrivals.Dropped reason
  dropped_by reason is some =
      ap (octets_or_fault network device link at octets (last_by taken))
      (ap (heading_fault at.takes_part at.state network.marker) (sym is) ∙ some)

-- ---- what was taken

-- the virtual link of the taking is the other
by_pushed : (taken : List TakenFrame) (t : TakenFrame) (vl : VlId) (b : Bool) → (t.vl.0 == vl.0) ≡ b → last_by (taken ++ t ∷ []) vl ≡ cond b (Some t.cycle)
    (last_by taken vl)
by_pushed taken t vl true e =
    rw (filter-append (λ x. x.vl.0 == vl.0) taken (t ∷ []))
    (rw e (ap (option_map (λ x. x.cycle)) (last_pushed None (filter (λ x. x.vl.0 == vl.0) taken) t)))
by_pushed taken t vl false e =
    rw (filter-append (λ x. x.vl.0 == vl.0) taken (t ∷ []))
    (rw e (ap (option_map (λ x. x.cycle)) (last_kept None (filter (λ x. x.vl.0 == vl.0) taken))))

not_same : (a b : ℕ) → (a == b) ≡ false → b ≡ a → ⊥
not_same a b e h = grind arith

-- one frame more
pub has_taken : {network : Network} {device : DeviceId} {old new : Intake} {taken : List TakenFrame} {vl : VlId}
    {cycle : ℕ} (t : TakenFrame) → HasTaken network device old taken → Takes old vl cycle new → t.vl ≡ vl
    → t.cycle ≡ cycle → HasTaken network device new (taken ++ t ∷ [])
has_taken {old} {new} {taken} t has takes vl_is cycle_is =
    let kept : Takes old t.vl t.cycle new = rw (vl_is, cycle_is) takes in
    record {
      rows = λ entrance. rw kept.rows (has.rows entrance);
      count = kept.count ∙ has.count;
      last = λ v. ⊎_elim
          (λ y. (rw (same_vl t.vl v (eqb-true t.vl.0 v.0 y)) at kept.taken)
          ∙ sym (by_pushed taken t v true y))
          (λ n. kept.others v (not_same t.vl.0 v.0 n) ∙ has.last v ∙ sym (by_pushed taken t v false n))
          (cases_Bool (t.vl.0 == v.0));
    }

get_nil : (n : ℕ) → slice_get {X = Option ℕ} [] n ≡ None
get_nil zero = refl
get_nil (suc n) = refl

none_at : (xs : List (Option ℕ)) (n : ℕ) → All (λ o. o ≡ None) xs → unwrap_or (slice_get xs n) None ≡ None
none_at [] n all = ap (λ o. unwrap_or o None) (get_nil n)
none_at (x ∷ xs) zero all = All-head (λ o. o ≡ None) x xs all
none_at (x ∷ xs) (suc n) all = none_at xs n (All-tail (λ o. o ≡ None) x xs all)

-- none was taken at first
pub none_last : (xs : List (Option ℕ)) (vls : List VirtualLink) → xs ≡ map (λ vl. None) vls → (vl : VlId) → last_in xs vl ≡ None
none_last xs vls none vl =
    rw none
    (none_at (map (λ vl. None) vls) vl.0 (All-map (λ o. o ≡ None) (λ x. None) vls (λ i d lt. refl)))

-- there is one for each virtual link
pub none_count : (xs : List (Option ℕ)) (vls : List VirtualLink) → xs ≡ map (λ vl. None) vls → length xs ≡ length vls
none_count xs vls none = rw none (length-map vls _)

-- ---- the links of a network, and the end systems at them

-- what was read at a place of a list
pub read_at : {X : Type 0} (xs ys : List X) (i : ℕ) (x : X) → xs ≡ ys → i < length xs → x ≡ get_or xs i x → slice_get ys i ≡ Some x
read_at xs ys i x e lt at = rw e at (slice_get_read xs (length xs) i x refl lt at)

equal : (a b : ℕ) → a ≡ b → (a == b) ≡ true
equal a b e = grind arith

regrouped : (a b c : Bool) → ((a && b) && c) ≡ (a && (b && c))
regrouped true b c = refl
regrouped false b c = refl

-- is the device an end system whose bit is not the members?
abbrev other_end : Network → DeviceId → Members → Bool
other_end network device members = is_end network device && are_others (member_of network device) members

module _ (network : Network) (device : DeviceId) (link : LinkId) (members : Members) where
  other_by : (l : Link) → link_at network link ≡ Some l → is_of_other_member network device link members ≡
      ((l.parent.0 == device.0) && other_end network l.child members)
  other_by l e = rw e (regrouped (l.parent.0 == device.0) (is_end network l.child)
      (are_others (member_of network l.child) members))

  -- the device is the link's parent
  pub other_below : (l : Link) (is : Bool) → link_at network link ≡ Some l → l.parent.0 ≡ device.0
      → is ≡ other_end network l.child members → is ≡ is_of_other_member network device link members
  other_below l is e h at =
      at ∙ sym (other_by l e ∙ (rw (equal l.parent.0 device.0 h)))

  -- it is not
  pub none_below : (l : Link) → link_at network link ≡ Some l → (l.parent.0 ≡ device.0 → ⊥)
      → (l.parent.0 == device.0) ≡ is_of_other_member network device link members
  none_below l e h =
      unequal l.parent.0 device.0 h
      ∙ sym (other_by l e ∙ (rw (unequal l.parent.0 device.0 h)))

  -- there is no such link
  pub no_link : (xs : List Link) → xs ≡ network.link → length xs ≤ link.0
      → false ≡ is_of_other_member network device link members
  no_link xs e past = rw (slice_get_past network.link link.0 (rw (sym e) past)) refl
