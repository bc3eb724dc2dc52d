-- Of what a record that is due speaks, and how great the numbers in its place may be.
use Rattle.std.{specs.{List.{after_last, filter_map}, Option.option_map_or}}
use Rattle.std.proofs.{Math.Nat.mul-le-mul_left}
use Rattle.std.proofs.{lemmas.{Int.ints, List.Elements.{filter-append, filter_map-append}, Option.slice_get_within}}
use Rattle.std.proofs.Common
use Common.{if◌then◌else◌, ◌*◌, ◌++◌, ◌+ℤ◌, ◌+◌, ◌-ℤ◌, ◌<◌, ◌==◌, ◌∙◌, ◌∷◌, ◌≡◌, ◌≤ℤ◌, ◌≤◌, ◌⊎◌, Bool, List, None}
use Common.{Option, Some, [], ap, append-nil, append_assoc, arith, eqb-true, false, filter, fold, inl, inr, le-ltb}
use Common.{length, nat_lt, negsuc, option_and_then, option_map, pos, refl, slice_get, subst, suc, sym, true}
use Common.{unsigned_abs, zero, ℕ, ℤ}
use Rattle.compression.{proofs.Times.one_list_of_clusters}
use Rattle.compression.{specs.{Clusters.Cluster, Emission.compressed, declared.compressed.Compressed.Compressed}}
use Rattle.drift_clock.specs.transparent.Points.{point_of}
use Rattle.net_plan.{proofs.Trees.link_within}
use Rattle.net_plan.specs.{Places.{is_master, link_at}}
use Rattle.net_plan.specs.declared.{ids.{DeviceId.DeviceId, LinkId.LinkId, VlId.VlId}, network.Network.Network}
use Rattle.net_plan.specs.declared.{tables.{Link.Link, Role.Role, Way.{TheVariants.{Down, Up}, Way}}}
use Rattle.precision_law.proofs.{traffic_lemmas.existence_lemmas.Sweep.IsSized}
use Rattle.precision_law.proofs.records.{Behind.{PartsAtLast, after_last_at, after_more, not_each, parts_at_last}}
use Rattle.precision_law.proofs.records.{Points.last_in}
use Rattle.run_law.proofs.{control.Points.no_cluster, law.FirstDeliveries.{in_at, in_filter, none_kept}}
use Rattle.run_law.proofs.{records.Order.{contained, makes_none}, runs.Places.in_right}
use Rattle.run_law.specs.{runs.DueRecords.{IsArrivedRecord, IsCaused, IsClockRecord, IsEventRecord}}
use Rattle.run_law.specs.{timed.{Dispatching.{Dispatches, Sends}, Receptions.ArrivesAs}}
use Rattle.run_law.specs.control.{Collections.{ends_stretch, observation_window, point_by, points_of}}
use Rattle.run_law.specs.control.{Corrections.standing_before, Emissions.Emits, Leaving.{Departs, Departure, Gives}}
use Rattle.run_law.specs.control.{Losses.{IsDropped, IsLost}, Permanence.BecomesPermanent, Wires.{Launch, launched}}
use Rattle.run_law.specs.declared.{judgement.{Judgement.Judgement, Reason.Reason, Why.Why}, note.NoteBody.NoteBody}
use Rattle.run_law.specs.declared.{steps.{Arrival.Arrival, Ripe.Ripe}}
use Rattle.run_law.specs.device.{LocalClocks.Reaches, StateChanges.ChangesState}
use Rattle.run_law.specs.device.{States.{adjustment_after, adjustment_before, is_joined_by, state_after, state_with}}
use Rattle.run_law.specs.records.{Happenings.{Happening, earlier, frame_by, frame_from, numbered, time_of}, Order.IsIn}
use Rattle.run_law.specs.records.{Ranks.{key, members_in, rank, sign}}
use Rattle.run_law.specs.scenario.{Devices.{has_role, is_cm_role, start_of}, Scenarios.{Scenario, is_turned_on_at}}
use Rattle.run_law.specs.scenario.{Ways.receiver_of}
use Rattle.schedule_tables.specs.Entries.{source_by, target_by}
use Rattle.sync_state.specs.{Standing.{point_in as point_by_state, state_at_start}}
use Rattle.sync_state.specs.{declared.state.State.{State, TheVariants.{Integrating, Off}}}
use Rattle.tte_units.{proofs.general_lemmas.Integers.amount_least}
use Rattle.tte_units.{specs.{Amount.amount, declared.{frames.members.Members.Members, units.Units.Units}}}
use Rattle.net_plan.specs.declared.event.What.TheVariants as events
use Rattle.precision_law.proofs.records.Behind as parts
use Rattle.run_law.specs.declared.judgement.Judgement.TheVariants as judgements
use Rattle.run_law.specs.declared.judgement.Why.TheVariants as whys
use Rattle.run_law.specs.declared.note.NoteBody.TheVariants as notes

-- ---- what the numbers in the places of records are bounded by: sums

pub total : {X : Type 0} → (X → ℕ) → List X → ℕ
total w [] = 0
total w (x ∷ xs) = w x + total w xs

pub in_total : {X : Type 0} (w : X → ℕ) (xs : List X) (x : X) → IsIn x xs → w x ≤ total w xs
unfolding total
in_total w [] x i = absurd i
in_total w (y ∷ xs) x (inl e) = omega (arith, ap w e)
in_total w (y ∷ xs) x (inr i) = omega (arith, in_total w xs x i)

pub sum_to : (ℕ → ℕ) → ℕ → ℕ
sum_to f zero = 0
sum_to f (suc n) = f n + sum_to f n

pub in_sum : (f : ℕ → ℕ) (n i : ℕ) → i < n → f i ≤ sum_to f n
unfolding sum_to
in_sum f zero i lt = absurd (omega arith)
in_sum f (suc n) i lt =
    elim (cases i n) [
      | inl e ↦ omega (arith, ap f e)
      | inr ne ↦ omega (arith, in_sum f n i (omega arith))
    ]
  where
    cases : (a b : ℕ) → (a ≡ b) ⊎ (a < b ⊎ (b < a))
    cases a b = grind arith

pub reach_most : (n m : ℕ) (a : ℤ) → (pos n -ℤ a) ≤ℤ pos m → n ≤ unsigned_abs (pos m +ℤ a)
reach_most n m a le = amount_least n (pos m +ℤ a) (omega (arith, ints))

-- ---- causes

part : {X : Type 0} (ms more : List X) (n : ℕ) (x : X) → slice_get (ms ++ more) n ≡ Some x → (IsIn x ms × (n < length ms)) ⊎ IsIn x more
part [] more n x e = inr (in_at more n x e)
part (m ∷ ms) more zero x e = (inl (inl cc, omega arith))
part (m ∷ ms) more (suc n) x e = grind (arith, (part ms more n x e))

pub numbered_part : (ms more : List Happening) (n : ℕ) (h : Happening) → numbered (ms ++ more) n ≡ Some h → (IsIn h ms × (n < length ms + 1)) ⊎ IsIn h more
numbered_part ms more zero h e = absurd cc
numbered_part ms more (suc n) h e = grind (arith, part)

-- ---- the bound

-- the device that a record names
abbrev pub device_in : NoteBody → ℕ
device_in (notes.Event line (events.On device)) = device.0
device_in (notes.Event line what) = 0
device_in (notes.Arrived device link cause clock) = device.0
device_in (notes.Permanent device link cause point verdict) = device.0
device_in (notes.Compressed device opened at cycle members verdict) = device.0
device_in (notes.Sent device cycle) = device.0
device_in (notes.Corrected device cycle by adjustment) = device.0
device_in (notes.State device state cause why) = device.0
device_in other = 0

-- the link that it names
abbrev pub link_in : NoteBody → ℕ
link_in (notes.Arrived device link cause clock) = link.0
link_in other = 0

-- the permanence point of the frame that arrives by it
abbrev pub point_in : Scenario → Happening → NoteBody → ℕ
point_in s h (notes.Arrived device link cause clock) = unsigned_abs (point_of (pos (s.reading device (time_of h))) clock s.network.dmax.0)
point_in s h other = 0

-- all its numbers together
abbrev pub weight : Scenario → Happening → ℕ
weight s h = device_in h.note.body + link_in h.note.body + point_in s h h.note.body + members_in h + h.note.number

-- the two devices of a link, as a number
unfoldable pub ends : Link → ℕ
ends link = link.child.0 + link.parent.0

-- the devices of the tables are below this
abbrev pub devices_below : Network → ℕ
devices_below n = length n.device + total ends n.link + 1

-- what the device's clock shows before the records of the time
pub clock_at : Scenario → List Happening → ℕ → ℕ → ℕ
clock_at s ms t i = unsigned_abs (pos (s.reading (record { 0 = i }) t) +ℤ (adjustment_after s (earlier t ms) (record { 0 = i })).0)

pub at_clock : (s : Scenario) (ms : List Happening) (t i : ℕ)
    → clock_at s ms t i ≡ unsigned_abs (pos (s.reading (record { 0 = i }) t) +ℤ (adjustment_after s (earlier t ms) (record { 0 = i })).0)
unfolding clock_at
at_clock s ms t i = refl

-- the numbers of what a cluster emits
unfoldable pub sent_in : Compressed → ℕ
sent_in c = amount c.opened + amount c.at + c.cycle + c.members.0

-- those of what the clusters of a device emit
unfoldable pub clusters_at : Scenario → List Happening → ℕ → ℕ
clusters_at s ms i =
    total (λ c. sent_in (compressed (observation_window s.network) (pos (amount s.network.calc)) c))
    (one_list_of_clusters (observation_window s.network) (points_of ms (record { 0 = i }))).0

-- each number in the place of a record that is due is below this
unfoldable pub bound : Scenario → ℕ → List Happening → ℕ
bound s t ms =
    length s.events + length s.network.vl + sum_to (clusters_at s ms) (devices_below s.network) + length s.network.device + length s.network.link
    + total ends s.network.link + length ms + total (weight s) ms + sum_to (clock_at s ms t) (devices_below s.network) + 2

-- how many numbers the places of a rank have
abbrev pub size_of : ℕ → ℕ
size_of r =
    if r == 1 then 1 else (if r == 6 then 1 else (if r == 14 then 1 else (if r == 5 then 2 else (if r == 7 then 2 else (if r == 3 then 5
    else (if r == 10 then 5 else (if r == 4 then 7 else 3)))))))

-- ---- what the tables have, and of what a record speaks: what is in the tables

pub device_there : (network : Network) (kind : Role → Bool) (device : DeviceId) → has_role network kind device ≡ true → device.0 < length network.device
device_there network kind device e = grind (arith, slice_get, length, slice_get_within)

pub record IsOnLink (network : Network) (device : DeviceId) (link : LinkId) : Type 0 where
  pub link_in : link.0 < length network.link
  pub device_in : device.0 ≤ total ends network.link

end_of : (way : Way) (link : Link) (device : DeviceId) → target_by way link ≡ device → device.0 ≤ ends link
unfolding ends
end_of Up link device e = omega (arith, ap (λ d. d.0) e)
end_of Down link device e = omega (arith, ap (λ d. d.0) e)

pub received : (network : Network) (link : LinkId) (way : Way) (device : DeviceId) → receiver_of network link way ≡ Some device → IsOnLink network device link
received network link way device e = by (link_at network link) refl e
  where
    by : (o : Option Link) → slice_get network.link link.0 ≡ o → option_map (target_by way) o ≡ Some device → IsOnLink network device link
    by None there e = absurd cc
    by (Some l) there e =
        let same : target_by way l ≡ device = cc in
        record {
          link_in = slice_get_within network.link link.0 l there;
          device_in = omega (arith, end_of way l device same, in_total ends network.link l (in_at network.link link.0 l there));
        }

-- ---- what a record is caused by

pub record IsGiver (network : Network) (body : NoteBody) (device : DeviceId) (link : LinkId) : Type 0 where
  pub device_is : device.0 ≡ device_in body
  pub link_in : link.0 < length network.link
  pub early : rank body ≤ 5

pub giver : (network : Network) (body : NoteBody) (device : DeviceId) (link : LinkId) → Gives network body device link → IsGiver network body device link
giver network (notes.Sent master cycle) device link g =
    record { device_is = rw g.0; link_in = link_within network link _ g.1; early = omega arith }
giver network (notes.Compressed cm opened at cycle members verdict) device link g =
    record { device_is = rw g.0; link_in = link_within network link _ g.1; early = omega arith }
giver network (notes.Arrived relay by cause clock) device link g = grind (arith, link_within)
giver network other device link g = absurd g

pub launch_rank : (s : Scenario) (h : Happening) (t : ℕ) (body : NoteBody) (l : Launch) → launched s h t body ≡ Some l
    → (rank body ≡ 1) ⊎ ((rank body ≡ 8) ⊎ (rank body ≡ 10))
launch_rank s h t (notes.Left device link cause clock) l e = inr (inl refl)
launch_rank s h t (notes.TtSent device link cause vl cycle) l e = inr (inr refl)
launch_rank s h t (notes.Event line (events.Send link octets)) l e = inl refl
launch_rank s h t other l e = absurd cc

-- ---- devices of which there are records

step : (device : DeviceId) (old : State) (body : NoteBody) → (state_with device old body ≡ old) ⊎ (device_in body ≡ device.0)
step device old (notes.State other state cause why) = grind (arith, eqb-true)
step device old (notes.Permanent other link cause point judgements.Integrates) = grind (arith, eqb-true)
step device old (notes.Compressed other opened at cycle members judgements.Integrates) = grind (arith, eqb-true)
step device old other = inl refl

-- one of the records names the device
unfoldable pub IsTouched : DeviceId → List Happening → Type 0
IsTouched device hs = (h : Happening) × IsIn h hs × (device_in h.note.body ≡ device.0)

-- a device's state is that of its start, or a record names the device
pub touched : (device : DeviceId) (hs : List Happening) (old : State)
    → (fold (λ state h. state_with device state h.note.body) old hs ≡ old) ⊎ IsTouched device hs
unfolding IsTouched
touched device [] old = inl refl
touched device (h ∷ hs) old = grind (arith, step, (touched device hs (state_with device old h.note.body)))

pub never_off : (on : Bool) (st : State) (n c : ℕ) → point_by_state (if on then Integrating else st) n ≡ Some c → st ≡ Off → ⊥
never_off true st n c e off = cc
never_off false Off n c e off = cc
never_off false st n c e off = cc

-- a device that begins on is one of the tables
pub begins : (network : Network) (device : DeviceId) → (state_at_start (start_of network device) ≡ Off → ⊥) → device.0 < length network.device
begins network device on = grind (arith, slice_get, option_and_then, length, slice_get_within)

-- what tells a device the time names it, and comes before masters send
pub joined_device : (device : DeviceId) (body : NoteBody) → is_joined_by device body ≡ true → device_in body ≡ device.0
joined_device device (notes.Permanent other link cause point judgements.Integrates) e = sym (eqb-true device.0 other.0 e)
joined_device device (notes.Compressed other opened at cycle members judgements.Integrates) e = sym (eqb-true device.0 other.0 e)
joined_device device other e = absurd cc

pub joined_rank : (device : DeviceId) (body : NoteBody) → is_joined_by device body ≡ true → rank body < 5
joined_rank device (notes.Permanent other link cause point judgements.Integrates) e = omega arith
joined_rank device (notes.Compressed other opened at cycle members judgements.Integrates) e = omega arith
joined_rank device other e = absurd cc

pub source_end : (way : Way) (link : Link) (device : DeviceId) → source_by way link ≡ device → device.0 ≤ ends link
unfolding ends
source_end Up link device e = omega (arith, ap (λ d. d.0) e)
source_end Down link device e = omega (arith, ap (λ d. d.0) e)

-- a compressed frame's own record gives no point
pub no_point : (device : DeviceId) (h : Happening) (body : NoteBody) → rank body ≡ 4 → point_by device h body ≡ None
no_point device h (notes.Permanent other link cause point verdict) e = absurd (omega arith)
no_point device h other e = refl

pub signs : (z : ℤ) → sign z < 2
signs (pos n) = omega arith
signs (negsuc n) = omega arith

-- ---- how great the numbers in the place of a record may be that is due at a time and rank: the ranks

module _ (s : Scenario) (t r : ℕ) (ms more : List Happening) (recent : (x : Happening) → IsIn x more → (time_of x ≡ t) × (rank x.note.body ≡ r)) where
  -- what bounds the numbers
  abbrev limit : ℕ
  limit = bound s t ms

  -- a cause of another rank is one of the earlier records
  old_cause : (n : ℕ) (h : Happening) → numbered (ms ++ more) n ≡ Some h → (rank h.note.body ≡ r → ⊥) → IsIn h ms × (n < length ms + 1)
  old_cause n h e other =
      elim (numbered_part ms more n h e) [
        | inl l ↦ l
        | inr i ↦ absurd (other (recent h i).1)
      ]

  event : (time : Units) (line : ℕ) (what : _) → IsEventRecord s.events time line what → line < limit
  unfolding bound
  event time line what c = omega (arith, c.line_is, slice_get_within s.events c.before c.event c.is)

  clock : (time : Units) (device : DeviceId) (shown adjustment : Units) (state : _) → IsClockRecord s (ms ++ more) device time shown adjustment state
      → device.0 < limit
  unfolding bound
  clock time device shown adjustment state c = omega (arith, slice_get_within s.network.device device.0 c.is c.there)

  left : (device : DeviceId) (link : LinkId) (cause : ℕ) (is : Departure) → 5 < r → Departs s (ms ++ more) device t link cause is
      → IsSized 3 limit (device.0 ∷ link.0 ∷ cause ∷ [])
  unfolding bound
  left device link cause is late d =
      let by = giver s.network d.giving.note.body device link d.gives in
      let old = old_cause cause d.giving d.there (λ e. omega (arith, by.early)) in
      let heavy = in_total (weight s) ms d.giving old.0 in
      (omega (arith, by.device_is), (omega (arith, by.link_in), (omega (arith, old.1), tt)))

  arrives : (device : DeviceId) (link : LinkId) (cause : ℕ) (is : Arrival) → (r ≡ 1 → ⊥) → (r ≡ 8 → ⊥) → (r ≡ 10 → ⊥)
      → ArrivesAs s (ms ++ more) device t link cause is → IsSized 3 limit (device.0 ∷ link.0 ∷ cause ∷ [])
  unfolding bound
  arrives device link cause is one eight ten a =
      let by = received s.network link a.arrives.way device a.arrives.receiver in
      let puts = launch_rank s a.putting (time_of a.putting) a.putting.note.body _ a.arrives.put in
      let old = old_cause cause a.putting a.there (λ e. elim puts [
        | inl x ↦ one (sym e ∙ x)
        | inr (inl x) ↦ eight (sym e ∙ x)
        | inr (inr x) ↦ ten (sym e ∙ x)
      ]) in
      (omega (arith, by.device_in), (omega (arith, by.link_in), (omega (arith, old.1), tt)))

  -- the records of the rank are none of an earlier time
  earlier_kept : earlier t (ms ++ more) ≡ earlier t ms
  earlier_kept =
      filter-append (λ h. nat_lt (time_of h) t) ms more
      ∙ ap (λ hs. earlier t ms ++ hs) (none_kept (λ h. nat_lt (time_of h) t) more (λ x i.
      let at = (recent x i).0 in le-ltb (time_of x) t (omega arith)))
      ∙ append-nil (earlier t ms)

  cycle_below : (device : DeviceId) (cycle value : ℕ) → 1 ≤ amount s.network.cycle → device.0 < devices_below s.network
      → Reaches s (ms ++ more) device (pos (cycle * amount s.network.cycle + value)) t → cycle < limit
  unfolding bound
  cycle_below device cycle value some lt reaches =
      let adj = (adjustment_before s (ms ++ more) device t).0 in
      let product = mul-le-mul_left cycle some in
      let same : adj ≡ (adjustment_after s (earlier t ms) device).0 = rw earlier_kept in
      let within = in_sum (clock_at s ms t) (devices_below s.network) device.0 lt in
      let most = reach_most (cycle * amount s.network.cycle + value) (s.reading device t) adj reaches.reach.reached in
      let at = at_clock s ms t device.0 in
      omega (arith, ap (λ z. unsigned_abs (pos (s.reading device t) +ℤ z)) same)

  sent : (device : DeviceId) (cycle : ℕ) → 1 ≤ amount s.network.cycle → Sends s (ms ++ more) device t cycle → IsSized 2 limit (device.0 ∷ cycle ∷ [])
  unfolding bound
  sent device cycle some c =
      let there = device_there s.network is_master device c.master in
      let value : cycle * amount s.network.cycle + 0 ≡ cycle * amount s.network.cycle = omega arith in
      let reached = rw (sym value) at c.reached in
      (omega arith, (cycle_below device cycle 0 some (omega arith) reached, tt))

  -- a device with a correction point is one of the network, or one that a record names
  device_known : (device : DeviceId) (cycle : ℕ)
      → point_by_state (standing_before s (ms ++ more) device t).state (standing_before s (ms ++ more) device t).number ≡ Some cycle → device.0 < limit
  unfolding bound IsTouched
  device_known device cycle next =
      let same = ap (λ hs. state_after s hs device) earlier_kept in
      let on = never_off (is_turned_on_at s device t) (state_after s (earlier t (ms ++ more)) device) _ cycle next in
      elim (touched device (earlier t ms) (state_at_start (start_of s.network device))) [
        | inl e ↦ (let there = begins s.network device (λ off. on (same ∙ e ∙ off)) in omega arith)
        | inr h ↦
            (let i = in_filter (λ g. nat_lt (time_of g) t) ms h.0 h.1 in
            let heavy = in_total (weight s) ms h.0 i in omega (arith, h.2))
      ]

  record IsBoundedDispatch (device : DeviceId) (link : LinkId) (cause : ℕ) (vl : VlId) (cycle : ℕ) : Type 0 where
    pub device_below : device.0 < limit
    pub link_below : link.0 < limit
    pub cause_below : cause < limit
    pub vl_below : vl.0 < limit
    pub cycle_below : cycle < limit

  dispatched : (device : DeviceId) (link : LinkId) (cause : ℕ) (vl : VlId) (cycle : ℕ) → 1 ≤ amount s.network.cycle
      → Dispatches s (ms ++ more) device t link cause vl cycle → IsBoundedDispatch device link cause vl cycle
  unfolding bound
  dispatched device link cause vl cycle some d =
      let there = slice_get_within s.network.link d.entry.row.link.0 d.entry.link d.row.link in
      let at_end = source_end d.entry.row.way d.entry.link device d.leaves in
      let in_ends = in_total ends s.network.link d.entry.link (in_at s.network.link d.entry.row.link.0 d.entry.link d.row.link) in
      let of_vl = slice_get_within s.network.vl d.entry.row.vl.0 d.entry.vl d.row.vl in
      record {
        device_below = omega arith;
        link_below = omega (arith, ap (λ (l : LinkId). l.0) d.by);
        cause_below =
            elim d.at_hand [
              | inl own ↦ omega (arith, own.1)
              | inr has ↦
                  elim (last_in None (filter _ (earlier t (ms ++ more))) has.1.taken has.1.last) [
                    | inl none ↦ absurd cc
                    | inr i ↦
                        (let here = subst (IsIn has.1.taken) earlier_kept (in_filter _ (earlier t (ms ++ more)) has.1.taken i) in
                        let heavy = in_total (weight s) ms has.1.taken
                        (in_filter (λ g. nat_lt (time_of g) t) ms has.1.taken here) in
                        omega (arith, has.1.number))
                  ]
            ];
        vl_below = omega (arith, ap (λ (v : VlId). v.0) d.of_vl);
        cycle_below = cycle_below device cycle (amount d.entry.row.offset) some (omega arith) d.reached;
      }

  lost : (device : DeviceId) (link : LinkId) (cause : ℕ) → r ≡ 9 → 1 ≤ amount s.network.cycle → IsLost s (ms ++ more) device t link cause
      → IsSized 3 limit (device.0 ∷ link.0 ∷ cause ∷ [])
  unfolding bound
  lost device link cause nine some (inl d) = left device link cause _ (omega arith) d
  lost device link cause nine some (inr (inl d)) =
      let x = dispatched device link cause d.0 d.1 some d.2 in (x.device_below, (x.link_below, (x.cause_below, tt)))
  lost device link cause nine some (inr (inr c)) =
      let old = old_cause cause c.event c.is.there (λ e. let one = ap rank c.sends in omega arith) in
      let there = slice_get_within s.network.link link.0 c.way c.there in
      let in_ends = in_total ends s.network.link c.way (in_at s.network.link link.0 c.way c.there) in
      let at_end = source_end Up c.way device (sym c.by) in
      (omega arith, (omega arith, (omega (arith, old.1), tt)))

  permanent : (device : DeviceId) (link : LinkId) (cause : ℕ) (point : Units) (is : Ripe) → (r ≡ 2 → ⊥)
      → BecomesPermanent s (ms ++ more) device t link cause point is
      → IsSized 5 limit (device.0 ∷ amount point ∷ option_map_or (λ f. f.members.0) (frame_from (ms ++ more) cause) 0 ∷ link.0 ∷ cause ∷ [])
  unfolding bound
  permanent device link cause point is other c =
      let p = c.permanent in
      let old = old_cause cause p.arrival p.there (λ e. other (sym e ∙ ap rank p.arrived)) in
      let heavy = in_total (weight s) ms p.arrival old.0 in
      let of_device = ap device_in p.arrived in
      let of_link = ap link_in p.arrived in
      let of_point = ap (point_in s p.arrival) p.arrived in
      let at = ap unsigned_abs p.at_point in
      let frame = ap (λ o. option_map_or (λ f. f.members.0) (option_and_then (λ h. h.frame) o) 0) p.there in (
        omega arith,
        (omega arith, (omega arith, (omega arith, (omega (arith, old.1), tt)))),
      )

  dropped : (device : DeviceId) (link : LinkId) (cause : ℕ) (reason : Reason) → r ≡ 13 → IsDropped s (ms ++ more) device t link cause reason
      → IsSized 3 limit (device.0 ∷ link.0 ∷ cause ∷ [])
  dropped device link cause reason at (inl a) =
      arrives device link cause _ (λ e. omega arith) (λ e. omega arith) (λ e. omega arith) a
  dropped device link cause reason at (inr (inl p)) =
      let x = permanent device link cause p.0 _ (λ e. omega arith) p.1 in (x.0, (x.1.1.1.0, (x.1.1.1.1.0, tt)))
  dropped device link cause reason at (inr (inr d)) = left device link cause _ (omega arith) d.0

  state : (device : DeviceId) (now : State) (cause : ℕ) (why : Why) → r ≡ 7 → ChangesState s (ms ++ more) device t now cause why
      → IsSized 2 limit (device.0 ∷ cause ∷ [])
  unfolding bound
  state device now cause whys.On at c =
      let old = old_cause cause c.2.1 c.2.2.there (λ e. let one = ap rank c.2.3 in omega arith) in
      let heavy = in_total (weight s) ms c.2.1 old.0 in
      let of_device = ap device_in c.2.3 in
      (omega arith, (omega (arith, old.1), tt))
  state device now cause whys.Frame at c =
      let early = joined_rank device c.1.0.note.body c.1.2 in
      let old = old_cause cause c.1.0 c.1.1.there (λ e. omega arith) in
      let heavy = in_total (weight s) ms c.1.0 old.0 in
      let of_device = joined_device device c.1.0.note.body c.1.2 in
      (omega arith, (omega (arith, old.1), tt))
  state device now cause whys.Correction at c =
      let old = old_cause cause c.2.3 c.2.4.there (λ e. let six = ap rank c.2.5 in omega arith) in
      let heavy = in_total (weight s) ms c.2.3 old.0 in
      let of_device = ap device_in c.2.5 in
      (omega arith, (omega (arith, old.1), tt))
  state device now cause whys.SyncClique at c = (device_known device c.2.0 c.2.1.next, (omega (arith, c.1), tt))
  state device now cause whys.AsyncClique at c = (device_known device c.2.0 c.2.1.next, (omega (arith, c.1), tt))

  -- the points that the records of the rank leave are those of the earlier records, or none
  same_points : r ≡ 4 → (device : DeviceId) → (points_of (ms ++ more) device ≡ points_of ms device) ⊎ (points_of (ms ++ more) device ≡ [])
  same_points at device = by (parts_at_last (λ h. ends_stretch device h.note.body) more)
    where
      made : (hs : List Happening) → ((h : Happening) → IsIn h hs → IsIn h more) → filter_map (λ h. point_by device h h.note.body) hs ≡ []
      made hs inside = makes_none (λ h. point_by device h h.note.body) hs
          (λ h i. no_point device h h.note.body ((recent h (inside h i)).1 ∙ at))

      by : PartsAtLast (λ h. ends_stretch device h.note.body) more
          → (points_of (ms ++ more) device ≡ points_of ms device) ⊎ (points_of (ms ++ more) device ≡ [])
      by (parts.none all) =
          let p = λ (h : Happening). ends_stretch device h.note.body in
          let f = λ (h : Happening). point_by device h h.note.body in
          inl (ap (filter_map f) (after_more more all (parts_at_last p ms)) ∙ filter_map-append f (after_last p ms) more
          ∙ ap (λ ps. points_of ms device ++ ps) (made more (λ h i. i)) ∙ append-nil (points_of ms device))
      by (parts.some front rest last whole hit all) =
          let p = λ (h : Happening). ends_stretch device h.note.body in
          let f = λ (h : Happening). point_by device h h.note.body in
          inr (ap (filter_map f) (ap (λ hs. after_last p (ms ++ hs)) whole
          ∙ ap (after_last p) (sym (append_assoc ms front (last ∷ rest)))
          ∙ after_last_at p (ms ++ front) last rest hit (not_each p rest all))
          ∙ made rest (λ h i. subst (IsIn h) (sym whole) (in_right h front (last ∷ rest) (inr i))))

  compressed_below : (device : DeviceId) (sent : Compressed) (verdict : Judgement) → r ≡ 4 → Emits s (ms ++ more) device t sent verdict
      → (device.0 < limit) × (sent_in sent < limit)
  unfolding bound clusters_at
  compressed_below device sent verdict at c =
      let there = device_there s.network is_cm_role device c.cm in
      let all = one_list_of_clusters (observation_window s.network) (points_of ms device) in
      let w = λ (x : Cluster). sent_in (compressed (observation_window s.network) (pos (amount s.network.calc)) x) in (
        omega arith,
        elim (same_points at device) [
          | inr none ↦ absurd (no_cluster (observation_window s.network) c.clusters c.cluster
              (rw none at c.are) c.there)
          | inl same ↦
              (let one = all.2 c.clusters (rw same at c.are) in
              let heavy = in_total w all.0 c.cluster (subst (IsIn c.cluster) one (contained c.clusters c.cluster c.there)) in
              let within = in_sum (clusters_at s ms) (devices_below s.network) device.0 (omega arith) in
              omega (arith, ap sent_in c.is))
        ],
      )

  compressed_sized : (device : DeviceId) (opened at : Units) (cycle : ℕ) (members : Members) (verdict : Judgement) → r ≡ 4
      → Emits s (ms ++ more) device t (record { opened = opened; at = at; cycle = cycle; members = members }) verdict
      → IsSized 7 limit (device.0 ∷ amount opened ∷ amount at ∷ cycle ∷ members.0 ∷ sign opened.0 ∷ sign at.0 ∷ [])
  unfolding sent_in bound
  compressed_sized device opened at cycle members verdict four c =
      let x = compressed_below device (record { opened = opened; at = at; cycle = cycle; members = members }) verdict four c in
      let heavy = x.1 in
      let a = signs opened.0 in
      let b = signs at.0 in
      (x.0, (omega arith, (omega arith, (omega arith, (omega arith, (omega arith, (omega arith, tt)))))))

  arrived : (device : DeviceId) (link : LinkId) (cause clock : ℕ) → r ≡ 2 → IsArrivedRecord s (ms ++ more) device t link cause clock
      → IsSized 3 limit (device.0 ∷ link.0 ∷ cause ∷ [])
  arrived device link cause clock at c =
      elim c.taken [
        | inl x ↦ arrives device link cause _ (λ e. omega arith) (λ e. omega arith) (λ e. omega arith) x
        | inr (inl x) ↦ arrives device link cause _ (λ e. omega arith) (λ e. omega arith) (λ e. omega arith) x
        | inr (inr x) ↦ arrives device link cause _ (λ e. omega arith) (λ e. omega arith) (λ e. omega arith) x
      ]

  -- each record that is due
  pub fits : (time : Units) (body : NoteBody) (members : ℕ) → 1 ≤ amount s.network.cycle → amount time ≡ t → rank body ≡ r
      → members ≡ option_map_or (λ f. f.members.0) (frame_by s.network (ms ++ more) body) 0
      → IsCaused s (ms ++ more) time body → IsSized (size_of (rank body)) limit (key members body)
  fits time (notes.Event line what) members some at of shows c = (event time line what c, tt)
  fits time (notes.Arrived device link cause clock) members some at of shows c =
      arrived device link cause clock (sym of) (rw at at c)
  fits time (notes.Permanent device link cause point verdict) members some at of shows c =
      let there = rw at at c in
      let x = permanent device link cause point _ (λ e. omega arith) there in
      (x.0, (x.1.0, (rw shows x.1.1.0, x.1.1.1)))
  fits time (notes.Compressed device opened emitted cycle members_of verdict) members some at of shows c =
      compressed_sized device opened emitted cycle members_of verdict (sym of)
      (rw at at c)
  fits time (notes.Sent device cycle) members some at of shows c = sent device cycle some (rw at at c)
  fits time (notes.Corrected device cycle by adjustment) members some at of shows c =
      (device_known device cycle (rw at at c.corrected).next, tt)
  fits time (notes.State device now cause why) members some at of shows c =
      state device now cause why (sym of) (rw at at c)
  fits time (notes.Left device link cause clock) members some at of shows c =
      left device link cause _ (omega arith) (rw at at c)
  fits time (notes.Lost device link cause) members some at of shows c =
      lost device link cause (sym of) some (rw at at c)
  fits time (notes.TtSent device link cause vl cycle) members some at of shows c =
      let x = dispatched device link cause vl cycle some (rw at at c).dispatches in
      (x.device_below, (x.link_below, (x.cause_below, (x.vl_below, (x.cycle_below, tt)))))
  fits time (notes.Accepted device link cause vl cycle) members some at of shows c =
      arrives device link cause _ (λ e. omega arith) (λ e. omega arith) (λ e. omega arith)
      (rw at at c)
  fits time (notes.Delivered device link cause vl cycle) members some at of shows c =
      arrives device link cause _ (λ e. omega arith) (λ e. omega arith) (λ e. omega arith)
      (rw at at c)
  fits time (notes.Dropped device link cause reason) members some at of shows c =
      dropped device link cause reason (sym of) (rw at at c)
  fits time (notes.Clock device reading adjustment now) members some at of shows c = (clock time device reading adjustment now c, tt)

-- the cycle of a frame that is dispatched is below the bound of the records
pub cycle_of_dispatch : {s : Scenario} {t : ℕ} {hs : List Happening} {device : DeviceId} {link : LinkId} {cause : ℕ}
    {vl : VlId} {cycle : ℕ} → 1 ≤ amount s.network.cycle → Dispatches s hs device t link cause vl cycle
    → cycle < bound s t hs
cycle_of_dispatch {s} {t} {hs} {device} {link} {cause} {vl} {cycle} some d =
    (dispatched s t 0 hs [] (λ x i. absurd i) device link cause vl cycle some
    (rw (append-nil hs) d)).cycle_below
