-- The rows, virtual links and entries of a planned network, as messages have their turns.
use Rattle.std.proofs.Common
use Common.{◌++◌, ◌+◌, ◌<◌, ◌==◌, ◌∙◌, ◌∷◌, ◌≡◌, ◌≢◌, ◌≤◌, ◌⊎◌, Bool, List, None, Option, Some, [], ap, arith, cond}
use Common.{false, get_or, inl, inr, length, map, refl, subst, suc, sym, true, zero, ℕ}
use Rattle.std.proofs.lemmas.{Bool.{cases_lt, eq-eqb, eqb-true}}
use Rattle.std.proofs.lemmas.{List.{Elements.{Contains-append_left, Contains-append_right}, length-map}}
use Rattle.std.proofs.lemmas.Option.{get_or_from_slice_get, none-some, same_Some, slice_get-get_or, slice_get-map}
use Rattle.std.proofs.lemmas.Option.{slice_get_within}
use Rattle.std.specs.{List.{Contains, cons_option, filter_map, range_with_len}, Prelude.{IfSome, option_map, slice_get}}
use Rattle.lens_plan.{proofs.{PlanOne.in_rest, Serving.{HasGround, IsSeated, ItsCourse, its_courses}}}
use Rattle.lens_plan.specs.{declared.places.{best.Attempt.Attempt, offsets.Taken.Taken, placing.Placed.Placed}}
use Rattle.lens_plan.specs.{messages.Message.Message}
use Rattle.lens_plan.specs.joining.{Planned.{own_rows, planned_network, row_of, rows_from, vl_of, vls_of}}
use Rattle.lens_plan.specs.joining.{Served.IsServedBy}
use Rattle.lens_plan.specs.places.{Filling.{ArePlaced, rows_of, taken_of}, Fitting.HasPlace}
use Rattle.lens_plan.specs.places.{InOrder.{row_by, rows_in_order}, There.{AreThere, taken_by}}
use Rattle.net_plan.specs.{Places.{IsEndSystem, link_at}, Ranges.{IsInRange, IsRowInRange}}
use Rattle.net_plan.specs.declared.{ids.DeviceId.DeviceId, network.Network.Network}
use Rattle.net_plan.specs.declared.{tables.{Link.Link, Row.Row, VirtualLink.VirtualLink}}
use Rattle.precision_law.proofs.traffic_lemmas.delivery.Forwarding.{found_some}
use Rattle.run_law.proofs.law.FirstDeliveries.{in_front}
use Rattle.schedule_tables.{proofs.SlotLemmas.one_entry}
use Rattle.schedule_tables.specs.{Entries.{IsEntry, source_by, source_of, target_by, target_of}, Rules.KeepsRules}
use Rattle.schedule_tables.specs.{declared.entry.Entry.Entry}
use Rattle.tte_units.{proofs.general_lemmas.{Lists.{find_at, found_passes, in_all}, Options.some_same}}
use Rattle.tte_units.{specs.Amount.amount}

-- ---- the first messages are served

-- each of the first messages is served
abbrev pub FirstAreServed : Network → Network → List Message → ℕ → Type 0
FirstAreServed network planned ms n =
    (k : ℕ) (m : Message) → k < n → slice_get ms k ≡ Some m → IsServedBy planned (record { 0 = length network.vl + k }) m

pub served_next : (network : Network) {planned : Network} (ms : List Message) (n : ℕ) {m : Message}
    → FirstAreServed network planned ms n → slice_get ms n ≡ Some m
    → IsServedBy planned (record { 0 = length network.vl + n }) m → FirstAreServed network planned ms (n + 1)
served_next network {planned} ms n before there served k other lt is =
    elim (cases_lt k n) [
      | inl below ↦ before k other below is
      | inr ge ↦
          let here : n ≡ k = omega (arith, lt, ge) in
          let same = same_Some _ _ (sym there ∙ subst (λ (j : ℕ). slice_get ms j ≡ Some other) (sym here) is) in
          subst (λ (j : ℕ). IsServedBy planned (record { 0 = length network.vl + j }) other) here
          (subst (IsServedBy planned (record { 0 = length network.vl + n })) same served)
    ]

-- ---- the rows and virtual links of a planned network: lists

-- an element of two lists is one of the first, or of the second so far on
pub parts_at : {X : Type 0} (xs ys : List X) (k : ℕ) (x : X) → slice_get (xs ++ ys) k ≡ Some x
    → (slice_get xs k ≡ Some x) ⊎ ((i : ℕ) × (k ≡ length xs + i) × (slice_get ys i ≡ Some x))
parts_at [] ys k x at = inr (k, omega arith, at)
parts_at (z ∷ xs) ys zero x at = inl at
parts_at (z ∷ xs) ys (suc k) x at =
    elim (parts_at xs ys k x at) [
      | inl first ↦ inl first
      | inr (i, is, there) ↦ inr (i, (let size : length (z ∷ xs) ≡ suc (length xs) = refl in omega (arith, is, size)), there)
    ]

pub behind_at : {X : Type 0} (xs ys : List X) (i : ℕ) → slice_get (xs ++ ys) (length xs + i) ≡ slice_get ys i
behind_at {X} [] ys i = ap (slice_get ys) (let e : 0 + i ≡ i = omega arith in e)
behind_at {X} (x ∷ xs) ys i =
    ap (slice_get (x ∷ (xs ++ ys))) (let e : length (x ∷ xs) + i ≡ suc (length xs + i) = omega arith in e) ∙ behind_at xs ys i

pub mapped_at : {X Y : Type 0} (f : X → Y) (xs : List X) (k : ℕ) (y : Y) → slice_get (map f xs) k ≡ Some y
    → (x : X) × (slice_get xs k ≡ Some x) × (y ≡ f x)
mapped_at f [] k y at = absurd (grind (arith, at))
mapped_at f (x ∷ xs) zero y at = (x, refl, sym (same_Some _ _ at))
mapped_at f (x ∷ xs) (suc k) y at = mapped_at f xs k y at

pub map_at : {X Y : Type 0} (f : X → Y) (xs : List X) (k : ℕ) (x : X) → slice_get xs k ≡ Some x → slice_get (map f xs) k ≡ Some (f x)
map_at f xs k x at = slice_get-map f xs k ∙ ap (option_map f) at

first_or_later : {X : Type 0} (b : Bool) (w : X) (o : Option X) → (y : X) × (o ≡ Some y) → (y : X) × (cond b (Some w) o ≡ Some y)
first_or_later true w o some = (w, refl)
first_or_later false w o some = some

-- ---- what is found for numbers

module _ {X : Type 0} (found : ℕ → Option X) (key : X → ℕ) (keyed : (k : ℕ) (x : X) → found k ≡ Some x → key x ≡ k) where
  -- what is found from a number on has no lesser one, and is found for it
  pub found_at : (a n i : ℕ) (x : X) → slice_get (filter_map found (range_with_len a n)) i ≡ Some x → (found (key x) ≡ Some x) × (a ≤ key x)
  found_at a zero i x at = absurd (grind (arith, at))
  found_at a (suc n) i x at = by (found a) refl i at (λ j there. found_at (a + 1) n j x there)
    where
      by : (o : Option X) → found a ≡ o → (j : ℕ) → slice_get (cons_option o (filter_map found (range_with_len (a + 1) n))) j ≡ Some x
          → ((j : ℕ) → slice_get (filter_map found (range_with_len (a + 1) n)) j ≡ Some x → (found (key x) ≡ Some x) × (a + 1 ≤ key x))
          → (found (key x) ≡ Some x) × (a ≤ key x)
      by None is j there rest = let later = rest j there in let more = later.1 in (later.0, omega (arith, more))
      by (Some y) is zero there rest =
          let same : y ≡ x = same_Some _ _ there in
          let own : found a ≡ Some x = is ∙ ap (λ z. Some z) same in
          let number = keyed a x own in
          (ap found number ∙ own, omega (arith, number))
      by (Some y) is (suc j) there rest = let later = rest j there in let more = later.1 in (later.0, omega (arith, more))

  -- and what stands earlier has a lesser one
  pub found_before : (a n i j : ℕ) (x y : X) → i < j → slice_get (filter_map found (range_with_len a n)) i ≡ Some x
      → slice_get (filter_map found (range_with_len a n)) j ≡ Some y → key x < key y
  found_before a zero i j x y less at there = absurd (grind (arith, at))
  found_before a (suc n) i j x y less at there =
      by (found a) refl i j less at there (λ k l lt here other. found_before (a + 1) n k l x y lt here other)
    where
      by : (o : Option X) → found a ≡ o → (k l : ℕ) → k < l → slice_get (cons_option o (filter_map found (range_with_len (a + 1) n))) k ≡ Some x
          → slice_get (cons_option o (filter_map found (range_with_len (a + 1) n))) l ≡ Some y
          → ((k l : ℕ) → k < l → slice_get (filter_map found (range_with_len (a + 1) n)) k ≡ Some x
          → slice_get (filter_map found (range_with_len (a + 1) n)) l ≡ Some y → key x < key y) → key x < key y
      by None is k l lt here other rest = rest k l lt here other
      by (Some z) is k zero lt here other rest = absurd (omega (arith, lt))
      by (Some z) is zero (suc l) lt here other rest =
          let same : z ≡ x = same_Some _ _ here in
          let number = keyed a x (is ∙ ap (λ w. Some w) same) in
          let later = found_at (a + 1) n l y other in
          let more = later.1 in
          omega (arith, number, more)
      by (Some z) is (suc k) (suc l) lt here other rest = rest k l (omega (arith, lt)) here other

  -- what is found for one of the numbers is there
  pub found_there : (a n k : ℕ) (x : X) → a ≤ k → k < a + n → found k ≡ Some x → (i : ℕ) × (slice_get (filter_map found (range_with_len a n)) i ≡ Some x)
  found_there a zero k x least most is = absurd (omega (arith, least, most))
  found_there a (suc n) k x least most is =
      by (found a) refl (λ more. found_there (a + 1) n k x more (omega (arith, most)) is)
    where
      by : (o : Option X) → found a ≡ o → (a + 1 ≤ k → (i : ℕ) × (slice_get (filter_map found (range_with_len (a + 1) n)) i ≡ Some x))
          → (i : ℕ) × (slice_get (cons_option o (filter_map found (range_with_len (a + 1) n))) i ≡ Some x)
      by None none rest =
          rest (elim (cases_lt a k) [
            | inl less ↦ (omega (arith, less))
            | inr ge ↦
                let same : a ≡ k = omega (arith, least, ge) in
                absurd (none-some x (sym none ∙ (ap found same ∙ is)))
          ])
      by (Some y) some rest =
          elim (cases_lt a k) [
            | inl less ↦ let later = rest (omega (arith, less)) in (suc later.0, later.1)
            | inr ge ↦
                let same : a ≡ k = omega (arith, least, ge) in
                (0, sym some ∙ (ap found same ∙ is))
          ]

-- ---- the rows of a message

-- the rows of a message in the order of links
abbrev pub in_order : Network → Attempt → List Placed
in_order network a = rows_in_order network a.placed.items

module _ (network : Network) (a : Attempt) where
  keyed : (k : ℕ) (p : Placed) → row_by a.placed.items k ≡ Some p → p.hop.link.0 ≡ k
  keyed k p found = eqb-true p.hop.link.0 k (found_passes (λ q. q.hop.link.0 == k) a.placed.items p found)

  -- each is one of its rows
  pub of_items : (i : ℕ) (p : Placed) → slice_get (in_order network a) i ≡ Some p → (k : ℕ) × (slice_get a.placed.items k ≡ Some p)
  of_items i p at =
      let found = found_at (row_by a.placed.items) (λ q. q.hop.link.0) keyed 0 (length network.link) i p at in
      let it = find_at (λ q. q.hop.link.0 == p.hop.link.0) a.placed.items p found.0 in
      (it.0, it.1)

  -- they go by links one after another
  pub in_links : (i j : ℕ) (p q : Placed) → i < j → slice_get (in_order network a) i ≡ Some p → slice_get (in_order network a) j ≡ Some q
      → p.hop.link.0 < q.hop.link.0
  in_links i j p q less at there = found_before (row_by a.placed.items) (λ q. q.hop.link.0) keyed 0 (length network.link) i j p q less at there

  -- and where its rows by one link are one, each is there
  pub each_there : (k : ℕ) (p : Placed) → slice_get a.placed.items k ≡ Some p → p.hop.link.0 < length network.link
      → ((q : Placed) (l : ℕ) → slice_get a.placed.items l ≡ Some q → q.hop.link.0 ≡ p.hop.link.0 → q ≡ p)
      → (i : ℕ) × (slice_get (in_order network a) i ≡ Some p)
  each_there k p at within one =
      let some = found_some (λ q. q.hop.link.0 == p.hop.link.0) a.placed.items k p at (eq-eqb p.hop.link.0 p.hop.link.0 refl) in
      let it = find_at (λ q. q.hop.link.0 == p.hop.link.0) a.placed.items some.0 some.1 in
      let same = one some.0 it.0 it.1 (eqb-true some.0.hop.link.0 p.hop.link.0 it.2) in
      found_there (row_by a.placed.items) (λ q. q.hop.link.0) keyed 0 (length network.link) p.hop.link.0 p (omega arith) (omega (arith, within))
      (some.1 ∙ ap (λ q. Some q) same)

-- ---- the virtual links and rows of messages

-- the virtual link of a message
pub record IsVlOf (ms : List Message) (ids : List ℕ) (attempts : List Attempt) (j : ℕ) (vl : VirtualLink) : Type 0 where
  pub m : Message
  pub id : ℕ
  pub a : Attempt
  pub at_m : slice_get ms j ≡ Some m
  pub at_id : slice_get ids j ≡ Some id
  pub at_a : slice_get attempts j ≡ Some a
  pub is : vl ≡ vl_of m id a

pub vl_at : (ms : List Message) (ids : List ℕ) (attempts : List Attempt) (j : ℕ) (vl : VirtualLink) → slice_get (vls_of ms ids attempts) j ≡ Some vl
    → IsVlOf ms ids attempts j vl
vl_at [] ids attempts j vl at = absurd (grind (arith, at))
vl_at (m ∷ ms) [] attempts j vl at = absurd (grind (arith, at))
vl_at (m ∷ ms) (id ∷ ids) [] j vl at = absurd (grind (arith, at))
vl_at (m ∷ ms) (id ∷ ids) (a ∷ attempts) zero vl at =
    record { m = m; id = id; a = a; at_m = refl; at_id = refl; at_a = refl; is = sym (same_Some _ _ at) }
vl_at (m ∷ ms) (id ∷ ids) (a ∷ attempts) (suc j) vl at =
    let it = vl_at ms ids attempts j vl at in
    record { m = it.m; id = it.id; a = it.a; at_m = it.at_m; at_id = it.at_id; at_a = it.at_a; is = it.is }

pub vl_there : (ms : List Message) (ids : List ℕ) (attempts : List Attempt) (j : ℕ) (m : Message) (id : ℕ) (a : Attempt) → slice_get ms j ≡ Some m
    → slice_get ids j ≡ Some id → slice_get attempts j ≡ Some a → slice_get (vls_of ms ids attempts) j ≡ Some (vl_of m id a)
vl_there [] ids attempts j m id a at_m at_id at_a = absurd (grind (arith, at_m))
vl_there (n ∷ ms) [] attempts j m id a at_m at_id at_a = absurd (grind (arith, at_id))
vl_there (n ∷ ms) (x ∷ ids) [] j m id a at_m at_id at_a = absurd (grind (arith, at_a))
vl_there (n ∷ ms) (x ∷ ids) (b ∷ attempts) zero m id a at_m at_id at_a =
    ap (λ k. Some (vl_of k x b)) (same_Some _ _ at_m) ∙ ap (λ k. Some (vl_of m k b)) (same_Some _ _ at_id) ∙ ap (λ k. Some (vl_of m id k)) (same_Some _ _ at_a)
vl_there (n ∷ ms) (x ∷ ids) (b ∷ attempts) (suc j) m id a at_m at_id at_a = vl_there ms ids attempts j m id a at_m at_id at_a

module _ (network : Network) where
  -- how many rows the messages before this one have
  abbrev pub base : List Attempt → ℕ → ℕ
  base [] j = 0
  base (a ∷ attempts) zero = 0
  base (a ∷ attempts) (suc j) = length (in_order network a) + base attempts j

  -- the row of a message
  pub record IsRowOf (vl : ℕ) (attempts : List Attempt) (k : ℕ) (row : Row) : Type 0 where
    pub j : ℕ
    pub a : Attempt
    pub at_a : slice_get attempts j ≡ Some a
    pub i : ℕ
    pub p : Placed
    pub at_p : slice_get (in_order network a) i ≡ Some p
    pub place : k ≡ base attempts j + i
    pub is : row ≡ row_of (vl + j) p

  pub row_at : (vl : ℕ) (attempts : List Attempt) (k : ℕ) (row : Row) → slice_get (rows_from network vl attempts) k ≡ Some row → IsRowOf vl attempts k row
  row_at vl [] k row at = absurd (grind (arith, at))
  row_at vl (a ∷ attempts) k row at =
      elim (parts_at (own_rows network vl a) (rows_from network (vl + 1) attempts) k row at) [
        | inl own ↦
            let it = mapped_at (row_of vl) (in_order network a) k row own in
            record {
              j = 0;
              a = a;
              at_a = refl;
              i = k;
              p = it.0;
              at_p = it.1;
              place = omega arith;
              is = it.2 ∙ ap (λ v. row_of v it.0) (let e : vl ≡ vl + 0 = omega arith in e);
            }
        | inr (i, is, later) ↦
            let it = row_at (vl + 1) attempts i row later in
            let size = length-map (in_order network a) (row_of vl) in
            let place = it.place in
            record {
              j = suc it.j;
              a = it.a;
              at_a = it.at_a;
              i = it.i;
              p = it.p;
              at_p = it.at_p;
              place = omega (arith, is, size, place);
              is = it.is ∙ ap (λ v. row_of v it.p) (let e : vl + 1 + it.j ≡ vl + suc it.j = omega arith in e);
            }
      ]

  pub row_there : (vl : ℕ) (attempts : List Attempt) (j : ℕ) (a : Attempt) (i : ℕ) (p : Placed) → slice_get attempts j ≡ Some a
      → slice_get (in_order network a) i ≡ Some p → slice_get (rows_from network vl attempts) (base attempts j + i) ≡ Some (row_of (vl + j) p)
  row_there vl [] j a i p at_a at_p = absurd (grind (arith, at_a))
  row_there vl (b ∷ attempts) zero a i p at_a at_p =
      let same : b ≡ a = same_Some _ _ at_a in
      let own : slice_get (own_rows network vl b) i ≡ Some (row_of vl p) =
      map_at (row_of vl) (in_order network b) i p (subst (λ x. slice_get (in_order network x) i ≡ Some p) (sym same) at_p) in
      ap (slice_get (own_rows network vl b ++ rows_from network (vl + 1) attempts)) (let e : 0 + i ≡ i = omega arith in e)
      ∙ in_front (own_rows network vl b) (rows_from network (vl + 1) attempts) i (row_of vl p) own
      ∙ ap (λ v. Some (row_of v p)) (let e : vl ≡ vl + 0 = omega arith in e)
  row_there vl (b ∷ attempts) (suc j) a i p at_a at_p =
      let size = length-map (in_order network b) (row_of vl) in
      let place : base (b ∷ attempts) (suc j) + i ≡ length (own_rows network vl b) + (base attempts j + i) = omega (arith, size) in
      ap (slice_get (own_rows network vl b ++ rows_from network (vl + 1) attempts)) place
      ∙ behind_at (own_rows network vl b) (rows_from network (vl + 1) attempts) (base attempts j + i)
      ∙ row_there (vl + 1) attempts j a i p at_a at_p
      ∙ ap (λ v. Some (row_of v p)) (let e : vl + 1 + j ≡ vl + suc j = omega arith in e)

-- ---- the entries of a planned network, and the rules that they keep each for itself

-- what is known of the messages of a plan, their ids and their rows
pub record IsSound (network : Network) (ms : List Message) (ids : List ℕ) (attempts : List Attempt) : Type 0 where
  pub range : IsInRange network
  pub keeps : KeepsRules network
  pub ids_there : (j : ℕ) (m : Message) → slice_get ms j ≡ Some m → (id : ℕ) × (slice_get ids j ≡ Some id)
  pub seat : (j : ℕ) (m : Message) (a : Attempt) → slice_get ms j ≡ Some m → slice_get attempts j ≡ Some a → (rows : List Taken) × IsSeated network rows m a
  pub ground : (j : ℕ) (m : Message) → slice_get ms j ≡ Some m → HasGround network m.sender
  pub period : (j : ℕ) (m : Message) → slice_get ms j ≡ Some m → Contains (1 ∷ 2 ∷ 4 ∷ 8 ∷ 16 ∷ 32 ∷ 64 ∷ []) m.period
  pub phase : (j : ℕ) (m : Message) → slice_get ms j ≡ Some m → IfSome m.phase (λ n. n < m.period)
  pub sender : (j : ℕ) (m : Message) → slice_get ms j ≡ Some m → IsEndSystem network m.sender
  pub receivers : (j : ℕ) (m : Message) → slice_get ms j ≡ Some m → (r : DeviceId) → Contains m.receivers r → IsEndSystem network r
  pub others : (j : ℕ) (m : Message) → slice_get ms j ≡ Some m → (r : DeviceId) → Contains m.receivers r → r ≡ m.sender → ⊥
  pub some : (j : ℕ) (m : Message) → slice_get ms j ≡ Some m → (r : DeviceId) × Contains m.receivers r
  pub names_new : (j : ℕ) (m : Message) → slice_get ms j ≡ Some m → (k : ℕ) (vl : VirtualLink) → slice_get network.vl k ≡ Some vl → m.name ≢ vl.name
  pub names_apart : (i j : ℕ) (m n : Message) → i < j → slice_get ms i ≡ Some m → slice_get ms j ≡ Some n → n.name ≢ m.name
  pub ids_new : (j id : ℕ) → slice_get ids j ≡ Some id → (k : ℕ) (vl : VirtualLink) → slice_get network.vl k ≡ Some vl → id ≢ vl.id
  pub ids_apart : (i j x y : ℕ) → i < j → slice_get ids i ≡ Some x → slice_get ids j ≡ Some y → y ≢ x
  pub there_in : (j : ℕ) (m : Message) (a : Attempt) (at_m : slice_get ms j ≡ Some m) (at_a : slice_get attempts j ≡ Some a) (k : ℕ) (e : Entry)
      → IsEntry network k e → Contains (seat j m a at_m at_a).0 (taken_by e)
  pub apart : (i j : ℕ) (m n : Message) (a b : Attempt) (at_m : slice_get ms i ≡ Some m) (at_n : slice_get ms j ≡ Some n)
      (at_a : slice_get attempts i ≡ Some a) (at_b : slice_get attempts j ≡ Some b) → i ≢ j
      → ((l : ℕ) (q : Placed) → slice_get a.placed.items l ≡ Some q → Contains (seat j n b at_n at_b).0 (taken_of network m a.phase q))
      ⊎ ((l : ℕ) (q : Placed) → slice_get b.placed.items l ≡ Some q → Contains (seat i m a at_m at_a).0 (taken_of network n b.phase q))

module _ (network : Network) (ms : List Message) (ids : List ℕ) (attempts : List Attempt) (s : IsSound network ms ids attempts) where
  abbrev pub planned : Network
  planned = planned_network network ms ids attempts

  -- an entry of a row of a message
  pub record IsNew (k : ℕ) (e : Entry) : Type 0 where
    pub j : ℕ
    pub m : Message
    pub id : ℕ
    pub a : Attempt
    pub at_m : slice_get ms j ≡ Some m
    pub at_id : slice_get ids j ≡ Some id
    pub at_a : slice_get attempts j ≡ Some a
    pub i : ℕ
    pub p : Placed
    pub at_p : slice_get (in_order network a) i ≡ Some p
    pub place : k ≡ length network.row + (base network attempts j + i)
    pub row : e.row ≡ row_of (length network.vl + j) p
    pub vl : e.vl ≡ vl_of m id a
    pub link : link_at network p.hop.link ≡ Some e.link

  -- a row of the network goes by one of its virtual links
  pub old_vl : (k : ℕ) (row : Row) → slice_get network.row k ≡ Some row → row.vl.0 < length network.vl
  old_vl k row at = let ranged = in_all (IsRowInRange network) network.row k row s.range.rows at in ranged.vl

  old_entry : (k : ℕ) (e : Entry) → IsEntry planned k e → slice_get network.row k ≡ Some e.row → IsEntry network k e
  old_entry k e is at =
      let within = old_vl k e.row at in
      record {
        row = at;
        vl = elim (parts_at network.vl (vls_of ms ids attempts) e.row.vl.0 e.vl is.vl) [
          | inl own ↦ own
          | inr (i, past, there) ↦ absurd (omega (arith, within, past))
        ];
        link = is.link;
      }

  new_entry : (k i : ℕ) (e : Entry) → IsEntry planned k e → k ≡ length network.row + i
      → slice_get (rows_from network (length network.vl) attempts) i ≡ Some e.row → IsNew k e
  new_entry k i e is past at =
      let r = row_at network (length network.vl) attempts i e.row at in
      let number : e.row.vl.0 ≡ length network.vl + r.j = ap (λ (x : Row). x.vl.0) r.is in
      let vl : slice_get (vls_of ms ids attempts) r.j ≡ Some e.vl =
      sym (behind_at network.vl (vls_of ms ids attempts) r.j)
      ∙ (ap (slice_get (network.vl ++ vls_of ms ids attempts)) (sym number) ∙ is.vl) in
      let v = vl_at ms ids attempts r.j e.vl vl in
      let same : v.a ≡ r.a = some_same v.a r.a (slice_get attempts r.j) v.at_a r.at_a in
      let place = r.place in
      record {
        j = r.j;
        m = v.m;
        id = v.id;
        a = r.a;
        at_m = v.at_m;
        at_id = v.at_id;
        at_a = r.at_a;
        i = r.i;
        p = r.p;
        at_p = r.at_p;
        place = omega (arith, past, place);
        row = r.is;
        vl = v.is ∙ ap (vl_of v.m v.id) same;
        link = ap (λ (x : Row). link_at network x.link) (sym r.is) ∙ is.link;
      }

  pub entry_of : (k : ℕ) (e : Entry) → IsEntry planned k e → IsEntry network k e ⊎ IsNew k e
  entry_of k e is =
      elim (parts_at network.row (rows_from network (length network.vl) attempts) k e.row is.row) [
        | inl old ↦ inl (old_entry k e is old)
        | inr (i, past, at) ↦ inr (new_entry k i e is past at)
      ]

  -- the entries of the network stay
  pub old_there : (k : ℕ) (e : Entry) → IsEntry network k e → IsEntry planned k e
  old_there k e is = record {
    row = in_front network.row (rows_from network (length network.vl) attempts) k e.row is.row;
    vl = in_front network.vl (vls_of ms ids attempts) e.row.vl.0 e.vl is.vl;
    link = is.link;
  }

  -- and each row of a message has one
  pub record HasEntry (j : ℕ) (m : Message) (a : Attempt) (p : Placed) : Type 0 where
    pub k : ℕ
    pub e : Entry
    pub is : IsEntry planned k e
    pub row : e.row ≡ row_of (length network.vl + j) p
    pub link : link_at network p.hop.link ≡ Some e.link
    pub sender : e.vl.sender ≡ m.sender

  pub entry_there : (j : ℕ) (m : Message) (a : Attempt) (i : ℕ) (p : Placed) (l : Link) → slice_get ms j ≡ Some m → slice_get attempts j ≡ Some a
      → slice_get (in_order network a) i ≡ Some p → link_at network p.hop.link ≡ Some l → HasEntry j m a p
  entry_there j m a i p l at_m at_a at_p at_l =
      let id = s.ids_there j m at_m in
      let row = row_of (length network.vl + j) p in
      let vl = vl_of m id.0 a in
      record {
        k = length network.row + (base network attempts j + i);
        e = record { row = row; vl = vl; link = l };
        is = record {
          row = behind_at network.row (rows_from network (length network.vl) attempts) (base network attempts j + i)
              ∙ row_there network (length network.vl) attempts j a i p at_a at_p;
          vl = behind_at network.vl (vls_of ms ids attempts) j ∙ vl_there ms ids attempts j m id.0 a at_m id.1 at_a;
          link = at_l;
        };
        row = refl;
        link = at_l;
        sender = refl;
      }

  -- ---- a new row

  module _ (k : ℕ) (e : Entry) (n : IsNew k e) where
    pub way_is : e.row.way ≡ n.p.hop.way
    way_is = ap (λ (r : Row). r.way) n.row

    pub link_no : e.row.link ≡ n.p.hop.link
    link_no = ap (λ (r : Row). r.link) n.row

    pub offset_is : amount e.row.offset ≡ n.p.offset
    offset_is = ap (λ (r : Row). amount r.offset) n.row

    pub vl_no : e.row.vl.0 ≡ length network.vl + n.j
    vl_no = ap (λ (r : Row). r.vl.0) n.row

    pub source_is : source_of e ≡ source_by n.p.hop.way e.link
    source_is = ap (λ w. source_by w e.link) way_is

    pub target_is : target_of e ≡ target_by n.p.hop.way e.link
    target_is = ap (λ w. target_by w e.link) way_is

    pub sender_is : e.vl.sender ≡ n.m.sender
    sender_is = ap (λ (v : VirtualLink). v.sender) n.vl

    -- its seat, and its course
    abbrev pub seat_of : (rows : List Taken) × IsSeated network rows n.m n.a
    seat_of = s.seat n.j n.m n.a n.at_m n.at_a

    abbrev pub ground_of : HasGround network n.m.sender
    ground_of = s.ground n.j n.m n.at_m

    abbrev pub Course : Placed → Type 0
    Course p = ItsCourse network seat_of.0 n.m n.a seat_of.1 ground_of p

    pub course_at : (l : ℕ) (q : Placed) → slice_get n.a.placed.items l ≡ Some q → Course q
    course_at l q at = in_all Course n.a.placed.items l q (its_courses network seat_of.0 n.m n.a seat_of.1 ground_of) at

    pub item : (l : ℕ) × (slice_get n.a.placed.items l ≡ Some n.p)
    item = of_items network n.a n.i n.p n.at_p

    pub course : Course n.p
    course = course_at item.0 n.p item.1

-- ---- the rows that are taken when a message has its turn

pub contains_found : {X : Type 0} (xs : List X) (k : ℕ) (x : X) → slice_get xs k ≡ Some x → Contains xs x
contains_found xs k x at = (k, slice_get_within xs k x at, get_or_from_slice_get xs k x x at)

-- a row that is there is among those that are
pub entry_among : {network : Network} {there : List Taken} {k : ℕ} {e : Entry} → AreThere network there
    → IsEntry network k e → Contains there (taken_by e)
entry_among {network} {there} {k} {e} are is =
    let within = slice_get_within network.row k e.row is.row in
    let size = are.counted in
    let at = slice_get-get_or there k (taken_by e) (omega (arith, within, size)) in
    let it = are.each k (get_or there k (taken_by e)) at in
    let same : get_or there k (taken_by e) ≡ taken_by e = it.2 ∙ ap taken_by (one_entry network k it.0 e it.1 is) in
    contains_found there k (taken_by e) (at ∙ ap (λ t. Some t) same)

by_test : (P : List Taken → Type 0) (b : Bool) (x y : List Taken) → P x → P y → P (cond b x y)
by_test P true x y one other = one
by_test P false x y one other = other

not_in : (place j : ℕ) → (place == j) ≡ false → place ≡ j → ⊥
not_in place j no_test same = grind (arith, no_test, same)

module _ (network : Network) (ms : List Message) (attempts : List Attempt) where
  abbrev pub taken_before : (rows : List Taken) (order : List ℕ) (taken : List Taken) → ArePlaced network ms attempts rows order taken → ℕ → List Taken
  taken_before rows [] taken placed j = rows
  taken_before rows (place ∷ order) taken (m, a, there, at, has, rest) j =
      cond (place == j) rows (taken_before (rows ++ rows_of network m a) order taken rest j)

  pub grows : (rows : List Taken) (order : List ℕ) (taken : List Taken) (placed : ArePlaced network ms attempts rows order taken) (j : ℕ) (t : Taken)
      → Contains rows t → Contains (taken_before rows order taken placed j) t
  grows rows [] taken placed j t is = is
  grows rows (place ∷ order) taken (m, a, there, at, has, rest) j t is =
      by_test (λ ts. Contains ts t) (place == j) rows (taken_before (rows ++ rows_of network m a) order taken rest j) is
      (grows (rows ++ rows_of network m a) order taken rest j t (Contains-append_left rows (rows_of network m a) t is))

  -- its attempt has a place behind them
  pub has_place : (rows : List Taken) (order : List ℕ) (taken : List Taken) (placed : ArePlaced network ms attempts rows order taken) (j : ℕ)
      → Contains order j → (m : Message) (a : Attempt) → slice_get ms j ≡ Some m → slice_get attempts j ≡ Some a
      → HasPlace network (taken_before rows order taken placed j) m a
  has_place rows [] taken placed j (k, within, is) m a at_m at_a = absurd (omega (arith, within))
  has_place rows (place ∷ order) taken (n, b, there, at, has, rest) j among m a at_m at_a =
      by (place == j) refl (λ later. has_place (rows ++ rows_of network n b) order taken rest j later m a at_m at_a)
    where
      by : (c : Bool) → (place == j) ≡ c → (Contains order j → HasPlace network (taken_before (rows ++ rows_of network n b) order taken rest j) m a)
          → HasPlace network (cond c rows (taken_before (rows ++ rows_of network n b) order taken rest j)) m a
      by true test more =
          let same = eqb-true place j test in
          let message = some_same n m (slice_get ms j) (subst (λ (k : ℕ). slice_get ms k ≡ Some n) same there) at_m in
          let attempt = some_same b a (slice_get attempts j) (subst (λ (k : ℕ). slice_get attempts k ≡ Some b) same at) at_a in
          subst (λ x. HasPlace network rows x a) message (subst (HasPlace network rows n) attempt has)
      by false test more =
          more (elim (in_rest place order j among) [ inl same ↦ absurd (not_in place j test same) | inr later ↦ later ])

  -- the rows of the message of the one place are among those that are taken before that of the other
  abbrev pub AreBefore : List Taken → Message → Attempt → Type 0
  AreBefore rows m a = (l : ℕ) (q : Placed) → slice_get a.placed.items l ≡ Some q → Contains rows (taken_of network m a.phase q)

  all_before : (rows : List Taken) (order : List ℕ) (taken : List Taken) (m n : Message) (a b : Attempt)
      → (placed : ArePlaced network ms attempts (rows ++ rows_of network n b) order taken) (j : ℕ) → n ≡ m → b ≡ a
      → AreBefore (taken_before (rows ++ rows_of network n b) order taken placed j) m a
  all_before rows order taken m n a b placed j message attempt l q at =
      let at_b = subst (λ (x : Attempt). slice_get x.placed.items l ≡ Some q) (sym attempt) at in
      let own = contains_found (rows_of network n b) l (taken_of network n b.phase q) (map_at (taken_of network n b.phase) b.placed.items l q at_b) in
      let here = grows (rows ++ rows_of network n b) order taken placed j (taken_of network n b.phase q)
      (Contains-append_right rows (rows_of network n b) (taken_of network n b.phase q) own) in
      subst (λ x. Contains (taken_before (rows ++ rows_of network n b) order taken placed j) (taken_of network x a.phase q)) message
      (subst (λ (x : Attempt). Contains (taken_before (rows ++ rows_of network n b) order taken placed j) (taken_of network n x.phase q)) attempt here)

  pub one_before : (rows : List Taken) (order : List ℕ) (taken : List Taken) (placed : ArePlaced network ms attempts rows order taken) (i j : ℕ)
      → Contains order i → Contains order j → i ≢ j → (m n : Message) (a b : Attempt) → slice_get ms i ≡ Some m → slice_get ms j ≡ Some n
      → slice_get attempts i ≡ Some a → slice_get attempts j ≡ Some b
      → AreBefore (taken_before rows order taken placed j) m a ⊎ AreBefore (taken_before rows order taken placed i) n b
  one_before rows [] taken placed i j (k, within, is) other not m n a b at_m at_n at_a at_b = absurd (omega (arith, within))
  one_before rows (place ∷ order) taken (x, c, there, at, has, rest) i j among also not m n a b at_m at_n at_a at_b =
      by (place == i) (place == j) refl refl
      (λ one other. one_before (rows ++ rows_of network x c) order taken rest i j one other not m n a b at_m at_n at_a at_b)
    where
      by : (f g : Bool) → (place == i) ≡ f → (place == j) ≡ g
          → (Contains order i → Contains order j → AreBefore (taken_before (rows ++ rows_of network x c) order taken rest j) m a
          ⊎ AreBefore (taken_before (rows ++ rows_of network x c) order taken rest i) n b)
          → AreBefore (cond g rows (taken_before (rows ++ rows_of network x c) order taken rest j)) m a
          ⊎ AreBefore (cond f rows (taken_before (rows ++ rows_of network x c) order taken rest i)) n b
      by true true one two more = absurd (not (sym (eqb-true place i one) ∙ eqb-true place j two))
      by true false one two more =
          let same = eqb-true place i one in
          inl (all_before rows order taken m x a c rest j
          (some_same x m (slice_get ms i) (subst (λ (k : ℕ). slice_get ms k ≡ Some x) same there) at_m)
          (some_same c a (slice_get attempts i) (subst (λ (k : ℕ). slice_get attempts k ≡ Some c) same at) at_a))
      by false true one two more =
          let same = eqb-true place j two in
          inr (all_before rows order taken n x b c rest i
          (some_same x n (slice_get ms j) (subst (λ (k : ℕ). slice_get ms k ≡ Some x) same there) at_n)
          (some_same c b (slice_get attempts j) (subst (λ (k : ℕ). slice_get attempts k ≡ Some c) same at) at_b))
      by false false one two more =
          more
          (elim (in_rest place order i among) [ inl same ↦ absurd (not_in place i one same) | inr later ↦ later ])
          (elim (in_rest place order j also) [ inl same ↦ absurd (not_in place j two same) | inr later ↦ later ])

-- ---- what holds of a network's first rows

-- it holds of the rows below this number
abbrev pub HoldsBelow : Network → (Entry → Type 0) → ℕ → Type 0
HoldsBelow network P n = (k : ℕ) (entry : Entry) → k < n → IsEntry network k entry → P entry

pub below_first : (network : Network) (P : Entry → Type 0) → HoldsBelow network P 0
below_first network P k entry lt is = absurd (omega (arith, lt))

pub below_next : {network : Network} (P : Entry → Type 0) {n : ℕ} {entry : Entry} → HoldsBelow network P n
    → IsEntry network n entry → P entry → HoldsBelow network P (n + 1)
below_next {network} P {n} {entry} before is holds k other lt its =
    elim (cases_lt k n) [
      | inl below ↦ before k other below its
      | inr ge ↦
          let here : k ≡ n = omega (arith, lt, ge) in
          subst P (one_entry network n entry other is (subst (λ j. IsEntry network j other) here its)) holds
    ]

pub below_all : (network : Network) (P : Entry → Type 0) (n : ℕ) → HoldsBelow network P n → length network.row ≤ n → (k : ℕ) (entry : Entry)
    → IsEntry network k entry → P entry
below_all network P n before whole k entry is =
    let within = slice_get_within network.row k entry.row is.row in
    before k entry (omega (arith, within, whole)) is
