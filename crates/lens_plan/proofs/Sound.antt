-- A plan of messages that were read is accepted, and their ids are new.
use Rattle.std.{specs.{List.{Contains, cons_option, filter_map, range_with_len}, Prelude.slice_get}}
use Rattle.std.proofs.Common
use Common.{◌++◌, ◌<◌, ◌∙◌, ◌∷◌, ◌≡◌, ◌≢◌, ◌≤◌, ◌⊎◌, List, None, Option, Some, [], ap, arith, inl, length, map, refl}
use Common.{subst, suc, sym, true, zero, ℕ}
use Rattle.std.proofs.lemmas.{Option.{same_Some, slice_get_within}}
use Rattle.std.proofs.lemmas.List.{Elements.{Contains-append_left, Contains-append_right}}
use Rattle.std.proofs.lemmas.List.{FromFn.{get_or-range_with_len, length-range_with_len}, Sorted.Contains-permutation}
use Rattle.lens_plan.proofs.{Askable.{AreAskable, askable}, KeptAll.keeps_all, Leading.no_switch, PlanOne.order_kept}
use Rattle.lens_plan.proofs.{Serving.{HasGround, seated, tree_kept}}
use Rattle.lens_plan.proofs.PlannedRows
use PlannedRows.{IsSound, contains_found, entry_among, grows, has_place, map_at, one_before, taken_before}
use Rattle.lens_plan.specs.{Laws.PlanIsAccepted, declared.places.{best.Attempt.Attempt, offsets.Taken.Taken}}
use Rattle.lens_plan.specs.{messages.Message.Message}
use Rattle.lens_plan.specs.{places.{Filling.IsOrder, Moving.ArePlanned, There.{AreThere, taken_by}}}
use Rattle.lens_plan.specs.{text.Ids.{AreIds, IsIdBy, taken_ids}}
use Rattle.net_plan.specs.{Places.{IsCmOf, IsEndSystem, device_at, is_end_system}, Ranges.IsInRange}
use Rattle.net_plan.specs.declared.{ids.DeviceId.DeviceId, network.Network.Network}
use Rattle.net_plan.specs.declared.{tables.{Device.Device, VirtualLink.VirtualLink}}
use Rattle.schedule_tables.specs.{Rules.KeepsRules, declared.rule.Rule.TheVariants.CompressionMasters}
use Rattle.tte_units.{proofs.general_lemmas.Options.{closed, opened}}
use Rattle.tte_units.{specs.declared.frames.channel.Channel.{Channel, TheVariants.{A, B}}}

-- ---- the ids of messages are new, and no two are the same

-- the id of the message of a place, and what was taken before
record IsIdAt (taken : List ℕ) (ids : List ℕ) (j : ℕ) (m : Message) : Type 0 where
  pub id : ℕ
  pub at : slice_get ids j ≡ Some id
  pub before : List ℕ
  pub by : IsIdBy before m.id id
  pub first : (x : ℕ) → Contains taken x → Contains before x
  pub earlier : (i x : ℕ) → i < j → slice_get ids i ≡ Some x → Contains before x

id_at : (taken : List ℕ) (ms : List Message) (ids : List ℕ) (j : ℕ) (m : Message) → AreIds taken ms ids → slice_get ms j ≡ Some m → IsIdAt taken ids j m
id_at taken [] ids j m are at = absurd (grind (arith, at))
id_at taken (n ∷ ms) ids zero m (id, others, own, rest, same) at = record {
  id = id;
  at = ap (λ xs. slice_get xs 0) same;
  before = taken;
  by = subst (λ (x : Message). IsIdBy taken x.id id) (same_Some _ _ at) own;
  first = λ x is. is;
  earlier = λ i x less there. absurd (omega (arith, less));
}
id_at taken (n ∷ ms) ids (suc j) m (id, others, own, rest, same) at =
    let it = id_at (taken ++ id ∷ []) ms others j m rest at in
    record {
      id = it.id;
      at = ap (λ xs. slice_get xs (suc j)) same ∙ it.at;
      before = it.before;
      by = it.by;
      first = λ x is. it.first x (Contains-append_left taken (id ∷ []) x is);
      earlier = λ i x less there. earlier_by i x it.before less (sym (ap (λ xs. slice_get xs i) same) ∙ there) it.first it.earlier;
    }
  where
    earlier_by : (i x : ℕ) (before : List ℕ) → i < suc j → slice_get (id ∷ others) i ≡ Some x → ((y : ℕ) → Contains (taken ++ id ∷ []) y → Contains before y)
        → ((h y : ℕ) → h < j → slice_get others h ≡ Some y → Contains before y) → Contains before x
    earlier_by zero x before less there first earlier =
        first x (Contains-append_right taken (id ∷ []) x (0, omega arith, same_Some _ _ there))
    earlier_by (suc i) x before less there first earlier = earlier i x (omega (arith, less)) there

message_of : (taken : List ℕ) (ms : List Message) (ids : List ℕ) (j id : ℕ) → AreIds taken ms ids → slice_get ids j ≡ Some id
    → (m : Message) × (slice_get ms j ≡ Some m)
message_of taken [] ids j id none at = absurd (grind (arith, sym (ap (λ xs. slice_get xs j) none) ∙ at))
message_of taken (n ∷ ms) ids zero id are at = (n, refl)
message_of taken (n ∷ ms) ids (suc j) id (x, others, own, rest, same) at =
    message_of (taken ++ x ∷ []) ms others j id rest (sym (ap (λ xs. slice_get xs (suc j)) same) ∙ at)

-- an id that is given is among those that messages give
given_among : (ms : List Message) (j : ℕ) (m : Message) (id : ℕ) → slice_get ms j ≡ Some m → m.id ≡ Some id → Contains (filter_map (λ n. n.id) ms) id
given_among [] j m id at given = absurd (grind (arith, at))
given_among (n ∷ ms) zero m id at given =
    let same = same_Some _ _ at in
    subst (λ (o : Option ℕ). Contains (cons_option o (filter_map (λ k. k.id) ms)) id) (sym (ap (λ (x : Message). x.id) same ∙ given)) (0, omega arith, refl)
given_among (n ∷ ms) (suc j) m id at given = later n.id (given_among ms j m id at given)
  where
    later : (o : Option ℕ) → Contains (filter_map (λ k. k.id) ms) id → Contains (cons_option o (filter_map (λ k. k.id) ms)) id
    later None there = there
    later (Some x) (k, within, is) = (suc k, omega (arith, within), is)

module _ (network : Network) (ms : List Message) (ids : List ℕ) (are : AreIds (taken_ids network ms) ms ids)
    (given_new : (j : ℕ) (m : Message) (id : ℕ) → slice_get ms j ≡ Some m → m.id ≡ Some id → (k : ℕ) (vl : VirtualLink)
    → slice_get network.vl k ≡ Some vl → id ≢ vl.id)
    (given_apart : (i j : ℕ) (m n : Message) (x y : ℕ) → i < j → slice_get ms i ≡ Some m → slice_get ms j ≡ Some n → m.id ≡ Some x → n.id ≡ Some y
    → y ≢ x) where
  pub id_there : (j : ℕ) (m : Message) → slice_get ms j ≡ Some m → (id : ℕ) × (slice_get ids j ≡ Some id)
  id_there j m at = let it = id_at (taken_ids network ms) ms ids j m are at in (it.id, it.at)

  of_network : (k : ℕ) (vl : VirtualLink) → slice_get network.vl k ≡ Some vl → Contains (taken_ids network ms) vl.id
  of_network k vl at =
      Contains-append_left (map (λ v. v.id) network.vl) (filter_map (λ m. m.id) ms) vl.id
      (contains_found (map (λ v. v.id) network.vl) k vl.id (map_at (λ v. v.id) network.vl k vl at))

  of_message : (j : ℕ) (m : Message) (id : ℕ) → slice_get ms j ≡ Some m → m.id ≡ Some id → Contains (taken_ids network ms) id
  of_message j m id at given =
      Contains-append_right (map (λ v. v.id) network.vl) (filter_map (λ n. n.id) ms) id (given_among ms j m id at given)

  new_by : (j : ℕ) (m : Message) (o : Option ℕ) (id : ℕ) (before : List ℕ) → slice_get ms j ≡ Some m → m.id ≡ o → IsIdBy before o id
      → ((x : ℕ) → Contains (taken_ids network ms) x → Contains before x) → (k : ℕ) (vl : VirtualLink) → slice_get network.vl k ≡ Some vl → id ≢ vl.id
  new_by j m None id before at given is first k vl there same =
      is.new (subst (Contains before) (sym same) (first vl.id (of_network k vl there)))
  new_by j m (Some x) id before at given is first k vl there same = given_new j m x at given k vl there (sym is ∙ same)

  pub ids_new : (j id : ℕ) → slice_get ids j ≡ Some id → (k : ℕ) (vl : VirtualLink) → slice_get network.vl k ≡ Some vl → id ≢ vl.id
  ids_new j id at k vl there =
      let m = message_of (taken_ids network ms) ms ids j id are at in
      let it = id_at (taken_ids network ms) ms ids j m.0 are m.1 in
      let same : it.id ≡ id = same_Some _ _ (sym it.at ∙ at) in
      subst (λ (x : ℕ). x ≢ vl.id) same (new_by j m.0 m.0.id it.id it.before m.1 refl it.by it.first k vl there)

  apart_by : (i j : ℕ) (m n : Message) (o q : Option ℕ) (x y : ℕ) (one other : List ℕ) → i < j → slice_get ms i ≡ Some m → slice_get ms j ≡ Some n
      → m.id ≡ o → n.id ≡ q → IsIdBy one o x → IsIdBy other q y → ((z : ℕ) → Contains (taken_ids network ms) z → Contains one z) → Contains other x → y ≢ x
  apart_by i j m n o None x y one other less at_m at_n given also is are first earlier same = are.new (subst (Contains other) (sym same) earlier)
  apart_by i j m n None (Some h) x y one other less at_m at_n given also is are first earlier same =
      is.new (subst (Contains one) (sym are ∙ same) (first h (of_message j n h at_n also)))
  apart_by i j m n (Some g) (Some h) x y one other less at_m at_n given also is are first earlier same =
      given_apart i j m n g h less at_m at_n given also (sym are ∙ same ∙ is)

  pub ids_apart : (i j x y : ℕ) → i < j → slice_get ids i ≡ Some x → slice_get ids j ≡ Some y → y ≢ x
  ids_apart i j x y less at_x at_y =
      let m = message_of (taken_ids network ms) ms ids i x are at_x in
      let n = message_of (taken_ids network ms) ms ids j y are at_y in
      let one = id_at (taken_ids network ms) ms ids i m.0 are m.1 in
      let other = id_at (taken_ids network ms) ms ids j n.0 are n.1 in
      let here : one.id ≡ x = same_Some _ _ (sym one.at ∙ at_x) in
      let there : other.id ≡ y = same_Some _ _ (sym other.at ∙ at_y) in
      apart_by i j m.0 n.0 m.0.id n.0.id x y one.before other.before less m.1 n.1 refl refl (subst (IsIdBy one.before m.0.id) here one.by)
      (subst (IsIdBy other.before n.0.id) there other.by) one.first (other.earlier i x less at_x)

-- ---- a plan of messages that were read is accepted

first_in : {X : Type 0} (xs : List X) → 1 ≤ length xs → (x : X) × Contains xs x
first_in [] some = absurd (omega (arith, some))
first_in (x ∷ xs) some = (x, (0, omega arith, refl))

-- the trees of an accepted network, and the paths of an end system
one_cm : (network : Network) → KeepsRules network → (channel : Channel) (cm other : DeviceId) → IsCmOf network channel cm → IsCmOf network channel other
    → cm ≡ other
one_cm network keeps A cm other one two = let own = (keeps CompressionMasters 0).on_a refl in own.2 cm one ∙ sym (own.2 other two)
one_cm network keeps B cm other one two = let own = (keeps CompressionMasters 1).on_b refl in own.2 cm one ∙ sym (own.2 other two)

ground_of : {network : Network} (sender : DeviceId) → IsInRange network → KeepsRules network
    → IsEndSystem network sender → HasGround network sender
ground_of {network} sender range keeps end =
    let tree = tree_kept network keeps in
    let o = opened (λ (d : Device). is_end_system d.role ≡ true) (device_at network sender) end in
    let path = λ (channel : Channel). tree.reach channel sender
    (closed (λ (d : Device). (is_end_system d.role ≡ true) ⊎ (d.channel ≡ Some channel)) (device_at network sender) o.0 o.1 (inl o.2)) in
    record {
      trees = record { tree = tree; one_cm = one_cm network keeps };
      from = λ channel. (path channel).0;
      path = λ channel. (path channel).2;
      no_switch = λ channel switch. no_switch channel sender range end switch;
    }

module _ (network : Network) (ms : List Message) (ids : List ℕ) (attempts : List Attempt) (range : IsInRange network) (keeps : KeepsRules network)
    (asked : AreAskable network ms) (are : AreIds (taken_ids network ms) ms ids) (there : List Taken) (are_there : AreThere network there)
    (plan : ArePlanned network ms there attempts) where
  ordered : IsOrder (length ms) plan.order
  ordered =
      let reached = plan.reached in
      order_kept network ms (tree_kept network keeps) there reached.first plan.moves (length ms) plan.order
      (subst (λ n. IsOrder n reached.first) reached.have.counted reached.by_room.all) reached.moved

  in_turn : (j : ℕ) (m : Message) → slice_get ms j ≡ Some m → Contains plan.order j
  in_turn j m at =
      let within = slice_get_within ms j m at in
      let size = length-range_with_len 0 (length ms) in
      let value = get_or-range_with_len 0 (length ms) j j within in
      Contains-permutation (range_with_len 0 (length ms)) plan.order j ordered (j, (omega (arith, within, size)), (omega (arith, value)))

  abbrev before : ℕ → List Taken
  before j = taken_before network ms attempts there plan.order plan.taken plan.placed j

  given_new : (j : ℕ) (m : Message) (id : ℕ) → slice_get ms j ≡ Some m → m.id ≡ Some id → (k : ℕ) (vl : VirtualLink) → slice_get network.vl k ≡ Some vl → id ≢ vl.id
  given_new j m id at given k vl here = (asked.each j m at).id id k vl given here

  sound : IsSound network ms ids attempts
  sound = record {
    range = range;
    keeps = keeps;
    ids_there = id_there network ms ids are given_new asked.ids;
    seat = λ j m a at_m at_a. (
      before j,
      seated (has_place network ms attempts there plan.order plan.taken plan.placed j (in_turn j m at_m) m a at_m at_a),
    );
    ground = λ j m at. ground_of m.sender range keeps (asked.each j m at).sender;
    period = λ j m at. (asked.each j m at).period;
    phase = λ j m at. (asked.each j m at).phase;
    sender = λ j m at. (asked.each j m at).sender;
    receivers = λ j m at r of. ((asked.each j m at).receivers r of).0;
    others = λ j m at r of. ((asked.each j m at).receivers r of).1;
    some = λ j m at. first_in m.receivers (asked.each j m at).some;
    names_new = λ j m at k vl here. (asked.each j m at).name k vl here;
    names_apart = asked.names;
    ids_new = ids_new network ms ids are given_new asked.ids;
    ids_apart = ids_apart network ms ids are given_new asked.ids;
    there_in = λ j m a at_m at_a k e is.
        grows network ms attempts there plan.order plan.taken plan.placed j (taken_by e) (entry_among are_there is);
    apart = λ i j m n a b at_m at_n at_a at_b not.
        one_before network ms attempts there plan.order plan.taken plan.placed i j (in_turn i m at_m) (in_turn j n at_n) not m n a b at_m at_n at_a at_b;
  }

pub plan_is_accepted : PlanIsAccepted
plan_is_accepted octets text network ms ids attempts accepted range read are (limits, (there, are_there, plan)) =
    keeps_all network ms ids attempts
    (sound network ms ids attempts range accepted.rules (askable network text ms read.read) are there are_there plan) limits plan.counted
