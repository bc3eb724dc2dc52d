-- What is under way in queues of devices, on wires and at ports, as frames are put in and taken out.
use Rattle.std.proofs.Common
use Common.{◌++◌, ◌+◌, ◌<◌, ◌==◌, ◌∙◌, ◌∷◌, ◌≡◌, ◌≤◌, ◌⊎◌, Bool, List, None, Option, Some, [], ap, arith, filter}
use Common.{get_or, inl, inr, is_some, length, map, not, refl, slice_get, slice_set, subst, suc, sym, zero, ℕ}
use Rattle.std.proofs.lemmas.{Bool.{both_ways, cases_lt, eq-eqb, false_from_ne_true, ne_eqb}, Cmp.nat_list_eq_equiv}
use Rattle.std.proofs.lemmas.{Int.ints}
use Rattle.std.proofs.lemmas.{Map.Keys.{IsDistinct-IsPermutation, IsDistinct-cons, IsDistinct-head, IsDistinct-tail}}
use Rattle.std.proofs.lemmas.{Option.{same_Some, slice_get_read, slice_get_within}, Slice.Eq.bytes_eq-Decides}
use Rattle.std.proofs.lemmas.List.{Elements.filter-append}
use Rattle.std.proofs.lemmas.List.Sorted
use Sorted.{IsPermutation-append_left, IsPermutation-append_right, IsPermutation-map, IsPermutation-middle}
use Sorted.{IsPermutation-sym, IsPermutation-trans}
use Rattle.std.specs.{List.{AllByRecursion, IsDistinct, Sorted.IsPermutation, filter_map}}
use Rattle.std.specs.{Option.{option_and_then, option_map, option_map_or}}
use Rattle.std.specs.{Prelude.{if◌then◌else◌, ◌↔◌, IfNone, IfSome, IsSomeAnd, MatchOption, false, true}, Str.bytes_eq}
use Rattle.net_plan.{proofs.SameIds.link_is}
use Rattle.net_plan.{specs.declared.{ids.{DeviceId.DeviceId, LinkId.LinkId}, network.Network.Network, tables.Link.Link}}
use Rattle.run_law.proofs.{records.{Members.{from_map, in_map as is_mapped}, Order.{given_of, is_given}}}
use Rattle.run_law.proofs.{runs.Places.{either_way, in_left, in_parts, in_right}}
use Rattle.run_law.specs.{control.Leaving.Gives, declared.note.NoteBody.NoteBody}
use Rattle.run_law.specs.{records.{Happenings.Happening, Order.{IsBefore, IsIn}}, scenario.Scenarios.Scenario}
use Rattle.tte_units.proofs.general_lemmas.Lists.{differ, set_aside, set_same as set_there}
use Rattle.world_law.{proofs.giving.GivenParts.some_same}
use Rattle.world_law.specs.world.{Calls.IsSet, Moves.{AreGiven, ArePut, IsWithout}}
use Rattle.world_law.specs.world.{World.{AtPort, OnWire, port_place, wire_place}}
use Rattle.world_state.{proofs.queue_lemmas.Slots.in_permuted}
use Rattle.world_state.specs.{Giving.{ArePutTo, IsGivenBy, IsPutOn, entry_at_port, place_at_port}}
use Rattle.world_state.specs.{Ripening.{IsReached, ripe_numbers}, Sound.{AreBelow, AreUnderWay, rank_of}}
use Rattle.world_state.specs.{Timing.IsLeastPoint, Views.{at_port, on_wire, port_at, wire_at}}
use Rattle.world_state.specs.{queue.{Places.{IsFirst, first_entry, numbers_of}, Queues.Queue}}
use Rattle.world_state.specs.Frames
use Frames.{AreQueued, IsFirstAt, IsQueued, NoneAt, first_frame, frames_in, frames_of, queue_place}
use Rattle.world_state.specs.declared.{giving.{Directions.Directions, Giving.Giving}, queue.{DueAt.DueAt, Entry.Entry}}
use Rattle.world_state.specs.declared.contents.{Content.{Content, TheVariants.{Port, Wire}}, Waits.Waits}
use Rattle.world_state.specs.declared.contents.{WayState.WayState}

-- ---- a frame is given to links, one after the other

-- where it is given to none, nothing is put to ports
pub nothing_put : (n : ℕ) (network : Network) (ups downs : List WayState) (body : NoteBody) (giving : Giving) (old : List (Entry Content))
    → ((link : LinkId) → Gives network body giving.device link → ⊥) → ArePutTo n network ups downs body giving old old
nothing_put n network ups downs body giving old none = grind arith

-- which links it is given to, the link's two devices tell
pub given_by_ends : (network : Network) (ends : Directions) (device : DeviceId) (i : ℕ) {link : Link} → i < length network.link → link ≡ get_or network.link i link
    → IsGivenBy network ends device (record { 0 = i }) ↔ (((ends.up ≡ true) × (link.child ≡ device)) ⊎ ((ends.down ≡ true) × (link.parent ≡ device)))
given_by_ends network ends device i {link} there is =
    let Goes = λ (found : Option Link). (((ends.up ≡ true) × IsSomeAnd found (λ l. l.child ≡ device))
    ⊎ ((ends.down ≡ true) × IsSomeAnd found (λ l. l.parent ≡ device)))
    ↔ (((ends.up ≡ true) × (link.child ≡ device)) ⊎ ((ends.down ≡ true) × (link.parent ≡ device))) in
    subst Goes (sym (slice_get_read network.link (length network.link) i link refl there is)) (λ x. x, λ x. x)

-- one that is given to no link by its ends
pub no_link : (network : Network) (ends : Directions) (device : DeviceId) (link : LinkId) → ends.up ≡ false → ends.down ≡ false
    → IsGivenBy network ends device link → ⊥
no_link network ends device link up down (inl own) = both_ways ends.up up own.0
no_link network ends device link up down (inr own) = both_ways ends.down down own.0

module _ {network : Network} {ups downs : List WayState} {body : NoteBody} {giving : Giving} {i : ℕ} {old mid : List (Entry Content)}
    (are : ArePutTo i network ups downs body giving old mid) where
  -- it is given to the link
  pub more_put : (new : List (Entry Content)) → Gives network body giving.device (record { 0 = i })
      → IsPermutation (entry_at_port network ups downs giving (record { 0 = i }) ∷ mid) new → ArePutTo (i + 1) network ups downs body giving old new
  more_put new given same =
      let entry = entry_at_port network ups downs giving (record { 0 = i }) in
      record {
        real = λ e there.
            elim (in_permuted new (entry ∷ mid) e (IsPermutation-sym _ _ same) there) [
              | inl own ↦ inr (record { 0 = i }, omega arith, given, own)
              | inr rest ↦
                  elim (are.real e rest) [
                    | inl before ↦ inl before
                    | inr by ↦ inr (by.0, omega arith, by.2, by.3)
                  ]
            ];
        kept = λ e there. in_permuted (entry ∷ mid) new e same (inr (are.kept e there));
        all = λ link lt gives.
            elim (cases_lt link.0 i) [
              | inl before ↦ in_permuted (entry ∷ mid) new _ same (inr (are.all link before gives))
              | inr here ↦
                  let own : link.0 ≡ i = omega arith in
                  in_permuted (entry ∷ mid) new _ same (inl (ap (entry_at_port network ups downs giving) (link_is link i own)))
            ];
      }

  -- it is not
  pub none_put : (Gives network body giving.device (record { 0 = i }) → ⊥) → ArePutTo (i + 1) network ups downs body giving old mid
  none_put not_given =
      record {
        real = λ e there.
            elim (are.real e there) [
              | inl before ↦ inl before
              | inr by ↦ inr (by.0, omega arith, by.2, by.3)
            ];
        kept = are.kept;
        all = λ link lt gives.
            elim (cases_lt link.0 i) [
              | inl before ↦ are.all link before gives
              | inr here ↦ absurd
                  (not_given (subst (Gives network body giving.device) (link_is link i (omega arith)) gives))
            ];
      }

  -- no other is at its place
  pub apart_from : AreBelow giving.number old → (d : Entry Content) → IsIn d mid
      → numbers_of d.place ≡ numbers_of (place_at_port network ups downs giving (record { 0 = i })) → ⊥
  apart_from below d there same =
      let at : (k : ℕ) → get_or (numbers_of d.place) k 0 ≡ get_or (numbers_of (place_at_port network ups downs giving (record { 0 = i }))) k 0
      = λ k. ap (λ l. get_or l k 0) same in
      elim (are.real d there) [
        | inl before ↦ let lt = below d before in let e = at 4 in omega arith
        | inr by ↦
            let lt = by.1 in
            let e = at 3 in
            let own : d.place.link ≡ by.0.0 = rw by.3 in
            omega arith
      ]

-- ---- what is put to ports leaves the wires as they are, and what is put on a wire the ports

-- the wires after a frame is put to ports
pub wires_kept : (n : ℕ) (network other : Network) (ups downs : List WayState) (body : NoteBody) (giving : Option Giving) (old new : List (Entry Content))
    → IfSome giving (λ g. ArePutTo n network ups downs body g old new) → IfNone giving (new ≡ old)
    → (y : OnWire) → IsIn y (filter_map (on_wire other) new) ↔ IsIn y (filter_map (on_wire other) old)
wires_kept n network other ups downs body None old new put none y = grind arith
wires_kept n network other ups downs body (Some g) old new put none y = (
  λ there.
      let of = given_of (on_wire other) new y there in
      elim (put.real of.0 of.1) [
        | inl before ↦ is_given (on_wire other) old of.0 y before of.2
        | inr to ↦ absurd cc
      ],
  λ there. let of = given_of (on_wire other) old y there in is_given (on_wire other) new of.0 y (put.kept of.0 of.1) of.2,
)

-- the ports after something is put on a wire
pub ports_kept : (e : Option (Entry Content)) (old new : List (Entry Content)) → IfSome e (λ one. at_port one ≡ None) → IsPutOn e old new
    → (y : AtPort) → IsIn y (filter_map at_port new) ↔ IsIn y (filter_map at_port old)
ports_kept None old new none put y = grind arith
ports_kept (Some e) old new none put y = (
  λ there.
      let of = given_of at_port new y there in
      elim (in_permuted new (e ∷ old) of.0 (IsPermutation-sym _ _ put) of.1) [
        | inl own ↦ absurd cc
        | inr rest ↦ is_given at_port old of.0 y rest of.2
      ],
  λ there. let of = given_of at_port old y there in is_given at_port new of.0 y (in_permuted (e ∷ old) new of.0 put (inr of.1)) of.2,
)

-- what is put from lists with the same on the wires
pub put_from : (s : Scenario) (x : Happening) (number : ℕ) (old mid new : List OnWire) → ((y : OnWire) → IsIn y mid ↔ IsIn y old)
    → ArePut s x number mid new → ArePut s x number old new
put_from s x number old mid new same put = grind arith

-- and what is given to ports, to lists with the same at them
pub given_then : (s : Scenario) (x : Happening) (number : ℕ) (old mid new : List AtPort) → ((y : AtPort) → IsIn y new ↔ IsIn y mid)
    → AreGiven s x number old mid → AreGiven s x number old new
given_then s x number old mid new same given = grind arith

-- ---- what is under way without the first, and with one more

abbrev pub place_numbers : Entry Content → List ℕ
place_numbers e = numbers_of e.place

-- the place of what is at a port
pub port_numbers : (place : DueAt) (content : Content) (x : AtPort) → port_at place content ≡ Some x → place.rank ≡ rank_of content
    → port_place x ≡ numbers_of place
port_numbers place (Wire signal) x is kind = absurd cc
port_numbers place (Port frame given) x is kind =
    ap port_place (sym (same_Some _ _ is)) ∙ (rw (sym kind))

-- and of what is on a wire
pub wire_numbers : (network : Network) (place : DueAt) (content : Content) (x : OnWire) → wire_at network place content ≡ Some x
    → place.rank ≡ rank_of content → wire_place x ≡ numbers_of place
wire_numbers network place (Port frame given) x is kind = absurd cc
wire_numbers network place (Wire signal) x is kind =
    ap wire_place (sym (same_Some _ _ is)) ∙ (rw (sym kind))

all_numbers : (k : List ℕ) (es : List (Entry Content)) → AllByRecursion (λ y. bytes_eq k y ≡ false) (map place_numbers es) → (e : Entry Content) → IsIn e es
    → numbers_of e.place ≡ k → ⊥
all_numbers k [] all e there same = absurd there
all_numbers k (d ∷ es) all e (inl is) same = differ k (numbers_of d.place) all.0 (sym same ∙ ap place_numbers is)
all_numbers k (d ∷ es) all e (inr rest) same = all_numbers k es all.1 e rest same

module _ (network : Network) (old new : List (Entry Content)) (taken : Entry Content) (are : AreUnderWay network old) (same : IsPermutation old (taken ∷ new))
  where
    back : (e : Entry Content) → IsIn e (taken ∷ new) → IsIn e old
    back e there = in_permuted _ _ e (IsPermutation-sym _ _ same) there

    distinct : IsDistinct bytes_eq (map place_numbers (taken ∷ new))
    distinct = IsDistinct-IsPermutation bytes_eq nat_list_eq_equiv.symm _ _ (IsPermutation-map place_numbers _ _ same) are.apart

    pub sound_without : AreUnderWay network new
    sound_without =
        record {
          kinds = λ e there. are.kinds e (back e (inr there));
          placed = λ e there. are.placed e (back e (inr there));
          apart = IsDistinct-tail bytes_eq (place_numbers taken) (map place_numbers new) distinct;
        }

    others : (e : Entry Content) → IsIn e new → numbers_of e.place ≡ numbers_of taken.place → ⊥
    others = all_numbers (numbers_of taken.place) new (IsDistinct-head bytes_eq (place_numbers taken) (map place_numbers new) distinct)

    -- what was at a port is taken
    pub ports_without : (x : AtPort) → at_port taken ≡ Some x → IsWithout port_place (port_place x) (filter_map at_port old) (filter_map at_port new)
    ports_without x is y = (
      λ there.
          let of = given_of at_port new y there in
          let e = of.0 in (
            is_given at_port old e y (back e (inr of.1)) of.2,
            λ place. others e of.1 (sym (port_numbers e.place e.content y of.2 (are.kinds e (back e (inr of.1)))) ∙ place
                ∙ port_numbers taken.place taken.content x is (are.kinds taken (back taken (inl refl)))),
          ),
      λ h.
          let of = given_of at_port old y h.0 in
          elim (in_permuted _ _ of.0 same of.1) [
            | inl e ↦ absurd (h.1 (ap port_place (same_Some _ _ (sym of.2 ∙ ap at_port e ∙ is))))
            | inr rest ↦ is_given at_port new of.0 y rest of.2
          ],
    )

    -- and nothing on the wires changes
    pub wires_stay : on_wire network taken ≡ None → (y : OnWire) → IsIn y (filter_map (on_wire network) new) ↔ IsIn y (filter_map (on_wire network) old)
    wires_stay none y = (
      λ there. let of = given_of (on_wire network) new y there in is_given (on_wire network) old of.0 y (back of.0 (inr of.1)) of.2,
      λ there.
          let of = given_of (on_wire network) old y there in
          elim (in_permuted _ _ of.0 same of.1) [
            | inl e ↦ absurd cc
            | inr rest ↦ is_given (on_wire network) new of.0 y rest of.2
          ],
    )

    -- what was on a wire is taken
    pub wires_without : (x : OnWire) → on_wire network taken ≡ Some x
        → IsWithout wire_place (wire_place x) (filter_map (on_wire network) old) (filter_map (on_wire network) new)
    wires_without x is y = (
      λ there.
          let of = given_of (on_wire network) new y there in
          let e = of.0 in (
            is_given (on_wire network) old e y (back e (inr of.1)) of.2,
            λ place. others e of.1 (sym (wire_numbers network e.place e.content y of.2 (are.kinds e (back e (inr of.1)))) ∙ place
                ∙ wire_numbers network taken.place taken.content x is (are.kinds taken (back taken (inl refl)))),
          ),
      λ h.
          let of = given_of (on_wire network) old y h.0 in
          elim (in_permuted _ _ of.0 same of.1) [
            | inl e ↦ absurd (h.1 (ap wire_place (same_Some _ _ (sym of.2 ∙ ap (on_wire network) e ∙ is))))
            | inr rest ↦ is_given (on_wire network) new of.0 y rest of.2
          ],
    )

    -- and nothing at the ports changes
    pub ports_stay : at_port taken ≡ None → (y : AtPort) → IsIn y (filter_map at_port new) ↔ IsIn y (filter_map at_port old)
    ports_stay none y = (
      λ there. let of = given_of at_port new y there in is_given at_port old of.0 y (back of.0 (inr of.1)) of.2,
      λ there.
          let of = given_of at_port old y there in
          elim (in_permuted _ _ of.0 same of.1) [
            | inl e ↦ absurd cc
            | inr rest ↦ is_given at_port new of.0 y rest of.2
          ],
    )

-- ---- with one more

differs : (xs ys : List ℕ) → (xs ≡ ys → ⊥) → bytes_eq xs ys ≡ false
differs xs ys apart = false_from_ne_true (bytes_eq xs ys) (λ e. apart ((bytes_eq-Decides xs ys).0 e))

none_equal : (k : List ℕ) (es : List (Entry Content)) → ((e : Entry Content) → IsIn e es → numbers_of e.place ≡ k → ⊥)
    → AllByRecursion (λ y. bytes_eq k y ≡ false) (map place_numbers es)
none_equal k [] none = tt
none_equal k (d ∷ es) none = (differs k (numbers_of d.place) (λ same. none d (inl refl) (sym same)), none_equal k es (λ x there. none x (inr there)))

-- what is at a place of its own may be put under way
pub sound_with : (network : Network) (old new : List (Entry Content)) (e : Entry Content) → AreUnderWay network old → IsPermutation (e ∷ old) new
    → e.place.rank ≡ rank_of e.content → e.place.device < length network.device → e.place.link < length network.link
    → ((d : Entry Content) → IsIn d old → numbers_of d.place ≡ numbers_of e.place → ⊥) → AreUnderWay network new
sound_with network old new e are same kind device link apart =
    let back : (d : Entry Content) → IsIn d new → IsIn d (e ∷ old) = λ d there. in_permuted new (e ∷ old) d (IsPermutation-sym _ _ same) there in
    record {
      kinds = λ d there.
          elim (back d there) [
            | inl is ↦ rw is kind
            | inr rest ↦ are.kinds d rest
          ];
      placed = λ d there.
          elim (back d there) [
            | inl is ↦ rw is (device, link)
            | inr rest ↦ are.placed d rest
          ];
      apart = IsDistinct-IsPermutation bytes_eq nat_list_eq_equiv.symm _ _ (IsPermutation-map place_numbers _ _ same)
          (IsDistinct-cons bytes_eq (place_numbers e) (map place_numbers old) (none_equal (place_numbers e) old apart) are.apart);
    }

-- ---- a list with another element at a place, with one more at its end, and without an element

pub is_set : {X : Type 0} (xs : List X) (i : ℕ) (x : X) → i < length xs → IsSet i x xs (slice_set xs i x)
is_set xs i x lt = record { there = set_there xs i x lt; same = λ k ne. set_aside xs i k x ne }

-- what stands at a place then is the other element, or stood there
pub set_cases : {X : Type 0} (xs : List X) (i k : ℕ) (is q : X) → slice_get (slice_set xs k is) i ≡ Some q
    → ((i ≡ k) × (q ≡ is)) ⊎ (slice_get xs i ≡ Some q)
set_cases [] i k is q there = inr there
set_cases (x ∷ xs) zero zero is q there = inl (refl, cc)
set_cases (x ∷ xs) (suc i) zero is q there = inr there
set_cases (x ∷ xs) zero (suc k) is q there = inr there
set_cases (x ∷ xs) (suc i) (suc k) is q there =
    elim (set_cases xs i k is q there) [ inl s ↦ inl (rw s.0, s.1) | inr o ↦ inr o ]

-- with one more at the end, it stood there, or is that one
pub push_cases : {X : Type 0} (xs : List X) (i : ℕ) (x : X) {y : X} → slice_get (xs ++ x ∷ []) i ≡ Some y
    → (slice_get xs i ≡ Some y) ⊎ (y ≡ x)
push_cases [] zero x there = inr cc
push_cases [] (suc i) x there = absurd cc
push_cases (z ∷ xs) zero x there = inl there
push_cases (z ∷ xs) (suc i) x there = push_cases xs i x there

-- what is left when one is taken out
module _ {X : Type 0} (x : X) (old new : List X) (t : IsPermutation old (x ∷ new)) where
  pub was_there : IsIn x old
  was_there = in_permuted _ _ x (IsPermutation-sym _ _ t) (inl refl)

  pub stayed : (v : X) → IsIn v new → IsIn v old
  stayed v there = in_permuted _ _ v (IsPermutation-sym _ _ t) (inr there)

  pub stays : (v : X) → IsIn v old → (v ≡ x → ⊥) → IsIn v new
  stays v there other = elim (in_permuted _ _ v t there) [ inl e ↦ absurd (other e) | inr rest ↦ rest ]

-- ---- queues of devices: one more frame in one, the first taken out, and the first of those that wait at a device

abbrev pub content_of : Entry Waits → Waits
content_of e = e.content

-- ---- the frames of the queues

-- a queue with other frames: one more
pub one_more_in : (queues : List (Queue Waits)) (k : ℕ) (was is : Queue Waits) (w : Waits) → slice_get queues k ≡ Some was
    → IsPermutation (w ∷ frames_of was) (frames_of is) → IsPermutation (w ∷ frames_in queues) (frames_in (slice_set queues k is))
one_more_in [] k was is w at more = absurd cc
one_more_in (q ∷ queues) zero was is w at more =
    let same : q ≡ was = cc in
    IsPermutation-append_left (frames_in queues) (w ∷ frames_of q) (frames_of is)
    (rw same more)
one_more_in (q ∷ queues) (suc k) was is w at more =
    IsPermutation-trans _ _ _ (IsPermutation-sym _ _ (IsPermutation-middle (frames_of q) w (frames_in queues)))
    (IsPermutation-append_right (frames_of q) _ _ (one_more_in queues k was is w at more))

-- or one fewer
pub one_fewer_in : (queues : List (Queue Waits)) (k : ℕ) (was is : Queue Waits) (w : Waits) → slice_get queues k ≡ Some was
    → IsPermutation (frames_of was) (w ∷ frames_of is) → IsPermutation (frames_in queues) (w ∷ frames_in (slice_set queues k is))
one_fewer_in [] k was is w at fewer = absurd cc
one_fewer_in (q ∷ queues) zero was is w at fewer =
    let same : q ≡ was = cc in
    IsPermutation-append_left (frames_in queues) (frames_of q) (w ∷ frames_of is)
    (rw same fewer)
one_fewer_in (q ∷ queues) (suc k) was is w at fewer =
    IsPermutation-trans _ _ _ (IsPermutation-append_right (frames_of q) _ _ (one_fewer_in queues k was is w at fewer))
    (IsPermutation-middle (frames_of q) w (frames_in (slice_set queues k is)))

-- or the same
pub same_in : (queues : List (Queue Waits)) (k : ℕ) (was is : Queue Waits) → slice_get queues k ≡ Some was → is.entries ≡ was.entries
    → frames_in (slice_set queues k is) ≡ frames_in queues
same_in [] k was is at same = absurd cc
same_in (q ∷ queues) zero was is at same =
    let one : q ≡ was = cc in
    ap (λ l. l ++ frames_in queues) (ap (map content_of) same ∙ ap frames_of (sym one))
same_in (q ∷ queues) (suc k) was is at same = rw (same_in queues k was is at same)

-- and an empty queue behind them adds none
pub none_behind : (queues : List (Queue Waits)) (q : Queue Waits) → q.entries ≡ [] → frames_in (queues ++ q ∷ []) ≡ frames_in queues
none_behind [] q empty = rw empty
none_behind (r ∷ queues) q empty = rw (none_behind queues q empty)

-- ---- what is in them

pub in_queue : (queues : List (Queue Waits)) (w : Waits) → IsIn w (frames_in queues)
    → (k : ℕ) × (q : Queue Waits) × (e : Entry Waits) × (slice_get queues k ≡ Some q) × IsIn e q.entries × (w ≡ e.content)
in_queue [] w there = absurd there
in_queue (q ∷ queues) w there =
    elim (in_parts w (frames_of q) (frames_in queues) there) [
      | inl here ↦ let e = from_map content_of q.entries w here in (0, q, e.0, refl, e.1, e.2)
      | inr rest ↦ let o = in_queue queues w rest in (suc o.0, o.1, o.2, o.3, o.4, o.5)
    ]

pub of_queue : (queues : List (Queue Waits)) (k : ℕ) {q : Queue Waits} (e : Entry Waits) → slice_get queues k ≡ Some q → IsIn e q.entries
    → IsIn e.content (frames_in queues)
of_queue [] k e at there = absurd cc
of_queue (r ∷ queues) zero e at there = grind (arith, in_left, is_mapped)
of_queue (r ∷ queues) (suc k) {q} e at there = in_right e.content (frames_of r) (frames_in queues) (of_queue queues k e at there)

-- ---- the first

-- of one device's frames the earlier one has the earlier place
earlier : (v w : Waits) → v.device.0 ≡ w.device.0 → IsBefore (ripe_numbers v) (ripe_numbers w)
    → IsBefore (numbers_of (queue_place v)) (numbers_of (queue_place w))
earlier v w same (inl lt) = absurd (omega arith)
earlier v w same (inr (e, inl lt)) = inl lt
earlier v w same (inr (e, inr (f, rest))) = inr (f, inr (refl, rest))

first_in : (entries : List (Entry Waits)) {e : Entry Waits} → first_entry entries ≡ Some e → IsIn e entries
first_in [] is = absurd cc
first_in (x ∷ entries) {e} is = inl (sym cc)

module _ (queues : List (Queue Waits)) (queued : AreQueued queues) (k : ℕ) where
  first_at : (q : Queue Waits) (o : Option (Entry Waits)) → slice_get queues k ≡ Some q → first_entry q.entries ≡ o → IfSome o (λ e. IsFirst q.entries e.place)
      → MatchOption (option_map content_of o) (NoneAt (frames_in queues) k) (IsFirstAt (frames_in queues) k)
  first_at q None at is first = λ v there own.
      let from = in_queue queues v there in
      let its = queued from.0 from.1 from.2 from.3 from.4 in
      let device : from.0 ≡ k = sym its.own ∙ sym (ap (λ x. x.device.0) from.5) ∙ own in
      let same = some_same from.1 q _ from.3 (ap (slice_get queues) device ∙ at) in
      no_first q.entries from.2 is (rw same at from.4)
    where
      no_first : (entries : List (Entry Waits)) (e : Entry Waits) → first_entry entries ≡ None → IsIn e entries → ⊥
      no_first [] e is there = there
      no_first (x ∷ entries) e is there = absurd cc
  first_at q (Some e) at is first =
      let there = first_in q.entries is in
      let its = queued k q e at there in
      record {
        there = of_queue queues k e at there;
        own = its.own;
        begun = λ v inside own.
            let from = in_queue queues v inside in
            rw from.5 (queued from.0 from.1 from.2 from.3 from.4).begun;
        none = λ v inside own before.
            let from = in_queue queues v inside in
            let hers = queued from.0 from.1 from.2 from.3 from.4 in
            let device : from.0 ≡ k = sym hers.own ∙ sym (ap (λ x. x.device.0) from.5) ∙ own in
            let same = some_same from.1 q _ from.3 (ap (slice_get queues) device ∙ at) in
            let place = hers.place ∙ ap queue_place (sym from.5) in
            first.none from.2 (rw same at from.4)
            (rw place (rw its.place (earlier v e.content (own ∙ sym its.own) before)));
      }

  pub first_of_queue : {q : Queue Waits} → slice_get queues k ≡ Some q → IfSome (first_entry q.entries) (λ e. IsFirst q.entries e.place)
      → MatchOption (first_frame q) (NoneAt (frames_in queues) k) (IsFirstAt (frames_in queues) k)
  first_of_queue {q} at first = first_at q (first_entry q.entries) at refl first

  -- a device without a queue has none
  pub no_queue : slice_get queues k ≡ None → NoneAt (frames_in queues) k
  no_queue none v there own =
      let from = in_queue queues v there in
      let its = queued from.0 from.1 from.2 from.3 from.4 in
      let device : from.0 ≡ k = sym its.own ∙ sym (ap (λ x. x.device.0) from.5) ∙ own in
      absurd (some_none (sym from.3 ∙ ap (slice_get queues) device ∙ none))
    where
      some_none : {X : Type 0} {x : X} → Some x ≡ None → ⊥
      some_none e = absurd cc

-- ---- what is in each queue

pub set_queued : (queues : List (Queue Waits)) (k : ℕ) (is : Queue Waits) → AreQueued queues
    → ((e : Entry Waits) → IsIn e is.entries → IsQueued k e) → AreQueued (slice_set queues k is)
set_queued queues k is queued all i q e there inside =
    elim (set_cases queues i k is q there) [
      | inl same ↦ rw same.0 (all e (rw same.1 at inside))
      | inr other ↦ queued i q e other inside
    ]

pub push_queued : (queues : List (Queue Waits)) (q : Queue Waits) → AreQueued queues → q.entries ≡ [] → AreQueued (queues ++ q ∷ [])
push_queued queues q queued empty i r e there inside =
    elim (push_cases queues i q there) [
      | inl old ↦ queued i r e old inside
      | inr same ↦ absurd (subst (IsIn e) (ap Queue.entries same ∙ empty) inside)
    ]

-- ---- which device has a queue

pub has_first : (queues : List (Queue Waits)) (k : ℕ) (o : Option (Queue Waits)) → slice_get queues k ≡ o
    → is_some (option_and_then first_frame o) ≡ true → k < length queues
has_first queues k None is some = absurd (both_ways _ refl some)
has_first queues k (Some q) is some = slice_get_within queues k q is

pub has_room : (queues : List (Queue Waits)) (k : ℕ) (o : Option (Queue Waits)) → slice_get queues k ≡ o
    → 0 < option_map_or (λ q. q.room) o 0 → k < length queues
has_room queues k None is room = absurd (omega arith)
has_room queues k (Some q) is room = slice_get_within queues k q is

-- ---- which are reached, and the least point

-- where the first is not reached, none is
pub none_reached : {items : List Waits} (device : DeviceId) (reading : ℕ) {w : Waits} → IsFirstAt items device.0 w → (IsReached device reading w → ⊥)
    → (v : Waits) → IsIn v items → IsReached device reading v → ⊥
none_reached device reading first not v there at = grind (arith, cases_lt, not, ints)

-- the first has the least point
pub least_is : {items : List Waits} {device : ℕ} {w : Waits} → IsFirstAt items device w
    → IsLeastPoint items device (Some w.point)
least_is first = grind (arith, cases_lt, ints)

-- ---- one more queue

pub grown : (queues : List (Queue Waits)) {after : List (Queue Waits)} (q : Queue Waits) (b : Bool) → after ≡ (if b then queues ++ q ∷ [] else queues) → q.entries ≡ []
    → AreQueued queues → AreQueued after × (frames_in after ≡ frames_in queues)
grown queues q true is empty queued = (subst AreQueued (sym is) (push_queued queues q queued empty), ap frames_in is ∙ none_behind queues q empty)
grown queues q false is empty queued = (subst AreQueued (sym is) queued, ap frames_in is)

-- ---- all frames of a device are dropped

-- it waits elsewhere
abbrev pub keeps_it : ℕ → Waits → Bool
keeps_it k w = not (k == w.device.0)

kept_all : (k : ℕ) (ws : List Waits) → ((w : Waits) → IsIn w ws → k ≡ w.device.0 → ⊥) → filter (keeps_it k) ws ≡ ws
kept_all k [] apart = refl
kept_all k (w ∷ ws) apart =
    rw (ne_eqb k w.device.0 (apart w (inl refl)))
    (rw (kept_all k ws (λ v there. apart v (inr there))))

kept_none : (k : ℕ) (ws : List Waits) → ((w : Waits) → IsIn w ws → k ≡ w.device.0) → filter (keeps_it k) ws ≡ []
kept_none k [] same = refl
kept_none k (w ∷ ws) same =
    rw (eq-eqb k w.device.0 (same w (inl refl)))
    (kept_none k ws (λ v there. same v (inr there)))

-- the queues from one on, of the devices from this on
abbrev pub QueuedFrom : ℕ → List (Queue Waits) → Type 0
QueuedFrom at queues = (k : ℕ) (q : Queue Waits) (e : Entry Waits) → slice_get queues k ≡ Some q → IsIn e q.entries → e.content.device.0 ≡ at + k

module _ (at : ℕ) (q : Queue Waits) (queues : List (Queue Waits)) (queued : QueuedFrom at (q ∷ queues)) where
  own_of : (w : Waits) → IsIn w (frames_of q) → w.device.0 ≡ at
  own_of w there =
      let e = from_map content_of q.entries w there in
      let own = queued 0 q e.0 refl e.1 in
      rw e.2 (own ∙ omega arith)

  rest_of : QueuedFrom (at + 1) queues
  rest_of k r e there inside = let own = queued (suc k) r e there inside in omega arith

-- where no queue is the device's, all are kept
pub kept_beyond : (at d : ℕ) (queues : List (Queue Waits)) → QueuedFrom at queues → (d < at) ⊎ (at + length queues ≤ d)
    → filter (keeps_it d) (frames_in queues) ≡ frames_in queues
kept_beyond at d [] queued out = refl
kept_beyond at d (q ∷ queues) queued out =
    filter-append (keeps_it d) (frames_of q) (frames_in queues)
    ∙ ap (λ l. l ++ filter (keeps_it d) (frames_in queues))
    (kept_all d (frames_of q) (λ w there same. let own = own_of at q queues queued w there in elim out [
      | inl lt ↦ omega arith
      | inr le ↦ omega arith
    ]))
    ∙ ap (λ l. frames_of q ++ l)
    (kept_beyond (at + 1) d queues (rest_of at q queues queued)
    (elim out [ inl lt ↦ inl (omega arith) | inr le ↦ inr (omega arith) ]))

pub emptied : (at k : ℕ) (queues : List (Queue Waits)) {was : Queue Waits} (is : Queue Waits) → QueuedFrom at queues → slice_get queues k ≡ Some was → is.entries ≡ []
    → frames_in (slice_set queues k is) ≡ filter (keeps_it (at + k)) (frames_in queues)
emptied at k [] is queued there empty = absurd cc
emptied at zero (q ∷ queues) is queued there empty =
    ap (λ l. map content_of l ++ frames_in queues) empty
    ∙ sym (filter-append (keeps_it (at + 0)) (frames_of q) (frames_in queues)
    ∙ ap (λ (l : List Waits). l ++ filter (keeps_it (at + 0)) (frames_in queues))
    (kept_none (at + 0) (frames_of q) (λ w here. let own = own_of at q queues queued w here in omega (arith, own)))
    ∙ kept_beyond (at + 1) (at + 0) queues (rest_of at q queues queued) (inl (omega arith)))
emptied at (suc k) (q ∷ queues) {was} is queued there empty =
    ap (λ l. frames_of q ++ l) (emptied (at + 1) k queues is (rest_of at q queues queued) there empty
    ∙ ap (λ n. filter (keeps_it n) (frames_in queues)) (omega arith))
    ∙ ap (λ (l : List Waits). l ++ filter (keeps_it (at + suc k)) (frames_in queues))
    (sym (kept_all (at + suc k) (frames_of q) (λ w here same. let own = own_of at q queues queued w here in omega (arith, own, same))))
    ∙ sym (filter-append (keeps_it (at + suc k)) (frames_of q) (frames_in queues))

pub from_zero : (queues : List (Queue Waits)) → AreQueued queues → QueuedFrom 0 queues
from_zero queues queued k q e there inside = let own = (queued k q e there inside).own in omega arith

-- ---- filters that keep the same

pub alike : (p q : Waits → Bool) (ws : List Waits) → ((w : Waits) → p w ≡ q w) → filter p ws ≡ filter q ws
alike p q [] same = refl
alike p q (w ∷ ws) same =
    rw (same w)
    (rw (alike p q ws same))

pub all_kept : (p : Waits → Bool) (ws : List Waits) → ((w : Waits) → p w ≡ true) → filter p ws ≡ ws
all_kept p [] all = refl
all_kept p (w ∷ ws) all = rw (all w) (rw (all_kept p ws all))

-- ---- of what is under way one place is first

-- a place is known by its numbers
pub by_numbers : (p q : DueAt) → numbers_of p ≡ numbers_of q → p ≡ q
by_numbers p q same = grind (arith, get_or)

pub one_first : {T : Type 0} {entries : List (Entry T)} {p q : DueAt} → IsFirst entries p → IsFirst entries q → p ≡ q
one_first a b = grind (arith, either_way, by_numbers)

-- what is at a place, in other words
pub in_words : {T : Type 0} (old new : List (Entry T)) (e : Entry T) {p : DueAt} {k : T} → e.place ≡ p → e.content ≡ k → IsPermutation old (e ∷ new)
    → IsPermutation old (record { place = p; content = k } ∷ new)
in_words {T} old new e {k} place content same =
    rw place at (rw content at same)
