-- A fresh world, and an event that is applied to a state.
use Rattle.std.{specs.{List.{IsDistinct, cons_option, filter_map, last_or, slice_get}, Option.option_map}}
use Rattle.std.proofs.{Common.{◌||◌, cond, replicate}}
use Rattle.std.proofs.lemmas.{List.{Elements.filter_map-append, get_or-replicate, length-replicate}}
use Rattle.std.proofs.lemmas.{Option.slice_get_cases}
use Rattle.drift_world.proofs.Words
use Words.{◌++◌, ◌<◌, ◌↔◌, ◌∙◌, ◌∷◌, ◌≡◌, ◌⊎◌, AreUnderWay, AreWays, Befallen, Bool, DeviceId, Down, IsIn, LinkId, List}
use Words.{Network, None, Option, Some, Up, Waiting, Waits, Way, WayNow, WayState, What, [], amount, ap, arith}
use Words.{befell_as, both_ways, breaks_at, false, filter, inl, inr, is_broken, le-leb, length, list_any, map, nat_le}
use Words.{not, refl, scenario, slice_get-get_or, slice_get-map, sym, true, turns_on, unwrap_or, waiting_as, way_as}
use Words.{way_now, ℕ}
use Rattle.net_plan.specs.declared.event.Event.{Event}
use Rattle.run_law.specs.scenario.{Scenarios.{events_up_to, last_set}, Ways.{cut_set, hold_set, wire_of, wire_set}}
use Rattle.world_law.proofs.{giving.GivenParts.some_same, lists.Lists.filter_yes}
use Rattle.world_law.proofs.{steps_lemmas.steps.AppliedParts.broken_more}
use Rattle.world_state.specs.{Applying.way_after, Beginning.first_way}

-- ---- a fresh world

pub found : {X : Type 0} (xs : List X) (i : ℕ) → i < length xs → (x : X) × (slice_get xs i ≡ Some x)
found xs i lt =
    elim (slice_get_cases xs i).1 [
      | inl it ↦ (it.0, it.2)
      | inr past ↦ absurd (omega (arith, past.0))
    ]

pub found_in : {X : Type 0} (n i : ℕ) (x : X) → i < n → slice_get (replicate n x) i ≡ Some x
found_in n i x lt = slice_get-get_or (replicate n x) i x (omega (arith, length-replicate n x)) ∙ ap Some
    (get_or-replicate n i x x lt)

first_way_is : (network : Network) (f : DeviceId → ℕ → ℕ) (link : LinkId) (way : Way) → link.0 < length network.link
    → slice_get (map way_as (map first_way network.link)) link.0 ≡ Some (way_now (scenario network f []) 0 link way)
first_way_is network f link way lt =
    let of = found network.link link.0 lt in
    slice_get-map way_as (map first_way network.link) link.0 ∙ ap (option_map way_as) (slice_get-map first_way network.link link.0)
    ∙ ap (λ o. option_map way_as (option_map first_way o)) of.1
    ∙ sym (rw of.1)

pub first_ways_are : (network : Network) (f : DeviceId → ℕ → ℕ)
    → AreWays (scenario network f []) 0 (map way_as (map first_way network.link)) (map way_as (map first_way network.link))
first_ways_are network f = record { up = λ link lt. first_way_is network f link Up lt; down = λ link lt. first_way_is network f link Down lt }

pub none_under_way : (network : Network) → AreUnderWay network []
unfolding IsDistinct
none_under_way network = record { kinds = λ e there. absurd there; placed = λ e there. absurd there; apart = tt }

-- ---- an event is applied to a state: the ways

last_more : {V : Type 0} (d : Option V) (zs : List V) (o : Option V) (init : V)
    → unwrap_or (last_or d (zs ++ cons_option o [])) init ≡ unwrap_or o (unwrap_or (last_or d zs) init)
last_more d [] None init = refl
last_more d [] (Some v) init = refl
last_more d (z ∷ zs) o init = last_more (Some z) zs o init

module _ (network : Network) (f g : DeviceId → ℕ → ℕ) (past : List Event) (event : Event) {now : ℕ} (at : amount event.time ≡ now) where
  set_more : {V : Type 0} (setting : What → Option V) (init : V)
      → last_set (scenario network g (past ++ event ∷ [])) setting init now ≡ unwrap_or (setting event.what)
      (last_set (scenario network f past) setting init now)
  set_more setting init =
      rw (filter_yes (λ e. nat_le (amount e.time) now) past event (le-leb (amount event.time) now (omega arith)))
      (ap (λ l. unwrap_or (last_or None l) init) (filter_map-append (λ e. setting e.what)
      (events_up_to (scenario network f past) now) (event ∷ []))
      ∙ last_more None (filter_map (λ e. setting e.what) (events_up_to (scenario network f past) now))
      (setting event.what) init)

  way_more : (link : LinkId) (way : Way) (was : WayState) → way_as was ≡ way_now (scenario network f past) now link way
      → way_as (way_after link way event.what was) ≡ way_now (scenario network g (past ++ event ∷ [])) now link way
  way_more link way was is =
      ap (λ w. let r : WayNow = record {
        delay = unwrap_or (wire_set link way event.what) w.delay;
        hold = unwrap_or (hold_set link way event.what) w.hold;
        cut = unwrap_or
            (cut_set link way event.what) w.cut;
      } in r) is
      ∙ ap (λ n. let r : WayNow = record {
        delay = n;
        hold = unwrap_or (hold_set link way event.what)
            (last_set (scenario network f past) (hold_set link way) 0 now);
        cut = unwrap_or (cut_set link way event.what)
            (last_set (scenario network f past) (cut_set link way) false now);
      } in r) (sym (set_more (wire_set link way) (wire_of network link)))
      ∙ ap (λ n. let r : WayNow = record {
        delay = last_set (scenario network g (past ++ event ∷ [])) (wire_set link way) (wire_of network link) now;
        hold = n;
        cut = unwrap_or (cut_set link way event.what) (last_set (scenario network f past) (cut_set link way) false now);
      } in r)
      (sym (set_more (hold_set link way) 0))
      ∙ ap (λ b. let r : WayNow = record {
        delay = last_set (scenario network g (past ++ event ∷ [])) (wire_set link way) (wire_of network link) now;
        hold = last_set
            (scenario network g (past ++ event ∷ [])) (hold_set link way) 0 now;
        cut = b;
      } in r) (sym (set_more (cut_set link way) false))

  one_way : (link : LinkId) (way : Way) (old new : List WayState) → link.0 < length old
      → slice_get (map way_as old) link.0 ≡ Some (way_now (scenario network f past) now link way)
      → ((was : WayState) → slice_get old link.0 ≡ Some was → slice_get new link.0 ≡ Some (way_after link way event.what was))
      → slice_get (map way_as new) link.0 ≡ Some (way_now (scenario network g (past ++ event ∷ [])) now link way)
  one_way link way old new lt is each =
      let of = found old link.0 lt in
      let was = some_same _ _ _ (slice_get-map way_as old link.0 ∙ ap (option_map way_as) of.1) is in
      slice_get-map way_as new link.0 ∙ ap (option_map way_as) (each of.0 of.1) ∙ ap Some (way_more link way of.0 was)

  pub ways_more : (ups downs new_ups new_downs : List WayState) → length ups ≡ length network.link → length downs ≡ length network.link
      → AreWays (scenario network f past) now (map way_as ups) (map way_as downs)
      → ((link : LinkId) (was : WayState) → slice_get ups link.0 ≡ Some was → slice_get new_ups link.0 ≡ Some (way_after link Up event.what was))
      → ((link : LinkId) (was : WayState) → slice_get downs link.0 ≡ Some was → slice_get new_downs link.0 ≡ Some (way_after link Down event.what was))
      → AreWays (scenario network g (past ++ event ∷ [])) now (map way_as new_ups) (map way_as new_downs)
  ways_more ups downs new_ups new_downs many_ups many_downs are each_up each_down =
      record {
        up = λ link lt. one_way link Up ups new_ups (omega arith) (are.up link lt) (each_up link);
        down = λ link lt. one_way link Down downs new_downs (omega arith) (are.down link lt) (each_down link);
      }

  -- ---- what waits

  neither : (a b : Bool) → (a || b) ≡ false → (a ≡ false) × (b ≡ false)
  neither true b e = absurd (both_ways true e refl)
  neither false b e = (refl, e)

  pub waits_more : (items : List Waits) → ((e : Waiting) → IsIn e (map waiting_as items) → is_broken (scenario network f past) e.device now ≡ false)
      → (e : Waiting) → IsIn e (map waiting_as (filter (λ w. not (breaks_at w.device.0 event.what)) items)) ↔
      (IsIn e (map waiting_as items) × (is_broken (scenario network g (past ++ event ∷ [])) e.device now ≡ false))
  waits_more items sound e = (
    λ there. let k = out_of items e there in (
      k.0,
      broken_more network f g past event now e.device at
          ∙ ap (λ b. b || breaks_at e.device.0 event.what) (sound e k.0) ∙ k.1,
    ),
    λ h. into items e h.0 (neither _ _ (sym (broken_more network f g past event now e.device at) ∙ h.1)).1,
  )
    where
      kept_if : (b : Bool) (e : Waiting) (w : Waits) (l : List Waits) → b ≡ false → IsIn e (map waiting_as (w ∷ l))
          → IsIn e (map waiting_as (cond (not b) (w ∷ l) l))
      kept_if true e w l sound there = absurd (both_ways true sound refl)
      kept_if false e w l sound there = there

      rest_if : (b : Bool) (e : Waiting) (w : Waits) (l : List Waits) → IsIn e (map waiting_as l) → IsIn e (map waiting_as (cond (not b) (w ∷ l) l))
      rest_if true e w l there = there
      rest_if false e w l there = inr there

      from_if : (b : Bool) (e : Waiting) (w : Waits) (l : List Waits) → IsIn e (map waiting_as (cond (not b) (w ∷ l) l))
          → ((e ≡ waiting_as w) × (b ≡ false)) ⊎ IsIn e (map waiting_as l)
      from_if true e w l there = inr there
      from_if false e w l (inl same) = inl (same, refl)
      from_if false e w l (inr rest) = inr rest

      out_of : (items : List Waits) (e : Waiting) → IsIn e (map waiting_as (filter (λ w. not (breaks_at w.device.0 event.what)) items))
          → IsIn e (map waiting_as items) × (breaks_at e.device.0 event.what ≡ false)
      out_of [] e there = absurd there
      out_of (w ∷ items) e there =
          elim (from_if (breaks_at w.device.0 event.what) e w (filter (λ w. not (breaks_at w.device.0 event.what)) items) there) [
            | inl h ↦ (inl h.0, rw h.0 h.1)
            | inr rest ↦ let k = out_of items e rest in (inr k.0, k.1)
          ]

      into : (items : List Waits) (e : Waiting) → IsIn e (map waiting_as items) → breaks_at e.device.0 event.what ≡ false
          → IsIn e (map waiting_as (filter (λ w. not (breaks_at w.device.0 event.what)) items))
      into [] e there stays = absurd there
      into (w ∷ items) e (inl same) stays = kept_if (breaks_at w.device.0 event.what) e w _
          (ap (λ x. breaks_at x.device.0 event.what) (sym same)
          ∙ stays) (inl same)
      into (w ∷ items) e (inr rest) stays = rest_if (breaks_at w.device.0 event.what) e w _ (into items e rest stays)

pub any_mapped : (device : DeviceId) (items : List Befallen)
    → list_any (λ b. turns_on device b.what) (map befell_as items) ≡ list_any (λ b. turns_on device b.what) items
any_mapped device [] = refl
any_mapped device (b ∷ items) = rw (any_mapped device items)
