-- Whether a way is cut, as events befall the network; and the packets that follow from it.
use Rattle.device_rules.specs.frames.traced.RecordOctets.{shown}
use Rattle.run_law.{proofs.records.Order.all_kept, specs.scenario.Ways.{cut_set, is_cut, is_way}}
use Rattle.tte_traces.proofs.Runs.{no_events}
use Rattle.std.{proofs.lemmas.{Bool.le-leb, List.Elements.filter-append}, specs.List.{filter_map, last_or}}
use Rattle.net_plan.specs.declared.tables.Way.TheVariants.{Up}
use Rattle.world_state.proofs.queue_lemmas.Slots.{same_map}
use Rattle.{std.proofs.Common.{◌&&◌, filter, nat_le, not, unwrap_or}, tte_observers.specs.captures.wires.{Packets.is_carried, Seeing.{cut_after, sent_by}}}
use Rattle.tte_observers.proofs.captures_lemmas.wires_lemmas.Words.{◌++◌, ◌<◌, ◌==◌, ◌∙◌, ◌∷◌, ◌≡◌, ◌≤◌, AreFrom, Bool, Event, Happening, IsIn, LinkId, List}
use Rattle.tte_observers.proofs.captures_lemmas.wires_lemmas.Words.{Network, None, NoteBody, Option, Pcf, Scenario, Some, Way, [], amount, and_parts, ap}
use Rattle.tte_observers.proofs.captures_lemmas.wires_lemmas.Words.{append-nil, arith, cons_option, eqb-true, false, filter_map-append, if◌then◌else◌}
use Rattle.tte_observers.proofs.captures_lemmas.wires_lemmas.Words.{is_sent_on, is_way_of, option_map, packet_at, packet_of, packets_of, rank, record_octets}
use Rattle.tte_observers.proofs.captures_lemmas.wires_lemmas.Words.{refl, scenario_under, sends_of, sent_packets, subst, sym, time_of, true, ℕ}
use Rattle.net_plan.specs.declared.event.What.TheVariants as events
use Rattle.run_law.specs.declared.note.NoteBody.TheVariants as notes

-- ---- whether the way up is cut

-- by the time of the last event all events count
pub cut_known : (network : Network) (events : List Event) (link : LinkId) (t : ℕ) → ((e : Event) → IsIn e events → amount e.time ≤ t)
    → is_cut (scenario_under network events) link Up t ≡ cut_after link events
cut_known network events link t past =
    ap (λ (es : List Event). unwrap_or (last_or None (filter_map (λ e. cut_set link Up e.what) es)) false)
    (all_kept (λ e. nat_le (amount e.time) t) events (λ e i. le-leb (amount e.time) t (past e i)))

last_more : (o : Option Bool) (xs : List Bool) (b : Bool) → last_or o (xs ++ b ∷ []) ≡ Some b
last_more o [] b = refl
last_more o (x ∷ xs) b = last_more (Some x) xs b

last_set_more : (xs : List Bool) (y : Option Bool) → unwrap_or (last_or None (xs ++ cons_option y [])) false ≡ unwrap_or y (unwrap_or (last_or None xs) false)
last_set_more xs None = ap (λ (l : List Bool). unwrap_or (last_or None l) false) (append-nil xs)
last_set_more xs (Some b) = ap (λ (o : Option Bool). unwrap_or o false) (last_more None xs b)

-- one more event
pub cut_more : (link : LinkId) (events : List Event) (event : Event)
    → unwrap_or (cut_set link Up event.what) (cut_after link events) ≡ cut_after link (events ++ event ∷ [])
cut_more link events event =
    let f = λ (e : Event). cut_set link Up e.what in
    sym (ap (λ (l : List Bool). unwrap_or (last_or None l) false) (filter_map-append f events (event ∷ [])) ∙ last_set_more (filter_map f events) (f event))

-- ---- packets under more events

-- later events cut nothing before them
cut_stays : (network : Network) (events more : List Event) (link : LinkId) (u t : ℕ) → u < t → AreFrom t more
    → is_cut (scenario_under network (events ++ more)) link Up u ≡ is_cut (scenario_under network events) link Up u
cut_stays network events more link u t lt from =
    let p = λ (e : Event). nat_le (amount e.time) u in
    ap (λ (es : List Event). unwrap_or (last_or None (filter_map (λ e. cut_set link Up e.what) es)) false)
    (filter-append p events more ∙ ap (λ l. filter p events ++ l) (no_events u t more lt from) ∙ append-nil (filter p events))

module _ (s other : Scenario) (link : LinkId) (way : Way) (t : ℕ) where
  carried_same : (body : NoteBody) → other.network ≡ s.network
      → ((k : LinkId) → is_cut other k Up t ≡ is_cut s k Up t)
      → is_carried other link way t body ≡ is_carried s link way t body
  carried_same (notes.Event line (events.Send k octets)) same cut =
      ap (λ (b : Bool). is_way_of link way k Up && not b) (cut k)
  carried_same (notes.Left device k cause clock) same cut =
      ap (λ n. is_sent_on n link way (notes.Left device k cause clock)) same
  carried_same (notes.TtSent device k cause vl cycle) same cut =
      ap (λ n. is_sent_on n link way (notes.TtSent device k cause vl cycle)) same
  carried_same body same cut = refl

-- the packets of records that are earlier than all further events stay
pub packets_stay : (network : Network) (events more : List Event) (link : LinkId) (way : Way) (t : ℕ) (hs : List Happening) → AreFrom t more
    → ((h : Happening) → IsIn h hs → time_of h < t)
    → packets_of (scenario_under network (events ++ more)) link way hs ≡ packets_of (scenario_under network events) link way hs
packets_stay network events more link way t hs from sooner =
    let s = scenario_under network events in
    let other = scenario_under network (events ++ more) in
    same_map (packet_of other link way) (packet_of s link way) hs (λ h i.
    ap (λ (b : Bool). if b then option_map (packet_at (time_of h)) (record_octets h) else None)
    (carried_same s other link way (time_of h) h.note.body refl (λ k. cut_stays network events more k (time_of h) t (sooner h i) from)))

-- ---- the packets of what was sent

-- a packet of the time, unless the way is cut
abbrev packet_if : Bool → ℕ → Option (List ℕ) → Option (List ℕ)
packet_if true t o = None
packet_if false t o = option_map (packet_at t) o

same_link : (link k : LinkId) → link.0 ≡ k.0 → k ≡ link
same_link link k e = ap (λ (n : ℕ). let l : LinkId = record { 0 = n } in l) (sym e)

sent_one : (link : LinkId) (way : Way) (k : LinkId) (here cut there : Bool) (t : ℕ) (octets : List ℕ) → is_way_of link way k Up ≡ here
    → (here ≡ true → there ≡ cut)
    → (if here && not there then option_map (packet_at t) (Some octets) else None) ≡ packet_if cut t (if here then Some octets else None)
sent_one link way k true true there t octets is same = ap (λ (b : Bool). if not b then Some (packet_at t octets) else None) (same refl)
sent_one link way k true false there t octets is same = ap (λ (b : Bool). if not b then Some (packet_at t octets) else None) (same refl)
sent_one link way k false true there t octets is same = refl
sent_one link way k false false there t octets is same = refl

none_if : (cut : Bool) (t : ℕ) → None ≡ packet_if cut t None
none_if true t = refl
none_if false t = refl

module _ (s : Scenario) (link : LinkId) (way : Way) (cut : Bool) (t : ℕ) where
  sent_is : (body : NoteBody) (frame : Option Pcf) (octets : List ℕ) → rank body ≤ 1
      → ((k : LinkId) → is_way_of link way k Up ≡ true → is_cut s k Up t ≡ cut)
      → (if is_carried s link way t body then option_map (packet_at t) (shown body frame octets) else None)
      ≡ packet_if cut t (sent_by link way octets body)
  sent_is (notes.Event line (events.Send k given)) frame octets low same =
      let whole = sent_one link way k (is_way_of link way k Up) cut (is_cut s k Up t) t octets refl (same k) in whole
  sent_is (notes.Event line what) frame octets low same = none_if cut t
  sent_is body frame octets low same = absurd (omega (arith, low))

  -- a way up that is the way of a link is that of the link itself
  up_is : is_cut s link Up t ≡ cut → (k : LinkId) → is_way_of link way k Up ≡ true → is_cut s k Up t ≡ cut
  up_is is k here =
      let same = eqb-true link.0 k.0 (and_parts (link.0 == k.0) (is_way way Up) here).0 in
      ap (λ l. is_cut s l Up t) (same_link link k same) ∙ is

each_if : {X : Type 0} (cut : Bool) (t : ℕ) (f : X → Option (List ℕ)) (xs : List X)
    → filter_map (λ x. packet_if cut t (f x)) xs ≡ sent_packets cut t (filter_map f xs)
each_if true t f [] = refl
each_if true t f (x ∷ xs) = each_if true t f xs
each_if false t f [] = refl
each_if false t f (x ∷ xs) = by (f x) (each_if false t f xs)
  where
    by : (o : Option (List ℕ)) → filter_map (λ y. packet_if false t (f y)) xs ≡ sent_packets false t (filter_map f xs)
        → cons_option (packet_if false t o) (filter_map (λ y. packet_if false t (f y)) xs) ≡ sent_packets false t (cons_option o (filter_map f xs))
    by None rest = rest
    by (Some octets) rest = ap (λ l. packet_at t octets ∷ l) rest

-- the packets of events' records of one time
pub packets_sent : (s : Scenario) (link : LinkId) (way : Way) (cut : Bool) (t : ℕ) (hs : List Happening)
    → ((h : Happening) → IsIn h hs → (time_of h ≡ t) × (rank h.note.body ≤ 1)) → is_cut s link Up t ≡ cut
    → packets_of s link way hs ≡ sent_packets cut t (sends_of link way hs)
packets_sent s link way cut t hs each is =
    same_map (packet_of s link way) (λ h. packet_if cut t (sent_by link way h.octets h.note.body)) hs (λ h i.
    let at = each h i in
    subst (λ u. (if is_carried s link way u h.note.body then option_map (packet_at u) (shown h.note.body h.frame h.octets) else None)
    ≡ packet_if cut t (sent_by link way h.octets h.note.body)) (sym at.0)
    (sent_is s link way cut t h.note.body h.frame h.octets at.1 (up_is s link way cut t is)))
    ∙ each_if cut t (λ h. sent_by link way h.octets h.note.body) hs
