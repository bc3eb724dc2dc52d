-- What comes of the events of an instant is settled, as its law asks for it.
use Rattle.std.specs.List.{filter_map}
use Rattle.drift_world.{specs.declared.state.State.State}
use Rattle.drift_world.proofs.{ActSteps.{is_put_in, one_put_in, order_put, some_put_in}, Alike.ports_at}
use Rattle.drift_world.proofs.Signals.{all_put_some, have_octets}
use Rattle.world_law.proofs.{runs.Worlds.length_is}
use Rattle.world_law.proofs.{steps_lemmas.befalling.EventRecords.{on_within, put_event, put_in_more, sent_on, wires_of}}
use Rattle.run_law.proofs.law.FirstDeliveries.{numbered_within}
use Rattle.world_law.{specs.steps.Befalling.{ArePutBy, befell_bodies, bodies_of}}
use Rattle.world_law.proofs.steps_lemmas.{steps.Applied.no_coming}
use Rattle.world_law.proofs.steps_lemmas.befalling.{Befell.befell_step}
use Rattle.world_state.{proofs.WorldSteps.{IsFreshOf, ports_settled}}
use Rattle.world_state.{specs.Befalling.{AreSettledBy, bare, entry_of, lost_on, record_of, sent_up, turned_on}}
use Rattle.{drift_world.proofs.Words.InOrder, run_law.specs.records.Causes.IsOfThisTime, world_state.specs.declared.queue.Entry.Entry}
use Rattle.drift_world.proofs.Words.{◌+◌, ◌<◌, ◌↔◌, ◌∙◌, ◌∷◌, ◌≡◌, ◌⊎◌, ArePutIn, AreUnderWay, AreWays, Befallen, Bool, Content, DeviceId, Happening}
use Rattle.drift_world.proofs.Words.{Integrating, IsIn, IsPermutation-sym, IsPutOn, IsSomePut, Kept, Link, LinkId, List, Meaning, Network, None, Note, OnWire}
use Rattle.drift_world.proofs.Words.{Option, Port, Scenario, Settled, Some, Stands, StandsAt, Up, WayNow, WayState, What, Wire, World, [], ap, arith}
use Rattle.drift_world.proofs.Words.{at_port, befell_as, behind, delay_at, false, given_of, happenings, if◌then◌else◌, in_permuted, inl, inr, is_broken}
use Rattle.drift_world.proofs.Words.{is_cut, is_given, is_mapped, length, length-map, link_at, map, numbers_end, numbered, on_wire, option_map_or, rank_of, refl}
use Rattle.drift_world.proofs.Words.{same_Some, settled_at, signal_as, signal_of, slice_get-map, slice_get_within, subst, sym, time_of, time_on_port, true}
use Rattle.{drift_world.proofs.Words.{way_as, way_now, wire_at, world_of, ℕ}, std.proofs.Common.{All, option_and_then, option_map, slice_get}}
use Rattle.net_plan.specs.declared.event.What.TheVariants as events
use Rattle.run_law.specs.declared.judgement.Why.TheVariants as whys
use Rattle.run_law.specs.declared.note.NoteBody.TheVariants as kinds
use Rattle.world_state.specs.declared.contents.Signal.TheVariants as signals

none_mapped : {X Y : Type 0} (f : X → Y) (xs : List X) → map f xs ≡ [] → xs ≡ []
none_mapped f [] e = refl
none_mapped f (x ∷ xs) e = absurd cc

-- ---- the way up of a link

-- the way that is kept is that of the scenario
record IsUp (s : Scenario) (now : ℕ) (link : LinkId) (ups : List WayState) : Type 0 where
  way : WayState
  found : slice_get ups link.0 ≡ Some way
  is : way_as way ≡ way_now s now link Up

way_found : (s : Scenario) (now : ℕ) (link : LinkId) (ups : List WayState) (o : Option WayState) → slice_get ups link.0 ≡ o
    → option_map way_as o ≡ Some (way_now s now link Up) → IsUp s now link ups
way_found s now link ups None found is = absurd cc
way_found s now link ups (Some w) found is = record { way = w; found = found; is = same_Some _ _ is }

way_up : {s : Scenario} {now : ℕ} (ups downs : List WayState) → AreWays s now (map way_as ups) (map way_as downs)
    → (link : LinkId) → link.0 < length s.network.link → IsUp s now link ups
way_up {s} {now} ups downs ways link lt =
    way_found s now link ups (slice_get ups link.0) refl (sym (slice_get-map way_as ups link.0) ∙ ways.up link lt)

-- ---- what an event puts on wires

module _ (s : Scenario) where
  -- what is put under way is on these wires
  abbrev IsOn : Option (Entry Content) → List OnWire → Type 0
  IsOn None ws = ws ≡ []
  IsOn (Some e) ws = (w : OnWire) × (on_wire s.network e ≡ Some w) × (ws ≡ w ∷ [])

  with_it : (o : Option (Entry Content)) (ws : List OnWire) (old new : List (Entry Content)) → IsOn o ws → IsPutOn o old new → (y : OnWire)
      → IsIn y (filter_map (on_wire s.network) new) ↔ (IsIn y (filter_map (on_wire s.network) old) ⊎ IsIn y ws)
  with_it None ws old new on put y = (
    λ there. inl (rw put at there),
    λ h. elim h [
      | inl there ↦ rw put there
      | inr more ↦ absurd (rw on at more)
    ],
  )
  with_it (Some e) ws old new on put y = (
    λ there.
        let of = given_of (on_wire s.network) new y there in
        elim (in_permuted new (e ∷ old) of.0 (IsPermutation-sym _ _ put) of.1) [
          | inl own ↦
              let same = same_Some _ _ (sym of.2 ∙ ap (on_wire s.network) own ∙ on.1) in
              inr (rw on.2 (inl same))
          | inr rest ↦ inl (is_given (on_wire s.network) old of.0 y rest of.2)
        ],
    λ h. elim h [
      | inl there ↦
          let of = given_of (on_wire s.network) old y there in
          is_given (on_wire s.network) new of.0 y (in_permuted (e ∷ old) new of.0 put (inr of.1)) of.2
      | inr more ↦ elim (rw on.2 at more) [
        | inl same ↦
            is_given (on_wire s.network) new e y (in_permuted (e ∷ old) new e put (inl refl))
            (on.1 ∙ ap (λ v. Some v) (sym same))
        | inr none ↦ absurd none
      ]
    ],
  )

  module _ (now number : ℕ) (ups downs : List WayState) (ways : AreWays s now (map way_as ups) (map way_as downs)) where
    abbrev entry_up : LinkId → List ℕ → Link → WayState → Entry Content
    entry_up link octets l w = record {
      place = record {
        at = now + time_on_port s.network link (signal_of octets) + w.delay;
        rank = 2;
        device = l.parent.0;
        link = link.0;
        cause = number;
      };
      content = Wire (signals.Octets octets);
    }

    sent_as : (link : LinkId) (octets : List ℕ) (l : Link) (w : WayState) (cut : Bool) → w.cut ≡ cut → w.delay ≡ delay_at s link Up now
        → IsOn (sent_up s.network now number link octets l w) (if cut then [] else sent_on s now number link octets l ∷ [])
    sent_as link octets l w true is delay =
        rw (ap (λ (b : Bool). if b then None else Some (entry_up link octets l w)) is) refl
    sent_as link octets l w false is delay =
        rw (ap (λ (b : Bool). if b then None else Some (entry_up link octets l w)) is) (
          sent_on s now number link octets l,
          rw delay,
          refl,
        )

    no_wires : (b : Bool) → (if b then [] else []) ≡ (let none : List OnWire = [] in none)
    no_wires true = refl
    no_wires false = refl

    by_link : (link : LinkId) (octets : List ℕ) (o : Option Link) → link_at s.network link ≡ o
        → IsOn (option_and_then (λ l. option_and_then (sent_up s.network now number link octets l) (slice_get ups link.0)) o)
        (if is_cut s link Up now then [] else option_map_or (λ l. sent_on s now number link octets l ∷ []) o [])
    by_link link octets None found = no_wires (is_cut s link Up now)
    by_link link octets (Some l) found =
        let up = way_up ups downs ways link (slice_get_within s.network.link link.0 l found) in
        rw up.found (sent_as link octets l up.way (is_cut s link Up now) (ap WayNow.cut up.is) (ap WayNow.delay up.is))

    event_on : (what : What) → IsOn (entry_of s.network ups now number what) (wires_of s now number what)
    event_on (events.Send link octets) = by_link link octets (link_at s.network link) refl
    event_on other = refl

-- ---- the records of what comes of it

module _ (s : Scenario) (hs : List Happening) (now : ℕ) where
  abbrev shown : Settled → Happening
  shown z = settled_at s.network now z

  -- what is settled stays in order
  order_some : (o : Option Settled) (old new : List Settled) → IsSomePut o old new → InOrder (map shown old) → InOrder (map shown new)
  order_some None old new put order = rw put order
  order_some (Some z) old new put order = order_put order (is_put_in s.network now put.1 order)

  module _ (broken : List Bool) (ups downs : List WayState) (ways : AreWays s now (map way_as ups) (map way_as downs)) (number : ℕ) (old new : List Settled)
      (order : InOrder (map shown old)) where
    on_put : (device : DeviceId) → slice_get broken device.0 ≡ Some (is_broken s device now)
        → IsSomePut (record_of s.network broken ups number (events.On device)) old new
        → ArePutIn s.network hs now (bodies_of s now number (events.On device)) (map shown old) (map shown new)
    on_put device found put =
        some_put_in s.network s.network now hs (kinds.State device Integrating number whys.On) (bare (kinds.State device Integrating number whys.On)) old new
        (is_broken s device now) (rw found at put) order refl

    lost_put : (link : LinkId) (l : Link) (cut : Bool) → IsSomePut (if cut then Some (bare (kinds.Lost l.child link number)) else None) old new
        → ArePutIn s.network hs now (if cut then kinds.Lost l.child link number ∷ [] else []) (map shown old) (map shown new)
    lost_put link l true put = one_put_in s.network s.network now hs (kinds.Lost l.child link number) (bare (kinds.Lost l.child link number)) old new
        put.1 order refl
    lost_put link l false put = ap (map shown) put

    send_put : (link : LinkId) (o : Option Link) → link_at s.network link ≡ o
        → IsSomePut (option_and_then (λ l. option_and_then (lost_on number link l) (slice_get ups link.0)) o) old new
        → ArePutIn s.network hs now (option_map_or (λ way. if is_cut s link Up now then kinds.Lost way.child link
        number ∷ [] else []) o [])
        (map shown old) (map shown new)
    send_put link None found put = ap (map shown) put
    send_put link (Some l) found put =
        let up = way_up ups downs ways link (slice_get_within s.network.link link.0 l found) in
        let first = rw up.found at put in
        lost_put link l (is_cut s link Up now)
        (rw (ap WayNow.cut up.is) at first)

    event_put : (what : What) → ((device : DeviceId) → what ≡ events.On device → slice_get broken device.0 ≡ Some (is_broken s device now))
        → IsSomePut (record_of s.network broken ups number what) old new
        → ArePutIn s.network hs now (bodies_of s now number what) (map shown old) (map shown new)
    event_put (events.On device) found put = on_put device (found device refl) put
    event_put (events.Send link octets) found put = send_put link (link_at s.network link) refl put
    event_put other found put = ap (map shown) put

-- ---- all of them

-- an event of the instant, with its record
record IsOfRecord (s : Scenario) (hs : List Happening) (broken : List Bool) (now : ℕ) (b : Befallen) : Type 0 where
  line : ℕ
  h : Happening
  of_time : IsOfThisTime hs now b.number h
  body : h.note.body ≡ kinds.Event line b.what
  turned : (device : DeviceId) → b.what ≡ events.On device → slice_get broken device.0 ≡ Some (is_broken s device now)

module _ {s : Scenario} (hs : List Happening) {now : ℕ} (broken : List Bool) (ups downs : List WayState)
    (ways : AreWays s now (map way_as ups) (map way_as downs)) where
  all_wires : (befell : List Befallen) (old new : List Settled) (before after : List (Entry Content)) → ((b : Befallen) → IsIn b befell
      → IsOfRecord s hs broken now b) → AreSettledBy s.network broken ups now befell old new before after
      → ArePutBy s hs (map befell_as befell) (filter_map (on_wire s.network) before) (filter_map (on_wire s.network) after)
  all_wires [] old new before after of so = ap (filter_map (on_wire s.network)) so.1
  all_wires (b ∷ befell) old new before after of (mid, between, one, put, rest) =
      let it = of b (inl refl) in (
        filter_map (on_wire s.network) between,
        it.h,
        it.of_time.there,
        put_event s hs now b.number it.line b.what it.h _ _ it.of_time it.body
            (with_it s _ _ before between (event_on s now b.number ups downs ways b.what) put),
        all_wires befell mid new between after (λ c i. of c (inr i)) rest,
      )

  all_records : (befell : List Befallen) (old new : List Settled) (before after : List (Entry Content)) → ((b : Befallen) → IsIn b befell
      → IsOfRecord s hs broken now b) → InOrder (map (shown s hs now) old) → AreSettledBy s.network broken ups now befell old new before after
      → ArePutIn s.network hs now (befell_bodies s now (map befell_as befell)) (map (shown s hs now) old) (map (shown s hs now) new)
  all_records [] old new before after of order so = ap (map (shown s hs now)) so.0
  all_records (b ∷ befell) old new before after of order (mid, between, one, put, rest) =
      let here = event_put s hs now broken ups downs ways b.number old mid order b.what (of b (inl refl)).turned one in
      put_in_more s.network hs now (bodies_of s now b.number b.what) (befell_bodies s now (map befell_as befell)) _ _ _ here
      (all_records befell mid new between after (λ c i. of c (inr i)) (order_some s hs now _ old mid one order) rest)

-- ---- the world stands

module _ {C M : Type 0} {reading : C → ℕ → ℕ} {stands : Meaning (Kept M)} {s : Scenario} (state : State C M) {notes : List Note}
    (old : Stands reading stands s (world_of s.network state) notes) (pending : state.pending ≡ true) where
  of_record : (b : Befallen) → IsIn b state.befell.items → IsOfRecord s (happenings s.network notes) state.broken.items state.time b
  of_record b i =
      let there = is_mapped befell_as state.befell.items b i in
      let it = old.untold.real (befell_as b) there in
      record {
        line = it.0;
        h = it.1;
        of_time = it.2;
        body = it.3;
        turned = λ device on. old.broken device (on_within reading stands s (world_of s.network state) notes old (befell_as b) device there on);
      }

  -- nothing is settled
  pub none_settled : state.settled.items ≡ []
  none_settled =
      none_mapped (settled_at s.network state.time) state.settled.items
      (no_coming (happenings s.network notes) (map (settled_at s.network state.time) state.settled.items) s old.frontier
      state.time old.are
      (old.untold.early pending))

  -- the numbers of the events are those of records given
  pub number_given : (b : Befallen) → IsIn b state.befell.items → b.number < state.given + 1
  number_given b i =
      let it = of_record b i in
      let within = numbered_within (happenings s.network notes) b.number it.h it.of_time.there in
      let long = length_is s notes in
      let given = old.given in
      omega arith

  -- and nothing under way is on a wire by them
  pub fresh_of : AreUnderWay s.network state.under_way.entries → (b : Befallen) → IsIn b state.befell.items → IsFreshOf state.under_way.entries b.number
  fresh_of are b i d there rank cause = by d.content refl (sym (are.kinds d there) ∙ rank)
    where
      by : (content : Content) → d.content ≡ content → rank_of d.content ≡ 2 → ⊥
      by (Port frame reading) is kind = absurd (let bad = sym (ap rank_of is) ∙ kind in omega arith)
      by (Wire signal) is kind =
          let it = of_record b i in
          let w : OnWire = record {
            at = d.place.at;
            device = record { 0 = d.place.device };
            link = record { 0 = d.place.link };
            cause = d.place.cause;
            signal = signal_as s.network signal;
          } in
          let on = is_given (on_wire s.network) state.under_way.entries d w there (ap (wire_at s.network d.place) is) in
          let real = old.wires.real w on in
          let same = same_Some _ _ (sym real.0.there ∙ ap (numbered (happenings s.network notes)) cause ∙
          it.of_time.there) in
          real.1 pending (ap time_of same ∙ it.of_time.same_time)

  -- the outcomes are settled
  pub befallen_stands : (settled : List Settled) (entries : List (Entry Content)) → length notes + length state.befell.items < numbers_end
      → AreSettledBy s.network state.broken.items state.ups.items state.time state.befell.items state.settled.items settled state.under_way.entries entries
      → StandsAt reading stands s
      (record (world_of s.network state) {
        wires = filter_map (on_wire s.network) entries;
        ports = filter_map at_port entries;
        early = false;
        pending = false;
        befell = [];
        settled = map (settled_at s.network state.time) settled;
      }) notes (behind (state.time ∷ 2 ∷ []))
  befallen_stands settled entries few so =
      let hs = happenings s.network notes in
      let world = world_of s.network state in
      let long = length-map state.befell.items befell_as in
      let from_none = rw none_settled at so in
      let step = befell_step reading stands s world notes (filter_map (on_wire s.network) entries) (map (settled_at s.network state.time) settled) old pending
      (omega arith)
      (all_wires hs state.broken.items state.ups.items state.downs.items old.ways state.befell.items state.settled.items settled
      state.under_way.entries entries of_record so)
      (all_records hs state.broken.items state.ups.items state.downs.items old.ways state.befell.items [] settled
      state.under_way.entries entries of_record tt from_none) in
      let after : World C (Kept M) = record world {
        wires = filter_map (on_wire s.network) entries;
        early = false;
        pending = false;
        befell = [];
        settled = map (settled_at s.network state.time) settled;
      } in
      ports_at reading stands s after notes (filter_map at_port entries)
      (ports_settled s.network old.range state.broken.items state.ups.items state.time 0 state.befell.items state.settled.items settled
      state.under_way.entries entries so) step

-- ---- the same where the network is that of the scenario

module _ {C M : Type 0} {reading : C → ℕ → ℕ} {stands : Meaning (Kept M)} {s : Scenario} {network : Network} (state : State C M)
    {notes : List Note} (old : Stands reading stands s (world_of network state) notes) (pending : state.pending ≡ true) where
  abbrev Standing : Network → Type 0
  Standing n = Stands reading stands s (world_of n state) notes

  -- it is settled in order, and what befell is forgotten
  pub befallen_behind : {befell : List Befallen} (settled : List Settled) (entries : List (Entry Content)) → befell ≡ []
      → length notes + length state.befell.items < numbers_end
      → AreSettledBy network state.broken.items state.ups.items state.time state.befell.items state.settled.items settled state.under_way.entries entries
      → StandsAt reading stands s
      (record (world_of network state) {
        wires = filter_map (on_wire network) entries;
        ports = filter_map at_port entries;
        early = false;
        pending = false;
        befell = map befell_as befell;
        settled = map (settled_at network state.time) settled;
      }) notes (behind (state.time ∷ 2 ∷ []))
  befallen_behind {befell} settled entries none few so =
      subst (λ l. StandsAt reading stands s
      (record (world_of network state) {
        wires = filter_map (on_wire network) entries;
        ports = filter_map at_port entries;
        early = false;
        pending = false;
        befell = map befell_as l;
        settled = map (settled_at network state.time) settled;
      }) notes (behind (state.time ∷ 2 ∷ []))) (sym none)
      (subst (λ n. Standing n
      → AreSettledBy n state.broken.items state.ups.items state.time state.befell.items state.settled.items settled state.under_way.entries entries
      → StandsAt reading stands s
      (record (world_of n state) {
        wires = filter_map (on_wire n) entries;
        ports = filter_map at_port entries;
        early = false;
        pending = false;
        befell = [];
        settled = map (settled_at n state.time) settled;
      }) notes (behind (state.time ∷ 2 ∷ []))) (sym old.same)
      (λ was by. befallen_stands state was pending settled entries few by) old so)

  pub numbers_given : (b : Befallen) → IsIn b state.befell.items → b.number < state.given + 1
  numbers_given = number_given state (subst Standing old.same old) pending

  pub all_fresh : AreUnderWay network state.under_way.entries → (b : Befallen) → IsIn b state.befell.items → IsFreshOf state.under_way.entries b.number
  all_fresh are = fresh_of state (subst Standing old.same old) pending
      (rw old.same at are)

-- ---- the records need no octets

turned_octets : (number : ℕ) (device : DeviceId) (o : Option Bool) {z : Settled} → option_and_then (turned_on number device) o ≡ Some z → have_octets z
turned_octets number device None e = absurd cc
turned_octets number device (Some true) e = absurd cc
turned_octets number device (Some false) e = subst have_octets (same_Some _ _ e) tt

module _ (number : ℕ) (link : LinkId) where
  cut_octets : (l : Link) (cut : Bool) {z : Settled} →
      (if cut then Some (bare (kinds.Lost l.child link number)) else None) ≡ Some z → have_octets z
  cut_octets l true e = subst have_octets (same_Some _ _ e) tt
  cut_octets l false e = absurd cc

  way_octets : (l : Link) (o : Option WayState) {z : Settled} → option_and_then (lost_on number link l) o ≡ Some z
      → have_octets z
  way_octets l None e = absurd cc
  way_octets l (Some w) {z} e = cut_octets l w.cut e

  link_octets : (ups : List WayState) (o : Option Link) {z : Settled}
      → option_and_then (λ l. option_and_then (lost_on number link l) (slice_get ups link.0)) o ≡ Some z
      → have_octets z
  link_octets ups None e = absurd cc
  link_octets ups (Some l) {z} e = way_octets l (slice_get ups link.0) e

record_octets : (network : Network) (broken : List Bool) (ups : List WayState) (number : ℕ) (what : What) (z : Settled)
    → record_of network broken ups number what ≡ Some z → have_octets z
record_octets network broken ups number (events.On device) z e = turned_octets number device (slice_get broken device.0) e
record_octets network broken ups number (events.Send link octets) z e = link_octets number link ups (link_at network link) e
record_octets network broken ups number other z e = absurd cc

module _ (network : Network) (broken : List Bool) (ups : List WayState) where
  pub octets_settled : (time : ℕ) (befell : List Befallen) (old new : List Settled)
      (before after : List (Entry Content)) → AreSettledBy network broken ups time befell old new before after
      → All have_octets old → All have_octets new
  octets_settled time [] old new before after so all = subst (All have_octets) (sym so.0) all
  octets_settled time (b ∷ befell) old new before after (mid, between, one, put, rest) all =
      octets_settled time befell mid new between after rest
      (all_put_some have_octets _ old mid one (record_octets network broken ups b.number b.what) all)
