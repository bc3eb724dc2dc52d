-- A record is given: what it launches, and the state is sound again.
use Rattle.std.{proofs.{Common.slice_get, lemmas.List.Elements.All-weaker}}
use Rattle.std.{specs.{List.filter_map, Option.option_map, Prelude.All}}
use Rattle.drift_world.{specs.declared.state.State.State}
use Rattle.drift_world.proofs.{Signals.{apart_more, below_one_more}, Storings.taken_by}
use Rattle.world_law.proofs.steps_lemmas.hearing.Receptions.{receiver_in}
use Rattle.world_state.proofs.Queues.{given_then, ports_kept, put_from, sound_with, wires_kept}
use Rattle.drift_world.proofs.{Turned.{given_out, link_within, puts}}
use Rattle.drift_world.proofs.Words
use Words.{◌+◌, ◌<◌, ◌↔◌, ◌∙◌, ◌∷◌, ◌≡◌, ◌⊎◌, AreApart, AreUnderWay, Arrived, Bool, ChangesOnly, Content, DeviceId}
use Words.{DueAt, Giving, Happening, Holding, IfSome, IsGivenOut, IsIn, IsInRange, IsOf, IsOwn, IsPermutation}
use Words.{IsPermutation-sym, IsPutOn, IsStoredBy, Kept, Left, LinkId, List, Network, None, Note, NoteBody, Option, Pcf}
use Words.{Scenario, Settled, Some, Timed, TtSent, Waits, WayState, World, ap, arith, at_port, changed_device, delay_by}
use Words.{happening, happenings, in_permuted, inl, inr, length, link_at, map, not, numbers_of, on_wire, rank_of}
use Words.{receiver_of, refl, settled_at, stored_as, subst, sym, waiting_as, way_from, wire_entry, world_of, ℕ}
use Rattle.world_law.{specs.steps.Turns.{IsLaunched, IsNext, next_note}}
use Rattle.world_state.specs.{Frames.IsOneMore}
use Rattle.world_state.specs.{Giving.{MayBeGiven, awaited_by, control_on_wire, place_on_wire, timed_on_wire}}
use Rattle.world_state.specs.{declared.queue.Entry.Entry}

-- ---- once a record is given the state is sound again: what is put to ports

-- what is there now was there before, or is at a port by the record of this number
pub from_ports : {C M : Type 0} {reading : C → ℕ → ℕ} {network : Network} {old new : State C M} {body : NoteBody}
    {frame : Option Pcf} {number : ℕ} (giving : Option Giving)
    → IsGivenOut reading network old new body frame number giving → (e : Entry Content)
    → IsIn e new.under_way.entries → IsIn e old.under_way.entries ⊎ ((e.place.cause ≡ number) × (e.place.rank ≡ 8))
from_ports None out e there = inl (rw out.none at there)
from_ports (Some g) out e there =
    elim (out.put.real e there) [
      | inl before ↦ inl before
      | inr to ↦ inr (rw to.3 out.giver.numbered, rw to.3)
    ]

-- ---- what is put on a wire

-- it is put on a wire of the network by the record of this number
pub record IsOnWire (network : Network) (number : ℕ) (e : Entry Content) : Type 0 where
  pub two : e.place.rank ≡ 2
  pub kind : rank_of e.content ≡ 2
  pub device : e.place.device < length network.device
  pub link : e.place.link < length network.link
  pub cause : e.place.cause ≡ number

module _ {network : Network} (ups downs : List WayState) (range : IsInRange network) (number : ℕ) where
  placed : (f : DueAt → Entry Content) → ((p : DueAt) → (f p).place ≡ p) → ((p : DueAt) → rank_of (f p).content ≡ 2)
      → (device : DeviceId) (link : LinkId) (time on_port : ℕ)
      → IfSome (option_map f (place_on_wire network ups downs device link time on_port number)) (IsOnWire network number)
  placed f same kind device link time on_port = by_receiver (receiver_of network link (way_from network device link)) refl
    where
      by_receiver : (o : Option DeviceId) → receiver_of network link (way_from network device link) ≡ o
          → IfSome (option_map f (option_map (λ receiver. let p : DueAt = record {
            at = time + on_port + delay_by network ups downs device link;
            rank = 2;
            device = receiver.0;
            link = link.0;
            cause = number;
          } in p) o)) (IsOnWire network number)
      by_receiver None is = tt
      by_receiver (Some receiver) is =
          let p : DueAt = record {
            at = time + on_port + delay_by network ups downs device link;
            rank = 2;
            device = receiver.0;
            link = link.0;
            cause = number;
          } in
          record {
            two = ap DueAt.rank (same p);
            kind = kind p;
            device = rw (same p) (receiver_in network (way_from network device link) link (link_at network link)
                receiver refl range is);
            link = rw (same p) (link_within network.link link.0 (way_from network device link) (link_at network link)
                refl is);
            cause = ap DueAt.cause (same p);
          }

  pub wire_is : (body : NoteBody) (frame : Option Pcf) (octets : Option Timed) (time : ℕ)
      → IfSome (wire_entry network ups downs body frame octets time number) (IsOnWire network number)
  wire_is (Left d l c k) None octets time = tt
  wire_is (Left d l c k) (Some frame) octets time = placed (control_on_wire frame) (λ p. refl) (λ p. refl) d l time 0
  wire_is (TtSent d l c v k) frame None time = tt
  wire_is (TtSent d l c v k) frame (Some o) time = placed (timed_on_wire o) (λ p. refl) (λ p. refl) d l time _
  wire_is other frame octets time = tt

rank_in : List ℕ → ℕ
rank_in (at ∷ rank ∷ rest) = rank
rank_in other = 0

cause_in : List ℕ → ℕ
cause_in (at ∷ rank ∷ device ∷ link ∷ cause ∷ rest) = cause
cause_in other = 0

same_rank : (p q : DueAt) → numbers_of p ≡ numbers_of q → p.rank ≡ q.rank
unfolding rank_in
same_rank p q e = ap rank_in e

same_cause : (p q : DueAt) → numbers_of p ≡ numbers_of q → p.cause ≡ q.cause
unfolding cause_in
same_cause p q e = ap cause_in e

module _ (network : Network) (number : ℕ) (old new : List (Entry Content)) where
  -- it is sound with what is put on a wire, where all else is by records before, or at ports
  pub wire_sound : (o : Option (Entry Content)) → IfSome o (IsOnWire network number) → IsPutOn o old new
      → ((d : Entry Content) → IsIn d old → (d.place.cause < number) ⊎ (d.place.rank ≡ 8)) → AreUnderWay network old
      → AreUnderWay network new
  wire_sound None is put apart was = subst (AreUnderWay network) (sym put) was
  wire_sound (Some e) is put apart was =
      sound_with network old new e was put (is.two ∙ sym is.kind) is.device is.link
      (λ d there same.
      let rank = same_rank d.place e.place same in
      let cause = same_cause d.place e.place same in
      let two = is.two in
      let own = is.cause in
      elim (apart d there) [
        | inl low ↦ omega arith
        | inr port ↦ omega arith
      ])

  -- what is there now was there before, or is by the record of this number
  pub from_wire : (o : Option (Entry Content)) → IfSome o (IsOnWire network number) → IsPutOn o old new
      → (e : Entry Content) → IsIn e new → IsIn e old ⊎ (e.place.cause ≡ number)
  from_wire None is put e there = inl (rw put at there)
  from_wire (Some d) is put e there =
      elim (in_permuted new (d ∷ old) e (IsPermutation-sym _ _ put) there) [
        | inl own ↦ inr (rw own is.cause)
        | inr rest ↦ inl rest
      ]

-- ---- what waits

-- nothing more waits, or one more, at the device of the record, by its number
pub record HasOneMore (body : NoteBody) (number : ℕ) (old new : List Waits) : Type 0 where
  pub one : Waits
  pub cause : one.cause ≡ number
  pub device : one.device.0 ≡ changed_device body
  pub is : IsPermutation (one ∷ old) new

awaited_so : (network : Network) (broken : Bool) (body : NoteBody) (frame : Option Pcf) (reading number : ℕ)
    → IfSome (awaited_by network broken body frame reading number) (λ w. (w.cause ≡ number) × (w.device.0 ≡ changed_device body))
awaited_so network broken (Arrived d l c k) frame reading number = grind (arith, not)
awaited_so network broken other frame reading number = tt

one_more : (body : NoteBody) (number : ℕ) (old new : List Waits) (o : Option Waits)
    → IfSome o (λ w. (w.cause ≡ number) × (w.device.0 ≡ changed_device body)) → IsOneMore o old new → (new ≡ old) ⊎ HasOneMore body number old new
one_more body number old new None so is = inl is
one_more body number old new (Some w) so is = inr (record { one = w; cause = so.0; device = so.1; is = is })

pub waits_more : {C M : Type 0} {reading : C → ℕ → ℕ} {network : Network} {old new : State C M} {body : NoteBody}
    {frame : Option Pcf} {number : ℕ} (giving : Option Giving)
    → IsGivenOut reading network old new body frame number giving
    → (new.waiting.items ≡ old.waiting.items) ⊎ HasOneMore body number old.waiting.items new.waiting.items
waits_more None out = inl out.no_wait
waits_more (Some g) out = grind (arith, one_more, awaited_so)

waits_at : (number : ℕ) {xs ys : List Waits} → ys ≡ xs → All (λ w. w.cause < number) xs → All (λ w. w.cause < number + 1) ys
waits_at number {xs} is all = rw is (All-weaker (λ w. w.cause < number) (λ w. w.cause < number + 1)
    (λ w lt. omega arith) xs all)

module _ (body : NoteBody) (number : ℕ) (old new : List Waits) where
  pub waits_below : (new ≡ old) ⊎ HasOneMore body number old new → All (λ w. w.cause < number) old
      → All (λ w. w.cause < number + 1) new
  waits_below (inl same) all = waits_at number same all
  waits_below (inr more) all = below_one_more more.one old new more.is more.cause all

  pub waits_apart : (new ≡ old) ⊎ HasOneMore body number old new → All (λ w. w.cause < number) old → AreApart old
      → AreApart new
  waits_apart (inl same) all apart = subst AreApart (sym same) apart
  waits_apart (inr more) all apart = apart_more more.one old new more.is more.cause all apart

  -- of other devices the same frames wait
  pub waits_elsewhere : (new ≡ old) ⊎ HasOneMore body number old new → (w : Waits)
      → (w.device.0 ≡ changed_device body → ⊥) → IsIn w new ↔ IsIn w old
  waits_elsewhere (inl same) w apart =
      (λ i. rw same at i, λ i. rw same i)
  waits_elsewhere (inr more) w apart = (
    λ i.
        elim (in_permuted new (more.one ∷ old) w (IsPermutation-sym _ _ more.is) i) [
          | inl e ↦ absurd (apart (rw e more.device))
          | inr was ↦ was
        ],
    λ i. in_permuted (more.one ∷ old) new w more.is (inr i),
  )

-- ---- another state with the same

-- the world in which this record is before all that is settled
abbrev pub with_first : {C M : Type 0} → Network → State C M → Settled → World C (Kept M)
with_first network state first = record (world_of network state) {
  settled = settled_at network state.time first ∷ map (settled_at network state.time) state.settled.items;
}

-- the world of a state whose first settled record is taken out
pub popped_world : {C M : Type 0} (network : Network) (old new : State C M) {first : Settled}
    → new.under_way.entries ≡ old.under_way.entries → new.waiting.items ≡ old.waiting.items → new.stored.items ≡ old.stored.items
    → old.settled.items ≡ first ∷ new.settled.items
    → new ≡ record old { under_way = new.under_way; waiting = new.waiting; stored = new.stored; settled = new.settled }
    → with_first network new first ≡ world_of network old
popped_world {C} {M} network old new entries waiting stored settled same =
    grind (arith, world_of, on_wire, at_port, map, waiting_as, stored_as, settled_at, with_first)

-- what the timers are for changes as it did since then
pub changes_since : {C M : Type 0} {device : ℕ} (old : State C M) {mid new : State C M} → mid.clocks ≡ old.clocks
    → mid.time ≡ old.time → mid.ended ≡ old.ended → mid.machines ≡ old.machines
    → mid.waiting.items ≡ old.waiting.items → ChangesOnly device mid new → ChangesOnly device old new
changes_since old clocks time ended machines waiting c = record {
  clocks = c.clocks ∙ clocks;
  time = c.time ∙ time;
  ended = c.ended ∙ ended;
  machines = λ i apart. c.machines i apart ∙ ap (λ v. slice_get v.items i) machines;
  waiting = λ w apart. (
    λ i. rw waiting at ((c.waiting w apart).0 i),
    λ i. (c.waiting w apart).1 (rw waiting i),
  );
}

-- it is as it was, elsewhere in memory
pub unchanged : {C M : Type 0} (device : ℕ) (old new : State C M) → new.clocks ≡ old.clocks → new.time ≡ old.time → new.ended ≡ old.ended
    → new.machines ≡ old.machines → new.waiting.items ≡ old.waiting.items → ChangesOnly device old new
unchanged device old new clocks time ended machines waiting = grind (arith, slice_get)

-- ---- what a record that is given launches

no_port_at : (f : DueAt → Entry Content) → ((p : DueAt) → at_port (f p) ≡ None) → (o : Option DueAt) → IfSome (option_map f o) (λ one. at_port one ≡ None)
no_port_at f none None = tt
no_port_at f none (Some p) = none p

no_port : (network : Network) (ups downs : List WayState) (body : NoteBody) (frame : Option Pcf) (octets : Option Timed) (time number : ℕ)
    → IfSome (wire_entry network ups downs body frame octets time number) (λ one. at_port one ≡ None)
no_port network ups downs (Left d l c k) None octets time number = tt
no_port network ups downs (Left d l c k) (Some frame) octets time number = no_port_at (control_on_wire frame) (λ p. refl) _
no_port network ups downs (TtSent d l c v k) frame None time number = tt
no_port network ups downs (TtSent d l c v k) frame (Some o) time number = no_port_at (timed_on_wire o) (λ p. refl) _
no_port network ups downs other frame octets time number = tt

-- what it launches is under way, or waits, and what a switch took by it is held
abbrev pub LaunchesOn : {C : Type 0} → Type 0 → (C → ℕ → ℕ) → Scenario → Network → Type 0
LaunchesOn {C} M reading s network =
    (state after : State C M) (notes : List Note) (first : Settled) (giving : Option Giving)
    (entries : List (Entry Content)) (held : List Holding)
    → IsNext reading s notes (world_of network state) first.body
    → IsOwn s.network network state.time (happenings s.network notes) (Some first)
    → MayBeGiven network first.body first.frame first.octets
    → IsGivenOut reading network state after first.body first.frame (length notes + 1) giving
    → IsPutOn
    (wire_entry network state.ups.items state.downs.items first.body first.frame first.octets state.time (length notes + 1))
    after.under_way.entries entries
    → IsStoredBy first.body first.octets (length notes + 1) state.stored.items held
    → IsLaunched s notes first.body (world_of network state)
    (record (world_of network state) {
      wires = filter_map (on_wire network) entries;
      ports = filter_map at_port entries;
      waiting = map waiting_as after.waiting.items;
      stored = map (stored_as network) held;
    })

module _ {C : Type 0} (M : Type 0) (reading : C → ℕ → ℕ) (s : Scenario) where
  launched_so : LaunchesOn M reading s s.network
  launched_so state after notes first giving entries held next own may out sent stored =
      let number = length notes + 1 in
      let x =
      happening s.network (happenings s.network notes) (next_note notes state.time first.body) in
      let frame = sym (ap Happening.frame own) in
      let octets = sym (ap Happening.octets own) in
      let of : IsOf reading s s.network state =
      record { same = refl; clocks = next.clocks; broken = next.broken; ways = next.ways } in
      let given_out_so = rw (sym frame) at out in
      let both = given_out x giving of next.range refl (λ d by no. may.framed d by (sym frame ∙ no)) may.arrived
      given_out_so in
      let put = puts state.ups.items state.downs.items next.ways x number refl after.under_way.entries
      entries first.body first.octets
      refl
      may.with_octets frame octets sent in
      record {
        wires = put_from s x number _ _ _ (wires_kept (length s.network.link) s.network s.network state.ups.items
            state.downs.items first.body giving
            state.under_way.entries after.under_way.entries out.put out.none) put;
        ports = given_then s x number _ _ _ (ports_kept (wire_entry s.network state.ups.items state.downs.items first.body
            first.frame first.octets state.time number)
            after.under_way.entries entries
            (no_port s.network state.ups.items state.downs.items first.body first.frame first.octets state.time number)
            sent) both.0;
        waiting = both.1;
        stored = taken_by s.network x number state.stored.items held first.body first.octets refl may.with_octets
            octets stored;
      }

  -- and so it is on the scenario's network, by whatever name
  pub launched_on : {network : Network} → s.network ≡ network → LaunchesOn M reading s network
  launched_on same = subst (LaunchesOn M reading s) same launched_so
