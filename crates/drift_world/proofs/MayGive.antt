-- A record that is the next may be given.
use Rattle.{world_law.specs.steps.Turns.IsNext, world_state.specs.Giving.{CameBy, HasItsFrame, IsYoung, MayBeGiven}}
use Rattle.drift_world.{proofs.Words.{IsOwn, units_of, world_of}, specs.{Giving.{AreLow, IsToGive}, declared.state.State.State}}
use Rattle.drift_world.proofs.Turned.{link_within}
use Rattle.run_law.proofs.law.FirstDeliveries.{founded_at}
use Rattle.drift_world.proofs.Words.{slice_get_within, sym, time_of, with_clock, ℕ}
use Rattle.world_law.proofs.{frames.Proper.{arrived_so, launched_frame}, steps_lemmas.hearing.Receptions.receiver_in}
use Rattle.drift_world.proofs.Words.{◌<◌, ◌∙◌, ◌≡◌, Arrived, ArrivedAt, Arrives, Compressed, DeviceId}
use Rattle.drift_world.proofs.Words.{Happening, HasItsOctets, IsCaused, IsDue, IsFounded, IsInRange, LinkId, List}
use Rattle.drift_world.proofs.Words.{Network, Note, NoteBody, Option, Pcf, Scenario, Settled, Some, Units, amount}
use Rattle.drift_world.proofs.Words.{ap, arith, frame_by, happenings, length, link_at, numbered_in, place_of, refl}
use Rattle.drift_world.proofs.Words.{same_Some}
use Rattle.{run_law.{proofs.control.Arrived.arrived_young, specs.runs.DueRecords.IsArrivedRecord}, std.specs.Prelude.{option_and_then, option_map}}
use Rattle.run_law.specs.declared.note.NoteBody.TheVariants.{Sent}

-- it may be given but for its octets
record MayBut (network : Network) (body : NoteBody) (frame : Option Pcf) : Type 0 where
  by : CameBy (length network.link) body
  young : IsYoung (amount network.dmax) body
  arrived : ArrivedAt (length network.device) body
  framed : HasItsFrame body frame

-- ---- what arrived

arrives_in : {s : Scenario} {h : Happening} {device : DeviceId} {link : LinkId} {t : ℕ} {signal : _}
    → IsInRange s.network → Arrives s h device link t signal
    → (link.0 < length s.network.link) × (device.0 < length s.network.device)
arrives_in {s} {device} {link} range a = (
  link_within s.network.link link.0 a.way (link_at s.network link) refl a.receiver,
  receiver_in s.network a.way link (link_at s.network link) device refl range a.receiver,
)

module _ (s : Scenario) (hs : List Happening) (time : Units) where
  arrived_may : {device : DeviceId} {link : LinkId} {cause clock : ℕ} {frame : Option Pcf} → IsInRange s.network
      → IsFounded place_of (IsDue s) hs → IsArrivedRecord s hs device (amount time) link cause clock
      → frame ≡ frame_by s.network hs (Arrived device link cause clock)
      → MayBut s.network (Arrived device link cause clock) frame
  arrived_may {device} {link} {cause} {clock} {frame} range founded a own =
      let so = arrived_so s hs device (amount time) link cause clock a in
      let there = arrives_in range so.arrives in
      let put = founded_at s hs so.putting founded (numbered_in hs cause so.putting so.there) in
      let put_frame =
      launched_frame s put.front so.putting (time_of so.putting) link so.arrives.way so.came so.putting.note.body
      (ap Happening.frame put.due.same)
      so.arrives.put in
      let has = own
      ∙ ap (λ o. option_map (with_clock clock) (option_and_then (λ h. h.frame) o)) so.there
      ∙ ap (option_map (with_clock clock)) put_frame in
      record {
        by = there.0;
        young = arrived_young a;
        arrived = there.1;
        framed = λ d is none. let bad = sym none ∙ has in absurd cc;
      }

  -- ---- by its cause

  caused_may : (body : NoteBody) {frame : Option Pcf} → IsInRange s.network → IsFounded place_of (IsDue s) hs
      → IsCaused s hs time body → frame ≡ frame_by s.network hs body → MayBut s.network body frame
  caused_may (Arrived d l c k) {frame} range founded caused own = arrived_may range founded caused own
  caused_may (Sent d k) range founded caused own =
      record { by = tt; young = tt; arrived = tt; framed = λ e is none. let bad = sym none ∙ own in absurd cc }
  caused_may (Compressed d o a k m v) range founded caused own =
      record { by = tt; young = tt; arrived = tt; framed = λ e is none. let bad = sym none ∙ own in absurd cc }
  caused_may other range founded caused own =
      record { by = tt; young = tt; arrived = tt; framed = λ e is none. absurd cc }

-- ---- a record that is the next

module _ {C M : Type 0} {reading : C → ℕ → ℕ} {network : Network} (state : State C M) (first : Settled) where
  -- it may be given, with its octets
  pub may_in : {s : Scenario} {notes : List Note} → IsNext reading s notes (world_of network state) first.body
      → IsOwn s.network network state.time (happenings s.network notes) (Some first)
      → HasItsOctets first.body first.octets → MayBeGiven network first.body first.frame first.octets
  may_in {s} {notes} next own has =
      let hs = happenings s.network notes in
      let may = rw (sym next.same) at (caused_may s hs (units_of state.time) first.body next.range next.founded
      next.due.cause
      (ap Happening.frame own)) in
      record { by = may.by; young = may.young; arrived = may.arrived; with_octets = has; framed = may.framed }

  pub may_give : IsToGive reading network state first → HasItsOctets first.body first.octets
      → MayBeGiven network first.body first.frame first.octets
  may_give to_give has = may_in to_give.next to_give.own has

  -- no clock is much ahead of the time
  pub low_with : IsToGive reading network state first → length state.clocks.items ≡ length network.device
      → AreLow reading state
  low_with to_give all = λ k clock at.
      let next = to_give.next in
      let within = slice_get_within state.clocks.items k clock at in
      let device : DeviceId = record { 0 = k } in
      let same : length network.device ≡ length to_give.s.network.device = ap (λ (n : Network). length n.device) next.same in
      let own = next.clocks device (omega arith) in
      let is = same_Some _ _ (sym at ∙ own.1) in
      let low = (next.steady device).low state.time next.limit in
      rw (own.2 state.time (omega arith) ∙ ap (λ (c : C). reading c state.time) (sym is)) at low
