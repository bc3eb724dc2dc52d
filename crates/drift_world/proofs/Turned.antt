-- A source is worked off: what its records launch, put on wires and change, and the state behind it.
use Rattle.std.{specs.{List.{filter_map, slice_get}, Option.option_map}}
use Rattle.std.proofs.{Common.{All, nat_eq}}
use Rattle.std.proofs.{lemmas.Map.Keys.{IsDistinct-IsPermutation, IsDistinct-head, IsDistinct-tail}}
use Rattle.drift_world.proofs.{ActSteps.{both_put, one_by}, Rising.settled_in_order}
use Rattle.drift_world.proofs.{Signals.{all_put, all_put_some, cause_of, have_octets}, Storings.{awaits, none_awaited}}
use Rattle.run_law.proofs.records.{Members.from_map, Order.all_of}
use Rattle.world_state.proofs.{Queues.{stayed, stays, was_there}, queue_lemmas.Slots.each_apart}
use Rattle.drift_world.proofs.{Turning.comes_first}
use Rattle.drift_world.proofs.Words
use Words.{if◌then◌else◌, ◌++◌, ◌+◌, ◌<◌, ◌^◌, ◌↔◌, ◌∙◌, ◌∷◌, ◌≡◌, ◌≤ℤ◌, ◌≤◌, Accepted, AreApart, AreBelow, ArePutIn}
use Words.{AreUnderWay, AreWays, Arrived, ArrivedAt, Arrives, AtPort, Bool, ChangesOnly, ComesFirst, Compressed}
use Words.{Content, DeviceId, Down, DueAt, Giving, Happening, HasItsOctets, IfNone, IfSome, InOrder, IsAt, IsGivenOut}
use Words.{IsIn, IsInRange, IsLinkInRange, IsOf, IsOwn, IsPermutation, IsPermutation-map, IsPermutation-sym, IsPutOn}
use Words.{IsSomeAnd, IsSomePut, Kept, Launch, Left, Link, LinkId, List, Meaning, Moment, Network, None, Note, NoteBody}
use Words.{Ok, OnWire, Option, Pcf, Scenario, Settled, Signal, Some, Stands, StandsAt, StandsFor, Timed, TtSent}
use Words.{TurnsIn, Units, Up, Waits, Way, WayNow, WayState, Wire, World, [], ap, append-nil, arith, at_port, behind}
use Words.{changed_device, control, delay_at, delay_by, departure_body, false, frame_from, get_or_from_slice_get}
use Words.{given_of, happenings, in_all, in_get, in_permuted, inl, inr, is_given, is_mapped, is_parent_of, is_set}
use Words.{keeps, launched, length, link_at, map, moment_of, octets_in, octets_of, on_wire, pos, rank, receiver_of}
use Words.{refl, ripe_place, same_Some, settled_as, settled_at, signal_as, slice_get-map, slice_get_within, slice_set}
use Words.{subst, sym, target_by, time_of, time_on_port, timed, true, units_of, waiting_as, way_as, way_from, way_now}
use Words.{wire_entry, world_of, ℕ}
use Rattle.drift_world.specs.{Giving.IsGiver, Ripening.IsJudged, Stepping.TurnsPast}
use Rattle.drift_world.specs.{Turns.{IsNow, MayWork, source_place}, declared.{source.Source.Source, state.State.State}}
use Rattle.run_law.specs.{control.Leaving.{Departure, Gives, leaves, on_cut_way, too_old}, machines.Calls.MayTake}
use Rattle.run_law.specs.{scenario.Ways.hold_at}
use Rattle.run_law.specs.declared.{judgement.Judgement.Judgement, note.NoteBody.TheVariants.{Event, Sent}}
use Rattle.run_law.specs.declared.{steps.{Arrival.Arrival, Ripe.Ripe}}
use Rattle.tte_units.proofs.general_lemmas.{Naturals.flips, Options.mapped}
use Rattle.world_law.proofs.{giving.GivenParts.some_same}
use Rattle.world_law.proofs.{steps_lemmas.{ripening.RipenedSteps.{may_ask, waits_within}, turns.Turns.ripened_turn}}
use Rattle.world_law.specs.{world.{Moves.{AreAwaited, AreGiven, ArePut, IsWithout}, World.{IsGivenBy, is_at_source}}}
use Rattle.world_law.specs.steps.{Ripening.{HasRipened, ripe_bodies}}
use Rattle.world_law.specs.steps.{Turns.{IsLaunched, IsNext, IsTurn, TurnsBy, starts_there}}
use Rattle.world_state.specs.{Acting.body_of, Frames.{Waiting, room_of, waiter_of}}
use Rattle.world_state.specs.{Giving.{ArePutTo, HasItsFrame, entry_at_port, giver_of, hold_by}, Hearing.arrived}
use Rattle.world_state.specs.{Leaving.{departed, departure_by}}
use Rattle.world_state.specs.{Ripening.{AreSettledSo, joined_record, judged_so, ripe_record}}
use Rattle.world_state.specs.{Shelves.{HasPlace, Shelved, spot_of}}
use Rattle.world_state.specs.{declared.{contents.Signal.Signal as SignalSent, queue.Entry.Entry}}
use Rattle.run_law.specs.declared.note.NoteBody.TheVariants as kinds
use Rattle.run_law.specs.declared.steps.Arrival.TheVariants as arrivals
use Rattle.run_law.specs.declared.steps.Ripe.TheVariants as ripe
use Rattle.world_state.specs.declared.contents.Signal.TheVariants as signals

-- ---- what a record launches, as its law asks for it

within_and : {X : Type 0} (P : X → Type 0) (xs : List X) (i : ℕ) (o : Option X) → slice_get xs i ≡ o → IsSomeAnd o P → i < length xs
within_and P xs i None e and = absurd and
within_and P xs i (Some x) e and = slice_get_within xs i x e

-- ---- the device that gives a frame, and the link

module _ (network : Network) where
  pub giver_gives : (body : NoteBody) (device : DeviceId) {giver : DeviceId} (link : LinkId) → Gives network body device link
      → giver_of body ≡ Some giver → device ≡ giver
  giver_gives (Sent master cycle) device link gives by = gives.0 ∙ same_Some _ _ by
  giver_gives (Compressed cm opened at cycle members verdict) device link gives by = gives.0 ∙ same_Some _ _ by
  giver_gives (Arrived relay from cause clock) device link gives by = gives.0 ∙ same_Some _ _ by
  giver_gives other device link gives by = absurd gives

  pub gives_within : (body : NoteBody) (device : DeviceId) (link : LinkId) → Gives network body device link
      → link.0 < length network.link
  gives_within (Sent master cycle) device link gives =
      within_and (λ l. l.child ≡ device) network.link link.0 _ refl gives.1
  gives_within (Compressed cm opened at cycle members verdict) device link gives =
      within_and (λ l. l.parent ≡ device) network.link link.0 _ refl gives.1
  gives_within (Arrived relay from cause clock) device link gives = grind (arith, within_and)
  gives_within other device link gives = absurd gives

  pub gives_by : (body : NoteBody) (device : DeviceId) (link : LinkId) → Gives network body device link
      → giver_of body ≡ Some device
  gives_by (Sent master cycle) device link gives = rw (sym gives.0)
  gives_by (Compressed cm opened at cycle members verdict) device link gives =
      rw (sym gives.0)
  gives_by (Arrived relay from cause clock) device link gives = rw (sym gives.0)
  gives_by other device link gives = absurd gives

module _ (network : Network) (device : DeviceId) (i : ℕ) where
  child_in : (o : Option Link) → slice_get network.link i ≡ o → IsInRange network
      → IsSomeAnd o (λ l. l.child ≡ device) → device.0 < length network.device
  child_in None e range and = absurd and
  child_in (Some l) e range and =
      rw and at (in_all (IsLinkInRange network) network.link i l range.links e).child

  parent_in : (o : Option Link) → slice_get network.link i ≡ o → IsInRange network
      → IsSomeAnd o (λ l. l.parent ≡ device) → device.0 < length network.device
  parent_in None e range and = absurd and
  parent_in (Some l) e range and =
      rw and at (in_all (IsLinkInRange network) network.link i l range.links e).parent

pub gives_in : (network : Network) (body : NoteBody) (device : DeviceId) (link : LinkId) → IsInRange network → Gives network body device link
    → device.0 < length network.device
gives_in network (Sent master cycle) device link range gives = child_in network device link.0 _ refl range gives.1
gives_in network (Compressed cm opened at cycle members verdict) device link range gives = parent_in network device link.0 _ refl range gives.1
gives_in network (Arrived relay from cause clock) device link range gives = grind (arith, child_in, parent_in)
gives_in network other device link range gives = absurd gives

-- ---- the ways

module _ {s : Scenario} {now : ℕ} (ups downs : List WayState) (ways : AreWays s now (map way_as ups) (map way_as downs)) where
  way_there : (down : Bool) (link : LinkId) → link.0 < length s.network.link
      → (w : WayState) × (slice_get (if down then downs else ups) link.0 ≡ Some w) × (way_as w ≡ way_now s now link (if down then Down else Up))
  way_there true link lt = mapped way_as (slice_get downs link.0) _ (sym (slice_get-map way_as downs link.0) ∙ ways.down link lt)
  way_there false link lt = mapped way_as (slice_get ups link.0) _ (sym (slice_get-map way_as ups link.0) ∙ ways.up link lt)

  pub hold_is : (device : DeviceId) (link : LinkId) → link.0 < length s.network.link
      → hold_by s.network ups downs device link ≡ hold_at s link (way_from s.network device link) now
  hold_is device link lt =
      let w = way_there (is_parent_of s.network device link) link lt in
      rw w.1 (ap WayNow.hold w.2)

  pub delay_is : (device : DeviceId) (link : LinkId) → link.0 < length s.network.link
      → delay_by s.network ups downs device link ≡ delay_at s link (way_from s.network device link) now
  delay_is device link lt =
      let w = way_there (is_parent_of s.network device link) link lt in
      rw w.1 (ap WayNow.delay w.2)

  -- ---- what is given to ports

  module _ (x : Happening) {number : ℕ} (giving : Giving) (at : time_of x ≡ now) (by : giver_of x.note.body ≡ Some giving.device)
      (time : giving.time ≡ now) (numbered : giving.number ≡ number) (frame : x.frame ≡ Some giving.frame)
      (read : giving.reading ≡ s.reading giving.device now) where
    abbrev port_of : LinkId → AtPort
    port_of link = record {
      at = giving.time + hold_by s.network ups downs giving.device link;
      device = giving.device;
      link = link;
      cause = giving.number;
      frame = giving.frame;
      reading = giving.reading;
    }

    held_so : (link : LinkId) → link.0 < length s.network.link → giving.time + hold_by s.network ups downs giving.device link
        ≡ time_of x + hold_at s link (way_from s.network giving.device link) (time_of x)
    held_so link lt =
        rw (time ∙ sym at)
        (ap (λ h. time_of x + h)
        (hold_is giving.device link lt ∙ ap (λ t. hold_at s link (way_from s.network giving.device link) t) (sym at)))

    given_so : (link : LinkId) → link.0 < length s.network.link → Gives s.network x.note.body giving.device link → IsGivenBy s x (port_of link)
    given_so link lt gives =
        record { gives = gives; held = held_so link lt; of_frame = frame; read = read ∙ ap (s.reading giving.device) (sym at) }

    pub given_to : {old new : List (Entry Content)} → ArePutTo (length s.network.link) s.network ups downs x.note.body giving old new
        → AreGiven s x number (filter_map at_port old) (filter_map at_port new)
    given_to {old} {new} put =
        record {
          real = λ e there.
              let of = given_of at_port new e there in
              elim (put.real of.0 of.1) [
                | inl before ↦ inl (is_given at_port old of.0 e before of.2)
                | inr to ↦
                    let is = same_Some _ _ (sym of.2 ∙ ap at_port to.3) in
                    inr (rw is (numbered, given_so to.0 to.1 to.2))
              ];
          kept = λ e there. let of = given_of at_port old e there in is_given at_port new of.0 e (put.kept of.0 of.1) of.2;
          all = λ device link gives.
              let lt = gives_within s.network x.note.body device link gives in
              let own = giver_gives s.network x.note.body device link gives by in
              let to = rw own at gives in (
                port_of link,
                is_given at_port new (entry_at_port s.network ups downs giving link) (port_of link) (put.all link lt to) refl,
                rw own (rw (held_so link lt)
                    (ap (λ k. (time_of x + hold_at s link (way_from s.network giving.device link)
                    (time_of x)) ∷ 8 ∷ giving.device.0 ∷ link.0 ∷ k ∷ [])
                    numbered)),
              );
        }

-- ---- what is under way is sound then

pub sound_after : {C M : Type 0} (reading : C → ℕ → ℕ) {network : Network} (state : State C M) (body : NoteBody)
    (frame : Option Pcf) (number : ℕ) {old : List (Entry Content)} (new : List (Entry Content))
    (giving : Option Giving) → IfSome giving (IsGiver reading network state body frame number)
    → IfSome giving (λ g. AreBelow g.number old → AreUnderWay network old → AreUnderWay network new)
    → IfNone giving (new ≡ old) → AreBelow number old → AreUnderWay network old → AreUnderWay network new
sound_after reading {network} state body frame number new None giver sound none below was =
    subst (AreUnderWay network) (sym none) was
sound_after reading state body frame number {old} new (Some g) giver sound none below was =
    sound (rw giver.numbered below) was

-- ---- what is given out, as the law asks for it

-- what the device gives to links is in its port, or waits
pub given_out : {C M : Type 0} {reading : C → ℕ → ℕ} {s : Scenario} {old new : State C M} (x : Happening)
    {number : ℕ} (giving : Option Giving) → IsOf reading s s.network old → IsInRange s.network → time_of x ≡ old.time
    → HasItsFrame x.note.body x.frame → ArrivedAt (length s.network.device) x.note.body
    → IsGivenOut reading s.network old new x.note.body x.frame number giving
    → AreGiven s x number (filter_map at_port old.under_way.entries) (filter_map at_port new.under_way.entries)
    × AreAwaited s x number (map waiting_as old.waiting.items) (map waiting_as new.waiting.items)
given_out {reading} {s} {old} {new} x {number} (Some g) of range at framed arrived out =
    let by = out.giver in
    let frame = by.of_frame in
    let clock = of.clocks g.device by.there in
    let read =
    by.reads ∙ ap (λ k. reading k old.time) (same_Some _ _ (sym by.own ∙ clock.1)) ∙ sym (clock.2 old.time (omega arith)) in
    let broken = same_Some _ _ (sym by.broken ∙ of.broken g.device by.there) in (
      given_to old.ups.items old.downs.items of.ways x g at by.by by.time by.numbered frame read out.put,
      awaits s x g at by.by by.numbered frame read broken old.waiting.items new.waiting.items out.waits,
    )
given_out {s} {old} x {number} None of range at framed arrived out =
    let none : (device : DeviceId) (link : LinkId) → Gives s.network x.note.body device link → ⊥ = λ device link gives.
    let by = gives_by s.network x.note.body device link gives in
    framed device by (out.no_giver device by (gives_in s.network x.note.body device link range gives)) in (
      rw out.none (record {
        real = λ e there. inl there;
        kept = λ e there. there;
        all =
            λ device link gives. absurd (none device link gives);
      }),
      rw out.no_wait (none_awaited s x number (map waiting_as old.waiting.items) (λ e for sound.
          let by : giver_of x.note.body ≡ Some e.device = ap giver_of for.arrived in
          framed e.device by (out.no_giver e.device by
          (subst (ArrivedAt (length s.network.device)) for.arrived arrived)))),
    )

-- ---- what a record puts on a wire, as its law asks for it

pub link_within : (xs : List Link) (i : ℕ) (way : Way) (o : Option Link) {device : DeviceId} → slice_get xs i ≡ o → option_map (target_by way) o ≡ Some device
    → i < length xs
link_within xs i way None e is = absurd cc
link_within xs i way (Some l) e is = slice_get_within xs i l e

module _ {s : Scenario} {now : ℕ} (ups downs : List WayState) (ways : AreWays s now (map way_as ups) (map way_as downs)) (x : Happening) (number : ℕ)
    (at : time_of x ≡ now) (old new : List (Entry Content)) where
  -- it puts nothing there
  none_put : ((device : DeviceId) (link : LinkId) (t : ℕ) (signal : Signal) → Arrives s x device link t signal → ⊥) → new ≡ old
      → ArePut s x number (filter_map (on_wire s.network) old) (filter_map (on_wire s.network) new)
  none_put none same =
      rw same (record {
        real = λ e there. inl there;
        kept = λ e there. there;
        all =
            λ device link t signal a. absurd (none device link t signal a);
      })

  none_launched : launched s x (time_of x) x.note.body ≡ None → (device : DeviceId) (link : LinkId) (t : ℕ) (signal : Signal)
      → Arrives s x device link t signal → ⊥
  none_launched none device link t signal a =
      let l : Launch = record { link = link; way = a.way; signal = signal } in let no = sym none ∙ a.put in absurd cc

  module _ (device : DeviceId) (link : LinkId) (signal : Signal) (sent : SignalSent)
      (put : launched s x (time_of x) x.note.body ≡ Some (record { link = link; way = way_from s.network device link; signal = signal }))
      (as_signal : signal_as s.network sent ≡ signal) where
    abbrev placed : DeviceId → DueAt
    placed receiver = record {
      at = now + time_on_port s.network link signal + delay_by s.network ups downs device link;
      rank = 2;
      device = receiver.0;
      link = link.0;
      cause = number;
    }

    abbrev wired : DeviceId → OnWire
    wired receiver = record {
      at = now + time_on_port s.network link signal + delay_by s.network ups downs device link;
      device = receiver;
      link = link;
      cause = number;
      signal = signal_as s.network sent;
    }

    -- what arrives is this
    record IsThis (d : DeviceId) (l : LinkId) (t : ℕ) (g : Signal) : Type 0 where
      same_link : l ≡ link
      same_signal : g ≡ signal
      receives : receiver_of s.network link (way_from s.network device link) ≡ Some d
      arrives : t ≡ time_of x + time_on_port s.network link signal + delay_at s link (way_from s.network device link) (time_of x)

    this : {d : DeviceId} {l : LinkId} {t : ℕ} {g : Signal} → Arrives s x d l t g → IsThis d l t g
    this {l} {g} a =
        let same =
        same_Some _ _ (sym a.put ∙ put) in
        let links : l ≡ link = ap Launch.link same in
        let on : a.way ≡ way_from s.network device link = ap Launch.way same in
        let sig : g ≡ signal = ap Launch.signal same in
        record {
          same_link = links;
          same_signal = sig;
          receives = ap (λ k. receiver_of s.network k (way_from s.network device link)) (sym links)
              ∙ ap (λ w. receiver_of s.network l w) (sym on) ∙ a.receiver;
          arrives = a.at ∙ ap (λ k. time_of x + time_on_port s.network k g + delay_at s k a.way (time_of x)) links
              ∙ ap (λ q. time_of x + time_on_port s.network link q + delay_at s link a.way (time_of x)) sig
              ∙ ap (λ w. time_of x + time_on_port s.network link signal + delay_at s link w (time_of x)) on;
        }

    time_so : link.0 < length s.network.link → now + time_on_port s.network link signal + delay_by s.network ups downs device link
        ≡ time_of x + time_on_port s.network link signal + delay_at s link (way_from s.network device link) (time_of x)
    time_so lt =
        rw (delay_is ups downs ways device link lt)
        (ap (λ t. t + time_on_port s.network link signal + delay_at s link (way_from s.network device link) t) (sym at))

    pub sends : (o : Option DeviceId) → receiver_of s.network link (way_from s.network device link) ≡ o
        → IsPutOn (option_map (λ p. let e : Entry Content = record { place = p; content = Wire sent } in e)
        (option_map placed o)) old new
        → ArePut s x number (filter_map (on_wire s.network) old) (filter_map (on_wire s.network) new)
    sends None none is = none_put
        (λ d l t g a. let no = sym none ∙ (this a).receives in absurd cc) is
    sends (Some receiver) found is =
        let lt = link_within s.network.link link.0 (way_from s.network device link) (link_at s.network link) refl found in
        let e : Entry Content = record { place = placed receiver; content = Wire sent } in
        let w = wired receiver in
        record {
          real = λ y there.
              let of = given_of (on_wire s.network) new y there in
              elim (in_permuted new (e ∷ old) of.0 (IsPermutation-sym _ _ is) of.1) [
                | inl own ↦
                    let same = same_Some _ _ (sym of.2 ∙ ap (on_wire s.network) own) in
                    inr (rw same (
                      refl,
                      rw as_signal (record {
                        way = way_from s.network device link;
                        put = put;
                        receiver = found;
                        at =
                            time_so lt;
                      }),
                    ))
                | inr rest ↦ inl (is_given (on_wire s.network) old of.0 y rest of.2)
              ];
          kept = λ y there.
              let of = given_of (on_wire s.network) old y there in
              is_given (on_wire s.network) new of.0 y (in_permuted (e ∷ old) new of.0 is (inr of.1)) of.2;
          all = λ d l t g a.
              let it = this a in
              let who = same_Some _ _ (sym found ∙ it.receives) in (
                w,
                is_given (on_wire s.network) new e w (in_permuted (e ∷ old) new e is (inl refl)) refl,
                rw (time_so lt ∙ sym it.arrives)
                    (ap (λ k. t ∷ 2 ∷ k.0 ∷ link.0 ∷ number ∷ []) who
                    ∙ ap (λ k. t ∷ 2 ∷ d.0 ∷ k.0 ∷ number ∷ []) (sym it.same_link)),
              );
        }

  -- what a record of each kind puts on a wire
  left_put : {device : DeviceId} {link : LinkId} {cause clock : ℕ} (frame : Option Pcf) (octets : Option Timed)
      → x.note.body ≡ Left device link cause clock → x.frame ≡ frame
      → IsPutOn (wire_entry s.network ups downs (Left device link cause clock) frame octets now number) old new
      → ArePut s x number (filter_map (on_wire s.network) old) (filter_map (on_wire s.network) new)
  left_put {device} {link} None octets is frame put = none_put
      (none_launched (ap (launched s x (time_of x)) is
      ∙ ap (option_map (λ f. let l : Launch = record {
        link = link;
        way = way_from s.network device link;
        signal =
            control (Ok f);
      } in l)) frame)) put
  left_put {device} {link} (Some f) octets is frame put = sends device link (control (Ok f)) (signals.Control f)
      (ap (launched s x (time_of x)) is
      ∙ ap (option_map (λ f. let l : Launch = record {
        link = link;
        way = way_from s.network device link;
        signal =
            control (Ok f);
      } in l)) frame) refl
      (receiver_of s.network link (way_from s.network device link)) refl put

  timed_put : {device : DeviceId} {link : LinkId} {cause : ℕ} {vl : Rattle.net_plan.specs.declared.ids.VlId.VlId} {cycle : ℕ} (frame : Option Pcf)
      (octets : Option Timed) → HasItsOctets (TtSent device link cause vl cycle) octets
      → x.note.body ≡ TtSent device link cause vl cycle → x.octets ≡ octets_in s.network octets
      → IsPutOn (wire_entry s.network ups downs (TtSent device link cause vl cycle) frame octets now number) old new
      → ArePut s x number (filter_map (on_wire s.network) old) (filter_map (on_wire s.network) new)
  timed_put frame None has is own put = absurd has
  timed_put {device} {link} frame (Some o) has is own put = sends device link (timed (octets_of s.network o)) (signals.Timed o)
      (ap (launched s x (time_of x)) is
      ∙ ap (λ l. let k : Launch = record { link = link; way = way_from s.network device link; signal = timed l } in
      Some k) own) refl
      (receiver_of s.network link (way_from s.network device link)) refl put

  -- what the record puts on a wire
  pub puts : (body : NoteBody) {frame : Option Pcf} (octets : Option Timed) → x.note.body ≡ body → HasItsOctets body octets → x.frame ≡ frame
      → x.octets ≡ octets_in s.network octets → IsPutOn (wire_entry s.network ups downs body frame octets now number) old new
      → ArePut s x number (filter_map (on_wire s.network) old) (filter_map (on_wire s.network) new)
  puts (Left device link cause clock) {frame} octets is has framed own put = left_put frame octets is framed put
  puts (TtSent device link cause vl cycle) {frame} octets is has framed own put = timed_put frame octets has is own put
  puts (Event line what) octets is has framed own put = absurd has
  puts other octets is has framed own put = none_put (none_launched (ap (launched s x (time_of x)) is)) put

-- ---- what a record that is given needs, and what it changes: what a record changes, and where it stands

-- what arrived may wait at its device
pub arrived_device : (place : DueAt) (is : Arrival) (signal : SignalSent) → rank (arrived place is signal).body ≡ 2
    → changed_device (arrived place is signal).body ≡ place.device
arrived_device place (arrivals.Waits frame point) signal e = refl
arrived_device place (arrivals.Passes frame way) signal e = refl
arrived_device place (arrivals.PassesAndWaits frame way point) signal e = refl
arrived_device place other signal e = absurd (omega arith)

-- what becomes of it else stands where no source does
pub arrived_late : (place : DueAt) (is : Arrival) (signal : SignalSent) → (rank (arrived place is signal).body ≡ 2 → ⊥)
    → is_at_source (arrived place is signal).body ≡ false
arrived_late place (arrivals.Waits frame point) signal not = absurd (not refl)
arrived_late place (arrivals.Passes frame way) signal not = absurd (not refl)
arrived_late place (arrivals.PassesAndWaits frame way point) signal not = absurd (not refl)
arrived_late place other signal not = refl

departure_late : (e : AtPort) (d : Departure) → (rank (departure_body e d) ≡ 8 → ⊥)
    → is_at_source (departure_body e d) ≡ false
departure_late e (leaves clock) not = absurd (not refl)
departure_late e too_old not = refl
departure_late e on_cut_way not = refl

module _ (network : Network) (reading : ℕ) (cut : Bool) (e : AtPort) where
  pub departed_late : (rank (departed network reading cut e).body ≡ 8 → ⊥)
      → is_at_source (departed network reading cut e).body ≡ false
  departed_late not = departure_late e (departure_by network reading cut e) not

  -- and it changes what waits at no device
  pub departed_none : changed_device (departed network reading cut e).body ≡ 2 ^ 32
  departed_none = grind (arith, changed_device, departure_body)

-- a frame that is judged
pub judged_rank : (w : Waits) (is : Ripe) → IsJudged is → rank (ripe_record w is).body ≡ 3
judged_rank w (ripe.Dropped reason) judged = absurd judged
judged_rank w other judged = refl

pub judged_far : (w : Waits) (is : Ripe) → changed_device (ripe_record w is).body ≡ 2 ^ 32
judged_far w ripe.Opened = refl
judged_far w other = refl

-- ---- what it needs

-- by another record than that it is accepted no switch takes a frame
pub no_shelf : (body : NoteBody) (stored : Shelved) → (rank body ≡ 11 → ⊥) → IfSome (spot_of body) (HasPlace stored)
no_shelf (Accepted device link cause vl cycle) stored not = absurd (not refl)
no_shelf other stored not = tt

-- nor does a frame wait by another than that it arrived
pub no_waiter : (body : NoteBody) (waiting : Waiting) → (rank body ≡ 2 → ⊥) → IfSome (waiter_of body) (λ d. 0 < room_of waiting d.0)
no_waiter (Arrived device link cause clock) waiting not = absurd (not refl)
no_waiter other waiting not = tt

-- and it changes what waits at no device
pub no_change : (body : NoteBody) → (rank body ≡ 2 → ⊥) → changed_device body ≡ 2 ^ 32
no_change (Arrived device link cause clock) not = absurd (not refl)
no_change other not = refl

-- by this one a frame may wait at its device
pub waits_at : (body : NoteBody) (waiting : Waiting) {device : ℕ} → (rank body ≡ 2 → changed_device body ≡ device)
    → (rank body ≡ 2 → 0 < room_of waiting device) → IfSome (waiter_of body) (λ d. 0 < room_of waiting d.0)
waits_at (Arrived device link cause clock) waiting at room = rw (at refl) (room refl)
waits_at other waiting at room = tt

-- what changes one device changes no other by another step of it
pub changes_both : {C M : Type 0} {device : ℕ} {old mid new : State C M} → ChangesOnly device old mid
    → ChangesOnly device mid new → ChangesOnly device old new
changes_both a b = record {
  clocks = b.clocks ∙ a.clocks;
  time = b.time ∙ a.time;
  ended = b.ended ∙ a.ended;
  machines = λ i apart. b.machines i apart ∙ a.machines i apart;
  waiting = λ w apart. (λ i. (a.waiting w apart).0 ((b.waiting w apart).0 i), λ i. (b.waiting w apart).1 ((a.waiting w apart).1 i));
}

-- ---- a frame that waits is permanent: its machine may be asked, and the state stands behind it

-- ---- what waits is apart by its cause

module _ (w : Waits) (old new : List Waits) (t : IsPermutation old (w ∷ new)) (apart : AreApart old) where
  now_apart : AreApart (w ∷ new)
  now_apart = IsDistinct-IsPermutation nat_eq flips (map cause_of old) (map cause_of (w ∷ new)) (IsPermutation-map cause_of old (w ∷ new) t) apart

  pub still_apart : AreApart new
  still_apart = IsDistinct-tail nat_eq w.cause (map cause_of new) now_apart

  others : (v : Waits) → IsIn v new → v.cause ≡ w.cause → ⊥
  others v there = each_apart cause_of w.cause new (IsDistinct-head nat_eq w.cause (map cause_of new) now_apart) v there

  same_cause : (now : ℕ) (v : Waits) → ripe_place now (waiting_as v) ≡ ripe_place now (waiting_as w) → v.cause ≡ w.cause
  same_cause now v e = cc

  pub without : (now : ℕ) → IsWithout (ripe_place now) (ripe_place now (waiting_as w)) (map waiting_as old) (map waiting_as new)
  without now e = (
    λ there.
        let from = from_map waiting_as new e there in
        let v = from.0 in (
          rw from.2 (is_mapped waiting_as old v (stayed w old new t v from.1)),
          λ place. others v from.1 (same_cause now v (sym (ap (ripe_place now) from.2) ∙ place)),
        ),
    λ h.
        let from = from_map waiting_as old e h.0 in
        let v = from.0 in
        rw from.2 (is_mapped waiting_as new v (stays w old new t v from.1 (λ same. h.1 (ap (ripe_place now) from.2
        ∙ ap (λ x. ripe_place now (waiting_as x)) same)))),
  )

pub below_taken : (number : ℕ) (w : Waits) (old new : List Waits) → IsPermutation old (w ∷ new) → All (λ v. v.cause < number) old
    → All (λ v. v.cause < number) new
below_taken number w old new t below =
    all_of (λ v. v.cause < number) new (λ v there.
    let at = in_get old v (stayed w old new t v there) in
    let lt = slice_get_within old at.0 v at.1 in
    rw (get_or_from_slice_get old at.0 v v at.1) at (below at.0 v lt))

pub others_wait : (w : Waits) (old new : List Waits) → IsPermutation old (w ∷ new) → (v : Waits) → (v.device.0 ≡ w.device.0 → ⊥) → IsIn v new ↔ IsIn v old
others_wait w old new t v other = (
  λ there. stayed w old new t v there,
  λ there. stays w old new t v there (λ same. other (rw same)),
)

-- ---- the machine may be asked

abbrev pub moment_by : Units → Units → Moment
moment_by time reading = record { time = time; reading = reading }

module _ {C M : Type 0} (reading : C → ℕ → ℕ) (stands : Meaning M) (network : Network) (state : State C M) (w : Waits)
    (there : IsIn w state.waiting.items)
    (reached : (clock : C) → slice_get state.clocks.items w.device.0 ≡ Some clock → w.point.0 ≤ℤ pos (reading clock state.time)) where
  in_waiting : IsIn (waiting_as w) (map waiting_as state.waiting.items)
  in_waiting = is_mapped waiting_as state.waiting.items w there

  pub within : {s : Scenario} {notes : List Note} → Stands reading (keeps stands) s (world_of network state) notes → w.device.0 < length s.network.device
  within {s} {notes} old = waits_within s (happenings s.network notes) (waiting_as w) (old.waiting.real (waiting_as w) in_waiting) old.run.founded old.range

  pub device_in : {s : Scenario} {notes : List Note} → Stands reading (keeps stands) s (world_of network state) notes → w.device.0 < length network.device
  device_in {s} {notes} old = rw old.same (within old)

  -- what its clock reads is what the scenario says
  pub reads : {s : Scenario} {notes : List Note} → Stands reading (keeps stands) s (world_of network state) notes → {clock : C}
      → slice_get state.clocks.items w.device.0 ≡ Some clock → reading clock state.time ≡ s.reading w.device state.time
  reads {s} {notes} old {clock} own =
      let it = old.clocks w.device (within old) in
      rw (some_same clock it.0 _ own it.1) (sym (it.2 state.time (omega arith)))

  point : {s : Scenario} {notes : List Note} → Stands reading (keeps stands) s (world_of network state) notes → w.point.0 ≤ℤ pos (s.reading w.device state.time)
  point {s} {notes} old =
      let it = old.clocks w.device (within old) in
      rw (reads old it.1) at (reached it.0 it.1)

  pub low : {s : Scenario} {notes : List Note} → Stands reading (keeps stands) s (world_of network state) notes → {clock : C}
      → slice_get state.clocks.items w.device.0 ≡ Some clock → reading clock state.time ≤ 2 ^ 60 + 2 ^ 51
  low {s} {notes} old {clock} own = rw (reads old own) ((old.steady w.device).low state.time old.limit)

  pub moment_is : (s : Scenario) {notes : List Note} → Stands reading (keeps stands) s (world_of network state) notes → {clock : C}
      → slice_get state.clocks.items w.device.0 ≡ Some clock → {number : ℕ} → number ≡ reading clock state.time → {time read : Units}
      → time ≡ units_of state.time → read ≡ units_of number → moment_by time read ≡ moment_of s w.device state.time
  moment_is s {notes} old {clock} own is {read} a b =
      rw a (ap (moment_by (units_of state.time)) b
      ∙ ap (λ n. moment_by (units_of state.time) (units_of n)) (is ∙ reads old own))

  pub asked : (at : IsAt reading stands network state (ripe_place state.time (waiting_as w))) {machine : Kept M} {moment : Moment}
      → slice_get state.machines.items w.device.0 ≡ Some machine → moment ≡ moment_of at.s w.device state.time
      → StandsFor (keeps stands) machine (λ n device node. MayTake n device node moment w.link w.frame w.point)
  asked at {machine} own same =
      let s = at.s in
      let ask = may_ask reading (keeps stands) s (world_of network state) at.notes (waiting_as w) at.is in_waiting (point at.is) at.first in
      let machine_is = some_same ask.machine machine _ ask.there own in
      rw same (
        s.network,
        w.device,
        ask.node,
        rw machine_is at ask.is,
        record { call = ask.asked.call; reached = ask.asked.ripens.reached; in_time = ask.asked.ripens.in_time; ripens = λ hearing. ask.asked.ripens },
      )

-- ---- its records

frame_is : (s : Scenario) (network : Network) (now : ℕ) (hs : List Happening) (w : Waits) (verdict : Judgement) → frame_from hs w.cause ≡ Some w.frame
    → settled_at network now (judged_so w verdict) ≡ settled_as s.network hs now (kinds.Permanent w.device w.link w.cause w.point verdict)
frame_is s network now hs w verdict of = grind (arith, units_of)

-- it is the record of its body
ripe_own : (s : Scenario) (network : Network) (now : ℕ) (hs : List Happening) (w : Waits)
    → frame_from hs w.cause ≡ Some w.frame → (result : Ripe)
    → IsOwn s.network network now hs (Some (ripe_record w result))
ripe_own s network now hs w of (ripe.Dropped reason) = refl
ripe_own s network now hs w of other = frame_is s network now hs w _ of

joined_own : (s : Scenario) (network : Network) (now : ℕ) (hs : List Happening) (number : ℕ) (device : DeviceId)
    (result : Ripe) → IsOwn s.network network now hs (joined_record number device result)
joined_own s network now hs number device ripe.Integrates = refl
joined_own s network now hs number device other = tt

-- these are all of what becomes of it
ripe_bodies_are : (number : ℕ) (w : Waits) (result : Ripe)
    → ripe_bodies number w.device w.link w.cause w.point result
    ≡ body_of (Some (ripe_record w result)) ++ body_of (joined_record number w.device result)
ripe_bodies_are number w ripe.Integrates = refl
ripe_bodies_are number w other = refl

-- where it is judged, its record stands where it was permanent
pub judged_source : (w : Waits) (result : Ripe) → IsJudged result → is_at_source (ripe_record w result).body ≡ true
judged_source w (ripe.Dropped reason) judged = absurd judged
judged_source w other judged = refl

-- else none of them does
pub dropped_late : (number : ℕ) (w : Waits) (result : Ripe) → (IsJudged result → ⊥)
    → starts_there (body_of (Some (ripe_record w result)) ++ body_of (joined_record number w.device result)) ≡ false
dropped_late number w (ripe.Dropped reason) not = refl
dropped_late number w other not = absurd (not tt)

-- none of them needs octets
pub record_fits : (w : Waits) (result : Ripe) → have_octets (ripe_record w result)
record_fits w (ripe.Dropped reason) = tt
record_fits w other = tt

pub joined_fits : (number : ℕ) (device : DeviceId) (result : Ripe) (z : Settled) → joined_record number device result ≡ Some z → have_octets z
joined_fits number device ripe.Integrates z e = subst have_octets (some_same _ z _ refl e) tt
joined_fits number device other z e = absurd cc

pub octets_fit : {number : ℕ} {w : Waits} {result : Ripe} {old new : List Settled}
    → AreSettledSo number w result old new → All have_octets old → All have_octets new
octets_fit {number} {w} {result} {old} {new} a all =
    all_put_some have_octets (joined_record number w.device result) a.mid new a.more (joined_fits number w.device result)
    (all_put have_octets a.first (record_fits w result) all)

-- ---- so it is worked off

pub ripened : {C M : Type 0} {reading : C → ℕ → ℕ} (stands : Meaning M)
    {network : Network} (state : State C M) {w : Waits} (new : List Waits) {machine : Kept M} (after : Kept M) (result : Ripe)
    → IsPermutation state.waiting.items (w ∷ new) → AreApart state.waiting.items
    → ((clock : C) → slice_get state.clocks.items w.device.0 ≡ Some clock
    → w.point.0 ≤ℤ pos (reading clock state.time)) → w.device.0 < length state.machines.items
    → slice_get state.machines.items w.device.0 ≡ Some machine
    → {s : Scenario} {notes : List Note} {old : Stands reading (keeps stands) s (world_of network state) notes}
    → ComesFirst reading (keeps stands) s (world_of network state) notes old (ripe_place state.time (waiting_as w))
    → HasRipened (keeps stands) s.network w.device
    (moment_of s w.device state.time) w.link w.frame w.point result machine after
    → TurnsIn reading stands network s notes
    (record (world_of network state) {
      early = false;
      machines = slice_set state.machines.items w.device.0 after;
      waiting = map waiting_as new;
    })
    (ripe_place state.time (waiting_as w)) (Some (ripe_record w result))
    (joined_record (state.given + 1) w.device result)
ripened {reading} stands {network} state {w} new {machine} after result t apart reached many own {s} {notes} {old} first has =
    let world = world_of network state in
    let there = was_there w state.waiting.items new t in
    let hs = happenings s.network notes in
    let inside = is_mapped waiting_as state.waiting.items w there in
    let it = old.waiting.real (waiting_as w) inside in
    let of : frame_from hs w.cause ≡ Some w.frame = rw it.there it.awaited.of_frame in
    let place = ripe_place state.time (waiting_as w) in
    let mid : World _ _ = record world {
      early = false;
      machines = slice_set state.machines.items w.device.0 after;
      waiting = map waiting_as new;
    } in
    let bodies : ripe_bodies (length notes + 1) w.device w.link w.cause w.point result
    ≡ body_of (Some (ripe_record w result)) ++ body_of (joined_record (state.given + 1) w.device result) =
    rw (sym old.given)
    (ripe_bodies_are (state.given + 1) w result) in
    record {
      order = settled_in_order old;
      first_is = ripe_own s network state.time hs w of result;
      second_is = joined_own s network state.time hs (state.given + 1) w.device result;
      by = rw bodies at (ripened_turn reading (keeps stands) s world notes (waiting_as w) machine after result
          (slice_set state.machines.items w.device.0 after) (map waiting_as new) old inside
          (point reading stands network state w there reached old) first own has
          (is_set state.machines.items w.device.0 after many) (without w state.waiting.items new t apart state.time));
    }

-- ---- a source is worked off: its records are put in, or the first of them is given: the records of a turn

-- a record that is the only one
pub one_turn : {C M : Type 0} {reading : C → ℕ → ℕ} (stands : Meaning M)
    (network : Network) {s : Scenario} {notes : List Note} {world : World C (Kept M)} {place : List ℕ} (z : Settled)
    {body : NoteBody} → InOrder world.settled
    → settled_at network world.now z ≡ settled_as s.network (happenings s.network notes) world.now body
    → TurnsBy reading (keeps stands) s notes (body ∷ []) world place
    → TurnsIn reading stands network s notes world place (Some z) None
one_turn {reading} stands network {s} {notes} {world} {place} z {body} order same turn =
    let body_is : z.body ≡ body = ap (λ h. h.note.body) same in
    record {
      order = order;
      first_is = same ∙ ap (settled_as s.network (happenings s.network notes) world.now) (sym body_is);
      second_is = tt;
      by = rw body_is turn;
    }

-- there is one, or none
pub some_turn : {C M : Type 0} {reading : C → ℕ → ℕ} (stands : Meaning M)
    (network : Network) {s : Scenario} {notes : List Note} {world : World C (Kept M)} {place : List ℕ} (none : Bool)
    (z : Settled) (body : NoteBody) → InOrder world.settled
    → settled_at network world.now z ≡ settled_as s.network (happenings s.network notes) world.now body
    → TurnsBy reading (keeps stands) s notes (if none then [] else body ∷ []) world place
    → TurnsIn reading stands network s notes world place (if none then None else Some z) None
some_turn stands network true z body order same turn =
    record { order = order; first_is = tt; second_is = tt; by = turn }
some_turn {reading} stands network false z body order same turn = one_turn stands network z order same turn

-- the source that comes first is worked off so
pub turns_of : {C M : Type 0} {last_step : C → ℕ} {reading : C → ℕ → ℕ}
    {stands : Meaning M} {network : Network} {old : State C M} (mid : State C M) {source : Source}
    (first second : Option Settled) → MayWork last_step reading stands network old source → IsNow source
    → TurnsPast reading stands network old mid (source_place old.time source) first second → {s : Scenario}
    {notes : List Note} → Stands reading (keeps stands) s (world_of network old) notes
    → TurnsIn reading stands network s notes (world_of network mid) (source_place old.time source) first second
turns_of {last_step} {reading} {stands} {network} {old} mid {source} first second may now past {s} {notes} is =
    past s notes is (comes_first may now is)

-- ---- they are put in

module _ {C M : Type 0} {reading : C → ℕ → ℕ} {stands : Meaning M} {network : Network} {s : Scenario}
    {notes : List Note} {world : World C (Kept M)} {place : List ℕ} (old : List Settled)
    (shown : world.settled ≡ map (settled_at network world.now) old) where
  -- all of them come later
  pub all_put_in : {first second : Option Settled} (mid new : List Settled)
      → TurnsIn reading stands network s notes world place first second → IsSomePut first old mid
      → IsSomePut second mid new → starts_there (body_of first ++ body_of second) ≡ false
      → StandsAt reading (keeps stands) s (record world { settled = map (settled_at network world.now) new }) notes
      (behind place)
  all_put_in {first} {second} mid new turn one two late =
      let after : World C (Kept M) = record world { settled = map (settled_at network world.now) new } in
      let put = rw (sym shown) at (both_put s.network network world.now (happenings s.network notes) first second old
      mid new one two
      (subst InOrder shown turn.order) turn.first_is turn.second_is) in
      rw (append-nil notes) at (turn.by.then_stands after []
      (IsTurn.puts late (record { none = refl; put = put; same = refl })))

  -- ---- the first is given

  module _ {one : Settled} {second : Option Settled}
      (turn : TurnsIn reading stands network s notes world place (Some one) second) (rest : List Settled)
      (put : IsSomePut second old rest) (source : is_at_source one.body ≡ true) where
    later_put : ArePutIn s.network (happenings s.network notes) world.now (body_of second) world.settled
        (map (settled_at network world.now) rest)
    later_put = rw shown (one_by s.network network world.now (happenings s.network notes) second old rest put
        (subst InOrder shown turn.order) turn.second_is)

    -- it is the next
    pub next_first : IsNext reading s notes (record world { settled = map (settled_at network world.now) rest }) one.body
    next_first = turn.by.next one.body (body_of second) refl source (map (settled_at network world.now) rest) later_put

    -- and once it is given, the world stands behind its source
    pub first_given : (new : World C (Kept M)) {note : Note}
        → note ≡ record { number = world.given + 1; time = units_of world.now; body = one.body }
        → new ≡ record world {
          wires = new.wires;
          ports = new.ports;
          waiting = new.waiting;
          stored = new.stored;
          settled = map (settled_at network world.now) rest;
          given = world.given + 1;
        }
        → (IsNext reading s notes (record world { settled = map (settled_at network world.now) rest }) one.body
        → IsOwn s.network network world.now (happenings s.network notes) (Some one)
        → IsLaunched s notes one.body (record world { settled = map (settled_at network world.now) rest }) new)
        → StandsAt reading (keeps stands) s new (notes ++ note ∷ []) (behind place)
    first_given new {note} is same launches =
        let launched = launches next_first turn.first_is in
        let settled : new.settled ≡ map (settled_at network world.now) rest = ap World.settled same in
        turn.by.then_stands new (note ∷ []) (IsTurn.gives one.body (body_of second) refl source (record {
          note = rw (is ∙ ap
              (λ k. let n : Note = record { number = k + 1; time = units_of world.now; body = one.body } in n)
              next_first.given);
          launched = record {
            wires = launched.wires;
            ports = launched.ports;
            waiting = launched.waiting;
            stored = launched.stored;
          };
          put = rw settled later_put;
          same = same ∙ ap
              (λ l. let w : World C (Kept M) = record world {
                wires = new.wires;
                ports = new.ports;
                waiting = new.waiting;
                stored = new.stored;
                settled = l;
                given = world.given + 1;
              } in w) (sym settled);
        }))
