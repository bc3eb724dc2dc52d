-- What is on a wire or settled: the records that put it there, and how it arrives and stays fit.
use Rattle.std.{specs.{List.{IsDistinct, filter_map}, Option.option_copied, Prelude.{All, slice_get}}}
use Rattle.std.proofs.{Common.{Bor, nat_eq, option_and_then, option_map, set}}
use Rattle.std.proofs.lemmas.{Bool.ne_eqb, Grind.elements, List.Elements.All-filter}
use Rattle.std.proofs.lemmas.{Map.Keys.{IsDistinct-IsPermutation, IsDistinct-cons, IsDistinct-head, IsDistinct-tail}}
use Rattle.drift_world.{specs.{Wires.{IsOfNow, IsOnOwnLink, on_wire_in, put_by}, declared.state.State.State}}
use Rattle.drift_world.proofs.{Alike.turns_alike, Arrivals.{control_so, on_arrival, timed_so}, Beginnings.found}
use Rattle.drift_world.proofs.Words
use Words.{if◌then◌else◌, ◌+◌, ◌<◌, ◌==◌, ◌^◌, ◌∙◌, ◌∷◌, ◌≡◌, ◌≤◌, ◌⊎◌, AreApart, AreBelow, AreUnderWay, Arrives}
use Words.{AtPort, Bool, ComesFirst, Content, DeviceId, DueAt, Err, Happening, HasItsOctets, IfNone, IfSome, IsBefore}
use Words.{IsCaused, IsDue, IsFounded, IsHeld, IsIn, IsInRange, IsPermutation, IsPermutation-map, IsPermutation-sym}
use Words.{IsPutAt, IsShort, IsSized, IsSomePut, IsSound, Kept, Launch, LinkId, List, Meaning, Moment, Network, Node}
use Words.{None, Note, NoteBody, Ok, OnWire, Option, Pcf, Port, Result, Scenario, Settled, Signal, Some, Stands}
use Words.{StandsFor, StandsUnder, Units, Up, VlId, Waits, Way, WayState, What, Wire, World, [], amount, ap, arith}
use Words.{at_port, control, delay_at, departure_body, eq-eqb, false, field, filter, frame_by, frame_from, given_of}
use Words.{happenings, in_all, in_filter, in_get, in_permuted, inl, inr, is_cut, is_given, launched, length, map}
use Words.{moment_of, nat_lt, numbered, numbered_in, numbers_of, octets_by, octets_from, octets_in, octets_of, on_wire}
use Words.{one, place_of, pos, rank, rank_of, reading_of, receiver_of, refl, scenario, settled_as, settled_at}
use Words.{signal_as, signal_of, slice_get-get_or, subst, suc, sym, target_by, time_of, time_on_port, timed, true}
use Words.{units_of, unwrap_or, way_from, wire_at, wire_place, with_clock, world_of, zero, ℕ, ℤ}
use Rattle.net_plan.specs.declared.event.Event.{Event}
use Rattle.pcf_codec.specs.{Decoding.decoded, EtherType.pcf_type, declared.refusal.PcfRefusal.PcfRefusal}
use Rattle.run_law.proofs.{records.Order.all_of, runs.Determined.same_units}
use Rattle.run_law.proofs.law.FirstDeliveries
use FirstDeliveries.{IsFoundedAt, by_number, founded_at, last_in, number_is, numbered_front, numbered_within}
use Rattle.run_law.specs.{control.Arrivals.clock_on_arrival, declared.steps.Arrival.Arrival}
use Rattle.run_law.specs.{device.Standpoints.standpoint, records.{Frames.tt_frame, Happenings.earlier}}
use Rattle.run_law.specs.{scenario.Ways.is_way_of, timed.{Dispatching.is_accepted, Receptions.{ArrivesAs, arrival_of}}}
use Rattle.run_law.specs.machines.{Answers.arrival_at, Calls.{MayArrive, MayCall}}
use Rattle.run_law.specs.machines.{Nodes.{arriving, last_taken_by, standpoint_at}}
use Rattle.tte_units.proofs.general_lemmas.{Lists.some_at, Naturals.flips}
use Rattle.world_law.proofs.{frames.Proper.launch_signal as signal_in, giving.GivenParts.some_same}
use Rattle.world_law.proofs.steps_lemmas.{turns.Turns.heard_turn}
use Rattle.world_law.proofs.steps_lemmas.hearing.{Calling.may_call, OneMaster.{decoded_of, may_arrive}}
use Rattle.world_law.proofs.steps_lemmas.hearing.{Receptions.device_there}
use Rattle.world_law.specs.{source.Sources.IsArriving, steps.Turns.TurnsBy}
use Rattle.world_law.specs.{world.{Calls.{HasHeard, IsSet}, Outcomes.arrival_body, World.{IsClockOf, IsOnWire}}}
use Rattle.world_state.proofs.{Queues.{ports_stay, wires_without}, WorldSteps.{made_type, plain_signal}}
use Rattle.world_state.proofs.{queue_lemmas.Slots.{all_apart, each_apart}}
use Rattle.world_state.specs.{Applying.{SetsShort, way_after}}
use Rattle.world_state.specs.{Hearing.{AreOctetsOf, IsAsSent, MayCome, arrived, frame_kept, octets_kept, timed_in}}
use Rattle.world_state.specs.{Leaving.departed}
use Rattle.world_state.specs.{declared.{contents.Signal.{Signal as Sent, Signal as SignalSent}, queue.Entry.Entry}}
use Rattle.world_state.specs.{queue.Finding.{HoldsAt, HoldsNoneAt}}
use Rattle.net_plan.specs.declared.event.What.TheVariants as events
use Rattle.run_law.specs.declared.note.NoteBody.TheVariants as kinds
use Rattle.run_law.specs.declared.steps.Arrival.TheVariants as arrivals
use Rattle.world_state.specs.declared.contents.Signal.TheVariants as signals

-- ---- what is fit stays so where an event befalls: the ways

set_short : (b : Bool) (n was : ℕ) → n < 2 ^ 62 → was < 2 ^ 62 → unwrap_or (if b then Some n else None) was < 2 ^ 62
set_short true n was short old = short
set_short false n was short old = old

way_short : (link : LinkId) (way : Way) (what : What) (was : WayState) → SetsShort what → IsShort was → IsShort (way_after link way what was)
way_short link way (events.Wire other turned delay) was short old = (set_short (is_way_of link way other turned) (amount delay) was.delay short old.0, old.1)
way_short link way (events.Hold other turned hold) was short old = (old.0, set_short (is_way_of link way other turned) (amount hold) was.hold short old.1)
way_short link way other was short old = old

pub ways_short : (old new : List WayState) (way : Way) (what : What) → SetsShort what → length new ≡ length old
    → ((link : LinkId) (was : WayState) → slice_get old link.0 ≡ Some was → slice_get new link.0 ≡ Some (way_after link way what was))
    → All IsShort old → All IsShort new
ways_short old new way what short same each all k d lt =
    let many : k < length old = omega arith in
    let was = found old k many in
    let link : LinkId = record { 0 = k } in
    let is = one (slice_get new k) _ _ (each link was.0 was.1) (slice_get-get_or new k d lt) in
    subst IsShort is (way_short link way what was.0 short (in_all IsShort old k was.0 all was.1))

-- ---- what waits

abbrev pub cause_of : Waits → ℕ
cause_of w = w.cause

pub none_apart : AreApart []
unfolding IsDistinct
none_apart = tt

pub apart_kept : (q : Waits → Bool) (xs : List Waits) → AreApart xs → AreApart (filter q xs)
apart_kept q [] apart = apart
apart_kept q (x ∷ xs) apart =
    let rest = apart_kept q xs (IsDistinct-tail nat_eq x.cause (map cause_of xs) apart) in
    elim (q x) as (λ b. AreApart (if b then x ∷ filter q xs else filter q xs)) [
      | true ↦ IsDistinct-cons nat_eq x.cause (map cause_of (filter q xs)) (all_apart cause_of x.cause (filter q xs) (λ v there.
          each_apart cause_of x.cause xs (IsDistinct-head nat_eq x.cause (map cause_of xs) apart) v (in_filter q xs v there))) rest
      | false ↦ rest
    ]

module _ {number : ℕ} (one : Waits) (old new : List Waits) (more : IsPermutation (one ∷ old) new)
    (cause : one.cause ≡ number) (all : All (λ w. w.cause < number) old) where
  -- one more with a greater cause
  pub apart_more : AreApart old → AreApart new
  apart_more apart =
      IsDistinct-IsPermutation nat_eq flips (map cause_of (one ∷ old)) (map cause_of new)
      (IsPermutation-map cause_of _ _ more)
      (IsDistinct-cons nat_eq one.cause (map cause_of old) (all_apart cause_of one.cause old (λ v there same.
      let at = in_get old v there in
      let low = in_all (λ (w : Waits). w.cause < number) old at.0 v all at.1 in
      omega arith)) apart)

  pub below_one_more : All (λ w. w.cause < number + 1) new
  below_one_more = all_of (λ w. w.cause < number + 1) new (λ v there.
      elim (in_permuted new (one ∷ old) v (IsPermutation-sym _ _ more) there) [
        | inl own ↦ let e = ap cause_of own in omega arith
        | inr was ↦
            let at = in_get old v was in
            let low = in_all (λ (w : Waits). w.cause < number) old at.0 v all at.1 in
            omega arith
      ])

pub below_more : (n : ℕ) (q : Waits → Bool) (xs : List Waits) → All (λ w. w.cause < n) xs → All (λ w. w.cause < n + 1) (filter q xs)
below_more n q xs all k d lt =
    let here = All-filter q (λ w. w.cause < n) xs all k d lt in omega arith

-- ---- what is settled stays fit to be given

abbrev pub have_octets : Settled → Type 0
have_octets z = HasItsOctets z.body z.octets

pub all_put : (P : Settled → Type 0) {z : Settled} {old new : List Settled} {at : ℕ} → IsPutAt z old new at → P z → All P old → All P new
all_put P put own all =
    let within = put.within in
    subst (All P) (sym put.is) (grind (arith, elements))

pub all_put_some : (P : Settled → Type 0) (o : Option Settled) (old new : List Settled) → IsSomePut o old new
    → ((z : Settled) → o ≡ Some z → P z) → All P old → All P new
all_put_some P None old new put own all = subst (All P) (sym put) all
all_put_some P (Some z) old new put own all = all_put P put.1 (own z refl) all

-- the record of a frame that leaves a port needs no octets
pub left_octets : (network : Network) (reading : ℕ) (cut : Bool) (e : AtPort) → have_octets (departed network reading cut e)
left_octets network reading cut e = grind (arith, departure_body)

-- what is left of what is under way has been put there by records given
pub below_without : (number : ℕ) (old new : List (Entry Content)) (taken : Entry Content) → IsPermutation old (taken ∷ new) → AreBelow number old
    → AreBelow number new
below_without number old new taken same below e there = below e (in_permuted _ _ e (IsPermutation-sym _ _ same) (inr there))

module _ {C M : Type 0} {last_step : C → ℕ} {network : Network} {old : State C M} where
  -- each device and each link has its parts, where there are as many, and no clock has changed
  pub sized_so : (new : State C M) → IsSized last_step network old → new.clocks ≡ old.clocks
      → length new.machines.items ≡ length old.machines.items → new.broken ≡ old.broken → new.ups ≡ old.ups
      → new.downs ≡ old.downs → new.time ≡ old.time → new.shown ≡ old.shown → IsSized last_step network new
  sized_so new z clocks machines broken ups downs time shown = grind (arith, length)

  -- what a state keeps it keeps with less that is settled, and elsewhere in memory
  pub sound_same : (new : State C M) → IsSound last_step network old → new.clocks ≡ old.clocks
      → new.machines ≡ old.machines → new.broken ≡ old.broken → new.ups ≡ old.ups → new.downs ≡ old.downs
      → new.time ≡ old.time → new.shown ≡ old.shown → new.given ≡ old.given
      → new.under_way.entries ≡ old.under_way.entries → new.waiting.items ≡ old.waiting.items
      → All (λ z. HasItsOctets z.body z.octets) new.settled.items → IsSound last_step network new
  sound_same new sound clocks machines broken ups downs time shown given entries waiting octets =
      let fit = sound.fit in
      let number = ap (λ k. k + 1) (sym given) in
      record {
        sized = sized_so new sound.sized clocks (rw machines) broken ups downs time shown;
        under_way = subst (AreUnderWay network) (sym entries) sound.under_way;
        fit = record {
          ups = rw ups fit.ups;
          downs = rw downs fit.downs;
          octets = octets;
          below = rw number at (subst (AreBelow (old.given + 1)) (sym entries) fit.below);
          waits_below = rw number at (subst (All (λ w. w.cause < old.given + 1)) (sym waiting) fit.waits_below);
          apart = subst AreApart (sym waiting) fit.apart;
        };
      }

  -- where only timers are set anew it is as sound as it was
  pub sound_timers : {new : State C M} → new ≡ record old { timers = new.timers } → IsSound last_step network old
      → IsSound last_step network new
  sound_timers {new} same is =
      rw same (sound_same (record old { timers = new.timers })
      is refl refl refl refl refl refl refl refl refl refl is.fit.octets)

-- ---- what is on a wire, by the record that put it there

-- octets with another EtherType than that of protocol control frames
abbrev IsPlain : List ℕ → Type 0
IsPlain octets = (field 12 2 octets == pcf_type) ≡ false

-- ---- octets that are on a wire

-- octets on a wire as they are: the octets, which have another EtherType
as_they_are : (b : Bool) (r : Result Pcf PcfRefusal) (given octets : List ℕ) → (if b then control r else timed given) ≡ timed octets → (b ≡ false)
    × (given ≡ octets)
as_they_are true r given octets e = absurd cc
as_they_are false r given octets e = (refl, cc)

-- a record puts this on a wire: a frame of the schedule, octets of an event, or a control frame that leaves
data PutsThis (h : Happening) (signal : Signal) : Type 0 where
  dispatched : (device : DeviceId) (link : LinkId) (cause : ℕ) (vl : VlId) (cycle : ℕ) → h.note.body ≡ kinds.TtSent device link cause vl cycle
      → timed h.octets ≡ signal → PutsThis h signal
  sent : (line : ℕ) (link : LinkId) (octets : List ℕ) → h.note.body ≡ kinds.Event line (events.Send link octets) → signal_of octets ≡ signal → PutsThis h signal
  leaving : (frame : Pcf) → h.frame ≡ Some frame → control (Ok frame) ≡ signal → PutsThis h signal

left_put : (h : Happening) (own : LinkId) (from : Way) {l : Launch} (o : Option Pcf) → h.frame ≡ o
    → option_map (λ f. (let x : Launch = record { link = own; way = from; signal = control (Ok f) } in x)) o ≡ Some l
    → PutsThis h l.signal
left_put h own from None of e = absurd cc
left_put h own from {l} (Some f) of e = PutsThis.leaving f of (signal_in (record { link = own; way = from; signal = control (Ok f) }) l e)

sent_put : (h : Happening) (line : ℕ) (own : LinkId) (octets : List ℕ) {l : Launch} (cut : Bool) → h.note.body ≡ kinds.Event line (events.Send own octets)
    → (if cut then None else Some (let x : Launch = record { link = own; way = Up; signal = signal_of octets } in x)) ≡ Some l → PutsThis h l.signal
sent_put h line own octets true is e = absurd cc
sent_put h line own octets {l} false is e = PutsThis.sent line own octets is (signal_in (record { link = own; way = Up; signal = signal_of octets }) l e)

puts_this : (s : Scenario) (h : Happening) (t : ℕ) (body : NoteBody) {l : Launch} → h.note.body ≡ body → launched s h t body ≡ Some l → PutsThis h l.signal
puts_this s h t (kinds.Left device own cause clock) {l} is e = left_put h own (way_from s.network device own) h.frame refl e
puts_this s h t (kinds.TtSent device own cause vl cycle) {l} is e =
    PutsThis.dispatched device own cause vl cycle is (signal_in (record { link = own; way = way_from s.network device own; signal = timed h.octets }) l e)
puts_this s h t (kinds.Event line (events.Send own octets)) {l} is e = sent_put h line own octets (is_cut s own Up t) is e
puts_this s h t other is e = absurd cc

-- ---- the frame and the octets of a record that put something there

octets_same : (a b : List ℕ) → timed a ≡ timed b → a ≡ b
octets_same a b e = cc

frame_same : (a b : Pcf) → control (Ok a) ≡ control (Ok b) → a ≡ b
frame_same a b e = cc

module _ {s : Scenario} {front : List Happening} {h : Happening} where
  this_frame : (frame : Pcf) → IsDue s front h → PutsThis h (control (Ok frame)) → h.frame ≡ Some frame
  this_frame frame due (PutsThis.dispatched device link cause vl cycle is e) = absurd cc
  this_frame frame due (PutsThis.sent line link octets is e) =
      ap Happening.frame due.same ∙ ap (frame_by s.network front) is ∙ decoded_of _ _ octets frame e
  this_frame frame due (PutsThis.leaving f of e) = of ∙ ap (λ x. Some x) (frame_same f frame e)

  this_octets : (octets : List ℕ) → IsDue s front h → PutsThis h (timed octets) → h.octets ≡ octets
  this_octets octets due (PutsThis.dispatched device link cause vl cycle is e) = octets_same h.octets octets e
  this_octets octets due (PutsThis.sent line link given is e) =
      ap Happening.octets due.same ∙ ap (octets_by s.network front) is ∙ (as_they_are _ _ given octets e).1
  this_octets octets due (PutsThis.leaving f of e) = absurd cc

module _ {s : Scenario} {hs : List Happening} (founded : IsFounded place_of (IsDue s) hs) {e : OnWire} (it : IsOnWire s hs e) where
  puts_it : PutsThis it.putting e.signal
  puts_it = puts_this s it.putting (time_of it.putting) it.putting.note.body refl
      it.arrives.put

  -- a control frame on a wire is that of its record
  pub frame_told : (frame : Pcf) → e.signal ≡ control (Ok frame) → frame_from hs e.cause ≡ Some frame
  frame_told frame is =
      let at = founded_at s hs it.putting founded (numbered_in hs e.cause it.putting it.there) in
      ap (option_and_then (λ h. h.frame)) it.there
      ∙ this_frame frame at.due (rw is at puts_it)

  -- and so are other octets
  pub octets_told : (octets : List ℕ) → e.signal ≡ timed octets → octets_from hs e.cause ≡ octets
  octets_told octets is =
      let at = founded_at s hs it.putting founded (numbered_in hs e.cause it.putting it.there) in
      rw it.there
      (this_octets octets at.due (rw is at puts_it))

-- ---- frames of the schedule are no control frames

abbrev is_timed : NoteBody → Bool
is_timed (kinds.TtSent device link cause vl cycle) = true
is_timed (kinds.Accepted device link cause vl cycle) = true
is_timed other = false

-- the frames of the schedule of the records up to this number
abbrev ArePlainTo : List Happening → ℕ → Type 0
ArePlainTo hs n = (k : ℕ) (h : Happening) → k ≤ n → numbered hs k ≡ Some h → is_timed h.note.body ≡ true → IsPlain h.octets

earlier_in : (t : ℕ) (hs : List Happening) (h : Happening) → IsIn h (earlier t hs) → IsIn h hs
earlier_in t hs h i = in_filter (λ g. nat_lt (time_of g) t) hs h i

not_zero : (hs : List Happening) (n : ℕ) {g : Happening} → numbered hs n ≡ Some g → (n == 0) ≡ false
not_zero hs zero e = absurd cc
not_zero hs (suc n) e = ne_eqb (suc n) 0 (λ same. omega arith)

control_taken : (s : Scenario) (js : List Happening) (device : DeviceId) (t : ℕ) (link : LinkId) (cause : ℕ) (r : Result Pcf PcfRefusal) (vl : VlId) (cycle : ℕ)
    → arrivals.Accepted vl cycle ≡ arrival_of s js device t link cause (control r) → ⊥
control_taken s js device t link cause (Err refusal) vl cycle e = absurd cc
control_taken s js device t link cause (Ok frame) vl cycle e =
    control_so (λ a. arrivals.Accepted vl cycle ≡ a → ⊥) s.network device link (standpoint s js device t) frame
    (record { dropped = λ reason is. absurd cc; waits = λ point is. absurd cc; passes = λ way is. absurd cc; both = λ way point is. absurd cc }) e

module _ (s : Scenario) (hs : List Happening) (founded : IsFounded place_of (IsDue s) hs) (range : IsInRange s.network) (n : ℕ) (up : ArePlainTo hs n)
    (k : ℕ) {h : Happening} (le : k ≤ n + 1) (there : numbered hs k ≡ Some h) where
  at : IsFoundedAt s hs h
  at = founded_at s hs h founded (numbered_in hs k h there)

  -- a record before it is among all, and has a number that is not too high
  cause_number : (cause : ℕ) {g : Happening} → numbered at.front cause ≡ Some g → (numbered hs cause ≡ Some g) × (cause ≤ n)
  cause_number cause {g} is =
      let within = numbered_within at.front cause g is in
      let number = at.due.number in
      let number_so = number_is s hs k h founded there in (
        rw at.whole (numbered_front at.front (h ∷ at.rest) cause g is),
        omega arith,
      )

  of_cause : (cause : ℕ) {g : Happening} → numbered at.front cause ≡ Some g → octets_from at.front cause ≡ g.octets
  of_cause cause is = rw is

  own_octets : {body : NoteBody} → h.note.body ≡ body → h.octets ≡ octets_by s.network at.front body
  own_octets is = ap Happening.octets at.due.same ∙ ap (octets_by s.network at.front) is

  dispatched_plain : (device : DeviceId) (link : LinkId) (cause : ℕ) (vl : VlId) (cycle : ℕ) → h.note.body ≡ kinds.TtSent device link cause vl cycle
      → IsPlain h.octets
  dispatched_plain device link cause vl cycle is =
      let d = (subst (IsCaused s at.front h.note.time) is at.due.cause).dispatches in
      let own = own_octets is in
      elim d.at_hand [
        | inl made ↦
            let zero = eq-eqb cause 0 made.1 in
            subst IsPlain (sym (own ∙ ap (λ b. if b then tt_frame s.network vl cycle else octets_from at.front cause)
            zero))
            (made_type s.network vl cycle [] range refl)
        | inr passed ↦
            let has = passed.1 in
            let i = taken_in (λ g. is_accepted device d.entry.row.vl g.note.body) (time_of h) has.taken (last_in None _ has.taken has.last) in
            let number = ap (numbered at.front) has.number ∙ by_number s at.front has.taken at.founded i in
            let later = not_zero at.front cause number in
            let all = cause_number cause number in
            subst IsPlain (sym (own ∙ ap (λ b. if b then tt_frame s.network vl cycle else octets_from at.front cause)
            later
            ∙ of_cause cause number))
            (up cause has.taken all.1 all.0 (ap is_timed has.is))
      ]
    where
      taken_in : (p : Happening → Bool) (t : ℕ) (g : Happening) → (None ≡ Some g) ⊎ IsIn g (filter p (earlier t at.front)) → IsIn g at.front
      taken_in p t g (inl none) = absurd cc
      taken_in p t g (inr i) = earlier_in t at.front g (in_filter p (earlier t at.front) g i)

  -- a frame that a switch took by the record, as it was put on the wire by this
  accepted_by : (cause : ℕ) (vl : VlId) (cycle : ℕ) {putting : Happening} (octets : List ℕ) → numbered at.front cause ≡ Some putting
      → PutsThis putting (timed octets) → IsPlain octets
  accepted_by cause vl cycle {putting} octets number (PutsThis.dispatched device link from of_vl of_cycle is e) =
      let all = cause_number cause number in
      subst IsPlain (octets_same putting.octets octets e) (up cause putting all.1 all.0 (ap is_timed is))
  accepted_by cause vl cycle octets number (PutsThis.sent line link given is e) =
      let so = as_they_are (field 12 2 given == pcf_type) (decoded given) given octets e in
      subst IsPlain so.1 so.0
  accepted_by cause vl cycle octets number (PutsThis.leaving f of e) = absurd cc

  accepted_so : {device : DeviceId} {link : LinkId} {cause : ℕ} (vl : VlId) (cycle : ℕ) (signal : Signal)
      (a : ArrivesAs s at.front device (time_of h) link cause
      (arrivals.Accepted vl cycle)) → a.signal ≡ signal → h.octets ≡ octets_from at.front cause → IsPlain h.octets
  accepted_so {device} {link} {cause} vl cycle (control r) a is own =
      absurd (control_taken s at.front device (time_of h) link cause r vl cycle
      (a.becomes ∙ ap (arrival_of s at.front device (time_of h) link cause) is))
  accepted_so {link} {cause} vl cycle (timed octets) a is own =
      let before = founded_at s at.front a.putting at.founded (numbered_in at.front cause a.putting a.there) in
      let put = rw is at (puts_this s a.putting (time_of a.putting) a.putting.note.body refl a.arrives.put) in
      subst IsPlain (sym (own ∙ of_cause cause a.there ∙ this_octets octets before.due put))
      (accepted_by cause vl cycle octets a.there put)

  plain_next : (body : NoteBody) → h.note.body ≡ body → is_timed body ≡ true → IsPlain h.octets
  plain_next (kinds.TtSent device link cause vl cycle) is t = dispatched_plain device link cause vl cycle is
  plain_next (kinds.Accepted device link cause vl cycle) is t =
      let a = subst (IsCaused s at.front h.note.time) is at.due.cause in
      accepted_so vl cycle a.signal a refl (own_octets is)
  plain_next other is t = absurd cc

module _ (s : Scenario) (hs : List Happening) (founded : IsFounded place_of (IsDue s) hs)
    (range : IsInRange s.network) where
  all_plain : (n : ℕ) → ArePlainTo hs n
  all_plain zero zero h le there timed_so = absurd cc
  all_plain zero (suc k) h le there timed_so = absurd (omega arith)
  all_plain (suc n) k h le there timed_so =
      plain_next s hs founded range n (all_plain n) k (omega arith) there h.note.body refl timed_so

  -- octets of the schedule that are on a wire are no control frame
  pub plain_on_wire : {e : OnWire} → IsOnWire s hs e → (octets : List ℕ) → e.signal ≡ timed octets
      → signal_of octets ≡ timed octets
  plain_on_wire {e} it octets is =
      plain_signal octets (by (rw is at (puts_it founded it)))
    where
      by : PutsThis it.putting (timed octets) → IsPlain octets
      by (PutsThis.dispatched device link cause vl cycle body same) =
          subst IsPlain (octets_same it.putting.octets octets same)
          (all_plain e.cause e.cause it.putting (omega arith) it.there (ap is_timed body))
      by (PutsThis.sent line link given body same) =
          let so = as_they_are (field 12 2 given == pcf_type) (decoded given) given octets same in
          subst IsPlain so.1 so.0
      by (PutsThis.leaving f of same) = absurd cc

-- ---- what is on a wire arrives: its device may hear it, and the world stands again: the record of what becomes of it

-- the octets of what is on a wire
given_same : (b : Bool) (r : Result Pcf PcfRefusal) (given octets : List ℕ) → (if b then control r else timed given) ≡ timed octets → given ≡ octets
given_same true r given octets e = absurd cc
given_same false r given octets e = cc

octets_held : (network : Network) (signal : SignalSent) (octets : List ℕ) → signal_as network signal ≡ timed octets
    → octets_in network (timed_in signal) ≡ octets
octets_held network (signals.Control frame) octets is = absurd cc
octets_held network (signals.Timed own) octets is = cc
octets_held network (signals.Octets given) octets is = given_same (field 12 2 given == pcf_type) (decoded given) given octets is

-- the frame and the octets of the record are those of its cause
pub record IsTold (network other : Network) (hs : List Happening) (device : DeviceId) (link : LinkId) (cause : ℕ) (signal : SignalSent)
    (is : Arrival) : Type 0 where
  pub frame : frame_kept is ≡ frame_by other hs (arrival_body device link cause is)
  pub octets : octets_in network (octets_kept is signal) ≡ octets_by other hs (arrival_body device link cause is)

module _ (network other : Network) (hs : List Happening) (device : DeviceId) (link : LinkId) (cause : ℕ) (signal : SignalSent) where
  told_control : {frame : Pcf} (clock : ℕ) (is : Arrival) → frame_from hs cause ≡ Some frame → frame_kept is ≡ Some (with_clock clock frame)
      → frame_by other hs (arrival_body device link cause is) ≡ option_map (with_clock clock) (frame_from hs cause)
      → frame_kept is ≡ frame_by other hs (arrival_body device link cause is)
  told_control clock is of one two = one ∙ ap (option_map (with_clock clock)) (sym of) ∙ sym two

  told : (node : Node) (moment : Moment) (was_sent : Signal) → signal_as network signal ≡ was_sent
      → ((frame : Pcf) → was_sent ≡ control (Ok frame) → frame_from hs cause ≡ Some frame)
      → ((octets : List ℕ) → was_sent ≡ timed octets → octets_from hs cause ≡ octets)
      → IsTold network other hs device link cause signal (arrival_at other device node moment link was_sent)
  told node moment (control (Err refusal)) as_sent frames octets = record { frame = refl; octets = refl }
  told node moment (control (Ok frame)) as_sent frames octets =
      let of = frames frame refl in
      let clock = clock_on_arrival other link frame in
      control_so (IsTold network other hs device link cause signal) other device link (standpoint_at node moment) frame
      (record {
        dropped = λ reason. record { frame = refl; octets = refl };
        waits = λ point. record { frame = told_control clock (arrivals.Waits (on_arrival other link frame) point) of refl refl; octets = refl };
        passes = λ way. record { frame = told_control clock (arrivals.Passes (on_arrival other link frame) way) of refl refl; octets = refl };
        both = λ way point. record {
          frame = told_control clock (arrivals.PassesAndWaits (on_arrival other link frame) way point) of refl refl;
          octets = refl;
        };
      })
  told node moment (timed given) as_sent frames octets =
      let of = octets_held network signal given as_sent ∙ sym (octets given refl) in
      timed_so (IsTold network other hs device link cause signal) other device link (standpoint_at node moment) given (last_taken_by node)
      (record {
        dropped = λ reason. record { frame = refl; octets = refl };
        accepted = λ vl cycle. record { frame = refl; octets = of };
        delivered = λ vl cycle. record { frame = refl; octets = of };
      })

told_settled : {network other : Network} (now : ℕ) {hs : List Happening} (place : DueAt) {signal : SignalSent}
    {is : Arrival} → IsTold network other hs (record { 0 = place.device })
    (record { 0 = place.link }) place.cause signal is → settled_at network now (arrived place is signal)
    ≡ settled_as other hs now (arrival_body (record { 0 = place.device }) (record { 0 = place.link }) place.cause is)
told_settled now place so = grind (arith, units_of, octets_in, frame_by)

-- the record has its octets, where it needs them
sent_octets : (place : DueAt) (given : _) (is : Arrival) → have_octets (arrived place is (signals.Octets given))
sent_octets place given (arrivals.Dropped reason) = tt
sent_octets place given other = tt

arrival_octets : (network other : Network) (device : DeviceId) (node : Node) (moment : Moment) (place : DueAt) (link : LinkId) (signal : SignalSent)
    → have_octets (arrived place (arrival_at other device node moment link (signal_as network signal)) signal)
arrival_octets network other device node moment place link (signals.Control frame) =
    control_so (λ is. have_octets (arrived place is (signals.Control frame))) other device link
    (standpoint_at node moment) frame
    (record { dropped = λ reason. tt; waits = λ point. tt; passes = λ way. tt; both = λ way point. tt })
arrival_octets network other device node moment place link (signals.Timed own) =
    timed_so (λ is. have_octets (arrived place is (signals.Timed own))) other device link (standpoint_at node moment)
    (octets_of network own)
    (last_taken_by node) (record { dropped = λ reason. tt; accepted = λ vl cycle. tt; delivered = λ vl cycle. tt })
arrival_octets network other device node moment place link (signals.Octets given) =
    sent_octets place given (arrival_at other device node moment link (signal_as network (signals.Octets given)))

-- ---- the moment

pub moment_is : {C : Type 0} (reading : C → ℕ → ℕ) (s : Scenario) (now : ℕ) (device : DeviceId) {own clock : C} {time : Units} (read : Units) → own ≡ clock
    → IsClockOf reading s now device own → time ≡ units_of now → read.0 ≡ pos (reading clock (amount time))
    → record { time = time; reading = read } ≡ moment_of s device now
moment_is reading s now device read same of at reads = grind (arith, units_of, same_units, amount)

-- ---- it may come

module _ {C M : Type 0} (reading : C → ℕ → ℕ) (stands : Meaning (Kept M)) (s : Scenario) (network : Network) (state : State C M)
    (notes : List Note) (old : Stands reading stands s (world_of network state) notes) (place : DueAt) (signal : SignalSent) (rest : List (Entry Content))
    (took : IsPermutation state.under_way.entries (record { place = place; content = Wire signal } ∷ rest)) (kind : place.rank ≡ 2)
    (at : place.at ≡ state.time) where
  abbrev pub hs : List Happening
  hs = happenings s.network notes

  abbrev pub e : OnWire
  e = record {
    at = place.at;
    device = record { 0 = place.device };
    link = record { 0 = place.link };
    cause = place.cause;
    signal = signal_as network signal;
  }

  abbrev taken : Entry Content
  taken = record { place = place; content = Wire signal }

  there : IsIn e (filter_map (on_wire network) state.under_way.entries)
  there = is_given (on_wire network) state.under_way.entries taken e (in_permuted _ _ taken (IsPermutation-sym _ _ took) (inl refl)) refl

  may_come_so : {octets : List ℕ} → AreOctetsOf (signal_as network signal) octets → MayArrive s.network e.device e.link octets
  may_come_so {octets} are =
      may_arrive s hs e octets old.rules (record { ends = old.befallen.sent }) old.run.founded (old.wires.real e there).0 are.is are.least are.most

  -- octets of the schedule are no control frame
  pub as_sent : IsAsSent network signal
  as_sent = by signal (λ octets is. plain_on_wire s hs old.run.founded old.range (old.wires.real e there).0 octets is)
    where
      by : (x : SignalSent) → ((octets : List ℕ) → signal_as network x ≡ timed octets → signal_of octets ≡ timed octets) → IsAsSent network x
      by (signals.Control frame) plain = tt
      by (signals.Timed octets) plain = plain (octets_of network octets) refl
      by (signals.Octets given) plain = tt

  not_gone : IsBefore (state.time ∷ 2 ∷ place.device ∷ place.link ∷ place.cause ∷ []) old.frontier → ⊥
  not_gone before = (old.wires.real e there).2
      (rw at before)

  module _ {machine : Kept M} {moment : Moment} (found : slice_get state.machines.items place.device ≡ Some machine)
      (now : moment ≡ moment_of s e.device state.time) where
    held : IsHeld stands s hs (map (settled_at network state.time) state.settled.items) old.frontier state.time
        e.device machine
    held =
        let own = old.devices e.device (device_there s hs e old.range (old.wires.real e there).0) in
        rw (some_same own.0 machine _ own.1 found) at own.2

    called : (node : Node) (m : Moment) → Type 0
    called node m = MayCall s.network e.device node m arriving

    -- the machine stands for a node that may be called
    node_of : (node : Node) × stands machine s.network e.device node × MayCall s.network e.device node moment arriving
    node_of =
        elim held [
          | inl k ↦ (
            k.node,
            k.is,
            rw now (may_call s old.frontier state.time e.device k.node arriving
                (place.device ∷ place.link ∷ place.cause ∷ []) k.ready k.phase
                (old.steady e.device) old.limit not_gone),
          )
          | inr k ↦ (
            k.node,
            k.is,
            rw now (may_call s old.frontier state.time e.device k.node arriving
                (place.device ∷ place.link ∷ place.cause ∷ []) k.ready k.phase
                (old.steady e.device) old.limit not_gone),
          )
        ]

    -- so it may hear it
    pub may_come : StandsFor stands machine (MayCome (signal_as network signal) moment e.link)
    may_come = (
      s.network,
      e.device,
      node_of.0,
      node_of.1,
      record { call = node_of.2; arrives = λ octets are linked. may_come_so are },
    )

    -- and once it has, its record has its octets
    pub heard_octets : (heard : Kept M) {octets : List ℕ} (result : Arrival) → AreOctetsOf (signal_as network signal) octets
        → ((other : Network) (device : DeviceId) → HasHeard stands other device moment e.link octets result machine heard)
        → have_octets (arrived place result signal)
    heard_octets heard {octets} result are hears =
        let answer : result ≡ arrival_at s.network e.device node_of.0 moment e.link (signal_as network signal) =
        (hears s.network e.device node_of.0 node_of.1 node_of.2 (may_come_so are)).0
        ∙ ap (arrival_at s.network e.device node_of.0 moment e.link) are.is in
        rw answer (arrival_octets network s.network e.device node_of.0 moment place e.link signal)

    -- and it is worked off
    pub heard_turns : (heard : Kept M) {octets : List ℕ} (result : Arrival) (machines : List (Kept M))
        → AreUnderWay network state.under_way.entries → ComesFirst reading stands s (world_of network state) notes old (numbers_of place)
        → AreOctetsOf (signal_as network signal) octets
        → ((other : Network) (device : DeviceId) → HasHeard stands other device moment e.link octets result machine heard)
        → IsSet place.device heard state.machines.items machines
        → (settled_at network state.time (arrived place result signal)
        ≡ settled_as s.network hs state.time (arrival_body e.device e.link e.cause result))
        × TurnsBy reading stands s notes (arrival_body e.device e.link e.cause result ∷ [])
        (record (world_of network state) {
          early = false;
          machines = machines;
          wires = filter_map (on_wire network) rest;
          ports = filter_map at_port rest;
        }) (numbers_of place)
    heard_turns heard {octets} result machines under first are hears set =
        let world = world_of network state in
        let it = (old.wires.real e there).0 in
        let may = may_come_so are in
        let numbers : numbers_of place ≡ wire_place e = rw kind in
        let answer : result ≡ arrival_at s.network e.device node_of.0 moment e.link (signal_as network signal) =
        (hears s.network e.device node_of.0 node_of.1 node_of.2 may).0
        ∙ ap (arrival_at s.network e.device node_of.0 moment e.link) are.is in
        let so : IsTold network s.network hs e.device e.link e.cause signal result =
        subst (IsTold network s.network hs e.device e.link e.cause signal) (sym answer)
        (told network s.network hs e.device e.link e.cause signal node_of.0 moment (signal_as network signal) refl
        (λ frame is. frame_told old.run.founded it frame is) (λ given is. octets_told old.run.founded it given is)) in
        let mid : World C (Kept M) = record world { early = false; machines = machines; wires = filter_map (on_wire network) rest } in
        let turn = heard_turn reading stands s world notes e machine heard octets result machines
        (filter_map (on_wire network) rest) old there at
        (subst (ComesFirst reading stands s world notes old) numbers first) found are.is may
        (rw now at (hears s.network e.device)) set
        (wires_without network state.under_way.entries rest taken under took e refl) in (
          told_settled state.time place so,
          rw numbers (turns_alike reading stands s notes mid mid.wires (filter_map at_port rest) (λ w. (λ i. i, λ i. i))
              (ports_stay network state.under_way.entries rest taken under took refl) turn),
        )

-- ---- what a record of the present instant put on a wire is there still: what is found

-- what has the rank of a wire is on one
wired : (content : Content) → rank_of content ≡ 2 → (signal : Sent) × (content ≡ Wire signal)
wired (Wire signal) is = (signal, refl)
wired (Port frame reading) is = absurd (omega arith)

-- and what is on a wire has its rank, and its cause
of_wire : (network : Network) (place : DueAt) (content : Content) {e : OnWire} → wire_at network place content ≡ Some e
    → (rank_of content ≡ 2) × (e.cause ≡ place.cause)
of_wire network place (Wire signal) is = grind arith
of_wire network place (Port frame reading) is = absurd cc

-- a record behind those of the events of its time is not before them
not_early : (h : Happening) {now : ℕ} → time_of h ≡ now → 2 < rank h.note.body → IsBefore (place_of h) (now ∷ 2 ∷ []) → ⊥
not_early h at behind (inl lt) = omega arith
not_early h at behind (inr (same, inl lt)) = omega arith
not_early h at behind (inr (same, inr (rank_is, none))) = absurd none

-- a place of a later time is not before the next time
not_soon : (t now : ℕ) (more : List ℕ) → now + 1 ≤ t → IsBefore (t ∷ 2 ∷ more) ((now + 1) ∷ []) → ⊥
not_soon t now more late (inl lt) = omega arith
not_soon t now more late (inr (same, none)) = absurd none

received : (network : Network) (launch : Launch) → launch.link.0 < length network.link
    → (device : DeviceId) × (receiver_of network launch.link launch.way ≡ Some device)
received network launch lt =
    let there = some_at network.link launch.link.0 lt in
    (target_by launch.way there.0, ap (option_map (target_by launch.way)) there.1)

module _ {C M : Type 0} {reading : C → ℕ → ℕ} {stands : Meaning (Kept M)} {s : Scenario} {network : Network}
    (state : State C M) {notes : List Note} (is : Stands reading stands s (world_of network state) notes)
    (under_way : AreUnderWay network state.under_way.entries) {number : ℕ} {h : Happening}
    (of : IsOfNow (happenings s.network notes) state.time number h) where
  -- what is found is what the record put there
  found_is : {content : Content} → HoldsAt state.under_way.entries 2 number content
      → (signal : Sent) × (content ≡ Wire signal) × (Some (signal_as network signal) ≡ put_by s h)
  found_is holds =
      let e = holds.entry in
      let wire = wired e.content (sym (under_way.kinds e holds.there) ∙ holds.fits.0) in
      let w : OnWire = record {
        at = e.place.at;
        device = record { 0 = e.place.device };
        link = record { 0 = e.place.link };
        cause = e.place.cause;
        signal = signal_as network wire.0;
      } in
      let there = is_given (on_wire network) state.under_way.entries e w holds.there (ap (wire_at network e.place) wire.1) in
      let real = (is.wires.real w there).0 in
      let own = some_same real.putting h _ real.there (ap (numbered (happenings s.network notes)) holds.fits.1 ∙
      of.there) in
      let put : put_by s real.putting ≡ Some (signal_as network wire.0) =
      ap (option_map (λ l. l.signal)) real.arrives.put in
      (wire.0, sym holds.is ∙ wire.1, sym put ∙ ap (put_by s) own)

  -- and where it put some there, something is found
  some_found : {launch : Launch} → launched s h (time_of h) h.note.body ≡ Some launch → launch.link.0 < length s.network.link
      → HoldsNoneAt state.under_way.entries 2 number → ⊥
  some_found {launch} put within none =
      let to = received s.network launch within in
      let t = time_of h + time_on_port s.network launch.link launch.signal + delay_at s launch.link launch.way (time_of h) in
      let arrives : Arrives s h to.0 launch.link t launch.signal = record { way = launch.way; put = put; receiver = to.1; at = refl } in
      let coming : IsArriving s (happenings s.network notes) t to.0 launch.link number =
      record { putting = h; there = of.there; signal = launch.signal; arrives = arrives } in
      let later = is.forward launch.link launch.way to.0 (time_of h) to.1 in
      let now = of.at in
      let first = is.run.within h (numbered_in (happenings s.network notes) number h of.there) in
      let w = is.wires.all t to.0 launch.link number coming
      (λ pending same. not_early h of.at of.behind (is.untold.early pending (place_of h) first))
      (λ before. not_soon t state.time (to.0.0 ∷ launch.link.0 ∷ number ∷ []) (omega arith)
      (is.not_later (t ∷ 2 ∷ to.0.0 ∷ launch.link.0 ∷ number ∷ []) before)) in
      let given = given_of (on_wire network) state.under_way.entries w.0 w.1 in
      let wire = of_wire network given.0.place given.0.content given.2 in
      none given.0 given.1 (under_way.kinds given.0 given.1 ∙ wire.0, sym wire.1 ∙ cause_of w.0 t to.0 launch.link.0 w.2)
    where
      cause_of : (e : OnWire) (t : ℕ) (device : DeviceId) (link : ℕ) → wire_place e ≡ t ∷ 2 ∷ device.0 ∷ link ∷ number ∷ [] → e.cause ≡ number
      cause_of e t device link same = cc

  none_put : (launch : Option Launch) → launched s h (time_of h) h.note.body ≡ launch → IfSome launch (λ l. l.link.0 < length s.network.link)
      → HoldsNoneAt state.under_way.entries 2 number → None ≡ option_map (λ l. l.signal) launch
  none_put None put own none = refl
  none_put (Some launch) put own none = absurd (some_found put own none)

  -- what is found on a wire is what the record put there
  pub just_put : (found : Option Content) → IfSome found (HoldsAt state.under_way.entries 2 number)
      → IfNone found (HoldsNoneAt state.under_way.entries 2 number) → IsOnOwnLink s h → option_map (signal_as network) (on_wire_in found) ≡ put_by s h
  just_put None some none own = none_put (launched s h (time_of h) h.note.body) refl own none
  just_put (Some content) some none own =
      let it = found_is some in
      rw it.1 it.2

-- ---- as a world shows it

copied_some : {T : Type 0} (P : T → Type 0) (found : Option (Bor T)) → IfSome found (λ c. P c.now) → IfSome (option_copied found) P
copied_some P None h = tt
copied_some P (Some c) h = h

copied_none : {T : Type 0} (X : Type 0) (found : Option (Bor T)) → IfNone found X → IfNone (option_copied found) X
copied_none X None h = h
copied_none X (Some c) h = tt

-- what a world finds on a wire is what the record put there
pub shown_put : {C M : Type 0} {fresh : ℕ → C} {after_step : C → ℕ → ℤ → C} {reading : C → ℕ → ℕ}
    {stands : Meaning M} {own network : Network} (state : State C M)
    {events : List Event} {notes : List Note} {number : ℕ} {h : Happening} → AreUnderWay own state.under_way.entries
    → StandsUnder fresh after_step reading stands network (world_of own state) events notes
    → IsOfNow (happenings network notes) state.time number h
    → IsOnOwnLink (scenario network (reading_of fresh after_step reading network events) events) h
    → (found : Option (Bor Content)) → IfSome found (λ c. HoldsAt state.under_way.entries 2 number c.now)
    → IfNone found (HoldsNoneAt state.under_way.entries 2 number) → (result : Option (Bor Sent))
    → option_copied result ≡ on_wire_in (option_copied found) → option_map (signal_as network) (option_copied result)
    ≡ put_by (scenario network (reading_of fresh after_step reading network events) events) h
shown_put {fresh} {after_step} {reading} {stands} {own} {network} state {events} {notes} {number} {h} under_way st of
    within found some none result is =
    let put = just_put state st.is under_way of (option_copied found)
    (copied_some (HoldsAt state.under_way.entries 2 number) found some) (copied_none (HoldsNoneAt state.under_way.entries 2 number) found none) within in
    ap (λ n. option_map (signal_as n) (option_copied result)) (sym st.is.same) ∙ ap (option_map (signal_as own)) is ∙ put
