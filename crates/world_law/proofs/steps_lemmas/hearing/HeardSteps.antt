-- A frame on a wire arrives: its device hears and judges it, and its record is settled at its place.
use Rattle.run_law.{proofs.runs.{Places.earlier_time, SameSteps.same_arrival}}
use Rattle.run_law.specs.{device.Standpoints.{clock_of, cycle_at}, machines.{Answers.after_arrival, Calls.MayArrive}}
use Rattle.run_law.specs.{timed.Arrivals.{entry_arrival, entry_entering, row_fault, taken_or_fault}}
use Rattle.world_law.{specs.world.Calls.HasHeard}
use Rattle.world_law.proofs.{devices.Working.rested, rows.AtHand.delivered_end}
use Rattle.world_law.proofs.putting.{Moving.{StandsHere, goes_by, kept_moves, shown_still}}
use Rattle.world_law.proofs.putting.{Near.{arrival_near, filter_none, frames_aside, in_placed, standpoint_in}}
use Rattle.world_law.proofs.putting.{Numberless.timed_by}
use Rattle.world_law.proofs.steps_lemmas.hearing.{Calling.may_call}
use Rattle.world_law.proofs.steps_lemmas.hearing.Receptions.{IsBefore2, IsHeardAs, IsQuiet, IsReceived, IsReceiving}
use Rattle.world_law.proofs.steps_lemmas.hearing.Receptions.{IsSooner, IsTakingBy, arrives_now, broken_drops, comes_as}
use Rattle.world_law.proofs.steps_lemmas.hearing.Receptions.{control_judged, device_there, kept_taking, least_rank}
use Rattle.world_law.proofs.steps_lemmas.hearing.Receptions.{out_drops, outcome_at, placed_at, received}
use Rattle.world_law.proofs.steps_lemmas.hearing.Receptions.{same_standpoint, taken_last, taking_is, took}
use Rattle.world_law.proofs.putting.{Placing.{two_at, well_of}, PutIn.split_two, Putting.placing_one}
use Rattle.world_law.proofs.steps_lemmas.Words
use Words.{if◌then◌else◌, ◌++◌, ◌+◌, ◌<◌, ◌==◌, ◌^◌, ◌∙◌, ◌∷◌, ◌≡◌, ◌≤ℤ◌, ◌≤◌, ◌⊎◌, AllBefore, AreOfNetwork, ArePutIn}
use Words.{AreSettled, Arrival, Bool, ComesFirst, DeviceId, Entry, Happening, IsAllOfIt, IsBefore, IsCaused, IsHeld}
use Words.{IsIn, IsKept, IsLeft, IsMoving, IsNoTaking, IsOut, IsOwnSource, IsSet, IsSteady, IsWithout, LinkId, List}
use Words.{Network, Node, None, NoneBefore, Note, NoteBody, OnWire, Option, Pcf, PcfRefusal, Reason, Scenario, Signal}
use Words.{Some, Standpoint, Stands, StandsBehind, TakenFrame, VlId, World, [], amount, ap, append-nil, append_assoc}
use Words.{arith, arrival_at, arrival_body, arrival_of, arriving, bears_on, behind, called, cases_Bool, cases_lt, chain}
use Words.{comes_first, control, control_arrival, devices_then, earlier_still, eq-eqb, eqb-true, false, field, filter}
use Words.{filter-append, frame_fault, frame_or_fault, happenings, held_aside, in_left, in_parts, in_right, inl, inr}
use Words.{is_end, is_last, is_parent_of, is_relay, is_taken_before, key, known_aside, last_or, last_taken}
use Words.{last_taken_by, last_unfollowed, length, members_in, moment_of, moves_no_other, ne_eqb, never_self}
use Words.{no_task_at, octets_or_fault, one_by, option_and_then, parted, place_of, ports_still, pos, rank, refl}
use Words.{signal_of, slice_get, some_same, standpoint, stands_on, subst, sym, taken_cycle, taken_in, time_of, timed}
use Words.{timed_arrival, true, waiting_still, wire_place, wires_move, ℕ, ℤ}
use Rattle.world_law.proofs.steps_lemmas.hearing.{Called.{After, kept_by, kept_called, not_yet_acted, out_called}}
use Rattle.run_law.specs.declared.note.NoteBody.TheVariants as notes
use Rattle.run_law.specs.declared.steps.Arrival.TheVariants as arrivals

-- ---- what becomes of a frame stands at least at the place of its kind, and what becomes of a control frame does not hang on records of its instant

-- ---- ranks

at_two : (device : DeviceId) (link : LinkId) (cause : ℕ) (is : Arrival) → 2 ≤ rank (arrival_body device link cause is)
at_two device link cause (arrivals.Dropped reason) = omega arith
at_two device link cause other = omega arith

low_rank : (b : Bool) → (if b then 12 else 11) ≤ 13
low_rank true = omega arith
low_rank false = omega arith

taking_rank : (device : DeviceId) (link : LinkId) (cause : ℕ) (vl : VlId) (cycle : ℕ) (b : Bool)
    → (if b then 12 else 11) ≤ rank (arrival_body device link cause (if b then arrivals.Delivered vl cycle else arrivals.Accepted vl cycle))
taking_rank device link cause vl cycle true = omega arith
taking_rank device link cause vl cycle false = omega arith

module _ (network : Network) (device : DeviceId) (link : LinkId) (cause : ℕ) (p : Standpoint) where
  row_rank : (entry : Entry) (fault : Option Reason) → (if is_end network device then 12 else 11) ≤ rank
      (arrival_body device link cause (taken_or_fault network device p entry fault))
  row_rank entry (Some reason) = low_rank (is_end network device)
  row_rank entry None =
      taking_rank device link cause entry.row.vl (cycle_at network (clock_of p)) (is_end network device)

  entry_rank : (size : ℕ) (last : VlId → Option ℕ) (entry : Option Entry)
      → (if is_end network device then 12 else 11) ≤ rank
      (arrival_body device link cause (entry_arrival network device p size last entry))
  entry_rank size last None = low_rank (is_end network device)
  entry_rank size last (Some entry) = row_rank entry (row_fault network p entry size (last entry.row.vl))

  octets_rank : (octets : List ℕ) (last : VlId → Option ℕ) (fault : Option Reason)
      → (if is_end network device then 12 else 11) ≤ rank
      (arrival_body device link cause (octets_or_fault network device link p octets last fault))
  octets_rank octets last (Some reason) = low_rank (is_end network device)
  octets_rank octets last None =
      entry_rank (Rattle.std.specs.Prelude.length octets) last (entry_entering network device link (field 4 2 octets))

-- the rank of what becomes of a signal is not below its least
pub rank_is : (s : Scenario) (device : DeviceId) (t : ℕ) (link : LinkId) (cause : ℕ) (signal : Signal) (js : List Happening)
    → least_rank s.network device signal ≤ rank (arrival_body device link cause (arrival_of s js device t link cause signal))
rank_is s device t link cause (control frame) js = at_two device link cause (control_arrival s.network device link (standpoint s js device t) frame)
rank_is s device t link cause (timed octets) js =
    search (arith, octets_rank)

-- ---- what is taken

none_by : (a b : Bool) (up down waits : Arrival) (vl : VlId) (cycle : ℕ) → (up ≡ arrivals.Accepted vl cycle → ⊥) → (down ≡ arrivals.Accepted vl cycle → ⊥)
    → (waits ≡ arrivals.Accepted vl cycle → ⊥) → (if a then (if b then up else down) else waits) ≡ arrivals.Accepted vl cycle → ⊥
none_by true true up down waits vl cycle x y z e = x e
none_by true false up down waits vl cycle x y z e = y e
none_by false b up down waits vl cycle x y z e = z e

module _ (network : Network) (device : DeviceId) (link : LinkId) (p : Standpoint) where
  none_fault : (frame : Pcf) (fault : Option Reason) (vl : VlId) (cycle : ℕ)
      → frame_or_fault network device link p frame fault ≡ arrivals.Accepted vl cycle → ⊥
  none_fault frame (Some reason) vl cycle e = cc
  none_fault frame None vl cycle e =
      none_by (is_relay network device) (is_parent_of network device link) _ _ _ vl cycle (λ x. cc) (λ x. cc)
      (λ x. cc) e

  none_control : (frame : Rattle.std.specs.Prelude.Result Pcf PcfRefusal) (vl : VlId) (cycle : ℕ)
      → control_arrival network device link p frame ≡ arrivals.Accepted vl cycle → ⊥
  none_control (Rattle.std.specs.Prelude.Err refusal) vl cycle e = cc
  none_control (Rattle.std.specs.Prelude.Ok frame) vl cycle e =
      none_fault frame (frame_fault network device link p frame) vl cycle e

-- what is accepted is so at a switch
pub accepted_high : (s : Scenario) (device : DeviceId) (t : ℕ) (link : LinkId) (cause : ℕ) (signal : Signal) (js : List Happening) (vl : VlId) (cycle : ℕ)
    → arrival_of s js device t link cause signal ≡ arrivals.Accepted vl cycle → (if is_end s.network device then 12 else 11) ≤ 11
accepted_high s device t link cause (control frame) js vl cycle e = absurd (none_control s.network device link (standpoint s js device t) frame vl cycle e)
accepted_high s device t link cause (timed octets) js vl cycle e =
    rw e at (rank_is s device t link cause (timed octets) js)

pub delivered_high : (network : Network) (device : DeviceId) → (if is_end network device then 12 else 11) ≤ 12
delivered_high network device = grind (arith, is_end)

-- ---- records of the instant do not change where a device stands

module _ (s : Scenario) (hs zs : List Happening) (device : DeviceId) (t : ℕ) where
  pub standpoint_still : ((z : Happening) → IsIn z zs → t ≤ time_of z)
      → standpoint s (hs ++ zs) device t ≡ standpoint s hs device t
  standpoint_still late = ap (standpoint_in s device t) (earlier_still t hs zs late)

  pub control_still : (link : LinkId) (cause : ℕ) (frame : Rattle.std.specs.Prelude.Result Pcf PcfRefusal)
      → ((z : Happening) → IsIn z zs → t ≤ time_of z) → arrival_of s (hs ++ zs) device t link cause (control frame)
      ≡ arrival_of s hs device t link cause (control frame)
  control_still link cause frame late =
      rw (standpoint_still late)

-- ---- the record of an arrival is put in, and the frontier goes by it: what is to come is settled

-- nothing follows its record
last_body : (device : DeviceId) (link : LinkId) (cause : ℕ) (is : Arrival) → is_last (arrival_body device link cause is) ≡ true
last_body device link cause (arrivals.Dropped reason) = refl
last_body device link cause other = refl

module _ {s : Scenario} {hs front back : List Happening} {now : ℕ} {e : OnWire} {is : Arrival} {w : Happening}
    (p : IsReceiving s hs front back now e is w) where
  -- the frame is judged with it as without it
  judged_put : (c d : List Happening) → back ≡ c ++ d → arrival_of s (hs ++ (front ++ c)) e.device now e.link e.cause e.signal
      ≡ arrival_of s (hs ++ (front ++ w ∷ c)) e.device now e.link e.cause e.signal
  judged_put c d whole =
      let near = two_at (well_of p.one.moving)
      (placing_one p.one) {t = now} c d whole refl in
      arrival_near s (hs ++ (front ++ c)) (hs ++ (front ++ w ∷ c)) now e.device e.link e.cause e.signal near.before
      (λ vl. near.taken e.device e.link e.cause vl (never_self (now ∷ 2 ∷ (e.device.0 ∷ e.link.0 ∷ e.cause ∷ []))))

  -- all that comes of the arrival is at the record's place
  all_of_arrival : IsAllOfIt s hs (front ++ w ∷ back) (now ∷ 2 ∷ e.device.0 ∷ e.link.0 ∷ e.cause ∷ [])
  all_of_arrival f rest y whole before none due own =
      let c = comes_as s (hs ++ f) now e (time_of y) (members_in y) y.note.body own y.note.time refl due.cause in
      let c_is =
      same_arrival c.so (arrives_now f {is = _} p.wire p.arrives refl) in
      let r = rank (arrival_body e.device e.link e.cause c.is) in
      let high : least_rank s.network e.device e.signal ≤ r =
      rw c_is (rank_is s e.device now e.link e.cause e.signal (hs ++ f)) in
      let none_at : NoneBefore place_of rest (now ∷ r ∷ e.device.0 ∷ e.link.0 ∷ e.cause ∷ []) =
      subst (λ q. NoneBefore place_of rest q) (sym c.place) none in
      let so : is ≡ arrival_of s (hs ++ f) e.device now e.link e.cause e.signal = elim (split_two front back w f rest whole) [
        | inl it ↦
            p.so f (it.0 ++ back) r (rw it.1 (append_assoc f it.0 back))
            (λ z i. none_at z (rw it.2 (in_placed it.0 back w z i))) high
        | inr it ↦
            p.so (front ++ it.0) rest r (rw it.2 (sym (append_assoc front it.0 rest))) none_at high
            ∙ judged_put it.0 rest it.2
            ∙ (rw (sym it.1))
      ] in (
        w,
        in_right w front (w ∷ back) (inl refl),
        placed_at e is w p.one.at p.body ∙ outcome_at f p.wire p.arrives so c,
      )

  pub arrival_put : AreSettled s hs (front ++ w ∷ back) (now ∷ 2 ∷ e.device.0 ∷ e.link.0 ∷ e.cause ∷ [])
      (behind (now ∷ 2 ∷ e.device.0 ∷ e.link.0 ∷ e.cause ∷ [])) now
  arrival_put =
      one_by p.one
      (last_unfollowed s hs now w.note.body (ap is_last p.body ∙ last_body e.device e.link e.cause is))
      all_of_arrival

-- ---- a time-triggered frame that arrives is judged by what its device took before

-- ---- what the device took comes before the arrival

-- what a step that hears a frame starts from, with what is before the frontier
pub record IsAfterGiven (s : Scenario) (hs coming : List Happening) (now : ℕ) (e : OnWire) : Type 0 where
  pub moving : IsMoving s hs coming now 2 (e.device.0 ∷ e.link.0 ∷ e.cause ∷ [])
  pub within : AllBefore place_of hs (now ∷ 2 ∷ e.device.0 ∷ e.link.0 ∷ e.cause ∷ [])

given_time : {s : Scenario} {hs coming : List Happening} {now : ℕ} {e : OnWire}
    → IsAfterGiven s hs coming now e → (h : Happening) → IsIn h hs → 2 < rank h.note.body
    → time_of h < now
given_time {now} {e} a h i high =
    search arith

module _ {s : Scenario} {hs coming : List Happening} {now : ℕ} {e : OnWire}
    (a : IsAfterGiven s hs coming now e) (h : Happening) (i : IsIn h hs) where
  -- no record that is given is later
  pub given_by_now : time_of h ≤ now
  given_by_now = grind (arith, place_of, earlier_time, time_of, rank, key, members_in)

  given_sooner : (body : NoteBody) → h.note.body ≡ body → IsSooner e.device now e.link e.cause h body
  given_sooner (notes.Accepted other by from vl cycle) is = grind (arith, rank, given_time)
  given_sooner (notes.Delivered other by from vl cycle) is = grind (arith, rank, given_time)
  given_sooner other is = tt

-- of one device and one time, the source by the link and cause is before the other
source_sooner : {now t : ℕ} {device other : ℕ} (link by cause from : ℕ) → t ≡ now → other ≡ device
    → IsBefore (t ∷ 2 ∷ other ∷ by ∷ from ∷ []) (now ∷ 2 ∷ device ∷ link ∷ cause ∷ []) → (by < link) ⊎ ((by ≡ link) × (from < cause))
source_sooner link by cause from at same (inl lt) = absurd (omega arith)
source_sooner link by cause from at same (inr (e, inl lt)) = absurd (omega arith)
source_sooner link by cause from at same (inr (e, inr (f, inl lt))) = absurd (omega arith)
source_sooner link by cause from at same (inr (e, inr (f, inr (g, inl lt)))) = inl lt
source_sooner link by cause from at same (inr (e, inr (f, inr (g, inr (h, inl lt))))) = inr (h, lt)
source_sooner link by cause from at same (inr (e, inr (f, inr (g, inr (h, inr (k, none)))))) = absurd none

module _ {s : Scenario} {hs coming : List Happening} {now : ℕ} {e : OnWire}
    (a : IsAfterGiven s hs coming now e) where
  coming_sooner : (z : Happening) → IsIn z coming → {other : DeviceId} (by : LinkId) (from : ℕ)
      → ((js : List Happening) (w : List ℕ) → IsOwnSource s js (time_of z) (members_in z) z.note.body w
      → w ≡ time_of z ∷ 2 ∷ other.0 ∷ by.0 ∷ from ∷ []) → e.device ≡ other → IsBefore2 by from e.link e.cause
  coming_sooner z i {other} by from source same =
      search (arith, parted, source_sooner)

  come_sooner : (z : Happening) → IsIn z coming → (body : NoteBody) → z.note.body ≡ body
      → IsSooner e.device now e.link e.cause z body
  come_sooner z i (notes.Accepted other by from vl cycle) is = λ same.
      inr (
        a.moving.are.of_now z i,
        coming_sooner z i by from
            (λ js w o. rw is at o) same,
      )
  come_sooner z i (notes.Delivered other by from vl cycle) is = λ same.
      inr (
        a.moving.are.of_now z i,
        coming_sooner z i by from
            (λ js w o. rw is at o) same,
      )
  come_sooner z i other is = tt

  all_sooner : (h : Happening) → IsIn h (hs ++ coming) → IsSooner e.device now e.link e.cause h h.note.body
  all_sooner h i =
      elim (in_parts h hs coming i) [
        | inl old ↦ given_sooner a h old h.note.body refl
        | inr new ↦ come_sooner h new h.note.body refl
      ]

-- ---- a sound device judges it as the records say

pub kept_judges : {M : Type 0} {stands : M → Network → DeviceId → Node → Type 0} {s : Scenario}
    {hs coming : List Happening} {now : ℕ} {e : OnWire} {machine : M} (signal : Signal)
    → IsAfterGiven s hs coming now e → (k : IsKept stands s hs coming (now ∷ 2 ∷ e.device.0 ∷ e.link.0 ∷ e.cause ∷ []) now e.device machine)
    → arrival_at s.network e.device k.node (moment_of s e.device now) e.link signal
    ≡ arrival_of s (hs ++ coming) e.device now e.link e.cause signal
kept_judges {stands} {s} {hs} {coming} {now} {e} signal a k =
    let here = now ∷ 2 ∷ e.device.0 ∷ e.link.0 ∷ e.cause ∷ [] in
    let up = not_yet_acted stands (e.device.0 ∷ e.link.0 ∷ e.cause ∷ []) k (never_self here) in
    by (rw up at k.left) signal
  where
    by : IsLeft s (hs ++ coming) e.device now k.node → (signal : Signal)
        → arrival_at s.network e.device k.node (moment_of s e.device now) e.link signal ≡ arrival_of s (hs ++ coming) e.device now e.link e.cause signal
    by left (control frame) =
        control_judged (moment_of s e.device now) e.link e.cause frame left (record { time = refl; reading = refl })
    by left (timed octets) =
        ap (λ p. timed_arrival s.network e.device e.link p octets (last_taken_by k.node))
        (same_standpoint (moment_of s e.device now) left (record { time = refl; reading = refl }))
        ∙ timed_by s e.device e.link (standpoint s (hs ++ coming) e.device now) octets (last_taken_by k.node)
        (last_taken (hs ++ coming) e.device now e.link e.cause)
        (taken_last s (hs ++ coming) e.device now e.link e.cause k.node k.taken
        (λ vl h i. taking_is e.device vl now e.link e.cause h h.note.body (all_sooner a h i)))

-- ---- and as those say that leave none before its place

place_sooner : {now t : ℕ} (r k : ℕ) (device other link by cause from : ℕ) → t ≡ now → device ≡ other → k ≤ r
    → (by < link) ⊎ ((by ≡ link) × (from < cause))
    → IsBefore (t ∷ k ∷ other ∷ by ∷ from ∷ []) (now ∷ r ∷ device ∷ link ∷ cause ∷ [])
place_sooner r k device other link by cause from at same le before = grind (arith, cases_lt)

-- a taking of the device by what is left would stand before it
at_least_low : (b : Bool) (r : ℕ) → (if b then 12 else 11) ≤ r → 11 ≤ r
at_least_low true r le = omega arith
at_least_low false r le = le

abbrev IsApart : DeviceId → NoteBody → Type 0
IsApart device (notes.Accepted other by from vl cycle) = (device.0 == other.0) ≡ false
IsApart device (notes.Delivered other by from vl cycle) = (device.0 == other.0) ≡ false
IsApart device other = Unit {0}

apart : {s : Scenario} {hs coming : List Happening} {now : ℕ} {e : OnWire}
    → IsAfterGiven s hs coming now e → (z : Happening) → IsIn z coming → (r : ℕ)
    → (IsBefore (place_of z) (now ∷ r ∷ e.device.0 ∷ e.link.0 ∷ e.cause ∷ []) → ⊥)
    → (if is_end s.network e.device then 12 else 11) ≤ r → (body : NoteBody) → z.note.body ≡ body
    → IsApart e.device body
apart {s} {now} {e} a z i r none high (notes.Accepted other by from of_vl cycle) is =
    elim (cases_Bool (e.device.0 == other.0)) [
      | inr other_one ↦ other_one
      | inl same ↦
          let one : e.device ≡ other = rw (eqb-true e.device.0 other.0 same) in
          let sooner = coming_sooner a z i by from
          (λ js w o. rw is at o) one in
          let low = at_least_low (is_end s.network e.device) r high in
          absurd (none (rw is (place_sooner r 11 e.device.0 other.0 e.link.0 by.0 e.cause from (a.moving.are.of_now z i)
          (rw one) low
          sooner)))
    ]
apart {s} {hs} {coming} {now} {e} a z i r none high (notes.Delivered other by from of_vl cycle) is =
    elim (cases_Bool (e.device.0 == other.0)) [
      | inr other_one ↦ other_one
      | inl same ↦
          let one : e.device ≡ other = rw (eqb-true e.device.0 other.0 same) in
          let sooner = coming_sooner a z i by from
          (λ js w o. rw is at o) one in
          let split = parted z coming i in
          let due = (a.moving.are.founded split.0 split.1 z split.2).1 in
          let caused : IsCaused s (hs ++ split.0) z.note.time (notes.Delivered other by from of_vl cycle) =
          subst (IsCaused s (hs ++ split.0) z.note.time) is due.cause in
          let end : is_end s.network e.device ≡ true = ap (is_end s.network) one ∙ delivered_end s (hs ++ split.0) other (time_of z) by from of_vl cycle caused
          in
          let low : 12 ≤ r = rw end at high in
          absurd (none (rw is (place_sooner r 12 e.device.0 other.0 e.link.0 by.0 e.cause from (a.moving.are.of_now z i)
          (rw one) low
          sooner)))
    ]
apart a z i r none high other is = tt

not_by : (device : DeviceId) (vl : VlId) (t : ℕ) (link : LinkId) (cause at : ℕ) (body : NoteBody) → IsApart device body
    → is_taken_before device vl t link cause at body ≡ false
not_by device vl t link cause at (notes.Accepted other by from of_vl cycle) e =
    rw e
not_by device vl t link cause at (notes.Delivered other by from of_vl cycle) e =
    rw e
not_by device vl t link cause at other e = refl

takes_not : (device : DeviceId) (body : NoteBody) → IsApart device body → IsNoTaking device body
takes_not device (notes.Accepted other by from of_vl cycle) e = λ at. rw e
takes_not device (notes.Delivered other by from of_vl cycle) e = λ at. rw e
takes_not device other e = λ at. refl

module _ {s : Scenario} {hs coming : List Happening} {now : ℕ} {e : OnWire}
    (a : IsAfterGiven s hs coming now e) where
  -- so it takes none by what is left
  pub no_taking : (z : Happening) → IsIn z coming → (r : ℕ)
      → (IsBefore (place_of z) (now ∷ r ∷ e.device.0 ∷ e.link.0 ∷ e.cause ∷ []) → ⊥)
      → (if is_end s.network e.device then 12 else 11) ≤ r → IsNoTaking e.device z.note.body
  no_taking z i r none high =
      takes_not e.device z.note.body (apart a z i r none high z.note.body refl)

  last_still : (f rest : List Happening) (r : ℕ) → coming ≡ f ++ rest
      → NoneBefore place_of rest (now ∷ r ∷ e.device.0 ∷ e.link.0 ∷ e.cause ∷ [])
      → (if is_end s.network e.device then 12 else 11) ≤ r → (vl : VlId)
      → last_taken (hs ++ coming) e.device now e.link e.cause vl ≡ last_taken (hs ++ f) e.device now e.link e.cause vl
  last_still f rest r whole none high vl =
      let q = λ (h : Happening). is_taken_before e.device vl now e.link e.cause (time_of h) h.note.body in
      let gone =
      filter_none q rest (λ z i. not_by e.device vl now e.link e.cause (time_of z) z.note.body
      (apart a z (rw whole (in_right z f rest i)) r (none z i) high
      z.note.body refl))
      in
      ap (λ l. option_and_then (λ h. taken_cycle h.note.body) (last_or None l))
      (ap (λ l. filter q (hs ++ l)) whole ∙ ap (filter q) (sym (append_assoc hs f rest))
      ∙ filter-append q (hs ++ f) rest
      ∙ ap (λ l. filter q (hs ++ f) ++ l) gone ∙ append-nil (filter q (hs ++ f)))

  pub heard_as_all : IsHeardAs s hs coming now e (arrival_of s (hs ++ coming) e.device now e.link e.cause e.signal)
  heard_as_all f rest r whole none high = by e.signal high
    where
      late_all : (z : Happening) → IsIn z coming → now ≤ time_of z
      late_all z i = omega arith

      late : (z : Happening) → IsIn z f → now ≤ time_of z
      late z i = late_all z (rw whole (in_left z f rest i))

      by : (signal : Signal) → least_rank s.network e.device signal ≤ r
          → arrival_of s (hs ++ coming) e.device now e.link e.cause signal ≡ arrival_of s (hs ++ f) e.device now
          e.link e.cause signal
      by (control frame) high =
          control_still s hs coming e.device now e.link e.cause frame late_all ∙ sym
          (control_still s hs f e.device now e.link e.cause frame late)
      by (timed octets) high =
          ap (λ p. timed_arrival s.network e.device e.link p octets
          (last_taken (hs ++ coming) e.device now e.link e.cause))
          (standpoint_still s hs coming e.device now late_all ∙ sym (standpoint_still s hs f e.device now late))
          ∙ timed_by s e.device e.link (standpoint s (hs ++ f) e.device now) octets
          (last_taken (hs ++ coming) e.device now e.link e.cause)
          (last_taken (hs ++ f) e.device now e.link e.cause)
          (last_still f rest r whole none high)

-- ---- a frame on a wire arrives, and its device's machine hears it

-- A frame arrives: the world stands behind it, where its devices do.

wire_at : (e : OnWire) {now : ℕ} → e.at ≡ now → wire_place e ≡ now ∷ 2 ∷ e.device.0 ∷ e.link.0 ∷ e.cause ∷ []
wire_at e at = rw at

module _ {C M : Type 0} (reading : C → ℕ → ℕ) (stands : M → Network → DeviceId → Node → Type 0) (s : Scenario)
    (world : World C M) (notes : List Note) (e : OnWire) where
  -- the frame is the first source
  pub arriving_first : {old : Stands reading stands s world notes} → IsIn e world.wires → e.at ≡ world.now
      → ComesFirst reading stands s world notes old (wire_place e)
      → StandsHere reading stands s world notes 2 (e.device.0 ∷ e.link.0 ∷ e.cause ∷ [])
  arriving_first {old} i at first =
      comes_first old 2 (e.device.0 ∷ e.link.0 ∷ e.cause ∷ []) (inr (refl, inr (refl, tt))) (wire_at e at)
      (old.wires.real e i).2 first

  abbrev hs_of : List Happening
  hs_of = happenings s.network notes

  abbrev wire_here : List ℕ
  wire_here = world.now ∷ 2 ∷ e.device.0 ∷ e.link.0 ∷ e.cause ∷ []

  -- the world stands behind it, where what is settled then and its devices do
  pub heard_behind : (machines : List M) (wires : List OnWire) {settled : List Happening}
      {old : Stands reading stands s world notes} → IsIn e world.wires → e.at ≡ world.now
      → ComesFirst reading stands s world notes old (wire_place e)
      → IsWithout wire_place (wire_place e) world.wires wires → length settled ≡ length world.settled + 1
      → AreSettled s hs_of settled wire_here (behind wire_here) world.now → AreOfNetwork s (hs_of ++ settled)
      → ((device : DeviceId) → device.0 < length s.network.device
      → (machine : M) × (slice_get machines device.0 ≡ Some machine)
      × IsHeld stands s hs_of settled (behind wire_here) world.now device machine)
      → StandsBehind reading stands s
      (record world { early = false; machines = machines; wires = wires; settled = settled }) notes wire_here
  heard_behind machines wires {old} i at first without long are known devices =
      let c = arriving_first i at first in
      stands_on c machines world.shown (omega arith) are known devices
      (wires_move (goes_by s hs_of wire_here) wires c.wires
      (rw (wire_at e at) at without))
      (ports_still c (λ eight. omega arith)) (waiting_still c (λ three. omega arith))
      (shown_still c (omega arith))

  -- its record is put in
  pub heard_put : (settled : List Happening) (is : Arrival) {old : Stands reading stands s world notes}
      → IsIn e world.wires → e.at ≡ world.now → ComesFirst reading stands s world notes old (wire_place e)
      → IsHeardAs s hs_of world.settled world.now e is
      → ((js : List Happening)
      → least_rank s.network e.device e.signal ≤ rank (arrival_body e.device e.link e.cause (arrival_of s js e.device
      world.now e.link e.cause e.signal)))
      → ArePutIn s.network hs_of world.now (arrival_body e.device e.link e.cause is ∷ []) world.settled settled
      → IsReceived s hs_of world.settled world.now e is settled
  heard_put settled is {old} i at first so least (mid, put, last) =
      received is
      (arriving_first i at first).moving old.run.founded (old.wires.real e i).0 at so least
      (rw last put)

-- A frame arrives at its device: it is judged as the records say, and each device is kept behind it.

-- ---- the devices

after_here : (s : Scenario) (now : ℕ) (e : OnWire) (p : List ℕ) → IsBefore p (now ∷ 2 ∷ [])
    → IsBefore p (behind (now ∷ 2 ∷ e.device.0 ∷ e.link.0 ∷ e.cause ∷ []))
after_here s now e p b = chain p (now ∷ 2 ∷ []) (behind (now ∷ 2 ∷ e.device.0 ∷ e.link.0 ∷ e.cause ∷ [])) b (inr (refl, inr (refl, tt)))

-- what a call of the device ensures
pub record IsHearingIt {M : Type 0} (stands : M → Network → DeviceId → Node → Type 0) (s : Scenario) (hs coming : List Happening)
    (now : ℕ)
    (e : OnWire) (machine heard : M) (octets : List ℕ) (result : Arrival) : Type 0 where
  pub given : IsAfterGiven s hs coming now e
  pub precise : pos 0 ≤ℤ s.network.precision.0
  pub steady : IsSteady (s.reading e.device) (amount s.network.precision)
  pub limit : now ≤ 2 ^ 60
  pub octets_of : signal_of octets ≡ e.signal
  pub may : MayArrive s.network e.device e.link octets
  pub hears : HasHeard stands s.network e.device (moment_of s e.device now) e.link octets result machine heard

module _ {M : Type 0} {stands : M → Network → DeviceId → Node → Type 0} {s : Scenario} {hs coming : List Happening}
    {now : ℕ} {e : OnWire} {machine heard : M} {octets : List ℕ} {result : Arrival} where
  -- a broken device drops it, as the records say, and is kept
  pub out_heard : IsHearingIt stands s hs coming now e machine heard octets result
      → IsOut stands s hs coming (now ∷ 2 ∷ e.device.0 ∷ e.link.0 ∷ e.cause ∷ []) now e.device machine
      → (result ≡ arrival_of s (hs ++ coming) e.device now e.link e.cause e.signal)
      × IsOut stands s hs coming (behind (now ∷ 2 ∷ e.device.0 ∷ e.link.0 ∷ e.cause ∷ [])) now e.device heard
  out_heard h k =
      let more = e.device.0 ∷ e.link.0 ∷ e.cause ∷ [] in
      let m = moment_of s e.device now in
      let here = now ∷ 2 ∷ more in
      let call = may_call s here now e.device k.node arriving more k.ready k.phase h.steady h.limit (never_self here) in
      let so = h.hears k.node k.is call h.may in
      let drops = so.0 ∙ out_drops s.network e.device k.node m e.link (signal_of octets) k.shows in (
        drops ∙ sym (broken_drops s (hs ++ coming) e.device now e.link e.cause e.signal k.broken),
        out_called stands (behind here) heard arriving k (rw drops at so.1) (after_here s now e),
      )

  -- a sound device judges it as the records say
  pub kept_answers : IsHearingIt stands s hs coming now e machine heard octets result
      → (k : IsKept stands s hs coming (now ∷ 2 ∷ e.device.0 ∷ e.link.0 ∷ e.cause ∷ []) now e.device machine)
      → (result ≡ arrival_of s (hs ++ coming) e.device now e.link e.cause e.signal) × stands heard s.network e.device
      (called (moment_of s e.device now) arriving (after_arrival k.node (moment_of s e.device now) result))
  kept_answers h k =
      let m = moment_of s e.device now in
      let here = now ∷ 2 ∷ e.device.0 ∷ e.link.0 ∷ e.cause ∷ [] in
      let call = may_call s here now e.device k.node arriving (e.device.0 ∷ e.link.0 ∷ e.cause ∷ []) k.ready
      k.phase h.steady h.limit (never_self here) in
      let so = h.hears k.node k.is call h.may in (
        so.0
            ∙ (rw h.octets_of
            (kept_judges e.signal h.given k)),
        so.1,
      )

  -- and so does each that is held
  pub held_answers : IsHearingIt stands s hs coming now e machine heard octets result
      → IsHeld stands s hs coming (now ∷ 2 ∷ e.device.0 ∷ e.link.0 ∷ e.cause ∷ []) now e.device machine
      → result ≡ arrival_of s (hs ++ coming) e.device now e.link e.cause e.signal
  held_answers h (inl k) =
      (kept_answers h k).0
  held_answers h (inr k) =
      (out_heard h k).0

-- ---- the record bears on no device

module _ (device of : DeviceId) (link : LinkId) (cause : ℕ) where
  quiet_body : (is : Arrival) → bears_on device (arrival_body of link cause is) ≡ false
  quiet_body (arrivals.Dropped reason) = refl
  quiet_body other = refl

  -- and another device takes nothing by it
  pub others_take : (is : Arrival) → (device.0 == of.0) ≡ false → IsNoTaking device (arrival_body of link cause is)
  others_take (arrivals.Accepted vl cycle) e =
      λ at. rw e
  others_take (arrivals.Delivered vl cycle) e =
      λ at. rw e
  others_take other e = λ at. refl

pub quiet_for : {M : Type 0} (stands : M → Network → DeviceId → Node → Type 0) {s : Scenario}
    {hs front back : List Happening} {now : ℕ} {e : OnWire} {is : Arrival} {w : Happening}
    → IsAfterGiven s hs (front ++ back) now e → IsReceiving s hs front back now e is w
    → (device : DeviceId) → IsQuiet hs front back w device
quiet_for stands {hs} {front} {back} {e} {is} a r device = record {
  bears = ap (bears_on device) r.body ∙ quiet_body device e.device e.link e.cause is;
  sooner = λ h i.
      elim (in_parts h hs (front ++ back) i) [
        | inl old ↦ omega arith
        | inr new ↦ omega arith
      ];
}

-- ---- the device that heard it

-- no act is before what follows an arrival
four_after : (now d : ℕ) (more : List ℕ) → IsBefore (now ∷ 4 ∷ d ∷ []) (now ∷ 2 ∷ more) → ⊥
four_after now d more (inl lt) = omega arith
four_after now d more (inr (e, inl lt)) = omega arith
four_after now d more (inr (e, inr (f, b))) = omega arith

longer_place : (now a b c : ℕ) → now ∷ 2 ∷ [] ≡ now ∷ 2 ∷ a ∷ b ∷ c ∷ [] → ⊥
longer_place now a b c e = cc

-- it takes nothing
plain_there : {M : Type 0} {stands : M → Network → DeviceId → Node → Type 0} {s : Scenario}
    {hs front back : List Happening} {now : ℕ} (e : OnWire) {machine : M} (heard : M)
    {w : Happening} → IsQuiet hs front back w e.device → time_of w ≡ now → IsNoTaking e.device w.note.body
    → (k : IsKept stands s hs (front ++ back) (now ∷ 2 ∷ e.device.0 ∷ e.link.0 ∷ e.cause ∷ []) now e.device machine)
    → stands heard s.network e.device (called (moment_of s e.device now) arriving k.node)
    → IsHeld stands s hs (front ++ w ∷ back) (behind (now ∷ 2 ∷ e.device.0 ∷ e.link.0 ∷ e.cause
    ∷ [])) now e.device heard
plain_there {stands} {s} {hs} {front} {back} {now} e heard {w} quiet at none k is =
    let more = e.device.0 ∷ e.link.0 ∷ e.cause ∷ [] in
    let by = After stands heard (called (moment_of s e.device now) arriving) in
    let on = kept_moves (goes_by s hs (now ∷ 2 ∷ more)) (longer_place now e.device.0 e.link.0 e.cause)
    (no_task_at s.network now e.device 2 more (inl (omega arith))) (kept_by by k is) in
    held_aside s hs front back w e.device quiet.bears at (frames_aside s hs front back w e.device quiet.bears none)
    (inl (kept_called stands heard arriving on (after_here s now e)))

-- no place behind it, and before what acts, is before the frontier
not_over : (now d : ℕ) (more : List ℕ) → IsBefore (now ∷ 2 ∷ (d + 1) ∷ []) (now ∷ 2 ∷ d ∷ more) → ⊥
not_over now d more (inl lt) = omega arith
not_over now d more (inr (e, inl lt)) = omega arith
not_over now d more (inr (e, inr (f, inl lt))) = omega arith
not_over now d more (inr (e, inr (f, inr (g, b)))) = omega arith

module _ {M : Type 0} (stands : M → Network → DeviceId → Node → Type 0) {s : Scenario}
    {hs front back : List Happening} {now : ℕ} (e : OnWire) where
  -- it takes a frame
  taken_there : {machine : M} (heard : M) {w : Happening} {vl : VlId} {cycle : ℕ}
      → IsTakingBy s hs front back now w e.device vl cycle
      → IsSteady (s.reading e.device) (amount s.network.precision) → pos 0 ≤ℤ s.network.precision.0
      → (k : IsKept stands s hs (front ++ back) (now ∷ 2 ∷ e.device.0 ∷ e.link.0 ∷ e.cause ∷ []) now e.device machine)
      → stands heard s.network e.device (took (moment_of s e.device now) vl cycle k.node)
      → IsHeld stands s hs (front ++ w ∷ back) (behind (now ∷ 2 ∷ e.device.0 ∷ e.link.0 ∷ e.cause
      ∷ [])) now e.device heard
  taken_there heard {vl} {cycle} taking steady precise k is =
      let more = e.device.0 ∷ e.link.0 ∷ e.cause ∷ [] in
      let over = e.link.0 ∷ e.cause ∷ 0 ∷ [] in
      let by = After stands heard (took (moment_of s e.device now) vl cycle) in
      let on = kept_moves (goes_by s hs (now ∷ 2 ∷ more)) (longer_place now e.device.0 e.link.0 e.cause)
      (no_task_at s.network now e.device 2 more (inl (omega arith))) (kept_by by k is) in
      let up : on.up ≡ now = elim on.acted [
        | inl still ↦ still.0
        | inr gone ↦ absurd (not_over now e.device.0 over
            (gone.1 (now ∷ 2 ∷ (e.device.0 + 1) ∷ []) (inr (refl, inl (omega arith)))))
      ] in
      let rests = rested now on.worked (omega arith) (four_after now e.device.0 (e.device.0 ∷ over)) in
      inl (kept_taking stands heard taking steady precise (after_here s now e) on up
      rests)

  taking_by : {is : Arrival} {w : Happening} (vl : VlId) (cycle : ℕ)
      → IsAfterGiven s hs (front ++ back) now e → IsReceiving s hs front back now e is w
      → (if is_end s.network e.device then 12 else 11) ≤ rank (arrival_body e.device e.link e.cause is)
      → ((z : _) → taken_in e.device z (arrival_body e.device e.link e.cause is)
      ≡ record { vl = vl; cycle = cycle; at = z } ∷ []) → IsTakingBy s hs front back now w e.device vl cycle
  taking_by {is} {w} vl cycle a r high takes = record {
    quiet = quiet_for stands a r e.device;
    at = r.one.at;
    takes = λ z. ap (taken_in e.device z) r.body ∙ takes z;
    behind = λ h i.
        no_taking a h (in_right h front back i) (rank (arrival_body e.device e.link e.cause is))
        (subst (λ q. IsBefore (place_of h) q → ⊥) (placed_at e is w r.one.at r.body) (r.one.none h i)) high;
  }

abbrev frame_of : VlId → ℕ → ℤ → TakenFrame
frame_of vl cycle z = record { vl = vl; cycle = cycle; at = z }

self_takes : (device : DeviceId) (vl : VlId) (cycle : ℕ) (z : ℤ) → (if device.0 == device.0 then frame_of vl cycle z ∷ [] else []) ≡ frame_of vl cycle z ∷ []
self_takes device vl cycle z = rw (eq-eqb device.0 device.0 refl)

module _ {M : Type 0} (stands : M → Network → DeviceId → Node → Type 0) {s : Scenario}
    {hs front back : List Happening} {now : ℕ} {e : OnWire} (machine heard : M)
    (octets : List ℕ) (result : Arrival) where
  kept_there : (is : Arrival) {w : Happening} → IsHearingIt stands s hs
      (front ++ back) now e machine heard octets result
      → IsReceiving s hs front back now e is w
      → is ≡ arrival_of s (hs ++ (front ++ back)) e.device now e.link e.cause e.signal
      → (k : IsKept stands s hs (front ++ back) (now ∷ 2 ∷ e.device.0 ∷ e.link.0 ∷ e.cause ∷ []) now e.device machine) → stands heard s.network e.device
      (called (moment_of s e.device now) arriving (after_arrival k.node (moment_of s e.device now) is))
      → IsHeld stands s hs (front ++ w ∷ back) (behind (now ∷ 2 ∷ e.device.0 ∷ e.link.0 ∷ e.cause
      ∷ [])) now e.device heard
  kept_there (arrivals.Accepted vl cycle) h r so k is =
      taken_there stands e heard
      (taking_by stands e vl cycle h.given r
      (accepted_high s e.device now e.link e.cause e.signal (hs ++ (front ++ back)) vl cycle (sym so))
      (self_takes e.device vl cycle))
      h.steady h.precise k is
  kept_there (arrivals.Delivered vl cycle) h r so k is =
      taken_there stands e heard
      (taking_by stands e vl cycle h.given r (delivered_high s.network e.device)
      (self_takes e.device vl cycle)) h.steady h.precise k is
  kept_there (arrivals.Dropped reason) h r so k is =
      plain_there e heard (quiet_for stands h.given r e.device) r.one.at
      (λ at. ap (taken_in e.device at) r.body) k is
  kept_there (arrivals.Waits frame point) h r so k is =
      plain_there e heard (quiet_for stands h.given r e.device) r.one.at
      (λ at. ap (taken_in e.device at) r.body) k is
  kept_there (arrivals.Passes frame way) h r so k is =
      plain_there e heard (quiet_for stands h.given r e.device) r.one.at
      (λ at. ap (taken_in e.device at) r.body) k is
  kept_there (arrivals.PassesAndWaits frame way point) h r so k is =
      plain_there e heard (quiet_for stands h.given r e.device) r.one.at
      (λ at. ap (taken_in e.device at) r.body) k is

  -- a broken device takes nothing, and is kept
  pub held_there : {is : Arrival} {w : Happening} → IsHearingIt stands s hs
      (front ++ back) now e machine heard octets result
      → IsReceiving s hs front back now e is w
      → is ≡ arrival_of s (hs ++ (front ++ back)) e.device now e.link e.cause e.signal
      → IsHeld stands s hs (front ++ back) (now ∷ 2 ∷ e.device.0 ∷ e.link.0 ∷ e.cause ∷ []) now e.device machine
      → IsHeld stands s hs (front ++ w ∷ back) (behind (now ∷ 2 ∷ e.device.0 ∷ e.link.0 ∷ e.cause
      ∷ [])) now e.device heard
  held_there {is} h r so (inl k) =
      let it = kept_answers h k in
      kept_there is h r so k
      (rw (it.0 ∙ sym so) at it.1)
  held_there {w} h r so (inr k) =
      let quiet = quiet_for stands h.given r e.device in
      let dropped = so ∙ broken_drops s (hs ++ (front ++ back)) e.device now e.link e.cause e.signal k.broken in
      held_aside s hs front back w e.device quiet.bears r.one.at
      (frames_aside s hs front back w e.device quiet.bears
      (λ at. ap (taken_in e.device at) (r.body ∙ ap (arrival_body e.device e.link e.cause) dropped)))
      (inr (out_heard h k).1)

-- the first frame on a wire arrives: the machine of its device hears it, and its record is to come
pub heard_step : {C M : Type 0} {reading : C → ℕ → ℕ} {stands : M → Network → DeviceId → Node → Type 0} (s : Scenario)
    {world : World C M} {notes : List Note} (e : OnWire) {machine heard : M} {octets : List ℕ} (result : Arrival)
    {machines : List M} (wires : List OnWire) (settled : List Happening) {old : Stands reading stands s world notes}
    → IsIn e world.wires → e.at ≡ world.now → ComesFirst reading stands s world notes old (wire_place e)
    → slice_get world.machines e.device.0 ≡ Some machine → signal_of octets ≡ e.signal
    → MayArrive s.network e.device e.link octets
    → HasHeard stands s.network e.device (moment_of s e.device world.now) e.link octets result machine heard
    → IsSet e.device.0 heard world.machines machines → IsWithout wire_place (wire_place e) world.wires wires
    → ArePutIn s.network (happenings s.network notes) world.now (arrival_body e.device e.link e.cause result ∷ [])
    world.settled settled
    → StandsBehind reading stands s
    (record world { early = false; machines = machines; wires = wires; settled = settled }) notes
    (world.now ∷ 2 ∷ e.device.0 ∷ e.link.0 ∷ e.cause ∷ [])
heard_step {C} {M} {reading} {stands} s {world} {notes} e {machine} {heard} {octets} result {machines} wires settled
    {old} i at first got octets_of
    may hears set without put =
    let hs = happenings s.network notes in
    let now = world.now in
    let more = e.device.0 ∷ e.link.0 ∷ e.cause ∷ [] in
    let c = arriving_first reading stands s world notes e i at first in
    let a : IsAfterGiven s hs world.settled now e =
    record { moving = c.moving; within = c.run.within } in
    let is = arrival_of s (hs ++ world.settled) e.device now e.link e.cause e.signal in
    let own = c.devices e.device (device_there s hs e old.range (old.wires.real e i).0) in
    let held : IsHeld stands s hs world.settled (now ∷ 2 ∷ e.device.0 ∷ e.link.0 ∷ e.cause ∷ []) now e.device machine =
    rw (some_same own.0 machine _ own.1 got) at own.2 in
    let h : IsHearingIt stands s hs world.settled now e machine heard octets result = record {
      given = a;
      precise = old.precise;
      steady = old.steady e.device;
      limit = old.limit;
      octets_of = octets_of;
      may = may;
      hears = hears;
    } in
    let answer = held_answers h held in
    let r = heard_put reading stands s world notes e settled is i at first
    (heard_as_all a) (rank_is s e.device now e.link e.cause e.signal)
    (rw answer at put) in
    let quiet = quiet_for stands (rw r.whole at a) r.it in
    rw r.shows (heard_behind reading stands s world notes e machines wires i at first without r.long
    (arrival_put r.it)
    (known_aside hs r.front r.back r.w (λ device le. moves_no_other device r.w.note.body (quiet device).bears)
    (rw r.whole at old.known))
    (devices_then c e.device (λ other not. no_task_at s.network now other 2 more (inl (omega arith))) set
    (held_there stands machine heard octets result
    (rw r.whole at h) r.it
    (ap (λ l. arrival_of s (hs ++ l) e.device now e.link e.cause e.signal) r.whole)
    (rw r.whole at held))
    (λ device k not kept.
    held_aside s hs r.front r.back r.w device (quiet device).bears r.it.one.at
    (frames_aside s hs r.front r.back r.w device (quiet device).bears
    (λ z. ap (taken_in device z) r.it.body
    ∙ others_take device e.device e.link e.cause is (ne_eqb device.0 e.device.0 not) z))
    (rw r.whole at kept))))
