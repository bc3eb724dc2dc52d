-- A frame at a port leaves: what becomes of it, and the one record of it.
use Rattle.run_law.{proofs.law.FirstDeliveries.in_filter}
use Rattle.run_law.{specs.control.{Leaving.{Departs, Departure, leaves, on_cut_way, too_old}, Permanence.waits_for}}
use Rattle.world_law.proofs.frames.Proper.{parent_true}
use Rattle.world_law.proofs.putting.{Idle.IsIdle, Moving.{StandsHere, goes_by, settled_moves, shown_still}}
use Rattle.world_law.proofs.putting.{Putting.{IsPutting, held_put, known_put, settled_put}}
use Rattle.world_law.proofs.steps_lemmas.Words
use Words.{if◌then◌else◌, ◌++◌, ◌+◌, ◌<◌, ◌||◌, ◌∙◌, ◌∷◌, ◌≡◌, ◌≤◌, AreOfNetwork, ArePutIn, AreSettled, AtPort, Bool}
use Words.{ComesFirst, DeviceId, Dispatches, Gives, Happening, IsCaused, IsDue, IsFounded, IsHeld, IsIn, IsMoving}
use Words.{IsOwnSource, IsSource, IsWithout, Launch, LinkId, List, Network, Node, None, Note, NoteBody, Scenario, Some}
use Words.{Stands, StandsBehind, Units, World, [], amount, ap, append_assoc, arith, behind, both_ways, by_number}
use Words.{cases_Bool, cause_of, comes_first, device_still, due_of, earlier, earlier_still, false, filter, happenings}
use Words.{in_left, in_right, inl, inr, is_accepted, is_broken, is_cut, is_parent_of, is_relay, key, last_in, launched}
use Words.{length, link_at, members_in, nat_lt, never_self, no_task_at, not, numbered, numbered_prefix, numbered_within}
use Words.{numbers_end, one_shown, parted, place_of, port_place, ports_move, put_length, rank, record_of, refl, second}
use Words.{some_same, stands_on, sym, time_of, true, units_of, waiting_still, way_from, wires_still, ℕ}
use Rattle.world_law.specs.{steps.Steps.{departure_bodies, departure_now}}
use Rattle.world_law.specs.{world.{Outcomes.departure_body, World.IsAtPort}}
use Rattle.run_law.specs.declared.judgement.Why.TheVariants as whys
use Rattle.run_law.specs.declared.note.NoteBody.TheVariants as kinds

-- ---- what becomes of a frame that leaves: the one record of it: the body of the record

pub body_idle : (e : AtPort) (is : Departure) → IsIdle (departure_body e is)
body_idle e (leaves clock) = tt
body_idle e too_old = tt
body_idle e on_cut_way = tt

pub body_cause : (e : AtPort) (is : Departure) → cause_of (departure_body e is) ≡ e.cause
body_cause e (leaves clock) = refl
body_cause e too_old = refl
body_cause e on_cut_way = refl

pub body_key : (members : ℕ) (e : AtPort) (is : Departure) → key members (departure_body e is) ≡ e.device.0 ∷ e.link.0 ∷ e.cause ∷ []
body_key members e (leaves clock) = refl
body_key members e too_old = refl
body_key members e on_cut_way = refl

pub body_caused : {s : Scenario} {js : List Happening} (time : Units) (e : AtPort) (is : Departure)
    → Departs s js e.device (amount time) e.link e.cause is → IsCaused s js time (departure_body e is)
body_caused time e (leaves clock) d = d
body_caused time e too_old d = inr (inr (d, refl))
body_caused time e on_cut_way d = inl d

pub body_own : {s : Scenario} {js : List Happening} {t : ℕ} (members : ℕ) (e : AtPort) (is : Departure)
    → Departs s js e.device t e.link e.cause is → IsOwnSource s js t members (departure_body e is)
    (t ∷ 8 ∷ e.device.0 ∷ e.link.0 ∷ e.cause ∷ [])
body_own m e (leaves clock) d = refl
body_own m e too_old d = inr (inr (refl, d))
body_own m e on_cut_way d = inl (refl, d)

-- ---- it departs so

pub departs_now : {s : Scenario} {hs : List Happening} (zs : List Happening) (now : ℕ) {e : AtPort} → IsAtPort s hs e
    → e.at ≡ now → is_broken s e.device now ≡ false → Departs s (hs ++ zs) e.device now e.link e.cause
    (departure_now s e now)
departs_now zs now it at sound = grind (arith, numbered_within, numbered_prefix, nat_lt, amount, is_cut, way_from)

pub few_cause : {s : Scenario} {hs : List Happening} {e : AtPort} → IsAtPort s hs e → e.cause ≤ length hs
few_cause {hs} {e} it = let lt = numbered_within hs e.cause it.giving it.there in omega arith

-- what departs by that record at that place departs so
pub departs_so : {s : Scenario} {hs : List Happening} (zs : List Happening) {now : ℕ} {e : AtPort}
    {is other : Departure} → IsAtPort s hs e → Departs s (hs ++ zs) e.device now e.link e.cause is
    → Departs s (hs ++ zs) e.device now e.link e.cause other → is ≡ other
departs_so zs it a b = grind (arith, some_same, time_of)

-- the numbers of a place
record IsSamePort (e : AtPort) (now t : ℕ) (device : DeviceId) (link : LinkId) (cause : ℕ) : Type 0 where
  time : now ≡ t
  by : e.device ≡ device
  on : e.link ≡ link
  from : e.cause ≡ cause

same_port : (e : AtPort) (now t : ℕ) (device : DeviceId) (link : LinkId) (cause : ℕ) → now ∷ 8 ∷ e.device.0 ∷ e.link.0 ∷ e.cause ∷ [] ≡ t ∷ 8 ∷ device.0
    ∷ link.0 ∷ cause ∷ [] → IsSamePort e now t device link cause
same_port e now t device link cause same = grind arith

moved : {s : Scenario} {js : List Happening} {e : AtPort} {now t : ℕ} {device : DeviceId} {link : LinkId} {cause : ℕ}
    {is : Departure} → IsSamePort e now t device link cause → Departs s js device t link cause is
    → Departs s js e.device now e.link e.cause is
moved p d = grind arith

-- ---- whatever comes from its leaving is at that place

abbrev ranked : ℕ → List ℕ → List ℕ
ranked r (a ∷ b ∷ more) = a ∷ r ∷ more
ranked r other = other

module _ {s : Scenario} {hs : List Happening} (zs : List Happening) {now : ℕ} {e : AtPort} (m : ℕ)
    (it : IsAtPort s hs e) (at : e.at ≡ now) (sound : is_broken s e.device now ≡ false) (t members : ℕ) where
  pub outcome_at : (body : NoteBody) {w : List ℕ} → w ≡ now ∷ 8 ∷ e.device.0 ∷ e.link.0 ∷ e.cause ∷ []
      → IsOwnSource s (hs ++ zs) t members body w → (time : Units) → amount time ≡ t
      → IsCaused s (hs ++ zs) time body → now ∷ rank (departure_body e (departure_now s e now))
      ∷ key m (departure_body e (departure_now s e now)) ≡ t ∷ rank body ∷ key members body
  outcome_at (kinds.Left device link cause clock) here o time is c =
      let p = same_port e now t device link cause (sym here ∙ o) in
      let so = departs_so zs it (departs_now zs now it at sound)
      (moved p (rw is at c)) in
      rw so (sym here ∙ o)
  outcome_at (kinds.Lost device link cause) here (inl o) time is c =
      let p = same_port e now t device link cause (sym here ∙ o.0) in
      let so = departs_so zs it (departs_now zs now it at sound) (moved p o.1) in
      rw so (ap (ranked 9)
      (sym here ∙ o.0))
  outcome_at (kinds.Dropped device link cause reason) here (inr (inr o)) time is c =
      grind (arith, same_port, departs_so, departs_now, moved, rank, key)
  outcome_at (kinds.Lost device link cause) here (inr o) time is c = absurd (grind arith)
  outcome_at (kinds.Dropped device link cause reason) here (inl o) time is c = absurd (grind arith)
  outcome_at (kinds.Dropped device link cause reason) here (inr (inl o)) time is c = absurd (grind arith)
  outcome_at (kinds.State device state cause whys.SyncClique) here o time is c = absurd (grind arith)
  outcome_at other here o time is c = absurd (grind arith)

module _ (s : Scenario) (js : List Happening) (now t members : ℕ) (e : AtPort) where
  -- where the device is broken, nothing comes from it
  pub nothing_of_broken : (body : NoteBody) {w : List ℕ} → is_broken s e.device now ≡ true
      → w ≡ now ∷ 8 ∷ e.device.0 ∷ e.link.0 ∷ e.cause ∷ [] → IsOwnSource s js t members body w → (time : Units)
      → amount time ≡ t → IsCaused s js time body → ⊥
  nothing_of_broken (kinds.Left device link cause clock) broken here o time is c = grind (arith, same_port, moved)
  nothing_of_broken (kinds.Lost device link cause) broken here (inl o) time is c = grind (arith, same_port, moved)
  nothing_of_broken (kinds.Dropped device link cause reason) broken here (inr (inr o)) time is c =
      let d = moved (same_port e now t device link cause (sym here ∙ o.0)) o.1 in
      cc
  nothing_of_broken (kinds.Lost device link cause) broken here (inr o) time is c = grind arith
  nothing_of_broken (kinds.Dropped device link cause reason) broken here (inl o) time is c = grind arith
  nothing_of_broken (kinds.Dropped device link cause reason) broken here (inr (inl o)) time is c = grind arith
  nothing_of_broken (kinds.State device state cause whys.SyncClique) broken here o time is c = grind arith
  nothing_of_broken other broken here o time is c = grind arith

-- ---- whatever stands at that place comes from its leaving

no_launch : (s : Scenario) (h : Happening) (t : ℕ) (body : NoteBody) (device : DeviceId) (link : LinkId) {x : Launch}
    → Gives s.network body device link
    → launched s h t body ≡ Some x → ⊥
no_launch s h t (kinds.Sent master cycle) device link g e = cc
no_launch s h t (kinds.Compressed cm opened at cycle members verdict) device link g e = cc
no_launch s h t (kinds.Arrived relay by cause clock) device link g e = cc
no_launch s h t other device link g e = g

not_awaited : (a b : Bool) → a ≡ true → b ≡ true → (not a || not b) ≡ true → ⊥
not_awaited a b x y e = both_ways _ (rw x (ap not y)) e

-- what a relay waits for it does not give to the link by which that came
not_both_ways : (s : Scenario) (device : DeviceId) (link : LinkId) {body : NoteBody} (from clock : ℕ)
    → body ≡ kinds.Arrived device link from clock
    → Gives s.network body device link → waits_for s.network device link ≡ true → ⊥
not_both_ways s device link from clock e g waits = grind
    (arith, not_awaited, is_relay, is_parent_of, parent_true, link_at)

-- the record by its number is the giving one
is_giving : {s : Scenario} {hs : List Happening} (zs : List Happening) {e : AtPort} (it : IsAtPort s hs e)
    {cause : ℕ} {g : Happening} → e.cause ≡ cause → numbered (hs ++ zs) cause ≡ Some g → it.giving ≡ g
is_giving {hs} zs {e} it {g} same there =
    let le = few_cause it in
    some_same it.giving g _ it.there (sym (numbered_prefix hs zs e.cause le) ∙ ap (numbered (hs ++ zs)) same ∙ there)

gives_it : {s : Scenario} {hs : List Happening} {e : AtPort} (it : IsAtPort s hs e) {g : Happening}
    {device : DeviceId} {link : LinkId} → it.giving ≡ g → e.device ≡ device → e.link ≡ link
    → Gives s.network g.note.body device link
gives_it it same by on = grind arith

not_dispatched : {s : Scenario} {hs : List Happening} (zs : List Happening) {e : AtPort} (it : IsAtPort s hs e)
    {t : ℕ} {device : DeviceId} {link : LinkId} {cause : ℕ} {vl : _} {cycle : ℕ} → IsFounded place_of (IsDue s) hs
    → ((z : Happening) → Rattle.run_law.specs.records.Order.IsIn z zs → t ≤ time_of z) → e.device ≡ device
    → e.link ≡ link → e.cause ≡ cause → Dispatches s (hs ++ zs) device t link cause vl cycle → ⊥
not_dispatched {s} {hs} zs it {t} {device} {link} founded late by on from d =
    elim d.at_hand [
      | inl sender ↦ cc
      | inr took ↦
          let last = rw (earlier_still t hs zs late) at took.1.last in
          elim (last_in None (filter (λ h. is_accepted device d.entry.row.vl h.note.body) (earlier t hs)) took.1.taken last) [
            | inl none ↦ cc
            | inr i ↦
                let there = in_filter _ hs took.1.taken (in_filter _ (earlier t hs) took.1.taken i) in
                let at = by_number s hs took.1.taken founded there in
                let giving = some_same it.giving took.1.taken _ it.there
                (ap (numbered hs) (from ∙ took.1.number) ∙ at) in
                rw took.1.is at (gives_it it giving by on)
          ]
    ]

abbrev IsOther : ℕ → Type 0
IsOther k = (8 ≡ k → ⊥) × (9 ≡ k → ⊥) × (13 ≡ k → ⊥)

other_kind : (e : AtPort) (is : Departure) (k : ℕ) → rank (departure_body e is) ≡ k → IsOther k → ⊥
other_kind e (leaves clock) k r o = o.0 r
other_kind e on_cut_way k r o = o.1 r
other_kind e too_old k r o = o.2 r

module _ {s : Scenario} {hs : List Happening} (zs : List Happening) (now m : ℕ) {e : AtPort} (is : Departure)
    (it : IsAtPort s hs e) (founded : IsFounded place_of (IsDue s) hs) {t : ℕ} (members : ℕ) where
  pub own_there : (body : NoteBody) (w : List ℕ) → ((z : Happening) → Rattle.run_law.specs.records.Order.IsIn z zs
      → t ≤ time_of z) → now ∷ rank (departure_body e is) ∷ key m (departure_body e is) ≡ t ∷ rank body
      ∷ key members body → IsOwnSource s (hs ++ zs) t members body w
      → w ≡ now ∷ 8 ∷ e.device.0 ∷ e.link.0 ∷ e.cause ∷ []
  own_there (kinds.Left device link cause clock) w late place o =
      o ∙ sym (ap (ranked 8) (sym (ap (λ l. now ∷ rank (departure_body e is) ∷ l) (body_key m e is))
      ∙ place))
  own_there (kinds.Lost device link cause) w late place o =
      let at : now ∷ 8 ∷ e.device.0 ∷ e.link.0 ∷ e.cause ∷ [] ≡ t ∷ 8 ∷ device.0 ∷ link.0 ∷ cause
      ∷ [] = ap (ranked 8) (sym (ap (λ l. now ∷ rank (departure_body e is) ∷ l) (body_key m e is))
      ∙ place) in
      let p = same_port e now t device link cause at in
      elim o [
        | inl d ↦ d.0 ∙ sym at
        | inr (inl d) ↦ absurd (not_dispatched zs it founded late p.by p.on p.from d.2)
        | inr (inr l) ↦
            let giving = is_giving zs it p.from l.1.is.there in
            absurd (rw l.1.sends at (gives_it it giving p.by p.on))
      ]
  own_there (kinds.Dropped device link cause reason) w late place o =
      let at : now ∷ 8 ∷ e.device.0 ∷ e.link.0 ∷ e.cause ∷ [] ≡ t ∷ 8 ∷ device.0 ∷ link.0 ∷ cause
      ∷ [] = ap (ranked 8) (sym (ap (λ l. now ∷ rank (departure_body e is) ∷ l) (body_key m e is))
      ∙ place) in
      let p = same_port e now t device link cause at in
      elim o [
        | inl a ↦
            let giving = is_giving zs it p.from a.1.there in
            absurd (no_launch s a.1.putting (time_of a.1.putting) a.1.putting.note.body device link
            (gives_it it giving p.by p.on) a.1.arrives.put)
        | inr (inl r) ↦
            let x = r.1.permanent in
            absurd (not_both_ways s device link x.from x.clock x.arrived
            (gives_it it (is_giving zs it p.from x.there) p.by p.on) x.waits)
        | inr (inr d) ↦ d.0 ∙ sym at
      ]
  own_there other w late place o = absurd (grind (arith, other_kind, second))

-- ---- a frame at a port leaves: the source is first

port_at : (e : AtPort) {now : ℕ} → e.at ≡ now → port_place e ≡ now ∷ 8 ∷ e.device.0 ∷ e.link.0 ∷ e.cause ∷ []
port_at e at = rw at

module _ {C M : Type 0} (reading : C → ℕ → ℕ) (stands : M → Network → DeviceId → Node → Type 0) (s : Scenario)
    (world : World C M) (notes : List Note) (e : AtPort) where
  leaving : {old : Stands reading stands s world notes} → IsIn e world.ports → e.at ≡ world.now
      → ComesFirst reading stands s world notes old (port_place e)
      → StandsHere reading stands s world notes 8 (e.device.0 ∷ e.link.0 ∷ e.cause ∷ [])
  leaving {old} i at first =
      comes_first old 8 (e.device.0 ∷ e.link.0 ∷ e.cause ∷ []) (inr (refl, inl (omega arith))) (port_at e at)
      (old.ports.real e i).1 first

  abbrev hs_of : List Happening
  hs_of = happenings s.network notes

  abbrev port_here : List ℕ
  port_here = world.now ∷ 8 ∷ e.device.0 ∷ e.link.0 ∷ e.cause ∷ []

  -- the world stands behind it, with what is to come then
  abbrev HasLeft : List AtPort → List Happening → Type 0
  HasLeft ports settled =
      StandsBehind reading stands s (record world { ports = ports; early = false; settled = settled }) notes port_here

  left_behind : (ports : List AtPort) {settled : List Happening} {old : Stands reading stands s world notes}
      → IsIn e world.ports → e.at ≡ world.now → ComesFirst reading stands s world notes old (port_place e)
      → IsWithout port_place (port_place e) world.ports ports → length notes + length settled < numbers_end
      → AreSettled s hs_of settled port_here (behind port_here) world.now → AreOfNetwork s (hs_of ++ settled)
      → ((device : DeviceId) (machine : M)
      → IsHeld stands s hs_of world.settled (behind port_here) world.now device machine
      → IsHeld stands s hs_of settled (behind port_here) world.now device machine) → HasLeft ports settled
  left_behind ports {old} i at first without room are known kept =
      let more = e.device.0 ∷ e.link.0 ∷ e.cause ∷ [] in
      let c = leaving i at first in
      let less : IsWithout port_place port_here world.ports ports =
      rw (port_at e at) at without in
      stands_on c world.machines world.shown room are known
      (λ device lt.
      let k = c.devices device lt in (
        k.0,
        k.1,
        kept device k.0 (device_still c (no_task_at s.network world.now device 8 more (inr (omega arith))) k.2),
      ))
      (wires_still c (λ two. omega arith)) (ports_move (goes_by s hs_of port_here) ports c.ports less)
      (waiting_still c (λ three. omega arith)) (shown_still c (omega arith))

  -- ---- nothing comes of it, where its device is broken

  cut_off : (ports : List AtPort) (settled : List Happening) {old : Stands reading stands s world notes}
      → IsIn e world.ports → e.at ≡ world.now → ComesFirst reading stands s world notes old (port_place e)
      → IsWithout port_place (port_place e) world.ports ports → is_broken s e.device world.now ≡ true
      → settled ≡ world.settled → HasLeft ports settled
  cut_off ports settled {old} i at first without broken same =
      let c = leaving i at first in
      rw same (left_behind ports i at first without old.room
      (settled_moves c.moving
      (λ front back y whole before none due own. absurd (nothing_of_broken s (hs_of ++ front)
      world.now (time_of y) (members_in y) e
      y.note.body {w = _} broken refl own y.note.time refl due.cause)))
      old.known
      (λ device machine k. k))

  -- ---- the record is put in

  gone_out : (ports : List AtPort) (settled : List Happening) {old : Stands reading stands s world notes}
      → IsIn e world.ports → e.at ≡ world.now → ComesFirst reading stands s world notes old (port_place e)
      → IsWithout port_place (port_place e) world.ports ports → is_broken s e.device world.now ≡ false
      → ArePutIn s.network hs_of world.now (departure_body e (departure_now s e world.now) ∷ []) world.settled settled
      → HasLeft ports settled
  gone_out ports settled {old} i at first without sound (mid, put, last) =
      let hs = happenings s.network notes in
      let now = world.now in
      let more = e.device.0 ∷ e.link.0 ∷ e.cause ∷ [] in
      let here = now ∷ 8 ∷ more in
      let it = (old.ports.real e i).0 in
      let is = departure_now s e now in
      let body = departure_body e is in
      let c = leaving i at first in
      let few : cause_of body ≤ length hs = rw (body_cause e is) (few_cause it) in
      let q = one_shown s.network hs now body few put in
      let front = q.front in
      let back = q.back in
      let w = record_of s.network hs front now body in
      let moving : IsMoving s hs (front ++ back) now 8 more =
      rw q.parts at c.moving in
      let idle = body_idle e is in
      let departs = departs_now front now it at sound in
      let p : IsPutting s hs front back now 8 more w = record {
        one = record {
          moving = moving;
          given = old.run.founded;
          at = refl;
          due = due_of s hs front now body (body_caused (units_of now) e is departs);
          before = q.before;
          none = q.none;
          fresh = λ y there same.
              let split = parted y back there in
              let whole : front ++ back ≡ (front ++ split.0) ++ y ∷ split.1 =
              ap (λ l. front ++ l) split.2
              ∙ sym (append_assoc front split.0 (y ∷ split.1)) in
              let by = moving.are.by (front ++ split.0) split.1 y whole in
              let y_now = moving.are.of_now y (in_right y front back there) in
              let from = own_there (front ++ split.0) now (members_in w) is it old.run.founded
              (members_in y) y.note.body by.0
              (λ z inside. let z_now = moving.are.of_now z
              (rw whole (in_left z (front ++ split.0) (y ∷ split.1) inside)) in omega arith) same
              by.1 in
              never_self here (rw from at by.3);
          mine = body_own (members_in w) e is departs;
          here =
              IsSource.departing now e.device e.link e.cause
              (record { giving = departs.giving; there = departs.there; gives = departs.gives; held = departs.held });
          aside = λ x j device same hears. let six : 8 ≡ 6 = ap second same in omega arith;
        };
        late = omega arith;
        idle = idle;
        own = λ zs y y_due y_few y_now own.
            outcome_at zs (members_in w) it at sound (time_of y) (members_in y) y.note.body {w = here} refl own
            y.note.time refl y_due.cause;
      } in
      let long = put_length front back w in
      let same_length : length world.settled ≡ length (front ++ back) = ap length q.parts in
      let room = first.room in
      rw (last ∙ q.shows) (left_behind ports i at first without
      (omega arith)
      (settled_put p)
      (known_put hs front back w idle (rw q.parts at old.known))
      (λ device machine k. held_put front back w idle refl
      (rw q.parts at k)))

  abbrev ArePutUnless : List Happening → Bool → Type 0
  ArePutUnless settled broken = ArePutIn s.network hs_of world.now
      (if broken then [] else departure_body e (departure_now s e world.now) ∷ []) world.settled settled

  pub left_step : (ports : List AtPort) (settled : List Happening) {old : Stands reading stands s world notes}
      → IsIn e world.ports → e.at ≡ world.now → ComesFirst reading stands s world notes old (port_place e)
      → IsWithout port_place (port_place e) world.ports ports
      → ArePutIn s.network hs_of world.now (departure_bodies s e world.now) world.settled settled
      → HasLeft ports settled
  left_step ports settled i at first without put =
      elim (cases_Bool (is_broken s e.device world.now)) [
        | inl broken ↦ cut_off ports settled i at first without broken
            (rw broken at put)
        | inr sound ↦ gone_out ports settled i at first without sound
            (rw sound at put)
      ]
