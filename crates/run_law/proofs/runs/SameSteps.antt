-- What comes at one time from one cause is one.
use Rattle.std.proofs.Common.{MatchBool, arith}
use Rattle.run_law.proofs.Words.{◌∙◌, ◌≡◌, Arrival, ArrivesAs, BecomesPermanent, Bool, Departs, Device, DeviceId, Gives, Happening, Judgement, Launch, LinkId}
use Rattle.run_law.proofs.Words.{List, Master, Network, None, NoteBody, Option, Pcf, Reason, Ripe, Role, Scenario, Some, State, Units, ap, arrival_of}
use Rattle.run_law.proofs.Words.{device_at, false, is_relay, launched, numbered, observation_window, option_map_or, refl, ripe_as, same_some, subst, sym}
use Rattle.run_law.{proofs.Words.{time_of, true, ℕ}, specs.{control.Leaving.{Departure}, scenario.Devices.{is_cm, is_cm_role, is_relay_role}}}
use Rattle.run_law.specs.{control.Collections.{IsCollectedAs, points_of, ripe_by_role}, device.States.{adjustment_at_hearing, state_at_hearing}}
use Rattle.run_law.specs.control.{Permanence.{IsCollectedOrDropped, IsJudgedBy, IsPermanenceOutcome, IsPermanent, before_permanence}, Wires.{Arrives, Signal}}
use Rattle.compression.{proofs.Times.one_list_of_clusters, specs.{Clusters.Point, declared.taken.Taken.Taken}}
use Rattle.run_law.specs.declared.judgement.Judgement.TheVariants as judgements
use Rattle.run_law.specs.declared.note.NoteBody.TheVariants as notes
use Rattle.run_law.specs.declared.steps.Ripe.TheVariants as ripe

-- ---- arrivals

-- what arrives from one record is one signal
same_signal : {s : Scenario} {h : Happening} {device : DeviceId} {link : LinkId} {t : ℕ} {a b : Signal}
    → Arrives s h device link t a → Arrives s h device link t b → a ≡ b
same_signal {s} {h} {link} {a} {b} x y =
    ap (λ l. l.signal) (same_some (launched s h (time_of h) h.note.body)
    (record { link = link; way = x.way; signal = a })
    (record { link = link; way = y.way; signal = b }) x.put y.put)

-- and one thing becomes of it
pub same_arrival : {s : Scenario} {hs : List Happening} {t : ℕ} {device : DeviceId} {link : LinkId} {cause : ℕ}
    {a b : Arrival} → ArrivesAs s hs device t link cause a → ArrivesAs s hs device t link cause b → a ≡ b
same_arrival x y = grind (arith, same_some, numbered, same_signal, arrival_of)

-- ---- permanence

module _ (network : Network) (points : List Point) (point : Point) where
  -- a point has one role
  pub same_taken : {a b : Taken} → IsCollectedAs network points point a → IsCollectedAs network points point b → a ≡ b
  same_taken x y =
      let only = (one_list_of_clusters (observation_window network) points).2 in
      x.is ∙ (rw (only x.clusters x.are ∙ sym (only y.clusters y.are)) (sym y.is))

  same_collected : (fault : Option Reason) (a b : Ripe) → IsCollectedOrDropped network points point fault a
      → IsCollectedOrDropped network points point fault b → a ≡ b
  same_collected (Some reason) a b x y = x ∙ sym y
  same_collected None a b x y =
      x.becomes ∙ ap ripe_by_role (same_taken x.collected y.collected) ∙ sym y.becomes

same_by_kind : (b : _) {P : Ripe → Type 0} (heard x y : Ripe) → ((v w : Ripe) → P v → P w → v ≡ w) → MatchBool b (P x) (x ≡ heard)
    → MatchBool b (P y) (y ≡ heard) → x ≡ y
same_by_kind true heard x y one a b = one x y a b
same_by_kind false heard x y one a b = a ∙ sym b

-- one thing becomes of a frame that is permanent
same_ripe : (network : Network) (device : DeviceId) (state : State) (adjustment : _) (points : List Point) (frame : Pcf) (point : _) (a b : Ripe)
    → IsPermanenceOutcome network device state adjustment points frame point a → IsPermanenceOutcome network device state adjustment points frame point b
    → a ≡ b
same_ripe network device state adjustment points frame point a b x y = same_by_kind (is_cm network device) _ a b (same_collected network points _ _) x y

-- two frames that are permanent from one record have one arrival
same_permanent_arrival : {s : Scenario} {hs : List Happening} {t : ℕ} {device : DeviceId} {link : LinkId} {cause : ℕ}
    {f g : Pcf} {p q : Units} (a : IsPermanent s hs device t link cause f p)
    (b : IsPermanent s hs device t link cause g q) → a.arrival ≡ b.arrival
same_permanent_arrival {hs} {cause} a b = same_some (numbered hs cause) a.arrival b.arrival a.there b.there

abbrev arrived_clock : NoteBody → ℕ
arrived_clock (notes.Arrived device link from clock) = clock
arrived_clock other = 0

module _ (s : Scenario) (hs : List Happening) (t : ℕ) (device : DeviceId) (link : LinkId) (cause : ℕ) where
  -- one frame is permanent from one record, at one point
  same_frame : {f g : Pcf} {p q : Units} → IsPermanent s hs device t link cause f p
      → IsPermanent s hs device t link cause g q → f ≡ g
  same_frame {f} {g} a b =
      same_some a.arrival.frame f g a.of_frame (rw (same_permanent_arrival a b) b.of_frame)

  pub same_point : {f g : Pcf} {p q : Units} → IsPermanent s hs device t link cause f p
      → IsPermanent s hs device t link cause g q → p ≡ q
  same_point a b = grind (arith, same_permanent_arrival, time_of)

  -- and one thing becomes of it
  pub same_ripening : {p q : Units} {a b : Ripe} → BecomesPermanent s hs device t link cause p a
      → BecomesPermanent s hs device t link cause q b → a ≡ b
  same_ripening {p} {q} {a} {b} x y =
      let frames = same_frame x.permanent y.permanent in
      let points = same_point x.permanent y.permanent in
      let judged = before_permanence hs device t link cause in
      let there = subst (λ f. IsJudgedBy s (judged f q) device t f q b) (sym frames) y.becomes in
      let here = subst (λ u. IsJudgedBy s (judged x.frame u) device t x.frame u b) (sym points) there in
      let front = judged x.frame p in
      same_ripe s.network device (state_at_hearing s front device t)
      (adjustment_at_hearing s front device t).0 (points_of front device) x.frame p.0 a b x.becomes
      here

-- judgements are told apart by what becomes of the frame
pub same_judgement : (v w : Judgement) → ripe_as v ≡ ripe_as w → v ≡ w
same_judgement judgements.Opened judgements.Opened e = refl
same_judgement judgements.Joined judgements.Joined e = refl
same_judgement judgements.Repeat judgements.Repeat e = refl
same_judgement judgements.Within judgements.Within e = refl
same_judgement judgements.Outside judgements.Outside e = refl
same_judgement judgements.Integrates judgements.Integrates e = refl
same_judgement judgements.Ignored judgements.Ignored e = refl
same_judgement rest other e = absurd cc

-- no judgement is a drop
pub never_dropped : (v : Judgement) (reason : Reason) → ripe_as v ≡ ripe.Dropped reason → ⊥
never_dropped judgements.Opened reason e = cc
never_dropped other reason e = cc

by_kind_is : (b : Bool) (P : Type 0) (v : Judgement) (reason : Reason) → MatchBool b P (ripe.Dropped reason ≡ ripe_as v) → b ≡ true
by_kind_is true P v reason h = refl
by_kind_is false P v reason h = absurd (never_dropped v reason (sym h))

module _ (s : Scenario) (hs : List Happening) (t : ℕ) (device : DeviceId) (link : LinkId) (cause : ℕ) where
  -- only a compression master drops a frame that is permanent
  dropped_at_cm : {point : Units} (reason : Reason) → BecomesPermanent s hs device t link cause point
      (ripe.Dropped reason) → is_cm s.network device ≡ true
  dropped_at_cm reason r = by_kind_is (is_cm s.network device) _ _ reason r.becomes

  -- ---- leavings

  pub same_departure : {a b : Departure} → Departs s hs device t link cause a → Departs s hs device t link cause b
      → a ≡ b
  same_departure x y = grind (arith, same_some, numbered, time_of)

-- ---- what comes from a record is of one kind

-- what puts a frame on a wire gives none to a link
puts_or_gives : (s : Scenario) (h : Happening) (t : ℕ) (body : NoteBody) (device : DeviceId) (link : LinkId) (l : Launch) → launched s h t body ≡ Some l
    → Gives s.network body device link → ⊥
puts_or_gives s h t (notes.Sent master cycle) device link l put gives = cc
puts_or_gives s h t (notes.Compressed cm opened at cycle members verdict) device link l put gives = cc
puts_or_gives s h t (notes.Arrived relay by cause clock) device link l put gives = cc
puts_or_gives s h t other device link l put gives = gives

pub no_launch : (s : Scenario) (h : Happening) (t : ℕ) (body : NoteBody) (device : DeviceId) (link : LinkId) (from clock : ℕ) (l : Launch)
    → body ≡ notes.Arrived device link from clock → launched s h t body ≡ Some l → ⊥
no_launch s h t body device link from clock l is put =
    cc

module _ (s : Scenario) (hs : List Happening) (t : ℕ) (device : DeviceId) (link : LinkId) (cause : ℕ)
    (a : Arrival) where
  -- no frame arrives and leaves from one record
  pub arrives_or_departs : {d : Departure} → ArrivesAs s hs device t link cause a
      → Departs s hs device t link cause d → ⊥
  arrives_or_departs x y = grind (arith, same_some, numbered, puts_or_gives, time_of)

  -- no frame arrives and is permanent from one record
  pub arrives_or_ripens : {point : Units} {b : Ripe} → ArrivesAs s hs device t link cause a
      → BecomesPermanent s hs device t link cause point b → ⊥
  arrives_or_ripens x y = grind (arith, same_some, numbered, no_launch, time_of)

-- a relay is no compression master
pub roles_differ : (role : Role) → is_cm_role role ≡ true → is_relay_role role ≡ true → ⊥
roles_differ Master a b = cc
roles_differ other a b = cc

devices_differ : (o : Option Device) → option_map_or (λ d. is_cm_role d.role) o false ≡ true → option_map_or (λ d. is_relay_role d.role) o false ≡ true → ⊥
devices_differ None a b = cc
devices_differ (Some d) a b = roles_differ d.role a b

gives_as_relay : (network : Network) (body : NoteBody) (device : DeviceId) (link by : LinkId) (from clock : ℕ) → body ≡ notes.Arrived device by from clock
    → Gives network body device link → is_relay network device ≡ true
gives_as_relay network body device link by from clock is gives =
    let there : Gives network (notes.Arrived device by from clock) device link = rw is at gives in
    there.1.relay

-- no frame that a device drops when it is permanent leaves it
pub dropped_or_departs : {s : Scenario} {hs : List Happening} {t : ℕ} {device : DeviceId} {link : LinkId} {cause : ℕ}
    {point : Units} (reason : Reason) {d : Departure} → BecomesPermanent s hs device t link cause point
    (ripe.Dropped reason) → Departs s hs device t link cause d → ⊥
dropped_or_departs {s} {hs} {t} {device} {link} {cause} reason x y =
    let one = same_some (numbered hs cause) x.permanent.arrival y.giving x.permanent.there y.there in
    let is = ap (λ h. h.note.body) (sym one) ∙ x.permanent.arrived in
    let relay = gives_as_relay s.network y.giving.note.body device link link x.permanent.from x.permanent.clock is y.gives in
    devices_differ (device_at s.network device) (dropped_at_cm s hs t device link cause reason x) relay
