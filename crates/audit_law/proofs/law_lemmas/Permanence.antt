-- Frames that are permanent: what is owed of them is due, and by what they are dropped.
use Rattle.std.proofs.Common.{MatchBool}
use Rattle.audit_law.proofs.law_lemmas.{Arriving.{IsPutting, puts}}
use Rattle.audit_law.proofs.law_lemmas.Founded.{PaidAt, due_there, found_before, in_whole, next_is_due, next_of}
use Rattle.audit_law.proofs.law_lemmas.Founded.{split_at, timely, within}
use Rattle.run_law.proofs.{control.Verdicts.{never_dropped, some_outcome}, runs.SameSteps.same_ripening}
use Rattle.audit_law.proofs.law_lemmas.Words
use Words.{◌&&◌, ◌*◌, ◌++◌, ◌+◌, ◌<◌, ◌∙◌, ◌∷◌, ◌≡◌, ◌⊎◌, Bool, DeviceId, Happening, IsBefore, IsCaused, IsDue, IsDueIn}
use Words.{IsFounded, IsReach, IsSplit, LinkId, List, Network, None, NoteBody, Old, Option, Pcf, Reason, Scenario, Some}
use Words.{State, Units, [], ahead, amount, ap, append-nil, arith, chain, false, false_from_ne_true, filter}
use Words.{filter-append, inl, inr, int_div_euclid, int_lt, ints, is_before, is_there, key, members_in, none_kept, not}
use Words.{numbered, option_map_or, place_at, place_of, pos, rank, refl, ripe_as, same_some, split, subst, sym, time_of}
use Words.{true, units_of, ℕ, ℤ}
use Rattle.audit_law.specs.law.{DebtLaws.PermanenceLaw}
use Rattle.audit_law.specs.law.{Permanences.{IsDueByPermanence, OwesPermanence, TellsPermanence, permanence_record}}
use Rattle.compression.specs.{Clusters.Point, declared.taken.Taken.Taken}
use Rattle.drift_clock.proofs.Drifts.{one_reach}
use Rattle.run_law.specs.{declared.{judgement.{Judgement.Judgement, Reason.TheVariants.{Cycle, Gate}}, steps.Ripe.Ripe}}
use Rattle.run_law.specs.{records.Happenings.{frame_by, frame_from}, scenario.Devices.is_cm}
use Rattle.run_law.specs.control.{Collections.{dispatch_value, is_number, point_fault, points_of, ripe_by_role}}
use Rattle.run_law.specs.control.Permanence
use Permanence.{BecomesPermanent, IsCollectedOrDropped, IsPermanenceOutcome, IsPermanent, before_permanence}
use Rattle.run_law.specs.device.{Standpoints.{first_reason, offset_in_cycle}}
use Rattle.run_law.specs.device.{States.{adjustment_at_hearing, is_synchronised, state_at_hearing}}
use Rattle.tte_units.proofs.general_lemmas.Options.{one}
use Rattle.compression.specs.declared.taken.Taken.TheVariants as taken
use Rattle.run_law.specs.declared.judgement.Judgement.TheVariants as judgements
use Rattle.run_law.specs.declared.note.NoteBody.TheVariants as notes
use Rattle.run_law.specs.declared.steps.Ripe.TheVariants as ripe

-- ---- a frame that is dropped when it is permanent is dropped by a gate or for its cycle

abbrev IsGateOrCycle : Reason → Type 0
IsGateOrCycle reason = (reason ≡ Gate) ⊎ (reason ≡ Cycle)

first_of_two : (a b : Bool) (reason : Reason) → first_reason ((a, Gate) ∷ (b, Cycle) ∷ []) ≡ Some reason → IsGateOrCycle reason
first_of_two true b reason e = inl (one (Some Gate) reason Gate e refl)
first_of_two false true reason e = inr (one (Some Cycle) reason Cycle e refl)
first_of_two false false reason e = absurd cc

fault_reason : (network : Network) (state : State) (adjustment point : ℤ) (cycle : ℕ) (reason : Reason)
    → point_fault network state adjustment point cycle ≡ Some reason → IsGateOrCycle reason
fault_reason network state adjustment point cycle reason e =
    let value = dispatch_value network adjustment point in
    first_of_two (is_synchronised state && int_lt (pos (4 * amount network.precision)) (offset_in_cycle network value))
    (is_synchronised state && not (is_number (int_div_euclid value network.cycle.0) cycle)) reason e

same_reason : (reason other : Reason) → ripe.Dropped reason ≡ ripe.Dropped other → reason ≡ other
same_reason reason other e = cc

by_role : (t : Taken) (reason : Reason) → ripe.Dropped reason ≡ ripe_by_role t → reason ≡ Cycle
by_role taken.Opened reason e = absurd cc
by_role taken.Joined reason e = absurd cc
by_role taken.Repeat reason e = absurd cc
by_role taken.OtherCycle reason e = same_reason reason Cycle e

collected : (network : Network) (points : List Point) (point : Point) (fault : Option Reason) (reason : Reason)
    → ((r : Reason) → fault ≡ Some r → IsGateOrCycle r) → IsCollectedOrDropped network points point fault (ripe.Dropped reason) → IsGateOrCycle reason
collected network points point (Some r) reason of h =
    elim (of r refl) [ inl gate ↦ inl (same_reason reason r h ∙ gate) | inr cycle ↦ inr (same_reason reason r h ∙ cycle) ]
collected network points point None reason of h = inr (by_role h.taken reason h.becomes)

by_kind : (b : Bool) {P : Type 0} (v : Judgement) (reason : Reason) → (P → IsGateOrCycle reason) → MatchBool b P (ripe.Dropped reason ≡ ripe_as v)
    → IsGateOrCycle reason
by_kind true v reason of h = of h
by_kind false v reason of h = absurd (never_dropped v reason h)

outcome_reason : (network : Network) (device : DeviceId) (state : State) (adjustment : ℤ) (points : List Point) (frame : Pcf) (point : ℤ) (reason : Reason)
    → IsPermanenceOutcome network device state adjustment points frame point (ripe.Dropped reason) → IsGateOrCycle reason
outcome_reason network device state adjustment points frame point reason h =
    by_kind (is_cm network device) _ reason
    (λ c. collected network points _ (point_fault network state adjustment point frame.cycle) reason
    (λ r e. fault_reason network state adjustment point frame.cycle r e) c) h

module _ {s : Scenario} {hs : List Happening} {t : ℕ} {device : DeviceId} {link : LinkId} {cause : ℕ} {point : Units}
    (reason : Reason) (h : BecomesPermanent s hs device t link cause point (ripe.Dropped reason)) where
  pub gate_or_cycle : IsGateOrCycle reason
  gate_or_cycle = outcome_reason s.network device _ _ _ h.frame point.0 reason h.becomes

  -- so not as one that is too old
  pub not_old : reason ≡ Old → ⊥
  not_old old =
      elim (gate_or_cycle) [
        | inl gate ↦ let e = sym gate ∙ old in cc
        | inr cycle ↦ let e = sym cycle ∙ old in cc
      ]

-- ---- what is owed of permanences is due

-- ---- places

-- the place of a permanence, which all judgements share
abbrev permanent_place : ℕ → DeviceId → LinkId → ℕ → Pcf → Units → List ℕ
permanent_place t device link cause frame point = place_at t frame.members.0 (notes.Permanent device link cause point judgements.Ignored)

-- the place of the record of what became of the frame
abbrev record_place : ℕ → DeviceId → LinkId → ℕ → Pcf → Units → Ripe → List ℕ
record_place t device link cause frame point is = place_at t frame.members.0 (permanence_record device link cause point is)

-- which is not before that
behind_permanence : (p : List ℕ) (t : ℕ) (device : DeviceId) (link : LinkId) (cause : ℕ) (frame : Pcf) (point : Units) (is : Ripe)
    → IsBefore p (permanent_place t device link cause frame point) → IsBefore p (record_place t device link cause frame point is)
behind_permanence p t device link cause frame point ripe.Opened b = b
behind_permanence p t device link cause frame point ripe.Joined b = b
behind_permanence p t device link cause frame point ripe.Repeat b = b
behind_permanence p t device link cause frame point ripe.Within b = b
behind_permanence p t device link cause frame point ripe.Outside b = b
behind_permanence p t device link cause frame point ripe.Integrates b = b
behind_permanence p t device link cause frame point ripe.Ignored b = b
behind_permanence p t device link cause frame point (ripe.Dropped reason) b =
    chain p (permanent_place t device link cause frame point) (record_place t device link cause frame point (ripe.Dropped reason)) b
    (inr (refl, inl (omega arith)))

-- the rank of such a record is behind that of arrivals
arrived_before : (device : DeviceId) (link : LinkId) (cause : ℕ) (point : Units) (is : Ripe) → 2 < rank (permanence_record device link cause point is)
arrived_before device link cause point ripe.Opened = omega arith
arrived_before device link cause point other = omega arith

-- where the record stands whose frame is found by its cause
abbrev members_by : Option Pcf → ℕ
members_by o = option_map_or (λ frame. frame.members.0) o 0

module _ (network : Network) (ps : List Happening) (t : ℕ) (device : DeviceId) (link : LinkId) (cause : ℕ)
    (frame : Pcf) (point : Units) where
  framed : (is : Ripe) → frame_from ps cause ≡ Some frame
      → place_at t (members_by (frame_by network ps (permanence_record device link cause point is)))
      (permanence_record device link cause point is) ≡ record_place t device link cause frame point is
  framed ripe.Opened e =
      rw e
  framed ripe.Joined e =
      rw e
  framed ripe.Repeat e =
      rw e
  framed ripe.Within e =
      rw e
  framed ripe.Outside e =
      rw e
  framed ripe.Integrates e =
      rw e
  framed ripe.Ignored e =
      rw e
  framed (ripe.Dropped reason) e = refl

frame_there : (ps : List Happening) (cause : ℕ) (h : Happening) (frame : Pcf) → numbered ps cause ≡ Some h → h.frame ≡ Some frame
    → frame_from ps cause ≡ Some frame
frame_there ps cause h frame there of_frame = rw there of_frame

-- ---- by a front as by the list

-- where the list parts at the record, the front has all that a permanence is judged by
same_judged : {hs : List Happening} (t : ℕ) (device : DeviceId) (link : LinkId) (cause : ℕ) (frame : Pcf)
    (point : Units) (is : Ripe) (at : IsSplit place_of hs (record_place t device link cause frame point is))
    → before_permanence at.front device t link cause frame point
    ≡ before_permanence hs device t link cause frame point
same_judged t device link cause frame point is at =
    let test : Happening → Bool = λ h. is_before (place_of h) (permanent_place t device link cause frame point) in
    let none = none_kept test at.rest (λ h i. false_from_ne_true (test h) (λ e.
    at.none h i (behind_permanence (place_of h) t device link cause frame point is
    (is_there (place_of h) (permanent_place t device link cause frame point) e)))) in
    sym (append-nil (filter test at.front))
    ∙ ap (λ gs. filter test at.front ++ gs) (sym none)
    ∙ sym (filter-append test at.front at.rest)
    ∙ ap (filter test) (sym at.whole)

-- a permanence is one by other records that have the arrival
pub permanent_by : {s : Scenario} {gs : List Happening} (hs : List Happening) {device : DeviceId} {t : ℕ}
    {link : LinkId} {cause : ℕ} {frame : Pcf} {point : Units} (h : IsPermanent s gs device t link cause frame point)
    → numbered hs cause ≡ Some h.arrival → IsPermanent s hs device t link cause frame point
permanent_by hs h there = grind arith

-- ---- what is owed is due

module _ (s : Scenario) (gs : List Happening) (t : ℕ) (device : DeviceId) (link : LinkId) (cause : ℕ)
    (point : Units) where
  causes_record : (is : Ripe) → BecomesPermanent s gs device t link cause point is
      → IsCaused s gs (units_of t) (permanence_record device link cause point is)
  causes_record ripe.Opened h = h
  causes_record ripe.Joined h = h
  causes_record ripe.Repeat h = h
  causes_record ripe.Within h = h
  causes_record ripe.Outside h = h
  causes_record ripe.Integrates h = h
  causes_record ripe.Ignored h = h
  causes_record (ripe.Dropped reason) h = inr (inl (point, h))

  tells : (is : Ripe) → BecomesPermanent s gs device t link cause point is
      → TellsPermanence cause (permanence_record device link cause point is)
  tells ripe.Opened h = refl
  tells ripe.Joined h = refl
  tells ripe.Repeat h = refl
  tells ripe.Within h = refl
  tells ripe.Outside h = refl
  tells ripe.Integrates h = refl
  tells ripe.Ignored h = refl
  tells (ripe.Dropped reason) h = (refl, not_old reason h)

some_permanence : {s : Scenario} {hs : List Happening} {until cause : ℕ} → IsFounded place_of (IsDue s) hs
    → (o : OwesPermanence s hs until cause) → PaidAt s hs until (IsDueByPermanence s) o.time
    (λ x. TellsPermanence cause x.note.body)
some_permanence {s} {hs} {until} {cause} founded o =
    let judged = before_permanence hs o.device o.time o.link cause o.frame o.point in
    let found = some_outcome s.network o.device (state_at_hearing s judged o.device o.time) (adjustment_at_hearing s judged o.device o.time).0
    (points_of judged o.device) o.frame o.point.0 in
    let is = found.0 in
    let body = permanence_record o.device o.link cause o.point is in
    let p = record_place o.time o.device o.link cause o.frame o.point is in
    let at = split place_of (IsDue s) hs p founded in
    let arrival = o.permanent.arrival in
    let low : rank arrival.note.body ≡ 2 = ap rank o.permanent.arrived in
    let higher = arrived_before o.device o.link cause o.point is in
    let from_on = o.permanent.reached.from_on in
    let sooner = ahead (time_of arrival) o.time (rank arrival.note.body) (rank body)
    (key (members_in arrival) arrival.note.body) (key o.frame.members.0 body) (omega (arith, ints)) (omega arith) in
    let there = found_before s hs p founded at cause arrival o.permanent.there sooner in
    let becomes : BecomesPermanent s at.front o.device o.time o.link cause o.point is = record {
      frame = o.frame;
      permanent = permanent_by at.front o.permanent there;
      becomes = rw (same_judged {hs = hs} o.time o.device o.link cause o.frame o.point is at) found.1;
    } in
    let x = next_of s at.front o.time body in
    let place = framed s.network at.front o.time o.device o.link cause o.frame o.point is
    (frame_there at.front cause arrival o.frame there o.permanent.of_frame) in
    let due : IsDueByPermanence s at.front x = record {
      due = next_is_due s at.front o.time body (causes_record s at.front o.time o.device o.link cause o.point is becomes);
      device = o.device;
      link = o.link;
      cause = cause;
      point = o.point;
      is = is;
      becomes = becomes;
      says = refl;
    } in (
      x,
      due_there (IsDueByPermanence s) at x place due,
      within o.time until (rank body ∷ key (members_in x) body) o.timely,
      tells s at.front o.time o.device o.link cause o.point is becomes,
      refl,
    )

-- ---- what is due was owed

permanence_owed : (s : Scenario) {hs : List Happening} (until : ℕ) {x : Happening}
    → IsDueIn place_of (IsDueByPermanence s) hs x → IsBefore (place_of x) ((until + 1) ∷ [])
    → (cause : ℕ) × (o : OwesPermanence s hs until cause) × TellsPermanence cause x.note.body × (time_of x ≡ o.time)
permanence_owed s {hs} until {x} h here =
    let d = h.due in
    let permanent = d.becomes.permanent in
    let owed : OwesPermanence s hs until d.cause = record {
      device = d.device;
      link = d.link;
      time = time_of x;
      frame = d.becomes.frame;
      point = d.point;
      permanent = permanent_by hs permanent
          (in_whole hs h.before h.behind d.cause permanent.arrival h.parts permanent.there);
      timely = timely (time_of x) until (rank x.note.body ∷ key (members_in x) x.note.body) here;
    } in
    (d.cause, owed, subst (TellsPermanence d.cause) (sym d.says) (tells s h.before (time_of x) d.device d.link d.cause d.point d.is d.becomes), refl)

-- ---- what pays for one is at one place

-- the place of what is due by a permanence
due_place : {s : Scenario} {before : List Happening} {x : Happening} (h : IsDueByPermanence s before x)
    → place_of x ≡ record_place (time_of x) h.device h.link h.cause h.becomes.frame h.point h.is
due_place h = grind (arith, place_at, time_of, members_in, framed, frame_there)

-- what becomes of the frame, by the list
due_becomes : {s : Scenario} {hs : List Happening} {x : Happening} (h : IsDueIn place_of (IsDue s) hs x)
    (d : IsDueByPermanence s h.before x)
    → (b : BecomesPermanent s hs d.device (time_of x) d.link d.cause d.point d.is) × (b.frame ≡ d.becomes.frame)
due_becomes {s} {hs} {x} h d =
    let permanent = d.becomes.permanent in
    let frame = d.becomes.frame in
    let at = subst (λ p. (at : IsSplit place_of hs p) × (at.front ≡ h.before)) (due_place d)
    (split_at (IsDue s) hs x h, refl) in
    let same : before_permanence h.before d.device (time_of x) d.link d.cause frame d.point
    ≡ before_permanence hs d.device (time_of x) d.link d.cause frame d.point =
    rw (sym at.1)
    (same_judged (time_of x) d.device d.link d.cause frame d.point d.is at.0) in
    let becomes : BecomesPermanent s hs d.device (time_of x) d.link d.cause d.point d.is = record {
      frame = frame;
      permanent = permanent_by hs permanent
          (in_whole hs h.before h.behind d.cause permanent.arrival h.parts permanent.there);
      becomes = rw same at d.becomes.becomes;
    } in
    (becomes, refl)

abbrev arrived_device : NoteBody → DeviceId → DeviceId
arrived_device (notes.Arrived device link from clock) other = device
arrived_device body other = other

abbrev arrived_link : NoteBody → LinkId → LinkId
arrived_link (notes.Arrived device link from clock) other = link
arrived_link body other = other

abbrev arrived_clock : NoteBody → ℕ
arrived_clock (notes.Arrived device link from clock) = clock
arrived_clock body = 0

-- two permanences from one arrival are of one frame, at one point and one time
record IsOnePermanence (t u : ℕ) (device other : DeviceId) (link by : LinkId) (f g : Pcf) (p q : Units) : Type 0 where
  pub devices : device ≡ other
  pub links : link ≡ by
  pub frames : f ≡ g
  pub points : p ≡ q
  pub times : t ≡ u

module _ (s : Scenario) (hs : List Happening) (t u : ℕ) (device other : DeviceId) (link by : LinkId) (cause : ℕ) where
  one_permanence : {f g : Pcf} {p q : Units} → IsPermanent s hs device t link cause f p
      → IsPermanent s hs other u by cause g q → IsOnePermanence t u device other link by f g p q
  one_permanence {f} {g} {p} {q} a b =
      let one = same_some (numbered hs cause) a.arrival b.arrival a.there b.there in
      let bodies = sym a.arrived
      ∙ ap (λ h. h.note.body) one
      ∙ b.arrived in
      let devices : device ≡ other = ap (λ c. arrived_device c device) bodies in
      let values : p.0 ≡ q.0 = cc in
      let points : p ≡ q = rw values in
      let reached : IsReach (s.reading device) (pos (time_of a.arrival)) p.0 (pos u) =
      rw devices (rw values (rw one b.reached)) in
      record {
        devices = devices;
        links = ap (λ c. arrived_link c link) bodies;
        frames = same_some a.arrival.frame f g a.of_frame (rw one b.of_frame);
        points = points;
        times = one_reach (s.reading device) (pos (time_of a.arrival)) p.0 t u a.reached reached;
      }

  -- what became of the frames is one
  same_place : {from : ℕ} {p q : Units} {a b : Ripe} → cause ≡ from
      → (x : BecomesPermanent s hs device t link cause p a) (y : BecomesPermanent s hs other u by from q b)
      → record_place t device link cause x.frame p a ≡ record_place u other by from y.frame q b
  same_place {p} {q} {a} {b} causes x y =
      let there : IsPermanent s hs other u by cause y.frame q =
      rw causes y.permanent in
      let same = one_permanence x.permanent there in
      let moved : BecomesPermanent s hs device t link cause q b =
      rw same.devices (rw same.times (rw same.links (rw causes y))) in
      let outcomes = same_ripening s hs t device link cause x moved in
      rw outcomes
      (ap (λ v. record_place t device link cause x.frame v b) same.points
      ∙ ap (λ f. record_place t device link cause f q b) same.frames
      ∙ ap (λ n. record_place n device link cause y.frame q b) same.times
      ∙ ap (λ d. record_place u d link cause y.frame q b) same.devices
      ∙ ap (λ l. record_place u other l cause y.frame q b) same.links
      ∙ ap (λ n. record_place u other by n y.frame q b) causes)

pub recorded : (device : DeviceId) (link : LinkId) (cause : ℕ) (point : Units) (v : Judgement)
    → permanence_record device link cause point (ripe_as v) ≡ notes.Permanent device link cause point v
recorded device link cause point judgements.Opened = refl
recorded device link cause point other = refl

-- a record of an arrival puts nothing on a wire
abbrev IsArrived : NoteBody → Type 0
IsArrived (notes.Arrived device link from clock) = Unit {0}
IsArrived other = ⊥

puts_none : (body : NoteBody) → IsArrived body → IsPutting body → ⊥
puts_none (notes.Arrived device link from clock) i p = p
puts_none other i p = absurd i

-- a record that is due and tells of a permanence is due by it, where its cause is an arrival
by_permanence : {s : Scenario} {before : List Happening} {x : Happening} (cause : ℕ) → IsDue s before x
    → ((g : Happening) → numbered before cause ≡ Some g → IsArrived g.note.body) → (body : NoteBody)
    → x.note.body ≡ body → IsCaused s before x.note.time body → TellsPermanence cause body
    → (h : IsDueByPermanence s before x) × (h.cause ≡ cause)
by_permanence cause due arrived (notes.Permanent device link from point verdict) is c e = (
  record {
    due = due;
    device = device;
    link = link;
    cause = from;
    point = point;
    is = ripe_as verdict;
    becomes = c;
    says = is ∙ sym (recorded device link from point verdict);
  },
  e,
)
by_permanence {s} {before} cause due arrived (notes.Dropped device link from reason) is c e =
    elim c [
      | inl a ↦
          let p = a.putting in
          let here = arrived p (rw e.0 at a.there) in
          absurd (puts_none p.note.body here (puts s p (time_of p) p.note.body _ a.arrives.put))
      | inr (inl r) ↦ (
        record { due = due; device = device; link = link; cause = from; point = r.0; is = ripe.Dropped reason; becomes = r.1; says = is },
        e.0,
      )
      | inr (inr l) ↦ absurd (e.1 l.1)
    ]
by_permanence cause due arrived other is c e = absurd e

due_so : {s : Scenario} {hs : List Happening} {until cause : ℕ} {x : Happening} → OwesPermanence s hs until cause
    → (h : IsDueIn place_of (IsDue s) hs x) → TellsPermanence cause x.note.body
    → (d : IsDueByPermanence s h.before x) × (d.cause ≡ cause)
due_so {hs} {cause} {x} o h told =
    let arrival = o.permanent.arrival in
    let arrived : (g : Happening) → numbered h.before cause ≡ Some g → IsArrived g.note.body = λ g there.
    let one = same_some (numbered hs cause) arrival g o.permanent.there
    (in_whole hs h.before h.behind cause g h.parts there) in
    rw one at (subst IsArrived (sym o.permanent.arrived) tt) in
    by_permanence cause h.due arrived x.note.body refl h.due.cause told

pub permanence_law : PermanenceLaw
permanence_law s hs until founded = record {
  each = λ x h here. permanence_owed s until h here;
  some = λ cause o. some_permanence founded o;
  one = λ cause x y o a b p q.
      let first = due_so o a p in
      let second = due_so o b q in
      let i = first.0 in
      let j = second.0 in
      let here = due_becomes a i in
      let there = due_becomes b j in
      due_place i
      ∙ ap (λ f. record_place (time_of x) i.device i.link i.cause f i.point i.is) (sym here.1)
      ∙ same_place s hs (time_of x) (time_of y) i.device j.device i.link j.link i.cause
      (first.1 ∙ sym second.1) here.0 there.0
      ∙ ap (λ f. record_place (time_of y) j.device j.link j.cause f j.point j.is) there.1 ∙ sym (due_place j);
}
