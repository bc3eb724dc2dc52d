-- What is owed of leavings is due.
use Rattle.audit_law.proofs.law_lemmas.{Permanence.not_old, Words.{subst, sym, time_of, units_of, ℕ}}
use Rattle.audit_law.proofs.law_lemmas.Founded.{PaidAt, due_there, found_before, from_one, front_of, in_whole}
use Rattle.audit_law.proofs.law_lemmas.Founded.{next_is_due, next_of, split_at, taken_there, timely, within}
use Rattle.audit_law.proofs.law_lemmas.Words.{◌++◌, ◌+◌, ◌<◌, ◌∙◌, ◌∷◌, ◌≡◌, DeviceId, Gives, Happening, HasAccepted, IsBefore, IsCaused, IsDue}
use Rattle.audit_law.proofs.law_lemmas.Words.{IsDueIn, IsFounded, LinkId, List, Network, NoteBody, Scenario, Some, VlId, [], ahead, ap, arith}
use Rattle.audit_law.proofs.law_lemmas.Words.{inl, inr, key, members_in, numbered, place_at, place_of, rank, refl, same_some, split}
use Rattle.audit_law.specs.law.{DebtLaws.DepartureLaw, Departures.{IsDueByLeaving, OwesDeparture, TellsDeparture, leaves_at, leaving_record}}
use Rattle.run_law.{proofs.runs.SameSteps.same_departure, specs.control.Leaving.{Departs, Departure, departure, leaves, on_cut_way, too_old}}
use Rattle.run_law.specs.control.Wires.{Launch, launched}
use Rattle.run_law.specs.declared.note.NoteBody.TheVariants as notes

-- a frame is given by a record of a lower rank than that of its leaving
given_before : (network : Network) (body : NoteBody) (device : DeviceId) (link : LinkId) (cause : ℕ) (d : Departure) → Gives network body device link
    → rank body < rank (leaving_record device link cause d)
given_before network (notes.Sent master cycle) device link cause (leaves clock) g = omega arith
given_before network (notes.Sent master cycle) device link cause on_cut_way g = omega arith
given_before network (notes.Sent master cycle) device link cause too_old g = omega arith
given_before network (notes.Compressed cm opened at cycle members verdict) device link cause (leaves clock) g = omega arith
given_before network (notes.Compressed cm opened at cycle members verdict) device link cause on_cut_way g = omega arith
given_before network (notes.Compressed cm opened at cycle members verdict) device link cause too_old g = omega arith
given_before network (notes.Arrived relay by from clock) device link cause (leaves grown) g = omega arith
given_before network (notes.Arrived relay by from clock) device link cause on_cut_way g = omega arith
given_before network (notes.Arrived relay by from clock) device link cause too_old g = omega arith
given_before network other device link cause d g = absurd g

caused : {s : Scenario} {before : List Happening} {t : ℕ} {device : DeviceId} {link : LinkId} {cause : ℕ}
    (d : Departure) → Departs s before device t link cause d
    → IsCaused s before (units_of t) (leaving_record device link cause d)
caused (leaves clock) h = h
caused on_cut_way h = inl h
caused too_old h = inr (inr (h, refl))

tells : (device : DeviceId) (link : LinkId) (cause : ℕ) (d : Departure) → TellsDeparture cause link (leaving_record device link cause d)
tells device link cause (leaves clock) = (refl, refl)
tells device link cause on_cut_way = (refl, refl)
tells device link cause too_old = (refl, refl, refl)

-- the place of a leaving
abbrev leaving_place : ℕ → DeviceId → LinkId → ℕ → Departure → List ℕ
leaving_place t device link cause d = t ∷ rank (leaving_record device link cause d) ∷ device.0 ∷ link.0 ∷ cause ∷ []

pub record_place : (t m : ℕ) (device : DeviceId) (link : LinkId) (cause : ℕ) (d : Departure)
    → place_at t m (leaving_record device link cause d) ≡ leaving_place t device link cause d
record_place t m device link cause (leaves clock) = refl
record_place t m device link cause on_cut_way = refl
record_place t m device link cause too_old = refl

some_departure : {s : Scenario} {hs : List Happening} {until cause : ℕ} {link : LinkId}
    → IsFounded place_of (IsDue s) hs → (o : OwesDeparture s hs until cause link)
    → PaidAt s hs until (IsDueByLeaving s) (leaves_at s o.device link o.giving)
    (λ x. TellsDeparture cause link x.note.body)
some_departure {s} {hs} {until} {cause} {link} founded o =
    let t = leaves_at s o.device link o.giving in
    let d = departure s o.device link o.frame (time_of o.giving) t in
    let body = leaving_record o.device link cause d in
    let p = leaving_place t o.device link cause d in
    let at = split place_of (IsDue s) hs p founded in
    let sooner = ahead (time_of o.giving) t (rank o.giving.note.body) (rank body)
    (key (members_in o.giving) o.giving.note.body) (o.device.0 ∷ link.0 ∷ cause ∷ []) (omega arith)
    (given_before s.network o.giving.note.body o.device link cause d o.gives) in
    let departs : Departs s at.front o.device t link cause d = record {
      giving = o.giving;
      there = found_before s hs p founded at cause o.giving o.there sooner;
      gives = o.gives;
      frame = o.frame;
      of_frame = o.of_frame;
      held = refl;
      correct = o.correct;
      becomes = refl;
    } in
    let x = next_of s at.front t body in
    let due : IsDueByLeaving s at.front x = record {
      due = next_is_due s at.front t body (caused d departs);
      device = o.device;
      link = link;
      cause = cause;
      is = d;
      departs = departs;
      says = refl;
    } in (
      x,
      due_there (IsDueByLeaving s) at x (record_place t (members_in x) o.device link cause d) due,
      within t until (rank body ∷ key (members_in x) body) o.timely,
      tells o.device link cause d,
      refl,
    )

-- ---- what leaves was owed

-- a frame that departs, given a front of the list, departs by the list
pub departs_in_whole : {s : Scenario} (hs : List Happening) {before : List Happening} (rest : List Happening) {t : ℕ}
    {device : DeviceId} {link : LinkId} {cause : ℕ} {d : Departure} → hs ≡ before ++ rest
    → Departs s before device t link cause d → Departs s hs device t link cause d
departs_in_whole hs rest e h = grind (arith, in_whole)

departure_owed : (s : Scenario) {hs : List Happening} (until : ℕ) {x : Happening}
    → IsDueIn place_of (IsDueByLeaving s) hs x → IsBefore (place_of x) ((until + 1) ∷ [])
    → (given : ℕ × LinkId) × (o : OwesDeparture s hs until given.0 given.1)
    × TellsDeparture given.0 given.1 x.note.body × (time_of x ≡ leaves_at s o.device given.1 o.giving)
departure_owed s {hs} until {x} h here =
    let d = h.due.departs in
    let owed : OwesDeparture s hs until h.due.cause h.due.link = record {
      giving = d.giving;
      there = in_whole hs h.before h.behind h.due.cause d.giving h.parts d.there;
      device = h.due.device;
      gives = d.gives;
      frame = d.frame;
      of_frame = d.of_frame;
      correct = rw d.held at d.correct;
      timely = rw d.held at (timely (time_of x) until (rank x.note.body ∷ key (members_in x) x.note.body) here);
    } in
    let told = subst (TellsDeparture h.due.cause h.due.link) (sym h.due.says) (tells h.due.device h.due.link h.due.cause h.due.is) in
    ((h.due.cause, h.due.link), owed, told, d.held)

-- ---- what pays for one is at one place

-- the record may give a frame to a link
abbrev IsGiving : NoteBody → Type 0
IsGiving (notes.Sent master cycle) = Unit {0}
IsGiving (notes.Compressed cm opened at cycle members verdict) = Unit {0}
IsGiving (notes.Arrived relay by from clock) = Unit {0}
IsGiving other = ⊥

gives_so : (network : Network) (body : NoteBody) (device : DeviceId) (link : LinkId) → Gives network body device link → IsGiving body
gives_so network (notes.Sent master cycle) device link g = tt
gives_so network (notes.Compressed cm opened at cycle members verdict) device link g = tt
gives_so network (notes.Arrived relay by from clock) device link g = tt
gives_so network other device link g = absurd g

puts_none : (s : Scenario) (h : Happening) (t : ℕ) (body : NoteBody) (l : Launch) → IsGiving body → launched s h t body ≡ Some l → ⊥
puts_none s h t (notes.Sent master cycle) l g e = cc
puts_none s h t (notes.Compressed cm opened at cycle members verdict) l g e = cc
puts_none s h t (notes.Arrived relay by from clock) l g e = cc
puts_none s h t other l g e = absurd g

accepted_gives_none : (body : NoteBody) (device : DeviceId) (link : LinkId) (from : ℕ) (vl : VlId) (cycle : ℕ)
    → body ≡ notes.Accepted device link from vl cycle → IsGiving body → ⊥
accepted_gives_none body device link from vl cycle is g = subst IsGiving is g

-- what is taken from a switch's last frame is of a record of a taking
from_accepted : (s : Scenario) {before : List Happening} {device : DeviceId} {vl : VlId} {t cause cycle : ℕ}
    → IsFounded place_of (IsDue s) before → ((g : Happening) → numbered before cause ≡ Some g → IsGiving g.note.body)
    → HasAccepted before device vl t cause cycle → ⊥
from_accepted s {device} {vl} {cycle} founded giving has =
    accepted_gives_none has.taken.note.body device has.link has.from vl cycle has.is
    (giving has.taken (taken_there s founded has))

-- a record that is due and tells of a leaving is due by it, where its cause gives a frame to a link
by_leaving : {s : Scenario} {before : List Happening} {x : Happening} (cause : ℕ) (link : LinkId) → IsDue s before x
    → IsFounded place_of (IsDue s) before → (cause ≡ 0 → ⊥)
    → ((g : Happening) → numbered before cause ≡ Some g → IsGiving g.note.body) → (body : NoteBody)
    → x.note.body ≡ body → IsCaused s before x.note.time body → TellsDeparture cause link body
    → (h : IsDueByLeaving s before x) × (h.cause ≡ cause) × (h.link ≡ link)
by_leaving cause link due founded some gives (notes.Left device by from clock) is c e =
    (record { due = due; device = device; link = by; cause = from; is = leaves clock; departs = c; says = is }, e.1, e.0)
by_leaving {s} {before} cause link due founded some gives (notes.Lost device by from) is c e =
    let all : (g : Happening) → numbered before from ≡ Some g → IsGiving g.note.body = λ g here.
    gives g (rw e.1 at here) in
    elim c [
      | inl d ↦ (record { due = due; device = device; link = by; cause = from; is = on_cut_way; departs = d; says = is }, e.1, e.0)
      | inr (inl row) ↦
          elim row.2.at_hand [
            | inl own ↦ absurd (some (sym e.1 ∙ own.1))
            | inr taken ↦ absurd (from_accepted s founded all taken.1)
          ]
      | inr (inr send) ↦ absurd (subst IsGiving send.sends (all send.event send.is.there))
    ]
by_leaving {s} {before} {x} cause link due founded some gives (notes.Dropped device by from reason) is c e =
    let all : (g : Happening) → numbered before from ≡ Some g → IsGiving g.note.body = λ g here.
    gives g (rw e.1 at here) in
    elim c [
      | inl a ↦ absurd (puts_none s a.putting (time_of a.putting) a.putting.note.body _ (all a.putting a.there) a.arrives.put)
      | inr (inl r) ↦ absurd (not_old reason r.1 e.2)
      | inr (inr l) ↦
          let old = is ∙ ap (λ r. notes.Dropped device by from r) l.1 in
          (record { due = due; device = device; link = by; cause = from; is = too_old; departs = l.0; says = old }, e.1, e.0)
    ]
by_leaving cause link due founded some gives other is c e = absurd e

-- a record gives its frame for one device
pub one_giver : (network : Network) (body : NoteBody) (device other : DeviceId) (link : LinkId) → Gives network body device link → Gives network body other link
    → device ≡ other
one_giver network (notes.Sent master cycle) device other link a b = a.0 ∙ sym b.0
one_giver network (notes.Compressed cm opened at cycle members verdict) device other link a b = a.0 ∙ sym b.0
one_giver network (notes.Arrived relay by from clock) device other link a b = a.0 ∙ sym b.0
one_giver network body device other link a b = absurd a

-- where two leavings of one frame by one link stand
pub same_place : {s : Scenario} {hs : List Happening} {t u : ℕ} {device other : DeviceId} {link by : LinkId}
    {cause from : ℕ} {d e : Departure} → cause ≡ from → link ≡ by → Departs s hs device t link cause d
    → Departs s hs other u by from e → leaving_place t device link cause d ≡ leaving_place u other by from e
same_place {s} {hs} {t} {u} {device} {other} {link} {by} {cause} {d} {e} causes links a b =
    let there = subst (λ k. Departs s hs other u k cause e) (sym links) (rw (sym causes) at b) in
    let one = same_some (numbered hs cause) there.giving a.giving there.there a.there in
    let devices = one_giver s.network a.giving.note.body device other link a.gives
    (rw (sym one) there.gives) in
    let times = a.held
    ∙ ap (λ x. leaves_at s x link a.giving) devices
    ∙ ap (λ h. leaves_at s other link h) (sym one)
    ∙ sym there.held in
    let moved = subst (λ k. Departs s hs k t link cause e) (sym devices)
    (rw (sym times) at there) in
    let outcomes = same_departure s hs t device link cause a moved in
    rw outcomes
    (ap (λ n. leaving_place n device link cause e) times
    ∙ ap (λ k. leaving_place u k link cause e) devices
    ∙ ap (λ k. leaving_place u other k cause e) links
    ∙ ap (λ n. leaving_place u other by n e) causes)

-- the place of what is due by a leaving
due_place : {s : Scenario} {before : List Happening} {x : Happening} (h : IsDueByLeaving s before x)
    → place_of x ≡ leaving_place (time_of x) h.device h.link h.cause h.is
due_place {x} h =
    rw h.says (record_place (time_of x) (members_in x) h.device h.link h.cause h.is)

-- what is due and tells of a leaving that is owed is due by it in the list
due_so : {s : Scenario} {hs : List Happening} {until cause : ℕ} {link : LinkId} {x : Happening}
    → IsFounded place_of (IsDue s) hs → OwesDeparture s hs until cause link → (h : IsDueIn place_of (IsDue s) hs x)
    → TellsDeparture cause link x.note.body → (d : IsDueByLeaving s h.before x) × (d.cause ≡ cause) × (d.link ≡ link)
due_so {s} {hs} {cause} {link} {x} founded o h tells =
    let front = front_of s hs (place_of x) founded (split_at (IsDue s) hs x h) in
    let gives = gives_so s.network o.giving.note.body o.device link o.gives in
    let all : (g : Happening) → numbered h.before cause ≡ Some g → IsGiving g.note.body = λ g there.
    rw (same_some (numbered hs cause) o.giving g o.there (in_whole hs h.before h.behind cause g h.parts
    there)) at gives in
    by_leaving cause link h.due front (from_one hs cause o.giving o.there) all x.note.body refl h.due.cause tells

-- it departs by the list
due_departs : {s : Scenario} {hs : List Happening} {x : Happening} (h : IsDueIn place_of (IsDue s) hs x)
    (d : IsDueByLeaving s h.before x) → Departs s hs d.device (time_of x) d.link d.cause d.is
due_departs {hs} h d = departs_in_whole hs h.behind h.parts d.departs

pub departure_law : DepartureLaw
departure_law s hs until founded = record {
  each = λ x h here. departure_owed s until h here;
  some = λ given o. some_departure founded o;
  one = λ given x y o a b p q.
      let first = due_so founded o a p in
      let second = due_so founded o b q in
      let i = first.0 in
      let j = second.0 in
      due_place i ∙ same_place (first.1 ∙ sym second.1) (first.2 ∙ sym second.2) (due_departs a i) (due_departs b j)
      ∙ sym (due_place j);
}
