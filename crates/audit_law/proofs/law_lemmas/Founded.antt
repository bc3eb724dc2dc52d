-- Founded lists: the numbers of their records, cuts at a time, and what is due at their places.
use Rattle.std.{proofs.{Common.append_assoc, lemmas.Bool.lt-ltb}, specs.List.suffix_len}
use Rattle.audit_law.proofs.law_lemmas.Words
use Words.{if◌then◌else◌, ◌++◌, ◌+ℤ◌, ◌+◌, ◌-◌, ◌<◌, ◌∙◌, ◌∷◌, ◌≡◌, ◌≤ℤ◌, ◌≤◌, ◌⊎◌, AllBefore, Bool, ChangesState}
use Words.{ComesToPoint, DeviceId, Happening, HasAccepted, IsBefore, IsCaused, IsDue, IsDueIn, IsFounded, IsIn, IsRun}
use Words.{IsSplit, List, None, NoneBefore, NoteBody, Option, Scenario, Some, State, Units, Verdict, VlId, Why, []}
use Words.{adjustment_before, after_last, ahead, amount, ap, append-nil, arith, behind_first, cases_lt, chain, earlier}
use Words.{eqb-true, false, filter, filter-append, fold, front_founded, heard_since_point, in_parts, in_right, inl, inr}
use Words.{ints, is_turned_on_at, key, last_or, le-ltb, length, members_in, nat_lt, never_self, next_point, none_kept}
use Words.{not, numbered, numbered_front, numbered_in, option_map_or, parted, place_at, place_of, pos, rank, refl}
use Words.{same_earlier, same_some, slice_get, split, standing_at, state_after, subst, suc, sym, time_of, true}
use Words.{units_of, zero, ℕ}
use Rattle.audit_law.specs.law.{Changes.{IsBrought, IsDueByChange, OwesChange, TellsChange}, DebtLaws.ChangeLaw}
use Rattle.audit_law.specs.law.{DueRecords.IsCorrectedRecord}
use Rattle.net_plan.{proofs.SameIds.same_device, specs.declared.event.What.TheVariants.On}
use Rattle.run_law.proofs.{control.Verdicts.looking_by, law.FirstDeliveries.{accepted_in, in_front_of, numbered_next}}
use Rattle.run_law.proofs.{records.Order.{all_kept, in_drop, time_before}}
use Rattle.run_law.proofs.runs.{Determined.{no_cause, same_note, same_time, same_units}}
use Rattle.run_law.proofs.runs.{Places.{before_later_time, earlier_time}}
use Rattle.run_law.specs.{declared.{judgement.Judgement.TheVariants.Integrates, note.Note.Note}}
use Rattle.run_law.specs.{device.States.{is_joined_by, state_before}}
use Rattle.run_law.specs.{records.{Causes.IsOfThisTime, Happenings.happening}, runs.Runs.IsDetermined}
use Rattle.sync_state.{proofs.{VerdictLemmas.one_verdict, membership_lemmas.SummaryLemmas.one_summary}}
use Rattle.sync_state.{specs.declared.state.State.TheVariants.Integrating}
use Rattle.tte_units.proofs.general_lemmas.{Integers.whole, Options.one}
use Rattle.run_law.proofs.runs.Determined as runs_determined
use Rattle.run_law.specs.declared.judgement.Why.TheVariants as whys
use Rattle.run_law.specs.declared.note.NoteBody.TheVariants as notes
use Rattle.run_law.specs.runs.DueRecords as runs

-- ---- founded lists: the numbers of their records, cuts at a time, and what is due at their places

-- ---- the records of a founded list by their numbers

-- a record of a founded list, with those before it
pub record IsFoundedAt (s : Scenario) (hs : List Happening) (h : Happening) : Type 0 where
  pub front : List Happening
  pub rest : List Happening
  pub whole : hs ≡ front ++ h ∷ rest
  pub due : IsDue s front h
  pub founded : IsFounded place_of (IsDue s) front

module _ (s : Scenario) (hs : List Happening) (h : Happening) (founded : IsFounded place_of (IsDue s) hs)
    (i : IsIn h hs) where
  -- each record of a founded list is due given those before it
  pub founded_at : IsFoundedAt s hs h
  founded_at =
      let at = parted h hs i in
      record {
        front = at.0;
        rest = at.1;
        whole = at.2;
        due = (founded at.0 at.1 h at.2).1;
        founded = front_founded place_of (IsDue s) at.0 (h ∷ at.1) (subst (IsFounded place_of (IsDue s)) at.2 founded);
      }

  -- a record of a founded list is found by its number
  pub by_number : numbered hs h.note.number ≡ Some h
  by_number =
      let at = founded_at in
      rw at.whole (numbered_next at.front at.rest h h.note.number at.due.number)

-- what a founded list has by a number has that number
pub number_is : (s : Scenario) (hs : List Happening) (n : ℕ) (h : Happening) → IsFounded place_of (IsDue s) hs → numbered hs n ≡ Some h → h.note.number ≡ n
number_is s hs zero h founded e = absurd cc
number_is s hs (suc n) h founded e =
    let at = parted_at hs n h e in
    let due = (founded at.0 at.1 h at.2).1 in
    omega (arith, due.number, at.3)
  where
    parted_at : (gs : List Happening) (i : ℕ) (g : Happening) → slice_get gs i ≡ Some g → (ps : List Happening) × (qs : List Happening) × (gs ≡ ps ++ g ∷ qs)
        × (length ps ≡ i)
    parted_at [] i g e = absurd cc
    parted_at (f ∷ gs) zero g e = let same : f ≡ g = cc in ([], gs, ap (λ x. x ∷ gs) same, refl)
    parted_at (f ∷ gs) (suc i) g e =
        let more = parted_at gs i g e in
        (f ∷ more.0, more.1, rw more.2, ap suc more.3)

-- ---- what is due in a founded list, by its places

-- where a list parts at what is due in it
abbrev pub split_at : (IsDueSo : List Happening → Happening → Type 0) (hs : List Happening) (x : Happening) → IsDueIn place_of IsDueSo hs x
    → IsSplit place_of hs (place_of x)
split_at IsDueSo hs x h = record { front = h.before; rest = h.behind; whole = h.parts; before = h.all_before; none = h.none_before }

-- what is due in a list finds there all records of earlier times
pub earlier_in : (IsDueSo : List Happening → Happening → Type 0) {hs : List Happening} {x : Happening}
    (h : IsDueIn place_of IsDueSo hs x) → earlier (time_of x) h.before ≡ earlier (time_of x) hs
earlier_in IsDueSo {hs} {x} h =
    same_earlier (time_of x) (rank x.note.body ∷ key (members_in x) x.note.body) (split_at IsDueSo hs x h)

-- what a front has by a number, the list has by it
pub in_whole : (hs before rest : List Happening) (n : ℕ) (h : Happening) → hs ≡ before ++ rest → numbered before n ≡ Some h → numbered hs n ≡ Some h
in_whole hs before rest n h e there = rw e (numbered_front before rest n h there)

module _ (s : Scenario) (hs : List Happening) (p : List ℕ) (founded : IsFounded place_of (IsDue s) hs) where
  -- the front of a founded list is founded
  pub front_of : (at : IsSplit place_of hs p) → IsFounded place_of (IsDue s) at.front
  front_of at =
      front_founded place_of (IsDue s) at.front at.rest (subst (IsFounded place_of (IsDue s)) at.whole founded)

  -- a record before the place is found by its number in the front
  pub found_before : (at : IsSplit place_of hs p) (n : ℕ) (h : Happening) → numbered hs n ≡ Some h
      → IsBefore (place_of h) p → numbered at.front n ≡ Some h
  found_before at n h there sooner =
      let i = in_front_of at h (numbered_in hs n h there) sooner in
      let number = number_is s hs n h founded there in
      rw (sym number) (by_number s at.front h (front_of at) i)

-- the record that comes next behind these, with this body at this time
abbrev pub next_of : Scenario → List Happening → ℕ → NoteBody → Happening
next_of s ps t body = let note : Note = record { number = length ps + 1; time = units_of t; body = body } in happening s.network ps note

-- such a record with a cause is due
pub next_is_due : (s : Scenario) (ps : List Happening) (t : ℕ) (body : NoteBody) → IsCaused s ps (units_of t) body → IsDue s ps (next_of s ps t body)
next_is_due s ps t body cause = record { number = refl; same = refl; begun = omega (arith, ints); cause = cause }

-- where a list parts at the place of a record, and the record is due so there, it is due so in the list
pub due_there : (IsDueSo : List Happening → Happening → Type 0) {hs : List Happening} {p : List ℕ}
    (at : IsSplit place_of hs p) (x : Happening) → place_of x ≡ p → IsDueSo at.front x → IsDueIn place_of IsDueSo hs x
due_there IsDueSo at x place due = grind (arith, place_of)

-- what is of a time up to another is before the end of that
pub within : (t until : ℕ) (ks : List ℕ) → t ≤ until → IsBefore (t ∷ ks) ((until + 1) ∷ [])
within t until ks le = inl (omega arith)

-- and what is before the end is of such a time
pub timely : (t until : ℕ) (ks : List ℕ) → IsBefore (t ∷ ks) ((until + 1) ∷ []) → t ≤ until
timely t until ks (inl lt) = omega arith
timely t until ks (inr h) = absurd h.1

-- no record has the number 0
pub from_one : (hs : List Happening) (n : ℕ) (g : Happening) → numbered hs n ≡ Some g → n ≡ 0 → ⊥
from_one hs zero g there e = cc
from_one hs (suc n) g there e = cc

-- what a switch took last is found by its number
pub taken_there : (s : Scenario) {before : List Happening} {device : DeviceId} {vl : VlId} {t cause cycle : ℕ}
    → IsFounded place_of (IsDue s) before → (has : HasAccepted before device vl t cause cycle)
    → numbered before cause ≡ Some has.taken
taken_there s {before} founded has =
    let found = by_number s before has.taken founded (accepted_in has) in
    rw has.number found

-- a time from 0 on is of its amount
pub of_amount : (t : Units) → pos 0 ≤ℤ t.0 → t ≡ units_of (amount t)
of_amount t begun = rw (whole t.0 begun)

-- a record that is due so in the list, and before the end of the time, tells this at the time at which it is owed
abbrev pub PaidAt : Scenario → List Happening → ℕ → (List Happening → Happening → Type 0) → ℕ → (Happening → Type 0) → Type 0
PaidAt s hs until IsDueSo time Tells = (x : Happening) × IsDueIn place_of IsDueSo hs x × IsBefore (place_of x) ((until + 1) ∷ []) × Tells x × (time_of x ≡ time)

-- ---- a record that is due in an audit is determined by its place

-- ---- what is caused as in a run

-- the record is of a correction point: a correction, or a state by a clique
abbrev pub IsOfPoint : NoteBody → Type 0
IsOfPoint (notes.Corrected device cycle by adjustment) = Unit {0}
IsOfPoint (notes.State device state cause whys.SyncClique) = Unit {0}
IsOfPoint (notes.State device state cause whys.AsyncClique) = Unit {0}
IsOfPoint other = ⊥

-- and any other record
abbrev pub IsOfNoPoint : NoteBody → Type 0
IsOfNoPoint (notes.Corrected device cycle by adjustment) = ⊥
IsOfNoPoint (notes.State device state cause whys.SyncClique) = ⊥
IsOfNoPoint (notes.State device state cause whys.AsyncClique) = ⊥
IsOfNoPoint other = Unit {0}

pub either : (body : NoteBody) → IsOfPoint body ⊎ IsOfNoPoint body
either (notes.Corrected device cycle by adjustment) = inl tt
either (notes.State device state cause whys.SyncClique) = inl tt
either (notes.State device state cause whys.AsyncClique) = inl tt
either (notes.State device state cause whys.On) = inr tt
either (notes.State device state cause whys.Frame) = inr tt
either (notes.State device state cause whys.Correction) = inr tt
either other = inr tt

module _ (s : Scenario) (hs : List Happening) (time : Units) where
  -- what is of no correction point is caused as in a run
  pub caused_in_run : (body : NoteBody) → IsOfNoPoint body → IsCaused s hs time body → runs.IsCaused s hs time body
  caused_in_run (notes.Corrected device cycle by adjustment) off c = absurd off
  caused_in_run (notes.State device state cause whys.SyncClique) off c = absurd off
  caused_in_run (notes.State device state cause whys.AsyncClique) off c = absurd off
  caused_in_run (notes.State device state cause whys.On) off c = c
  caused_in_run (notes.State device state cause whys.Frame) off c = c
  caused_in_run (notes.State device state cause whys.Correction) off c = c
  caused_in_run other off c = c

  -- and what is so in a run, in an audit
  pub caused_in_audit : (body : NoteBody) → IsOfNoPoint body → runs.IsCaused s hs time body → IsCaused s hs time body
  caused_in_audit (notes.Corrected device cycle by adjustment) off c = absurd off
  caused_in_audit (notes.State device state cause whys.SyncClique) off c = absurd off
  caused_in_audit (notes.State device state cause whys.AsyncClique) off c = absurd off
  caused_in_audit (notes.State device state cause whys.On) off c = c
  caused_in_audit (notes.State device state cause whys.Frame) off c = c
  caused_in_audit (notes.State device state cause whys.Correction) off c = c
  caused_in_audit other off c = c

-- a record by which a frame tells a device the time finds it integrating
pub joins_looking : (s : Scenario) (ps : List Happening) (time : Units) (device : DeviceId) (body : NoteBody) → is_joined_by device body ≡ true
    → IsCaused s ps time body → state_before s ps device (amount time) ≡ Integrating
joins_looking s ps time device (notes.Permanent other link cause point Integrates) joined caused =
    looking_by s ps time device (notes.Permanent other link cause point Integrates) joined caused
joins_looking s ps time device (notes.Compressed other opened at cycle members Integrates) joined caused =
    looking_by s ps time device (notes.Compressed other opened at cycle members Integrates) joined caused
joins_looking s ps time device other joined caused = absurd cc

-- ---- correction points

module _ {s : Scenario} {hs : List Happening} {t : ℕ} {device : DeviceId} {cycle other : ℕ} {v w : Verdict}
    (a : ComesToPoint s hs device t cycle v) (b : ComesToPoint s hs device t other w) where
  same_cycle : cycle ≡ other
  same_cycle = one (next_point (standing_at s hs device t)) cycle other a.next b.next

  pub same_verdict : v ≡ w
  same_verdict =
      let heard = one_summary (heard_since_point s hs device t) a.summary b.summary a.heard b.heard in
      one_verdict (standing_at s hs device t) a.summary v w a.comes
      (rw heard b.comes)

module _ (s : Scenario) (hs : List Happening) (t : ℕ) (device : DeviceId) where
  same_corrected : {cycle other : ℕ} {by gain adjustment later : Units}
      → IsCorrectedRecord s hs device t cycle by adjustment → IsCorrectedRecord s hs device t other gain later
      → notes.Corrected device cycle by adjustment ≡ notes.Corrected device other gain later
  same_corrected {other} {by} {gain} {adjustment} {later} a b =
      let cycles = same_cycle a.corrected b.corrected in
      let verdicts = same_verdict a.corrected b.corrected in
      let gains : by ≡ gain = cc in
      let sums = same_units adjustment later (a.sum ∙ ap (λ u. (adjustment_before s hs device t).0 +ℤ u.0)
      gains ∙ sym b.sum) in
      rw cycles
      (ap (λ u. notes.Corrected device other u adjustment) gains
      ∙ ap (λ u. notes.Corrected device other gain u) sums)

  -- a change that no correction point brings has a cause
  has_cause : (other : DeviceId) (cause : ℕ) (state : State) (why : Why)
      → IsOfNoPoint (notes.State other state cause why) → ChangesState s hs device t state cause why → cause ≡ 0 → ⊥
  has_cause other cause state whys.On off c none = no_cause cause none c.2.2
  has_cause other cause state whys.Frame off c none = no_cause cause none c.1.1
  has_cause other cause state whys.Correction off c none = no_cause cause none c.2.4
  has_cause other cause state whys.SyncClique off c none = off
  has_cause other cause state whys.AsyncClique off c none = off

-- ---- records

same_state : (device other : DeviceId) (state later : State) (cause from : ℕ) (why : Why) → device.0 ≡ other.0 → state ≡ later → cause ≡ from
    → notes.State device state cause why ≡ notes.State other later from why
same_state device other state later cause from why ids states causes = grind (arith, same_device)

module _ (s : Scenario) (hs : List Happening) (time : Units) (m n : ℕ) where
  -- what is of a correction point has not the place of what is of none
  apart : (a b : NoteBody) → IsOfPoint a → IsOfNoPoint b → IsCaused s hs time a → IsCaused s hs time b
      → rank a ≡ rank b → key m a ≡ key n b → ⊥
  apart (notes.Corrected device cycle by adjustment) (notes.Corrected other number gain later) p off a b kinds keys =
      off
  apart (notes.Corrected device cycle by adjustment) body p off a b kinds keys = omega arith
  apart (notes.State device state cause whys.SyncClique) (notes.State other later from for) p off a b kinds keys =
      let causes : cause ≡ from = cc in has_cause s hs (amount time) other other from later for off b (sym causes ∙ a.1)
  apart (notes.State device state cause whys.AsyncClique) (notes.State other later from for) p off a b kinds keys =
      let causes : cause ≡ from = cc in has_cause s hs (amount time) other other from later for off b (sym causes ∙ a.1)
  apart (notes.State device state cause why) body p off a b kinds keys = omega arith
  apart body other p off a b kinds keys = absurd p

  same_body : (a b : NoteBody) → IsOfPoint a → IsOfPoint b → IsCaused s hs time a → IsCaused s hs time b
      → rank a ≡ rank b → key m a ≡ key n b → a ≡ b
  same_body (notes.Corrected device cycle by adjustment) (notes.Corrected other number gain later) p q a b kinds keys =
      let ids : device.0 ≡ other.0 = cc in
      let devices = same_device device other ids in
      let there = rw (sym devices) at b in
      same_corrected s hs (amount time) device a there
      ∙ ap (λ d. notes.Corrected d number gain later) devices
  same_body (notes.State device state cause whys.SyncClique) (notes.State other later from whys.SyncClique) p q a b
      kinds keys =
      let ids : device.0 ≡ other.0 =
      cc in same_state device other state later cause from whys.SyncClique ids (a.0 ∙ sym b.0) (a.1 ∙ sym b.1)
  same_body (notes.State device state cause whys.AsyncClique) (notes.State other later from whys.AsyncClique) p q a b
      kinds keys =
      let ids : device.0 ≡ other.0 =
      cc in same_state device other state later cause from whys.AsyncClique ids (a.0 ∙ sym b.0) (a.1 ∙ sym b.1)
  same_body (notes.State device state cause whys.SyncClique) (notes.State other later from whys.AsyncClique) p q a b
      kinds keys =
      let ids : other.0 ≡ device.0 = cc in
      let there = rw (same_device other device ids) at b.2.1 in
      let verdicts = same_verdict a.2.1 there in absurd cc
  same_body (notes.State device state cause whys.AsyncClique) (notes.State other later from whys.SyncClique) p q a b
      kinds keys =
      let ids : other.0 ≡ device.0 = cc in
      let there = rw (same_device other device ids) at b.2.1 in
      let verdicts = same_verdict a.2.1 there in absurd cc
  same_body (notes.Corrected device cycle by adjustment) body p q a b kinds keys = absurd (omega arith)
  same_body (notes.State device state cause why) (notes.Corrected other number gain later) p q a b kinds keys =
      absurd (omega arith)
  same_body (notes.State device state cause whys.On) body p q a b kinds keys = absurd p
  same_body (notes.State device state cause whys.Frame) body p q a b kinds keys = absurd p
  same_body (notes.State device state cause whys.Correction) body p q a b kinds keys = absurd p
  same_body (notes.State device state cause why) (notes.State other later from for) p q a b kinds keys = absurd q
  same_body (notes.State device state cause why) body p q a b kinds keys = absurd (omega arith)
  same_body body other p q a b kinds keys = absurd p

pub due_in_run : {s : Scenario} {ps : List Happening} {x : Happening} → IsOfNoPoint x.note.body → IsDue s ps x
    → runs.IsDue s ps x
due_in_run {s} {ps} {x} off d =
    record { number = d.number; same = d.same; begun = d.begun; cause = caused_in_run s ps x.note.time x.note.body off d.cause }

-- given the same records before, two that are due at one place are one
pub due_is_determined : (s : Scenario) → IsDetermined place_of (IsDue s)
due_is_determined s ps x y a b same =
    let kinds : rank x.note.body ≡ rank y.note.body = cc in
    let keys : key (members_in x) x.note.body ≡ key (members_in y) y.note.body = cc in
    let times = same_time x.note.time y.note.time a.begun b.begun cc in
    let there = rw (sym times) at b.cause in
    elim (either x.note.body) [
      | inl p ↦ elim (either y.note.body) [
        | inl q ↦
            let bodies = same_body s ps x.note.time (members_in x) (members_in y) x.note.body y.note.body p q a.cause there kinds keys in
            let notes_same = same_note x.note y.note (a.number ∙ sym b.number) times bodies in
            a.same ∙ ap (happening s.network ps) notes_same ∙ sym b.same
        | inr off ↦ absurd (apart s ps x.note.time (members_in x) (members_in y) x.note.body y.note.body p off a.cause there kinds keys)
      ]
      | inr off ↦ elim (either y.note.body) [
        | inl q ↦ absurd (apart s ps x.note.time (members_in y) (members_in x) y.note.body x.note.body q off there a.cause (sym kinds) (sym keys))
        | inr none ↦ runs_determined.due_is_determined s ps x y (due_in_run off a) (due_in_run none b) same
      ]
    ]

-- ---- founded lists in the order of time, cut at a time

abbrev Due : Type 1
Due = List Happening → Happening → Type 0

-- ---- the order of time

abbrev pub AreSorted : List Happening → Type 0
AreSorted [] = Unit {0}
AreSorted (x ∷ xs) = ((y : Happening) → IsIn y xs → time_of x ≤ time_of y) × AreSorted xs

abbrev rest_of : Happening → List ℕ
rest_of h = rank h.note.body ∷ key (members_in h) h.note.body

pub in_time : (x y : Happening) → IsBefore (place_of x) (place_of y) → time_of x ≤ time_of y
in_time x y b = time_before (time_of x) (time_of y) (rest_of x) (rest_of y) b

sorted_from : (IsDue : Due) (ps xs : List Happening) → IsFounded place_of IsDue (ps ++ xs) → AreSorted xs
sorted_from IsDue ps [] founded = tt
sorted_from IsDue ps (x ∷ xs) founded = (
  λ y i. in_time x y (behind_first place_of IsDue ps xs x y founded i),
  sorted_from IsDue (ps ++ x ∷ []) xs (subst (IsFounded place_of IsDue) (sym (append_assoc ps (x ∷ []) xs)) founded),
)

-- the records of a founded list are in the order of time
pub sorted : (IsDue : Due) (hs : List Happening) → IsFounded place_of IsDue hs → AreSorted hs
sorted IsDue hs founded = sorted_from IsDue [] hs founded

-- ---- the last of a kind

abbrev latest : Option Happening → List Happening → ℕ
latest o xs = option_map_or time_of (last_or o xs) 0

abbrev of_kind : (p : Happening → Bool) → List Happening → List Happening
of_kind p xs = filter p xs

from_last : (p : Happening → Bool) (o : Option Happening) (xs : List Happening) → AreSorted xs
    → ((y : Happening) → IsIn y xs → option_map_or time_of o 0 ≤ time_of y) → option_map_or time_of o 0 ≤ latest o (of_kind p xs)
from_last p o [] order low = omega arith
from_last p o (x ∷ xs) order low =
    grind (arith, option_map_or, time_of, filter, (from_last p (Some x) xs order.1 order.0), (from_last p o xs order.1 (λ y i. low y (inr i))))

by_last : (p : Happening → Bool) (o : Option Happening) (xs : List Happening) (h : Happening) → AreSorted xs → IsIn h xs → p h ≡ true
    → time_of h ≤ latest o (of_kind p xs)
by_last p o [] h order i is = absurd i
by_last p o (x ∷ xs) h order (inl same) is = grind (arith, from_last, time_of, filter)
by_last p o (x ∷ xs) h order (inr i) is =
    elim (p x) as (λ b. time_of h ≤ latest o (if b then x ∷ filter p xs else filter p xs))
    [ true ↦ by_last p (Some x) xs h order.1 i is | false ↦ by_last p o xs h order.1 i is ]

-- no record of a kind is later than the last of the kind
pub no_later : (p : Happening → Bool) (xs : List Happening) (h : Happening) → AreSorted xs → IsIn h xs → p h ≡ true
    → time_of h ≤ option_map_or time_of (last_or None (filter p xs)) 0
no_later p xs h order i is = by_last p None xs h order i is

-- ---- a list cut at a time

pub record IsCutAt (hs : List Happening) (t : ℕ) : Type 0 where
  pub front : List Happening
  pub rest : List Happening
  pub whole : hs ≡ front ++ rest
  pub same : earlier t hs ≡ front
  pub before : (h : Happening) → IsIn h front → time_of h < t
  pub later : (h : Happening) → IsIn h rest → t ≤ time_of h

pub cut_at : (IsDue : Due) (hs : List Happening) (t : ℕ) → IsFounded place_of IsDue hs → IsCutAt hs t
cut_at IsDue hs t founded =
    let at = split place_of IsDue hs (t ∷ []) founded in
    let test : Happening → Bool = λ h. nat_lt (time_of h) t in
    let before : (h : Happening) → IsIn h at.front → time_of h < t = λ h i. earlier_time (time_of h) t (rest_of h) (at.before h i) in
    let later : (h : Happening) → IsIn h at.rest → t ≤ time_of h = λ h i.
    elim (cases_lt (time_of h) t) [ inl lt ↦ absurd (at.none h i (inl lt)) | inr ge ↦ ge ] in
    record {
      front = at.front;
      rest = at.rest;
      whole = at.whole;
      same = ap (filter test) at.whole
          ∙ filter-append test at.front at.rest
          ∙ ap (λ gs. gs ++ filter test at.rest) (all_kept test at.front (λ h i. lt-ltb (time_of h) t (before h i)))
          ∙ ap (λ gs. at.front ++ gs) (none_kept test at.rest (λ h i. le-ltb (time_of h) t (later h i)))
          ∙ append-nil at.front;
      before = before;
      later = later;
    }

-- the front of a run, up to an earlier time, is the run up to then
pub run_before : (IsDue : Due) {hs : List Happening} (u : ℕ) {t : ℕ} → t ≤ u → IsRun place_of IsDue (u ∷ []) hs
    → (cut : IsCutAt hs t) → IsRun place_of IsDue (t ∷ []) cut.front
run_before IsDue u {t} le run cut =
    let here = subst (IsRun place_of IsDue (u ∷ [])) cut.whole run in
    record {
      founded = front_founded place_of IsDue cut.front cut.rest here.founded;
      full = λ ps qs y e before none due now.
          let early = earlier_time (time_of y) t (rest_of y) now in
          let whole = ap (λ gs. gs ++ cut.rest) e ∙ append_assoc ps qs cut.rest in
          let none_behind : NoneBefore place_of (qs ++ cut.rest) (place_of y) = λ n i b. elim (in_parts n qs cut.rest i) [
            | inl l ↦ none n l b
            | inr r ↦ let late = cut.later n r in let sooner = in_time n y b in omega arith
          ] in
          let found = here.full ps (qs ++ cut.rest) y whole before none_behind due (before_later_time (place_of y) t u le now) in
          elim (in_parts found.0 cut.front cut.rest found.1) [
            | inl l ↦ (found.0, l, found.2)
            | inr r ↦
                let late = cut.later found.0 r in
                let times : time_of found.0 ≡ time_of y = cc (found.2) in
                absurd (omega arith)
          ];
      within = λ n i. inl (cut.before n i);
    }

-- ---- a run by other causes

-- a run is one by other causes that are the same where its records part
pub run_by : (IsDue IsCaused : Due) {mark : List ℕ} {hs : List Happening}
    → ((ps qs : List Happening) (y : Happening) → hs ≡ ps ++ qs → AllBefore place_of ps (place_of y)
    → NoneBefore place_of qs (place_of y) → IsBefore (place_of y) mark
    → (IsDue ps y → IsCaused ps y) × (IsCaused ps y → IsDue ps y)) → IsRun place_of IsDue mark hs
    → IsRun place_of IsCaused mark hs
run_by IsDue IsCaused same run = record {
  founded = λ ps qs x e.
      let due = run.founded ps qs x e in
      let order = subst (IsFounded place_of IsDue) e run.founded in
      let none : NoneBefore place_of (x ∷ qs) (place_of x) = λ n i b. elim i [
        | inl is ↦ never_self (place_of x) (rw is at b)
        | inr later ↦ never_self (place_of x) (chain (place_of x) (place_of n) (place_of x) (behind_first place_of IsDue ps qs x n order later) b)
      ] in
      let here = run.within x (subst (IsIn x) (sym e) (in_right x ps (x ∷ qs) (inl refl))) in
      (due.0, (same ps (x ∷ qs) x e due.0 none here).0 due.1);
  full = λ ps qs y e before none due here. run.full ps qs y e before none ((same ps qs y e before none here).1 due) here;
  within = run.within;
}

-- ---- what a list leaves where what is added changes nothing

stays_all : {A : Type 0} (f : A → Happening → A) (a : A) (xs : List Happening) → ((b : A) (h : Happening) → IsIn h xs → f b h ≡ b) → fold f a xs ≡ a
stays_all f a [] stays = refl
stays_all f a (x ∷ xs) stays = rw (stays a x (inl refl)) (stays_all f a xs (λ b h i. stays b h (inr i)))

pub stays : {A : Type 0} (f : A → Happening → A) (a : A) (xs ys : List Happening) → ((b : A) (h : Happening) → IsIn h ys → f b h ≡ b)
    → fold f a (xs ++ ys) ≡ fold f a xs
stays f a [] ys quiet = stays_all f a ys quiet
stays f a (x ∷ xs) ys quiet = stays f (f a x) xs ys quiet

-- ---- what stands behind the last of a kind is in the list

pub in_behind : {X : Type 0} (p : X → Bool) (xs : List X) (x : X) → IsIn x (after_last p xs) → IsIn x xs
in_behind {X} p xs x i = in_drop (length xs - suffix_len (λ y. not (p y)) xs) xs x i

-- ---- what is owed of changes of state is due

-- ---- what brings a change

-- the device whose state a record changes, if it changes one
abbrev brings_to : NoteBody → Option ℕ
brings_to (notes.Event line (On device)) = Some device.0
brings_to (notes.Permanent device link cause point Integrates) = Some device.0
brings_to (notes.Compressed device opened at cycle members Integrates) = Some device.0
brings_to (notes.Corrected device cycle by adjustment) = Some device.0
brings_to other = None

joins_to : (device : DeviceId) (body : NoteBody) → is_joined_by device body ≡ true → brings_to body ≡ Some device.0
joins_to device (notes.Permanent other link cause point Integrates) e = rw (sym (eqb-true device.0 other.0 e))
joins_to device (notes.Compressed other opened at cycle members Integrates) e = rw (sym (eqb-true device.0 other.0 e))
joins_to device other e = absurd cc

joins_before : (device : DeviceId) (body : NoteBody) → is_joined_by device body ≡ true → rank body < 7
joins_before device (notes.Permanent other link cause point verdict) e = omega arith
joins_before device (notes.Compressed other opened at cycle members verdict) e = omega arith
joins_before device other e = absurd cc

-- the record that brings a change
record IsBringing (hs : List Happening) (t cause : ℕ) (device : DeviceId) : Type 0 where
  pub bringing : Happening
  pub is : IsOfThisTime hs t cause bringing
  pub to : brings_to bringing.note.body ≡ Some device.0
  pub lower : rank bringing.note.body < 7

bringing_of : (s : Scenario) (hs : List Happening) (device : DeviceId) (t : ℕ) (state : State) (cause : ℕ) (why : Why) → IsBrought why
    → ChangesState s hs device t state cause why → IsBringing hs t cause device
bringing_of s hs device t state cause whys.On b c =
    let low : rank c.2.1.note.body ≡ 1 = ap rank c.2.3 in
    record { bringing = c.2.1; is = c.2.2; to = ap brings_to c.2.3; lower = omega arith }
bringing_of s hs device t state cause whys.Frame b c =
    record { bringing = c.1.0; is = c.1.1; to = joins_to device c.1.0.note.body c.1.2; lower = joins_before device c.1.0.note.body c.1.2 }
bringing_of s hs device t state cause whys.Correction b c =
    let low : rank c.2.3.note.body ≡ 6 = ap rank c.2.5 in
    record { bringing = c.2.3; is = c.2.4; to = ap brings_to c.2.5; lower = omega arith }
bringing_of s hs device t state cause whys.SyncClique b c = absurd b
bringing_of s hs device t state cause whys.AsyncClique b c = absurd b

-- ---- by a front as by the list

of_this_time : (hs : List Happening) {t cause : ℕ} {h : Happening} {gs : List Happening} → IsOfThisTime gs t cause h
    → numbered hs cause ≡ Some h → IsOfThisTime hs t cause h
of_this_time hs is there = record { there = there; same_time = is.same_time }

-- a change is one by other records that have what brings it, and the same earlier ones
pub moved : (s : Scenario) (gs hs : List Happening) (device : DeviceId) (t : ℕ) (state : State) (cause : ℕ) (why : Why) → IsBrought why
    → earlier t gs ≡ earlier t hs → ((h : Happening) → IsOfThisTime gs t cause h → rank h.note.body < 7 → numbered hs cause ≡ Some h)
    → ChangesState s gs device t state cause why → ChangesState s hs device t state cause why
moved s gs hs device t state cause whys.On b same there c =
    let low : rank c.2.1.note.body ≡ 1 = ap rank c.2.3 in
    (c.0, c.1, (c.2.0, c.2.1, of_this_time hs c.2.2 (there c.2.1 c.2.2 (omega arith)), c.2.3))
moved s gs hs device t state cause whys.Frame b same there c =
    (c.0, (c.1.0, of_this_time hs c.1.1 (there c.1.0 c.1.1 (joins_before device c.1.0.note.body c.1.2)), c.1.2))
moved s gs hs device t state cause whys.Correction b same there c = grind (arith, rank, is_turned_on_at, state_after, of_this_time)
moved s gs hs device t state cause whys.SyncClique b same there c = absurd b
moved s gs hs device t state cause whys.AsyncClique b same there c = absurd b

-- ---- the law

some_change : {s : Scenario} {hs : List Happening} {until cause : ℕ} → IsFounded place_of (IsDue s) hs
    → (o : OwesChange s hs until cause) → PaidAt s hs until (IsDueByChange s) o.time
    (λ x. TellsChange cause x.note.body)
some_change {s} {hs} {until} {cause} founded o =
    let body = notes.State o.device o.state cause o.why in
    let p = place_at o.time 0 body in
    let at = split place_of (IsDue s) hs p founded in
    let changes = moved s hs at.front o.device o.time o.state cause o.why o.brought
    (sym (same_earlier o.time _ at)) (λ h is low.
    found_before s hs p founded at cause h is.there
    (ahead (time_of h) o.time (rank h.note.body) 7 (key (members_in h) h.note.body) (o.device.0 ∷ cause ∷ []) (omega (arith, is.same_time)) low)) o.changes in
    let x = next_of s at.front o.time body in
    let due : IsDueByChange s at.front x = record {
      due = next_is_due s at.front o.time body changes;
      device = o.device;
      state = o.state;
      cause = cause;
      why = o.why;
      brought = o.brought;
      changes = changes;
      says = refl;
    } in
    (x, due_there (IsDueByChange s) at x refl due, within o.time until (7 ∷ o.device.0 ∷ cause ∷ []) o.timely, refl, refl)

change_owed : (s : Scenario) {hs : List Happening} (until : ℕ) {x : Happening}
    → IsDueIn place_of (IsDueByChange s) hs x → IsBefore (place_of x) ((until + 1) ∷ [])
    → (cause : ℕ) × (o : OwesChange s hs until cause) × TellsChange cause x.note.body × (time_of x ≡ o.time)
change_owed s {hs} until {x} h here =
    let d = h.due in
    let owed : OwesChange s hs until d.cause = record {
      device = d.device;
      time = time_of x;
      state = d.state;
      why = d.why;
      brought = d.brought;
      changes = moved s h.before hs d.device (time_of x) d.state d.cause d.why d.brought
          (earlier_in (IsDueByChange s) h)
          (λ g is low. in_whole hs h.before h.behind d.cause g h.parts is.there) d.changes;
      timely = timely (time_of x) until (rank x.note.body ∷ key (members_in x) x.note.body) here;
    } in
    (d.cause, owed, subst (TellsChange d.cause) (sym d.says) refl, refl)

-- what the record of a change says, where its cause is a record
record IsTold (hs : List Happening) (cause : ℕ) (x : Happening) : Type 0 where
  pub device : DeviceId
  pub state : State
  pub why : Why
  pub says : x.note.body ≡ notes.State device state cause why
  pub is : IsBringing hs (time_of x) cause device

brought_by_cause : (s : Scenario) (gs : List Happening) (device : DeviceId) (t : ℕ) (state : State) (cause : ℕ) (why : Why) → (cause ≡ 0 → ⊥)
    → ChangesState s gs device t state cause why → IsBrought why
brought_by_cause s gs device t state cause whys.On some c = tt
brought_by_cause s gs device t state cause whys.Frame some c = tt
brought_by_cause s gs device t state cause whys.Correction some c = tt
brought_by_cause s gs device t state cause whys.SyncClique some c = absurd (some c.1)
brought_by_cause s gs device t state cause whys.AsyncClique some c = absurd (some c.1)

told : (s : Scenario) {hs : List Happening} (cause : ℕ) {x : Happening} (h : IsDueIn place_of (IsDue s) hs x)
    → (cause ≡ 0 → ⊥) → (body : NoteBody) → x.note.body ≡ body → IsCaused s h.before x.note.time body
    → TellsChange cause body → IsTold hs cause x
told s {hs} cause {x} h some (notes.State device state from why) is c e =
    let changes = rw e at c in
    let brought = brought_by_cause s h.before device (time_of x) state cause why some changes in
    let by = bringing_of s h.before device (time_of x) state cause why brought changes in
    record {
      device = device;
      state = state;
      why = why;
      says = is ∙ ap (λ n. notes.State device state n why) e;
      is = record {
        bringing = by.bringing;
        is = of_this_time hs by.is (in_whole hs h.before h.behind cause by.bringing h.parts by.is.there);
        to = by.to;
        lower = by.lower;
      };
    }
told s cause h some other is c e = absurd e

-- two such records have one place
same_place : {hs : List Happening} {cause : ℕ} {x y : Happening} → IsTold hs cause x → IsTold hs cause y
    → place_of x ≡ place_of y
same_place a b = grind (arith, same_some, numbered, time_of, place_at, members_in)

pub change_law : ChangeLaw
change_law s hs until founded = record {
  each = λ x h here. change_owed s until h here;
  some = λ cause o. some_change founded o;
  one = λ cause x y o a b p q.
      let by = bringing_of s hs o.device o.time o.state cause o.why o.brought o.changes in
      let some = from_one hs cause by.bringing by.is.there in
      same_place (told s cause a some x.note.body refl a.due.cause p)
      (told s cause b some y.note.body refl b.due.cause q);
}
