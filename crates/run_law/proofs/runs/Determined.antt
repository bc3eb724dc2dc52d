-- A record that is due is determined by its place.
use Rattle.{compression.specs.declared.compressed.Compressed.Compressed, net_plan.proofs.SameIds.{same_device, same_link, same_vl}, std.proofs.Common.negsuc}
use Rattle.net_plan.specs.declared.event.What.TheVariants.{On}
use Rattle.sync_state.proofs.{VerdictLemmas.one_verdict, membership_lemmas.SummaryLemmas.one_summary}
use Rattle.tte_units.proofs.general_lemmas.Integers.{same_number}
use Rattle.run_law.proofs.Words.{◌∙◌, ◌∷◌, ◌≡◌, ◌≤ℤ◌, Arrival, ArrivesAs, BecomesPermanent, ChangesState, Departs, DeviceId, Event, Happening}
use Rattle.run_law.proofs.Words.{IsArrivedRecord, IsCaused, IsDetermined, IsDropped, IsDue, Judgement, LinkId, List, Members, Note, NoteBody, Reason, Scenario}
use Rattle.run_law.proofs.Words.{State, Units, What, Why, [], amount, ap, arith, happening, inl, inr, ints, is_joined_by, key, members_in}
use Rattle.run_law.proofs.Words.{numbered, place_of, pos, rank, refl, ripe_as, same_some, slice_get, subst, suc, sym, true, unsigned_abs, zero, ℕ, ℤ}
use Rattle.run_law.proofs.runs.SameSteps.{arrives_or_departs, arrives_or_ripens, dropped_or_departs, same_arrival, same_departure, same_judgement, same_point}
use Rattle.{run_law.{proofs.runs.SameSteps.same_ripening, specs.{control.Emissions.Emits, records.Causes.IsOfThisTime}}}
use Rattle.run_law.specs.{control.Corrections.{ComesToCorrection, standing_before}, runs.DueRecords.{IsClockRecord, IsCorrectedRecord, IsEventRecord}}
use Rattle.{run_law.specs.{control.Leaving.leaves}, sync_state.specs.declared.answers.Verdict.Verdict}
use Rattle.run_law.specs.records.Ranks.{sign}
use Rattle.run_law.specs.declared.judgement.Why.TheVariants as whys
use Rattle.run_law.specs.declared.note.NoteBody.TheVariants as notes
use Rattle.run_law.specs.declared.steps.Arrival.TheVariants as arrivals

-- ---- numbers and ids

pub same_units : (a b : Units) → a.0 ≡ b.0 → a ≡ b
same_units a b same = rw same

-- times from 0 on of one amount are one
pub same_time : (a b : Units) → pos 0 ≤ℤ a.0 → pos 0 ≤ℤ b.0 → amount a ≡ amount b → a ≡ b
same_time a b begun after same = same_units a b (same_number a.0 b.0 begun after same)

-- numbers of one amount and one sign are one
same_signed : (a b : ℤ) → unsigned_abs a ≡ unsigned_abs b → sign a ≡ sign b → a ≡ b
same_signed (pos m) (pos n) same signs = ap pos same
same_signed (negsuc m) (negsuc n) same signs = ap negsuc (omega (arith, ints))
same_signed (pos m) (negsuc n) same signs = absurd (omega arith)
same_signed (negsuc m) (pos n) same signs = absurd (omega arith)

-- three numbers of a place
same_three : (a b c x y z : ℕ) (us vs : List ℕ) → a ∷ b ∷ c ∷ us ≡ x ∷ y ∷ z ∷ vs → (a ≡ x) × (b ≡ y) × (c ≡ z) × (us ≡ vs)
same_three a b c x y z us vs e = (cc, cc, cc, cc)

-- ---- the parts of a record

-- two records of one line are of one event
same_what : {events : List Event} {time : Units} {line : ℕ} {what other : What} → IsEventRecord events time line what
    → IsEventRecord events time line other → what ≡ other
same_what a b = grind (arith, slice_get, same_some)

-- the transparent clock of what is taken
abbrev clock_in : Arrival → ℕ
clock_in (arrivals.Waits frame point) = frame.clock
clock_in (arrivals.Passes frame way) = frame.clock
clock_in (arrivals.PassesAndWaits frame way point) = frame.clock
clock_in other = 0

record IsShown (s : Scenario) (hs : List Happening) (t : ℕ) (device : DeviceId) (link : LinkId) (cause clock : ℕ) : Type 0 where
  pub arrival : Arrival
  pub comes : ArrivesAs s hs device t link cause arrival
  pub shows : clock ≡ clock_in arrival

shown : (s : Scenario) (hs : List Happening) (t : ℕ) (device : DeviceId) (link : LinkId) (cause clock : ℕ) → IsArrivedRecord s hs device t link cause clock
    → IsShown s hs t device link cause clock
shown s hs t device link cause clock a =
    elim a.taken [
      | inl waits ↦ record { arrival = arrivals.Waits a.frame a.point; comes = waits; shows = a.shows }
      | inr (inl passes) ↦ record { arrival = arrivals.Passes a.frame a.way; comes = passes; shows = a.shows }
      | inr (inr both) ↦ record { arrival = arrivals.PassesAndWaits a.frame a.way a.point; comes = both; shows = a.shows }
    ]

same_clock_on_arrival : {s : Scenario} {hs : List Happening} {t : ℕ} {device : DeviceId} {link : LinkId}
    {cause clock other : ℕ} → IsArrivedRecord s hs device t link cause clock
    → IsArrivedRecord s hs device t link cause other → clock ≡ other
same_clock_on_arrival a b = grind (arith, shown, same_arrival)

module _ (s : Scenario) (hs : List Happening) (t : ℕ) (device : DeviceId) (cycle other : ℕ) where
  -- a correction point is of one cycle, and comes to one thing
  same_cycle : {v w : Verdict} → ComesToCorrection s hs device t cycle v → ComesToCorrection s hs device t other w
      → cycle ≡ other
  same_cycle a b = same_some _ cycle other a.next b.next

  same_verdict : {v w : Verdict} → ComesToCorrection s hs device t cycle v → ComesToCorrection s hs device t other w
      → v ≡ w
  same_verdict {v} {w} a b =
      one_verdict (standing_before s hs device t) a.summary v w a.comes
      (rw (one_summary _ a.summary b.summary a.heard b.heard) b.comes)

  same_corrected : {by gain adjustment later : Units} → IsCorrectedRecord s hs device t cycle by adjustment
      → IsCorrectedRecord s hs device t other gain later
      → notes.Corrected device cycle by adjustment ≡ notes.Corrected device other gain later
  same_corrected {by} {gain} {adjustment} {later} a b =
      let cycles = same_cycle a.corrected b.corrected in
      let verdicts = same_verdict a.corrected b.corrected in
      let gains : by ≡ gain = cc in
      let sums = same_units adjustment later (a.sum ∙ (rw gains (sym b.sum))) in
      rw cycles
      (rw gains
      ((rw sums)))

-- ---- states

-- a record of this time with number 0 is none
pub no_cause : {hs : List Happening} {t : ℕ} (cause : ℕ) {h : Happening} → cause ≡ 0 → IsOfThisTime hs t cause h → ⊥
no_cause zero is there = cc
no_cause (suc n) is there = cc

-- what has one cause is one
same_cause : {hs : List Happening} {t cause : ℕ} {h g : Happening} → IsOfThisTime hs t cause h
    → IsOfThisTime hs t cause g → h.note.body ≡ g.note.body
same_cause {hs} {cause} {h} {g} a b =
    rw (same_some (numbered hs cause) h g a.there b.there)

-- a record that tells a device the time is of a frame
tells_as : (device : DeviceId) (body other : NoteBody) → body ≡ other → is_joined_by device body ≡ true → is_joined_by device other ≡ true
tells_as device body other e joined = rw e at joined

event_tells : (device : DeviceId) (line : ℕ) (what : What) → is_joined_by device (notes.Event line what) ≡ true → ⊥
event_tells device line what e = cc

correction_tells : (device other : DeviceId) (cycle : ℕ) (by adjustment : Units) → is_joined_by device (notes.Corrected other cycle by adjustment) ≡ true → ⊥
correction_tells device other cycle by adjustment e = cc

abbrev IsSameChange : State → Why → State → Why → Type 0
IsSameChange state why other for = (state ≡ other) × (why ≡ for)

module _ (s : Scenario) (hs : List Happening) (t : ℕ) (device : DeviceId) (cause : ℕ) (state other : State) where
  same_change : (why for : Why) → ChangesState s hs device t state cause why
      → ChangesState s hs device t other cause for → IsSameChange state why other for
  same_change whys.On whys.On a b = (a.0 ∙ sym b.0, refl)
  same_change whys.On whys.Frame a b =
      absurd (event_tells device a.2.0 (On device) (tells_as device _ _ (same_cause b.1.1 a.2.2 ∙ a.2.3) b.1.2))
  same_change whys.On whys.Correction a b =
      absurd cc
  same_change whys.On whys.SyncClique a b = absurd (no_cause cause b.1 a.2.2)
  same_change whys.On whys.AsyncClique a b = absurd (no_cause cause b.1 a.2.2)
  same_change whys.Frame whys.On a b =
      absurd (event_tells device b.2.0 (On device) (tells_as device _ _ (same_cause a.1.1 b.2.2 ∙ b.2.3) a.1.2))
  same_change whys.Frame whys.Frame a b = (a.0 ∙ sym b.0, refl)
  same_change whys.Frame whys.Correction a b =
      absurd (correction_tells device device b.2.0 b.2.1 b.2.2
      (tells_as device _ _ (same_cause a.1.1 b.2.4 ∙ b.2.5) a.1.2))
  same_change whys.Frame whys.SyncClique a b = absurd (no_cause cause b.1 a.1.1)
  same_change whys.Frame whys.AsyncClique a b = absurd (no_cause cause b.1 a.1.1)
  same_change whys.Correction whys.On a b =
      absurd cc
  same_change whys.Correction whys.Frame a b =
      absurd (correction_tells device device a.2.0 a.2.1 a.2.2
      (tells_as device _ _ (same_cause b.1.1 a.2.4 ∙ a.2.5) b.1.2))
  same_change whys.Correction whys.Correction a b = (a.0 ∙ sym b.0, refl)
  same_change whys.Correction whys.SyncClique a b = absurd (no_cause cause b.1 a.2.4)
  same_change whys.Correction whys.AsyncClique a b = absurd (no_cause cause b.1 a.2.4)
  same_change whys.SyncClique whys.On a b = absurd (no_cause cause a.1 b.2.2)
  same_change whys.SyncClique whys.Frame a b = absurd (no_cause cause a.1 b.1.1)
  same_change whys.SyncClique whys.Correction a b = absurd (no_cause cause a.1 b.2.4)
  same_change whys.SyncClique whys.SyncClique a b = (a.0 ∙ sym b.0, refl)
  same_change whys.SyncClique whys.AsyncClique a b =
      let verdicts = same_verdict s hs t device _ _ a.2.1 b.2.1 in absurd cc
  same_change whys.AsyncClique whys.On a b = absurd (no_cause cause a.1 b.2.2)
  same_change whys.AsyncClique whys.Frame a b = absurd (no_cause cause a.1 b.1.1)
  same_change whys.AsyncClique whys.Correction a b = absurd (no_cause cause a.1 b.2.4)
  same_change whys.AsyncClique whys.SyncClique a b =
      let verdicts = same_verdict s hs t device _ _ a.2.1 b.2.1 in absurd cc
  same_change whys.AsyncClique whys.AsyncClique a b = (a.0 ∙ sym b.0, refl)

-- ---- bodies

-- where the number of a device, a link and a cause are one, so are they
pub record IsSameRoute (device other : DeviceId) (link by : LinkId) (cause from : ℕ) : Type 0 where
  pub devices : device ≡ other
  pub links : link ≡ by
  pub causes : cause ≡ from

same_route : (device other : DeviceId) (link by : LinkId) (cause from : ℕ) (us vs : List ℕ) → device.0 ∷ link.0 ∷ cause ∷ us ≡ other.0 ∷ by.0 ∷ from ∷ vs
    → IsSameRoute device other link by cause from
same_route device other link by cause from us vs e =
    let three = same_three device.0 link.0 cause other.0 by.0 from us vs e in
    record { devices = same_device device other three.0; links = same_link link by three.1; causes = three.2 }

-- what holds of one route holds of the same route
moved : (P : DeviceId → LinkId → ℕ → Type 0) {device other : DeviceId} {link by : LinkId} {cause from : ℕ}
    → IsSameRoute device other link by cause from → P other by from → P device link cause
moved P {other} {link} {by} {cause} same there =
    rw same.devices (rw same.links (rw same.causes there))

-- and makes one body of it
remade : (made : DeviceId → LinkId → ℕ → NoteBody) {device other : DeviceId} {link by : LinkId} {cause from : ℕ}
    → IsSameRoute device other link by cause from → made device link cause ≡ made other by from
remade made {other} {link} {by} {cause} same =
    rw same.devices (rw same.links ((rw same.causes)))

module _ (s : Scenario) (hs : List Happening) (t : ℕ) (device : DeviceId) (link : LinkId) (cause : ℕ)
    (reason other : Reason) where
  same_reason : IsDropped s hs device t link cause reason → IsDropped s hs device t link cause other → reason ≡ other
  same_reason (inl a) (inl b) =
      let one = same_arrival a b in cc
  same_reason (inl a) (inr (inl b)) =
      absurd (arrives_or_ripens s hs t device link cause (arrivals.Dropped reason) a b.1)
  same_reason (inl a) (inr (inr b)) =
      absurd (arrives_or_departs s hs t device link cause (arrivals.Dropped reason) a b.0)
  same_reason (inr (inl a)) (inl b) =
      absurd (arrives_or_ripens s hs t device link cause (arrivals.Dropped other) b a.1)
  same_reason (inr (inl a)) (inr (inl b)) =
      let one = same_ripening s hs t device link cause a.1 b.1 in cc
  same_reason (inr (inl a)) (inr (inr b)) = absurd (dropped_or_departs reason a.1 b.0)
  same_reason (inr (inr a)) (inl b) =
      absurd (arrives_or_departs s hs t device link cause (arrivals.Dropped other) b a.0)
  same_reason (inr (inr a)) (inr (inl b)) = absurd (dropped_or_departs other b.1 a.0)
  same_reason (inr (inr a)) (inr (inr b)) = a.1 ∙ sym b.1

same_permanent : {s : Scenario} {hs : List Happening} {t : ℕ} {device : DeviceId} {link : LinkId} {cause : ℕ}
    {p q : Units} (v w : Judgement) → BecomesPermanent s hs device t link cause p (ripe_as v)
    → BecomesPermanent s hs device t link cause q (ripe_as w)
    → notes.Permanent device link cause p v ≡ notes.Permanent device link cause q w
same_permanent {s} {hs} {t} {device} {link} {cause} {q} v w a b =
    rw (same_point s hs t device link cause a.permanent b.permanent)
    (rw (same_judgement v w (same_ripening s hs t device link cause a b)))

-- what a compression master sends is heard in one way
same_heard : {s : Scenario} {hs : List Happening} {t : ℕ} {device : DeviceId} {sent : Compressed} {v w : Judgement}
    → Emits s hs device t sent v → Emits s hs device t sent w → v ≡ w
same_heard a b = a.heard ∙ sym b.heard

same_clock : {s : Scenario} {hs : List Happening} {time : Units} {device : DeviceId} {shown adjustment : Units}
    {state : State} {other_shown other_adjustment : Units} {other_state : State}
    → IsClockRecord s hs device time shown adjustment state
    → IsClockRecord s hs device time other_shown other_adjustment other_state
    → notes.Clock device shown adjustment state ≡ notes.Clock device other_shown other_adjustment other_state
same_clock a b = grind arith

pub same_members : (a b : Members) → a.0 ≡ b.0 → a ≡ b
same_members a b same = rw same

-- the key of a permanence
same_ripe_route : (device other : DeviceId) (point second : Units) (m n : ℕ) (link by : LinkId) (cause from : ℕ) → device.0 ∷ amount point ∷ m ∷ link.0 ∷ cause
    ∷ [] ≡ other.0 ∷ amount second ∷ n ∷ by.0 ∷ from ∷ [] → IsSameRoute device other link by cause from
same_ripe_route device other point second m n link by cause from e = grind (arith, same_device, same_link)

same_compressed : (s : Scenario) (hs : List Happening) (t : ℕ) (device other : DeviceId) (opened begun at emitted : Units) (cycle number : ℕ)
    (members masters : Members) (verdict judged : Judgement) → device ≡ other → opened ≡ begun → at ≡ emitted → cycle ≡ number → members ≡ masters
    → Emits s hs device t (record { opened = opened; at = at; cycle = cycle; members = members }) verdict
    → Emits s hs other t (record { opened = begun; at = emitted; cycle = number; members = masters }) judged
    → notes.Compressed device opened at cycle members verdict ≡ notes.Compressed other begun emitted number masters judged
same_compressed s hs t device other opened begun at emitted cycle number members masters verdict judged devices opens ats cycles sets a b =
    grind (arith, same_heard)

-- two bodies with a cause at one time, of one kind and key, are one
same_body : (s : Scenario) (hs : List Happening) (time : Units) (m n : ℕ) (a b : NoteBody) → IsCaused s hs time a → IsCaused s hs time b → rank a ≡ rank b
    → key m a ≡ key n b → a ≡ b
same_body s hs time m n (notes.Event line what) (notes.Event other_line other_what) a b kinds keys =
    let lines : line ≡ other_line = cc in
    let there = rw (sym lines) at b in
    rw (same_what a there) (ap (λ (l : ℕ). notes.Event l other_what) lines)
same_body s hs time m n (notes.Arrived device link cause clock) (notes.Arrived other by from later) a b kinds keys =
    let same = same_route device other link by cause from [] [] keys in
    let there = moved (λ d l c. IsArrivedRecord s hs d (amount time) l c later) same b in
    rw (same_clock_on_arrival a there)
    (remade (λ d l c. notes.Arrived d l c later) same)
same_body s hs time m n (notes.Permanent device link cause point verdict) (notes.Permanent other by from second judged) a b kinds keys =
    let same = same_ripe_route device other point second m n link by cause from keys in
    let there = moved (λ d l c. BecomesPermanent s hs d (amount time) l c second (ripe_as judged)) same b in
    same_permanent verdict judged a there ∙ remade (λ d l c. notes.Permanent d l c second judged) same
same_body s hs time m n (notes.Compressed device opened at cycle members verdict) (notes.Compressed other begun emitted number masters judged) a b kinds keys =
    let ids : device.0 ≡ other.0 = cc in
    let opens : amount opened ≡ amount begun = cc in
    let open_signs : sign opened.0 ≡ sign begun.0 = cc in
    let ats : amount at ≡ amount emitted = cc in
    let at_signs : sign at.0 ≡ sign emitted.0 = cc in
    let cycles : cycle ≡ number = cc in
    let sets : members.0 ≡ masters.0 = cc in
    same_compressed s hs (amount time) device other opened begun at emitted cycle number members masters verdict judged (same_device device other ids)
    (same_units opened begun (same_signed opened.0 begun.0 opens open_signs)) (same_units at emitted (same_signed at.0 emitted.0 ats at_signs)) cycles
    (same_members members masters sets) a b
same_body s hs time m n (notes.Sent device cycle) (notes.Sent other number) a b kinds keys =
    let ids : device.0 ≡ other.0 = cc in
    let devices : device ≡ other = same_device device other ids in
    let cycles : cycle ≡ number = cc in
    rw devices (ap (λ (c : ℕ). notes.Sent other c) cycles)
same_body s hs time m n (notes.Corrected device cycle by adjustment) (notes.Corrected other number gain later) a b kinds keys =
    let ids : device.0 ≡ other.0 = cc in
    let devices : device ≡ other = same_device device other ids in
    let there = rw (sym devices) at b in
    same_corrected s hs (amount time) device cycle number a there
    ∙ ap (λ (d : DeviceId). notes.Corrected d number gain later) devices
same_body s hs time m n (notes.State device state cause why) (notes.State other later from for) a b kinds keys =
    let ids : device.0 ≡ other.0 = cc in
    let devices : device ≡ other = same_device device other ids in
    let causes : cause ≡ from = cc in
    let there = subst (λ d. ChangesState s hs d (amount time) later cause for) (sym devices)
    (rw (sym causes) at b) in
    let one = same_change s hs (amount time) device cause state later why for a there in
    rw one.0
    (ap (λ (w : Why). notes.State device later cause w) one.1
    ∙ ap (λ (d : DeviceId). notes.State d later cause for) devices
    ∙ ap (λ (c : ℕ). notes.State other later c for) causes)
same_body s hs time m n (notes.Left device link cause clock) (notes.Left other by from later) a b kinds keys =
    let same = same_route device other link by cause from [] [] keys in
    let there = moved (λ d l c. Departs s hs d (amount time) l c (leaves later)) same b in
    let one = same_departure s hs (amount time) device link cause a there in
    let clocks : clock ≡ later = cc in
    rw clocks (remade (λ d l c. notes.Left d l c later) same)
same_body s hs time m n (notes.Lost device link cause) (notes.Lost other by from) a b kinds keys =
    remade (λ d l c. notes.Lost d l c) (same_route device other link by cause from [] [] keys)
same_body s hs time m n (notes.TtSent device link cause vl cycle) (notes.TtSent other by from second number) a b kinds keys =
    let same = same_route device other link by cause from (vl.0 ∷ cycle ∷ []) (second.0 ∷ number ∷ []) keys in
    let vls : vl ≡ second = same_vl vl second cc in
    let cycles : cycle ≡ number = cc in
    rw vls
    (ap (λ (k : ℕ). notes.TtSent device link cause second k) cycles
    ∙ remade (λ d l c. notes.TtSent d l c second number) same)
same_body s hs time m n (notes.Accepted device link cause vl cycle) (notes.Accepted other by from second number) a b kinds keys =
    let same = same_route device other link by cause from [] [] keys in
    let there = moved (λ d l c. ArrivesAs s hs d (amount time) l c (arrivals.Accepted second number)) same b in
    let one = same_arrival a there in
    let vls : vl ≡ second = cc in
    let cycles : cycle ≡ number = cc in
    rw vls
    (ap (λ (k : ℕ). notes.Accepted device link cause second k) cycles
    ∙ remade (λ d l c. notes.Accepted d l c second number) same)
same_body s hs time m n (notes.Delivered device link cause vl cycle) (notes.Delivered other by from second number) a b kinds keys =
    let same = same_route device other link by cause from [] [] keys in
    let there = moved (λ d l c. ArrivesAs s hs d (amount time) l c (arrivals.Delivered second number)) same b in
    let one = same_arrival a there in
    let vls : vl ≡ second = cc in
    let cycles : cycle ≡ number = cc in
    rw vls
    (ap (λ (k : ℕ). notes.Delivered device link cause second k) cycles
    ∙ remade (λ d l c. notes.Delivered d l c second number) same)
same_body s hs time m n (notes.Dropped device link cause reason) (notes.Dropped other by from second) a b kinds keys =
    let same = same_route device other link by cause from [] [] keys in
    let there = moved (λ d l c. IsDropped s hs d (amount time) l c second) same b in
    rw (same_reason s hs (amount time) device link cause reason second a there)
    (remade (λ d l c. notes.Dropped d l c second) same)
same_body s hs time m n (notes.Clock device seen adjustment state) (notes.Clock other other_seen other_adjustment other_state) a b kinds keys =
    let ids : device.0 ≡ other.0 = cc in
    let devices : device ≡ other = same_device device other ids in
    let there = rw (sym devices) at b in
    same_clock a there
    ∙ ap (λ (d : DeviceId). notes.Clock d other_seen other_adjustment other_state) devices
same_body s hs time m n rest other a b kinds keys = absurd (omega arith)

-- ---- records

-- two notes are one where their parts are
pub same_note : (a b : Note) → a.number ≡ b.number → a.time ≡ b.time → a.body ≡ b.body → a ≡ b
same_note a b numbers times bodies = grind arith

-- given the same records before, two that are due at one place are one
pub due_is_determined : (s : Scenario) → IsDetermined place_of (IsDue s)
due_is_determined s ps x y a b same =
    let kinds : rank x.note.body ≡ rank y.note.body = cc in
    let keys : key (members_in x) x.note.body ≡ key (members_in y) y.note.body = cc in
    let times = same_time x.note.time y.note.time a.begun b.begun cc in
    let there = rw (sym times) at b.cause in
    let bodies = same_body s ps x.note.time (members_in x) (members_in y) x.note.body y.note.body a.cause there kinds keys in
    let notes_same = same_note x.note y.note (a.number ∙ sym b.number) times bodies in
    a.same ∙ ap (happening s.network ps) notes_same ∙ sym b.same
