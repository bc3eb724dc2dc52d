-- All that is due of a device that has acted is among the records to come.
use Rattle.run_law.specs.runs.DueRecords.{IsCorrectedRecord}
use Rattle.world_law.proofs.steps_lemmas.Words.{◌∷◌, ◌≡◌, AsyncClique}
use Rattle.world_law.proofs.steps_lemmas.Words.{ComesToCorrection, DeviceId}
use Rattle.world_law.proofs.steps_lemmas.Words.{Dispatches, Happening, Integrating, IsCaused, IsOwnSource}
use Rattle.world_law.proofs.steps_lemmas.Words.{LinkId, List, NoteBody, Scenario, SyncClique, Units, VlId, []}
use Rattle.world_law.proofs.steps_lemmas.Words.{amount, ap, arith, cases_Bool, dispatch_body}
use Rattle.world_law.proofs.steps_lemmas.Words.{inl, inr}
use Rattle.world_law.proofs.steps_lemmas.Words.{place_of, same_device}
use Rattle.world_law.proofs.steps_lemmas.Words.{sym, time_of, ℕ}
use Rattle.world_law.proofs.steps_lemmas.Words.{length, row_order, rows_place}
use Rattle.schedule_tables.specs.Dispatches.{dispatch_order}
use Rattle.run_law.specs.declared.judgement.Why.TheVariants as whys
use Rattle.run_law.specs.declared.note.NoteBody.TheVariants as kinds

-- ---- what is due of the device

-- what causes a record that comes from a correction point of the device
abbrev pub IsPointCause : Scenario → List Happening → ℕ → DeviceId → NoteBody → Type 0
IsPointCause s js now device (kinds.Corrected other cycle by adjustment) = (other ≡ device) × IsCorrectedRecord s js device now cycle by adjustment
IsPointCause s js now device (kinds.State other state cause whys.SyncClique) =
    (other ≡ device) × (state ≡ Integrating) × (cause ≡ 0) × ((cycle : ℕ) × ComesToCorrection s js device now cycle SyncClique)
IsPointCause s js now device (kinds.State other state cause whys.AsyncClique) =
    (other ≡ device) × (state ≡ Integrating) × (cause ≡ 0) × ((cycle : ℕ) × ComesToCorrection s js device now cycle AsyncClique)
IsPointCause s js now device other = ⊥

here_at : {t now d e : ℕ} → t ∷ 6 ∷ d ∷ [] ≡ now ∷ 6 ∷ e ∷ [] → (t ≡ now) × (d ≡ e)
here_at same = (cc, cc)

-- what is so of the other at the time is so of the device at the instant
at_it : {now t : ℕ} (device other : DeviceId) (p : DeviceId → ℕ → Type 0)
    → now ∷ 6 ∷ device.0 ∷ [] ≡ t ∷ 6 ∷ other.0 ∷ [] → p other t
    → (t ≡ now) × ((other ≡ device) × p device now)
at_it {now} {t} device other p own c =
    let e = here_at own in
    let same = same_device other device (sym e.1) in
    (sym e.0, (same, rw e.0 (rw same at c)))

-- a row has a place of its own
no_row : {s : Scenario} {js : List Happening} {now : ℕ} {t : ℕ} (device : DeviceId) {other : DeviceId} {link : _}
    {cause : ℕ} {vl : _} {cycle : ℕ} (d : Dispatches s js other t link cause vl cycle)
    → now ∷ 6 ∷ device.0 ∷ [] ≡ t ∷ 6 ∷ other.0 ∷ dispatch_order s.network (record { 0 = d.place }) → ⊥
no_row device d e =
    let long = ap length e in
    let order = ap length (row_order d) in
    omega arith

module _ (s : Scenario) (js : List Happening) (now : ℕ) (device : DeviceId) (time : Units) (m : ℕ) where
  -- what comes from the correction point of the device is of the instant, and caused by it
  pub point_cause_of : (body : NoteBody) → IsOwnSource s js (amount time) m body (rows_place now device)
      → IsCaused s js time body → (amount time ≡ now) × IsPointCause s js now device body
  point_cause_of (kinds.Corrected other cycle by adjustment) own c =
      at_it device other (λ d n. IsCorrectedRecord s js d n cycle by adjustment) own c
  point_cause_of (kinds.State other state cause whys.SyncClique) own c =
      let x = at_it device other (λ d n. (cycle : ℕ) × ComesToCorrection s js d n cycle SyncClique)
      own.1 c.2 in
      (x.0, (x.1.0, c.0, c.1, x.1.1))
  point_cause_of (kinds.State other state cause whys.AsyncClique) own c =
      let x = at_it device other
      (λ d n. (cycle : ℕ) × ComesToCorrection s js d n cycle AsyncClique) own.1 c.2 in
      (x.0, (x.1.0, c.0, c.1, x.1.1))
  point_cause_of (kinds.Lost other link cause) (inr (inl own)) c =
      absurd (no_row device own.2 own.4)
  point_cause_of (kinds.TtSent other link cause vl cycle) own c =
      absurd (no_row device own.0 own.1)
  point_cause_of (kinds.Lost other link cause) (inl own) c = absurd (grind arith)
  point_cause_of (kinds.Lost other link cause) (inr (inr own)) c = absurd (grind arith)
  point_cause_of other own c = absurd (grind arith)

-- ---- what is done, or is not due, is told: what tells of one dispatch stands at one place

pub same_told : (s : Scenario) {now : ℕ} (device : DeviceId) (link : LinkId) (cause : ℕ) (vl : VlId) (cycle : ℕ)
    (x y : Happening)
    → x.note.body ≡ dispatch_body s device now link cause vl cycle → y.note.body ≡ dispatch_body s device now link cause vl cycle → time_of x ≡ now
    → time_of y ≡ now → place_of x ≡ place_of y
same_told s {now} device link cause vl cycle x y told e at_x at =
    search (arith, place_of, cases_Bool)
