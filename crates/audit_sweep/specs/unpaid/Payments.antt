-- What records pay of the debts that the records bring which they have as their causes.
use Rattle.std.specs.Prelude.{◌+◌, ◌<◌, ◌||◌, ◌↔◌, ◌≡◌, ◌≤◌, Bool, List, Some, false, length, not, slice_get, true, ℕ}
use Rattle.{audit_sweep.specs.declared.unpaid.paid.Paid.Paid, run_law.specs.declared.judgement.Reason.Reason}
use Rattle.run_law.specs.{declared.note.NoteBody.NoteBody, records.{Causes.cause_of, Happenings.Happening, Order.IsIn}}
use Rattle.run_law.specs.declared.judgement.Reason.TheVariants as reasons
use Rattle.run_law.specs.declared.note.NoteBody.TheVariants as notes

-- nothing
abbrev pub nothing : Paid
nothing = record { arrival = false; permanence = false; change = false; loss = false }

-- what is paid by either
abbrev pub both : Paid → Paid → Paid
both p q = record {
  arrival = p.arrival || q.arrival;
  permanence = p.permanence || q.permanence;
  change = p.change || q.change;
  loss = p.loss || q.loss;
}

-- is a drop for this reason one for the frame's age?
abbrev pub is_old : Reason → Bool
is_old reasons.Old = true
is_old other = false

-- of which kinds the debts are that a record of this body pays, of those that its cause brings
abbrev pub paid_by : NoteBody → Paid
paid_by (notes.Arrived device link cause clock) = record nothing { arrival = true }
paid_by (notes.Accepted device link cause vl cycle) = record nothing { arrival = true }
paid_by (notes.Delivered device link cause vl cycle) = record nothing { arrival = true }
paid_by (notes.Dropped device link cause reason) = record nothing { arrival = true; permanence = not (is_old reason) }
paid_by (notes.Permanent device link cause point verdict) = record nothing { permanence = true }
paid_by (notes.State device state cause why) = record nothing { change = true }
paid_by (notes.Lost device link cause) = record nothing { loss = true }
paid_by other = nothing

-- one of the records, behind that of this number, has it as its cause and pays a debt of this kind
pub record IsMarked (is_paid : Paid → Bool) (hs : List Happening) (cause : ℕ) : Type 0 where
  pub paying : Happening
  pub there : IsIn paying hs
  pub behind : cause < paying.note.number
  pub of_cause : cause_of paying.note.body ≡ cause
  pub pays : is_paid (paid_by paying.note.body) ≡ true

-- this of what the record of this number brings is paid by records behind it
pub record IsPaidSo (hs : List Happening) (cause : ℕ) (paid : Paid) : Type 0 where
  pub arrival : (paid.arrival ≡ true) ↔ IsMarked (λ p. p.arrival) hs cause
  pub permanence : (paid.permanence ≡ true) ↔ IsMarked (λ p. p.permanence) hs cause
  pub change : (paid.change ≡ true) ↔ IsMarked (λ p. p.change) hs cause
  pub loss : (paid.loss ≡ true) ↔ IsMarked (λ p. p.loss) hs cause

-- this is paid of what each of the records brings, which are numbered from 1 on
pub record ArePayments (hs : List Happening) (payments : List Paid) : Type 0 where
  pub count : length payments ≡ length hs
  pub numbers : (h : Happening) → IsIn h hs → h.note.number ≤ length hs
  pub each : (n : ℕ) (paid : Paid) → slice_get payments n ≡ Some paid → IsPaidSo hs (n + 1) paid
