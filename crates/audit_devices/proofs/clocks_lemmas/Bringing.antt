-- What the record of a change of state says.
use Rattle.std.{proofs.Common.{if◌then◌else◌, ◌≡◌, Bool, List, None, Option, Some, ap, arith, false, refl, sym, true, ℕ}, specs.Prelude.◌==◌}
use Rattle.net_plan.{proofs.SameIds.same_device, specs.declared.{event.What.TheVariants.On, ids.DeviceId.DeviceId}}
use Rattle.run_law.specs.{declared.note.NoteBody.NoteBody, device.States.is_joined_by, records.{Causes.IsOfThisTime, Happenings.{Happening, numbered, time_of}}}
use Rattle.tte_units.specs.declared.units.Units.{Units}
use Rattle.audit_devices.specs.{clocks.Brought.{bringer_as, bringer_at, bringer_of}, declared.clocks.changing.Bringer.Bringer}
use Rattle.audit_devices.specs.declared.clocks.changing.Bringer.TheVariants as bringers
use Rattle.run_law.specs.declared.note.NoteBody.TheVariants as notes

pub same_nat : (m n : ℕ) → (m == n) ≡ true → m ≡ n
same_nat m n e = grind (arith)

-- ---- what a body is

no_join : (b : Bool) (x : Bringer) → (x ≡ bringers.Joins → ⊥) → (x ≡ bringers.Other → ⊥) → (if b then bringers.Joins else bringers.Other) ≡ x → ⊥
no_join true x a o e = a (sym e)
no_join false x a o e = o (sym e)

one_or_none : (b : Bool) (x y : Bringer) → (x ≡ y → ⊥) → (y ≡ bringers.Other → ⊥) → (if b then x else bringers.Other) ≡ y → ⊥
one_or_none true x y a o e = a e
one_or_none false x y a o e = o (sym e)

is_one : (b : Bool) (x : Bringer) → (x ≡ bringers.Other → ⊥) → (if b then x else bringers.Other) ≡ x → b ≡ true
is_one true x o e = refl
is_one false x o e = absurd (o (sym e))

turns_on_by : (device : DeviceId) (body : NoteBody) → bringer_as device body ≡ bringers.TurnsOn → (line : ℕ) × (body ≡ notes.Event line (On device))
turns_on_by device (notes.Event line (On other)) e =
    let same = is_one (device.0 == other.0) bringers.TurnsOn (λ x. cc) e in
    (line, ap (λ (d : DeviceId). notes.Event line (On d)) (sym (same_device device other (same_nat device.0 other.0 same))))
turns_on_by device (notes.Corrected other cycle by adjustment) e =
    absurd (one_or_none (device.0 == other.0) bringers.Corrects bringers.TurnsOn (λ x. cc) (λ x. cc) e)
turns_on_by device body e = absurd (no_join (is_joined_by device body) bringers.TurnsOn (λ x. cc) (λ x. cc) e)

corrects_by : (device : DeviceId) (body : NoteBody) → bringer_as device body ≡ bringers.Corrects
    → (cycle : ℕ) × (by : Units) × (adjustment : Units) × (body ≡ notes.Corrected device cycle by adjustment)
corrects_by device (notes.Event line (On other)) e = absurd (one_or_none (device.0 == other.0) bringers.TurnsOn bringers.Corrects (λ x. cc) (λ x. cc) e)
corrects_by device (notes.Corrected other cycle by adjustment) e =
    let same = is_one (device.0 == other.0) bringers.Corrects (λ x. cc) e in
    (cycle, by, adjustment, ap (λ (d : DeviceId). notes.Corrected d cycle by adjustment) (sym (same_device device other (same_nat device.0 other.0 same))))
corrects_by device body e = absurd (no_join (is_joined_by device body) bringers.Corrects (λ x. cc) (λ x. cc) e)

-- ---- what the record of a number is

-- the record of this time that is so
pub record IsRecord (hs : List Happening) (device : DeviceId) (t cause : ℕ) (bringer : Bringer) : Type 0 where
  pub h : Happening
  pub there : IsOfThisTime hs t cause h
  pub is : bringer_as device h.note.body ≡ bringer

at_record : (device : DeviceId) (t : ℕ) (o : Option Happening) (b : Bringer) → bringer_at device t o ≡ b → (b ≡ bringers.Other → ⊥)
    → (h : Happening) × (o ≡ Some h) × (time_of h ≡ t) × (bringer_as device h.note.body ≡ b)
at_record device t None b e live = absurd (live (sym e))
at_record device t (Some h) b e live =
    elim (time_of h == t) as (λ x. (time_of h == t) ≡ x → (if x then bringer_as device h.note.body else bringers.Other) ≡ b
    → (g : Happening) × (Some h ≡ Some g) × (time_of g ≡ t) × (bringer_as device g.note.body ≡ b)) [
      | true ↦ λ same is. (h, refl, same_nat (time_of h) t same, is)
      | false ↦ λ same is. absurd (live (sym is))
    ] refl e

record_of : (hs : List Happening) (device : DeviceId) (t cause : ℕ) (b : Bringer) → bringer_of hs device t cause ≡ b → (b ≡ bringers.Other → ⊥)
    → IsRecord hs device t cause b
record_of hs device t cause b e live =
    let found = at_record device t (numbered hs cause) b e live in
    record { h = found.0; there = record { there = found.1; same_time = found.2 }; is = found.3 }

module _ (hs : List Happening) (device : DeviceId) (t cause : ℕ) where
  pub turned_on : bringer_of hs device t cause ≡ bringers.TurnsOn
      → (line : ℕ) × (h : Happening) × IsOfThisTime hs t cause h × (h.note.body ≡ notes.Event line (On device))
  turned_on e =
      let found = record_of hs device t cause bringers.TurnsOn e (λ x. cc) in
      let by = turns_on_by device found.h.note.body found.is in
      (by.0, found.h, found.there, by.1)

  pub corrected : bringer_of hs device t cause ≡ bringers.Corrects
      → (cycle : ℕ) × (by : Units) × (adjustment : Units) × (h : Happening) × IsOfThisTime hs t cause h
      × (h.note.body ≡ notes.Corrected device cycle by adjustment)
  corrected e =
      let found = record_of hs device t cause bringers.Corrects e (λ x. cc) in
      let by = corrects_by device found.h.note.body found.is in
      (by.0, by.1, by.2, found.h, found.there, by.3)
