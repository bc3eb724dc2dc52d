-- The state of a device.
use Rattle.run_law.proofs.Words.{◌≡◌, Bool, DeviceId, Happening, Integrates, Joining, List, NoteBody, Scenario, State, Synchronised, Units, adjustment_after}
use Rattle.run_law.proofs.Words.{earlier, false, if◌then◌else◌, is_joined_by, is_off, last_or, option_map_or, refl, time_of, true, ℕ, ℤ}
use Rattle.{run_law.specs.device.{LocalClocks.{Reaches, changes_adjustment}, States.{adjustment_with, is_synchronised}}, std.proofs.Common.{arith, filter}}
use Rattle.run_law.specs.declared.note.NoteBody.TheVariants as notes

-- a clock reaches a value by the records of earlier times
pub reaches_by : {s : Scenario} {gs : List Happening} (hs : List Happening) {device : DeviceId} {v : ℤ} {t : ℕ}
    → earlier t gs ≡ earlier t hs → Reaches s gs device v t → Reaches s hs device v t
reaches_by hs same h = grind (arith, option_map_or, time_of, last_or, filter, adjustment_after)

-- the test of the state
pub is_in : (state : State) → is_synchronised state ≡ true → state ≡ Synchronised
is_in Synchronised e = refl
is_in state e = absurd cc

-- a frame that tells the device the time changes its adjustment
pub joined_changes : (device : DeviceId) (body : NoteBody) → is_joined_by device body ≡ true → changes_adjustment device body ≡ true
joined_changes device (notes.Corrected other cycle by adjustment) e = absurd cc
joined_changes device body e = e

-- other records leave it
pub adjustment_kept : (s : Scenario) (device : DeviceId) (cycle : ℕ) (old : Units) (body : NoteBody) → changes_adjustment device body ≡ false
    → adjustment_with s device cycle old body ≡ old
adjustment_kept s device cycle old (notes.Corrected d number by adjustment) e = rw e refl
adjustment_kept s device cycle old (notes.Permanent d link cause point Integrates) e = rw e refl
adjustment_kept s device cycle old (notes.Compressed d opened own of_cycle members Integrates) e = rw e refl
adjustment_kept s device cycle old body e = refl

pub joined_or : (b : Bool) (old : State) → is_off old ≡ false → is_off (if b then Joining else old) ≡ false
joined_or true old e = refl
joined_or false old e = e
