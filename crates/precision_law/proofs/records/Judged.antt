-- The records by which a frame that is permanent is judged.
use Rattle.run_law.proofs.{control.Verdicts.earlier_before, records.Order.{all_kept, before_is}}
use Rattle.precision_law.proofs.words.Plans.{DeviceId, LinkId, Pcf, Units, amount}
use Rattle.precision_law.proofs.words.{Runs.{AllBefore, Happening, before_permanence, earlier, is_before, place_of}, Std.{◌∷◌, ◌≡◌, List, [], ℕ}}

module _ (hs : List Happening) (t : ℕ) (device : DeviceId) (link : LinkId) (cause : ℕ) (frame : Pcf)
    (point : Units) where
  -- where all records are before the place of the frame's permanence, all count
  pub all_judge : AllBefore place_of hs (t ∷ 3 ∷ device.0 ∷ amount point ∷ frame.members.0 ∷ link.0 ∷ cause ∷ [])
      → before_permanence hs device t link cause frame point ≡ hs
  all_judge all =
      all_kept (λ h. is_before (place_of h) (t ∷ 3 ∷ device.0 ∷ amount point ∷ frame.members.0 ∷ link.0 ∷ cause
      ∷ [])) hs
      (λ h i. before_is (place_of h) (t ∷ 3 ∷ device.0 ∷ amount point ∷ frame.members.0 ∷ link.0 ∷ cause ∷ [])
      (all h i))

  -- all records of earlier times count
  pub earlier_judge : earlier t (before_permanence hs device t link cause frame point) ≡ earlier t hs
  earlier_judge = earlier_before hs t (3 ∷ device.0 ∷ amount point ∷ frame.members.0 ∷ link.0 ∷ cause ∷ [])
