-- What becomes of frames at their leaving.
use Rattle.{audit_sweep.proofs.Words.{◌≡◌, refl}, device_rules.specs.{Answers.departure_as, declared.leaving.Departed.Departed}}
use Rattle.device_rules.specs.declared.leaving.Departed.TheVariants as departed

pub one_departed : (a b : Departed) → departure_as a ≡ departure_as b → a ≡ b
one_departed (departed.Leaves m) (departed.Leaves n) e = cc
one_departed departed.TooOld departed.TooOld e = refl
one_departed departed.OnCutWay departed.OnCutWay e = refl
one_departed a b e = absurd cc
