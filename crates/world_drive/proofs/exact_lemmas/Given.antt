-- A world that gave one more record, or none.
use Rattle.{drift_world.specs.Running.{ComesUpTo, Reaches, option_given}, run_law.specs.declared.note.Note.Note, std.proofs.lemmas.Int.ints}
use Rattle.{net_plan.specs.declared.{event.Event.Event, network.Network.Network}, tte_units.specs.{Amount.{amount, units_of}, declared.units.Units.Units}}
use Rattle.std.proofs.Common.{◌++◌, ◌+ℤ◌, ◌+◌, ◌<ℤ◌, ◌∙◌, ◌∷◌, ◌≡◌, ◌≤ℤ◌, Bool, List, Ok, Option, Some, [], ap, arith, false, negsuc, pos, refl, subst, true}
use Rattle.std.{proofs.Common.{unsigned_abs, ℕ, ℤ}, specs.Prelude.{IfSome, option_to_list}}
use Rattle.{world_drive.{proofs.exact_lemmas.Worlds.go_on, specs.exact.Worlds.{ExactWorld, StandsExact}}, tte_units.specs.declared.memory.OutOfMemory.OutOfMemory}

-- what holds of the value of an option
pub if_some : {X : Type 0} (o : Option X) (x : X) (P : X → Type 0) → o ≡ Some x → IfSome o P → P x
if_some {X} o x P e m = let R : Option X → Type 0 = λ p. IfSome p P in subst R e m

module _ (world next : ExactWorld) (until : Units) (given : Bool) (note : Note)
    (reached : ComesUpTo {E = OutOfMemory} world next until (Ok (option_given given note))) where
  -- a record that was given is of the time to which the world came, which is before the one asked for
  pub comes_before : given ≡ true → (note.time ≡ units_of next.now) × (note.time.0 <ℤ until.0)
  comes_before is = subst (λ b. ComesUpTo {E = OutOfMemory} world next until (Ok (option_given b note))) is reached

  -- where none was given, the world has come to this
  pub comes_to : given ≡ false → Reaches world next until
  comes_to is = subst (λ b. ComesUpTo {E = OutOfMemory} world next until (Ok (option_given b note))) is reached

module _ (network : Network) (events : List Event) (notes : List Note) (world : ExactWorld) (given : Bool)
    (note : Note) where
  -- a record was given
  pub given_some : given ≡ true → StandsExact network world events
      (notes ++ option_to_list (option_given given note)) → StandsExact network world events (notes ++ note ∷ [])
  given_some is stands =
      subst (λ b. StandsExact network world events (notes ++ option_to_list (option_given b note))) is stands

  -- or none was
  pub given_none : given ≡ false → StandsExact network world events
      (notes ++ option_to_list (option_given given note)) → StandsExact network world events (notes ++ [])
  given_none is stands =
      subst (λ b. StandsExact network world events (notes ++ option_to_list (option_given b note))) is stands

-- it is of a time that is not reached
pub is_before : (note : Note) (now : ℕ) (until : ℤ) → (note.time ≡ units_of now) × (note.time.0 <ℤ until) → pos now <ℤ until
is_before note now until before = subst (λ (t : Units). t.0 <ℤ until) before.0 before.1

-- after the end the time stays
pub still_ended : {network : Network} (until : Units) {world next : ExactWorld} {events : List Event}
    {notes others : List Note} → StandsExact network world events notes → StandsExact network next events others
    → (world.ended ≡ true → until.0 ≤ℤ pos (world.now + 1)) → next.ended ≡ true → until.0 ≤ℤ pos (next.now + 1)
still_ended until a b was ended =
    let back = (go_on a b).ended ended in
    let le = was back.0 in
    omega (arith, ints, le, back.1)

-- ---- the time after one

pub next_amount : (time : ℤ) → pos 0 ≤ℤ time → unsigned_abs (time +ℤ pos 1) ≡ unsigned_abs time + 1
next_amount (pos n) begun = refl
next_amount (negsuc n) begun = absurd (omega (arith, ints))

-- the time after
pub amount_after : (time next : Units) → pos 0 ≤ℤ time.0 → next.0 ≡ time.0 +ℤ pos 1 → amount next ≡ amount time + 1
amount_after time next begun is = ap unsigned_abs is ∙ next_amount time.0 begun
