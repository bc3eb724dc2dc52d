-- Worlds under the same events.
use Rattle.{net_plan.specs.declared.{event.Event.Event, network.Network.Network}, run_law.specs.declared.note.Note.Note}
use Rattle.std.proofs.{Common.{◌<ℤ◌, ◌<◌, ◌∙◌, ◌≡◌, List, arith, false, negsuc, pos, refl, sym, true, unsigned_abs, ℕ, ℤ}, lemmas.Int.ints}
use Rattle.{std.proofs.lemmas.Bool.{false_from_ne_true, true≢false}, tte_units.specs.Amount.units_of, world_drive.specs.exact.Worlds.{ExactWorld, StandsExact}}

-- a number below a time is below its amount
pub below_amount : (n : ℕ) (z : ℤ) → pos n <ℤ z → n < unsigned_abs z
below_amount n (pos m) lt = omega (arith, ints)
below_amount n (negsuc m) lt = absurd (omega (arith, ints))

-- two worlds where the same events leave them, with other records
pub record GoOn (world next : ExactWorld) : Type 0 where
  pub same : next.network ≡ world.network
  pub lines : next.lines ≡ world.lines
  pub unended : world.ended ≡ false → next.ended ≡ false
  pub ended : next.ended ≡ true → (world.ended ≡ true) × (pos next.now ≡ pos world.now)

pub go_on : {network : Network} {world next : ExactWorld} {events : List Event} {notes others : List Note}
    → StandsExact network world events notes → StandsExact network next events others → GoOn world next
go_on {world} {next} a b =
    let back : next.ended ≡ true → (world.ended ≡ true) × (pos next.now ≡ pos world.now) =
    λ ended. (a.is.ended (units_of next.now)).0 ((b.is.ended (units_of next.now)).1 (ended, refl)) in
    record {
      same = b.is.same ∙ sym a.is.same;
      lines = b.is.lines ∙ sym a.is.lines;
      unended = λ open_. false_from_ne_true next.ended (λ ended. true≢false (sym (back ended).0 ∙ open_));
      ended = back;
    }
