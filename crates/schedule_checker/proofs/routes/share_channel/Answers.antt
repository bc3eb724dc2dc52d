use Rattle.{std.specs.Bool.Decides}
use Rattle.{std.proofs.Common.{◌≡◌, Bool, false, true}, tte_units.specs.declared.frames.channel.Channel.{Channel, TheVariants.{A, B}}}
use Rattle.schedule_checker.proofs.routes.share_channel.Goals as goal
use Rattle.std.proofs.Common.{arith}

-- the test of channel b decides, where that of channel a fails
of_b : (P : Channel → Type 0) (a b : Bool) → Decides a (P A) → Decides b (P B) → a ≡ false → (x : Channel) → P x → b ≡ true
of_b P a b first second fails A p = let passes = first.1 p in absurd cc
of_b P a b first second fails B p = second.1 p

pub returns-then-share : goal.returns-then-share
returns-then-share c =
    search arith

pub returns-else-share : goal.returns-else-share
returns-else-share c =
    search (arith, of_b)
