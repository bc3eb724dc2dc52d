use Rattle.std.{proofs.Common.{◌≡◌, sym}}
use Rattle.world_state.specs.{declared.{contents.{Holding.Holding, Timed.Timed}, hands.AtHand.AtHand}}
use Rattle.world_state.proofs.hands.held.Goals as goal

pub returns-in-Some : goal.returns-in-Some
returns-in-Some c =
    let h = c.in-Some.holding.now in
    let held = rw (sym c.in-Some.ensures.is) at c.in-Some.ensures.held in
    (h, held.there, held.device, held.vl, of_octets h c.copied.result c.copied.ensures)
  where
    of_octets : (h : Holding) (o : Timed) → o ≡ h.octets
        → ◌≡◌ {A = AtHand} (record { cause = h.number; octets = o }) (record { cause = h.number; octets = h.octets })
    of_octets h o e = rw e

pub returns-in-None : goal.returns-in-None
returns-in-None c =
    rw (sym c.in-None.ensures.is) at c.in-None.ensures.held
