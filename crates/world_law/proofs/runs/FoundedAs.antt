-- Records that are founded but for their numbers: each stands after those before it, and is due given them.
use Rattle.run_law.proofs.law.FirstDeliveries.{front_founded}
use Rattle.world_law.proofs.Words.{◌++◌, ◌∷◌, ◌≡◌, Happening, IsDue, IsFounded, IsIn, List, Scenario, parted, place_of, subst}
use Rattle.world_law.specs.world.World.{IsDueAs}

abbrev pub AreFoundedAs : Scenario → List Happening → Type 0
AreFoundedAs s hs = IsFounded place_of (IsDueAs s) hs

-- so are records that are founded
pub as_founded : (s : Scenario) (hs : List Happening) → IsFounded place_of (IsDue s) hs → AreFoundedAs s hs
as_founded s hs founded front rest h e =
    let at = founded front rest h e in
    (at.0, record { same = at.1.same; begun = at.1.begun; cause = at.1.cause })

-- one of them with those before it
pub record IsFoundedAs (s : Scenario) (hs : List Happening) (h : Happening) : Type 0 where
  pub front : List Happening
  pub rest : List Happening
  pub whole : hs ≡ front ++ h ∷ rest
  pub due : IsDueAs s front h
  pub founded : AreFoundedAs s front

pub founded_as : (s : Scenario) (hs : List Happening) (h : Happening) → AreFoundedAs s hs → IsIn h hs → IsFoundedAs s hs h
founded_as s hs h founded i =
    let at = parted h hs i in
    record {
      front = at.0;
      rest = at.1;
      whole = at.2;
      due = (founded at.0 at.1 h at.2).1;
      founded = front_founded place_of (IsDueAs s) at.0 (h ∷ at.1) (subst (AreFoundedAs s) at.2 founded);
    }
