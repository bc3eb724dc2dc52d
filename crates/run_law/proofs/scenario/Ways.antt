-- Ways over a link.
use Rattle.run_law.{proofs.Words.{◌≡◌, Down, Up, Way, refl, true}, specs.scenario.Ways.is_way}

-- a way is itself
pub way_itself : (way : Way) → is_way way way ≡ true
way_itself Up = refl
way_itself Down = refl

-- the test of ways
pub one_way : (a b : Way) → is_way a b ≡ true → b ≡ a
one_way Up Up e = refl
one_way Up Down e = absurd cc
one_way Down Up e = absurd cc
one_way Down Down e = refl
