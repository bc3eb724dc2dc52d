-- Facts on tests.
use Rattle.std.proofs.{Common.{◌==◌, ◌||◌, ◌≡◌, Bool, MatchBool, None, Some, arith, false, not, refl, sym, true, ℕ}}
use Rattle.{std.specs.Prelude.{◌&&◌, if◌then◌else◌}, tte_units.proofs.general_lemmas.Options.one}

pub or_none : (a : Bool) → (a || false) ≡ a
or_none true = refl
or_none false = refl

-- what a test lets through is what was given to it
pub picked : (b : Bool) (x clock : ℕ) → (if b then Some x else None) ≡ Some clock → (b ≡ true) × (x ≡ clock)
picked true x clock e = (refl, one (Some x) x clock refl e)
picked false x clock e = absurd cc

pub match_false : (b : Bool) (X Y : Type 0) → b ≡ false → Y → MatchBool b X Y
match_false true X Y e y = absurd cc
match_false false X Y e y = y

-- at the time itself all is kept
pub kept_flag : (b : Bool) → (not b || b) ≡ true
kept_flag true = refl
kept_flag false = refl

pub none_shorter : (b : Bool) → (b && false) ≡ false
none_shorter true = refl
none_shorter false = refl

pub not_both : (b : Bool) → b ≡ true → b ≡ false → ⊥
not_both b t f = cc

pub turned : (a b : ℕ) (r : Bool) → (a == b) ≡ r → (b == a) ≡ r
turned a b true e = grind arith
turned a b false e = grind arith

pub both_left : (a b : Bool) → (a && b) ≡ true → a ≡ true
both_left true b e = refl
both_left false b e = absurd cc

pub both_right : (a b : Bool) → (a && b) ≡ true → b ≡ true
both_right true b e = e
both_right false b e = absurd cc

pub no_more : (a b : Bool) → (a || (b && false)) ≡ a
no_more true b = refl
no_more false b = none_shorter b

pub same_tests : (a b : Bool) → (a ≡ true → b ≡ true) → (b ≡ true → a ≡ true) → a ≡ b
same_tests true b up down = sym (up refl)
same_tests false true up down = down refl
same_tests false false up down = refl

pub takes_by : (off broken : Bool) → off ≡ false → broken ≡ false → (not off && not broken) ≡ true
takes_by off broken a b = rw a (rw b)
