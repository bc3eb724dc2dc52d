-- What a correction point comes to.
use Rattle.{device_rules.specs.Answers.in_units, std.proofs.{Common.{sym, true, ℕ, ℤ, ⊎_elim}, lemmas.Bool.{le-leb, leb-true}}}
use Rattle.std.proofs.Common.{◌∙◌, ◌≡◌, ◌≤◌, ◌⊎◌, Bool, None, Option, Some, ap, arith, false, if◌then◌else◌, inl, inr, nat_le, option_and_then, refl, subst}
use Rattle.sync_state.specs.{Standing.Standing, Verdicts.{SomeQualifies, deviation_by, deviation_on}, declared.membership.frame.HeardFrame.HeardFrame}
use Rattle.{sync_state.specs.correction.Correction.correction_of, tte_units.specs.declared.frames.channel.Channel.{Channel, TheVariants.{A, B}}}
use Rattle.{sync_state.specs.membership.{BestFrame.Qualifies, Members.count_of, Summary.{Summary, best_on}}, tte_units.specs.declared.units.Units.Units}

-- the deviation that a best frame shows, where there is one that qualifies
abbrev shown_by : Standing → Option HeardFrame → Option Units
shown_by s best = option_and_then (λ frame. if nat_le s.plan.threshold (count_of frame.members) then Some (deviation_by s frame) else None) best

if_none : {X : Type 0} (b : Bool) (x : X) → (if b then Some x else None) ≡ None → b ≡ false
if_none true x e = absurd cc
if_none false x e = refl

if_some : {X : Type 0} (b : Bool) (x y : X) → (if b then Some x else None) ≡ Some y → b ≡ true
if_some true x y e = refl
if_some false x y e = absurd cc

not_least : (t n : ℕ) → nat_le t n ≡ false → t ≤ n → ⊥
not_least t n e h = grind arith

none_shown : (s : Standing) (best : Option HeardFrame) → shown_by s best ≡ None → Qualifies s.plan.threshold best → ⊥
none_shown s None e q = q
none_shown s (Some frame) e q =
    not_least s.plan.threshold (count_of frame.members)
    (if_none (nat_le s.plan.threshold (count_of frame.members)) (deviation_by s frame) e) q

some_shown : (s : Standing) (best : Option HeardFrame) (by : Units) → shown_by s best ≡ Some by → Qualifies s.plan.threshold best
some_shown s None by e = absurd cc
some_shown s (Some frame) by e =
    leb-true s.plan.threshold (count_of frame.members)
    (if_some (nat_le s.plan.threshold (count_of frame.members)) (deviation_by s frame) by e)

both_none : (a b : Option Units) → correction_of a b ≡ None → (a ≡ None) × (b ≡ None)
both_none (Some a) (Some b) e = absurd cc
both_none (Some a) None e = absurd cc
both_none None (Some b) e = absurd cc
both_none None None e = (refl, refl)

one_some : (a b : Option Units) (by : Units) → correction_of a b ≡ Some by → ((x : Units) × (a ≡ Some x)) ⊎ ((x : Units) × (b ≡ Some x))
one_some (Some a) b by e = inl (a, refl)
one_some None (Some b) by e = inr (b, refl)
one_some None None by e = absurd cc

-- without a correction no channel qualifies
pub none_qualifies : (s : Standing) (heard : Summary) → correction_of (deviation_on s heard A) (deviation_on s heard B) ≡ None → SomeQualifies s heard → ⊥
none_qualifies s heard e q =
    let none = both_none (deviation_on s heard A) (deviation_on s heard B) e in
    ⊎_elim (λ a. none_shown s heard.best_a none.0 a) (λ b. none_shown s heard.best_b none.1 b) q

-- with one, one does
pub some_qualifies : (s : Standing) (heard : Summary) (by : Units)
    → correction_of (deviation_on s heard A) (deviation_on s heard B) ≡ Some by → SomeQualifies s heard
some_qualifies s heard by e = ⊎_elim
    (λ a. inl (some_shown s heard.best_a a.0 a.1))
    (λ b. inr (some_shown s heard.best_b b.0 b.1))
    (one_some (deviation_on s heard A) (deviation_on s heard B) by e)

-- the correction by whole numbers is that by the deviations of the channels
pub corrects : (s : Standing) (heard : Summary) (by a b : Option ℤ) → in_units by ≡ correction_of (in_units a) (in_units b)
    → in_units a ≡ deviation_on s heard A → in_units b ≡ deviation_on s heard B → in_units by ≡ correction_of (deviation_on s heard A) (deviation_on s heard B)
corrects s heard by a b e ea eb = e ∙ (rw ea (ap (correction_of (deviation_on s heard A)) eb))

-- what a best frame shows that qualifies
pub shown : (s : Standing) (heard : Summary) (channel : Channel) (frame : HeardFrame) → best_on channel heard ≡ Some frame
    → Qualifies s.plan.threshold (best_on channel heard) → Some (deviation_by s frame) ≡ deviation_on s heard channel
shown s heard channel frame is =
    subst (λ best. Qualifies s.plan.threshold best → Some (deviation_by s frame) ≡ shown_by s best) (sym is)
    (λ enough. ap (λ (b : Bool). if b then Some (deviation_by s frame) else None) (sym (le-leb s.plan.threshold (count_of frame.members) enough)))
