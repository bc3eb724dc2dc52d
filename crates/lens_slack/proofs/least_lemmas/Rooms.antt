-- The answer by whether the cycle has room.
use Rattle.std.{proofs.{Common.{◌<◌, ◌≡◌, ◌≤◌, Bool, false, refl, subst, true}, lemmas.Bool.{le-ltb, lt-ltb}}, specs.Prelude.if◌then◌else◌}
use Rattle.lens_slack.specs.{Lines.finding_line, Tightest.{IsEnough, is_short}, declared.spot.Finding.Finding}
use Rattle.net_plan.specs.declared.network.Network.{Network}
use Rattle.tte_forms.specs.{Answering.{Answer, line_answer, with_line}, declared.status.Status.TheVariants.{Done, NetworkRefused}}
use Rattle.lens_slack.specs.{declared.least.times.Times.Times, least.{Answer.{room_of, times_answer}, Lines.{keys_text, least_line}}}

-- the two lines where it has none
abbrev pub short_answer : Network → Times → Answer
short_answer n t = with_line (least_line t) (line_answer NetworkRefused (finding_line n (room_of n t)))

-- and where it has some
abbrev pub roomy_answer : Times → Answer
roomy_answer t = with_line (least_line t) (line_answer Done (keys_text t))

by_true : (b : Bool) (x y : Answer) → b ≡ true → (if b then x else y) ≡ x
by_true true x y e = refl
by_true false x y e = absurd cc

by_false : (b : Bool) (x y : Answer) → b ≡ false → (if b then x else y) ≡ y
by_false false x y e = refl
by_false true x y e = absurd cc

abbrev IsLess : Finding → Type 0
IsLess f = f.has < f.wants

pub roomy : (n : Network) (t : Times) (f : Finding) → f ≡ room_of n t → f.wants ≤ f.has → times_answer n t ≡ roomy_answer t
roomy n t f is enough =
    let room = room_of n t in
    by_false (is_short room) (short_answer n t) (roomy_answer t) (le-ltb room.has room.wants (subst IsEnough is enough))

pub short : (n : Network) (t : Times) (f : Finding) → f ≡ room_of n t → f.has < f.wants → times_answer n t ≡ short_answer n t
short n t f is less =
    let room = room_of n t in
    by_true (is_short room) (short_answer n t) (roomy_answer t) (lt-ltb room.has room.wants (subst IsLess is less))
