-- The order of the instants of a cycle.
use Rattle.precision_law.proofs.{Plain.le_by, words.Std.{◌*◌, ◌+◌, ◌^◌, ◌≤◌, arith, ints, mul-le-mul_left, mul-le-mul_right}}
use Rattle.precision_law.proofs.words.Laws.{CorrectionsComeFirst, CyclesAreFew, FramesComeFirst, HullsGoOn, InstantsAreInOrder, SetClocksStayAtCorrection}

pub corrections_come_first : CorrectionsComeFirst
corrections_come_first n before hull room narrow follows = omega (arith, ints)

pub frames_come_first : FramesComeFirst
frames_come_first n before room narrow = omega (arith, ints)

pub instants_are_in_order : InstantsAreInOrder
instants_are_in_order n before hull room narrow follows = record {
  corrections = omega (arith, ints, room.eight_errors);
  two_cycles = omega (arith, ints);
  last_not_early = omega (arith, ints, follows.most);
  last_not_late = omega (arith, ints, follows.least);
  near = omega (arith, ints, follows.most);
  first_not_early = omega (arith, ints, follows.most);
  next_later = omega (arith, ints, follows.least, room.many_errors);
  hulls = omega (arith, ints, follows.least);
}

pub set_clocks_stay_at_correction : SetClocksStayAtCorrection
set_clocks_stay_at_correction n shown cycle t before hull room narrow follows from to shows =
    record { least = omega (arith, ints); most = omega (arith, ints) }

pub hulls_go_on : HullsGoOn
hulls_go_on n cycle before hull not_before follows = omega (arith, ints, follows.least)

pub cycles_are_few : CyclesAreFew
cycles_are_few n cycle until hull room not_before early short =
    le_by (λ lt.
    let product = mul-le-mul_left cycle room.many_errors in
    let more : (2 ^ 20 + 2 ^ 17 + 1) * n.cycle ≤ cycle * n.cycle = mul-le-mul_right n.cycle (omega arith) in
    omega (arith, ints))
