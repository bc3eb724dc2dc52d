-- Anchored clocks: how they are set, what they show, and when they reach a value.
use Rattle.precision_law.proofs.words.Laws.{AnchoredClocksReach, AnchoredClocksShow, AnchorsWiden, ClocksOfOneCycle, ClocksOfTwoCycles, OneFrameAnchors}
use Rattle.precision_law.proofs.words.Laws.{OneFrameSets, SetClocksHaveReached, SetClocksShow, SharedClocksHalve, StartsAreSet, StartsStayTogether}
use Rattle.{precision_law.proofs.words.Laws.{TwoFramesAnchor, TwoFramesSet, high_of, low_of, setting}, std.proofs.Common.suc-mul}
use Rattle.precision_law.proofs.words.{Plans.{mean_of, mean_of-floor}, Std.{◌*ℤ◌, ◌*◌, ◌+ℤ◌, ◌+◌, ◌-ℤ◌, ◌≡◌, ◌≤ℤ◌, arith, ints, negsuc, pos, refl, ℕ, ℤ}}

-- ---- setting a clock

pub one_frame_anchors : OneFrameAnchors
one_frame_anchors n reading base q point expected cycle timely =
    record { least = omega (arith, ints); most = omega (arith, ints) }

pub two_frames_anchor : TwoFramesAnchor
two_frames_anchor n reading first second q u p r expected cycle steady le within one other =
    let fast = steady.fast q u le within in
    let slow = steady.slow q u le within in
    let mean = mean_of-floor (setting n cycle expected p) (setting n cycle expected r) in
    record { least = omega (arith, ints); most = omega (arith, ints) }

pub anchors_widen : AnchorsWiden
anchors_widen n shown cycle low high lower higher r down up anchored = record { least = omega (arith, ints); most = omega (arith, ints) }

pub one_frame_sets : OneFrameSets
one_frame_sets n reading hull base q point expected cycle room near timely =
    anchors_widen n (pos (reading q) +ℤ setting n cycle expected point) cycle
    ((pos 2 *ℤ base) -ℤ pos (2 * n.path + 4 * n.grain)) ((pos 2 *ℤ base) +ℤ pos (2 * n.path))
    (low_of n hull) (high_of n hull) q (omega (arith, ints)) (omega (arith, ints)) (one_frame_anchors n reading base q point expected cycle timely)

pub two_frames_set : TwoFramesSet
two_frames_set n reading hull first second q u p r expected cycle room steady le within near far one other =
    anchors_widen n (pos (reading u) +ℤ mean_of (setting n cycle expected p) (setting n cycle expected r)) cycle
    ((first +ℤ second) -ℤ pos (2 * n.path + 4 * n.grain + n.drift)) ((first +ℤ second) +ℤ pos (2 * n.path + n.drift + 1))
    (low_of n hull) (high_of n hull) u (omega (arith, ints, room.errors)) (omega (arith, ints, room.errors))
    (two_frames_anchor n reading first second q u p r expected cycle steady le within one other)

pub starts_are_set : StartsAreSet
starts_are_set n reading start room steady least most =
    let zero = steady.begins in
    record { least = omega (arith, ints); most = omega (arith, ints, room.errors.clock_is) }

-- ---- reading an anchored clock

pub anchored_clocks_show : AnchoredClocksShow
anchored_clocks_show n reading adjustment cycle low high r t steady le within anchored =
    let fast = steady.fast r t le within in
    let slow = steady.slow r t le within in
    record { least = omega (arith, ints, anchored.least); most = omega (arith, ints, anchored.most) }

pub anchored_clocks_reach : AnchoredClocksReach
anchored_clocks_reach n shown cycle low high v t shows least most = record { not_early = omega (arith, ints); not_late = omega (arith, ints) }

pub set_clocks_have_reached : SetClocksHaveReached
set_clocks_have_reached n reading adjustment cycle hull r v t room steady le within anchored late =
    omega (arith, ints, (anchored_clocks_show n reading adjustment cycle (low_of n hull) (high_of n hull) r t steady le within anchored).least)

pub set_clocks_show : SetClocksShow
set_clocks_show n reading adjustment cycle hull r t steady le within anchored =
    let shows = anchored_clocks_show n reading adjustment cycle (low_of n hull) (high_of n hull) r t steady le within anchored in
    record { least = omega (arith, ints, shows.least); most = omega (arith, ints, shows.most) }

-- ---- two clocks

pub clocks_of_one_cycle : ClocksOfOneCycle
clocks_of_one_cycle n x y cycle hull t room narrow one other = record { one = omega (arith, ints); other = omega (arith, ints) }

-- a whole number from a natural number on is one
pub natural_of : (z : ℤ) (least : ℕ) → pos least ≤ℤ z → (m : ℕ) × (z ≡ pos m)
natural_of (pos m) least le = (m, refl)
natural_of (negsuc m) least le = absurd (omega (arith, ints))

pub clocks_of_two_cycles : ClocksOfTwoCycles
clocks_of_two_cycles n x y cycle before hull t room narrow follows one other =
    let more = suc-mul cycle n.cycle in
    record { one = omega (arith, ints); other = omega (arith, ints) }

-- ---- halving

pub shared_clocks_halve : SharedClocksHalve
shared_clocks_halve n hull shared x y t u room near far one other = omega (arith, ints)

pub starts_stay_together : StartsStayTogether
starts_stay_together n t u room one other = omega (arith, ints)
