-- A correction is at most the precision.
use Rattle.precision_law.{specs.falls.Laws.{CorrectionsAreSmall, IsSmall}}
use Rattle.precision_law.proofs.{falls_lemmas.Views.in_network, law.{Precision.{view_at, view_of}, Whole.blocks_known}}
use Rattle.precision_law.proofs.{words.Blocks.{before_narrow, follows_before, old_shows}}
use Rattle.precision_law.proofs.words.Clocks.{before_of, clocks_of_two_cycles, instants_are_in_order, one_channel_is_sound, point_timed, room, set_clocks_show}
use Rattle.precision_law.proofs.words.{Clocks.steady, Laws.{ComesTo, HasTimeAt, adjustment_left}, Plans.{Corrected, Units}}
use Rattle.precision_law.proofs.words.{Runs.{IsCaused, Scenario, founded_at, happenings, time_of}, Std.{◌+ℤ◌, ◌≤ℤ◌, arith, ints, pos, subst, suc, ℤ}}

small_by : (s : Scenario) (by : Units) (reading left : ℤ) → (reading +ℤ left) ≤ℤ ((reading +ℤ (left +ℤ by.0)) +ℤ s.network.precision.0)
    → (reading +ℤ (left +ℤ by.0)) ≤ℤ ((reading +ℤ left) +ℤ s.network.precision.0) → IsSmall s.network by
small_by s by reading left one other = record { least = omega (arith, ints); most = omega (arith, ints) }

pub small : CorrectionsAreSmall
small s mark ns until up h device number by adjustment i le body =
    let t = time_of h in
    let hs = happenings s.network ns in
    let channel = one_channel_is_sound s t up.lawful in
    let at = view_at t channel.0 up le channel.1 in
    let v = view_of s hs t channel.0 at in
    let block = blocks_known.cover v t at.is (omega arith) in
    let n = block.0 in
    let found = founded_at s at.cut.front h at.cut.run.founded (at.cut.has h i (omega arith)) in
    let cause = subst (IsCaused s found.front h.note.time) body found.due.cause in
    let split = before_of at.is found in
    let timed = point_timed split cause.corrected in
    let has : HasTimeAt v device t = record { good = cause.corrected.correct; timed = timed } in
    let comes : ComesTo v t device number (Corrected by) = record { front = found.front; split = split; point = cause.corrected } in
    let so = blocks_known.goes v n t block.1 at.is in
    let old = so.old_alone device number (Corrected by) has comes (λ e. cc) in
    let point = so.points device number (Corrected by) has old comes in
    let set = so.corrects device number by has old comes in
    let before = block.1.before in
    let space = room at.is in
    let follows = follows_before n before.hull set.hull at.is before.is_hull set.is_hull in
    let order = instants_are_in_order v.sizes before.hull set.hull space (before_narrow before) follows in
    let was = old_shows block.1 at.is (omega arith) has old in
    let now = set_clocks_show v.sizes (s.reading device) (adjustment_left v device t +ℤ by.0) (suc n) set.hull set.set_at t
    (steady v at.is device) set.not_behind (omega (arith, ints, point.not_late, order.last_not_late, set.not_before))
    set.anchored in
    let close = clocks_of_two_cycles v.sizes (pos (s.reading device t) +ℤ adjustment_left v device t)
    (pos (s.reading device t) +ℤ (adjustment_left v device t +ℤ by.0)) n before.hull set.hull t space
    (before_narrow before) follows was now in
    let shown = pos (s.reading device t) +ℤ adjustment_left v device t in
    let corrected = pos (s.reading device t) +ℤ (adjustment_left v device t +ℤ by.0) in
    small_by s by (pos (s.reading device t)) (adjustment_left v device t) (in_network shown corrected at.is close.one)
    (in_network corrected shown at.is close.other)
