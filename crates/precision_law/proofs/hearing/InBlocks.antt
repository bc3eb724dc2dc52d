-- When frames are heard.
use Rattle.precision_law.proofs.words.{Blocks.has_dispatched, Clocks.{frames_come_first, has_before, room, within_run}}
use Rattle.precision_law.proofs.words.Laws.{BasesAreNearHulls, EmissionsAreOfDispatches, HeardFramesAreTimely, HeardInTheirBlocks, hull_of}
use Rattle.precision_law.proofs.words.Std.{◌-◌, ◌≡◌, Some, arith, ints, subst, suc}

pub heard_in_their_blocks : HeardFramesAreTimely → EmissionsAreOfDispatches → BasesAreNearHulls → HeardInTheirBlocks
heard_in_their_blocks timely dispatched near v device channel cycle members h q point expected is tidy good narrow heard =
    let space = room is in
    let sent = dispatched v h heard.cm cycle members is heard.emission good in
    let begun = (has_dispatched is sent.dispatch).begun in
    let k = cycle - 1 in
    let next : cycle ≡ suc k = omega arith in
    let base = near v h heard.cm cycle members is heard.emission tidy good in
    let before =
    has_before v k base.hull (within_run is) (subst (λ c. hull_of v c ≡ Some base.hull) next base.is) in
    let on_time = timely v device channel cycle members h q point expected is heard in
    record {
      before = before.before;
      hull = base.hull;
      follows = k;
      is_next = next;
      is_before = before.is_before;
      is_hull = base.is;
      not_early = omega (arith, ints, on_time.not_early, base.least);
      not_late = omega (arith, ints, frames_come_first v.sizes before.before space (narrow k next before.before before.is_before));
    }
