use Rattle.drift_world.proofs.{Timings.{in_range, running_with, set_more, sized_with}, Words.{ap, arith, length}}
use Rattle.drift_world.proofs.state.State.rekey_all.Goals as goal

pub rekey-requires : goal.rekey-requires
rekey-requires g c =
    let before = c.loop-device.invariant in
    let more = c.loop-device-test.true in
    let len = ap length c.as_slice.ensures in
    let K = g.C.Clock in
    let S = g.M.Machine.stands in
    record {
      may = record {
        sized = sized_with K.last_step K.reading S before.same c.requires.may.sized;
        there = omega arith;
        few = (in_range c.requires.may.running).few_devices;
        slots = before.sized;
        running = running_with K.last_step K.reading S before.same c.requires.may.running;
      };
    }

pub loop-device-preserved : goal.loop-device-preserved
loop-device-preserved g c =
    let more = c.loop-device-test.true in
    let len = ap length c.as_slice.ensures in
    set_more
    c.loop-device.invariant c.rekey.ensures (omega arith)
