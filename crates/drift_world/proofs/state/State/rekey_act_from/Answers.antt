use Rattle.drift_world.proofs.Nearings.{acts_by}
use Rattle.drift_world.proofs.{Words.{◌+◌, ◌<◌, ◌∙◌, DeviceId, Some, ap, arith, length, refl, slice_get-get_or, subst}}
use Rattle.{drift_world.specs.Stepping.IsTimedFor, std.proofs.Common.{get_or}}
use Rattle.world_state.specs.{declared.timers.Timer.Timer, timers.Times.unset}
use Rattle.drift_world.proofs.state.State.rekey_act_from.Goals as goal

pub returns-then-keeps_part : goal.returns-then-keeps_part
returns-then-keeps_part g c =
    let w = c.args.self.now in
    let S = g.M.Machine.stands in
    let network = c.args.network.now in
    let may = c.requires.may in
    let there = may.there in
    let slots = may.slots in
    let device : DeviceId = record { 0 = c.args.device } in
    let s = may.running.s in
    let old = may.running.is in
    let of_it : c.args.device < length s.network.device = rw old.same at there in
    let own = old.clocks device of_it in
    let has = old.devices device of_it in
    let slot = length network.device + c.args.device in
    let timer = get_or w.timers slot unset in
    let at = slice_get-get_or w.timers slot unset (omega arith) in
    let timed = subst (IsTimedFor g.C.Clock.reading S network w c.args.device) c.in-Due.is c.requires.before in
    let before = timed own.0 timer own.1 at in
    record {
      sets = record { same = refl; sized = refl; others = λ slot apart. refl; later = λ all. all };
      timed = record {
        clock = own.0;
        of_clock = own.1;
        machine = has.0;
        of_machine = has.1;
        act = timer.time;
        part = before.part;
        of_act = at ∙ ap (λ r. Some (let t : Timer = record { time = timer.time; rank = r } in t)) before.rank_is;
        acts = acts_by S network has.0 device before.part c.in-Due.before
            (λ node is. rw (c.is_same.ensures c.if-is_same.true) at (c.due_of-due.ensures has.0 network device node
            has.1 is))
            before.by
            (λ node kept. c.keeps_part.ensures c.if-keeps_part.true timer before.part at before.rank_is own.0 has.0 network device node own.1 has.1 kept);
      };
    }
