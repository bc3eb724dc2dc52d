use Rattle.drift_world.proofs.{Said.far_kind, Timings.{aside, in_range, rekeyed, set_ripe}}
use Rattle.drift_world.proofs.{Words.{◌^◌, ◌∙◌, ◌≡◌, ArrivedAt, ap, arith, changed_device, length, refl, subst, sym}}
use Rattle.run_law.specs.plain.Bodies.{body_of}
use Rattle.drift_world.proofs.state.State.rekey_after.Goals as goal

pub rekey_ripe-requires : goal.rekey_ripe-requires
rekey_ripe-requires g c =
    let may = c.requires.may in
    record {
      may = record {
        sized = may.sized;
        there = subst (ArrivedAt (length c.args.network.now.device)) (sym c.body.view_is ∙ ap body_of c.in-Arrived.is) c.requires.arrived;
        few = (in_range may.running).few_devices;
        slots = may.slots;
        running = may.running;
      };
    }

pub returns-in-Arrived-clause-timed : goal.returns-in-Arrived-clause-timed
returns-in-Arrived-clause-timed g c = λ before are changes machines timers.
    let network = c.args.network.now in
    let w = c.args.self.now in
    let keyed = c.rekey_ripe.ensures in
    let there = subst (ArrivedAt (length network.device)) (sym c.body.view_is ∙ ap body_of c.in-Arrived.is) c.requires.arrived in
    let only = rw (sym c.body.view_is ∙ ap body_of c.in-Arrived.is) at changes in
    rekeyed are there only timers
    (set_ripe there (are.each c.in-Arrived.device there) only.clocks only.time machines timers keyed.timed keyed.sets)

pub returns-in_default : goal.returns-in_default
returns-in_default g c = record {
  same = refl;
  timed = λ before are changes machines timers.
      let far : changed_device c.args.body.now ≡ 2 ^ 32 = ap changed_device (sym c.body.view_is) ∙ far_kind c.body.inside.kind c.in_default.not-Arrived in
      let few = (in_range c.requires.may.running).few_devices in
      aside are (omega arith)
      changes timers;
}
