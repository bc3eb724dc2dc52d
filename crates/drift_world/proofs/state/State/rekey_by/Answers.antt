use Rattle.drift_world.proofs.{Timings.{in_range, its_device}, Words.{◌+◌, ◌≡◌, ◌⊎◌, IsSomeAnd, length, subst, sym}}
use Rattle.drift_world.specs.Stepping.{SetsOnly}
use Rattle.drift_world.proofs.state.State.rekey_by.Goals as goal

pub rekey-requires : goal.rekey-requires
rekey-requires g c =
    let may = c.requires.may in
    record {
      may = record {
        sized = may.sized;
        there = its_device c.args.network.now c.args.what.now c.requires.there (sym c.in-Some.ensures);
        few = (in_range may.running).few_devices;
        slots = may.slots;
        running = may.running;
      };
    }

pub returns-in-Some-clause-sets : goal.returns-in-Some-clause-sets
returns-in-Some-clause-sets g c =
    let many = length c.args.network.now.device in
    subst (λ o. SetsOnly (λ slot. IsSomeAnd o (λ d. (slot ≡ d.0) ⊎ (slot ≡ many + d.0))) c.args.self.now
    c.rekey.new.self)
    c.in-Some.ensures c.rekey.ensures.sets
