use Rattle.fault_hypothesis.proofs.Keeping.{faulty_begins, none_on}
use Rattle.tte_units.proofs.general_lemmas.Lists.{any_none, none_stands}
use Rattle.{run_law.specs.scenario.Faults.Breaks, std.proofs.Common.{arith, refl}}
use Rattle.fault_hypothesis.proofs.watch.Watch.new.Goals as goal

pub returns : goal.returns
returns c = record {
  over = refl;
  of_network = λ k d within. absurd (omega arith);
  within = λ before behind event order. absurd (none_stands before event behind order);
  last = refl;
  broken = λ d. (λ e. absurd cc, λ h. absurd (any_none (Breaks d) h));
  faulty = faulty_begins c.args.accepted.now c.off_channel.result c.network.ensures.rules (rw (← c.network.ensures.value) c.off_channel.ensures);
  turned_on = none_on c.args.accepted.now 64;
}
