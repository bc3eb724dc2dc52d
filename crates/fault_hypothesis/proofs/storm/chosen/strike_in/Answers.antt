use Rattle.fault_hypothesis.proofs.storm_lemmas.OneStorm.{master_within, some_master}
use Rattle.std.proofs.Common.{inl, inr, refl}
use Rattle.fault_hypothesis.proofs.storm.chosen.strike_in.Goals as goal

pub returns-in-Some-last_master-clause-value : goal.returns-in-Some-last_master-clause-value
returns-in-Some-last_master-clause-value c = λ before knows. (
  refl,
  inl (record {
    master = c.in-Some-last_master.master;
    none = λ device broken. let is = (knows.known device).1 broken in let none = c.in-None.is in absurd cc;
    last = c.in-Some-last_master.ensures;
    breaks = refl;
  }),
)

pub returns-in-Some-last_master-clause-of_network : goal.returns-in-Some-last_master-clause-of_network
returns-in-Some-last_master-clause-of_network c = λ yes.
    master_within c.args.network.now c.in-Some-last_master.master c.in-Some-last_master.ensures.master

pub returns-in-None-last_master-clause-value : goal.returns-in-None-last_master-clause-value
returns-in-None-last_master-clause-value c = λ before knows.
    let one = some_master c.args.network.now c.requires.rules in
    absurd (c.in-None-last_master.ensures one.0 one.1)

pub returns-in-Some-forged_send-clause-value : goal.returns-in-Some-forged_send-clause-value
returns-in-Some-forged_send-clause-value c = λ before knows.
    let broken = (knows.known c.in-Some.broken).0 c.in-Some.is in
    (refl, inr (c.in-Some.broken, broken, c.in-Some-forged_send.ensures.value c.requires.rules (knows.masters c.in-Some.broken broken)))

pub returns-in-None-forged_send-clause-value : goal.returns-in-None-forged_send-clause-value
returns-in-None-forged_send-clause-value c = λ before knows.
    let broken = (knows.known c.in-Some.broken).0 c.in-Some.is in
    absurd (c.in-None-forged_send.ensures.value c.requires.rules (knows.masters c.in-Some.broken broken))
