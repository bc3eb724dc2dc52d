use Rattle.audit_sweep.proofs.unpaid_lemmas.{Debts.{none_waits, waits_until}}
use Rattle.audit_sweep.proofs.unpaid_lemmas.{Words.{ap, device_named, numbered_in, scenario_of}}
use Rattle.audit_sweep.proofs.unpaid.debtor.Debtor.permanence.Goals as goal

pub returns-in-Some : goal.returns-in-Some
returns-in-Some c befallen hs number h known there kept =
    let s = scenario_of c.args.self.now befallen in
    let waits = c.in-Some.ensures h kept in
    let has = known.devices h c.in-Some.waiting.device (numbered_in hs number h there) (ap device_named waits.arrived) in
    waits_until s hs c.args.self.now.until number c.reached.result there waits
    (c.reached.ensures befallen known.remembers has)

pub returns-in-None : goal.returns-in-None
returns-in-None c befallen hs number h known there kept =
    none_waits (scenario_of c.args.self.now befallen) hs c.args.self.now.until number h there (c.in-None.ensures h kept)
