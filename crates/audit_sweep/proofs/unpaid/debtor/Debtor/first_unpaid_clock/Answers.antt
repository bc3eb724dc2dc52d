use Rattle.audit_sweep.proofs.unpaid_lemmas.{Debts.{all_told, none_owed, one_untold}, Words.scenario_of}
use Rattle.audit_sweep.proofs.unpaid.debtor.Debtor.first_unpaid_clock.Goals as goal

pub returns-then-self-end : goal.returns-then-self-end
returns-then-self-end c befallen hs known one =
    none_owed (scenario_of c.args.self.now befallen) hs c.args.self.now.until one c.if-self-end.true

pub returns-in-Some : goal.returns-in-Some
returns-in-Some c befallen hs known one =
    one_untold (scenario_of c.args.self.now befallen) hs c.args.self.now.until one c.if-self-end.false
    (c.in-Some.ensures hs known.places)

pub returns-in-None : goal.returns-in-None
returns-in-None c befallen hs known one =
    all_told (scenario_of c.args.self.now befallen) hs c.args.self.now.until one (c.in-None.ensures hs known.places)
