use Rattle.{audit_sweep.proofs.records_lemmas.Numbered.{found, past}, std.proofs.Common.◌∙◌}
use Rattle.audit_sweep.proofs.records.records.KeptRecords.get.Goals as goal

pub returns-in-Some : goal.returns-in-Some
returns-in-Some c hs e =
    let there = c.in-Some.ensures.lookup in
    found hs c.deref.result.now c.args.number c.in-Some.found.now (c.deref.ensures.value ∙ c.self.view_is ∙ e) c.if-number-eq0.false
    there.3.0 there.1

pub returns-in-None : goal.returns-in-None
returns-in-None c hs e =
    past hs c.deref.result.now c.args.number (c.deref.ensures.value ∙ c.self.view_is ∙ e) c.if-number-eq0.false
    c.in-None.ensures.lookup.3
