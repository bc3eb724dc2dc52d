use Rattle.{audit_law.specs.events.Readings.scenario_under, schedule_tables.specs.declared.entry.Entry.Entry, std.proofs.Common.{◌∙◌, Option, ap, subst, sym}}
use Rattle.{lens_why.specs.Grounds.beside_ground, schedule_tables.specs.Entries.IsEntryInRange, std.specs.Prelude.IfSome, tte_units.specs.Amount.amount}
use Rattle.lens_why.proofs.dropping.beside.Goals as goal

pub missed-requires-clause-entry : goal.missed-requires-clause-entry
missed-requires-clause-entry c = subst (λ (o : Option Entry). IfSome o (IsEntryInRange c.args.network.now)) c.in-Some.is c.entry_given.ensures.range

pub returns-in-Some : goal.returns-in-Some
returns-in-Some c befallen hs k =
    let s = scenario_under c.args.network.now befallen in
    let p = c.args.passage in
    c.missed.ensures befallen hs k
    ∙ ap (λ o. beside_ground s hs p.device (amount p.time) o) (sym c.in-Some.is ∙ c.entry_given.ensures.is befallen hs k)

pub returns-in-None : goal.returns-in-None
returns-in-None c befallen hs k =
    let s = scenario_under c.args.network.now befallen in
    let p = c.args.passage in
    ap (λ o. beside_ground s hs p.device (amount p.time) o) (sym c.in-None.is ∙ c.entry_given.ensures.is befallen hs k)
