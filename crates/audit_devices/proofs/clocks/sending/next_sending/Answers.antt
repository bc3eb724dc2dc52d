use Rattle.audit_devices.proofs.clocks_lemmas.Reached.{next_sent, none_sent}
use Rattle.sync_state.specs.declared.state.State.TheVariants.{Synchronised}
use Rattle.{audit_devices.specs.Showing.IsSteady, audit_law.specs.events.Readings.scenario_under, std.proofs.Common.{◌+◌, ◌∙◌, ◌≡◌, arith, rules, sym}}
use Rattle.audit_devices.proofs.clocks.sending.next_sending.Goals as goal

pub returns-in-Some : goal.returns-in-Some
returns-in-Some c befallen hs remembers has in_stretch =
    let s = scenario_under c.args.network.now befallen in
    let on = c.reading_law.ensures c.args.network.now befallen c.args.device remembers.range remembers.within remembers.begun in
    let steady : IsSteady s c.args.device = record { begins = on.begins; never_falls = on.never_falls } in
    let state : c.args.shown.now.state ≡ Synchronised = search rules in
    next_sent s hs c.args.device c.args.after c.args.until
    (sym c.is_master.ensures ∙ c.if-not-is_master.false) state steady c.beginnings.ensures.values in_stretch
    (c.in-Some.ensures.is c.args.network.now befallen remembers has)

pub returns-in-None : goal.returns-in-None
returns-in-None c befallen hs remembers has in_stretch =
    let s = scenario_under c.args.network.now befallen in
    none_sent s hs c.args.device c.args.after c.args.until (c.args.until
    + 1) c.beginnings.result c.beginnings.ensures.values in_stretch (omega arith)
    (c.in-None.ensures.is c.args.network.now befallen remembers has)
