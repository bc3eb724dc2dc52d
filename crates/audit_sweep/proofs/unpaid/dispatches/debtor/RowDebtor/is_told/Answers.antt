use Rattle.std.proofs.Common.{◌∙◌, false, sym, true}
use Rattle.audit_sweep.{proofs.unpaid_lemmas.dispatches_lemmas.RowDebts.told_there}
use Rattle.audit_sweep.{specs.unpaid.dispatches.{Debtors.scenario_of, Frames.dispatch_of}}
use Rattle.audit_sweep.proofs.unpaid.dispatches.debtor.RowDebtor.is_told.Goals as goal

pub returns-then-is_cut : goal.returns-then-is_cut
returns-then-is_cut c befallen hs known =
    let s = scenario_of c.args.self.now befallen in
    let o = dispatch_of c.args.link c.args.row.now c.args.time c.args.frame in
    let has = c.has.ensures hs known.places in
    let then = sym (c.is_cut.ensures befallen known.remembers c.requires.link) ∙ c.if-is_cut.true in
    let there = told_there s hs o true 0 c.of_loss.result then (c.of_loss.ensures 0) in
    (λ told. there.0 (has.0 told), λ paid. has.1 (there.1 paid))

pub returns : goal.returns
returns c befallen hs known =
    let s = scenario_of c.args.self.now befallen in
    let o = dispatch_of c.args.link c.args.row.now c.args.time c.args.frame in
    let has = c.has-2.ensures hs known.places in
    let then = sym (c.is_cut.ensures befallen known.remembers c.requires.link) ∙ c.if-is_cut.false in
    let there = told_there s hs o false 0 c.of_dispatch.result then (c.of_dispatch.ensures 0) in
    (λ told. there.0 (has.0 told), λ paid. has.1 (there.1 paid))
