use Rattle.std.proofs.Common.{arith, subst}
use Rattle.audit_sweep.proofs.unpaid_lemmas.dispatches_lemmas.RowDebts
use RowDebts.{device_there, link_there, none_taken, one_taken, when_false, when_true}
use Rattle.audit_sweep.specs.{records.dispatches.Dispatched.IsAcceptedLast, unpaid.dispatches.Debtors.scenario_of}
use Rattle.audit_sweep.proofs.unpaid.dispatches.debtor.RowDebtor.lacks_one.Goals as goal

pub last_accepted-accepted-requires : goal.last_accepted-accepted-requires
last_accepted-accepted-requires c =
    let there = device_there c.requires.fit.range c.requires.row in
    let all = c.requires.fit.taking in
    omega (arith, there, all)

pub lacks-requires : goal.lacks-requires
lacks-requires c = record { link = link_there c.requires.row }

pub lacks-requires-in-Some : goal.lacks-requires-in-Some
lacks-requires-in-Some c = record { link = link_there c.requires.row }

pub returns-then-lacks : goal.returns-then-lacks
returns-then-lacks c befallen hs known =
    let network = c.args.self.now.network.now in
    let so : IsAcceptedLast network hs c.args.row.now.device c.args.row.now.vl c.args.time c.last_accepted-accepted.result =
    λ switch. c.last_accepted-accepted.ensures network hs known.taken switch in
    let own = when_true c.lacks.result _ _ c.if-lacks.true (c.lacks.ensures befallen hs known so) in
    record { cause = 0; at_hand = own.0; untold = own.1 }

pub returns-in-Some : goal.returns-in-Some
returns-in-Some c befallen hs known =
    let network = c.args.self.now.network.now in
    let so : IsAcceptedLast network hs c.args.row.now.device c.args.row.now.vl c.args.time c.last_accepted-accepted.result =
    λ switch. c.last_accepted-accepted.ensures network hs known.taken switch in
    one_taken (scenario_of c.args.self.now befallen) hs c.args.link c.args.row.now c.args.time c.args.cycle c.last_accepted-accepted.result
    c.in-Some.taking c.lacks-in-Some.result c.in-Some.is so
    (when_false c.lacks.result _ _ c.if-lacks.false (c.lacks.ensures befallen hs known so))
    (c.lacks-in-Some.ensures befallen hs known
    (subst (λ o. IsAcceptedLast network hs c.args.row.now.device c.args.row.now.vl c.args.time o) c.in-Some.is so))

pub returns-in-None : goal.returns-in-None
returns-in-None c befallen hs known =
    let network = c.args.self.now.network.now in
    let so : IsAcceptedLast network hs c.args.row.now.device c.args.row.now.vl c.args.time c.last_accepted-accepted.result =
    λ switch. c.last_accepted-accepted.ensures network hs known.taken switch in
    none_taken (scenario_of c.args.self.now befallen) hs c.args.link c.args.row.now c.args.time c.args.cycle c.last_accepted-accepted.result
    c.in-None.is so
    (when_false c.lacks.result _ _ c.if-lacks.false (c.lacks.ensures befallen hs known so))
