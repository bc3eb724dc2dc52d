use Rattle.{audit_law.specs.law.Departures.leaves_at, run_law.specs.control.Leaving.{Departs, departure}}
use Rattle.audit_sweep.proofs.unpaid_lemmas.Debts.{departure_paid, giver_there, gives_named, owed_departs}
use Rattle.audit_sweep.proofs.unpaid_lemmas.Words.{arith, both_ways, numbered_in, scenario_of, subst, sym, time_of}
use Rattle.net_plan.specs.Belonging.{HasDevice}
use Rattle.audit_sweep.proofs.unpaid.debtor.Debtor.unpaid_leaving.Goals as goal

pub departure-requires-clause-limit : goal.departure-requires-clause-limit
departure-requires-clause-limit c = let within = c.in-Some.ensures.within in omega (arith, within, c.requires.limit)

pub returns-in-None : goal.returns-in-None
returns-in-None c befallen hs h known there kept owed =
    let s = scenario_of c.args.self.now befallen in
    let network = c.args.self.now.network.now in
    let until = c.args.self.now.until in
    let n = c.args.number in
    let link = c.args.link in
    let giver = giver_there s hs n h c.args.kept.now link there kept known.devices in
    absurd (c.in-None.ensures.leaves befallen hs h n known.remembers there kept giver owed)

pub returns-in-None-departure : goal.returns-in-None-departure
returns-in-None-departure c befallen hs h known there kept owed =
    let s = scenario_of c.args.self.now befallen in
    let network = c.args.self.now.network.now in
    let until = c.args.self.now.until in
    let n = c.args.number in
    let link = c.args.link in
    let giver = giver_there s hs n h c.args.kept.now link there kept known.devices in
    let leaving = c.in-Some.leaving in
    let l = c.in-Some.ensures.leaves befallen hs h n known.remembers there kept giver in
    let o = l.owed in
    let has = subst (HasDevice network) (sym l.device) (known.devices o.giving o.device (numbered_in hs n o.giving o.there)
    (gives_named network o.giving.note.body o.device link o.gives)) in
    let t = leaves_at s o.device link o.giving in
    let is = departure s o.device link o.frame (time_of o.giving) t in
    let departs = subst (λ d. Departs s hs d leaving.time link n is) (sym l.device)
    (subst (λ u. Departs s hs o.device u link n is) (sym l.time) (owed_departs s hs until n link o)) in
    absurd (c.in-None-departure.ensures befallen hs h n known.remembers there kept has is departs)

pub returns-then-has_departure : goal.returns-then-has_departure
returns-then-has_departure c befallen hs h known there kept owed =
    let s = scenario_of c.args.self.now befallen in
    let network = c.args.self.now.network.now in
    let until = c.args.self.now.until in
    let n = c.args.number in
    let link = c.args.link in
    let giver = giver_there s hs n h c.args.kept.now link there kept known.devices in
    let leaving = c.in-Some.leaving in
    let l = c.in-Some.ensures.leaves befallen hs h n known.remembers there kept giver in
    let o = l.owed in
    let has = subst (HasDevice network) (sym l.device) (known.devices o.giving o.device (numbered_in hs n o.giving o.there)
    (gives_named network o.giving.note.body o.device link o.gives)) in
    let departs = c.in-Some-departure.ensures befallen hs h n known.remembers there kept has in
    let paid = departure_paid s hs until n link known.founded o departs in
    let stands = c.has_departure.ensures hs known.places in
    paid.1 (stands.0 c.if-has_departure.true)

pub returns : goal.returns
returns c befallen hs h known there kept =
    let s = scenario_of c.args.self.now befallen in
    let network = c.args.self.now.network.now in
    let until = c.args.self.now.until in
    let n = c.args.number in
    let link = c.args.link in
    let giver = giver_there s hs n h c.args.kept.now link there kept known.devices in
    let leaving = c.in-Some.leaving in
    let l = c.in-Some.ensures.leaves befallen hs h n known.remembers there kept giver in
    let o = l.owed in
    let has = subst (HasDevice network) (sym l.device) (known.devices o.giving o.device (numbered_in hs n o.giving o.there)
    (gives_named network o.giving.note.body o.device link o.gives)) in
    let departs = c.in-Some-departure.ensures befallen hs h n known.remembers there kept has in
    let paid = departure_paid s hs until n link known.founded o departs in
    let stands = c.has_departure.ensures hs known.places in
    record {
      owed = o;
      unpaid = λ p. both_ways c.has_departure.result c.if-has_departure.false (stands.1 (paid.0 p));
      at = l.time;
    }
