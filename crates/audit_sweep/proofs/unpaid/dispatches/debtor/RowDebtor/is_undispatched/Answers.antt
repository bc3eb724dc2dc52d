use Rattle.{audit_devices.specs.clocks.Moments.StandsAt, audit_sweep.specs.unpaid.dispatches.{Debtors.scenario_of, Frames.{AreTold, LacksOne}}}
use Rattle.audit_sweep.proofs.unpaid_lemmas.dispatches_lemmas.RowDebts.{device_there, row_fit, when_false, when_true}
use Rattle.std.proofs.{Common.{◌∙◌, refl, subst, sym}, lemmas.Bool.false≢true}
use Rattle.audit_sweep.proofs.unpaid.dispatches.debtor.RowDebtor.is_undispatched.Goals as goal

pub cycle_of-requires-clause-row : goal.cycle_of-requires-clause-row
cycle_of-requires-clause-row c = row_fit c.requires.fit.range c.requires.row

pub returns-then-is_up-clause-untold : goal.returns-then-is_up-clause-untold
returns-then-is_up-clause-untold c befallen hs known shows told =
    let network = c.args.self.now.network.now in
    let row = c.args.row.now in
    let t = c.args.crossed.time in
    let s = scenario_of c.args.self.now befallen in
    let there = device_there c.requires.fit.range c.requires.row in
    let stands : StandsAt s hs network row.device t c.of-moment.result c.args.shown.now =
    record { of_network = refl; befalls = c.of-moment.ensures network befallen known.remembers there; shows = shows } in (
      (c.is_up.ensures s hs network row.device t stands).0 c.if-is_up.true,
      subst (LacksOne s hs c.args.link row t) c.cycle_of.ensures
          (when_true c.lacks_one.result (LacksOne s hs c.args.link row t c.cycle_of.result) (AreTold s hs c.args.link row t c.cycle_of.result) told
          (c.lacks_one.ensures befallen hs known)),
    )

pub returns-then-is_up-clause-told : goal.returns-then-is_up-clause-told
returns-then-is_up-clause-told c befallen hs known shows told up =
    let s = scenario_of c.args.self.now befallen in
    let row = c.args.row.now in
    let t = c.args.crossed.time in
    subst (AreTold s hs c.args.link row t) c.cycle_of.ensures
    (when_false c.lacks_one.result (LacksOne s hs c.args.link row t c.cycle_of.result) (AreTold s hs c.args.link row t c.cycle_of.result) told
    (c.lacks_one.ensures befallen hs known))

pub returns-else-is_up-clause-told : goal.returns-else-is_up-clause-told
returns-else-is_up-clause-told c befallen hs known shows told up =
    let network = c.args.self.now.network.now in
    let row = c.args.row.now in
    let t = c.args.crossed.time in
    let s = scenario_of c.args.self.now befallen in
    let there = device_there c.requires.fit.range c.requires.row in
    let stands : StandsAt s hs network row.device t c.of-moment.result c.args.shown.now =
    record { of_network = refl; befalls = c.of-moment.ensures network befallen known.remembers there; shows = shows } in
    absurd (false≢true (sym c.if-is_up.false ∙ (c.is_up.ensures s hs network row.device t stands).1 up))
