use Rattle.std.proofs.Common.{◌∙◌, sym}
use Rattle.device_rules.proofs.Takings.{entered, found_is, has_period, unknown}
use Rattle.device_rules.proofs.entrances.Entrances.entering.Goals as goal

pub returns-in-Some-row_at-clause-period : goal.returns-in-Some-row_at-clause-period
returns-in-Some-row_at-clause-period c =
    let found = found_is c.args.network.now c.args.self.now c.args.device c.args.link c.args.heading.now.id c.way_to.result c.row_at.result
    c.requires.entrances c.way_to.ensures c.row_at.ensures.up c.row_at.ensures.down in
    has_period c.args.network.now c.args.device c.args.link c.args.heading.now.id c.in-Some-row_at.row c.requires.range
    (sym found ∙ c.in-Some-row_at.is)

pub returns-in-Some-row_at-clause-is : goal.returns-in-Some-row_at-clause-is
returns-in-Some-row_at-clause-is c octets is =
    let found = found_is c.args.network.now c.args.self.now c.args.device c.args.link c.args.heading.now.id c.way_to.result c.row_at.result
    c.requires.entrances c.way_to.ensures c.row_at.ensures.up c.row_at.ensures.down in
    let none = c.in_default.is in
    entered c.args.network.now c.args.device c.args.link c.args.at.now octets c.args.heading.now c.in-Some-row_at.row is
    (rw (sym c.takes_part.ensures, sym c.state.ensures) (sym c.fault.ensures.is ∙ none)) (sym found ∙ c.in-Some-row_at.is)

pub returns-in-None-clause-is : goal.returns-in-None-clause-is
returns-in-None-clause-is c octets is =
    let found = found_is c.args.network.now c.args.self.now c.args.device c.args.link c.args.heading.now.id c.way_to.result c.row_at.result
    c.requires.entrances c.way_to.ensures c.row_at.ensures.up c.row_at.ensures.down in
    let none = c.in_default.is in
    unknown c.args.network.now c.args.device c.args.link c.args.at.now octets c.args.heading.now is
    (rw (sym c.takes_part.ensures, sym c.state.ensures) (sym c.fault.ensures.is ∙ none)) (sym found ∙ c.in-None.is)
