use Rattle.std.proofs.Common.{◌∙◌, ap, sym}
use Rattle.lens_why.proofs.Grounded.{index_there}
use Rattle.tte_units.specs.Amount.{amount}
use Rattle.{lens_why.specs.Grounds.{beside_ground, dropped_ground, entry_given, gate_ground}, run_law.specs.device.Standpoints.{clock_of, standpoint}}
use Rattle.{run_law.specs.records.Happenings.{happenings, numbered}, tte_audit.specs.Report.{events_of, scenario_of}}
use Rattle.lens_why.proofs.dropping.dropped.Goals as goal

pub beside-requires-clause-index : goal.beside-requires-clause-index
beside-requires-clause-index c = index_there c.requires.read

pub beside-requires-in-Late-clause-index : goal.beside-requires-in-Late-clause-index
beside-requires-in-Late-clause-index c = index_there c.requires.read

pub shut-requires-clause-index : goal.shut-requires-clause-index
shut-requires-clause-index c = index_there c.requires.read

pub returns-in-Early : goal.returns-in-Early
returns-in-Early c ns end h of there at =
    let network = c.args.network.now in
    let s = scenario_of network ns in
    let hs = happenings network ns in
    let p = c.args.passage in
    c.beside.ensures (events_of ns) hs (c.requires.read.index ns end of)
    ∙ ap (λ u. beside_ground s hs p.device (amount u) (entry_given network p.device p.link (numbered hs p.cause))) (sym at)
    ∙ ap (λ r. dropped_ground s hs h p.device p.link p.cause (numbered hs p.cause) r) (sym c.in-Early.is)

pub returns-in-Late : goal.returns-in-Late
returns-in-Late c ns end h of there at =
    let network = c.args.network.now in
    let s = scenario_of network ns in
    let hs = happenings network ns in
    let p = c.args.passage in
    c.beside-in-Late.ensures (events_of ns) hs (c.requires.read.index ns end of)
    ∙ ap (λ u. beside_ground s hs p.device (amount u) (entry_given network p.device p.link (numbered hs p.cause))) (sym at)
    ∙ ap (λ r. dropped_ground s hs h p.device p.link p.cause (numbered hs p.cause) r) (sym c.in-Late.is)

pub returns-in-Repeat : goal.returns-in-Repeat
returns-in-Repeat c ns end h of there at =
    let network = c.args.network.now in
    let s = scenario_of network ns in
    let hs = happenings network ns in
    let p = c.args.passage in
    c.repeated.ensures ns end h of there at
    ∙ ap (λ r. dropped_ground s hs h p.device p.link p.cause (numbered hs p.cause) r) (sym c.in-Repeat.is)

pub returns-in-Length : goal.returns-in-Length
returns-in-Length c ns end h of there at =
    let network = c.args.network.now in
    let s = scenario_of network ns in
    let hs = happenings network ns in
    let p = c.args.passage in
    c.of_length.ensures (events_of ns) hs (c.requires.read.index ns end of)
    ∙ ap (λ r. dropped_ground s hs h p.device p.link p.cause (numbered hs p.cause) r) (sym c.in-Length.is)

pub returns-in-Unknown : goal.returns-in-Unknown
returns-in-Unknown c ns end h of there at =
    let network = c.args.network.now in
    let s = scenario_of network ns in
    let hs = happenings network ns in
    let p = c.args.passage in
    c.unknown.ensures (events_of ns) hs (c.requires.read.index ns end of)
    ∙ ap (λ r. dropped_ground s hs h p.device p.link p.cause (numbered hs p.cause) r) (sym c.in-Unknown.is)

pub returns-in-Unsynchronised : goal.returns-in-Unsynchronised
returns-in-Unsynchronised c ns end h of there at =
    let network = c.args.network.now in
    let s = scenario_of network ns in
    let hs = happenings network ns in
    let p = c.args.passage in
    c.unsynchronised.ensures ns end h of there at
    ∙ ap (λ r. dropped_ground s hs h p.device p.link p.cause (numbered hs p.cause) r) (sym c.in-Unsynchronised.is)

pub returns-in-Gate : goal.returns-in-Gate
returns-in-Gate c ns end h of there at =
    let network = c.args.network.now in
    let s = scenario_of network ns in
    let hs = happenings network ns in
    let p = c.args.passage in
    c.shut.ensures (events_of ns) hs (c.requires.read.index ns end of)
    ∙ ap (λ u. gate_ground network p.device (clock_of (standpoint s hs p.device (amount u)))) (sym at)
    ∙ ap (λ r. dropped_ground s hs h p.device p.link p.cause (numbered hs p.cause) r) (sym c.in-Gate.is)
