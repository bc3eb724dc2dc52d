use Rattle.{lens_why.specs.Grounds.repeat_ground, std.proofs.Common.{◌∙◌, ap, sym}}
use Rattle.{run_law.specs.records.Happenings.happenings, tte_audit.specs.Report.{events_of, scenario_of}}
use Rattle.lens_why.proofs.dropping.repeated.Goals as goal

pub returns-in-Some : goal.returns-in-Some
returns-in-Some c ns end h of there at =
    let network = c.args.network.now in
    let hs = happenings network ns in
    let p = c.args.passage in
    c.taken.ensures ns end h of there at
    ∙ ap (λ o. repeat_ground (scenario_of network ns) hs h p.device p.link p.cause o)
    (sym c.in-Some.is ∙ c.entry_given.ensures.is (events_of ns) hs (c.requires.read.index ns end of))

pub returns-in-None : goal.returns-in-None
returns-in-None c ns end h of there at =
    let network = c.args.network.now in
    let hs = happenings network ns in
    let p = c.args.passage in
    ap (λ o. repeat_ground (scenario_of network ns) hs h p.device p.link p.cause o)
    (sym c.in-None.is ∙ c.entry_given.ensures.is (events_of ns) hs (c.requires.read.index ns end of))
