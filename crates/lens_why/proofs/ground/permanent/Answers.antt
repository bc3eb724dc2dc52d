use Rattle.std.proofs.Common.{◌∙◌, sym}
use Rattle.lens_why.proofs.Grounded.{index_there, permanent_collected, permanent_scheduled, permanent_untold}
use Rattle.run_law.specs.records.Happenings.{happenings}
use Rattle.tte_audit.specs.Report.{events_of, scenario_of}
use Rattle.lens_why.proofs.ground.permanent.Goals as goal

pub scheduled-requires-clause-index : goal.scheduled-requires-clause-index
scheduled-requires-clause-index c = index_there c.requires.read

pub returns-then-is_by_schedule : goal.returns-then-is_by_schedule
returns-then-is_by_schedule c ns end h of there p =
    let network = c.args.network.now in
    let s = scenario_of network ns in
    let hs = happenings network ns in
    c.scheduled.ensures (events_of ns) hs h c.args.verdict (c.requires.read.index ns end of) there.there p
    ∙ permanent_scheduled s hs c.args.frame.device c.args.frame.point c.args.verdict h (sym c.is_by_schedule.ensures ∙ c.if-is_by_schedule.true)

pub returns-then-is_collected : goal.returns-then-is_collected
returns-then-is_collected c ns end h of there p =
    let network = c.args.network.now in
    let s = scenario_of network ns in
    let hs = happenings network ns in
    c.collected.ensures ns end h of there
    ∙ permanent_collected s hs c.args.frame.device c.args.frame.point c.args.verdict h (sym c.is_by_schedule.ensures ∙ c.if-is_by_schedule.false)
    (sym c.is_collected.ensures ∙ c.if-is_collected.true)

pub returns : goal.returns
returns c ns end h of there p =
    let network = c.args.network.now in
    permanent_untold (scenario_of network ns) (happenings network ns) c.args.frame.device c.args.frame.point c.args.verdict h
    (sym c.is_by_schedule.ensures ∙ c.if-is_by_schedule.false) (sym c.is_collected.ensures ∙ c.if-is_collected.false)
