use Rattle.std.proofs.Common.{refl}
use Rattle.lens_why.proofs.Permanents.{collected_is}
use Rattle.run_law.specs.records.Happenings.{happenings}
use Rattle.tte_audit.specs.Report.{events_of}
use Rattle.lens_why.proofs.collecting.collected.Goals as goal

pub returns : goal.returns
returns c ns end h of there =
    let network = c.args.network.now in
    let carried = c.carried-carried.ensures network (events_of ns) (happenings network ns) h (c.requires.read.index ns end of) there.there in
    collected_is network (happenings network ns) c.args.device h c.carried-carried.result _ c.collection_before-last.result carried
    refl (c.collection_before-last.ensures ns end h of there)
