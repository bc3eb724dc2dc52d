use Rattle.std.proofs.Common.{◌∙◌, sym}
use Rattle.lens_why.proofs.Grounded.{unknown_none, unknown_some}
use Rattle.run_law.specs.records.Happenings.{numbered}
use Rattle.lens_why.proofs.dropping.unknown.Goals as goal

pub returns-in-Some : goal.returns-in-Some
returns-in-Some c befallen hs k =
    let network = c.args.network.now in
    unknown_some network (numbered hs c.args.number) c.in-Some.heading (sym (c.heading.ensures network befallen hs k) ∙ c.in-Some.is)

pub returns-in-None : goal.returns-in-None
returns-in-None c befallen hs k =
    let network = c.args.network.now in
    unknown_none network (numbered hs c.args.number) (sym (c.heading.ensures network befallen hs k) ∙ c.in-None.is)
