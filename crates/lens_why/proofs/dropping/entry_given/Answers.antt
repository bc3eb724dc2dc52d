use Rattle.std.proofs.Common.{◌∙◌, sym}
use Rattle.lens_why.proofs.Grounded.{heading_none, heading_some}
use Rattle.run_law.specs.records.Happenings.{numbered}
use Rattle.lens_why.proofs.dropping.entry_given.Goals as goal

pub returns-in-Some-clause-is : goal.returns-in-Some-clause-is
returns-in-Some-clause-is c befallen hs k =
    let network = c.args.network.now in
    let p = c.args.passage in
    c.entry_entering.ensures.is
    ∙ heading_some network p.device p.link (numbered hs p.cause) c.in-Some.heading (sym (c.heading.ensures network befallen hs k) ∙ c.in-Some.is)

pub returns-in-None-clause-is : goal.returns-in-None-clause-is
returns-in-None-clause-is c befallen hs k =
    let network = c.args.network.now in
    let p = c.args.passage in
    heading_none network p.device p.link (numbered hs p.cause) (sym (c.heading.ensures network befallen hs k) ∙ c.in-None.is)
