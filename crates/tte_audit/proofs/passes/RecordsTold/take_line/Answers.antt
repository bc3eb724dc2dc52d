use Rattle.tte_audit.proofs.passes.RecordsTold.take_line.Goals as goal

pub returns-in-Some : goal.returns-in-Some
returns-in-Some c =
    let read = c.in-Some.taken.read in (
      read,
      c.in-Some.ensures.next,
      λ notes told. c.pass.ensures c.args.network.now notes read told c.in-Some.ensures.quiet,
    )
