use Rattle.schedule_checker.proofs.{AtPlace.{if_past, if_there}, Elements.ComesBehindThis}
use Rattle.schedule_checker.proofs.ports.is_behind.Goals as goal

pub returns-in-Some : goal.returns-in-Some
returns-in-Some c =
    let found = c.in-Some.ensures.lookup in
    if_there (ComesBehindThis c.args.network.now c.args.entry.now) c.args.entries.now c.args.at c.in-Some.entering.now c.comes_behind.result found.0 found.1
    c.comes_behind.ensures

pub returns-in-None : goal.returns-in-None
returns-in-None c = if_past (ComesBehindThis c.args.network.now c.args.entry.now) c.args.entries.now c.args.at c.in-None.ensures.lookup.0
