use Rattle.{std.proofs.{Common.not, lemmas.Bool.Decides.Decides-not}}
use Rattle.schedule_checker.{proofs.AtPlace.{if_past, if_there}, specs.Routes.EntersAgain}
use Rattle.schedule_checker.proofs.routes.enters_other.Goals as goal

pub returns-in-Some : goal.returns-in-Some
returns-in-Some c =
    let again = c.enters_again.result in
    let found = c.in-Some.ensures.lookup in
    if_there (λ other. ¬ EntersAgain c.args.network.now other c.args.entry.now) c.args.entries.now c.args.at
    c.in-Some.other.now
    (not again) found.0 found.1 (Decides-not again c.enters_again.ensures)

pub returns-in-None : goal.returns-in-None
returns-in-None c = if_past (λ other. ¬ EntersAgain c.args.network.now other c.args.entry.now) c.args.entries.now
    c.args.at c.in-None.ensures.lookup.0
