use Rattle.{schedule_checker.proofs.AtPlace.{if_past, if_there}, schedule_tables.specs.Entries.target_of}
use Rattle.{schedule_checker.specs.Routes.{EntersAlike, TargetIsAlike}, std.{proofs.Common.{◌≢◌, rules, tests}, specs.Bool.Decides}}
use Rattle.schedule_checker.proofs.both_channels.Kin.is_target_alike.Goals as goal

pub returns-then-ne : goal.returns-then-ne
returns-then-ne c =
    let kin = c.args.self.now in
    let e = c.in-Some.entry.now in
    let found = c.in-Some.ensures.lookup in
    let other : e.row.vl ≢ kin.vl = search (rules, tests) in
    if_there (TargetIsAlike kin.network.now kin.vl) kin.entries.now c.args.at e c.ne.result found.0 found.1
    (λ yes same. absurd (other same), λ alike. c.if-ne.true)

pub returns-else-ne : goal.returns-else-ne
returns-else-ne c =
    let kin = c.args.self.now in
    let n = kin.network.now in
    let e = c.in-Some.entry.now in
    let found = c.in-Some.ensures.lookup in
    let decides : Decides c.enters_alike.result (EntersAlike n kin.vl (target_of e)) =
    rw c.target.ensures at c.enters_alike.ensures in
    if_there (TargetIsAlike n kin.vl) kin.entries.now c.args.at e c.enters_alike.result found.0 found.1
    (λ yes is. decides.0 yes, λ alike. decides.1 (alike (search (rules, tests))))

pub returns-in-None : goal.returns-in-None
returns-in-None c =
    let kin = c.args.self.now in
    if_past (TargetIsAlike kin.network.now kin.vl) kin.entries.now c.args.at c.in-None.ensures.lookup.0
