use Rattle.std.proofs.lemmas.Bool.Decides.{Decides-like}
use Rattle.schedule_checker.proofs.Elements.{alike, alike_back}
use Rattle.std.{proofs.Common.rules, specs.Cmp.booleans_Decides}
use Rattle.schedule_checker.proofs.both_channels.Kin.enters_alike.Goals as goal

pub returns-else-not-is_end_system : goal.returns-else-not-is_end_system
returns-else-not-is_end_system c =
    let n = c.args.self.now.network.now in
    let vl = c.args.self.now.vl in
    let a = c.enters.result in
    let b = c.enters-else-not-is_end_system.result in
    Decides-like _ (alike n vl c.args.device a b c.enters.ensures c.enters-else-not-is_end_system.ensures)
    (alike_back a b c.enters.ensures
    c.enters-else-not-is_end_system.ensures (search rules)) (booleans_Decides a b)
