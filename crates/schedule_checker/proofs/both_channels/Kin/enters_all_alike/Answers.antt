use Rattle.std.{proofs.{Common.{rules, tests, ℕ}, lemmas.Iterator.{YieldsList-from_slice, cases_from_all}}, specs.Prelude.{IfSome, slice_get}}
use Rattle.schedule_checker.proofs.Elements.{all_decides, each_there, enters_all_alike}
use Rattle.schedule_checker.{specs.Routes.TargetIsAlike}
use Rattle.schedule_checker.proofs.both_channels.Kin.enters_all_alike.Goals as goal

pub returns : goal.returns
returns c =
    let kin = c.args.self.now in
    let es = kin.entries.now in
    let places = kin.places.now in
    let P = TargetIsAlike kin.network.now kin.vl in
    let At : ℕ → Type 0 = λ k. IfSome (slice_get es k) P in
    let run = cases_from_all _ _ c.all.result At (λ k. ¬ At k) c.all.ensures.ran (YieldsList-from_slice places cc)
    (λ x q k. search (rules, tests))
    (λ x q k. search (rules, tests)) in
    enters_all_alike kin.vl c.all.result c.requires.entries c.entries_law.ensures.one
    (each_there P es places c.all.result (λ k e at is same. is (c.requires.places.all k e at same) same) (all_decides At c.all.result places run))
