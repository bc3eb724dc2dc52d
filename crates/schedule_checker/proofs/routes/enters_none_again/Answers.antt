use Rattle.std.{proofs.{Common.{◌<◌, rules, sym, tests, ℕ}, lemmas.Iterator.{YieldsList-from_slice, cases_from_all}}, specs.Prelude.{IfSome, slice_get}}
use Rattle.schedule_checker.proofs.Elements.{EntersNoneAgain, all_before, all_decides}
use Rattle.schedule_checker.proofs.routes.enters_none_again.Goals as goal

pub returns : goal.returns
returns c =
    let es = c.args.entries.now in
    let places = c.args.kin.now in
    let P = EntersNoneAgain c.args.network.now c.args.entry.now in
    let At : ℕ → Type 0 = λ k. k < c.args.place → IfSome (slice_get es k) P in
    let run = cases_from_all _ _ c.all.result At (λ k. ¬ At k) c.all.ensures.ran (YieldsList-from_slice places cc)
    (λ x q k. search (rules, tests))
    (λ x q k. search (rules, tests)) in
    all_before P es places c.args.place c.all.result (λ k x at is again. is (c.requires.kin.all k x at (sym again.same_vl)) again)
    (all_decides At c.all.result places run)
