use Rattle.std.{proofs.{Common.{rules, sym, tests, ℕ}, lemmas.Iterator.{YieldsList-from_slice, cases_from_all}}, specs.Prelude.{IfSome, slice_get}}
use Rattle.schedule_checker.proofs.Elements.{ComesBehindThis, all_decides, all_there}
use Rattle.schedule_checker.proofs.ports.comes_behind_all.Goals as goal

pub returns : goal.returns
returns c =
    let es = c.args.entries.now in
    let places = c.args.kin.now in
    let P = ComesBehindThis c.args.network.now c.args.entry.now in
    let At : ℕ → Type 0 = λ k. IfSome (slice_get es k) P in
    let run = cases_from_all _ _ c.all.result At (λ k. ¬ At k) c.all.ensures.ran (YieldsList-from_slice places cc)
    (λ x q k. search (rules, tests))
    (λ x q k. search (rules, tests)) in
    all_there P es places c.all.result (λ k x at is. record { behind = λ same. (is (c.requires.kin.all k x at (sym same))).behind same })
    (all_decides At c.all.result places run)
