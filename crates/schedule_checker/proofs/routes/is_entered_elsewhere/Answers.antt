use Rattle.std.{proofs.{Common.{◌≢◌, rules, tests, ℕ}, lemmas.Iterator.{YieldsList-from_slice, cases_from_any}}, specs.Prelude.{IsSomeAnd, slice_get}}
use Rattle.schedule_checker.proofs.Elements.{any_decides, entered_elsewhere, some_by}
use Rattle.schedule_checker.{specs.Routes.EntersSource}
use Rattle.schedule_checker.proofs.routes.is_entered_elsewhere.Goals as goal

pub returns : goal.returns
returns c =
    let es = c.args.entries.now in
    let e = c.args.entry.now in
    let places = c.args.kin.now in
    let Other : ℕ → Type 0 = λ k. k ≢ c.args.place in
    let At : ℕ → Type 0 = λ k. Other k × IsSomeAnd (slice_get es k) (EntersSource e) in
    let run = cases_from_any _ _ c.any.result At (λ k. ¬ At k) c.any.ensures.ran (YieldsList-from_slice places cc)
    (λ x q k. search (rules, tests))
    (λ x q k. search (rules, tests)) in
    entered_elsewhere es c.args.place e c.any.result
    (some_by Other (EntersSource e) es places c.any.result (λ k x at is. c.requires.kin.all k x at is.0) (any_decides At c.any.result places run))
