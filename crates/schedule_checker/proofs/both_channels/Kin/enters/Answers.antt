use Rattle.std.{proofs.{Common.{rules, tests, ℕ}, lemmas.Iterator.{YieldsList-from_slice, cases_from_any}}, specs.Prelude.{IsSomeAnd, slice_get}}
use Rattle.schedule_checker.proofs.Elements.{any_decides, enters_on, some_there}
use Rattle.schedule_checker.{specs.Routes.IsEntering}
use Rattle.schedule_checker.proofs.both_channels.Kin.enters.Goals as goal

pub returns : goal.returns
returns c =
    let kin = c.args.self.now in
    let es = kin.entries.now in
    let places = kin.places.now in
    let P = IsEntering kin.network.now kin.vl c.args.channel c.args.device in
    let At : ℕ → Type 0 = λ k. IsSomeAnd (slice_get es k) P in
    let run = cases_from_any _ _ c.any.result At (λ k. ¬ At k) c.any.ensures.ran (YieldsList-from_slice places cc)
    (λ x q k. search (rules, tests))
    (λ x q k. search (rules, tests)) in
    enters_on kin.vl c.args.channel c.args.device c.any.result c.requires.entries c.entries_law.ensures.one
    (some_there P es places c.any.result (λ k e at is. c.requires.places.all k e at is.0) (any_decides At c.any.result places run))
