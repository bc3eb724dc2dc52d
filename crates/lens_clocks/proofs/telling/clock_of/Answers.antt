use Rattle.audit_law.specs.events.Readings.{scenario_under}
use Rattle.lens_clocks.proofs.InStep.{told_adjustment, told_not, told_own, told_state}
use Rattle.run_law.specs.{device.States.adjustment_after, records.Happenings.up_to}
use Rattle.std.{proofs.{Common.{◌+ℤ◌, ◌∙◌, ◌≡◌, ap, pos, rules, sym, ℤ}, lemmas.Int.to_z-of_z}, specs.Int.w128}
use Rattle.sync_state.specs.declared.state.State.TheVariants.{Synchronised}
use Rattle.lens_clocks.proofs.telling.clock_of.Goals as goal

pub returns-then-ne-clause-is : goal.returns-then-ne-clause-is
returns-then-ne-clause-is c befallen hs known =
    let s = scenario_under c.args.network.now befallen in
    let correct = sym (c.is_broken.ensures c.args.network.now befallen known.events c.requires.there) ∙ c.if-is_broken.false in
    let state = told_state hs c.args.time (c.before_time-shown.ensures s hs known.standings) in
    let other : c.before_time-shown.result.now.state ≡ Synchronised → ⊥ = λ same. search rules in
    told_not s hs c.args.time c.args.device correct (λ is. other (state ∙ is))

pub returns-clause-is : goal.returns-clause-is
returns-clause-is c befallen hs known =
    let s = scenario_under c.args.network.now befallen in
    let correct = sym (c.is_broken.ensures c.args.network.now befallen known.events c.requires.there) ∙ c.if-is_broken.false in
    let shows = c.before_time-shown.ensures s hs known.standings in
    let state = told_state hs c.args.time shows in
    let synchronised : c.before_time-shown.result.now.state ≡ Synchronised = search rules in
    let read = c.reading-reading.ensures c.args.network.now befallen known.events c.requires.there in
    told_own s hs c.args.time c.args.device _ correct (sym state ∙ synchronised)
    (to_z-of_z w128 c.local_of-local.result (search rules) ∙ c.local_of-local.ensures.value
    ∙ ap (λ z. pos c.reading-reading.result +ℤ z) (told_adjustment hs c.args.time shows)
    ∙ ap (λ n. pos n +ℤ (adjustment_after s (up_to c.args.time hs) c.args.device).0) read)
