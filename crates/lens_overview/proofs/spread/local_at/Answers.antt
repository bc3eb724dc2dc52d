use Rattle.{audit_law.specs.events.Readings.scenario_under, lens_overview.proofs.Standing.{local_in_step, local_other, shows_up_to}}
use Rattle.run_law.specs.{device.States.adjustment_after, records.Happenings.up_to}
use Rattle.std.{proofs.{Common.{◌+ℤ◌, ◌∙◌, ◌≡◌, Some, ap, pos, rules, sym, ℤ}, lemmas.Int.to_z-of_z}, specs.Int.w128}
use Rattle.sync_state.specs.declared.state.State.TheVariants.{Synchronised}
use Rattle.lens_overview.proofs.spread.local_at.Goals as goal

pub returns-then-ne-clause-is : goal.returns-then-ne-clause-is
returns-then-ne-clause-is c befallen hs k =
    let s = scenario_under c.args.network.now befallen in
    let shows = shows_up_to hs c.args.time (c.before_time-shown.ensures s hs k.standings) in
    let correct = sym (c.is_broken.ensures c.args.network.now befallen k.events c.requires.there) ∙ c.if-is_broken.false in
    let other : c.before_time-shown.result.now.state ≡ Synchronised → ⊥ = λ same. search rules in
    sym (local_other s hs c.args.time c.args.device correct (λ is. other (shows.state ∙ is)))

pub returns-clause-is : goal.returns-clause-is
returns-clause-is c befallen hs k =
    let s = scenario_under c.args.network.now befallen in
    let shows = shows_up_to hs c.args.time (c.before_time-shown.ensures s hs k.standings) in
    let correct = sym (c.is_broken.ensures c.args.network.now befallen k.events c.requires.there) ∙ c.if-is_broken.false in
    let state : c.before_time-shown.result.now.state ≡ Synchronised = search rules in
    let read = c.reading.ensures c.args.network.now befallen k.events c.requires.there in
    let value =
    to_z-of_z w128 c.clock_of.result (search rules) ∙ c.clock_of.ensures.value
    ∙ ap (λ z. pos c.reading.result +ℤ z)
    (to_z-of_z w128 c.adjustment.result (search rules) ∙ c.adjustment.ensures.value ∙ shows.adjustment)
    ∙ ap (λ n. pos n +ℤ (adjustment_after s (up_to c.args.time hs) c.args.device).0) read in
    ap (λ (z : ℤ). Some z) value ∙ sym (local_in_step s hs c.args.time c.args.device correct (sym shows.state ∙ state))
