use Rattle.std.proofs.{Common.{◌+◌, ◌∙◌, ◌≡◌, arith, refl, rules, sym}, lemmas.Bool.false≢true}
use Rattle.lens_flows.{proofs.judge_lemmas.Judging.{in_step, shown_state, stays_on}, specs.judge.Courses.scenario_of}
use Rattle.sync_state.specs.declared.state.State.TheVariants.{Synchronised}
use Rattle.lens_flows.proofs.judge.course.Course.stays_in_step.Goals as goal

pub returns-then-has_come : goal.returns-then-has_come
returns-then-has_come c befallen hs known =
    let broken = c.broken_from.ensures c.args.self.now.network.now befallen known.remembers c.requires.device c.args.to in (
      λ e. absurd (false≢true e),
      λ stays. absurd (false≢true (sym (stays c.args.to c.requires.in_order (omega arith)).correct ∙ broken ∙ sym c.has_come.ensures ∙ c.if-has_come.true)),
    )

pub after_time-end-requires-clause-device : goal.after_time-end-requires-clause-device
after_time-end-requires-clause-device c =
    let there = c.requires.device in
    let all = c.requires.fit.standing in
    omega (arith, there, all)

pub returns-then-ne : goal.returns-then-ne
returns-then-ne c befallen hs known =
    let s = scenario_of c.args.self.now befallen in
    let after = c.stretches.after in
    let le = c.stretches-test.true in
    let ge = c.stretches.invariant.0 in
    let later = c.after_time-end.ensures.later s hs known.stands in
    let shown = c.after_time-end.ensures.shows s hs known.stands (after + 1) (omega arith) (omega (arith, later)) in
    let other : c.after_time-end.result.0.now.state ≡ Synchronised → ⊥ = λ same. search rules in (
      λ e. absurd (false≢true e),
      λ stays. absurd (other (shown_state hs after shown ∙ (stays after ge le).synchronised)),
    )

pub stretches-init : goal.stretches-init
stretches-init c =
    let le = c.requires.in_order in
    (omega arith, omega (arith, le), λ befallen hs known t ge lt. absurd (omega (arith, ge, lt)))

pub stretches-smaller : goal.stretches-smaller
stretches-smaller c =
    let known = c.requires.known in
    let le = c.stretches-test.true in
    let later = c.after_time-end.ensures.later (scenario_of c.args.self.now known.0) known.1 known.2.stands in
    omega (arith, le, later)

pub stretches-preserved : goal.stretches-preserved
stretches-preserved c =
    let known = c.requires.known in
    let ge = c.stretches.invariant.0 in
    let end = c.after_time-end.result.1 in
    let later = c.after_time-end.ensures.later (scenario_of c.args.self.now known.0) known.1 known.2.stands in (
      omega (arith, ge, later),
      c.after_time-end.ensures.near,
      λ befallen hs known.
          let s = scenario_of c.args.self.now befallen in
          stays_on s hs c.args.device c.args.from c.stretches.after end c.after_time-end.result.0.now (c.stretches.invariant.2 befallen hs known)
          (c.after_time-end.ensures.shows s hs known.stands) (search rules),
    )

pub returns : goal.returns
returns c befallen hs known =
    let s = scenario_of c.args.self.now befallen in
    let all = c.stretches-test.false in (
      λ e. in_step s hs c.args.device c.args.from c.args.to c.stretches.after c.broken_from.result
          (λ t. c.broken_from.ensures c.args.self.now.network.now befallen known.remembers c.requires.device t)
          (sym c.has_come.ensures ∙ c.if-has_come.false) (omega (arith, all)) (c.stretches.invariant.2 befallen hs known),
      λ stays. refl,
    )
