use Rattle.std.proofs.lemmas.Bool.{false≢true}
use Rattle.lens_flows.{proofs.judge_lemmas.Judging.shown_state, specs.judge.Courses.scenario_of}
use Rattle.{std.proofs.Common.{◌∙◌, ◌≡◌, arith, refl, rules, sym}, sync_state.specs.declared.state.State.TheVariants.Synchronised}
use Rattle.lens_flows.proofs.judge.course.Course.is_synchronised_at.Goals as goal

pub before_time-shown-requires : goal.before_time-shown-requires
before_time-shown-requires c =
    let there = c.requires.device in
    let all = c.requires.fit.standing in
    omega (arith, there, all)

pub returns-then-ne : goal.returns-then-ne
returns-then-ne c befallen hs known =
    let s = scenario_of c.args.self.now befallen in
    let shown = shown_state hs c.args.time (c.before_time-shown.ensures s hs known.stands) in
    let other : c.before_time-shown.result.now.state ≡ Synchronised → ⊥ = λ same. search rules in
    (λ e. absurd (false≢true e), λ is. absurd (other (shown ∙ is)))

pub returns : goal.returns
returns c befallen hs known =
    let s = scenario_of c.args.self.now befallen in
    let shown = shown_state hs c.args.time (c.before_time-shown.ensures s hs known.stands) in
    let state : c.before_time-shown.result.now.state ≡ Synchronised = search rules in
    (λ e. sym shown ∙ state, λ is. refl)
