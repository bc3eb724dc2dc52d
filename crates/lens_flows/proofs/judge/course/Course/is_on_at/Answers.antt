use Rattle.std.proofs.lemmas.Bool.{false≢true}
use Rattle.lens_flows.{proofs.judge_lemmas.Judging.shown_state, specs.judge.Courses.scenario_of}
use Rattle.run_law.specs.device.States.{is_off}
use Rattle.std.proofs.Common.{◌∙◌, ◌≡◌, ap, arith, false, refl, rules, sym}
use Rattle.sync_state.specs.declared.state.State.{State, TheVariants.Off}
use Rattle.lens_flows.proofs.judge.course.Course.is_on_at.Goals as goal

not_off : (state : State) → (state ≡ Off → ⊥) → is_off state ≡ false
not_off Off other = absurd (other refl)
not_off state other = refl

pub before_time-shown-requires : goal.before_time-shown-requires
before_time-shown-requires c =
    let there = c.requires.device in
    let all = c.requires.fit.standing in
    omega (arith, there, all)

pub returns-then-eq : goal.returns-then-eq
returns-then-eq c befallen hs known =
    let s = scenario_of c.args.self.now befallen in
    let shown = shown_state hs c.args.time (c.before_time-shown.ensures s hs known.stands) in
    let same : c.before_time-shown.result.now.state ≡ Off = search rules in
    (λ e. absurd (false≢true e), λ on. absurd (false≢true (sym on ∙ ap is_off (sym shown ∙ same))))

pub returns : goal.returns
returns c befallen hs known =
    let s = scenario_of c.args.self.now befallen in
    let shown = shown_state hs c.args.time (c.before_time-shown.ensures s hs known.stands) in
    let other : c.before_time-shown.result.now.state ≡ Off → ⊥ = λ same. search rules in
    (λ e. ap is_off (sym shown) ∙ not_off c.before_time-shown.result.now.state other, λ on. refl)
