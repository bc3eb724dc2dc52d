use Rattle.std.proofs.{Common.{◌++◌, ◌∙◌, ◌∷◌, ◌≡◌, [], ap, arith, subst, sym, take, ℕ}, Math.Seq.take-length, lemmas.List.take_more}
use Rattle.lens_flows.{proofs.counts_lemmas.Telling.{none_told, told_more}}
use Rattle.lens_flows.{specs.{declared.judge.flow.Flow.Flow, judge.Courses.scenario_of}}
use Rattle.lens_flows.specs.counts.Told.{AreToldOf}
use Rattle.lens_flows.proofs.counts.told.tell_all.Goals as goal

pub flows-init : goal.flows-init
flows-init c befallen hs known = none_told (scenario_of c.args.course.now befallen) hs c.args.course.now.until c.args.deliveries.now _ c.new-told.ensures.items

pub flows-preserved : goal.flows-preserved
flows-preserved c befallen hs known =
    let s = scenario_of c.args.course.now befallen in
    let n = c.flows.flow-index in
    let all = c.args.flows.now in
    let grown = told_more c.push.new.self.items
    c.in_ok-push.ensures.items (c.flows.invariant befallen hs known) (c.tell.ensures.told befallen hs known) in
    subst (λ fs. AreToldOf s hs c.args.course.now.until c.args.deliveries.now fs c.push.new.self.items)
    (ap (λ (f : Flow). take n all ++ f ∷ []) (c.tell.ensures.flow ∙ c.flow-item.is) ∙ sym (take_more all n _ c.flows-test.true)) grown

pub returns : goal.returns
returns c befallen hs known =
    let s = scenario_of c.args.course.now befallen in
    let all = c.args.flows.now in
    let whole : take c.flows.flow-index all ≡ all =
    ap (λ (i : ℕ). take i all) (omega (arith, c.flows-test.false, c.flows.auto.flow-index-end)) ∙ take-length all in
    subst (λ fs. AreToldOf s hs c.args.course.now.until c.args.deliveries.now fs c.flows.told.items) whole (c.flows.invariant befallen hs known)
