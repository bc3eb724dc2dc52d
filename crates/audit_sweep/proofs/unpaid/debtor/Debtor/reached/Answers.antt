use Rattle.{audit_sweep.proofs.unpaid_lemmas.Words.{◌∙◌, ◌≡◌, ap, arith, both_ways, is_broken, scenario_of, subst, sym}, drift_clock.specs.Reach.IsReach}
use Rattle.std.proofs.{Common.{◌≤ℤ◌, pos, rules, ℤ}, lemmas.Int.{ints, to_z-of_z}}
use Rattle.drift_clock.{proofs.Drifts.one_reach, specs.transparent.Points.point_of}
use Rattle.std.specs.Int.{w128}
use Rattle.audit_sweep.proofs.unpaid.debtor.Debtor.reached.Goals as goal

pub returns-else-is_broken : goal.returns-else-is_broken
returns-else-is_broken c befallen rem has =
    let s = scenario_of c.args.self.now befallen in
    let network = c.args.self.now.network.now in
    let w = c.args.waiting.now in
    let first = c.in-Some.ensures network befallen rem has in
    let reading : c.reading-reading.result ≡ s.reading w.device w.since = c.reading-reading.ensures network befallen rem has in
    let point = to_z-of_z w128 c.point_of-point.result (search rules) ∙ c.point_of-point.ensures
    ∙ ap (λ r. point_of (pos r) w.clock network.dmax.0) reading in
    let reached = subst (λ v. IsReach (s.reading w.device) (pos w.since) v (pos c.in-Some.time)) point first.0 in
    (record { reached = reached; correct = sym (c.is_broken.ensures network befallen rem has) ∙ c.if-is_broken.false }, first.1)

pub returns-then-is_broken : goal.returns-then-is_broken
returns-then-is_broken c befallen rem has t is timely =
    let s = scenario_of c.args.self.now befallen in
    let network = c.args.self.now.network.now in
    let w = c.args.waiting.now in
    let first = c.in-Some.ensures network befallen rem has in
    let reading : c.reading-reading.result ≡ s.reading w.device w.since = c.reading-reading.ensures network befallen rem has in
    let point = to_z-of_z w128 c.point_of-point.result (search rules) ∙ c.point_of-point.ensures
    ∙ ap (λ r. point_of (pos r) w.clock network.dmax.0) reading in
    let value = point_of (pos (s.reading w.device w.since)) w.clock network.dmax.0 in
    let reached = subst (λ v. IsReach (s.reading w.device) (pos w.since) v (pos c.in-Some.time)) point first.0 in
    let same : t ≡ c.in-Some.time = one_reach (s.reading w.device) (pos w.since) value t c.in-Some.time is.reached reached in
    both_ways (is_broken s w.device t) is.correct
    (ap (is_broken s w.device) same ∙ sym (c.is_broken.ensures network befallen rem has) ∙ c.if-is_broken.true)

pub returns-in-None : goal.returns-in-None
returns-in-None c befallen rem has t is timely =
    let s = scenario_of c.args.self.now befallen in
    let network = c.args.self.now.network.now in
    let w = c.args.waiting.now in
    let reading : c.reading-reading.result ≡ s.reading w.device w.since = c.reading-reading.ensures network befallen rem has in
    let point = to_z-of_z w128 c.point_of-point.result (search rules) ∙ c.point_of-point.ensures
    ∙ ap (λ r. point_of (pos r) w.clock network.dmax.0) reading in
    let begun : pos w.since ≤ℤ pos t = is.reached.from_on in
    let high : point_of (pos (s.reading w.device w.since)) w.clock network.dmax.0 ≤ℤ pos (s.reading w.device t) = is.reached.reached in
    let less = c.in-None.ensures network befallen rem has t (omega (arith, ints, begun)) timely in
    omega (arith, ints, less, high, point)
