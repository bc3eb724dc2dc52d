use Rattle.audit_devices.specs.clocks.Finding.{IsNextOrNone}
use Rattle.lens_flows.proofs.judge_lemmas.Judging.{first_reached, never_reached, passed}
use Rattle.std.proofs.Common.{◌*◌, ◌+◌, arith, pos, rules, subst}
use Rattle.{lens_flows.specs.judge.Courses.scenario_of, std.specs.Prelude.{None, Some}, tte_units.specs.Amount.amount}
use Rattle.lens_flows.proofs.judge.course.Course.first_within.Goals as goal

pub next_crossing-requires-clause-some : goal.next_crossing-requires-clause-some
next_crossing-requires-clause-some c =
    let known = c.requires.known in
    (c.args.self.now.network.now, known.0, known.2.remembers)

pub returns-then-crossed-eq0 : goal.returns-then-crossed-eq0
returns-then-crossed-eq0 c befallen hs known shows =
    let network = c.args.self.now.network.now in
    let s = scenario_of c.args.self.now befallen in
    let r = known.remembers in
    let on = c.reading_law.ensures network befallen c.args.device r.range r.within r.begun in
    let next = subst (λ v. IsNextOrNone (s.reading c.args.device) c.args.shown.now v c.args.after c.args.until (Some c.in-Some.crossed))
    c.values_from-series.ensures.values (c.in-Some.ensures.is network befallen r c.requires.device) in
    first_reached s hs c.args.device (pos (c.args.cycle * amount network.cycle + c.args.place)) c.args.shown.now
    c.args.after c.args.until on
    shows next (search rules)

pub returns-else-crossed-eq0 : goal.returns-else-crossed-eq0
returns-else-crossed-eq0 c befallen hs known shows =
    let network = c.args.self.now.network.now in
    let s = scenario_of c.args.self.now befallen in
    let next = subst (λ v. IsNextOrNone (s.reading c.args.device) c.args.shown.now v c.args.after c.args.until (Some c.in-Some.crossed))
    c.values_from-series.ensures.values (c.in-Some.ensures.is network befallen known.remembers c.requires.device) in
    passed s hs c.args.device (pos (c.args.cycle * amount network.cycle + c.args.place)) c.args.shown.now
    c.args.after c.args.until shows
    next (λ e. search rules)

pub returns-in-None : goal.returns-in-None
returns-in-None c befallen hs known shows =
    let network = c.args.self.now.network.now in
    let s = scenario_of c.args.self.now befallen in
    let next = subst (λ v. IsNextOrNone (s.reading c.args.device) c.args.shown.now v c.args.after c.args.until None)
    c.values_from-series.ensures.values (c.in-None.ensures.is network befallen known.remembers c.requires.device) in
    never_reached s hs c.args.device (pos (c.args.cycle * amount network.cycle + c.args.place)) c.args.shown.now c.args.after c.args.until
    (c.args.until + 1) shows (omega arith) next
