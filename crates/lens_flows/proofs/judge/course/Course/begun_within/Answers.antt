use Rattle.{audit_devices.specs.clocks.Finding.value_in, std.proofs.{Common.{◌+◌, ◌≤ℤ◌, arith, pos, refl, rules, subst, sym, ℤ}, lemmas.Int.ints}}
use Rattle.audit_sweep.proofs.unpaid_lemmas.points_lemmas.FirstUnpaid.{few_crossed}
use Rattle.lens_flows.proofs.judge_lemmas.Judging.{first_begun, none_begun}
use Rattle.lens_flows.specs.judge.Courses.{scenario_of}
use Rattle.lens_flows.proofs.judge.course.Course.begun_within.Goals as goal

pub next_crossing-requires-clause-some : goal.next_crossing-requires-clause-some
next_crossing-requires-clause-some c =
    let known = c.requires.known in
    (c.args.self.now.network.now, known.0, known.2.remembers)

pub overflow_cast-result : goal.overflow_cast-result
overflow_cast-result c =
    let known = c.requires.known in
    let s = scenario_of c.args.self.now known.0 in
    let next = c.in-Some.ensures.is c.args.self.now.network.now known.0 known.2.remembers c.requires.device in
    let begins : pos 0 ≤ℤ value_in c.beginnings-series.result 0 =
    subst (λ v. pos 0 ≤ℤ v) (sym (c.beginnings-series.ensures.values 0)) (omega (arith, ints)) in
    let few = few_crossed s c.args.device c.beginnings-series.ensures.step begins next in
    omega (arith, few)

pub returns-in-Some : goal.returns-in-Some
returns-in-Some c befallen hs known shows =
    let network = c.args.self.now.network.now in
    let s = scenario_of c.args.self.now befallen in
    let r = known.remembers in
    let on = c.reading_law.ensures network befallen c.args.device r.range r.within r.begun in
    let next = c.in-Some.ensures.is network befallen r c.requires.device in
    first_begun s hs c.args.device c.args.shown.now c.beginnings-series.result _ on
    c.beginnings-series.ensures.values shows next refl (search rules)

pub returns-in-None : goal.returns-in-None
returns-in-None c befallen hs known shows =
    let network = c.args.self.now.network.now in
    let s = scenario_of c.args.self.now befallen in
    none_begun s hs c.args.device c.args.shown.now c.beginnings-series.result c.args.after c.args.until (c.args.until + 1)
    c.beginnings-series.ensures.values shows (omega arith) (c.in-None.ensures.is network befallen known.remembers c.requires.device)
