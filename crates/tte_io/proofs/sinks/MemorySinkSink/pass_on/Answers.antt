use Rattle.{std.proofs.Common.{ap, arith, refl, sym, take_all}, tte_io.{proofs.Passing.{passes_all, passes_none}}}
use Rattle.tte_io.proofs.sinks.MemorySinkSink.pass_on.Goals as goal

pub returns-then-next_fails-clause-passes : goal.returns-then-next_fails-clause-passes
returns-then-next_fails-clause-passes c =
    let r = c.self.inside in
    let same = ap (λ s. s.passed) c.self.view_is in
    rw same (passes_none c.args.self.now.passed r.written.items r.passed same)

pub returns-clause-passes : goal.returns-clause-passes
returns-clause-passes c =
    let r = c.self.inside in
    let same = ap (λ s. s.passed) c.self.view_is in
    let all =
    take_all c.len-self-inside.result r.written.items (omega (arith, c.len-self-inside.ensures)) in
    rw all (passes_all c.args.self.now.passed r.written.items r.passed same)

pub returns-clause-ok : goal.returns-clause-ok
returns-clause-ok c =
    let r = c.self.inside in
    let all =
    take_all c.len-self-inside.result r.written.items (omega (arith, c.len-self-inside.ensures)) in
    rw (sym c.self.view_is, all, c.next_fails.ensures.counts, c.next_fails.ensures.failing) refl
