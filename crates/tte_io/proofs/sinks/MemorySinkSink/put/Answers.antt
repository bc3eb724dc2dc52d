use Rattle.{std.proofs.Common.{◌∙◌, ◌≡◌, ap, refl, sym, take}, tte_io.{proofs.Passing.{passed_still, passes_none}}}
use Rattle.tte_io.proofs.sinks.MemorySinkSink.put.Goals as goal

pub returns-then-fails-clause-passes : goal.returns-then-fails-clause-passes
returns-then-fails-clause-passes c =
    let r = c.self.inside in
    let same = ap (λ s. s.passed) c.self.view_is in
    rw same (passes_none c.args.self.now.passed r.written.items r.passed same)

pub returns-clause-passes : goal.returns-clause-passes
returns-clause-passes c =
    let r = c.self.inside in
    let all = c.extend_from_slice.new.self.items in
    let same : take r.passed all ≡ c.args.self.now.passed =
    ap (take r.passed) c.in-Ok.ensures.items ∙ passed_still r.written.items c.args.bytes.now r.passed c.self.invariant.2
    ∙ ap (λ s. s.passed) c.self.view_is in
    rw same (passes_none c.args.self.now.passed all r.passed same)

pub returns-clause-ok : goal.returns-clause-ok
returns-clause-ok c =
    let r = c.self.inside in
    let still = passed_still r.written.items c.args.bytes.now r.passed c.self.invariant.2 in
    let calls = c.next_fails-fails.ensures in
    rw (sym c.self.view_is, c.in-Ok.ensures.items, still, calls.counts, calls.failing) refl
