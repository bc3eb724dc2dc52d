use Rattle.std.proofs.Common.{rules, tests}
use Rattle.fault_hypothesis.proofs.Keeping.{broken_by}
use Rattle.fault_hypothesis.proofs.watch.Watch.is_broken.Goals as goal

pub returns : goal.returns
returns c = λ network admitted w.
    broken_by admitted c.args.device c.args.self.now.broken w.broken c.eq.result (search (rules, tests))
