use Rattle.std.{proofs.Common.{ap, arith}, specs.Prelude.slice_index}
use Rattle.fault_hypothesis.proofs.storm.strike.kept.Goals as goal

pub returns-clause-bytes : goal.returns-clause-bytes
returns-clause-bytes c = λ i.
    let fits = c.type_inv.octets i in
    let same = ap (λ o. slice_index o i) c.new.ensures in
    omega arith
