-- What is answered where a trace is refused.
use Rattle.std.specs.Prelude.{ℕ}
use Rattle.tte_forms.specs.Answering.{Answer}
use Rattle.tte_traces.specs.{FaultLine.{fault_lines, fault_status}, declared.fault.TraceFault.TraceFault}

-- the answer about the fault at this line alone
abbrev pub fault_answer : ℕ → TraceFault → Answer
fault_answer number fault = record { status = fault_status fault; lines = fault_lines number fault }
