-- The lines about a trace that is refused.
use Rattle.std.specs.{Fmt.decimal, Prelude.{◌++◌, ◌∷◌, List, [], codes, ℕ}}
use Rattle.{run_law.specs.declared.outside.Outside.Outside, trace_text.specs.declared.refusal.LineRefusal.LineRefusal}
use Rattle.{run_law.specs.scenario.Hypothesis.condition_number, tte_traces.specs.declared.fault.TraceFault.TraceFault}
use Rattle.tte_forms.specs.declared.status.Status.{Status, TheVariants.{OutsideHypothesis, TooLong, TraceRefused}}
use Rattle.trace_text.specs.declared.refusal.LineRefusal.TheVariants as refusals
use Rattle.tte_traces.specs.declared.fault.TraceFault.TheVariants as faults

-- why a line has no event
abbrev pub line_reason : LineRefusal → List ℕ
line_reason refusals.Form = codes "form"
line_reason refusals.Name = codes "name"
line_reason refusals.Number = codes "number"
line_reason refusals.Hex = codes "hex"
line_reason refusals.Octets = codes "length"

-- the line of a trace that is refused at this line
abbrev pub trace_refusal_line : ℕ → List ℕ → List ℕ
trace_refusal_line number reason = codes "refused line " ++ decimal number ++ codes " " ++ reason ++ codes "\n"

-- the line of an event that is outside the hypothesis
abbrev pub outside_line : ℕ → Outside → List ℕ
outside_line number outside =
    codes "outside line " ++ decimal number ++ codes " condition " ++ decimal (condition_number outside) ++ codes "\n"

-- what is written about the fault at this line; too many lines are told by the status alone
abbrev pub fault_lines : ℕ → TraceFault → List (List ℕ)
fault_lines number faults.Missing = trace_refusal_line number (codes "missing") ∷ []
fault_lines number faults.TooMany = []
fault_lines number faults.After = trace_refusal_line number (codes "after") ∷ []
fault_lines number faults.Long = trace_refusal_line number (codes "long") ∷ []
fault_lines number (faults.Line refusal) = trace_refusal_line number (line_reason refusal) ∷ []
fault_lines number (faults.Event outside) = outside_line number outside ∷ []

-- the status for the fault
abbrev pub fault_status : TraceFault → Status
fault_status faults.Missing = TraceRefused
fault_status faults.TooMany = TooLong
fault_status faults.After = TraceRefused
fault_status faults.Long = TraceRefused
fault_status (faults.Line refusal) = TraceRefused
fault_status (faults.Event outside) = OutsideHypothesis
