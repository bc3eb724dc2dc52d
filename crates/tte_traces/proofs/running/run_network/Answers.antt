use Rattle.tte_traces.proofs.{Runs.report_along, Words.report_lines}
use Rattle.tte_traces.proofs.running.run_network.Goals as goal

pub returns-clause-ends : goal.returns-clause-ends
returns-clause-ends g c = c.follow_trace.ensures.ends report_lines (report_along _)
