use Rattle.{report_text.proofs.Lines.event_joined, std.{proofs.{Common.arith, lemmas.Grind.common_steps}, specs.Prelude.decimal}}
use Rattle.report_text.proofs.kinds.push_event.Goals as goal

pub returns-clause-text : goal.returns-clause-text
returns-clause-text c = rw (event_joined (decimal c.args.of_trace) c.args.network.now c.args.what.now) (grind (arith, common_steps))
