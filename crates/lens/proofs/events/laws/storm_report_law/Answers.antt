use Rattle.lens.proofs.events_lemmas.StormEvents.{storm_report}
use Rattle.lens.proofs.events.laws.storm_report_law.Goals as goal

pub returns : goal.returns
returns c = storm_report
