use Rattle.tte_traces.proofs.storms_lemmas.Drawn.{gives_as_source}
use Rattle.tte_traces.proofs.storms.events.StormEventsEventsUnitUnit.next_event.Goals as goal

pub returns-clause-gives : goal.returns-clause-gives
returns-clause-gives g c network first origin events given =
    gives_as_source c.next_in.result c.next_in.new.event network first _ origin _ _ events _ _
    (c.next_in.ensures network origin.storm.seed origin.storm.cycles events given)
