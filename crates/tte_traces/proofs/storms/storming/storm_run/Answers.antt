use Rattle.tte_forms.{proofs.networks.Answers.answered_none, specs.Putting.shown_by}
use Rattle.tte_traces.{proofs.storms_lemmas.Summed.{none_safely, storm_accepted, storm_safely}}
use Rattle.tte_traces.{specs.storms.Answer.IsStormAnswer}
use Rattle.tte_traces.proofs.storms.storming.storm_run.Goals as goal

pub returns-in-Ok-clause-general : goal.returns-in-Ok-clause-general
returns-in-Ok-clause-general g c =
    let shown = shown_by g.K.Sink in
    storm_accepted (g.A.Source.left c.args.source.now) c.run_storm.result c.in-Ok.ensures.accepted
    c.run_storm.ensures.ends

pub returns-in-Ok-clause-safe : goal.returns-in-Ok-clause-safe
returns-in-Ok-clause-safe g c =
    let shown = shown_by g.K.Sink in
    storm_safely c.args.seed c.args.cycles c.run_storm.result (shown c.args.out.now) (shown c.run_storm.new.out) (g.A.Source.left c.args.source.now)
    c.in-Ok.accepted c.in-Ok.ensures.accepted c.run_storm.ensures.ends

pub returns-in-Err-clause-general : goal.returns-in-Err-clause-general
returns-in-Err-clause-general g c =
    let shown = shown_by g.K.Sink in
    answered_none (IsStormAnswer c.args.seed c.args.cycles) (g.A.Source.left c.args.source.now) c.in-Err.cause c.put_no_network.result
    (shown c.args.out.now) (shown c.put_no_network.new.out) c.in-Err.ensures.none c.put_no_network.ensures.gives c.put_no_network.ensures.unput

pub returns-in-Err-clause-safe : goal.returns-in-Err-clause-safe
returns-in-Err-clause-safe g c =
    let shown = shown_by g.K.Sink in
    none_safely c.args.seed c.args.cycles c.put_no_network.result (shown c.args.out.now) (shown c.put_no_network.new.out)
    (g.A.Source.left c.args.source.now) c.in-Err.cause c.put_no_network.ensures.gives
