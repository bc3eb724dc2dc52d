use Rattle.lens.proofs.events_lemmas.StormEvents.{puts_all, puts_fail, puts_more, puts_none}
use Rattle.tte_traces.proofs.storms_lemmas.Drawn.{IsStormy}
use Rattle.{net_plan.specs.Belonging.IsOfNetwork, std.specs.Io.KnownBytes.Appends, trace_text.specs.EventLine.event_line, tte_forms.specs.Putting.shown_by}
use Rattle.{net_plan.specs.declared.network.Network.Network, std.proofs.Common.{◌∙◌, refl, subst, sym}, tte_traces.specs.storms.Laws.FitsFrames}
use Rattle.tte_io.specs.Told.{AppendsFront}
use Rattle.lens.proofs.events.putting.put_events.Goals as goal

pub events-init : goal.events-init
events-init g c = record {
  puts = puts_none (shown_by g.K.Sink c.args.out.now) c.new-storm.ensures;
  quiet = refl;
}

pub print-requires-clause-of_network : goal.print-requires-clause-of_network
print-requires-clause-of_network g c =
    let h = c.events.invariant.puts in
    let gives = c.in-Some.ensures c.args.accepted.now c.args.seed c.args.cycles h.events h.given in
    subst (λ n. IsOfNetwork n c.in-Some.event.what) (sym c.network-network.ensures.value) gives.0.of_network

pub events-smaller : goal.events-smaller
events-smaller g c =
    let h = c.events.invariant.puts in
    let gives = c.in-Some.ensures c.args.accepted.now c.args.seed c.args.cycles h.events h.given in
    gives.1

pub events-preserved : goal.events-preserved
events-preserved g c =
    let shown = shown_by g.K.Sink in
    let network = c.args.accepted.now in
    let h = c.events.invariant.puts in
    let event = c.in-Some.event in
    let gives = c.in-Some.ensures network c.args.seed c.args.cycles h.events h.given in
    let whole = subst (λ n. Appends (g.K.Sink.written c.events.out) (g.K.Sink.written c.print.new.out) (event_line n event))
    c.network-network.ensures.value c.in-Ok.ensures.all in
    record {
      puts = puts_more network c.args.seed c.args.cycles c.events.storm (shown c.args.out.now) (shown c.events.out) h event c.next.new.self
          (shown c.print.new.out) gives.2 whole c.print.ensures.counted;
      quiet = c.in-Ok.ensures.ok_unchanged ∙ c.events.invariant.quiet;
    }

pub returns-in-Err-clause-gives : goal.returns-in-Err-clause-gives
returns-in-Err-clause-gives g c =
    let shown = shown_by g.K.Sink in
    let network = c.args.accepted.now in
    let h = c.events.invariant.puts in
    let event = c.in-Some.event in
    let gives = c.in-Some.ensures network c.args.seed c.args.cycles h.events h.given in
    let front = subst (λ n. AppendsFront (g.K.Sink.written c.events.out) (g.K.Sink.written c.print.new.out) (event_line n event))
    c.network-network.ensures.value c.in-Err.ensures.front in
    let stormy : IsStormy network c.args.cycles = record {
      few = c.requires.most;
      range = c.network-network.ensures.range;
      rules = c.network-network.ensures.rules;
      fits = subst FitsFrames c.network-network.ensures.value c.frames_fit.ensures;
    } in
    puts_fail network c.args.seed c.args.cycles c.events.storm (shown c.args.out.now) (shown c.events.out) h event c.next.new.self
    (shown c.print.new.out) stormy gives.2 front c.print.ensures.counted

pub returns-in-None-clause-gives : goal.returns-in-None-clause-gives
returns-in-None-clause-gives g c =
    let shown = shown_by g.K.Sink in
    let h = c.events.invariant.puts in
    let gives = c.in-None.ensures c.args.accepted.now c.args.seed c.args.cycles h.events h.given in
    puts_all c.args.accepted.now c.args.seed c.args.cycles c.events.storm (shown c.args.out.now) (shown c.events.out) h c.end_with.result
    (shown c.end_with.new.out) gives.2 c.end_with.ensures.ends
