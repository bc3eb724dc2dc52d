use Rattle.lens_why.proofs.Telling.{network_of, said_as, smaller, timely, told_all, told_fails, told_more, told_none}
use Rattle.{std.proofs.Common.{◌∙◌, ap, refl, sym}, tte_forms.specs.Putting.shown_by, tte_reports.specs.Places.note_at}
use Rattle.lens_why.proofs.answering.put_chain.Goals as goal

pub records-init : goal.records-init
records-init g c =
    let r = c.requires.record in
    record {
      told = told_none c.args.first (shown_by g.K.Sink c.args.out.now) r.report r.number r.there;
      quiet = refl;
    }

pub put_record-requires-clause-of_network : goal.put_record-requires-clause-of_network
put_record-requires-clause-of_network g c = network_of c.records.invariant.told

pub ground_of-ground-requires-clause-timely : goal.ground_of-ground-requires-clause-timely
ground_of-ground-requires-clause-timely g c = timely c.records.invariant.told

pub returns-in-Err-clause-gives : goal.returns-in-Err-clause-gives
returns-in-Err-clause-gives g c notes end of =
    let shown = shown_by g.K.Sink in
    let t = c.records.invariant.told in
    let given = c.record-cause.ensures t.notes t.end t.of ∙ ap (note_at t.notes) c.cause_of.ensures in
    let said = said_as t c.record-cause.result c.ground_of-ground.result given (c.ground_of-ground.ensures t.notes t.end t.h t.of) in
    told_fails t (shown c.put_record.new.out) c.ground_of-ground.result said c.requires.named c.in-Err.ensures.puts notes end of

pub returns-in-None-clause-gives : goal.returns-in-None-clause-gives
returns-in-None-clause-gives g c notes end of =
    let shown = shown_by g.K.Sink in
    let t = c.records.invariant.told in
    let given = c.record-cause.ensures t.notes t.end t.of ∙ ap (note_at t.notes) c.cause_of.ensures in
    let said = said_as t c.record-cause.result c.ground_of-ground.result given (c.ground_of-ground.ensures t.notes t.end t.h t.of) in
    told_all t (shown c.put_record.new.out) c.ground_of-ground.result said c.requires.named c.in-Ok.ensures.puts (sym given ∙ c.in-None.is) c.end_with.result
    (shown c.end_with.new.out) c.end_with.ensures.ends notes end of

pub records-smaller : goal.records-smaller
records-smaller g c =
    let t = c.records.invariant.told in
    smaller t c.in-Some.next (sym (c.record-cause.ensures t.notes t.end t.of ∙ ap (note_at t.notes) c.cause_of.ensures) ∙ c.in-Some.is)

pub records-preserved : goal.records-preserved
records-preserved g c =
    let shown = shown_by g.K.Sink in
    let t = c.records.invariant.told in
    let given = c.record-cause.ensures t.notes t.end t.of ∙ ap (note_at t.notes) c.cause_of.ensures in
    let said = said_as t c.record-cause.result c.ground_of-ground.result given (c.ground_of-ground.ensures t.notes t.end t.h t.of) in
    record {
      told = told_more t (shown c.put_record.new.out) c.ground_of-ground.result said c.in-Ok.ensures.puts c.in-Some.next (sym given ∙ c.in-Some.is);
      quiet = c.in-Ok.ensures.faults ∙ c.records.invariant.quiet;
    }
