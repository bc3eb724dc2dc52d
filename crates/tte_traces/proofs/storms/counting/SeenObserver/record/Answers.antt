use Rattle.std.proofs.Common.{◌∙◌, ap, refl}
use Rattle.tte_traces.{proofs.storms_lemmas.Summed.{behind_events, room_for, seen_record}}
use Rattle.tte_traces.{specs.storms.{Counts.corrects, summary.Counting.counted_as}}
use Rattle.tte_traces.proofs.storms.counting.SeenObserver.record.Goals as goal

pub add-requires : goal.add-requires
add-requires g c =
    let m = c.requires.may in
    room_for c.args._network.now m.events m.notes c.args.note.now c.args._world.now c.args.self.now.tally m.sees.tallied m.given.stands

pub returns-clause-goes : goal.returns-clause-goes
returns-clause-goes g c events notes instant old given seen =
    seen_record c.is_correction.result _ given seen
    (c.is_correction.ensures ∙ (ap corrects c.behind-note.view_is ∙ ap corrects c.body.ensures))
    (c.add.ensures notes c.args.note.now (c.counted_as.ensures ∙ (ap counted_as c.behind-note.view_is ∙ ap counted_as c.body.ensures)) seen.tallied) refl

pub returns-clause-asks : goal.returns-clause-asks
returns-clause-asks g c =
    behind_events c.args.note.now c.is_correction.result (c.is_correction.ensures ∙ (ap corrects c.behind-note.view_is ∙ ap corrects c.body.ensures))
