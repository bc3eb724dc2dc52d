use Rattle.run_law.specs.declared.note.Note.{Note}
use Rattle.tte_traces.{proofs.storms_lemmas.Summed.{room_for, seen_event}, specs.storms.summary.Counting.counted_as}
use Rattle.{std.proofs.Common.{◌++◌, ◌∷◌, [], ap, refl, sym}, world_drive.specs.Observing.told_by}
use Rattle.tte_traces.proofs.storms.counting.SeenObserver.event.Goals as goal

pub add-requires : goal.add-requires
add-requires g c =
    let m = c.requires.may in
    room_for c.args._network.now (m.events ++ c.args._event.now ∷ []) m.notes c.args._note.now c.args._world.now c.args.self.now.tally m.sees.tallied
    m.befell.stands

pub returns-clause-goes : goal.returns-clause-goes
returns-clause-goes g c events notes old befell seen =
    seen_event c.args._network.now events notes c.args._event.now c.args._note.now c.args._world.now befell old.told (told_by g.K.Sink c.args._out.now)
    c.args.self.now _ seen (c.add.ensures notes c.args._note.now (sym (ap (λ (n : Note). counted_as n.body) befell.is)) seen.tallied) refl
