use Rattle.tte_observers.proofs.stamps_lemmas.Words.{◌++◌, ◌∙◌, ◌∷◌, Note, [], ap, line_at, line_stamps, subst, sym}
use Rattle.tte_observers.{proofs.stamps_lemmas.{EventLines.{at_line, may_stamp}, Stamped.{seen_go, stamps_go}}}
use Rattle.tte_observers.{specs.stamps.Stamping.PutsAll}
use Rattle.tte_observers.proofs.stamps.stamper.StamperObserver.event.Goals as goal

pub put_stamps-requires-clause-may : goal.put_stamps-requires-clause-may
put_stamps-requires-clause-may g c =
    let m = c.requires.may in
    may_stamp c.args.network.now c.args.world.now m.events m.notes c.args._event.now c.args.note.now m.befell

pub returns-clause-goes : goal.returns-clause-goes
returns-clause-goes g c events notes old befell seen =
    let network = c.args.network.now in
    let event = c.args._event.now in
    let note = c.args.note.now in
    let granule = old.observer.granule in
    let r = c.put_stamps.result in
    let new = c.put_stamps.new.out in
    let at = at_line network c.args.world.now events notes event note befell c.note.inside.line c.note.inside.event.now.what
    (sym (ap (λ (n : Note). n.body) c.note.view_is)) in
    let puts = subst (λ n. PutsAll g.K.Sink r (line_stamps n network (line_at network events event (notes ++ note ∷ []))) c.args.out.now new) seen.0
    (c.put_stamps.ensures.stamps events event (notes ++ note ∷ []) at) in
    seen_go g.K.Sink r granule c.put_stamps.new.self.granule network (events ++ event ∷ []) old.told new (c.put_stamps.ensures.granule ∙ seen.0)
    (stamps_go granule network c.args.world.now events notes event note befell g.K.Sink r old.told c.args.out.now new seen.1 puts c.put_stamps.ensures.cut)
