use Rattle.{std.specs.Prelude.MatchResult, world_drive.specs.Observing.Befell}
use Rattle.tte_observers.proofs.captures_lemmas.wires_lemmas.Puts.{event_fails, event_goes, passes_failed, passes_then}
use Rattle.tte_observers.proofs.captures_lemmas.wires_lemmas.Words.{◌++◌, ◌∷◌, Err, Note, Ok, PassesTo, SeesWay, StopsWay, [], refl, subst, sym, told_by}
use Rattle.tte_observers.proofs.captures.wires.capture.CaptureObserver.event.Goals as goal

pub amount-requires : goal.amount-requires
amount-requires g c = c.requires.may.befell.may.begun

pub pass_to-requires : goal.pass_to-requires
pass_to-requires g c = c.requires.may.sees.limit

pub returns-in-Err-clause-goes : goal.returns-in-Err-clause-goes
returns-in-Err-clause-goes g c events notes old befell seen =
    let network = c.args._network.now in
    let event = c.args.event.now in
    let told = told_by g.K.Sink in
    let own = subst (λ m. Befell network c.args._world.now events notes event m) befell.is befell in
    subst (λ (m : Note). StopsWay network (events ++ event ∷ []) (notes ++ m ∷ []) c.in-Err.cut old (told c.pass_to.new.out)) (sym befell.is)
    (event_fails network c.args._world.now events notes event old (told c.args.out.now) c.args.self.now own seen g.K.Sink c.args.out.now c.pass_to.new.out refl
    c.pass_to.new.self c.in-Err.cut
    (subst (λ n. PassesTo g.K.Sink n c.args.self.now (Err c.in-Err.cut) c.pass_to.new.self c.args.out.now c.pass_to.new.out) c.amount.ensures.value
    c.in-Err.ensures))

pub returns-clause-goes : goal.returns-clause-goes
returns-clause-goes g c events notes old befell seen =
    let network = c.args._network.now in
    let event = c.args.event.now in
    let told = told_by g.K.Sink in
    let own = subst (λ m. Befell network c.args._world.now events notes event m) befell.is befell in
    subst (λ (m : Note). MatchResult c.take.result (λ _. SeesWay network (events ++ event ∷ []) (notes ++ m ∷ []) old (told c.pass_to.new.out) c.take.new.self)
    (λ cut. StopsWay network (events ++ event ∷ []) (notes ++ m ∷ []) cut old (told c.pass_to.new.out))) (sym befell.is)
    (event_goes network c.args._world.now events notes event old (told c.args.out.now) c.args.self.now own seen g.K.Sink c.args.out.now c.pass_to.new.out refl
    c.pass_to.new.self c.take.new.self c.take.result
    (subst (λ n. PassesTo g.K.Sink n c.args.self.now (Ok (tt {0})) c.pass_to.new.self c.args.out.now c.pass_to.new.out) c.amount.ensures.value
    c.in-Ok.ensures)
    c.take.ensures.takes c.take.ensures.err)

-- some was put, or nothing
pub returns-in-Err-clause-puts : goal.returns-in-Err-clause-puts
returns-in-Err-clause-puts g c = passes_failed g.K.Sink c.amount.result c.args.self.now c.in-Err.cut c.pass_to.new.self c.args.out.now c.pass_to.new.out
    c.in-Err.ensures

pub returns-clause-puts : goal.returns-clause-puts
returns-clause-puts g c =
    passes_then g.K.Sink c.amount.result c.args.self.now c.pass_to.new.self c.args.out.now c.pass_to.new.out c.take.result c.take.ensures.err c.in-Ok.ensures
