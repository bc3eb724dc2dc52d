use Rattle.tte_observers.proofs.captures_lemmas.wires_lemmas.{Puts.{all_further, failed_further, then_all, timely}}
use Rattle.tte_observers.proofs.captures_lemmas.wires_lemmas.Given.{not_carried, record_fails_first, record_fails_own}
use Rattle.tte_observers.proofs.captures_lemmas.wires_lemmas.Given.{record_goes}
use Rattle.tte_observers.proofs.captures_lemmas.wires_lemmas.Words.{◌++◌, ◌<◌, ◌∙◌, ◌∷◌, Capture, HasLink, PutsLines-none, StopsWay, [], ap}
use Rattle.tte_observers.proofs.captures_lemmas.wires_lemmas.Words.{is_sent_on, last_happening, packets_of, rank, scenario_under, subst, sym, told_by}
use Rattle.tte_observers.proofs.captures.wires.capture.CaptureObserver.record.Goals as goal

-- the link is one of the network's, and the time that of a world
pub is_sent_on-sent-requires : goal.is_sent_on-sent-requires
is_sent_on-sent-requires g c = c.requires.may.sees.there

pub put_sends-requires : goal.put_sends-requires
put_sends-requires g c = c.requires.may.sees.limit

pub put_sent-requires-clause-timely : goal.put_sent-requires-clause-timely
put_sent-requires-clause-timely g c =
    let given = c.requires.may.given in timely c.args.note.now.time c.args.world.now.now given.at given.stands.is.limit

-- what waited could not be put
pub returns-in-Err-clause-goes : goal.returns-in-Err-clause-goes
returns-in-Err-clause-goes g c events notes instant old given seen =
    let told = told_by g.K.Sink in
    let failed = c.in-Err.ensures.puts.failed in
    subst (λ e. StopsWay c.args.network.now events (notes ++ c.args.note.now ∷ []) e old (told c.put_sends.new.out)) (sym failed.0)
    (record_fails_first c.args.network.now c.args.world.now events notes c.args.note.now old (told c.args.out.now) c.args.self.now given.stands
    (subst (λ b. 1 < rank b) c.body.ensures c.is_sent_on-sent.ensures.behind) seen (told c.put_sends.new.out) failed.1)

-- it is not sent on the way
pub returns-then-not-sent-clause-goes : goal.returns-then-not-sent-clause-goes
returns-then-not-sent-clause-goes g c events notes instant old given seen =
    let told = told_by g.K.Sink in
    let it = c.args.self.now in
    let network = c.args.network.now in
    let note = c.args.note.now in
    let high = (subst (λ b. 1 < rank b) c.body.ensures c.is_sent_on-sent.ensures.behind) in
    let s = scenario_under network events in
    let is = c.in-Ok.ensures.same in
    let none = not_carried s it.link it.way (last_happening network notes note) high (ap (is_sent_on network it.link it.way) (sym c.body.ensures)
    ∙ sym c.is_sent_on-sent.ensures.value ∙ c.if-not-sent.true) in
    record_goes network c.args.world.now events notes note old (told c.args.out.now) it given.stands high seen [] (told c.put_sends.new.out)
    (told c.put_sends.new.out) c.put_sends.new.self (sym none) c.in-Ok.ensures.puts.all.0 (PutsLines-none _)
    (ap (λ (x : Capture). x.link) is) (ap (λ (x : Capture). x.way) is) (ap (λ (x : Capture). x.cut) is) (ap (λ (x : Capture). x.time) is) c.in-Ok.ensures.none

-- its packet is put
pub returns-in-Ok-put_sent-clause-goes : goal.returns-in-Ok-put_sent-clause-goes
returns-in-Ok-put_sent-clause-goes g c events notes instant old given seen =
    let told = told_by g.K.Sink in
    let it = c.args.self.now in
    let network = c.args.network.now in
    let note = c.args.note.now in
    let sent = ap (is_sent_on network it.link it.way) (sym c.body.ensures) ∙ sym c.is_sent_on-sent.ensures.value ∙ c.if-not-sent.false in
    let is = c.in-Ok.ensures.same in
    let link = ap (λ (x : Capture). x.link) is in
    let way = ap (λ (x : Capture). x.way) is in
    let p = c.in-Ok-put_sent.ensures.puts in
    let made = c.in-Ok-put_sent.ensures.same in
    let s = scenario_under network events in
    let z = last_happening network notes note in
    let mid = c.put_sends.new.self in
    let lines = p.2 events notes given.stands given.at (subst (λ l. HasLink network l) (sym link) seen.there)
    (ap (λ l. is_sent_on network l mid.way note.body) link
    ∙ ap (λ w. is_sent_on network it.link w note.body) way ∙ sent) in
    record_goes network c.args.world.now events notes note old (told c.args.out.now) it given.stands
    (subst (λ b. 1 < rank b) c.body.ensures c.is_sent_on-sent.ensures.behind) seen p.0
    (told c.put_sends.new.out) (told c.put_sent.new.out) c.put_sent.new.self
    (lines ∙ ap (λ l. packets_of s l mid.way (z ∷ [])) link ∙ ap (λ w. packets_of s it.link w (z ∷ [])) way) c.in-Ok.ensures.puts.all.0 p.1.all.0
    (ap (λ (x : Capture). x.link) made ∙ link) (ap (λ (x : Capture). x.way) made ∙ way)
    (ap (λ (x : Capture). x.cut) made ∙ ap (λ (x : Capture). x.cut) is) (ap (λ (x : Capture). x.time) made ∙ ap (λ (x : Capture). x.time) is)
    (ap (λ (x : Capture). x.sends.items) made ∙ c.in-Ok.ensures.none)

-- its packet could not be put
pub returns-in-Err-put_sent-clause-goes : goal.returns-in-Err-put_sent-clause-goes
returns-in-Err-put_sent-clause-goes g c events notes instant old given seen =
    let told = told_by g.K.Sink in
    let it = c.args.self.now in
    let network = c.args.network.now in
    let note = c.args.note.now in
    let sent = ap (is_sent_on network it.link it.way) (sym c.body.ensures) ∙ sym c.is_sent_on-sent.ensures.value ∙ c.if-not-sent.false in
    let is = c.in-Ok.ensures.same in
    let link = ap (λ (x : Capture). x.link) is in
    let way = ap (λ (x : Capture). x.way) is in
    let p = c.in-Err-put_sent.ensures.puts in
    let s = scenario_under network events in
    let z = last_happening network notes note in
    let mid = c.put_sends.new.self in
    let lines = p.2 events notes given.stands given.at (subst (λ l. HasLink network l) (sym link) seen.there)
    (ap (λ l. is_sent_on network l mid.way note.body) link ∙ ap (λ w. is_sent_on network it.link w note.body) way ∙ sent) in
    subst (λ e. StopsWay network events (notes ++ note ∷ []) e old (told c.put_sent.new.out)) (sym p.1.failed.0)
    (record_fails_own network c.args.world.now events notes note old (told c.args.out.now) it given.stands
    (subst (λ b. 1 < rank b) c.body.ensures c.is_sent_on-sent.ensures.behind) seen p.0
    (told c.put_sends.new.out) (told c.put_sent.new.out)
    (lines ∙ ap (λ l. packets_of s l mid.way (z ∷ [])) link ∙ ap (λ w. packets_of s it.link w (z ∷ [])) way) c.in-Ok.ensures.puts.all.0 p.1.failed.1)

-- ---- what was put, whatever the record

pub returns-in-Err-clause-puts : goal.returns-in-Err-clause-puts
returns-in-Err-clause-puts g c = failed_further g.K.Sink _ c.in-Err.cut c.args.out.now c.put_sends.new.out c.in-Err.ensures.puts

pub returns-then-not-sent-clause-puts : goal.returns-then-not-sent-clause-puts
returns-then-not-sent-clause-puts g c = all_further g.K.Sink _ (tt {0}) _ c.args.out.now c.put_sends.new.out c.in-Ok.ensures.puts

pub returns-in-Ok-put_sent-clause-puts : goal.returns-in-Ok-put_sent-clause-puts
returns-in-Ok-put_sent-clause-puts g c =
    let p = c.in-Ok-put_sent.ensures.puts in
    all_further g.K.Sink _ (tt {0}) _ c.args.out.now c.put_sent.new.out
    (then_all g.K.Sink _ p.0 (tt {0}) _ c.args.out.now c.put_sends.new.out c.put_sent.new.out c.in-Ok.ensures.puts p.1)

pub returns-in-Err-put_sent-clause-puts : goal.returns-in-Err-put_sent-clause-puts
returns-in-Err-put_sent-clause-puts g c =
    let p = c.in-Err-put_sent.ensures.puts in
    failed_further g.K.Sink _ _ c.args.out.now c.put_sent.new.out
    (then_all g.K.Sink _ p.0 (tt {0}) _ c.args.out.now c.put_sends.new.out c.put_sent.new.out c.in-Ok.ensures.puts p.1)
