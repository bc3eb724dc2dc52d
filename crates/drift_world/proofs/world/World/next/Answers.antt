use Rattle.drift_world.proofs.Words.{Bool, ComesUpTo, Note, Ok, OutOfMemory, Some}
use Rattle.{drift_world.{proofs.Words.{subst, sym}, specs.Running.next_of}}
use Rattle.drift_world.proofs.world.World.next.Goals as goal

pub returns-in-Ok-true-clause-stands : goal.returns-in-Ok-true-clause-stands
returns-in-Ok-true-clause-stands g c = λ network events notes under.
    let K = g.C.Clock in
    let S = g.M.Machine.stands in
    rw c.note.ensures (rw c.in-Ok-true.field-0-test at (c.in-Ok-true.ensures.stands network events notes under))

pub returns-in-Ok-true-clause-reached : goal.returns-in-Ok-true-clause-reached
returns-in-Ok-true-clause-reached g c =
    subst (λ u. ComesUpTo {E = OutOfMemory} c.args.self.now c.next_given.new.self u (Ok (Some c.note.result))) c.bounded-time.ensures.is
    (subst (λ (n : Note). ComesUpTo {E = OutOfMemory} c.args.self.now c.next_given.new.self c.bounded-time.result (Ok (Some n))) (sym c.note.ensures)
    (subst (λ (more : Bool). ComesUpTo {E = OutOfMemory} c.args.self.now c.next_given.new.self c.bounded-time.result (next_of (Ok more) c.next_given.new.note))
    c.in-Ok-true.field-0-test c.in-Ok-true.ensures.reached))

pub returns-in-Ok-true-clause-fewer : goal.returns-in-Ok-true-clause-fewer
returns-in-Ok-true-clause-fewer g c = c.in-Ok-true.ensures.fewer c.in-Ok-true.field-0-test

pub returns-in-Ok-false-clause-stands : goal.returns-in-Ok-false-clause-stands
returns-in-Ok-false-clause-stands g c = λ network events notes under.
    let K = g.C.Clock in
    let S = g.M.Machine.stands in
    rw c.in-Ok-false.field-0-test at (c.in-Ok-false.ensures.stands network events notes under)

pub returns-in-Ok-false-clause-complete : goal.returns-in-Ok-false-clause-complete
returns-in-Ok-false-clause-complete g c = λ network events notes under lt.
    let K = g.C.Clock in
    rw c.bounded-time.ensures.is at (c.in-Ok-false.ensures.complete network events notes under
    (c.bounded-time.ensures.later lt) c.in-Ok-false.field-0-test)

pub returns-in-Ok-false-clause-reached : goal.returns-in-Ok-false-clause-reached
returns-in-Ok-false-clause-reached g c =
    rw c.bounded-time.ensures.is at (rw c.in-Ok-false.field-0-test at c.in-Ok-false.ensures.reached)

pub returns-in-Err-clause-reached : goal.returns-in-Err-clause-reached
returns-in-Err-clause-reached g c =
    rw c.bounded-time.ensures.is at c.in-Err.ensures.reached
