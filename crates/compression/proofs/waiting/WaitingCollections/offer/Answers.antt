use Rattle.std.{proofs.{Common.{◌∙◌, ◌≡◌, None, Some, ap, arith, sym}, lemmas.Int.ints}, specs.List.last_or}
use Rattle.compression.proofs.{Collectors.{open_at-beyond, open_at-in}, Middles.last_or-read}
use Rattle.compression.proofs.waiting.WaitingCollections.offer.Goals as goal

pub returns-then-end-reading-clause-role : goal.returns-then-end-reading-clause-role
returns-then-end-reading-clause-role c =
    search (arith, last_or-read, open_at-beyond)

pub take-requires-clause-able : goal.take-requires-clause-able
take-requires-clause-able c =
    let item = c.in-Some.ensures.item in
    let last : last_or None c.args.self.now ≡ Some c.in-Some.last.now = ap (last_or None) (sym c.self.view_is ∙ sym c.deref_mut.ensures.value)
    ∙ last_or-read c.deref_mut.result.now c.in-Some.last.now item.3.0 item.1 in
    (rw last at c.requires.last) (omega (arith, ints, c.end.ensures, c.if-end-reading.false))

pub returns-clause-role : goal.returns-clause-role
returns-clause-role c =
    search (arith, last_or-read, open_at-in)
