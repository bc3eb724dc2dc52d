use Rattle.std.proofs.Common.{◌+◌, ◌∙◌, ◌≤◌, ap, arith, drop, drop-drop, length, length-append, length-drop, refl, sym, take}
use Rattle.{std.proofs.lemmas.List.{drop_all, length-take}, tte_io.{proofs.Taken.given_front}}
use Rattle.tte_io.proofs.sources.MemorySourceSource.read.Goals as goal

pub returns-clause-octets : goal.returns-clause-octets
returns-clause-octets c =
    let s = c.self.inside in
    let n = c.min-count.result in
    let state = ap (λ s. s.left) c.self.view_is in
    let left = c.split_at.ensures.back ∙ (rw c.deref.ensures.value state) in
    let copy =
    c.copy_from_slice.ensures.after ∙ c.split_at-2.ensures.front ∙ ap (λ l. take n l) left in
    let size = ap (λ l. length l) left in
    let within : n ≤ length c.args.self.now.left = omega (arith, size, c.min.ensures, c.min-count.ensures) in (
      given_front s.octets.items _ _ (drop n c.args.buf.now) s.taken n state copy within,
      λ zero some. drop_all (s.taken + n) s.octets.items
          (omega (
            arith,
            ap (λ l. length l) state,
            length-drop s.taken s.octets.items,
            length-take n c.args.buf.now,
            length-append c.copy_from_slice.new.self (drop n c.args.buf.now),
            length-drop n c.args.buf.now,
            c.copy_from_slice.ensures.len,
            c.min.ensures,
            c.min-count.ensures,
            c.self.invariant.1,
          )),
    )

pub returns-clause-ok : goal.returns-clause-ok
returns-clause-ok c =
    let s = c.self.inside in
    let calls = c.next_fails.ensures in
    rw (sym c.self.view_is, drop-drop c.min-count.result s.taken s.octets.items, calls.counts, calls.failing) refl
