use Rattle.audit_devices.proofs.Words.{◌∙◌, ◌≡◌, ◌≤◌, Entry, List, Option, Some, ap, arith, false, got_at, length, nat_lt, option_map, slice_get, subst}
use Rattle.audit_devices.proofs.Words.{sym, time_at, ℕ}
use Rattle.std.proofs.lemmas.{Bool.ltb-true, Option.slice_get_past}
use Rattle.audit_devices.proofs.history.History.time_behind.Goals as goal

pub returns-in-Some : goal.returns-in-Some
returns-in-Some c =
    let items = c.args.self.now.entries.items in
    let count = c.args.count in
    let found : slice_get items count ≡ Some c.in-Some.entry.now =
    subst (λ (xs : List Entry). slice_get xs count ≡ Some c.in-Some.entry.now) c.deref.ensures.value
    (got_at c.deref.result.now count c.in-Some.entry.now (ltb-true count (length c.deref.result.now) (sym c.in-Some.ensures.lookup.0))
    c.in-Some.ensures.lookup.1) in
    ap Some c.time.ensures ∙ sym (ap (λ (o : Option Entry). option_map (λ (e : Entry). time_at e.place) o) found)

pub returns-in-None : goal.returns-in-None
returns-in-None c =
    let items = c.args.self.now.entries.items in
    let count = c.args.count in
    let none : length items ≤ count = subst (λ xs. length xs ≤ count) c.deref.ensures.value
    (not_less count (length c.deref.result.now) (sym c.in-None.ensures.lookup.0)) in
    sym (ap (λ (o : Option Entry). option_map (λ (e : Entry). time_at e.place) o) (slice_get_past items count none))
  where
    not_less : (a b : ℕ) → nat_lt a b ≡ false → b ≤ a
    not_less a b e = grind (arith)
