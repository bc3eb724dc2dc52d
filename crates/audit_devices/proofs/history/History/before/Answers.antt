use Rattle.audit_devices.proofs.Kept.{last_kept}
use Rattle.audit_devices.proofs.Words.{◌∙◌, ◌≡◌, Bool, Entry, List, None, Option, Shown, Some, ap, is_before, last_or, option_map_or, slice_get-last, sym, true}
use Rattle.audit_devices.proofs.history.History.before.Goals as goal

pub returns-then-is_before : goal.returns-then-is_before
returns-then-is_before c order =
    let items = c.args.self.now.entries.items in
    let first : Shown = c.args.self.now.first in
    let last : Entry = c.in-Some.last.now in
    let test : Entry → Bool = λ e. is_before e.place c.args.place.now in
    let found : Some last ≡ last_or None items =
    c.in-Some.ensures.value ∙ slice_get-last c.deref.result.now ∙ ap (λ (xs : List Entry). last_or None xs) c.deref.ensures.value in
    let passes : test last ≡ true = sym c.is_before.ensures ∙ c.if-is_before.true in
    let kept = last_kept test items None None last (λ same. same) passes (sym found) in
    ap (λ (o : Option Entry). option_map_or (λ (e : Entry). e.shown) o first) (sym kept)
