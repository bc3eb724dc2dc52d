use Rattle.audit_devices.proofs.Words.{◌∙◌, ◌≡◌, Entry, List, None, Option, Shown, Some, ap, last_or, option_map_or, slice_get-last}
use Rattle.audit_devices.proofs.history.History.latest.Goals as goal

pub returns-in-Some : goal.returns-in-Some
returns-in-Some c =
    let first : Shown = c.args.self.now.first in
    let found : Some c.in-Some.entry.now ≡ last_or None c.args.self.now.entries.items =
    c.in-Some.ensures.value ∙ slice_get-last c.deref.result.now ∙ ap (λ (xs : List Entry). last_or None xs) c.deref.ensures.value in
    ap (λ (o : Option Entry). option_map_or (λ (e : Entry). e.shown) o first) found

pub returns-in-None : goal.returns-in-None
returns-in-None c =
    let first : Shown = c.args.self.now.first in
    let found : None ≡ last_or None c.args.self.now.entries.items =
    c.in-None.ensures.value ∙ slice_get-last c.deref.result.now ∙ ap (λ (xs : List Entry). last_or None xs) c.deref.ensures.value in
    ap (λ (o : Option Entry). option_map_or (λ (e : Entry). e.shown) o first) found
