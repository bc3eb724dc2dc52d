use Rattle.audit_devices.proofs.Words.{◌∙◌, ◌≡◌, Entry, List, None, Option, Some, ap, last_or, option_map_or, slice_get-last, take}
use Rattle.audit_devices.proofs.history.History.shown_by.Goals as goal

pub returns-in-Some : goal.returns-in-Some
returns-in-Some c =
    let items = c.args.self.now.entries.items in
    let front = c.split_at.ensures.front ∙ ap (λ (xs : List Entry). take c.args.count xs) c.deref.ensures.value in
    let found : Some c.in-Some.entry.now ≡ last_or None (take c.args.count items) =
    c.in-Some.ensures.value ∙ slice_get-last c.split_at.result.0.now ∙ ap (λ (xs : List Entry). last_or None xs) front in
    ap (λ (o : Option Entry). option_map_or (λ (e : Entry). e.shown) o c.args.self.now.first) found

pub returns-in-None : goal.returns-in-None
returns-in-None c =
    let items = c.args.self.now.entries.items in
    let front = c.split_at.ensures.front ∙ ap (λ (xs : List Entry). take c.args.count xs) c.deref.ensures.value in
    let found : None ≡ last_or None (take c.args.count items) =
    c.in-None.ensures.value ∙ slice_get-last c.split_at.result.0.now ∙ ap (λ (xs : List Entry). last_or None xs) front in
    ap (λ (o : Option Entry). option_map_or (λ (e : Entry). e.shown) o c.args.self.now.first) found
