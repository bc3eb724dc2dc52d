use Rattle.audit_devices.proofs.{Kept.{kept_on, kept_still, none_later}, KeptAll.{on_ok, place_met}}
use Rattle.audit_devices.proofs.{Words.{if◌then◌else◌, effect_of, subst, sym, ℕ}}
use Rattle.audit_devices.proofs.Words.{◌++◌, ◌∙◌, ◌∷◌, ◌≡◌, Bool, Entry, Keeps, List, Nothing, Shows, [], ap, carried_by, effect_by}
use Rattle.audit_devices.proofs.history.History.take.Goals as goal

pub returns : goal.returns
returns c s hs h is met all keeps =
    let device = c.args.device in
    let old = c.args.self.now in
    let new = c.push.new.self in
    let shown = c.after-shown.result in
    let entry : List ℕ → Entry = λ p. record { place = p; shown = shown } in
    let shows = c.after-shown.ensures s hs h is met (none_later hs h all) (subst (Shows s hs device) (sym c.latest.ensures) keeps.latest) in
    let place = c.of.ensures ∙ place_met met in
    on_ok c.push.result (Keeps s (hs ++ h ∷ []) device new)
    (λ ok.
    let items = c.push.ensures.entries
    ∙ ap (λ (b : Bool). if b then old.entries.items ++ entry c.of.result ∷ [] else old.entries.items) ok
    ∙ ap (λ p. old.entries.items ++ entry p ∷ []) place in
    kept_on h new all c.push.ensures.first items shows keeps)

pub returns-then-shows_nothing : goal.returns-then-shows_nothing
returns-then-shows_nothing c s hs h is met all keeps =
    let device = c.args.device in
    let network = c.args.network.now in
    let carried = c.args.carried in
    let nothing : effect_of s.network device h ≡ Nothing = ap (λ n. effect_by n device (carried_by h) h.note.body) is
    ∙ ap (λ x. effect_by network device x h.note.body) (sym met.frame)
    ∙ ap (effect_by network device carried) met.body_is
    ∙ c.shows_nothing.ensures.0 c.if-shows_nothing.true in
    kept_still h nothing keeps
