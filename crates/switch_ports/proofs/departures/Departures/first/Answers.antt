use Rattle.switch_ports.proofs.Words.{◌^◌, ◌∙◌, ◌≡◌, Departure, List, None, Option, Some, ap, length, option_and_then, refl, slice_get, subst, sym, ℕ}
use Rattle.std.proofs.{Common.◌%◌, lemmas.Option.{slice_get_past, slice_get_read}}
use Rattle.switch_ports.{proofs.RowKeys.first_of, specs.Leaving.{IsFirstOf, dispatch_by}}
use Rattle.switch_ports.proofs.departures.Departures.first.Goals as goal

pub returns-in-Some : goal.returns-in-Some
returns-in-Some c =
    let ds = c.args.self.now in
    let key = c.least.result in
    let at : slice_get ds.rows.items (c.order_of-place.result % 2 ^ 32) ≡ Some c.in-Some.departure.now =
    subst (λ (l : List Departure). slice_get l (c.order_of-place.result % 2 ^ 32) ≡ Some c.in-Some.departure.now) c.deref.ensures.value
    (slice_get_read c.deref.result.now (length c.deref.result.now) (c.order_of-place.result % 2 ^ 32) c.in-Some.departure.now refl c.in-Some.ensures.lookup.3.0
    c.in-Some.ensures.lookup.1) in
    subst (IsFirstOf c.args.adjustment.0 ds.rows.items) (sym c.dispatch.ensures)
    (subst (λ (o : Option Departure). IsFirstOf c.args.adjustment.0 ds.rows.items (option_and_then (dispatch_by c.args.adjustment.0) o))
    (ap (λ (n : ℕ). slice_get ds.rows.items (n % 2 ^ 32)) (sym c.order_of-place.ensures) ∙ at)
    (first_of c.args.adjustment.0 key c.requires.ready c.least.ensures.least c.least.ensures.is))

pub returns-in-None : goal.returns-in-None
returns-in-None c =
    let ds = c.args.self.now in
    let key = c.least.result in
    let at : slice_get ds.rows.items (c.order_of-place.result % 2 ^ 32) ≡ None =
    subst (λ (l : List Departure). slice_get l (c.order_of-place.result % 2 ^ 32) ≡ None) c.deref.ensures.value
    (slice_get_past c.deref.result.now (c.order_of-place.result % 2 ^ 32) c.in-None.ensures.lookup.3) in
    subst (λ (o : Option Departure). IsFirstOf c.args.adjustment.0 ds.rows.items (option_and_then (dispatch_by c.args.adjustment.0) o))
    (ap (λ (n : ℕ). slice_get ds.rows.items (n % 2 ^ 32)) (sym c.order_of-place.ensures) ∙ at)
    (first_of c.args.adjustment.0 key c.requires.ready c.least.ensures.least c.least.ensures.is)
