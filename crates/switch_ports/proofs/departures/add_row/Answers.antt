use Rattle.net_plan.proofs.SameIds.{same_device}
use Rattle.switch_ports.proofs.{RowKeys.row_kept, Words.{subst, sym, unwrap_or, ℕ}}
use Rattle.switch_ports.proofs.Words.{◌++◌, ◌+◌, ◌∙◌, ◌∷◌, ◌≡◌, AreLeaving, Departure, None, Option, Some, [], ap, length, slice_get-get_or, slice_set}
use Rattle.switch_ports.proofs.departures.add_row.Goals as goal

pub returns : goal.returns
returns c network is are =
    let rows = c.args.rows.now.items in
    let lasts = c.args.lasts.now.items in
    let vl = c.args.entry.now.row.vl.0 in
    let place : c.len-place.result ≡ length rows = c.len-place.ensures ∙ c.args.rows.now.ok.0 in
    let last = c.index.ensures ∙ sym (ap (λ (o : Option (Option ℕ)). unwrap_or o None) (slice_get-get_or lasts vl c.index.result.now c.requires.vl)) in
    subst (λ ds. AreLeaving network c.args.device (c.args.row.0 + 1) ds (slice_set lasts vl (Some c.len-place.result)))
    (sym (c.in_ok-push.ensures.items ∙ ap (λ (d : Departure). rows ++ d ∷ []) c.departure_of.ensures))
    (row_kept c.args.row c.len-place.result c.index.result.now is
    (sym c.source.ensures ∙ same_device c.source.result c.args.device c.if-source-device.false) place last c.requires.vl are)
