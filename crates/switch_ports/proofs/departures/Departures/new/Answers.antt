use Rattle.{device_rules.specs.least_key.Trees.no_key, switch_ports.proofs.Words.{◌∙◌, ◌≡◌, AreLeaving, ap, arith, length, refl, subst}}
use Rattle.std.proofs.Common.{replicate}
use Rattle.switch_ports.proofs.RowKeys.{fresh_keys, leaving_none}
use Rattle.switch_ports.proofs.departures.Departures.new.Goals as goal

pub loop-place-init : goal.loop-place-init
loop-place-init c = rw c.new-rows.ensures.items (leaving_none c.args.network.now c.args.device c.in_ok-lasts.lasts.items c.in_ok-lasts.ensures)

pub returns : goal.returns
returns c =
    let network = c.args.network.now in
    let rows = c.loop-place.rows in
    let end = ap (λ xs. length xs) c.as_slice-place-end.ensures in
    let all : c.loop-place.place ≡ length network.row = omega (arith, c.loop-place-test.false, c.loop-place.auto.place-end, end) in
    let size : c.len.result ≡ length rows.items = c.len.ensures ∙ rows.ok.0 in
    record {
      rows = subst (λ n. AreLeaving network c.args.device n rows.items c.loop-place.lasts.items) all c.loop-place.invariant;
      keys = c.in_ok-keys.ensures ∙ ap (λ n. replicate n no_key) size ∙ fresh_keys rows.items (λ k d lt. (c.loop-place.invariant.each k d lt).awaited);
      next = refl;
    }
