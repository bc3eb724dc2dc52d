use Rattle.{lens_slack.proofs.least_lemmas.Greatests.{IsAmongFirst, all_first, none_first, one_more}, schedule_tables.specs.Delays.pcf_port_time}
use Rattle.std.proofs.{Common.{◌+◌, ◌∙◌, ◌≡◌, ap, arith, length, subst, sym, ℕ}, lemmas.Option.slice_get-get_or}
use Rattle.net_plan.proofs.Trees.{greatest_of_one}
use Rattle.{net_plan.specs.{Bounds.IsGreatest, declared.tables.Link.Link}, std.specs.Prelude.{Some, slice_get}}
use Rattle.lens_slack.proofs.least.parts.slowest_port.Goals as goal

-- a frame occupies the port for so long
abbrev Occupies : Link → ℕ → Type 0
Occupies k n = pcf_port_time k ≡ n

pub links-init : goal.links-init
links-init c = record { greatest = none_first Occupies c.args.network.now.link; bound = omega arith }

pub links-preserved : goal.links-preserved
links-preserved c =
    let n = c.args.network.now in
    let k = c.links.link-index in
    let link = c.link-item.result in
    let links = c.as_slice-link-items.result.now in
    let there : slice_get n.link k ≡ Some link = ap (λ xs. slice_get xs k) (sym c.as_slice-link-items.ensures) ∙ slice_get-get_or links k link c.links-test.true
    ∙ ap (λ (l : Link). Some l) (sym c.link-item.is) in
    let so_far = c.links.invariant in
    let this = c.pcf_port_time.ensures in
    let max = c.greater-slowest.ensures in
    let one = greatest_of_one (Occupies link) c.pcf_port_time.result (sym this.value) (λ m is. sym is ∙ sym this.value) in
    record {
      greatest =
          subst (λ m. IsGreatest (IsAmongFirst Occupies n.link (k + 1)) m) (sym max)
          (one_more Occupies n.link k link c.links.slowest c.pcf_port_time.result there so_far.greatest one);
      bound = omega (arith, max, so_far.bound, this.bound);
    }

pub returns-clause-greatest : goal.returns-clause-greatest
returns-clause-greatest c =
    let n = c.args.network.now in
    all_first Occupies n.link c.links.link-index c.links.slowest (omega (arith, c.links-test.false, ap length c.as_slice-link-items.ensures))
    c.links.invariant.greatest
