use Rattle.std.proofs.Common.{◌+◌, ◌∙◌, ◌≡◌, ap, arith, length, subst, sym}
use Rattle.lens_slack.proofs.Spots.{Below, begin_at, next_tightest, none_below, tightest_of_all}
use Rattle.{lens_slack.specs.Bounds.IsBeginBound, net_plan.specs.declared.tables.Link.Link, std.specs.Prelude.{Some, slice_get}}
use Rattle.{lens_slack.specs.Tightest.IsFirstTightest, std.proofs.lemmas.Option.{slice_get-get_or, slice_get_within}}
use Rattle.lens_slack.proofs.bounds.begin_bound.Goals as goal

pub links-init : goal.links-init
links-init c = record { so_far = none_below (IsBeginBound c.args.network.now); small = tt }

pub links-preserved : goal.links-preserved
links-preserved c =
    let network = c.args.network.now in
    let n = c.links.link-index in
    let link = c.link-item.result in
    let links = c.as_slice-link-items.result.now in
    let there : slice_get network.link n ≡ Some link =
    ap (λ xs. slice_get xs n) (sym c.as_slice-link-items.ensures) ∙ slice_get-get_or links n link c.links-test.true
    ∙ ap (λ (l : Link). Some l) (sym c.link-item.is) in
    let at = begin_at network n link c.begin_with.result there c.begin_with.ensures.value in
    record {
      so_far = subst (λ o. IsFirstTightest (Below (IsBeginBound network) (n + 1)) o) (sym c.tighter_of-best.ensures.value)
          (next_tightest (IsBeginBound network) n c.links.best (Some c.begin_with.result) c.links.invariant.so_far at);
      small = c.tighter_of-best.ensures.small;
    }

pub returns-clause-tightest : goal.returns-clause-tightest
returns-clause-tightest c =
    let network = c.args.network.now in
    tightest_of_all (IsBeginBound network) c.links.link-index c.links.best
    (λ n f bound.
    let within = slice_get_within network.link n bound.0 bound.1 in
    omega (arith, within, c.links-test.false, ap length c.as_slice-link-items.ensures))
    c.links.invariant.so_far
