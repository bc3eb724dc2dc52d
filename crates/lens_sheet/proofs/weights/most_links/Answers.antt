use Rattle.net_plan.{proofs.Trees.greatest_of_channels}
use Rattle.net_plan.{specs.{Bounds.{IsGreatest, IsOfPath}, declared.ids.LinkId.LinkId}}
use Rattle.std.proofs.Common.{length, subst, sym}
use Rattle.lens_sheet.proofs.weights.most_links.Goals as goal

pub returns-clause-greatest : goal.returns-clause-greatest
returns-clause-greatest c =
    let n = c.args.network.now in
    subst (λ k. IsGreatest (IsOfPath n (length {A = LinkId})) k) (sym c.greater.ensures)
    (greatest_of_channels n (length {A = LinkId}) c.most_links_on.ensures.greatest
    c.most_links_on-2.ensures.greatest)
