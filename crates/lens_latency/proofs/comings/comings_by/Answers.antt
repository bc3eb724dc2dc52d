use Rattle.lens_latency.{proofs.Latencies.part_names, specs.{Comings.IsPartOf, declared.comings.Coming.Coming}}
use Rattle.std.proofs.Common.{◌++◌, ◌∙◌, List, ap, subst, sym}
use Rattle.lens_latency.proofs.comings.comings_by.Goals as goal

pub returns-clause-are : goal.returns-clause-are
returns-clause-are c =
    let pushed = c.in_ok-push_comings.ensures in
    let same = pushed.2 ∙ ap (λ (xs : List Coming). xs ++ pushed.0) c.new-comings.ensures.items in
    subst (λ xs. IsPartOf c.args.network.now c.args.vl.0 xs) (sym same) pushed.1

pub returns-clause-names : goal.returns-clause-names
returns-clause-names c =
    let pushed = c.in_ok-push_comings.ensures in
    let same = pushed.2 ∙ ap (λ (xs : List Coming). xs ++ pushed.0) c.new-comings.ensures.items in
    let are = subst (λ xs. IsPartOf c.args.network.now c.args.vl.0 xs) (sym same) pushed.1 in
    part_names c.args.network.now c.args.vl.0 c.push_comings.new.comings.items c.requires.vl are
