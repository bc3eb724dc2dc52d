use Rattle.{std.proofs.Common.{◌≡◌, rules, subst, sym}, tte_units.{proofs.Means.mean_of-floor, specs.Mean.{IsMean, mean_of}}}
use Rattle.tte_units.proofs.units.mean.Goals as goal

pub returns-clause-floor : goal.returns-clause-floor
returns-clause-floor c =
    let a = c.args.a.0 in
    let b = c.args.b.0 in
    let value : c.div_euclid.result ≡ mean_of a b = search rules in
    subst (λ m. IsMean a b m) (search rules) (subst (λ m. IsMean a b m) (sym value) (mean_of-floor a b))
