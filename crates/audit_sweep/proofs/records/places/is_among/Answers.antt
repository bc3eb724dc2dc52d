use Rattle.std.{proofs.lemmas.Bool.ltb-true, specs.Prelude.slice_get}
use Rattle.run_law.{proofs.law.FirstDeliveries.in_at, specs.records.Order.IsIn}
use Rattle.{std.proofs.Common.{◌≡◌, Some, length, subst, sym}, tte_units.proofs.general_lemmas.Lists.got_at}
use Rattle.audit_sweep.proofs.records.places.is_among.Goals as goal

pub returns-in-Some : goal.returns-in-Some
returns-in-Some c = λ is.
    let places = c.args.places.now in
    let k = c.partition_point-count.result in
    let found = c.in-Some.found.now in
    let got : slice_get places k ≡ Some found = got_at places k found (ltb-true k (length places) (sym c.in-Some.ensures.lookup.0)) c.in-Some.ensures.lookup.1 in
    subst (λ q. IsIn q places) (c.is_same.ensures.0 is) (in_at places k found got)
