use Rattle.{audit_sweep.proofs.records_lemmas.AscendingPlaces.of_map, run_law.specs.records.Order.IsIn, std.proofs.Common.{refl, subst}}
use Rattle.audit_sweep.proofs.records.places.Places.has.Goals as goal

pub returns-then-is_among : goal.returns-then-is_among
returns-then-is_among c = λ hs are.
    let p = c.args.place.now in
    let there : IsIn p c.args.self.now = c.between.ensures p (c.is_among.ensures c.if-is_among.true) in
    (λ is. of_map p hs (subst (λ xs. IsIn p xs) are.same there), λ has. refl)
