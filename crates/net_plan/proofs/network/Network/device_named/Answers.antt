use Rattle.std.proofs.{Common.{◌≡◌, ◌≢◌, rules, subst, tests}, lemmas.Iterator.{IsFirst-from_position, YieldsList-from_slice}}
use Rattle.net_plan.{proofs.Bearing.{IsSearched, bearer_found, no_bearer}}
use Rattle.net_plan.proofs.network.Network.device_named.Goals as goal

pub returns-in_err-place-clause-none : goal.returns-in_err-place-clause-none
returns-in_err-place-clause-none c =
    let xs = c.args.self.now.device in
    let name = c.args.name.now in
    let found = IsFirst-from_position _ _ c.position.result (λ x. x.name ≡ name) (λ x. x.name ≢ name) c.position.ensures.ran (YieldsList-from_slice xs cc)
    (λ x q k. search (rules, tests)) (λ x q k. search (rules, tests)) in
    let absent = subst (IsSearched (λ x. x.name) xs name) c.in_err-place.was found in
    rw c.from_residual.ensures (no_bearer (λ x. x.name) xs name absent)

pub returns-clause-first : goal.returns-clause-first
returns-clause-first c =
    let xs = c.args.self.now.device in
    let name = c.args.name.now in
    let found = IsFirst-from_position _ _ c.position.result (λ x. x.name ≡ name) (λ x. x.name ≢ name) c.position.ensures.ran (YieldsList-from_slice xs cc)
    (λ x q k. search (rules, tests)) (λ x q k. search (rules, tests)) in
    bearer_found (λ x. x.name) xs name c.in_ok-place.place (subst (IsSearched (λ x. x.name) xs name) c.in_ok-place.was
    found)
