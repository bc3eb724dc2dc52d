use Rattle.std.proofs.{Common.{◌≡◌, rules, subst, tests}, lemmas.Iterator.{IsFirst-from_position, YieldsList-from_slice}}
use Rattle.net_plan.{proofs.Trees.{IsFound, none_at, none_below, some_at}}
use Rattle.net_plan.{specs.{Places.IsSwitchOf, declared.tables.Link.Link}}
use Rattle.net_plan.proofs.network.Network.uplink.Goals as goal

pub returns-in_err-place-clause-none : goal.returns-in_err-place-clause-none
returns-in_err-place-clause-none c =
    let xs = c.args.self.now.link in
    let Leads : Link → Type 0 = λ l. (l.child ≡ c.args.device) × IsSwitchOf c.args.self.now c.args.channel l.parent in
    let found = IsFirst-from_position _ _ c.position.result Leads (λ l. Leads l → ⊥) c.position.ensures.ran (YieldsList-from_slice xs cc)
    (λ x q k. search (rules, tests)) (λ x q k. search (rules, tests)) in
    rw c.from_residual.ensures (λ link h. none_at Leads xs link.0 (subst (IsFound Leads xs) c.in_err-place.was found) h)

pub returns-clause-first : goal.returns-clause-first
returns-clause-first c =
    let xs = c.args.self.now.link in
    let Leads : Link → Type 0 = λ l. (l.child ≡ c.args.device) × IsSwitchOf c.args.self.now c.args.channel l.parent in
    let found = IsFirst-from_position _ _ c.position.result Leads (λ l. Leads l → ⊥) c.position.ensures.ran (YieldsList-from_slice xs cc)
    (λ x q k. search (rules, tests)) (λ x q k. search (rules, tests)) in
    let at = subst (IsFound Leads xs) c.in_ok-place.was found in
    record { leads = some_at Leads xs c.in_ok-place.place at.0 at.1; first = λ earlier below. none_below Leads xs earlier.0 c.in_ok-place.place below at.2 }
