use Rattle.fault_hypothesis.proofs.watch.Watch.turns_on_again.Goals.{else-begins_on, then-begins_on}
use Rattle.net_plan.specs.{Belonging.IsOfNetwork, declared.{event.What.What, ids.DeviceId.DeviceId}}
use Rattle.{run_law.specs.scenario.Faults.{BeginsOn, IsBroken, IsTurnedOn}, std.proofs.Common.{◌∙◌, ◌≡◌, Bool, false, inl, inr, subst, sym, true}}
use Rattle.net_plan.specs.declared.event.What.TheVariants as whats
use Rattle.fault_hypothesis.proofs.watch.Watch.turns_on_again.Goals as goal

same_device : (what : What) (one other : DeviceId) → what ≡ whats.On one → what ≡ whats.On other → one ≡ other
same_device what one other a b = cc

contrary : (test : Bool) → test ≡ true → test ≡ false → ⊥
contrary test a b = absurd cc

pub returns-then-is_turned_on : goal.returns-then-is_turned_on
returns-then-is_turned_on c = λ network admitted w of_network.
    let same = c.network.ensures.value ∙ w.over in
    let has = subst (IsOfNetwork network) c.in-On.is of_network in (
      λ t. record {
        device = c.in-On.device;
        what = c.in-On.is;
        known = elim c.if-begins_on.branch [
          | then-begins_on x ↦ inl (rw same at (c.begins_on.ensures.0 x.if-begins_on.true))
          | else-begins_on x ↦ inr (inl ((x.is_turned_on.ensures network admitted w has).0 (sym x.value-is ∙ c.if-is_turned_on.true)))
        ];
      },
      λ v. c.if-is_turned_on.true,
    )

pub returns-else-is_turned_on : goal.returns-else-is_turned_on
returns-else-is_turned_on c = λ network admitted w of_network.
    let same = c.network.ensures.value ∙ w.over in
    let has = subst (IsOfNetwork network) c.in-On.is of_network in (
      λ t. record { device = c.in-On.device; what = c.in-On.is; known = inr (inr ((c.is_broken.ensures network admitted w).0 t)) },
      λ v.
          let one = same_device _ v.device c.in-On.device v.what c.in-On.is in
          elim c.if-begins_on.branch [
            | then-begins_on x ↦ absurd (contrary _ (x.value-is ∙ x.if-begins_on.true) c.if-is_turned_on.false)
            | else-begins_on x ↦ elim v.known [
              | inl begins ↦
                  let yes = c.begins_on.ensures.1 (rw same (subst (BeginsOn network) one begins)) in
                  absurd (contrary _ yes x.if-begins_on.false)
              | inr (inl on) ↦
                  let yes = (x.is_turned_on.ensures network admitted w has).1 (subst (IsTurnedOn admitted) one on) in
                  absurd (contrary _ yes (sym x.value-is ∙ c.if-is_turned_on.false))
              | inr (inr broken) ↦ (c.is_broken.ensures network admitted w).1 (subst (IsBroken admitted) one broken)
            ]
          ],
    )
