use Rattle.{net_plan.specs.declared.{event.Event.Event, network.Network.Network}, std.{proofs.Common.{◌∙◌, ◌≡◌, Bool, List}, specs.Bool.Decides}}
use Rattle.run_law.specs.{declared.outside.Outside.Outside, scenario.Hypothesis.Violates}
use Rattle.fault_hypothesis.proofs.watch.Watch.violates.Goals as goal

-- what the test of a condition decides over an equal network is what that of an equal condition does
judged : (m n : Network) (es : List Event) (e : Event) (k c : Outside) (r : Bool) → c ≡ k → m ≡ n
    → Decides r (Violates m es e k) → Decides r (Violates n es e c)
judged m n es e k c r is same decides =
    rw is (rw same at decides)

pub returns-in-Late : goal.returns-in-Late
returns-in-Late c = λ n es w of. judged _ n es _ _ _ _ c.in-Late.is (c.network-network.ensures.value ∙ w.over) c.comes_too_late.ensures

pub returns-in-Rate : goal.returns-in-Rate
returns-in-Rate c = λ n es w of. judged _ n es _ _ _ _ c.in-Rate.is (c.network-network.ensures.value ∙ w.over) c.sets_fast_rate.ensures

pub returns-in-Wire : goal.returns-in-Wire
returns-in-Wire c = λ n es w of. judged _ n es _ _ _ _ c.in-Wire.is (c.network-network.ensures.value ∙ w.over) c.sets_other_wire.ensures

pub returns-in-Hold : goal.returns-in-Hold
returns-in-Hold c = λ n es w of. judged _ n es _ _ _ _ c.in-Hold.is (c.network-network.ensures.value ∙ w.over) c.sets_long_hold.ensures

pub returns-in-NotMaster : goal.returns-in-NotMaster
returns-in-NotMaster c = λ n es w of. judged _ n es _ _ _ _ c.in-NotMaster.is (c.network-network.ensures.value ∙ w.over) c.breaks_no_master.ensures
