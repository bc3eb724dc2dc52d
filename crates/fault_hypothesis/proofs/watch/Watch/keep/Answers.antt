use Rattle.fault_hypothesis.proofs.Keeping.{all_of_network, broken_breaks, broken_stays, faulty_cut, faulty_stays}
use Rattle.fault_hypothesis.proofs.Keeping.{faulty_uncut, on_stays, on_turns}
use Rattle.{net_plan.specs.Belonging.IsOfNetwork}
use Rattle.net_plan.specs.declared.{event.What.What, ids.{DeviceId.DeviceId, LinkId.LinkId}, tables.Way.Way}
use Rattle.run_law.proofs.scenario.Devices.{all_within}
use Rattle.std.proofs.Common.{◌∙◌, ◌≡◌, ap, arith, length, length-set, refl, subst, sym, true}
use Rattle.{schedule_tables.specs.{Rules.KeepsRules, declared.rule.Rule.TheVariants.Limits}}
use Rattle.net_plan.specs.declared.event.What.TheVariants as kinds
use Rattle.fault_hypothesis.proofs.watch.Watch.keep.Goals as goal

-- no event is of two kinds
cut_breaks_not : (w : What) (l : LinkId) (way : Way) (d : DeviceId) → w ≡ kinds.Cut l way → w ≡ kinds.Break d → ⊥
cut_breaks_not w l way d is also = cc

cut_turns_not : (w : What) (l : LinkId) (way : Way) (d : DeviceId) → w ≡ kinds.Cut l way → w ≡ kinds.On d → ⊥
cut_turns_not w l way d is also = cc

on_breaks_not : (w : What) (on d : DeviceId) → w ≡ kinds.On on → w ≡ kinds.Break d → ⊥
on_breaks_not w on d is also = cc

-- a cut, where no channel was faulty
pub returns-then-is_none : goal.returns-then-is_none
returns-then-is_none c = λ network admitted w of_network within.
    let rules = subst KeepsRules w.over c.network-network.ensures.rules in
    let on = rw (c.network-network.ensures.value ∙ w.over) at c.channel_of-self.ensures in
    record {
      over = w.over;
      of_network = all_of_network network admitted c.args.event.now w.of_network of_network;
      within = all_within network admitted c.args.event.now w.within within;
      last = (admitted, c.args.event.now, refl, refl);
      broken = broken_stays admitted c.args.event.now c.args.self.now.broken (λ d b. cut_breaks_not _ _ _ d c.in-Cut.is b) w.broken;
      faulty =
          faulty_cut network admitted c.args.event.now c.in-Cut.link c.in-Cut.field-1 c.args.self.now.faulty c.channel_of-self.result rules w.of_network
          c.in-Cut.is on c.if-is_none.ensures w.faulty;
      turned_on = on_stays network admitted c.args.event.now c.args.self.now.turned_on (λ d b. cut_turns_not _ _ _ d c.in-Cut.is b) w.turned_on;
    }

-- a cut, where a channel was faulty
pub returns-else-is_none : goal.returns-else-is_none
returns-else-is_none c = λ network admitted w of_network within.
    let rules = subst KeepsRules w.over c.network-network.ensures.rules in
    record {
      over = w.over;
      of_network = all_of_network network admitted c.args.event.now w.of_network of_network;
      within = all_within network admitted c.args.event.now w.within within;
      last = (admitted, c.args.event.now, refl, refl);
      broken = broken_stays admitted c.args.event.now c.args.self.now.broken (λ d b. cut_breaks_not _ _ _ d c.in-Cut.is b) w.broken;
      faulty = faulty_stays network admitted c.args.event.now c.args.self.now.faulty rules c.if-is_none.ensures w.faulty;
      turned_on = on_stays network admitted c.args.event.now c.args.self.now.turned_on (λ d b. cut_turns_not _ _ _ d c.in-Cut.is b) w.turned_on;
    }

pub returns-in-On : goal.returns-in-On
returns-in-On c = λ network admitted w of_network within.
    let few = ((subst KeepsRules w.over c.network-network.ensures.rules) Limits 0).devices refl in
    let room : length c.args.self.now.turned_on ≡ 64 = sym (length-set c.args.self.now.turned_on c.in-On.device.0 true) ∙ ap length (sym c.turn_on.ensures)
    ∙ c.turn_on.array_long in
    record {
      over = w.over;
      of_network = all_of_network network admitted c.args.event.now w.of_network of_network;
      within = all_within network admitted c.args.event.now w.within within;
      last = (admitted, c.args.event.now, refl, refl);
      broken = broken_stays admitted c.args.event.now c.args.self.now.broken (λ d b. on_breaks_not _ _ d c.in-On.is b) w.broken;
      faulty = faulty_uncut network admitted c.args.event.now c.args.self.now.faulty (λ l b. cut_turns_not _ l b.0 _ b.1 c.in-On.is) w.faulty;
      turned_on =
          rw c.turn_on.ensures (on_turns network admitted c.args.event.now c.in-On.device c.args.self.now.turned_on (omega (arith, room))
          (subst (IsOfNetwork network) c.in-On.is of_network) c.in-On.is w.turned_on);
    }

pub returns-in-Break : goal.returns-in-Break
returns-in-Break c = λ network admitted w of_network within.
    record {
      over = w.over;
      of_network = all_of_network network admitted c.args.event.now w.of_network of_network;
      within = all_within network admitted c.args.event.now w.within within;
      last = (admitted, c.args.event.now, refl, refl);
      broken = broken_breaks network admitted c.args.event.now c.in-Break.device c.args.self.now.broken within c.in-Break.is w.broken;
      faulty = faulty_uncut network admitted c.args.event.now c.args.self.now.faulty (λ l b. cut_breaks_not _ l b.0 _ b.1 c.in-Break.is) w.faulty;
      turned_on = on_stays network admitted c.args.event.now c.args.self.now.turned_on (λ d b. on_breaks_not _ d _ b c.in-Break.is) w.turned_on;
    }

pub returns-in_default : goal.returns-in_default
returns-in_default c = λ network admitted w of_network within.
    record {
      over = w.over;
      of_network = all_of_network network admitted c.args.event.now w.of_network of_network;
      within = all_within network admitted c.args.event.now w.within within;
      last = (admitted, c.args.event.now, refl, refl);
      broken = broken_stays admitted c.args.event.now c.args.self.now.broken (λ d b. c.in_default.not-Break d b) w.broken;
      faulty = faulty_uncut network admitted c.args.event.now c.args.self.now.faulty (λ l b. c.in_default.not-Cut l b.0 b.1) w.faulty;
      turned_on = on_stays network admitted c.args.event.now c.args.self.now.turned_on (λ d b. c.in_default.not-On d b) w.turned_on;
    }
