use Rattle.end_system.proofs.{Words.{◌∙◌, ap, sym}}
use Rattle.end_system.proofs.Ripe.{is_ignored, is_not_on, is_on, point_high, point_low, ripe_at, small_now}
use Rattle.end_system.proofs.Ripe.{stands_later}
use Rattle.run_law.specs.{device.States.is_off, machines.Calls.IsHearing}
use Rattle.end_system.proofs.end_system.EndSystemMachine.ripen.Goals as goal

pub heard_as-requires : goal.heard_as-requires
heard_as-requires c =
    let node = c.requires.2 in
    let stands = c.requires.3 in
    let hearing : IsHearing c.requires.0 c.requires.1 node =
    record {
      linked = stands.own.linked;
      on = is_on stands (sym (c.is_off.ensures ∙ ap is_off c.state.ensures) ∙ c.if-is_off.false);
      sound = stands.sound;
    }
    in
    let ripens = c.requires.4.ripens hearing in
    record {
      range = stands.own.range;
      small = small_now stands;
      low = point_low stands.own stands.begun c.requires.4.call ripens;
      high = point_high c.requires.4.call ripens;
    }

pub join-requires : goal.join-requires
join-requires c =
    let node = c.requires.2 in
    let stands = c.requires.3 in
    let hearing : IsHearing c.requires.0 c.requires.1 node =
    record {
      linked = stands.own.linked;
      on = is_on stands (sym (c.is_off.ensures ∙ ap is_off c.state.ensures) ∙ c.if-is_off.false);
      sound = stands.sound;
    }
    in (
      c.requires.0,
      c.requires.1,
      node,
      stands,
      (c.args.link, record { call = c.requires.4.call; ripens = c.requires.4.ripens hearing; integrates = sym c.heard_as.ensures ∙ c.in-Integrates.is }),
    )

pub returns-then-is_off : goal.returns-then-is_off
returns-then-is_off c = λ network device node stands may hearing ripens.
    absurd (is_not_on stands (sym (c.is_off.ensures ∙ ap is_off c.state.ensures) ∙ c.if-is_off.true) hearing.on)

pub returns-in-Within : goal.returns-in-Within
returns-in-Within c = λ network device node stands may hearing ripens. (
  ripe_at c.args.frame.now c.args.point _ stands (sym c.in-Within.is ∙ c.heard_as.ensures),
  c.keep.ensures network device node stands may ripens (sym c.heard_as.ensures ∙ c.in-Within.is),
)

pub returns-in-Outside : goal.returns-in-Outside
returns-in-Outside c = λ network device node stands may hearing ripens. (
  ripe_at c.args.frame.now c.args.point _ stands (sym c.in-Outside.is ∙ c.heard_as.ensures),
  c.keep-in-Outside.ensures network device node stands may ripens (sym c.heard_as.ensures ∙ c.in-Outside.is),
)

pub returns-in-Integrates : goal.returns-in-Integrates
returns-in-Integrates c = λ network device node stands may hearing ripens. (
  ripe_at c.args.frame.now c.args.point _ stands (sym c.in-Integrates.is ∙ c.heard_as.ensures),
  c.join.ensures network device node c.args.link stands (record { call = may; ripens = ripens; integrates = sym c.heard_as.ensures ∙ c.in-Integrates.is }),
)

pub returns-in_default : goal.returns-in_default
returns-in_default c = λ network device node stands may hearing ripens.
    let ignored = is_ignored c.args.self.now.own c.args.self.now.sync c.args.frame.now c.args.point c.heard_as.result c.heard_as.ensures c.in_default.not-Within
    c.in_default.not-Outside c.in_default.not-Integrates in (
      ripe_at c.args.frame.now c.args.point _ stands (sym ignored ∙ c.heard_as.ensures),
      stands_later _ stands may.later,
    )
