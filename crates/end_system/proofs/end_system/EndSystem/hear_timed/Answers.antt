use Rattle.device_rules.{proofs.Takings.{dropped_by, heard_by, is_whole}, specs.Headings.heading_fault}
use Rattle.end_system.proofs.{Corrections.not_fallen}
use Rattle.end_system.proofs.{Ripe.{clock_is, heading_at, local_range, small_now, stands_later, stands_with}}
use Rattle.end_system.proofs.Words.{◌+ℤ◌, ◌∙◌, SyncPlan, Units, ap, arith, arriving, ints, refl, standpoint_at, subst}
use Rattle.end_system.proofs.Words.{sym}
use Rattle.{device_rules.specs.Intakes.IsTakenSo, run_law.specs.machines.Nodes.local_at, std.proofs.Common.true}
use Rattle.end_system.proofs.end_system.EndSystem.hear_timed.Goals as goal

pub returns-in-Some : goal.returns-in-Some
returns-in-Some c = λ octets same network device node stands may arrives on. (
  sym (dropped_by network device c.args.link (standpoint_at node c.args.moment) octets c.args.heading.now node.taken c.in-Some.reason
      same
      (heading_at network device node c.args.self.now c.args.moment c.args.heading.now stands on
      ∙ ap (λ s. heading_fault true s c.args.self.now.own.marker c.args.heading.now) (sym c.state.ensures)
      ∙ sym c.fault.ensures.is ∙ c.in-Some.is)),
  stands_later arriving stands may.later,
)

pub take-requires-clause-length : goal.take-requires-clause-length
take-requires-clause-length c = c.requires.1.3.own.range.cycle

pub take-requires-clause-low : goal.take-requires-clause-low
take-requires-clause-low c =
    let stands = c.requires.1.3 in
    let may = c.requires.1.4.0 in
    let small = small_now stands in
    let r = local_range c.args.moment.reading.0 c.args.self.now.sync.adjustment.0 c.local_at-local.result.0
    (c.local_at-local.ensures ∙ ap (λ (u : Units). c.args.moment.reading.0 +ℤ u.0) c.adjustment.ensures)
    (not_fallen c.requires.1.2.last.reading.0 c.args.moment.reading.0 stands.begun may.later.reading) may.later.low_enough small.0 small.1 in
    let h = r.0 in omega (arith, ints, h)

pub take-requires-clause-high : goal.take-requires-clause-high
take-requires-clause-high c =
    let stands = c.requires.1.3 in
    let may = c.requires.1.4.0 in
    let small = small_now stands in
    let r = local_range c.args.moment.reading.0 c.args.self.now.sync.adjustment.0 c.local_at-local.result.0
    (c.local_at-local.ensures ∙ ap (λ (u : Units). c.args.moment.reading.0 +ℤ u.0) c.adjustment.ensures)
    (not_fallen c.requires.1.2.last.reading.0 c.args.moment.reading.0 stands.begun may.later.reading) may.later.low_enough small.0 small.1 in
    let h = r.1 in omega (arith, ints, h)

pub take-requires-clause-whole : goal.take-requires-clause-whole
take-requires-clause-whole c =
    let stands = c.requires.1.3 in
    is_whole c.requires.1.0 c.requires.1.1 c.args.self.now.entering c.requires.1.2.taken stands.own.in_range stands.entering

pub returns-in-Ok : goal.returns-in-Ok
returns-in-Ok c = λ octets same network device node stands may arrives on.
    let at = standpoint_at node c.args.moment in
    let begun = not_fallen node.last.reading.0 c.args.moment.reading.0 stands.begun may.later.reading in
    let clock = clock_is network device node c.args.self.now c.args.moment c.local_at-local.result.0 stands begun
    (c.local_at-local.ensures ∙ ap (λ (u : Units). c.args.moment.reading.0 +ℤ u.0) c.adjustment.ensures) in
    let none = heading_at network device node c.args.self.now c.args.moment c.args.heading.now stands on
    ∙ ap (λ s. heading_fault true s c.args.self.now.own.marker c.args.heading.now) (sym c.state.ensures)
    ∙ sym c.fault.ensures.is ∙ c.in_default.is in
    let judged = subst (IsTakenSo network device c.args.link c.args.heading.now at node.taken c.take.new.self) c.in-Ok.is
    (c.take.ensures.is network device at node.taken stands.entering arrives.at (ap (λ (p : SyncPlan). p.cycle_length) stands.own.plan) clock) in (
      sym (heard_by network device c.args.link at octets c.args.heading.now node.taken same none ∙ judged.0
          ∙ rw stands.own.end refl),
      stands_with network device node c.args.self.now c.args.moment stands may.later
          (judged.1 (record { vl = c.in-Ok.vl; cycle = c.in-Ok.cycle; at = local_at node c.args.moment }) refl refl),
    )

pub returns-in-Err : goal.returns-in-Err
returns-in-Err c = λ octets same network device node stands may arrives on.
    let at = standpoint_at node c.args.moment in
    let begun = not_fallen node.last.reading.0 c.args.moment.reading.0 stands.begun may.later.reading in
    let clock = clock_is network device node c.args.self.now c.args.moment c.local_at-local.result.0 stands begun
    (c.local_at-local.ensures ∙ ap (λ (u : Units). c.args.moment.reading.0 +ℤ u.0) c.adjustment.ensures) in
    let none = heading_at network device node c.args.self.now c.args.moment c.args.heading.now stands on
    ∙ ap (λ s. heading_fault true s c.args.self.now.own.marker c.args.heading.now) (sym c.state.ensures)
    ∙ sym c.fault.ensures.is ∙ c.in_default.is in
    let judged = subst (IsTakenSo network device c.args.link c.args.heading.now at node.taken c.take.new.self) c.in-Err.is
    (c.take.ensures.is network device at node.taken stands.entering arrives.at (ap (λ (p : SyncPlan). p.cycle_length) stands.own.plan) clock) in (
      sym (heard_by network device c.args.link at octets c.args.heading.now node.taken same none ∙ judged.0),
      stands_with network device node c.args.self.now c.args.moment stands may.later judged.1,
    )
