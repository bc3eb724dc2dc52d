use Rattle.std.{proofs.{Common.{◌∙◌, None, Some, rules, sym}, lemmas.Int.to_z-of_z}, specs.Int.{w128, w64}}
use Rattle.device_rules.proofs.Takings.{cycle_same, found_at, has_taken, judged, none_there, place_same}
use Rattle.device_rules.proofs.intake.Intake.take.Goals as goal

pub returns-in_default-clause-is : goal.returns-in_default-clause-is
returns-in_default-clause-is c network device at taken has link length clock = (
  none_there network device c.args.link c.args.heading.now at taken
      (found_at network device c.args.self.now taken c.args.link c.args.heading.now.id c.row_at.result has link c.row_at.ensures ∙ c.in_default.is),
  has,
)

pub returns-in-Some-fault-clause-is : goal.returns-in-Some-fault-clause-is
returns-in-Some-fault-clause-is c network device at taken has link length clock = (
  judged network device c.args.link c.args.heading.now at taken c.in-Some.row c.cycle_of-cycle.result c.place_of.result.0 c.last_of.result
      (Some c.in-Some-fault.reason)
      (found_at network device c.args.self.now taken c.args.link c.args.heading.now.id c.row_at.result has link c.row_at.ensures ∙ c.in-Some.is)
      (c.cycle_of-cycle.ensures.is ∙ cycle_same network at c.args.local c.args.cycle_length length clock)
      (c.place_of.ensures ∙ place_same network at c.args.local c.args.cycle_length length clock) (c.last_of.ensures ∙ has.last c.in-Some.row.vl)
      (sym c.in-Some-fault.is ∙ c.fault.ensures
      ∙ (rw (to_z-of_z w128 c.from-place.result (search rules) ∙ c.from-place.ensures ∙ to_z-of_z w64
      c.place_of.result.0 (search rules))
      ((rw c.from.ensures)))),
  has,
)

pub returns-in-None-clause-is : goal.returns-in-None-clause-is
returns-in-None-clause-is c network device at taken has link length clock = (
  judged network device c.args.link c.args.heading.now at taken c.in-Some.row c.cycle_of-cycle.result c.place_of.result.0 c.last_of.result None
      (found_at network device c.args.self.now taken c.args.link c.args.heading.now.id c.row_at.result has link c.row_at.ensures ∙ c.in-Some.is)
      (c.cycle_of-cycle.ensures.is ∙ cycle_same network at c.args.local c.args.cycle_length length clock)
      (c.place_of.ensures ∙ place_same network at c.args.local c.args.cycle_length length clock) (c.last_of.ensures ∙ has.last c.in-Some.row.vl)
      (sym c.in-None.is ∙ c.fault.ensures
      ∙ (rw (to_z-of_z w128 c.from-place.result (search rules) ∙ c.from-place.ensures ∙ to_z-of_z w64
      c.place_of.result.0 (search rules))
      ((rw c.from.ensures)))),
  λ t vl cycle. has_taken t has c.keep.ensures vl cycle,
)
