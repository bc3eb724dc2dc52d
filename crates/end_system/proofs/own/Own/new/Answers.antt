use Rattle.end_system.proofs.{Arrivals.is_own, Words.{A, B, refl}}
use Rattle.schedule_tables.specs.declared.rule.Rule.TheVariants.{Connections}
use Rattle.end_system.proofs.own.Own.new.Goals as goal

pub uplink_of-requires-clause-one : goal.uplink_of-requires-clause-one
uplink_of-requires-clause-one c = let one = (c.requires.rules Connections c.args.device.0).ends c.requires.end A in (one.0, one.1)

pub uplink_of-requires-2-clause-one : goal.uplink_of-requires-2-clause-one
uplink_of-requires-2-clause-one c = let one = (c.requires.rules Connections c.args.device.0).ends c.requires.end B in (one.0, one.1)

pub returns : goal.returns
returns c =
    is_own _ c.requires.range c.requires.rules c.requires.end
    c.plan_of.ensures refl refl refl refl c.dispatched_frame.ensures
    c.is_master.ensures c.uplink_of.ensures c.uplink_of-2.ensures
