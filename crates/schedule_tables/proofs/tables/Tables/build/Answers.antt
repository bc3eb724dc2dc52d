use Rattle.{schedule_tables.specs.{Slots.AreSlotsOf, TablesOf.AreTimedRows, declared.rule.Rule.TheVariants.Periods}, std.proofs.Common.length}
use Rattle.schedule_tables.proofs.tables.Tables.build.Goals as goal

pub returns : goal.returns
returns c =
    let slots : AreSlotsOf c.args.accepted.now c.in_ok-tables.tables.slots.items = rw (← c.network-network.ensures.value) c.in_ok-tables.ensures.slots in
    let rows : AreTimedRows c.args.accepted.now (length c.args.accepted.now.row) c.in_ok-tables.tables.rows.items = rw (← c.network-network.ensures.value)
    c.in_ok-tables.ensures.rows in
    record { count = rows.count_is; periods = c.network-network.ensures.rules Periods; slots = slots; rows = rows }
