-- How great the load of a row is at most.
use Rattle.lens_sheet.specs.{Loading.HasFrame, Loads.share_of}
use Rattle.schedule_tables.specs.{Windows.port_time, declared.entry.Entry.Entry}
use Rattle.std.proofs.{Common.{◌*◌, ◌+◌, ◌/◌, ◌^◌, ◌≤◌, arith}, Math.Nat.{div-le_self, mul-le-mul_left, mul-le-mul_right}}
use Rattle.tte_units.specs.{OctetTime.octet_time, declared.speed.Speed.Speed}
use Rattle.tte_units.specs.declared.speed.Speed.TheVariants as speeds

octet_small : (speed : Speed) → octet_time speed ≤ 2 ^ 23
octet_small speeds.Mbit100 = omega arith
octet_small speeds.Gbit1 = omega arith

pub share_small : {entry : Entry} → HasFrame entry → share_of entry ≤ 2 ^ 40
share_small {entry} has =
    let most = has.length in
    let octets : entry.vl.length + 24 ≤ 1538 = omega (arith, most) in
    let time : port_time entry ≤ 1538 * octet_time entry.link.speed = mul-le-mul_right (octet_time entry.link.speed) octets in
    let speed = octet_small entry.link.speed in
    let port : port_time entry ≤ 2 ^ 34 = omega (arith, time, speed) in
    let cycles : 64 / entry.vl.period ≤ 64 = div-le_self 64 entry.vl.period in
    let few : port_time entry * (64 / entry.vl.period) ≤ port_time entry * 64 = mul-le-mul_left (port_time entry) cycles in
    omega (arith, few, port)
