use Rattle.{device_rules.proofs.frames_lemmas.Made.{found_at, made_found, made_none, zeros_behind}}
use Rattle.{net_plan.specs.Ranges.IsVlInRange, std.proofs.{Common.{◌≡◌, ◌≤◌, Some, length, slice_get}, lemmas.Option.slice_get_past}}
use Rattle.tte_units.proofs.general_lemmas.Lists.{in_all}
use Rattle.device_rules.proofs.frames.timed.MadeFrame.write.Goals as goal

pub invariant_of-self : goal.invariant_of-self
invariant_of-self c =
    let found = c.in-Some.ensures.lookup in
    let there : slice_get c.args.network.now.vl c.args.vl.0 ≡ Some c.in-Some.found.now =
    rw c.as_slice.ensures at (found_at c.as_slice.result.now c.args.vl.0 c.in-Some.found.now found.3.0 found.3.1) in
    let in_range = in_all (IsVlInRange c.args.network.now) c.args.network.now.vl c.args.vl.0 c.in-Some.found.now c.requires.vls there in
    (in_range.length_least, in_range.length_most, zeros_behind c.put_head.new.octets c.write_head.new.head c.write_head.array_long c.put_head.ensures)

pub returns-in-Some : goal.returns-in-Some
returns-in-Some c =
    let found = c.in-Some.ensures.lookup in
    let there : slice_get c.args.network.now.vl c.args.vl.0 ≡ Some c.in-Some.found.now =
    rw c.as_slice.ensures at (found_at c.as_slice.result.now c.args.vl.0 c.in-Some.found.now found.3.0 found.3.1) in
    made_found c.args.vl c.args.cycle c.in-Some.found.now c.put_head.new.octets c.write_head.new.head
    there c.requires c.write_head.ensures c.put_head.ensures

pub returns-in-None : goal.returns-in-None
returns-in-None c =
    let past : length c.args.network.now.vl ≤ c.args.vl.0 = rw c.as_slice.ensures at c.in-None.ensures.lookup.3 in
    made_none c.args.network.now c.args.vl c.args.cycle c.fill.new.octets (slice_get_past c.args.network.now.vl c.args.vl.0 past)
    c.fill.ensures
