use Rattle.{lens_overview.specs.Rows.{told_by, with_flows}, std.proofs.Common.{◌≡◌, [], take}}
use Rattle.lens_overview.proofs.rows.push_flows.Given as goal

abbrev pub invariant-flows : goal.invariant-flows
invariant-flows l = (l.rows.items ≡ with_flows (told_by l.run) [] l.fn.rows.items (take l.flow-index l.flows)) × (l.own.run ≡ l.run)
