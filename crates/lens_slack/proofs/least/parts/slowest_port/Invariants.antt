use Rattle.{lens_slack.proofs.least_lemmas.Greatests.IsAmongFirst, net_plan.specs.declared.tables.Link.Link, schedule_tables.specs.Delays.pcf_port_time}
use Rattle.{net_plan.specs.Bounds.IsGreatest, std.proofs.Common.{◌^◌, ◌≡◌, ◌≤◌, ℕ}}
use Rattle.lens_slack.proofs.least.parts.slowest_port.Given as goal

abbrev pub invariant-links : goal.invariant-links
invariant-links l = record {
  greatest : IsGreatest (IsAmongFirst (λ (k : Link) (n : ℕ). pcf_port_time k ≡ n) l.network.link l.link-index) l.slowest;
  bound : l.slowest ≤ 2 ^ 30;
}
