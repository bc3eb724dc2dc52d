use Rattle.{lens_slack.specs.Finds.shorts_of, std.proofs.Common.{◌≡◌, ◌≤◌, take}}
use Rattle.lens_slack.proofs.slacking.shorts_of.Given as goal

abbrev pub invariant-findings : goal.invariant-findings
invariant-findings l = record {
  counted : l.shorts ≡ shorts_of (take l.finding-index l.findings);
  few : l.shorts ≤ l.finding-index;
}
