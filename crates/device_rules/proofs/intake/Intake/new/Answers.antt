use Rattle.device_rules.proofs.Takings.{none_count, none_last}
use Rattle.device_rules.proofs.intake.Intake.new.Goals as goal

pub returns : goal.returns
returns c = record {
  rows = c.in_ok-rows.ensures;
  count = none_count _ c.args.network.now.vl c.in_ok-taken.ensures;
  last = none_last _ c.args.network.now.vl c.in_ok-taken.ensures;
}
