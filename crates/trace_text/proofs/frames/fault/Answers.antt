use Rattle.std.proofs.Common.{rules}
use Rattle.trace_text.proofs.Lowering.{miscounted_digits, wrong_digits}
use Rattle.trace_text.proofs.frames.fault.Goals as goal

pub returns-then-is_hexadecimal : goal.returns-then-is_hexadecimal
returns-then-is_hexadecimal c =
    miscounted_digits c.args.text.now (search rules) c.requires

pub returns-else-is_hexadecimal : goal.returns-else-is_hexadecimal
returns-else-is_hexadecimal c =
    wrong_digits c.args.text.now (search rules)
