use Rattle.{lens.specs.draw.Signs.sign_line, std.proofs.Common.refl}
use Rattle.lens.proofs.draw.signs.Sign.line.Goals as goal

pub returns-in-Style : goal.returns-in-Style
unfolding sign_line
returns-in-Style c = rw c.in-Style.is refl

pub returns-in-Shapes : goal.returns-in-Shapes
unfolding sign_line
returns-in-Shapes c = rw c.in-Shapes.is refl

pub returns-in-MarkKey : goal.returns-in-MarkKey
unfolding sign_line
returns-in-MarkKey c = rw c.in-MarkKey.is refl

pub returns-in-WayKey : goal.returns-in-WayKey
unfolding sign_line
returns-in-WayKey c = rw c.in-WayKey.is refl
