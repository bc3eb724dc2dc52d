-- What is kept of the records of a picture.
use Rattle.std.specs.Prelude.{ℕ, List}
use Rattle.lens_svg.specs.{Views.View, declared.{layout.Pen.Pen, mark.{Ground.Ground, Hue.Hue, Mark.Mark}}}

-- what of the run is drawn, the pen, how far to the right the last instant and the last mark of each row stand, the hues
-- of the records, how many marks there were before each record, the marks, and the ground of each device's lane where the
-- picture begins
pub record Plan : Type 0 where
  pub view : View
  pub pen : Pen
  pub last : ℕ
  pub seats : List ℕ
  pub hues : List Hue
  pub places : List ℕ
  pub marks : List Mark
  pub grounds : List Ground
