-- The words and grounds of marks.
use Rattle.std.specs.Prelude.{ℕ, List, codes}
use Rattle.lens_svg.specs.declared.mark.{Ground.Ground, Hue.{Hue, TheVariants.{Control, Forged, Stream, Summary}}}
use Rattle.lens_svg.specs.declared.mark.Ground.TheVariants as grounds
use Rattle.sync_state.specs.declared.state.State.{State, TheVariants.{Integrating, Joining, Off, Synchronised}}

-- the word of a hue
abbrev pub hue_text : Hue → List ℕ
hue_text Control = codes "control"
hue_text Summary = codes "summary"
hue_text Stream = codes "stream"
hue_text Forged = codes "forged"

-- the word of a ground
abbrev pub ground_text : Ground → List ℕ
ground_text grounds.Off = codes "off"
ground_text grounds.Integrating = codes "integrating"
ground_text grounds.Joining = codes "joining"
ground_text grounds.Synchronised = codes "synchronised"
ground_text grounds.Broken = codes "broken"

-- the ground of a state
abbrev pub ground_of : State → Ground
ground_of Off = grounds.Off
ground_of Integrating = grounds.Integrating
ground_of Joining = grounds.Joining
ground_of Synchronised = grounds.Synchronised
