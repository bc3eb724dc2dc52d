-- When it can be asked where in its window the frame of a mark came.
use Rattle.std.specs.Prelude.{◌^◌, ◌≡◌, ◌≤◌}
use Rattle.lens_svg.specs.declared.mark.{Look.TheVariants.Taken, Mark.Mark}
use Rattle.net_plan.specs.{Belonging.HasDevice, declared.{ids.{LinkId.LinkId, VlId.VlId}, network.Network.Network}}

-- where the mark is of a frame that is taken, its device is the network's, and its time none too late for a clock
abbrev pub IsAskable : Network → Mark → Type 0
IsAskable network mark =
    (link : LinkId) (vl : VlId) → mark.look ≡ Taken link vl → HasDevice network mark.device × (mark.time ≤ 2 ^ 60)
