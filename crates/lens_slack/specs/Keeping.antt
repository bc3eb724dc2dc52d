-- The tightest of findings that come one after another.
use Rattle.std.specs.Prelude.{if◌then◌else◌, ◌+◌, ◌^◌, ◌≤◌, None, Option, Some, nat_lt}
use Rattle.lens_slack.specs.declared.spot.Finding.{Finding}

-- the numbers of the finding are so small that two of them have a sum
pub record IsSmall (f : Finding) : Type 0 where
  pub has : f.has ≤ 2 ^ 50
  pub wants : f.wants ≤ 2 ^ 50

-- the tighter of two, and the first where they are as tight
abbrev pub tighter : Finding → Finding → Finding
tighter first second = if nat_lt (second.has + first.wants) (first.has + second.wants) then second else first

-- the tightest so far and the next one, where there are any
abbrev pub tighter_of : Option Finding → Option Finding → Option Finding
tighter_of None next = next
tighter_of (Some best) None = Some best
tighter_of (Some best) (Some next) = Some (tighter best next)
