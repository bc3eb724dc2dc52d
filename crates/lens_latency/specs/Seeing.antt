-- What a report shows of the lines.
use Rattle.std.specs.Prelude.{◌&&◌, ◌+◌, ◌==◌, ◌≡◌, ◌≤◌, All, Bool, List, None, Option, Some, [], filter, length}
use Rattle.std.specs.Prelude.{map, max, min, ℕ}
use Rattle.lens_latency.specs.declared.{arrivals.FrameArrival.FrameArrival, comings.Coming.Coming, seeing.{SeenFrames.SeenFrames, ReportedComing.ReportedComing}}
use Rattle.run_law.specs.records.Order.{IsIn}

-- is it a frame of the virtual link that came to the receiver?
abbrev pub is_of : Coming → FrameArrival → Bool
is_of c arrival = arrival.vl.0 == c.vl.0 && arrival.device.0 == c.device.0

-- how long those were on their way
abbrev pub times_of : Coming → List FrameArrival → List ℕ
times_of c arrivals = map (λ arrival. arrival.time) (filter (is_of c) arrivals)

-- they are so many, and these are the least and the greatest
pub record IsSeen (times : List ℕ) (seen : SeenFrames) : Type 0 where
  pub count : seen.count ≡ length times
  pub least : IsIn seen.least times
  pub most : IsIn seen.most times
  pub each : (t : ℕ) → IsIn t times → (seen.least ≤ t) × (t ≤ seen.most)

-- the same, or there are none
abbrev pub AreSeen : List ℕ → Option SeenFrames → Type 0
AreSeen times None = times ≡ []
AreSeen times (Some seen) = IsSeen times seen

-- one more
abbrev pub with_time : Option SeenFrames → ℕ → Option SeenFrames
with_time None time = Some (record { count = 1; least = time; most = time })
with_time (Some seen) time =
    Some (record { count = seen.count + 1; least = min seen.least time; most = max seen.most time })

-- these arrivals show this of its line
abbrev pub IsTold : List FrameArrival → ReportedComing → Type 0
IsTold arrivals one = AreSeen (times_of one.coming arrivals) one.seen

-- this is told of these, one after another
pub record AreTold (arrivals : List FrameArrival) (comings : List Coming) (told : List ReportedComing) : Type 0 where
  pub of : map (λ one. one.coming) told ≡ comings
  pub each : All (IsTold arrivals) told
