-- The line of a virtual link and a receiver.
use Rattle.std.specs.{Fmt.decimal, Prelude.{◌++◌, List, None, Option, Some, codes, max, min, ℕ}}
use Rattle.lens_latency.specs.declared.{comings.Coming.Coming, seeing.{SeenFrames.SeenFrames, ReportedComing.ReportedComing}, trips.Trip.Trip}
use Rattle.net_plan.specs.{Belonging.{device_name, vl_name}, declared.network.Network.Network}

-- the virtual link and the receiver
unfoldable pub names_text : Network → Coming → List ℕ
names_text network c =
    codes "latency " ++ vl_name network c.vl ++ codes " to " ++ device_name network c.device

-- the least and the greatest time of the trip
unfoldable pub trip_text : Trip → List ℕ
trip_text trip = decimal trip.least ++ codes " " ++ decimal trip.most

-- from the first place of either channel to the last of either
unfoldable pub window_text : Trip → Trip → List ℕ
window_text a b = codes " window " ++ decimal (min a.from b.from) ++ codes " " ++ decimal (max a.to b.to)

-- what is told of the virtual link and the receiver
unfoldable pub coming_text : Network → Coming → List ℕ
coming_text network c =
    names_text network c ++ codes " by a " ++ trip_text c.a ++ codes " by b " ++ trip_text c.b ++ window_text c.a c.b

-- the line
unfoldable pub latency_line : Network → Coming → List ℕ
latency_line network c = coming_text network c ++ codes "\n"

-- the least and the greatest time that was seen
unfoldable pub ends_text : SeenFrames → List ℕ
ends_text seen = codes " least " ++ decimal seen.least ++ codes " most " ++ decimal seen.most

-- how many were seen, and after how long
unfoldable pub seen_text : Option SeenFrames → List ℕ
seen_text None = codes " seen 0"
seen_text (Some seen) = codes " seen " ++ decimal seen.count ++ ends_text seen

-- the line with what a report shows
unfoldable pub told_line : Network → ReportedComing → List ℕ
told_line network one = coming_text network one.coming ++ seen_text one.seen ++ codes "\n"
