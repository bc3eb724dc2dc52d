-- The lines of a sheet.
use Rattle.std.specs.Prelude.{if◌then◌else◌, ◌*◌, ◌++◌, ◌+◌, ◌-◌, ◌/◌, ◌∷◌, ◌^◌, List, [], codes, decimal, nat_lt, ℕ}
use Rattle.std.specs.{Option.option_map_or, Prelude.{max, min, slice_get}}
use Rattle.{lens_latency.specs.Lines.names_text, trace_text.specs.EventWords.way_text}
use Rattle.lens_latency.specs.declared.{comings.Coming.Coming, trips.Trip.Trip}
use Rattle.lens_sheet.specs.{Figures.{minutes, ns, percent, ppm, us}, Weights.beta_of}
use Rattle.lens_sheet.specs.declared.{loads.Load.Load, sheet.Number.Number, weights.Weights.Weights}
use Rattle.lens_sheet.specs.declared.sheet.Number.TheVariants.{Beta, Correction, Cycle, Dmax, Gamma, Grain, Life}
use Rattle.lens_sheet.specs.declared.sheet.{Number.TheVariants.{Precision, Rho, Schedule, Settled, TtStart}}
use Rattle.net_plan.specs.declared.{ids.VlId.VlId, network.Network.Network, tables.VirtualLink.VirtualLink}
use Rattle.net_plan.specs.{Belonging.{device_name, link_name, vl_name}, Bounds.gamma_of}
use Rattle.{schedule_checker.specs.Timing.errors_of, tte_units.specs.Amount.amount}

-- ---- what lines are made of

-- a time of the network and its name, first on its line
unfoldable pub time_text : List ℕ → ℕ → List ℕ
time_text name units = name ++ (codes " " ++ (us units ++ codes " us"))

-- a word, and a time behind it
unfoldable pub part_text : List ℕ → ℕ → List ℕ
part_text word units = word ++ us units

-- the room that is left above what the parts of a time come to
abbrev pub room_text : ℕ → ℕ → List ℕ
room_text has parts = part_text (codes " room ") (has - parts)

-- the same, where the time is bounded by another one too: the room is that to the greater, and where this is the other
-- one its name stands behind
unfoldable pub room_by : ℕ → ℕ → ℕ → List ℕ → List ℕ
room_by has parts other name =
    if nat_lt parts other then room_text has other ++ (codes " by " ++ name) else room_text has parts

-- the errors of a resynchronisation, so many times
unfoldable pub errors_text : ℕ → Network → ℕ → List ℕ
errors_text times network beta =
    part_text (codes " beta ") (times * 8 * beta)
    ++ (part_text (codes " gamma ") (times * 12 * gamma_of network)
    ++ part_text (codes " grains ") (times * 40 * amount network.grain))

-- ---- the numbers of the network

-- how long 2^20 cycles are
unfoldable pub life_line : Network → List ℕ
life_line network = codes "life " ++ (minutes (2 ^ 20 * amount network.cycle) ++ codes " min\n")

-- the rate of clocks
unfoldable pub rho_line : Network → List ℕ
rho_line network = codes "rho " ++ (ppm network.rho ++ codes " ppm\n")

-- the granule of clocks
unfoldable pub grain_line : Network → List ℕ
grain_line network = codes "grain " ++ (ns (amount network.grain) ++ codes " ns\n")

-- a time of which no parts are told
unfoldable pub time_line : List ℕ → ℕ → List ℕ
time_line name units = time_text name units ++ codes "\n"

-- beta: the jitters of a path, the drift of clocks over dmax, and the roundings of readings
unfoldable pub beta_line : Network → Weights → List ℕ
beta_line network w =
    time_text (codes "beta") (beta_of network w)
    ++ (part_text (codes " jitter ") w.jitter
    ++ (part_text (codes " drift ") (4 * network.rho * amount network.dmax / 10 ^ 9)
    ++ (part_text (codes " grains ") (8 * amount network.grain * (w.links + 2)) ++ codes "\n")))

-- dmax: the delays of the longest path, and beta
unfoldable pub dmax_line : Network → Weights → List ℕ
dmax_line network w =
    time_text (codes "dmax") (amount network.dmax)
    ++ (part_text (codes " path ") w.delay
    ++ (part_text (codes " beta ") (beta_of network w)
    ++ (room_text (amount network.dmax) (w.delay + beta_of network w) ++ codes "\n")))

-- the spread of the starts: the errors of a resynchronisation, or the greatest start
unfoldable pub settled_line : Network → Weights → List ℕ
settled_line network w =
    time_text (codes "settled") (amount network.settled)
    ++ (errors_text 1 network (beta_of network w)
    ++ (room_by (amount network.settled) (errors_of network (beta_of network w)) w.start (codes "start")
    ++ codes "\n"))

-- the precision: the spread of the starts and these errors twice, or the time of a compression
unfoldable pub precision_line : Network → Weights → List ℕ
precision_line network w =
    time_text (codes "precision") (amount network.precision)
    ++ (part_text (codes " settled ") (amount network.settled)
    ++ (errors_text 2 network (beta_of network w)
    ++ (room_by (amount network.precision) (amount network.settled + 2 * errors_of network (beta_of network w))
    (amount network.calc) (codes "calc")
    ++ codes "\n")))

-- when each frame of the cycle has been heard
abbrev pub heard_at : Network → ℕ
heard_at network = 2 * amount network.dmax + amount network.calc + 10 * amount network.precision

-- what this is made of
unfoldable pub heard_text : Network → List ℕ
heard_text network =
    part_text (codes " dmax ") (2 * amount network.dmax)
    ++ (part_text (codes " calc ") (amount network.calc)
    ++ part_text (codes " precision ") (10 * amount network.precision))

-- the place of the correction: when each frame of the cycle has been heard
unfoldable pub correction_line : Network → List ℕ
correction_line network =
    time_text (codes "correction") (amount network.correction)
    ++ (heard_text network ++ (room_text (amount network.correction) (heard_at network) ++ codes "\n"))

-- when the last protocol control frame has left the slowest port
abbrev pub quiet_at : Network → Weights → ℕ
quiet_at network w = amount network.correction + amount network.dmax + 4 * amount network.precision + w.control

-- what this is made of
unfoldable pub quiet_text : Network → Weights → List ℕ
quiet_text network w =
    part_text (codes " correction ") (amount network.correction)
    ++ (part_text (codes " dmax ") (amount network.dmax)
    ++ (part_text (codes " precision ") (4 * amount network.precision) ++ part_text (codes " control ") w.control))

-- where the schedule begins: when the last protocol control frame has left the slowest port
unfoldable pub tt_start_line : Network → Weights → List ℕ
tt_start_line network w =
    time_text (codes "tt_start") (amount network.tt_start)
    ++ (quiet_text network w ++ (room_text (amount network.tt_start) (quiet_at network w) ++ codes "\n"))

-- where the windows of rows must end
abbrev pub schedule_end : Network → ℕ
schedule_end network = amount network.cycle - 4 * amount network.precision

-- from where on rows may go, and where their windows must end
unfoldable pub span_text : Network → List ℕ
span_text network =
    time_text (codes "schedule from") (amount network.tt_start) ++ time_text (codes " to") (schedule_end network)

-- the same, and how much of the cycle this is
unfoldable pub schedule_line : Network → List ℕ
schedule_line network =
    span_text network
    ++ (codes " percent "
    ++ (percent (schedule_end network - amount network.tt_start) (amount network.cycle) ++ codes "\n"))

-- the line of a number
abbrev pub number_line : Network → Weights → Number → List ℕ
number_line network w Cycle = time_line (codes "cycle") (amount network.cycle)
number_line network w Rho = rho_line network
number_line network w Grain = grain_line network
number_line network w Life = life_line network
number_line network w Gamma = time_line (codes "gamma") (gamma_of network)
number_line network w Beta = beta_line network w
number_line network w Dmax = dmax_line network w
number_line network w Settled = settled_line network w
number_line network w Precision = precision_line network w
number_line network w Correction = correction_line network
number_line network w TtStart = tt_start_line network w
number_line network w Schedule = schedule_line network

-- all of them, in their order
abbrev pub numbers : List Number
numbers =
    Cycle ∷ Rho ∷ Grain ∷ Life ∷ Gamma ∷ Beta ∷ Dmax ∷ Settled ∷ Precision ∷ Correction ∷ TtStart ∷ Schedule ∷ []

-- ---- its ways and its virtual links

-- the load of a way
unfoldable pub load_line : Network → Load → List ℕ
load_line network load =
    codes "load "
    ++ (link_name network load.link
    ++ (codes " "
    ++ (way_text load.way
    ++ (codes " percent " ++ (percent load.time (64 * amount network.cycle) ++ codes "\n")))))

-- a virtual link of the network, and its sender
unfoldable pub sender_text : Network → VlId → VirtualLink → List ℕ
sender_text network vl of = codes "vl " ++ (vl_name network vl ++ (codes " from " ++ device_name network of.sender))

-- when it occurs, and the greatest count of rows on a way to a receiver
unfoldable pub rhythm_text : VirtualLink → ℕ → List ℕ
rhythm_text of hops =
    codes " period "
    ++ (decimal of.period
    ++ (codes " phase " ++ (decimal of.phase ++ (codes " hops " ++ (decimal hops ++ codes "\n")))))

-- the line of a virtual link
abbrev pub vl_line : Network → VlId → ℕ → List ℕ
vl_line network vl hops =
    option_map_or (λ of. sender_text network vl of ++ rhythm_text of hops) (slice_get network.vl vl.0) []

-- the least and the greatest time of a trip
unfoldable pub trip_text : Trip → List ℕ
trip_text trip = us trip.least ++ (codes " " ++ us trip.most)

-- from the first place of either channel to the last of either
unfoldable pub window_text : Trip → Trip → List ℕ
window_text a b = codes " window " ++ (us (min a.from b.from) ++ (codes " " ++ us (max a.to b.to)))

-- the line of a virtual link and a receiver
unfoldable pub coming_line : Network → Coming → List ℕ
coming_line network c =
    names_text network c
    ++ (codes " by a "
    ++ (trip_text c.a ++ (codes " by b " ++ (trip_text c.b ++ (window_text c.a c.b ++ codes "\n")))))
