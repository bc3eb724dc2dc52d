-- The line of a flow.
--
--     flow VL to DEVICE owed N delivered N by a N by b N missing N
--         not owed receiver N sender N end N nearest early E late L certain N
--
-- Behind `nearest` stands `none` where no frame is delivered within its window. Behind the lines of all flows stand the
-- sums of their numbers.
--
--     sum owed N delivered N by a N by b N missing N certain N
use Rattle.std.specs.Prelude.{ℕ, List, ◌++◌, codes, decimal, Option, Some, None, sum_by}
use Rattle.lens_flows.specs.declared.counts.{counting.FateCounts.FateCounts, nearest.Nearest.Nearest}
use Rattle.lens_flows.specs.declared.{counts.told.FlowTold.FlowTold, judge.flow.Flow.Flow}
use Rattle.net_plan.specs.{Belonging.{device_name, vl_name}, declared.network.Network.Network}

-- a word and a number, each behind a space
unfoldable pub count_words : List ℕ → ℕ → List ℕ
count_words word n = codes " " ++ (word ++ (codes " " ++ decimal n))

-- the flow's virtual link and its receiver
unfoldable pub flow_words : Network → Flow → List ℕ
flow_words network flow =
    codes "flow " ++ (vl_name network flow.vl ++ (codes " to " ++ device_name network flow.device))

-- in how many cycles delivery is owed, how many frames are delivered, and how many on each channel, and how many that
-- are owed are not delivered
unfoldable pub delivered_words : FlowTold → ℕ → List ℕ
delivered_words t missing =
    count_words (codes "owed") t.fates.owed
    ++ (count_words (codes "delivered") t.deliveries.total
    ++ (count_words (codes "by a") t.deliveries.by_a
    ++ (count_words (codes "by b") t.deliveries.by_b ++ count_words (codes "missing") missing)))

-- in how many cycles it is not owed, by what keeps it from being owed
unfoldable pub unowed_words : FateCounts → List ℕ
unowed_words fates =
    count_words (codes "not owed receiver") fates.receiver
    ++ (count_words (codes "sender") fates.sender ++ count_words (codes "end") fates.end)

-- the least distances of deliveries to the two ends of their windows
abbrev pub nearest_words : Option Nearest → List ℕ
nearest_words None = codes " nearest none"
nearest_words (Some n) = codes " nearest" ++ (count_words (codes "early") n.early ++ count_words (codes "late") n.late)

-- the line: at its end in how many cycles delivery is owed by events alone
unfoldable pub flow_line : Network → FlowTold → ℕ → List ℕ
flow_line network t missing =
    flow_words network t.flow
    ++ (delivered_words t missing
    ++ (unowed_words t.fates
    ++ (nearest_words t.deliveries.nearest ++ (count_words (codes "certain") t.certain ++ codes "\n"))))

-- the last line: the sums over all flows, of which so many frames are missing
unfoldable pub sum_line : List FlowTold → ℕ → List ℕ
sum_line told missing =
    codes "sum"
    ++ (count_words (codes "owed") (sum_by (λ t. t.fates.owed) told)
    ++ (count_words (codes "delivered") (sum_by (λ t. t.deliveries.total) told)
    ++ (count_words (codes "by a") (sum_by (λ t. t.deliveries.by_a) told)
    ++ (count_words (codes "by b") (sum_by (λ t. t.deliveries.by_b) told)
    ++ (count_words (codes "missing") missing
    ++ (count_words (codes "certain") (sum_by (λ t. t.certain) told) ++ codes "\n"))))))
