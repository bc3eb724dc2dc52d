-- The lines of messages that have no plan.
use Rattle.std.specs.{Fmt.decimal, List.find, Option.{option_map_or, unwrap_or}}
use Rattle.std.specs.Prelude.{◌*◌, ◌++◌, ◌+◌, ◌-◌, ◌==◌, ◌^◌, ◌≤◌, List, Option, [], codes, if◌then◌else◌, min, nat_lt, slice_get, ℕ}
use Rattle.lens_plan.specs.declared.places.{best.Attempt.Attempt, placing.Placed.Placed, planning.NoPlan.NoPlan, ways.Hop.Hop}
use Rattle.lens_plan.specs.declared.places.planning.NoPlan.TheVariants as plans
use Rattle.lens_plan.specs.places.{InOrder.rows_in_order, Scoring.{is_last, schedule_end}}
use Rattle.{trace_text.specs.EventWords.way_text, tte_units.specs.Amount.amount}
use Rattle.{lens_plan.specs.messages.Message.Message, net_plan.specs.Belonging.{HasDevice, HasLink, device_name, link_name}}
use Rattle.lens_plan.specs.declared.messages.refusal.{MessageRefusal.MessageRefusal, RefusedLine.RefusedLine}
use Rattle.lens_plan.specs.declared.messages.refusal.MessageRefusal.TheVariants as refusals
use Rattle.lens_plan.specs.declared.places.limits.Excess.{Excess, TheVariants.{Rows, RowsOf, VirtualLinks}}
use Rattle.net_plan.specs.declared.network.Network.{Network}

-- why a line has no message
abbrev pub reason_text : MessageRefusal → List ℕ
reason_text refusals.Long = codes "long"
reason_text refusals.Form = codes "form"
reason_text refusals.Number = codes "number"
reason_text refusals.Name = codes "name"
reason_text refusals.Taken = codes "taken"
reason_text refusals.Twice = codes "twice"

-- the line of messages that are refused
abbrev pub line_refusal : RefusedLine → List ℕ
line_refusal refused =
    codes "refused line " ++ decimal refused.number ++ codes " " ++ reason_text refused.refusal ++ codes "\n"

-- what there is, and what is wanted
abbrev pub has_text : ℕ → ℕ → List ℕ
has_text has wants = codes " has " ++ decimal has ++ codes " wants " ++ decimal wants

-- what there may be, what there would be, and how many too many that is
abbrev pub limit_text : ℕ → ℕ → List ℕ
limit_text has wants = has_text has wants ++ codes " short " ++ decimal (wants - has) ++ codes "\n"

-- the rule of which there would be too many, and where, as in `slack`
abbrev pub excess_line : Network → Excess → List ℕ
excess_line network (VirtualLinks wants) = codes "rule 1 at index 2 vls" ++ limit_text 64 wants
excess_line network (Rows wants) = codes "rule 1 at index 3 rows" ++ limit_text 1024 wants
excess_line network (RowsOf device wants) =
    codes "rule 24 at index " ++ decimal device.0 ++ codes " " ++ device_name network device ++ limit_text 256 wants

-- the device that is told is one of the network's
abbrev pub HasExcess : Network → Excess → Type 0
HasExcess network (VirtualLinks wants) = Unit {0}
HasExcess network (Rows wants) = Unit {0}
HasExcess network (RowsOf device wants) = HasDevice network device

-- where the window of a row of the message is to end at the latest
abbrev pub row_limit : Network → Message → Hop → ℕ
row_limit network m hop =
    let end = schedule_end network in
    if is_last network hop then min (unwrap_or m.by end) end else end

-- of the rows in the order of links, the first that ends so late as the one that ends latest for its limit
abbrev pub short_row : Network → Message → Attempt → Option Placed
short_row network m a =
    find (λ p. (p.end - row_limit network m p.hop) == a.score.short) (rows_in_order network a.placed.items)

-- what bounds the window of the row: what the message asks for, or the end of the cycle
abbrev pub bound_text : Network → Message → Placed → List ℕ
bound_text network m p =
    let limit = row_limit network m p.hop in
    if nat_lt limit (schedule_end network) then codes " by" ++ has_text limit p.end
    else codes " rule 13" ++ has_text (amount network.cycle) (p.end + 4 * amount network.precision)

-- the row, and what bounds it
abbrev pub short_row_text : Network → Message → Placed → List ℕ
short_row_text network m p =
    codes " at " ++ link_name network p.hop.link ++ codes " " ++ way_text p.hop.way ++ bound_text network m p

-- the message and its best phase
abbrev pub message_text : List ℕ → Message → ℕ → List ℕ
message_text word m phase = word ++ codes " " ++ m.name ++ codes " phase " ++ decimal phase

-- the message, its best phase, and the row that ends latest for its limit
abbrev pub short_line : List ℕ → Network → Message → Attempt → List ℕ
short_line word network m a =
    message_text word m a.phase ++ option_map_or (short_row_text network m) (short_row network m a) []
    ++ codes " short " ++ decimal a.score.short ++ codes "\n"

-- the line for the message of the place
abbrev pub short_line_at : List ℕ → Network → List Message → ℕ → Attempt → List ℕ
short_line_at word network ms place a = option_map_or (λ m. short_line word network m a) (slice_get ms place) []

-- the line of messages that have no plan; want of memory has none
abbrev pub plan_refusal : Network → List Message → NoPlan → List ℕ
plan_refusal network ms (plans.Excess excess) = excess_line network excess
plan_refusal network ms (plans.Impossible place a) = short_line_at (codes "impossible") network ms place a
plan_refusal network ms (plans.Unplaced place a) = short_line_at (codes "unplaced") network ms place a
plan_refusal network ms plans.OutOfMemory = []

-- the row goes by a link of the network, and its end is a number that can be told
pub record IsTellable (network : Network) (p : Placed) : Type 0 where
  pub link : HasLink network p.hop.link
  pub end : p.end ≤ 2 ^ 60
