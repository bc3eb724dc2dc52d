-- The blocks of a plan: for each message, in the order of the lines, that of its virtual link and then those of its rows
-- in the order of links.
use Rattle.std.specs.{List.flat_map, Prelude.{◌++◌, ◌∷◌, List, [], ℕ}}
use Rattle.net_plan.specs.Belonging.{device_name, link_name}
use Rattle.lens_plan.specs.{declared.text.line.PlanLine.{PlanLine, TheVariants.{Empty, Head, Name, Number, Way}}, messages.Message.Message}
use Rattle.lens_plan.specs.{declared.places.{best.Attempt.Attempt, placing.Placed.Placed}, places.InOrder.rows_in_order}
use Rattle.net_file.specs.declared.spots.TableName.TheVariants as tables
use Rattle.net_file.specs.declared.keys.KeyName.TheVariants as keys
use Rattle.net_plan.specs.declared.network.Network.{Network}

-- the block of a message's virtual link, with this id and this phase
abbrev pub vl_block : Network → Message → ℕ → ℕ → List PlanLine
vl_block network m id phase =
    Empty
    ∷ Head tables.Vl
    ∷ Name keys.Name m.name
    ∷ Number keys.Id id
    ∷ Number keys.Length m.length
    ∷ Number keys.Ethertype m.ethertype
    ∷ Name keys.Sender (device_name network m.sender)
    ∷ Number keys.Period m.period
    ∷ Number keys.Phase phase
    ∷ []

-- the block of a row of it
abbrev pub row_block : Network → Message → Placed → List PlanLine
row_block network m p =
    Empty
    ∷ Head tables.Row
    ∷ Name keys.Vl m.name
    ∷ Name keys.Link (link_name network p.hop.link)
    ∷ Way p.hop.way
    ∷ Number keys.Offset p.offset
    ∷ []

-- all blocks of a message
abbrev pub message_blocks : Network → Message → ℕ → Attempt → List PlanLine
message_blocks network m id a =
    vl_block network m id a.phase ++ flat_map (row_block network m) (rows_in_order network a.placed.items)

-- those of all messages, with their ids and their rows
abbrev pub plan_lines : Network → List Message → List ℕ → List Attempt → List PlanLine
plan_lines network (m ∷ ms) (id ∷ ids) (a ∷ attempts) =
    message_blocks network m id a ++ plan_lines network ms ids attempts
plan_lines network ms ids attempts = []
