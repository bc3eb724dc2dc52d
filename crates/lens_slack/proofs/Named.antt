-- A row by its names.
use Rattle.{lens_slack.specs.Lines.row_text, std.specs.Prelude.{codes}, trace_text.specs.EventWords.way_text}
use Rattle.{net_plan.specs.{Belonging.{link_name, vl_name}, declared.{ids.RowId.RowId, tables.Row.Row}}, std.proofs.lemmas.Option.slice_get-get_or}
use Rattle.{net_plan.specs.declared.network.Network.Network, std.proofs.Common.{◌++◌, ◌<◌, ◌≡◌, List, append_assoc, arith, get_or, length, ℕ}}

-- what is put together from its names is its text
pub row_named : (network : Network) (row : RowId) (rows : List Row) (d : Row) (vl link way : List ℕ) → rows ≡ network.row → row.0 < length rows
    → vl ≡ vl_name network (get_or rows row.0 d).vl → link ≡ link_name network (get_or rows row.0 d).link → way ≡ way_text (get_or rows row.0 d).way
    → vl ++ codes " " ++ link ++ codes " " ++ way ≡ row_text network row
row_named network row rows d vl link way same within is_vl is_link is_way = grind (arith, get_or, slice_get-get_or)

-- five pushes
pub joined : (line first second third fourth last a b c d e : List ℕ) → a ≡ line ++ first → b ≡ a ++ second → c ≡ b ++ third → d ≡ c ++ fourth
    → e ≡ d ++ last → e ≡ line ++ (first ++ second ++ third ++ fourth ++ last)
joined line first second third fourth last a b c d e one two three four five = grind (arith, append_assoc)
