-- What stands on a sheet, line by line.
use Rattle.std.specs.Prelude.{◌++◌, ◌<◌, ◌∷◌, ◌≡◌, List, length, map, ℕ}
use Rattle.lens_latency.specs.{Comings.{HasNames, InParts, IsPartOf}, declared.comings.Coming.Coming}
use Rattle.lens_sheet.specs.Lines.{coming_line, load_line, number_line, numbers, vl_line}
use Rattle.lens_sheet.specs.{Loading.HasLink, Loads.AreLoads, Ways.AreHops}
use Rattle.lens_sheet.specs.declared.{loads.Load.Load, sheet.SheetLine.SheetLine, weights.Weights.Weights}
use Rattle.lens_sheet.specs.declared.sheet.SheetLine.TheVariants as lines
use Rattle.net_plan.specs.declared.network.Network.{Network}

-- the text of a line
abbrev pub line_text : Network → Weights → SheetLine → List ℕ
line_text network w (lines.Number number) = number_line network w number
line_text network w (lines.Load load) = load_line network load
line_text network w (lines.Vl vl hops) = vl_line network vl hops
line_text network w (lines.Coming coming) = coming_line network coming

-- the lines of the virtual link of this number: its own, and one for each of its receivers
pub record AreLinesOf (network : Network) (vl : ℕ) (ls : List SheetLine) : Type 0 where
  pub hops : ℕ
  pub are_hops : AreHops network (record { 0 = vl }) hops
  pub comings : List Coming
  pub come : IsPartOf network vl comings
  pub is : ls ≡ lines.Vl (record { 0 = vl }) hops ∷ map (λ c. lines.Coming c) comings

-- those of all virtual links, in their order
abbrev pub AreVlLines : Network → List SheetLine → Type 0
AreVlLines network ls = InParts (AreLinesOf network) 0 (length network.vl) ls

-- all lines: the numbers of the network, the loads of its ways, and its virtual links
pub record IsSheet (network : Network) (ls : List SheetLine) : Type 0 where
  pub loads : List Load
  pub loaded : AreLoads network loads
  pub vls : List SheetLine
  pub linked : AreVlLines network vls
  pub is : ls ≡ map (λ n. lines.Number n) numbers ++ (map (λ l. lines.Load l) loads ++ vls)

-- the line names what is the network's
abbrev pub IsWritable : Network → SheetLine → Type 0
IsWritable network (lines.Number number) = Unit {0}
IsWritable network (lines.Load load) = HasLink network load
IsWritable network (lines.Vl vl hops) = vl.0 < length network.vl
IsWritable network (lines.Coming coming) = HasNames network coming
