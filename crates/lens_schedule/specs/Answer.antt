-- What `draw` answers for the octets of a network file.
use Rattle.std.specs.Prelude.{◌≡◌, List, map, ℕ}
use Rattle.lens_schedule.specs.{Lines.part_line, Picture.IsPicture, declared.part.SchedulePart.SchedulePart}
use Rattle.{lens_svg.specs.Titles.title_of, net_plan.specs.declared.network.Network.Network}
use Rattle.schedule_tables.specs.{Entries.AreEntries, declared.entry.Entry.Entry}
use Rattle.tte_forms.specs.{Answering.Answer, declared.status.Status.TheVariants.Done}
use Rattle.tte_forms.specs.networks.Accepting.{IsNetworkAnswer}

-- a line for each part of the picture of this title
abbrev pub picture_answer : Network → List ℕ → List SchedulePart → Answer
picture_answer network title parts = record { status = Done; lines = map (part_line network title) parts }

-- the answer for these words and an accepted network
pub record IsScheduleOf (words : List (List ℕ)) (network : Network) (a : Answer) : Type 0 where
  pub entries : List Entry
  pub rows : AreEntries network entries
  pub parts : List SchedulePart
  pub picture : IsPicture network entries parts
  pub is : a ≡ picture_answer network (title_of words) parts

-- the answer of `draw NETWORK`
abbrev pub IsScheduleAnswer : List (List ℕ) → List ℕ → Answer → Type 0
IsScheduleAnswer words octets a = IsNetworkAnswer (IsScheduleOf words) octets a
