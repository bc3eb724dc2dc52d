-- The lines that `stamp` puts.
use Rattle.std.specs.Fmt.{signed_decimal}
use Rattle.std.specs.Prelude.{◌++◌, ◌∷◌, List, [], codes, decimal, length, option_map, option_to_list, suc, zero, ℕ, ℤ}
use Rattle.{net_plan.specs.Belonging.device_name, tte_traces.specs.Answer.LinesOf, tte_units.specs.Amount.amount}
use Rattle.net_plan.specs.declared.{event.Event.Event, ids.DeviceId.DeviceId, network.Network.Network}
use Rattle.run_law.specs.{declared.note.Note.Note, records.Happenings.happenings}
use Rattle.tte_observers.specs.stamps.granules.{Lines.Line, Stamps.stamp_at}
use Rattle.world_drive.specs.exact.Records.{clock_reading}

-- the line of a stamp, by the device of this name at the trace's line of this number
abbrev pub stamp_line : ℕ → List ℕ → ℤ → List ℕ
stamp_line number name stamp =
    codes "stamp " ++ (decimal number ++ (codes " " ++ (name ++ (codes " " ++ (signed_decimal stamp ++ codes "\n")))))

-- what is known at the trace's line of an event, which comes behind others, by the records of the run
abbrev pub line_at : Network → List Event → Event → List Note → Line
line_at network before event notes = record {
  befallen = before ++ event ∷ [];
  time = amount event.time;
  reading = clock_reading network (before ++ event ∷ []);
  records = happenings network notes;
}

-- the line of the device's stamp, if it stamps the trace's line
abbrev pub lines_by : ℕ → Network → Line → DeviceId → List (List ℕ)
lines_by granule network line device =
    option_to_list (option_map (stamp_line (length line.befallen) (device_name network device))
    (stamp_at granule network line device))

-- the lines of the stamps by so many devices, in the order of the file
abbrev pub lines_by_first : ℕ → Network → Line → ℕ → List (List ℕ)
lines_by_first granule network line zero = []
lines_by_first granule network line (suc k) =
    lines_by_first granule network line k ++ lines_by granule network line (record { 0 = k })

-- those by all devices
abbrev pub line_stamps : ℕ → Network → Line → List (List ℕ)
line_stamps granule network line = lines_by_first granule network line (length network.device)

-- the stamps of the trace's lines of these events, which come behind others
abbrev pub stamps_behind : ℕ → Network → List Note → List Event → List Event → List (List ℕ)
stamps_behind granule network notes before [] = []
stamps_behind granule network notes before (event ∷ events) =
    line_stamps granule network (line_at network before event notes)
    ++ stamps_behind granule network notes (before ++ event ∷ []) events

-- the lines that `stamp` puts of a run
abbrev pub stamp_lines : ℕ → LinesOf
stamp_lines granule network events notes = stamps_behind granule network notes [] events
