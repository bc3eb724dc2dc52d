-- The lines that `why` writes.
use Rattle.std.specs.{Fmt.{decimal, signed_decimal}, Int.{to_be_bytes, w32}, List.flat_map}
use Rattle.std.specs.Prelude.{if◌then◌else◌, ◌++◌, ◌∷◌, Bool, List, None, Option, Some, [], codes, false, true, ℕ, ℤ}
use Rattle.{hex.specs.Hex.encode_lower, report_text.specs.NoteLine.note_line, run_law.specs.declared.note.Note.Note}
use Rattle.{lens_why.specs.{Grounds.ground_of, declared.ground.BestHeard.BestHeard}, run_law.specs.scenario.Scenarios.Scenario}
use Rattle.lens_why.specs.declared.collecting.LastCollection.{LastCollection}
use Rattle.tte_units.specs.declared.frames.members.Members.{Members}
use Rattle.{lens_why.specs.declared.ground.{Best.Best, Ground.Ground}, sync_state.specs.membership.Members.count_of}
use Rattle.lens_why.specs.declared.ground.Ground.TheVariants.{Clique, Clock, Collected, Corrected, CutBy, Dispatched}
use Rattle.lens_why.specs.declared.ground.Ground.TheVariants.{Gate, Heard, Held, Length, Line, Local, Middle, Missed}
use Rattle.lens_why.specs.declared.ground.Ground.TheVariants.{Reading, Taken, Unknown, Unsynchronised, Untold, Window}
use Rattle.{net_plan.specs.declared.network.Network.Network, report_text.specs.NoteWords.{members_text, state_text}}
use Rattle.{run_law.specs.records.Happenings.Happening, tte_units.specs.declared.units.Units.Units}

-- what a channel says to a correction: the record of its best frame, the members of that, and how far the clock is
-- behind
unfoldable pub best_text : Option Best → List ℕ
best_text None = codes "none"
best_text (Some best) =
    decimal best.number ++ (codes " members " ++ (members_text best.members
    ++ (codes " value " ++ signed_decimal best.value)))

-- a channel's best frame: the record of it, its members, and how many they are
unfoldable pub told_text : Option BestHeard → List ℕ
told_text None = codes "none"
told_text (Some told) =
    decimal told.number ++ (codes " members " ++ (members_text told.members
    ++ (codes " count " ++ decimal (count_of told.members))))

-- the members of what was heard outside its time, how many they are, and how many are enough
unfoldable pub outside_text : Members → ℕ → List ℕ
outside_text outside threshold =
    codes " outside " ++ (members_text outside ++ (codes " count " ++ (decimal (count_of outside)
    ++ (codes " threshold " ++ decimal threshold))))

-- a collection: the point that opened it, the last reading at which it is open, and the cycle of its frames
unfoldable pub collection_text : Option LastCollection → List ℕ
collection_text None = codes "none"
collection_text (Some c) =
    signed_decimal c.opened.0 ++ (codes " ends " ++ (signed_decimal c.ends ++ (codes " cycle " ++ decimal c.cycle)))

-- how far beyond the expected a clock stands, and how far it may
unfoldable pub off_text : ℤ → ℕ → List ℕ
off_text off precision = codes " off " ++ (signed_decimal off ++ (codes " precision " ++ decimal precision))

-- the local value that is expected, how far beyond it a clock stands, and how far it may
unfoldable pub against_text : ℤ → ℤ → ℕ → List ℕ
against_text expected off precision = codes " expected " ++ (signed_decimal expected ++ off_text off precision)

-- a marker: its four octets
abbrev pub marker_text : ℕ → List ℕ
marker_text marker = encode_lower (to_be_bytes w32 marker)

-- where a frame came, and between which places it is taken
unfoldable pub window_text : ℤ → Units → Units → List ℕ
window_text position from to =
    codes "position " ++ (signed_decimal position
    ++ (codes " window " ++ (signed_decimal from.0 ++ (codes " " ++ signed_decimal to.0))))

-- what a ground says
unfoldable pub ground_text : Ground → List ℕ
ground_text Untold = []
ground_text (Line line) = codes "line " ++ decimal line
ground_text (Local value) = codes "local " ++ decimal value
ground_text (Held held measured) = codes "held " ++ (decimal held ++ (codes " measured " ++ decimal measured))
ground_text (Clock clock dmax) = codes "clock " ++ (decimal clock ++ (codes " dmax " ++ decimal dmax))
ground_text (Dispatched value row offset cycle) =
    codes "local " ++ (decimal value ++ (codes " row " ++ (decimal row
    ++ (codes " offset " ++ (decimal offset ++ (codes " cycle " ++ decimal cycle))))))
ground_text (Heard point adjustment expected off precision) =
    codes "point " ++ (signed_decimal point.0 ++ (codes " adj " ++ (signed_decimal adjustment
    ++ against_text expected off precision)))
ground_text (Collected master cycle last) =
    codes "master " ++ (decimal master ++ (codes " cycle " ++ (decimal cycle
    ++ (codes " opened " ++ collection_text last))))
ground_text (Middle number middle) = codes "from " ++ (decimal number ++ (codes " middle " ++ signed_decimal middle))
ground_text (Corrected a b) = codes "a " ++ (best_text a ++ (codes " b " ++ best_text b))
ground_text (Clique a b outside threshold) =
    codes "a " ++ (told_text a ++ (codes " b " ++ (told_text b ++ outside_text outside threshold)))
ground_text (CutBy number) = codes "cut " ++ decimal number
ground_text (Window position from to) = window_text position from to
ground_text (Missed cycle position from to) =
    codes "cycle " ++ (decimal cycle ++ (codes " " ++ window_text position from to))
ground_text (Taken cycle number) = codes "cycle " ++ (decimal cycle ++ (codes " taken " ++ decimal number))
ground_text (Length size of) = codes "length " ++ (decimal size ++ (codes " of " ++ decimal of))
ground_text (Unknown marker of id) =
    codes "marker " ++ (marker_text marker ++ (codes " of " ++ (marker_text of ++ (codes " id " ++ decimal id))))
ground_text (Unsynchronised state number) = codes "state " ++ (state_text state ++ (codes " since " ++ decimal number))
ground_text (Gate beyond most) = codes "gate " ++ (signed_decimal beyond ++ (codes " open " ++ decimal most))
ground_text (Reading reading) = codes "reading " ++ signed_decimal reading.0

-- does it say anything?
abbrev pub is_told : Ground → Bool
is_told Untold = false
is_told other = true

-- its line
abbrev pub ground_line : Ground → List ℕ
ground_line said = codes "ground " ++ (ground_text said ++ codes "\n")

-- the lines of a record and of its ground, if that says anything
abbrev pub told_lines : Network → Note → Ground → List (List ℕ)
told_lines network note said = note_line network note ∷ (if is_told said then ground_line said ∷ [] else [])

-- the same, of a record among these
abbrev pub record_lines : Scenario → List Happening → Happening → List (List ℕ)
record_lines s hs h = told_lines s.network h.note (ground_of s hs h)

-- those of a chain of records
abbrev pub chain_lines : Scenario → List Happening → List Happening → List (List ℕ)
chain_lines s hs chain = flat_map (record_lines s hs) chain

-- the line where there is no record of the number
abbrev pub number_refused_line : ℕ → ℕ → List ℕ
number_refused_line number count =
    codes "refused number " ++ decimal number ++ codes " of " ++ decimal count ++ codes "\n"
