-- What rows show, and their words, numbers and heights.
use Rattle.std.specs.Prelude.{◌+◌, ◌-◌, ◌==◌, ◌^◌, Bool, List, None, Option, Some, codes, false, min, ℕ}
use Rattle.lens_overview.specs.declared.label.{Group.Group, Kind.Kind, Label.Label}
use Rattle.net_plan.specs.declared.ids.VlId.{VlId}
use Rattle.lens_overview.specs.declared.label.Group.TheVariants as groups
use Rattle.lens_overview.specs.declared.label.Kind.TheVariants as kinds
use Rattle.lens_overview.specs.declared.label.Label.TheVariants as labels

-- the words of a title
abbrev pub group_word : Group → List ℕ
group_word groups.States = codes "states"
group_word groups.Ways = codes "cut ways"
group_word groups.Flows = codes "delivered"
group_word groups.Losses = codes "dropped"

-- the word of what is counted: that of a frame that is dropped is its reason
abbrev pub kind_word : Kind → List ℕ
kind_word kinds.Event = codes "events"
kind_word kinds.Lost = codes "lost"
kind_word kinds.Off = codes "off"
kind_word kinds.ColdStart = codes "coldstart"
kind_word kinds.Domain = codes "domain"
kind_word kinds.Member = codes "member"
kind_word kinds.Old = codes "old"
kind_word kinds.Gate = codes "gate"
kind_word kinds.Cycle = codes "cycle"
kind_word kinds.Unsynchronised = codes "unsynchronised"
kind_word kinds.Unknown = codes "unknown"
kind_word kinds.Length = codes "length"
kind_word kinds.Early = codes "early"
kind_word kinds.Late = codes "late"
kind_word kinds.Repeat = codes "repeat"
kind_word kinds.Refused = codes "refused"

-- the number of what is counted, which no two kinds have
abbrev pub number_of : Kind → ℕ
number_of kinds.Event = 0
number_of kinds.Lost = 1
number_of kinds.Off = 2
number_of kinds.ColdStart = 3
number_of kinds.Domain = 4
number_of kinds.Member = 5
number_of kinds.Old = 6
number_of kinds.Gate = 7
number_of kinds.Cycle = 8
number_of kinds.Unsynchronised = 9
number_of kinds.Unknown = 10
number_of kinds.Length = 11
number_of kinds.Early = 12
number_of kinds.Late = 13
number_of kinds.Repeat = 14
number_of kinds.Refused = 15

-- the record is counted as this kind
abbrev pub is_kind : Kind → Option Kind → Bool
is_kind kind (Some other) = number_of other == number_of kind
is_kind kind None = false

-- the word of what a count is of, by which it has its colour: a second copy is not wanted, and a device that is off or
-- not synchronised takes no frame; else a frame is lost or refused
abbrev pub count_word : Kind → List ℕ
count_word kinds.Event = codes "event"
count_word kinds.Off = codes "spared"
count_word kinds.Unsynchronised = codes "spared"
count_word kinds.Repeat = codes "spared"
count_word kind = codes "refused"

-- the word of what a row shows, by which it has its colours
abbrev pub label_word : Label → List ℕ
label_word (labels.Title group) = codes "title"
label_word (labels.Count kind) = count_word kind
label_word (labels.Lane device) = codes "lane"
label_word (labels.Others synchronised off) = codes "lane"
label_word (labels.Passage link way) = codes "passage"
label_word (labels.Flow vl device) = codes "flow"
label_word (labels.Flows vl count) = codes "flow"

-- how far a row is below the one above it, in pixels
abbrev pub height_of : Label → ℕ
height_of (labels.Title group) = 18
height_of (labels.Count kind) = 12
height_of (labels.Lane device) = 12
height_of (labels.Others synchronised off) = 12
height_of (labels.Passage link way) = 8
height_of (labels.Flow vl device) = 11
height_of (labels.Flows vl count) = 11

-- a row of frames with one receiver more
abbrev pub with_receiver : Label → Label
with_receiver (labels.Flow vl device) = labels.Flows vl 2
with_receiver (labels.Flows vl count) = labels.Flows vl (min (count + 1) (2 ^ 64 - 1))
with_receiver label = label

-- the row is one of the frames of the virtual link
abbrev pub is_of_vl : Label → VlId → Bool
is_of_vl (labels.Flow other device) vl = other.0 == vl.0
is_of_vl (labels.Flows other count) vl = other.0 == vl.0
is_of_vl label vl = false
