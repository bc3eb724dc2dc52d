-- What each record tells of the rows.
use Rattle.std.specs.Prelude.{◌++◌, ◌/◌, ◌∷◌, List, None, Option, Some, [], fold, max, option_map}
use Rattle.std.specs.Prelude.{slice_get, suc, zero, ℕ}
use Rattle.lens_overview.specs.{Shades.shade_of, Spreads.spread_by, declared.label.Kind.Kind}
use Rattle.lens_overview.specs.declared.news.{Change.Change, News.News}
use Rattle.net_plan.specs.declared.{event.What.What, ids.{DeviceId.DeviceId, LinkId.LinkId}, network.Network.Network}
use Rattle.run_law.specs.{declared.note.{Note.Note, NoteBody.NoteBody}, records.Happenings.Happening}
use Rattle.run_law.specs.{declared.judgement.Reason.Reason, scenario.{Devices.channel_of_link, Scenarios.Scenario}}
use Rattle.{lens_svg.specs.Sketching.moment, tte_units.specs.Amount.amount}
use Rattle.lens_overview.specs.declared.label.Kind.TheVariants as kinds
use Rattle.lens_overview.specs.declared.news.Change.TheVariants as changes
use Rattle.lens_overview.specs.declared.shade.Shade.TheVariants as shades
use Rattle.net_plan.specs.declared.event.What.TheVariants as events
use Rattle.run_law.specs.declared.judgement.Reason.TheVariants as reasons
use Rattle.run_law.specs.declared.note.NoteBody.TheVariants as notes

-- what a frame that was dropped for this reason is counted as: those that are no frames of any kind together
abbrev pub reason_kind : Reason → Kind
reason_kind reasons.Off = kinds.Off
reason_kind reasons.ColdStart = kinds.ColdStart
reason_kind reasons.Domain = kinds.Domain
reason_kind reasons.Member = kinds.Member
reason_kind reasons.Old = kinds.Old
reason_kind reasons.Gate = kinds.Gate
reason_kind reasons.Cycle = kinds.Cycle
reason_kind reasons.Unsynchronised = kinds.Unsynchronised
reason_kind reasons.Unknown = kinds.Unknown
reason_kind reasons.Length = kinds.Length
reason_kind reasons.Early = kinds.Early
reason_kind reasons.Late = kinds.Late
reason_kind reasons.Repeat = kinds.Repeat
reason_kind (reasons.RefusedLength length) = kinds.Refused
reason_kind reasons.RefusedEtherType = kinds.Refused
reason_kind (reasons.RefusedReserved offset) = kinds.Refused
reason_kind (reasons.RefusedKind octet) = kinds.Refused

-- what a record is counted as, if it is
abbrev pub kind_of : NoteBody → Option Kind
kind_of (notes.Event line what) = Some kinds.Event
kind_of (notes.Lost device link cause) = Some kinds.Lost
kind_of (notes.Dropped device link cause reason) = Some (reason_kind reason)
kind_of body = None

-- what an event changes: a device breaks, or a way is cut or heals
abbrev pub struck : What → Change
struck (events.Break device) = changes.Turns device shades.Broken
struck (events.Cut link way) = changes.Cuts link way
struck (events.Heal link way) = changes.Heals link way
struck what = changes.Nothing

-- what the record of this number changes, where the records told this; 0 is the number of none
abbrev pub change_at : List News → ℕ → Option Change
change_at before zero = None
change_at before (suc n) = option_map (λ news. news.change) (slice_get before n)

-- the second copy of a frame that comes by the link, where the record that it comes from is a dispatch: it is one of that
-- one's cycle
abbrev pub repeats_by : Network → DeviceId → LinkId → Option Change → Change
repeats_by network device link (Some (changes.Sends vl cycle)) = changes.Repeats (record {
  vl = vl;
  device = device;
  cycle = cycle;
  channel = channel_of_link network link;
})
repeats_by network device link other = changes.Nothing

-- what a record changes, where the records before it told this
abbrev pub change_of : Network → List News → NoteBody → Change
change_of network before (notes.Event line what) = struck what
change_of network before (notes.State device state cause why) = changes.Turns device (shade_of state)
change_of network before (notes.TtSent device link cause vl cycle) = changes.Sends vl cycle
change_of network before (notes.Delivered device link cause vl cycle) = changes.Delivers (record {
  vl = vl;
  device = device;
  cycle = cycle;
  channel = channel_of_link network link;
})
change_of network before (notes.Dropped device link cause reasons.Repeat) =
    repeats_by network device link (change_at before cause)
change_of network before body = changes.Nothing

-- the cycle of world time that a record stands in
abbrev pub cycle_of : Network → Note → ℕ
cycle_of network note = moment note / amount network.cycle

-- what a record of a run tells, where the records before it told this
abbrev pub news_of : Network → Scenario → List Happening → List News → Note → News
news_of network s hs before note = record {
  cycle = cycle_of network note;
  kind = kind_of note.body;
  change = change_of network before note.body;
  spread = spread_by s hs (moment note) note.body;
}

-- what the records of a run tell, one after another
abbrev pub news_in : Network → Scenario → List Happening → List Note → List News
news_in network s hs ns = fold (λ before note. before ++ news_of network s hs before note ∷ []) [] ns

-- the cycle of the frame that is delivered or comes once more
abbrev pub named_cycle : Change → ℕ
named_cycle (changes.Delivers copied) = copied.cycle
named_cycle (changes.Repeats copied) = copied.cycle
named_cycle change = 0

-- the last cycle that the records stand in, or tell of a frame
abbrev pub last_cycle : List News → ℕ
last_cycle all = fold (λ last news. max (max last news.cycle) (named_cycle news.change)) 0 all
