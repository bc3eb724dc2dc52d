-- The precision: in each run within the fault hypothesis the clocks of correct synchronised devices stay together,
-- and only switches of the faulty channel lose the common time.
use Rattle.std.specs.Prelude.{◌*◌, ◌^◌, ◌≡◌, ◌≤◌, List, true, ℕ}
use Rattle.{net_plan.specs.Places.IsSwitchOf, run_law.specs.law.{FirstLaws.IsLawful, Safety.ClocksAgree}}
use Rattle.{net_plan.specs.declared.ids.DeviceId.DeviceId, tte_units.specs.declared.frames.channel.Channel.Channel}
use Rattle.{precision_law.specs.{Blocks.IsClique, Views.{Covers, IsSound}}, sync_state.specs.declared.state.State.State}
use Rattle.run_law.specs.{declared.{judgement.Why.Why, note.Note.Note}, scenario.{Devices.is_end, Scenarios.Scenario}}
use Rattle.run_law.specs.{records.Happenings.{Happening, happenings, time_of}, runs.DueRecords.IsScenarioRun}
use Rattle.{run_law.specs.records.Order.IsIn, tte_units.specs.Amount.amount}
use Rattle.run_law.specs.declared.note.NoteBody.TheVariants as notes

-- the records are those of a run that goes as far as this time, of an accepted network within the fault hypothesis
pub record IsRunUpTo (s : Scenario) (mark : List ℕ) (ns : List Note) (until : ℕ) : Type 0 where
  pub lawful : IsLawful s
  pub run : IsScenarioRun s mark ns
  pub covers : Covers mark until
  pub short : until ≤ 2 ^ 20 * amount s.network.cycle

-- the clocks of any two correct synchronised devices stay within the precision
abbrev pub ClocksStayTogether : Type 0
ClocksStayTogether =
    (s : Scenario) (mark : List ℕ) (ns : List Note) (until : ℕ) → IsRunUpTo s mark ns until
    → ClocksAgree s (happenings s.network ns) until

-- no end system, and no switch of a channel that is not the faulty one then, loses the common time
abbrev pub TimeIsKept : Type 0
TimeIsKept =
    (s : Scenario) (mark : List ℕ) (ns : List Note) (until : ℕ) → IsRunUpTo s mark ns until
    → (h : Happening) (device : DeviceId) (state : State) (cause : ℕ) (why : Why)
    → IsIn h (happenings s.network ns) → time_of h ≤ until → h.note.body ≡ notes.State device state cause why
    → IsClique why
    → (is_end s.network device ≡ true → ⊥)
    × ((channel : Channel) → IsSwitchOf s.network channel device → IsSound s (time_of h) channel → ⊥)
