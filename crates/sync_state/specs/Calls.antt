use Rattle.std.specs.Prelude.{◌++◌, ◌+ℤ◌, ◌+◌, ◌∷◌, ◌≡◌, IsSome, List, None, Option, Some, SomeIff, [], fold, ℕ}
use Rattle.tte_units.specs.declared.{frames.pcf.Pcf.Pcf, units.Units.Units}
use Rattle.sync_state.specs.{Integration.{Integrates, joined_by}, declared.answers.{Joined.Joined, Verdict.Verdict}}
use Rattle.sync_state.specs.Standing.{Standing, adjustment_at_start, next_point, state_at_start}
use Rattle.sync_state.specs.{Verdicts.HasVerdict, declared.plan.SyncPlan.SyncPlan, membership.Summary.Summary}
use Rattle.sync_state.specs.declared.answers.Verdict.TheVariants.{AsyncClique, Cleared, Corrected, SyncClique}
use Rattle.sync_state.specs.declared.state.State.{State, TheVariants.{Integrating, Joining, Off, Synchronised}}

-- a call on a device's synchronisation, with what it was given and what it answered
pub data Call : Type 0 where
  turned_on : Call
  heard_frame : Pcf → Units → Option Joined → Call
  reached_point : Summary → Verdict → Call

-- ---- what a call makes of each part

-- the state by a verdict: a correction synchronises, and a clique loses the network
abbrev pub state_by : State → Verdict → State
state_by state (Corrected by) = Synchronised
state_by state SyncClique = Integrating
state_by state AsyncClique = Integrating
state_by state Cleared = state

-- the adjustment by a verdict: a correction is added
abbrev pub adjustment_by : Units → Verdict → Units
adjustment_by adjustment (Corrected by) = record { 0 = adjustment.0 +ℤ by.0 }
adjustment_by adjustment SyncClique = adjustment
adjustment_by adjustment AsyncClique = adjustment
adjustment_by adjustment Cleared = adjustment

-- the state: a device that is turned on integrates, and one that a frame integrates joins
abbrev pub next_state : State → Call → State
next_state state turned_on = Integrating
next_state state (heard_frame frame point None) = state
next_state state (heard_frame frame point (Some joined)) = Joining
next_state state (reached_point heard verdict) = state_by state verdict

-- the adjustment: that by which a frame integrates, and more by each correction
abbrev pub next_adjustment : Units → Call → Units
next_adjustment adjustment turned_on = adjustment
next_adjustment adjustment (heard_frame frame point None) = adjustment
next_adjustment adjustment (heard_frame frame point (Some joined)) = joined.adjustment
next_adjustment adjustment (reached_point heard verdict) = adjustment_by adjustment verdict

-- the correction number: the cycle of the frame that integrates, and one more at each correction point
abbrev pub next_number : ℕ → Call → ℕ
next_number number turned_on = number
next_number number (heard_frame frame point None) = number
next_number number (heard_frame frame point (Some joined)) = joined.cycle
next_number number (reached_point heard verdict) = number + 1

-- the cycle of the frame that integrated the device last
abbrev pub next_integrated : Option ℕ → Call → Option ℕ
next_integrated integrated turned_on = integrated
next_integrated integrated (heard_frame frame point None) = integrated
next_integrated integrated (heard_frame frame point (Some joined)) = Some joined.cycle
next_integrated integrated (reached_point heard verdict) = integrated

-- where a device stands after a call
abbrev pub after : Standing → Call → Standing
after s call = record {
  plan = s.plan;
  state = next_state s.state call;
  adjustment = next_adjustment s.adjustment call;
  number = next_number s.number call;
  integrated = next_integrated s.integrated call;
}

-- ---- lists of calls

-- where a device stands after all its calls, from the beginning on
abbrev pub after_all : SyncPlan → Option Units → List Call → Standing
after_all plan start calls = record {
  plan = plan;
  state = fold next_state (state_at_start start) calls;
  adjustment = fold next_adjustment (adjustment_at_start start) calls;
  number = fold next_number 1 calls;
  integrated = fold next_integrated None calls;
}

-- the call may come where the device stands so, and answers what it owes
abbrev pub IsAnswered : Standing → Call → Type 0
IsAnswered s turned_on = s.state ≡ Off
IsAnswered s (heard_frame frame point answer) = SomeIff answer (Integrates s frame) (joined_by s.plan frame point)
IsAnswered s (reached_point heard verdict) = IsSome (next_point s) × HasVerdict s heard verdict

-- the device stands where its calls have brought it, and each of them is answered by where the earlier ones had brought
-- it
pub record StandsAfter (plan : SyncPlan) (start : Option Units) (calls : List Call) (s : Standing) : Type 0 where
  pub stands : s ≡ after_all plan start calls
  pub answered : (earlier later : List Call) (call : Call) → calls ≡ earlier ++ call ∷ later
      → IsAnswered (after_all plan start earlier) call

-- the device stands where one more call brings it, after each list of calls that brought it to where it stood
abbrev pub CarriesOn : Standing → Call → Standing → Type 0
CarriesOn old call new =
    (plan : SyncPlan) (start : Option Units) (calls : List Call) → StandsAfter plan start calls old
    → StandsAfter plan start (calls ++ call ∷ []) new
