-- What a master sends next, where no record of it comes between.
use Rattle.std.specs.Prelude.{◌+◌, ◌<◌, ◌≡◌, ◌≤◌, List, MatchOption, Option, false, ℕ}
use Rattle.{audit_devices.specs.Showing.{Shown, Shows}, run_law.specs.records.Happenings.{Happening, earlier}}
use Rattle.{audit_devices.specs.declared.clocks.sending.MasterSending.MasterSending, net_plan.specs.declared.ids.DeviceId.DeviceId}
use Rattle.run_law.specs.{scenario.Scenarios.{Scenario, is_broken, is_turned_on_at}, timed.Dispatching.Sends}

-- at each time later than `after`, up to `until`, the records before show this of the device, and it is correct and not
-- turned on
pub record IsStretch (s : Scenario) (hs : List Happening) (device : DeviceId) (after until : ℕ) (shown : Shown) : Type 0
  where
    pub shows : (t : ℕ) → after < t → t ≤ until → Shows s (earlier t hs) device shown
    pub correct : (t : ℕ) → after < t → t ≤ until → is_broken s device t ≡ false
    pub steady : (t : ℕ) → after < t → t ≤ until → is_turned_on_at s device t ≡ false

-- the device sends nothing at a time later than the first and earlier than the second
abbrev pub NoneSent : Scenario → List Happening → DeviceId → ℕ → ℕ → Type 0
NoneSent s hs device after before = (t cycle : ℕ) → after < t → t < before → Sends s hs device t cycle → ⊥

-- it sends this, later than `after`, up to `until`, and nothing before
pub record IsNextSending (s : Scenario) (hs : List Happening) (device : DeviceId) (after until : ℕ) (sending : MasterSending)
    : Type 0 where
  pub later : after < sending.time
  pub timely : sending.time ≤ until
  pub sends : Sends s hs device sending.time sending.cycle
  pub none_before : NoneSent s hs device after sending.time

-- what it sends next, or none where it sends nothing
abbrev pub IsNextSendingOrNone : Scenario → List Happening → DeviceId → ℕ → ℕ → Option MasterSending → Type 0
IsNextSendingOrNone s hs device after until result =
    MatchOption result (NoneSent s hs device after (until + 1)) (IsNextSending s hs device after until)
