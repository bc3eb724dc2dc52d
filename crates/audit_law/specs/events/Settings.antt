-- Values that events set, and their changes.
use Rattle.std.specs.Prelude.{if◌then◌else◌, ◌≡◌, List, Option, filter, filter_map, fold, nat_le, nat_lt, option_map, ℕ}
use Rattle.audit_law.specs.declared.events.settings.{Setting.Setting, Settings.Settings}
use Rattle.{net_plan.specs.declared.event.{Event.Event, What.What}, tte_units.specs.Amount.amount}

-- the last value that is set up to a time, or else the initial one
abbrev pub value_at : {V : Type 0} → V → List (Setting V) → ℕ → V
value_at initial changes time = fold (λ v c. if nat_le c.from time then c.value else v) initial changes

-- the changes later than a time
abbrev pub later_than : {V : Type 0} → ℕ → List (Setting V) → List (Setting V)
later_than time changes = filter (λ c. nat_lt time c.from) changes

-- the change at a time to this value
abbrev pub change_to : {V : Type 0} → ℕ → V → Setting V
change_to time value = record { from = time; value = value }

-- the changes that the events make of a setting, in their order
abbrev pub changes_by : {V : Type 0} → (What → Option V) → List Event → List (Setting V)
changes_by setting events = filter_map (λ e. option_map (change_to (amount e.time)) (setting e.what)) events

-- these are the changes that the events make of a setting which is this at first
pub record IsSetBy {V : Type 0} (setting : What → Option V) (initial : V) (events : List Event) (settings : Settings V)
    : Type 0 where
  pub first : settings.initial ≡ initial
  pub changes : settings.changes.items ≡ changes_by setting events
