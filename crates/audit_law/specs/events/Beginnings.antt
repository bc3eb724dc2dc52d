-- A history to which no event was added.
use Rattle.std.specs.{List.All, Prelude.{◌<ℤ◌, ◌∷◌, ◌≡◌, ◌≤◌, ◌⊎◌, List, None, [], false, pos, ℕ, ℤ, ⊤}}
use Rattle.audit_law.specs.declared.events.history.{DeviceHistory.DeviceHistory, WayHistory.WayHistory}
use Rattle.audit_law.specs.{declared.events.settings.Settings.Settings, events.Clocks.AreClocks}
use Rattle.{drift_clock.specs.Segment.fresh_segment, net_plan.specs.declared.tables.Link.Link}
use Rattle.tte_units.specs.Amount.{amount}

-- the setting has this value, and no change
pub record IsUntouched {V : Type 0} (initial : V) (settings : Settings V) : Type 0 where
  pub first : settings.initial ≡ initial
  pub none : settings.changes.items ≡ []

-- nothing has been set on a way of a link with this wire delay
pub record IsUntouchedWay (wire : ℕ) (told : WayHistory) : Type 0 where
  pub delay : IsUntouched wire told.delay
  pub hold : IsUntouched 0 told.hold
  pub cut : IsUntouched false told.cut

-- these are two untouched ways for each of the links
abbrev pub AreWaysOf : List Link → List WayHistory → Type 0
AreWaysOf [] [] = ⊤
AreWaysOf (link ∷ links) (up ∷ down ∷ ways) =
    IsUntouchedWay (amount link.wire) up × IsUntouchedWay (amount link.wire) down × AreWaysOf links ways
AreWaysOf links ways = ⊥

-- nothing has happened to a device whose clock has this grain
pub record IsUntouchedDevice (grain : ℕ) (told : DeviceHistory) : Type 0 where
  pub clock : IsUntouched (fresh_segment grain) told.clock
  pub broken : told.broken ≡ None
  pub turned_on : told.turned_on ≡ None

-- a value that is sought: this one, or 0 for one below 0
abbrev pub IsSought : ℤ → ℤ → Type 0
IsSought value goal = ((value <ℤ pos 0) × (goal ≡ pos 0)) ⊎ (goal ≡ value)

-- the device's clock was stepped no later than the time
pub record IsReadyFor (time : ℕ) (told : DeviceHistory) : Type 0 where
  pub clocks : AreClocks told.clock.initial told.clock.changes.items
  pub later : All (λ c. c.from ≤ time) told.clock.changes.items
