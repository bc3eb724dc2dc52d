-- What a view gives: room, steady clocks, and records that are due.
use Rattle.precision_law.proofs.{clocks.Readings.clocks_are_steady, records.Times.{AreSorted, sorted}}
use Rattle.schedule_tables.{proofs.Margins.some_link, specs.Rules.KeepsRules}
use Rattle.precision_law.proofs.words.{Laws.{HaveRoom, IsSteady, IsView, View, sizes_of}, Std.{◌*◌, ◌+◌, ◌≡◌, ◌≤◌, arith, refl, subst, sym, ℕ}}
use Rattle.precision_law.proofs.words.Plans.{DeviceId, HasMargins, Network, all_at, amount, compression_time, margins, pcf_port_time, rules_give_trees}

-- ---- the sizes of an accepted network leave room

-- the sizes of a network that keeps the rules leave room
pub room_of : {n : Network} {path : ℕ} → KeepsRules n → HasMargins n path → HaveRoom (sizes_of n path)
room_of {n} keeps margins =
    let link = some_link n (λ rule below. keeps rule) in
    let last = all_at (λ l. amount n.correction + amount n.dmax + 8 * amount n.precision + pcf_port_time l ≤ amount n.cycle) n.link link.0 link.1
    margins.cycle.last_frame link.2 in
    record {
      errors = record { base_is = refl; clock_is = refl; reach_is = refl; spread_is = refl };
      grain = margins.drift.grain;
      two_readings = margins.drift.two_readings;
      two_drifts = margins.drift.two_drifts;
      eight_errors = margins.precision.eight_errors;
      compression_least = margins.precision.compression_least;
      compression_most = margins.precision.compression_most;
      corrections = margins.cycle.correction;
      cycles = omega arith;
      many_errors = margins.cycle.many_errors;
      many_starts = margins.cycle.eighteen_starts;
      settling = margins.settled.errors;
      paths = margins.dmax.path;
    }

-- ---- views

-- the sizes of a view leave room
pub room : {v : View} → IsView v → HaveRoom v.sizes
room {v} is =
    subst HaveRoom (sym is.sizes)
    (room_of is.lawful.rules (margins rules_give_trees v.scenario.network v.sizes.path is.lawful.range
    is.lawful.rules is.beta))

-- its clocks are steady
pub steady : (v : View) → IsView v → (device : DeviceId) → IsSteady v.sizes (v.scenario.reading device)
steady v is device = rw is.sizes (clocks_are_steady v.scenario v.sizes.path device is.lawful)

-- its records are sorted
pub in_order : {v : View} → IsView v → AreSorted v.records
in_order {v} is = sorted v.scenario v.records is.run.founded

-- its sizes are those of the network
pub record AreSizes (v : View) : Type 0 where
  pub cycle : v.sizes.cycle ≡ amount v.scenario.network.cycle
  pub correction : v.sizes.correction ≡ amount v.scenario.network.correction
  pub dmax : v.sizes.dmax ≡ amount v.scenario.network.dmax
  pub precision : v.sizes.precision ≡ amount v.scenario.network.precision
  pub settled : v.sizes.settled ≡ amount v.scenario.network.settled
  pub compression : v.sizes.compression ≡ compression_time v.scenario.network

pub sizes_are : {v : View} → IsView v → AreSizes v
sizes_are is = grind arith
