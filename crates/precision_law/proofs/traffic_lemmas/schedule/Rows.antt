-- The room that the schedule leaves its rows.
use Rattle.precision_law.proofs.traffic_lemmas.Words.{◌*◌, ◌+◌, ◌<◌, ◌≡◌, ◌≤◌, ◌⊎◌, Entry, IsEntry, KeepsRules, Network, OccursIn, Sizes, amount, ap}
use Rattle.precision_law.proofs.traffic_lemmas.Words.{arith, cases_lt, in_all, inl, inr, sym, ℕ}
use Rattle.precision_law.specs.traffic.Rows.{RowsAreInTime, RowsComeInSchedule, RowsGoOnce, RowsStandApart}
use Rattle.schedule_tables.{proofs.{Margins.{begun_below, occur_together}, SlotLemmas.one_entry}}
use Rattle.schedule_tables.{specs.Delays.pcf_port_time}
use Rattle.schedule_tables.specs.{Schedule.IsClearBefore, declared.rule.Rule.TheVariants.{LinksOnce, Periods, ScheduleStart, Spacing, WindowEnds}}

-- ---- the schedule's begin

pub rows_come_in_schedule : RowsComeInSchedule
rows_come_in_schedule network place entry keeps is =
    begun_below (amount entry.row.offset + 1) place entry keeps is (omega arith)

-- ---- rooms

pub rows_are_in_time : RowsAreInTime
rows_are_in_time v place entry is row =
    let n = v.scenario.network in
    let keeps = is.lawful.rules in
    let begun = rows_come_in_schedule n place entry keeps row in
    let start = in_all (λ l. amount n.correction + amount n.dmax + 4 * amount n.precision + pcf_port_time l ≤ amount
    n.tt_start) n.link
    entry.row.link.0 entry.link (keeps ScheduleStart 0).begins row.link in
    let ends = keeps WindowEnds place entry row in
    let correction : v.sizes.correction ≡ amount n.correction = ap (λ (s : Sizes). s.correction) is.sizes in
    let dmax : v.sizes.dmax ≡ amount n.dmax = ap (λ (s : Sizes). s.dmax) is.sizes in
    let precision : v.sizes.precision ≡ amount n.precision = rw is.sizes in
    let gamma = ap (λ (s : Sizes). s.gamma) is.sizes in
    let cycle : v.sizes.cycle ≡ amount n.cycle = ap (λ (s : Sizes). s.cycle) is.sizes in
    record {
      begins = omega arith;
      tolerates = omega arith;
      ends = omega arith;
    }

-- ---- rows of one link

-- what an earlier row and a later one are to each other
apart_in_order : {network : Network} {k place : ℕ} {earlier entry : Entry} {cycle : ℕ} → KeepsRules network
    → k < place → IsEntry network k earlier → IsEntry network place entry → entry.row.link ≡ earlier.row.link
    → entry.row.way ≡ earlier.row.way → OccursIn entry.vl cycle → OccursIn earlier.vl cycle
    → IsClearBefore network earlier entry ⊎ IsClearBefore network entry earlier
apart_in_order {k} {place} {earlier} {entry} {cycle} keeps lt one two link way here there =
    keeps Spacing place k earlier entry lt one two link way
    (occur_together (keeps Periods entry.row.vl.0 entry.vl two.vl).0 (keeps Periods earlier.row.vl.0 earlier.vl
    one.vl).0 here there)

pub rows_stand_apart : RowsStandApart
rows_stand_apart network place other entry second cycle keeps one two link way here there = grind (arith, cases_lt, apart_in_order)

-- one place has one row
same_place : {network : Network} {place other : ℕ} {entry second : Entry} → place ≡ other
    → IsEntry network place entry → IsEntry network other second → entry ≡ second
same_place {network} {place} {entry} {second} same one two =
    one_entry network place entry second one (rw same two)

pub rows_go_once : RowsGoOnce
rows_go_once network place other entry second keeps one two vl link =
    elim (cases_lt place other) [
      | inl lt ↦ absurd (keeps LinksOnce other place entry.row second.row lt one.row two.row (sym vl) (sym link))
      | inr ge ↦ elim (cases_lt other place) [
        | inl lt ↦ absurd (keeps LinksOnce place other second.row entry.row lt two.row one.row vl link)
        | inr le ↦
            let same : place ≡ other = omega arith in
            (same, same_place same one two)
      ]
    ]
