use Rattle.{drift_clock.specs.RateSteps.RateStep, std.proofs.lemmas.List.Elements.All-set, world_state.{proofs.Befalls.set_there, specs.Applying.clock_after}}
use Rattle.{net_plan.specs.declared.event.What.TheVariants.Rate, std.proofs.lemmas.{Bool.{cases_eq, eq-eqb, ne_eqb}, Int.ints, Option.get_or_from_slice_get}}
use Rattle.{net_plan.specs.declared.ids.DeviceId.DeviceId, tte_units.{proofs.general_lemmas.Lists.set_same, specs.declared.{rates.Ppb.Ppb, units.Units.Units}}}
use Rattle.std.proofs.Common.{◌<◌, ◌∙◌, ◌≡◌, ◌≤ℤ◌, ◌≤◌, Bool, List, None, Some, ap, arith, get_or, if◌then◌else◌, inl, inr, length, pos, set, sym, ℕ, ℤ}
use Rattle.{std.{proofs.lemmas.List.length-set, specs.{List.slice_get, Option.option_map_or}}, tte_units.specs.Amount.amount}
use Rattle.world_state.proofs.applying.set_rate.Goals as goal

rated : {C : Type 0} (after_step : C → ℕ → ℤ → C) (time : Units) (other : DeviceId) (rate : Ppb) (clocks : List C) {was after : C} → other.0 < length clocks
    → was ≡ get_or clocks other.0 was → after ≡ after_step was (amount time) rate.0 → (device : DeviceId) {clock : C} → slice_get clocks device.0 ≡ Some clock
    → slice_get (set clocks other.0 after) device.0 ≡ Some (clock_after after_step device time (Rate other rate) clock)
rated {C} after_step time other rate clocks {was} {after} within value made device {clock} found =
    let step : RateStep = record { at = amount time; rate = rate.0 } in
    let chosen : Bool → C = λ b. option_map_or (λ s. after_step clock s.at s.rate) (if b then Some step else None) clock in
    elim (cases_eq device.0 other.0) [
      | inl same ↦
          let own = value ∙ get_or_from_slice_get clocks other.0 clock was (rw same at found) in
          ap (slice_get (set clocks other.0 after)) same ∙ set_same clocks other.0 after within
          ∙ ap Some (made ∙ (rw own (sym (ap chosen (eq-eqb device.0 other.0 same)))))
      | inr apart ↦ set_there clocks other.0 device.0 after apart found ∙ ap Some (sym (ap chosen (ne_eqb device.0 other.0 apart)))
    ]

pub rate-requires : goal.rate-requires
rate-requires g c =
    let at = c.in-Rate.device in
    record {
      stepped =
          rw c.index_mut.ensures.value (c.requires.stepped at.0 c.index_mut.result.now
          (c.requires.there at c.in-Rate.rate c.in-Rate.is));
      limit = c.requires.limit;
      magnitude = c.requires.slow at c.in-Rate.rate c.in-Rate.is;
    }

pub returns-in-Rate : goal.returns-in-Rate
returns-in-Rate g c =
    let at = c.in-Rate.device in
    let clocks = c.args.clocks.now.items in
    let after = c.rate.new.self in
    let within = c.requires.there at c.in-Rate.rate c.in-Rate.is in
    let before = c.requires.stepped at.0 c.index_mut.result.now within in
    let late : g.C.Clock.last_step after ≤ amount c.args.time =
    rw c.rate.ensures (g.met.C.Clock.steps_by c.index_mut.result.now _ c.in-Rate.rate.0) in
    record {
      each = λ device clock found.
          rated g.C.Clock.after_step c.args.time at c.in-Rate.rate clocks within c.index_mut.ensures.value c.rate.ensures device found ∙ ap (λ w. Some (clock_after g.C.Clock.after_step device c.args.time w clock)) (sym c.in-Rate.is);
      length = length-set clocks at.0 after;
      stepped = All-set (λ x. pos (g.C.Clock.last_step x) ≤ℤ c.args.time.0) clocks at.0 after (omega (arith, ints))
          c.requires.stepped;
    }
