use Rattle.drift_world.{proofs.local.local_of.Goals.{then-index-via-else-index+then-ne, then-index-via-then-index}, specs.Locals.{IsWide, local_shown}}
use Rattle.std.proofs.Common.{◌+ℤ◌, ◌<◌, ◌∙◌, ◌≡◌, Bool, FitsSigned, List, None, Some, ap, arith, false, get_or, length, of_z, pos, refl, rules, sym, tests}
use Rattle.{std.proofs.{Common.{to_z, true, ℕ, ℤ}, lemmas.{Int.{ints, to_z-of_z}, Option.slice_get-get_or}}, tte_units.specs.declared.units.Units.Units}
use Rattle.{std.{proofs.lemmas.Bool.false≢true, specs.{Int.{w128, w64}, List.slice_get}}, tte_units.specs.Amount.amount}
use Rattle.sync_state.specs.declared.state.State.{State as DeviceState, TheVariants.{Integrating, Joining, Off, Synchronised}}
use Rattle.drift_world.proofs.local.local_of.Goals as goal

read_at : {X : Type 0} (xs : List X) (i : ℕ) {x : X} → i < length xs → x ≡ get_or xs i x → slice_get xs i ≡ Some x
read_at xs i {x} lt is = slice_get-get_or xs i x lt ∙ ap Some (sym is)

-- two numbers of 64 bits are added in 128
summed : {x y r a : ℤ} → x ≡ r → y ≡ a → FitsSigned w64 r → FitsSigned w64 a
    → to_z w128 (of_z w128 (to_z w128 (of_z w128 x) +ℤ to_z w128 (of_z w128 y))) ≡ r +ℤ a
summed same0 same1 fits0 fits1 = omega (arith, ints)

wide : (v r a : ℤ) → v ≡ r +ℤ a → FitsSigned w64 r → FitsSigned w64 a → IsWide v
wide v r a is fits0 fits1 = record { low = omega (arith, ints); high = omega (arith, ints) }

sound_shown : {broken : Bool} {state : DeviceState} (reading : ℕ) (adjustment : Units) {r a : ℤ} → broken ≡ false → Synchronised ≡ state → r ≡ pos reading
    → a ≡ adjustment.0 → Some (r +ℤ a) ≡ local_shown broken state reading adjustment
sound_shown {broken} reading adjustment {a} sound in_step reads adjusts =
    rw reads (ap (λ v. Some (pos reading +ℤ v)) adjusts
    ∙ ap (λ b. local_shown b Synchronised reading adjustment) (sym sound) ∙ ap
    (λ s. local_shown broken s reading adjustment) in_step)

none_shown : (broken : Bool) (state : DeviceState) (reading : ℕ) (adjustment : Units) → (state ≡ Synchronised → ⊥)
    → None ≡ local_shown broken state reading adjustment
none_shown true state reading adjustment other = refl
none_shown false Synchronised reading adjustment other = absurd (other refl)
none_shown false Off reading adjustment other = refl
none_shown false Integrating reading adjustment other = refl
none_shown false Joining reading adjustment other = refl

pub returns-then-index-clause-shows : goal.returns-then-index-clause-shows
returns-then-index-clause-shows g c =
    let w = c.args.state.now in
    let i = c.args.device.0 in
    let z = c.requires.sized in
    let reading = g.C.Clock.reading c.index-clock.result.now (amount c.args.t) in
    let there = c.requires.may.there in
    let clocks = z.clocks in
    let machines = z.machines in
    let broken = z.broken in
    record {
      clock = c.index-clock.result.now;
      clock_is = read_at w.clocks.items i (omega arith) c.index-clock.ensures;
      kept = c.index-kept.result.now;
      kept_is = read_at w.machines.items i (omega arith) c.index-kept.ensures;
      broken = c.index.result.now;
      broken_is = read_at w.broken.items i (omega arith) c.index.ensures;
      is = λ network node k. elim c.then-index.branch [
        | then-index-via-then-index v ↦ ap (λ b. local_shown b node.standing.state reading node.standing.adjustment) (sym v.if-index.true)
        | then-index-via-else-index+then-ne v ↦ none_shown c.index.result.now node.standing.state reading node.standing.adjustment
            (λ same. let is = v.state.ensures network c.args.device node k ∙ same in false≢true (sym (rw is at v.if-ne.ensures)))
      ];
    }

pub returns : goal.returns
returns g c =
    let w = c.args.state.now in
    let i = c.args.device.0 in
    let z = c.requires.sized in
    let reading = g.C.Clock.reading c.index-clock.result.now (amount c.args.t) in
    let there = c.requires.may.there in
    let clocks = z.clocks in
    let machines = z.machines in
    let broken = z.broken in
    let r = c.read-reading.result.0 in
    let a = c.adjustment.result.0 in
    let fits0 : FitsSigned w64 r = search rules in
    let fits1 : FitsSigned w64 a = search rules in
    let sum = summed (c.from.ensures ∙ to_z-of_z w64 r fits0) (c.from-2.ensures ∙ to_z-of_z w64 a fits1) fits0 fits1 in
    let in_step : c.state.result ≡ Synchronised = search (rules, tests) in
    record {
      shows = record {
        clock = c.index-clock.result.now;
        clock_is = read_at w.clocks.items i (omega arith) c.index-clock.ensures;
        kept = c.index-kept.result.now;
        kept_is = read_at w.machines.items i (omega arith) c.index-kept.ensures;
        broken = c.index.result.now;
        broken_is = read_at w.broken.items i (omega arith) c.index.ensures;
        is = λ network node k. ap Some sum ∙ sound_shown reading node.standing.adjustment c.if-index.false
            (sym in_step ∙ c.state.ensures network c.args.device node k) c.read-reading.ensures
            (rw (c.adjustment.ensures network c.args.device node k));
      };
      range = wide _ r a sum fits0 fits1;
    }
