use Rattle.audit_law.specs.events.Readings.{scenario_under}
use Rattle.lens_clocks.proofs.Passing.{cycles_fail, cycles_more, cycles_some}
use Rattle.lens_clocks.specs.{Answer.{cycles_by, lines_to}, Lines.told_lines, Telling.clocks_at}
use Rattle.std.proofs.Common.{◌*◌, ◌+◌, ◌/◌, ◌<◌, ◌∙◌, ◌≡◌, ap, arith, inl, inr, refl, subst, ℕ}
use Rattle.tte_forms.{proofs.Puts.Ends-gives, specs.Putting.{PutFails, PutsLines, shown_by}}
use Rattle.tte_forms.specs.declared.status.Status.TheVariants.{Done}
use Rattle.lens_clocks.proofs.cycles.put_cycles.Goals as goal

pub returns-in-Err-clause-gives : goal.returns-in-Err-clause-gives
returns-in-Err-clause-gives g c befallen hs known =
    let s = scenario_under c.args.network.now befallen in
    let count = ap (λ (n : ℕ). c.args.until / n) c.amount-cycle.ensures.value in
    inr (inr (
      inr refl,
      cycles_some s hs c.cycles.before (cycles_by s c.args.until) (shown_by g.K.Sink c.args.out.now) (shown_by g.K.Sink c.cycles.out)
          (subst (λ n. c.cycles.before < n) count c.cycles-test.true) (c.cycles.invariant.puts befallen hs known),
    ))

pub returns-in-Err-put_told-clause-gives : goal.returns-in-Err-put_told-clause-gives
returns-in-Err-put_told-clause-gives g c befallen hs known =
    let s = scenario_under c.args.network.now befallen in
    let n = c.cycles.before in
    let now = shown_by g.K.Sink c.cycles.out in
    let new = shown_by g.K.Sink c.put_told.new.out in
    let count = ap (λ (k : ℕ). c.args.until / k) c.amount-cycle.ensures.value in
    let clocks : c.as_slice.result.now ≡ clocks_at s hs ((n + 1) * _) =
    c.as_slice.ensures.value ∙ c.in-Ok.ensures.are befallen hs known ∙ ap (λ (k : ℕ). clocks_at s hs ((n + 1) * k)) c.amount-cycle.ensures.value in
    inr (inl (
      refl,
      inl (cycles_fail s hs n (cycles_by s c.args.until) (shown_by g.K.Sink c.args.out.now) now new
          (subst (λ k. n < k) count c.cycles-test.true) (c.cycles.invariant.puts befallen hs known)
          (subst (λ cs. PutFails (told_lines c.args.network.now (n + 1) cs) now new) clocks c.in-Err-put_told.ensures.puts)),
    ))

pub cycles-preserved : goal.cycles-preserved
cycles-preserved g c =
    let n = c.cycles.before in
    let now = shown_by g.K.Sink c.cycles.out in
    let new = shown_by g.K.Sink c.put_told.new.out in
    record {
      puts =
          λ befallen hs known.
          let s = scenario_under c.args.network.now befallen in
          let clocks : c.as_slice.result.now ≡ clocks_at s hs ((n + 1) * _) =
          c.as_slice.ensures.value ∙ c.in-Ok.ensures.are befallen hs known ∙ ap (λ (k : ℕ). clocks_at s hs ((n + 1) * k)) c.amount-cycle.ensures.value in
          cycles_more s hs n (shown_by g.K.Sink c.args.out.now) now new (c.cycles.invariant.puts befallen hs known)
          (subst (λ cs. PutsLines (told_lines c.args.network.now (n + 1) cs) now new) clocks c.in-Ok-put_told.ensures.puts);
      quiet = c.in-Ok-put_told.ensures.faults ∙ c.cycles.invariant.quiet;
    }

pub returns-clause-gives : goal.returns-clause-gives
returns-clause-gives g c befallen hs known =
    let s = scenario_under c.args.network.now befallen in
    let old = shown_by g.K.Sink c.args.out.now in
    let now = shown_by g.K.Sink c.cycles.out in
    let all : c.cycles.before ≡ c.args.until / c.amount-cycle.result = omega (arith, c.cycles-test.false, c.cycles.auto.before-end) in
    let count : c.cycles.before ≡ cycles_by s c.args.until = all ∙ ap (λ (n : ℕ). c.args.until / n) c.amount-cycle.ensures.value in
    Ends-gives Done c.end_with.result (shown_by g.K.Sink c.end_with.new.out)
    (subst (λ n. PutsLines (lines_to s hs n) old now) count (c.cycles.invariant.puts befallen hs known)) c.end_with.ensures.ends
