use Rattle.std.proofs.lemmas.Bool.{le-leb}
use Rattle.audit_devices.specs.Showing.{Shows}
use Rattle.run_law.{proofs.records.Order.all_kept, specs.records.Happenings.up_to}
use Rattle.audit_sweep.proofs.Words.{◌∙◌, ◌≡◌, Happening, amount, ap, clock_reading, refl, scenario_under, subst, sym, time_of}
use Rattle.std.specs.Prelude.{nat_le}
use Rattle.audit_sweep.proofs.clocks.is_end_clock.Goals as goal

pub returns : goal.returns
returns c befallen hs k none =
    let s = scenario_under c.args.network.now befallen in
    let t = amount c.args.time in
    let up : up_to t hs ≡ hs = all_kept (λ (h : Happening). nat_le (time_of h) t) hs (λ h i. le-leb (time_of h) t (none h i)) in
    c.shows_clock.ensures s hs c.args.time refl
    (c.reading-reading.ensures c.args.network.now befallen k.events c.requires.there
    ∙ ap (λ n. clock_reading c.args.network.now befallen c.args.device n) c.amount.ensures.value)
    (c.is_end.ensures c.args.network.now befallen hs k)
    (subst (λ gs. Shows s gs c.args.device c.latest-shown.result.now) (sym up) (c.latest-shown.ensures s hs k.standings))
