use Rattle.{audit_law.specs.law.FirstDebts.earlier_of, audit_sweep.specs.{Lacking.{AreEventsTold, TellsFirstLack}, unpaid.Clocks.IsOnlyEnd}}
use Rattle.audit_sweep.specs.unpaid.Sorts.{IsClockDebt, IsDispatchDebt, IsEmissionDebt, IsPointDebt, IsRecordDebt, IsSendingDebt}
use Rattle.audit_sweep.proofs.Lacks.{back, first_of, founded, here, kept_for_clocks, kept_for_clusters, of_devices}
use Rattle.audit_sweep.proofs.Lacks.{only_end, some_here, tells_lack, there}
use Rattle.audit_sweep.proofs.Words.{◌∙◌, ◌≡◌, Network, Units, amount, ap, refl, scenario_under, subst, sym}
use Rattle.audit_sweep.specs.unpaid.points.Kept as clocks
use Rattle.audit_sweep.specs.unpaid.emissions.Kept as clusters
use Rattle.audit_sweep.proofs.sweep.Sweep.first_lack.Goals as goal

pub first_unpaid-brought-requires-clause-some : goal.first_unpaid-brought-requires-clause-some
first_unpaid-brought-requires-clause-some c =
    let some = some_here c.requires.swept in
    (c.debtor-debtor.result.network.now, some.0, (c.debtor-debtor.ensures.known some.0 some.1 some.2).remembers)

pub first_unpaid-brought-requires-clause-standing : goal.first_unpaid-brought-requires-clause-standing
first_unpaid-brought-requires-clause-standing c =
    let some = some_here c.requires.swept in
    (c.debtor-debtor.ensures.known some.0 some.1 some.2).standing

pub first_unemitted-emissions-requires-clause-kept :
    goal.first_unemitted-emissions-requires-clause-kept
first_unemitted-emissions-requires-clause-kept c = kept_for_clusters (some_here c.requires.swept)

pub first_unsent-sendings-requires-clause-kept : goal.first_unsent-sendings-requires-clause-kept
first_unsent-sendings-requires-clause-kept c = kept_for_clocks (some_here c.requires.swept)

pub first_untold-points-requires-clause-kept : goal.first_untold-points-requires-clause-kept
first_untold-points-requires-clause-kept c = kept_for_clocks (some_here c.requires.swept)

pub first_undispatched-dispatches-requires-clause-known :
    goal.first_undispatched-dispatches-requires-clause-known
first_undispatched-dispatches-requires-clause-known c =
    let some = some_here c.requires.swept in
    (some.0, some.1, c.row_debtor.ensures.known some.0 some.1 some.2)

pub returns : goal.returns
returns c network befallen end hs swept told =
    let sweep = c.args.self.now in
    let own = sweep.network.now in
    let until = amount sweep.known.end in
    let w = here swept in
    let by : c.magnitude-until.result ≡ until = c.magnitude-until.ensures in
    let debtor = c.debtor-debtor.result in
    let same : (debtor.network.now ≡ own) × (debtor.until ≡ until) = (c.debtor-debtor.ensures.same.0, c.debtor-debtor.ensures.same.1 ∙ by) in
    let known = c.debtor-debtor.ensures.known befallen hs w in
    let rows = c.row_debtor.result in
    let rows_same : (rows.network.now ≡ own) × (rows.until ≡ until) = (c.row_debtor.ensures.same.0, c.row_debtor.ensures.same.1 ∙ by) in
    let is_founded = founded w in
    let by_clocks : clocks.IsKept own befallen hs sweep.known.events sweep.known.standings sweep.places =
    record { remembers = w.known.events; stands = w.known.standings; places_are = w.places } in
    let by_clusters : clusters.IsKept own befallen hs sweep.known.events sweep.known.stretches sweep.places =
    record { remembers = w.known.events; stands = w.known.stretches; places_are = w.places } in
    let only = subst (IsOnlyEnd befallen) (sym by) (only_end w) in
    let is_told =
    back (λ (n : Network) (e : Units). AreEventsTold (scenario_under n befallen) hs (amount e)) swept told in
    let brought = c.first_unpaid-brought.result in
    let emissions = c.first_unemitted-emissions.result in
    let sendings = c.first_unsent-sendings.result in
    let points = c.first_untold-points.result in
    let dispatches = c.first_undispatched-dispatches.result in
    let clock = c.first_unpaid_clock-clocks.result in
    let earliest : earlier_of brought
    (earlier_of emissions (earlier_of sendings (earlier_of points (earlier_of dispatches clock))))
    ≡ c.earlier_of.result =
    ap (λ x. earlier_of brought (earlier_of emissions (earlier_of sendings (earlier_of points x))))
    (sym c.earlier_of-last.ensures)
    ∙ ap (λ x. earlier_of brought (earlier_of emissions (earlier_of sendings x))) (sym c.earlier_of-late.ensures)
    ∙ ap (λ x. earlier_of brought (earlier_of emissions x)) (sym c.earlier_of-later.ensures)
    ∙ ap (earlier_of brought) (sym c.earlier_of-rest.ensures)
    ∙ sym c.earlier_of.ensures in
    let first = c.earlier_of.result in
    there (λ (n : Network) (e : Units). TellsFirstLack (scenario_under n befallen) hs
    (amount e) first) network befallen end hs sweep swept
    (tells_lack first w (record {
      events = is_told;
      brought = first_of own debtor.network.now befallen hs until debtor.until IsRecordDebt brought same
          (c.first_unpaid-brought.ensures befallen hs known);
      emissions = first_of own own befallen hs until c.magnitude-until.result IsEmissionDebt emissions (refl, by)
          (c.first_unemitted-emissions.ensures befallen hs by_clusters is_founded);
      sendings = first_of own own befallen hs until c.magnitude-until.result IsSendingDebt sendings (refl, by)
          (c.first_unsent-sendings.ensures befallen hs by_clocks);
      points = first_of own own befallen hs until c.magnitude-until.result IsPointDebt points (refl, by)
          (c.first_untold-points.ensures befallen hs by_clocks is_founded (of_devices w));
      dispatches = first_of own rows.network.now befallen hs until rows.until IsDispatchDebt dispatches rows_same
          (c.first_undispatched-dispatches.ensures befallen hs (c.row_debtor.ensures.known befallen hs w));
      clocks = first_of own debtor.network.now befallen hs until debtor.until IsClockDebt clock same
          (c.first_unpaid_clock-clocks.ensures befallen hs known only);
    }) earliest)
