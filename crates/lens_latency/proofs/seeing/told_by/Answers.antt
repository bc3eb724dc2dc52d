use Rattle.lens_latency.{proofs.SeenTimes.told_names, specs.{Comings.HasNames, Seeing.AreTold}}
use Rattle.std.proofs.Common.{All, refl, subst, sym}
use Rattle.lens_latency.proofs.seeing.told_by.Goals as goal

pub returns-clause-names : goal.returns-clause-names
returns-clause-names c =
    let network = c.args.network.now in
    let comings = subst (λ cs. AreTold c.as_slice-2.result.now cs c.in_ok-told.told.items) c.as_slice.ensures.value c.in_ok-told.ensures in
    told_names (HasNames network) c.in_ok-told.told.items (subst (All (HasNames network)) (sym comings.of) c.in_ok-comings.ensures.names)

pub returns-clause-answer : goal.returns-clause-answer
returns-clause-answer c notes end r =
    let comings = subst (λ cs. AreTold c.as_slice-2.result.now cs c.in_ok-told.told.items) c.as_slice.ensures.value c.in_ok-told.ensures in
    record {
      comings = c.in_ok-comings.comings.items;
      are = c.in_ok-comings.ensures.are;
      arrivals = c.in_ok-arrivals.arrivals.items;
      arrive = c.in_ok-arrivals.ensures notes end r;
      told = c.in_ok-told.told.items;
      tell =
          subst (λ xs. AreTold xs c.in_ok-comings.comings.items c.in_ok-told.told.items) c.as_slice-2.ensures.value comings;
      is = refl;
    }
