use Rattle.{fault_hypothesis.specs.Watching.Watches, std.proofs.Common.{◌*◌, ◌++◌, ◌+◌, ◌∷◌, ◌≡◌}}
use Rattle.tte_traces.{proofs.storms_lemmas.Drawn.{IsDrawnFor, all_ended, fewer_left, gives_one, may_give, within_now}}
use Rattle.tte_traces.{specs.{declared.storms.events.StormEvents.StormEvents, storms.Storms.IsStormTo}}
use Rattle.{fault_hypothesis.specs.storm.Progress.Progress, std.proofs.Common.{[], arith, length, refl, subst, sym}}
use Rattle.tte_traces.proofs.storms.events.StormEvents.next_in.Goals as goal

pub returns-then-next_event : goal.returns-then-next_event
returns-then-next_event c network seed cycles events given =
    let it = c.args.self.now in
    let event = c.next_event.new.event in
    let told = c.if-next_event.ensures in
    let d : IsDrawnFor network it event = subst (λ n. IsDrawnFor n it event) given.over (record {
      is = λ admitted w. told.event admitted w refl;
      within = λ admitted w. told.within admitted w refl;
      of_network = told.of_network refl;
      range = told.range refl;
      early = told.end;
    }) in
    let inside = within_now network seed cycles events it given event d in
    let watches : Watches network c.keep.new.self (events ++ event ∷ []) = c.keep.ensures network events given.watches d.of_network inside in
    let new : StormEvents = record { accepted = it.accepted; storm = c.next_event.new.self; watch = c.keep.new.self } in (
      may_give network seed cycles events it given event d,
      fewer_left network seed cycles events it given event d new (told.given refl),
      gives_one network seed cycles events it given event d new refl watches (told.given refl),
    )

pub returns-else-next_event : goal.returns-else-next_event
returns-else-next_event c network seed cycles events given =
    let it = c.args.self.now in
    let told = c.if-next_event.ensures in
    let whole : length events ≡ 8 * cycles + 1 = omega (arith, told.end, given.given_is, given.cycles_is) in (
      all_ended network seed cycles events given.each whole,
      subst (λ (s : Progress). IsStormTo network seed cycles events (record { accepted = it.accepted; storm = s; watch = it.watch })) (sym (told.still refl).0)
          given,
      whole,
    )
