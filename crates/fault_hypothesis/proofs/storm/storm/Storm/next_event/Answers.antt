use Rattle.fault_hypothesis.proofs.{storm.storm.Storm.next_event.Goals.{else-self-steps-2, then-self-steps-2}}
use Rattle.fault_hypothesis.proofs.{storm_lemmas.Storms.{end_within, step_within}}
use Rattle.{fault_hypothesis.specs.{storm.Events.{AreNoLater, time_of}}, run_law.specs.scenario.Hypothesis.IsWithinHypothesis}
use Rattle.fault_hypothesis.specs.{declared.storm.draw.StormDraw.StormDraw, storm.{Events.IsEventOf, Progress.Progress, Words.{draw_at, draw_from}}}
use Rattle.net_plan.specs.declared.{event.{Event.Event, What.TheVariants.End}, network.Network.Network}
use Rattle.{std.proofs.Common.{◌∙◌, ◌≡◌, List, ap, arith, inl, inr, refl, subst, sym}, tte_units.specs.declared.units.Units.Units}
use Rattle.fault_hypothesis.proofs.storm.storm.Storm.next_event.Goals as goal

-- an event of a step, said of equal values
is_of : (m n : Network) (es : List Event) (t u : Units) (d f : StormDraw) (x y : Event) → m ≡ n → t ≡ u → d ≡ f → y ≡ x → IsEventOf m es t d x → IsEventOf n es u f y
is_of m n es t u d f x y over at draw is h =
    rw over at (rw at at (rw draw at (subst (IsEventOf m es t d) (sym is) h)))

pub returns-clause-event : goal.returns-clause-event
returns-clause-event c = λ admitted w yes.
    let over = c.network-network.ensures.value in
    let few = c.if-self-steps.false in
    let at = c.step_time-time.ensures.value
    ∙ ap (λ n. time_of n c.self.inside.given) over
    ∙ ap (λ s. time_of c.args.accepted.now s.given) c.self.view_is in
    let known = rw (sym over) at w in
    elim c.if-self-steps-2.branch [
      | then-self-steps-2 b ↦
          inr (
            omega (arith, b.if-self-steps-2.true, ap (λ s. s.given) c.self.view_is, ap (λ s. s.cycles) c.self.view_is),
            b.event-is ∙ ap (λ t. record { time = t; what = End }) at,
          )
      | else-self-steps-2 b ↦
          let draw = b.draw.ensures.words ∙ ap (draw_from c.self.inside.words.seed) (c.self.invariant.2 few)
          ∙ ap (λ s. draw_at s.seed s.given) c.self.view_is in
          inl (
            omega (
              arith,
              b.if-self-steps-2.false,
              ap (λ (s : Progress). s.given) c.self.view_is,
              ap
                  (λ (s : Progress). s.cycles) c.self.view_is,
            ),
            is_of _ _ admitted _ _ _ _ _ _ over at draw b.event-is (b.choose_event.ensures.value admitted known),
          )
    ]

pub returns-clause-within : goal.returns-clause-within
returns-clause-within c = λ admitted w yes no_later.
    let over = c.network-network.ensures.value in
    let same : c.args.self.now.given ≡ c.self.inside.given = sym (ap (λ s. s.given) c.self.view_is) in
    let at = sym
    (c.step_time-time.ensures.value
    ∙ (rw over
    ((rw (sym same)))))
    in
    let later = subst (AreNoLater admitted) at no_later in
    rw (sym over) (elim c.if-self-steps-2.branch [
      | then-self-steps-2 b ↦
          subst (IsWithinHypothesis c.network-network.result.now admitted) (sym b.event-is)
          (end_within c.network-network.result.now admitted _ refl later c.step_time-time.ensures.in_run)
      | else-self-steps-2 b ↦
          subst (IsWithinHypothesis c.network-network.result.now admitted) (sym b.event-is)
          (step_within
          (b.choose_event.ensures.value admitted (rw over w)) later
          c.step_time-time.ensures.in_run)
    ])
