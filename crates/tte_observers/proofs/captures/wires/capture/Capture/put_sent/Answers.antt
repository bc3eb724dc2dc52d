use Rattle.{drift_world.specs.Wires.IsOfNow, world_state.specs.Views.signal_as}
use Rattle.tte_observers.proofs.captures_lemmas.wires_lemmas.{Words.{packet_at, refl, scenario_under, subst, sym, ℕ}}
use Rattle.tte_observers.proofs.captures_lemmas.wires_lemmas.Puts.{of_now, on_own_link, packet_is, puts_none, sent_rank}
use Rattle.tte_observers.proofs.captures_lemmas.wires_lemmas.Words.{◌++◌, ◌∙◌, ◌∷◌, ◌≡◌, IsSpelt, List, Note, [], amount, ap, happenings, last_happening}
use Rattle.tte_observers.proofs.captures.wires.capture.Capture.put_sent.Goals as goal

pub returns-in-Some-clause-puts : goal.returns-in-Some-clause-puts
returns-in-Some-clause-puts g c =
    let p = c.put_signal.ensures in
    let network = c.args.network.now in
    let note = c.args.note.now in
    let link = c.args.self.now.link in
    let way = c.args.self.now.way in (
      p.0 ∷ [],
      p.1,
      λ events notes stands at there sent.
          let z = last_happening network notes note in
          let s = scenario_under network events in
          let of = of_now notes note stands at (sent_rank network link way note.body sent) in
          let number : c.note.inside.number ≡ note.number = ap (λ (n : Note). n.number) c.note.view_is in
          let time : c.amount.result ≡ amount note.time = c.amount.ensures.value ∙ ap (λ (n : Note). amount n.time) c.note.view_is in
          let on = c.in-Some.ensures network events (notes ++ note ∷ []) z stands
          (subst (λ k. IsOfNow (happenings network (notes ++ note ∷ [])) c.args.world.now.now k z) (sym number) of)
          (on_own_link s link way z there note.body sent) in
          packet_is s link way z {lines = p.0 ∷ []} sent (record {
            none = λ no. absurd (let e = on ∙ no in cc);
            some = λ signal is octets spelt.
                let same : signal_as network c.in-Some.signal.now ≡ signal = (let e = on ∙ is in cc) in
                ap (λ (l : List ℕ). l ∷ []) (p.2 octets (subst (λ t. IsSpelt t octets) (sym same) spelt) ∙ ap (λ t. packet_at t octets) time);
          }),
    )

pub returns-in-None-clause-puts : goal.returns-in-None-clause-puts
returns-in-None-clause-puts g c =
    let network = c.args.network.now in
    let note = c.args.note.now in
    let link = c.args.self.now.link in
    let way = c.args.self.now.way in (
      [],
      puts_none g.K.Sink (tt {0}) c.args.out.now,
      λ events notes stands at there sent.
          let z = last_happening network notes note in
          let s = scenario_under network events in
          let of = of_now notes note stands at (sent_rank network link way note.body sent) in
          let number : c.note.inside.number ≡ note.number = ap (λ (n : Note). n.number) c.note.view_is in
          let on = c.in-None.ensures network events (notes ++ note ∷ []) z stands
          (subst (λ k. IsOfNow (happenings network (notes ++ note ∷ [])) c.args.world.now.now k z) (sym number) of)
          (on_own_link s link way z there note.body sent) in
          packet_is s link way z {lines = []} sent
          (record { none = λ no. refl; some = λ signal is octets spelt. absurd (let e = on ∙ is in cc) }),
    )
