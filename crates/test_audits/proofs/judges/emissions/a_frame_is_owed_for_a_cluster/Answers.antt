use Rattle.{audit_sweep.proofs.unpaid_lemmas.emissions_lemmas.Examples.one_permanent, std.proofs.Common.{◌∷◌, ◌≤ℤ◌, [], pos, refl, sym}}
use Rattle.{compression.specs.Clusters.Point, std.proofs.lemmas.List.Elements.All-nil}
use Rattle.test_audits.proofs.judges.emissions.a_frame_is_owed_for_a_cluster.Goals as goal

pub first_unemitted-requires-clause-kept : goal.first_unemitted-requires-clause-kept
first_unemitted-requires-clause-kept g c =
    let h = one_permanent c.in_ok-network.network.pcf_destination in (
      [],
      h ∷ [],
      record {
        remembers = c.in_ok-events.ensures;
        stands = c.in_ok-push.ensures.stands [] h (record { time = refl; body_is = refl; frame = refl }) (λ n i. absurd i)
            (λ device of cm. All-nil (λ (p : Point). p.reading ≤ℤ pos 5000000000)) c.in_ok-stretches.ensures.stands;
        places_are = c.in_ok-push-2.ensures.added [] h c.new-places.ensures (sym c.of.ensures) (λ n i. absurd i);
      },
    )

pub first_unemitted-requires-2-clause-kept : goal.first_unemitted-requires-2-clause-kept
first_unemitted-requires-2-clause-kept g c =
    let h = one_permanent c.in_ok-network.network.pcf_destination in (
      [],
      h ∷ [],
      record {
        remembers = c.in_ok-events.ensures;
        stands = c.in_ok-push.ensures.stands [] h (record { time = refl; body_is = refl; frame = refl }) (λ n i. absurd i)
            (λ device of cm. All-nil (λ (p : Point). p.reading ≤ℤ pos 5000000000)) c.in_ok-stretches.ensures.stands;
        places_are = c.in_ok-push-2.ensures.added [] h c.new-places.ensures (sym c.of.ensures) (λ n i. absurd i);
      },
    )
