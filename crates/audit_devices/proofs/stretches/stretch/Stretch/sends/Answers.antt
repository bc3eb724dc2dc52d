use Rattle.audit_law.specs.collections.Kept.{clusters_in}
use Rattle.compression.{proofs.Collectors.AreClusters-unique, specs.Clusters.{AreClusters, Cluster}}
use Rattle.{compression.specs.Emission.compressed, run_law.specs.control.Collections.observation_window, std.proofs.Common.{◌∙◌, ◌≡◌, List, ap, subst, sym}}
use Rattle.std.specs.List.{Contains}
use Rattle.audit_devices.proofs.stretches.stretch.Stretch.sends.Goals as goal

pub returns : goal.returns
returns c network points has =
    let h = c.args.self.now.collections.now in
    let g = c.args.self.now.gathering in
    let sent = c.args.sent.now in
    let are : AreClusters (observation_window network) points (clusters_in h g) =
    subst (λ w. AreClusters w points (clusters_in h g)) has.ow has.gathers.are in
    let sends = λ (x : Cluster). ap (λ w. compressed w h.calc x) has.ow ∙ ap (λ w. compressed (observation_window network) w x) has.calc in (
      λ is.
          let found = c.sends.ensures.0 is in
          record { clusters = clusters_in h g; are = are; cluster = found.0; there = found.1; is = found.2 ∙ sends found.0 },
      λ s.
          let one : s.clusters ≡ clusters_in h g = AreClusters-unique (observation_window network) points s.clusters (clusters_in h g) s.are are in
          c.sends.ensures.1 (s.cluster, subst (λ (cs : List Cluster). Contains cs s.cluster) one s.there, s.is ∙ sym (sends s.cluster)),
    )
