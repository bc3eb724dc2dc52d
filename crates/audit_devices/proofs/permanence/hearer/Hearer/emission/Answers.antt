use Rattle.audit_devices.proofs.permanence.hearer.Hearer.emission.Goals.{then-not-sends-via-else-not-sends+then-not-reaches, then-not-sends-via-then-not-sends}
use Rattle.{audit_devices.specs.stretches.Points.IsSentFor, run_law.specs.scenario.Devices.{is_cm, plan_of}, sync_state.specs.declared.state.State.State}
use Rattle.{net_plan.specs.declared.network.Network.Network, run_law.specs.control.{Collections.{observation_window, points_of}, Hearing.heard_as}}
use Rattle.run_law.specs.control.Emissions.{Emits}
use Rattle.{run_law.specs.device.States.{adjustment_at_hearing, state_at_hearing}, std.proofs.Common.{◌∙◌, ◌≡◌, Some, ap, false, subst, sym, true, ℤ}}
use Rattle.audit_devices.proofs.permanence.hearer.Hearer.emission.Goals as goal

pub returns-then-not-sends : goal.returns-then-not-sends
returns-then-not-sends c s hs hearer collects moment verdict = (λ e. absurd cc, λ em. absurd (never em))
  where
    never : Emits s hs c.args.self.now.device c.args.time c.args.sent.now verdict → ⊥
    never em =
        let network = c.args.self.now.network.now in
        let device = c.args.self.now.device in
        let sent = c.args.sent.now in
        let points = points_of hs device in
        let cm : is_cm network device ≡ true = sym c.if-not-is_cm.ensures in
        let for_s : IsSentFor s.network points sent = record { clusters = em.clusters; are = em.are; cluster = em.cluster; there = em.there; is = em.is } in
        let for_network : IsSentFor network points sent = subst (λ n. IsSentFor n points sent) (sym hearer.network) for_s in
        elim c.then-not-sends.branch [
          | then-not-sends-via-then-not-sends w ↦
              let yes : c.sends.result ≡ true = (c.sends.ensures network points (collects cm)).1 for_network in
              let no : false ≡ true = sym w.if-not-sends.true ∙ yes in
              cc
          | then-not-sends-via-else-not-sends+then-not-reaches w ↦
              let yes : w.reaches.result ≡ true = (w.reaches.ensures (s.reading device) moment.rises moment.now moment.before).1 em.reached in
              let no : false ≡ true = sym w.if-not-reaches.true ∙ yes in
              cc
        ]

pub returns : goal.returns
returns c s hs hearer collects moment verdict =
    let network = c.args.self.now.network.now in
    let device = c.args.self.now.device in
    let sent = c.args.sent.now in
    let time = c.args.time in
    let points = points_of hs device in
    let cm : is_cm network device ≡ true = sym c.if-not-is_cm.ensures in
    let heard = λ (n : Network) (state : State) (adjustment : ℤ).
    heard_as (plan_of n device) (observation_window n) state adjustment sent.at.0 sent.cycle sent.members in
    let same : c.heard.result ≡ heard s.network (state_at_hearing s hs device time) (adjustment_at_hearing s hs device time).0 =
    c.heard.ensures ∙ ap (λ (n : Network). heard n c.args.self.now.state c.args.self.now.adjustment) hearer.network
    ∙ ap (λ (x : State). heard s.network x c.args.self.now.adjustment) hearer.state
    ∙ ap (heard s.network (state_at_hearing s hs device time)) hearer.adjustment in
    let sends = c.sends.ensures network points (collects cm) in
    let reaches = c.reaches.ensures (s.reading device) moment.rises moment.now moment.before in (
      λ e.
          let for_s : IsSentFor s.network points sent = subst (λ n. IsSentFor n points sent) hearer.network (sends.0 c.if-not-sends.false) in
          let one : c.heard.result ≡ verdict = cc in
          record {
            cm = subst (λ n. is_cm n device ≡ true) hearer.network cm;
            correct = sym moment.broken_is ∙ c.if-broken.false;
            clusters = for_s.clusters;
            are = for_s.are;
            cluster = for_s.cluster;
            there = for_s.there;
            is = for_s.is;
            reached = reaches.0 c.if-not-reaches.false;
            heard = sym one ∙ same;
          },
      λ em. ap Some (same ∙ sym em.heard),
    )
