use Rattle.device_rules.proofs.Takings.{is_whole}
use Rattle.switch_ports.proofs.Dispatching.{alive, arrival_stands, point_same}
use Rattle.run_law.specs.timed.Arrivals.{timed_arrival}
use Rattle.run_law.specs.machines.{Answers.arrival_at, Nodes.{arriving, last_taken_by}}
use Rattle.switch_ports.proofs.Words.{◌∙◌, StandsAs, after_arrival, ap, called, subst, sym}
use Rattle.switch_ports.proofs.machine.SwitchTellsKind.hear_heading.Goals as goal

pub hear_timed-requires-clause-alive : goal.hear_timed-requires-clause-alive
hear_timed-requires-clause-alive c =
    let r = c.requires in
    alive c.args.self.now r.0 r.1 r.2 c.args.moment arriving c.standpoint-at.result r.3 r.4.2.call c.standpoint-at.ensures.reading
    c.standpoint-at.ensures.adjustment

pub hear_timed-requires-clause-whole : goal.hear_timed-requires-clause-whole
hear_timed-requires-clause-whole c = let r = c.requires in is_whole r.0 r.1 c.args.self.now.intake r.2.taken r.3.accepted.range r.3.intake

pub hear_timed-requires-clause-ready : goal.hear_timed-requires-clause-ready
hear_timed-requires-clause-ready c = let r = c.requires in r.3.departs.ready

pub returns : goal.returns
returns c octets are network device node st may arrives =
    let at = point_same c.args.moment c.standpoint-at.result st c.standpoint-at.ensures.state
    c.standpoint-at.ensures.reading c.standpoint-at.ensures.adjustment in
    let heard = c.hear_timed.ensures in
    let taken = heard.is octets are.is network device node.taken st.accepted.range st.site st.intake arrives.at in
    let is = taken.0
    ∙ ap (λ p. timed_arrival network device c.args.link p octets (last_taken_by node)) at in (
      is ∙ ap (arrival_at network device node c.args.moment c.args.link) (sym are.plain),
      subst (λ s. StandsAs s network device (called c.args.moment arriving (after_arrival node c.args.moment c.hear_timed.result))) (sym heard.rest)
          (arrival_stands c.args.self.now c.hear_timed.new.self.intake c.hear_timed.new.self.departures network device node c.args.moment c.standpoint-at.result
          c.hear_timed.result st may.later.reading
          (record { state = c.standpoint-at.ensures.state; reading = c.standpoint-at.ensures.reading; adjustment = c.standpoint-at.ensures.adjustment })
          taken.1 heard.departs),
    )
