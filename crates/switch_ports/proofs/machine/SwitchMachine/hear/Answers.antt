use Rattle.device_rules.proofs.Takings.{is_whole}
use Rattle.switch_ports.proofs.Dispatching
use Dispatching.{alive, arrival_stands, called_stands, control_none, is_no_type, is_type, point_same}
use Rattle.switch_ports.proofs.{Words.{◌∙◌, ◌≡◌, ◌≤◌, StandsAs, after_arrival, ap, arith, called, refl, subst, sym, ℕ}}
use Rattle.pcf_codec.specs.Decoding.{decoded}
use Rattle.run_law.specs.{control.{Arrivals.control_arrival, Wires.{control, signal_of, timed}}, machines.Nodes.{arriving, last_taken_by, standpoint_at}}
use Rattle.run_law.specs.{machines.Answers.arrival_at, timed.Arrivals.timed_arrival}
use Rattle.switch_ports.proofs.machine.SwitchMachine.hear.Goals as goal

enough : {n : ℕ} → 60 ≤ n → 14 ≤ n
enough h = omega (arith, h)

pub control_arrival-requires-clause-alive : goal.control_arrival-requires-clause-alive
control_arrival-requires-clause-alive c =
    let r = c.requires in
    alive c.args.self.now r.0 r.1 r.2 c.args.moment arriving c.standpoint-at.result r.3 r.4.call c.standpoint-at.ensures.reading
    c.standpoint-at.ensures.adjustment

pub returns-then-is_pcf : goal.returns-then-is_pcf
returns-then-is_pcf c network device node st may arrives =
    let octets = c.args.octets.now in
    let at = point_same c.args.moment c.standpoint-at.result st c.standpoint-at.ensures.state
    c.standpoint-at.ensures.reading c.standpoint-at.ensures.adjustment in
    let is = c.control_arrival.ensures network device st.accepted.range st.site
    ∙ ap (λ p. control_arrival network device c.args.link p (decoded octets)) at in
    let signal : signal_of octets ≡ control (decoded octets) = rw (is_type octets (c.is_pcf.ensures.0 c.if-is_pcf.true).1) refl in
    let same : after_arrival node c.args.moment c.control_arrival.result ≡ node = ap (after_arrival node c.args.moment) is
    ∙ control_none node c.args.moment network device c.args.link (standpoint_at node c.args.moment) (decoded octets) in (
      is ∙ ap (arrival_at network device node c.args.moment c.args.link) (sym signal),
      subst (λ n. StandsAs c.args.self.now network device (called c.args.moment arriving n)) (sym same)
          (called_stands c.args.self.now network device node c.args.moment arriving st may.later.reading),
    )

pub hear_timed-requires-clause-alive : goal.hear_timed-requires-clause-alive
hear_timed-requires-clause-alive c =
    let r = c.requires in
    alive c.args.self.now r.0 r.1 r.2 c.args.moment arriving c.standpoint-at.result r.3 r.4.call c.standpoint-at.ensures.reading
    c.standpoint-at.ensures.adjustment

pub hear_timed-requires-clause-whole : goal.hear_timed-requires-clause-whole
hear_timed-requires-clause-whole c = let r = c.requires in is_whole r.0 r.1 c.args.self.now.intake r.2.taken r.3.accepted.range r.3.intake

pub returns-else-is_pcf : goal.returns-else-is_pcf
returns-else-is_pcf c network device node st may arrives =
    let octets = c.args.octets.now in
    let at = point_same c.args.moment c.standpoint-at.result st c.standpoint-at.ensures.state
    c.standpoint-at.ensures.reading c.standpoint-at.ensures.adjustment in
    let heard = c.hear_timed.ensures in
    let taken = heard.is octets c.of.ensures network device node.taken st.accepted.range st.site st.intake arrives.at in
    let is = taken.0
    ∙ ap (λ p. timed_arrival network device c.args.link p octets (last_taken_by node)) at in
    let signal : signal_of octets ≡ timed octets =
    rw (is_no_type octets (λ e. let f = c.is_pcf.ensures.1 (enough arrives.least, e) in let g = c.if-is_pcf.false in cc)) refl in (
      is ∙ ap (arrival_at network device node c.args.moment c.args.link) (sym signal),
      subst (λ s. StandsAs s network device (called c.args.moment arriving (after_arrival node c.args.moment c.hear_timed.result))) (sym heard.rest)
          (arrival_stands c.args.self.now c.hear_timed.new.self.intake c.hear_timed.new.self.departures network device node c.args.moment c.standpoint-at.result
          c.hear_timed.result st may.later.reading
          (record { state = c.standpoint-at.ensures.state; reading = c.standpoint-at.ensures.reading; adjustment = c.standpoint-at.ensures.adjustment })
          taken.1 heard.departs),
    )

pub hear_timed-requires-clause-ready : goal.hear_timed-requires-clause-ready
hear_timed-requires-clause-ready c = let r = c.requires in r.3.departs.ready
