use Rattle.run_law.specs.control.Arrivals.{frame_fault, frame_or_fault}
use Rattle.run_law.specs.machines.{Answers.arrival_at, Nodes.{arriving, standpoint_at}}
use Rattle.std.specs.Prelude.{Ok}
use Rattle.switch_ports.proofs.Dispatching.{alive, called_stands, control_none, point_same}
use Rattle.switch_ports.proofs.Words.{◌∙◌, ◌≡◌, StandsAs, after_arrival, ap, called, subst, sym}
use Rattle.switch_ports.proofs.machine.SwitchTellsKind.hear_pcf.Goals as goal

pub frame_arrival-requires : goal.frame_arrival-requires
frame_arrival-requires c =
    let r = c.requires in
    record {
      alive = alive c.args.self.now r.0 r.1 r.2 c.args.moment arriving c.standpoint-at.result r.3 r.4.2.call
          c.standpoint-at.ensures.reading c.standpoint-at.ensures.adjustment;
    }

pub returns-clause-hears : goal.returns-clause-hears
returns-clause-hears c octets are network device node st may arrives =
    let frame = c.args.frame.now in
    let link = c.args.link in
    let at = point_same c.args.moment c.standpoint-at.result st c.standpoint-at.ensures.state
    c.standpoint-at.ensures.reading c.standpoint-at.ensures.adjustment in
    let is = c.frame_arrival.ensures network device st.accepted.range st.site
    ∙ ap (λ p. frame_or_fault network device link p frame (frame_fault network device link p frame)) at in
    let same : after_arrival node c.args.moment c.frame_arrival.result ≡ node = ap (after_arrival node c.args.moment) is
    ∙ control_none node c.args.moment network device link (standpoint_at node c.args.moment) (Ok frame) in (
      is ∙ ap (arrival_at network device node c.args.moment link) (sym are),
      subst (λ n. StandsAs c.args.self.now network device (called c.args.moment arriving n)) (sym same)
          (called_stands c.args.self.now network device node c.args.moment arriving st may.later.reading),
    )

pub returns-clause-as_before : goal.returns-clause-as_before
returns-clause-as_before c = λ network device node stands. (node.last, node.phase, stands)
