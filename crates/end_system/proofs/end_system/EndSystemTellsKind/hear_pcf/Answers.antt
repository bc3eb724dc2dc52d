use Rattle.end_system.proofs.{Arrivals.{off_arrival, spelled}, Ripe.{is_on, stands_later, stood_before}}
use Rattle.end_system.proofs.Words.{◌∙◌, EndSystem, StandsAsEnd, ap, subst, sym}
use Rattle.run_law.specs.{control.Wires.{control, signal_of}, device.States.is_off, machines.{Answers.arrival_at, Nodes.arriving}}
use Rattle.end_system.proofs.end_system.EndSystemTellsKind.hear_pcf.Goals as goal

pub hear_control-requires : goal.hear_control-requires
hear_control-requires c =
    let may = c.requires.4 in
    (may.0, (c.requires.0, c.requires.1, c.requires.2, c.requires.3, (may.2.call, may.2.arrives c.requires.3.own.linked)))

pub returns-then-is_off-clause-hears : goal.returns-then-is_off-clause-hears
returns-then-is_off-clause-hears c = λ octets are network device node stands may arrives. (
  off_arrival network device c.args.moment c.args.link (signal_of octets) stands (sym (c.is_off.ensures ∙ ap is_off c.state.ensures) ∙ c.if-is_off.true),
  stands_later arriving stands may.later,
)

pub returns-clause-hears : goal.returns-clause-hears
returns-clause-hears c = λ octets are network device node stands may arrives.
    let same = spelled octets c.args.frame.now are in
    let h = c.hear_control.ensures.hears octets same network device node stands may arrives
    (is_on stands (sym (c.is_off.ensures ∙ ap is_off c.state.ensures) ∙ c.if-is_off.false)) in (
      h.0 ∙ ap (λ d. arrival_at network device node c.args.moment c.args.link (control d)) (sym same)
          ∙ ap (arrival_at network device node c.args.moment c.args.link) (sym are),
      h.1,
    )

pub returns-then-is_off-clause-as_before : goal.returns-then-is_off-clause-as_before
returns-then-is_off-clause-as_before c = λ network device node stands.
    (c.args.self.now.last, node.phase, stood_before c.requires.3 stands)

pub returns-clause-as_before : goal.returns-clause-as_before
returns-clause-as_before c = λ network device node stands. (
  c.args.self.now.last,
  node.phase,
  stood_before c.requires.3 (subst (λ (e : EndSystem). StandsAsEnd e network device node) c.hear_control.ensures.same stands),
)
