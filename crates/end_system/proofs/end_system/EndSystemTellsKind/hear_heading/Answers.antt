use Rattle.end_system.proofs.{Arrivals.off_arrival, Ripe.{is_on, stands_later}, Words.{◌∙◌, ap, sym}}
use Rattle.run_law.specs.{control.Wires.signal_of, device.States.is_off, machines.{Answers.arrival_at, Nodes.arriving}}
use Rattle.end_system.proofs.end_system.EndSystemTellsKind.hear_heading.Goals as goal

pub hear_timed-requires : goal.hear_timed-requires
hear_timed-requires c =
    let may = c.requires.4 in
    (may.0, (c.requires.0, c.requires.1, c.requires.2, c.requires.3, (may.2.call, may.2.arrives c.requires.3.own.linked)))

pub returns-then-is_off : goal.returns-then-is_off
returns-then-is_off c = λ octets are network device node stands may arrives. (
  off_arrival network device c.args.moment c.args.link (signal_of octets) stands (sym (c.is_off.ensures ∙ ap is_off c.state.ensures) ∙ c.if-is_off.true),
  stands_later arriving stands may.later,
)

pub returns : goal.returns
returns c = λ octets are network device node stands may arrives.
    let h = c.hear_timed.ensures octets are.is network device node stands may arrives
    (is_on stands (sym (c.is_off.ensures ∙ ap is_off c.state.ensures) ∙ c.if-is_off.false)) in (
      h.0 ∙ ap (arrival_at network device node c.args.moment c.args.link) (sym are.plain),
      h.1,
    )
