use Rattle.end_system.proofs.{Arrivals.{is_control, is_timed, off_arrival}, Ripe.{is_on, stands_later}}
use Rattle.end_system.proofs.{Words.{◌∙◌, ap, arith, sym}}
use Rattle.run_law.specs.{control.Wires.signal_of, device.States.is_off, machines.Answers.arrival_at}
use Rattle.end_system.proofs.end_system.EndSystemMachine.hear.Goals as goal

pub is_pcf-requires : goal.is_pcf-requires
is_pcf-requires c = let a = c.requires.4.arrives c.requires.3.own.linked in omega (arith, a.most)

pub decode-requires : goal.decode-requires
decode-requires c = let a = c.requires.4.arrives c.requires.3.own.linked in omega (arith, a.most)

pub hear_control-requires : goal.hear_control-requires
hear_control-requires c =
    (c.args.octets.now, (c.requires.0, c.requires.1, c.requires.2, c.requires.3, (c.requires.4.call, c.requires.4.arrives c.requires.3.own.linked)))

pub hear_timed-requires : goal.hear_timed-requires
hear_timed-requires c =
    (c.args.octets.now, (c.requires.0, c.requires.1, c.requires.2, c.requires.3, (c.requires.4.call, c.requires.4.arrives c.requires.3.own.linked)))

pub of-requires : goal.of-requires
of-requires c = let a = c.requires.4.arrives c.requires.3.own.linked in omega (arith, a.least)

pub returns-then-is_off : goal.returns-then-is_off
returns-then-is_off c = λ network device node stands may arrives. (
  off_arrival network device c.args.moment c.args.link (signal_of c.args.octets.now) stands
      (sym (c.is_off.ensures ∙ ap is_off c.state.ensures) ∙ c.if-is_off.true),
  stands_later _ stands may.later,
)

pub returns-then-is_pcf : goal.returns-then-is_pcf
returns-then-is_pcf c = λ network device node stands may arrives.
    let h = c.hear_control.ensures.hears c.args.octets.now c.decode.ensures network device node stands may arrives
    (is_on stands (sym (c.is_off.ensures ∙ ap is_off c.state.ensures) ∙ c.if-is_off.false)) in (
      h.0 ∙ ap (λ s. arrival_at network device node c.args.moment c.args.link s)
          (sym (is_control c.args.octets.now (c.is_pcf.ensures.0 c.if-is_pcf.true))),
      h.1,
    )

pub returns-else-is_pcf : goal.returns-else-is_pcf
returns-else-is_pcf c = λ network device node stands may arrives.
    let h = c.hear_timed.ensures c.args.octets.now c.of.ensures network device node stands may arrives
    (is_on stands (sym (c.is_off.ensures ∙ ap is_off c.state.ensures) ∙ c.if-is_off.false)) in (
      h.0 ∙ ap (λ s. arrival_at network device node c.args.moment c.args.link s)
          (sym (is_timed c.args.octets.now c.is_pcf.result arrives.least c.if-is_pcf.false c.is_pcf.ensures)),
      h.1,
    )
