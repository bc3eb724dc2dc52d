use Rattle.std.proofs.lemmas.Grind.{common_steps}
use Rattle.end_system.{specs.Controls.arrival_of}
use Rattle.end_system.proofs.{Arrivals.{control_at, control_still}, Corrections.not_fallen, Ripe.stands_later}
use Rattle.end_system.proofs.{Words.{◌∙◌, Node, StandsAsEnd, ap, arith, arriving, called, subst, sym}}
use Rattle.pcf_codec.specs.Decoding.{decoded}
use Rattle.run_law.specs.machines.Answers.{after_arrival}
use Rattle.end_system.proofs.end_system.EndSystem.hear_control.Goals as goal

pub arrival-requires : goal.arrival-requires
arrival-requires c =
    let may = c.requires.1 in
    grind (
      arith,
      common_steps,
      may.3.own.range,
      not_fallen,
      may.2.last.reading.0,
      c.args.moment.reading.0,
      may.3.begun,
      may.4.0.later.reading,
      may.4.0.later.low_enough,
    )

pub returns-clause-hears : goal.returns-clause-hears
returns-clause-hears c = λ octets same network device node stands may arrives on.
    let is = c.arrival.ensures ∙ ap (λ d. arrival_of c.args.self.now.own c.args.moment.reading c.args.link d) same in
    let still = ap (λ a. after_arrival node c.args.moment a) is ∙ control_still c.args.self.now.own c.args.moment.reading c.args.link node c.args.moment
    (decoded octets) in (
      is ∙ control_at c.args.moment octets stands (stands.own.links c.args.link arrives.at) on
          (not_fallen node.last.reading.0 c.args.moment.reading.0 stands.begun may.later.reading),
      subst (λ (n : Node). StandsAsEnd
          (record {
            own = c.args.self.now.own;
            sync = c.args.self.now.sync;
            heard = c.args.self.now.heard;
            agenda = c.args.self.now.agenda;
            rows = c.args.self.now.rows;
            entering = c.args.self.now.entering;
            last = c.args.moment;
          }) network device (called c.args.moment arriving n))
          (sym still) (stands_later arriving stands may.later),
    )
