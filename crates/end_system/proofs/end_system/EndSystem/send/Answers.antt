use Rattle.end_system.proofs.{Tasks.first_is_sending, Words.{◌∙◌, IsSending, Pcf, ap, next_point, refl, sending, subst}}
use Rattle.end_system.proofs.Corrections
use Corrections.{correction_stays, dispatch_stays, low_at, no_correcting, no_dispatching, not_fallen, number_stays}
use Corrections.{sending_in_range, sending_next}
use Rattle.end_system.proofs.end_system.EndSystem.send.Goals as goal

pub in_next_cycle-requires : goal.in_next_cycle-requires
in_next_cycle-requires c =
    let stands = c.requires.0.3 in
    let may = c.requires.0.4 in
    let due = c.requires.1 in
    let here = subst (IsSending c.requires.0.0 c.requires.0.1 c.requires.0.2.standing c.requires.0.2.changed c.requires.0.2.done) due.0 stands.agenda.sending in
    record {
      range = stands.own.range;
      cycle =
          sending_in_range _ _ _ c.requires.0.2.standing c.requires.0.2.changed c.args.moment.reading.0 c.requires.0.2.done c.args.sending stands.own
          stands.small here due.1 may.later.low_enough;
      at = low_at c.args.sending.at.0 c.args.moment.reading.0 due.1 may.later.low_enough;
    }

pub returns : goal.returns
returns c = λ network device node stands may.
    let due = c.requires.1 in
    let deed = sending c.args.sending.cycle in
    let here = subst (IsSending network device node.standing node.changed node.done) due.0 stands.agenda.sending in (
      _,
      (
        c.args.sending.cycle,
        first_is_sending network device _ node c.args.moment.reading.0 c.args.sending stands.own stands.sound
            stands.agenda due,
        c.frame_of.ensures ∙ ap (λ (f : Pcf). let g : Pcf = record f { cycle = c.args.sending.cycle } in g) stands.own.frame,
        refl,
      ),
      record {
        own = stands.own;
        sound = stands.sound;
        standing = stands.standing;
        plan = stands.plan;
        last = refl;
        begun = not_fallen node.last.reading.0 c.args.moment.reading.0 stands.begun may.later.reading;
        small = stands.small;
        heard = stands.heard;
        near = stands.near;
        joined = stands.joined;
        number = number_stays network node.standing _ node.last.reading.0 c.args.moment.reading.0 (next_point node.standing) may.later.reading stands.number;
        rows = stands.rows;
        entering = stands.entering;
        slot = stands.slot;
        agenda = record {
          sending =
              sending_next node.standing node.changed node.done c.args.sending c.in_next_cycle.result stands.own here
              c.in_next_cycle.ensures.cycle c.in_next_cycle.ensures.at;
          correction =
              correction_stays network node.standing node.changed node.done deed _ (λ n e. no_correcting n c.args.sending.cycle e) stands.agenda.correction;
          dispatch =
              dispatch_stays network device node.standing node.changed node.done deed _ (λ row n e. no_dispatching row n c.args.sending.cycle e)
              stands.agenda.dispatch;
        };
      },
    )
