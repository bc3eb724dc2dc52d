use Rattle.end_system.proofs.Words.{◌∙◌, IsDispatch, Standing, ap, dispatching, next_point, refl, subst, sym}
use Rattle.end_system.proofs.{Tasks.first_is_dispatch}
use Rattle.end_system.proofs.Corrections
use Corrections.{correction_stays, dispatch_in_range, no_correcting_row, no_sending_row, not_fallen, number_stays}
use Corrections.{sending_stays, slot_there, small_same}
use Rattle.end_system.proofs.end_system.EndSystem.dispatch.Goals as goal

pub next_behind-self-requires : goal.next_behind-self-requires
next_behind-self-requires c =
    let node = c.requires.0.2 in
    let stands = c.requires.0.3 in
    let may = c.requires.0.4 in
    let due = c.requires.1 in
    let here = subst (IsDispatch c.requires.0.0 c.requires.0.1 node.standing node.changed node.done) due.2 stands.agenda.dispatch in
    record {
      range = stands.own.range;
      rows = (c.requires.0.0, c.requires.0.1, stands.own.in_range, stands.rows);
      small =
          small_same node.standing.adjustment c.adjustment.result (ap (λ (s : Standing). s.adjustment) stands.standing ∙ sym c.adjustment.ensures) stands.small;
      cycle =
          dispatch_in_range node.standing node.changed c.args.moment.reading.0 node.done c.args.dispatch stands.own
          stands.small here due.3
          may.later.low_enough;
      slot = slot_there _ _ c.args.dispatch due.2 stands.slot;
    }

pub returns : goal.returns
returns c = λ network device node stands may.
    let due = c.requires.1 in
    let deed = dispatching c.args.dispatch.slot.place.row c.args.dispatch.cycle in
    let here = subst (IsDispatch network device node.standing node.changed node.done) due.2 stands.agenda.dispatch in (
      _,
      (first_is_dispatch network device _ node _ c.args.dispatch stands.own stands.sound stands.agenda may due, refl),
      record {
        own = stands.own;
        sound = stands.sound;
        standing = stands.standing;
        plan = stands.plan;
        last = refl;
        begun = not_fallen node.last.reading.0 c.args.moment.reading.0 stands.begun may.later.reading;
        small = stands.small;
        heard = stands.heard;
        near = stands.near;
        joined = stands.joined;
        number = number_stays network node.standing _ node.last.reading.0 c.args.moment.reading.0 (next_point node.standing) may.later.reading stands.number;
        rows = stands.rows;
        entering = stands.entering;
        slot = c.next_behind-self.ensures.slot;
        agenda = record {
          sending =
              sending_stays network device node.standing node.changed node.done deed _
              (λ n e. no_sending_row c.args.dispatch.slot.place.row c.args.dispatch.cycle n e) stands.agenda.sending;
          correction =
              correction_stays network node.standing node.changed node.done deed _
              (λ n e. no_correcting_row n c.args.dispatch.slot.place.row c.args.dispatch.cycle e)
              stands.agenda.correction;
          dispatch =
              c.next_behind-self.ensures.next network device node.standing node.changed node.done stands.own stands.rows
              (ap (λ (s : Standing). s.adjustment) stands.standing ∙ sym c.adjustment.ensures) here;
        };
      },
    )
