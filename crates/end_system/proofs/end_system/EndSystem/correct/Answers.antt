use Rattle.end_system.proofs.{Tasks.first_is_correction, Words.{HasVerdict, IsCorrection, refl, subst, sym}}
use Rattle.end_system.proofs.Corrections
use Corrections.{at_point, below_range, corrects, low_at, near_a, near_b, not_fallen, number_after, number_bound}
use Corrections.{number_fits, still_small}
use Rattle.end_system.proofs.end_system.EndSystem.correct.Goals as goal

pub at_correction-verdict-requires : goal.at_correction-verdict-requires
at_correction-verdict-requires c =
    let node = c.requires.0.2 in
    let stands = c.requires.0.3 in
    let here = subst (IsCorrection c.requires.0.0 node.standing node.changed node.done) c.requires.1.1 stands.agenda.correction in
    let at = at_point c.args.correction stands here in
    record { number = number_fits at; near_a = near_a stands.own at; near_b = near_b stands.own at }

pub agenda_after-self-requires : goal.agenda_after-self-requires
agenda_after-self-requires c =
    let node = c.requires.0.2 in
    let stands = c.requires.0.3 in
    let may = c.requires.0.4 in
    let due = c.requires.1 in
    let here = subst (IsCorrection c.requires.0.0 node.standing node.changed node.done) due.1 stands.agenda.correction in
    let at = at_point c.args.correction stands here in
    let value = c.at_correction-verdict.ensures.value in
    record {
      can = record {
        range = stands.own.range;
        rows = (c.requires.0.0, c.requires.0.1, stands.own.in_range, stands.rows);
        number =
            number_after c.args.self.now.sync c.at_correction-verdict.new.self c.args.self.now.heard c.at_correction-verdict.result value
            (number_bound at);
        small =
            still_small c.args.self.now.sync c.at_correction-verdict.new.self c.args.self.now.heard c.at_correction-verdict.result value
            c.at_correction-verdict.ensures.small at.small;
        begun = not_fallen node.last.reading.0 c.args.moment.reading.0 stands.begun may.later.reading;
        low = may.later.low_enough;
      };
      cycle = below_range _ at.number.bound;
      at = low_at c.args.correction.at.0 c.args.moment.reading.0 due.2 may.later.low_enough;
    }

pub returns : goal.returns
returns c = λ network device node stands may.
    let due = c.requires.1 in
    let here = subst (IsCorrection network node.standing node.changed node.done) due.1 stands.agenda.correction in
    let at = at_point c.args.correction stands here in
    let value = c.at_correction-verdict.ensures.value in
    let verdict = c.at_correction-verdict.ensures.verdict in (
      _,
      (
        first_is_correction network device _ node _ c.args.moment.reading.0 c.args.correction stands.own stands.sound stands.agenda due,
        (
          c.args.self.now.heard,
          record {
            summary = stands.heard;
            verdict_is = subst (λ s. HasVerdict s c.args.self.now.heard c.at_correction-verdict.result)
                (sym stands.standing) verdict;
          },
          refl,
        ),
      ),
      corrects c.at_correction-verdict.result c.at_correction-verdict.new.self c.agenda_after-self.result
          c.args.correction stands may here due.2 verdict value
          (still_small c.args.self.now.sync c.at_correction-verdict.new.self c.args.self.now.heard c.at_correction-verdict.result value
          c.at_correction-verdict.ensures.small at.small) c.clear.ensures.value c.clear.ensures.heard c.agenda_after-self.ensures.slot
          c.agenda_after-self.ensures.agenda,
    )
