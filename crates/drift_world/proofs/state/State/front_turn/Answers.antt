use Rattle.drift_world.proofs.Nearings.{gives_turns, passed_turns, work_turns}
use Rattle.drift_world.proofs.{Turning.{err_open, may_give_first, none_settled, now_so, passed_kept}}
use Rattle.drift_world.proofs.Words.{OutOfMemory, SourceFirst, refl, subst}
use Rattle.drift_world.proofs.state.State.front_turn.Goals as goal

pub give_next-requires-clause-first : goal.give_next-requires-clause-first
give_next-requires-clause-first g c =
    may_give_first
    c.requires.may.well c.source_by-source.ensures.foremost (c.if-has_first.ensures.yes refl)

pub pass_on-requires-clause-empty : goal.pass_on-requires-clause-empty
pass_on-requires-clause-empty g c =
    none_settled c.args.self.now.settled.items c.in-Later.time
    (subst (SourceFirst c.args.self.now.settled.items) c.in-Later.is (c.if-has_first.ensures.no refl))

pub returns-then-has_first-clause-turns : goal.returns-then-has_first-clause-turns
returns-then-has_first-clause-turns g c =
    let gave = c.give_next.ensures in
    gives_turns OutOfMemory c.args.self.now c.args.until
    c.give_next.new.note c.give_next.result c.requires.may.early gave.kept.well
    gave.says

pub returns-then-has_first-clause-err : goal.returns-then-has_first-clause-err
returns-then-has_first-clause-err g c =
    err_open OutOfMemory c.args.self.now c.give_next.new.self c.give_next.result c.args.until c.requires.may.early c.give_next.ensures.err

pub returns-in-Later-clause-kept : goal.returns-in-Later-clause-kept
returns-in-Later-clause-kept g c =
    passed_kept OutOfMemory
    c.args.note.now c.pass_on.ensures.passed

pub returns-in-Later-clause-turns : goal.returns-in-Later-clause-turns
returns-in-Later-clause-turns g c =
    passed_turns c.args.note.now
    c.pass_on.result c.pass_on.ensures.passed c.pass_on.ensures.nears

pub work_turn-requires : goal.work_turn-requires
work_turn-requires g c =
    let may = c.requires.may in
    let source = c.source_by-source in
    record {
      may = record {
        range = may.range;
        well = may.well;
        room = c.requires.room;
        foremost = source.ensures.foremost;
        first = c.if-has_first.ensures.no refl;
      };
      present = now_so source.result c.in_default.not-Later;
    }

pub returns-clause-turns : goal.returns-clause-turns
returns-clause-turns g c =
    let turn = c.work_turn.ensures in
    work_turns OutOfMemory c.args.self.now c.args.until
    c.work_turn.new.note c.work_turn.result c.requires.may.early turn.kept.well
    turn.says

pub returns-clause-err : goal.returns-clause-err
returns-clause-err g c =
    err_open OutOfMemory c.args.self.now c.work_turn.new.self c.work_turn.result c.args.until c.requires.may.early c.work_turn.ensures.err
