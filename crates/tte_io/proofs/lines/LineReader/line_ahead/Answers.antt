use Rattle.std.proofs.Common.{◌∙◌, ◌≡◌, ap, refl, sym}
use Rattle.tte_io.{specs.Progress.reader_state}
use Rattle.tte_io.proofs.{lines.LineReader.line_ahead.Goals.{in-Taken, in-Unfinished}}
use Rattle.tte_io.proofs.LineReading
use LineReading.{MadeOf, Making, found_ended, found_too_long, long_unended, made_next, made_on, making_next, making_on}
use LineReading.{still_too_long, taken_at_lf}
use Rattle.tte_io.specs.{ReaderState.{KeepsEnd, KeepsLongLine, pending}}
use Rattle.tte_io.specs.declared.lines.{Progress.TheVariants.TooLong}
use Rattle.tte_io.proofs.lines.LineReader.line_ahead.Goals as goal

pub returns-in-TooLong-clause-found : goal.returns-in-TooLong-clause-found
returns-in-TooLong-clause-found c left =
    let r = c.self.inside in
    let is : reader_state TooLong r.line r.ahead r.ended ≡ c.args.self.now =
    ap (λ p. reader_state p r.line r.ahead r.ended) (sym c.in-TooLong.is) ∙ c.self.view_is in
    let long : KeepsLongLine (reader_state TooLong r.line r.ahead r.ended) =
    rw c.in-TooLong.is at c.self.invariant.2 in
    let end : KeepsEnd (reader_state TooLong r.line r.ahead r.ended) =
    rw c.in-TooLong.is at c.self.invariant.3 in
    rw (sym is) (still_too_long r.line r.ahead r.ended left (long_unended r.line r.ahead r.ended (long refl) end)
    (long refl))

pub returns-in-Ended-clause-found : goal.returns-in-Ended-clause-found
returns-in-Ended-clause-found c left =
    let r = c.self.inside in
    let at = c.match-self.self-inside in
    let making : Making (pending c.args.self.now) left at.line at.ahead left = elim c.match-self.branch [
      | in-Taken w ↦
          rw w.self-inside-is (making_next r.progress r.line r.ahead r.ended w.clear.new.self c.args.self.now left c.self.view_is w.in-Taken.is w.clear.ensures)
      | in-Unfinished w ↦ rw w.self-inside-is (making_on r.progress r.ahead r.ended c.args.self.now left
          c.self.view_is w.in-Unfinished.is
          c.self.invariant.0)
    ] in
    let made : MadeOf c.args.self.now at.line at.ahead at.ended = elim c.match-self.branch [
      | in-Taken w ↦
          rw w.self-inside-is (made_next r.progress r.line r.ahead r.ended w.clear.new.self c.args.self.now c.self.view_is w.in-Taken.is w.clear.ensures
          c.self.invariant.3)
      | in-Unfinished w ↦ rw w.self-inside-is (made_on r.progress r.line r.ahead r.ended c.args.self.now c.self.view_is w.in-Unfinished.is c.self.invariant.3)
    ] in
    taken_at_lf _ _ _ _ _ _ _ _ _ (made.same ∙ c.if-self.false) c.if-self.false making c.in-Ended.ensures.advances

pub returns-in-TooLong-advance-clause-found : goal.returns-in-TooLong-advance-clause-found
returns-in-TooLong-advance-clause-found c left =
    let r = c.self.inside in
    let at = c.match-self.self-inside in
    let making : Making (pending c.args.self.now) left at.line at.ahead left = elim c.match-self.branch [
      | in-Taken w ↦
          rw w.self-inside-is (making_next r.progress r.line r.ahead r.ended w.clear.new.self c.args.self.now left c.self.view_is w.in-Taken.is w.clear.ensures)
      | in-Unfinished w ↦ rw w.self-inside-is (making_on r.progress r.ahead r.ended c.args.self.now left
          c.self.view_is w.in-Unfinished.is
          c.self.invariant.0)
    ] in
    let made : MadeOf c.args.self.now at.line at.ahead at.ended = elim c.match-self.branch [
      | in-Taken w ↦
          rw w.self-inside-is (made_next r.progress r.line r.ahead r.ended w.clear.new.self c.args.self.now c.self.view_is w.in-Taken.is w.clear.ensures
          c.self.invariant.3)
      | in-Unfinished w ↦ rw w.self-inside-is (made_on r.progress r.line r.ahead r.ended c.args.self.now c.self.view_is w.in-Unfinished.is c.self.invariant.3)
    ] in
    found_too_long _ _ _ _ _ _ _ _ _ (made.same ∙ c.if-self.false) c.if-self.false making c.in-TooLong-advance.ensures.advances

pub returns-then-self-clause-found : goal.returns-then-self-clause-found
returns-then-self-clause-found c left =
    let r = c.self.inside in
    let at = c.match-self.self-inside in
    let made : MadeOf c.args.self.now at.line at.ahead at.ended = elim c.match-self.branch [
      | in-Taken w ↦
          rw w.self-inside-is (made_next r.progress r.line r.ahead r.ended w.clear.new.self c.args.self.now c.self.view_is w.in-Taken.is w.clear.ensures
          c.self.invariant.3)
      | in-Unfinished w ↦ rw w.self-inside-is (made_on r.progress r.line r.ahead r.ended c.args.self.now c.self.view_is w.in-Unfinished.is c.self.invariant.3)
    ] in
    found_ended c.args.self.now at.line at.ahead at.ended left made c.if-self.true
