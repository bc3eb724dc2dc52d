use Rattle.{std.proofs.Common.{◌∙◌, ◌≡◌, ap, refl, sym}, tte_io.specs.declared.lines.{Progress.TheVariants.TooLong}}
use Rattle.{std.proofs.lemmas.Result.err_from_is_err_and}
use Rattle.tte_io.{specs.Progress.reader_state}
use Rattle.tte_io.proofs.LineReading
use LineReading.{MadeOf, found_ended, long_unended, made_next, made_on, outcome_told, still_too_long, taken_of_made}
use Rattle.tte_io.{proofs.lines.LineReader.next_line.Goals.{in-Taken, in-Unfinished}, specs.ReaderState.{KeepsEnd, KeepsLongLine}}
use Rattle.tte_io.proofs.lines.LineReader.next_line.Goals as goal

pub returns-in-TooLong-clause-next : goal.returns-in-TooLong-clause-next
returns-in-TooLong-clause-next g c =
    let r = c.self.inside in
    let left = g.S.Source.left c.args.source.now in
    let is : reader_state TooLong r.line r.ahead r.ended ≡ c.args.self.now =
    ap (λ p. reader_state p r.line r.ahead r.ended) (sym c.in-TooLong.is) ∙ c.self.view_is in
    let long : KeepsLongLine (reader_state TooLong r.line r.ahead r.ended) =
    rw c.in-TooLong.is at c.self.invariant.2 in
    let end : KeepsEnd (reader_state TooLong r.line r.ahead r.ended) =
    rw c.in-TooLong.is at c.self.invariant.3 in
    rw (sym is) (still_too_long r.line r.ahead r.ended left (long_unended r.line r.ahead r.ended (long refl) end)
    (long refl))

pub returns-in-TooLong-clause-told : goal.returns-in-TooLong-clause-told
returns-in-TooLong-clause-told g c = outcome_told _ _ _ (returns-in-TooLong-clause-next g c)

pub returns-then-self-clause-next : goal.returns-then-self-clause-next
returns-then-self-clause-next g c =
    let r = c.self.inside in
    let at = c.match-self.self-inside in
    let made : MadeOf c.args.self.now at.line at.ahead at.ended = elim c.match-self.branch [
      | in-Taken w ↦
          rw w.self-inside-is (made_next r.progress r.line r.ahead r.ended w.clear.new.self c.args.self.now c.self.view_is w.in-Taken.is w.clear.ensures
          c.self.invariant.3)
      | in-Unfinished w ↦ rw w.self-inside-is (made_on r.progress r.line r.ahead r.ended c.args.self.now c.self.view_is w.in-Unfinished.is c.self.invariant.3)
    ] in
    found_ended c.args.self.now at.line at.ahead at.ended (g.S.Source.left c.args.source.now) made c.if-self.true

pub returns-then-self-clause-told : goal.returns-then-self-clause-told
returns-then-self-clause-told g c = outcome_told _ _ _ (returns-then-self-clause-next g c)

pub returns-in_err-taken-clause-next : goal.returns-in_err-taken-clause-next
returns-in_err-taken-clause-next g c =
    let r = c.self.inside in
    let at = c.match-self.self-inside in
    let made : MadeOf c.args.self.now at.line at.ahead at.ended = elim c.match-self.branch [
      | in-Taken w ↦
          rw w.self-inside-is (made_next r.progress r.line r.ahead r.ended w.clear.new.self c.args.self.now c.self.view_is w.in-Taken.is w.clear.ensures
          c.self.invariant.3)
      | in-Unfinished w ↦ rw w.self-inside-is (made_on r.progress r.line r.ahead r.ended c.args.self.now c.self.view_is w.in-Unfinished.is c.self.invariant.3)
    ] in
    rw ((err_from_is_err_and c.from_residual.result c.from_residual.ensures.1).1)
    (taken_of_made c.args.self.now at.line at.ahead at.ended _ made c.if-self.false c.in_err-taken.ensures.next)

pub returns-in_err-taken-clause-told : goal.returns-in_err-taken-clause-told
returns-in_err-taken-clause-told g c = outcome_told _ _ _ (returns-in_err-taken-clause-next g c)
