use Rattle.tte_audit.proofs.{Telling.first_number, Words.arith}
use Rattle.tte_audit.proofs.line_words.LineWords.octet.Goals as goal

pub returns-then-number-from-clause-is : goal.returns-then-number-from-clause-is
returns-then-number-from-clause-is c n range e none =
    let number = c.in_ok-number.number in
    let same = first_number c.args.self.now c.count.new.self number n c.in_ok-number.ensures.range (omega (arith, range)) c.in_ok-number.ensures.text e in
    absurd (omega (arith, same, range, c.if-number-from.true, c.from.ensures))
