use Rattle.tte_audit.proofs.RightEvents.{match_false, match_true}
use Rattle.tte_audit.proofs.auditing.judge.Goals as goal

pub returns-in-Ok-true : goal.returns-in-Ok-true
returns-in-Ok-true c network number octets next = (
  c.args.note.now,
  next,
  λ befallen end hs swept befalls. match_true c.in-Ok-true.field-0 _ _ (c.in-Ok-true.ensures network befallen end hs swept befalls)
      c.in-Ok-true.field-0-test,
)

pub returns-in-Ok-false : goal.returns-in-Ok-false
returns-in-Ok-false c network number octets next = (
  next.numbered,
  c.args.note.now,
  c.args.left.now,
  next,
  λ befallen end hs swept befalls. match_false c.in-Ok-false.field-0 _ _ (c.in-Ok-false.ensures network befallen end hs swept befalls)
      c.in-Ok-false.field-0-test,
)

pub returns-in-Err : goal.returns-in-Err
returns-in-Err c network number octets next = tt
