use Rattle.audit_sweep.proofs.Words.{happening, members_in, refl}
use Rattle.audit_sweep.proofs.judging.is_due.Goals as goal

pub returns : goal.returns
returns c befallen hs k founded before number befalls =
    let members = members_in (happening c.args.network.now hs c.args.note.now) in
    let caused = c.is_caused.ensures befallen hs k founded (record { members = members; before = before }) befalls in (
      λ yes. record { number = number; same = refl; begun = c.requires.judgeable.begun; cause = caused.0 yes },
      λ due. caused.1 due.cause,
    )
