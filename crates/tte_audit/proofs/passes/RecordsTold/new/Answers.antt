use Rattle.tte_audit.proofs.{Telling.none_told, Words.refl}
use Rattle.tte_audit.proofs.passes.RecordsTold.new.Goals as goal

pub returns : goal.returns
returns c = none_told _ refl refl c.in_ok-befallen.ensures
