-- How much of a report was read.
use Rattle.std.specs.{Io.KnownBytes.IsAtEnd, Prelude.{◌≡◌, ◌⊎◌, List, Option, ℕ}}
use Rattle.tte_forms.specs.declared.status.Status.{Status, TheVariants.{AuditRefused, Done}}
use Rattle.tte_forms.specs.{Taking.TakesUpTo, networks.Accepting.ForAccepted}

-- octets of a report were taken, at most the limit and the excess; where it was judged, by this status, they are all
pub record TakesReport (limit : ℕ) (left after : Option (List ℕ)) (status : Status) : Type 0 where
  pub some : TakesUpTo limit left after
  pub whole : (status ≡ Done) ⊎ (status ≡ AuditRefused) → IsAtEnd after

-- octets of a report were taken, for an accepted network
abbrev pub ReadsReport : ℕ → Option (List ℕ) → Option (List ℕ) → Option (List ℕ) → Status → Type 0
ReadsReport limit first second after status = ForAccepted first (λ network. TakesReport limit second after status)
