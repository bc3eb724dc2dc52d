-- What reading all of a source takes from it.
use Rattle.std.specs.{Io.KnownBytes.Consumes, Prelude.{◌<◌, ◌≤◌, List, length, ℕ}, declared.option.Option.Option}

-- how many octets are taken beyond the limit at most
abbrev pub excess_limit : ℕ
excess_limit = 4096

-- at most so many octets were taken from the source, the next ones
abbrev pub TakesAtMost : Option (List ℕ) → Option (List ℕ) → ℕ → Type 0
TakesAtMost old new most = (came : List ℕ) × (length came ≤ most) × Consumes old new came

-- more octets than the limit were taken from the source
abbrev pub TakesTooMany : Option (List ℕ) → Option (List ℕ) → ℕ → Type 0
TakesTooMany old new limit = (came : List ℕ) × (limit < length came) × Consumes old new came
