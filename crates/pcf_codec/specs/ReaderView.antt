use Rattle.std.specs.Prelude.{List, take, ℕ}
use Rattle.pcf_codec.specs.{Reading.{Reading, holding, refused, waiting}, declared.reader.PcfReader.TheInside.Inside}
use Rattle.pcf_codec.specs.declared.reader.ReadState.{ReadState, TheVariants.{Filling, Refused, Whole}}

-- how many octets of an unfinished frame are there
abbrev pub held_in : ReadState → ℕ
held_in (Filling n) = n
held_in (Whole p) = 0
held_in (Refused e) = 0

-- where a reader with this progress stands, over the octets that it has room for
abbrev pub standing : ReadState → List ℕ → Reading
standing (Filling n) octets = holding (take n octets)
standing (Whole p) octets = waiting p
standing (Refused e) octets = refused e

-- where the reader with these fields stands
abbrev pub reading_in : Inside → Reading
reading_in r = standing r.progress r.octets
