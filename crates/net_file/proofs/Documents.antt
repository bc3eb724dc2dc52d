-- When a text is a document.
use Rattle.{net_file.specs.Schema.{document_of, filled, network_of, parsed}, std.specs.Prelude.{IsUtf8, if◌then◌else◌}, toml.specs.Parse.parse_document}
use Rattle.{net_file.specs.Steps.◌>>=◌, std.specs.Str.is_utf8, toml.specs.Data.{Data, Members}}
use Rattle.std.proofs.{Common.{◌≡◌, Bool, List, None, Option, false, refl, true, ℕ}, lemmas.Str.{IsUtf8-from_is_utf8, is_utf8-from_IsUtf8}}

barred : (b : Bool) (o : Option Members) → (b ≡ true → ⊥) → (if b then o else None) ≡ None
barred true o h = absurd (h refl)
barred false o h = refl

-- a text that is not UTF-8 is no document
pub not_parsed : (text : List ℕ) → (IsUtf8 text → ⊥) → parsed text ≡ None
not_parsed text h = barred (is_utf8 text) (parse_document text) (λ e. h (IsUtf8-from_is_utf8 text e))

-- any other is what the parse makes of it
pub is_parsed : (text : List ℕ) → IsUtf8 text → parsed text ≡ parse_document text
is_parsed text h = rw (is_utf8-from_IsUtf8 text h) refl

-- behind the numbers of the document, a network is made of its arrays
pub network_behind : (entries : Data) → network_of entries ≡ document_of entries >>= filled entries
unfolding network_of filled
network_behind entries = refl
