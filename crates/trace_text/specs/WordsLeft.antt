-- The words of what is left of a line.
use Rattle.std.specs.{Borrow.Bor, Prelude.{List, None, Option, Some, [], ℕ}}
use Rattle.trace_text.specs.Steps.{Words, words}

-- none where the line has ended
abbrev pub words_left : Option (Bor (List ℕ)) → Words
words_left None = []
words_left (Some text) = words text.now
