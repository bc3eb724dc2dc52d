-- The lines that `least` writes.
use Rattle.std.specs.{Fmt.decimal, Prelude.{◌++◌, List, codes, ℕ}}
use Rattle.lens_slack.specs.declared.least.times.Times.{Times}

-- the first two of the least times
unfoldable pub first_text : Times → List ℕ
first_text times = codes "least dmax " ++ decimal times.dmax ++ codes " settled " ++ decimal times.settled

-- the next two
unfoldable pub next_text : Times → List ℕ
next_text times = codes " precision " ++ decimal times.precision ++ codes " correction " ++ decimal times.correction

-- the last one, and the end of the line
unfoldable pub last_text : Times → List ℕ
last_text times = codes " tt_start " ++ decimal times.tt_start ++ codes "\n"

-- the line of the least times
abbrev pub least_line : Times → List ℕ
least_line times = first_text times ++ next_text times ++ last_text times

-- a key of the network file and its number, as the file has them
unfoldable pub key_line : List ℕ → ℕ → List ℕ
key_line key n = key ++ (codes " = " ++ (decimal n ++ codes "\n"))

-- the lines of the five keys, to be pasted into the file
unfoldable pub keys_text : Times → List ℕ
keys_text times =
    key_line (codes "dmax") times.dmax
    ++ (key_line (codes "settled") times.settled
    ++ (key_line (codes "precision") times.precision
    ++ (key_line (codes "correction") times.correction ++ key_line (codes "tt_start") times.tt_start)))
