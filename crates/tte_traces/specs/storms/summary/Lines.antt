-- The lines of a summary.
--
--     storm seed SEED cycles CYCLES
--     records N
--     compressed N                    and so on, for `corrected`, `lost`, `ttsent`, `accepted` and `delivered`
--     dropped off N                   and so on, for each word of a reason
--     spread S precision P
--
-- N is a count of records, and S and P are in units of 2^-16 ns. All numbers are decimal.
use Rattle.std.specs.{Fmt.signed_decimal, Prelude.{◌++◌, ◌∷◌, List, [], codes, decimal, ℕ}}
use Rattle.tte_units.specs.declared.units.Units.{Units}
use Rattle.tte_traces.specs.declared.storms.summary.{counts.{Counts.Counts, Drops.Drops}, summary.Summary.Summary}

-- the line of the storm
abbrev pub storm_line : ℕ → ℕ → List ℕ
storm_line seed cycles = codes "storm seed " ++ decimal seed ++ codes " cycles " ++ decimal cycles ++ codes "\n"

-- the line of a count
abbrev pub count_line : List ℕ → ℕ → List ℕ
count_line words n = words ++ codes " " ++ decimal n ++ codes "\n"

-- the line of the greatest spread and of the precision
abbrev pub spread_line : Units → Units → List ℕ
spread_line spread precision =
    codes "spread " ++ signed_decimal spread.0 ++ codes " precision " ++ signed_decimal precision.0 ++ codes "\n"

-- the lines of the drops, and then others
abbrev pub drop_lines : Drops → List (List ℕ) → List (List ℕ)
drop_lines d others =
    count_line (codes "dropped off") d.off
    ∷ count_line (codes "dropped refused") d.refused
    ∷ count_line (codes "dropped coldstart") d.cold_start
    ∷ count_line (codes "dropped domain") d.domain
    ∷ count_line (codes "dropped member") d.member
    ∷ count_line (codes "dropped old") d.too_old
    ∷ count_line (codes "dropped gate") d.gate
    ∷ count_line (codes "dropped cycle") d.cycle
    ∷ count_line (codes "dropped unsynchronised") d.unsynchronised
    ∷ count_line (codes "dropped unknown") d.unknown
    ∷ count_line (codes "dropped length") d.wrong_length
    ∷ count_line (codes "dropped early") d.early
    ∷ count_line (codes "dropped late") d.late
    ∷ count_line (codes "dropped repeat") d.repeated
    ∷ others

-- the summary of a run under the storm of the seed over so many cycles
abbrev pub summary_lines : ℕ → ℕ → Counts → Units → Units → List (List ℕ)
summary_lines seed cycles c spread precision =
    storm_line seed cycles
    ∷ count_line (codes "records") c.records
    ∷ count_line (codes "compressed") c.compressed
    ∷ count_line (codes "corrected") c.corrected
    ∷ count_line (codes "lost") c.lost
    ∷ count_line (codes "ttsent") c.tt_sent
    ∷ count_line (codes "accepted") c.accepted
    ∷ count_line (codes "delivered") c.delivered
    ∷ drop_lines c.dropped (spread_line spread precision ∷ [])

-- the lines of a summary as it is kept
abbrev pub lines_of : Summary → List (List ℕ)
lines_of s = summary_lines s.seed s.cycles s.counts s.spread s.precision
