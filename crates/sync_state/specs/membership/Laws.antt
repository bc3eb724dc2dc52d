use Rattle.std.specs.{Int.bit_at, List.range_with_len, Prelude.{◌+◌, ◌<◌, ◌==◌, ◌^◌, ◌≡◌, List, count_by, ℕ}}
use Rattle.{sync_state.specs.membership.Hearing.Hearing, tte_units.specs.declared.frames.members.Members.Members}
use Rattle.sync_state.specs.membership.{Members.{IsMember, count_of, single, union}, Summary.{Summarizes, Summary}}

-- a set of masters with numbers below the width has as many as there are bits set below it
abbrev pub CountIsOfMembers : Type 0
CountIsOfMembers =
    (width : ℕ) (m : Members) → m.0 < 2 ^ width
    → count_of m ≡ count_by (λ i. bit_at m.0 i == 1) (range_with_len 0 width)

-- a set has one master more, once one that is not in it joins it
abbrev pub OneMoreMember : Type 0
OneMoreMember = (i : ℕ) (m : Members) → ¬ IsMember i m → count_of (union (single i) m) ≡ count_of m + 1

-- two summaries of the same frames are one
abbrev pub SummaryIsOne : Type 0
SummaryIsOne = (heard : List Hearing) (s t : Summary) → Summarizes s heard → Summarizes t heard → s ≡ t
