-- The lines that `vote` puts.
use Rattle.std.specs.Prelude.{if◌then◌else◌, ◌++◌, ◌^◌, ◌||◌, ◌∷◌, Bool, List, None, Option, Some, [], codes, decimal}
use Rattle.std.specs.Prelude.{is_some, length, nat_lt, suc, zero, ℕ}
use Rattle.{hex.specs.Hex.encode_lower, net_plan.specs.Belonging.device_name, tte_traces.specs.Answer.LinesOf}
use Rattle.{net_plan.specs.declared.ids.DeviceId.DeviceId, tte_observers.specs.votes.tmr.Vote.{Votes, voted}}
use Rattle.{net_plan.specs.declared.network.Network.Network, run_law.specs.records.Happenings.{Happening, happenings}}
use Rattle.tte_observers.specs.{declared.votes.law.voters.Voters.Voters, votes.law.Ballots.ballot_of}

-- the value that was voted, in hexadecimal, or that there is none
abbrev pub value_text : Option (List ℕ) → List ℕ
value_text (Some payload) = encode_lower payload
value_text None = codes "none"

-- the line of a vote in the cycle, at the device of this name
abbrev pub vote_line : ℕ → List ℕ → Option (List ℕ) → List ℕ
vote_line cycle name value =
    codes "vote " ++ (decimal cycle ++ (codes " " ++ (name ++ (codes " " ++ (value_text value ++ codes "\n")))))

-- is a seat of the ballot cast?
abbrev pub is_cast : Votes → Bool
is_cast v = is_some v.first || (is_some v.second || is_some v.third)

-- the line of a ballot, if a seat of it is cast
abbrev pub ballot_lines : Network → ℕ → DeviceId → Votes → List (List ℕ)
ballot_lines network cycle device votes =
    if is_cast votes then vote_line cycle (device_name network device) (voted votes) ∷ [] else []

-- the same of a device that may be none of the network's
abbrev pub lines_at : Network → ℕ → DeviceId → Votes → List (List ℕ)
lines_at network cycle device votes =
    if nat_lt device.0 (length network.device) then ballot_lines network cycle device votes else []

-- the lines of the cycle's ballots at so many devices, in the order of the file
unfoldable pub lines_by_first : Network → Voters → List Happening → ℕ → ℕ → List (List ℕ)
lines_by_first network voters hs cycle zero = []
lines_by_first network voters hs cycle (suc k) =
    lines_by_first network voters hs cycle k
    ++ ballot_lines network cycle (record { 0 = k }) (ballot_of voters hs cycle (record { 0 = k }))

-- those of all cycles before one, in their order
unfoldable pub lines_before : Network → Voters → List Happening → ℕ → List (List ℕ)
lines_before network voters hs zero = []
lines_before network voters hs (suc cycle) =
    lines_before network voters hs cycle ++ lines_by_first network voters hs cycle (length network.device)

-- the lines that `vote` puts of a run; the cycles of a run are below 2^32
abbrev pub vote_lines : Voters → LinesOf
vote_lines voters network events notes = lines_before network voters (happenings network notes) (2 ^ 32)
