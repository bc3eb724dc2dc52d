-- What `vote` answers for the octets of a network file and of a trace, and three names.
use Rattle.std.specs.Prelude.{◌++◌, ◌≡◌, ◌⊎◌, Bool, List, codes, decimal, false, true, ℕ}
use Rattle.net_plan.specs.{Bearers.{HasNoBearer, IsFirstBearer, vl_names}, declared.tables.VirtualLink.VirtualLink}
use Rattle.net_plan.specs.declared.ids.VlId.{VlId}
use Rattle.{net_plan.specs.declared.network.Network.Network, tte_traces.specs.Answer.{IsRunStatus, IsTraceAnswer}}
use Rattle.{tte_forms.specs.Answering.{Answer, line_answer}, tte_observers.specs.votes.law.Voting.MayVote}
use Rattle.tte_forms.specs.declared.status.Status.{Status, TheVariants.{NameRefused, VoteRefused}}
use Rattle.tte_observers.specs.{declared.votes.law.voters.Voters.Voters, votes.VoteLines.vote_lines}

-- three words, which are to name virtual links
pub record Names : Type 0 where
  pub first : List ℕ
  pub second : List ℕ
  pub third : List ℕ

abbrev pub the_names : List ℕ → List ℕ → List ℕ → Names
the_names first second third = record { first = first; second = second; third = third }

-- ---- the names

-- no virtual link of the network has the name
abbrev pub IsUnknown : Network → List ℕ → Type 0
IsUnknown network name = HasNoBearer (vl_names network.vl) name

-- the virtual link is the one of this name
abbrev pub IsNamed : Network → List ℕ → VlId → Type 0
IsNamed network name vl = IsFirstBearer (vl_names network.vl) name vl.0

-- this is the first of the three places, from 1, whose word names no virtual link
abbrev pub IsFirstUnknown : Network → Names → ℕ → Type 0
IsFirstUnknown network names place =
    ((place ≡ 1) × IsUnknown network names.first)
    ⊎ (((vl : VlId) × (place ≡ 2) × IsNamed network names.first vl × IsUnknown network names.second)
    ⊎ ((vl : VlId) × (other : VlId) × (place ≡ 3) × IsNamed network names.first vl × IsNamed network names.second other
    × IsUnknown network names.third))

-- the three words name these virtual links
pub record AreNamed (network : Network) (names : Names) (voters : Voters) : Type 0 where
  pub first : IsNamed network names.first voters.first
  pub second : IsNamed network names.second voters.second
  pub third : IsNamed network names.third voters.third

-- the line of the first word that names none
abbrev pub name_line : ℕ → List ℕ
name_line place = codes "refused name " ++ (decimal place ++ codes "\n")

-- ---- the virtual links

-- the three virtual links are of the network, and they may vote where this is true
abbrev pub MayThey : Network → Voters → Bool → Type 0
MayThey network voters may =
    (a : VirtualLink) × (b : VirtualLink) × (c : VirtualLink) × MayVote network voters a b c may

-- the line of virtual links that may not vote
abbrev pub vote_refused : List ℕ
vote_refused = codes "refused vote\n"

-- ---- the answer

-- the answer where the words or the virtual links are refused: a word names none, or those that are named may not vote
abbrev pub IsVoteRefusal : Names → Network → Answer → Type 0
IsVoteRefusal names network a =
    ((place : ℕ) × IsFirstUnknown network names place × (a ≡ line_answer NameRefused (name_line place)))
    ⊎ ((voters : Voters) × AreNamed network names voters × MayThey network voters false
    × (a ≡ line_answer VoteRefused vote_refused))

-- the answer where they vote: their votes in the run under the octets of a trace
abbrev pub IsVoting : Names → List ℕ → Network → Answer → Type 0
IsVoting names trace network a =
    (voters : Voters) × AreNamed network names voters × MayThey network voters true
    × IsTraceAnswer (vote_lines voters) trace network a

-- the answer for an accepted network under the octets of a trace
abbrev pub IsVoteAnswer : Names → List ℕ → Network → Answer → Type 0
IsVoteAnswer names trace network a = IsVoteRefusal names network a ⊎ IsVoting names trace network a

-- the statuses of `vote`
abbrev pub IsVoteStatus : Status → Type 0
IsVoteStatus NameRefused = Unit {0}
IsVoteStatus VoteRefused = Unit {0}
IsVoteStatus other = IsRunStatus other
