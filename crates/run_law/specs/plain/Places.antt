-- The ranks of the kinds of record, and the numbers of a place.
use Rattle.std.specs.Prelude.{◌&&◌, ◌==◌, ◌||◌, ◌∷◌, ◌≡◌, ◌≤◌, Bool, List, [], drop, false, nat_lt, ℕ}
use Rattle.run_law.specs.declared.plain.places.{numbers.Numbers.Numbers, rank.Rank.Rank}
use Rattle.run_law.specs.declared.plain.places.rank.Rank.TheVariants as ranks

-- the number of a rank, from 1
abbrev pub number_of : Rank → ℕ
number_of ranks.Event = 1
number_of ranks.Arrived = 2
number_of ranks.Permanent = 3
number_of ranks.Compressed = 4
number_of ranks.Sent = 5
number_of ranks.Corrected = 6
number_of ranks.State = 7
number_of ranks.Left = 8
number_of ranks.Lost = 9
number_of ranks.TtSent = 10
number_of ranks.Accepted = 11
number_of ranks.Delivered = 12
number_of ranks.Dropped = 13
number_of ranks.Clock = 14

-- all of them, and the zeros behind them
abbrev pub numbers_of : Numbers → List ℕ
numbers_of n = n.time ∷ n.rank ∷ n.first ∷ n.second ∷ n.third ∷ n.fourth ∷ n.fifth ∷ n.sixth ∷ n.seventh ∷ []

-- so many, of which the first three are these
abbrev pub numbers_with : ℕ → ℕ → ℕ → ℕ → Numbers
numbers_with count time rank first = record {
  time = time;
  first = first;
  second = 0;
  third = 0;
  fifth = 0;
  fourth = 0;
  rank = rank;
  sixth = 0;
  seventh = 0;
  count = count;
}

-- each number is 0
abbrev pub AreZero : List ℕ → Type 0
AreZero [] = Unit {0}
AreZero (x ∷ xs) = (x ≡ 0) × AreZero xs

-- behind those that count all are 0
pub record IsPadded (count : ℕ) (numbers : List ℕ) : Type 0 where
  pub within : count ≤ 9
  pub zeros : AreZero (drop count numbers)

-- of two lists of one length the first is before the second, or is the second and the rest is so
abbrev pub before_then : List ℕ → List ℕ → Bool → Bool
before_then [] ys rest = rest
before_then (x ∷ xs) [] rest = false
before_then (x ∷ xs) (y ∷ ys) rest = nat_lt x y || (x == y && before_then xs ys rest)
