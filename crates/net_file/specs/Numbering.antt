-- The numbers of things by their names.
use Rattle.std.specs.{Borrow.Bor, List.position_from, Option.option_or}
use Rattle.std.specs.Prelude.{if◌then◌else◌, ◌<◌, IfSome, List, MatchOption, None, Option, Some, bytes_eq, ℕ}
use Rattle.{indexmap.specs.IndexMap.{IndexMap, get_by}, net_plan.specs.Bearers.{HasNoBearer, IsFirstBearer}}

-- which number a name has
abbrev pub Numbering : Type 0
Numbering = List ℕ → Option ℕ

-- the place of the first of these names that is the text
abbrev pub first_of : List (List ℕ) → Numbering
first_of names text = position_from (bytes_eq text) 0 names

-- the numbers in a map
abbrev pub numbering : {S : Type 0} → IndexMap (Bor (List ℕ)) ℕ S → Numbering
numbering numbers text = get_by (λ name. bytes_eq text name.now) numbers

-- a numbering with one more name, which keeps the number that it has
abbrev pub with_name : Numbering → List ℕ → ℕ → Numbering
with_name numbering name number text = option_or (numbering text) (if bytes_eq text name then Some number else None)

-- each number is below the bound
abbrev pub IsBelow : ℕ → Numbering → Type 0
IsBelow bound numbering = (text : List ℕ) → IfSome (numbering text) (λ i. i < bound)

-- the number of a text is the place of its first bearer, and a text that nothing bears has none
abbrev pub MeansFirstBearer : Type 0
MeansFirstBearer =
    (names : List (List ℕ)) (text : List ℕ) → MatchOption (first_of names text) (HasNoBearer names text)
    (IsFirstBearer names text)
