-- The octets that a source has left.
use Rattle.std.{proofs.Common.{◌+◌, ◌<◌, ◌≡◌, List, None, Some, [], arith, replicate, subst, ℕ}, specs.Prelude.{IfSome, Option, length}}
use Rattle.{std.proofs.lemmas.List.length-replicate, tte_forms.specs.Answering.ForOctets}

-- what holds of octets that were read holds for those that were left
pub for_read : (left : Option (List ℕ)) (octets : List ℕ) (P : List ℕ → Type 0) → IfSome left (λ all. octets ≡ all) → P octets → ForOctets left P
for_read None octets P all p = (octets, p)
for_read (Some left) octets P all p = subst P all p

-- what holds of all octets that are too many holds for those that were left, where these are too many
pub for_too_many : (limit : ℕ) (left : Option (List ℕ)) (P : List ℕ → Type 0) → IfSome left (λ all. limit < length all)
    → ((octets : List ℕ) → limit < length octets → P octets) → ForOctets left P
for_too_many limit None P long p = let many : List ℕ = replicate (limit + 1) 0 in (many, p many (omega (arith, length-replicate {A = ℕ} (limit + 1) 0)))
for_too_many limit (Some left) P long p = p left long

-- what holds of all octets holds for those that were left
pub for_all : (left : Option (List ℕ)) (P : List ℕ → Type 0) → ((octets : List ℕ) → P octets) → ForOctets left P
for_all None P p = ([], p [])
for_all (Some left) P p = p left

-- a fact follows from another for the octets
pub for_more : (left : Option (List ℕ)) (P Q : List ℕ → Type 0) → ((octets : List ℕ) → P octets → Q octets) → ForOctets left P → ForOctets left Q
for_more None P Q f h = (h.0, f h.0 h.1)
for_more (Some left) P Q f h = f left h
