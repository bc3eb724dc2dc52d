-- What is kept in place comes back from the list of its octets.
use Rattle.std.proofs.{Common.{◌∙◌, ap, arith}, lemmas.List.{length-take, take-append-drop}}
use Rattle.std.specs.Prelude.{◌≡◌, List, length, take, ℕ}
use Rattle.net_plan.specs.{Padding.{IsPadded, padded}, declared.name.Name.TheInside.Inside as NameInside}
use Rattle.net_plan.specs.declared.octets.Octets.TheInside.{Inside as OctetsInside}

length-used : (size : ℕ) (octets : List ℕ) (used : ℕ) → IsPadded size octets used → length (take used octets) ≡ used
length-used size octets used h = omega (arith, h.full, h.fits, length-take used octets)

padded-used : (size : ℕ) (octets : List ℕ) (used : ℕ) → IsPadded size octets used
    → padded size (take used octets) ≡ octets
padded-used size octets used h =
    let n : length (take used octets) ≡ used = length-used size octets used h in
    rw (n, ← h.zeros) (take-append-drop used octets)

abbrev pub name_of : List ℕ → ℕ → NameInside
name_of octets len = record { octets = octets; len = len }

pub name_back : (n : NameInside) → IsPadded 16 n.octets n.len
    → name_of (padded 16 (take n.len n.octets)) (length (take n.len n.octets)) ≡ n
name_back n h =
    ap (λ (o : List ℕ). name_of o (length (take n.len n.octets))) (padded-used 16 n.octets n.len h)
    ∙ ap (λ (l : ℕ). name_of n.octets l) (length-used 16 n.octets n.len h)

abbrev pub octets_of : List ℕ → ℕ → OctetsInside
octets_of octets len = record { octets = octets; len = len }

pub octets_back : (o : OctetsInside) → IsPadded 1514 o.octets o.len
    → octets_of (padded 1514 (take o.len o.octets)) (length (take o.len o.octets)) ≡ o
octets_back o h =
    ap (λ (x : List ℕ). octets_of x (length (take o.len o.octets))) (padded-used 1514 o.octets o.len h)
    ∙ ap (λ (l : ℕ). octets_of o.octets l) (length-used 1514 o.octets o.len h)
