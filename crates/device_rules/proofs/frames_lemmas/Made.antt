-- The frame of a virtual link as it is written: a head, and zeros behind it.
use Rattle.{device_rules.specs.frames.Made.{head_of, made_frame}, std.proofs.{Math.Seq.{drop-append_seam, take-append-add}, lemmas.List.take-replicate}}
use Rattle.{net_plan.specs.{Padding.padded, declared.ids.VlId.VlId}, std.{proofs.Common.{sym, take, ℕ}}}
use Rattle.{net_plan.specs.Ranges.{IsInRange, IsVlInRange}, run_law.specs.records.Frames.{tt_frame, tt_frame_by}, tte_units.proofs.general_lemmas.Lists.in_all}
use Rattle.{net_plan.specs.declared.{network.Network.Network, tables.VirtualLink.VirtualLink}, std.proofs.lemmas.Option.{slice_get-get_or, slice_get_cases}}
use Rattle.std.proofs.Common.{◌++◌, ◌+◌, ◌-◌, ◌<◌, ◌∙◌, ◌≡◌, List, None, Some, [], ap, arith, drop, get_or, length, length-append, replicate, slice_get}

-- of a virtual link of the network it is the frame of the law
pub made_is : (network : Network) (vl : VlId) (cycle : ℕ) → vl.0 < length network.vl → made_frame network vl cycle ≡ tt_frame network vl cycle
made_is network vl cycle lt = grind (arith, slice_get_cases, replicate)

-- how long the head is
pub head_length : (network : Network) (vl : VirtualLink) (cycle : ℕ) → length (head_of network vl cycle) ≡ 18
head_length network vl cycle = grind (arith, length-append)

-- the first octets of a longer frame are the frame
pub front_made : {network : Network} {vl : VirtualLink} (cycle : ℕ) → IsVlInRange network vl
    → take vl.length (padded 1514 (head_of network vl cycle)) ≡ tt_frame_by network vl cycle
front_made {network} {vl} cycle range =
    let head = head_of network vl cycle in
    let long = head_length network vl cycle in
    let least = range.length_least in
    let most = range.length_most in
    let size : vl.length ≡ length head + (vl.length - length head) = omega arith in
    ap (λ n. take n (head ++ replicate (1514 - length head) 0)) size
    ∙ take-append-add head (replicate (1514 - length head) 0) (vl.length - length head)
    ∙ ap (λ l. head ++ l) (take-replicate (vl.length - length head) (1514 - length head) 0 (omega (arith, most)))

pub made_found : {network : Network} (vl : VlId) (cycle : ℕ) (found : VirtualLink) (octets head : List ℕ)
    → slice_get network.vl vl.0 ≡ Some found → IsInRange network → head ≡ head_of network found cycle
    → octets ≡ padded 1514 head → take found.length octets ≡ made_frame network vl cycle
made_found {network} vl cycle found octets head there range is padded_so =
    ap (take found.length) (padded_so ∙ ap (padded 1514) is)
    ∙ front_made cycle (in_all (IsVlInRange network) network.vl vl.0 found range.vls there)
    ∙ sym (rw there)

-- behind the head stand zeros
pub zeros_behind : (octets head : List ℕ) → length head ≡ 18 → octets ≡ padded 1514 head → drop 18 octets ≡ replicate 1496 0
zeros_behind octets head long padded_so =
    ap (drop 18) padded_so ∙ (rw (sym long)
    (drop-append_seam head (replicate (1514 - length head) 0)
    ∙ (rw long)))

pub made_none : (network : Network) (vl : VlId) (cycle : ℕ) (octets : List ℕ) → slice_get network.vl vl.0 ≡ None
    → octets ≡ padded 1514 [] → take 60 octets ≡ made_frame network vl cycle
made_none network vl cycle octets none padded_so =
    ap (take 60) padded_so ∙ take-replicate 60 1514 0 (omega arith)
    ∙ sym (rw none)

pub found_at : {X : Type 0} (xs : List X) (i : ℕ) (x : X) → i < length xs → ((d : X) → x ≡ get_or xs i d) → slice_get xs i ≡ Some x
found_at xs i x lt is = slice_get-get_or xs i x lt ∙ ap Some (sym (is x))
