-- The root of a tree is the least of its keys.
use Rattle.device_rules.specs.least_key.Trees.{HasLesser, IsLesser, IsTree, node_at}
use Rattle.std.proofs.lemmas.List.{get_or-drop, get_or-set_other, get_or-set_same, get_or_default, length-drop, length-set}
use Rattle.std.proofs.Common.{◌*◌, ◌+◌, ◌-◌, ◌/◌, ◌<◌, ◌∙◌, ◌≡◌, ◌≤◌, List, ap, arith, drop, get_or, inl, inr}
use Rattle.std.proofs.Common.{length, refl, set, subst, suc, sym, zero, ℕ}
use Rattle.std.{proofs.lemmas.{Bool.{cases_eq, cases_lt}, List.Elements.Contains-get_or}, specs.List.Contains}

-- ---- the least of all

module _ (nodes : List ℕ) (places : ℕ) where
  -- no node is less than the root
  below_root : IsTree nodes places → (fuel i : ℕ) → i ≤ fuel → 1 ≤ i → i < 2 * places
      → node_at nodes 1 ≤ node_at nodes i
  below_root t zero i few some inside = absurd (omega arith)
  below_root t (suc fuel) i few some inside = elim (cases_eq i 1) [
    | inl e ↦ rw e (omega arith)
    | inr more ↦
        let up = below_root t fuel (i / 2) (omega arith) (omega arith) (omega arith) in
        let here = t.lesser (i / 2) (omega arith) (omega arith) in
        elim (cases_eq i (2 * (i / 2))) [
          | inl even ↦ rw even (let left = here.0 in omega arith)
          | inr odd ↦
              let at : i ≡ 2 * (i / 2) + 1 = omega (arith, odd) in
              rw at (let right = here.1 in omega arith)
        ]
  ]

  -- a node has the key of a place
  is_key : IsTree nodes places → (fuel i : ℕ) → 2 * places ≤ fuel + i → 1 ≤ i → i < 2 * places
      → (k : ℕ) × (k < places) × (node_at nodes i ≡ node_at nodes (places + k))
  is_key t zero i few some inside = absurd (omega arith)
  is_key t (suc fuel) i few some inside = elim (cases_lt i places) [
    | inr leaf ↦ (i - places, omega (arith, leaf), ap (λ n. node_at nodes n) (omega (arith, leaf)))
    | inl inner ↦ elim (t.lesser i some inner).2 [
      | inl left ↦
          let below = is_key t fuel (2 * i) (omega arith) (omega arith) (omega arith) in
          (below.0, below.1, left ∙ below.2)
      | inr right ↦
          let below = is_key t fuel (2 * i + 1) (omega arith) (omega arith) (omega arith) in
          (below.0, below.1, right ∙ below.2)
    ]
  ]

  pub length_keys : IsTree nodes places → length (drop places nodes) ≡ places
  length_keys t = let whole = t.whole in omega (arith, length-drop places nodes)

  pub root_is_least : (k d : ℕ) → IsTree nodes places → k < length (drop places nodes)
      → node_at nodes 1 ≤ get_or (drop places nodes) k d
  root_is_least k d t lt =
      let few : k < places = omega (arith, length_keys t) in
      let whole = t.whole in
      let least = below_root t (places + k) (places + k) (omega arith) (omega arith) (omega arith) in
      omega (arith, get_or-drop places nodes k d, get_or_default nodes (places + k) 0 d (omega (arith, whole, few)))

  pub root_is_key : IsTree nodes places → 1 ≤ places → Contains (drop places nodes) (node_at nodes 1)
  root_is_key t some =
      let at = is_key t (2 * places) 1 (omega arith) (omega arith) (omega arith) in
      subst (Contains (drop places nodes)) (get_or-drop places nodes at.0 0 ∙ sym at.2)
      (Contains-get_or (drop places nodes) at.0 0 (let few = at.1 in omega (arith, length_keys t)))

-- ---- a key is set

-- a tree but for the node above this one
pub record IsTreeBut (nodes : List ℕ) (places node : ℕ) : Type 0 where
  pub whole : length nodes ≡ 2 * places
  pub from_root : 1 ≤ node
  pub inside : node < 2 * places
  pub lesser : (i : ℕ) → 1 ≤ i → i < places → (i ≡ node / 2 → ⊥) → HasLesser nodes i

lesser_as : (a b c x y z : ℕ) → a ≡ x → b ≡ y → c ≡ z → IsLesser x y z → IsLesser a b c
lesser_as a b c x y z p q r h =
    let left = h.0 in
    let right = h.1 in (
      omega arith,
      omega arith,
      elim h.2 [ inl e ↦ inl (r ∙ e ∙ sym p) | inr e ↦ inr (r ∙ e ∙ sym q) ],
    )

-- with the lesser of its own and of the one beside it, the node above is right, and all but the one above that
module _ (nodes : List ℕ) (node key : ℕ) where
  lesser_above : IsLesser (node_at nodes node) (node_at nodes (4 * (node / 2) + 1 - node)) key → 1 < node
      → IsLesser (node_at nodes (2 * (node / 2))) (node_at nodes (2 * (node / 2) + 1)) key
  lesser_above of more = elim (cases_eq node (2 * (node / 2))) [
    | inl even ↦
        let beside : 2 * (node / 2) + 1 ≡ 4 * (node / 2) + 1 - node = omega arith in
        lesser_as _ _ _ _ _ _ (ap (λ n. node_at nodes n) (sym even)) (ap (λ n. node_at nodes n) beside) refl of
    | inr odd ↦
        let here : 2 * (node / 2) + 1 ≡ node = omega arith in
        let beside : 2 * (node / 2) ≡ 4 * (node / 2) + 1 - node = omega arith in
        let both = lesser_as _ _ _ _ _ _ (ap (λ n. node_at nodes n) here) (ap (λ n. node_at nodes n) beside) refl of in
        (both.1, both.0, elim both.2 [ inl e ↦ inr e | inr e ↦ inl e ])
  ]

  pub raised : (places : ℕ) → IsTreeBut nodes places node → 1 < node
      → IsLesser (node_at nodes node) (node_at nodes (4 * (node / 2) + 1 - node)) key
      → IsTreeBut (set nodes (node / 2) key) places (node / 2)
  raised places t more of =
      let whole = t.whole in
      let inside = t.inside in
      record {
        whole = length-set nodes (node / 2) key ∙ whole;
        from_root = omega arith;
        inside = omega arith;
        lesser = λ i some lt other.
            let left = get_or-set_other nodes (node / 2) (2 * i) key 0 (λ e. other (omega arith)) in
            let right = get_or-set_other nodes (node / 2) (2 * i + 1) key 0 (λ e. other (omega arith)) in
            elim (cases_eq i (node / 2)) [
              | inl here ↦
                  let is : node_at (set nodes (node / 2) key) i ≡ key =
                  ap (λ n. node_at (set nodes (node / 2) key) n) here
                  ∙ get_or-set_same nodes (node / 2) key 0 (omega arith) in
                  lesser_as _ _ _ _ _ _ (left ∙ ap (λ n. node_at nodes (2 * n)) here)
                  (right ∙ ap (λ n. node_at nodes (2 * n + 1)) here) is (lesser_above of more)
              | inr apart ↦
                  lesser_as _ _ _ _ _ _ left right (get_or-set_other nodes (node / 2) i key 0 apart)
                  (t.lesser i some lt apart)
            ];
      }
