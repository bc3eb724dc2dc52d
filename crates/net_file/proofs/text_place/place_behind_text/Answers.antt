use Rattle.std.proofs.Common.{rules, arith, ◌+◌, ◌≡◌, ◌∷◌, ◌∙◌, List, [], refl, ap, length, sym, ℕ}
use Rattle.net_file.{proofs.TextMoves.moves_by_one, specs.{TextPlaces.{place_behind}}}
use Rattle.net_file.proofs.text_place.place_behind_text.Goals as goal

pub octets-preserved : goal.octets-preserved
unfolding place_behind
octets-preserved c =
    let octet = c.in-Some.octet.now in
    let rest = c.in-Some.rest.now in
    let place = c.octets.place in
    let split : c.octets.left.now ≡ octet ∷ rest = search rules in
    let fewer : length c.octets.left.now ≡ length rest + 1 = omega (arith, ap length split) in
    let moves = moves_by_one octet place in
    let line = ap (λ p. p.line) c.after-place.ensures in
    let column = ap (λ p. p.column) c.after-place.ensures in
    let same = ap (λ p. place_behind rest p) c.after-place.ensures
    ∙ ap (λ octets. place_behind octets place) (sym split)
    ∙ c.octets.invariant.0 in
    (same, omega (arith, moves.0, c.octets.invariant.1), omega (arith, moves.1, c.octets.invariant.2))

pub returns : goal.returns
unfolding place_behind
returns c =
    let none = empty_of c.octets.left.now c.in_default.ensures.cases in
    ap (λ octets. place_behind octets c.octets.place) (sym none) ∙ c.octets.invariant.0
  where
    empty_of : (xs : List ℕ) → length xs ≡ 0 → xs ≡ []
    empty_of [] is = refl
    empty_of (x ∷ xs) is = absurd (omega arith)
