-- Lists with one more at the end.
use Rattle.std.proofs.{Common.{cond, drop}, lemmas.List.{Elements.filter_map-append, Sums.suffix_len-le-length, drop-append-le, length_push, reverse-append}}
use Rattle.{std.specs.List.{prefix_len, suffix_len}, world_law.proofs.Words.{length, not}}
use Rattle.world_law.proofs.Words.{◌++◌, ◌+◌, ◌∷◌, ◌≡◌, Bool, List, None, Option, [], after_last, ap, append-nil, arith, cons_option, false, filter_map}
pub use Rattle.tte_units.proofs.general_lemmas.Lists.{after_one as behind_yes, filter_off as filter_no, filter_on as filter_yes}

pub map_none : {X Y : Type 0} (f : X → Option Y) (xs : List X) (x : X) → f x ≡ None → filter_map f (xs ++ x ∷ []) ≡ filter_map f xs
map_none f xs x e = grind (arith, filter_map-append, filter_map, cons_option, append-nil)

suffix_more : {X : Type 0} (q : X → Bool) (xs : List X) (x : X) → suffix_len q (xs ++ x ∷ []) ≡ cond (q x) (1 + suffix_len q xs) 0
suffix_more q xs x = ap (prefix_len q) (reverse-append xs (x ∷ []))

pub behind_no : {X : Type 0} (p : X → Bool) (xs : List X) (x : X) → p x ≡ false → after_last p (xs ++ x ∷ []) ≡ after_last p xs ++ x ∷ []
behind_no p xs x e = grind (arith, not, suffix_more, cond, suffix_len-le-length, length, length_push, drop, drop-append-le)
