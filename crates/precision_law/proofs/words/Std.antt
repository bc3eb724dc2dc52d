-- What the proofs name of numbers, lists and choices, passed on from one place. Declares nothing.
pub use Rattle.std.proofs.Common.{if◌then◌else◌, ◌%◌, ◌&&◌, ◌*ℤ◌, ◌*◌, ◌++◌, ◌+ℤ◌, ◌+◌, ◌-ℤ◌, ◌-◌, ◌/◌, ◌<ℤ◌, ◌<◌, ◌==◌, ◌^◌, ◌||◌, ◌∙◌, ◌∷◌, ◌≡◌, ◌≤ℤ◌, ◌≤◌}
pub use Rattle.std.proofs.Common.{◌⊎◌, All, Any, Bool, Contains, Err, IfSome, IsNone, IsSomeAnd, List, MatchBool, None, Ok, Option, Result, Some, [], ap}
pub use Rattle.std.proofs.Common.{append-nil, append_assoc, arith, bit_or, cond, count_by, count_ones, drop, drop_at, eq-eqb, eqb-true, false, filter, fold}
pub use Rattle.std.proofs.Common.{inl, inr, int_le, int_lt, is_some, le-leb, le-ltb, leb-true, length, length-append, lt-ltb, ltb-false, ltb-true, map, max}
pub use Rattle.std.proofs.Common.{nat_le, nat_lt, negsuc, not, option_and_then, option_map, pos, refl, reverse, slice_get, subst, suc, sym, true, unsigned_abs}
pub use Rattle.std.proofs.Common.{unwrap_or, zero, zero-add, ℕ, ℤ}
pub use Rattle.std.proofs.Math.Nat.{div-add-mod, mul-le-mul_left, mul-le-mul_right, pow-suc}
pub use Rattle.std.proofs.lemmas.Bool.{MatchBool-at_false, MatchBool-at_true, and_from, and_parts, and_right, both_ways, cases_Bool, cases_eq, cases_lt}
pub use Rattle.std.proofs.lemmas.Bool.{cond-false, cond-true, eqb-false, false_from_ne_true, lt-leb, not-false, not-true, not_from_false, not_from_true}
pub use Rattle.std.proofs.lemmas.{Bool.{or_cases, or_left, or_parts, or_right, true_from_ne_false}, Int.{by_lt_z, clamps, int_rem_euclid_is, ints}}
pub use Rattle.std.proofs.lemmas.List.Elements.{All-append, All-cons, All-head, All-nil, All-tail, filter-append, filter_map-append}
pub use Rattle.std.proofs.lemmas.List.Sums.{fold-append, sum_by-cons}
pub use Rattle.std.proofs.lemmas.Nat.{and_le_r, div-mul-add, mod-mul-add, ones_le_self, or_disjoint, or_shr, pow_below, pow_pos, zero_from_ones}
pub use Rattle.std.proofs.lemmas.Nat.Bits.{and_pow, bit_at-pow_other, bit_at-suc, bit_at-trailing_zeros, bit_at-zero, bit_at_lowest, bit_at_or}
pub use Rattle.std.specs.Int.{bit_at, int_div_euclid, int_max, int_min, trailing_zeros, w32}
pub use Rattle.std.specs.List.{AllByRecursion, after_last, cons_option, enumerate_from, filter_map, last_or, list_any, prefix_len, suffix_len, sum_by}
pub use Rattle.std.specs.Option.{option_map_or}
pub use Rattle.std.specs.Int.Count.{ones_step}
