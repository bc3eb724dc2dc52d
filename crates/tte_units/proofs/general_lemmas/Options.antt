-- Facts on options.
use Rattle.std.proofs.{Common.{◌≡◌, ◌⊎◌, Bool, None, Option, Some, cond, false, inl, inr, refl, subst, true, ℕ}, lemmas.Option.same_Some}
use Rattle.std.specs.{Option.{option_map, option_map_or}, Prelude.{IsSome, IsSomeAnd, is_some}}

-- what an option holds is one
pub one : {X : Type 0} (o : Option X) (x y : X) → o ≡ Some x → o ≡ Some y → x ≡ y
one o x y e f = cc

-- a value is known to have a property, and back
pub closed : {X : Type 0} (P : X → Type 0) (o : Option X) (x : X) → o ≡ Some x → P x → IsSomeAnd o P
closed P o x e h = rw e h

-- the value behind `IsSomeAnd`, and back
pub opened : {X : Type 0} (P : X → Type 0) (o : Option X) → IsSomeAnd o P → (x : X) × (o ≡ Some x) × P x
opened P None h = absurd h
opened P (Some x) h = (x, refl, h)

-- what is made of something there
pub mapped : {X Y : Type 0} (f : X → Y) (o : Option X) (y : Y) → option_map f o ≡ Some y → (x : X) × (o ≡ Some x) × (f x ≡ y)
mapped f None y e = absurd cc
mapped f (Some x) y e = (x, refl, same_Some _ _ e)

pub none_at : {X : Type 0} (o : Option X) → is_some o ≡ false → o ≡ None
none_at None e = refl
none_at (Some x) e = absurd cc

pub more_by : {X : Type 0} (b : Bool) (x : X) (o q r : Option X) → cond b (Some x) o ≡ None → (o ≡ None → q ≡ r) → cond b (Some x) q ≡ r
more_by true x o q r e more = absurd cc
more_by false x o q r e more = more e

pub same_by : {X : Type 0} (b : Bool) (x y : X) (o q : Option X) → cond b (Some x) o ≡ Some y → (o ≡ Some y → q ≡ Some y) → cond b (Some x) q ≡ Some y
same_by true x y o q e more = e
same_by false x y o q e more = more e

pub some_same : {X : Type 0} (x y : X) (o : Option X) → o ≡ Some x → o ≡ Some y → x ≡ y
some_same x y o a b = cc

pub same_next : (o : Option ℕ) (a b : ℕ) → o ≡ Some a → o ≡ Some b → a ≡ b
same_next o a b e f = cc

pub some_or_none : {X : Type 0} (o : Option X) → ((y : X) × (o ≡ Some y)) ⊎ (o ≡ None)
some_or_none None = inr refl
some_or_none (Some y) = inl (y, refl)

pub no_entry : {X : Type 0} (o : Option X) → IsSome o → o ≡ None → ⊥
no_entry None some e = absurd cc
no_entry (Some x) some e = cc

pub some_of : {X : Type 0} (o : Option X) → is_some o ≡ true → (x : X) × (o ≡ Some x)
some_of None e = absurd cc
some_of (Some x) e = (x, refl)

pub some_by : {X : Type 0} (o : Option X) → is_some o ≡ true → IsSome o
some_by None e = absurd cc
some_by (Some x) e = refl

-- what passes the test is there
pub passed : {X : Type 0} (test : X → Bool) (o : Option X) → option_map_or test o false ≡ true → (x : X) × (o ≡ Some x) × (test x ≡ true)
passed test None e = absurd cc
passed test (Some x) e = (x, refl, e)

pub at_known : {X : Type 0} (P : X → Type 0) (o : Option X) (x : X) → o ≡ Some x → IsSomeAnd o P → P x
at_known P o x e h = rw e at h

pub of_by : {X : Type 0} (P : X → Type 0) (b : Bool) (x y : X) (o : Option X) → cond b (Some x) o ≡ Some y → P x → (o ≡ Some y → P y) → P y
of_by P true x y o e px more = subst P (cc) px
of_by P false x y o e px more = more e
