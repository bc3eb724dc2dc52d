-- Facts that the crates above share.
use Rattle.{std.{proofs.Common.subst, specs.Prelude.◌≢◌}, tte_forms.specs.declared.status.Status.{Status, TheVariants.Usage}}

-- a status of such a call is not that of usage
pub no_usage : (Is : Status → Type 0) (status : Status) → (Is Usage → ⊥) → Is status → status ≢ Usage
no_usage Is status none is e = none (subst Is e is)
