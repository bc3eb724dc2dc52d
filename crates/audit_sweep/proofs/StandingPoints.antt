-- Where a device stands, part by part.
use Rattle.{audit_sweep.proofs.Words.{◌∙◌, ◌≡◌, Bool, Standpoint, ap, ℕ}, std.proofs.Common.ℤ, sync_state.specs.declared.state.State.State}

unfoldable pub stood : Bool → State → ℕ → ℤ → Standpoint
stood takes state reading adjustment = record { takes_part = takes; state = state; reading = reading; adjustment = adjustment }

pub same_standpoint : (takes part : Bool) (state other : State) (reading read : ℕ) (adjustment adjusted : ℤ) → takes ≡ part → state ≡ other → reading ≡ read
    → adjustment ≡ adjusted → stood takes state reading adjustment ≡ stood part other read adjusted
same_standpoint takes part state other reading read adjustment adjusted a b c d =
    ap (λ x. stood x state reading adjustment) a ∙ ap (λ x. stood part x reading adjustment) b
    ∙ ap (λ x. stood part other x adjustment) c ∙ ap (λ x. stood part other read x) d
