-- Rows that leave a switch, one by one.
use Rattle.{std.specs.List.All, switch_ports.proofs.Words.{◌<◌, AreEach, Departure, List, get_or, length, subst, sym}}

-- what is true of each of them then
pub all_each : (P Q : Departure → Type 0) {f : Departure → Departure} {old new : List Departure} → AreEach f old new
    → ((d : Departure) → P d → Q (f d)) → All P old → All Q new
all_each P Q {old} h step all k d lt =
    let lt' : k < length old = subst (λ n. k < n) h.count lt in
    subst Q (sym (h.each k d lt')) (step (get_or old k d) (all k d lt'))
