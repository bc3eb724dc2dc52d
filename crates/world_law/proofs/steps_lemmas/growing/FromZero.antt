-- No point that a compression master has collected lies before reading 0.
use Rattle.std.{proofs.lemmas.List.Elements.All-from_recursion, specs.Prelude.All}
use Rattle.run_law.proofs.{control.Arrived.arrived_young, records.Order.in_drop}
use Rattle.world_law.proofs.steps_lemmas.Words.{◌++◌, ◌==◌, ◌∷◌, ◌≡◌, ◌≤ℤ◌, ◌≤◌, AllByRecursion, DeviceId, Happening, IfSome, IsCaused}
use Rattle.world_law.proofs.steps_lemmas.Words.{IsIn, IsInRange, IsKept, IsLawful, IsPermanent, LinkId, List, Network, Node, None, NoteBody, Option, Pcf}
use Rattle.world_law.proofs.steps_lemmas.Words.{Scenario, Some, Units, [], after_last, amount, arith, cons_option, cycle_in, ends_stretch, false, filter_map}
use Rattle.world_law.proofs.steps_lemmas.Words.{if◌then◌else◌, inl, inr, ints, master_of, members_in, numbered_in, point_at}
use Rattle.world_law.{proofs.steps_lemmas.Words.{point_by, point_of, points_of, pos, refl, subst, sym, time_of, true, ℕ}, specs.device.Growing.IsFromZero}
use Rattle.world_law.proofs.runs.FoundedAs.{AreFoundedAs, founded_as}
use Rattle.run_law.specs.declared.note.NoteBody.TheVariants as notes

-- ---- no point lies before reading 0

point_natural : (reading clock : ℕ) (dmax point : Units) → point.0 ≡ point_of (pos reading) clock dmax.0 → clock ≤ amount dmax → pos 0 ≤ℤ dmax.0
    → pos 0 ≤ℤ point.0
point_natural reading clock dmax point at le some = omega (arith, ints)

-- nor was any frame permanent at a point before it
pub permanent_natural : {s : Scenario} {hs : List Happening} {device : DeviceId} {t : ℕ} {link : LinkId} {cause : ℕ}
    {frame : Pcf} {point : Units} → IsInRange s.network → AreFoundedAs s hs
    → IsPermanent s hs device t link cause frame point → pos 0 ≤ℤ point.0
permanent_natural {s} {hs} {device} {link} {cause} {point} range founded p =
    let at = founded_as s hs p.arrival founded (numbered_in hs cause p.arrival p.there) in
    let caused : IsCaused s at.front p.arrival.note.time (notes.Arrived device link p.from p.clock) = subst (IsCaused s at.front p.arrival.note.time) p.arrived
    at.due.cause in
    point_natural (s.reading device (time_of p.arrival)) p.clock s.network.dmax point p.at_point
    (arrived_young caused) (omega (arith, ints))

by_record : (s : Scenario) (hs : List Happening) (device : DeviceId) (h : Happening) → IsInRange s.network → AreFoundedAs s hs → IsIn h hs
    → (body : NoteBody) → h.note.body ≡ body → IfSome (point_by device h body) (λ p. pos 0 ≤ℤ p.reading)
by_record s hs device h range founded i (notes.Permanent other link cause point verdict) is =
    let at = founded_as s hs h founded i in
    let caused : IsCaused s at.front h.note.time (notes.Permanent other link cause point verdict) = subst (IsCaused s at.front h.note.time) is at.due.cause in
    elim (device.0 == other.0) as (λ b. IfSome (if b then Some
    (point_at point.0 (master_of (members_in h)) (cycle_in h)) else None)
    (λ p. pos 0 ≤ℤ p.reading)) [ true ↦ (permanent_natural range at.founded caused.permanent) | false ↦ tt ]
by_record s hs device h range founded i other is = tt

consed : {Y : Type 0} (P : Y → Type 0) (o : Option Y) (ys : List Y) → IfSome o P → AllByRecursion P ys → AllByRecursion P (cons_option o ys)
consed P None ys x all = all
consed P (Some y) ys x all = (x, all)

mapped : {X Y : Type 0} (f : X → Option Y) (P : Y → Type 0) (xs : List X) → ((x : X) → IsIn x xs → IfSome (f x) P) → AllByRecursion P (filter_map f xs)
mapped f P [] each = tt
mapped f P (x ∷ xs) each = consed P (f x) (filter_map f xs) (each x (inl refl)) (mapped f P xs (λ y i. each y (inr i)))

-- the points of a device, by records that are founded
pub points_from_zero : (s : Scenario) (hs : List Happening) (device : DeviceId) → IsInRange s.network → AreFoundedAs s hs
    → All (λ p. pos 0 ≤ℤ p.reading) (points_of hs device)
points_from_zero s hs device range founded =
    All-from_recursion (λ p. pos 0 ≤ℤ p.reading) (points_of hs device)
    (mapped (λ h. point_by device h h.note.body) (λ p. pos 0 ≤ℤ p.reading)
    (after_last (λ h. ends_stretch device h.note.body) hs)
    (λ h i. by_record s hs device h range founded (in_drop _ hs h i) h.note.body refl))

-- and those of a node that a world keeps
pub kept_from_zero : {M : Type 0} (stands : M → Network → DeviceId → Node → Type 0) (s : Scenario)
    (hs coming : List Happening) (frontier : List ℕ) (now : ℕ)
    (device : DeviceId) (machine : M) (k : IsKept stands s hs coming frontier now device machine)
    → IsLawful s (hs ++ coming) device
    → IsFromZero s.network device k.node
kept_from_zero stands s hs coming frontier now device machine k law = λ cm.
    subst (All (λ p. pos 0 ≤ℤ p.reading)) (sym (k.left.points cm))
    (points_from_zero s (hs ++ coming) device law.range law.founded)
