-- Devices, links and virtual links are the same where their numbers are.
use Rattle.std.proofs.{Common.{◌==◌, ◌≡◌, Option, Some, ap, false, refl, sym, true, ℕ}, lemmas.Bool.{eq-eqb, eqb-true, ne_eqb}}
use Rattle.net_plan.specs.declared.ids.{DeviceId.DeviceId, LinkId.LinkId, VlId.VlId}

-- devices of one number are one
pub same_device : (a b : DeviceId) → a.0 ≡ b.0 → a ≡ b
same_device a b same = rw same

pub same_link : (a b : LinkId) → a.0 ≡ b.0 → a ≡ b
same_link a b e = rw e

pub self : (device : DeviceId) → (device.0 == device.0) ≡ true
self device = eq-eqb device.0 device.0 refl

pub alike : (device other : DeviceId) → (device.0 == other.0) ≡ true → device ≡ other
alike device other e = let mk : ℕ → DeviceId = λ n. record { 0 = n } in ap mk (eqb-true device.0 other.0 e)

-- the id of a device
pub one_device : (device other : DeviceId) → (device.0 == other.0) ≡ true → other ≡ device
one_device device other e = rw (sym (eqb-true device.0 other.0 e))

pub same_vl : (a b : VlId) → a.0 ≡ b.0 → a ≡ b
same_vl a b same = rw same

pub link_is : (link : LinkId) (n : ℕ) → link.0 ≡ n → link ≡ record { 0 = n }
link_is link n e = rw e

pub other_device : (d other : DeviceId) → (Some other ≡ Some d → ⊥) → (d.0 == other.0) ≡ false
other_device d other not =
    let mk : ℕ → Option DeviceId = λ n. Some (record { 0 = n }) in
    ne_eqb d.0 other.0 (λ e. not (sym (ap mk e)))

-- the id of a link
pub one_link : (a b : LinkId) → (a.0 == b.0) ≡ true → b ≡ a
one_link a b e = rw (sym (eqb-true a.0 b.0 e))
