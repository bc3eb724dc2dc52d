-- The rows of a virtual link lead from its sender by the links of the ways of the trees.
use Rattle.std.{specs.{List.AllZip, Prelude.slice_get}}
use Rattle.std.proofs.Common
use Common.{◌++◌, ◌+◌, ◌<◌, ◌==◌, ◌||◌, ◌∙◌, ◌∷◌, ◌≡◌, ◌≤◌, Bool, List, Option, Some, [], ap, append_assoc, arith, cond}
use Common.{false, get_or, inl, inr, is_some, length, not, refl, subst, suc, sym, take, true, zero, ℕ, ⊎_elim}
use Rattle.std.proofs.lemmas.{Bool.{false≢true, or_left, or_parts, or_right}}
use Rattle.std.proofs.lemmas.{List.{append-nil, length-append, take_more}}
use Rattle.lens_plan.proofs.Attempts.{after, after_more}
use Rattle.lens_plan.specs.{declared.places.{placing.Placed.Placed, ways.Hop.Hop}}
use Rattle.lens_plan.specs.{places.Ways.{down_hops, hop_by, is_on, up_hops}}
use Rattle.net_plan.{proofs.{SameIds.one_link, Trees.{followed, paths_are_unique}}}
use Rattle.net_plan.specs.{Paths.{IsPath, IsTree, IsUplink}}
use Rattle.net_plan.specs.{Places.{IsEndSystem, IsRoleOf, IsSwitchOf, device_at, is_end_system, link_at}}
use Rattle.net_plan.specs.{Ranges.{IsDeviceInRange, IsInRange}}
use Rattle.net_plan.specs.declared.{ids.{DeviceId.DeviceId, LinkId.LinkId, VlId.VlId}, network.Network.Network}
use Rattle.net_plan.specs.declared.tables.{Device.Device, Link.Link, Role.TheVariants.Relay, VirtualLink.VirtualLink}
use Rattle.net_plan.specs.declared.tables.{Way.{TheVariants.{Down, Up}, Way}}
use Rattle.precision_law.proofs.traffic_lemmas.faults.Channels.{one_channel}
use Rattle.schedule_tables.{proofs.{Margins.same_or_other, SlotLemmas.one_entry}}
use Rattle.schedule_tables.specs.{Entries.{IsEntry, IsOnChannel, source_by, source_of, target_by, target_of}}
use Rattle.schedule_tables.specs.{Rules.KeepsRules, Schedule.IsSwitch, Windows.window_end}
use Rattle.schedule_tables.specs.declared.{entry.Entry.Entry}
use Rattle.schedule_tables.specs.declared.{rule.Rule.TheVariants.{Forwarding, Joints, LinksOnce, Sources}}
use Rattle.tte_units.{specs.{Amount.amount, declared.frames.channel.Channel.Channel}}
use Rattle.tte_units.proofs.general_lemmas.{Lists.in_all, Naturals.{cases_of, eqb_same}}
use Rattle.tte_units.proofs.general_lemmas.{Options.{at_known, closed, opened, some_same}}

-- ---- the hops of one more link

if_append : (b : Bool) (h : Hop) (xs ys : List Hop) → cond b (xs ++ ys) (h ∷ (xs ++ ys)) ≡ cond b xs (h ∷ xs) ++ ys
if_append true h xs ys = refl
if_append false h xs ys = refl

pub up_append : (other path more : List LinkId) → up_hops other (path ++ more) ≡ up_hops other path ++ up_hops other more
up_append other [] more = refl
up_append other (link ∷ path) more =
    ap (λ (hs : List Hop). cond (is_on other link) hs (hop_by Up link ∷ hs)) (up_append other path more)
    ∙ if_append (is_on other link) (hop_by Up link) (up_hops other path) (up_hops other more)

-- one more link was added
pub ups_next : (old now new : List Hop) (other path : List LinkId) (n : ℕ) (d : LinkId) → n < length path → now ≡ old ++ up_hops other (take n path)
    → new ≡ now ++ up_hops other (get_or path n d ∷ []) → new ≡ old ++ up_hops other (take (n + 1) path)
ups_next old now new other path n d within before more =
    more ∙ ap (λ (hs : List Hop). hs ++ up_hops other (get_or path n d ∷ [])) before
    ∙ append_assoc old (up_hops other (take n path)) (up_hops other (get_or path n d ∷ []))
    ∙ ap (λ (hs : List Hop). old ++ hs) (sym (up_append other (take n path) (get_or path n d ∷ []))
    ∙ ap (up_hops other) (sym (take_more path n d within)))

-- ---- the links of the ways between the devices of a tree: is the link one of these?

pub on_first : (link : LinkId) (path : List LinkId) → is_on (link ∷ path) link ≡ true
on_first link path = or_left (link.0 == link.0) (is_on path link) (eqb_same link.0)

on_later : (first link : LinkId) (path : List LinkId) → is_on path link ≡ true → is_on (first ∷ path) link ≡ true
on_later first link path on = or_right (first.0 == link.0) (is_on path link) on

pub on_behind : (front : List LinkId) (link : LinkId) (path : List LinkId) → is_on path link ≡ true → is_on (front ++ path) link ≡ true
on_behind [] link path on = on
on_behind (f ∷ front) link path on = on_later f link (front ++ path) (on_behind front link path on)

-- a link that is on a path parts it
record IsParted (path : List LinkId) (link : LinkId) : Type 0 where
  pub front : List LinkId
  pub rest : List LinkId
  pub is : path ≡ front ++ link ∷ rest

parted_by : (b : Bool) (first link : LinkId) (path : List LinkId) → (first.0 == link.0) ≡ b → (is_on path link ≡ true → IsParted path link)
    → (b || is_on path link) ≡ true → IsParted (first ∷ path) link
parted_by true first link path at more on =
    record { front = []; rest = path; is = ap (λ (l : LinkId). l ∷ path) (sym (one_link first link at)) }
parted_by false first link path at more on =
    let it = more on in record { front = first ∷ it.front; rest = it.rest; is = ap (λ (ls : List LinkId). first ∷ ls) it.is }

parted : (path : List LinkId) (link : LinkId) → is_on path link ≡ true → IsParted path link
parted [] link on = absurd cc
parted (first ∷ path) link on = parted_by (first.0 == link.0) first link path refl (parted path link) on

-- ---- the hops of paths

-- each of these links is one of the others
abbrev pub AreOn : List LinkId → List LinkId → Type 0
AreOn other path = (link : LinkId) → is_on path link ≡ true → is_on other link ≡ true

pub none_up : (other path : List LinkId) → AreOn other path → up_hops other path ≡ []
none_up other [] on = refl
none_up other (link ∷ path) on =
    ap (λ (b : Bool). cond b (up_hops other path) (hop_by Up link ∷ up_hops other path)) (on link (on_first link path))
    ∙ none_up other path (λ l is. on l (on_later link l path is))

pub none_down : (other path : List LinkId) → AreOn other path → down_hops other path ≡ []
none_down other [] on = refl
none_down other (link ∷ path) on =
    ap (λ (b : Bool). cond b (down_hops other path) (down_hops other path ++ hop_by Down link ∷ [])) (on link (on_first link path))
    ∙ none_down other path (λ l is. on l (on_later link l path is))

-- a link that is not on the path makes no difference to its hops upwards
same_up : (first : LinkId) (other path : List LinkId) → is_on path first ≡ false → up_hops (first ∷ other) path ≡ up_hops other path
same_up first other [] off = refl
same_up first other (link ∷ path) off =
    let parts = or_parts (link.0 == first.0) (is_on path first) off in
    let test : (first.0 == link.0) ≡ false = grind (arith, parts.0) in
    ap (λ (b : Bool). cond (b || is_on other link) (up_hops (first ∷ other) path) (hop_by Up link ∷ up_hops (first ∷ other) path)) test
    ∙ ap (λ (hs : List Hop). cond (is_on other link) hs (hop_by Up link ∷ hs)) (same_up first other path parts.1)

-- ---- on a tree

module _ (network : Network) (channel : Channel) (tree : IsTree network) where
  -- the rest of a path behind a link is a path of its parent, and with the link one of its child
  pub rest_of : (device : DeviceId) (front : List LinkId) (link : LinkId) (rest : List LinkId) → IsPath network channel device (front ++ link ∷ rest)
      → (child : DeviceId) × IsPath network channel child (link ∷ rest)
  rest_of device [] link rest path = (device, path)
  rest_of device (f ∷ front) link rest path =
      let l = opened (λ (x : Link). (x.child ≡ device) × IsSwitchOf network channel x.parent × IsPath network channel x.parent (front ++ link ∷ rest))
      (link_at network f) path in
      rest_of l.0.parent front link rest l.2.2

  -- it is that of the link's child
  child_of : (device : DeviceId) (link : LinkId) (rest : List LinkId) (l : Link) → link_at network link ≡ Some l → IsPath network channel device (link ∷ rest)
      → l.child ≡ device
  child_of device link rest l at path =
      let o = opened (λ (x : Link). (x.child ≡ device) × IsSwitchOf network channel x.parent × IsPath network channel x.parent rest)
      (link_at network link) path in
      let same : o.0 ≡ l = (let both : Some o.0 ≡ Some l = sym o.1 ∙ at in cc) in
      ap (λ (x : Link). x.child) (sym same) ∙ o.2.0

  -- a path goes once by a link
  pub once : (device : DeviceId) (link : LinkId) (rest : List LinkId) (is : Bool) → IsPath network channel device (link ∷ rest) → is_on rest link ≡ is
      → is ≡ false
  once device link rest false path at = refl
  once device link rest true path at =
      let o = opened (λ (x : Link). (x.child ≡ device) × IsSwitchOf network channel x.parent × IsPath network channel x.parent rest)
      (link_at network link) path in
      let it = parted rest link at in
      let later = rest_of o.0.parent it.front link it.rest (subst (IsPath network channel o.0.parent) it.is o.2.2) in
      let child = child_of later.0 link it.rest o.0 o.1 later.1 in
      let one = paths_are_unique network channel device (link ∷ rest) (link ∷ it.rest) tree path
      (subst (λ d. IsPath network channel d (link ∷ it.rest)) (sym child ∙ o.2.0) later.1) in
      let long = ap length one in
      let parts = ap length it.is in
      let whole = length-append it.front (link ∷ it.rest) in
      absurd (omega (arith, long, parts, whole))

  -- the way to the parent of the sender's link
  pub first_way : (sender : DeviceId) (link : LinkId) (rest : List LinkId) → IsPath network channel sender (link ∷ rest)
      → up_hops rest (link ∷ rest) ++ down_hops (link ∷ rest) rest ≡ hop_by Up link ∷ []
  first_way sender link rest path =
      let off = once sender link rest (is_on rest link) path refl in
      let ups = none_up rest rest (λ l is. is) in
      let downs = none_down (link ∷ rest) rest (λ l is. on_later link l rest is) in
      let up : up_hops rest (link ∷ rest) ≡ hop_by Up link ∷ [] =
      ap (λ (b : Bool). cond b (up_hops rest rest) (hop_by Up link ∷ up_hops rest rest)) off ∙ ap (λ (hs : List Hop). hop_by Up link ∷ hs) ups in
      ap (λ (hs : List Hop). hs ++ down_hops (link ∷ rest) rest) up ∙ ap (λ (hs : List Hop). (hop_by Up link ∷ []) ++ hs) downs

  -- the parts of the sender's path at a link of it that leads from the device with this path
  pub record IsCut (from : List LinkId) (link : LinkId) (rest : List LinkId) : Type 0 where
    pub front : List LinkId
    pub is : from ≡ front ++ link ∷ rest
    pub off : is_on front link ≡ false

  -- the front of a path does not have the link behind it
  front_off : (device : DeviceId) (front : List LinkId) (link : LinkId) (rest : List LinkId) → IsPath network channel device (front ++ link ∷ rest)
      → is_on front link ≡ false
  front_off device [] link rest path = refl
  front_off device (f ∷ front) link rest path =
      let own = once device f (front ++ link ∷ rest) (is_on (front ++ link ∷ rest) f) path refl in
      let l = opened (λ (x : Link). (x.child ≡ device) × IsSwitchOf network channel x.parent × IsPath network channel x.parent (front ++ link ∷ rest))
      (link_at network f) path in
      let later = front_off l.0.parent front link rest l.2.2 in
      by (f.0 == link.0) refl own later
    where
      by : (b : Bool) → (f.0 == link.0) ≡ b → is_on (front ++ link ∷ rest) f ≡ false → is_on front link ≡ false → (b || is_on front link) ≡ false
      by false at own later = later
      by true at own later =
          let same : link ≡ f = one_link f link at in
          let on : is_on (front ++ link ∷ rest) link ≡ true = on_behind front link (link ∷ rest) (on_first link rest) in
          absurd (let a : is_on (front ++ link ∷ rest) f ≡ true = subst (λ x. is_on (front ++ link ∷ rest) x ≡ true) same on in cc)

  pub cut : (sender device : DeviceId) (from : List LinkId) (link : LinkId) (rest : List LinkId) → IsPath network channel sender from
      → IsPath network channel device (link ∷ rest) → is_on from link ≡ true → IsCut from link rest
  cut sender device from link rest path other on =
      let it = parted from link on in
      let whole = subst (IsPath network channel sender) it.is path in
      let later = rest_of sender it.front link it.rest whole in
      let o = opened (λ (x : Link). (x.child ≡ device) × IsSwitchOf network channel x.parent × IsPath network channel x.parent rest)
      (link_at network link) other in
      let child = child_of later.0 link it.rest o.0 o.1 later.1 in
      let one = paths_are_unique network channel device (link ∷ it.rest) (link ∷ rest) tree
      (subst (λ d. IsPath network channel d (link ∷ it.rest)) (sym child ∙ o.2.0) later.1) other in
      record {
        front = it.front;
        is = it.is ∙ ap (λ (ls : List LinkId). it.front ++ ls) one;
        off = front_off sender it.front link it.rest whole;
      }

  -- the hops at a cut: those of its front, and the link's own
  cut_ups : (from : List LinkId) (link : LinkId) (rest : List LinkId) → IsCut from link rest → is_on rest link ≡ false
      → up_hops rest from ≡ up_hops (link ∷ rest) from ++ hop_by Up link ∷ []
  cut_ups from link rest c off =
      let own : up_hops rest (link ∷ rest) ≡ hop_by Up link ∷ [] =
      ap (λ (b : Bool). cond b (up_hops rest rest) (hop_by Up link ∷ up_hops rest rest)) off
      ∙ ap (λ (hs : List Hop). hop_by Up link ∷ hs) (none_up rest rest (λ l is. is)) in
      let none = none_up (link ∷ rest) (link ∷ rest) (λ l is. is) in
      let one : up_hops rest from ≡ up_hops rest c.front ++ hop_by Up link ∷ [] =
      ap (up_hops rest) c.is ∙ up_append rest c.front (link ∷ rest) ∙ ap (λ (hs : List Hop). up_hops rest c.front ++ hs) own in
      let two : up_hops (link ∷ rest) from ≡ up_hops rest c.front =
      ap (up_hops (link ∷ rest)) c.is ∙ up_append (link ∷ rest) c.front (link ∷ rest)
      ∙ ap (λ (hs : List Hop). up_hops (link ∷ rest) c.front ++ hs) none ∙ append-nil (up_hops (link ∷ rest) c.front) ∙ same_up link rest c.front c.off in
      one ∙ ap (λ (hs : List Hop). hs ++ hop_by Up link ∷ []) (sym two)

  -- the links behind a cut are on the path
  cut_on : (from : List LinkId) (link : LinkId) (rest : List LinkId) → IsCut from link rest → AreOn from (link ∷ rest)
  cut_on from link rest c l is = ap (λ ls. is_on ls l) c.is ∙ on_behind c.front l (link ∷ rest) is

  -- the way to a device from that to the child of its link, which is on the sender's path
  pub way_up : (sender device : DeviceId) (from : List LinkId) (link : LinkId) (rest : List LinkId) → IsPath network channel sender from
      → IsPath network channel device (link ∷ rest) → is_on from link ≡ true
      → up_hops rest from ++ down_hops from rest ≡ (up_hops (link ∷ rest) from ++ down_hops from (link ∷ rest)) ++ hop_by Up link ∷ []
  way_up sender device from link rest path other on =
      let c = cut sender device from link rest path other on in
      let off = once device link rest (is_on rest link) other refl in
      let ons = cut_on from link rest c in
      let none = none_down from rest (λ l is. ons l (on_later link l rest is)) in
      let nil = none_down from (link ∷ rest) ons in
      ap (λ (hs : List Hop). up_hops rest from ++ hs) none ∙ append-nil (up_hops rest from) ∙ cut_ups from link rest c off
      ∙ ap (λ (hs : List Hop). hs ++ hop_by Up link ∷ []) (sym (append-nil (up_hops (link ∷ rest) from))
      ∙ ap (λ (hs : List Hop). up_hops (link ∷ rest) from ++ hs) (sym nil))

  -- and that from the parent of its link, which is not
  pub way_down : (from : List LinkId) (link : LinkId) (rest : List LinkId) → is_on from link ≡ false
      → up_hops (link ∷ rest) from ++ down_hops from (link ∷ rest) ≡ (up_hops rest from ++ down_hops from rest) ++ hop_by Down link ∷ []
  way_down from link rest off =
      ap (λ (hs : List Hop). hs ++ down_hops from (link ∷ rest)) (same_up link rest from off)
      ∙ ap (λ (b : Bool). up_hops rest from ++ cond b (down_hops from rest) (down_hops from rest ++ hop_by Down link ∷ [])) off
      ∙ sym (append_assoc (up_hops rest from) (down_hops from rest) (hop_by Down link ∷ []))

-- ---- the rows of a virtual link lead from its sender by the ways of the trees: rows one behind another

-- each of the rows comes behind the window of the one before it, and the first no earlier than this
abbrev pub Behind : ℕ → List Placed → Type 0
Behind from [] = Unit {0}
Behind from (p ∷ ps) = (from ≤ p.offset) × Behind (p.end + 1) ps

behind_more : (from : ℕ) (ps : List Placed) (p : Placed) → Behind from ps → after from ps ≤ p.offset → Behind from (ps ++ p ∷ [])
behind_more from [] p behind late = (late, tt)
behind_more from (q ∷ ps) p behind late = (behind.0, behind_more (q.end + 1) ps p behind.1 late)

zip_more : {A B : Type 0} (R : A → B → Type 0) (xs : List A) (ys : List B) (x : A) (y : B) → AllZip R xs ys → R x y → AllZip R (xs ++ x ∷ []) (ys ++ y ∷ [])
zip_more R [] [] x y zip one = (one, tt)
zip_more R [] (b ∷ ys) x y zip one = absurd zip
zip_more R (a ∷ xs) [] x y zip one = absurd zip
zip_more R (a ∷ xs) (b ∷ ys) x y zip one = (zip.0, zip_more R xs ys x y zip.1 one)

-- the last of the one has its fellow
zip_last : {A B : Type 0} (R : A → B → Type 0) (xs : List A) (ys : List B) (x : A) → AllZip R (xs ++ x ∷ []) ys → (y : B) × R x y
zip_last R [] [] x zip = absurd zip
zip_last R [] (b ∷ ys) x zip = (b, zip.0)
zip_last R (a ∷ xs) [] x zip = absurd zip
zip_last R (a ∷ xs) (b ∷ ys) x zip = zip_last R xs ys x zip.1

-- ---- devices

no_channel : (c : Channel) (o : Option Channel) (b : Bool) → is_some o ≡ not b → b ≡ true → o ≡ Some c → ⊥
no_channel c o b same end is = grind (arith, same, end, is)

-- an end system is a switch of no channel
pub no_switch : {network : Network} (c : Channel) (device : DeviceId) → IsInRange network
    → IsEndSystem network device → IsSwitchOf network c device → ⊥
no_switch {network} c device range end switch =
    let o = opened (λ (x : Device). is_end_system x.role ≡ true) (device_at network device) end in
    let there : o.0.channel ≡ Some c = at_known (λ (x : Device). x.channel ≡ Some c) (device_at network device) o.0 o.1 switch in
    let ranged = in_all IsDeviceInRange network.device device.0 o.0 range.devices o.1 in
    no_channel c o.0.channel (is_end_system o.0.role) ranged.switches o.2 there

pub no_end : (network : Network) (device : DeviceId) → IsSwitch network device → IsEndSystem network device → ⊥
no_end network device switch end =
    let o = opened (λ (x : Device). is_end_system x.role ≡ false) (device_at network device) switch in
    let there = at_known (λ (x : Device). is_end_system x.role ≡ true) (device_at network device) o.0 o.1 end in
    false≢true (sym o.2 ∙ there)

pub relay_is : (network : Network) (c : Channel) (device : DeviceId) → IsRoleOf network Relay c device → IsSwitchOf network c device
relay_is network c device relay =
    let o = opened (λ (x : Device). (x.role ≡ Relay) × (x.channel ≡ Some c)) (device_at network device) relay in
    closed (λ (x : Device). x.channel ≡ Some c) (device_at network device) o.0 o.1 o.2.1

-- ---- the rows of a virtual link

-- the row of the virtual link by this hop
pub record IsRowBy (network : Network) (vl : VlId) (hop : Hop) (p : Placed) : Type 0 where
  pub place : ℕ
  pub entry : Entry
  pub is : IsEntry network place entry
  pub own : entry.row.vl ≡ vl
  pub hop_is : p.hop ≡ hop
  pub link : entry.row.link ≡ hop.link
  pub way : entry.row.way ≡ hop.way
  pub offset : p.offset ≡ amount entry.row.offset
  pub end : p.end ≡ window_end network entry

-- its rows lead by these hops from the sender, and behind them another may begin
pub record Lead (network : Network) (vl : VlId) (start : ℕ) (hops : List Hop) (next : ℕ) : Type 0 where
  pub ps : List Placed
  pub rows : AllZip (IsRowBy network vl) hops ps
  pub behind : Behind start ps
  pub next_is : after start ps ≡ next

-- the virtual link goes by the trees of its network from an end system, and leaves it when the schedule has begun, no
-- earlier than this
pub record Goes (network : Network) (vl : VlId) (of_vl : VirtualLink) (start : ℕ) : Type 0 where
  pub tree : IsTree network
  pub range : IsInRange network
  pub keeps : KeepsRules network
  pub there : slice_get network.vl vl.0 ≡ Some of_vl
  pub sender : IsEndSystem network of_vl.sender
  pub begins : (place : ℕ) (entry : Entry) → IsEntry network place entry → entry.row.vl ≡ vl → source_of entry ≡ of_vl.sender
      → start ≤ amount entry.row.offset

module _ (network : Network) (vl : VlId) (of_vl : VirtualLink) (start : ℕ) (goes : Goes network vl of_vl start) where
  -- no two of its rows go by one link
  once_by : (place other : ℕ) (e f : Entry) → place < other → IsEntry network place e → IsEntry network other f → e.row.vl ≡ vl → f.row.vl ≡ vl
      → e.row.link ≡ f.row.link → ⊥
  once_by place other e f below is there own also link = goes.keeps LinksOnce other place e.row f.row below is.row there.row (also ∙ sym own) (sym link)

  one_way : (place other : ℕ) (e f : Entry) → IsEntry network place e → IsEntry network other f → e.row.vl ≡ vl → f.row.vl ≡ vl
      → e.row.link ≡ f.row.link → (e.row.way ≡ f.row.way → ⊥) → ⊥
  one_way place other e f is there own also link ways =
      elim (cases_of place other) [
        | inl less ↦ once_by place other e f less is there own also link
        | inr (inl same) ↦
            let one = one_entry network other e f (subst (λ k. IsEntry network k e) same is) there in
            ways (ap (λ (x : Entry). x.row.way) one)
        | inr (inr more) ↦ once_by other place f e more there is also own (sym link)
      ]

  vl_is : (place : ℕ) (e : Entry) → IsEntry network place e → e.row.vl ≡ vl → e.vl ≡ of_vl
  vl_is place e is own =
      some_same e.vl of_vl (slice_get network.vl vl.0) (subst (λ (v : VlId). slice_get network.vl v.0 ≡ Some e.vl) own is.vl) goes.there

  abbrev placed_of : Entry → Placed
  placed_of e = record { hop = hop_by e.row.way e.row.link; offset = amount e.row.offset; end = window_end network e }

  row_by : (place : ℕ) (e : Entry) → IsEntry network place e → e.row.vl ≡ vl → IsRowBy network vl (hop_by e.row.way e.row.link) (placed_of e)
  row_by place e is own = record {
    place = place;
    entry = e;
    is = is;
    own = own;
    hop_is = refl;
    link = refl;
    way = refl;
    offset = refl;
    end = refl;
  }

  lead_more : (hops whole : List Hop) (next place : ℕ) (e : Entry) (way : Way) → Lead network vl start hops next → IsEntry network place e → e.row.vl ≡ vl
      → e.row.way ≡ way → next ≤ amount e.row.offset → whole ≡ hops ++ hop_by way e.row.link ∷ []
      → Lead network vl start whole (window_end network e + 1)
  lead_more hops whole next place e way lead is own by late more =
      let p = placed_of e in
      let at : hops ++ hop_by e.row.way e.row.link ∷ [] ≡ whole = ap (λ w. hops ++ hop_by w e.row.link ∷ []) by ∙ sym more in
      let order = lead.next_is in
      record {
        ps = lead.ps ++ p ∷ [];
        rows = subst (λ (hs : List Hop). AllZip (IsRowBy network vl) hs (lead.ps ++ p ∷ [])) at
            (zip_more (IsRowBy network vl) hops lead.ps (hop_by e.row.way e.row.link) p lead.rows (row_by place e is own));
        behind = behind_more start lead.ps p lead.behind (omega (arith, late, order));
        next_is = after_more start lead.ps p;
      }

  -- the rows do not lead by the link of a row the other way
  not_back : (hops whole : List Hop) (next place : ℕ) (e : Entry) (way other : Way) → Lead network vl start whole next → IsEntry network place e
      → e.row.vl ≡ vl → e.row.way ≡ way → (way ≡ other → ⊥) → whole ≡ hops ++ hop_by other e.row.link ∷ [] → ⊥
  not_back hops whole next place e way other lead is own by not more =
      let last = zip_last (IsRowBy network vl) hops lead.ps (hop_by other e.row.link)
      (subst (λ (hs : List Hop). AllZip (IsRowBy network vl) hs lead.ps) more lead.rows) in
      let row = last.1 in
      one_way place row.place e row.entry is row.is own row.own (sym row.link) (λ same. not (sym by ∙ same ∙ row.way))

  up_not_down : Up ≡ Down → ⊥
  up_not_down e = absurd cc

  -- the ends of a row by its way
  from_child : (e : Entry) → e.row.way ≡ Up → source_of e ≡ e.link.child
  from_child e up = ap (λ w. source_by w e.link) up

  from_parent : (e : Entry) → e.row.way ≡ Down → source_of e ≡ e.link.parent
  from_parent e down = ap (λ w. source_by w e.link) down

  to_parent : (e : Entry) → e.row.way ≡ Up → target_of e ≡ e.link.parent
  to_parent e up = ap (λ w. target_by w e.link) up

  to_child : (e : Entry) → e.row.way ≡ Down → target_of e ≡ e.link.child
  to_child e down = ap (λ w. target_by w e.link) down

  module _ (channel : Channel) (from : List LinkId) (path : IsPath network channel of_vl.sender from) where
    -- the way from the sender to a device with this path
    abbrev way_to : List LinkId → List Hop
    way_to to = up_hops to from ++ down_hops from to

    -- a link with its switch is the uplink of its child
    uplink : (place : ℕ) (e : Entry) → IsEntry network place e → IsOnChannel network channel e → IsUplink network channel e.link.child e.row.link
    uplink place e is on =
        closed (λ (x : Link). (x.child ≡ e.link.child) × IsSwitchOf network channel x.parent) (link_at network e.row.link) e.link is.link (refl, on)

    -- the row leaves the sender
    leads_first : (place : ℕ) (e : Entry) (to : List LinkId) (way : Way) → IsEntry network place e → e.row.vl ≡ vl → IsOnChannel network channel e
        → IsPath network channel (target_of e) to → e.row.way ≡ way → source_of e ≡ of_vl.sender
        → Lead network vl start (way_to to) (window_end network e + 1)
    leads_first place e to Down is own on to_path by sender =
        absurd (no_switch channel of_vl.sender goes.range goes.sender
        (subst (IsSwitchOf network channel) (sym (from_parent e by) ∙ sender) on))
    leads_first place e to Up is own on to_path by sender =
        let child = sym (from_child e by) ∙ sender in
        let up = subst (λ d. IsUplink network channel d e.row.link) child (uplink place e is on) in
        let it = followed channel of_vl.sender e.row.link e.link from goes.tree up is.link path in
        let here = subst (λ d. IsPath network channel d to) (to_parent e by) to_path in
        let same = paths_are_unique network channel e.link.parent it.0 to goes.tree it.2 here in
        let whole : from ≡ e.row.link ∷ to = it.1 ∙ ap (λ (ls : List LinkId). e.row.link ∷ ls) same in
        let one = first_way network channel goes.tree of_vl.sender e.row.link to (subst (IsPath network channel of_vl.sender) whole path) in
        let hops : way_to to ≡ hop_by Up e.row.link ∷ [] = ap (λ fs. up_hops to fs ++ down_hops fs to) whole ∙ one in
        let none : Lead network vl start [] start = record { ps = []; rows = tt; behind = tt; next_is = refl } in
        lead_more [] (way_to to) start place e Up none is own by (goes.begins place e is own sender) hops

    -- it comes behind others
    leads_up : (place next : ℕ) (e : Entry) (to : List LinkId) (on_way : Bool) → IsEntry network place e → e.row.vl ≡ vl → IsOnChannel network channel e
        → IsPath network channel e.link.child (e.row.link ∷ to) → e.row.way ≡ Up → is_on from e.row.link ≡ on_way
        → Lead network vl start (way_to (e.row.link ∷ to)) next → next ≤ amount e.row.offset
        → Lead network vl start (way_to to) (window_end network e + 1)
    leads_up place next e to true is own on child by at before late =
        let more = way_up network channel goes.tree of_vl.sender e.link.child from e.row.link to path child at in
        lead_more (way_to (e.row.link ∷ to)) (way_to to) next place e Up before is own by late more
    leads_up place next e to false is own on child by at before late =
        absurd (not_back (way_to to) (way_to (e.row.link ∷ to)) next place e Up Down before is own by up_not_down
        (way_down network channel goes.tree from e.row.link to at))

    leads_down : (place next : ℕ) (e : Entry) (later : List LinkId) (on_way : Bool) → IsEntry network place e → e.row.vl ≡ vl → IsOnChannel network channel e
        → IsPath network channel e.link.child (e.row.link ∷ later) → e.row.way ≡ Down → is_on from e.row.link ≡ on_way
        → Lead network vl start (way_to later) next → next ≤ amount e.row.offset
        → Lead network vl start (way_to (e.row.link ∷ later)) (window_end network e + 1)
    leads_down place next e later false is own on child by at before late =
        lead_more (way_to later) (way_to (e.row.link ∷ later)) next place e Down before is own by late
        (way_down network channel goes.tree from e.row.link later at)
    leads_down place next e later true is own on child by at before late =
        absurd (not_back (way_to (e.row.link ∷ later)) (way_to later) next place e Down Up before is own by (λ same. up_not_down (sym same))
        (way_up network channel goes.tree of_vl.sender e.link.child from e.row.link later path child at))

    leads_behind : (place next : ℕ) (e : Entry) (to : List LinkId) (way : Way) → IsEntry network place e → e.row.vl ≡ vl → IsOnChannel network channel e
        → IsPath network channel (target_of e) to → e.row.way ≡ way
        → ((rest : List LinkId) → IsPath network channel (source_of e) rest → Lead network vl start (way_to rest) next) → next ≤ amount e.row.offset
        → Lead network vl start (way_to to) (window_end network e + 1)
    leads_behind place next e to Up is own on to_path by before late =
        let here = subst (λ d. IsPath network channel d to) (to_parent e by) to_path in
        let child = closed (λ (x : Link). (x.child ≡ e.link.child) × IsSwitchOf network channel x.parent × IsPath network channel x.parent to)
        (link_at network e.row.link) e.link is.link (refl, on, here) in
        leads_up place next e to (is_on from e.row.link) is own on child by refl
        (before (e.row.link ∷ to) (subst (λ d. IsPath network channel d (e.row.link ∷ to)) (sym (from_child e by)) child)) late
    leads_behind place next e to Down is own on to_path by before late =
        let here = subst (λ d. IsPath network channel d to) (to_child e by) to_path in
        let it = followed channel e.link.child e.row.link e.link to goes.tree (uplink place e is on) is.link here in
        let child = subst (IsPath network channel e.link.child) it.1 here in
        subst (λ ls. Lead network vl start (way_to ls) (window_end network e + 1)) (sym it.1)
        (leads_down place next e it.0 (is_on from e.row.link) is own on child by refl
        (before it.0 (subst (λ d. IsPath network channel d it.0) (sym (from_parent e by)) it.2)) late)

    -- a link with its child in a channel is one of it
    child_on : (place : ℕ) (e : Entry) → IsEntry network place e → IsSwitchOf network channel e.link.child → IsOnChannel network channel e
    child_on place e is switch =
        let joins = goes.keeps Joints e.row.link.0 e.link is.link in
        ⊎_elim
        (λ (end : IsEndSystem network e.link.child). absurd (no_switch channel e.link.child goes.range end switch))
        (λ (relay : IsRoleOf network Relay joins.0 e.link.child).
        let same = one_channel network joins.0 channel e.link.child (relay_is network joins.0 e.link.child relay) switch in
        subst (λ c. IsSwitchOf network c e.link.parent) same joins.1)
        joins.2

    -- a row that enters a switch of the channel is on it
    enters_on : (place : ℕ) (e : Entry) (way : Way) → IsEntry network place e → e.row.way ≡ way → IsSwitchOf network channel (target_of e)
        → IsOnChannel network channel e
    enters_on place e Up is by switch = subst (IsSwitchOf network channel) (to_parent e by) switch
    enters_on place e Down is by switch = child_on place e is (subst (IsSwitchOf network channel) (to_child e by) switch)

    -- the switch that a row of the channel leaves is of it
    leaves_on : (place : ℕ) (e : Entry) (way : Way) → IsEntry network place e → e.row.way ≡ way → IsSwitch network (source_of e)
        → IsOnChannel network channel e → IsSwitchOf network channel (source_of e)
    leaves_on place e Down is by switch on = subst (IsSwitchOf network channel) (sym (from_parent e by)) on
    leaves_on place e Up is by switch on =
        let joins = goes.keeps Joints e.row.link.0 e.link is.link in
        let child : IsSwitch network e.link.child = subst (IsSwitch network) (from_child e by) switch in
        ⊎_elim
        (λ (end : IsEndSystem network e.link.child). absurd (no_end network e.link.child child end))
        (λ (relay : IsRoleOf network Relay joins.0 e.link.child).
        let same = one_channel network joins.0 channel e.link.parent joins.1 on in
        subst (IsSwitchOf network channel) (sym (from_child e by))
        (subst (λ c. IsSwitchOf network c e.link.child) same (relay_is network joins.0 e.link.child relay)))
        joins.2

    -- the virtual link's rows lead to each device that they enter by the way of the tree
    pub leads : (bound place : ℕ) (e : Entry) (to : List LinkId) → IsEntry network place e → e.row.vl ≡ vl → IsOnChannel network channel e
        → IsPath network channel (target_of e) to → amount e.row.offset < bound → Lead network vl start (way_to to) (window_end network e + 1)
    leads zero place e to is own on to_path below = absurd (omega (arith, below))
    leads (suc bound) place e to is own on to_path below =
        elim (same_or_other (source_of e) e.vl.sender) [
          | inl sender ↦
              leads_first place e to e.row.way is own on to_path refl (sender ∙ ap (λ (v : VirtualLink). v.sender) (vl_is place e is own))
          | inr not ↦ elim (goes.keeps Sources place e is) [
            | inl sender ↦ absurd (not sender)
            | inr other ↦
                let k = other.1.0 in
                let enters = other.1.2 in
                let f = enters.entry in
                let behind = (goes.keeps Forwarding place).from_switch k f e enters.is is (sym enters.same_vl) not enters.target in
                let source = leaves_on place e e.row.way is refl other.0 on in
                let there = enters_on k f f.row.way enters.is refl (subst (IsSwitchOf network channel) (sym enters.target) source) in
                leads_behind place (window_end network f + 1) e to e.row.way is own on to_path refl
                (λ rest rest_path. leads bound k f rest enters.is (enters.same_vl ∙ own) there
                (subst (λ d. IsPath network channel d rest) (sym enters.target) rest_path) (omega (arith, behind, below)))
                (omega (arith, behind))
          ]
        ]
