-- End systems and switches are synchronised two blocks behind the time from which nothing hinders them.
use Rattle.net_plan.proofs.SameIds.{same_device}
use Rattle.precision_law.proofs.{faults.Turned.on_not_turned_on, hearing.{GoodFrames.IsAtPoint, Timely.of_channel_is}}
use Rattle.precision_law.proofs.{law.{OnTime.begins_late, Precision.{behind_of, later_block, later_end, no_clique}}}
use Rattle.precision_law.proofs.{records.{RunViews.IsViewWith, Views.room_of}, verdict.CorrectionPoints.corrects_on}
use Rattle.precision_law.proofs.block.{Dispatched.NoCliqueBefore, Instants.{has_lost, old_point}}
use Rattle.precision_law.proofs.block.{Onward.{hull_ordered, last_of}}
use Rattle.precision_law.proofs.emission.{SoundMaster.calm_master_sends}
use Rattle.precision_law.proofs.emission.{WholeMaster.{IsFrameSent, leasts_grow, whole_master_sends}}
use Rattle.precision_law.proofs.progress_lemmas.CommonTime
use CommonTime.{IsOn, IsSynchronised, IsTimed, KeepsFrom, has_time_by, has_time_itself, has_time_on, stays_on}
use CommonTime.{stays_synchronised, synchronised_by}
use Rattle.precision_law.proofs.words.{Clocks.{corrections_come_first, room, switches_are_good, within_run}}
use Rattle.precision_law.proofs.words.{Runs.{Scenario, happenings, same_some, state_after, time_of, up_to}}
use Rattle.precision_law.proofs.words.Blocks
use Blocks.{FramesGoSo, before_narrow, block_ends, follows_before, up_to_is, view_of, view_with}
use Rattle.precision_law.proofs.words.Laws
use Laws.{BlockIsOver, BlocksCover, BlocksGoSo, FirmDevicesCorrect, Follows, HasTimeAt, HaveRoom, Hull, IsGood}
use Laws.{IsGoodEnd, IsInBlock, IsInHull, IsNarrow, IsView, IsWholeFrom, OneChannelIsSound, PointsHaveCome, Sizes}
use Laws.{SoundMasterSends, Stands, StandsOn, View, first_correction, hull_of, last_correction, start_hull, state_left}
use Rattle.precision_law.proofs.words.Plans
use Plans.{Channel, DeviceId, IsBeta, IsDeviceOf, IsSwitchOf, amount, beta_at, beta_exists, device_at, margins, opened}
use Plans.{rules_give_trees, shape_rules}
use Rattle.precision_law.proofs.words.Std
use Std.{◌*◌, ◌+ℤ◌, ◌+◌, ◌<ℤ◌, ◌<◌, ◌∙◌, ◌≡◌, ◌≤ℤ◌, ◌≤◌, List, Some, ap, arith, by_lt_z, cases_eq, inl, inr, ints, pos}
use Std.{refl, subst, suc, sym, zero, ℕ, ℤ}
use Rattle.precision_law.specs.{Mending.{IsMended, MendedChannelsComeIn, MendedRelaysComeIn}, Precision.IsRunUpTo}
use Rattle.precision_law.specs.{Progress.{EndSystemsComeIn, EndSystemsComeInSoon, coming_time}}
use Rattle.run_law.specs.{declared.note.Note.Note, law.Safety.IsInStep}

-- ---- an end system that is on is synchronised when the second block is over whose cycle's dispatches begin behind that

-- what is known of blocks
pub record AreBlocksKnown : Type 0 where
  pub goes : BlocksGoSo
  pub come : PointsHaveCome
  pub correct : FirmDevicesCorrect
  pub cover : BlocksCover
  pub sends : SoundMasterSends
  pub on : StandsOn

-- how long a device takes to come in
abbrev pub coming : Sizes → ℕ
coming s = 2 * s.cycle + s.correction + s.spread + 3 * s.reach

-- a hull lies before the end of its block
pub hull_before : {v : View} (n : ℕ) (stands : Stands v n) → IsView v → stands.hull.greatest ≤ℤ pos stands.next
hull_before {v} zero stands is =
    let same = same_some (hull_of v zero)
    (start_hull v.sizes) stands.hull refl stands.is_hull in
    omega (arith, ints, ap (λ w. w.greatest) same)
hull_before (suc n) stands is = omega (arith, ints, begins_late n stands is)

-- a time in a block lies before the dispatches of the cycle after the block's
pub later_hull : {s : Sizes} (t next : ℕ) {before hull later : Hull} → HaveRoom s → IsNarrow s before
    → Follows s before hull → Follows s hull later → pos next ≡ (last_correction s before +ℤ pos 1) → t < next
    → pos (t + 1) ≤ℤ (later.least +ℤ pos 1)
later_hull {s} t next {before} {hull} space narrow follows more ends to =
    omega (arith, ints, corrections_come_first s before hull space narrow follows, more.least)

pub less_at_most : (a b : ℤ) → a <ℤ b → a ≤ℤ b
less_at_most a b lt = omega (arith, ints)

-- where a cycle's dispatches begin before the time, the block of the next cycle is over in time
pub later_soon : {s : Sizes} (t until : ℕ) {hull later : Hull} → IsNarrow s hull → Follows s hull later
    → hull.least ≤ℤ pos t → t + coming s ≤ until → last_correction s later ≤ℤ pos until
later_soon t until narrow follows early long = omega (arith, ints, follows.most)

-- behind a block that is over the next one is, where its last correction lies in the run
abbrev pub next_over : (known : AreBlocksKnown) (v : View) (is : IsView v) (n : ℕ) (over : BlockIsOver v n)
    → last_correction v.sizes (known.on v n is over).hull ≤ℤ pos v.until → BlockIsOver v (suc n)
next_over known v is n over short =
    let stands = known.on v n is over in
    let next = behind_of (last_correction v.sizes stands.hull) stands.next (later_end (suc n) stands is) in
    record {
      before = stands;
      next = next.0;
      is_over = (stands.hull, stands.is_hull, next.1.behind);
      in_run = omega (arith, ints, next.1.behind);
    }

module _ (known : AreBlocksKnown) (v : View) (device : DeviceId) (is : IsView v) (end : IsGoodEnd v device) where
  never : KeepsFrom v device 0
  never h state cause why i late body clique =
      no_clique known.cover known.goes known.correct h device state cause why is i body clique
      (λ good. (end.good, inl end))

  -- what is on when the dispatches of a block's cycle begin is synchronised when the next block is over
  in_two_blocks : (n x : ℕ) (over : BlockIsOver v n) (next : BlockIsOver v (suc n)) → IsOn (state_left v device x)
      → pos x ≤ℤ (next.before.hull.least +ℤ pos 1) → IsSynchronised (state_left v device (v.until + 1))
  in_two_blocks n x over next on early =
      let hull = over.before.hull in
      let timed = has_time_by v device is 0 never known.sends known.goes n over x (omega arith) end on (λ w at.
      rw (same_some (hull_of v (suc n)) next.before.hull w
      next.before.is_hull at) at early) in
      let one = block_ends v n over.next hull over.before.is_hull over.is_over in
      let other = block_ends v n next.before.next hull over.before.is_hull next.before.is_over in
      let same : over.next ≡ next.before.next = omega (arith, ints) in
      let has : HasTimeAt v device next.before.next =
      record { good = end.good; timed = rw same at timed } in
      stays_synchronised v device is 0 never next.next (v.until + 1) (omega arith) next.in_run
      (synchronised_by v device is 0 never known.come (suc n) next (omega arith) has)

  -- an end system that is on has come in so long behind it
  arrives : (t : ℕ) → IsOn (state_left v device (t + 1)) → t + coming v.sizes ≤ v.until
      → IsSynchronised (state_left v device (v.until + 1))
  arrives t on long =
      let found = known.cover v t is (omega arith) in
      let n = found.0 in
      let block = found.1 in
      let before = block.before in
      let space = room is in
      let ends = block_ends v n block.next before.hull before.is_hull block.is_over in
      let begun = hull_before n before is in
      let over : BlockIsOver v n = record {
        before = before;
        next = block.next;
        is_over = block.is_over;
        in_run = omega (arith, ints, block.from);
      } in
      let stands = known.on v n is over in
      let follows = follows_before n before.hull stands.hull is before.is_hull stands.is_hull in
      let short : last_correction v.sizes stands.hull ≤ℤ pos v.until =
      omega (arith, ints, follows.most, block.from) in
      let next = next_over known v is n over short in
      by_lt_z stands.hull.least (pos t)
      (λ late.
      let later = known.on v (suc n) is next in
      let follows_next = follows_before (suc n) stands.hull later.hull is stands.is_hull later.is_hull in
      let early = later_hull t block.next space
      (before_narrow before) follows follows_next ends block.to in
      let low = later_soon t v.until
      (before_narrow stands) follows_next (less_at_most stands.hull.least (pos t) late) long in
      in_two_blocks (suc n) (t + 1) next (next_over known v is (suc n) next low) on early)
      (λ soon. in_two_blocks n (t + 1) over next on (omega (arith, ints)))

pub end_systems_come_in_soon : OneChannelIsSound → AreBlocksKnown → EndSystemsComeInSoon
end_systems_come_in_soon sound known s mark ns until beta up is_beta device t u end on long le good =
    let hs = happenings s.network ns in
    let channel = sound s u up.lawful in
    let at = view_with u channel.0 beta up is_beta le channel.1 in
    let v = view_of s u channel.0 beta at.cut.front in
    let left : (x : ℕ) → x ≤ u → state_after s (up_to x hs) device ≡ state_left v device (x + 1) = λ x to.
    rw (up_to_is x hs ∙ sym (at.cut.early (x + 1) (omega arith))) in
    let on_then = subst IsOn (left t (omega arith)) on in
    record {
      correct = good;
      synchronised = left u (omega arith)
          ∙ arrives known v device at.is (record { end = end; good = good }) t on_then long;
    }

-- the time that it takes is within three cycles
pub end_systems_come_in : EndSystemsComeInSoon → EndSystemsComeIn
end_systems_come_in come s mark ns until up device t u end on long le good =
    let n = s.network in
    let beta = (beta_exists n (rules_give_trees n (shape_rules n up.lawful.rules))).1 in
    let path = beta_at n beta.jitter beta.links in
    let is_beta : IsBeta n (pos path) = subst (IsBeta n) beta.value beta in
    let space = room_of up.lawful.rules (margins rules_give_trees n path up.lawful.range up.lawful.rules is_beta)
    in
    let short : coming_time n path ≤ 3 * amount n.cycle = omega (arith, space.cycles, space.eight_errors) in
    come s mark ns until path up is_beta device t u end on (omega arith) le good

-- ---- where no device is broken, a switch of a channel that is whole is synchronised when the second block is over whose
-- cycle's dispatches begin behind that.

-- ---- numbers

-- two ends of one block are one
one_end : (z : ℤ) (a b t x : ℕ) → pos a ≡ (z +ℤ pos 1) → pos b ≡ (z +ℤ pos 1) → t < b → x ≤ t + 1 → x ≤ a
one_end z a b t x one other lt le = omega (arith, ints)

-- the dispatches of the cycle after the block's come behind the block
behind_block : {s : Sizes} {before hull later : Hull} (next : ℕ) → HaveRoom s → IsNarrow s before
    → Follows s before hull → Follows s hull later → pos next ≡ (last_correction s before +ℤ pos 1)
    → pos next ≤ℤ later.least
behind_block {s} {before} {hull} next space narrow follows more ends =
    omega (arith, ints, corrections_come_first s before hull space narrow follows, more.least)

le_self : (n : ℕ) → n ≤ n
le_self n = omega arith

through : (x y : ℕ) (z : ℤ) → x ≤ y → pos y ≤ℤ z → pos x ≤ℤ z
through x y z le at = omega (arith, ints)

one_above : (a z : ℤ) → a ≤ℤ z → a ≤ℤ (z +ℤ pos 1)
one_above a z le = omega (arith, ints)

next_above : (t x : ℕ) (z : ℤ) → pos t <ℤ z → x ≤ t + 1 → pos x ≤ℤ z
next_above t x z lt le = omega (arith, ints)

-- ---- channels

-- what is whole from a time on is so from each later one on
later_whole : {v : View} {channel : Channel} {x : ℕ} (u : ℕ) → x ≤ u → IsWholeFrom v channel x
    → IsWholeFrom v channel u
later_whole u le whole = record {
  ways = λ link way t of_channel from in_run. whole.ways link way t of_channel (omega arith) in_run;
  on = λ switch t of_channel from. whole.on switch t of_channel (omega arith);
}

-- in each block whose cycle's dispatches begin when the channel is whole its compression master sends
abbrev pub SendsWhole : View → Channel → Type 0
SendsWhole v channel =
    (m t : ℕ) (block : IsInBlock v m t) → ((u : ℕ) → IsInHull v (suc m) u → IsWholeFrom v channel u)
    → (first_correction v.sizes block.before.hull +ℤ pos v.sizes.reach) ≤ℤ pos t → IsFrameSent v channel m

module _ (laws : FramesGoSo) (known : AreBlocksKnown) (v : View) (channel : Channel) (device : DeviceId) (is : IsView v)
    (good : IsGood v device) (member : IsDeviceOf v.scenario.network channel device) (sending : SendsWhole v channel)
    (x : ℕ) (whole : IsWholeFrom v channel x) where
  -- so it does in each block behind one whose cycle's dispatches begin from x on
  sends_in : (k m t : ℕ) (block : IsInBlock v m t) (first : Hull) → k ≤ m → hull_of v (suc k) ≡ Some first
      → pos x ≤ℤ first.least
      → (first_correction v.sizes block.before.hull +ℤ pos v.sizes.reach) ≤ℤ pos t → IsFrameSent v channel m
  sends_in k m t block first le is_first early late =
      sending m t block (λ u inside.
      (let grows = leasts_grow (suc k) (suc m) first inside.hull is (omega arith) is_first inside.is in
      later_whole u (omega (arith, ints, inside.least)) whole)) late

  -- so from then on no correction point takes the common time from its devices
  keeps_from : (k : ℕ) (stands : Stands v k) (first : Hull) → hull_of v (suc k) ≡ Some first → pos x ≤ℤ first.least
      → KeepsFrom v device stands.next
  keeps_from k stands first is_first early h state cause why i from body clique =
      let w = time_of h in
      let lost = has_lost device h state cause why is good i body clique in
      let found = later_block known.on w stands is (within_run is h i) from in
      let m = found.0 in
      let block = found.1 in
      let point = old_point (known.goes v m w block is) lost.point in
      let late = point.1.not_early in
      let sent = sends_in k m w block first found.2 is_first early late in
      let sound = known.sends v m w block is late in
      let sound_so = rw (same_some (hull_of v (suc m)) sound.0 sent.0 sound.1 sent.1) at sound.2 in
      let at : IsAtPoint v m w block device = record { has = lost.point.has; old = point.0; late = late } in
      let comes = lost.point.comes in
      let so = sent.2 in
      let inside : pos x ≤ℤ pos (time_of so.first) =
      (let grows = leasts_grow (suc k) (suc m) first sent.0 is (omega (arith, found.2)) is_first sent.1 in
      omega (arith, ints, so.near.least, room is)) in
      let corrected = corrects_on laws known.goes v m w block is device at sent.0 sent.1 sound_so channel member so
      (later_whole (time_of so.first) (omega (arith, ints)) whole) comes.front comes.split
      comes.point.summary comes.point.heard
      lost.verdict comes.point.comes in
      lost.not_corrected corrected.0 corrected.1

  -- what is on when the dispatches of a block's cycle begin has the time when the block is over
  timed_when_over : (k y : ℕ) (over : BlockIsOver v k) (first : Hull) → hull_of v (suc k) ≡ Some first
      → pos x ≤ℤ first.least
      → over.before.next ≤ y → pos y ≤ℤ (first.least +ℤ pos 1) → IsOn (state_left v device y)
      → IsTimed (state_left v device over.next)
  timed_when_over k y over first is_first early from soon on =
      let last = last_of over is in
      let block : IsInBlock v k last.last = record {
        before = over.before;
        next = over.next;
        is_over = over.is_over;
        from = last.from;
        to = omega (arith, last.is_last);
        in_run = omega (arith, last.is_last, over.in_run);
      } in
      let ordered = hull_ordered k over.before is in
      let sent = sends_in k k last.last block first (omega arith) is_first early
      (omega (arith, ints, last.at)) in
      let so = rw (same_some (hull_of v (suc k)) sent.0 first sent.1 is_first) at sent.2 in
      let never = keeps_from k over.before first is_first early in
      let inside : x ≤ time_of so.first = omega (arith, ints, so.near.least, room is) in
      elim (cases_eq device.0 so.cm.0) [
        | inl same ↦
            has_time_itself v device is over.before.next never channel k over y first from is_first so
            (same_device so.cm device (sym same)) on soon
        | inr differs ↦
            has_time_on v device is over.before.next never known.goes channel k over y first from good member
            is_first so (λ d. differs (ap (λ e. e.0) d))
            (later_whole (time_of so.first) inside whole) on soon
      ]

  -- and is synchronised when the next one is
  in_two : (k y : ℕ) (over : BlockIsOver v k) (next : BlockIsOver v (suc k)) → pos x ≤ℤ next.before.hull.least
      → over.before.next ≤ y
      → pos y ≤ℤ (next.before.hull.least +ℤ pos 1) → IsOn (state_left v device y)
      → IsSynchronised (state_left v device (v.until + 1))
  in_two k y over next early from soon on =
      let first = next.before.hull in
      let hull = over.before.hull in
      let timed = timed_when_over k y over first next.before.is_hull early from soon on in
      let one = block_ends v k over.next hull over.before.is_hull over.is_over in
      let other = block_ends v k next.before.next hull over.before.is_hull next.before.is_over in
      let later = later_end k over.before is in
      let same : over.next ≡ next.before.next = omega (arith, ints) in
      let z = over.before.next in
      let never = keeps_from k over.before first next.before.is_hull early in
      let behind : z ≤ next.before.next = omega (arith, ints) in
      let has : HasTimeAt v device next.before.next =
      record { good = good; timed = rw same at timed } in
      let ends = block_ends v (suc k) next.next first next.before.is_hull next.is_over in
      let over_later = later_end (suc k) next.before is in
      stays_synchronised v device is z never next.next (v.until + 1)
      (omega (arith, ints)) next.in_run
      (synchronised_by v device is z never known.come (suc k) next behind has)

  -- so a switch that is on comes in
  comes : (t : ℕ) → t < x → x ≤ t + 1 → IsOn (state_left v device x) → t + coming v.sizes ≤ v.until
      → IsSynchronised (state_left v device (v.until + 1))
  comes t lt le on long =
      let found = known.cover v t is (omega arith) in
      let n = found.0 in
      let block = found.1 in
      let before = block.before in
      let space = room is in
      let ends = block_ends v n block.next before.hull before.is_hull block.is_over in
      let begun = hull_before n before is in
      let over : BlockIsOver v n = record {
        before = before;
        next = block.next;
        is_over = block.is_over;
        in_run = omega (arith, ints, block.from);
      } in
      let stands = known.on v n is over in
      let follows = follows_before n before.hull stands.hull is before.is_hull stands.is_hull in
      let short : last_correction v.sizes stands.hull ≤ℤ pos v.until =
      omega (arith, ints, follows.most, block.from) in
      let next = next_over known v is n over short in
      by_lt_z (pos t) stands.hull.least
      (λ early.
      let high = next_above t x stands.hull.least early le in
      in_two n x over next high (omega (arith, block.from)) (one_above (pos x) stands.hull.least high) on)
      (λ late.
      let later = known.on v (suc n) is next in
      let follows_next = follows_before (suc n) stands.hull later.hull is stands.is_hull later.is_hull in
      let low = later_soon t v.until
      (before_narrow stands) follows_next late long in
      let stood = block_ends v n stands.next before.hull before.is_hull stands.is_over in
      let from = one_end (last_correction v.sizes before.hull) stands.next block.next t x stood ends block.to le in
      let high = behind_block stands.next space
      (before_narrow before) follows follows_next stood in
      in_two (suc n) stands.next next (next_over known v is (suc n) next low)
      (through x stands.next later.hull.least from high) (le_self stands.next)
      (one_above (pos stands.next) later.hull.least high) (stays_on v device is x stands.next from on))

-- ---- the laws

-- a switch of a channel that is mended at t is synchronised at the end of the view, where the channel's compression master
-- sends
mended : (laws : FramesGoSo) (known : AreBlocksKnown) {s : Scenario} {mark : List ℕ} {ns : List Note}
    {until beta : ℕ} (up : IsRunUpTo s mark ns until) (is_beta : IsBeta s.network (pos beta)) {channel : Channel}
    (switch : DeviceId) {t u : ℕ} → IsSwitchOf s.network channel switch
    → IsMended s (happenings s.network ns) channel t u → {sure : Channel}
    (at : IsViewWith s (happenings s.network ns) u sure beta)
    → SendsWhole (view_of s u sure beta at.cut.front) channel → t + coming_time s.network beta ≤ u
    → IsInStep s (happenings s.network ns) switch u
mended laws known {s} {ns} {beta} up is_beta {channel} switch {t} {u} of_channel mends {sure} at sending long =
    let hs = happenings s.network ns in
    let is = at.is in
    let v = view_of s u sure beta at.cut.front in
    let good = switches_are_good v channel switch is of_channel in
    let left : (d : DeviceId) (w : ℕ) → w ≤ u → state_after s (up_to w hs) d ≡ state_left v d (w + 1) = λ d w to.
    rw (up_to_is w hs ∙ sym (at.cut.early (w + 1) (omega arith))) in
    let on : (d : DeviceId) → IsSwitchOf s.network channel d → IsOn (state_left v d (t + 1)) = λ d has.
    subst IsOn (left d t (omega arith)) (mends.on d has) in
    let whole : IsWholeFrom v channel (t + 1) = record {
      ways = λ link way w has from to. mends.ways link way w has (omega arith) to;
      on = λ d w has from.
          (let on_w = stays_on v d is (t + 1) w from (on d has) in
          rw (on_not_turned_on d w is on_w)
          on_w);
    } in
    let d = opened (λ x. x.channel ≡ Some channel) (device_at s.network switch) of_channel in
    let member = of_channel_is v channel switch d.0 d.1 (inr d.2) in
    record {
      correct = good;
      synchronised = left switch u (omega arith)
          ∙ comes laws known v channel switch is good member sending (t + 1) whole t (omega arith) (omega arith)
          (on switch of_channel) long;
    }

pub mended_channels_come_in : OneChannelIsSound → FramesGoSo → AreBlocksKnown → MendedChannelsComeIn
mended_channels_come_in sound laws known s mark ns until beta up is_beta channel switch t u of_channel mends all long le =
    let sure = sound s u up.lawful in
    let at = view_with u sure.0 beta up is_beta le sure.1 in
    mended laws known up is_beta switch of_channel mends at
    (λ m w block whole late. whole_master_sends known.goes channel block at.is all whole late) long

pub mended_relays_come_in : OneChannelIsSound → FramesGoSo → AreBlocksKnown → MendedRelaysComeIn
mended_relays_come_in sound laws known s mark ns until beta up is_beta channel cm switch t u of_cm of_channel mends keeps long le =
    let sure = sound s u up.lawful in
    let at = view_with u sure.0 beta up is_beta le sure.1 in
    let v = view_of s u sure.0 beta at.cut.front in
    let kept : (next : ℕ) → next ≤ u + 1 → NoCliqueBefore v cm next = λ next to h state cause why i early body clique.
    keeps.kept h state cause why (at.cut.inside h i) (omega arith) body clique in
    mended laws known up is_beta switch of_channel mends at
    (λ m w block whole late. calm_master_sends known.goes channel block cm at.is of_cm keeps.on
    (kept block.before.next block.before.in_run) whole late) long
