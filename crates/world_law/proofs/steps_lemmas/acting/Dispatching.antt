-- A device dispatches a row's frame, which a switch has stored: its record, and how the device stands then.
use Rattle.std.proofs.Common.{◌*◌}
use Rattle.net_plan.proofs.SameIds.{same_link, same_vl}
use Rattle.run_law.{proofs.{law.FirstDeliveries.{in_filter, numbered_front}, timed.Rows.at_hand_by}}
use Rattle.run_law.{specs.{records.Happenings.octets_from, timed.Dispatching.{HasAccepted, last_accepted}}}
use Rattle.schedule_tables.{proofs.SlotLemmas.one_entry, specs.{Dispatches.dispatch_order, Entries.IsEntry}}
use Rattle.world_law.{specs.world.World.{AreStored, Stored, last_taking}}
use Rattle.world_law.proofs.{Words.{AreComing, IsBefore, IsOwnSource, append_assoc, chain, parted}}
use Rattle.world_law.proofs.acts.Dues.{dispatch_told, send_apart}
use Rattle.world_law.proofs.rows.{AtHand.{IsForwarded, IsReaching, at_hand, filter_earlier, taken_sooner}}
use Rattle.world_law.proofs.rows.{Dispatching.one_row}
use Rattle.world_law.proofs.steps_lemmas.Words
use Words.{if◌then◌else◌, ◌++◌, ◌+◌, ◌∙◌, ◌∷◌, ◌≡◌, ◌≤ℤ◌, ◌≤◌, ArePutIn, Bool, Contains-push_cases, DeviceId}
use Words.{Dispatches, Entry, Happening, HasAtHand, HasCleared, IsActOf, IsActing, IsDue, IsFirstTask, IsFounded, IsIn}
use Words.{IsLawful, IsPending, IsReadyAt, IsSet, IsSource, LinkId, List, Moment, Network, Node, None, Note, NoteBody}
use Words.{Reaches, RowId, Scenario, Some, Stands, VlId, World, [], acting, amount, ap, append-nil, arith, by_number}
use Words.{called, cause_of, changed_before, correcting, dispatch_body, dispatch_late, dispatches_same, dispatching}
use Words.{doing, earlier, earlier_still, false, filter, happenings, hearing_by, in_left, in_right, inl, inr}
use Words.{is_accepted, is_cut, key, last_in, last_unfollowed, length, members_in, moment_of, moves, nat_lt, never_self}
use Words.{numbered, numbered_within, option_map_or, option_to_list, place_of, pos, rank, reaches_back, reading_for}
use Words.{record_of, refl, same_device, subst, suc, sym, task_place, time_of, true, up_back, value_is, way_from}
use Words.{with_done, zero, ℕ}
use Rattle.world_law.proofs.steps_lemmas.acting.{Kept.{TellsRow, may_act_now, ready_after}}
use Rattle.world_law.proofs.steps_lemmas.acting.OneAct
use OneAct.{HasSentIt, IsActOn, IsActRecordAt, IsOneAct, StageAt, as_put, did_deed, taken_then}
use Rattle.world_law.proofs.steps_lemmas.acting.Work
use Work.{IsAtWork, IsPutAs, all_earlier, does, goes_on, left_on, put_now, reaches, sent_alike}
use Rattle.run_law.specs.declared.note.NoteBody.TheVariants as kinds
use Rattle.run_law.specs.declared.steps.Act.TheVariants as acts

-- ---- a device dispatches a row's frame: its record, and how the device stands then: it is a dispatch

-- its cause is one of the records
pub hand_within : (s : Scenario) {hs : List Happening} {device : DeviceId} (entry : Entry) {t cause cycle : ℕ}
    → IsFounded place_of (IsDue s) hs → HasAtHand s.network hs device entry t cause cycle → cause ≤ length hs
hand_within s entry founded (inl sender) = omega arith
hand_within s {hs} {device} entry {t} founded (inr took) =
    elim (last_in None (filter (λ h. is_accepted device entry.row.vl h.note.body) (earlier t hs)) took.1.taken took.1.last) [
      | inl none ↦ absurd cc
      | inr i ↦
          let there = in_filter (λ h. nat_lt (time_of h) t) hs took.1.taken
          (in_filter (λ h. is_accepted device entry.row.vl h.note.body) (earlier t hs) took.1.taken i) in
          let within = numbered_within hs took.1.taken.note.number took.1.taken (by_number s hs took.1.taken founded there) in
          let number = took.1.number in
          omega arith
    ]

-- what is shown of it has that cause
pub dispatch_cause : (s : Scenario) (device : DeviceId) (now : ℕ) (link : LinkId) (cause : ℕ) (vl : VlId) (cycle : ℕ)
    → cause_of (dispatch_body s device now link cause vl cycle) ≡ cause
dispatch_cause s device now link cause vl cycle =
    search (arith, cause_of)

-- a device that has to dispatch a row, whose frame it has at hand by the records given, dispatches it by any records of the instant
pub dispatches_it : {s : Scenario} {hs coming : List Happening} (other : List Happening) {now : ℕ}
    {device : DeviceId} {node : Node} (row : RowId) {entry : Entry} {cause cycle : ℕ}
    → IsAtWork s hs coming now device node → ((z : Happening) → IsIn z other → time_of z ≡ now)
    → IsPending s.network device node (doing (dispatching row cycle))
    → reading_for s.network node (doing (dispatching row cycle)) ≤ℤ pos (s.reading device now)
    → IsEntry s.network row.0 entry → HasAtHand s.network hs device entry now cause cycle
    → (d : Dispatches s (hs ++ other) device now entry.row.link cause entry.row.vl cycle) × (d.place ≡ row.0)
dispatches_it {s} {hs} {coming} other {now} {device} row {entry} {cause} {cycle} w also p due is hand =
    let same = all_earlier s hs coming other now (λ z i. (w.of_now z i).0) also in
    let given =
    sym (Rattle.world_law.proofs.runs.Worlds.earlier_still now hs other (λ z i. omega arith)) in
    let frame = p.1.own.1 in
    let one = one_entry s.network row.0 frame.entry entry frame.is is in
    let reached : Reaches s (hs ++ coming) device (pos (cycle * amount s.network.cycle + amount entry.row.offset)) now =
    rw (value_is row cycle is) at (reaches w p.1 due) in (
      record {
        place = row.0;
        entry = entry;
        row = is;
        by = refl;
        of_vl = refl;
        leaves = rw one at frame.leaves;
        occurs = rw one at frame.occurs;
        up = up_back s (hs ++ coming) (hs ++ other) now device same (record { synchronised = sym w.left.state ∙ p.1.own.0; correct = w.sound });
        reached = reaches_back s (hs ++ coming) (hs ++ other) now device same reached;
        at_hand = at_hand_by s.network (hs ++ other) entry given hand;
      },
      refl,
    )

-- ---- its record

second : List ℕ → ℕ
second (a ∷ b ∷ more) = b
second other = 0

-- what stands where the record of a frame that met a cut way does, is one
lost_at : {t u : ℕ} (m : ℕ) {d l c : ℕ} (body : NoteBody) → t ∷ 9 ∷ d ∷ l ∷ c ∷ [] ≡ u ∷ rank body ∷ key m body
    → (other : DeviceId) × (link : LinkId) × (other.0 ≡ d)
    × (link.0 ≡ l) × (body ≡ kinds.Lost other link c)
unfolding second
lost_at m (kinds.Lost other link from) e = grind arith
lost_at m other e = absurd (let bad = ap second e in omega arith)

-- and where that of a dispatch does
tt_at : (t u m d l c v n : ℕ) (body : NoteBody) → t ∷ 10 ∷ d ∷ l ∷ c ∷ v ∷ n ∷ [] ≡ u ∷ rank body ∷ key m body → (other : DeviceId) × (link : LinkId)
    × (vl : VlId) × (other.0 ≡ d) × (link.0 ≡ l) × (vl.0 ≡ v) × (body ≡ kinds.TtSent other link c vl n)
unfolding second
tt_at t u m d l c v n (kinds.TtSent other link from vl number) e = grind arith
tt_at t u m d l c v n other e = absurd (let bad = ap second e in omega arith)

-- the body of a dispatch on a way that is cut, or not
abbrev body_by : Bool → DeviceId → LinkId → ℕ → VlId → ℕ → NoteBody
body_by cut device link cause vl cycle = if cut then kinds.Lost device link cause else kinds.TtSent device link cause vl cycle

-- what stands at its place is it
body_at : (cut : Bool) (device : DeviceId) (link : LinkId) (cause : ℕ) (vl : VlId) (cycle : ℕ) {t u : ℕ} (m : ℕ)
    (body : NoteBody)
    → t ∷ rank (body_by cut device link cause vl cycle) ∷ key 0 (body_by cut device link cause vl cycle) ≡ u ∷ rank body ∷ key m body
    → body ≡ body_by cut device link cause vl cycle
body_at true device link cause vl cycle {t} {u} m body e =
    let x = lost_at m body e in
    x.4 ∙ (rw (same_device x.0 device x.2) ((rw (same_link x.1 link x.3))))
body_at false device link cause vl cycle m body e = grind (arith, tt_at, same_device, same_link, same_vl)

-- what is asked of the record but for its body
record IsRowRecord (s : Scenario) (hs front back : List Happening) (now : ℕ) (device : DeviceId) (row : RowId) (link : LinkId) (cause : ℕ) (vl : VlId)
    (cycle : ℕ) (body : NoteBody) : Type 0 where
  pub dispatches : Dispatches s (hs ++ front) device now link cause vl cycle
  pub place : dispatches.place ≡ row.0
  pub new : (y : Happening) → IsIn y back → y.note.body ≡ body → ⊥

row_record : {s : Scenario} {hs front back : List Happening} {now : ℕ} {device : DeviceId} {row : RowId}
    {link : LinkId} {cause : ℕ} {vl : VlId} {cycle : ℕ} (cut : Bool)
    → is_cut s link (way_from s.network device link) now ≡ cut
    → IsRowRecord s hs front back now device row link cause vl cycle (body_by cut device link cause vl cycle)
    → IsActRecordAt s hs front back now device (body_by cut device link cause vl cycle)
    (task_place s.network now device (doing (dispatching row cycle)))
row_record {s} {hs} {front} {now} {device} {link} {cause} {vl} {cycle} true is r =
    let at = λ (n : ℕ). task_place s.network now device (doing (dispatching (record { 0 = n }) cycle)) in
    record {
      own = λ m. inr (inl (vl, cycle, r.dispatches, is, ap at (sym r.place)));
      here = rw r.place at (IsSource.acting now device (doing (dispatching (record { 0 = r.dispatches.place }) cycle))
          (IsActing.dispatches link cause vl cycle r.dispatches));
      caused = inr (inl (vl, cycle, r.dispatches, is));
      fresh = λ y i e. r.new y i (body_at true device link cause vl cycle (members_in y) y.note.body e);
      apart = λ other not. (refl, λ at. refl);
      lone = last_unfollowed s hs now (kinds.Lost device link cause) refl;
    }
row_record {s} {hs} {front} {now} {device} {link} {cause} {vl} {cycle} false is r =
    let at = λ (n : ℕ). task_place s.network now device (doing (dispatching (record { 0 = n }) cycle)) in
    record {
      own = λ m. (r.dispatches, ap at (sym r.place));
      here = rw r.place at (IsSource.acting now device (doing (dispatching (record { 0 = r.dispatches.place }) cycle))
          (IsActing.dispatches link cause vl cycle r.dispatches));
      caused = record { dispatches = r.dispatches; whole = is };
      fresh = λ y i e. r.new y i (body_at false device link cause vl cycle (members_in y) y.note.body e);
      apart = λ other not. (refl, λ at. refl);
      lone = last_unfollowed s hs now (kinds.TtSent device link cause vl cycle) refl;
    }

-- where a row is not worked off, no record to come tells of its dispatch
no_row_told : {s : Scenario} {hs coming : List Happening} {frontier : List ℕ} {now : ℕ} {device : DeviceId}
    → AreComing s hs coming frontier now → IsFounded place_of (IsDue s) hs → IsLawful s (hs ++ coming) device
    → (z : Happening) → IsIn z coming → {link : LinkId} {cause : ℕ} {vl : VlId} {cycle : ℕ}
    (d : Dispatches s (hs ++ coming) device now link cause vl cycle)
    → (IsBefore (now ∷ 6 ∷ device.0 ∷ dispatch_order s.network (record { 0 = d.place })) frontier → ⊥)
    → z.note.body ≡ dispatch_body s device now link cause vl cycle → ⊥
no_row_told {s} {hs} {coming} {frontier} {now} {device} are founded law z i {link} {cause} {vl} {cycle} d waits e =
    let split = parted z coming i in
    let by = are.by split.0 split.1 z split.2 in
    let inside : (h : Happening) → IsIn h split.0 → IsIn h coming =
    λ h j. rw split.2 (in_left h split.0 (z ∷ split.1) j) in
    let same = all_earlier s hs split.0 coming now (λ h j. are.of_now h (inside h j)) are.of_now in
    let whole : hs ++ coming ≡ (hs ++ split.0) ++ z ∷ split.1 =
    ap (λ l. hs ++ l) split.2 ∙ sym (append_assoc hs split.0 (z ∷ split.1)) in
    let place = λ (n : ℕ). now ∷ 6 ∷ device.0 ∷ dispatch_order s.network ((record { 0 = n })) in
    let own : IsOwnSource s (hs ++ split.0) now (members_in z) z.note.body by.0 = rw (are.of_now z i) at by.1 in
    let none : (other : VlId) (number : ℕ) (x : Dispatches s (hs ++ split.0) device now link cause other number) → by.0 ≡ place x.place → ⊥ =
    λ other number x is.
    (let y = dispatches_same s (hs ++ split.0) (hs ++ coming) now device link cause other number same x in
    let one = one_row link cause vl cycle law refl y.0 d in
    waits (rw (is ∙ ap place (sym y.1 ∙ one.0)) at by.3)) in
    elim (dispatch_told s device now link cause vl cycle e) [
      | inr sent ↦
          let it = subst (λ b. IsOwnSource s (hs ++ split.0) now (members_in z) b by.0) sent own in none vl cycle it.0 it.1
      | inl lost ↦
          elim (subst (λ b. IsOwnSource s (hs ++ split.0) now (members_in z) b by.0) lost own) [
            | inl leaves ↦
                waits (chain (place d.place) (now ∷ 8 ∷ device.0 ∷ link.0 ∷ cause ∷ []) frontier (inr (refl, inl (omega arith)))
                (rw leaves.0 at by.3))
            | inr other ↦ elim other [
              | inl mine ↦ none mine.0 mine.1 mine.2 mine.4
              | inr sends ↦
                  send_apart hs coming founded are.of_now
                  (λ h there. rw whole (numbered_front (hs ++ split.0) (z ∷ split.1) cause h there)) sends.1 d
            ]
          ]
    ]

pub dispatching_record : {M : Type 0} {stands : M → Network → DeviceId → Node → Type 0} {s : Scenario}
    {hs : List Happening} (front back : List Happening) {now : ℕ} {device : DeviceId}
    {machine : M} {node : Node} (row : RowId) {entry : Entry} {cause cycle : ℕ}
    → StageAt stands s hs (front ++ back) now device machine node 6
    (device.0 ∷ dispatch_order s.network row) → IsPending s.network device node (doing (dispatching row cycle))
    → reading_for s.network node (doing (dispatching row cycle)) ≤ℤ pos (s.reading device now)
    → IsEntry s.network row.0 entry → HasAtHand s.network hs device entry now cause cycle
    → IsActRecordAt s hs front back now device (dispatch_body s device now entry.row.link cause entry.row.vl cycle)
    (task_place s.network now device (doing (dispatching row cycle)))
dispatching_record {s} {hs} front back {now} {device} row {entry} {cause} {cycle} st pending due is hand =
    let link = entry.row.link in
    let at = task_place s.network now device (doing (dispatching row cycle)) in
    let here = dispatches_it front row st.work (λ z i. (st.work.of_now z (in_left z front back i)).0)
    pending due is hand in
    let whole = dispatches_it (front ++ back) row st.work (λ z i. (st.work.of_now z i).0) pending due is hand in
    row_record (is_cut s link (way_from s.network device link) now) refl (record {
      dispatches = here.0;
      place = here.1;
      new = λ y i e.
          no_row_told st.moving.are st.given st.lawful y (in_right y front back i) whole.0
          (λ b. never_self at (rw whole.1 at b)) e;
    })

-- ---- how it stands then

module _ (s : Scenario) (device of : DeviceId) (now : ℕ) (link : LinkId) (cause : ℕ) (vl : VlId) (cycle : ℕ) where
  none_heard_by : (h : Happening) → hearing_by s.network device h (dispatch_body s of now link cause vl cycle) ≡ None
  none_heard_by h =
      search arith

  none_moved : moves device (dispatch_body s of now link cause vl cycle) ≡ false
  none_moved =
      search arith

  none_taken : Rattle.world_law.proofs.rows.AtHand.IsNoTaking device (dispatch_body s of now link cause vl cycle)
  none_taken = grind (arith, is_cut, way_from)

dispatches_on : {s : Scenario} {hs : List Happening} (front back : List Happening) {now : ℕ} {device : DeviceId}
    {node : Node} {w : Happening} (row : RowId) (cycle : ℕ) (moment : Moment)
    → IsAtWork s hs (front ++ back) now device node → IsPutAs now w
    → hearing_by s.network device w w.note.body ≡ None → moves device w.note.body ≡ false
    → reading_for s.network node (doing (dispatching row cycle)) ≤ℤ pos (s.reading device now)
    → IsReadyAt (s.reading device) s.network device
    (called moment acting (with_done node (dispatching row cycle))) now
    → IsAtWork s hs (front ++ w ∷ back) now device (called moment acting (with_done node (dispatching row cycle)))
dispatches_on {s} {hs} front back {now} {device} {node} row cycle moment work p none still due ready =
    let after = called moment acting (with_done node (dispatching row cycle)) in
    goes_on front back work p
    (left_on front back work p
    (record { standing = refl; broken = refl; changed = refl; points = refl }) still
    (sym (append-nil node.heard) ∙ ap (λ o. node.heard ++ option_to_list o) (sym none)) (inl none))
    still
    (does moment (dispatching row cycle) work.done
    (changed_before (hs ++ (front ++ back)) device now) due) (sent_alike after refl refl work.sent) ready

module _ {M : Type 0} {stands : M → Network → DeviceId → Node → Type 0} {s : Scenario}
    (hs front back : List Happening) {now : ℕ} {device : DeviceId} {machine : M} where
  -- its record tells of the row
  pub row_told : {node : Node} (row : RowId) {entry : Entry} {cause cycle : ℕ}
      → StageAt stands s hs (front ++ back) now device machine node 6
      (device.0 ∷ dispatch_order s.network row) → IsPending s.network device node (doing (dispatching row cycle))
      → reading_for s.network node (doing (dispatching row cycle)) ≤ℤ pos (s.reading device now)
      → IsEntry s.network row.0 entry → HasAtHand s.network hs device entry now cause cycle → (order : List ℕ)
      → now ∷ 6 ∷ device.0 ∷ dispatch_order s.network row ≡ now ∷ 6 ∷ device.0 ∷ order → TellsRow s
      (hs
      ++ (front
      ++ record_of s.network hs front now (dispatch_body s device now entry.row.link cause entry.row.vl cycle)
      ∷ back)) now device order (dispatch_body s device now entry.row.link cause entry.row.vl cycle)
  row_told {node} row {entry} {cause} {cycle} st pending due is hand order same =
      let w = record_of s.network hs front now (dispatch_body s device now entry.row.link cause entry.row.vl cycle) in
      let high = dispatch_late s device now entry.row.link cause entry.row.vl cycle in
      let x = dispatches_it (front ++ w ∷ back) row st.work
      (λ z i. (put_now front back st.work (as_put now w refl (omega arith)) z i).0)
      pending due is hand in
      record {
        link = entry.row.link;
        cause = cause;
        vl = entry.row.vl;
        cycle = cycle;
        dispatches = x.0;
        at = rw x.1 cc;
        is = refl;
      }

  -- the node that has dispatched, among the records with its own
  pub has_dispatched_it : (then_ : M) {node : Node} {after : Node} (row : RowId) {entry : Entry} {cause cycle : ℕ}
      → StageAt stands s hs (front ++ back) now device machine node 6
      (device.0 ∷ dispatch_order s.network row) → IsFirstTask s.network device node
      (moment_of s device now).reading.0 (doing (dispatching row cycle))
      → IsActOf s.network device node (moment_of s device now) (acts.Dispatch row cycle) after
      → after ≡ called (moment_of s device now) acting (with_done node (dispatching row cycle))
      → stands then_ s.network device after → IsEntry s.network row.0 entry
      → HasAtHand s.network hs device entry now cause cycle → HasSentIt stands s hs
      (front ++ record_of s.network hs front now (dispatch_body s device now entry.row.link cause entry.row.vl cycle)
      ∷ back) now device then_ node after
  has_dispatched_it then_ {node} {after} row {entry} {cause} {cycle} st first act is stood entered hand =
      let link = entry.row.link in
      let vl = entry.row.vl in
      let w = record_of s.network hs front now (dispatch_body s device now link cause vl cycle) in
      let moment = moment_of s device now in
      let high = dispatch_late s device now link cause vl cycle in
      let p = as_put now w refl (omega arith) in
      let may = may_act_now s device node now st.work.ready st.steady st.limit in
      let ready = ready_after s after (acts.Dispatch row cycle) st.work.ready st.steady st.precise st.wide may act
      (rw is)
      in
      let there = called moment acting (with_done node (dispatching row cycle)) in
      let work = dispatches_on front back row cycle moment st.work p
      (none_heard_by s device device now link cause vl cycle w) (none_moved s device device now link cause vl cycle)
      first.due
      (rw is at ready) in
      let cleared : HasCleared there =
      λ n has. elim (Contains-push_cases node.done (dispatching row cycle) (correcting n) has) [
        | inl old ↦ st.cleared n old
        | inr e ↦ absurd cc
      ] in
      record {
        is = stood;
        work = rw is work;
        cleared = subst HasCleared (sym is) cleared;
        taken = rw is
            (taken_then front back w
            st refl (none_taken s device device now link cause vl cycle));
        phase = rw is;
      }

-- The step by which a device dispatches a row's frame.

-- the device dispatches a row
pub dispatches_one : {C M : Type 0} {reading : C → ℕ → ℕ} {stands : M → Network → DeviceId → Node → Type 0}
    {s : Scenario} {world : World C M} {notes : List Note} {old : Stands reading stands s world notes}
    {device : DeviceId} {machine after : M} {machines : List M} (settled : List Happening)
    (row : RowId) {cycle : ℕ} {entry : Entry} {cause : ℕ}
    (on : IsActOn reading stands s world notes old device machine after (acts.Dispatch row cycle))
    → IsEntry s.network row.0 entry → HasAtHand s.network
    (happenings s.network notes) device entry world.now cause cycle → IsSet device.0 after world.machines machines
    → ArePutIn s.network (happenings s.network notes) world.now
    (dispatch_body s device world.now entry.row.link cause entry.row.vl cycle ∷ []) world.settled settled
    → IsOneAct reading stands s world notes old device machine after machines settled (acts.Dispatch row cycle)
dispatches_one {reading} {stands} {s} {world} {notes} {old} {device} {machine} {after} settled
    row {cycle} {entry} {cause} on is hand set put =
    let hs = happenings s.network notes in
    let now = world.now in
    let node = on.node in
    let st = on.st in
    let act = on.did in
    let first = act.1.0 in
    let high = dispatch_late s device now entry.row.link cause entry.row.vl cycle in
    let of_cause = dispatch_cause s device now entry.row.link cause entry.row.vl cycle in
    let within = hand_within s entry st.given hand in
    record {
      on = on;
      apart = λ x. x;
      adjustment = rw act.1.1;
      did = λ task has. did_deed s now device node (moment_of s device now) (dispatching row cycle) task act.1.1 has;
      body = dispatch_body s device now entry.row.link cause entry.row.vl cycle;
      at_place = λ low front. absurd (omega arith);
      late = omega arith;
      causes = omega arith;
      set = set;
      put = put;
      makes = λ front back parts st2 none.
          let it = has_dispatched_it hs front back after row
          st2 first act.1
          act.1.1 act.2 is hand in
          record {
            so = dispatching_record front back row st2 first.pending first.due is hand;
            told = row_told hs front back row st2 first.pending
                first.due is hand;
            it = it;
          };
    }

-- ---- a frame that a switch dispatches is stored: it is that of the last record by which the switch took one

-- the switch holds the frame of the entry's virtual link, and it is at hand by the record of its number
pub record IsHeldFrame (s : Scenario) (hs : List Happening) (stored : List Stored) (now : ℕ) (device : DeviceId) (entry : Entry) (cycle : ℕ) : Type 0 where
  pub there : (e : Stored) × IsIn e stored × (e.device ≡ device) × (e.vl ≡ entry.row.vl)
  pub hand : (e : Stored) → IsIn e stored → e.device ≡ device → e.vl ≡ entry.row.vl → HasAtHand s.network hs device entry now e.number cycle
  pub some : (e : Stored) → IsIn e stored → e.device ≡ device → e.vl ≡ entry.row.vl → 1 ≤ e.number
  pub octets : (e : Stored) → IsIn e stored → e.device ≡ device → e.vl ≡ entry.row.vl → e.octets ≡ octets_from hs e.number

-- a number of a record is not 0
numbered_some : (hs : List Happening) (n : ℕ) {h : Happening} → numbered hs n ≡ Some h → 1 ≤ n
numbered_some hs zero e = absurd cc
numbered_some hs (suc n) e = omega arith

-- what is stored of it is of the last taking
stored_of : {hs : List Happening} {stored : List Stored} (device : DeviceId) (vl : VlId) (taking : Happening)
    (e : Stored) → AreStored hs stored → last_taking hs device vl ≡ Some taking → IsIn e stored → e.device ≡ device
    → e.vl ≡ vl → (e.number ≡ taking.note.number) × (e.octets ≡ taking.octets)
stored_of device vl taking e are last there of_device of_vl = grind arith

-- a switch that has to dispatch a row of which it is not the sender holds its frame
pub held_frame : {M : Type 0} (stands : M → Network → DeviceId → Node → Type 0) (s : Scenario) (hs coming : List Happening) (now : ℕ)
    (device : DeviceId) (machine : M) (node : Node) (row : RowId) (cycle : ℕ) (stored : List Stored) (r : ℕ) (more : List ℕ)
    → StageAt stands s hs coming now device machine node r more → AreStored hs stored → (p : IsPending s.network device node (doing (dispatching row cycle)))
    → reading_for s.network node (doing (dispatching row cycle)) ≤ℤ pos (s.reading device now)
    → (p.1.own.1.entry.vl.sender ≡ device → ⊥) → IsHeldFrame s hs stored now device p.1.own.1.entry cycle
held_frame stands s hs coming now device machine node row cycle stored r more st are p due other =
    let has = p.1.own.1 in
    let entry = has.entry in
    let reached : Reaches s (hs ++ coming) device (pos (cycle * amount s.network.cycle + amount entry.row.offset)) now =
    rw (value_is row cycle has.is) at (reaches st.work p.1 due) in
    let r : IsReaching s (hs ++ coming) device node row entry cycle now = grind (arith, has.is, has.leaves) in
    let hand = at_hand has r in
    by r (record { is = has.is; leaves = has.leaves; other = other }) hand.0 hand.1
  where
    by : IsReaching s (hs ++ coming) device node row p.1.own.1.entry cycle now → IsForwarded s.network device row.0 p.1.own.1.entry → (cause : ℕ)
        → HasAtHand s.network (hs ++ coming) device p.1.own.1.entry now cause cycle → IsHeldFrame s hs stored now device p.1.own.1.entry cycle
    by r f cause (inl sender) = absurd (other sender.0)
    by r f cause (inr took) =
        let vl = p.1.own.1.entry.row.vl in
        let accepted : Happening → Bool = λ h. is_accepted device vl h.note.body in
        let same = earlier_still now hs coming (λ z i. omega arith) in
        let taken = took.1.taken in
        let last : last_accepted hs device vl now ≡ Some taken =
        rw same at took.1.last in
        let all =
        filter_earlier accepted now hs (λ h i e. taken_sooner r f h (in_left h hs coming i) e) in
        let taking : last_taking hs device vl ≡ Some taken = rw all at last in
        let there : IsIn taken hs = grind (arith, last_in, filter, in_filter) in
        let number = by_number s hs taken st.given there in
        record {
          there = (are.all device vl taken taking);
          hand = λ e i of_device of_vl.
              let accepted : HasAccepted hs device vl now e.number cycle = record {
                taken = taken;
                last = last;
                number = (stored_of device vl taken e are taking i of_device of_vl).0;
                link = took.1.link;
                from = took.1.from;
                is = took.1.is;
              } in
              inr (took.0, accepted);
          some = λ e i of_device of_vl.
              rw (stored_of device vl taken e are taking i of_device of_vl).0
              (numbered_some hs taken.note.number number);
          octets = grind (arith, stored_of, option_map_or, numbered);
        }
