-- The departures that records go back to, what is kept of them, and that it lies within the line.
use Rattle.std.{specs.{List.cons_option, Prelude.{option_and_then, slice_get}}}
use Rattle.std.proofs.{lemmas.{Bool.{eqb-true, false≢true}, List.length-append}}
use Rattle.std.proofs.Common
use Common.{if◌then◌else◌, ◌++◌, ◌+◌, ◌-◌, ◌<◌, ◌==◌, ◌∙◌, ◌∷◌, ◌≡◌, ◌≤◌, Bool, List, None, Option, Some, [], ap, arith}
use Common.{false, inl, inr, length, refl, subst, suc, sym, true, zero, ℕ}
use Rattle.audit_law.{proofs.law_lemmas.Owed.{audit_laws, gap_law}, specs.law.Linked.{AreLinked, HasCause}}
use Rattle.lens_latency.proofs.{Givings.given_more, Latencies.comes_in_its_time}
use Rattle.precision_law.proofs.traffic_lemmas.delivery.{Delivering.fields_fit, Forwarding.Brings, Taken.takings_are_so}
use Rattle.run_law.proofs.{records.Order.{as_many, none_numbered}, runs.NetworkRuns.one_more}
use Rattle.lens_latency.specs.{Arrivals.{AreGiven, HasDeparted, IsArrivalBy, IsDeparture, IsDepartureOf}}
use Rattle.lens_latency.specs.{Following.{IsFollowed, arrival_by, departure_at, departure_by, is_departure}}
use Rattle.lens_latency.specs.{Laws.{DeliveriesAreSeen, GoesBy, IsSeenWithin, trip_by}}
use Rattle.lens_latency.specs.{declared.{arrivals.FrameArrival.FrameArrival, comings.Coming.Coming}}
use Rattle.net_plan.{proofs.Trees.{beta_exists, rules_give_trees}}
use Rattle.net_plan.specs.{Bounds.{IsBeta, beta_at}, Places.{IsSwitchOf, link_at}}
use Rattle.net_plan.specs.declared.{ids.{DeviceId.DeviceId, LinkId.LinkId, VlId.VlId}, network.Network.Network}
use Rattle.net_plan.specs.declared.{tables.Link.Link}
use Rattle.precision_law.proofs.{law.Whole.blocks_known, records.RunViews.{view_of, view_with}}
use Rattle.precision_law.proofs.faults.{Masters.{good_is_correct, one_channel_is_sound, switches_are_good}}
use Rattle.precision_law.proofs.faults.{Sound.{sound_switches_begin_on, sound_ways_are_whole}}
use Rattle.precision_law.proofs.traffic_lemmas.{Words.{BringsBlocks, BringsChannels}}
use Rattle.precision_law.proofs.traffic_lemmas.delivery.{Coming.{octets_come_so, takings_come_by_rows}}
use Rattle.precision_law.proofs.traffic_lemmas.faults.{Channels.{good_sources, source_on, target_on}}
use Rattle.precision_law.proofs.traffic_lemmas.faults.GoodDevices
use GoodDevices.{senders_are_broken, sound_switches_keep_time, timed_are_not_turned_on}
use Rattle.precision_law.specs.{Views.{IsGood, IsView, View}}
use Rattle.precision_law.specs.traffic.{Coming.HasGoodSources, Dispatched.IsRowDispatch, Fits.FieldsFit}
use Rattle.precision_law.specs.traffic.{Latency.{IsDeliveryBy, IsDispatchOn}}
use Rattle.run_law.proofs.{law.FirstDeliveries.{by_number, number_is, numbered_front, numbered_in}}
use Rattle.run_law.specs.{declared.note.{Note.Note, NoteBody.NoteBody}, runs.{DueRecords.IsDue, Runs.IsFounded}}
use Rattle.run_law.specs.{scenario.{Devices.is_end, Scenarios.Scenario}}
use Rattle.run_law.specs.records.{Causes.{GoesBackTo, IsChain, cause_of, last_from}}
use Rattle.run_law.specs.records.{Happenings.{Happening, happening, happenings, numbered, time_of}, Order.IsIn}
use Rattle.run_law.specs.records.{Ranks.place_of}
use Rattle.schedule_tables.{proofs.Margins.shape_rules}
use Rattle.schedule_tables.{specs.{Entries.{IsOnChannel, source_of}, declared.entry.Entry.Entry}}
use Rattle.tte_audit.{proofs.{ReportRuns.audit_run, ReportText.happening_there}}
use Rattle.tte_audit.{specs.{Named.IsNamed, Report.{behind_time, scenario_of}}}
use Rattle.tte_reports.specs.{Folding.IsNextOf, Reports.IsReportOf}
use Rattle.tte_units.{proofs.general_lemmas.Options.{opened, some_same}}
use Rattle.tte_units.{specs.{Amount.amount, declared.{frames.channel.Channel.Channel, units.Units.Units}}}
use Rattle.run_law.specs.declared.note.NoteBody.TheVariants as notes

-- ---- a frame that was delivered goes back to its dispatch on the sender's row of the channel by which it came

channels : BringsChannels
channels = record {
  correct = good_is_correct;
  sound = one_channel_is_sound;
  whole = sound_ways_are_whole;
  switches = switches_are_good;
  begin = sound_switches_begin_on;
}

blocks : BringsBlocks
blocks = record { cover = blocks_known.cover; goes = blocks_known.goes; come = blocks_known.come }

-- what the fault hypothesis leaves, and what is known of blocks
pub brings : Brings
brings = record {
  blocks = blocks;
  channels = channels;
  senders = senders_are_broken;
  not_on = timed_are_not_turned_on;
  switches = sound_switches_keep_time channels timed_are_not_turned_on;
}

-- the record goes back to the dispatch of the frame of its cycle by the sender, on its row of the channel
pub record BeginsOn (v : View) (h : Happening) (vl : VlId) (cycle : ℕ) (channel : Channel) : Type 0 where
  pub first : Happening
  pub there : IsIn first v.records
  pub back : GoesBackTo v.records h first
  pub departs : IsDeparture first.note.body
  pub early : time_of first ≤ time_of h
  pub entry : Entry
  pub dispatched : IsDispatchOn v.scenario.network vl cycle first entry.vl.sender entry
  pub leaves : source_of entry ≡ entry.vl.sender
  pub on_channel : IsOnChannel v.scenario.network channel entry

-- each dispatch of the virtual link on the channel does, by its time
begins_below : (channel : Channel) (bound : ℕ) {v : View} {h : Happening} {device : DeviceId} {link : LinkId}
    {cause : ℕ} {vl : VlId} {cycle : ℕ} → IsView v → FieldsFit v.scenario.network → IsGood v device
    → HasGoodSources v vl → (d : IsRowDispatch v h device link cause vl cycle)
    → IsOnChannel v.scenario.network channel d.entry → time_of h < bound → BeginsOn v h vl cycle channel
begins_below channel zero is fit good sources d on lt = absurd (omega (arith, lt))
begins_below channel (suc bound) {v} {h} {device} {link} {cause} {vl} {cycle} is fit good sources d on lt =
    let n = v.scenario.network in
    elim (octets_come_so v h device link cause vl cycle is d) [
      | inl made ↦
          let dispatched : IsDispatchOn n vl cycle h device d.entry =
          record { link = link; cause = cause; is = d.is; row = record { place = d.place; is = d.row; of_vl = d.of_vl; by = d.by } } in
          record {
            first = h;
            there = d.there;
            back = record { causes = []; chain = tt; begins = refl };
            departs = subst IsDeparture (sym d.is) made.first;
            early = omega arith;
            entry = d.entry;
            dispatched = subst (λ x. IsDispatchOn n vl cycle h x d.entry) (sym made.sender) dispatched;
            leaves = d.leaves ∙ sym made.sender;
            on_channel = on;
          }
      | inr passed ↦
          let taking = takings_are_so v passed.taken device passed.link passed.from vl cycle is passed.there (inl passed.is) in
          let row = taking.by_row in
          let fine = sources row.place row.entry row.row row.of_vl in
          let comes = takings_come_by_rows brings.blocks brings.senders v passed.taken device passed.link passed.from vl cycle is fit good taking fine in
          let range = is.lawful.range in
          let rules = is.lawful.rules in
          let no_end = subst (λ x. is_end n x ≡ false) (sym d.leaves) passed.switch in
          let switch = source_on channel range rules d.row no_end on in
          let entering = subst (IsSwitchOf n channel) (d.leaves ∙ sym row.enters) switch in
          let on_row = target_on channel range rules row.row entering in
          let rest = begins_below channel bound is fit fine sources comes.dispatch
          (subst (IsOnChannel n channel) (sym comes.same) on_row) (omega (arith, taking.at, passed.earlier, lt)) in
          let first_cause : numbered v.records (cause_of h.note.body) ≡ Some passed.taken = ap (λ b. numbered v.records (cause_of b)) d.is
          ∙ passed.number in
          record {
            first = rest.first;
            there = rest.there;
            back = record {
              causes = passed.taken ∷ taking.putting ∷ rest.back.causes;
              chain = (first_cause, (taking.is_cause, rest.back.chain));
              begins = rest.back.begins;
            };
            departs = rest.departs;
            early = (let early = rest.early in omega (arith, early, taking.at, passed.earlier));
            entry = rest.entry;
            dispatched = rest.dispatched;
            leaves = rest.leaves;
            on_channel = rest.on_channel;
          }
    ]

pub begins_on : (channel : Channel) {v : View} {h : Happening} {device : DeviceId} {link : LinkId} {cause : ℕ}
    {vl : VlId} {cycle : ℕ} → IsView v → FieldsFit v.scenario.network → IsGood v device → HasGoodSources v vl
    → (d : IsRowDispatch v h device link cause vl cycle) → IsOnChannel v.scenario.network channel d.entry
    → BeginsOn v h vl cycle channel
begins_on channel {h} is fit good sources d on =
    begins_below channel (time_of h + 1) is fit good sources d on (omega arith)

-- ---- what was seen lies within the line

-- the chains of the earlier records are chains of all
module _ (s : Scenario) (hs front : List Happening) (all : IsFounded place_of (IsDue s) hs) (some : IsFounded place_of (IsDue s) front)
    (inside : (h : Happening) → IsIn h front → IsIn h hs) where
  numbered_too : (n : ℕ) (g : Happening) → numbered front n ≡ Some g → numbered hs n ≡ Some g
  numbered_too n g there =
      let number = number_is s front n g some there in
      subst (λ m. numbered hs m ≡ Some g) number (by_number s hs g all (inside g (numbered_in front n g there)))

  chain_too : (h : Happening) (gs : List Happening) → IsChain front h gs → IsChain hs h gs
  chain_too h [] chain = tt
  chain_too h (g ∷ gs) chain = (numbered_too (cause_of h.note.body) g chain.0, chain_too g gs chain.1)

  pub back_too : (h first : Happening) → GoesBackTo front h first → GoesBackTo hs h first
  back_too h first back = record { causes = back.causes; chain = chain_too h back.causes back.chain; begins = back.begins }

-- what departed so long before is seen
seen_within : {hs : List Happening} (c : Coming) (channel : Channel) {h : Happening} (link : LinkId)
    (cause cycle : ℕ) {left : ℕ} → h.note.body ≡ notes.Delivered c.device link cause c.vl cycle
    → HasDeparted hs h left → (left + (trip_by channel c).least ≤ time_of h)
    × (time_of h ≤ left + (trip_by channel c).most) → IsSeenWithin hs c channel h
seen_within c channel {h} link cause cycle {left} is departed within =
    let least = within.0 in
    let most = within.1 in
    record {
      arrival = record { vl = c.vl; device = c.device; time = time_of h - left };
      arrives = record { link = link; cause = cause; cycle = cycle; is = is; left = left; departed = departed; time = refl };
      of_vl = refl;
      at = refl;
      least = omega (arith, least);
      most = omega (arith, most);
    }

pub deliveries_are_seen : DeliveriesAreSeen
deliveries_are_seen s mark ns until cs c channel h link cause cycle up are has i le is on sender =
    let n = s.network in
    let hs = happenings n ns in
    let w = time_of h in
    let beta = beta_exists n (rules_give_trees n (shape_rules n up.lawful.rules)) in
    let value = beta_at n beta.1.jitter beta.1.links in
    let is_beta = subst (IsBeta n) beta.1.value beta.1 in
    let sound = brings.channels.sound s w up.lawful in
    let at = view_with w sound.0 value up is_beta le sound.1 in
    let v = view_of s w sound.0 value at.cut.front in
    let there = at.cut.has h i (omega arith) in
    let taking = takings_are_so v h c.device link cause c.vl cycle at.is there (inr is) in
    let row = taking.by_row in
    let sources = good_sources brings.channels c.vl sender.of_vl at.is sender.there sender.correct in
    let fine = sources row.place row.entry row.row row.of_vl in
    let fit = fields_fit up.lawful.range in
    let comes = takings_come_by_rows brings.blocks brings.senders v h c.device link cause c.vl cycle at.is fit taking.correct taking fine in
    let of = opened (λ (l : Link). IsSwitchOf n channel l.parent) (link_at n link) on in
    let linked : link_at n link ≡ Some row.entry.link = subst (λ x. link_at n x ≡ Some row.entry.link) row.by row.row.link in
    let links : of.0 ≡ row.entry.link = some_same of.0 row.entry.link (link_at n link) of.1 linked in
    let on_row : IsOnChannel n channel row.entry = subst (λ (l : Link). IsSwitchOf n channel l.parent) links of.2 in
    let put = taking.putting in
    let begins = begins_on channel at.is fit fine sources comes.dispatch
    (subst (IsOnChannel n channel) (sym comes.same) on_row) in
    let first = begins.first in
    let before : time_of put ≤ time_of h = omega (arith, taking.at) in
    let early = begins.early in
    let back : GoesBackTo at.cut.front h first =
    record { causes = put ∷ begins.back.causes; chain = (taking.is_cause, begins.back.chain); begins = begins.back.begins } in
    let departed : HasDeparted hs h (time_of first) = record {
      first = first;
      back = back_too s hs at.cut.front up.run.founded at.cut.run.founded at.cut.inside h first back;
      departs = begins.departs;
      at = refl;
    } in
    let delivered : IsDeliveryBy n c.vl cycle h c.device row.entry =
    record { link = link; cause = cause; is = is; row = record { place = row.place; is = row.row; of_vl = row.of_vl; by = row.by } } in
    let goes : GoesBy s hs c cycle channel first h = record {
      sent = at.cut.inside first begins.there;
      came = i;
      in_order = omega (arith, early, before);
      first = begins.entry;
      dispatched = begins.dispatched;
      leaves = begins.leaves;
      by_first = begins.on_channel;
      last = row.entry;
      delivered = delivered;
      enters = row.enters;
      by_last = on_row;
      sender = sender;
    } in
    seen_within c channel link cause cycle is departed
    (comes_in_its_time s mark ns until cs c cycle channel first h up are has le goes)

-- ---- the departures that the causes of records go back to: the test of a departure

pub tells_departure : (body : NoteBody) → is_departure body ≡ true → IsDeparture body
tells_departure (notes.TtSent device link cause vl cycle) e = eqb-true cause 0 e
tells_departure other e = absurd (false≢true e)

pub denies_departure : (body : NoteBody) → is_departure body ≡ false → IsDeparture body → ⊥
denies_departure (notes.TtSent device link cause vl cycle) e is =
    false≢true (sym e ∙ ap (λ (n : ℕ). n == 0) is)
denies_departure other e is = is

-- a departure has no cause
pub no_cause : (body : NoteBody) → IsDeparture body → cause_of body ≡ 0
no_cause (notes.TtSent device link cause vl cycle) is = is
no_cause other is = absurd is

none_at_zero : (hs : List Happening) (n : ℕ) (h : Happening) → n ≡ 0 → numbered hs n ≡ Some h → ⊥
none_at_zero hs zero h e there = absurd cc
none_at_zero hs (suc n) h e there = absurd cc

module _ (hs : List Happening) where
  -- ---- by the cause

  -- a departure departs itself
  pub departs_here : (h : Happening) (t : ℕ) → IsDeparture h.note.body → time_of h ≡ t → HasDeparted hs h t
  departs_here h t is at = record { first = h; back = record { causes = []; chain = tt; begins = refl }; departs = is; at = at }

  -- what is no departure goes back to one by its cause
  by_cause : (h first : Happening) (causes : List Happening) (t : ℕ) → (IsDeparture h.note.body → ⊥) → IsChain hs h causes → first ≡ last_from h causes
      → IsDeparture first.note.body → time_of first ≡ t
      → (g : Happening) × (numbered hs (cause_of h.note.body) ≡ Some g) × HasDeparted hs g t
  by_cause h first [] t not chain begins departs at = absurd (not (subst (λ (x : Happening). IsDeparture x.note.body) begins departs))
  by_cause h first (g ∷ causes) t not chain begins departs at =
      (g, chain.0, record { first = first; back = record { causes = causes; chain = chain.1; begins = begins }; departs = departs; at = at })

  -- a record without a cause that is no departure goes back to none
  pub departs_never : (h : Happening) → (IsDeparture h.note.body → ⊥) → cause_of h.note.body ≡ 0 → IsDepartureOf hs h None
  departs_never h not none t has =
      let by = by_cause h has.first has.back.causes t not has.back.chain has.back.begins has.departs has.at in
      none_at_zero hs (cause_of h.note.body) by.0 none by.1

  -- any other goes back where its cause does
  pub departs_by : (h g : Happening) (departure : Option ℕ) → (IsDeparture h.note.body → ⊥) → numbered hs (cause_of h.note.body) ≡ Some g
      → IsDepartureOf hs g departure → IsDepartureOf hs h departure
  departs_by h g None not there none = λ t has.
      let by = by_cause h has.first has.back.causes t not has.back.chain has.back.begins has.departs has.at in
      let same : by.0 ≡ g = some_same by.0 g (numbered hs (cause_of h.note.body)) by.1 there in
      none t (subst (λ x. HasDeparted hs x t) same by.2)
  departs_by h g (Some t) not there has = record {
    first = has.first;
    back = record { causes = g ∷ has.back.causes; chain = (there, has.back.chain); begins = has.back.begins };
    departs = has.departs;
    at = has.at;
  }

  -- ---- there is one

  one_chain : (h first last : Happening) (xs ys : List Happening) → IsChain hs h xs → IsChain hs h ys → first ≡ last_from h xs → last ≡ last_from h ys
      → IsDeparture first.note.body → IsDeparture last.note.body → first ≡ last
  one_chain h first last [] [] c d begins ends is its = begins ∙ sym ends
  one_chain h first last [] (y ∷ ys) c d begins ends is its =
      absurd (none_at_zero hs (cause_of h.note.body) y (no_cause h.note.body (subst (λ (x : Happening). IsDeparture x.note.body) begins is)) d.0)
  one_chain h first last (x ∷ xs) [] c d begins ends is its =
      absurd (none_at_zero hs (cause_of h.note.body) x (no_cause h.note.body (subst (λ (z : Happening). IsDeparture z.note.body) ends its)) c.0)
  one_chain h first last (x ∷ xs) (y ∷ ys) c d begins ends is its =
      let same : y ≡ x = some_same y x (numbered hs (cause_of h.note.body)) d.0 c.0 in
      one_chain x first last xs ys c.1 (subst (λ z. IsChain hs z ys) same d.1) begins
      (ends ∙ ap (λ z. last_from z ys) same) is its

  pub departed_once : (h : Happening) (t u : ℕ) → HasDeparted hs h t → HasDeparted hs h u → t ≡ u
  departed_once h t u a b =
      let same = one_chain h a.first b.first a.back.causes b.back.causes a.back.chain b.back.chain a.back.begins b.back.begins a.departs b.departs in
      sym a.at ∙ ap time_of same ∙ b.at

  -- ---- arrivals

  -- the arrival that the record tells
  pub arrival_is : (h : Happening) (departure : Option ℕ) (body : NoteBody) → h.note.body ≡ body → IsDepartureOf hs h departure
      → IsArrivalBy hs h (arrival_by departure (time_of h) body)
  arrival_is h (Some left) (notes.Delivered device link cause vl cycle) is has =
      record { link = link; cause = cause; cycle = cycle; is = is; left = left; departed = has; time = refl }
  arrival_is h None body is none = λ other has. none has.left has.departed
  arrival_is h (Some left) body is has = λ other told.
      let e : body ≡ notes.Delivered other.device told.link told.cause other.vl told.cycle = sym is ∙ told.is in
      absurd cc

  abbrev made : VlId → DeviceId → ℕ → FrameArrival
  made vl device time = record { vl = vl; device = device; time = time }

  same_names : (a b : FrameArrival) (link from : LinkId) (cause before cycle of : ℕ) → notes.Delivered a.device link cause a.vl cycle
      ≡ notes.Delivered b.device from before b.vl of → (a.vl ≡ b.vl) × (a.device ≡ b.device)
  same_names a b link from cause before cycle of e = (cc, cc)

  -- a record tells one
  pub arrival_once : (h : Happening) (a b : Option FrameArrival) → IsArrivalBy hs h a → IsArrivalBy hs h b → a ≡ b
  arrival_once h None None none empty = refl
  arrival_once h None (Some b) none is = absurd (none b is)
  arrival_once h (Some a) None is none = absurd (none a is)
  arrival_once h (Some a) (Some b) is its =
      let names = same_names a b is.link its.link is.cause its.cause is.cycle its.cycle (sym is.is ∙ its.is) in
      let left = departed_once h is.left its.left is.departed its.departed in
      let time : a.time ≡ b.time = is.time ∙ ap (λ t. time_of h - t) left ∙ sym its.time in
      ap (λ (x : FrameArrival). Some x) (ap (λ v. made v a.device a.time) names.0 ∙ ap (λ d. made b.vl d a.time) names.1
      ∙ ap (λ t. made b.vl b.device t) time)

-- ---- what is kept of the records so far, and of one more

-- the records of a report are linked
pub report_linked : {network : Network} {octets : List ℕ} {ns : List Note} {end : Units} → IsNamed network
    → IsReportOf network octets ns end → AreLinked (happenings network ns)
report_linked {network} {ns} {end} named r =
    let s = scenario_of network ns in
    let hs = happenings network ns in
    let run = audit_run ns end named r.events.right r.run in
    (gap_law s (behind_time end) hs ((audit_laws s (behind_time end) hs).run.0 run).0).linked

-- what is kept for the records so far holds of the last one too
at_more : (P : Happening → Option ℕ → Type 0) (hs : List Happening) (kept : List (Option ℕ)) (h : Happening) (departure : Option ℕ)
    → length kept ≡ length hs → ((i : ℕ) (g : Happening) → slice_get hs i ≡ Some g → P g (option_and_then (λ (o : Option ℕ). o) (slice_get kept i)))
    → P h departure → (i : ℕ) (g : Happening) → slice_get (hs ++ h ∷ []) i ≡ Some g
    → P g (option_and_then (λ (o : Option ℕ). o) (slice_get (kept ++ departure ∷ []) i))
at_more P [] [] h departure count all is zero g e = let same : h ≡ g = cc in subst (λ (x : Happening). P x departure) same is
at_more P [] [] h departure count all is (suc i) g e = absurd cc
at_more P [] (k ∷ kept) h departure count all is i g e = absurd (omega (arith, count))
at_more P (x ∷ hs) [] h departure count all is i g e = absurd (omega (arith, count))
at_more P (x ∷ hs) (k ∷ kept) h departure count all is zero g e = all zero g e
at_more P (x ∷ hs) (k ∷ kept) h departure count all is (suc i) g e =
    at_more P hs kept h departure (omega (arith, count)) (λ j f there. all (suc j) f there) is i g e

-- the same by numbers
numbered_more : (P : Happening → Option ℕ → Type 0) (hs : List Happening) (kept : List (Option ℕ)) (h : Happening) (departure : Option ℕ)
    → length kept ≡ length hs → ((n : ℕ) (g : Happening) → numbered hs n ≡ Some g → P g (departure_at kept n)) → P h departure
    → (n : ℕ) (g : Happening) → numbered (hs ++ h ∷ []) n ≡ Some g → P g (departure_at (kept ++ departure ∷ []) n)
numbered_more P hs kept h departure count all is zero g e = absurd cc
numbered_more P hs kept h departure count all is (suc i) g e = at_more P hs kept h departure count (λ j f there. all (suc j) f there) is i g e

module _ (network : Network) (ns before : List Note) where
  abbrev hs : List Happening
  hs = happenings network ns

  abbrev earlier : List Happening
  earlier = happenings network before

  pub followed_none : (kept : List (Option ℕ)) (arrivals : List FrameArrival) → kept ≡ [] → arrivals ≡ [] → IsFollowed network ns [] kept arrivals
  followed_none kept arrivals none empty = record { count = ap length none; departures = λ n h there. absurd (none_numbered n h there); told = empty }

  -- the departure of the next record
  next_departure : (note : Note) (kept : List (Option ℕ)) (gs : List Happening) → hs ≡ earlier ++ happening network earlier note ∷ gs
      → HasCause earlier (happening network earlier note)
      → ((n : ℕ) (g : Happening) → numbered earlier n ≡ Some g → IsDepartureOf hs g (departure_at kept n))
      → IsDepartureOf hs (happening network earlier note) (departure_by kept (amount note.time) note.body)
  next_departure note kept gs whole linked all = by (happening network earlier note) (is_departure note.body) refl refl whole linked
    where
      by : (h : Happening) (b : Bool) → h ≡ happening network earlier note → is_departure note.body ≡ b → hs ≡ earlier ++ h ∷ gs → HasCause earlier h
          → IsDepartureOf hs h (if b then Some (amount note.time) else departure_at kept (cause_of note.body))
      by h true same is parts cause =
          let body : note.body ≡ h.note.body = sym (ap (λ (x : Happening). x.note.body) same) in
          departs_here hs h (amount note.time) (subst IsDeparture body (tells_departure note.body is)) (ap time_of same)
      by h false same is parts cause =
          let body : note.body ≡ h.note.body = sym (ap (λ (x : Happening). x.note.body) same) in
          let not = denies_departure h.note.body (ap is_departure (sym body) ∙ is) in
          let causes : cause_of h.note.body ≡ cause_of note.body = ap cause_of (sym body) in
          elim cause [
            | inl none ↦
                subst (λ n. IsDepartureOf hs h (departure_at kept n)) (sym none ∙ causes) (departs_never hs h not none)
            | inr given ↦
                let there = subst (λ xs. numbered xs (cause_of h.note.body) ≡ Some given.0) (sym parts)
                (numbered_front earlier (h ∷ gs) (cause_of h.note.body) given.0 given.1) in
                subst (λ n. IsDepartureOf hs h (departure_at kept n)) causes
                (departs_by hs h given.0 (departure_at kept (cause_of h.note.body)) not there (all (cause_of h.note.body) given.0 given.1))
          ]

  pub followed_more : (octets : List ℕ) (note : Note) (kept : List (Option ℕ)) (arrivals : List FrameArrival) → IsNamed network
      → IsNextOf network octets ns before note → IsFollowed network ns before kept arrivals
      → IsFollowed network ns (before ++ note ∷ []) (kept ++ departure_by kept (amount note.time) note.body ∷ [])
      (arrivals ++ cons_option (arrival_by (departure_by kept (amount note.time) note.body) (amount note.time) note.body) [])
  followed_more octets note kept arrivals named next so =
      let h = happening network earlier note in
      let departure = departure_by kept (amount note.time) note.body in
      let whole = happening_there network ns before next.rest note next.parts in
      let linked = report_linked named next.report earlier whole.0 h whole.1 in
      let is = next_departure note kept whole.0 whole.1 linked so.departures in
      let more = sym (one_more network before note) in
      let many = as_many network before in
      let before_count = so.count in
      let count = length-append kept (departure ∷ []) in
      let longer = length-append before (note ∷ []) in
      record {
        count = omega (arith, before_count, count, longer);
        departures =
            subst (λ xs. (n : ℕ) (g : Happening) → numbered xs n ≡ Some g → IsDepartureOf hs g (departure_at (kept ++ departure ∷ []) n))
            more (numbered_more (IsDepartureOf hs) earlier kept h departure (omega (arith, many, before_count)) so.departures is);
        told =
            subst (λ xs. AreGiven (IsArrivalBy hs) xs (arrivals ++ cons_option (arrival_by departure (amount note.time) note.body) []))
            more
            (given_more (IsArrivalBy hs) earlier arrivals h (arrival_by departure (amount note.time) note.body) so.told
            (arrival_is hs h departure note.body refl is));
      }
