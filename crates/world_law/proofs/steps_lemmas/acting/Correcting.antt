-- A device has come to its correction point, or joined by its own frame: the instant is over for it.
use Rattle.std.proofs.{Common.Contains, lemmas.Bool.and_from}
use Rattle.compression.proofs.Growth.{int_le-false}
use Rattle.run_law.{proofs.law.FirstDeliveries.in_filter}
use Rattle.run_law.specs.{control.Corrections.next_cycle, device.LocalClocks.local_at_change}
use Rattle.run_law.specs.{machines.Answers.{after_correction, with_corrected}, records.Frames.integration_frame}
use Rattle.sync_state.{proofs.VerdictLemmas.{no_longer, no_point}, specs.Standing.IsAtIntegration}
use Rattle.world_law.proofs.{acts.Acting.{beyond_it, next_turn}, devices.Standing.{left_alike, tell_alike}}
use Rattle.world_law.proofs.{runs.Foremost.unmoved_by}
use Rattle.tte_units.proofs.general_lemmas.Integers.{ahead_yet, int_le-from, int_lt-from}
use Rattle.world_law.{specs.device.{Left.IsCounted, Own.{IsStill, borne}}}
use Rattle.world_law.proofs.devices.Unmoved
use Unmoved.{adjustment_still, cleared_still, cycle_still, integration_still, local_still, started_still, state_still}
use Rattle.world_law.proofs.steps_lemmas.Words
use Words.{if◌then◌else◌, ◌&&◌, ◌++◌, ◌+ℤ◌, ◌+◌, ◌-ℤ◌, ◌-◌, ◌<ℤ◌, ◌<◌, ◌||◌, ◌∙◌, ◌∷◌, ◌≡◌, ◌≤ℤ◌, ◌≤◌, ◌⊎◌, AreClusters}
use Words.{Bool, Cleared, ClockTask, Compressed, Contains-push_cases, DeviceId, Happening, HasCleared, HasDoneFrom}
use Words.{HasSentFrom, Integrating, IsDeedOf, IsIn, IsLeft, IsUndone, IsWaiting, Joining, List, Moment, Network, Node}
use Words.{None, NoneBefore, NoteBody, Scenario, Some, State, Summary, Synchronised, Units, Verdict, Why, [], acting}
use Words.{adjustment_before, adjustment_by, after_last, amount, and_right, ap, append-nil, append_assoc, arith}
use Words.{bears_on, behind_no, behind_yes, by_last, called, cases_Bool, cases_lt, change_still, changed_at}
use Words.{changes_adjustment, correcting, correction_value, dispatching, doing, earlier, ends_stretch, eq-eqb, false}
use Words.{filter, filter-append, filter_map, has_cleared, hearing_by, in_left, in_right, inl, inr, int_lt}
use Words.{integration_cycle, ints, is_broken, is_cm, is_integration_cycle, is_synchronised, is_timed, is_turned_on_at}
use Words.{moves, nat_lt, no_cluster, none_in, none_kept, not, not_turned_on, observation_window, option_map_or}
use Words.{place_of, plan_of, point_number, pos, rank, reading_for, recorded_cycle, refl, self, sending, state_by}
use Words.{subst, sym, time_of, true, value_of, waiting_alike, with_clique, with_joined, ℕ, ℤ}
use Rattle.world_law.proofs.steps_lemmas.acting.{Over.IsOver, Work.{IsAtWork, IsPutAs, node_emitted}}
use Rattle.world_law.proofs.steps_lemmas.acting.Points
use Points.{IsBase, IsCorrectedSo, change_counts, change_leaves, changed_by, cliques, corrects, joiner_corrects, joins}
use Points.{one_earlier}
use Rattle.run_law.specs.declared.judgement.Judgement.TheVariants as judgements
use Rattle.run_law.specs.declared.judgement.Why.TheVariants as whys
use Rattle.run_law.specs.declared.note.NoteBody.TheVariants as kinds

-- ---- a device that has come to its correction point: the instant is over for it

-- ---- where it stands at the next unit of time, without the record

next_least : (b : Bool) (n : ℕ) → n ≤ (if b then n + 1 else n)
next_least true n = omega arith
next_least false n = omega arith

pub still_now : {s : Scenario} {hs zs : List Happening} {now : ℕ} {device : DeviceId} {node : Node}
    → IsAtWork s hs zs now device node → is_turned_on_at s device now ≡ false
    → IsStill (hs ++ zs) device now (now + 1)
still_now {s} {now} {device} w off h i from lt =
    unmoved_by s device now h.note.body off (w.still h i (omega arith))

pub base_then : {s : Scenario} {hs zs : List Happening} {now : ℕ} {device : DeviceId} {node : Node}
    → IsAtWork s hs zs now device node → is_turned_on_at s device now ≡ false
    → is_broken s device (now + 1) ≡ is_broken s device now → IsBase s (hs ++ zs) device (now + 1) node
base_then w off same =
    grind (
      arith,
      still_now,
      cycle_still,
      not_turned_on,
      state_still,
      adjustment_still,
      integration_still,
      next_least,
      recorded_cycle,
      earlier,
      local_still,
      started_still,
    )

-- ---- the record among those to come

-- what does not move the device, and stands behind all frames of the instant, does not bear on it
bears_none : (device : DeviceId) (body : NoteBody) → 5 ≤ rank body → moves device body ≡ false → bears_on device body ≡ false
bears_none device (kinds.State other state cause why) late still = still
bears_none device other late still = grind arith

pub none_bear : {s : Scenario} {hs : List Happening} (front back : List Happening) {now : ℕ} {device : DeviceId}
    {node : Node} (w : Happening) → IsAtWork s hs (front ++ back) now device node
    → is_turned_on_at s device now ≡ false → time_of w ≡ now → 5 ≤ rank w.note.body
    → NoneBefore place_of back (place_of w) → (z : Happening) → IsIn z back → bears_on device z.note.body ≡ false
none_bear front back w work off at late none z i = grind (arith, in_right, bears_none, cases_lt, rank, unmoved_by)

pub one_in : (q : Happening → Bool) (w : Happening) (back : List Happening) → filter q back ≡ [] → filter q (w ∷ back) ≡ filter q (w ∷ [])
one_in q w back none = filter-append q (w ∷ []) back ∙ ap (λ l. filter q (w ∷ []) ++ l) none ∙ append-nil
    (filter q (w ∷ []))

two_in : (q : Happening → Bool) (hs front back : List Happening) → filter q back ≡ [] → filter q (hs ++ (front ++ back)) ≡ filter q hs ++ filter q front
two_in q hs front back none = grind (arith, filter-append, filter, append-nil)

-- behind it nothing bears on the device, so it might stand at the end
pub borne_in : (hs front back : List Happening) (device : DeviceId) (w : Happening) → ((z : Happening) → IsIn z back → bears_on device z.note.body ≡ false)
    → borne device ((hs ++ (front ++ back)) ++ w ∷ []) ≡ borne device (hs ++ (front ++ w ∷ back))
borne_in hs front back device w none = grind (arith, bears_on, none_kept, filter-append, filter, two_in, append_assoc, one_in)

-- the same of two records
pub borne_two : (hs front mid rest : List Happening) (device : DeviceId) (w f : Happening)
    → ((z : Happening) → IsIn z (mid ++ rest) → bears_on device z.note.body ≡ false)
    → borne device (((hs ++ (front ++ (mid ++ rest))) ++ w ∷ []) ++ f ∷ []) ≡ borne device (hs ++ (front ++ w ∷ (mid ++ f ∷ rest)))
borne_two hs front mid rest device w f none =
    let q = λ (h : Happening). bears_on device h.note.body in
    let gone = none_kept q mid (λ z i. none z (in_left z mid rest i)) in
    let left = none_kept q rest (λ z i. none z (in_right z mid rest i)) in
    filter-append q ((hs ++ (front ++ (mid ++ rest))) ++ w ∷ []) (f ∷ [])
    ∙ ap (λ l. l ++ filter q (f ∷ [])) (borne_in hs front (mid ++ rest) device w none
    ∙ filter-append q hs (front ++ w ∷ (mid ++ rest))
    ∙ ap (λ l. filter q hs ++ l) (filter-append q front (w ∷ (mid ++ rest))
    ∙ ap (λ l. filter q front ++ l)
    (one_in q w (mid ++ rest) (filter-append q mid rest ∙ ap (λ l. l ++ filter q rest) gone ∙ left))))
    ∙ append_assoc (filter q hs) (filter q front ++ filter q (w ∷ [])) (filter q (f ∷ []))
    ∙ ap (λ l. filter q hs ++ l) (append_assoc (filter q front) (filter q (w ∷ [])) (filter q (f ∷ [])))
    ∙ sym (filter-append q hs (front ++ w ∷ (mid ++ f ∷ rest))
    ∙ ap (λ l. filter q hs ++ l) (filter-append q front (w ∷ (mid ++ f ∷ rest))
    ∙ ap (λ l. filter q front ++ l) (filter-append q (w ∷ []) (mid ++ f ∷ rest)
    ∙ ap (λ l. filter q (w ∷ []) ++ l) (filter-append q mid (f ∷ rest) ∙ ap (λ l. l ++ filter q (f ∷ rest)) gone
    ∙ one_in q f rest left))))

-- ---- what it has done and sent then

pub left_called : {s : Scenario} {js : List Happening} {device : DeviceId} {u : ℕ} {node : Node} (moment : Moment)
    → IsLeft s js device u node → IsLeft s js device u (called moment acting node)
left_called moment left = grind arith

-- it corrects its clock at the time: all counts from then on
pub corrects_it : (network : Network) (reading : ℕ → ℕ) (device : DeviceId) (node : Node) (t : ℕ) (moment : Moment) (heard : Summary) (by : Units)
    → moment.reading.0 ≡ pos (reading t) → HasDoneFrom network reading device (called moment acting (with_corrected node moment heard by)) t (t + 1) (t + 1)
corrects_it network reading device node t moment heard by reads = record {
  undone = λ deed u x from lt.
      let same : t ≡ x = omega arith in
      let here = rw reads at (ahead_yet moment.reading.0 (node.standing.adjustment.0 +ℤ by.0) _ (value_of network deed)
      refl u.ahead) in
      rw same at here;
  done = λ deed there. absurd (none_in deed there);
}

module _ {s : Scenario} {device : DeviceId} {node : Node} where
  kept_so : (b : Bool) {now : ℕ} {sent : Compressed} (clusters : List _) (cluster : _)
      → is_cm s.network device ≡ true → AreClusters (observation_window s.network)
      (if b then node.points else []) clusters → Contains clusters cluster
      → sent ≡ Rattle.compression.specs.Emission.compressed (observation_window s.network)
      (pos (Rattle.tte_units.specs.Amount.amount s.network.calc)) cluster
      → (Contains (if b then node.emitted else []) sent → ⊥)
      → ((c : Compressed) → IsWaiting s.network device node c → pos (s.reading device now) <ℤ c.at.0)
      → HasSentFrom s device node now (now + 1) → (x : ℕ) → x < now + 1 → pos (s.reading device x) <ℤ sent.at.0
  kept_so true {now} {sent} clusters cluster cm are there is not_yet none has x lt =
      let waits : IsWaiting s.network device node sent = record {
        cm = cm;
        clusters = clusters;
        are = are;
        cluster = cluster;
        there = there;
        is = is;
        not_yet = not_yet;
      } in
      elim (cases_lt x now) [
        | inl before ↦ has.unsent sent waits x before
        | inr ge ↦ let at : x ≡ now = omega arith in rw at (none sent waits)
      ]
  kept_so false clusters cluster cm are there is not_yet none has x lt =
      absurd (no_cluster (observation_window s.network) clusters cluster are there)

  kept_sent : (b : Bool) {now : ℕ} (sent : Compressed) → HasSentFrom s device node now (now + 1)
      → Contains (if b then node.emitted else []) sent → (x : ℕ) × (x < now + 1)
      × (sent.at.0 ≤ℤ pos (s.reading device x))
  kept_sent true sent has there = has.sent sent there
  kept_sent false sent has there = absurd (none_in sent there)

  -- none of its frames is due, as those come before a correction
  pub corrected_sent : {now : ℕ} (moment : Moment) (heard : Summary) (by : Units)
      → HasSentFrom s device node now (now + 1) → ((c : Compressed) → IsWaiting s.network device node c
      → pos (s.reading device now) <ℤ c.at.0) → HasSentFrom s device
      (called moment acting (with_corrected node moment heard by)) (now + 1) (now + 1)
  corrected_sent moment heard by has none = record {
    unsent = λ c u x lt. kept_so (is_synchronised node.standing.state) u.clusters u.cluster u.cm u.are u.there u.is
        u.not_yet none has x lt;
    sent = λ c there. kept_sent (is_synchronised node.standing.state) c has there;
  }

-- ---- it has corrected its clock

pub corrected_over : {s : Scenario} {hs : List Happening} (front back : List Happening) {now : ℕ} {device : DeviceId}
    {node : Node} {w : Happening} {cycle : ℕ} {by adjustment : Units} {moment : Moment} (heard : Summary)
    → IsAtWork s hs (front ++ back) now device node → is_turned_on_at s device now ≡ false
    → is_turned_on_at s device (now + 1) ≡ false → is_broken s device (now + 1) ≡ is_broken s device now
    → IsPutAs now w → NoneBefore place_of back (place_of w)
    → IsCorrectedSo s device (now + 1) node w cycle by adjustment moment → node.standing.state ≡ Synchronised
    → ((c : Compressed) → IsWaiting s.network device node c → pos (s.reading device now) <ℤ c.at.0)
    → IsOver s (hs ++ (front ++ w ∷ back)) now device (called moment acting (with_corrected node moment heard by))
corrected_over {s} {hs} front back {now} {device} {node} {w} {cycle} {by} {adjustment} {moment} heard work off later
    same p none so synchronised quiet =
    let after = called moment acting (with_corrected node moment heard by) in
    let old = hs ++ (front ++ back) in
    let base = base_then work off same in
    let bears = none_bear front back w work off p.at (rw so.body (omega arith)) none in
    let borne_so = borne_in hs front back device w bears in
    let changes : Rattle.run_law.specs.device.LocalClocks.changes_adjustment device w.note.body ≡ true =
    ap (Rattle.run_law.specs.device.LocalClocks.changes_adjustment device) so.body ∙ Rattle.std.proofs.lemmas.Bool.eq-eqb device.0 device.0 refl in
    let at =
    sym (tell_alike s (old ++ w ∷ []) (hs ++ (front ++ w ∷ back)) device (now + 1) borne_so).change
    ∙ ap (Rattle.world_law.specs.device.Told.change_in device) (one_earlier (now + 1) old w so.before)
    ∙ changed_by device (earlier (now + 1) old) w changes ∙ p.at in
    let reads = so.reads ∙ ap (λ n. pos (s.reading device n)) p.at in
    record {
      left = left_called moment
          (left_alike (hs ++ (front ++ w ∷ back)) borne_so
          (corrects heard so synchronised later base));
      done = rw at (corrects_it s.network (s.reading device) device node now moment heard by reads);
      sent = corrected_sent moment heard by work.sent quiet;
    }

-- ---- a joiner has its first correction

pub joiner_over : {s : Scenario} {hs : List Happening} (front mid rest : List Happening) {now : ℕ}
    {device : DeviceId} {node : Node} {w : Happening} (f : Happening) {cycle : ℕ} (cause : ℕ) {by adjustment : Units}
    {moment : Moment} (heard : Summary) → IsAtWork s hs (front ++ (mid ++ rest)) now device node
    → is_turned_on_at s device now ≡ false → is_turned_on_at s device (now + 1) ≡ false
    → is_broken s device (now + 1) ≡ is_broken s device now → time_of w ≡ now
    → NoneBefore place_of (mid ++ rest) (place_of w) → IsCorrectedSo s device
    (now + 1) node w cycle by adjustment moment → node.standing.state ≡ Joining
    → f.note.body ≡ kinds.State device Synchronised cause whys.Correction → time_of f < now + 1
    → ((c : Compressed) → IsWaiting s.network device node c → pos (s.reading device now) <ℤ c.at.0)
    → IsOver s (hs ++ (front ++ w ∷ (mid ++ f ∷ rest))) now device
    (called moment acting (with_corrected node moment heard by))
joiner_over {s} {hs} front mid rest {now} {device} {node} {w} f cause {by} {moment} heard work off later same at none
    so joining e lt quiet =
    let after = called moment acting (with_corrected node moment heard by) in
    let old = hs ++ (front ++ (mid ++ rest)) in
    let whole = hs ++ (front ++ w ∷ (mid ++ f ∷ rest)) in
    let base = base_then work off same in
    let bears = none_bear front (mid ++ rest) w work off at (rw so.body (omega arith)) none in
    let borne_so = borne_two hs front mid rest device w f bears in
    let changes : Rattle.run_law.specs.device.LocalClocks.changes_adjustment device w.note.body ≡ true =
    ap (Rattle.run_law.specs.device.LocalClocks.changes_adjustment device) so.body ∙ Rattle.std.proofs.lemmas.Bool.eq-eqb device.0 device.0 refl in
    let no_change : Rattle.run_law.specs.device.LocalClocks.changes_adjustment device f.note.body ≡ false =
    ap (Rattle.run_law.specs.device.LocalClocks.changes_adjustment device) e in
    let changed =
    sym (tell_alike s ((old ++ w ∷ []) ++ f ∷ []) whole device (now + 1) borne_so).change
    ∙ ap (Rattle.world_law.specs.device.Told.change_in device) (one_earlier (now + 1) (old ++ w ∷ []) f lt)
    ∙ ap (λ l. Rattle.std.specs.Option.option_map_or time_of (Rattle.std.specs.List.last_or None l) 0)
    (Rattle.world_law.proofs.lists.Lists.filter_no (λ g. Rattle.run_law.specs.device.LocalClocks.changes_adjustment device g.note.body)
    (earlier (now + 1) (old ++ w ∷ [])) f no_change)
    ∙ ap (Rattle.world_law.specs.device.Told.change_in device) (one_earlier (now + 1) old w so.before)
    ∙ changed_by device (earlier (now + 1) old) w changes ∙ at in
    let reads = so.reads ∙ ap (λ n. pos (s.reading device n)) at in
    record {
      left = left_called moment
          (left_alike whole borne_so
          (joiner_corrects f cause heard so joining later e lt base));
      done = rw changed (corrects_it s.network (s.reading device) device node now moment heard by reads);
      sent = corrected_sent moment heard by work.sent quiet;
    }

-- ---- it has found itself outside the others

pub no_deed : (network : Network) (device : DeviceId) (node : Node) (deed : ClockTask) → node.standing.state ≡ Integrating → IsDeedOf network device node deed
    → ⊥
no_deed network device node (sending cycle) is own = no_longer (sym is ∙ own.1)
no_deed network device node (correcting cycle) is own = no_point node.standing.state node.standing.number cycle is own
no_deed network device node (dispatching row cycle) is own = no_longer (sym is ∙ own.0)

module _ {s : Scenario} (hs front back : List Happening) {now : ℕ} {device : DeviceId} {node : Node} {w : Happening}
    (cause : ℕ) (why : Why) where
  -- its adjustment changed last when it did before
  pub clique_change : IsAtWork s hs (front ++ back) now device node → is_turned_on_at s device now ≡ false
      → IsPutAs now w → NoneBefore place_of back (place_of w) → w.note.body ≡ kinds.State device Integrating cause why
      → changed_at (hs ++ (front ++ w ∷ back)) device (now + 1) ≡ changed_at (hs ++ (front ++ back)) device now
  clique_change work off p none e =
      let old = hs ++ (front ++ back) in
      let five : 5 ≤ rank w.note.body = rw e (omega arith) in
      let bears = none_bear front back w work off p.at five none in
      let lt : time_of w < now + 1 = let at = p.at in omega arith in
      sym (tell_alike s (old ++ w ∷ []) (hs ++ (front ++ w ∷ back)) device (now + 1)
      (borne_in hs front back device w bears)).change
      ∙ ap (Rattle.world_law.specs.device.Told.change_in device) (one_earlier (now + 1) old w lt)
      ∙ ap (λ l. Rattle.std.specs.Option.option_map_or time_of
      (Rattle.std.specs.List.last_or None l) 0)
      (Rattle.world_law.proofs.lists.Lists.filter_no
      (λ g. Rattle.run_law.specs.device.LocalClocks.changes_adjustment device g.note.body)
      (earlier (now + 1) old) w (ap (Rattle.run_law.specs.device.LocalClocks.changes_adjustment device) e))
      ∙ change_still old device now (now + 1) (omega arith) (still_now work off)

  pub clique_over : (moment : Moment) (heard : Summary) (verdict : Verdict)
      → IsAtWork s hs (front ++ back) now device node → is_turned_on_at s device now ≡ false
      → is_turned_on_at s device (now + 1) ≡ false → is_broken s device (now + 1) ≡ is_broken s device now
      → IsPutAs now w → NoneBefore place_of back (place_of w) → state_by node.standing.state verdict ≡ Integrating
      → adjustment_by node.standing.adjustment verdict ≡ node.standing.adjustment
      → w.note.body ≡ kinds.State device Integrating cause why
      → ends_stretch device (kinds.State device Integrating cause why) ≡ true
      → IsOver s (hs ++ (front ++ w ∷ back)) now device (called moment acting (with_clique node heard verdict))
  clique_over moment heard verdict work off later same p none lost kept e ends =
      let after = called moment acting (with_clique node heard verdict) in
      let old = hs ++ (front ++ back) in
      let base = base_then work off same in
      let five : 5 ≤ rank w.note.body = rw e (omega arith) in
      let bears = none_bear front back w work off p.at five none in
      let lt : time_of w < now + 1 = let at = p.at in omega arith in
      let change = clique_change work off p none e in
      record {
        left = left_called moment
            (left_alike (hs ++ (front ++ w ∷ back)) (borne_in hs front back device w bears)
            (cliques w cause why heard verdict lost kept e ends lt later base));
        done = record {
          undone = λ deed u x from lt. absurd (no_deed s.network device after deed lost u.own);
          done = λ deed there.
              let x = work.done.done deed there in (
                x.0,
                omega (arith, x.1),
                x.2,
                rw kept x.3,
              );
        };
        sent = record {
          unsent = λ c u x lt. absurd (no_cluster (observation_window s.network) u.clusters u.cluster u.are u.there);
          sent = λ c there. absurd (none_in c there);
        };
      }

-- ---- a joiner that comes to the correction point of the cycle by whose frame it joined clears what it has heard

pub in_behind : (p : Happening → Bool) (js : List Happening) (h : Happening) → IsIn h (after_last p js) → IsIn h js
in_behind p js =
    by_last (λ l. (h : Happening) → IsIn h (after_last p l) → IsIn h l) (λ h i. i) (λ l x same h i.
    elim (cases_Bool (p x)) [
      | inl passes ↦ absurd (rw (behind_yes p l x passes) at i)
      | inr stays ↦ elim
          (Rattle.run_law.proofs.runs.Places.in_parts h (after_last p l) (x ∷ []) (rw (behind_no p l x stays) at i)) [
            | inl old ↦ in_left h l (x ∷ []) (same h old)
            | inr new ↦ Rattle.run_law.proofs.runs.Places.in_right h l (x ∷ []) new
          ]
    ]) js

-- the joiner before it clears: its next point is that of the cycle by which it joined
pub record IsClearing (s : Scenario) (js : List Happening) (now : ℕ) (device : DeviceId) (node : Node) : Type 0 where
  pub number : node.standing.number ≡ recorded_cycle (earlier now js) device
  pub joining : is_integration_cycle (earlier now js) device ≡ true

number_is : (b : Bool) (number recorded : ℕ) → number ≡ (if b then recorded + 1 else recorded) → number ≤ recorded → number ≡ recorded
number_is true number recorded e le = absurd (omega arith)
number_is false number recorded e le = e

pub is_clearing : {s : Scenario} {js : List Happening} {now : ℕ} {device : DeviceId} {node : Node}
    → IsLeft s js device now node → IsAtIntegration node.standing → IsClearing s js now device node
is_clearing left at =
    grind (arith, is_timed, integration_cycle, earlier, recorded_cycle, number_is, has_cleared, option_map_or, eq-eqb)

back_there : (v a : ℤ) (r : ℕ) → (v -ℤ a) ≤ℤ pos r → v ≤ℤ (pos r +ℤ a)
back_there v a r le = omega (arith, ints)

below_there : (v a : ℤ) (r : ℕ) → pos r <ℤ (v -ℤ a) → (pos r +ℤ a) <ℤ v
below_there v a r lt = omega (arith, ints)

below_more : (v a : ℤ) (r m : ℕ) → (pos m +ℤ a) <ℤ v → r ≤ m → (pos r +ℤ a) <ℤ v
below_more v a r m lt le = omega (arith, ints)

pub cleared_over : {s : Scenario} {hs zs : List Happening} {now : ℕ} {device : DeviceId} {node : Node} (cycle : ℕ)
    (moment : Moment) (heard : Summary) → IsAtWork s hs zs now device node → is_turned_on_at s device now ≡ false
    → is_turned_on_at s device (now + 1) ≡ false → is_broken s device (now + 1) ≡ is_broken s device now
    → ((x y : ℕ) → x ≤ y → s.reading device x ≤ s.reading device y) → HasCleared node → IsAtIntegration node.standing
    → IsUndone s.network device node (correcting cycle)
    → reading_for s.network node (doing (correcting cycle)) ≤ℤ pos (s.reading device now)
    → pos (s.reading device now) <ℤ (reading_for s.network node (doing (correcting cycle)) +ℤ s.network.precision.0)
    → s.network.precision.0 ≤ℤ pos (amount s.network.cycle)
    → ((c : Compressed) → IsWaiting s.network device node c → pos (s.reading device now) <ℤ c.at.0)
    → IsOver s (hs ++ zs) now device (called moment acting (after_correction node moment heard cycle Cleared))
cleared_over {s} {hs} {zs} {now} {device} {node} cycle moment heard w off later same falls has at u due in_time wide
    quiet =
    let js = hs ++ zs in
    let le : now ≤ now + 1 = omega arith in
    let still = still_now w off in
    let base = base_then w off same in
    let c = is_clearing w.left at in
    let number : node.standing.number ≡ cycle = (point_number node.standing.state node.standing.number cycle u.own).1 in
    let v = correction_value s.network (recorded_cycle (earlier now js) device) in
    let same_v : correction_value s.network cycle ≡ v = ap (correction_value s.network) (sym number ∙ c.number) in
    let adjustment = (adjustment_before s js device now).0 in
    let ahead : local_at_change s js device now <ℤ v = rw same_v at (rw w.left.counted.changed at u.ahead) in
    let reached : v ≤ℤ (pos (s.reading device now) +ℤ adjustment) =
    rw same_v at (back_there (correction_value s.network cycle) adjustment (s.reading device now)
    (rw w.left.counted.adjustment at due)) in
    let here : now + 1 - 1 ≡ now = omega arith in
    let came = and_from _ _ c.joining (and_from _ _ (int_lt-from _ _ ahead)
    (rw here (int_le-from _ _ reached))) in
    let cleared = cleared_still s js device now (now + 1) (now + 1) le still ∙ came in
    let below : (x : ℕ) → (x < now) ⊎ (x ≤ changed_at js device now) → (pos (s.reading device x) +ℤ adjustment) <ℤ v = λ x early.
    elim (cases_lt x (changed_at js device now)) [
      | inl sooner ↦ below_more v adjustment (s.reading device x) (s.reading device (changed_at js device now)) ahead
          (falls x (changed_at js device now) (omega arith))
      | inr from ↦ elim early [
        | inr upto ↦ below_more v adjustment (s.reading device x) (s.reading device (changed_at js device now)) ahead (falls x (changed_at js device now) upto)
        | inl lt ↦ rw same_v at (below_there (correction_value s.network cycle) adjustment (s.reading device x)
            (rw w.left.counted.adjustment at (w.done.undone (correcting cycle) u x from lt)))
      ]
    ] in
    let not_then : (t : ℕ) → t ≤ now → has_cleared s js device now t ≡ false = λ t upto.
    let early : (t - 1 < now) ⊎ (t - 1 ≤ changed_at js device now) = elim (cases_lt 0 t) [
      | inl some ↦ inl (omega arith)
      | inr none ↦ inr (omega arith)
    ] in
    and_right (is_integration_cycle (earlier now js) device) _ (and_right (int_lt (local_at_change s js device now) v) _
    (int_le-false _ _ (below (t - 1) early))) in
    let f = λ (h : Happening). hearing_by s.network device h h.note.body in
    let p = λ (h : Happening). nat_lt (time_of h) (now + 1) && changes_adjustment device h.note.body in
    let k = λ (h : Happening). not (has_cleared s js device (now + 1) (now + 1)) || has_cleared s js device (now + 1) (time_of h) in
    let gone = none_kept k (after_last p js) (λ h i.
    rw cleared
    (cleared_still s js device now (now + 1) (time_of h) le still ∙ not_then (time_of h)
    (w.past h (in_behind p js h i)))) in
    let next : next_cycle s js device (now + 1) ≡ node.standing.number + 1 =
    rw cleared
    (ap (λ n. n + 1) (cycle_still js device now (now + 1) le still ∙ sym c.number)) in
    let after = called moment acting (after_correction node moment heard cycle Cleared) in
    let change = change_still js device now (now + 1) le still in
    let upto = Rattle.world_law.proofs.steps_lemmas.acting.Kept.changed_soon js device now in
    record {
      left = record {
        counted = record {
          plan = base.plan;
          adjustment = base.adjustment;
          integrated = base.integrated;
          number = λ timed. sym next;
          changed = base.changed;
          heard = λ timed. sym (ap (filter_map f) gone);
          started = base.started;
          broken = base.broken;
        };
        state = base.state ∙ sym (not_turned_on s js device (now + 1) later);
        points = base.points;
      };
      done = record {
        undone = λ deed un x from lt. not_due after deed un x lt number;
        done = λ deed there. elim (Contains-push_cases node.done (correcting cycle) deed there) [
          | inl old ↦ let x = w.done.done deed old in (x.0, omega (arith, x.1), x.2, x.3)
          | inr is ↦ (
            now,
            omega arith,
            omega arith,
            rw (sym is) due,
          )
        ];
      };
      sent = record {
        unsent = λ d wa x lt.
            let waits = waiting_alike s.network device node after refl (λ e there. there) wa in
            elim (cases_lt x now) [
              | inl before ↦ w.sent.unsent d waits x before
              | inr ge ↦ let at_now : x ≡ now = omega arith in rw at_now (quiet d waits)
            ];
        sent = w.sent.sent;
      };
    }
  where
    after_it : Node
    after_it = called moment acting (after_correction node moment heard cycle Cleared)

    other_state : Joining ≡ Synchronised → ⊥
    other_state e = cc

    not_due : (after : Node) (deed : ClockTask) → IsUndone s.network device after_it deed → (x : ℕ) → x < now + 1 → node.standing.number ≡ cycle
        → pos (s.reading device x) <ℤ (value_of s.network deed -ℤ node.standing.adjustment.0)
    not_due after (sending n) un x lt number = absurd (other_state (sym at.joining ∙ un.own.1))
    not_due after (dispatching row n) un x lt number = absurd (other_state (sym at.joining ∙ un.own.0))
    not_due after (correcting n) un x lt number =
        let one : node.standing.number + 1 ≡ n = (point_number node.standing.state (node.standing.number + 1) n un.own).1 in
        let turn =
        next_turn (amount s.network.cycle) (amount s.network.correction) cycle n node.standing.adjustment.0 (pos (s.reading device now)) s.network.precision.0
        (omega arith) in_time wide in
        let fell = falls x now (omega (arith, lt)) in
        omega (arith, ints)

-- and what it has cleared is earlier than its next point
pub cleared_more : (node : Node) {cycle : ℕ} (moment : Moment) (heard : Summary) → node.standing.number ≡ cycle
    → HasCleared node
    → HasCleared (called moment acting (after_correction node moment heard cycle Cleared))
cleared_more node {cycle} moment heard number has n there =
    elim (Contains-push_cases node.done (correcting cycle) (correcting n) there) [
      | inl old ↦ let less = has n old in omega arith
      | inr is ↦ let e : cycle ≡ n = cc in omega arith
    ]

-- ---- a compression master that its own frame has told the time: the instant is over for it

-- the record changes the device's state
pub record ChangesIt (device : DeviceId) (u : ℕ) (h : Happening) : Type 0 where
  pub state : State
  pub cause : ℕ
  pub why : Why
  pub is : h.note.body ≡ kinds.State device state cause why
  pub before : time_of h < u

-- such records tell nothing else of it
counts_on : {s : Scenario} {js : List Happening} {device : DeviceId} {u : ℕ} {node : Node} (ks : List Happening)
    → ((k : Happening) → IsIn k ks → ChangesIt device u k) → IsCounted s js device u node
    → IsCounted s (js ++ ks) device u node
counts_on {s} {js} {device} {u} {node} ks =
    by_last (λ l. ((k : Happening) → IsIn k l → ChangesIt device u k) → IsCounted s js device u node → IsCounted s
    (js ++ l) device u node)
    (λ all c. rw (append-nil js) c)
    (λ l k same all c.
    let it = all k (Rattle.run_law.proofs.runs.Places.in_right k l (k ∷ []) (inl refl)) in
    rw (append_assoc js l (k ∷ [])) at (change_counts (js ++ l) k it.state it.cause it.why it.is it.before
    (same (λ y i. all y (Rattle.run_law.proofs.runs.Places.in_left y l (k ∷ []) i)) c))) ks

twice : {X : Type 0} (q : X → Bool) (xs : List X) → filter q (filter q xs) ≡ filter q xs
twice q [] = refl
twice {X} q (x ∷ xs) = grind (arith, cases_Bool, filter, (twice q xs))

-- the records that bear on the device, of those with its frame and its state between them
borne_joined : (hs front mid rest : List Happening) (device : DeviceId) (w f : Happening)
    → ((z : Happening) → IsIn z rest → bears_on device z.note.body ≡ false)
    → borne device ((((hs ++ front) ++ w ∷ []) ++ borne device mid) ++ f ∷ []) ≡ borne device (hs ++ (front ++ w ∷ (mid ++ f ∷ rest)))
borne_joined hs front mid rest device w f none =
    let q = λ (h : Happening). bears_on device h.note.body in
    let left = none_kept q rest none in
    let m = filter q mid in
    let a = filter q hs in
    let b = filter q front in
    let c = filter q (w ∷ []) in
    let d = filter q (f ∷ []) in
    filter-append q (((hs ++ front) ++ w ∷ []) ++ m) (f ∷ [])
    ∙ ap (λ l. l ++ d) (filter-append q ((hs ++ front) ++ w ∷ []) m
    ∙ ap (λ l. l ++ filter q m) (filter-append q (hs ++ front) (w ∷ []) ∙ ap (λ l. l ++ c) (filter-append q hs front))
    ∙ ap (λ l. ((a ++ b) ++ c) ++ l) (twice q mid))
    ∙ append_assoc ((a ++ b) ++ c) m d
    ∙ append_assoc (a ++ b) c (m ++ d)
    ∙ append_assoc a b (c ++ (m ++ d))
    ∙ sym (filter-append q hs (front ++ w ∷ (mid ++ f ∷ rest))
    ∙ ap (λ l. a ++ l) (filter-append q front (w ∷ (mid ++ f ∷ rest))
    ∙ ap (λ l. b ++ l) (filter-append q (w ∷ []) (mid ++ f ∷ rest)
    ∙ ap (λ l. c ++ l) (filter-append q mid (f ∷ rest) ∙ ap (λ l. m ++ l) (one_in q f rest left)))))

-- what is behind the frame bears on the device only as a change of its state, and nothing does behind the new state
pub joined_over : (s : Scenario) (hs front mid rest : List Happening) (now : ℕ) (device : DeviceId) (node : Node) (w f : Happening) (sent : Compressed)
    (cause : ℕ) (moment : Moment)
    → node.standing.plan ≡ plan_of s.network device → node.broken ≡ is_broken s device (now + 1) → is_turned_on_at s device (now + 1) ≡ false
    → ((x y : ℕ) → x ≤ y → s.reading device x ≤ s.reading device y) → moment.reading.0 ≡ pos (s.reading device now)
    → time_of w ≡ now → time_of f ≡ now
    → w.note.body ≡ kinds.Compressed device sent.opened sent.at sent.cycle sent.members judgements.Integrates
    → w.frame ≡ Some (integration_frame s.network device sent.cycle sent.members) → f.note.body ≡ kinds.State device Joining cause whys.Frame
    → ((z : Happening) → IsIn z mid → bears_on device z.note.body ≡ true → ChangesIt device (now + 1) z)
    → ((z : Happening) → IsIn z rest → bears_on device z.note.body ≡ false)
    → IsOver s (hs ++ (front ++ w ∷ (mid ++ f ∷ rest))) now device (node_emitted s.network device node moment sent judgements.Integrates)
joined_over s hs front mid rest now device node w f sent cause moment plan sound later falls reads at f_at e of_frame fe between none =
    let frame = integration_frame s.network device sent.cycle sent.members in
    let u = now + 1 in
    let lone = with_joined node moment frame sent.at in
    let first : IsLeft s ((hs ++ front) ++ w ∷ []) device u lone =
    joins {s = s} (hs ++ front) {device = device} {u = u} node {h = w} {opened = sent.opened} {cycle = sent.cycle} {members = sent.members} {point = sent.at} {frame = frame} {moment = moment}
    (record {
      body = e;
      same_cycle = refl;
      of_frame = of_frame;
      before = rw (sym at);
      reads = reads ∙ (rw (sym at));
    }) later plan sound in
    let ks = borne device mid in
    let changes : (k : Happening) → IsIn k ks → ChangesIt device u k = λ k i.
    between k (in_filter (λ h. bears_on device h.note.body) mid k i) (kept mid k i) in
    let counted = counts_on ks changes first.counted in
    let lt : time_of f < u = omega arith in
    let whole : IsLeft s ((((hs ++ front) ++ w ∷ []) ++ ks) ++ f ∷ []) device u lone =
    change_leaves (((hs ++ front) ++ w ∷ []) ++ ks) f Joining cause whys.Frame fe (self device) lt later refl
    (λ cm. refl)
    (change_counts (((hs ++ front) ++ w ∷ []) ++ ks) f Joining cause whys.Frame fe lt counted) in
    record {
      left = emitted_left (left_called moment
          (left_alike (hs ++ (front ++ w ∷ (mid ++ f ∷ rest)))
          (borne_joined hs front mid rest device w f none) whole));
      done = record {
        undone = λ deed un x from lt_x.
            let now_too = subst
            (λ z. z <ℤ (value_of s.network deed -ℤ (node_emitted s.network device node moment sent judgements.Integrates).standing.adjustment.0))
            reads (beyond_it _ _ _ _ refl un.ahead) in
            later_below _ (s.reading device now) (s.reading device x) now_too (falls x now (omega arith));
        done = λ deed there. absurd (none_in deed there);
      };
      sent = record {
        unsent = λ c wa x lt_x. absurd (no_cluster (observation_window s.network) wa.clusters wa.cluster wa.are wa.there);
        sent = λ c there. absurd (none_in c there);
      };
    }
  where
    later_below : (z : ℤ) (m r : ℕ) → pos m <ℤ z → r ≤ m → pos r <ℤ z
    later_below z m r lt le = omega (arith, ints)

    kept : (xs : List Happening) (k : Happening) → IsIn k (borne device xs) → bears_on device k.note.body ≡ true
    kept [] k i = absurd i
    kept (x ∷ xs) k i = elim (cases_Bool (bears_on device x.note.body)) [
      | inl yes_it ↦ elim (rw (ap (λ (b : Bool). if b then x ∷ borne device xs else borne device xs) yes_it) at i) [
        | inl same ↦ rw same yes_it
        | inr more ↦ kept xs k more
      ]
      | inr not ↦ kept xs k (rw (ap (λ (b : Bool). if b then x ∷ borne device xs else borne device xs) not) at i)
    ]

    emitted_left : IsLeft s (hs ++ (front ++ w ∷ (mid ++ f ∷ rest))) device (now + 1)
        (called moment acting (with_joined node moment (integration_frame s.network device sent.cycle sent.members) sent.at))
        → IsLeft s (hs ++ (front ++ w ∷ (mid ++ f ∷ rest))) device (now + 1) (node_emitted s.network device node moment sent judgements.Integrates)
    emitted_left left = record {
      counted = record {
        plan = left.counted.plan;
        adjustment = left.counted.adjustment;
        integrated = left.counted.integrated;
        number = left.counted.number;
        changed = left.counted.changed;
        heard = left.counted.heard;
        started = left.counted.started;
        broken = left.counted.broken;
      };
      state = left.state;
      points = left.points;
    }
