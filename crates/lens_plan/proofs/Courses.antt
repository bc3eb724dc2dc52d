-- The rows of messages that are placed, from their first attempts, and the courses by which they lead.
use Rattle.std.{specs.{List.{All, Contains}, Option.option_map_or}}
use Rattle.std.proofs.Common
use Common.{◌++◌, ◌+◌, ◌<◌, ◌∙◌, ◌∷◌, ◌≡◌, ◌≤◌, ◌⊎◌, IsSomeAnd, List, None, Option, Some, [], ap, append_assoc, arith}
use Common.{false, get_or, inl, inr, length, refl, slice_get, subst, suc, sym, true, zero, ℕ}
use Rattle.std.proofs.lemmas.{Bool.{cases_Bool, false≢true}}
use Rattle.std.proofs.lemmas.List.{append-nil, length-append}
use Rattle.std.proofs.lemmas.List.Elements.{All-append, All-cons, All-nil, Contains-append_left, Contains-append_right}
use Rattle.lens_plan.proofs.Attempts.{AreAlike, after, after_more, way_rows_one}
use Rattle.lens_plan.proofs.{Leading.{cut, none_down, none_up, on_behind, on_first, rest_of, way_down, way_up}}
use Rattle.lens_plan.specs.{messages.{Message.Message, Values.is_end}}
use Rattle.lens_plan.specs.declared.places.{best.Attempt.Attempt, offsets.Taken.Taken}
use Rattle.lens_plan.specs.declared.places.{placing.{Placed.Placed, Trial.Trial}, ways.Hop.Hop}
use Rattle.lens_plan.specs.places.{Fitting.{HasPlace, HavePlaces}, Offsets.StandsClear}
use Rattle.lens_plan.specs.places.{Placing.{IsPlacedAt, IsPlacedWay, end_of, slot_of}, There.{AreFirst, taken_by}}
use Rattle.lens_plan.specs.places.{Ways.{down_hops, hop_by, is_on, up_hops}}
use Rattle.net_plan.{proofs.Trees.{followed, paths_are_unique}}
use Rattle.net_plan.specs.{Bounds.gamma_of, Paths.{IsPath, IsTree}}
use Rattle.net_plan.specs.{Places.{IsCmOf, IsEndSystem, IsSwitchOf, device_at, is_end_system, link_at}}
use Rattle.net_plan.specs.declared.{ids.{DeviceId.DeviceId, LinkId.LinkId}, network.Network.Network}
use Rattle.net_plan.specs.declared.tables.{Device.Device, Link.Link, Role.{Role, TheVariants.Cm}}
use Rattle.net_plan.specs.declared.tables.{Way.{TheVariants.{Down, Up}, Way}}
use Rattle.schedule_tables.specs.{Entries.{IsEntry, source_by, target_by}, declared.entry.Entry.Entry}
use Rattle.tte_units.{proofs.general_lemmas.{Lists.pushed, Options.{at_known, closed, opened, some_same}}}
use Rattle.tte_units.{specs.declared.frames.channel.Channel.Channel}

-- ---- the rows of a message that is placed lead from its sender by the ways of the trees: lists by their ends

end_of_list : {X : Type 0} (xs : List X) → (xs ≡ []) ⊎ ((front : List X) × (x : X) × (xs ≡ front ++ x ∷ []))
end_of_list [] = inl refl
end_of_list (x ∷ xs) =
    elim (end_of_list xs) [
      | inl none ↦ inr ([], x, ap (λ (ys : List _). x ∷ ys) none)
      | inr some ↦ inr (x ∷ some.0, some.1, ap (λ (ys : List _). x ∷ ys) some.2)
    ]

abbrev first_or : {X : Type 0} → X → List X → X
first_or d [] = d
first_or d (x ∷ xs) = x

abbrev tail_of : {X : Type 0} → List X → List X
tail_of [] = []
tail_of (x ∷ xs) = xs

first_one : {X : Type 0} (x y : X) (xs ys : List X) → x ∷ xs ≡ y ∷ ys → x ≡ y
first_one x y xs ys same = ap (first_or x) same

tail_one : {X : Type 0} (x y : X) (xs ys : List X) → x ∷ xs ≡ y ∷ ys → xs ≡ ys
tail_one x y xs ys same = ap tail_of same

-- lists that are one have one end
ends_one : {X : Type 0} (xs ys : List X) (x y : X) → xs ++ x ∷ [] ≡ ys ++ y ∷ [] → (xs ≡ ys) × (x ≡ y)
ends_one [] [] x y same = (refl, first_one x y [] [] same)
ends_one [] (z ∷ ys) x y same = absurd (omega (arith, ap length same, length-append ys (y ∷ [])))
ends_one (z ∷ xs) [] x y same = absurd (omega (arith, ap length same, length-append xs (x ∷ [])))
ends_one {X} (z ∷ xs) (w ∷ ys) x y same =
    let rest = ends_one xs ys x y (tail_one z w (xs ++ x ∷ []) (ys ++ y ∷ []) same) in
    (ap (λ (v : X). v ∷ xs) (first_one z w (xs ++ x ∷ []) (ys ++ y ∷ []) same) ∙ ap (λ (vs : List X). w ∷ vs) rest.0, rest.1)

-- ---- rows placed along a way

placed_split : (trial : Trial) (start : ℕ) (hops : List Hop) (hop : Hop) (ps : List Placed) → IsPlacedWay trial start (hops ++ hop ∷ []) ps
    → (qs : List Placed) × (p : Placed) × (ps ≡ qs ++ p ∷ []) × IsPlacedWay trial start hops qs × IsPlacedAt trial (after start qs) hop p
placed_split trial start [] hop ps (p, others, at, none, same) =
    ([], p, same ∙ ap (λ (qs : List Placed). p ∷ qs) none, refl, at)
placed_split trial start (h ∷ hops) hop ps (q, others, at, rest, same) =
    let it = placed_split trial (q.end + 1) hops hop others rest in
    (q ∷ it.0, it.1, same ∙ ap (λ (qs : List Placed). q ∷ qs) it.2, (q, it.0, at, it.3, refl), it.4)

-- ---- the trees of a network

-- each channel is a tree, and has one compression master
pub record HasTrees (network : Network) : Type 0 where
  pub tree : IsTree network
  pub one_cm : (channel : Channel) (cm other : DeviceId) → IsCmOf network channel cm → IsCmOf network channel other → cm ≡ other

cm_no_end : (r : Role) → r ≡ Cm → is_end_system r ≡ true → ⊥
cm_no_end r e h = false≢true (subst (λ x. is_end_system x ≡ true) e h)

module _ (network : Network) (trees : HasTrees network) (channel : Channel) where
  -- a path is that of one device
  pub one_of_path : (d e : DeviceId) (links : List LinkId) → IsPath network channel d links → IsPath network channel e links → d ≡ e
  one_of_path d e [] one other = trees.one_cm channel d e one other
  one_of_path d e (link ∷ links) one other =
      let P = λ (x : DeviceId) (l : Link). (l.child ≡ x) × IsSwitchOf network channel l.parent × IsPath network channel l.parent links in
      let o = opened (P d) (link_at network link) one in
      let q = at_known (P e) (link_at network link) o.0 o.1 other in
      sym o.2.0 ∙ q.0

  no_cm : (d : DeviceId) → IsEndSystem network d → IsCmOf network channel d → ⊥
  no_cm d end cm =
      let o = opened (λ (x : Device). (x.role ≡ Cm) × (x.channel ≡ Some channel)) (device_at network d) cm in
      let there = at_known (λ (x : Device). is_end_system x.role ≡ true) (device_at network d) o.0 o.1 end in
      cm_no_end o.0.role o.2.0 there

  -- ---- steps of the way from a device to others

  module _ (sender : DeviceId) (from : List LinkId) (path : IsPath network channel sender from) where
    abbrev pub way_to : List LinkId → List Hop
    way_to to = up_hops to from ++ down_hops from to

    -- the last row of the way to a device with this path
    pub record IsStep (to : List LinkId) : Type 0 where
      pub hop : Hop
      pub link : Link
      pub at : link_at network hop.link ≡ Some link
      pub on : IsSwitchOf network channel link.parent
      pub target : IsPath network channel (target_by hop.way link) to
      pub earlier : List LinkId
      pub source : IsPath network channel (source_by hop.way link) earlier
      pub way : way_to to ≡ way_to earlier ++ hop ∷ []
      pub kind : ((hop.way ≡ Up) × (is_on from hop.link ≡ true) × (earlier ≡ hop.link ∷ to))
          ⊎ ((hop.way ≡ Down) × (is_on from hop.link ≡ false) × (to ≡ hop.link ∷ earlier))

    step_down : (d : DeviceId) (link : LinkId) (rest : List LinkId) → IsPath network channel d (link ∷ rest) → is_on from link ≡ false → IsStep (link ∷ rest)
    step_down d link rest own off =
        let P = λ (l : Link). (l.child ≡ d) × IsSwitchOf network channel l.parent × IsPath network channel l.parent rest in
        let o = opened P (link_at network link) own in
        record {
          hop = hop_by Down link;
          link = o.0;
          at = o.1;
          on = o.2.1;
          target = subst (λ x. IsPath network channel x (link ∷ rest)) (sym o.2.0) own;
          earlier = rest;
          source = o.2.2;
          way = way_down network channel trees.tree from link rest off;
          kind = inr (refl, off, refl);
        }

    step_up : (front : List LinkId) (link : LinkId) (to : List LinkId) → from ≡ front ++ link ∷ to → is_on from link ≡ true → IsStep to
    step_up front link to is on =
        let own = rest_of network channel trees.tree sender front link to (subst (IsPath network channel sender) is path) in
        let P = λ (l : Link). (l.child ≡ own.0) × IsSwitchOf network channel l.parent × IsPath network channel l.parent to in
        let o = opened P (link_at network link) own.1 in
        record {
          hop = hop_by Up link;
          link = o.0;
          at = o.1;
          on = o.2.1;
          target = o.2.2;
          earlier = link ∷ to;
          source = subst (λ x. IsPath network channel x (link ∷ to)) (sym o.2.0) own.1;
          way = way_up network channel trees.tree sender own.0 from link to path own.1 on;
          kind = inl (refl, on, refl);
        }

    -- a front of the sender's path ends before the device's
    by_front : (to front : List LinkId) → from ≡ front ++ to → (to ≡ from) ⊎ IsStep to
    by_front to front is =
        elim (end_of_list front) [
          | inl none ↦ inl (sym (is ∙ ap (λ (ls : List LinkId). ls ++ to) none))
          | inr (before, link, some) ↦
              let whole : from ≡ before ++ link ∷ to =
              is ∙ ap (λ (ls : List LinkId). ls ++ to) some ∙ append_assoc before (link ∷ []) to in
              inr (step_up before link to whole (on_it before link to whole))
        ]
      where
        on_it : (before : List LinkId) (link : LinkId) (rest : List LinkId) → from ≡ before ++ link ∷ rest → is_on from link ≡ true
        on_it before link rest whole =
            ap (λ ls. is_on ls link) whole ∙ on_behind before link (link ∷ rest) (on_first link rest)

    -- the way to a device is none, or that to another and a step
    pub step_to : (d : DeviceId) (to : List LinkId) → IsPath network channel d to → (to ≡ from) ⊎ IsStep to
    step_to d [] own = by_front [] from (sym (append-nil from))
    step_to d (link ∷ rest) own =
        elim (cases_Bool (is_on from link)) [
          | inr off ↦ inr (step_down d link rest own off)
          | inl on ↦
              let c = cut network channel trees.tree sender d from link rest path own on in
              by_front (link ∷ rest) c.front c.is
        ]

    none_to_self : way_to from ≡ []
    none_to_self =
        ap (λ (hs : List Hop). hs ++ down_hops from from) (none_up from from (λ l is. is)) ∙ none_down from from (λ l is. is)

    -- ---- the rows of the way

    module _ (trial : Trial) (start : ℕ) where
      -- the row leaves the sender, or a device that the one before it enters
      abbrev pub IsBehind : Placed → Link → List Placed → Type 0
      IsBehind p link before =
          ((source_by p.hop.way link ≡ sender) × (start ≤ p.offset) × (before ≡ []))
          ⊎ ((q : Placed) × (of_q : Link) × (qs : List Placed) × (before ≡ qs ++ q ∷ []) × (link_at network q.hop.link ≡ Some of_q)
          × (target_by q.hop.way of_q ≡ source_by p.hop.way link) × IsSwitchOf network channel (source_by p.hop.way link) × (q.end < p.offset))

      -- the row is the last of the way to the device that it enters
      pub record IsCourse (p : Placed) : Type 0 where
        pub link : Link
        pub at : link_at network p.hop.link ≡ Some link
        pub on : IsSwitchOf network channel link.parent
        pub to : List LinkId
        pub target : IsPath network channel (target_by p.hop.way link) to
        pub before : List Placed
        pub placed : IsPlacedWay trial start (way_to to) (before ++ p ∷ [])
        pub behind : IsBehind p link before
        pub clear : StandsClear (gamma_of trial.network.now) (slot_of trial p.hop) p.offset trial.rows.now
        pub end : p.end ≡ end_of trial p.hop p.offset
        pub kind : ((p.hop.way ≡ Up) × (is_on from p.hop.link ≡ true)) ⊎ ((p.hop.way ≡ Down) × (is_on from p.hop.link ≡ false))

      module _ (end_no_switch : IsSwitchOf network channel sender → ⊥) where
        source_is : (to : List LinkId) (s : IsStep to) (p : Placed) → p.hop ≡ s.hop → source_by p.hop.way s.link ≡ source_by s.hop.way s.link
        source_is to s p is = ap (λ (h : Hop). source_by h.way s.link) is

        -- the device that a step leaves from a row is a switch
        between : (to : List LinkId) (s : IsStep to) → IsStep s.earlier → IsSwitchOf network channel (source_by s.hop.way s.link)
        between to s before = by s.kind before.kind
          where
            there : target_by before.hop.way before.link ≡ source_by s.hop.way s.link
            there = one_of_path (target_by before.hop.way before.link) (source_by s.hop.way s.link) s.earlier before.target s.source

            by : ((s.hop.way ≡ Up) × (is_on from s.hop.link ≡ true) × (s.earlier ≡ s.hop.link ∷ to))
                ⊎ ((s.hop.way ≡ Down) × (is_on from s.hop.link ≡ false) × (to ≡ s.hop.link ∷ s.earlier))
                → ((before.hop.way ≡ Up) × (is_on from before.hop.link ≡ true) × (before.earlier ≡ before.hop.link ∷ s.earlier))
                ⊎ ((before.hop.way ≡ Down) × (is_on from before.hop.link ≡ false) × (s.earlier ≡ before.hop.link ∷ before.earlier))
                → IsSwitchOf network channel (source_by s.hop.way s.link)
            by (inr (down, off, rest)) other =
                subst (λ w. IsSwitchOf network channel (source_by w s.link)) (sym down) s.on
            by (inl (up, on, rest)) (inl (too, also, more)) =
                subst (IsSwitchOf network channel) there (subst (λ w. IsSwitchOf network channel (target_by w before.link)) (sym too) before.on)
            by (inl (up, on, rest)) (inr (down, off, more)) =
                let same = first_one s.hop.link before.hop.link to before.earlier (sym rest ∙ more) in
                absurd (false≢true (sym off ∙ (ap (is_on from) (sym same) ∙ on)))

        behind_of : (to : List LinkId) (s : IsStep to) (qs : List Placed) (p : Placed) → IsPlacedWay trial start (way_to s.earlier) qs
            → IsPlacedAt trial (after start qs) s.hop p → IsBehind p s.link qs
        behind_of to s qs p placed at =
            let source = source_is to s p at.is in
            let late = at.offset.not_before in
            elim (step_to (source_by s.hop.way s.link) s.earlier s.source) [
              | inl same ↦
                  let none : qs ≡ [] = subst (λ hs. IsPlacedWay trial start hs qs) (ap way_to same ∙ none_to_self) placed in
                  let sends = one_of_path (source_by s.hop.way s.link) sender from (subst (IsPath network channel (source_by s.hop.way s.link)) same s.source) path in
                  inl (source ∙ sends, subst (λ rs. after start rs ≤ p.offset) none late, none)
              | inr before ↦
                  let it = placed_split trial start (way_to before.earlier) before.hop qs (subst (λ hs. IsPlacedWay trial start hs qs) before.way placed) in
                  let q = it.1 in
                  let hop = it.4.is in
                  let there = one_of_path (target_by before.hop.way before.link) (source_by s.hop.way s.link) s.earlier before.target s.source in
                  let next = after_more start it.0 q in
                  let ends : after start qs ≡ q.end + 1 = ap (after start) it.2 ∙ next in
                  inr (
                    q,
                    before.link,
                    it.0,
                    it.2,
                    subst (λ (h : Hop). link_at network h.link ≡ Some before.link) (sym hop) before.at,
                    ap (λ (h : Hop). target_by h.way before.link) hop ∙ there ∙ sym source,
                    subst (IsSwitchOf network channel) (sym source) (between to s before),
                    (omega (arith, late, ends)),
                  )
            ]

        kind_of : (to : List LinkId) (s : IsStep to) (p : Placed) → p.hop ≡ s.hop
            → ((p.hop.way ≡ Up) × (is_on from p.hop.link ≡ true)) ⊎ ((p.hop.way ≡ Down) × (is_on from p.hop.link ≡ false))
        kind_of to s p is =
            let way = ap (λ (h : Hop). h.way) is in
            let on = ap (λ (h : Hop). is_on from h.link) is in
            elim s.kind [ inl (up, yes_on, rest) ↦ inl (way ∙ up, on ∙ yes_on) | inr (down, off, rest) ↦ inr (way ∙ down, on ∙ off) ]

        course_of : (to : List LinkId) (s : IsStep to) (qs : List Placed) (p : Placed) → IsPlacedWay trial start (way_to to) (qs ++ p ∷ [])
            → IsPlacedWay trial start (way_to s.earlier) qs → IsPlacedAt trial (after start qs) s.hop p → (c : IsCourse p) × (c.before ≡ qs)
        course_of to s qs p placed before at = (
          record {
            link = s.link;
            at = subst (λ (h : Hop). link_at network h.link ≡ Some s.link) (sym at.is) s.at;
            on = s.on;
            to = to;
            target = subst (λ (h : Hop). IsPath network channel (target_by h.way s.link) to) (sym at.is) s.target;
            before = qs;
            placed = placed;
            behind = behind_of to s qs p before at;
            clear = subst (λ h. StandsClear (gamma_of trial.network.now) (slot_of trial h) p.offset trial.rows.now) (sym at.is) at.offset.clear;
            end = at.end ∙ ap (λ h. end_of trial h p.offset) (sym at.is);
            kind = kind_of to s p at.is;
          },
          refl,
        )

        -- a row has its course, and the rows before it are among these
        pub record IsCourseIn (ps : List Placed) (p : Placed) : Type 0 where
          pub course : IsCourse p
          pub among : (q : Placed) → Contains course.before q → Contains ps q

        widened : (ps more xs : List Placed) → All (IsCourseIn ps) xs → All (IsCourseIn (ps ++ more)) xs
        widened ps more xs all k d within =
            let it = all k d within in
            record { course = it.course; among = λ q there. Contains-append_left ps more q (it.among q there) }

        -- each row of a way has its course
        pub courses : (n : ℕ) (d : DeviceId) (to : List LinkId) (ps : List Placed) → length (way_to to) < n → IsPath network channel d to
            → IsPlacedWay trial start (way_to to) ps → All (IsCourseIn ps) ps
        courses zero d to ps long own placed = absurd (omega (arith, long))
        courses (suc n) d to ps long own placed =
            elim (step_to d to own) [
              | inl same ↦
                  let none : ps ≡ [] = subst (λ hs. IsPlacedWay trial start hs ps) (ap way_to same ∙ none_to_self) placed in
                  subst (λ (xs : List Placed). All (IsCourseIn xs) xs) (sym none) (All-nil (IsCourseIn []))
              | inr s ↦
                  let it = placed_split trial start (way_to s.earlier) s.hop ps (subst (λ hs. IsPlacedWay trial start hs ps) s.way placed) in
                  let longer = ap length s.way in
                  let parts = length-append (way_to s.earlier) (s.hop ∷ []) in
                  let earlier = courses n (source_by s.hop.way s.link) s.earlier it.0 (omega (arith, long, longer, parts)) s.source it.3 in
                  let own_course = course_of to s it.0 it.1 (subst (IsPlacedWay trial start (way_to to)) it.2 placed) it.3 it.4 in
                  let In = IsCourseIn (it.0 ++ it.1 ∷ []) in
                  let here : In it.1 = record {
                    course = own_course.0;
                    among = λ q there. Contains-append_left it.0 (it.1 ∷ []) q (subst (λ (xs : List Placed). Contains xs q) own_course.1 there);
                  } in
                  subst (λ (xs : List Placed). All (IsCourseIn xs) xs) (sym it.2)
                  (All-append In it.0 (it.1 ∷ []) (widened it.0 (it.1 ∷ []) it.0 earlier) (All-cons In it.1 [] here (All-nil In)))
            ]

        -- the row enters the device, or a switch
        pub record EntersIt (d : DeviceId) (p : Placed) : Type 0 where
          pub link : Link
          pub at : link_at network p.hop.link ≡ Some link
          pub target : (target_by p.hop.way link ≡ d) ⊎ IsSwitchOf network channel (target_by p.hop.way link)

        to_switch : (d : DeviceId) (p : Placed) → IsSwitchOf network channel d → EntersIt d p → (e : DeviceId) → EntersIt e p
        to_switch d p switch enters e = record {
          link = enters.link;
          at = enters.at;
          target = elim enters.target [
            | inl same ↦ inr (subst (IsSwitchOf network channel) (sym same) switch)
            | inr other ↦ inr other
          ];
        }

        all_to_switch : (d e : DeviceId) (ps : List Placed) → IsSwitchOf network channel d → All (EntersIt d) ps → All (EntersIt e) ps
        all_to_switch d e ps switch all k p within = to_switch d (get_or ps k p) switch (all k p within) e

        -- each row of a way enters its device, or a switch
        pub targets : (n : ℕ) (d : DeviceId) (to : List LinkId) (ps : List Placed) → length (way_to to) < n → IsPath network channel d to
            → IsPlacedWay trial start (way_to to) ps → All (EntersIt d) ps
        targets zero d to ps long own placed = absurd (omega (arith, long))
        targets (suc n) d to ps long own placed =
            elim (step_to d to own) [
              | inl same ↦
                  let none : ps ≡ [] = subst (λ hs. IsPlacedWay trial start hs ps) (ap way_to same ∙ none_to_self) placed in
                  subst (All (EntersIt d)) (sym none) (All-nil (EntersIt d))
              | inr s ↦
                  let it = placed_split trial start (way_to s.earlier) s.hop ps (subst (λ hs. IsPlacedWay trial start hs ps) s.way placed) in
                  let longer = ap length s.way in
                  let parts = length-append (way_to s.earlier) (s.hop ∷ []) in
                  let source = source_by s.hop.way s.link in
                  let earlier = targets n source s.earlier it.0 (omega (arith, long, longer, parts)) s.source it.3 in
                  let there = one_of_path (target_by s.hop.way s.link) d to s.target own in
                  let here : EntersIt d it.1 = record {
                    link = s.link;
                    at = subst (λ (h : Hop). link_at network h.link ≡ Some s.link) (sym it.4.is) s.at;
                    target = inl (ap (λ (h : Hop). target_by h.way s.link) it.4.is ∙ there);
                  } in
                  let before : All (EntersIt d) it.0 = elim (behind_of to s it.0 it.1 it.3 it.4) [
                    | inl sends ↦ subst (All (EntersIt d)) (sym sends.2) (All-nil (EntersIt d))
                    | inr after ↦ all_to_switch source d it.0 (subst (IsSwitchOf network channel) (source_is to s it.1 it.4.is) after.6) earlier
                  ] in
                  subst (All (EntersIt d)) (sym it.2)
                  (All-append (EntersIt d) it.0 (it.1 ∷ []) before (All-cons (EntersIt d) it.1 [] here (All-nil (EntersIt d))))
            ]

        -- ---- rows of one link, or that enter one device

        alike : AreAlike trial trial
        alike = record { network = refl; message = refl; phase = refl; rows = refl }

        -- rows of one way to one device are one
        pub one_target : (p q : Placed) (one : IsCourse p) (other : IsCourse q)
            → target_by p.hop.way one.link ≡ target_by q.hop.way other.link → p ≡ q
        one_target p q one other same =
            let to = paths_are_unique network channel (target_by q.hop.way other.link) one.to other.to trees.tree
            (subst (λ d. IsPath network channel d one.to) same one.target) other.target in
            let rows = way_rows_one start start (way_to other.to) (one.before ++ p ∷ []) (other.before ++ q ∷ []) alike refl
            (subst (λ ls. IsPlacedWay trial start (way_to ls) (one.before ++ p ∷ [])) to one.placed) other.placed in
            (ends_one one.before other.before p q rows).1

        ways_one : (p q : Placed) → IsCourse p → IsCourse q → p.hop.link ≡ q.hop.link → p.hop.way ≡ q.hop.way
        ways_one p q one other link =
            by one.kind other.kind
          where
            by : ((p.hop.way ≡ Up) × (is_on from p.hop.link ≡ true)) ⊎ ((p.hop.way ≡ Down) × (is_on from p.hop.link ≡ false))
                → ((q.hop.way ≡ Up) × (is_on from q.hop.link ≡ true)) ⊎ ((q.hop.way ≡ Down) × (is_on from q.hop.link ≡ false))
                → p.hop.way ≡ q.hop.way
            by (inl a) (inl b) = a.0 ∙ sym b.0
            by (inr a) (inr b) = a.0 ∙ sym b.0
            by (inl a) (inr b) = absurd (false≢true (sym b.1 ∙ (ap (is_on from) (sym link) ∙ a.1)))
            by (inr a) (inl b) = absurd (false≢true (sym a.1 ∙ (ap (is_on from) link ∙ b.1)))

        -- and those by one link
        pub one_link : (p q : Placed) → IsCourse p → IsCourse q → p.hop.link ≡ q.hop.link → p ≡ q
        one_link p q one other link =
            let ways = ways_one p q one other link in
            let links = some_same one.link other.link (link_at network p.hop.link) one.at
            (subst (λ l. link_at network l ≡ Some other.link) (sym link) other.at) in
            one_target p q one other (ap (λ w. target_by w one.link) ways ∙ ap (λ l. target_by q.hop.way l) links)

        -- no row enters the sender
        pub not_to_sender : (p : Placed) (c : IsCourse p) → target_by p.hop.way c.link ≡ sender → ⊥
        not_to_sender p c same =
            elim c.kind [
              | inl up ↦ end_no_switch (subst (IsSwitchOf network channel) (sym (ap (λ w. target_by w c.link) up.0) ∙ same) c.on)
              | inr down ↦
                  let child : c.link.child ≡ sender = sym (ap (λ w. target_by w c.link) down.0) ∙ same in
                  let P = λ (l : Link). (l.child ≡ sender) × IsSwitchOf network channel l.parent in
                  let up = closed P (link_at network p.hop.link) c.link c.at (child, c.on) in
                  let it = followed channel sender p.hop.link c.link from trees.tree up c.at path in
                  let on : is_on from p.hop.link ≡ true = ap (λ ls. is_on ls p.hop.link) it.1 ∙ on_first p.hop.link it.0 in
                  false≢true (sym down.1 ∙ on)
            ]

        -- a row of the way enters the device
        pub record HasLast (d : DeviceId) (ps : List Placed) : Type 0 where
          pub front : List Placed
          pub p : Placed
          pub is : ps ≡ front ++ p ∷ []
          pub link : Link
          pub at : link_at network p.hop.link ≡ Some link
          pub on : IsSwitchOf network channel link.parent
          pub target : target_by p.hop.way link ≡ d

        pub reaches : (d : DeviceId) (to : List LinkId) (ps : List Placed) → (d ≡ sender → ⊥) → IsPath network channel d to
            → IsPlacedWay trial start (way_to to) ps → HasLast d ps
        reaches d to ps other own placed =
            elim (step_to d to own) [
              | inl same ↦ absurd (other (one_of_path d sender from (subst (IsPath network channel d) same own) path))
              | inr s ↦
                  let it = placed_split trial start (way_to s.earlier) s.hop ps (subst (λ hs. IsPlacedWay trial start hs ps) s.way placed) in
                  let there = one_of_path (target_by s.hop.way s.link) d to s.target own in
                  record {
                    front = it.0;
                    p = it.1;
                    is = it.2;
                    link = s.link;
                    at = subst (λ (h : Hop). link_at network h.link ≡ Some s.link) (sym it.4.is) s.at;
                    on = s.on;
                    target = ap (λ (h : Hop). target_by h.way s.link) it.4.is ∙ there;
                  }
            ]

        -- and one leaves the sender
        pub record HasFirst (ps : List Placed) : Type 0 where
          pub p : Placed
          pub there : Contains ps p
          pub link : Link
          pub at : link_at network p.hop.link ≡ Some link
          pub on : IsSwitchOf network channel link.parent
          pub source : source_by p.hop.way link ≡ sender

        longer : (ps : List Placed) (p : Placed) → HasFirst ps → HasFirst (ps ++ p ∷ [])
        longer ps p first = record {
          p = first.p;
          there = Contains-append_left ps (p ∷ []) first.p first.there;
          link = first.link;
          at = first.at;
          on = first.on;
          source = first.source;
        }

        pub sends : (n : ℕ) (d : DeviceId) (to : List LinkId) (ps : List Placed) → length (way_to to) < n → (d ≡ sender → ⊥)
            → IsPath network channel d to → IsPlacedWay trial start (way_to to) ps → HasFirst ps
        sends zero d to ps long other own placed = absurd (omega (arith, long))
        sends (suc n) d to ps long other own placed =
            elim (step_to d to own) [
              | inl same ↦ absurd (other (one_of_path d sender from (subst (IsPath network channel d) same own) path))
              | inr s ↦
                  let it = placed_split trial start (way_to s.earlier) s.hop ps (subst (λ hs. IsPlacedWay trial start hs ps) s.way placed) in
                  let more = ap length s.way in
                  let parts = length-append (way_to s.earlier) (s.hop ∷ []) in
                  let p = it.1 in
                  let source = source_is to s p it.4.is in
                  subst HasFirst (sym it.2) (elim (behind_of to s it.0 p it.3 it.4) [
                    | inl first ↦ record {
                      p = p;
                      there = Contains-append_right it.0 (p ∷ []) p (0, omega arith, refl);
                      link = s.link;
                      at = subst (λ (h : Hop). link_at network h.link ≡ Some s.link) (sym it.4.is) s.at;
                      on = s.on;
                      source = first.0;
                    }
                    | inr behind ↦ longer it.0 p
                        (sends n (source_by s.hop.way s.link) s.earlier it.0 (omega (arith, long, more, parts))
                        (λ same. end_no_switch (subst (IsSwitchOf network channel) (source ∙ same) behind.6)) s.source it.3)
                  ])
            ]

-- ---- a device that is tested to be an end system is one

end_by : (o : Option Device) → option_map_or (λ d. is_end_system d.role) o false ≡ true → IsSomeAnd o (λ d. is_end_system d.role ≡ true)
end_by None e = absurd (false≢true e)
end_by (Some d) e = e

pub end_is : (network : Network) (device : DeviceId) → is_end network device ≡ true → IsEndSystem network device
end_is network device e = end_by (device_at network device) e

-- ---- the first attempts of messages, one after another

pub places_more : {network : Network} {rows : List Taken} {ms : List Message} {n : ℕ} {old : List Attempt}
    (new : List Attempt) {m : Message} {a : Attempt} → HavePlaces network rows ms n old → slice_get ms n ≡ Some m
    → HasPlace network rows m a → new ≡ old ++ a ∷ [] → HavePlaces network rows ms (n + 1) new
places_more {network} {rows} {ms} {old} new {m} {a} before there has more = record {
  counted = let parts = ap length more in let all = length-append old (a ∷ []) in let counted = before.counted in omega (arith, parts, all, counted);
  each = λ k b at.
      elim (pushed old a b k (subst (λ (bs : List Attempt). slice_get bs k ≡ Some b) more at)) [
        | inl earlier ↦ before.each k b earlier
        | inr last ↦ (
          m,
          subst (λ (j : ℕ). slice_get ms j ≡ Some m) (sym (last.0 ∙ before.counted)) there,
          subst (HasPlace network rows m) last.1 has,
        )
      ];
}

-- ---- the rows that a network has, one after another

pub rows_more : {network : Network} {n : ℕ} {rows : List Taken} (new : List Taken) {entry : Entry} (row : Taken)
    → AreFirst network n rows → IsEntry network n entry → row ≡ taken_by entry → new ≡ rows ++ row ∷ []
    → AreFirst network (n + 1) new
rows_more {network} {rows} new {entry} row before is made more = record {
  counted = let parts = ap length more in let all = length-append rows (row ∷ []) in let old = before.counted in omega (arith, parts, all, old);
  each = λ place at there.
      elim (pushed rows row at place (subst (λ (rs : List Taken). slice_get rs place ≡ Some at) more there)) [
        | inl old ↦ before.each place at old
        | inr last ↦ (entry, subst (λ k. IsEntry network k entry) (sym (last.0 ∙ before.counted)) is, sym last.1 ∙ made)
      ];
}
