-- A record that the world gave is seen.
use Rattle.tte_observers.proofs.captures_lemmas.wires_lemmas.{Seen.{flush_failed, flushed, record_seen, record_stops}, Words.{time_of, ℕ}}
use Rattle.tte_observers.proofs.captures_lemmas.wires_lemmas.Words.{◌++◌, ◌+◌, ◌<◌, ◌∙◌, ◌∷◌, ◌≡◌, AllBefore, Capture, Event, ExactWorld, Happening, LinkId}
use Rattle.tte_observers.proofs.captures_lemmas.wires_lemmas.Words.{List, Network, None, Note, NoteBody, PutFails, PutFails-behind, PutsLines, PutsLines-append}
use Rattle.tte_observers.proofs.captures_lemmas.wires_lemmas.Words.{Scenario, SeesRecords, SeesWay, Start, StopsRecords, StopsWay, Told, Way, [], ap}
use Rattle.tte_observers.proofs.captures_lemmas.wires_lemmas.Words.{append-nil, arith, cons_option, false, filter_map-append, happenings, if◌then◌else◌}
use Rattle.tte_observers.proofs.captures_lemmas.wires_lemmas.Words.{is_sent_on, last_happening, one_more, option_map, packet_at, packet_of, packets_of}
use Rattle.tte_observers.proofs.captures_lemmas.wires_lemmas.Words.{place_of, rank, record_octets, refl, scenario_under, sent_packets, shown_as, subst, sym}
use Rattle.{tte_observers.specs.captures.wires.Packets.is_carried, world_drive.specs.{declared.observing.Cut.TheVariants.WriteFault, exact.Worlds.StandsExact}}
use Rattle.run_law.specs.declared.note.NoteBody.TheVariants as notes

module _ (s : Scenario) (link : LinkId) (way : Way) where
  -- a way carries it exactly where its device sends there
  pub carried_is : (t : ℕ) (body : NoteBody) → 1 < rank body
      → is_carried s link way t body ≡ is_sent_on s.network link way body
  carried_is t (notes.Event line what) high = absurd (omega (arith, high))
  carried_is t body high = refl

  -- where it does not, there is no packet
  pub not_carried : (z : Happening) → 1 < rank z.note.body → is_sent_on s.network link way z.note.body ≡ false
      → packets_of s link way (z ∷ []) ≡ []
  not_carried z high off =
      ap (λ b. cons_option (if b then option_map (packet_at (time_of z)) (record_octets z) else None) [])
      (carried_is (time_of z) z.note.body high ∙ off)

module _ (network : Network) (world : ExactWorld) (events : List Event) (notes : List Note) (note : Note) (start : Start Capture) (told : Told) (it : Capture)
    (stands : StandsExact network world events (notes ++ note ∷ [])) (high : 1 < rank note.body)
    (seen : SeesWay network events notes start told it) where
  abbrev z : Happening
  z = last_happening network notes note

  order : AllBefore place_of (happenings network notes) (place_of z)
  order = (stands.is.run.founded (happenings network notes) [] z (one_more network notes note)).0

  -- what waited is put, and then its own packet
  pub record_goes : (lines : List (List ℕ)) (mid last : Told) (new : Capture) → lines ≡ packets_of (scenario_under network events) it.link it.way (z ∷ [])
      → PutsLines (sent_packets it.cut it.time it.sends.items) (shown_as told) (shown_as mid) → PutsLines lines (shown_as mid) (shown_as last)
      → new.link ≡ it.link → new.way ≡ it.way → new.cut ≡ it.cut → new.time ≡ it.time → new.sends.items ≡ []
      → SeesWay network events (notes ++ note ∷ []) start last new
  record_goes lines mid last new own p q link way cut time none =
      let s = scenario_under network events in
      let xs = happenings network notes in
      let front = packets_of s it.link it.way xs in
      let joined : front ++ lines ≡ packets_of s it.link it.way (xs ++ z ∷ []) =
      ap (λ (l : List (List ℕ)). front ++ l) own ∙ sym (filter_map-append (packet_of s it.link it.way) xs (z ∷ [])) in
      let puts = subst (λ ls. PutsLines ls (shown_as start.told) (shown_as last)) joined
      (PutsLines-append (flushed network events xs start told it seen (shown_as mid) p) q) in
      subst (λ l. SeesRecords network events l start last new) (sym (one_more network notes note))
      (record_seen network events xs start told it seen z high order new last link way cut time none puts)

  -- the put of what waited fails
  pub record_fails_first : (last : Told) → PutFails (sent_packets it.cut it.time it.sends.items) (shown_as told) (shown_as last)
      → StopsWay network events (notes ++ note ∷ []) WriteFault start last
  record_fails_first last p =
      let xs = happenings network notes in
      subst (λ l. StopsRecords network events l WriteFault start last) (sym (one_more network notes note))
      (record_stops network events xs start told it seen z high order xs (z
      ∷ []) last refl (flush_failed network events xs start told it seen (shown_as last) p))

  -- that of its own packet fails
  pub record_fails_own : (lines : List (List ℕ)) (mid last : Told) → lines ≡ packets_of (scenario_under network events) it.link it.way (z ∷ [])
      → PutsLines (sent_packets it.cut it.time it.sends.items) (shown_as told) (shown_as mid) → PutFails lines (shown_as mid) (shown_as last)
      → StopsWay network events (notes ++ note ∷ []) WriteFault start last
  record_fails_own lines mid last own p q =
      let s = scenario_under network events in
      let xs = happenings network notes in
      let front = packets_of s it.link it.way xs in
      let joined : front ++ lines ≡ packets_of s it.link it.way (xs ++ z ∷ []) =
      ap (λ (l : List (List ℕ)). front ++ l) own ∙ sym (filter_map-append (packet_of s it.link it.way) xs (z ∷ [])) in
      let fails = subst (λ ls. PutFails ls (shown_as start.told) (shown_as last)) joined
      (PutFails-behind lines (shown_as last) (flushed network events xs start told it seen (shown_as mid) p) q) in
      subst (λ l. StopsRecords network events l WriteFault start last) (sym (one_more network notes note))
      (record_stops network events xs start told it seen z high order (xs ++ z ∷ []) [] last (sym (append-nil (xs ++ z ∷ []))) fails)
