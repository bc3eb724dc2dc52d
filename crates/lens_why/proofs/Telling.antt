-- The lines of a chain, put record by record with their grounds, at the times of the report.
use Rattle.std.{specs.{Io.KnownBytes.Appends, Prelude.{if◌then◌else◌, option_map, slice_get}}}
use Rattle.std.proofs.{lemmas.{Grind.flat_map-append, List.append-nil}}
use Rattle.std.proofs.Common
use Common.{◌++◌, ◌<◌, ◌∙◌, ◌∷◌, ◌≡◌, Bool, List, None, Option, Some, [], ap, append_assoc, arith, false, inl, inr}
use Common.{length, refl, subst, sym, true, ℕ}
use Rattle.lens_why.proofs.{Chains.{Along, along_both, along_more, along_there, never_none, none_at_zero, whole_of}}
use Rattle.lens_why.proofs.{Comings.{IsNoneOrThere, comes_from_earlier}}
use Rattle.lens_why.proofs.{Cutting.{founded_of, happening_at, none_there, note_in, note_numbered, note_of, number_of}}
use Rattle.lens_why.specs.{Answer.{IsWhyAnswer, chain_answer}, Grounds.ground_of}
use Rattle.lens_why.specs.{Lines.{chain_lines, ground_line, is_told, record_lines, told_lines}}
use Rattle.lens_why.specs.{Records.{ComesFrom, IsTimely}, declared.ground.Ground.Ground}
use Rattle.net_plan.specs.declared.network.Network.{Network}
use Rattle.report_text.specs.{NoteLine.note_line, Ranges.IsNoteOf}
use Rattle.run_law.{proofs.{law.FirstDeliveries.at_length, runs.Places.parted}}
use Rattle.run_law.specs.{declared.note.Note.Note, scenario.Scenarios.Scenario}
use Rattle.run_law.specs.records.{Causes.cause_of, Happenings.{Happening, happening, happenings, numbered}, Order.IsIn}
use Rattle.tte_audit.{proofs.ReportText.happening_there, specs.{Named.IsNamed, Report.scenario_of}}
use Rattle.tte_forms.proofs.Puts
use Puts.{Ends-gives, PutFails-behind, PutFails-more, PutsLines-append, PutsLines-fails, PutsLines-more, PutsLines-none}
use Rattle.tte_forms.specs.{Answering.{Ends, GivesAnswer}, Putting.{PutFails, PutsLines, Shown}}
use Rattle.tte_forms.specs.{declared.status.Status.{Status, TheVariants.{Done, WriteFault}}}
use Rattle.tte_io.specs.{Faults.next_count, Told.AppendsFront}
use Rattle.tte_reports.proofs.Reports.{end_soon, none_later, one_end, one_notes}
use Rattle.tte_reports.{specs.{Places.note_at, Reports.IsReportOf}}
use Rattle.tte_units.{proofs.general_lemmas.Lists.in_all, specs.declared.units.Units.Units}

-- ---- the lines of a record and of its ground put

module _ (network : Network) (note : Note) (said : Ground) where
  abbrev line : List ℕ
  line = note_line network note

  -- the lines, where the ground is told or not
  abbrev lines_by : Bool → List (List ℕ)
  lines_by told = line ∷ (if told then ground_line said ∷ [] else [])

  -- the put of the record's line failed
  pub put_none : (old new : Shown) → AppendsFront old.written new.written line → new.puts ≡ next_count old.puts
      → PutFails (told_lines network note said) old new
  put_none old new front counted = PutsLines-fails line (if is_told said then ground_line said ∷ [] else []) new (PutsLines-none old) front counted

  one_line : (old new : Shown) → Appends old.written new.written line → new.puts ≡ next_count old.puts → PutsLines (line ∷ []) old new
  one_line old new whole counted = PutsLines-more line new (PutsLines-none old) whole counted

  -- it was put, and the ground says nothing
  pub put_alone : (old new : Shown) → is_told said ≡ false → Appends old.written new.written line → new.puts ≡ next_count old.puts
      → PutsLines (told_lines network note said) old new
  put_alone old new silent whole counted = subst (λ b. PutsLines (lines_by b) old new) (sym silent) (one_line old new whole counted)

  -- both were put
  pub put_both : (old mid new : Shown) → is_told said ≡ true → Appends old.written mid.written line → mid.puts ≡ next_count old.puts
      → Appends mid.written new.written (ground_line said) → new.puts ≡ next_count mid.puts → PutsLines (told_lines network note said) old new
  put_both old mid new told whole counted more again =
      subst (λ b. PutsLines (lines_by b) old new) (sym told)
      (PutsLines-more (ground_line said) new (one_line old mid whole counted) more again)

  -- the put of the ground's line failed
  pub put_half : (old mid new : Shown) → is_told said ≡ true → Appends old.written mid.written line → mid.puts ≡ next_count old.puts
      → AppendsFront mid.written new.written (ground_line said) → new.puts ≡ next_count mid.puts → PutFails (told_lines network note said) old new
  put_half old mid new told whole counted front again =
      subst (λ b. PutFails (lines_by b) old new) (sym told)
      (PutsLines-fails (ground_line said) [] new (one_line old mid whole counted) front again)

-- ---- the times of the records of a report

module _ {network : Network} {octets : List ℕ} {notes : List Note} {end : Units}
    (of : IsReportOf network octets notes end) where
  -- each record of a report is of a time that clocks have
  timely_at : (gone behind : List Note) (note : Note) → notes ≡ gone ++ note ∷ behind → IsTimely network note
  timely_at gone behind note parts =
      let own = happening network (happenings network gone) note in
      let there = happening_there network notes gone behind note parts in
      let early = none_later network octets notes end of gone behind note parts in
      let last = end_soon network octets notes end of in
      let found : slice_get notes (length gone) ≡ Some note =
      subst (λ (ns : List Note). slice_get ns (length gone) ≡ Some note) (sym parts) (at_length gone behind note) in
      record {
        of_network = in_all (IsNoteOf network) notes (length gone) note of.events.text.records.of_network found;
        begun = (of.run.founded (happenings network gone) there.0 own there.1).1.begun;
        soon = omega (arith, early, last);
      }

  pub timely_in : (note : Note) → IsIn note notes → IsTimely network note
  timely_in note i =
      let at = parted note notes i in timely_at at.0 at.1 note at.2

-- ---- the lines of a chain put one record after another

-- the lines of the records of a chain up to the one that is at hand were put
pub record IsToldTo (network : Network) (octets : List ℕ) (first note : Note) (old now : Shown) : Type 0 where
  pub notes : List Note
  pub end : Units
  pub of : IsReportOf network octets notes end
  pub done : List Happening
  pub at : ℕ
  pub along : Along (happenings network notes) first.number done at
  pub h : Happening
  pub here : numbered (happenings network notes) at ≡ Some h
  pub is : h.note ≡ note
  pub puts : PutsLines (chain_lines (scenario_of network notes) (happenings network notes) done) old now

pub told_none : {network : Network} {octets : List ℕ} (first : Note) (s : Shown) {notes : List Note} {end : Units}
    → IsReportOf network octets notes end → (number : ℕ) → note_at notes number ≡ Some first
    → IsToldTo network octets first first s s
told_none {network} first s {notes} {end} of number there =
    let h = happening_at network notes number first there in
    record {
      notes = notes;
      end = end;
      of = of;
      done = [];
      at = number;
      along = number_of of number first there;
      h = h.0;
      here = h.1;
      is = h.2;
      puts = PutsLines-none s;
    }

-- the last of some records apart
abbrev first_of : List Happening → Happening → Happening
first_of [] h = h
first_of (x ∷ xs) h = x

abbrev rest_of : List Happening → Happening → List Happening → List Happening
rest_of [] h more = more
rest_of (x ∷ xs) h more = xs ++ h ∷ more

parts_of : (xs : List Happening) (h : Happening) (more : List Happening) → xs ++ h ∷ more ≡ first_of xs h ∷ rest_of xs h more
parts_of [] h more = refl
parts_of (x ∷ xs) h more = refl

append_one : (xs : List Happening) (h : Happening) (more : List Happening) → (xs ++ h ∷ []) ++ more ≡ xs ++ h ∷ more
append_one xs h more = append_assoc xs (h ∷ []) more

-- the lines of a chain in two parts
lines_parts : (s : Scenario) (hs xs : List Happening) (h : Happening) (more : List Happening)
    → chain_lines s hs (xs ++ h ∷ more) ≡ chain_lines s hs xs ++ (record_lines s hs h ++ chain_lines s hs more)
lines_parts s hs xs h more = flat_map-append (record_lines s hs) xs (h ∷ more)

module _ {network : Network} {octets : List ℕ} {first note : Note} {old now : Shown} (t : IsToldTo network octets first note old now) where
  abbrev all : List Happening
  all = happenings network t.notes

  abbrev own : Scenario
  own = scenario_of network t.notes

  -- the record at hand comes from this one
  pub comes_from : (giving : Option Note) → giving ≡ note_at t.notes (cause_of note.body) → ComesFrom own all t.h note giving
  comes_from giving is = record {
    founded = founded_of t.of;
    number = t.at;
    there = t.here;
    is = sym t.is;
    from = is ∙ ap (λ (n : Note). note_at t.notes (cause_of n.body)) (sym t.is) ∙ sym (note_numbered network t.notes (cause_of t.h.note.body));
  }

  -- its ground is what was found of it
  pub said_as : (giving : Option Note) (said : Ground) → giving ≡ note_at t.notes (cause_of note.body)
      → (ComesFrom own all t.h note giving → said ≡ ground_of own all t.h) → said ≡ ground_of own all t.h
  said_as giving said is told = told (comes_from giving is)

  -- it is there by its number
  there_at : note_at t.notes t.at ≡ Some note
  there_at = sym (note_numbered network t.notes t.at) ∙ ap (option_map (λ (h : Happening). h.note)) t.here ∙ ap Some t.is

  -- it is one of the network
  pub network_of : IsNoteOf network note
  network_of = note_of t.of t.at note there_at

  -- it is of a time that clocks have
  pub timely : IsTimely network note
  timely = timely_in t.of note (note_in t.notes t.at note there_at)

  -- and its cause has a lower number
  pub smaller : (next : Note) → note_at t.notes (cause_of note.body) ≡ Some next → next.number < note.number
  smaller next there =
      let at = cause_of t.h.note.body in
      let found : note_at t.notes at ≡ Some next = ap (λ (n : Note). note_at t.notes (cause_of n.body)) t.is ∙ there in
      let its = number_of t.of at next found in
      let own_number = number_of t.of t.at note there_at in
      let g = happening_at network t.notes at next found in
      elim (comes_from_earlier own all (founded_of t.of) t.at t.h t.here) [
        | inl none ↦ absurd (none_at_zero all at g.0 none g.1)
        | inr e ↦ omega (arith, its, own_number, e.2)
      ]

  -- its lines are these
  lines_at : (said : Ground) → said ≡ ground_of own all t.h → told_lines network note said ≡ record_lines own all t.h
  lines_at said is = ap (λ n. told_lines network n said) (sym t.is) ∙ ap (told_lines network t.h.note) is

  -- an answer for these records is one for any that the octets are the report of
  among : IsNamed network → (notes : List Note) (end : Units) → IsReportOf network octets notes end → (status : Status) (after : Shown)
      → GivesAnswer (IsWhyAnswer first.number network t.notes t.end) status old after
      → GivesAnswer (IsWhyAnswer first.number network notes end) status old after
  among named notes end of status after given =
      subst (λ ns. GivesAnswer (IsWhyAnswer first.number network ns end) status old after)
      (one_notes named t.of of)
      (subst (λ e. GivesAnswer (IsWhyAnswer first.number network t.notes e) status old after)
      (one_end named t.of of) given)

  -- the record at hand comes from none, or from another
  there_or_none : IsNoneOrThere all (cause_of t.h.note.body)
  there_or_none =
      elim (comes_from_earlier own all (founded_of t.of) t.at t.h t.here) [ inl none ↦ inl none | inr g ↦ inr (g.0, g.1) ]

  module _ (new : Shown) (said : Ground) (is : said ≡ ground_of own all t.h) where
    -- with those before
    put_on : PutsLines (told_lines network note said) now new → PutsLines (chain_lines own all (t.done ++ t.h ∷ [])) old new
    put_on puts =
        let here = subst (λ ls. PutsLines ls now new) (lines_at said is) puts in
        let whole = lines_parts own all t.done t.h [] ∙ ap (λ (ls : List (List ℕ)). chain_lines own all t.done ++ ls) (append-nil (record_lines own all t.h)) in
        subst (λ ls. PutsLines ls old new) (sym whole)
        (PutsLines-append t.puts here)

    -- they were put
    pub told_more : PutsLines (told_lines network note said) now new → (next : Note) → note_at t.notes (cause_of note.body) ≡ Some next
        → IsToldTo network octets first next old new
    told_more puts next there =
        let at = cause_of t.h.note.body in
        let found : note_at t.notes at ≡ Some next = ap (λ (n : Note). note_at t.notes (cause_of n.body)) t.is ∙ there in
        let g = happening_at network t.notes at next found in
        record {
          notes = t.notes;
          end = t.end;
          of = t.of;
          done = t.done ++ t.h ∷ [];
          at = at;
          along = along_more all first.number t.done t.at t.h t.along t.here;
          h = g.0;
          here = g.1;
          is = g.2;
          puts = put_on puts;
        }

    -- the record has no cause: all was told
    pub told_all : IsNamed network → PutsLines (told_lines network note said) now new → note_at t.notes (cause_of note.body) ≡ None
        → (status : Status) (after : Shown) → Ends Done status new after → (notes : List Note) (end : Units) → IsReportOf network octets notes end
        → GivesAnswer (IsWhyAnswer first.number network notes end) status old after
    told_all named puts none status after ends notes end of =
        let along = along_more all first.number t.done t.at t.h t.along t.here in
        let last : cause_of t.h.note.body ≡ 0 = elim (comes_from_earlier own all (founded_of t.of) t.at t.h t.here) [
          | inl e ↦ e
          | inr g ↦ absurd (never_none all (cause_of t.h.note.body) g.0
              (none_there network t.notes (cause_of t.h.note.body) (ap (λ (n : Note). note_at t.notes (cause_of n.body)) t.is ∙ none)) g.1)
        ] in
        let chain = subst (λ m. Along all first.number (t.done ++ t.h ∷ []) m) last along in
        let parted = subst (λ c. Along all first.number c 0) (parts_of t.done t.h []) chain in
        let whole = whole_of all first.number (first_of t.done t.h) (rest_of t.done t.h []) parted in
        let answer = chain_answer network t.notes (first_of t.done t.h ∷ rest_of t.done t.h []) in
        let lines = ap (chain_lines own all) (parts_of t.done t.h []) in
        let given = Ends-gives Done status after
        (subst (λ ls. PutsLines ls old new) lines (put_on puts)) ends in
        among named notes end of status after (inl (answer, inr (first_of t.done t.h, rest_of t.done t.h [], whole, refl), given))

    -- the put of one of them failed
    pub told_fails : IsNamed network → PutFails (told_lines network note said) now new → (notes : List Note) (end : Units)
        → IsReportOf network octets notes end → GivesAnswer (IsWhyAnswer first.number network notes end) WriteFault old new
    told_fails named fails notes end of =
        let founded = founded_of t.of in
        let along = along_more all first.number t.done t.at t.h t.along t.here in
        let more = along_there own all founded (cause_of t.h.note.body) there_or_none in
        let chain = subst (λ c. Along all first.number c 0) (append_one t.done t.h more.0)
        (along_both all first.number (t.done ++ t.h ∷ []) (cause_of t.h.note.body) more.0 0 along more.1) in
        let parted = subst (λ c. Along all first.number c 0) (parts_of t.done t.h more.0) chain in
        let whole = whole_of all first.number (first_of t.done t.h) (rest_of t.done t.h more.0) parted in
        let answer = chain_answer network t.notes (first_of t.done t.h ∷ rest_of t.done t.h more.0) in
        let here = subst (λ ls. PutFails ls now new) (lines_at said is) fails in
        let behind = PutFails-behind (record_lines own all t.h ++ chain_lines own all more.0) new t.puts
        (PutFails-more (chain_lines own all more.0) here) in
        let lines = lines_parts own all t.done t.h more.0 in
        let failed = subst (λ ls. PutFails ls old new) (sym lines ∙ ap (chain_lines own all) (parts_of t.done t.h more.0)) behind in
        among named notes end of WriteFault new
        (inl (answer, inr (first_of t.done t.h, rest_of t.done t.h more.0, whole, refl), inr (inl (refl, inl failed))))
