-- Lines that are read from octets: in the making, in order, and too long.
use Rattle.std.{specs.Io.KnownBytes.{Consumes, IsAtEnd}}
use Rattle.std.proofs.{KnownBytes.{Consumes-nil, Consumes-trans}}
use Rattle.std.proofs.Common
use Common.{◌++◌, ◌+◌, ◌<◌, ◌∙◌, ◌∷◌, ◌≡◌, ◌≢◌, ◌≤◌, ◌⊎◌, Bool, Err, List, None, Ok, Option, Result, Some, [], ap}
use Common.{append-nil, append_assoc, arith, drop, false, inl, inr, length, length-append, length-take, refl, subst}
use Common.{sym, take, true, ℕ}
use Rattle.std.proofs.lemmas.{Bool.ne_eqb}
use Rattle.std.proofs.lemmas.List.{Elements.{All-append, All-head, All-tail, All-take}, take-append-drop}
use Rattle.std.proofs.lemmas.List.{take-append-le}
use Rattle.tte_io.specs.{Line.{IsLine, IsTooLong, IsUnbroken, ahead_limit, behind_line, first_line, lf, line_limit}}
use Rattle.tte_io.specs.{LinesGiven.{GivesInOrder, HasGiven}, NextLine.{NextLine, TakesLine}}
use Rattle.tte_io.specs.{Outcome.{Outcome, TellsOutcome}, Progress.{progress_after, reader_state}}
use Rattle.tte_io.specs.{ReaderState.{KeepsEnd, LineReaderState, at_end, pending, to_come}, Steps.{Advances, Fills}}
use Rattle.tte_io.specs.declared.{ends.SourceFailed.SourceFailed}
use Rattle.tte_io.specs.declared.lines.{LineTaken.{LineTaken, TheVariants.{End, Long, Whole}}}
use Rattle.tte_io.specs.declared.lines.{Progress.{Progress, TheVariants.{Taken, TooLong, Unfinished}}}
use Rattle.tte_io.specs.declared.lines.LineTaken.TheVariants as taken
use Rattle.tte_io.specs.declared.taking.AheadStep.TheVariants as step

-- ---- the first line of octets that begin with octets without an LF

pub first_line-append : (text rest : List ℕ) → IsUnbroken text → first_line (text ++ rest) ≡ text ++ first_line rest
first_line-append [] rest unbroken = refl
first_line-append (x ∷ xs) rest unbroken =
    let other = ne_eqb x lf (All-head (λ octet. octet ≡ lf → ⊥) x xs unbroken) in
    rw other
    ((rw (first_line-append xs rest (All-tail (λ octet. octet ≡ lf → ⊥) x xs unbroken))))

pub behind_line-append : (text rest : List ℕ) → IsUnbroken text → behind_line (text ++ rest) ≡ behind_line rest
behind_line-append [] rest unbroken = refl
behind_line-append (x ∷ xs) rest unbroken =
    let other = ne_eqb x lf (All-head (λ octet. octet ≡ lf → ⊥) x xs unbroken) in
    rw other
    (behind_line-append xs rest (All-tail (λ octet. octet ≡ lf → ⊥) x xs unbroken))

-- octets that begin with too many for a line have a first line that is too long
pub first_line-too_long : {octets : List ℕ} (rest : List ℕ) → IsTooLong octets
    → line_limit < length (first_line (octets ++ rest))
first_line-too_long {octets} rest long =
    let front = take (line_limit + 1) octets in
    let behind = drop (line_limit + 1) octets ++ rest in
    let split : octets ++ rest ≡ front ++ behind = ap (λ t. t ++ rest) (sym (take-append-drop (line_limit + 1) octets))
    ∙ append_assoc front (drop (line_limit + 1) octets) rest in
    let value : first_line (octets ++ rest) ≡ front ++ first_line behind = ap first_line split ∙ first_line-append front behind long.unbroken in
    omega (arith, ap length value, length-append front (first_line behind), length-take (line_limit + 1) octets, long.more)

-- ---- what comes of the octets to come, where they are told

-- what was to come is what was given, and what is still to come
coming : {E : Type 0} {before : List ℕ} {had : Bool} (left : List ℕ) {after : LineReaderState} (rest : List ℕ)
    {result : Result LineTaken E} (n : NextLine before had (Some left) after (Some rest) result)
    → before ++ left ≡ n.given ++ (pending after ++ rest)
coming {before} left {after} rest n =
    let read = n.earlier ++ n.last in
    rw n.consumed (sym (append_assoc before read rest) ∙ (rw n.nothing_lost
    (append_assoc n.given (pending after) rest)))

-- a text without an LF, and behind it an LF or nothing
line_found : (octets : List ℕ) {text : List ℕ} (behind rest : List ℕ) (after : LineReaderState)
    → octets ≡ text ++ behind → IsLine text → first_line behind ≡ [] → rest ≡ behind_line behind → octets ≢ []
    → after.text ≡ Some text → (after.ended ≡ false → behind ≡ lf ∷ rest)
    → Outcome {E = ℕ} octets (Ok taken.Whole) after rest
line_found octets {text} behind rest after same line none next some shown ends =
    let first : first_line octets ≡ text = ap first_line same ∙ first_line-append text behind line.unbroken ∙ ap
    (λ t. text ++ t) none
    ∙ append-nil text in
    let rest_is : rest ≡ behind_line octets = next ∙ sym (behind_line-append text behind line.unbroken) ∙ ap behind_line (sym same) in
    let whole : after.ended ≡ false → octets ≡ first_line octets ++ lf ∷ rest =
    λ is. same ∙ ap (λ t. text ++ t) (ends is) ∙ ap (λ t. t ++ lf ∷ rest) (sym first) in
    (some, omega (arith, ap length first, line.within), shown ∙ ap (λ t. Some t) (sym first), rest_is, whole)

-- what is left is to come where the end was not found
to_come_open : (pending : List ℕ) (ended : Bool) (left : List ℕ) → ended ≡ false → to_come pending ended left ≡ pending ++ left
to_come_open pending ended left is = rw is

-- where nothing is left, that makes no difference
to_come_none : (pending : List ℕ) (ended : Bool) (left : List ℕ) → left ≡ [] → to_come pending ended left ≡ pending ++ left
to_come_none pending true left none = rw (sym none)
to_come_none pending false left none = refl

-- a line was given, with its LF or as what was left
line_given : (octets : List ℕ) {given : List ℕ} {after : LineReaderState} (rest : List ℕ)
    → octets ≡ given ++ (pending after ++ rest) → TakesLine given after (Some rest)
    → Outcome {E = ℕ} octets (Ok taken.Whole) after (to_come (pending after) after.ended rest)
line_given octets {after} rest same t =
    let shown : after.text ≡ Some t.text = ap (λ r. r.text) t.reader in
    let unkept : after.kept ≡ [] = ap (λ r. r.kept) t.reader in
    let tail = pending after ++ rest in
    elim t.ended [
      | inl e ↦
          let whole : octets ≡ t.text ++ lf ∷ tail = same ∙ ap (λ g. g ++ tail) e.0 ∙ append_assoc t.text (lf ∷ [])
          tail in
          let come : to_come (pending after) after.ended rest ≡ tail = to_come_open (pending after) after.ended rest e.1 in
          line_found octets (lf ∷ tail) (to_come (pending after) after.ended rest) after whole t.line refl come
          (λ none. omega (arith, ap length (sym whole ∙ none), length-append t.text (lf ∷ tail))) shown
          (λ _. ap (λ u. lf ∷ u) (sym come))
      | inr e ↦
          let gone : tail ≡ [] = ap (λ k. (k ++ after.ahead) ++ rest) unkept ∙ ap (λ a. a ++ rest) e.2 ∙ e.4 in
          let whole : octets ≡ t.text ++ [] = same ∙ ap (λ g. g ++ tail) e.0 ∙ ap (λ g. t.text ++ g) gone in
          let come : to_come (pending after) after.ended rest ≡ [] = to_come_none (pending after) after.ended rest e.4 ∙ gone in
          line_found octets [] (to_come (pending after) after.ended rest) after whole t.line refl come
          (λ none. e.1 (sym (append-nil t.text) ∙ sym whole ∙ none)) shown
          (λ is. let on = e.3 in absurd cc)
    ]

module _ {E : Type 0} (before left : List ℕ) (after : LineReaderState) (rest : List ℕ) where
  -- what comes where the end was not found before
  outcome_open : (result : Result LineTaken E) → NextLine before false (Some left) after (Some rest) result
      → Outcome (before ++ left) result after (to_come (pending after) after.ended rest)
  outcome_open (Ok taken.Whole) n =
      line_given (before ++ left) rest (coming left rest n) n.answer
  outcome_open (Ok taken.End) n =
      let end : rest ≡ [] = elim n.answer.end [ inl e ↦ absurd cc | inr e ↦ e ] in
      let gone : pending after ++ rest ≡ [] = rw n.answer.reader end in (
        coming left rest n ∙ (rw n.answer.none gone),
        to_come_none (pending after) after.ended rest end ∙ gone,
      )
  outcome_open (Ok taken.Long) n =
      let on : after.ended ≡ false = rw n.answer.reader in
      let same =
      coming left rest n ∙ (rw n.answer.none) in (
        rw same (first_line-too_long rest n.answer.line),
        to_come_open (pending after) after.ended rest on ∙ sym same,
      )
  outcome_open (Err e) n =
      let on : after.ended ≡ false = rw n.answer.reader in
      to_come_open (pending after) after.ended rest on
      ∙ sym (coming left rest n ∙ (rw n.answer.none))

  -- what comes where it had been found
  outcome_ended : (result : Result LineTaken E) → NextLine before true (Some left) after (Some rest) result
      → Outcome (before ++ []) result after (to_come (pending after) after.ended rest)
  outcome_ended (Ok taken.Whole) n = absurd (n.ends refl)
  outcome_ended (Ok taken.Long) n = absurd (n.ends refl)
  outcome_ended (Err e) n = absurd (n.ends refl)
  outcome_ended (Ok taken.End) n =
      let all =
      n.nothing_lost ∙ (rw n.answer.none (ap pending n.answer.reader)) in
      let none = ends_none before (n.earlier ++ n.last) all in
      (append-nil before ∙ none, rw n.answer.reader)
    where
      ends_none : (xs ys : List ℕ) → xs ++ ys ≡ [] → xs ≡ []
      ends_none [] ys e = refl
      ends_none (x ∷ xs) ys e = absurd cc

pub outcome_told : {E : Type 0} {before : List ℕ} (had : Bool) (left_before : Option (List ℕ))
    {after : LineReaderState} (left_after : Option (List ℕ)) {result : Result LineTaken E}
    → NextLine before had left_before after left_after result
    → TellsOutcome before had left_before after left_after result
outcome_told had None left_after n = tt
outcome_told had (Some left) None n = absurd n.consumed
outcome_told {before} true (Some left) {after} (Some rest) {result} n = outcome_ended before left after rest result n
outcome_told {before} false (Some left) {after} (Some rest) {result} n = outcome_open before left after rest result n

-- ---- a reader of lines gives what it reads, in order

goes_on : (first : Option (List ℕ)) (given : List ℕ) (before : LineReaderState) (left : Option (List ℕ)) (after : LineReaderState)
    (left_after : Option (List ℕ)) (result : Result LineTaken SourceFailed) → HasGiven first given before left
    → (n : NextLine (pending before) before.ended left after left_after result) → HasGiven first (given ++ n.given) after left_after
goes_on first given before left after left_after result h n =
    let more = n.earlier ++ n.last in
    record {
      read = h.read ++ more;
      consumed = Consumes-trans first left left_after h.read more h.consumed n.consumed;
      same =
          rw h.same (append_assoc given (pending before) more ∙ (rw n.nothing_lost
          (sym (append_assoc given n.given (pending after)))));
    }

few_ahead : (first : Option (List ℕ)) (given : List ℕ) (reader : LineReaderState) (left : Option (List ℕ)) (h : HasGiven first given reader left)
    → reader.kept ≡ [] → length reader.ahead ≤ ahead_limit → length h.read ≤ length given + ahead_limit
few_ahead first given reader left h none few =
    let all : h.read ≡ given ++ reader.ahead = h.same ∙ ap (λ k. given ++ (k ++ reader.ahead)) none in
    omega (arith, ap length all, length-append given reader.ahead)

told : (first given : List ℕ) (reader : LineReaderState) (left : List ℕ) → HasGiven (Some first) given reader (Some left) → first ≡ given
    ++ (pending reader ++ left)
told first given reader left h = h.consumed ∙ (rw h.same (append_assoc given (pending reader) left))

pub gives_in_order : GivesInOrder
gives_in_order = record {
  begins = λ left. record { read = []; consumed = Consumes-nil left; same = refl };
  goes_on = goes_on;
  few_ahead = few_ahead;
  told = told;
}

-- ---- a line in the making, and what comes of it

-- what was pending and what was read are the line so far and what is ahead
pub record Making (before : List ℕ) (left_before : Option (List ℕ)) (line ahead : List ℕ) (left : Option (List ℕ)) : Type 0 where
  pub earlier : List ℕ
  pub last : List ℕ
  pub consumed : Consumes left_before left (earlier ++ last)
  pub last_size : length last ≤ ahead_limit
  pub needed : earlier ++ last ≢ [] → IsLine (before ++ earlier)
  pub same : before ++ (earlier ++ last) ≡ line ++ ahead
  pub is_line : IsLine line

pub making_begun : {line : List ℕ} (ahead : List ℕ) (left : Option (List ℕ)) → IsLine line
    → Making (line ++ ahead) left line ahead left
making_begun {line} ahead left is_line = record {
  earlier = [];
  last = [];
  consumed = Consumes-nil left;
  last_size = omega arith;
  needed = λ some. absurd (some refl);
  same = append-nil (line ++ ahead);
  is_line = is_line;
}

module _ (before : List ℕ) (left_before : Option (List ℕ)) (line ahead : List ℕ) (left : Option (List ℕ)) where
  -- nothing was read, or a read came behind the others
  making_more : (read ahead_after : List ℕ) (left_after : Option (List ℕ))
      → Making before left_before line ahead left → Consumes left left_after read → length read ≤ ahead_limit
      → ahead_after ≡ ahead ++ read → (read ≢ [] → ahead ≡ []) → Making before left_before line ahead_after left_after
  making_more [] ahead_after left_after m consumed size added needed = record {
    earlier = m.earlier;
    last = m.last;
    consumed =
        subst (Consumes left_before left_after) (append-nil (m.earlier ++ m.last))
        (Consumes-trans left_before left left_after (m.earlier ++ m.last) [] m.consumed consumed);
    last_size = m.last_size;
    needed = m.needed;
    same = m.same ∙ ap (λ t. line ++ t) (sym (append-nil ahead) ∙ sym added);
    is_line = m.is_line;
  }
  making_more (x ∷ xs) ahead_after left_after m consumed size added needed =
      let none : ahead ≡ [] = needed (λ e. cc) in
      let whole : before ++ (m.earlier ++ m.last) ≡ line =
      m.same ∙ ap (λ t. line ++ t) none ∙ append-nil line in
      record {
        earlier = m.earlier ++ m.last;
        last = x ∷ xs;
        consumed = Consumes-trans left_before left left_after (m.earlier ++ m.last) (x ∷ xs) m.consumed consumed;
        last_size = size;
        needed = λ _. subst IsLine (sym whole) m.is_line;
        same =
            sym (append_assoc before (m.earlier ++ m.last) (x ∷ xs)) ∙ ap (λ t. t ++ x ∷ xs) whole
            ∙ ap (λ t. line ++ t) (ap (λ t. t ++ x ∷ xs) (sym none) ∙ sym added);
        is_line = m.is_line;
      }

  pub making_filled : {ahead_after : List ℕ} {left_after : Option (List ℕ)}
      → Making before left_before line ahead left → Fills ahead left ahead_after left_after
      → Making before left_before line ahead_after left_after
  making_filled {ahead_after} {left_after} m f =
      making_more f.read ahead_after left_after m f.consumed f.size f.added f.needed

  pub making_advanced : (line_after ahead_after : List ℕ) → Making before left_before line ahead left
      → Advances line ahead step.Unfinished line_after ahead_after
      → Making before left_before line_after ahead_after left
  making_advanced line_after ahead_after m a = record {
    earlier = m.earlier;
    last = m.last;
    consumed = m.consumed;
    last_size = m.last_size;
    needed = m.needed;
    same = m.same ∙ sym a.1 ∙ sym (append-nil line_after) ∙ ap (λ t. line_after ++ t) (sym a.2);
    is_line = a.0;
  }

module _ {E : Type 0} (before : List ℕ) (had ended : Bool) (left_before : Option (List ℕ)) (line ahead : List ℕ)
    (left : Option (List ℕ)) (line_after ahead_after : List ℕ) (unended : had ≡ false) (still : ended ≡ false) where
  -- the line's LF came
  pub taken_at_lf : Making before left_before line ahead left → Advances line ahead step.Ended line_after ahead_after
      → NextLine {E = E} before had left_before
      (reader_state (progress_after {E = E} (Ok Whole)) line_after ahead_after ended) left (Ok Whole)
  taken_at_lf m a = record {
    earlier = m.earlier;
    last = m.last;
    consumed = m.consumed;
    last_size = m.last_size;
    needed = λ some. (unended, m.needed some);
    ends = λ is. absurd cc;
    given = line_after ++ lf ∷ [];
    nothing_lost = m.same ∙ a.1 ∙ sym (append_assoc line_after (lf ∷ []) ahead_after);
    answer = record { text = line_after; line = a.0; ended = inl (refl, still); reader = refl };
  }

  -- it has passed its limit
  pub found_too_long : Making before left_before line ahead left
      → Advances line ahead step.TooLong line_after ahead_after → NextLine {E = E} before had left_before
      (reader_state (progress_after {E = E} (Ok Long)) line_after ahead_after ended) left (Ok Long)
  found_too_long m a =
      let stays : line_after ++ ahead_after ≡ line ++ ahead = cc in
      record {
        earlier = m.earlier;
        last = m.last;
        consumed = m.consumed;
        last_size = m.last_size;
        needed = λ some. (unended, m.needed some);
        ends = λ is. absurd cc;
        given = [];
        nothing_lost = m.same ∙ sym stays;
        answer = record { none = refl; line = subst IsTooLong (sym stays) a.0; reader = ap (reader_state TooLong line_after ahead_after) still };
      }

-- the source has ended
pub taken_at_end : {E : Type 0} {before : List ℕ} (had : Bool) {left_before : Option (List ℕ)} {line ahead : List ℕ}
    {left : Option (List ℕ)} (taken : LineTaken) → had ≡ false → Making before left_before line ahead left
    → ahead ≡ [] → IsAtEnd left → ((taken ≡ End) × (line ≡ [])) ⊎ ((taken ≡ Whole) × (line ≢ []))
    → NextLine {E = E} before had left_before (reader_state (progress_after {E = E} (Ok taken)) line ahead true) left
    (Ok taken)
taken_at_end {E} {before} had {left_before} {line} {ahead} {left} taken unended m none end (inl h) =
    let P = λ (t : LineTaken). NextLine {E = E} before had left_before (reader_state (progress_after {E = E} (Ok t)) line ahead true) left (Ok t) in
    subst P (sym h.0) (record {
      earlier = m.earlier;
      last = m.last;
      consumed = m.consumed;
      last_size = m.last_size;
      needed = λ some. (unended, m.needed some);
      ends = λ is. absurd cc;
      given = [];
      nothing_lost = m.same;
      answer = record {
        none = refl;
        reader = ap (λ t. reader_state Unfinished t ahead true) h.1 ∙ ap (λ t. reader_state Unfinished [] t true) none;
        end = inr end;
      };
    })
taken_at_end {E} {before} had {left_before} {line} {ahead} {left} taken unended m none end (inr h) =
    let P = λ (t : LineTaken). NextLine {E = E} before had left_before (reader_state (progress_after {E = E} (Ok t)) line ahead true) left (Ok t) in
    subst P (sym h.0) (record {
      earlier = m.earlier;
      last = m.last;
      consumed = m.consumed;
      last_size = m.last_size;
      needed = λ some. (unended, m.needed some);
      ends = λ is. absurd cc;
      given = line;
      nothing_lost = m.same;
      answer = record { text = line; line = m.is_line; ended = inr (refl, h.1, none, refl, end); reader = refl };
    })

-- a read failed
pub kept_after_failure : {E : Type 0} {before : List ℕ} (had ended : Bool) {left_before : Option (List ℕ)}
    {line ahead : List ℕ} {left : Option (List ℕ)} (e : E) → had ≡ false → ended ≡ false
    → Making before left_before line ahead left → ahead ≡ []
    → NextLine before had left_before (reader_state (progress_after (Err e)) line ahead ended) left (Err e)
kept_after_failure had ended {line} e unended still m none = record {
  earlier = m.earlier;
  last = m.last;
  consumed = m.consumed;
  last_size = m.last_size;
  needed = λ some. (unended, m.needed some);
  ends = λ is. absurd cc;
  given = [];
  nothing_lost = m.same;
  answer = record {
    none = refl;
    line = m.is_line;
    reader = ap (λ t. reader_state Unfinished line t ended) none ∙ ap (reader_state Unfinished line []) still;
  };
}

-- a line that was too long stays too long, and nothing is read
pub still_too_long : {E : Type 0} (line ahead : List ℕ) (ended : Bool) (left : Option (List ℕ)) → ended ≡ false → IsTooLong (line ++ ahead)
    → NextLine {E = E} (line ++ ahead) ended left (reader_state TooLong line ahead ended) left (Ok Long)
still_too_long line ahead ended left still long = record {
  earlier = [];
  last = [];
  consumed = Consumes-nil left;
  last_size = omega arith;
  needed = λ some. absurd (some refl);
  ends = λ is. absurd cc;
  given = [];
  nothing_lost = append-nil (line ++ ahead);
  answer = record { none = refl; line = long; reader = ap (reader_state TooLong line ahead) still };
}

-- behind the end of the source there is no line, and nothing is read
pub still_ended : {E : Type 0} (before : List ℕ) (ended : Bool) (left : Option (List ℕ)) (after : LineReaderState) → ended ≡ true → before ≡ []
    → after ≡ at_end → NextLine {E = E} before ended left after left (Ok End)
still_ended before ended left after had none is = record {
  earlier = [];
  last = [];
  consumed = Consumes-nil left;
  last_size = omega arith;
  needed = λ some. absurd (some refl);
  ends = λ _. tt {0};
  given = [];
  nothing_lost = append-nil before ∙ none ∙ sym (ap pending is);
  answer = record { none = refl; reader = is; end = inl had };
}

-- too long a line is not behind the end
pub long_unended : (line ahead : List ℕ) (ended : Bool) → IsTooLong (line ++ ahead) → KeepsEnd (reader_state TooLong line ahead ended) → ended ≡ false
long_unended line ahead true long keeps = absurd (omega (arith, long.more, ap length (keeps refl)))
long_unended line ahead false long keeps = refl

-- the next line begins behind one that was taken
pub making_next : (progress : Progress) (line ahead : List ℕ) (ended : Bool) (cleared : List ℕ) (now : LineReaderState) (left : Option (List ℕ))
    → reader_state progress line ahead ended ≡ now → progress ≡ Taken → cleared ≡ [] → Making (pending now) left cleared ahead left
making_next progress line ahead ended cleared now left same is none =
    let pending_is : pending now ≡ ahead = sym (ap pending same) ∙ ap (λ p. pending (reader_state p line ahead ended)) is in
    let empty : IsLine [] = record { unbroken = λ k octet within. absurd (omega (arith, within)); within = omega arith } in
    rw (pending_is, none) (making_begun ahead left empty)

-- an unfinished line goes on
pub making_on : (progress : Progress) {line : List ℕ} (ahead : List ℕ) (ended : Bool) (now : LineReaderState)
    (left : Option (List ℕ)) → reader_state progress line ahead ended ≡ now → progress ≡ Unfinished → IsLine line
    → Making (pending now) left line ahead left
making_on progress {line} ahead ended now left same is is_line =
    let pending_is : pending now ≡ line ++ ahead = sym (ap pending same) ∙ ap (λ p. pending (reader_state p line ahead ended)) is in
    rw pending_is (making_begun ahead left is_line)

-- the line so far and what is ahead are of a reader, and where the end was found nothing is pending
pub record MadeOf (now : LineReaderState) (line ahead : List ℕ) (ended : Bool) : Type 0 where
  pub same : now.ended ≡ ended
  pub none : ended ≡ true → (pending now ≡ []) × (line ≡ []) × (ahead ≡ [])
  pub all : pending now ≡ line ++ ahead

none_before : (xs ys : List ℕ) → xs ++ ys ≡ [] → (xs ≡ []) × (ys ≡ [])
none_before [] ys e = (refl, e)
none_before (x ∷ xs) ys e = absurd cc

pub made_next : (progress : Progress) (line ahead : List ℕ) (ended : Bool) (cleared : List ℕ) (now : LineReaderState)
    → reader_state progress line ahead ended ≡ now → progress ≡ Taken → cleared ≡ [] → KeepsEnd (reader_state progress line ahead ended)
    → MadeOf now cleared ahead ended
made_next progress line ahead ended cleared now same is none keeps =
    let now_is : reader_state Taken line ahead ended ≡ now = ap (λ p. reader_state p line ahead ended) (sym is) ∙ same in
    let end : ended ≡ true → ahead ≡ [] = subst (λ p. KeepsEnd (reader_state p line ahead ended)) is keeps in
    record {
      same = sym (ap (λ r. r.ended) now_is);
      none = λ on. (sym (ap pending now_is) ∙ end on, none, end on);
      all = sym (ap pending now_is) ∙ ap (λ t. t ++ ahead) (sym none);
    }

pub made_on : (progress : Progress) (line ahead : List ℕ) (ended : Bool) (now : LineReaderState) → reader_state progress line ahead ended ≡ now
    → progress ≡ Unfinished → KeepsEnd (reader_state progress line ahead ended) → MadeOf now line ahead ended
made_on progress line ahead ended now same is keeps =
    let now_is : reader_state Unfinished line ahead ended ≡ now = ap (λ p. reader_state p line ahead ended) (sym is) ∙ same in
    let end : ended ≡ true → line ++ ahead ≡ [] = subst (λ p. KeepsEnd (reader_state p line ahead ended)) is keeps in
    record {
      same = sym (ap (λ r. r.ended) now_is);
      none = λ on. (sym (ap pending now_is) ∙ end on, (none_before line ahead (end on)).0, (none_before line ahead (end on)).1);
      all = sym (ap pending now_is);
    }

module _ {E : Type 0} (now : LineReaderState) (line ahead : List ℕ) (ended : Bool) (left : Option (List ℕ)) where
  pub found_ended : MadeOf now line ahead ended → ended ≡ true
      → NextLine {E = E} (pending now) now.ended left (reader_state Unfinished line ahead ended) left (Ok End)
  found_ended m on =
      let none = m.none on in
      still_ended (pending now) now.ended left (reader_state Unfinished line ahead ended) (m.same ∙ on) none.0
      (ap (λ t. reader_state Unfinished t ahead ended) none.1 ∙ ap
      (λ t. reader_state Unfinished [] t ended) none.2
      ∙ ap (reader_state Unfinished [] []) on)

  -- what is taken of these octets is taken of what was pending
  pub taken_of_made : {after : LineReaderState} {rest : Option (List ℕ)} {result : Result LineTaken E}
      → MadeOf now line ahead ended → ended ≡ false → NextLine (line ++ ahead) false left after rest result
      → NextLine (pending now) now.ended left after rest result
  taken_of_made {after} {rest} {result} m off is =
      rw (sym (m.same ∙ off)) at (rw (sym m.all) at is)

-- ---- lines, and octets that are too many for one

-- a line and octets without an LF behind it that pass its limit
pub too_long_behind : (line octets : List ℕ) (count : ℕ) → IsUnbroken line → IsUnbroken (take count octets) → count ≤ length octets
    → line_limit < length line + count → IsTooLong (line ++ octets)
too_long_behind line octets count unbroken front within past =
    let P = λ (octet : ℕ). octet ≢ lf in
    let size = length-take count octets in
    let joined = append_assoc line (take count octets) (drop count octets)
    ∙ (rw (take-append-drop count octets)) in
    let same =
    sym (ap (take (line_limit + 1)) joined) ∙ take-append-le (line_limit + 1) (line ++ take count octets) (drop count octets)
    (omega (arith, length-append line (take count octets))) in
    record {
      more = omega (arith, length-append line octets);
      unbroken = subst IsUnbroken (sym same) (All-take P (line_limit + 1) (line ++ take count octets) (All-append P line (take count octets) unbroken front));
    }
