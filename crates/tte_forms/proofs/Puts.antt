-- What answers put: lines one after another, safe and of one kind as the answers are.
use Rattle.std.proofs.{KnownBytes.{Appends-nil, Appends-trans}}
use Rattle.std.proofs.Common
use Common.{◌++◌, ◌+◌, ◌<◌, ◌∙◌, ◌∷◌, ◌≡◌, ◌⊎◌, List, [], ap, append_assoc, drop, get_or, inl, inr, length, map, refl}
use Common.{subst, sym, take, ℕ}
use Rattle.std.proofs.lemmas.List.{Folds.concat-append, append-nil, at_drop_more, map-append, take-append-drop}
use Rattle.std.proofs.lemmas.List.{take_more}
use Rattle.std.specs.{Io.KnownBytes.Appends, List.concat, Prelude.{Err, Ok, OnErr, OnOk}, declared.result.Result.Result}
use Rattle.tte_forms.specs.{Answering.{Answer, Ends, Gives, GivesAnswer, GivesOne, IsDone}, Safely.PutsSafely}
use Rattle.tte_forms.specs.{networks.{NetworkLine.{file_reason, rule_reason}, NoNetworks.answer_by}}
use Rattle.tte_forms.specs.Putting
use Putting.{PutFails, Puts, PutsLines, PutsNone, PutsSo, PutsSome, Shown, WriteFails, puts_after}
use Rattle.tte_forms.specs.declared.{accepting.NoNetwork.NoNetwork}
use Rattle.tte_forms.specs.declared.status.Status.{Status}
use Rattle.tte_forms.specs.declared.status.Status.TheVariants
use TheVariants.{AuditRefused, CaptureRefused, Done, FrameRefused, GranuleRefused, MessagesRefused, NameRefused}
use TheVariants.{NetworkRefused, NumberRefused, OutOfMemory, OutsideHypothesis, PlanRefused, ReadFault, TooLong}
use TheVariants.{TraceRefused, Usage, VoteRefused, WriteFault}
use Rattle.tte_io.specs.{Faults.next_count, Told.AppendsFront, declared.ends.SinkFailed.SinkFailed}
use Rattle.tte_units.proofs.general_lemmas.Lists.{no_front, none_stands}
use Rattle.tte_forms.specs.declared.accepting.NoNetwork.TheVariants as causes

-- ---- lines put one after another

pub PutsLines-none : (s : Shown) → PutsLines [] s s
PutsLines-none s = record { written = Appends-nil s.written; counted = refl }

puts_after-more : (lines : List (List ℕ)) (line : List ℕ) (puts : ℕ)
    → puts_after (length (lines ++ line ∷ [])) puts ≡ next_count (puts_after (length lines) puts)
puts_after-more [] line puts = refl
puts_after-more (x ∷ lines) line puts = puts_after-more lines line (next_count puts)

-- one more line
pub PutsLines-more : {lines : List (List ℕ)} (line : List ℕ) {a b : Shown} (c : Shown) → PutsLines lines a b
    → Appends b.written c.written line → c.puts ≡ next_count b.puts → PutsLines (lines ++ line ∷ []) a c
PutsLines-more {lines} line {a} {b} c p w n = record {
  written =
      let joined =
      concat-append lines (line ∷ []) ∙ (rw (append-nil line)) in
      rw joined (Appends-trans a.written b.written c.written (concat lines) line p.written w);
  counted = n ∙ ap next_count p.counted ∙ sym (puts_after-more lines line a.puts);
}

-- the put of the next line failed
pub PutsLines-fails : {lines : List (List ℕ)} (line : List ℕ) (left : List (List ℕ)) {a b : Shown} (c : Shown)
    → PutsLines lines a b → AppendsFront b.written c.written line → c.puts ≡ next_count b.puts
    → PutFails (lines ++ line ∷ left) a c
PutsLines-fails {lines} line left {b} c p w n =
    record { done = lines; line = line; left = left; order = refl; before = b; puts = p; front = w; counted = n }

puts_after-append : (xs ys : List (List ℕ)) (puts : ℕ) → puts_after (length (xs ++ ys)) puts ≡ puts_after (length ys) (puts_after (length xs) puts)
puts_after-append [] ys puts = refl
puts_after-append (x ∷ xs) ys puts = puts_after-append xs ys (next_count puts)

-- lines and then others
pub PutsLines-append : {xs ys : List (List ℕ)} {a b c : Shown} → PutsLines xs a b → PutsLines ys b c
    → PutsLines (xs ++ ys) a c
PutsLines-append {xs} {ys} {a} {b} {c} p q = record {
  written = rw concat-append (Appends-trans a.written b.written c.written (concat xs) (concat ys) p.written q.written);
  counted = q.counted ∙ ap (puts_after (length ys)) p.counted ∙ sym (puts_after-append xs ys a.puts);
}

module _ {xs : List (List ℕ)} (ys : List (List ℕ)) {a b : Shown} (c : Shown) (p : PutsLines xs a b) where
  pub PutsSome-behind : PutsSome ys b c → PutsSome (xs ++ ys) a c
  PutsSome-behind q = record {
    done = xs ++ q.done;
    left = q.left;
    order = rw q.order (sym (append_assoc xs q.done q.left));
    puts = PutsLines-append p q.puts;
  }

  pub PutFails-behind : PutFails ys b c → PutFails (xs ++ ys) a c
  PutFails-behind q = record {
    done = xs ++ q.done;
    line = q.line;
    left = q.left;
    order = rw q.order (sym (append_assoc xs q.done (q.line ∷ q.left)));
    before = q.before;
    puts = PutsLines-append p q.puts;
    front = q.front;
    counted = q.counted;
  }

  pub WriteFails-behind : WriteFails ys b c → WriteFails (xs ++ ys) a c
  WriteFails-behind (inl q) = inl (PutFails-behind q)
  WriteFails-behind (inr q) = inr (PutsSome-behind q)

-- nothing more was put
pub PutsLines-still : {lines : List (List ℕ)} {a b : Shown} (c : Shown) → PutsLines lines a b → PutsNone b c
    → PutsLines lines a c
PutsLines-still {lines} {a} c p none = record {
  written = rw none.0 p.written;
  counted = none.1 ∙ p.counted;
}

-- all of these lines are the first ones of them
PutsSome-all : {lines : List (List ℕ)} {a b : Shown} → PutsLines lines a b → PutsSome lines a b
PutsSome-all {lines} p = record { done = lines; left = []; order = sym (append-nil lines); puts = p }

-- lines were put, and then all was passed on, or that failed
pub Ends-gives : {lines : List (List ℕ)} (wanted status : Status) {old now : Shown} (new : Shown)
    → PutsLines lines old now → Ends wanted status now new
    → Gives (record { status = wanted; lines = lines }) status old new
Ends-gives wanted status new p (none, inl e) = inl (e.0, PutsLines-still new p none, e.1)
Ends-gives wanted status new p (none, inr e) = inr (inl (e, inr (PutsSome-all (PutsLines-still new p none))))

-- a put of one of these lines failed, so one of these and more
pub PutFails-more : {lines : List (List ℕ)} (more : List (List ℕ)) {old new : Shown} → PutFails lines old new
    → PutFails (lines ++ more) old new
PutFails-more more p = record {
  done = p.done;
  line = p.line;
  left = p.left ++ more;
  order = rw p.order (append_assoc p.done (p.line ∷ p.left) more);
  before = p.before;
  puts = p.puts;
  front = p.front;
  counted = p.counted;
}

-- a last line, in one put
pub puts_last : {lines : List (List ℕ)} (line : List ℕ) (result : Result (Unit {0}) SinkFailed) {a b : Shown}
    (c : Shown) → PutsLines lines a b → OnOk result (Appends b.written c.written line)
    → OnErr result (AppendsFront b.written c.written line) → c.puts ≡ next_count b.puts
    → Puts (lines ++ line ∷ []) result a c
puts_last {lines} line (Ok done) {a} {b} c p all front counted = PutsLines-more line c p all counted
puts_last {lines} line (Err cause) {a} {b} c p all front counted = PutsLines-fails line [] c p front counted

-- a line for each of a list
module _ {X : Type 0} (f : X → List ℕ) (all : List X) (n : ℕ) (d : X) (line : List ℕ) (within : n < length all) (same : line ≡ f (get_or all n d)) where
  pub lines_more : (a b c : Shown) → PutsLines (map f (take n all)) a b → Appends b.written c.written line → c.puts ≡ next_count b.puts
      → PutsLines (map f (take (n + 1) all)) a c
  lines_more a b c p more counted =
      let one = get_or all n d in
      let lines : map f (take n all) ++ line ∷ [] ≡ map f (take (n + 1) all) =
      rw same (sym (map-append f (take n all) (one ∷ []))
      ∙ sym (ap (map f) (take_more all n d within))) in
      rw lines at (PutsLines-more line c p more counted)

  pub lines_fail : (a b c : Shown) → PutsLines (map f (take n all)) a b → AppendsFront b.written c.written line → c.puts ≡ next_count b.puts
      → PutFails (map f all) a c
  lines_fail a b c p front counted =
      let one = get_or all n d in
      let rest = drop (n + 1) all in
      let split : take n all ++ one ∷ rest ≡ all = sym
      (ap (λ xs. take n all ++ xs) (at_drop_more (λ (xs : List X). xs) all n d within)) ∙ take-append-drop n all in
      let lines : map f (take n all) ++ line ∷ map f rest ≡ map f all =
      rw same (sym (map-append f (take n all) (one ∷ rest)) ∙ ap (map f) split) in
      rw lines at (PutsLines-fails line (map f rest) c p front counted)

-- ---- answers that are one of those with a property

-- the one answer with the property was given
pub one_given : (Is : Answer → Type 0) (a : Answer) (status : Status) (old new : Shown) → Is a → ((b : Answer) → Is b → b ≡ a) → Gives a status old new
    → GivesOne Is status old new
one_given Is a status old new is one (inl g) = inl (a, is, g.0, g.1, g.2)
one_given Is a status old new is one (inr (inl g)) = inr (inl (g.0, λ b h. rw (one b h) g.1))
one_given Is a status old new is one (inr (inr g)) = inr (inr (g.0, λ b h. rw (one b h) g.1))

-- nothing put is a front of any lines
pub none_put : (lines : List (List ℕ)) (old new : Shown) → PutsLines [] old new → PutsSome lines old new
none_put lines old new p = record { done = []; left = lines; order = refl; puts = p }

-- the first ones of no lines
some_nothing : (lines : List (List ℕ)) (old new : Shown) → lines ≡ [] → PutsSome lines old new → PutsLines [] old new
some_nothing lines old new e s =
    let none = no_front s.done s.left (sym e ∙ s.order) in rw none at s.puts

-- an answer without lines puts nothing
puts_nothing : (a : Answer) (status : Status) (old new : Shown) → a.lines ≡ [] → Gives a status old new → PutsLines [] old new
puts_nothing a status old new e (inl g) = rw e at g.1
puts_nothing a status old new e (inr (inl (is, inl g))) = absurd (none_stands g.done g.line g.left (sym e ∙ g.order))
puts_nothing a status old new e (inr (inl (is, inr g))) = some_nothing a.lines old new e g
puts_nothing a status old new e (inr (inr g)) = some_nothing a.lines old new e g.1

-- ---- what was put of an answer

-- a front of its lines
some_given : (a : Answer) (status : Status) (old new : Shown) → (status ≡ WriteFault → ⊥) → Gives a status old new → PutsSome a.lines old new
some_given a status old new not (inl g) = PutsSome-all g.1
some_given a status old new not (inr (inl g)) = absurd (not g.0)
some_given a status old new not (inr (inr g)) = g.1

fails_given : (a : Answer) (status : Status) (old new : Shown) → Gives a status old new → WriteFails a.lines old new
fails_given a status old new (inl g) = inr (PutsSome-all g.1)
fails_given a status old new (inr (inl g)) = g.1
fails_given a status old new (inr (inr g)) = inr g.1

-- ---- an answer that is there

-- there is one, and it was given as each is
pub one_of : (Is : Answer → Type 0) (status : Status) (old new : Shown) → (a : Answer) × Is a → GivesOne Is status old new
    → (a : Answer) × Is a × Gives a status old new
one_of Is status old new there (inl (a, is, same, puts, passed)) = (a, is, inl (same, puts, passed))
one_of Is status old new there (inr (inl g)) = (there.0, there.1, inr (inl (g.0, g.1 there.0 there.1)))
one_of Is status old new there (inr (inr g)) = (there.0, there.1, inr (inr (g.0, g.1 there.0 there.1)))

-- an answer with a property has a wider one
pub answer_widened : (Is Wide : Answer → Type 0) (status : Status) (old new : Shown) → ((a : Answer) → Is a → Wide a) → GivesAnswer Is status old new
    → GivesAnswer Wide status old new
answer_widened Is Wide status old new into (inl (a, is, g)) = inl (a, into a is, g)
answer_widened Is Wide status old new into (inr none) = inr none

-- where a read failed or memory ran out before any put
pub unput_answer : (Is : Answer → Type 0) (a : Answer) (status : Status) (old new : Shown) → (a.status ≡ ReadFault) ⊎ (a.status ≡ OutOfMemory)
    → (status ≡ WriteFault → ⊥) × PutsNone old new → Gives a status old new → GivesAnswer Is status old new
unput_answer Is a status old new (inl read) unput (inl g) = inr (inl (g.0 ∙ read), unput.1)
unput_answer Is a status old new (inr memory) unput (inl g) = inr (inr (g.0 ∙ memory), unput.1)
unput_answer Is a status old new cause unput (inr (inl g)) = absurd (unput.0 g.0)
unput_answer Is a status old new cause unput (inr (inr g)) = inr (g.0, unput.1)

-- where all answers are those of valid input, and no count of faults rose, all is done
pub answered_done : (Is : Answer → Type 0) (status : Status) (old new : Shown) (SourceRose SinkRose : Type 0) → GivesAnswer Is status old new
    → ((a : Answer) → Is a → a.status ≡ Done) → (status ≡ ReadFault → SourceRose) → (status ≡ WriteFault → SinkRose) → (SourceRose → ⊥) → (SinkRose → ⊥)
    → IsDone status
answered_done Is status old new SourceRose SinkRose (inl (a, is, inl g)) done read write quiet calm = inl (g.0 ∙ done a is)
answered_done Is status old new SourceRose SinkRose (inl (a, is, inr (inl g))) done read write quiet calm = absurd (calm (write g.0))
answered_done Is status old new SourceRose SinkRose (inl (a, is, inr (inr (inl r, p)))) done read write quiet calm = absurd (quiet (read r))
answered_done Is status old new SourceRose SinkRose (inl (a, is, inr (inr (inr m, p)))) done read write quiet calm = inr m
answered_done Is status old new SourceRose SinkRose (inr (inl r, p)) done read write quiet calm = absurd (quiet (read r))
answered_done Is status old new SourceRose SinkRose (inr (inr m, p)) done read write quiet calm = inr m

-- ---- what was put of an answer that is safe is safe, whatever the status

module _ (Whole : Status → Shown → Shown → Type 0) (IsSafe : List (List ℕ) → Type 0) where
  -- the lines of the answer are safe, or there are none; and all of them are what its status promises
  pub record IsSafeAnswer (a : Answer) : Type 0 where
    pub safe : IsSafe a.lines ⊎ (a.lines ≡ [])
    pub whole : (old new : Shown) → PutsLines a.lines old new → Whole a.status old new

  -- so is what is answered where there is no accepted network
  pub none_safe : (lines : List ℕ → List (List ℕ)) → ((reason : List ℕ) → IsSafe (lines reason))
      → ((cause : NoNetwork) (old new : Shown) → PutsLines (answer_by lines cause).lines old new → Whole (answer_by lines cause).status old new)
      → (cause : NoNetwork) → IsSafeAnswer (answer_by lines cause)
  none_safe lines safe whole causes.ReadFault = record { safe = inr refl; whole = whole causes.ReadFault }
  none_safe lines safe whole causes.TooLong = record { safe = inr refl; whole = whole causes.TooLong }
  none_safe lines safe whole causes.OutOfMemory = record { safe = inr refl; whole = whole causes.OutOfMemory }
  none_safe lines safe whole (causes.File e) = record { safe = inl (safe (file_reason e)); whole = whole (causes.File e) }
  none_safe lines safe whole (causes.Rule told) = record { safe = inl (safe (rule_reason told)); whole = whole (causes.Rule told) }

  module _ (text : List (List ℕ)) (there : IsSafe text) (old new : Shown) where
    -- a status that no fault of the call has
    abbrev IsOfAnswer : Status → Type 0
    IsOfAnswer ReadFault = ⊥
    IsOfAnswer WriteFault = ⊥
    IsOfAnswer OutOfMemory = ⊥
    IsOfAnswer other = Unit {0}

    all : (status : Status) → IsOfAnswer status → GivesAnswer IsSafeAnswer status old new → Whole status old new
    all status of (inl (a, s, inl (same, puts, passed))) = rw same (s.whole old new puts)
    all status of (inl (a, s, inr (inl failed))) = absurd (subst IsOfAnswer failed.0 of)
    all status of (inl (a, s, inr (inr (inl read, some)))) = absurd (subst IsOfAnswer read of)
    all status of (inl (a, s, inr (inr (inr memory, some)))) = absurd (subst IsOfAnswer memory of)
    all status of (inr (inl read, none)) = absurd (subst IsOfAnswer read of)
    all status of (inr (inr memory, none)) = absurd (subst IsOfAnswer memory of)

    -- nothing put is a front of what is safe
    nothing : PutsNone old new → PutsSome text old new
    nothing none = none_put text old new (PutsLines-still new (PutsLines-none old) none)

    some_of : (a : Answer) (status : Status) → IsSafe a.lines ⊎ (a.lines ≡ []) → (status ≡ WriteFault → ⊥) → Gives a status old new
        → PutsSo IsSafe PutsSome old new
    some_of a status (inl safe) not g = (a.lines, safe, some_given a status old new not g)
    some_of a status (inr none) not g = (text, there, none_put text old new (puts_nothing a status old new none g))

    some : (status : Status) → (status ≡ WriteFault → ⊥) → GivesAnswer IsSafeAnswer status old new → PutsSo IsSafe PutsSome old new
    some status not (inl (a, s, g)) = some_of a status s.safe not g
    some status not (inr (cause, none)) = (text, there, nothing none)

    fails_of : (a : Answer) → IsSafe a.lines ⊎ (a.lines ≡ []) → Gives a WriteFault old new → PutsSo IsSafe WriteFails old new
    fails_of a (inl safe) g = (a.lines, safe, fails_given a WriteFault old new g)
    fails_of a (inr none) g = (text, there, inr (none_put text old new (puts_nothing a WriteFault old new none g)))

    fails : GivesAnswer IsSafeAnswer WriteFault old new → PutsSo IsSafe WriteFails old new
    fails (inl (a, s, g)) = fails_of a s.safe g
    fails (inr (cause, none)) = (text, there, inr (nothing none))

    pub puts_safely : (status : Status) → GivesAnswer IsSafeAnswer status old new → PutsSafely Whole IsSafe status old new
    puts_safely WriteFault g = fails g
    puts_safely ReadFault g = some ReadFault (λ e. cc) g
    puts_safely OutOfMemory g = some OutOfMemory (λ e. cc) g
    puts_safely Done g = all Done tt g
    puts_safely Usage g = all Usage tt g
    puts_safely FrameRefused g = all FrameRefused tt g
    puts_safely NetworkRefused g = all NetworkRefused tt g
    puts_safely TraceRefused g = all TraceRefused tt g
    puts_safely OutsideHypothesis g = all OutsideHypothesis tt g
    puts_safely TooLong g = all TooLong tt g
    puts_safely AuditRefused g = all AuditRefused tt g
    puts_safely GranuleRefused g = all GranuleRefused tt g
    puts_safely CaptureRefused g = all CaptureRefused tt g
    puts_safely NameRefused g = all NameRefused tt g
    puts_safely VoteRefused g = all VoteRefused tt g
    puts_safely NumberRefused g = all NumberRefused tt g
    puts_safely MessagesRefused g = all MessagesRefused tt g
    puts_safely PlanRefused g = all PlanRefused tt g
