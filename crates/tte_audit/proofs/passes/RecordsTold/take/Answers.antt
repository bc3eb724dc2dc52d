use Rattle.{report_text.specs.Ranges.IsNoteOf, run_law.specs.declared.note.NoteBody.TheVariants.Event}
use Rattle.tte_audit.proofs.Words.{◌∙◌, ◌≡◌, Follows, MayCome, Note, arith, events_of, false, is_some, refl, subst, sym, with_event}
use Rattle.tte_audit.proofs.{RightEvents.{match_false, match_true}}
use Rattle.tte_audit.proofs.Telling.{fault_stays, few, followed, goes_on, stops}
use Rattle.tte_audit.proofs.passes.RecordsTold.take.Goals as goal

pub returns-then-is_some : goal.returns-then-is_some
returns-then-is_some c network notes told of =
    fault_stays c.args.read.now _ told (sym c.is_some.ensures ∙ c.if-is_some.true) refl refl

pub admit-requires-clause-few : goal.admit-requires-clause-few
admit-requires-clause-few c =
    let r = c.requires.told in
    omega (arith, few r.0 r.1 c.args.self.now r.2 (sym c.is_some.ensures ∙ c.if-is_some.false), c.requires.few)

pub returns-then-not-branch : goal.returns-then-not-branch
returns-then-not-branch c network notes told of =
    let none : is_some c.args.self.now.fault ≡ false = sym c.is_some.ensures ∙ c.if-is_some.false in
    let own = followed network notes c.args.self.now told none in
    let note : Note = record {
      number = c.read.inside.number;
      time = c.read.inside.event.time;
      body = Event c.read.inside.line c.read.inside.event.what;
    } in
    let of' : IsNoteOf network note = subst (λ n. IsNoteOf network n) (sym c.read.view_is) of in
    let wrong = match_false c.in_ok-admit.field-0 _ _ (c.in_ok-admit.ensures network (events_of notes) own.follows of') c.if-not-branch.true in
    let wrong' = subst (λ (n : Note). MayCome network (events_of notes) n.time n.body → ⊥) c.read.view_is wrong in
    stops c.args.read.now _ told none refl refl wrong'

pub returns-else-not-branch : goal.returns-else-not-branch
returns-else-not-branch c network notes told of =
    let none : is_some c.args.self.now.fault ≡ false = sym c.is_some.ensures ∙ c.if-is_some.false in
    let own = followed network notes c.args.self.now told none in
    let note : Note = record {
      number = c.read.inside.number;
      time = c.read.inside.event.time;
      body = Event c.read.inside.line c.read.inside.event.what;
    } in
    let of' : IsNoteOf network note = subst (λ n. IsNoteOf network n) (sym c.read.view_is) of in
    let more = match_true c.in_ok-admit.field-0 _ _ (c.in_ok-admit.ensures network (events_of notes) own.follows of') c.if-not-branch.false in
    let may = subst (λ (n : Note). MayCome network (events_of notes) n.time n.body) c.read.view_is more.0 in
    let new = c.admit.new.self in
    let follows =
    subst (λ (n : Note). Follows network new.watch new.history new.count new.end (with_event (events_of notes) n.time n.body)) c.read.view_is more.1 in
    goes_on c.args.read.now _ told none refl refl may follows
