use Rattle.audit_devices.{proofs.stretches_lemmas.Stretches.{GoesOn, kept_on, points_then}}
use Rattle.audit_devices.{specs.declared.stretches.kept.Entry.Entry}
use Rattle.{audit_devices.specs.stretches.{Keeping.Stretches, Points.points_with}, std.proofs.Common.{◌++◌, ◌∙◌, ◌∷◌, ◌≡◌, List, [], ap, refl, subst, sym, ℕ}}
use Rattle.{audit_law.specs.collections.{Gathered.Gathers, Kept.History}, run_law.specs.control.Collections.points_of}
use Rattle.audit_devices.proofs.stretches.kept.Kept.take.Goals as goal

pub returns : goal.returns
returns c network hs h device of is place_is carried_is all may keeps =
    let old = c.args.self.now in
    let middle : Stretches = c.next.new.self in
    let g = c.in_ok-gathering.gathering in
    let told = c.in_ok-gathering.ensures in
    let new : Stretches = record { collections = c.self.inside.collections; latest = g; entries = c.push.new.self.items } in
    let same : c.self.inside.collections ≡ middle.collections = ap (λ (k : Stretches). k.collections) c.self.view_is in
    let were : c.self.inside.entries.items ≡ middle.entries = ap (λ (k : Stretches). k.entries) c.self.view_is in
    let points : points_of (hs ++ h ∷ []) device ≡ points_with (points_of hs device) c.args.change c.args.carried =
    points_then hs h device c.args.change is of ∙ ap (points_with (points_of hs device) c.args.change) (sym carried_is) in
    let entry : List ℕ → Entry = λ p. record { place = p; gathering = g } in
    let goes : GoesOn hs device h old new g = record {
      ow = ap (λ (x : History). x.ow) same ∙ told.same.0;
      calc = ap (λ (x : History). x.calc) same ∙ told.same.1;
      latest = refl;
      gathers = subst (λ x. Gathers x g (points_of (hs ++ h ∷ []) device)) (sym same)
          (subst (Gathers middle.collections g) (sym points) (told.gathers (points_of hs device) keeps.latest may));
      kept = λ other ps was. subst (λ x. Gathers x other ps) (sym same) (told.kept other ps was);
      entries = c.in_ok-push.ensures.items ∙ ap (λ (xs : List Entry). xs ++ entry c.args.place ∷ []) (were ∙ told.entries)
          ∙ ap (λ p. old.entries ++ entry p ∷ []) place_is;
    } in
    kept_on all goes keeps
