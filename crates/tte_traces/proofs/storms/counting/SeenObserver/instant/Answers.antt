use Rattle.{std.specs.Int.w64, tte_units.specs.Amount.amount}
use Rattle.{std.proofs.Common.{◌≡◌, inl, inr, of_z, refl, rules, subst, sym, to_z}, tte_traces.proofs.storms_lemmas.Locals.{less_kept, most_kept, same_kept}}
use Rattle.std.proofs.lemmas.Int.{to_z-of_z}
use Rattle.tte_traces.proofs.storms_lemmas.Summed.{seen_settled}
use Rattle.world_drive.specs.Observing.{IsCompleteExact, told_by}
use Rattle.tte_traces.proofs.storms.counting.SeenObserver.instant.Goals as goal

pub spread_at-spread-requires-clause-same : goal.spread_at-spread-requires-clause-same
spread_at-spread-requires-clause-same g c = c.requires.may.complete.is.is.same

pub spread_at-spread-requires-clause-complete : goal.spread_at-spread-requires-clause-complete
spread_at-spread-requires-clause-complete g c =
    let m = c.requires.may in
    record {
      events = m.events;
      notes = m.notes;
      is = subst (λ n. IsCompleteExact n c.args.world.now (amount c.args.time) m.events m.notes) (sym m.complete.is.is.same) m.complete;
    }

pub returns-then-self-spread-clause-goes : goal.returns-then-self-spread-clause-goes
returns-then-self-spread-clause-goes g c events notes old complete seen =
    let at = c.spread_at-spread.result in
    let same : to_z w64 (of_z w64 at) ≡ at = to_z-of_z w64 at (search rules) in
    let was = to_z-of_z w64 c.args.self.now.spread (search rules) in
    seen_settled c.args.network.now events notes (amount c.args.time) c.args.world.now at old.told (told_by g.K.Sink c.args._out.now) c.args.self.now _
    complete seen (c.spread_at-spread.ensures events notes complete) refl
    (less_kept c.args.self.now.spread at _ _ was same c.if-self-spread.true) (same_kept _ at same) (inr same)

pub returns-else-self-spread-clause-goes : goal.returns-else-self-spread-clause-goes
returns-else-self-spread-clause-goes g c events notes old complete seen =
    let at = c.spread_at-spread.result in
    let same : to_z w64 (of_z w64 at) ≡ at = to_z-of_z w64 at (search rules) in
    let was = to_z-of_z w64 c.args.self.now.spread (search rules) in
    seen_settled c.args.network.now events notes (amount c.args.time) c.args.world.now at old.told (told_by g.K.Sink c.args._out.now) c.args.self.now _
    complete seen (c.spread_at-spread.ensures events notes complete) refl (same_kept c.args.self.now.spread c.args.self.now.spread refl)
    (most_kept c.args.self.now.spread at _ _ was same c.if-self-spread.false) (inl refl)
