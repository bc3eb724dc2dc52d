use Rattle.std.proofs.Common.{◌≡◌, ◌≢◌, arith, inl, inr, rules, ⊎_elim}
use Rattle.schedule_checker.proofs.Elements.{entry_read, has_source, has_source_back}
use Rattle.schedule_tables.specs.Entries.{source_of}
use Rattle.schedule_checker.proofs.routes.has_source.Goals as goal

pub returns-then-eq : goal.returns-then-eq
returns-then-eq c =
    let n = c.args.network.now in
    let es = c.args.entries.now in
    let e = c.index-entries-place.result in
    let at = entry_read n es c.args.place e c.requires.entries c.requires.place c.index-entries-place.is in
    let sender : source_of e ≡ e.vl.sender = search rules in
    (λ yes. has_source c.args.place e c.requires.entries c.entries_law.ensures.one at (inl sender), λ kept. c.if-eq.true)

pub returns-then-is_switch : goal.returns-then-is_switch
returns-then-is_switch c =
    let n = c.args.network.now in
    let es = c.args.entries.now in
    let e = c.index-entries-place.result in
    let at = entry_read n es c.args.place e c.requires.entries c.requires.place c.index-entries-place.is in
    let other : source_of e ≢ e.vl.sender = search rules in (
      λ yes. has_source c.args.place e c.requires.entries
          c.entries_law.ensures.one at (inr (search rules, c.is_entered_elsewhere.ensures.0 yes)),
      λ kept. c.is_entered_elsewhere.ensures.1
          (⊎_elim (λ s. absurd (other s)) (λ s. s.1)
          (has_source_back c.args.place e c.requires.entries c.entries_law.ensures.one at kept)),
    )

pub returns-else-is_switch : goal.returns-else-is_switch
returns-else-is_switch c =
    search (arith, entry_read, source_of, has_source_back)
