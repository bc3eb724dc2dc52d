use Rattle.std.proofs.{Common.{◌∙◌, sym}, lemmas.Bool.false≢true}
use Rattle.audit_sweep.proofs.records_lemmas.dispatches_lemmas.Dispatches.{by_some, have_periods}
use Rattle.audit_sweep.proofs.records.dispatches.dispatching.dispatches.Goals as goal

pub is_some_dispatched-requires-clause-periods : goal.is_some_dispatched-requires-clause-periods
is_some_dispatched-requires-clause-periods c = have_periods c.requires.range c.requires.rows

pub returns-then-is_up : goal.returns-then-is_up
returns-then-is_up c s hs t stands last =
    let network = c.args.network.now in
    let device = c.args.device in
    let up = (c.is_up.ensures s hs network device t stands).0 c.if-is_up.true in
    let some = c.is_some_dispatched.ensures s hs t stands last in
    let by = by_some c.args.dispatch.now stands.of_network c.requires.rows up in
    (λ told. by.0 (some.0 told), λ does. some.1 (by.1 does))

pub returns-else-is_up : goal.returns-else-is_up
returns-else-is_up c s hs t stands last = (
  λ told. absurd (false≢true (sym c.if-is_up.false ∙ told)),
  λ does. (c.is_up.ensures s hs c.args.network.now c.args.device t stands).1 does.up,
)
