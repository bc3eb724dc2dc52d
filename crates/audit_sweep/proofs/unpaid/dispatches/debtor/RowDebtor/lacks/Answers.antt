use Rattle.audit_sweep.{proofs.unpaid_lemmas.dispatches_lemmas.RowDebts.lacks_by}
use Rattle.audit_sweep.{specs.records.dispatches.Dispatched.IsAtHand}
use Rattle.{audit_sweep.specs.unpaid.dispatches.{Debtors.scenario_of, Frames.IsTold}, std.proofs.{Common.{◌∙◌, sym}, lemmas.Bool.false≢true}}
use Rattle.audit_sweep.proofs.unpaid.dispatches.debtor.RowDebtor.lacks.Goals as goal

pub returns-then-is_at_hand : goal.returns-then-is_at_hand
returns-then-is_at_hand c befallen hs known so =
    let network = c.args.self.now.network.now in
    let row = c.args.row.now in
    let f = c.args.frame in
    let t = c.args.time in
    let hand = (c.is_at_hand.ensures hs row.vl t so).0 c.if-is_at_hand.true in
    lacks_by c.is_told.result (IsAtHand network hs row.device row.sender row.vl t f.cause f.cycle)
    (IsTold (scenario_of c.args.self.now befallen) hs c.args.link row t f) hand (c.is_told.ensures befallen hs known)

pub returns-else-is_at_hand : goal.returns-else-is_at_hand
returns-else-is_at_hand c befallen hs known so = λ hand.
    absurd (false≢true (sym c.if-is_at_hand.false ∙ (c.is_at_hand.ensures hs c.args.row.now.vl c.args.time so).1 hand))
