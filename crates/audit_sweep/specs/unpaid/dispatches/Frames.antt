-- The frames of a row that its device dispatches, and the records that tell of them.
use Rattle.std.specs.Prelude.{◌≡◌, List, pos, ℕ}
use Rattle.audit_law.specs.law.{Debts.IsPaid, Owed.{Debt, Pays}}
use Rattle.{audit_law.specs.law.Dispatched.Dispatch, run_law.specs.{device.LocalClocks.Reaches, timed.Dispatching.IsUp}}
use Rattle.audit_sweep.specs.declared.records.dispatches.leaving.LeavingRow.{LeavingRow}
use Rattle.{audit_sweep.specs.declared.unpaid.dispatches.debtor.RowFrame.RowFrame, run_law.specs.records.Happenings.Happening}
use Rattle.audit_sweep.specs.records.dispatches.{Dispatched.IsAtHand, Leavings.{Occurs, leaving_value}}
use Rattle.{net_plan.specs.declared.ids.LinkId.LinkId, run_law.specs.scenario.Scenarios.Scenario}
use Rattle.audit_law.specs.law.Owed as debts

-- the row's device, which is up, has this frame at hand, whose cycle is one of the virtual link, and its clock reaches
-- the row's place in the cycle
pub record OwesFrame (s : Scenario) (hs : List Happening) (row : LeavingRow) (t : ℕ) (frame : RowFrame) : Type 0 where
  pub occurs : Occurs row frame.cycle
  pub up : IsUp s hs row.device t
  pub reached : Reaches s hs row.device (pos (leaving_value s.network row frame.cycle)) t
  pub at_hand : IsAtHand s.network hs row.device row.sender row.vl t frame.cause frame.cycle

-- the dispatch of the frame on the link
abbrev pub dispatch_of : LinkId → LeavingRow → ℕ → RowFrame → Dispatch
dispatch_of link row t frame = record {
  device = row.device;
  link = link;
  cause = frame.cause;
  vl = row.vl;
  cycle = frame.cycle;
  time = t;
}

-- a record tells of it
abbrev pub IsTold : Scenario → List Happening → LinkId → LeavingRow → ℕ → RowFrame → Type 0
IsTold s hs link row t frame = IsPaid hs (Pays s) (debts.dispatch (dispatch_of link row t frame))

-- the debt is the dispatch of a frame of the row, on the link
pub record IsBy (s : Scenario) (hs : List Happening) (link : LinkId) (row : LeavingRow) (o : Debt) : Type 0 where
  pub time : ℕ
  pub frame : RowFrame
  pub owes : OwesFrame s hs row time frame
  pub is : o ≡ debts.dispatch (dispatch_of link row time frame)

-- a frame of the cycle is at hand, and no record tells of its dispatch at the time
pub record LacksOne (s : Scenario) (hs : List Happening) (link : LinkId) (row : LeavingRow) (t cycle : ℕ) : Type 0 where
  pub cause : ℕ
  pub at_hand : IsAtHand s.network hs row.device row.sender row.vl t cause cycle
  pub untold : IsTold s hs link row t (record { cause = cause; cycle = cycle }) → ⊥

-- a record tells of the dispatch at the time of each frame of the cycle that is at hand
abbrev pub AreTold : Scenario → List Happening → LinkId → LeavingRow → ℕ → ℕ → Type 0
AreTold s hs link row t cycle =
    (cause : ℕ) → IsAtHand s.network hs row.device row.sender row.vl t cause cycle
    → IsTold s hs link row t (record { cause = cause; cycle = cycle })
