-- What a switch dispatches of a frame that it took.
use Rattle.std.specs.Prelude.{None, Option, Some, ℕ}
use Rattle.audit_sweep.specs.declared.records.{dispatches.leaving.Dispatch.Dispatch, kept.Kept.TheVariants.Accepted}
use Rattle.{audit_sweep.specs.declared.records.kept.Kept.Kept, net_plan.specs.declared.ids.LinkId.LinkId}

-- what it dispatches on the link of the frame that it took by a record of this number, of which this is kept
abbrev pub passed_as : LinkId → ℕ → Option Kept → Option Dispatch
passed_as link cause (Some (Accepted device vl cycle)) =
    Some (record { link = link; cause = cause; vl = vl; cycle = cycle })
passed_as link cause other = None
