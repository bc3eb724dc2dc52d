use Rattle.lens_flows.proofs.AllTold.{certain_are_due, certain_are_owed, none_is_missing}
use Rattle.lens_flows.proofs.laws.flows_law.Goals as goal

pub returns : goal.returns
returns c = record { missing = none_is_missing; certain = certain_are_owed; due = certain_are_due }
