use Rattle.std.proofs.Common.{◌∙◌, List, subst, sym}
use Rattle.lens_slack.proofs.Taken.{are_writable}
use Rattle.schedule_checker.{proofs.ShapeRules.tree_of, specs.Groups.AreGroups}
use Rattle.lens_slack.specs.{Finds.AreOf, Writing.IsWritable}
use Rattle.{lens_slack.specs.declared.measuring.Slack.Slack, net_plan.specs.declared.network.Network.Network, std.specs.Prelude.{All, Err, IfOk, Ok, Result}}
use Rattle.{lens_slack.specs.declared.step.Step.Step, tte_units.specs.declared.memory.OutOfMemory.OutOfMemory}
use Rattle.lens_slack.proofs.measuring.slack_of.Goals as goal

pub beta-requires-clause-tree : goal.beta-requires-clause-tree
beta-requires-clause-tree c = tree_of c.rules_give_trees.ensures c.args.network.now c.in-Ok.ensures.kept

pub take_steps-requires : goal.take_steps-requires
take_steps-requires c = record {
  range = c.requires;
  tree = tree_of c.rules_give_trees.ensures c.args.network.now c.in-Ok.ensures.kept;
  entries = rw c.deref-2.ensures.value c.in-Ok-entries_of.ensures;
  groups = subst (λ es. AreGroups es c.in-Ok-groups_of.groups) (c.deref.ensures.value ∙ sym c.deref-2.ensures.value)
      c.in-Ok-groups_of.ensures;
  beta = c.beta.ensures;
}

writable : (network : Network) (steps : List Step) (r : Result Slack OutOfMemory) → IfOk r (λ s. AreOf network steps s.findings.items s.ending)
    → IfOk r (λ s. All (IsWritable network) s.findings.items)
writable network steps (Ok s) are = are_writable network steps s.findings.items s.ending are
writable network steps (Err e) are = tt

pub returns-clause-writable : goal.returns-clause-writable
returns-clause-writable c = writable c.args.network.now c.args.steps.now c.take_steps.result c.take_steps.ensures.are
