use Rattle.schedule_checker.proofs.shape.trees.+leads_to_cm.Given as goal

abbrev pub decreases-leads_to_cm : goal.decreases-leads_to_cm
decreases-leads_to_cm l = l.most
