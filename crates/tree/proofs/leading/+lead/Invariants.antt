use Rattle.tree.proofs.leading.+lead.Given as goal

abbrev pub decreases-lead : goal.decreases-lead
decreases-lead g l = l.last
