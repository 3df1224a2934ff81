use Rattle.interp_num.proofs.depth.+slots_left.Given as goal

abbrev pub decreases-slots_left : goal.decreases-slots_left
decreases-slots_left l = l.most
