use Rattle.jx_top.proofs.finding.find_system.Goals as goal

pub described_system-requires : goal.described_system-requires
described_system-requires g c = λ ends. c.in-None.ensures (c.requires ends)
