use Rattle.machine_laws.proofs.Cores.{standing_cores}
use Rattle.machine_laws.proofs.laws.standing_cores_hold.Goals as goal

pub returns : goal.returns
returns c = standing_cores _ _ c.requires.sound c.requires.admitted
