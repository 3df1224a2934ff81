use Rattle.std.proofs.Common.{◌-◌, Some}
use Rattle.std.specs.Option.{option_map}
use Rattle.std.proofs.lemmas.List.{map-set}
use Rattle.region_bytes.proofs.extents.put_bytes.Goals as goal

pub returns : goal.returns
returns c = map-set (option_map (λ bytes. bytes.items)) c.args.extents.now.items (c.args.x - 1) (Some c.args.bytes)
