-- An act with code is one that the nucleus enters.
use Rattle.jx_base.specs.declared.act.Act.{Act}
use Rattle.jx_base.specs.declared.act.Act.TheVariants as act
use Rattle.supported_acts.specs.SupportedActs.{IsSupported, is_supported}
use Rattle.nucleus_tables.specs.Stepping.{HasEntry}

pub supported_has_entry : (a : Act) → IsSupported a → HasEntry a
unfolding is_supported
supported_has_entry (act.Alloc n) u = cc
supported_has_entry (act.Size m) u = cc
supported_has_entry (act.Get m at width) u = cc
supported_has_entry (act.Set m at width v) u = cc
supported_has_entry (act.Fill m at count b) u = cc
supported_has_entry (act.Copy m at k k_at count) u = cc
supported_has_entry (act.Sub m at count) u = cc
supported_has_entry (act.Split m at) u = cc
supported_has_entry (act.Revoke m) u = cc
supported_has_entry (act.Release m) u = cc
supported_has_entry (act.Spawn name) u = cc
supported_has_entry (act.Kill k) u = cc
supported_has_entry _ u = tt
