-- What acts of a kind are and do: they end no run and make no domain, or end it.
use Rattle.std.proofs.Common.{◌≡◌, refl, true, false}
use Rattle.jx_base.specs.declared.act.Act.{Act}
use Rattle.jx_base.specs.declared.act.Act.TheVariants as act
use Rattle.jx_base.specs.declared.act.Reply.{Reply}
use Rattle.jx_base.specs.declared.program.System.{System}
use Rattle.jx_base.specs.Histories.{Past}
use Rattle.jx_model.specs.Domains.{makes_domain}
use Rattle.jx_model.specs.Permits.{is_ending, is_zero_act}
use Rattle.jx_model.specs.WellMade.{IsWellMade}
use Rattle.nucleus_tables.specs.Stepping.{TakesMemory}
use Rattle.supported_acts.specs.SupportedActs.{IsSupported, is_supported}

-- ---- an act of a domain

pub ends_none : (a : Act) → is_zero_act a ≡ false → is_ending a ≡ false
unfolding is_zero_act is_ending
ends_none (act.Create t) h = cc
ends_none act.Quiet h = cc
ends_none act.Halt h = cc
ends_none _ h = refl

pub makes_none : (a : Act) (r : Reply) → is_zero_act a ≡ false → IsSupported a → makes_domain a r ≡ false
unfolding is_zero_act is_supported makes_domain
makes_none (act.Create t) r h u = cc
makes_none (act.Spawn name) r h u = cc
makes_none _ r h u = refl

-- ---- an act that ends the run

-- it takes no memory of the nucleus
pub last_takes_none : (a : Act) → is_ending a ≡ true → TakesMemory a → ⊥
unfolding is_ending
last_takes_none act.Quiet h m = m
last_takes_none act.Halt h m = m
last_takes_none _ h m = cc

pub last_supported : (a : Act) → is_ending a ≡ true → IsSupported a
unfolding is_ending is_supported
last_supported act.Quiet h = refl
last_supported act.Halt h = refl
last_supported _ h = cc

pub last_makes_none : (a : Act) (r : Reply) → is_ending a ≡ true → makes_domain a r ≡ false
unfolding is_ending makes_domain
last_makes_none act.Quiet r h = refl
last_makes_none act.Halt r h = refl
last_makes_none _ r h = cc

pub last_well_made : (s : System) (past : Past) (a : Act) → is_ending a ≡ true → IsWellMade s past a
unfolding is_ending
last_well_made s past act.Quiet h = tt
last_well_made s past act.Halt h = tt
last_well_made s past _ h = cc
