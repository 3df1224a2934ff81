-- Which acts have code by now, histories of them, and the first act of one worker that has none.
use Rattle.std.specs.Prelude.{◌≡◌, ℕ, Bool, false, true, IsTrue, Some}
use Rattle.std.specs.List.{AllByRecursion}
use Rattle.jx_base.specs.declared.act.Act.{Act}
use Rattle.jx_base.specs.declared.act.Act.TheVariants as act
use Rattle.jx_base.specs.declared.act.History.{History}
use Rattle.jx_base.specs.declared.program.System.{System}
use Rattle.jx_base.specs.Histories.{Past}
use Rattle.jx_model.specs.Domains.{template_of}
use Rattle.jx_model.specs.Legal.{IsLegalPast}
use Rattle.jx_model.specs.Permits.{is_over}
use Rattle.jx_model.specs.SingleWorker.{PicksEach, pick}

-- whether the code of the act is there
unfoldable pub is_supported : Act → Bool
is_supported (act.Alloc n) = false
is_supported (act.Size m) = false
is_supported (act.Get m at width) = false
is_supported (act.Set m at width v) = false
is_supported (act.Fill m at count b) = false
is_supported (act.Copy m at k k_at count) = false
is_supported (act.Sub m at count) = false
is_supported (act.Split m at) = false
is_supported (act.Revoke m) = false
is_supported (act.Release m) = false
is_supported (act.Spawn name) = false
is_supported (act.Kill k) = false
is_supported _ = true

-- the code of the act is there
abbrev pub IsSupported : Act → Type 0
IsSupported a = IsTrue (is_supported a)

-- each act of the history has code
abbrev pub HasSupportedActs : History → Type 0
HasSupportedActs h = AllByRecursion (λ e. IsSupported e.act) h.entries

-- each act of the past has code
abbrev pub AreSupported : Past → Type 0
AreSupported past = AllByRecursion (λ e. IsSupported e.act) past

-- One worker comes to an act that has no code: after entries that it made, all of them of acts with code, it picks one of a domain of template t.
pub record LacksCode (s : System) (t : ℕ) : Type 0 where
  pub past : Past
  pub legal : IsLegalPast s past
  pub picked : PicksEach s past
  pub supported : AreSupported past
  pub going : is_over past ≡ false
  pub no_code : is_supported (pick s past).act ≡ false
  pub template : template_of s past (pick s past).domain ≡ Some t
