-- Which constants are used, and what they mean.
use Rattle.std.specs.Prelude.{◌≡◌, ◌<◌, ℕ, Bool, false, List, length, get_or, if◌then◌else◌, unwrap_or}
use Rattle.jx_base.specs.Basics.{contains_number}
use Rattle.jx_base.specs.declared.class_file.ClassFile.{ClassFile}
use Rattle.jx_base.specs.declared.class_file.Constant.{Constant}
use Rattle.jx_base.specs.declared.program.Resolved.{Resolved}
use Rattle.jx_base.specs.declared.program.Resolved.TheVariants as resolved
use Rattle.jx_base.specs.declared.program.System.{System}
use Rattle.link_model.specs.Linking.{meaning_of}

-- of each index below a count a mark says whether it is used
pub record AreMarked (used : List ℕ) (count : ℕ) (marks : List Bool) : Type 0 where
  pub length : length marks ≡ count
  pub marked : (i : ℕ) → i < count → get_or marks i false ≡ contains_number used i

-- what a constant means, unused or not
abbrev pub meaning_where : System → ClassFile → Bool → Constant → Resolved
meaning_where s f is_used k = if is_used then unwrap_or (meaning_of s f k) resolved.Unused else resolved.Unused
