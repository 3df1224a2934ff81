-- The least place at which granules are free, by the table.
use Rattle.std.proofs.Common.{◌≡◌, refl, ℕ, suc, zero, ◌+◌, Bool, List, [], ◌∷◌, arith, inr}
use Rattle.jx_base.specs.Basics.{passes}
use Rattle.jx_model.specs.Granules.{least_free}
use Rattle.extent_pool.specs.Taken as Pool
use Rattle.table_reads.proofs.ReplyReads.{fit_same}
use Rattle.table_reads.specs.TableReads.{is_flagged}

-- a granule that the table has as taken
pub flag_is : (taken : List Bool) (g : ℕ) → is_flagged taken g ≡ Pool.is_taken taken g
unfolding passes
flag_is [] g = refl
flag_is (x ∷ taken) zero = refl
flag_is (x ∷ taken) (suc g) = flag_is taken g

-- so the least free place is the same
pub least_is : (taken : List Bool) (n more : ℕ) → least_free (is_flagged taken) n more 0 ≡ least_free (Pool.is_taken taken) n more 0
least_is taken n more =
    fit_same (is_flagged taken) (Pool.is_taken taken) (more + n) n more 0 (λ g l. flag_is taken g) (inr (omega arith))
