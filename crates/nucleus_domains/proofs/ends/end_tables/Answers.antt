use Rattle.std.proofs.Common.{◌≡◌, ◌∙◌, sym, subst, ℕ, suc, zero, List, [], Some}
use Rattle.jx_base.specs.Basics.{numbered}
use Rattle.jx_model.specs.Granules.{Run}
use Rattle.jx_model.specs.Tables.{ExtentRecord}
use Rattle.memory_space.specs.ExtentLists.{IsClear}
use Rattle.nucleus_tables.proofs.DomainReads.{live_numbered}
use Rattle.nucleus_tables.proofs.LiveDomains.{given_taken, live_record, there}
use Rattle.nucleus_domains.proofs.ends.end_tables.Goals as goal

pub unwrap-ended-requires : goal.unwrap-ended-requires
unwrap-ended-requires c = there c.args.system.now c.args.tables.now c.requires.tables c.args.domain.0 c.requires.live c.state.result c.state.ensures

pub end-requires : goal.end-requires
end-requires c = live_record c.args.system.now c.args.tables.now c.requires.tables c.args.domain.0 c.requires.live

-- with no extents, none is in the way
none_there : (extents : List ExtentRecord) (run : Run) → extents ≡ [] → IsClear extents run
unfolding numbered
none_there extents run q = subst (λ (items : List ExtentRecord). IsClear items run) (sym q) (λ e item h. nowhere e item h)
  where
    nowhere : {B : Type 0} (e : ℕ) (item : ExtentRecord) → numbered {A = ExtentRecord} [] e ≡ Some item → B
    nowhere zero item h = cc
    nowhere (suc e) item h = cc

pub give-requires : goal.give-requires
give-requires c =
    record {
      taken = given_taken c.args.system.now c.args.tables.now c.requires.tables c.args.domain.0 c.requires.live c.unwrap-ended.result c.heap_granules.result
          (sym c.state.ensures ∙ c.unwrap-ended.ensures) c.heap_granules.ensures.granules;
      clear = none_there c.args.tables.now.space.extents _ c.requires.tables.no_extents;
    }

pub end_domain-requires : goal.end_domain-requires
end_domain-requires c = live_numbered c.args.system.now c.args.tables.now c.args.domain.0 c.requires.tables c.requires.live
