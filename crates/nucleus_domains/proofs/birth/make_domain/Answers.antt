use Rattle.std.proofs.Common.{◌≡◌, ◌∙◌, ◌+◌, ◌-◌, ◌<◌, ap, subst, sym, refl, true, Bool, ℕ, List, Some, None, length, if◌then◌else◌}
use Rattle.std.specs.Prelude.{nat_lt}
use Rattle.jx_base.specs.declared.ids.DomainId.{DomainId}
use Rattle.jx_base.proofs.BasicLaws.{ap2}
use Rattle.domain_table.specs.DomainLists as Lists
use Rattle.extent_pool.specs.Taken.{is_taken, with_run}
use Rattle.jx_base.specs.declared.act.Reply.TheVariants as reply
use Rattle.jx_model.specs.Granules.{least_free}
use Rattle.memory_space.specs.SpaceLists.{SpaceState}
use Rattle.nucleus_domains.proofs.NewDomains.{in_range, makes, no_room, too_many}
use Rattle.nucleus_domains.proofs.birth.make_domain.Goals as goal

pub returns-then-not-has_room : goal.returns-then-not-has_room
returns-then-not-has_room c =
    (refl, too_many c.args.system.now c.args.tables.now c.requires.tables c.args.template (sym c.has_room.ensures ∙ c.if-not-has_room.true))

pub take-requires : goal.take-requires
take-requires c =
    subst (λ (n : ℕ). 0 < n) (sym c.heap_granules.ensures.granules) (in_range c.args.system.now c.args.tables.now c.args.template c.requires.tables c.requires.template)

pub returns-in-Some : goal.returns-in-Some
returns-in-Some c =
    let old : Lists.DomainsState = c.args.tables.now.domains in
    let pool : List Bool = c.args.tables.now.space.taken in
    let zero : DomainId = record { 0 = 0 } in
    let room : nat_lt (length old.domains) old.limit ≡ true = sym c.has_room.ensures ∙ c.if-not-has_room.false in
    let number : Some c.unwrap-domain.result ≡ Some (record { 0 = length old.domains + 1 }) =
    sym c.unwrap-domain.ensures ∙ c.add.ensures.number ∙ ap (λ (b : Bool). if b then Some (record { 0 = length old.domains + 1 }) else None) room in
    let domain : c.unwrap-domain.result ≡ record { 0 = length old.domains + 1 } = cc in (
      ap2 (λ (x : Lists.DomainsState) (space : SpaceState). record c.args.tables.now { domains = x; space = space })
          (c.add.ensures.after ∙ ap (λ (b : Bool). if b then Lists.with_domain old (Lists.new_domain c.args.template zero c.in-Some.at) else old) room)
          (c.in-Some.ensures.taken ∙ ap (λ (n : ℕ). record c.args.tables.now.space { taken = with_run pool c.in-Some.at n true }) c.heap_granules.ensures.granules),
      makes c.args.system.now c.args.tables.now c.requires.tables c.args.template c.in-Some.at room
          (c.in-Some.ensures.place ∙ ap (λ (n : ℕ). least_free (is_taken pool) n (length pool + 1 - n) 0) c.heap_granules.ensures.granules)
          ∙ ap (λ (d : DomainId). reply.Domain d c.in-Some.at) (sym domain),
      ap (λ (d : DomainId). d.0) domain,
    )

pub returns-in-None : goal.returns-in-None
returns-in-None c =
    let old : Lists.DomainsState = c.args.tables.now.domains in
    let pool : List Bool = c.args.tables.now.space.taken in (
      ap (λ (space : SpaceState). record c.args.tables.now { space = space }) (c.take.ensures.unchanged c.in-None.is),
      no_room c.args.system.now c.args.tables.now c.requires.tables c.args.template (sym c.has_room.ensures ∙ c.if-not-has_room.false)
          (c.in-None.ensures.place ∙ ap (λ (n : ℕ). least_free (is_taken pool) n (length pool + 1 - n) 0) c.heap_granules.ensures.granules),
    )
