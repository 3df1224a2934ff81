use Rattle.std.proofs.Common.{◌≡◌, ◌∙◌, ◌+◌, ◌≤◌, ◌∷◌, ap, subst, sym, refl, ℕ, List, length, Option, Some}
use Rattle.std.specs.declared.alloc.AllocFailed.{AllocFailed}
use Rattle.std.specs.Prelude.{IfOk, OnOk, Result, nat_eq}
use Rattle.std.proofs.lemmas.List.{length-append}
use Rattle.indexmap.specs.IndexMap.{Updates, get}
use Rattle.portal_table.specs.NameLists.{NamesState, digest_of, name_words}
use Rattle.portal_table.proofs.NamesPushed.{is_more, state_more}
use Rattle.portal_table.proofs.names.Names.push.Goals as goal

-- what an insert of the map answers
abbrev Inserted : Type 0
Inserted = Result (Option ℕ) (AllocFailed (ℕ × ℕ))

-- where the units of the name stand, the next older name of its digest, and what the map knows then
start_is : (c : goal.After-push_reserved) → c.len-start.result ≡ length c.self.inside.units.items
start_is c = c.len-start.ensures ∙ c.self.inside.units.ok.0

end_is : (c : goal.After-push_reserved) → c.len.result ≡ length c.self.inside.units.items + length c.args.name.now
end_is c =
    c.len.ensures ∙ c.push_units.new.units.ok.0 ∙ ap (λ (xs : List ℕ). length xs) c.push_units.ensures.items ∙ length-append c.self.inside.units.items c.args.name.now

older_is : (c : goal.After-push_reserved) → c.unwrap-older.result ≡ get nat_eq c.self.inside.newest (digest_of c.args.name.now)
older_is c =
    subst (λ (r : Inserted). IfOk r (λ old. old ≡ get nat_eq c.self.inside.newest c.digest.result)) c.unwrap-older.ensures c.insert.ensures.old
    ∙ ap (get nat_eq c.self.inside.newest) c.digest.ensures

updates : (c : goal.After-push_reserved) → Updates nat_eq c.self.inside.newest c.insert.new.self (digest_of c.args.name.now) (Some (length c.self.inside.binds.items))
updates c =
    subst (λ (d : ℕ). Updates nat_eq c.self.inside.newest c.insert.new.self d (Some (length c.self.inside.binds.items))) c.digest.ensures
    (subst (λ (n : ℕ). Updates nat_eq c.self.inside.newest c.insert.new.self c.digest.result (Some n)) (c.len-place.ensures ∙ c.self.inside.binds.ok.0)
    (subst (λ (r : Inserted). OnOk r (Updates nat_eq c.self.inside.newest c.insert.new.self c.digest.result (Some c.len-place.result))) c.unwrap-older.ensures c.insert.ensures.updates))

pub invariant_of-self : goal.invariant_of-self
invariant_of-self c =
    is_more c.self.inside (record { units = c.push_units.new.units; binds = c.push_reserved.new.self; newest = c.insert.new.self; words = c.self.inside.words })
    c.args.name.now _ c.self.invariant c.push_units.ensures.items c.push_reserved.ensures.items (start_is c) (end_is c) (older_is c) (updates c) refl
    c.insert.ensures.unique c.insert.ensures.spare c.push_units.ensures.capacity c.push_reserved.ensures.capacity
    (subst (λ (x : NamesState). name_words ((c.args.name.now, c.args.service.0) ∷ x.binds) ≤ x.words) (sym c.self.view_is) c.requires)

pub returns : goal.returns
returns c =
    state_more c.self.inside (record { units = c.push_units.new.units; binds = c.push_reserved.new.self; newest = c.insert.new.self; words = c.self.inside.words })
    c.args.name.now _ c.self.invariant c.push_units.ensures.items c.push_reserved.ensures.items (start_is c) (end_is c) (older_is c) (updates c) refl
    ∙ ap (λ (x : NamesState). record x { binds = (c.args.name.now, c.args.service.0) ∷ x.binds }) c.self.view_is
