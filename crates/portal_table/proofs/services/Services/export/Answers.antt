use Rattle.std.proofs.Common.{◌≡◌, ◌∙◌, ◌+◌, ap, length, sym, Bool, true, false, ℕ, arith}
use Rattle.std.specs.Prelude.{nat_le}
use Rattle.std.proofs.lemmas.Bool.Decides.{nat_tests}
use Rattle.std.proofs.lemmas.List.{length-map}
use Rattle.jx_base.specs.declared.act.Refusal.TheVariants as refusal
use Rattle.jx_base.specs.declared.act.Reply.TheVariants as reply
use Rattle.jx_base.proofs.BasicLaws.{ap2}
use Rattle.jx_model.specs.Replies.{◌refuses◌else◌}
use Rattle.portal_table.specs.ServiceLists.{ServicesState}
use Rattle.portal_table.specs.ServicesInside.{record_of}
use Rattle.portal_table.proofs.services.Services.export.Goals as goal

pub returns-then-made-ge-SERVICES-clause-reply : goal.returns-then-made-ge-SERVICES-clause-reply
unfolding ◌refuses◌else◌
returns-then-made-ge-SERVICES-clause-reply c =
    let count : length c.args.self.now.services ≡ c.len-made.result =
    ap (λ (x : ServicesState). length x.services) (sym c.self.view_is) ∙ length-map c.self.inside.services.items record_of ∙ sym (c.len-made.ensures ∙ c.self.inside.services.ok.0) in
    let full : nat_le 256 (length c.args.self.now.services) ≡ true = grind (arith, nat_tests, count, c.if-made-ge-SERVICES.true) in
    sym (ap (λ (b : Bool). b refuses refusal.TooMany else reply.Service (record { 0 = length c.args.self.now.services + 1 }) c.args.interface) full)

pub returns-clause-reply : goal.returns-clause-reply
unfolding ◌refuses◌else◌
returns-clause-reply c =
    let count : length c.args.self.now.services ≡ c.len-made.result =
    ap (λ (x : ServicesState). length x.services) (sym c.self.view_is) ∙ length-map c.self.inside.services.items record_of ∙ sym (c.len-made.ensures ∙ c.self.inside.services.ok.0) in
    let room : nat_le 256 (length c.args.self.now.services) ≡ false = grind (arith, nat_tests, count, c.if-made-ge-SERVICES.false) in
    sym (ap2 (λ (b : Bool) (n : ℕ). b refuses refusal.TooMany else reply.Service (record { 0 = n + 1 }) c.args.interface) room count)
