-- What is proved of the first system, by computing it.
use Rattle.std.specs.Prelude.{◌≡◌, refl, ◌-◌, List, [], ◌∷◌, length, Some, slice_get}
use Rattle.std.proofs.Common.{subst, sym, ◌∙◌}
use Rattle.jx_base.specs.declared.act.Act.TheVariants as act
use Rattle.jx_base.specs.declared.act.Entry.{Entry}
use Rattle.jx_base.specs.declared.act.History.{History}
use Rattle.jx_base.specs.declared.act.Reply.TheVariants as reply
use Rattle.jx_base.specs.declared.program.Plan.{Plan}
use Rattle.jx_base.specs.declared.class_file.ClassFile.{ClassFile}
use Rattle.jx_base.specs.declared.program.System.{System}
use Rattle.test_models.specs.FirstClass.{first_class, first_constants, first_main, first_code}
use Rattle.audit_model.specs.AuditText.{audit_text}
use Rattle.link_model.specs.Linking.{linked_system}
use Rattle.link_model.specs.LinkFaults.{IsLinked}
use Rattle.jx_model.specs.SingleWorker.{IsSingleWorkerHistory}
use Rattle.test_models.proofs.HelloLinked.{is_linked}
use Rattle.test_models.proofs.FirstClass.{hello_audit}
use Rattle.test_models.proofs.FirstComplete.{hello_history, hello_is_single, hello_has_audit}
use Rattle.test_models.proofs.Hello.{hello_plan, hello_file, hello_system, hello_links}
use Rattle.system_text.specs.Description.{one_class_plan}
use Rattle.test_models.specs.FirstSystem.{first_plan, first_files, first_system, one_print, first_history, first_audit, EndsQuiet}

plan_is : first_plan ≡ hello_plan 1000000
unfolding first_plan one_class_plan
plan_is = refl

files_are : first_files ≡ hello_file ∷ []
unfolding first_files first_class first_constants first_main first_code
files_are = refl

links_so : (p : Plan) (fs : List ClassFile) → p ≡ hello_plan 1000000 → fs ≡ hello_file ∷ [] → linked_system p fs ≡ hello_system 1000000
links_so p fs q r =
    subst (λ (x : Plan). linked_system x fs ≡ hello_system 1000000) (sym q)
    (subst (λ (x : List ClassFile). linked_system (hello_plan 1000000) x ≡ hello_system 1000000) (sym r) hello_links)

system_is : first_system ≡ hello_system 1000000
unfolding first_system
system_is = links_so first_plan first_files plan_is files_are

history_is : first_history ≡ hello_history
unfolding first_history one_print
history_is = refl

audit_is : first_audit ≡ hello_audit
unfolding first_audit
audit_is = refl

linked_so : (p : Plan) (fs : List ClassFile) (s : System) → p ≡ hello_plan 1000000 → fs ≡ hello_file ∷ []
    → s ≡ hello_system 1000000 → IsLinked p fs s
linked_so p fs s q r t =
    subst (λ (x : Plan). IsLinked x fs s) (sym q)
    (subst (λ (x : List ClassFile). IsLinked (hello_plan 1000000) x s) (sym r)
    (subst (λ (x : System). IsLinked (hello_plan 1000000) (hello_file ∷ []) x) (sym t) is_linked))

single_so : (s : System) (h : History) → s ≡ hello_system 1000000 → h ≡ hello_history → IsSingleWorkerHistory s h
single_so s h t q =
    subst (λ (x : System). IsSingleWorkerHistory x h) (sym t)
    (subst (λ (x : History). IsSingleWorkerHistory (hello_system 1000000) x) (sym q) hello_is_single)

audit_so : (s : System) (h : History) → s ≡ hello_system 1000000 → h ≡ hello_history → audit_text s h ≡ hello_audit
audit_so s h t q =
    subst (λ (x : System). audit_text x h ≡ hello_audit) (sym t)
    (subst (λ (x : History). audit_text (hello_system 1000000) x ≡ hello_audit) (sym q) hello_has_audit)

pub first_linked : IsLinked first_plan first_files first_system
first_linked = linked_so first_plan first_files first_system plan_is files_are system_is

pub first_single : IsSingleWorkerHistory first_system first_history
first_single = single_so first_system first_history system_is history_is

pub first_audit_is : audit_text first_system first_history ≡ first_audit
first_audit_is = audit_so first_system first_history system_is history_is ∙ sym audit_is

abbrev last_entry : Entry
last_entry = record { domain = record { 0 = 0 }; thread = record { 0 = 0 }; act = act.Quiet; reply = reply.Done }

is_last : slice_get first_history.entries (length first_history.entries - 1) ≡ Some last_entry
unfolding first_history one_print
is_last = refl

pub first_ends : EndsQuiet first_history
first_ends = record { last = last_entry; is_last = is_last; quiet = refl }
