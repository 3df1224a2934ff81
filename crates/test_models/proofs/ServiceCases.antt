-- Calls through portals and services, computed up to the next act.
use Rattle.std.specs.Prelude.{◌≡◌, refl, pos, List, [], ◌∷◌, Some, None, if◌then◌else◌, codes}
use Rattle.jx_base.specs.declared.act.Act.TheVariants as act
use Rattle.jx_base.specs.declared.act.Reply.TheVariants as reply
use Rattle.jx_base.specs.declared.act.Refusal.TheVariants as refusal
use Rattle.std.specs.Str.{bytes_eq}
use Rattle.jx_base.specs.declared.program.Class.{Class}
use Rattle.jx_base.specs.declared.program.Method.{Method}
use Rattle.jx_base.specs.declared.program.System.{System}
use Rattle.jx_base.specs.declared.value.Word.TheVariants as word
use Rattle.machine_model.specs.Machine.{Does, Idle}
use Rattle.opened_models.specs.Opened.{opened_model}
use Rattle.test_models.proofs.Programs.{class, code_of, method_of, main_with, entry, first_act, then_act, ends_with, ends, bad_code, exits, throws, interface_method, after_take, sixty}

-- ---- calls through portals

calls_a_portal : then_act (main_with 1 (0x12 ∷ 0x01 ∷ 0xb8 ∷ 0x00 ∷ 0x15 ∷ 0xc0 ∷ 0x00 ∷ 0x20 ∷ 0xb9 ∷ 0x00 ∷ 0x12 ∷ 0x01 ∷ 0x00 ∷ 0xb8 ∷ 0x00 ∷ 0x03 ∷ 0xb1 ∷ []) (interface_method ∷ [])) (entry 0 (act.Lookup (codes "hi")) (reply.Service (record { 0 = 1 }) (class 33)) ∷ []) ≡ Does (act.Call (record { 0 = 1 }) (record { 0 = 39 }) (record { roots = []; nodes = [] }))
unfolding opened_model
calls_a_portal = refl

waits_for_the_answer : then_act (main_with 1 (0x12 ∷ 0x01 ∷ 0xb8 ∷ 0x00 ∷ 0x15 ∷ 0xc0 ∷ 0x00 ∷ 0x20 ∷ 0xb9 ∷ 0x00 ∷ 0x12 ∷ 0x01 ∷ 0x00 ∷ 0xb8 ∷ 0x00 ∷ 0x03 ∷ 0xb1 ∷ []) (interface_method ∷ [])) (entry 0 (act.Call (record { 0 = 1 }) (record { 0 = 39 }) (record { roots = []; nodes = [] })) (reply.Queued (record { 0 = 1 })) ∷ entry 0 (act.Lookup (codes "hi")) (reply.Service (record { 0 = 1 }) (class 33)) ∷ []) ≡ Idle
unfolding opened_model
waits_for_the_answer = refl

value_of_the_call : then_act (main_with 1 (0x12 ∷ 0x01 ∷ 0xb8 ∷ 0x00 ∷ 0x15 ∷ 0xc0 ∷ 0x00 ∷ 0x20 ∷ 0xb9 ∷ 0x00 ∷ 0x12 ∷ 0x01 ∷ 0x00 ∷ 0xb8 ∷ 0x00 ∷ 0x03 ∷ 0xb1 ∷ []) (interface_method ∷ [])) (entry 0 (act.Resume (record { 0 = 1 })) (reply.Value (record { roots = word.Int (pos 7) ∷ []; nodes = [] })) ∷ entry 0 (act.Call (record { 0 = 1 }) (record { 0 = 39 }) (record { roots = []; nodes = [] })) (reply.Queued (record { 0 = 1 })) ∷ entry 0 (act.Lookup (codes "hi")) (reply.Service (record { 0 = 1 }) (class 33)) ∷ []) ≡ exits (pos 7)
unfolding opened_model
value_of_the_call = refl

value_of_a_wrong_type : then_act (main_with 1 (0x12 ∷ 0x01 ∷ 0xb8 ∷ 0x00 ∷ 0x15 ∷ 0xc0 ∷ 0x00 ∷ 0x20 ∷ 0xb9 ∷ 0x00 ∷ 0x12 ∷ 0x01 ∷ 0x00 ∷ 0xb8 ∷ 0x00 ∷ 0x03 ∷ 0xb1 ∷ []) (interface_method ∷ [])) (entry 0 (act.Resume (record { 0 = 1 })) (reply.Value (record { roots = word.Null ∷ []; nodes = [] })) ∷ entry 0 (act.Call (record { 0 = 1 }) (record { 0 = 39 }) (record { roots = []; nodes = [] })) (reply.Queued (record { 0 = 1 })) ∷ entry 0 (act.Lookup (codes "hi")) (reply.Service (record { 0 = 1 }) (class 33)) ∷ []) ≡ ends_with 21
unfolding opened_model
value_of_a_wrong_type = refl

value_that_is_missing : then_act (main_with 1 (0x12 ∷ 0x01 ∷ 0xb8 ∷ 0x00 ∷ 0x15 ∷ 0xc0 ∷ 0x00 ∷ 0x20 ∷ 0xb9 ∷ 0x00 ∷ 0x12 ∷ 0x01 ∷ 0x00 ∷ 0xb8 ∷ 0x00 ∷ 0x03 ∷ 0xb1 ∷ []) (interface_method ∷ [])) (entry 0 (act.Resume (record { 0 = 1 })) (reply.Value (record { roots = []; nodes = [] })) ∷ entry 0 (act.Call (record { 0 = 1 }) (record { 0 = 39 }) (record { roots = []; nodes = [] })) (reply.Queued (record { 0 = 1 })) ∷ entry 0 (act.Lookup (codes "hi")) (reply.Service (record { 0 = 1 }) (class 33)) ∷ []) ≡ ends_with 21
unfolding opened_model
value_that_is_missing = refl

object_for_an_int : then_act (main_with 1 (0x12 ∷ 0x01 ∷ 0xb8 ∷ 0x00 ∷ 0x15 ∷ 0xc0 ∷ 0x00 ∷ 0x20 ∷ 0xb9 ∷ 0x00 ∷ 0x12 ∷ 0x01 ∷ 0x00 ∷ 0xb8 ∷ 0x00 ∷ 0x03 ∷ 0xb1 ∷ []) (interface_method ∷ [])) (entry 0 (act.Resume (record { 0 = 1 })) (reply.Value (record { roots = word.Node 0 ∷ []; nodes = record { class = class 30; cells = word.Int (pos 1) ∷ [] } ∷ [] })) ∷ entry 0 (act.Call (record { 0 = 1 }) (record { 0 = 39 }) (record { roots = []; nodes = [] })) (reply.Queued (record { 0 = 1 })) ∷ entry 0 (act.Lookup (codes "hi")) (reply.Service (record { 0 = 1 }) (class 33)) ∷ []) ≡ ends_with 21
unfolding opened_model
object_for_an_int = refl

value_without_room : then_act (main_with 1 (0x12 ∷ 0x01 ∷ 0xb8 ∷ 0x00 ∷ 0x15 ∷ 0xc0 ∷ 0x00 ∷ 0x20 ∷ 0xb9 ∷ 0x00 ∷ 0x12 ∷ 0x01 ∷ 0x00 ∷ 0xb8 ∷ 0x00 ∷ 0x03 ∷ 0xb1 ∷ []) (interface_method ∷ [])) (entry 0 (act.Resume (record { 0 = 1 })) (reply.Value (record { roots = word.Node 0 ∷ []; nodes = record { class = class 30; cells = sixty } ∷ [] })) ∷ entry 0 (act.Call (record { 0 = 1 }) (record { 0 = 39 }) (record { roots = []; nodes = [] })) (reply.Queued (record { 0 = 1 })) ∷ entry 0 (act.Lookup (codes "hi")) (reply.Service (record { 0 = 1 }) (class 33)) ∷ []) ≡ ends_with 16
unfolding opened_model
value_without_room = refl

thrown_by_the_call : then_act (main_with 1 (0x12 ∷ 0x01 ∷ 0xb8 ∷ 0x00 ∷ 0x15 ∷ 0xc0 ∷ 0x00 ∷ 0x20 ∷ 0xb9 ∷ 0x00 ∷ 0x12 ∷ 0x01 ∷ 0x00 ∷ 0xb8 ∷ 0x00 ∷ 0x03 ∷ 0xb1 ∷ []) (interface_method ∷ [])) (entry 0 (act.Resume (record { 0 = 1 })) (reply.Thrown (record { roots = word.Node 0 ∷ []; nodes = record { class = class 13; cells = word.Null ∷ [] } ∷ [] })) ∷ entry 0 (act.Call (record { 0 = 1 }) (record { 0 = 39 }) (record { roots = []; nodes = [] })) (reply.Queued (record { 0 = 1 })) ∷ entry 0 (act.Lookup (codes "hi")) (reply.Service (record { 0 = 1 }) (class 33)) ∷ []) ≡ ends_with 13
unfolding opened_model
thrown_by_the_call = refl

thrown_portal : then_act (main_with 1 (0x12 ∷ 0x01 ∷ 0xb8 ∷ 0x00 ∷ 0x15 ∷ 0xc0 ∷ 0x00 ∷ 0x20 ∷ 0xb9 ∷ 0x00 ∷ 0x12 ∷ 0x01 ∷ 0x00 ∷ 0xb8 ∷ 0x00 ∷ 0x03 ∷ 0xb1 ∷ []) (interface_method ∷ [])) (entry 0 (act.Resume (record { 0 = 1 })) (reply.Thrown (record { roots = word.Portal (record { 0 = 1 }) (class 33) ∷ []; nodes = [] })) ∷ entry 0 (act.Call (record { 0 = 1 }) (record { 0 = 39 }) (record { roots = []; nodes = [] })) (reply.Queued (record { 0 = 1 })) ∷ entry 0 (act.Lookup (codes "hi")) (reply.Service (record { 0 = 1 }) (class 33)) ∷ []) ≡ ends_with 21
unfolding opened_model
thrown_portal = refl

thrown_null : then_act (main_with 1 (0x12 ∷ 0x01 ∷ 0xb8 ∷ 0x00 ∷ 0x15 ∷ 0xc0 ∷ 0x00 ∷ 0x20 ∷ 0xb9 ∷ 0x00 ∷ 0x12 ∷ 0x01 ∷ 0x00 ∷ 0xb8 ∷ 0x00 ∷ 0x03 ∷ 0xb1 ∷ []) (interface_method ∷ [])) (entry 0 (act.Resume (record { 0 = 1 })) (reply.Thrown (record { roots = word.Null ∷ []; nodes = [] })) ∷ entry 0 (act.Call (record { 0 = 1 }) (record { 0 = 39 }) (record { roots = []; nodes = [] })) (reply.Queued (record { 0 = 1 })) ∷ entry 0 (act.Lookup (codes "hi")) (reply.Service (record { 0 = 1 }) (class 33)) ∷ []) ≡ ends_with 21
unfolding opened_model
thrown_null = refl

copy_failed : then_act (main_with 1 (0x12 ∷ 0x01 ∷ 0xb8 ∷ 0x00 ∷ 0x15 ∷ 0xc0 ∷ 0x00 ∷ 0x20 ∷ 0xb9 ∷ 0x00 ∷ 0x12 ∷ 0x01 ∷ 0x00 ∷ 0xb8 ∷ 0x00 ∷ 0x03 ∷ 0xb1 ∷ []) (interface_method ∷ [])) (entry 0 (act.Resume (record { 0 = 1 })) (reply.CopyFailed) ∷ entry 0 (act.Call (record { 0 = 1 }) (record { 0 = 39 }) (record { roots = []; nodes = [] })) (reply.Queued (record { 0 = 1 })) ∷ entry 0 (act.Lookup (codes "hi")) (reply.Service (record { 0 = 1 }) (class 33)) ∷ []) ≡ ends_with 21
unfolding opened_model
copy_failed = refl

service_ended : then_act (main_with 1 (0x12 ∷ 0x01 ∷ 0xb8 ∷ 0x00 ∷ 0x15 ∷ 0xc0 ∷ 0x00 ∷ 0x20 ∷ 0xb9 ∷ 0x00 ∷ 0x12 ∷ 0x01 ∷ 0x00 ∷ 0xb8 ∷ 0x00 ∷ 0x03 ∷ 0xb1 ∷ []) (interface_method ∷ [])) (entry 0 (act.Resume (record { 0 = 1 })) (reply.Ended) ∷ entry 0 (act.Call (record { 0 = 1 }) (record { 0 = 39 }) (record { roots = []; nodes = [] })) (reply.Queued (record { 0 = 1 })) ∷ entry 0 (act.Lookup (codes "hi")) (reply.Service (record { 0 = 1 }) (class 33)) ∷ []) ≡ ends_with 22
unfolding opened_model
service_ended = refl

unfit_call : then_act (main_with 1 (0x12 ∷ 0x01 ∷ 0xb8 ∷ 0x00 ∷ 0x15 ∷ 0xc0 ∷ 0x00 ∷ 0x20 ∷ 0xb9 ∷ 0x00 ∷ 0x12 ∷ 0x01 ∷ 0x00 ∷ 0xb8 ∷ 0x00 ∷ 0x03 ∷ 0xb1 ∷ []) (interface_method ∷ [])) (entry 0 (act.Call (record { 0 = 1 }) (record { 0 = 39 }) (record { roots = []; nodes = [] })) (reply.Refused refusal.Unfit) ∷ entry 0 (act.Lookup (codes "hi")) (reply.Service (record { 0 = 1 }) (class 33)) ∷ []) ≡ ends_with 21
unfolding opened_model
unfit_call = refl

gone_service : then_act (main_with 1 (0x12 ∷ 0x01 ∷ 0xb8 ∷ 0x00 ∷ 0x15 ∷ 0xc0 ∷ 0x00 ∷ 0x20 ∷ 0xb9 ∷ 0x00 ∷ 0x12 ∷ 0x01 ∷ 0x00 ∷ 0xb8 ∷ 0x00 ∷ 0x03 ∷ 0xb1 ∷ []) (interface_method ∷ [])) (entry 0 (act.Call (record { 0 = 1 }) (record { 0 = 39 }) (record { roots = []; nodes = [] })) (reply.Refused refusal.Gone) ∷ entry 0 (act.Lookup (codes "hi")) (reply.Service (record { 0 = 1 }) (class 33)) ∷ []) ≡ ends_with 22
unfolding opened_model
gone_service = refl

method_of_another : then_act (main_with 1 (0x12 ∷ 0x01 ∷ 0xb8 ∷ 0x00 ∷ 0x15 ∷ 0xc0 ∷ 0x00 ∷ 0x20 ∷ 0xb9 ∷ 0x00 ∷ 0x12 ∷ 0x01 ∷ 0x00 ∷ 0xb8 ∷ 0x00 ∷ 0x03 ∷ 0xb1 ∷ []) (interface_method ∷ [])) (entry 0 (act.Call (record { 0 = 1 }) (record { 0 = 39 }) (record { roots = []; nodes = [] })) (reply.Refused refusal.NoMethod) ∷ entry 0 (act.Lookup (codes "hi")) (reply.Service (record { 0 = 1 }) (class 33)) ∷ []) ≡ ends_with 26
unfolding opened_model
method_of_another = refl

-- null passes the cast, and the call has no object
no_such_name : then_act (main_with 1 (0x12 ∷ 0x01 ∷ 0xb8 ∷ 0x00 ∷ 0x15 ∷ 0xc0 ∷ 0x00 ∷ 0x20 ∷ 0xb9 ∷ 0x00 ∷ 0x12 ∷ 0x01 ∷ 0x00 ∷ 0xb8 ∷ 0x00 ∷ 0x03 ∷ 0xb1 ∷ []) (interface_method ∷ [])) (entry 0 (act.Lookup (codes "hi")) reply.NoName ∷ []) ≡ ends_with 7
unfolding opened_model
no_such_name = refl

-- the method selected is the interface's abstract one
virtual_call_of_a_portal : then_act (main_with 1 (0x12 ∷ 0x01 ∷ 0xb8 ∷ 0x00 ∷ 0x15 ∷ 0xc0 ∷ 0x00 ∷ 0x20 ∷ 0xb6 ∷ 0x00 ∷ 0x12 ∷ 0xb8 ∷ 0x00 ∷ 0x03 ∷ 0xb1 ∷ []) (interface_method ∷ [])) (entry 0 (act.Lookup (codes "hi")) (reply.Service (record { 0 = 1 }) (class 33)) ∷ []) ≡ bad_code
unfolding opened_model
virtual_call_of_a_portal = refl

portal_is_no_string : then_act (main_with 1 (0x12 ∷ 0x01 ∷ 0xb8 ∷ 0x00 ∷ 0x15 ∷ 0xc0 ∷ 0x00 ∷ 0x05 ∷ 0xb1 ∷ []) (interface_method ∷ [])) (entry 0 (act.Lookup (codes "hi")) (reply.Service (record { 0 = 1 }) (class 33)) ∷ []) ≡ ends_with 12
unfolding opened_model
portal_is_no_string = refl

-- an object of another class is no Poke in an answer
offered_object : then_act (main_with 1 (0x12 ∷ 0x01 ∷ 0xb8 ∷ 0x00 ∷ 0x15 ∷ 0xc0 ∷ 0x00 ∷ 0x20 ∷ 0xb9 ∷ 0x00 ∷ 0x12 ∷ 0x01 ∷ 0x00 ∷ 0x57 ∷ 0x04 ∷ 0xb8 ∷ 0x00 ∷ 0x03 ∷ 0xb1 ∷ []) (method_of 0x0401 33 44 None ∷ [])) (entry 0 (act.Resume (record { 0 = 1 })) (reply.Value (record { roots = word.Node 0 ∷ []; nodes = record { class = class 31; cells = word.Int (pos 0) ∷ word.Null ∷ [] } ∷ [] })) ∷ entry 0 (act.Call (record { 0 = 1 }) (record { 0 = 44 }) (record { roots = []; nodes = [] })) (reply.Queued (record { 0 = 1 })) ∷ entry 0 (act.Lookup (codes "hi")) (reply.Service (record { 0 = 1 }) (class 33)) ∷ []) ≡ ends_with 21
unfolding opened_model
offered_object = refl

offered_portal : then_act (main_with 1 (0x12 ∷ 0x01 ∷ 0xb8 ∷ 0x00 ∷ 0x15 ∷ 0xc0 ∷ 0x00 ∷ 0x20 ∷ 0xb9 ∷ 0x00 ∷ 0x12 ∷ 0x01 ∷ 0x00 ∷ 0x57 ∷ 0x04 ∷ 0xb8 ∷ 0x00 ∷ 0x03 ∷ 0xb1 ∷ []) (method_of 0x0401 33 44 None ∷ [])) (entry 0 (act.Resume (record { 0 = 1 })) (reply.Value (record { roots = word.Portal (record { 0 = 1 }) (class 33) ∷ []; nodes = [] })) ∷ entry 0 (act.Call (record { 0 = 1 }) (record { 0 = 44 }) (record { roots = []; nodes = [] })) (reply.Queued (record { 0 = 1 })) ∷ entry 0 (act.Lookup (codes "hi")) (reply.Service (record { 0 = 1 }) (class 33)) ∷ []) ≡ exits (pos 1)
unfolding opened_model
offered_portal = refl

-- ---- a service

-- the main exports an object of class 34, whose method gives 5, and ends
abbrev pub service_of : List Method → System
service_of methods = record base { program = record base.program { classes = renamed base.program.classes } }
  where
    base : System
    base = main_with 3 (0xbb ∷ 0x00 ∷ 0x2c ∷ 0x12 ∷ 0x01 ∷ 0x04 ∷ 0xb8 ∷ 0x00 ∷ 0x27 ∷ 0x57 ∷ 0xb1 ∷ []) methods

    renamed : List Class → List Class
    renamed [] = []
    renamed (k ∷ ks) = (if bytes_eq k.name (codes "Poke") then record k { name = codes "hi" } else k) ∷ renamed ks

exports : first_act (service_of (interface_method ∷ method_of 1 34 39 (Some (code_of 1 1 (0x08 ∷ 0xac ∷ []))) ∷ [])) ≡ Does (act.Export (class 33) 1)
unfolding opened_model
exports = refl

ends_behind_export : then_act (service_of (interface_method ∷ method_of 1 34 39 (Some (code_of 1 1 (0x08 ∷ 0xac ∷ []))) ∷ [])) (entry 0 (act.Export (class 33) 1) (reply.Service (record { 0 = 1 }) (class 33)) ∷ []) ≡ ends
unfolding opened_model
ends_behind_export = refl

has_nothing_to_do : then_act (service_of (interface_method ∷ method_of 1 34 39 (Some (code_of 1 1 (0x08 ∷ 0xac ∷ []))) ∷ [])) (entry 0 (act.EndThread None) reply.Done ∷ entry 0 (act.Export (class 33) 1) (reply.Service (record { 0 = 1 }) (class 33)) ∷ []) ≡ Idle
unfolding opened_model
has_nothing_to_do = refl

answers_the_call : then_act (service_of (interface_method ∷ method_of 1 34 39 (Some (code_of 1 1 (0x08 ∷ 0xac ∷ []))) ∷ [])) (after_take 39 [] []) ≡ Does (act.Return (record { 0 = 1 }) (record { roots = word.Int (pos 5) ∷ []; nodes = [] }))
unfolding opened_model
answers_the_call = refl

throws_to_the_caller : then_act (service_of (interface_method ∷ method_of 1 34 39 (Some (code_of 2 1 (0x04 ∷ 0x03 ∷ 0x6c ∷ 0xac ∷ []))) ∷ [])) (after_take 39 [] []) ≡ throws 6
unfolding opened_model
throws_to_the_caller = refl

too_many_roots : then_act (service_of (interface_method ∷ method_of 1 34 39 (Some (code_of 1 1 (0x08 ∷ 0xac ∷ []))) ∷ [])) (after_take 39 (word.Null ∷ []) []) ≡ throws 21
unfolding opened_model
too_many_roots = refl

method_absent : then_act (service_of (interface_method ∷ [])) (after_take 39 [] []) ≡ bad_code
unfolding opened_model
method_absent = refl

method_without_room_in_its_locals : then_act (service_of (interface_method ∷ method_of 1 34 39 (Some (code_of 1 0 (0x08 ∷ 0xac ∷ []))) ∷ [])) (after_take 39 [] []) ≡ bad_code
unfolding opened_model
method_without_room_in_its_locals = refl

service_frame_of_too_many_slots : then_act (service_of (interface_method ∷ method_of 1 34 39 (Some (code_of 1 65536 (0x08 ∷ 0xac ∷ []))) ∷ [])) (after_take 39 [] []) ≡ throws 17
unfolding opened_model
service_frame_of_too_many_slots = refl

job_without_room : then_act (service_of (interface_method ∷ method_of 1 34 39 (Some (code_of 1 1 (0x08 ∷ 0xac ∷ []))) ∷ [])) (after_take 39 (word.Node 0 ∷ []) (record { class = class 30; cells = sixty } ∷ [])) ≡ throws 16
unfolding opened_model
job_without_room = refl

idle_again : then_act (service_of (interface_method ∷ method_of 1 34 39 (Some (code_of 1 1 (0x08 ∷ 0xac ∷ []))) ∷ [])) (entry 1 (act.Return (record { 0 = 1 }) (record { roots = word.Int (pos 5) ∷ []; nodes = [] })) reply.Done ∷ after_take 39 [] []) ≡ Idle
unfolding opened_model
idle_again = refl

-- a method that is passed an object of its interface, and returns nothing
abbrev pub passed : List Method
passed = method_of 0x0401 33 43 None ∷ method_of 1 34 43 (Some (code_of 1 2 (0xb1 ∷ []))) ∷ []

portal_for_its_interface : then_act (service_of passed) (after_take 43 (word.Portal (record { 0 = 1 }) (class 33) ∷ []) [])
    ≡ Does (act.Return (record { 0 = 1 }) (record { roots = []; nodes = [] }))
unfolding opened_model
portal_for_its_interface = refl

-- an object of another class doesn't pass for the interface in a parcel
object_for_an_interface : then_act (service_of passed) (after_take 43 (word.Node 0 ∷ []) (record { class = class 31; cells = word.Int (pos 0) ∷ word.Null ∷ [] } ∷ []))
    ≡ throws 21
unfolding opened_model
object_for_an_interface = refl
