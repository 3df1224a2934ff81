-- Steps of domains without code: each line is an act with the reply that the nucleus gives.
use Rattle.std.specs.Prelude.{◌≡◌, refl, ℕ, zero, suc, ◌+◌, pos, Bool, true, false, List, [], ◌∷◌, ◌++◌, map, Some, None, codes, decimal}
use Rattle.std.specs.Fmt.{digits}
use Rattle.jx_base.specs.declared.act.Act.{Act}
use Rattle.jx_base.specs.declared.act.Act.TheVariants as act
use Rattle.jx_base.specs.declared.act.Reason.TheVariants as reason
use Rattle.jx_base.specs.declared.ids.CallId.{CallId}
use Rattle.jx_base.specs.declared.ids.ClassId.{ClassId}
use Rattle.jx_base.specs.declared.ids.MethodId.{MethodId}
use Rattle.jx_base.specs.declared.ids.ObjectId.{ObjectId}
use Rattle.jx_base.specs.declared.ids.ServiceId.{ServiceId}
use Rattle.jx_base.specs.declared.states.Why.TheVariants as why
use Rattle.jx_base.specs.declared.value.Parcel.{Parcel}
use Rattle.jx_base.specs.declared.value.Word.TheVariants as word
use Rattle.jx_base.specs.declared.program.System.{System}
use Rattle.jx_base.specs.declared.program.Template.{Template}
use Rattle.jx_base.specs.declared.program.Class.{Class}
use Rattle.opened_models.specs.Opened.{opened_model}
use Rattle.jx_base.specs.Histories.{Past}
use Rattle.jx_model.specs.Domains.{end_reason}
use Rattle.jx_model.specs.Permits.{acting_thread}
use Rattle.jx_model.specs.WhyNot.{why_not}
use Rattle.jx_model.specs.Replies.{reply_to}
use Rattle.jx_model.specs.SingleWorker.{entry_for}
use Rattle.jx_base.specs.Texts.{line}
use Rattle.audit_model.specs.Audit.{act_word, act_operands, reply_word, reply_operands}
use Rattle.test_models.proofs.TestSystems.{class_of, built_in, array_of, texts}

-- ---- steps as text

-- a domain, and its act
abbrev pub Step : Type 0
Step = ℕ × Act

-- the line of a step, where it is permitted
abbrev pub step_line : System → Past → Step → List ℕ
step_line s past x =
    elim (acting_thread s past x.0 x.1) [
      | None ↦ line (decimal x.0 ∷ act_word x.1 ∷ codes "isn't" ∷ codes "permitted" ∷ [])
      | Some t ↦
          line ((decimal x.0 ∷ act_word x.1 ∷ act_operands s x.1) ++ codes "->" ∷ reply_word (reply_to s past x.0 x.1) ∷ reply_operands s (reply_to s past x.0 x.1))
    ]

-- the lines of steps, the first one first
abbrev pub step_lines : System → Past → List Step → List ℕ
step_lines s past [] = []
step_lines s past (x ∷ steps) = step_line s past x ++ step_lines s (entry_for s past x.0 x.1 ∷ past) steps

-- the past after steps
abbrev pub past_after_steps : System → Past → List Step → Past
past_after_steps s past [] = past
past_after_steps s past (x ∷ steps) = past_after_steps s (entry_for s past x.0 x.1 ∷ past) steps

-- ---- systems of domains without code

-- a template with a heap of 64 cells, which are 8 granules
abbrev pub steps_template : Bool → List ℕ → Template
steps_template boot name = record { name = name; main = 0; classes = 0 ∷ 1 ∷ []; heap = 64; fuel = 1000; boot = boot }

-- the interface of the services
abbrev pub poke_class : Class
poke_class =
    record (class_of (codes "Poke") 0) {
      flags = 0x0601;
      methods = record { flags = 0x0401; selector = record { name = codes "poke"; descriptor = codes "(LNode;LNode;)V" } }
          ∷ record { flags = 0x0401; selector = record { name = codes "put"; descriptor = codes "(Ljx/Memory;)V" } }
          ∷ [];
    }

-- so many granules, boot templates of these names, and a template w
abbrev pub steps_system : ℕ → List (List ℕ) → System
steps_system granules names =
    record {
      plan = record {
        granules = granules;
        journal = 1048576;
        templates = map (steps_template true) names ++ steps_template false (codes "w") ∷ [];
        classes = codes "Node" ∷ codes "Poke" ∷ [];
      };
      program = record {
        classes = built_in ++ class_of (codes "Node") 0 ∷ poke_class ∷ array_of (codes "Ljava/lang/String;") ∷ array_of (codes "Ljx/Memory;") ∷ [];
        methods = [];
        selectors = record { name = codes "poke"; descriptor = codes "(LNode;LNode;)V" }
            ∷ record { name = codes "put"; descriptor = codes "(Ljx/Memory;)V" } ∷ [];
      };
    }

-- the creates of so many boot templates, from that place on
abbrev pub boots : ℕ → ℕ → List Step
boots t zero = []
boots t (suc n) = (0, act.Create t) ∷ boots (t + 1) n

-- ---- short forms

-- a memory object
abbrev pub object : ℕ → ObjectId
object m = record { 0 = m }

-- a service
abbrev pub service : ℕ → ServiceId
service m = record { 0 = m }

-- a call
abbrev pub call : ℕ → CallId
call m = record { 0 = m }

-- the interface Poke
abbrev pub poke : ClassId
poke = record { 0 = 28 }

-- the method poke
abbrev pub poke_method : MethodId
poke_method = record { 0 = 0 }

-- the method put
abbrev pub put_method : MethodId
put_method = record { 0 = 1 }

-- a parcel of two nulls
abbrev pub nulls : Parcel
nulls = record { roots = word.Null ∷ word.Null ∷ []; nodes = [] }

-- a parcel of nothing
abbrev pub empty : Parcel
empty = record { roots = []; nodes = [] }

-- a parcel of a memory object
abbrev pub memory : ℕ → Parcel
memory m = record { roots = word.Mem (object m) ∷ []; nodes = [] }

-- the domain exports a service with one thread, binds it and ends its thread
abbrev pub serves : ℕ → ℕ → List ℕ → List Step
serves d k name = (d, act.Export poke 1) ∷ (d, act.Bind name (service k)) ∷ (d, act.EndThread None) ∷ []

-- ---- a killed service with three callers

-- one domain more serves three, and is killed while it serves the first
abbrev pub three_callers : List Step
three_callers =
    boots 0 4 ++ (1, act.Spawn (codes "w")) ∷ serves 5 1 (codes "w")
    ++ (2, act.Lookup (codes "w")) ∷ (2, act.Call (service 1) poke_method nulls)
    ∷ (3, act.Lookup (codes "w")) ∷ (3, act.Call (service 1) poke_method nulls)
    ∷ (4, act.Lookup (codes "w")) ∷ (4, act.Call (service 1) poke_method nulls)
    ∷ (5, act.Take (call 1)) ∷ (1, act.Kill (pos 5))
    ∷ (2, act.Resume (call 1)) ∷ (3, act.Resume (call 2)) ∷ (4, act.Resume (call 3))
    ∷ (1, act.Lookup (codes "w")) ∷ (1, act.Spawn (codes "w")) ∷ (1, act.Kill (pos 5)) ∷ (1, act.Kill (pos 2)) ∷ (1, act.Kill (pos 9)) ∷ []

abbrev pub four : System
four = steps_system 64 (codes "a" ∷ codes "b" ∷ codes "c" ∷ codes "e" ∷ [])

three_callers_lines : step_lines four [] three_callers ≡ texts (
    codes "0 create \"a\" -> domain 1 at 0"
    ∷ codes "0 create \"b\" -> domain 2 at 8"
    ∷ codes "0 create \"c\" -> domain 3 at 16"
    ∷ codes "0 create \"e\" -> domain 4 at 24"
    ∷ codes "1 spawn \"w\" -> domain 5 at 32"
    ∷ codes "5 export \"Poke\" 1 -> service 1"
    ∷ codes "5 bind \"w\" 1 -> done"
    ∷ codes "5 end-thread -> done"
    ∷ codes "2 lookup \"w\" -> service 1"
    ∷ codes "2 call 1 \"poke\" \"(LNode;LNode;)V\" [n n|] -> queued 1"
    ∷ codes "3 lookup \"w\" -> service 1"
    ∷ codes "3 call 1 \"poke\" \"(LNode;LNode;)V\" [n n|] -> queued 2"
    ∷ codes "4 lookup \"w\" -> service 1"
    ∷ codes "4 call 1 \"poke\" \"(LNode;LNode;)V\" [n n|] -> queued 3"
    ∷ codes "5 take 1 -> job 1 \"poke\" \"(LNode;LNode;)V\" [n n|]"
    ∷ codes "1 kill 5 -> done"
    ∷ codes "2 resume 1 -> ended"
    ∷ codes "3 resume 2 -> ended"
    ∷ codes "4 resume 3 -> ended"
    ∷ codes "1 lookup \"w\" -> none"
    ∷ codes "1 spawn \"w\" -> domain 6 at 32"
    ∷ codes "1 kill 5 -> notlive"
    ∷ codes "1 kill 2 -> notyours"
    ∷ codes "1 kill 9 -> unknown"
    ∷ []
    )
unfolding digits opened_model
three_callers_lines = refl

-- the killed domain is over
killed_reason : end_reason (past_after_steps four [] three_callers) 5 ≡ Some reason.Killed
unfolding opened_model
killed_reason = refl

killed_is_over : acting_thread four (past_after_steps four [] three_callers) 5 (act.Print (codes "x")) ≡ None
unfolding opened_model
killed_is_over = refl

-- ---- a discarded answer

-- a caller is killed while its call is queued
abbrev pub dead_caller : List Step
dead_caller =
    boots 0 2 ++ serves 2 1 (codes "b") ++ (1, act.Spawn (codes "w"))
    ∷ (3, act.Lookup (codes "b")) ∷ (3, act.Call (service 1) poke_method nulls) ∷ (1, act.Kill (pos 3))
    ∷ (2, act.Take (call 1)) ∷ (2, act.Return (call 1) empty) ∷ []

abbrev pub two : ℕ → System
two granules = steps_system granules (codes "a" ∷ codes "b" ∷ [])

dead_caller_lines : step_lines (two 64) [] dead_caller ≡ texts (
    codes "0 create \"a\" -> domain 1 at 0"
    ∷ codes "0 create \"b\" -> domain 2 at 8"
    ∷ codes "2 export \"Poke\" 1 -> service 1"
    ∷ codes "2 bind \"b\" 1 -> done"
    ∷ codes "2 end-thread -> done"
    ∷ codes "1 spawn \"w\" -> domain 3 at 16"
    ∷ codes "3 lookup \"b\" -> service 1"
    ∷ codes "3 call 1 \"poke\" \"(LNode;LNode;)V\" [n n|] -> queued 1"
    ∷ codes "1 kill 3 -> done"
    ∷ codes "2 take 1 -> job 1 \"poke\" \"(LNode;LNode;)V\" [n n|]"
    ∷ codes "2 return 1 [|] -> discarded"
    ∷ []
    )
unfolding digits opened_model
dead_caller_lines = refl

dead_caller_reason : end_reason (past_after_steps (two 64) [] dead_caller) 3 ≡ Some reason.Killed
unfolding opened_model
dead_caller_reason = refl

-- ---- a revoke of a part of a part

abbrev pub one : ℕ → System
one granules = steps_system granules (codes "a" ∷ [])

abbrev pub part_of_part : List Step
part_of_part =
    boots 0 1
    ++ (1, act.Alloc (pos 128)) ∷ (1, act.Sub (object 1) (pos 16) (pos 64)) ∷ (1, act.Sub (object 2) (pos 8) (pos 16))
    ∷ (1, act.Set (object 3) (pos 0) 1 (pos 7)) ∷ (1, act.Revoke (object 2)) ∷ (1, act.Get (object 1) (pos 24) 1)
    ∷ (1, act.Get (object 2) (pos 8) 1) ∷ (1, act.Get (object 3) (pos 0) 1) ∷ (1, act.Get (object 4) (pos 8) 1)
    ∷ (1, act.Get (object 4) (pos 64) 1) ∷ []

part_of_part_lines : step_lines (one 64) [] part_of_part ≡ texts (
    codes "0 create \"a\" -> domain 1 at 0"
    ∷ codes "1 alloc 128 -> made 1 at 8"
    ∷ codes "1 sub 1 16 64 -> object 2"
    ∷ codes "1 sub 2 8 16 -> object 3"
    ∷ codes "1 set 3 0 1 7 -> done"
    ∷ codes "1 revoke 2 -> object 4"
    ∷ codes "1 get 1 24 1 -> number 7"
    ∷ codes "1 get 2 8 1 -> revoked"
    ∷ codes "1 get 3 0 1 -> revoked"
    ∷ codes "1 get 4 8 1 -> number 7"
    ∷ codes "1 get 4 64 1 -> range"
    ∷ []
    )
unfolding digits opened_model
part_of_part_lines = refl

-- ---- a split

abbrev pub both_sides : List Step
both_sides =
    boots 0 1
    ++ (1, act.Alloc (pos 128)) ∷ (1, act.Split (object 1) (pos 0)) ∷ (1, act.Split (object 1) (pos 128)) ∷ (1, act.Split (object 1) (pos 32))
    ∷ (1, act.Size (object 2)) ∷ (1, act.Size (object 3)) ∷ (1, act.Size (object 1)) ∷ (1, act.Release (object 1)) ∷ (1, act.Size (object 1)) ∷ []

both_sides_lines : step_lines (one 64) [] both_sides ≡ texts (
    codes "0 create \"a\" -> domain 1 at 0"
    ∷ codes "1 alloc 128 -> made 1 at 8"
    ∷ codes "1 split 1 0 -> range"
    ∷ codes "1 split 1 128 -> range"
    ∷ codes "1 split 1 32 -> pair 2 3"
    ∷ codes "1 size 2 -> number 32"
    ∷ codes "1 size 3 -> number 96"
    ∷ codes "1 size 1 -> revoked"
    ∷ codes "1 drop 1 -> done"
    ∷ codes "1 size 1 -> notheld"
    ∷ []
    )
unfolding digits opened_model
both_sides_lines = refl

-- ---- an object that rides in the parcel of a caller that was ended

abbrev pub riding_object : List Step
riding_object =
    boots 0 2 ++ serves 2 1 (codes "b") ++ (1, act.Spawn (codes "w"))
    ∷ (3, act.Lookup (codes "b")) ∷ (3, act.Alloc (pos 64)) ∷ (3, act.Call (service 1) put_method (memory 1)) ∷ (1, act.Kill (pos 3))
    ∷ (1, act.Alloc (pos 576)) ∷ (2, act.Take (call 1)) ∷ (2, act.Release (object 1)) ∷ (1, act.Alloc (pos 576)) ∷ []

riding_object_lines : step_lines (two 25) [] riding_object ≡ texts (
    codes "0 create \"a\" -> domain 1 at 0"
    ∷ codes "0 create \"b\" -> domain 2 at 8"
    ∷ codes "2 export \"Poke\" 1 -> service 1"
    ∷ codes "2 bind \"b\" 1 -> done"
    ∷ codes "2 end-thread -> done"
    ∷ codes "1 spawn \"w\" -> domain 3 at 16"
    ∷ codes "3 lookup \"b\" -> service 1"
    ∷ codes "3 alloc 64 -> made 1 at 24"
    ∷ codes "3 call 1 \"put\" \"(Ljx/Memory;)V\" [m1|] -> queued 1"
    ∷ codes "1 kill 3 -> done"
    ∷ codes "1 alloc 576 -> noroom"
    ∷ codes "2 take 1 -> job 1 \"put\" \"(Ljx/Memory;)V\" [m1|]"
    ∷ codes "2 drop 1 -> done"
    ∷ codes "1 alloc 576 -> made 2 at 16"
    ∷ []
    )
unfolding digits opened_model
riding_object_lines = refl

-- ---- the first place that fits

abbrev pub places : List Step
places =
    boots 0 1
    ++ (1, act.Alloc (pos 128)) ∷ (1, act.Alloc (pos 192)) ∷ (1, act.Alloc (pos 192)) ∷ (1, act.Alloc (pos 1)) ∷ (1, act.Release (object 2))
    ∷ (1, act.Alloc (pos 193)) ∷ (1, act.Alloc (pos 192)) ∷ (1, act.Get (object 4) (pos 0) 4) ∷ (1, act.Alloc (pos 0)) ∷ []

places_lines : step_lines (one 16) [] places ≡ texts (
    codes "0 create \"a\" -> domain 1 at 0"
    ∷ codes "1 alloc 128 -> made 1 at 8"
    ∷ codes "1 alloc 192 -> made 2 at 10"
    ∷ codes "1 alloc 192 -> made 3 at 13"
    ∷ codes "1 alloc 1 -> noroom"
    ∷ codes "1 drop 2 -> done"
    ∷ codes "1 alloc 193 -> noroom"
    ∷ codes "1 alloc 192 -> made 4 at 10"
    ∷ codes "1 get 4 0 4 -> number 0"
    ∷ codes "1 alloc 0 -> range"
    ∷ []
    )
unfolding digits opened_model
places_lines = refl

-- ---- two domains of which one finds no room

no_room_lines : step_lines (two 8) [] (boots 0 2) ≡ texts (codes "0 create \"a\" -> domain 1 at 0" ∷ codes "0 create \"b\" -> noroom" ∷ [])
unfolding digits opened_model
no_room_lines = refl

-- ---- acts that aren't permitted

-- before the start is done no domain acts, and no other create comes
early_print : why_not (two 64) (past_after_steps (two 64) [] (boots 0 1)) 1 (act.Print (codes "x")) ≡ Some (why.Boot 1)
unfolding opened_model
early_print = refl

other_create : why_not (two 64) [] 0 (act.Create 1) ≡ Some (why.Boot 0)
unfolding opened_model
other_create = refl

-- a run isn't over while a domain can act
early_quiet : why_not (two 64) (past_after_steps (two 64) [] (boots 0 2)) 0 act.Quiet ≡ Some (why.Alive (record { 0 = 1 }))
unfolding opened_model
early_quiet = refl

-- a call can't be taken by another domain than its server
stolen_take : why_not four (past_after_steps four [] (boots 0 4 ++ serves 2 1 (codes "b") ++ (1, act.Lookup (codes "b")) ∷ (1, act.Call (service 1) poke_method nulls) ∷ [])) 1 (act.Take (call 1))
    ≡ Some (why.NotHead (Some (call 1)))
unfolding opened_model
stolen_take = refl
