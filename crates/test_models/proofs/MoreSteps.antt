-- Steps that meet each refusal of calls and names, each kind of answer, and the bytes of an object.
use Rattle.std.specs.Prelude.{◌≡◌, refl, ℕ, pos, negsuc, List, [], ◌∷◌, ◌++◌, None, codes}
use Rattle.std.specs.Fmt.{digits}
use Rattle.jx_base.specs.declared.act.Act.TheVariants as act
use Rattle.jx_base.specs.declared.ids.MethodId.{MethodId}
use Rattle.jx_base.specs.declared.value.Parcel.{Parcel}
use Rattle.jx_base.specs.declared.value.Word.TheVariants as word
use Rattle.jx_base.specs.declared.program.System.{System}
use Rattle.opened_models.specs.Opened.{opened_model}
use Rattle.test_models.proofs.TestSystems.{class_of, built_in, array_of, texts}
use Rattle.test_models.proofs.Steps.{Step, step_lines, steps_system, poke_class, boots, one, object, service, call, poke, poke_method, put_method, nulls, empty, memory}

-- as for the other steps, with a class that no template lists and a method of no interface
abbrev three_classes : System
three_classes =
    record (steps_system 64 (codes "a" ∷ codes "b" ∷ [])) {
      program = record {
        classes = built_in ++ class_of (codes "Node") 0 ∷ poke_class ∷ class_of (codes "Other") 0 ∷ array_of (codes "Ljava/lang/String;") ∷ array_of (codes "Ljx/Memory;") ∷ [];
        methods = [];
        selectors = record { name = codes "poke"; descriptor = codes "(LNode;LNode;)V" }
            ∷ record { name = codes "put"; descriptor = codes "(Ljx/Memory;)V" }
            ∷ record { name = codes "equals"; descriptor = codes "(Ljava/lang/Object;)Z" } ∷ [];
      };
    }

-- the method equals
abbrev equals_method : MethodId
equals_method = record { 0 = 2 }

-- a parcel with one object of that class, twice
abbrev two_of : ℕ → Parcel
two_of c = record { roots = word.Node 0 ∷ word.Node 0 ∷ []; nodes = record { class = record { 0 = c }; cells = [] } ∷ [] }

-- a parcel with one null
abbrev null : Parcel
null = record { roots = word.Null ∷ []; nodes = [] }

abbrev refusals_and_answers : List Step
refusals_and_answers =
    boots 0 2
    ++ (1, act.Call (service 1) poke_method nulls) ∷ (2, act.Export poke 1) ∷ (2, act.Bind (codes "b") (service 1))
    ∷ (2, act.Bind (codes "b") (service 1)) ∷ (1, act.Bind (codes "x") (service 1)) ∷ (1, act.Lookup (codes "y")) ∷ (1, act.Lookup (codes "b"))
    ∷ (1, act.Call (service 1) put_method (memory 1)) ∷ (1, act.Call (service 1) equals_method null) ∷ (1, act.Call (service 1) poke_method (two_of 29))
    ∷ (1, act.Spawn (codes "z")) ∷ (1, act.Spawn (codes "w")) ∷ (3, act.Export poke 1) ∷ (3, act.Bind (codes "w") (service 2))
    ∷ (1, act.Lookup (codes "w")) ∷ (1, act.Kill (pos 3)) ∷ (1, act.Call (service 2) poke_method nulls)
    ∷ (2, act.Yield) ∷ (2, act.Go (record { 0 = 0 })) ∷ (2, act.EndThread None)
    ∷ (1, act.Call (service 1) poke_method (two_of 27)) ∷ (2, act.Take (call 1)) ∷ (2, act.Return (call 1) (memory 1)) ∷ (1, act.Resume (call 1))
    ∷ (1, act.Call (service 1) poke_method nulls) ∷ (2, act.Take (call 2)) ∷ (2, act.Throw (call 2) empty) ∷ (1, act.Resume (call 2))
    ∷ (1, act.Call (service 1) poke_method nulls) ∷ (2, act.Take (call 3)) ∷ (2, act.Throw (call 3) null) ∷ (1, act.Resume (call 3))
    ∷ (1, act.Call (service 1) poke_method nulls) ∷ (2, act.Take (call 4)) ∷ (2, act.Exit (pos 7)) ∷ (1, act.Resume (call 4))
    ∷ (1, act.EndThread None) ∷ (0, act.Quiet) ∷ []

refusals_and_answers_lines : step_lines three_classes [] refusals_and_answers ≡ texts (
    codes "0 create \"a\" -> domain 1 at 0"
    ∷ codes "0 create \"b\" -> domain 2 at 8"
    ∷ codes "1 call 1 \"poke\" \"(LNode;LNode;)V\" [n n|] -> notheld"
    ∷ codes "2 export \"Poke\" 1 -> service 1"
    ∷ codes "2 bind \"b\" 1 -> done"
    ∷ codes "2 bind \"b\" 1 -> taken"
    ∷ codes "1 bind \"x\" 1 -> notheld"
    ∷ codes "1 lookup \"y\" -> none"
    ∷ codes "1 lookup \"b\" -> service 1"
    ∷ codes "1 call 1 \"put\" \"(Ljx/Memory;)V\" [m1|] -> notheld"
    ∷ codes "1 call 1 \"equals\" \"(Ljava/lang/Object;)Z\" [n|] -> nomethod"
    ∷ codes "1 call 1 \"poke\" \"(LNode;LNode;)V\" [#0 #0|\"Other\"()] -> unfit"
    ∷ codes "1 spawn \"z\" -> unknown"
    ∷ codes "1 spawn \"w\" -> domain 3 at 16"
    ∷ codes "3 export \"Poke\" 1 -> service 2"
    ∷ codes "3 bind \"w\" 2 -> done"
    ∷ codes "1 lookup \"w\" -> service 2"
    ∷ codes "1 kill 3 -> done"
    ∷ codes "1 call 2 \"poke\" \"(LNode;LNode;)V\" [n n|] -> gone"
    ∷ codes "2 yield -> done"
    ∷ codes "2 go -> done"
    ∷ codes "2 end-thread -> done"
    ∷ codes "1 call 1 \"poke\" \"(LNode;LNode;)V\" [#0 #0|\"Node\"()] -> queued 1"
    ∷ codes "2 take 1 -> job 1 \"poke\" \"(LNode;LNode;)V\" [#0 #0|\"Node\"()]"
    ∷ codes "2 return 1 [m1|] -> notheld"
    ∷ codes "1 resume 1 -> copyfailed"
    ∷ codes "1 call 1 \"poke\" \"(LNode;LNode;)V\" [n n|] -> queued 2"
    ∷ codes "2 take 2 -> job 1 \"poke\" \"(LNode;LNode;)V\" [n n|]"
    ∷ codes "2 throw 2 [|] -> done"
    ∷ codes "1 resume 2 -> copyfailed"
    ∷ codes "1 call 1 \"poke\" \"(LNode;LNode;)V\" [n n|] -> queued 3"
    ∷ codes "2 take 3 -> job 1 \"poke\" \"(LNode;LNode;)V\" [n n|]"
    ∷ codes "2 throw 3 [n|] -> done"
    ∷ codes "1 resume 3 -> thrown [n|]"
    ∷ codes "1 call 1 \"poke\" \"(LNode;LNode;)V\" [n n|] -> queued 4"
    ∷ codes "2 take 4 -> job 1 \"poke\" \"(LNode;LNode;)V\" [n n|]"
    ∷ codes "2 exit 7 -> done"
    ∷ codes "1 resume 4 -> ended"
    ∷ codes "1 end-thread -> done"
    ∷ codes "0 quiet -> done"
    ∷ []
    )
unfolding digits opened_model
refusals_and_answers_lines = refl

-- ---- bytes

abbrev bytes : List Step
bytes =
    boots 0 1
    ++ (1, act.Alloc (pos 16)) ∷ (1, act.Set (object 1) (pos 0) 4 (negsuc 1)) ∷ (1, act.Get (object 1) (pos 0) 4)
    ∷ (1, act.Get (object 1) (pos 0) 2) ∷ (1, act.Get (object 1) (pos 0) 1) ∷ (1, act.Fill (object 1) (pos 4) (pos 4) 9)
    ∷ (1, act.Set (object 1) (pos 4) 1 (pos 1)) ∷ (1, act.Copy (object 1) (pos 4) (object 1) (pos 5) (pos 3)) ∷ (1, act.Get (object 1) (pos 4) 4)
    ∷ (1, act.Fill (object 1) (pos 16) (pos 0) 5) ∷ (1, act.Fill (object 1) (pos 17) (pos 0) 5) ∷ (1, act.Get (object 1) (pos 13) 4)
    ∷ (1, act.Get (object 1) (negsuc 0) 1) ∷ (1, act.Sub (object 1) (pos 0) (pos 0)) ∷ (1, act.Copy (object 1) (pos 0) (object 1) (pos 12) (pos 5)) ∷ []

bytes_lines : step_lines (one 64) [] bytes ≡ texts (
    codes "0 create \"a\" -> domain 1 at 0"
    ∷ codes "1 alloc 16 -> made 1 at 8"
    ∷ codes "1 set 1 0 4 -2 -> done"
    ∷ codes "1 get 1 0 4 -> number -2"
    ∷ codes "1 get 1 0 2 -> number 65534"
    ∷ codes "1 get 1 0 1 -> number 254"
    ∷ codes "1 fill 1 4 4 9 -> done"
    ∷ codes "1 set 1 4 1 1 -> done"
    ∷ codes "1 copy 1 4 1 5 3 -> done"
    ∷ codes "1 get 1 4 4 -> number 151585025"
    ∷ codes "1 fill 1 16 0 5 -> done"
    ∷ codes "1 fill 1 17 0 5 -> range"
    ∷ codes "1 get 1 13 4 -> range"
    ∷ codes "1 get 1 -1 1 -> range"
    ∷ codes "1 sub 1 0 0 -> range"
    ∷ codes "1 copy 1 0 1 12 5 -> range"
    ∷ []
    )
unfolding digits opened_model
bytes_lines = refl
