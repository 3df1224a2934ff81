-- A domain is killed after so many entries of its script: what it had is free again, but what rides in a queued call.
use Rattle.std.specs.Prelude.{◌≡◌, refl, ℕ, pos, List, [], ◌∷◌, ◌++◌, take, codes}
use Rattle.std.specs.Fmt.{digits}
use Rattle.jx_base.specs.declared.act.Act.TheVariants as act
use Rattle.jx_base.specs.declared.program.System.{System}
use Rattle.opened_models.specs.Opened.{opened_model}
use Rattle.test_models.proofs.TestSystems.{texts}
use Rattle.test_models.proofs.Steps.{Step, step_lines, past_after_steps, two, boots, serves, poke, put_method, service, object, call, memory}

abbrev forty : System
forty = two 40

-- domain 3 is made
abbrev start : List Step
start = boots 0 2 ++ serves 2 1 (codes "b") ++ (1, act.Spawn (codes "w")) ∷ []

-- what domain 3 does
abbrev script : List Step
script =
    (3, act.Export poke 1) ∷ (3, act.Bind (codes "w") (service 2)) ∷ (3, act.Lookup (codes "b")) ∷ (3, act.Alloc (pos 64))
    ∷ (3, act.Sub (object 1) (pos 0) (pos 32)) ∷ (3, act.Call (service 1) put_method (memory 2)) ∷ []

start_lines : step_lines forty [] (start ++ script) ≡ texts (
    codes "0 create \"a\" -> domain 1 at 0"
    ∷ codes "0 create \"b\" -> domain 2 at 8"
    ∷ codes "2 export \"Poke\" 1 -> service 1"
    ∷ codes "2 bind \"b\" 1 -> done"
    ∷ codes "2 end-thread -> done"
    ∷ codes "1 spawn \"w\" -> domain 3 at 16"
    ∷ codes "3 export \"Poke\" 1 -> service 2"
    ∷ codes "3 bind \"w\" 2 -> done"
    ∷ codes "3 lookup \"b\" -> service 1"
    ∷ codes "3 alloc 64 -> made 1 at 24"
    ∷ codes "3 sub 1 0 32 -> object 2"
    ∷ codes "3 call 1 \"put\" \"(Ljx/Memory;)V\" [m2|] -> queued 1"
    ∷ []
    )
unfolding digits opened_model
start_lines = refl

-- the kill after k entries of the script, and what follows
abbrev after_kill : ℕ → List Step → List ℕ
after_kill k more =
    step_lines forty (past_after_steps forty [] (start ++ take k script))
    ((1, act.Kill (pos 3)) ∷ (1, act.Lookup (codes "w")) ∷ (1, act.Alloc (pos 1024)) ∷ more)

killed_after_0 : after_kill 0 [] ≡ texts (codes "1 kill 3 -> done" ∷ codes "1 lookup \"w\" -> none" ∷ codes "1 alloc 1024 -> made 1 at 16" ∷ [])
unfolding digits opened_model
killed_after_0 = refl

killed_after_1 : after_kill 1 [] ≡ texts (codes "1 kill 3 -> done" ∷ codes "1 lookup \"w\" -> none" ∷ codes "1 alloc 1024 -> made 1 at 16" ∷ [])
unfolding digits opened_model
killed_after_1 = refl

killed_after_2 : after_kill 2 [] ≡ texts (codes "1 kill 3 -> done" ∷ codes "1 lookup \"w\" -> none" ∷ codes "1 alloc 1024 -> made 1 at 16" ∷ [])
unfolding digits opened_model
killed_after_2 = refl

killed_after_3 : after_kill 3 [] ≡ texts (codes "1 kill 3 -> done" ∷ codes "1 lookup \"w\" -> none" ∷ codes "1 alloc 1024 -> made 1 at 16" ∷ [])
unfolding digits opened_model
killed_after_3 = refl

killed_after_4 : after_kill 4 [] ≡ texts (codes "1 kill 3 -> done" ∷ codes "1 lookup \"w\" -> none" ∷ codes "1 alloc 1024 -> made 2 at 16" ∷ [])
unfolding digits opened_model
killed_after_4 = refl

killed_after_5 : after_kill 5 [] ≡ texts (codes "1 kill 3 -> done" ∷ codes "1 lookup \"w\" -> none" ∷ codes "1 alloc 1024 -> made 3 at 16" ∷ [])
unfolding digits opened_model
killed_after_5 = refl

killed_after_6 : after_kill 6 ((2, act.Take (call 1)) ∷ (2, act.Release (object 2)) ∷ (1, act.Alloc (pos 1024)) ∷ []) ≡ texts (
    codes "1 kill 3 -> done"
    ∷ codes "1 lookup \"w\" -> none"
    ∷ codes "1 alloc 1024 -> noroom"
    ∷ codes "2 take 1 -> job 1 \"put\" \"(Ljx/Memory;)V\" [m2|]"
    ∷ codes "2 drop 2 -> done"
    ∷ codes "1 alloc 1024 -> made 3 at 16"
    ∷ []
    )
unfolding digits opened_model
killed_after_6 = refl
