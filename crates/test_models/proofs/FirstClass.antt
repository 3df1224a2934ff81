-- The first class: it prints a text.
use Rattle.std.specs.Prelude.{◌≡◌, refl, ℕ, true, List, [], ◌∷◌, ◌++◌, Some, None, codes, replicate}
use Rattle.std.specs.Fmt.{digits}
use Rattle.jx_base.specs.declared.act.Act.TheVariants as act
use Rattle.jx_base.specs.declared.class_file.Code.{Code}
use Rattle.jx_base.specs.declared.program.System.{System}
use Rattle.jx_base.specs.declared.program.Plan.{Plan}
use Rattle.jx_base.specs.declared.program.Program.{Program}
use Rattle.jx_base.specs.declared.program.Class.{Class}
use Rattle.jx_base.specs.declared.program.Resolved.TheVariants as resolved
use Rattle.opened_models.specs.Opened.{opened_model}
use Rattle.jx_model.specs.SingleWorker.{single_worker_history}
use Rattle.audit_model.specs.Summary.{summary_text}
use Rattle.machine_model.specs.Machine.{Does, next_act}
use Rattle.test_models.proofs.TestSystems.{history_of, class_of, built_in, array_of, texts, audit_of}

-- the class with the text hi in its ninth constant and print in its fifteenth
abbrev pub hello : Class
hello =
    record (class_of (codes "Hello") 0) {
      constants = replicate 9 resolved.Unused ++ resolved.Str (codes "hi") ∷ replicate 5 resolved.Unused ++ resolved.Method 0 ∷ [];
    }

-- ldc; invokestatic; return
abbrev pub hello_code : Code
hello_code = record { max_stack = 1; max_locals = 1; at = 179; code = 0x12 ∷ 0x09 ∷ 0xb8 ∷ 0x00 ∷ 0x0f ∷ 0xb1 ∷ []; table = [] }

-- the program of the class
abbrev pub hello_program : Program
hello_program =
    record {
      classes = built_in ++ hello ∷ array_of (codes "Ljava/lang/String;") ∷ array_of (codes "Ljx/Memory;") ∷ [];
      methods = record { class = record { 0 = 19 }; selector = record { 0 = 0 }; flags = 9; code = None; instrs = [] }
          ∷ record { class = record { 0 = 27 }; selector = record { 0 = 1 }; flags = 9; code = Some hello_code; instrs = [] }
          ∷ [];
      selectors = record { name = codes "print"; descriptor = codes "(Ljava/lang/String;)V" }
          ∷ record { name = codes "main"; descriptor = codes "([Ljava/lang/String;)V" }
          ∷ [];
    }

-- the plan of the class alone, with that fuel
abbrev pub hello_plan : ℕ → Plan
hello_plan fuel =
    record {
      granules = 16384;
      journal = 1048576;
      templates = record { name = codes "main"; main = 0; classes = 0 ∷ []; heap = 1024; fuel = fuel; boot = true } ∷ [];
      classes = codes "Hello" ∷ [];
    }

-- the linked system
abbrev pub hello_system : ℕ → System
hello_system fuel = record { plan = hello_plan fuel; program = hello_program }

-- what the code does first
first_act : next_act (hello_system 100) 0 [] ≡ Does (act.Print (codes "hi"))
unfolding opened_model
first_act = refl

-- the whole output of the program that prints hi
abbrev pub hello_audit : List ℕ
hello_audit = texts (
    codes "jx audit 1"
    ∷ codes "1 0 0 create \"main\" -> domain 1 at 0"
    ∷ codes "2 1 0 print \"hi\" -> done"
    ∷ codes "3 1 0 end-thread -> done"
    ∷ codes "4 0 0 quiet -> done"
    ∷ codes "console"
    ∷ codes "1 \"hi\""
    ∷ codes "domains"
    ∷ codes "1 \"main\" by 0 live"
    ∷ codes "calls"
    ∷ codes "memory 128 of 16384"
    ∷ codes "words 26 of 1048576"
    ∷ codes "end quiet"
    ∷ []
    )

hello_prints : audit_of (hello_system 1000000) ≡ hello_audit
unfolding digits opened_model
hello_prints = refl

-- fuel for the three instructions is enough
hello_with_fuel_three : audit_of (hello_system 3) ≡ hello_audit
unfolding digits opened_model
hello_with_fuel_three = refl

-- with less the domain ends before it returns
hello_with_fuel_two : audit_of (hello_system 2) ≡ texts (
    codes "jx audit 1"
    ∷ codes "1 0 0 create \"main\" -> domain 1 at 0"
    ∷ codes "2 1 0 print \"hi\" -> done"
    ∷ codes "3 1 0 end fuel -> done"
    ∷ codes "4 0 0 quiet -> done"
    ∷ codes "console"
    ∷ codes "1 \"hi\""
    ∷ codes "domains"
    ∷ codes "1 \"main\" by 0 ended fuel"
    ∷ codes "calls"
    ∷ codes "memory 0 of 16384"
    ∷ codes "words 26 of 1048576"
    ∷ codes "end quiet"
    ∷ []
    )
unfolding digits opened_model
hello_with_fuel_two = refl

-- its summary
hello_summary : summary_text (history_of (single_worker_history (hello_system 3))) ≡ texts (
    codes "create domain 1" ∷ codes "print done 1" ∷ codes "end-thread done 1" ∷ codes "quiet done 1" ∷ []
    )
unfolding digits opened_model
hello_summary = refl
