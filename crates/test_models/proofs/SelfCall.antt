-- A service that calls itself: one call runs and one is queued at the end.
use Rattle.std.specs.Prelude.{◌≡◌, refl, ℕ, true, List, [], ◌∷◌, ◌++◌, codes}
use Rattle.std.specs.Fmt.{digits}
use Rattle.jx_base.specs.declared.program.System.{System}
use Rattle.jx_base.specs.declared.program.Class.{Class}
use Rattle.jx_base.specs.declared.program.Resolved.TheVariants as resolved
use Rattle.opened_models.specs.Opened.{opened_model}
use Rattle.test_models.proofs.TestSystems.{built_in, class_of, array_of, native_in, method_in, code_of, plain_init, texts, audit_of}

-- new Impl; dup; <init>; ldc "Self"; iconst_1; export; checkcast Self; dup; putstatic p; run; return
abbrev pub self_main : List ℕ
self_main = 0xbb ∷ 0 ∷ 1 ∷ 0x59 ∷ 0xb7 ∷ 0 ∷ 2 ∷ 0x12 ∷ 3 ∷ 0x04 ∷ 0xb8 ∷ 0 ∷ 4 ∷ 0xc0 ∷ 0 ∷ 5 ∷ 0x59 ∷ 0xb3 ∷ 0 ∷ 6 ∷ 0xb9 ∷ 0 ∷ 7 ∷ 1 ∷ 0 ∷ 0xb1 ∷ []

-- getstatic p; run; return
abbrev pub self_run : List ℕ
self_run = 0xb2 ∷ 0 ∷ 6 ∷ 0xb9 ∷ 0 ∷ 7 ∷ 1 ∷ 0 ∷ 0xb1 ∷ []

abbrev pub self_class : Class
self_class =
    record (class_of (codes "Impl") 0) {
      interfaces = record { 0 = 28 } ∷ [];
      statics = record { owner = record { 0 = 27 }; name = codes "p"; descriptor = codes "LSelf;" } ∷ [];
      constants = resolved.Unused ∷ resolved.Class (record { 0 = 27 }) ∷ resolved.Method 2 ∷ resolved.Str (codes "Self") ∷ resolved.Method 1
          ∷ resolved.Class (record { 0 = 28 }) ∷ resolved.Static (record { 0 = 27 }) 0 ∷ resolved.Method 5 ∷ resolved.Method 0 ∷ [];
    }

abbrev pub self_interface : Class
self_interface =
    record (class_of (codes "Self") 0) {
      flags = 0x0601;
      methods = record { flags = 0x0401; selector = record { name = codes "run"; descriptor = codes "()V" } } ∷ [];
    }

abbrev pub self_system : System
self_system =
    record {
      plan = record {
        granules = 64;
        journal = 1048576;
        templates = record { name = codes "x"; main = 0; classes = 0 ∷ 1 ∷ []; heap = 64; fuel = 1000; boot = true } ∷ [];
        classes = codes "Impl" ∷ codes "Self" ∷ [];
      };
      program = record {
        classes = built_in ++ self_class ∷ self_interface ∷ array_of (codes "Ljava/lang/String;") ∷ array_of (codes "Ljx/Memory;") ∷ [];
        methods = native_in 0 0 1 ∷ native_in 19 1 9
            ∷ method_in 27 0 1 (code_of 1 1 (plain_init 8)) ∷ method_in 27 2 9 (code_of 3 1 self_main) ∷ method_in 27 3 1 (code_of 1 1 self_run)
            ∷ native_in 28 3 0x0401 ∷ [];
        selectors = record { name = codes "<init>"; descriptor = codes "()V" }
            ∷ record { name = codes "export"; descriptor = codes "(Ljava/lang/Object;Ljava/lang/String;I)Ljx/Portal;" }
            ∷ record { name = codes "main"; descriptor = codes "([Ljava/lang/String;)V" }
            ∷ record { name = codes "run"; descriptor = codes "()V" } ∷ [];
      };
    }

self_calls : audit_of self_system ≡ texts (
    codes "jx audit 1"
    ∷ codes "1 0 0 create \"x\" -> domain 1 at 0"
    ∷ codes "2 1 0 export \"Self\" 1 -> service 1"
    ∷ codes "3 1 0 call 1 \"run\" \"()V\" [|] -> queued 1"
    ∷ codes "4 1 1 take 1 -> job 1 \"run\" \"()V\" [|]"
    ∷ codes "5 1 1 call 1 \"run\" \"()V\" [|] -> queued 2"
    ∷ codes "6 0 0 quiet -> done"
    ∷ codes "console"
    ∷ codes "domains"
    ∷ codes "1 \"x\" by 0 live"
    ∷ codes "calls"
    ∷ codes "1 running"
    ∷ codes "2 queued"
    ∷ codes "memory 8 of 64"
    ∷ codes "words 40 of 1048576"
    ∷ codes "end quiet"
    ∷ []
    )
unfolding digits opened_model
self_calls = refl
