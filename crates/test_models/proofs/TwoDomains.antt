-- Two domains and a call whose parcel has a cycle.
use Rattle.std.specs.Prelude.{◌≡◌, refl, ℕ, true, List, [], ◌∷◌, ◌++◌, codes}
use Rattle.std.specs.Fmt.{digits}
use Rattle.jx_base.specs.declared.program.System.{System}
use Rattle.jx_base.specs.declared.program.Template.{Template}
use Rattle.jx_base.specs.declared.program.Class.{Class}
use Rattle.jx_base.specs.declared.program.Resolved.TheVariants as resolved
use Rattle.opened_models.specs.Opened.{opened_model}
use Rattle.test_models.proofs.TestSystems.{built_in_full, class_of, array_of, native_in, method_in, code_of, plain_init, texts, audit_of}

abbrev pub node_class : Class
node_class =
    record (class_of (codes "Node") 0) {
      fields = record { owner = record { 0 = 29 }; name = codes "next"; descriptor = codes "LNode;" }
          ∷ record { owner = record { 0 = 29 }; name = codes "v"; descriptor = codes "I" } ∷ [];
      constants = resolved.Unused ∷ resolved.Method 0 ∷ [];
    }

abbrev pub poke_class : Class
poke_class =
    record (class_of (codes "Poke") 0) {
      flags = 0x0601;
      methods = record { flags = 0x0401; selector = record { name = codes "poke"; descriptor = codes "(LNode;LNode;)V" } } ∷ [];
    }

abbrev pub server_class : Class
server_class =
    record (class_of (codes "Server") 0) {
      interfaces = record { 0 = 28 } ∷ [];
      constants = resolved.Unused ∷ resolved.Str (codes "poke") ∷ resolved.Class (record { 0 = 27 }) ∷ resolved.Method 8
          ∷ resolved.Str (codes "Poke") ∷ resolved.Method 2 ∷ resolved.Method 3 ∷ resolved.Instance (record { 0 = 29 }) 1 ∷ resolved.Method 0 ∷ [];
    }

abbrev pub client_class : Class
client_class =
    record (class_of (codes "Client") 0) {
      constants = resolved.Unused ∷ resolved.Class (record { 0 = 29 }) ∷ resolved.Method 12 ∷ resolved.Instance (record { 0 = 29 }) 1
          ∷ resolved.Instance (record { 0 = 29 }) 0 ∷ resolved.Str (codes "poke") ∷ resolved.Method 4 ∷ resolved.Class (record { 0 = 28 })
          ∷ resolved.Method 11 ∷ resolved.Class (record { 0 = 2 }) ∷ resolved.Method 5 ∷ resolved.Method 6 ∷ resolved.Method 7 ∷ resolved.Method 1 ∷ [];
    }

-- ldc "poke"; new Server; dup; <init>; ldc "Poke"; iconst_1; export; bind; return
abbrev pub server_main : List ℕ
server_main = 0x12 ∷ 1 ∷ 0xbb ∷ 0 ∷ 2 ∷ 0x59 ∷ 0xb7 ∷ 0 ∷ 3 ∷ 0x12 ∷ 4 ∷ 0x04 ∷ 0xb8 ∷ 0 ∷ 5 ∷ 0xb8 ∷ 0 ∷ 6 ∷ 0xb1 ∷ []

-- aload_1; bipush 9; putfield v; return
abbrev pub server_poke : List ℕ
server_poke = 0x2b ∷ 0x10 ∷ 9 ∷ 0xb5 ∷ 0 ∷ 7 ∷ 0xb1 ∷ []

-- a node with v 5 and next itself, poke(a, a), and print of v
abbrev pub client_main : List ℕ
client_main =
    0xbb ∷ 0 ∷ 1 ∷ 0x59 ∷ 0xb7 ∷ 0 ∷ 2 ∷ 0x4c ∷ 0x2b ∷ 0x08 ∷ 0xb5 ∷ 0 ∷ 3 ∷ 0x2b ∷ 0x2b ∷ 0xb5 ∷ 0 ∷ 4
    ∷ 0x12 ∷ 5 ∷ 0xb8 ∷ 0 ∷ 6 ∷ 0xc0 ∷ 0 ∷ 7 ∷ 0x2b ∷ 0x2b ∷ 0xb9 ∷ 0 ∷ 8 ∷ 3 ∷ 0
    ∷ 0xbb ∷ 0 ∷ 9 ∷ 0x59 ∷ 0xb7 ∷ 0 ∷ 10 ∷ 0x2b ∷ 0xb4 ∷ 0 ∷ 3 ∷ 0xb6 ∷ 0 ∷ 11 ∷ 0xb6 ∷ 0 ∷ 12 ∷ 0xb8 ∷ 0 ∷ 13 ∷ 0xb1 ∷ []

abbrev pub two_templates : List Template
two_templates =
    record { name = codes "s"; main = 0; classes = 0 ∷ 1 ∷ 2 ∷ []; heap = 64; fuel = 1000; boot = true }
    ∷ record { name = codes "c"; main = 3; classes = 3 ∷ 1 ∷ 2 ∷ []; heap = 64; fuel = 1000; boot = true } ∷ []

abbrev pub two_system : System
two_system =
    record {
      plan = record {
        granules = 64;
        journal = 1048576;
        templates = two_templates;
        classes = codes "Server" ∷ codes "Poke" ∷ codes "Node" ∷ codes "Client" ∷ [];
      };
      program = record {
        classes = built_in_full ++ server_class ∷ poke_class ∷ node_class ∷ client_class ∷ array_of (codes "Ljava/lang/String;") ∷ array_of (codes "Ljx/Memory;") ∷ [];
        methods = native_in 0 0 1 ∷ native_in 19 1 9 ∷ native_in 19 2 9 ∷ native_in 19 3 9 ∷ native_in 19 4 9
            ∷ native_in 2 0 1 ∷ native_in 2 5 1 ∷ native_in 2 6 1
            ∷ method_in 27 0 1 (code_of 1 1 (plain_init 8)) ∷ method_in 27 7 9 (code_of 5 1 server_main) ∷ method_in 27 8 1 (code_of 2 3 server_poke)
            ∷ native_in 28 8 0x0401 ∷ method_in 29 0 1 (code_of 1 1 (plain_init 1)) ∷ method_in 30 7 9 (code_of 4 2 client_main) ∷ [];
        selectors = record { name = codes "<init>"; descriptor = codes "()V" }
            ∷ record { name = codes "print"; descriptor = codes "(Ljava/lang/String;)V" }
            ∷ record { name = codes "export"; descriptor = codes "(Ljava/lang/Object;Ljava/lang/String;I)Ljx/Portal;" }
            ∷ record { name = codes "bind"; descriptor = codes "(Ljava/lang/String;Ljx/Portal;)V" }
            ∷ record { name = codes "lookup"; descriptor = codes "(Ljava/lang/String;)Ljx/Portal;" }
            ∷ record { name = codes "append"; descriptor = codes "(I)Ljava/lang/StringBuilder;" }
            ∷ record { name = codes "toString"; descriptor = codes "()Ljava/lang/String;" }
            ∷ record { name = codes "main"; descriptor = codes "([Ljava/lang/String;)V" }
            ∷ record { name = codes "poke"; descriptor = codes "(LNode;LNode;)V" }
            ∷ [];
      };
    }

two_domains : audit_of two_system ≡ texts (
    codes "jx audit 1"
    ∷ codes "1 0 0 create \"s\" -> domain 1 at 0"
    ∷ codes "2 0 0 create \"c\" -> domain 2 at 8"
    ∷ codes "3 1 0 export \"Poke\" 1 -> service 1"
    ∷ codes "4 1 0 bind \"poke\" 1 -> done"
    ∷ codes "5 1 0 end-thread -> done"
    ∷ codes "6 2 0 lookup \"poke\" -> service 1"
    ∷ codes "7 2 0 call 1 \"poke\" \"(LNode;LNode;)V\" [#0 #0|\"Node\"(#0 i5)] -> queued 1"
    ∷ codes "8 1 1 take 1 -> job 1 \"poke\" \"(LNode;LNode;)V\" [#0 #0|\"Node\"(#0 i5)]"
    ∷ codes "9 1 1 return 1 [|] -> done"
    ∷ codes "10 2 0 resume 1 -> value [|]"
    ∷ codes "11 2 0 print \"5\" -> done"
    ∷ codes "12 2 0 end-thread -> done"
    ∷ codes "13 0 0 quiet -> done"
    ∷ codes "console"
    ∷ codes "2 \"5\""
    ∷ codes "domains"
    ∷ codes "1 \"s\" by 0 live"
    ∷ codes "2 \"c\" by 0 live"
    ∷ codes "calls"
    ∷ codes "memory 16 of 64"
    ∷ codes "words 117 of 1048576"
    ∷ codes "end quiet"
    ∷ []
    )
unfolding digits opened_model
two_domains = refl
