-- A system with an interface, and a history of it with an answered, a running and a queued call.
use Rattle.std.specs.Prelude.{ℕ, List, [], ◌∷◌, None, codes}
use Rattle.jx_base.specs.declared.act.Act.{Act}
use Rattle.jx_base.specs.declared.act.Act.TheVariants as act
use Rattle.jx_base.specs.declared.act.Entry.{Entry}
use Rattle.jx_base.specs.declared.act.Reply.{Reply}
use Rattle.jx_base.specs.declared.act.Reply.TheVariants as reply
use Rattle.jx_base.specs.declared.program.Class.{Class}
use Rattle.jx_base.specs.declared.program.Selector.{Selector}
use Rattle.jx_base.specs.declared.program.System.{System}
use Rattle.jx_base.specs.declared.value.Parcel.{Parcel}
use Rattle.test_audit_text.specs.HandMade.{plain_entry, small_template}

-- a method without parameters
unfoldable pub ask : Selector
ask = record { name = codes "ask"; descriptor = codes "()V" }

-- an interface with that method
unfoldable pub asked_class : Class
asked_class = record {
  name = codes "I";
  parent = None;
  interfaces = [];
  component = None;
  fields = [];
  statics = [];
  methods = record { flags = 1025; selector = ask } ∷ [];
  flags = 1537;
  constants = [];
}

-- three kinds of domains, all made at the start
unfoldable pub asking_system : System
asking_system = record {
  plan = record {
    granules = 64;
    journal = 9000;
    templates = small_template (codes "a") ∷ small_template (codes "b") ∷ small_template (codes "c") ∷ [];
    classes = [];
  };
  program = record { classes = asked_class ∷ []; methods = []; selectors = ask ∷ [] };
}

-- a parcel with nothing in it
unfoldable pub bare : Parcel
bare = record { roots = []; nodes = [] }

-- an entry of domain 1 in the thread of its service
unfoldable pub served_entry : Act → Reply → Entry
served_entry a r = record { domain = record { 0 = 1 }; thread = record { 0 = 1 }; act = a; reply = r }

-- a domain calls the service of domain 1
unfoldable pub call_entry : ℕ → ℕ → Entry
call_entry d c = plain_entry d (act.Call (record { 0 = 1 }) (record { 0 = 0 }) bare) (reply.Queued (record { 0 = c }))

-- the service's thread takes a call
unfoldable pub take_entry : ℕ → Entry
take_entry c = served_entry (act.Take (record { 0 = c })) (reply.Job (record { 0 = 1 }) (record { 0 = 0 }) bare)

-- a domain finds the service
unfoldable pub found_entry : ℕ → Entry
found_entry d = plain_entry d (act.Lookup (codes "s")) (reply.Service (record { 0 = 1 }) (record { 0 = 0 }))

-- domain 1 serves domain 2, which calls again and is served, while domain 3 waits
unfoldable pub calls_made : List Entry
calls_made =
    plain_entry 0 (act.Create 0) (reply.Domain (record { 0 = 1 }) 0)
    ∷ plain_entry 0 (act.Create 1) (reply.Domain (record { 0 = 2 }) 8)
    ∷ plain_entry 0 (act.Create 2) (reply.Domain (record { 0 = 3 }) 16)
    ∷ plain_entry 1 (act.Export (record { 0 = 0 }) 1) (reply.Service (record { 0 = 1 }) (record { 0 = 0 }))
    ∷ plain_entry 1 (act.Bind (codes "s") (record { 0 = 1 })) reply.Done
    ∷ plain_entry 1 act.Yield reply.Done
    ∷ found_entry 2
    ∷ call_entry 2 1
    ∷ take_entry 1
    ∷ served_entry (act.Return (record { 0 = 1 }) bare) reply.Done
    ∷ plain_entry 2 (act.Resume (record { 0 = 1 })) (reply.Value bare)
    ∷ call_entry 2 2
    ∷ take_entry 2
    ∷ found_entry 3
    ∷ call_entry 3 3
    ∷ []
