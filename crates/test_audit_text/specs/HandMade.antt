-- A system without classes, and histories of it that are made by hand.
use Rattle.std.specs.Prelude.{ℕ, negsuc, true, List, [], ◌∷◌, codes}
use Rattle.jx_base.specs.declared.act.Act.{Act}
use Rattle.jx_base.specs.declared.act.Act.TheVariants as act
use Rattle.jx_base.specs.declared.act.Reason.TheVariants as reason
use Rattle.jx_base.specs.declared.act.Reply.{Reply}
use Rattle.jx_base.specs.declared.act.Reply.TheVariants as reply
use Rattle.jx_base.specs.declared.act.Entry.{Entry}
use Rattle.jx_base.specs.declared.program.System.{System}
use Rattle.jx_base.specs.declared.program.Template.{Template}

-- a kind of domain with a heap of 8 granules
unfoldable pub small_template : List ℕ → Template
small_template name = record { name = name; main = 0; classes = []; heap = 64; fuel = 9; boot = true }

-- two kinds of domains, both made at the start
unfoldable pub small_system : System
small_system = record {
  plan = record {
    granules = 64;
    journal = 9000;
    templates = small_template (codes "a") ∷ small_template (codes "b") ∷ [];
    classes = [];
  };
  program = record { classes = []; methods = []; selectors = [] };
}

-- an entry of thread 0
unfoldable pub plain_entry : ℕ → Act → Reply → Entry
plain_entry d a r = record { domain = record { 0 = d }; thread = record { 0 = 0 }; act = a; reply = r }

-- a, `"`, `\`, a control, a blank, the last plain unit, and units above it
unfoldable pub odd_text : List ℕ
odd_text = 0x61 ∷ 0x22 ∷ 0x5c ∷ 0x1f ∷ 0x20 ∷ 0x7e ∷ 0x7f ∷ 0xabcd ∷ 0xd800 ∷ []

-- the domains are made; the first one prints, yields, goes on and exits; the second one runs out of fuel
unfoldable pub hand_made : List Entry
hand_made =
    plain_entry 0 (act.Create 0) (reply.Domain (record { 0 = 1 }) 0)
    ∷ plain_entry 0 (act.Create 1) (reply.Domain (record { 0 = 2 }) 8)
    ∷ plain_entry 1 (act.Print odd_text) reply.Done
    ∷ plain_entry 1 act.Yield reply.Done
    ∷ plain_entry 1 (act.Go (record { 0 = 0 })) reply.Done
    ∷ plain_entry 1 (act.Exit (negsuc 4)) reply.Done
    ∷ plain_entry 2 (act.End reason.Fuel) reply.Done
    ∷ plain_entry 0 act.Quiet reply.Done
    ∷ []
