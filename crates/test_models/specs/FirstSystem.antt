-- The first system: the one of the first class alone, and what one worker makes of it.
use Rattle.std.specs.Prelude.{◌≡◌, ℕ, ◌-◌, List, [], ◌∷◌, ◌++◌, length, Some, None, slice_get, codes}
use Rattle.std.specs.List.{flat_map}
use Rattle.jx_base.specs.declared.act.Act.TheVariants as act
use Rattle.jx_base.specs.declared.act.Reply.TheVariants as reply
use Rattle.jx_base.specs.declared.act.Entry.{Entry}
use Rattle.jx_base.specs.declared.act.History.{History}
use Rattle.jx_base.specs.declared.class_file.ClassFile.{ClassFile}
use Rattle.jx_base.specs.declared.program.Plan.{Plan}
use Rattle.jx_base.specs.declared.program.System.{System}
use Rattle.system_text.specs.Description.{one_class_plan}
use Rattle.test_models.specs.FirstClass.{first_class}
use Rattle.link_model.specs.Linking.{linked_system}

-- its plan
unfoldable pub first_plan : Plan
first_plan = one_class_plan (codes "Hello")

-- its class files
unfoldable pub first_files : List ClassFile
first_files = first_class ∷ []

-- the system that they link to
unfoldable pub first_system : System
first_system = linked_system first_plan first_files

-- the history of one domain whose main prints the text
unfoldable pub one_print : List ℕ → List Entry
one_print text =
    record { domain = record { 0 = 0 }; thread = record { 0 = 0 }; act = act.Create 0; reply = reply.Domain (record { 0 = 1 }) 0 }
    ∷ record { domain = record { 0 = 1 }; thread = record { 0 = 0 }; act = act.Print text; reply = reply.Done }
    ∷ record { domain = record { 0 = 1 }; thread = record { 0 = 0 }; act = act.EndThread None; reply = reply.Done }
    ∷ record { domain = record { 0 = 0 }; thread = record { 0 = 0 }; act = act.Quiet; reply = reply.Done }
    ∷ []

-- the history of one worker of it
unfoldable pub first_history : History
first_history = record { entries = one_print (codes "hi") }

-- the last entry is of an act quiet
pub record EndsQuiet (history : History) : Type 0 where
  pub last : Entry
  pub is_last : slice_get history.entries (length history.entries - 1) ≡ Some last
  pub quiet : last.act ≡ act.Quiet

-- a line of an audit
abbrev pub ended_line : List ℕ → List ℕ
ended_line units = units ++ codes "\n"

-- the first audit
unfoldable pub first_audit : List ℕ
first_audit = flat_map ended_line (
    codes "jx audit 1"
    ∷ codes "1 0 0 create \"main\" -> domain 1 at 0"
    ∷ codes "2 1 0 print \"hi\" -> done"
    ∷ codes "3 1 0 end-thread -> done"
    ∷ codes "4 0 0 quiet -> done"
    ∷ codes "console"
    ∷ codes "1 \"hi\""
    ∷ codes "domains"
    ∷ codes "1 \"main\" by 0 live"
    ∷ codes "calls"
    ∷ codes "memory 128 of 16384"
    ∷ codes "words 26 of 1048576"
    ∷ codes "end quiet"
    ∷ []
    )
