-- What a reply hands to a domain.
use Rattle.std.specs.Prelude.{FitsSigned, ◌≡◌, ◌<◌, pos, List, length, Some, slice_get}
use Rattle.std.specs.List.{AllByRecursion}
use Rattle.std.specs.Int.{w32}
use Rattle.jx_base.specs.declared.act.Act.{Act}
use Rattle.jx_base.specs.declared.act.Act.TheVariants as act
use Rattle.jx_base.specs.declared.act.Reply.{Reply}
use Rattle.jx_base.specs.declared.act.Reply.TheVariants as reply
use Rattle.jx_base.specs.declared.program.System.{System}
use Rattle.jx_base.specs.declared.value.Node.{Node}
use Rattle.jx_base.specs.declared.value.Parcel.{Parcel}
use Rattle.jx_base.specs.declared.value.Word.{Word}
use Rattle.jx_base.specs.declared.value.Word.TheVariants as word
use Rattle.program_model.specs.BuiltIn.{string_class, builder_class}
use Rattle.jx_base.specs.Histories.{Past}
use Rattle.jx_model.specs.WellMade.{IsParcelIn, IsPortalIn}
use Rattle.program_model.specs.Ranges.{IsId}
use Rattle.machine_laws.specs.Values.{HasCountOf}
use Rattle.std.specs.Option.{option_map}

-- an int of sixteen bits without a sign
abbrev pub IsUnitWord : Word → Type 0
IsUnitWord (word.Int (pos n)) = n < 65536
IsUnitWord _ = ⊥

-- a String, where it is a node
abbrev pub IsTextWord : List Node → Word → Type 0
IsTextWord nodes (word.Node k) = option_map (λ n. n.class.0) (slice_get nodes k) ≡ Some string_class
IsTextWord nodes _ = Unit {0}

-- a String's cells are units, and what a StringBuilder refers to is a String
pub record HasTexts (nodes : List Node) (n : Node) : Type 0 where
  pub units : n.class.0 ≡ string_class → AllByRecursion IsUnitWord n.cells
  pub text : n.class.0 ≡ builder_class → AllByRecursion (IsTextWord nodes) n.cells

-- a parcel that a domain can have; its nodes have the cells of their classes
pub record IsHanded (s : System) (past : Past) (p : Parcel) : Type 0 where
  pub parcel : IsParcelIn s past p
  pub texts : AllByRecursion (HasTexts p.nodes) p.nodes
  pub counts : AllByRecursion (λ n. HasCountOf s n.class.0 (length n.cells)) p.nodes

-- a number is of 32 bits, a portal is one of the past, and a parcel is one that a domain can have
abbrev pub IsReplyIn : System → Past → Reply → Type 0
IsReplyIn s past (reply.Service k c) = IsPortalIn past k.0 c
IsReplyIn s past (reply.Number n) = FitsSigned w32 n
IsReplyIn s past (reply.Domain d g) = FitsSigned w32 (pos d.0)
IsReplyIn s past (reply.Made m g) = IsId m.0
IsReplyIn s past (reply.Object m) = IsId m.0
IsReplyIn s past (reply.Pair a b) = IsId a.0 × IsId b.0
IsReplyIn s past (reply.Job k m p) = IsHanded s past p
IsReplyIn s past (reply.Value p) = IsHanded s past p
IsReplyIn s past (reply.Thrown p) = IsHanded s past p
IsReplyIn s past _ = Unit {0}

-- an export that made a service made it with its interface
abbrev pub IsExportedIn : Past → Act → Reply → Type 0
IsExportedIn past (act.Export iface k) (reply.Service service c) = IsPortalIn past service.0 iface
IsExportedIn past _ _ = Unit {0}
