-- The words of an audit's lines.
use Rattle.std.specs.Prelude.{ℕ, List, [], ◌∷◌, ◌++◌, Option, Some, None, map, codes, decimal}
use Rattle.std.specs.Fmt.{signed_decimal}
use Rattle.jx_base.specs.Texts.{unit_text, quoted, spaced, line}
use Rattle.jx_base.specs.declared.act.Act.{Act}
use Rattle.jx_base.specs.declared.act.Act.TheVariants as act
use Rattle.jx_base.specs.declared.act.Reply.{Reply}
use Rattle.jx_base.specs.declared.act.Reply.TheVariants as reply
use Rattle.jx_base.specs.declared.act.Refusal.{Refusal}
use Rattle.jx_base.specs.declared.act.Refusal.TheVariants as refusal
use Rattle.jx_base.specs.declared.act.Reason.{Reason}
use Rattle.jx_base.specs.declared.act.Reason.TheVariants as reason
use Rattle.jx_base.specs.declared.ids.ClassId.{ClassId}
use Rattle.jx_base.specs.declared.value.Word.{Word}
use Rattle.jx_base.specs.declared.value.Word.TheVariants as word
use Rattle.jx_base.specs.declared.value.Node.{Node}
use Rattle.jx_base.specs.declared.value.Parcel.{Parcel}
use Rattle.jx_base.specs.declared.program.System.{System}
use Rattle.program_model.specs.Lookup.{class_at, selector_at, template_at}

-- a text that is written
abbrev pub Bytes : Type 0
Bytes = List ℕ

-- ---- names

-- a class's name, quoted
unfoldable pub class_text : System → ℕ → Bytes
class_text s c = elim (class_at s c) [ None ↦ quoted [] | Some k ↦ quoted k.name ]

-- a template's name, quoted
unfoldable pub template_text : System → ℕ → Bytes
template_text s t = elim (template_at s t) [ None ↦ quoted [] | Some x ↦ quoted x.name ]

-- a method's name and descriptor, quoted
unfoldable pub method_text : System → ℕ → List Bytes
method_text s m = elim (selector_at s m) [ None ↦ quoted [] ∷ quoted [] ∷ [] | Some y ↦ quoted y.name ∷ quoted y.descriptor ∷ [] ]

-- ---- parcels

-- a word of a parcel
unfoldable pub word_text : Word → Bytes
word_text (word.Int n) = 105 ∷ signed_decimal n
word_text (word.Long n) = 108 ∷ signed_decimal n
word_text word.Null = codes "n"
word_text (word.Node k) = 35 ∷ decimal k
word_text (word.Portal k c) = 112 ∷ decimal k.0
word_text (word.Mem m) = 109 ∷ decimal m.0

-- a node: its class and its cells
unfoldable pub node_text : System → Node → Bytes
node_text s n = class_text s n.class.0 ++ 40 ∷ spaced (map word_text n.cells) ++ 41 ∷ []

-- a parcel: its roots and its nodes
unfoldable pub parcel_text : System → Parcel → Bytes
parcel_text s p = 91 ∷ spaced (map word_text p.roots) ++ 124 ∷ spaced (map (node_text s) p.nodes) ++ 93 ∷ []

-- ---- acts

-- the first word of an act
unfoldable pub act_word : Act → Bytes
act_word (act.Create t) = codes "create"
act_word (act.Print text) = codes "print"
act_word (act.Export iface k) = codes "export"
act_word (act.Bind name k) = codes "bind"
act_word (act.Lookup name) = codes "lookup"
act_word (act.Call k m p) = codes "call"
act_word (act.Take c) = codes "take"
act_word (act.Return c p) = codes "return"
act_word (act.Throw c p) = codes "throw"
act_word (act.Resume c) = codes "resume"
act_word (act.Go t) = codes "go"
act_word (act.Alloc n) = codes "alloc"
act_word (act.Size m) = codes "size"
act_word (act.Get m at width) = codes "get"
act_word (act.Set m at width v) = codes "set"
act_word (act.Fill m at count b) = codes "fill"
act_word (act.Copy m at k k_at count) = codes "copy"
act_word (act.Sub m at count) = codes "sub"
act_word (act.Split m at) = codes "split"
act_word (act.Revoke m) = codes "revoke"
act_word (act.Release m) = codes "drop"
act_word (act.Spawn name) = codes "spawn"
act_word (act.Kill k) = codes "kill"
act_word (act.Exit code) = codes "exit"
act_word act.Yield = codes "yield"
act_word (act.EndThread c) = codes "end-thread"
act_word (act.End r) = codes "end"
act_word act.Quiet = codes "quiet"
act_word act.Halt = codes "halt"

-- the words of a reason
unfoldable pub reason_words : Reason → List Bytes
reason_words (reason.Exit code) = codes "exit" ∷ signed_decimal code ∷ []
reason_words reason.Killed = codes "killed" ∷ []
reason_words reason.Fuel = codes "fuel" ∷ []
reason_words reason.BadCode = codes "badcode" ∷ []

-- the class of a thread's last exception, where there is one
unfoldable pub exception_words : System → Option ClassId → List Bytes
exception_words s None = []
exception_words s (Some c) = class_text s c.0 ∷ []

-- the words of an act behind the first one
unfoldable pub act_operands : System → Act → List Bytes
act_operands s (act.Create t) = template_text s t ∷ []
act_operands s (act.Print text) = quoted text ∷ []
act_operands s (act.Export iface k) = class_text s iface.0 ∷ decimal k ∷ []
act_operands s (act.Bind name k) = quoted name ∷ decimal k.0 ∷ []
act_operands s (act.Lookup name) = quoted name ∷ []
act_operands s (act.Call k m p) = decimal k.0 ∷ method_text s m.0 ++ parcel_text s p ∷ []
act_operands s (act.Take c) = decimal c.0 ∷ []
act_operands s (act.Return c p) = decimal c.0 ∷ parcel_text s p ∷ []
act_operands s (act.Throw c p) = decimal c.0 ∷ parcel_text s p ∷ []
act_operands s (act.Resume c) = decimal c.0 ∷ []
act_operands s (act.Alloc n) = signed_decimal n ∷ []
act_operands s (act.Size m) = decimal m.0 ∷ []
act_operands s (act.Get m at width) = decimal m.0 ∷ signed_decimal at ∷ decimal width ∷ []
act_operands s (act.Set m at width v) = decimal m.0 ∷ signed_decimal at ∷ decimal width ∷ signed_decimal v ∷ []
act_operands s (act.Fill m at count b) = decimal m.0 ∷ signed_decimal at ∷ signed_decimal count ∷ decimal b ∷ []
act_operands s (act.Copy m at k k_at count) =
    decimal m.0 ∷ signed_decimal at ∷ decimal k.0 ∷ signed_decimal k_at ∷ signed_decimal count ∷ []
act_operands s (act.Sub m at count) = decimal m.0 ∷ signed_decimal at ∷ signed_decimal count ∷ []
act_operands s (act.Split m at) = decimal m.0 ∷ signed_decimal at ∷ []
act_operands s (act.Revoke m) = decimal m.0 ∷ []
act_operands s (act.Release m) = decimal m.0 ∷ []
act_operands s (act.Spawn name) = quoted name ∷ []
act_operands s (act.Kill k) = signed_decimal k ∷ []
act_operands s (act.Exit code) = signed_decimal code ∷ []
act_operands s (act.EndThread c) = exception_words s c
act_operands s (act.End r) = reason_words r
act_operands s _ = []

-- ---- replies

-- the word of a refusal
unfoldable pub refusal_word : Refusal → Bytes
refusal_word refusal.NotHeld = codes "notheld"
refusal_word refusal.Taken = codes "taken"
refusal_word refusal.Gone = codes "gone"
refusal_word refusal.NoMethod = codes "nomethod"
refusal_word refusal.Unfit = codes "unfit"
refusal_word refusal.Discarded = codes "discarded"
refusal_word refusal.Range = codes "range"
refusal_word refusal.Revoked = codes "revoked"
refusal_word refusal.TooMany = codes "toomany"
refusal_word refusal.NoRoom = codes "noroom"
refusal_word refusal.Unknown = codes "unknown"
refusal_word refusal.NotYours = codes "notyours"
refusal_word refusal.NotLive = codes "notlive"

-- the first word of a reply
unfoldable pub reply_word : Reply → Bytes
reply_word reply.Done = codes "done"
reply_word (reply.Service k c) = codes "service"
reply_word reply.NoName = codes "none"
reply_word (reply.Queued c) = codes "queued"
reply_word (reply.Job k m p) = codes "job"
reply_word (reply.Value p) = codes "value"
reply_word (reply.Thrown p) = codes "thrown"
reply_word reply.CopyFailed = codes "copyfailed"
reply_word reply.Ended = codes "ended"
reply_word (reply.Number v) = codes "number"
reply_word (reply.Made m g) = codes "made"
reply_word (reply.Object m) = codes "object"
reply_word (reply.Pair a b) = codes "pair"
reply_word (reply.Domain d g) = codes "domain"
reply_word (reply.Refused r) = refusal_word r

-- the words of a reply behind the first one
unfoldable pub reply_operands : System → Reply → List Bytes
reply_operands s (reply.Service k c) = decimal k.0 ∷ []
reply_operands s (reply.Queued c) = decimal c.0 ∷ []
reply_operands s (reply.Job k m p) = decimal k.0 ∷ method_text s m.0 ++ parcel_text s p ∷ []
reply_operands s (reply.Value p) = parcel_text s p ∷ []
reply_operands s (reply.Thrown p) = parcel_text s p ∷ []
reply_operands s (reply.Number v) = signed_decimal v ∷ []
reply_operands s (reply.Made m g) = decimal m.0 ∷ codes "at" ∷ decimal g ∷ []
reply_operands s (reply.Object m) = decimal m.0 ∷ []
reply_operands s (reply.Pair a b) = decimal a.0 ∷ decimal b.0 ∷ []
reply_operands s (reply.Domain d g) = decimal d.0 ∷ codes "at" ∷ decimal g ∷ []
reply_operands s _ = []

-- what a computed case opens
unfoldable pub opened_audit : Unit {0}
unfolding unit_text quoted spaced line class_text template_text method_text word_text node_text parcel_text act_word reason_words exception_words act_operands refusal_word reply_word reply_operands
opened_audit = tt
