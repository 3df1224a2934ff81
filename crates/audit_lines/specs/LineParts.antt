-- The parts of an entry's line.
use Rattle.std.specs.Prelude.{ℕ, List, [], ◌∷◌, ◌++◌, decimal}
use Rattle.std.specs.List.{flat_map}
use Rattle.jx_base.specs.declared.act.Act.{Act}
use Rattle.jx_base.specs.declared.act.Entry.{Entry}
use Rattle.jx_base.specs.declared.act.Reply.{Reply}
use Rattle.jx_base.specs.declared.program.System.{System}
use Rattle.jx_base.specs.declared.value.Node.{Node}
use Rattle.jx_base.specs.declared.value.Parcel.{Parcel}
use Rattle.jx_base.specs.declared.value.Word.{Word}
use Rattle.jx_base.specs.Texts.{after_space, spaced}
use Rattle.audit_model.specs.Audit.{method_text, word_text, node_text, parcel_text, act_word, act_operands, reply_word, reply_operands}

-- words, each behind a space
abbrev pub behind : List (List ℕ) → List ℕ
behind words = flat_map after_space words

-- the words of an act, each behind a space
unfoldable pub spaced_act : System → Act → List ℕ
spaced_act s a = flat_map after_space (act_word a ∷ act_operands s a)

-- the words of a reply, each behind a space
unfoldable pub spaced_reply : System → Reply → List ℕ
spaced_reply s r = flat_map after_space (reply_word r ∷ reply_operands s r)

-- a word, a service, a method and a parcel, each behind a space
unfoldable pub asked_text : System → List ℕ → ℕ → ℕ → Parcel → List ℕ
asked_text s word k m p = behind (word ∷ decimal k ∷ method_text s m ++ parcel_text s p ∷ [])

-- a word of a parcel behind a space
abbrev pub spaced_word : Word → List ℕ
spaced_word w = after_space (word_text w)

-- a node of a parcel behind a space
abbrev pub spaced_node : System → Node → List ℕ
spaced_node s n = after_space (node_text s n)

-- the number of an entry, its domain and its thread
unfoldable pub actor_text : ℕ → Entry → List ℕ
actor_text n e = spaced (decimal n ∷ decimal e.domain.0 ∷ decimal e.thread.0 ∷ [])
