-- The values that an answer packs, and the act that answers.
use Rattle.std.proofs.Common.{◌≡◌, ◌∙◌, sym, ap, ℕ, List, [], ◌∷◌, length, Option, Some, None}
use Rattle.std.specs.List.{All}
use Rattle.std.proofs.lemmas.List.Elements.{All-cons, All-nil}
use Rattle.jx_base.specs.declared.act.Act.{Act}
use Rattle.jx_base.specs.declared.act.Act.TheVariants as act
use Rattle.jx_base.specs.declared.ids.CallId.{CallId}
use Rattle.jx_base.specs.declared.program.System.{System}
use Rattle.jx_base.specs.declared.value.Parcel.{Parcel}
use Rattle.jx_base.specs.declared.value.Value.{Value}
use Rattle.jx_base.specs.declared.value.Value.TheVariants as value
use Rattle.jx_base.specs.Histories.{Past}
use Rattle.machine_laws.proofs.Cores.{each_of, object_below}
use Rattle.machine_laws.specs.Values.{IsObject, IsObjectIn, IsStoreIn, IsValueIn, IsValueInSome}
use Rattle.machine_model.specs.Running.{answer_act, empty_parcel, ending_act, result_roots}
use Rattle.machine_model.specs.State.{Returned, State, Store, Thread, Threw}
use Rattle.param_copy.specs.Copies.{AreClosed, IsPlaced}
use Rattle.program_model.specs.Parcels.{packed}
use Rattle.machine_calls.specs.Calling.{AnswersWith}

one_placed : (past : Past) (store : Store) (v : Value) → IsValueIn past store v → IsPlaced (length store.objects) v
one_placed past store (value.Ref r) i = object_below store r i
one_placed past store (value.Int n) i = tt
one_placed past store (value.Long n) i = tt
one_placed past store value.Null i = tt
one_placed past store (value.Portal k c) i = tt
one_placed past store (value.Mem m) i = tt

-- the objects of a store refer to objects that there are
pub store_closed : (s : System) (past : Past) (store : Store) → IsStoreIn s past store → AreClosed store.objects
store_closed s past store h =
    let n = length store.objects in
    each_of (IsObjectIn s past store) (λ o. All (IsPlaced n) o.cells) (λ o i. each_of (IsValueIn past store) (IsPlaced n) (one_placed past store) o.cells i.cells) store.objects h.objects

-- so does a result
pub result_placed : (past : Past) (store : Store) (v : Option Value) → IsValueInSome past store v → All (IsPlaced (length store.objects)) (result_roots v)
unfolding result_roots
result_placed past store None i = All-nil (IsPlaced (length store.objects))
result_placed past store (Some v) i = All-cons (IsPlaced (length store.objects)) v [] (one_placed past store v i) (All-nil (IsPlaced (length store.objects)))

-- and an object that is thrown
pub thrown_placed : (store : Store) (r : ℕ) → IsObject store r → All (IsPlaced (length store.objects)) (value.Ref r ∷ [])
thrown_placed store r i = All-cons (IsPlaced (length store.objects)) (value.Ref r) [] (object_below store r i) (All-nil (IsPlaced (length store.objects)))

module _ (store : Store) (c : CallId) (make : Parcel → Act) (values : List Value) where
  -- the act for the parcel, if there is one
  act_for : Option Parcel → Act
  act_for (Some p) = make p
  act_for None = act.Throw c empty_parcel

  in_state : (st : State) → st.store ≡ store → answer_act st c make values ≡ act_for (packed store.objects store.exports values)
  unfolding answer_act act_for
  in_state st q = ap (λ (k : Store). act_for (packed k.objects k.exports values)) q

  -- the values have a parcel
  pub packed_answers : (p : Parcel) → packed store.objects store.exports values ≡ Some p → AnswersWith store c make values (make p)
  unfolding act_for
  packed_answers p e st q = sym (in_state st q ∙ ap act_for e)

  -- they have none
  pub empty_answers : packed store.objects store.exports values ≡ None → AnswersWith store c make values (act.Throw c empty_parcel)
  unfolding act_for
  empty_answers e st q = sym (in_state st q ∙ ap act_for e)

-- ---- the act by which the code of a thread at that stage ends

-- a thread that serves a call answers it with its result
pub returned_ends : (store : Store) (call : Option CallId) (c : CallId) (v : Option Value) (a : Act) → call ≡ Some c → AnswersWith store c (λ p. act.Return c p) (result_roots v) a
    → (st : State) (x : Thread) → st.store ≡ store → x.call ≡ call → a ≡ ending_act st x (Returned v)
unfolding ending_act
returned_ends store call c v a e h st x q i = rw (i, e) (h st q)

-- or throws the object
pub thrown_ends : (store : Store) (call : Option CallId) (c : CallId) (r : ℕ) (a : Act) → call ≡ Some c → AnswersWith store c (λ p. act.Throw c p) (value.Ref r ∷ []) a
    → (st : State) (x : Thread) → st.store ≡ store → x.call ≡ call → a ≡ ending_act st x (Threw r)
unfolding ending_act
thrown_ends store call c r a e h st x q i = rw (i, e) (h st q)
