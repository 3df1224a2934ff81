-- The core of a thread that goes on is one that a step of an instruction takes.
use Rattle.std.proofs.Common.{◌≡◌, refl, sym, ◌∙◌, ap, subst, ℕ, ◌-◌, ◌<◌, ◌≤◌, pos, negsuc, Bool, true, false, List, [], ◌∷◌, ◌++◌, length, Option, Some, None, is_some, slice_get}
use Rattle.std.specs.Prelude.{All, Contains, IfSome, IsSomeAnd, Result, Ok, Err, ℤ, drop, flat_map}
use Rattle.std.specs.Int.{w8}
use Rattle.std.specs.List.{AllByRecursion, filter_map}
use Rattle.std.specs.Option.{option_and_then, option_map}
use Rattle.std.proofs.lemmas.List.Elements.{All-cons, All-from_recursion, All-nil}
use Rattle.std.proofs.lemmas.Option.{slice_get_within}
use Rattle.class_grammar.specs.CodeGrammar.{behind_opcode, instruction_part, operands_part, past_end, wide_part}
use Rattle.class_grammar.specs.Opcodes.{form_at, wide_form_at}
use Rattle.class_grammar.specs.Parts.{number, onward}
use Rattle.jx_base.specs.Histories.{Past, nth_entry, own_entries}
use Rattle.jx_base.specs.declared.act.Act.{Act}
use Rattle.jx_base.specs.declared.act.Act.TheVariants as act
use Rattle.jx_base.specs.declared.act.Reply.{Reply}
use Rattle.jx_base.specs.declared.act.Reply.TheVariants as reply
use Rattle.jx_base.specs.declared.class_file.Instr.{Instr}
use Rattle.jx_base.specs.declared.fault.CodeFault.{CodeFault}
use Rattle.jx_base.specs.declared.fault.CodeKind.TheVariants as kind
use Rattle.jx_base.specs.declared.frame.Frame.{Frame}
use Rattle.jx_base.specs.declared.ids.ClassId.{ClassId}
use Rattle.jx_base.specs.declared.program.Method.{Method}
use Rattle.jx_base.specs.declared.program.Resolved.{Resolved}
use Rattle.jx_base.specs.declared.program.Resolved.TheVariants as resolved
use Rattle.jx_base.specs.declared.program.System.{System}
use Rattle.jx_base.specs.declared.program.Template.{Template}
use Rattle.jx_base.specs.declared.row.Form.{Form}
use Rattle.jx_base.specs.declared.row.Form.TheVariants as form
use Rattle.jx_base.specs.declared.value.Value.{Value}
use Rattle.jx_base.specs.declared.value.Value.TheVariants as value
use Rattle.jx_model.proofs.Growing.{moment}
use Rattle.jx_model.specs.Legal.{IsAdmittedPast}
use Rattle.jx_model.specs.Portals.{export_of, exported_interface, interface_of, is_export}
use Rattle.jx_model.specs.WellMade.{IsClass, IsWellMade}
use Rattle.machine_laws.proofs.EntryDepths.{entry_within}
use Rattle.machine_laws.proofs.Lists.{all_append, all_get, all_weaken}
use Rattle.machine_laws.proofs.NumericValues.{then_some}
use Rattle.machine_laws.proofs.Replies.{nth_moment}
use Rattle.machine_laws.proofs.StepDepths.{advanced_within, at_act_within, start_within}
use Rattle.machine_laws.proofs.WholeLaw.{standing_values}
use Rattle.machine_laws.specs.Law.{StandingCoresHold}
use Rattle.machine_laws.specs.Depths.{IsWithin, HaveStacksWithin}
use Rattle.machine_laws.specs.Sound.{IsSound, IsResolvedIn}
use Rattle.machine_laws.specs.Values.{IsExportIn, IsFrameIn, IsObject, IsObjectIn, IsStateIn, IsUnitValue, IsValueIn, IsValueInSome}
use Rattle.machine_model.specs.Conditions.{HasCellsOfClass, HasKnownInterface, HasUnits, IsCoreOf, IsFrameOf, IsHeldBy, IsInstrOf, IsTextIfObject, IsUnit, RefersToText, core_values, frame_values, static_named, static_of, store_values}
use Rattle.machine_model.specs.Machine.{domain_state, no_state}
use Rattle.machine_model.specs.MachineThreads.{core_of, thread_at}
use Rattle.machine_model.specs.Running.{state_at_act}
use Rattle.machine_model.specs.Start.{start_of}
use Rattle.machine_model.specs.State.{State, Store, Thread, class_of_frame, class_of_object, code_bytes, code_of}
use Rattle.program_model.specs.Instructions.{Reading, index_operand, instruction_at, reading_of}
use Rattle.program_model.specs.Lookup.{class_at, class_count, constant_at, method_at, template_at}
use Rattle.program_model.specs.Parcels.{HeapObject}

-- ---- lists

-- what holds of each item by recursion, at each place
pub each_of : {X : Type 0} (P Q : X → Type 0) → ((x : X) → P x → Q x) → (xs : List X) → AllByRecursion P xs → All Q xs
each_of P Q f xs h = All-from_recursion Q xs (all_weaken P Q f xs h)

pub all_flat : {X Y : Type 0} (P : X → Type 0) (Q : Y → Type 0) (f : X → List Y) → ((x : X) → P x → AllByRecursion Q (f x)) → (xs : List X) → AllByRecursion P xs → AllByRecursion Q (flat_map f xs)
all_flat P Q f g [] h = tt
all_flat P Q f g (x ∷ xs) h = all_append Q (f x) (flat_map f xs) (g x h.0) (all_flat P Q f g xs h.1)

-- ---- instructions that are read

-- what its operands stand behind is at the pc
pub operands_pc : (pc opcode : ℕ) (wide : Bool) (o : Result (List ℤ × List ℕ) CodeFault) (y : Instr × List ℕ) →
    onward o (λ xs rest. Ok (record { pc = pc; opcode = opcode; wide = wide; operands = xs }, rest)) ≡ Ok y → y.0.pc ≡ pc
operands_pc pc opcode wide (Ok x) y e =
    let q : (record { pc = pc; opcode = opcode; wide = wide; operands = x.0 }, x.1) ≡ y = cc in ap (λ (y : Instr × List ℕ). y.0.pc) (sym q)
operands_pc pc opcode wide (Err f) y e = cc

pub wide_pc : (pc : ℕ) (o : Result (ℕ × List ℕ) CodeFault) (y : Instr × List ℕ) →
    onward o (λ opcode rest. onward ((operands_part kind.BadWide pc (wide_form_at opcode)).reads rest) (λ xs more. Ok (record { pc = pc; opcode = opcode; wide = true; operands = xs }, more))) ≡ Ok y → y.0.pc ≡ pc
wide_pc pc (Ok x) y e = operands_pc pc x.0 true ((operands_part kind.BadWide pc (wide_form_at x.0)).reads x.1) y e
wide_pc pc (Err f) y e = cc

pub behind_pc : (pc opcode : ℕ) (f : Form) (text : List ℕ) (y : Instr × List ℕ) → (behind_opcode pc opcode f).reads text ≡ Ok y → y.0.pc ≡ pc
unfolding behind_opcode wide_part
behind_pc pc opcode form.Wide text y e = wide_pc pc ((number (past_end pc) w8).reads text) y e
behind_pc pc opcode f text y e = operands_pc pc opcode false ((operands_part kind.Opcode pc f).reads text) y e

-- an instruction has the pc at which it is read
pub read_pc : (code : List ℕ) (pc : ℕ) (r : Reading) → instruction_at code pc ≡ Some r → r.instr.pc ≡ pc
unfolding instruction_at instruction_part reading_of
read_pc code pc r e = by ((number (past_end pc) w8).reads (drop pc code)) e
  where
    of : (o : Result (Instr × List ℕ) CodeFault) → ((y : Instr × List ℕ) → o ≡ Ok y → y.0.pc ≡ pc) → reading_of (length code) o ≡ Some r → r.instr.pc ≡ pc
    of (Ok y) f e = let q : record { instr = y.0; next = length code - length y.1 } ≡ r = cc in ap (λ (r : Reading). r.instr.pc) (sym q) ∙ f y refl
    of (Err g) f e = cc

    by : (o : Result (ℕ × List ℕ) CodeFault) → reading_of (length code) (onward o (λ opcode rest. (behind_opcode pc opcode (form_at opcode)).reads rest)) ≡ Some r → r.instr.pc ≡ pc
    by (Ok x) e = of ((behind_opcode pc x.0 (form_at x.0)).reads x.1) (behind_pc pc x.0 (form_at x.0) x.1) e
    by (Err f) e = cc

-- ---- interfaces

-- an export that made a service is of a class
pub exported_class : (s : System) (past : Past) (a : Act) (r : Reply) (c : ClassId) → IsWellMade s past a → exported_interface a r ≡ Some c → IsClass s c.0
unfolding exported_interface
exported_class s past (act.Export iface k) (reply.Service service i) c h e = let q : iface ≡ c = cc in subst (λ (c : ClassId). IsClass s c.0) q h.0
exported_class s past _ _ c h e = cc

-- the interface of a service is a class
pub interface_class : (s : System) (past : Past) (k : ℕ) (c : ClassId) → IsAdmittedPast s past → interface_of past k ≡ Some c → IsClass s c.0
unfolding interface_of export_of
interface_class s past k c h e =
    let x = then_some (nth_entry is_export past k) (λ e. exported_interface e.act e.reply) c e in
    let m = nth_moment is_export past k x.0 x.1 in
    exported_class s m.0.before x.0.act x.0.reply c (moment s past x.0 m.0.before h m.0.is).well_made x.2

-- a class has a number below their count
pub class_below : (s : System) (c : ℕ) → IsClass s c → c < class_count s
unfolding class_at class_count
class_below s c h = by (slice_get s.program.classes c) refl h
  where
    by : (o : Option _) → slice_get s.program.classes c ≡ o → is_some o ≡ true → c < length s.program.classes
    by None e h = cc
    by (Some k) e h = slice_get_within s.program.classes c k e

-- an object has a number below theirs
pub object_below : (store : Store) (r : ℕ) → IsObject store r → r < length store.objects
unfolding class_of_object
object_below store r h = by (slice_get store.objects r) refl h
  where
    by : (o : Option HeapObject) → slice_get store.objects r ≡ o → is_some (option_map (λ (o : HeapObject). o.class.0) o) ≡ true → r < length store.objects
    by None e h = cc
    by (Some x) e h = slice_get_within store.objects r x e

pub unit_of_value : (v : Value) → IsUnitValue v → IsUnit v
unit_of_value (value.Int (pos n)) h = h
unit_of_value (value.Int (negsuc n)) h = absurd h
unit_of_value (value.Long n) h = absurd h
unit_of_value value.Null h = absurd h
unit_of_value (value.Ref r) h = absurd h
unit_of_value (value.Portal k c) h = absurd h
unit_of_value (value.Mem m) h = absurd h

module _ (s : System) (past : Past) (z : IsSound s) (h : IsAdmittedPast s past) (st : State) (k : IsStateIn s past st) where
  -- a value of the state
  abbrev pub V : Value → Type 0
  V v = IsValueIn past st.store v

  pub some_values : (locals : List (Option Value)) → AllByRecursion (IsValueInSome past st.store) locals → AllByRecursion V (filter_map (λ v. v) locals)
  some_values [] i = tt
  some_values (None ∷ locals) i = some_values locals i.1
  some_values (Some v ∷ locals) i = (i.0, some_values locals i.1)

  pub frame_in : (f : Frame) → IsFrameIn s past st.store f → AllByRecursion V (frame_values f)
  unfolding frame_values
  frame_in f i = all_append V (filter_map (λ v. v) f.locals) f.stack.values (some_values f.locals i.locals) i.stack

  pub values_in : (x : Thread) → AllByRecursion (IsFrameIn s past st.store) x.frames → AllByRecursion V (core_values (core_of st x))
  unfolding core_values store_values core_of
  values_in x i = all_append V (flat_map frame_values x.frames) (flat_map (λ o. o.cells) st.store.objects ++ st.store.statics)
      (all_flat (IsFrameIn s past st.store) V frame_values frame_in x.frames i)
      (all_append V (flat_map (λ o. o.cells) st.store.objects) st.store.statics
      (all_flat (IsObjectIn s past st.store) V (λ o. o.cells) (λ o j. j.cells) st.store.objects k.store.objects) k.store.statics)

  pub held : (v : Value) → V v → IsHeldBy st.store v
  held (value.Ref r) i = object_below st.store r i
  held (value.Int n) i = tt
  held (value.Long n) i = tt
  held value.Null i = tt
  held (value.Portal n c) i = tt
  held (value.Mem m) i = tt

  pub known : (v : Value) → V v → HasKnownInterface s v
  known (value.Portal n c) i = class_below s c.0 (interface_class s past n.0 c h i.1)
  known (value.Int n) i = tt
  known (value.Long n) i = tt
  known value.Null i = tt
  known (value.Ref r) i = tt
  known (value.Mem m) i = tt

  pub frames_of : (fs : List Frame) → AllByRecursion (IsFrameIn s past st.store) fs → AllByRecursion (IsWithin s) fs → All (IsFrameOf s) fs
  frames_of [] i w = All-nil (IsFrameOf s)
  frames_of (f ∷ fs) i w = All-cons (IsFrameOf s) f fs (record { method = i.0.method; locals = i.0.count; depth = w.0; room = i.0.room }) (frames_of fs i.1 w.1)

  pub core_in : (x : Thread) → AllByRecursion (IsFrameIn s past st.store) x.frames → AllByRecursion (IsWithin s) x.frames → IsCoreOf s (core_of st x)
  unfolding core_of
  core_in x i w = record {
    frames = frames_of x.frames i w;
    references = each_of V (IsHeldBy st.store) held (core_values (core_of st x)) (values_in x i);
    literals = each_of (λ x. IsObject st.store x.1) (λ x. x.1 < length st.store.objects) (λ x j. object_below st.store x.1 j) st.store.literals k.store.literals;
    exports = each_of (IsExportIn past st.store) (λ x. x.object < length st.store.objects) (λ x j. object_below st.store x.object j.object) st.store.exports k.store.exports;
    classes = each_of (IsObjectIn s past st.store) (λ o. o.class.0 < class_count s) (λ o j. class_below s o.class.0 j.known) st.store.objects k.store.objects;
    interfaces = each_of V (HasKnownInterface s) known (core_values (core_of st x)) (values_in x i);
    cells = each_of (IsObjectIn s past st.store) (HasCellsOfClass s) (λ o j. j.count) st.store.objects k.store.objects;
    texts = each_of (IsObjectIn s past st.store) HasUnits (λ o j e. each_of IsUnitValue IsUnit unit_of_value o.cells (j.units e)) st.store.objects k.store.objects;
    builders = each_of (IsObjectIn s past st.store) (RefersToText st.store) (λ o j e. each_of (IsTextIfObject st.store) (IsTextIfObject st.store) (λ v t. t) o.cells (j.text e)) st.store.objects k.store.objects;
  }

  -- ---- the instruction

  pub listed : (f : Frame) (r : Reading) → IsFrameIn s past st.store f → instruction_at (code_bytes s f) f.pc ≡ Some r → IsSomeAnd (method_at s f.method) (λ m. Contains m.instrs r.instr)
  unfolding code_of
  listed f r i e = by (method_at s f.method) refl i.method
    where
      by : (o : Option Method) → method_at s f.method ≡ o → is_some (option_and_then (λ (x : Method). x.code) o) ≡ true → IsSomeAnd o (λ m. Contains m.instrs r.instr)
      by None q c = cc
      by (Some m) q c = i.place m r q e

  -- a static field has a place below their count
  pub static_below : (x : Resolved) → IsResolvedIn s x → IfSome (static_of x) (λ i. i < length st.store.statics)
  unfolding static_of
  static_below (resolved.Static c i) j = subst (λ (n : ℕ). i < n) (sym k.store.count) j
  static_below _ j = tt

  pub static_in : (f : Frame) (i : Instr) → IfSome (static_named s f i) (λ n. n < length st.store.statics)
  unfolding static_named
  static_in f i = by (constant_at s (class_of_frame s f) (index_operand i 0)) refl
    where
      by : (o : Option Resolved) → constant_at s (class_of_frame s f) (index_operand i 0) ≡ o → IfSome (option_and_then static_of o) (λ n. n < length st.store.statics)
      by None e = tt
      by (Some x) e = static_below x (z.constants (class_of_frame s f) (index_operand i 0) x e)

  pub instruction_in : (x : Thread) (f : Frame) (callers : List Frame) (r : Reading) → AllByRecursion (IsFrameIn s past st.store) x.frames → x.frames ≡ f ∷ callers → instruction_at (code_bytes s f) f.pc ≡ Some r →
      IsInstrOf s (core_of st x) f callers r.instr
  unfolding core_of
  instruction_in x f callers r i e q = record {
    running = e;
    instruction = record { listed = listed f r all.0 q; place = read_pc (code_bytes s f) f.pc r q };
    statics = static_in f r.instr;
  }
    where
      all : AllByRecursion (IsFrameIn s past st.store) (f ∷ callers)
      all = subst (AllByRecursion (IsFrameIn s past st.store)) e i

-- ---- the law

-- the stacks of a domain's threads are within their limits
pub stacks_within : (s : System) (t : ℕ) (own : Past) → HaveStacksWithin s (domain_state s t own)
unfolding domain_state no_state
stacks_within s t [] = by (template_at s t)
  where
    by : (o : Option Template) → HaveStacksWithin s (elim o as (λ _. State) [ None ↦ no_state | Some x ↦ start_of s x ])
    by None = tt
    by (Some x) = start_within s x
stacks_within s t (e ∷ own) = entry_within s (state_at_act s (domain_state s t own)) e (at_act_within s (domain_state s t own) (stacks_within s t own))

-- each thread that goes on can be stepped
pub standing_cores : (s : System) (past : Past) → IsSound s → IsAdmittedPast s past → StandingCoresHold s past
unfolding thread_at
standing_cores s past z h d t k st x i n a g = record {
  core = core_in s past z h st values x frames stacks;
  small = each_of (IsObjectIn s past st.store) (λ o. length o.cells ≤ 131072) (λ o j. j.small) st.store.objects values.store.objects;
  instruction = λ f callers r e q. instruction_in s past z h st values x f callers r frames e q;
}
  where
    values : IsStateIn s past st
    values = standing_values s past z h d t st i n

    within : HaveStacksWithin s st
    within = subst (HaveStacksWithin s) (sym n.1) (advanced_within s n.0 (domain_state s t (own_entries past d)) (stacks_within s t (own_entries past d)))

    frames : AllByRecursion (IsFrameIn s past st.store) x.frames
    frames = (all_get _ st.threads k x a values.threads).frames

    stacks : AllByRecursion (IsWithin s) x.frames
    stacks = (all_get _ st.threads k x a within).going g
