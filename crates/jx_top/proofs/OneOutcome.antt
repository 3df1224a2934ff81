-- The files give a command one outcome.
use Rattle.std.specs.Prelude.{◌≡◌, refl, ℕ, ◌-◌, ◌⊎◌, List, length, Option, Some, slice_get}
use Rattle.std.proofs.Common.{sym, ◌∙◌, ap, subst, inl, inr}
use Rattle.jx_base.specs.Files.{Files}
use Rattle.jx_base.specs.declared.act.Act.{Act}
use Rattle.jx_base.specs.declared.act.Act.TheVariants as act
use Rattle.jx_base.specs.declared.act.Entry.{Entry}
use Rattle.jx_base.specs.declared.act.History.{History}
use Rattle.jx_base.specs.declared.program.System.{System}
use Rattle.class_asm.specs.Assembly.{IsAssembled, IsAsmFault}
use Rattle.class_asm.specs.declared.fault.AsmFault.{AsmFault}
use Rattle.jx_model.proofs.OneHistory.{one_history}
use Rattle.run_alone.proofs.OneWorker.{no_history, one_template}
use Rattle.jx_top.specs.Assemblies.{HasGoodText, HasBadText}
use Rattle.jx_top.specs.Commands.{Command}
use Rattle.jx_top.specs.Commands as command
use Rattle.jx_top.specs.GotFiles.{IsNotGot}
use Rattle.jx_top.specs.Outcomes.{Outcome, outcome_of}
use Rattle.jx_top.specs.Outcomes as outcome
use Rattle.jx_top.specs.Requests.{IsDueForRun, IsDueForCheck, IsDueForAsm, IsDueFor, IsWhole, IsCaused, HasCauseFor, ComesTo, IsDecidedFor}
use Rattle.jx_top.specs.Runs.{EndsBy, GivesOne, LacksAct, RunsTo, main_class}
use Rattle.jx_top.specs.Systems.{HasSystem, IsStopped}
use Rattle.jx_top.specs.declared.status.Status.{Status}
use Rattle.jx_top.specs.declared.status.Status.TheVariants as status
use Rattle.jx_top.proofs.OnePlan.{got_or_not, one_got, one_not_got}
use Rattle.jx_top.proofs.OneStop.{one_stop, system_or_stop}
use Rattle.jx_top.proofs.OneSystem.{one_system}

-- ---- how one worker's run comes out

-- the run of the system comes out so
abbrev ComesOut : System → Outcome → Type 0
ComesOut s outcome.Done = RunsTo s act.Quiet
ComesOut s outcome.Halted = RunsTo s act.Halt
ComesOut s (outcome.NotYet n) = LacksAct s n
ComesOut s _ = ⊥

one_last : (h k : History) (a b : Act) → h ≡ k → EndsBy h a → EndsBy k b → a ≡ b
one_last h k a b same p q =
    let last : Some p.last ≡ Some q.last = sym p.is_last ∙ ap (λ (x : History). slice_get x.entries (length x.entries - 1)) same ∙ q.is_last in
    let one : p.last ≡ q.last = cc in
    sym p.act ∙ ap (λ (e : Entry). e.act) one ∙ q.act

-- one act ends it
one_end : (s : System) (a b : Act) → RunsTo s a → RunsTo s b → a ≡ b
one_end s a b p q = one_last p.history q.history a b (one_history s p.history q.history p.complete q.complete) p.ends q.ends

quiet_or_halt : (s : System) → RunsTo s act.Quiet → RunsTo s act.Halt → ⊥
quiet_or_halt s p q = let same : act.Quiet ≡ act.Halt = one_end s act.Quiet act.Halt p q in absurd cc

end_or_lack : (s : System) (a : Act) (n : List ℕ) → RunsTo s a → LacksAct s n → ⊥
end_or_lack s a n p q = no_history s q.template p.history q.lacks p.complete p.supported

one_lack : (s : System) (n m : List ℕ) → LacksAct s n → LacksAct s m → n ≡ m
one_lack s n m p q =
    let one = one_template s p.template q.template p.lacks q.lacks in
    let both : Some n ≡ Some m = sym p.main ∙ ap (main_class s) one ∙ q.main in
    cc

one_way_out : (s : System) (a b : Outcome) → ComesOut s a → ComesOut s b → a ≡ b
one_way_out s outcome.Done outcome.Done p q = refl
one_way_out s outcome.Done outcome.Halted p q = absurd (quiet_or_halt s p q)
one_way_out s outcome.Done (outcome.NotYet n) p q = absurd (end_or_lack s act.Quiet n p q)
one_way_out s outcome.Done _ p q = absurd q
one_way_out s outcome.Halted outcome.Done p q = absurd (quiet_or_halt s q p)
one_way_out s outcome.Halted outcome.Halted p q = refl
one_way_out s outcome.Halted (outcome.NotYet n) p q = absurd (end_or_lack s act.Halt n p q)
one_way_out s outcome.Halted _ p q = absurd q
one_way_out s (outcome.NotYet n) outcome.Done p q = absurd (end_or_lack s act.Quiet n q p)
one_way_out s (outcome.NotYet n) outcome.Halted p q = absurd (end_or_lack s act.Halt n q p)
one_way_out s (outcome.NotYet n) (outcome.NotYet m) p q = ap outcome.NotYet (one_lack s n m p q)
one_way_out s (outcome.NotYet n) _ p q = absurd q
one_way_out s _ b p q = absurd p

-- ---- what is due for a run

abbrev RunView : Files → List ℕ → Outcome → Type 0
RunView files file o = GivesOne files file (λ s. ComesOut s o) ⊎ IsStopped files file o

run_view : (files : Files) (file : List ℕ) (o : Outcome) → IsDueForRun files file o → RunView files file o
run_view files file outcome.Done p = inl p
run_view files file outcome.Halted p = inl p
run_view files file (outcome.NotYet n) p = inl p
run_view files file outcome.Usage p = inr p
run_view files file outcome.ShelfFault p = inr p
run_view files file outcome.SinkFault p = inr p
run_view files file outcome.OutOfMemory p = inr p
run_view files file (outcome.Missing n) p = inr p
run_view files file (outcome.TooLong n) p = inr p
run_view files file (outcome.BadPlan f) p = inr p
run_view files file (outcome.BadClass n d) p = inr p
run_view files file (outcome.BadLink f) p = inr p
run_view files file (outcome.BadAsm f) p = inr p

one_run_view : (files : Files) (file : List ℕ) (a b : Outcome) → RunView files file a → RunView files file b → a ≡ b
one_run_view files file a b (inl p) (inl q) =
    let one = one_system files file p.system q.system p.of_file q.of_file in
    one_way_out q.system a b (subst (λ (s : System). ComesOut s a) one p.holds) q.holds
one_run_view files file a b (inl p) (inr q) = absurd (system_or_stop files file b (p.system, p.of_file) q)
one_run_view files file a b (inr p) (inl q) = absurd (system_or_stop files file a (q.system, q.of_file) p)
one_run_view files file a b (inr p) (inr q) = one_stop files file a b p q

-- ---- what is due for a check

abbrev CheckView : Files → List ℕ → Outcome → Type 0
CheckView files file o = ((o ≡ outcome.Done) × HasSystem files file) ⊎ IsStopped files file o

check_view : (files : Files) (file : List ℕ) (o : Outcome) → IsDueForCheck files file o → CheckView files file o
check_view files file outcome.Done p = inl (refl, p)
check_view files file outcome.Halted p = inr p
check_view files file outcome.Usage p = inr p
check_view files file outcome.ShelfFault p = inr p
check_view files file outcome.SinkFault p = inr p
check_view files file outcome.OutOfMemory p = inr p
check_view files file (outcome.Missing n) p = inr p
check_view files file (outcome.TooLong n) p = inr p
check_view files file (outcome.BadPlan f) p = inr p
check_view files file (outcome.BadClass n d) p = inr p
check_view files file (outcome.BadLink f) p = inr p
check_view files file (outcome.NotYet n) p = inr p
check_view files file (outcome.BadAsm f) p = inr p

one_check_view : (files : Files) (file : List ℕ) (a b : Outcome) → CheckView files file a → CheckView files file b → a ≡ b
one_check_view files file a b (inl p) (inl q) = p.0 ∙ sym q.0
one_check_view files file a b (inl p) (inr q) = absurd (system_or_stop files file b p.1 q)
one_check_view files file a b (inr p) (inl q) = absurd (system_or_stop files file a q.1 p)
one_check_view files file a b (inr p) (inr q) = one_stop files file a b p q

-- ---- what is due for an assembly

abbrev AsmView : Files → List ℕ → Outcome → Type 0
AsmView files file o =
    ((o ≡ outcome.Done) × HasGoodText files file)
    ⊎ (((f : AsmFault) × (o ≡ outcome.BadAsm f) × HasBadText files file f) ⊎ IsNotGot files file o)

asm_view : (files : Files) (file : List ℕ) (o : Outcome) → IsDueForAsm files file o → AsmView files file o
asm_view files file outcome.Done p = inl (refl, p)
asm_view files file (outcome.BadAsm f) p = inr (inl (f, refl, p))
asm_view files file outcome.Halted p = inr (inr p)
asm_view files file outcome.Usage p = inr (inr p)
asm_view files file outcome.ShelfFault p = inr (inr p)
asm_view files file outcome.SinkFault p = inr (inr p)
asm_view files file outcome.OutOfMemory p = inr (inr p)
asm_view files file (outcome.Missing n) p = inr (inr p)
asm_view files file (outcome.TooLong n) p = inr (inr p)
asm_view files file (outcome.BadPlan f) p = inr (inr p)
asm_view files file (outcome.BadClass n d) p = inr (inr p)
asm_view files file (outcome.BadLink f) p = inr (inr p)
asm_view files file (outcome.NotYet n) p = inr (inr p)

good_or_bad : (files : Files) (file : List ℕ) (f : AsmFault) → HasGoodText files file → HasBadText files file f → ⊥
good_or_bad files file f p q =
    let same : p.1.text ≡ q.text = one_got files file p.1.text q.text p.1.got q.got in
    let good : IsAssembled q.text p.0 = subst (λ (t : List ℕ). IsAssembled t p.0) same p.1.assembled in
    let bad : IsAsmFault q.text f = q.fault in
    absurd (cc (good, bad))

one_fault : (files : Files) (file : List ℕ) (f g : AsmFault) → HasBadText files file f → HasBadText files file g → f ≡ g
one_fault files file f g p q =
    let same : p.text ≡ q.text = one_got files file p.text q.text p.got q.got in
    let bad : IsAsmFault q.text f = subst (λ (t : List ℕ). IsAsmFault t f) same p.fault in
    let other : IsAsmFault q.text g = q.fault in
    cc (bad, other)

one_asm_view : (files : Files) (file : List ℕ) (a b : Outcome) → AsmView files file a → AsmView files file b → a ≡ b
one_asm_view files file a b (inl p) (inl q) = p.0 ∙ sym q.0
one_asm_view files file a b (inl p) (inr (inl q)) = absurd (good_or_bad files file q.0 p.1 q.2)
one_asm_view files file a b (inl p) (inr (inr q)) = absurd (got_or_not files file p.1.1.text b p.1.1.got q)
one_asm_view files file a b (inr (inl p)) (inl q) = absurd (good_or_bad files file p.0 q.1 p.2)
one_asm_view files file a b (inr (inl p)) (inr (inl q)) =
    p.1 ∙ ap outcome.BadAsm (one_fault files file p.0 q.0 p.2 q.2) ∙ sym q.1
one_asm_view files file a b (inr (inl p)) (inr (inr q)) = absurd (got_or_not files file p.2.text b p.2.got q)
one_asm_view files file a b (inr (inr p)) (inl q) = absurd (got_or_not files file q.1.1.text a q.1.1.got p)
one_asm_view files file a b (inr (inr p)) (inr (inl q)) = absurd (got_or_not files file q.2.text a q.2.got p)
one_asm_view files file a b (inr (inr p)) (inr (inr q)) = one_not_got files file a b p q

-- ---- what is due for a command

pub one_due : (files : Files) (c : Command) (a b : Outcome) → IsDueFor files c a → IsDueFor files c b → a ≡ b
one_due files (command.Run file workers) a b p q = one_run_view files file a b (run_view files file a p) (run_view files file b q)
one_due files (command.Check file) a b p q = one_check_view files file a b (check_view files file a p) (check_view files file b q)
one_due files (command.Asm file) a b p q = one_asm_view files file a b (asm_view files file a p) (asm_view files file b q)

comes_to : (files : Files) (c : Command) (due : Outcome) (s : Status) → (s ≡ status.ShelfFault → ⊥) → IsDueFor files c due
    → IsCaused files c (outcome_of s) → ComesTo due (outcome_of s)
comes_to files c due status.Done stood h p = one_due files c _ due p h
comes_to files c due status.Halted stood h p = one_due files c _ due p h
comes_to files c due status.Usage stood h p = one_due files c _ due p h
comes_to files c due status.ShelfFault stood h p = absurd (stood refl)
comes_to files c due (status.Missing n) stood h p = one_due files c _ due p h
comes_to files c due (status.TooLong n) stood h p = one_due files c _ due p h
comes_to files c due (status.BadPlan f) stood h p = one_due files c _ due p h
comes_to files c due (status.BadClass n d) stood h p = one_due files c _ due p h
comes_to files c due (status.BadLink f) stood h p = one_due files c _ due p h
comes_to files c due (status.BadAsm f) stood h p = one_due files c _ due p h
comes_to files c due status.SinkFault stood h p = subst IsWhole (one_due files c p.due due p.is_due h) p.whole
comes_to files c due (status.NotYet n) stood h p = one_due files c _ due p h
comes_to files c due status.OutOfMemory stood h p = tt

-- what the files give is what comes
pub decided : (c : Command) (told : Option Files) (s : Status) → HasCauseFor c told (outcome_of s) → (s ≡ status.ShelfFault → ⊥)
    → IsDecidedFor c told (outcome_of s)
decided c told s cause stood = λ files due is h. comes_to files c due s stood h (cause.where_told files is)
