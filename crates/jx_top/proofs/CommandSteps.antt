-- From the steps of a command to the command.
use Rattle.std.specs.Prelude.{◌≡◌, refl, ℕ, List, Option, Some, Err, String, string_bytes}
use Rattle.std.specs.declared.alloc.Global.{Global}
use Rattle.std.proofs.Common.{◌∙◌, ap, subst}
use Rattle.jx_base.specs.Files.{Files}
use Rattle.jx_base.specs.Puts.{SinkState, TookWhole}
use Rattle.jx_base.specs.declared.act.Act.{Act}
use Rattle.jx_base.specs.declared.act.Act.TheVariants as act
use Rattle.jx_base.specs.declared.act.History.{History}
use Rattle.jx_base.specs.declared.program.System.{System}
use Rattle.audit_model.specs.AuditText.{audit_text}
use Rattle.jx_model.specs.SingleWorker.{IsSingleWorkerHistory}
use Rattle.supported_acts.specs.SupportedActs.{HasSupportedActs}
use Rattle.jx_top.specs.Assemblies.{SaysBytes}
use Rattle.jx_top.specs.Commands.{Command, IsSerial, command_of}
use Rattle.jx_top.specs.Commands as command
use Rattle.jx_top.specs.Finding.{CanStop, IsCauseOfStop, Finds}
use Rattle.jx_top.specs.Headline.{IsAuditOf}
use Rattle.jx_top.specs.Outcomes.{Outcome, outcome_of}
use Rattle.jx_top.specs.Outcomes as outcome
use Rattle.jx_top.specs.Requests.{IsCaused, IsDueFor, IsTextOf, IsWhole, CanEnd, HasCauseFor, PutsFor}
use Rattle.jx_top.specs.StatusLines.{counts_line}
use Rattle.jx_top.specs.Steps.{EndsSo, IsEarly, IsNotYet, IsRunText, IsTextOfRun, PutsAudit, PutsRun, PutsText, StopsSo}
use Rattle.jx_top.specs.Systems.{IsSystemOf, IsStopped}
use Rattle.jx_top.specs.declared.request.Request.{Request}
use Rattle.jx_top.specs.declared.request.Request.TheVariants as request
use Rattle.jx_top.specs.declared.status.Status.{Status}

-- ---- a search that stops

early : (o : Outcome) → CanStop o → IsEarly o
early outcome.Done p = p
early outcome.Halted p = p
early outcome.SinkFault p = p
early _ p = tt

run_can_end : (file : List ℕ) (o : Outcome) → CanStop o → CanEnd (command.Run file 1) o
run_can_end file outcome.Usage p = p
run_can_end file (outcome.BadAsm f) p = p
run_can_end file _ p = tt

check_can_end : (file : List ℕ) (o : Outcome) → CanStop o → CanEnd (command.Check file) o
check_can_end file outcome.Usage p = p
check_can_end file (outcome.BadAsm f) p = p
check_can_end file (outcome.NotYet n) p = p
check_can_end file outcome.Halted p = p
check_can_end file _ p = tt

run_caused : (files : Files) (file : List ℕ) (o : Outcome) → CanStop o → IsCauseOfStop (IsStopped files file) o
    → IsCaused files (command.Run file 1) o
run_caused files file outcome.Done can p = absurd can
run_caused files file outcome.Halted can p = absurd can
run_caused files file outcome.SinkFault can p = absurd can
run_caused files file (outcome.NotYet n) can p = absurd can
run_caused files file _ can p = p

check_caused : (files : Files) (file : List ℕ) (o : Outcome) → CanStop o → IsCauseOfStop (IsStopped files file) o
    → IsCaused files (command.Check file) o
check_caused files file outcome.Done can p = absurd can
check_caused files file outcome.SinkFault can p = absurd can
check_caused files file _ can p = p

-- the search for the system of the file stops
abbrev pub Stops : {A : Type 0} → Option Files → (Files → A → Type 0) → List ℕ → Status → Type 0
Stops told Found file s = Finds told Found (λ files o. IsStopped files file o) (Err s)

pub run_stops : {A : Type 0} (told : Option Files) (Found : Files → A → Type 0) (file : List ℕ) (s : Status) → Stops told Found file s
    → StopsSo (command.Run file 1) told (outcome_of s)
run_stops told Found file s p = record {
  early = early (outcome_of s) p.0;
  can_end = run_can_end file (outcome_of s) p.0;
  where_told = λ files t. run_caused files file (outcome_of s) p.0 (p.1 files t);
}

pub check_stops : {A : Type 0} (told : Option Files) (Found : Files → A → Type 0) (file : List ℕ) (s : Status) → Stops told Found file s
    → StopsSo (command.Check file) told (outcome_of s)
check_stops told Found file s p = record {
  early = early (outcome_of s) p.0;
  can_end = check_can_end file (outcome_of s) p.0;
  where_told = λ files t. check_caused files file (outcome_of s) p.0 (p.1 files t);
}

early_puts : (c : Command) (told : Option Files) (now : SinkState) (o : Outcome) → IsEarly o → PutsFor c told now now o
early_puts c told now outcome.Done p = absurd p
early_puts c told now outcome.Halted p = absurd p
early_puts c told now outcome.SinkFault p = absurd p
early_puts c told now _ p = refl

pub stop_puts : (c : Command) (told : Option Files) (now : SinkState) (o : Outcome) → StopsSo c told o → PutsFor c told now now o
stop_puts c told now o p = early_puts c told now o p.early

pub stop_cause : (c : Command) (told : Option Files) (o : Outcome) → StopsSo c told o → HasCauseFor c told o
stop_cause c told o p = record { can_end = p.can_end; where_told = p.where_told }

-- ---- a class file that was to be put

abbrev Says : Option Files → List ℕ → List ℕ → Type 0
Says told file bytes = (files : Files) → told ≡ Some files → SaysBytes files file bytes

pub put_puts : (told : Option Files) (file bytes : List ℕ) (before now : SinkState) (o : Outcome) → Says told file bytes
    → PutsText bytes before now o → PutsFor (command.Asm file) told before now o
put_puts told file bytes before now outcome.Done h p = (bytes, h, p)
put_puts told file bytes before now outcome.SinkFault h p = (outcome.Done, bytes, h, p)
put_puts told file bytes before now _ h p = absurd p

pub put_cause : (told : Option Files) (file bytes : List ℕ) (before now : SinkState) (o : Outcome) → Says told file bytes
    → PutsText bytes before now o → HasCauseFor (command.Asm file) told o
put_cause told file bytes before now outcome.Done h p = record { can_end = tt; where_told = λ files t. (bytes, h files t) }
put_cause told file bytes before now outcome.SinkFault h p =
    record { can_end = tt; where_told = λ files t. record { due = outcome.Done; whole = tt; is_due = (bytes, h files t) } }
put_cause told file bytes before now _ h p = absurd p

-- ---- counts that were to be put

abbrev pub Gives : Option Files → List ℕ → System → Type 0
Gives told file s = (files : Files) → told ≡ Some files → IsSystemOf files file s

pub counts_puts : (told : Option Files) (file : List ℕ) (s : System) (before now : SinkState) (o : Outcome) → Gives told file s
    → PutsText (counts_line s.plan) before now o → PutsFor (command.Check file) told before now o
counts_puts told file s before now outcome.Done h p =
    (counts_line s.plan, (λ files t. record { system = s; of_file = h files t; text_is = refl }), p)
counts_puts told file s before now outcome.SinkFault h p =
    (outcome.Done, counts_line s.plan, (λ files t. record { system = s; of_file = h files t; text_is = refl }), p)
counts_puts told file s before now _ h p = absurd p

pub counts_cause : (told : Option Files) (file text : List ℕ) (s : System) (before now : SinkState) (o : Outcome) → Gives told file s
    → PutsText text before now o → HasCauseFor (command.Check file) told o
counts_cause told file text s before now outcome.Done h p = record { can_end = tt; where_told = λ files t. (s, h files t) }
counts_cause told file text s before now outcome.SinkFault h p =
    record { can_end = tt; where_told = λ files t. record { due = outcome.Done; whole = tt; is_due = (s, h files t) } }
counts_cause told file text s before now _ h p = absurd p

-- ---- an audit that was to be put

audit_of : (files : Files) (file text : List ℕ) (s : System) (ending : Act) → IsSystemOf files file s → IsRunText s ending text
    → IsAuditOf files file ending text
audit_of files file text s ending h a = record {
  system = s;
  of_file = h;
  history = a.runs.history;
  complete = a.runs.complete;
  ends = a.runs.ends;
  text_is = a.text_is;
}

text_of_run : (files : Files) (file : List ℕ) (s : System) (o : Outcome) (text : List ℕ) → IsSystemOf files file s → IsTextOfRun s o text
    → IsTextOf files (command.Run file 1) o text
text_of_run files file s outcome.Done text h a = audit_of files file text s act.Quiet h a
text_of_run files file s outcome.Halted text h a = audit_of files file text s act.Halt h a
text_of_run files file s _ text h a = absurd a

due_of_run : (files : Files) (file : List ℕ) (s : System) (o : Outcome) (text : List ℕ) → IsSystemOf files file s → IsTextOfRun s o text
    → IsDueFor files (command.Run file 1) o
due_of_run files file s outcome.Done text h a = record { system = s; of_file = h; holds = a.runs }
due_of_run files file s outcome.Halted text h a = record { system = s; of_file = h; holds = a.runs }
due_of_run files file s _ text h a = absurd a

whole_of_run : (s : System) (o : Outcome) (text : List ℕ) → IsTextOfRun s o text → IsWhole o
whole_of_run s outcome.Done text a = tt
whole_of_run s outcome.Halted text a = tt
whole_of_run s _ text a = absurd a

pub ran_puts : (told : Option Files) (file : List ℕ) (s : System) (before now : SinkState) (o : Outcome) → Gives told file s
    → PutsRun s before now o → PutsFor (command.Run file 1) told before now o
ran_puts told file s before now outcome.Done h p = (p.0, (λ files t. text_of_run files file s outcome.Done p.0 (h files t) p.1), p.2)
ran_puts told file s before now outcome.Halted h p = (p.0, (λ files t. text_of_run files file s outcome.Halted p.0 (h files t) p.1), p.2)
ran_puts told file s before now outcome.SinkFault h p = (p.0, p.1, (λ files t. text_of_run files file s p.0 p.1 (h files t) p.2), p.3)
ran_puts told file s before now (outcome.NotYet n) h p = p.1
ran_puts told file s before now outcome.OutOfMemory h p = p
ran_puts told file s before now _ h p = absurd p

pub ran_cause : (told : Option Files) (file : List ℕ) (s : System) (before now : SinkState) (o : Outcome) → Gives told file s
    → PutsRun s before now o → HasCauseFor (command.Run file 1) told o
ran_cause told file s before now outcome.Done h p =
    record { can_end = tt; where_told = λ files t. due_of_run files file s outcome.Done p.0 (h files t) p.1 }
ran_cause told file s before now outcome.Halted h p =
    record { can_end = tt; where_told = λ files t. due_of_run files file s outcome.Halted p.0 (h files t) p.1 }
ran_cause told file s before now outcome.SinkFault h p = record {
  can_end = tt;
  where_told = λ files t. record {
    due = p.0;
    whole = whole_of_run s p.0 p.1 p.2;
    is_due = due_of_run files file s p.0 p.1 (h files t) p.2;
  };
}
ran_cause told file s before now (outcome.NotYet n) h p =
    record { can_end = tt; where_told = λ files t. record { system = s; of_file = h files t; holds = p.0 } }
ran_cause told file s before now outcome.OutOfMemory h p = record { can_end = tt; where_told = λ files t. tt }
ran_cause told file s before now _ h p = absurd p

-- ---- the steps of a run

-- the whole audit was put
pub audit_put : (s : System) (history : History) (before now : SinkState) (o : Outcome) → IsSingleWorkerHistory s history → HasSupportedActs history
    → EndsSo history o → TookWhole before (audit_text s history) now → PutsAudit s before now o
audit_put s history before now outcome.Done complete supported ends took =
    (audit_text s history, record { runs = record { history = history; complete = complete; supported = supported; ends = ends }; text_is = refl }, took)
audit_put s history before now outcome.Halted complete supported ends took =
    (audit_text s history, record { runs = record { history = history; complete = complete; supported = supported; ends = ends }; text_is = refl }, took)
audit_put s history before now _ complete supported ends took = absurd ends

pub audit_puts : (s : System) (before now : SinkState) (o : Outcome) → PutsAudit s before now o → PutsRun s before now o
audit_puts s before now outcome.Done p = p
audit_puts s before now outcome.Halted p = p
audit_puts s before now outcome.SinkFault p = p
audit_puts s before now _ p = absurd p

pub not_yet_puts : (s : System) (now : SinkState) (o : Outcome) → IsNotYet s o → PutsRun s now now o
not_yet_puts s now (outcome.NotYet n) p = (p, refl)
not_yet_puts s now outcome.OutOfMemory p = refl
not_yet_puts s now _ p = absurd p

-- ---- a serial request

pub run_is : (r : Request) (file : String Global) (workers : ℕ) → r ≡ request.Run file workers → IsSerial (command_of r)
    → command_of r ≡ command.Run (string_bytes file) 1
run_is r file workers is serial =
    let s : IsSerial (command_of (request.Run file workers)) = subst (λ (x : Request). IsSerial (command_of x)) is serial in
    ap command_of is ∙ ap (λ (n : ℕ). command.Run (string_bytes file) n) s.one_worker
