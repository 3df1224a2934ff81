-- What follows the last return of a method.
use Rattle.std.proofs.Common.{◌≡◌, refl, sym, ◌∙◌, ap, subst, ℕ, List, [], ◌∷◌, Option}
use Rattle.jx_base.specs.declared.frame.Frame.{Frame}
use Rattle.jx_base.specs.declared.program.System.{System}
use Rattle.jx_base.specs.declared.value.Value.{Value}
use Rattle.machine_model.specs.MachineThreads.{after_begin, after_finish, start_arguments, with_stage, with_store, with_thread}
use Rattle.machine_model.specs.State.{Core, Returned, State, Store}
use Rattle.machine_replies.specs.Leaving.{Comes, HasCome}
use Rattle.machine_replies.specs.declared.stage.Stage.{Stage as OneStage}
use Rattle.machine_replies.specs.declared.stage.Stage.TheVariants as stage
use Rattle.domain_machine.specs.Works.{Finishes}

-- none waits, and the thread has returned
pub ended : (s : System) (core : Core) (v : Option Value) → core.frames ≡ [] → Finishes s core [] v core [] (stage.Returned v)
unfolding after_finish with_stage with_thread with_store
ended s core v e st k x h w = (rw w (ap (λ (y : State). with_thread y k (record x { frames = []; stage = Returned v; waiting = [] })) same ∙ ap (with_thread (with_store st core.store) k) put), e)
  where
    put : record x { frames = []; stage = Returned v; waiting = [] } ≡ record x { frames = core.frames; stage = Returned v; waiting = [] }
    put = ap (λ (fs : List Frame). record x { frames = fs; stage = Returned v; waiting = [] }) (sym e)

    same : st ≡ with_store st core.store
    same = ap (λ (store : Store). record st { store = store }) h.store

-- the next method begins
pub begun : (s : System) (old new : Core) (m : ℕ) (more : List ℕ) (v : Option Value) (g : OneStage) → Comes old new g (λ st t x. after_begin s st t x m (start_arguments s m)) → Finishes s old (m ∷ more) v new more g
unfolding after_finish
begun s old new m more v g f st k x h w =
    subst (HasCome st k (record x { waiting = more }) new g) (rw w refl) (f st k (record x { waiting = more }) (record { store = h.store; frames = h.frames }))
