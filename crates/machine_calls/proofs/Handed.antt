-- The core of a domain that is handed a parcel.
use Rattle.std.proofs.Common.{◌≡◌, ◌∙◌, sym, ap, subst, ℕ, List, [], ◌∷◌, length, Some}
use Rattle.std.specs.Prelude.{flat_map}
use Rattle.std.specs.List.{All, AllByRecursion}
use Rattle.std.proofs.lemmas.List.Elements.{All-from_recursion}
use Rattle.jx_base.specs.declared.frame.Frame.{Frame}
use Rattle.jx_base.specs.declared.program.System.{System}
use Rattle.jx_base.specs.declared.value.Node.{Node}
use Rattle.jx_base.specs.declared.value.Parcel.{Parcel}
use Rattle.jx_base.specs.declared.value.Word.{Word}
use Rattle.jx_base.specs.declared.value.Word.TheVariants as word
use Rattle.jx_base.specs.Histories.{Past}
use Rattle.jx_model.specs.WellMade.{IsWordIn}
use Rattle.machine_laws.proofs.Cores.{each_of}
use Rattle.machine_laws.proofs.Lists.{all_left, all_right}
use Rattle.machine_laws.proofs.StateValues.{later_frames}
use Rattle.machine_laws.proofs.Unpacking.{unpacked_in}
use Rattle.machine_laws.specs.Depths.{IsWithin}
use Rattle.machine_laws.specs.Handed.{IsHanded}
use Rattle.machine_laws.specs.Values.{IsFrameIn}
use Rattle.machine_model.specs.AfterEntry.{with_nodes}
use Rattle.machine_model.specs.State.{Core, Store}
use Rattle.param_copy.specs.Copies.{ArePlaced, IsNodePlaced}
use Rattle.program_model.specs.ParcelParts.{parcel_cells}
use Rattle.machine_replies.specs.Leaving.{CanRun, IsCoreIn}

-- ---- the words of the parcel are of its own nodes

module _ (past : Past) (n : ℕ) where
  word_placed : (w : Word) → IsWordIn past n w → IsNodePlaced n w
  word_placed (word.Node k) i = i
  word_placed (word.Int k) i = tt
  word_placed (word.Long k) i = tt
  word_placed word.Null i = tt
  word_placed (word.Portal k c) i = tt
  word_placed (word.Mem m) i = tt

  nodes_placed : (nodes : List Node) → AllByRecursion (IsWordIn past n) (flat_map (λ n. n.cells) nodes) → AllByRecursion (λ k. All (IsNodePlaced n) k.cells) nodes
  nodes_placed [] i = tt
  nodes_placed (k ∷ nodes) i =
      let rest = flat_map (λ (k : Node). k.cells) nodes in
      (each_of (IsWordIn past n) (IsNodePlaced n) word_placed k.cells (all_left (IsWordIn past n) k.cells rest i), nodes_placed nodes (all_right (IsWordIn past n) k.cells rest i))

pub words_placed : (s : System) (past : Past) (p : Parcel) → IsHanded s past p → ArePlaced p
unfolding parcel_cells
words_placed s past p i =
    let W : Word → Type 0 = IsWordIn past (length p.nodes) in
    let cells = flat_map (λ (n : Node). n.cells) p.nodes in
    record {
      roots = each_of W (IsNodePlaced (length p.nodes)) (word_placed past (length p.nodes)) p.roots (all_left W p.roots cells i.parcel.cells);
      nodes = All-from_recursion (λ n. All (IsNodePlaced (length p.nodes)) n.cells) p.nodes (nodes_placed past (length p.nodes) p.nodes (all_right W p.roots cells i.parcel.cells));
    }

-- ---- the cores that are left

-- a core without its frames
abbrev pub bare : Core → Core
bare core = record { frames = []; store = core.store }

module _ (s : System) (past : Past) (core : Core) (h : IsCoreIn s past core) where
  -- one that is the same
  pub same_in : (new : Core) → new.store ≡ core.store → new.frames ≡ core.frames → IsCoreIn s past new
  same_in new e f =
      let same : new ≡ core = ap (λ (fs : List Frame). record { frames = fs; store = new.store }) f ∙ ap (λ (k : Store). record { frames = core.frames; store = k }) e in
      subst (IsCoreIn s past) (sym same) h

  pub bare_in : IsCoreIn s past (bare core)
  bare_in = record { admitted = h.admitted; store = h.store; frames = tt; within = tt }

  -- one with the nodes of the parcel
  pub unpacked_core : (new : Core) (p : Parcel) → CanRun s → IsHanded s past p → with_nodes core.store p ≡ Some new.store → new.frames ≡ core.frames → IsCoreIn s past new
  unpacked_core new p z i e f =
      let u = unpacked_in s past core.store p h.store i new.store e in
      record {
        admitted = h.admitted;
        store = u.later.store;
        frames = subst (AllByRecursion (IsFrameIn s past new.store)) (sym f) (later_frames s past z.sound core.store new.store u.later core.frames h.frames);
        within = subst (AllByRecursion (IsWithin s)) (sym f) h.within;
      }
