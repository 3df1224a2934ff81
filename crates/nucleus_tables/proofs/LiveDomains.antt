-- The record of a live domain, and the granules of its heap.
use Rattle.std.proofs.Common.{◌≡◌, sym, ◌∙◌, ap, subst, ℕ, ◌+◌, ◌<◌, ◌≤◌, Bool, true, false, List, map, Option, Some, None, is_some, arith, get_or}
use Rattle.std.specs.Prelude.{IsSome, IsSomeAnd}
use Rattle.std.specs.List.{range_with_len}
use Rattle.std.specs.Option.{option_map, unwrap_or}
use Rattle.std.proofs.lemmas.Bool.Decides.{nat_tests}
use Rattle.std.proofs.lemmas.Option.{get_or_from_slice_get}
use Rattle.jx_base.specs.declared.program.System.{System}
use Rattle.jx_base.specs.declared.states.DomainState.{DomainState}
use Rattle.jx_base.specs.Basics.{numbered}
use Rattle.program_model.specs.Limits.{granule_limit}
use Rattle.jx_laws.proofs.Runs.{HeapOf, owner_lies, owners_within}
use Rattle.jx_model.proofs.Serving.{not_ended_yet}
use Rattle.jx_model.specs.Domains.{is_live}
use Rattle.jx_model.specs.Granules.{Run, heap_granules, heap_run, is_used_granule, lies_in}
use Rattle.jx_model.specs.Tables.{domain_record, granule_flags}
use Rattle.domain_table.specs.DomainLists as Lists
use Rattle.extent_pool.specs.Taken.{AreTaken, is_taken}
use Rattle.table_reads.proofs.ReplyReads.{heap_run_by_record}
use Rattle.table_steps.specs.Steps.{heap_in, heap_of}
use Rattle.table_threads.proofs.Actors.{live_made}
use Rattle.table_threads.proofs.Records.{get_range}
use Rattle.nucleus_tables.proofs.DomainReads.{domain_there}
use Rattle.nucleus_tables.specs.Inner.{IsOf, past_in}
use Rattle.nucleus_tables.specs.declared.tables.Tables.{Tables}

-- a granule between a run's ends lies in it
lies : (g p n : ℕ) → p ≤ g → g < p + n → lies_in g (p, n) ≡ true
unfolding lies_in
lies g p n l u = grind (arith, nat_tests)

module _ (s : System) (x : Tables) (h : IsOf s x) (d : ℕ) (l : is_live (past_in x) d ≡ true) where
  -- the record of a live domain
  pub live_there : numbered x.domains.domains d ≡ Some (domain_record s (past_in x) d)
  live_there = domain_there s x h d (live_made (past_in x) d l)

  -- so it is found
  pub there : (o : Option DomainState) → o ≡ numbered x.domains.domains d → IsSome o
  there o q = ap is_some (q ∙ live_there)

  -- the table says that it lives
  pub live_record : Lists.IsLive x.domains d
  unfolding domain_record
  live_record = subst (λ (o : Option DomainState). IsSomeAnd o (λ domain. domain.ended ≡ None)) (sym live_there) (not_ended_yet (past_in x) d l)

  -- the granules of its heap by its record are those of the past
  heap_is : heap_in s x.domains.domains d ≡ heap_run s (past_in x) d
  heap_is =
      ap (λ (o : Option DomainState). unwrap_or (option_map (heap_of s) o) (0, 0)) live_there
      ∙ sym (heap_run_by_record s (past_in x) d h.stands.admitted (live_made (past_in x) d l).low (live_made (past_in x) d l).high)

  -- a used granule of the machine is taken
  used_taken : (g : ℕ) → g < granule_limit s → is_used_granule s (past_in x) g ≡ true → is_taken x.space.taken g ≡ true
  unfolding granule_flags
  used_taken g u q =
      ap (λ (flags : List Bool). get_or flags g false) h.stands.taken
      ∙ get_or_from_slice_get (map (is_used_granule s (past_in x)) (range_with_len 0 (granule_limit s))) g (is_used_granule s (past_in x) (0 + g)) false
      (get_range (is_used_granule s (past_in x)) 0 (granule_limit s) g u)
      ∙ ap (is_used_granule s (past_in x)) (omega arith) ∙ q

  -- the granules of its heap are taken
  pub heap_taken : AreTaken x.space.taken (heap_in s x.domains.domains d).0 (heap_in s x.domains.domains d).1
  unfolding is_used_granule
  heap_taken g a b =
      let run : Run = heap_run s (past_in x) d in
      let low : run.0 ≤ g = subst (λ (r : Run). r.0 ≤ g) heap_is a in
      let high : g < run.0 + run.1 = subst (λ (r : Run). g < r.0 + r.1) heap_is b in
      used_taken g (omega (arith, high, owners_within s (past_in x) h.stands.admitted (HeapOf d) l))
      (owner_lies s (past_in x) (HeapOf d) g l (lies g run.0 run.1 low high))

  -- the run that is given back is that of its heap
  pub run_given : (item : DomainState) (n : ℕ) → numbered x.domains.domains d ≡ Some item → n ≡ heap_granules s item.template → heap_in s x.domains.domains d ≡ (item.at, n)
  run_given item n q e =
      ap (λ (o : Option DomainState). unwrap_or (option_map (heap_of s) o) (0, 0)) q
      ∙ ap (λ (k : ℕ). let run : Run = (item.at, k) in run) (sym e)

  -- so it is taken
  pub given_taken : (item : DomainState) (n : ℕ) → numbered x.domains.domains d ≡ Some item → n ≡ heap_granules s item.template → AreTaken x.space.taken item.at n
  given_taken item n q e = subst (λ (run : Run). AreTaken x.space.taken run.0 run.1) (run_given item n q e) heap_taken
