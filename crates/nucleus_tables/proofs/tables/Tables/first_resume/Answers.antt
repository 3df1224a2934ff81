use Rattle.std.proofs.Common.{◌≡◌, ◌∙◌, ◌+◌, ◌-◌, sym, ap, ℕ, suc, arith, length}
use Rattle.std.specs.List.{range_with_len}
use Rattle.jx_base.specs.Basics.{first_some}
use Rattle.jx_model.specs.Permits.{resume_at}
use Rattle.jx_model.specs.Threads.{service_threads, threads_of}
use Rattle.nucleus_tables.specs.Inner.{past_in}
use Rattle.nucleus_tables.proofs.CallReads.{thread_count_is}
use Rattle.nucleus_tables.proofs.FirstSome.{none_first, none_left, some_first}
use Rattle.nucleus_tables.proofs.tables.Tables.first_resume.Goals as goal

pub loop-number-init : goal.loop-number-init
unfolding threads_of
loop-number-init c =
    let past = past_in c.args.self.now in
    let d = c.args.domain.0 in
    let count : length (service_threads past d) + 1 ≡ c.threads-number-end.result - 0 = omega (arith, c.threads-number-end.ensures, thread_count_is c.args.system.now c.args.self.now c.requires.tables d c.requires.live) in
    (omega arith, ap (λ (n : ℕ). first_some (resume_at past d) (range_with_len 0 n)) count)

pub loop-number-preserved : goal.loop-number-preserved
loop-number-preserved c =
    let k = c.loop-number.number in
    let end = c.threads-number-end.result in
    let f = resume_at (past_in c.args.self.now) c.args.domain.0 in
    let more : end - k ≡ suc (end - (k + 1)) = omega (arith, c.loop-number-test.true) in (
      omega (arith, c.loop-number-test.true),
      c.loop-number.invariant.1
          ∙ ap (λ (n : ℕ). first_some f (range_with_len k n)) more
          ∙ none_first f k (range_with_len (k + 1) (end - (k + 1))) (sym c.resume_of.ensures ∙ c.in_default.is),
    )

pub returns-in-Some : goal.returns-in-Some
returns-in-Some c =
    let k = c.loop-number.number in
    let end = c.threads-number-end.result in
    let f = resume_at (past_in c.args.self.now) c.args.domain.0 in
    let more : end - k ≡ suc (end - (k + 1)) = omega (arith, c.loop-number-test.true) in
    sym (c.loop-number.invariant.1
    ∙ ap (λ (n : ℕ). first_some f (range_with_len k n)) more
    ∙ some_first f k (range_with_len (k + 1) (end - (k + 1))) c.in-Some.act (sym c.resume_of.ensures ∙ c.in-Some.is))

pub returns : goal.returns
returns c =
    let k = c.loop-number.number in
    let end = c.threads-number-end.result in
    let f = resume_at (past_in c.args.self.now) c.args.domain.0 in
    let none : end - k ≡ 0 = omega (arith, c.loop-number-test.false) in
    sym (c.loop-number.invariant.1 ∙ ap (λ (n : ℕ). first_some f (range_with_len k n)) none ∙ none_left f)
