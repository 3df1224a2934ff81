use Rattle.std.proofs.Common.{◌≡◌, ◌∙◌, ◌+◌, ◌-◌, refl, sym, ap, ℕ, List, arith, drop, is_some, Some, slice_get}
use Rattle.jx_base.specs.Basics.{first_some}
use Rattle.jx_base.specs.declared.ids.ServiceId.{ServiceId}
use Rattle.jx_model.specs.Permits.{take_at}
use Rattle.jx_model.specs.Threads.{service_threads}
use Rattle.nucleus_tables.specs.Inner.{past_in}
use Rattle.nucleus_tables.proofs.CallReads.{service_is, thread_count_is}
use Rattle.nucleus_tables.proofs.FirstSome.{drop_get, get_there, none_first, none_left, nothing_left, some_first}
use Rattle.nucleus_tables.proofs.tables.Tables.first_take.Goals as goal

pub loop-number-init : goal.loop-number-init
loop-number-init c =
    let count = thread_count_is c.args.system.now c.args.self.now c.requires.tables c.args.domain.0 c.requires.live in
    (omega arith, omega (arith, c.threads-number-end.ensures, count), refl)

pub unwrap-service-requires : goal.unwrap-service-requires
unwrap-service-requires c =
    let past = past_in c.args.self.now in
    let d = c.args.domain.0 in
    let n = c.loop-number.number in
    let count = thread_count_is c.args.system.now c.args.self.now c.requires.tables d c.requires.live in
    ap is_some (c.service.ensures ∙ service_is c.args.system.now c.args.self.now c.requires.tables d n c.requires.live c.loop-number.invariant.0 (omega (arith, c.loop-number-test.true, c.threads-number-end.ensures, count)))
    ∙ get_there (service_threads past d) (n - 1) (omega (arith, c.loop-number.invariant.0, c.loop-number-test.true, c.threads-number-end.ensures, count))

pub loop-number-preserved : goal.loop-number-preserved
loop-number-preserved c =
    let past = past_in c.args.self.now in
    let d = c.args.domain.0 in
    let n = c.loop-number.number in
    let xs : List ServiceId = service_threads past d in
    let f : ServiceId → _ = λ (k : ServiceId). take_at past d k.0 in
    let k : ServiceId = c.unwrap-service.result in
    let count = thread_count_is c.args.system.now c.args.self.now c.requires.tables d c.requires.live in
    let there : slice_get xs (n - 1) ≡ Some k =
    sym (service_is c.args.system.now c.args.self.now c.requires.tables d n c.requires.live c.loop-number.invariant.0 (omega (arith, c.loop-number-test.true, c.threads-number-end.ensures, count)))
    ∙ sym c.service.ensures ∙ c.unwrap-service.ensures in
    let next : n - 1 + 1 ≡ n + 1 - 1 = omega (arith, c.loop-number.invariant.0) in (
      omega arith,
      omega (arith, c.loop-number-test.true),
      c.loop-number.invariant.2
          ∙ ap (first_some f) (drop_get xs (n - 1) k there)
          ∙ none_first f k (drop (n - 1 + 1) xs) (sym c.take_of.ensures ∙ c.in_default.is)
          ∙ ap (λ (i : ℕ). first_some f (drop i xs)) next,
    )

pub returns-in-Some : goal.returns-in-Some
returns-in-Some c =
    let past = past_in c.args.self.now in
    let d = c.args.domain.0 in
    let n = c.loop-number.number in
    let xs : List ServiceId = service_threads past d in
    let f : ServiceId → _ = λ (k : ServiceId). take_at past d k.0 in
    let k : ServiceId = c.unwrap-service.result in
    let count = thread_count_is c.args.system.now c.args.self.now c.requires.tables d c.requires.live in
    let there : slice_get xs (n - 1) ≡ Some k =
    sym (service_is c.args.system.now c.args.self.now c.requires.tables d n c.requires.live c.loop-number.invariant.0 (omega (arith, c.loop-number-test.true, c.threads-number-end.ensures, count)))
    ∙ sym c.service.ensures ∙ c.unwrap-service.ensures in
    sym (c.loop-number.invariant.2
    ∙ ap (first_some f) (drop_get xs (n - 1) k there)
    ∙ some_first f k (drop (n - 1 + 1) xs) c.in-Some.act (sym c.take_of.ensures ∙ c.in-Some.is))

pub returns : goal.returns
returns c =
    let past = past_in c.args.self.now in
    let d = c.args.domain.0 in
    let n = c.loop-number.number in
    let f : ServiceId → _ = λ (k : ServiceId). take_at past d k.0 in
    let count = thread_count_is c.args.system.now c.args.self.now c.requires.tables d c.requires.live in
    sym (c.loop-number.invariant.2
    ∙ ap (first_some f) (nothing_left (service_threads past d) (n - 1) (omega (arith, c.loop-number.invariant.0, c.loop-number-test.false, c.threads-number-end.ensures, count)))
    ∙ none_left f)
