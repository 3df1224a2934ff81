use Rattle.std.proofs.Common.{◌≡◌, ◌∙◌, refl, sym, ap, [], ◌∷◌, ◌++◌, append-nil, cond, length, slice_get, Some, arith}
use Rattle.std.specs.Prelude.{filter}
use Rattle.std.specs.List.{range_with_len}
use Rattle.std.proofs.lemmas.Option.{slice_get_read}
use Rattle.machine_model.specs.Start.{method_places}
use Rattle.machine_start.specs.Found.{is_static_at}
use Rattle.machine_start.proofs.Started.{place_more, static_there}
use Rattle.machine_start.proofs.found.found_methods.Goals as goal
use Rattle.machine_start.proofs.found.found_methods.Goals.{then-is_static_with+in_ok-push, else-is_static_with}

pub loop-place-preserved : goal.loop-place-preserved
loop-place-preserved c =
    let s = c.args.system.now in
    let y = c.args.selector.now in
    let place = c.loop-place.place in
    let slice = c.as_slice-methods.result.now in
    let item = c.index-methods-place.result in
    let there : slice_get s.program.methods place ≡ Some item =
    ap (λ ms. slice_get ms place) (sym c.as_slice-methods.ensures) ∙ slice_get_read slice (length slice) place item refl (omega arith) c.index-methods-place.is in
    let test : c.is_static_with.result ≡ is_static_at s y place = c.is_static_with.ensures ∙ static_there s y place item there in
    let before = filter (is_static_at s y) (range_with_len 0 place) in
    elim c.if-is_static_with.branch [
      | then-is_static_with+in_ok-push w ↦
          ap (λ v. v.items) w.found-is ∙ w.in_ok-push.ensures.items ∙ ap (λ xs. xs ++ place ∷ []) c.loop-place.invariant
          ∙ ap (λ b. before ++ cond b (place ∷ []) []) (sym w.if-is_static_with.true ∙ test) ∙ sym (place_more (is_static_at s y) place)
      | else-is_static_with w ↦
          ap (λ v. v.items) w.found-is ∙ c.loop-place.invariant ∙ sym (append-nil before)
          ∙ ap (λ b. before ++ cond b (place ∷ []) []) (sym w.if-is_static_with.false ∙ test) ∙ sym (place_more (is_static_at s y) place)
    ]

pub returns : goal.returns
unfolding method_places
returns c =
    c.loop-place.invariant
    ∙ ap (λ n. filter (is_static_at c.args.system.now c.args.selector.now) (range_with_len 0 n)) (omega (arith, c.loop-place-test.false, ap length c.as_slice-methods.ensures))
