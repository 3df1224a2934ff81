use Rattle.std.proofs.Common.{◌≡◌, ◌∙◌, ◌-◌, set, subst, sym, ap, List, ℕ, Vec, Global, Some, None}
use Rattle.region_bytes.specs.Extents.{Extents, bytes_of, byte_from, extents_of, with_written}
use Rattle.table_extents.specs.ExtentChanges.{written}
use Rattle.region_bytes.proofs.OneExtent.{another, from_there, has_bytes, lie_within, put_whole, rewritten, still_last, there}
use Rattle.std.specs.Prelude.{IsSome}
use Rattle.region_bytes.proofs.bytes.Bytes.copy.Goals as goal
use Rattle.region_bytes.proofs.bytes.Bytes.copy.Goals.{then-x-y, else-x-y}

-- the bytes of another extent are there also while one is taken
other : (es rest now : Extents) (x y : ℕ) (bytes : List ℕ) → es ≡ now → bytes_of es y ≡ Some bytes → rest ≡ set es (y - 1) None → (x ≡ y → ⊥)
    → bytes_of rest x ≡ bytes_of now x
other es rest now x y bytes v e r d =
    ap (λ (ys : Extents). bytes_of ys x) r ∙ another es x y None (there es y bytes e).first d ∙ ap (λ (ys : Extents). bytes_of ys x) v

pub bytes_at-source-requires : goal.bytes_at-source-requires
bytes_at-source-requires c =
    let es = extents_of c.self.inside.extents.items in
    let same = other es (extents_of c.as_slice.result.now) c.args.self.now c.args.x c.args.y c.take_bytes-bytes.result.items c.self.view_is c.take_bytes-bytes.ensures.bytes
    (ap extents_of c.as_slice.ensures.value ∙ c.take_bytes-bytes.ensures.rest) c.if-x-y.false
    in
    subst IsSome (sym same) (has_bytes c.args.self.now c.args.x c.args.at c.args.count c.requires.from)

pub copy_from-requires-clause-from : goal.copy_from-requires-clause-from
copy_from-requires-clause-from c =
    let es = extents_of c.self.inside.extents.items in
    let same = other es (extents_of c.as_slice.result.now) c.args.self.now c.args.x c.args.y c.take_bytes-bytes.result.items c.self.view_is c.take_bytes-bytes.ensures.bytes
    (ap extents_of c.as_slice.ensures.value ∙ c.take_bytes-bytes.ensures.rest) c.if-x-y.false
    in
    lie_within c.args.self.now c.args.x c.args.at c.args.count c.bytes_at-source.result.now (sym same ∙ c.bytes_at-source.ensures) c.requires.from

pub put_bytes-requires-clause-first : goal.put_bytes-requires-clause-first
put_bytes-requires-clause-first c = (there (extents_of c.self.inside.extents.items) c.args.y c.take_bytes-bytes.result.items c.take_bytes-bytes.ensures.bytes).first

pub put_bytes-requires-clause-last : goal.put_bytes-requires-clause-last
put_bytes-requires-clause-last c =
    still_last c.take_bytes-bytes.new.extents.items (extents_of c.self.inside.extents.items) c.args.y c.take_bytes-bytes.result.items None c.take_bytes-bytes.ensures.bytes c.take_bytes-bytes.ensures.rest

-- the bytes that the extent has behind the copy
after : (c : goal.After-put_bytes) → c.if-x-y.bytes.items ≡ written 0 c.args.y_at c.args.count (byte_from c.args.self.now c.args.x c.args.at) c.take_bytes-bytes.result.items
after c =
    let old = c.take_bytes-bytes.result in
    let f : ℕ → ℕ = byte_from c.args.self.now c.args.x c.args.at in
    elim c.if-x-y.branch [
      | then-x-y w ↦
          let now = w.as_mut_slice.result.now in
          let there : bytes_of c.args.self.now c.args.x ≡ Some now =
          ap (bytes_of c.args.self.now) w.if-x-y.true ∙ ap (λ (ys : Extents). bytes_of ys c.args.y) (sym c.self.view_is) ∙ c.take_bytes-bytes.ensures.bytes
          ∙ ap (λ (bs : List ℕ). Some bs) (sym w.as_mut_slice.ensures.value)
          in
          ap (λ (v : Vec ℕ Global). v.items) w.bytes-is
          ∙ put_whole old c.args.y_at c.args.count f now w.move_within.new.bytes w.as_mut_slice.ensures.value
          (w.move_within.ensures ∙ ap (λ (g : ℕ → ℕ). written 0 c.args.y_at c.args.count g now) (sym (from_there c.args.self.now c.args.x c.args.at now there)))
      | else-x-y w ↦
          let now = w.as_mut_slice-else-x-y.result.now in let source = w.bytes_at-source.result.now in
          let same = other (extents_of c.self.inside.extents.items) (extents_of w.as_slice.result.now) c.args.self.now c.args.x c.args.y old.items c.self.view_is c.take_bytes-bytes.ensures.bytes
          (ap extents_of w.as_slice.ensures.value ∙ c.take_bytes-bytes.ensures.rest) w.if-x-y.false
          in
          ap (λ (v : Vec ℕ Global). v.items) w.bytes-is
          ∙ put_whole old c.args.y_at c.args.count f now w.copy_from.new.bytes w.as_mut_slice-else-x-y.ensures.value
          (w.copy_from.ensures
          ∙ ap (λ (g : ℕ → ℕ). written 0 c.args.y_at c.args.count g now) (sym (from_there c.args.self.now c.args.x c.args.at source (sym same ∙ w.bytes_at-source.ensures))))
    ]

pub returns : goal.returns
returns c =
    let old = c.take_bytes-bytes.result in
    let f : ℕ → ℕ = byte_from c.args.self.now c.args.x c.args.at in
    rewritten (extents_of c.self.inside.extents.items) (extents_of c.take_bytes-bytes.new.extents.items) (extents_of c.put_bytes.new.extents.items) c.args.y old.items
    c.if-x-y.bytes.items (written 0 c.args.y_at c.args.count f) c.take_bytes-bytes.ensures.bytes c.take_bytes-bytes.ensures.rest c.put_bytes.ensures (after c)
    ∙ ap (λ (ys : Extents). with_written ys c.args.y c.args.y_at c.args.count f) c.self.view_is
