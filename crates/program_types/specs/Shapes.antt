-- The shapes of values.
use Rattle.program_types.specs.declared.shapes.Shape.{Shape as OneShape}
use Rattle.program_types.specs.declared.shapes.Shape.TheVariants as shape
use Rattle.program_model.specs.Lookup.{Shape, IntShape, LongShape, NullShape, ObjectShape, PortalShape, Unknown}

-- a shape as the definitions know it
abbrev pub shape_state : OneShape → Shape
shape_state (shape.Int n) = IntShape n
shape_state shape.Long = LongShape
shape_state shape.Null = NullShape
shape_state (shape.Object c) = ObjectShape c
shape_state (shape.Portal c) = PortalShape c
shape_state shape.Unknown = Unknown
