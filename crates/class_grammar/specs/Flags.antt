-- The flags of classes and of their members.
use Rattle.std.specs.Prelude.{ℕ, ◌/◌, ◌%◌, Bool, ◌==◌}

-- whether the flags have this one
unfoldable pub has_flag : ℕ → ℕ → Bool
has_flag flag flags = flags / flag % 2 == 1

-- of a field or a method that belongs to its class
unfoldable pub is_static : ℕ → Bool
is_static flags = has_flag 0x0008 flags

-- of a method that locks its object
unfoldable pub is_synchronized : ℕ → Bool
is_synchronized flags = has_flag 0x0020 flags

-- of a method whose code is elsewhere
unfoldable pub is_native : ℕ → Bool
is_native flags = has_flag 0x0100 flags

-- of a class that is an interface
unfoldable pub is_interface_flag : ℕ → Bool
is_interface_flag flags = has_flag 0x0200 flags

-- of a class or a method without all its code
unfoldable pub is_abstract : ℕ → Bool
is_abstract flags = has_flag 0x0400 flags

-- what a computed case opens
unfoldable pub opened_flags : Unit {0}
unfolding has_flag is_static is_synchronized is_native is_interface_flag is_abstract
opened_flags = tt
