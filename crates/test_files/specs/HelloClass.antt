-- The class Hello.
use Rattle.std.specs.Prelude.{ℕ, List}
use Rattle.test_files.specs.declared.hello_class.TheConstants.{HELLO_CLASS}

-- its bytes
unfoldable pub hello_bytes : List ℕ
hello_bytes = HELLO_CLASS
