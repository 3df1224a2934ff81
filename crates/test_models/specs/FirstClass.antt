-- The class of the first system: its main prints `hi`.
use Rattle.std.specs.Prelude.{ℕ, List, [], ◌∷◌, Some, codes}
use Rattle.jx_base.specs.declared.class_file.ClassFile.{ClassFile}
use Rattle.jx_base.specs.declared.class_file.Code.{Code}
use Rattle.jx_base.specs.declared.class_file.Constant.{Constant}
use Rattle.jx_base.specs.declared.class_file.Constant.TheVariants as constant
use Rattle.jx_base.specs.declared.class_file.Member.{Member}

-- its constants, by index
unfoldable pub first_constants : List Constant
first_constants =
    constant.Unusable
    ∷ constant.Utf8 (codes "Hello")
    ∷ constant.Class 1
    ∷ constant.Utf8 (codes "java/lang/Object")
    ∷ constant.Class 3
    ∷ constant.Utf8 (codes "main")
    ∷ constant.Utf8 (codes "([Ljava/lang/String;)V")
    ∷ constant.Utf8 (codes "Code")
    ∷ constant.Utf8 (codes "hi")
    ∷ constant.Str 8
    ∷ constant.Utf8 (codes "jx/Zero")
    ∷ constant.Class 10
    ∷ constant.Utf8 (codes "print")
    ∷ constant.Utf8 (codes "(Ljava/lang/String;)V")
    ∷ constant.NameAndType 12 13
    ∷ constant.Method 11 14
    ∷ []

-- ldc 9, invokestatic 15, return
unfoldable pub first_code : Code
first_code = record {
  max_stack = 1;
  max_locals = 1;
  at = 179;
  code = 18 ∷ 9 ∷ 184 ∷ 0 ∷ 15 ∷ 177 ∷ [];
  table = [];
}

-- public static void main(String[])
unfoldable pub first_main : Member
first_main = record {
  flags = 9;
  name = codes "main";
  descriptor = codes "([Ljava/lang/String;)V";
  code = Some first_code;
}

unfoldable pub first_class : ClassFile
first_class = record {
  minor = 0;
  major = 52;
  constants = first_constants;
  flags = 33;
  this_class = 2;
  super_class = 4;
  interfaces = [];
  fields = [];
  methods = first_main ∷ [];
}
