-- What reading a class file gives tells which bytes are one, and the first fault of the others.
use Rattle.std.proofs.Common.{◌≡◌, ℕ, zero, suc, List, [], length, Bool, Option, Some, None, Result, Ok, Err, sym, ap, ◌∙◌}
use Rattle.std.proofs.lemmas.Option.{same_Some}
use Rattle.std.specs.Prelude.{IfOk, IfErr}
use Rattle.jx_base.specs.declared.class_file.ClassFile.{ClassFile}
use Rattle.jx_base.specs.declared.fault.ClassKind.{ClassKind}
use Rattle.jx_base.specs.declared.class_file.Code.{Code}
use Rattle.jx_base.specs.declared.class_file.Constant.{Constant}
use Rattle.jx_base.specs.declared.constant_tag.ConstantTag.{ConstantTag}
use Rattle.jx_base.specs.declared.constant_tag.ConstantTag.TheVariants as tag
use Rattle.jx_base.specs.declared.fault.ClassFault.{ClassFault}
use Rattle.class_grammar.specs.Constants.{class_fault, index_pair, utf8_body, skipped_body, constant_body, constant_part, constants_part}
use Rattle.class_grammar.specs.Members.{name_part, class_index, skipped_attribute, skipped_attributes, range_part, table_part, code_part, code_body, method_attributes, method_part, field_part}
use Rattle.class_grammar.specs.ClassGrammar.{version_part, pool_part, interface_part, heading_part, fields_part, methods_part, class_file_part, IsClassFile, IsClassFault}
use Rattle.class_grammar.proofs.PartLaws.{IsLawful, Tells, lawful-bind, lawful-then, lawful-either, lawful-done, lawful-demand, lawful-no_fault, lawful-known, lawful-meant, lawful-room, lawful-here, lawful-at_end, lawful-bytes_of, lawful-number, lawful-repeated, lawful-enclosed}
use Rattle.class_grammar.specs.ModifiedUtf8.{IsModifiedUtf8, text_of_bytes}
use Rattle.jx_base.specs.declared.error.Error.{Error}
use Rattle.jx_base.specs.declared.error.Error.TheVariants as error
use Rattle.class_reader.specs.Classes.{IsFaultOf, IsReadAs, IsRefusedFor}
use Rattle.jx_base.specs.Answers.{Gives}
use Rattle.class_texts.proofs.TextLaws.{text_law}
use Rattle.class_texts.proofs.DescriptorLaws.{field_law, method_law}

-- ---- constants

lawful_pair : (size : ℕ) → IsLawful (index_pair size)
unfolding index_pair
lawful_pair size = lawful-bind _ _ (lawful-number _ _) (λ first. lawful-bind _ _ (lawful-number _ _) (λ second. lawful-done _))

tells_text : (bytes : List ℕ) → Tells (IsModifiedUtf8 bytes) (text_of_bytes bytes)
tells_text bytes = record { told = λ text. (text_law bytes text).0; meant_only = λ text. (text_law bytes text).1 }

lawful_utf8 : (size at : ℕ) → IsLawful (utf8_body size at)
unfolding utf8_body
lawful_utf8 size at =
    lawful-bind _ _ (lawful-number _ _) (λ n. lawful-bind _ _ (lawful-bytes_of _ n) (λ bytes. lawful-bind _ _ (lawful-meant _ _ _ (tells_text bytes)) (λ text. lawful-done _)))

lawful_skipped : (size number n : ℕ) → IsLawful (skipped_body size number n)
unfolding skipped_body
lawful_skipped size number n = lawful-bind _ _ (lawful-bytes_of _ n) (λ bytes. lawful-done _)

lawful_body : (size at : ℕ) (t : ConstantTag) → IsLawful (constant_body size at t)
unfolding constant_body
lawful_body size at tag.Utf8 = lawful_utf8 size at
lawful_body size at tag.Integer = lawful-bind _ _ (lawful-number _ _) (λ n. lawful-done _)
lawful_body size at tag.Float = lawful_skipped size 4 4
lawful_body size at tag.Long = lawful-bind _ _ (lawful-number _ _) (λ n. lawful-done _)
lawful_body size at tag.Double = lawful_skipped size 6 8
lawful_body size at tag.Class = lawful-bind _ _ (lawful-number _ _) (λ n. lawful-done _)
lawful_body size at tag.Str = lawful-bind _ _ (lawful-number _ _) (λ n. lawful-done _)
lawful_body size at tag.Field = lawful-bind _ _ (lawful_pair size) (λ x. lawful-done _)
lawful_body size at tag.Method = lawful-bind _ _ (lawful_pair size) (λ x. lawful-done _)
lawful_body size at tag.InterfaceMethod = lawful-bind _ _ (lawful_pair size) (λ x. lawful-done _)
lawful_body size at tag.NameAndType = lawful-bind _ _ (lawful_pair size) (λ x. lawful-done _)
lawful_body size at tag.MethodHandle = lawful_skipped size 15 3
lawful_body size at tag.MethodType = lawful_skipped size 16 2
lawful_body size at tag.InvokeDynamic = lawful_skipped size 18 4

lawful_constant : (size : ℕ) → IsLawful (constant_part size)
unfolding constant_part
lawful_constant size =
    lawful-bind _ _ (lawful-here size) (λ at. lawful-bind _ _ (lawful-number _ _) (λ n. lawful-bind _ _ (lawful-known _ _) (λ t. lawful_body size at t)))

lawful_constants : (size n : ℕ) → IsLawful (constants_part size n)
unfolding constants_part
lawful_constants size zero = lawful-done _
lawful_constants size (suc zero) =
    lawful-bind _ _ (lawful-here size) (λ at. lawful-bind _ _ (lawful_constant size) (λ c. lawful-then _ _ (lawful-demand _ _) (lawful-done _)))
lawful_constants size (suc (suc n)) =
    lawful-bind _ _ (lawful_constant size) (λ c. lawful-either _ _ _
    (lawful-bind _ _ (lawful_constants size n) (λ cs. lawful-done _))
    (lawful-bind _ _ (lawful_constants size (suc n)) (λ cs. lawful-done _)))

-- ---- attributes

lawful_name : (size : ℕ) (cut : ClassFault) (constants : List Constant) → IsLawful (name_part size cut constants)
unfolding name_part
lawful_name size cut constants = lawful-bind _ _ (lawful-here size) (λ at. lawful-bind _ _ (lawful-number _ _) (λ i. lawful-known _ _))

lawful_index : (size : ℕ) (constants : List Constant) → IsLawful (class_index size constants)
unfolding class_index
lawful_index size constants =
    lawful-bind _ _ (lawful-here size) (λ at. lawful-bind _ _ (lawful-number _ _) (λ i. lawful-then _ _ (lawful-demand _ _) (lawful-done _)))

lawful_attribute : (size : ℕ) (cut : ClassFault) (constants : List Constant) → IsLawful (skipped_attribute size cut constants)
unfolding skipped_attribute
lawful_attribute size cut constants =
    lawful-bind _ _ (lawful_name size cut constants) (λ name. lawful-bind _ _ (lawful-number _ _) (λ n. lawful-bind _ _ (lawful-bytes_of _ n) (λ bytes. lawful-done _)))

lawful_attributes : (size : ℕ) (cut : ClassFault) (constants : List Constant) → IsLawful (skipped_attributes size cut constants)
unfolding skipped_attributes
lawful_attributes size cut constants = lawful-bind _ _ (lawful-number _ _) (λ n. lawful-repeated n _ (lawful_attribute size cut constants))

-- ---- code

lawful_range : (size : ℕ) (cut : ClassFault) (constants : List Constant) → IsLawful (range_part size cut constants)
unfolding range_part
lawful_range size cut constants =
    lawful-bind _ _ (lawful-number _ _) (λ start. lawful-bind _ _ (lawful-number _ _) (λ end. lawful-bind _ _ (lawful-number _ _) (λ handler.
    lawful-bind _ _ (lawful-here size) (λ at. lawful-bind _ _ (lawful-number _ _) (λ catch_type. lawful-then _ _ (lawful-demand _ _) (lawful-done _))))))

lawful_table : (size : ℕ) (cut : ClassFault) (constants : List Constant) → IsLawful (table_part size cut constants)
unfolding table_part
lawful_table size cut constants = lawful-bind _ _ (lawful-number _ _) (λ n. lawful-repeated n _ (lawful_range size cut constants))

lawful_code : (size : ℕ) (cut : ClassFault) (constants : List Constant) → IsLawful (code_part size cut constants)
unfolding code_part
lawful_code size cut constants =
    lawful-bind _ _ (lawful-number _ _) (λ max_stack. lawful-bind _ _ (lawful-number _ _) (λ max_locals. lawful-bind _ _ (lawful-number _ _) (λ n.
    lawful-then _ _ (lawful-demand _ _) (lawful-bind _ _ (lawful-here size) (λ at. lawful-bind _ _ (lawful-bytes_of _ n) (λ code.
    lawful-bind _ _ (lawful_table size cut constants) (λ table. lawful-then _ _ (lawful_attributes size cut constants) (lawful-done _))))))))

lawful_code_body : (size at : ℕ) (constants : List Constant) (n : ℕ) → IsLawful (code_body size at constants n)
unfolding code_body
lawful_code_body size at constants n = lawful-bind _ _ (lawful-here size) (λ place. lawful-enclosed n _ _ (lawful_code _ _ constants))

-- ---- methods and fields

lawful_method_attributes : (size : ℕ) (constants : List Constant) (may_have : Bool) (k : ℕ) (code : Option Code) → IsLawful (method_attributes size constants may_have k code)
unfolding method_attributes
lawful_method_attributes size constants may_have zero code = lawful-done _
lawful_method_attributes size constants may_have (suc k) code =
    lawful-bind _ _ (lawful-here size) (λ at. lawful-bind _ _ (lawful_name size _ constants) (λ name. lawful-bind _ _ (lawful-number _ _) (λ n.
    lawful-then _ _ (lawful-room n _) (lawful-either _ _ _
    (lawful-then _ _ (lawful-demand _ _) (lawful-bind _ _ (lawful_code_body size at constants n) (λ found. lawful_method_attributes size constants may_have k _)))
    (lawful-bind _ _ (lawful-bytes_of _ n) (λ bytes. lawful_method_attributes size constants may_have k code))))))

lawful_method : (size : ℕ) (constants : List Constant) (interface : Bool) → IsLawful (method_part size constants interface)
unfolding method_part
lawful_method size constants interface =
    lawful-bind _ _ (lawful-here size) (λ at. lawful-bind _ _ (lawful-number _ _) (λ flags. lawful-bind _ _ (lawful_name size _ constants) (λ name.
    lawful-bind _ _ (lawful-here size) (λ descriptor_at. lawful-bind _ _ (lawful_name size _ constants) (λ descriptor.
    lawful-bind _ _ (lawful-meant _ _ _ (method_law descriptor)) (λ type. lawful-then _ _ (lawful-demand _ _) (lawful-bind _ _ (lawful-number _ _) (λ n.
    lawful-bind _ _ (lawful_method_attributes size constants _ n _) (λ code. lawful-then _ _ (lawful-demand _ _) (lawful-done _))))))))))

lawful_field : (size : ℕ) (constants : List Constant) → IsLawful (field_part size constants)
unfolding field_part
lawful_field size constants =
    lawful-bind _ _ (lawful-here size) (λ at. lawful-bind _ _ (lawful-number _ _) (λ flags. lawful-bind _ _ (lawful_name size _ constants) (λ name.
    lawful-bind _ _ (lawful-here size) (λ descriptor_at. lawful-bind _ _ (lawful_name size _ constants) (λ descriptor.
    lawful-bind _ _ (lawful-meant _ _ _ (field_law descriptor)) (λ type. lawful-then _ _ (lawful-demand _ _) (lawful-then _ _ (lawful_attributes size _ constants) (lawful-done _))))))))

-- ---- the whole

lawful_version : (size : ℕ) → IsLawful (version_part size)
unfolding version_part
lawful_version size =
    lawful-bind _ _ (lawful-number _ _) (λ magic. lawful-then _ _ (lawful-demand _ _) (lawful-bind _ _ (lawful-number _ _) (λ minor.
    lawful-bind _ _ (lawful-number _ _) (λ major. lawful-then _ _ (lawful-demand _ _) (lawful-done _)))))

lawful_pool : (size : ℕ) → IsLawful (pool_part size)
unfolding pool_part
lawful_pool size =
    lawful-bind _ _ (lawful-number _ _) (λ count. lawful-then _ _ (lawful-demand _ _) (lawful-bind _ _ (lawful_constants size _) (λ constants.
    lawful-then _ _ (lawful-no_fault _) (lawful-done _))))

lawful_interface : (size : ℕ) (constants : List Constant) → IsLawful (interface_part size constants)
unfolding interface_part
lawful_interface size constants = lawful-bind _ _ (lawful_index size constants) (λ i. lawful-done _)

lawful_heading : (size : ℕ) (constants : List Constant) → IsLawful (heading_part size constants)
unfolding heading_part
lawful_heading size constants =
    lawful-bind _ _ (lawful-number _ _) (λ flags. lawful-bind _ _ (lawful_index size constants) (λ this_class. lawful-bind _ _ (lawful_index size constants) (λ super_class.
    lawful-bind _ _ (lawful-number _ _) (λ n. lawful-bind _ _ (lawful-repeated n _ (lawful_interface size constants)) (λ interfaces. lawful-done _)))))

lawful_fields : (size : ℕ) (constants : List Constant) → IsLawful (fields_part size constants)
unfolding fields_part
lawful_fields size constants = lawful-bind _ _ (lawful-number _ _) (λ n. lawful-repeated n _ (lawful_field size constants))

lawful_methods : (size : ℕ) (constants : List Constant) (interface : Bool) → IsLawful (methods_part size constants interface)
unfolding methods_part
lawful_methods size constants interface = lawful-bind _ _ (lawful-number _ _) (λ n. lawful-repeated n _ (lawful_method size constants interface))

pub lawful_class_file : (size : ℕ) → IsLawful (class_file_part size)
unfolding class_file_part
lawful_class_file size =
    lawful-bind _ _ (lawful_version size) (λ version. lawful-bind _ _ (lawful_pool size) (λ constants. lawful-bind _ _ (lawful_heading size constants) (λ heading.
    lawful-bind _ _ (lawful_fields size constants) (λ fields. lawful-bind _ _ (lawful_methods size constants _) (λ methods.
    lawful-then _ _ (lawful_attributes size _ constants) (lawful-bind _ _ (lawful-here size) (λ at. lawful-then _ _ (lawful-at_end _) (lawful-done _))))))))

-- ---- what a reader's answer tells

file_of : Result (ClassFile × List ℕ) ClassFault → Option ClassFile
file_of (Ok x) = Some x.0
file_of (Err f) = None

abbrev ok_of : ClassFile → Result (ClassFile × List ℕ) ClassFault
ok_of file = Ok (file, [])

abbrev err_of : ClassFault → Result (ClassFile × List ℕ) ClassFault
err_of f = Err f

ok_is : (a b : ClassFile) → ok_of a ≡ ok_of b → a ≡ b
unfolding file_of
ok_is a b e = same_Some a b (ap file_of e)

err_is : (f g : ClassFault) → err_of f ≡ err_of g → f ≡ g
err_is f g e = cc

not_both : (a : ClassFile) (f : ClassFault) → ok_of a ≡ err_of f → ⊥
not_both a f e = cc

module _ (bytes : List ℕ) where
  abbrev reading : Result (ClassFile × List ℕ) ClassFault
  reading = (class_file_part (length bytes)).reads bytes

  pub found : (answer : Result ClassFile (Error ClassFault)) → Gives (λ file. (file, [])) answer reading → IfOk answer (IsClassFile bytes)
  found (Ok file) h = (lawful_class_file (length bytes)).found bytes file [] h
  found (Err e) h = tt

  pub fault_found : (answer : Result ClassFile (Error ClassFault)) → Gives (λ file. (file, [])) answer reading → IfErr answer (IsFaultOf bytes)
  fault_found (Ok file) h = tt
  fault_found (Err (error.Bad f)) h = (lawful_class_file (length bytes)).failed bytes f h
  fault_found (Err error.OutOfMemory) h = tt

  pub only : (answer : Result ClassFile (Error ClassFault)) → Gives (λ file. (file, [])) answer reading → (file : ClassFile) → IsClassFile bytes file → IsReadAs file answer
  only (Ok got) h file is = ok_is got file (sym h ∙ (lawful_class_file (length bytes)).only bytes file [] is)
  only (Err (error.Bad f)) h file is = not_both file f (sym ((lawful_class_file (length bytes)).only bytes file [] is) ∙ h)
  only (Err error.OutOfMemory) h file is = tt

  pub only_fault : (answer : Result ClassFile (Error ClassFault)) → Gives (λ file. (file, [])) answer reading → (at : ℕ) (kind : ClassKind) → IsClassFault bytes at kind → IsRefusedFor at kind answer
  only_fault (Ok got) h at kind is = not_both got (class_fault at kind) (sym h ∙ (lawful_class_file (length bytes)).fails_only bytes (class_fault at kind) is)
  only_fault (Err (error.Bad f)) h at kind is = err_is f (class_fault at kind) (sym h ∙ (lawful_class_file (length bytes)).fails_only bytes (class_fault at kind) is)
  only_fault (Err error.OutOfMemory) h at kind is = tt

  -- ---- one reading

  pub one_file : (a b : ClassFile) → IsClassFile bytes a → IsClassFile bytes b → a ≡ b
  one_file a b h k = ok_is a b (sym ((lawful_class_file (length bytes)).only bytes a [] h) ∙ (lawful_class_file (length bytes)).only bytes b [] k)

  pub one_fault : (i j : ℕ) (k l : ClassKind) → IsClassFault bytes i k → IsClassFault bytes j l → class_fault i k ≡ class_fault j l
  one_fault i j k l g h = err_is (class_fault i k) (class_fault j l) (sym ((lawful_class_file (length bytes)).fails_only bytes (class_fault i k) g) ∙ (lawful_class_file (length bytes)).fails_only bytes (class_fault j l) h)

  pub never_both : (file : ClassFile) (at : ℕ) (kind : ClassKind) → IsClassFile bytes file → IsClassFault bytes at kind → ⊥
  never_both file at kind h k = not_both file (class_fault at kind) (sym ((lawful_class_file (length bytes)).only bytes file [] h) ∙ (lawful_class_file (length bytes)).fails_only bytes (class_fault at kind) k)
