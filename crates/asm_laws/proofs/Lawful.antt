-- The parts of a class file are lawful.
use Rattle.std.proofs.Common.{ℕ, zero, suc, List, Bool, Option}
use Rattle.jx_base.specs.declared.class_file.Code.{Code}
use Rattle.jx_base.specs.declared.class_file.Constant.{Constant}
use Rattle.jx_base.specs.declared.constant_tag.ConstantTag.{ConstantTag}
use Rattle.jx_base.specs.declared.constant_tag.ConstantTag.TheVariants as tag
use Rattle.jx_base.specs.declared.fault.ClassFault.{ClassFault}
use Rattle.class_grammar.specs.Constants.{index_pair, utf8_body, skipped_body, constant_body, constant_part, constants_part}
use Rattle.class_grammar.specs.Members.{name_part, class_index, skipped_attribute, skipped_attributes, range_part, table_part, code_part, code_body, method_attributes, method_part, field_part}
use Rattle.class_grammar.specs.ClassGrammar.{version_part, pool_part, interface_part, heading_part}
use Rattle.class_grammar.proofs.PartLaws.{IsLawful, Tells, lawful-bind, lawful-either, lawful-done, lawful-demand, lawful-no_fault, lawful-known, lawful-meant, lawful-room, lawful-here, lawful-bytes_of, lawful-number, lawful-repeated, lawful-enclosed}
use Rattle.class_grammar.specs.ModifiedUtf8.{IsModifiedUtf8, text_of_bytes}
use Rattle.class_texts.proofs.TextLaws.{text_law}
use Rattle.class_texts.proofs.DescriptorLaws.{field_law, method_law}

-- the parts that others are made of
ruleset parts = (lawful-bind, lawful-either, lawful-done, lawful-demand, lawful-no_fault, lawful-known, lawful-room, lawful-here, lawful-bytes_of, lawful-number, lawful-repeated, lawful-enclosed)

-- ---- constants

lawful_pair : (size : ℕ) → IsLawful (index_pair size)
unfolding index_pair
lawful_pair size = search parts depth 24

tells_text : (bytes : List ℕ) → Tells (IsModifiedUtf8 bytes) (text_of_bytes bytes)
tells_text bytes = record { told = λ text. (text_law bytes text).0; meant_only = λ text. (text_law bytes text).1 }

lawful_utf8 : (size at : ℕ) → IsLawful (utf8_body size at)
unfolding utf8_body
lawful_utf8 size at = search (parts, lawful-meant, tells_text) depth 24

lawful_skipped : (size number n : ℕ) → IsLawful (skipped_body size number n)
unfolding skipped_body
lawful_skipped size number n = search parts depth 24

ruleset bodies = (parts, lawful_pair, lawful_skipped)

lawful_body : (size at : ℕ) (t : ConstantTag) → IsLawful (constant_body size at t)
unfolding constant_body
lawful_body size at tag.Utf8 = lawful_utf8 size at
lawful_body size at _ = search bodies depth 24

lawful_constant : (size : ℕ) → IsLawful (constant_part size)
unfolding constant_part
lawful_constant size = search (parts, lawful_body) depth 24

lawful_constants : (size n : ℕ) → IsLawful (constants_part size n)
unfolding constants_part
lawful_constants size zero = lawful-done _
lawful_constants size (suc zero) = search (parts, lawful_constant) depth 24
lawful_constants size (suc (suc n)) =
    lawful-bind _ _ (lawful_constant size) (λ c. lawful-either _ _ _
    (lawful-bind _ _ (lawful_constants size n) (λ cs. lawful-done _))
    (lawful-bind _ _ (lawful_constants size (suc n)) (λ cs. lawful-done _)))

-- ---- attributes

pub lawful_name : (size : ℕ) (cut : ClassFault) (constants : List Constant) → IsLawful (name_part size cut constants)
unfolding name_part
lawful_name size cut constants = search parts depth 24

lawful_index : (size : ℕ) (constants : List Constant) → IsLawful (class_index size constants)
unfolding class_index
lawful_index size constants = search parts depth 24

lawful_attribute : (size : ℕ) (cut : ClassFault) (constants : List Constant) → IsLawful (skipped_attribute size cut constants)
unfolding skipped_attribute
lawful_attribute size cut constants = search (parts, lawful_name) depth 24

lawful_attributes : (size : ℕ) (cut : ClassFault) (constants : List Constant) → IsLawful (skipped_attributes size cut constants)
unfolding skipped_attributes
lawful_attributes size cut constants = search (parts, lawful_attribute) depth 24

-- ---- code

lawful_range : (size : ℕ) (cut : ClassFault) (constants : List Constant) → IsLawful (range_part size cut constants)
unfolding range_part
lawful_range size cut constants = search parts depth 24

lawful_table : (size : ℕ) (cut : ClassFault) (constants : List Constant) → IsLawful (table_part size cut constants)
unfolding table_part
lawful_table size cut constants = search (parts, lawful_range) depth 24

lawful_code : (size : ℕ) (cut : ClassFault) (constants : List Constant) → IsLawful (code_part size cut constants)
unfolding code_part
lawful_code size cut constants = search (parts, lawful_table, lawful_attributes) depth 24

lawful_code_body : (size at : ℕ) (constants : List Constant) (n : ℕ) → IsLawful (code_body size at constants n)
unfolding code_body
lawful_code_body size at constants n = search (parts, lawful_code) depth 24

-- ---- methods and fields

lawful_method_attributes : (size : ℕ) (constants : List Constant) (may_have : Bool) (k : ℕ) (code : Option Code) → IsLawful (method_attributes size constants may_have k code)
unfolding method_attributes
lawful_method_attributes size constants may_have zero code = lawful-done _
lawful_method_attributes size constants may_have (suc k) code = search (parts, lawful_name, lawful_code_body, lawful_method_attributes size constants may_have k) depth 24

pub lawful_method : (size : ℕ) (constants : List Constant) (interface : Bool) → IsLawful (method_part size constants interface)
unfolding method_part
lawful_method size constants interface = search (parts, lawful-meant, method_law, lawful_name, lawful_method_attributes) depth 24

pub lawful_field : (size : ℕ) (constants : List Constant) → IsLawful (field_part size constants)
unfolding field_part
lawful_field size constants = search (parts, lawful-meant, field_law, lawful_name, lawful_attributes) depth 24

-- ---- the front of the file

pub lawful_version : (size : ℕ) → IsLawful (version_part size)
unfolding version_part
lawful_version size = search parts depth 24

pub lawful_pool : (size : ℕ) → IsLawful (pool_part size)
unfolding pool_part
lawful_pool size = search (parts, lawful_constants) depth 24

lawful_interface : (size : ℕ) (constants : List Constant) → IsLawful (interface_part size constants)
unfolding interface_part
lawful_interface size constants = search (parts, lawful_index) depth 24

pub lawful_heading : (size : ℕ) (constants : List Constant) → IsLawful (heading_part size constants)
unfolding heading_part
lawful_heading size constants = search (parts, lawful_index, lawful_interface) depth 24
