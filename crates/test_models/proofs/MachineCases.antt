-- Small programs, computed up to their next act.
use Rattle.std.specs.Prelude.{◌≡◌, refl, pos, negsuc, [], ◌∷◌, Some, None, replicate, codes, true, false}
use Rattle.jx_base.specs.declared.act.Act.TheVariants as act
use Rattle.jx_base.specs.declared.act.Reply.TheVariants as reply
use Rattle.jx_base.specs.declared.act.Refusal.TheVariants as refusal
use Rattle.jx_base.specs.declared.value.Word.TheVariants as word
use Rattle.machine_model.specs.Machine.{Does, Idle}
use Rattle.machine_model.specs.BuiltInMethods.{is_short}
use Rattle.opened_models.specs.Opened.{opened_model}
use Rattle.test_models.proofs.Hello.{hello_system}
use Rattle.test_models.proofs.Programs.{class, code_of, method_of, program_with, main_of, main_with, entry, first_act, then_act, ends_with, ends, bad_code, no_fuel, exits}
use Rattle.program_model.specs.Ranges.{is_service_name}

-- ---- the first class: fuel, and code bytes that end the domain

prints : first_act (hello_system 1000000) ≡ Does (act.Print (codes "hi"))
unfolding opened_model
prints = refl

ends_behind_print : then_act (hello_system 1000000) (entry 0 (act.Print (codes "hi")) reply.Done ∷ []) ≡ ends
unfolding opened_model
ends_behind_print = refl

fuel_two_prints : first_act (hello_system 2) ≡ Does (act.Print (codes "hi"))
unfolding opened_model
fuel_two_prints = refl

fuel_two_ends : then_act (hello_system 2) (entry 0 (act.Print (codes "hi")) reply.Done ∷ []) ≡ no_fuel
unfolding opened_model
fuel_two_ends = refl

fuel_three_ends : then_act (hello_system 3) (entry 0 (act.Print (codes "hi")) reply.Done ∷ []) ≡ ends
unfolding opened_model
fuel_three_ends = refl

fuel_one : first_act (hello_system 1) ≡ no_fuel
unfolding opened_model
fuel_one = refl

fuel_none : first_act (hello_system 0) ≡ no_fuel
unfolding opened_model
fuel_none = refl

-- max_stack is 0
no_room_on_the_stack : first_act (main_of 0 (0x12 ∷ 0x01 ∷ 0xb8 ∷ 0x00 ∷ 0x02 ∷ 0xb1 ∷ [])) ≡ bad_code
unfolding opened_model
no_room_on_the_stack = refl

nop_for_return_prints : first_act (main_of 1 (0x12 ∷ 0x01 ∷ 0xb8 ∷ 0x00 ∷ 0x02 ∷ 0x00 ∷ [])) ≡ Does (act.Print (codes "hi"))
unfolding opened_model
nop_for_return_prints = refl

nop_for_return_ends : then_act (main_of 1 (0x12 ∷ 0x01 ∷ 0xb8 ∷ 0x00 ∷ 0x02 ∷ 0x00 ∷ [])) (entry 0 (act.Print (codes "hi")) reply.Done ∷ []) ≡ bad_code
unfolding opened_model
nop_for_return_ends = refl

-- a pc past the code is bad code at any fuel
past_the_code_without_fuel : first_act (program_with 64 1 (code_of 1 1 (0x00 ∷ [])) []) ≡ bad_code
unfolding opened_model
past_the_code_without_fuel = refl

-- ---- exceptions that the machine makes, uncaught

by_zero : first_act (main_of 2 (0x04 ∷ 0x03 ∷ 0x6c ∷ 0xb1 ∷ [])) ≡ ends_with 6
unfolding opened_model
by_zero = refl

null_pointer : first_act (main_of 1 (0x01 ∷ 0xbe ∷ 0xb1 ∷ [])) ≡ ends_with 7
unfolding opened_model
null_pointer = refl

array_index : first_act (main_of 2 (0x04 ∷ 0xbc ∷ 0x0a ∷ 0x04 ∷ 0x2e ∷ 0xb1 ∷ [])) ≡ ends_with 9
unfolding opened_model
array_index = refl

negative_array_index : first_act (main_of 2 (0x04 ∷ 0xbc ∷ 0x0a ∷ 0x02 ∷ 0x2e ∷ 0xb1 ∷ [])) ≡ ends_with 9
unfolding opened_model
negative_array_index = refl

string_index : first_act (main_of 2 (0x12 ∷ 0x01 ∷ 0x05 ∷ 0xb6 ∷ 0x00 ∷ 0x06 ∷ 0xb1 ∷ [])) ≡ ends_with 10
unfolding opened_model
string_index = refl

negative_size : first_act (main_of 1 (0x02 ∷ 0xbc ∷ 0x0a ∷ 0xb1 ∷ [])) ≡ ends_with 11
unfolding opened_model
negative_size = refl

class_cast : first_act (main_of 1 (0x12 ∷ 0x01 ∷ 0xc0 ∷ 0x00 ∷ 0x04 ∷ 0xb1 ∷ [])) ≡ ends_with 12
unfolding opened_model
class_cast = refl

array_store : first_act (main_of 3 (0x04 ∷ 0xbd ∷ 0x00 ∷ 0x05 ∷ 0x03 ∷ 0xbb ∷ 0x00 ∷ 0x04 ∷ 0x53 ∷ 0xb1 ∷ [])) ≡ ends_with 13
unfolding opened_model
array_store = refl

nine_ints_fit : first_act (program_with 16 100 (code_of 1 1 (0x10 ∷ 0x09 ∷ 0xbc ∷ 0x0a ∷ 0xbe ∷ 0xb8 ∷ 0x00 ∷ 0x03 ∷ 0xb1 ∷ [])) []) ≡ exits (pos 9)
unfolding opened_model
nine_ints_fit = refl

ten_ints_do_not_fit : first_act (program_with 16 100 (code_of 1 1 (0x10 ∷ 0x0a ∷ 0xbc ∷ 0x0a ∷ 0xbe ∷ 0xb8 ∷ 0x00 ∷ 0x03 ∷ 0xb1 ∷ [])) []) ≡ ends_with 16
unfolding opened_model
ten_ints_do_not_fit = refl

frame_of_too_many_slots : first_act (program_with 16 100 (code_of 1 65536 (0xb1 ∷ [])) []) ≡ ends_with 17
unfolding opened_model
frame_of_too_many_slots = refl

frame_of_most_slots : first_act (program_with 16 100 (code_of 1 2 (0xb1 ∷ [])) []) ≡ ends
unfolding opened_model
frame_of_most_slots = refl

too_many_frames : first_act (program_with 64 1000 (code_of 0 1 (0xb8 ∷ 0x00 ∷ 0x12 ∷ 0xb1 ∷ [])) (method_of 9 27 37 (Some (code_of 0 0 (0xb8 ∷ 0x00 ∷ 0x12 ∷ 0xb1 ∷ []))) ∷ [])) ≡ ends_with 17
unfolding opened_model
too_many_frames = refl

-- 256 frames take 255 calls
calls_to_the_last_frame : first_act (program_with 64 255 (code_of 0 1 (0xb8 ∷ 0x00 ∷ 0x12 ∷ 0xb1 ∷ [])) (method_of 9 27 37 (Some (code_of 0 0 (0xb8 ∷ 0x00 ∷ 0x12 ∷ 0xb1 ∷ []))) ∷ [])) ≡ no_fuel
unfolding opened_model
calls_to_the_last_frame = refl

-- the call that would make 257 frames
one_call_more : first_act (program_with 64 256 (code_of 0 1 (0xb8 ∷ 0x00 ∷ 0x12 ∷ 0xb1 ∷ [])) (method_of 9 27 37 (Some (code_of 0 0 (0xb8 ∷ 0x00 ∷ 0x12 ∷ 0xb1 ∷ []))) ∷ [])) ≡ ends_with 17
unfolding opened_model
one_call_more = refl

asks_for_memory : first_act (main_of 1 (0x10 ∷ 0x40 ∷ 0xb8 ∷ 0x00 ∷ 0x09 ∷ 0xb6 ∷ 0x00 ∷ 0x0a ∷ 0xb8 ∷ 0x00 ∷ 0x03 ∷ 0xb1 ∷ [])) ≡ Does (act.Alloc (pos 64))
unfolding opened_model
asks_for_memory = refl

asks_for_its_size : then_act (main_of 1 (0x10 ∷ 0x40 ∷ 0xb8 ∷ 0x00 ∷ 0x09 ∷ 0xb6 ∷ 0x00 ∷ 0x0a ∷ 0xb8 ∷ 0x00 ∷ 0x03 ∷ 0xb1 ∷ [])) (entry 0 (act.Alloc (pos 64)) (reply.Made (record { 0 = 1 }) 0) ∷ []) ≡ Does (act.Size (record { 0 = 1 }))
unfolding opened_model
asks_for_its_size = refl

dropped_memory : then_act (main_of 1 (0x10 ∷ 0x40 ∷ 0xb8 ∷ 0x00 ∷ 0x09 ∷ 0xb6 ∷ 0x00 ∷ 0x0a ∷ 0xb8 ∷ 0x00 ∷ 0x03 ∷ 0xb1 ∷ [])) (entry 0 (act.Size (record { 0 = 1 })) (reply.Refused refusal.NotHeld) ∷ entry 0 (act.Alloc (pos 64)) (reply.Made (record { 0 = 1 }) 0) ∷ []) ≡ ends_with 24
unfolding opened_model
dropped_memory = refl

revoked_memory : then_act (main_of 1 (0x10 ∷ 0x40 ∷ 0xb8 ∷ 0x00 ∷ 0x09 ∷ 0xb6 ∷ 0x00 ∷ 0x0a ∷ 0xb8 ∷ 0x00 ∷ 0x03 ∷ 0xb1 ∷ [])) (entry 0 (act.Size (record { 0 = 1 })) (reply.Refused refusal.Revoked) ∷ entry 0 (act.Alloc (pos 64)) (reply.Made (record { 0 = 1 }) 0) ∷ []) ≡ ends_with 23
unfolding opened_model
revoked_memory = refl

memory_of_a_size : then_act (main_of 1 (0x10 ∷ 0x40 ∷ 0xb8 ∷ 0x00 ∷ 0x09 ∷ 0xb6 ∷ 0x00 ∷ 0x0a ∷ 0xb8 ∷ 0x00 ∷ 0x03 ∷ 0xb1 ∷ [])) (entry 0 (act.Size (record { 0 = 1 })) (reply.Number (pos 64)) ∷ entry 0 (act.Alloc (pos 64)) (reply.Made (record { 0 = 1 }) 0) ∷ []) ≡ exits (pos 64)
unfolding opened_model
memory_of_a_size = refl

range_refused : then_act (main_of 1 (0x10 ∷ 0x40 ∷ 0xb8 ∷ 0x00 ∷ 0x09 ∷ 0xb6 ∷ 0x00 ∷ 0x0a ∷ 0xb8 ∷ 0x00 ∷ 0x03 ∷ 0xb1 ∷ [])) (entry 0 (act.Alloc (pos 64)) (reply.Refused refusal.Range) ∷ []) ≡ ends_with 25
unfolding opened_model
range_refused = refl

room_refused : then_act (main_of 1 (0x10 ∷ 0x40 ∷ 0xb8 ∷ 0x00 ∷ 0x09 ∷ 0xb6 ∷ 0x00 ∷ 0x0a ∷ 0xb8 ∷ 0x00 ∷ 0x03 ∷ 0xb1 ∷ [])) (entry 0 (act.Alloc (pos 64)) (reply.Refused refusal.NoRoom) ∷ []) ≡ ends_with 26
unfolding opened_model
room_refused = refl

reads_a_byte : then_act (main_of 2 (0x10 ∷ 0x40 ∷ 0xb8 ∷ 0x00 ∷ 0x09 ∷ 0x04 ∷ 0xb6 ∷ 0x00 ∷ 0x25 ∷ 0xb8 ∷ 0x00 ∷ 0x03 ∷ 0xb1 ∷ [])) (entry 0 (act.Alloc (pos 64)) (reply.Made (record { 0 = 1 }) 0) ∷ []) ≡ Does (act.Get (record { 0 = 1 }) (pos 1) 1)
unfolding opened_model
reads_a_byte = refl

fills_with_the_low_byte : then_act (main_of 4 (0x10 ∷ 0x40 ∷ 0xb8 ∷ 0x00 ∷ 0x09 ∷ 0x04 ∷ 0x05 ∷ 0x11 ∷ 0x01 ∷ 0xc8 ∷ 0xb6 ∷ 0x00 ∷ 0x2a ∷ 0xb1 ∷ [])) (entry 0 (act.Alloc (pos 64)) (reply.Made (record { 0 = 1 }) 0) ∷ []) ≡ Does (act.Fill (record { 0 = 1 }) (pos 1) (pos 2) 200)
unfolding opened_model
fills_with_the_low_byte = refl

splits : then_act (main_of 2 (0x10 ∷ 0x40 ∷ 0xb8 ∷ 0x00 ∷ 0x09 ∷ 0x10 ∷ 0x20 ∷ 0xb6 ∷ 0x00 ∷ 0x29 ∷ 0xbe ∷ 0xb8 ∷ 0x00 ∷ 0x03 ∷ 0xb1 ∷ [])) (entry 0 (act.Alloc (pos 64)) (reply.Made (record { 0 = 1 }) 0) ∷ []) ≡ Does (act.Split (record { 0 = 1 }) (pos 32))
unfolding opened_model
splits = refl

both_halves : then_act (main_of 2 (0x10 ∷ 0x40 ∷ 0xb8 ∷ 0x00 ∷ 0x09 ∷ 0x10 ∷ 0x20 ∷ 0xb6 ∷ 0x00 ∷ 0x29 ∷ 0xbe ∷ 0xb8 ∷ 0x00 ∷ 0x03 ∷ 0xb1 ∷ [])) (entry 0 (act.Split (record { 0 = 1 }) (pos 32)) (reply.Pair (record { 0 = 2 }) (record { 0 = 3 })) ∷ entry 0 (act.Alloc (pos 64)) (reply.Made (record { 0 = 1 }) 0) ∷ []) ≡ exits (pos 2)
unfolding opened_model
both_halves = refl

first_half_first : then_act (main_of 2 (0x10 ∷ 0x40 ∷ 0xb8 ∷ 0x00 ∷ 0x09 ∷ 0x10 ∷ 0x20 ∷ 0xb6 ∷ 0x00 ∷ 0x29 ∷ 0x03 ∷ 0x32 ∷ 0xb6 ∷ 0x00 ∷ 0x0a ∷ 0xb8 ∷ 0x00 ∷ 0x03 ∷ 0xb1 ∷ [])) (entry 0 (act.Split (record { 0 = 1 }) (pos 32)) (reply.Pair (record { 0 = 2 }) (record { 0 = 3 })) ∷ entry 0 (act.Alloc (pos 64)) (reply.Made (record { 0 = 1 }) 0) ∷ []) ≡ Does (act.Size (record { 0 = 2 }))
unfolding opened_model
first_half_first = refl

-- the array takes four cells, and three are left
no_room_for_both_halves : then_act (program_with 8 100 (code_of 2 1 (0x10 ∷ 0x40 ∷ 0xb8 ∷ 0x00 ∷ 0x09 ∷ 0x10 ∷ 0x20 ∷ 0xb6 ∷ 0x00 ∷ 0x29 ∷ 0xbe ∷ 0xb8 ∷ 0x00 ∷ 0x03 ∷ 0xb1 ∷ [])) []) (entry 0 (act.Split (record { 0 = 1 }) (pos 32)) (reply.Pair (record { 0 = 2 }) (record { 0 = 3 })) ∷ entry 0 (act.Alloc (pos 64)) (reply.Made (record { 0 = 1 }) 0) ∷ []) ≡ ends_with 16
unfolding opened_model
no_room_for_both_halves = refl

-- ---- handlers

first_that_fits : first_act (program_with 64 100 (record (code_of 2 1 (0x04 ∷ 0x03 ∷ 0x6c ∷ 0x57 ∷ 0xb1 ∷ 0x57 ∷ 0x05 ∷ 0xb8 ∷ 0x00 ∷ 0x03 ∷ 0xb1 ∷ 0x57 ∷ 0x06 ∷ 0xb8 ∷ 0x00 ∷ 0x03 ∷ 0xb1 ∷ [])) { table = record { start = 0; end = 3; handler = 5; catch_type = 8 } ∷ record { start = 0; end = 3; handler = 11; catch_type = 7 } ∷ record { start = 0; end = 3; handler = 5; catch_type = 0 } ∷ [] }) []) ≡ exits (pos 3)
unfolding opened_model
first_that_fits = refl

catches_all : first_act (program_with 64 100 (record (code_of 2 1 (0x04 ∷ 0x03 ∷ 0x6c ∷ 0x57 ∷ 0xb1 ∷ 0x57 ∷ 0x05 ∷ 0xb8 ∷ 0x00 ∷ 0x03 ∷ 0xb1 ∷ 0x57 ∷ 0x06 ∷ 0xb8 ∷ 0x00 ∷ 0x03 ∷ 0xb1 ∷ [])) { table = record { start = 0; end = 3; handler = 5; catch_type = 8 } ∷ record { start = 0; end = 3; handler = 5; catch_type = 0 } ∷ [] }) []) ≡ exits (pos 2)
unfolding opened_model
catches_all = refl

only_others : first_act (program_with 64 100 (record (code_of 2 1 (0x04 ∷ 0x03 ∷ 0x6c ∷ 0x57 ∷ 0xb1 ∷ 0x57 ∷ 0x05 ∷ 0xb8 ∷ 0x00 ∷ 0x03 ∷ 0xb1 ∷ 0x57 ∷ 0x06 ∷ 0xb8 ∷ 0x00 ∷ 0x03 ∷ 0xb1 ∷ [])) { table = record { start = 0; end = 3; handler = 5; catch_type = 8 } ∷ [] }) []) ≡ ends_with 6
unfolding opened_model
only_others = refl

range_ends_before : first_act (program_with 64 100 (record (code_of 2 1 (0x04 ∷ 0x03 ∷ 0x6c ∷ 0x57 ∷ 0xb1 ∷ 0x57 ∷ 0x05 ∷ 0xb8 ∷ 0x00 ∷ 0x03 ∷ 0xb1 ∷ 0x57 ∷ 0x06 ∷ 0xb8 ∷ 0x00 ∷ 0x03 ∷ 0xb1 ∷ [])) { table = record { start = 0; end = 2; handler = 5; catch_type = 0 } ∷ [] }) []) ≡ ends_with 6
unfolding opened_model
range_ends_before = refl

range_begins_behind : first_act (program_with 64 100 (record (code_of 2 1 (0x04 ∷ 0x03 ∷ 0x6c ∷ 0x57 ∷ 0xb1 ∷ 0x57 ∷ 0x05 ∷ 0xb8 ∷ 0x00 ∷ 0x03 ∷ 0xb1 ∷ 0x57 ∷ 0x06 ∷ 0xb8 ∷ 0x00 ∷ 0x03 ∷ 0xb1 ∷ [])) { table = record { start = 3; end = 5; handler = 5; catch_type = 0 } ∷ [] }) []) ≡ ends_with 6
unfolding opened_model
range_begins_behind = refl

-- the object alone is deeper than max_stack 0
handler_without_stack : first_act (program_with 64 100 (record (code_of 0 1 (0xb8 ∷ 0x00 ∷ 0x12 ∷ 0xb1 ∷ 0xb1 ∷ [])) { table = record { start = 0; end = 3; handler = 4; catch_type = 0 } ∷ [] }) (method_of 9 27 37 (Some (code_of 2 0 (0x01 ∷ 0xbf ∷ []))) ∷ [])) ≡ bad_code
unfolding opened_model
handler_without_stack = refl

handler_of_a_caller : first_act (program_with 64 100 (record (code_of 1 1 (0xb8 ∷ 0x00 ∷ 0x12 ∷ 0xb1 ∷ 0x57 ∷ 0x05 ∷ 0xb8 ∷ 0x00 ∷ 0x03 ∷ 0xb1 ∷ [])) { table = record { start = 0; end = 3; handler = 4; catch_type = 0 } ∷ [] }) (method_of 9 27 37 (Some (code_of 2 0 (0x01 ∷ 0xbf ∷ []))) ∷ [])) ≡ exits (pos 2)
unfolding opened_model
handler_of_a_caller = refl

-- ---- bad code

pop_of_nothing : first_act (main_of 1 (0x57 ∷ 0xb1 ∷ [])) ≡ bad_code
unfolding opened_model
pop_of_nothing = refl

array_length_of_an_object : first_act (main_of 1 (0x12 ∷ 0x01 ∷ 0xbe ∷ 0xb1 ∷ [])) ≡ bad_code
unfolding opened_model
array_length_of_an_object = refl

int_from_a_reference_array : first_act (main_of 2 (0x04 ∷ 0xbd ∷ 0x00 ∷ 0x05 ∷ 0x03 ∷ 0x2e ∷ 0xb1 ∷ [])) ≡ bad_code
unfolding opened_model
int_from_a_reference_array = refl

short_from_an_int_array : first_act (main_of 2 (0x04 ∷ 0xbc ∷ 0x0a ∷ 0x03 ∷ 0x35 ∷ 0xb1 ∷ [])) ≡ bad_code
unfolding opened_model
short_from_an_int_array = refl

throw_of_a_text : first_act (main_of 1 (0x12 ∷ 0x01 ∷ 0xbf ∷ [])) ≡ bad_code
unfolding opened_model
throw_of_a_text = refl

field_of_another_class : first_act (main_of 1 (0x12 ∷ 0x01 ∷ 0xb4 ∷ 0x00 ∷ 0x1d ∷ 0xb1 ∷ [])) ≡ bad_code
unfolding opened_model
field_of_another_class = refl

-- what is taken is looked at before null
wrong_value_for_a_field_of_null : first_act (main_of 2 (0x01 ∷ 0x01 ∷ 0xb5 ∷ 0x00 ∷ 0x1d ∷ 0xb1 ∷ [])) ≡ bad_code
unfolding opened_model
wrong_value_for_a_field_of_null = refl

null_field : first_act (main_of 2 (0x01 ∷ 0x04 ∷ 0xb5 ∷ 0x00 ∷ 0x1d ∷ 0xb1 ∷ [])) ≡ ends_with 7
unfolding opened_model
null_field = refl

text_field_of_a_builder : first_act (main_of 2 (0xbb ∷ 0x00 ∷ 0x14 ∷ 0xbb ∷ 0x00 ∷ 0x04 ∷ 0xb5 ∷ 0x00 ∷ 0x1e ∷ 0xb1 ∷ [])) ≡ bad_code
unfolding opened_model
text_field_of_a_builder = refl

wrong_argument : first_act (main_of 1 (0x04 ∷ 0xb8 ∷ 0x00 ∷ 0x02 ∷ 0xb1 ∷ [])) ≡ bad_code
unfolding opened_model
wrong_argument = refl

missing_argument : first_act (main_of 1 (0xb8 ∷ 0x00 ∷ 0x02 ∷ 0xb1 ∷ [])) ≡ bad_code
unfolding opened_model
missing_argument = refl

-- a String is no StringBuilder
wrong_receiver : first_act (main_of 1 (0x12 ∷ 0x01 ∷ 0xb6 ∷ 0x00 ∷ 0x0d ∷ 0xb1 ∷ [])) ≡ bad_code
unfolding opened_model
wrong_receiver = refl

int_as_receiver : first_act (main_of 1 (0x04 ∷ 0xb6 ∷ 0x00 ∷ 0x0e ∷ 0xb1 ∷ [])) ≡ bad_code
unfolding opened_model
int_as_receiver = refl

null_receiver : first_act (main_of 1 (0x01 ∷ 0xb6 ∷ 0x00 ∷ 0x0e ∷ 0xb1 ∷ [])) ≡ ends_with 7
unfolding opened_model
null_receiver = refl

value_of_a_void_method : first_act (main_of 1 (0x04 ∷ 0xac ∷ [])) ≡ bad_code
unfolding opened_model
value_of_a_void_method = refl

wrong_result : first_act (main_with 1 (0xb8 ∷ 0x00 ∷ 0x12 ∷ 0xb1 ∷ []) (method_of 9 27 40 (Some (code_of 1 0 (0x04 ∷ 0xac ∷ []))) ∷ [])) ≡ bad_code
unfolding opened_model
wrong_result = refl

result_that_does_not_fit : first_act (main_with 1 (0xb8 ∷ 0x00 ∷ 0x12 ∷ 0xb1 ∷ []) (method_of 9 27 40 (Some (code_of 1 0 (0xbb ∷ 0x00 ∷ 0x04 ∷ 0xb0 ∷ []))) ∷ [])) ≡ bad_code
unfolding opened_model
result_that_does_not_fit = refl

no_result : first_act (main_with 1 (0xb8 ∷ 0x00 ∷ 0x12 ∷ 0xb1 ∷ []) (method_of 9 27 39 (Some (code_of 1 0 (0xb1 ∷ []))) ∷ [])) ≡ bad_code
unfolding opened_model
no_result = refl

result_deeper_than_the_stack : first_act (main_with 0 (0xb8 ∷ 0x00 ∷ 0x12 ∷ 0xb1 ∷ []) (method_of 9 27 39 (Some (code_of 1 0 (0x04 ∷ 0xac ∷ []))) ∷ [])) ≡ bad_code
unfolding opened_model
result_deeper_than_the_stack = refl

abstract_method : first_act (main_with 1 (0xbb ∷ 0x00 ∷ 0x14 ∷ 0xb6 ∷ 0x00 ∷ 0x12 ∷ 0xb1 ∷ []) (method_of 1025 31 37 None ∷ [])) ≡ bad_code
unfolding opened_model
abstract_method = refl

-- the object has no such method
absent_method : first_act (main_with 1 (0xbb ∷ 0x00 ∷ 0x14 ∷ 0xb9 ∷ 0x00 ∷ 0x12 ∷ 0x01 ∷ 0x00 ∷ 0xb1 ∷ []) (method_of 1025 33 37 None ∷ [])) ≡ bad_code
unfolding opened_model
absent_method = refl

arguments_without_room : first_act (main_with 1 (0x04 ∷ 0xb8 ∷ 0x00 ∷ 0x12 ∷ 0xb1 ∷ []) (method_of 9 27 38 (Some (code_of 0 0 (0xb1 ∷ []))) ∷ [])) ≡ bad_code
unfolding opened_model
arguments_without_room = refl

no_object_of_a_call : first_act (main_of 1 (0xb6 ∷ 0x00 ∷ 0x0e ∷ 0xb1 ∷ [])) ≡ bad_code
unfolding opened_model
no_object_of_a_call = refl

-- ---- calls

result_of_a_call : first_act (main_with 1 (0xb8 ∷ 0x00 ∷ 0x12 ∷ 0xb8 ∷ 0x00 ∷ 0x03 ∷ 0xb1 ∷ []) (method_of 9 27 39 (Some (code_of 1 0 (0x06 ∷ 0xac ∷ []))) ∷ [])) ≡ exits (pos 3)
unfolding opened_model
result_of_a_call = refl

-- any object may be called through an interface that it has the method of
interface_call_of_another_class : first_act (main_with 1 (0xbb ∷ 0x00 ∷ 0x14 ∷ 0xb9 ∷ 0x00 ∷ 0x12 ∷ 0x01 ∷ 0x00 ∷ 0xb8 ∷ 0x00 ∷ 0x03 ∷ 0xb1 ∷ []) (method_of 1025 33 39 None ∷ method_of 1 31 39 (Some (code_of 1 1 (0x07 ∷ 0xac ∷ []))) ∷ [])) ≡ exits (pos 4)
unfolding opened_model
interface_call_of_another_class = refl

object_passed_as_an_interface : first_act (main_with 1 (0xbb ∷ 0x00 ∷ 0x14 ∷ 0xb8 ∷ 0x00 ∷ 0x12 ∷ 0x04 ∷ 0xb8 ∷ 0x00 ∷ 0x03 ∷ 0xb1 ∷ []) (method_of 9 27 42 (Some (code_of 0 1 (0xb1 ∷ []))) ∷ [])) ≡ exits (pos 1)
unfolding opened_model
object_passed_as_an_interface = refl

text_passed_as_an_interface : first_act (main_with 1 (0x12 ∷ 0x01 ∷ 0xb8 ∷ 0x00 ∷ 0x12 ∷ 0x04 ∷ 0xb8 ∷ 0x00 ∷ 0x03 ∷ 0xb1 ∷ []) (method_of 9 27 42 (Some (code_of 0 1 (0xb1 ∷ []))) ∷ [])) ≡ exits (pos 1)
unfolding opened_model
text_passed_as_an_interface = refl

static_method_is_not_selected : first_act (main_with 1 (0xbb ∷ 0x00 ∷ 0x14 ∷ 0xb9 ∷ 0x00 ∷ 0x12 ∷ 0x01 ∷ 0x00 ∷ 0xb8 ∷ 0x00 ∷ 0x03 ∷ 0xb1 ∷ []) (method_of 0x0401 33 39 None ∷ method_of 9 31 39 (Some (code_of 1 1 (0x07 ∷ 0xac ∷ []))) ∷ [])) ≡ bad_code
unfolding opened_model
static_method_is_not_selected = refl

stack_below_stays : first_act (main_with 2 (0x06 ∷ 0xb8 ∷ 0x00 ∷ 0x12 ∷ 0x60 ∷ 0xb8 ∷ 0x00 ∷ 0x03 ∷ 0xb1 ∷ []) (method_of 9 27 39 (Some (code_of 1 0 (0x07 ∷ 0xac ∷ []))) ∷ [])) ≡ exits (pos 7)
unfolding opened_model
stack_below_stays = refl

packs_the_arguments : then_act (main_with 2 (0x12 ∷ 0x01 ∷ 0xb8 ∷ 0x00 ∷ 0x15 ∷ 0xc0 ∷ 0x00 ∷ 0x20 ∷ 0x08 ∷ 0xb9 ∷ 0x00 ∷ 0x12 ∷ 0x02 ∷ 0x00 ∷ 0xb1 ∷ []) (method_of 0x0401 33 38 None ∷ [])) (entry 0 (act.Lookup (codes "hi")) (reply.Service (record { 0 = 1 }) (class 33)) ∷ []) ≡ Does (act.Call (record { 0 = 1 }) (record { 0 = 38 }) (record { roots = word.Int (pos 5) ∷ []; nodes = [] }))
unfolding opened_model
packs_the_arguments = refl

four_instructions_up_to_the_answer : then_act (program_with 64 4 (code_of 1 1 (0x12 ∷ 0x01 ∷ 0xb8 ∷ 0x00 ∷ 0x15 ∷ 0xc0 ∷ 0x00 ∷ 0x20 ∷ 0xb9 ∷ 0x00 ∷ 0x12 ∷ 0x01 ∷ 0x00 ∷ 0xb8 ∷ 0x00 ∷ 0x03 ∷ 0xb1 ∷ [])) (method_of 0x0401 33 39 None ∷ [])) (entry 0 (act.Resume (record { 0 = 1 })) (reply.Value (record { roots = word.Int (pos 7) ∷ []; nodes = [] })) ∷ entry 0 (act.Call (record { 0 = 1 }) (record { 0 = 39 }) (record { roots = []; nodes = [] })) (reply.Queued (record { 0 = 1 })) ∷ entry 0 (act.Lookup (codes "hi")) (reply.Service (record { 0 = 1 }) (class 33)) ∷ []) ≡ no_fuel
unfolding opened_model
four_instructions_up_to_the_answer = refl

the_fifth_behind_it : then_act (program_with 64 5 (code_of 1 1 (0x12 ∷ 0x01 ∷ 0xb8 ∷ 0x00 ∷ 0x15 ∷ 0xc0 ∷ 0x00 ∷ 0x20 ∷ 0xb9 ∷ 0x00 ∷ 0x12 ∷ 0x01 ∷ 0x00 ∷ 0xb8 ∷ 0x00 ∷ 0x03 ∷ 0xb1 ∷ [])) (method_of 0x0401 33 39 None ∷ [])) (entry 0 (act.Resume (record { 0 = 1 })) (reply.Value (record { roots = word.Int (pos 7) ∷ []; nodes = [] })) ∷ entry 0 (act.Call (record { 0 = 1 }) (record { 0 = 39 }) (record { roots = []; nodes = [] })) (reply.Queued (record { 0 = 1 })) ∷ entry 0 (act.Lookup (codes "hi")) (reply.Service (record { 0 = 1 }) (class 33)) ∷ []) ≡ exits (pos 7)
unfolding opened_model
the_fifth_behind_it = refl

-- ---- fields

byte_field_is_cut : first_act (main_of 3 (0xbb ∷ 0x00 ∷ 0x14 ∷ 0x59 ∷ 0x11 ∷ 0x00 ∷ 0xc8 ∷ 0xb5 ∷ 0x00 ∷ 0x1d ∷ 0xb4 ∷ 0x00 ∷ 0x1d ∷ 0xb8 ∷ 0x00 ∷ 0x03 ∷ 0xb1 ∷ [])) ≡ exits (negsuc 55)
unfolding opened_model
byte_field_is_cut = refl

static_short_is_cut : first_act (main_of 1 (0x12 ∷ 0x18 ∷ 0xb3 ∷ 0x00 ∷ 0x24 ∷ 0xb2 ∷ 0x00 ∷ 0x24 ∷ 0xb8 ∷ 0x00 ∷ 0x03 ∷ 0xb1 ∷ [])) ≡ exits (pos 4464)
unfolding opened_model
static_short_is_cut = refl

fields_have_defaults : first_act (main_of 1 (0xbb ∷ 0x00 ∷ 0x14 ∷ 0xb4 ∷ 0x00 ∷ 0x1d ∷ 0xb8 ∷ 0x00 ∷ 0x03 ∷ 0xb1 ∷ [])) ≡ exits (pos 0)
unfolding opened_model
fields_have_defaults = refl

text_field_is_null : first_act (main_of 1 (0xbb ∷ 0x00 ∷ 0x14 ∷ 0xb4 ∷ 0x00 ∷ 0x1e ∷ 0xb6 ∷ 0x00 ∷ 0x0e ∷ 0xb8 ∷ 0x00 ∷ 0x03 ∷ 0xb1 ∷ [])) ≡ ends_with 7
unfolding opened_model
text_field_is_null = refl

-- ---- arrays

byte_array_is_cut : first_act (main_of 4 (0x04 ∷ 0xbc ∷ 0x08 ∷ 0x59 ∷ 0x03 ∷ 0x11 ∷ 0x00 ∷ 0xc8 ∷ 0x54 ∷ 0x03 ∷ 0x33 ∷ 0xb8 ∷ 0x00 ∷ 0x03 ∷ 0xb1 ∷ [])) ≡ exits (negsuc 55)
unfolding opened_model
byte_array_is_cut = refl

char_array_is_cut : first_act (main_of 4 (0x04 ∷ 0xbc ∷ 0x05 ∷ 0x59 ∷ 0x03 ∷ 0x02 ∷ 0x55 ∷ 0x03 ∷ 0x34 ∷ 0xb8 ∷ 0x00 ∷ 0x03 ∷ 0xb1 ∷ [])) ≡ exits (pos 65535)
unfolding opened_model
char_array_is_cut = refl

short_array_is_cut : first_act (main_of 4 (0x04 ∷ 0xbc ∷ 0x09 ∷ 0x59 ∷ 0x03 ∷ 0x12 ∷ 0x18 ∷ 0x56 ∷ 0x03 ∷ 0x35 ∷ 0xb8 ∷ 0x00 ∷ 0x03 ∷ 0xb1 ∷ [])) ≡ exits (pos 4464)
unfolding opened_model
short_array_is_cut = refl

boolean_array_is_cut : first_act (main_of 4 (0x04 ∷ 0xbc ∷ 0x04 ∷ 0x59 ∷ 0x03 ∷ 0x06 ∷ 0x54 ∷ 0x03 ∷ 0x33 ∷ 0xb8 ∷ 0x00 ∷ 0x03 ∷ 0xb1 ∷ [])) ≡ exits (pos 1)
unfolding opened_model
boolean_array_is_cut = refl

long_array_keeps_longs : first_act (main_of 5 (0x04 ∷ 0xbc ∷ 0x0b ∷ 0x59 ∷ 0x03 ∷ 0x14 ∷ 0x00 ∷ 0x17 ∷ 0x50 ∷ 0x03 ∷ 0x2f ∷ 0x88 ∷ 0xb8 ∷ 0x00 ∷ 0x03 ∷ 0xb1 ∷ [])) ≡ exits (pos 7)
unfolding opened_model
long_array_keeps_longs = refl

char_store_into_shorts : first_act (main_of 4 (0x04 ∷ 0xbc ∷ 0x09 ∷ 0x03 ∷ 0x04 ∷ 0x55 ∷ 0xb8 ∷ 0x00 ∷ 0x03 ∷ 0xb1 ∷ [])) ≡ bad_code
unfolding opened_model
char_store_into_shorts = refl

long_store_of_an_int : first_act (main_of 4 (0x04 ∷ 0xbc ∷ 0x0b ∷ 0x03 ∷ 0x04 ∷ 0x50 ∷ 0xb8 ∷ 0x00 ∷ 0x03 ∷ 0xb1 ∷ [])) ≡ bad_code
unfolding opened_model
long_store_of_an_int = refl

sum_of_elements : first_act (main_of 4 (0x04 ∷ 0xbc ∷ 0x0a ∷ 0x59 ∷ 0x03 ∷ 0x10 ∷ 0x07 ∷ 0x4f ∷ 0x03 ∷ 0x2e ∷ 0xb8 ∷ 0x00 ∷ 0x03 ∷ 0xb1 ∷ [])) ≡ exits (pos 7)
unfolding opened_model
sum_of_elements = refl

store_at_a_bad_index : first_act (main_of 3 (0x04 ∷ 0xbc ∷ 0x0a ∷ 0x04 ∷ 0x05 ∷ 0x4f ∷ 0xb1 ∷ [])) ≡ ends_with 9
unfolding opened_model
store_at_a_bad_index = refl

store_into_null : first_act (main_of 3 (0x01 ∷ 0x04 ∷ 0x05 ∷ 0x4f ∷ 0xb1 ∷ [])) ≡ ends_with 7
unfolding opened_model
store_into_null = refl

wrong_kind_into_null : first_act (main_of 3 (0x01 ∷ 0x04 ∷ 0x01 ∷ 0x4f ∷ 0xb1 ∷ [])) ≡ bad_code
unfolding opened_model
wrong_kind_into_null = refl

array_of_arrays_has_both_lengths : first_act (main_of 2 (0x05 ∷ 0x06 ∷ 0xc5 ∷ 0x00 ∷ 0x1f ∷ 0x02 ∷ 0x04 ∷ 0x32 ∷ 0xbe ∷ 0xb8 ∷ 0x00 ∷ 0x03 ∷ 0xb1 ∷ [])) ≡ exits (pos 3)
unfolding opened_model
array_of_arrays_has_both_lengths = refl

below_the_last_length_is_null : first_act (main_of 2 (0x05 ∷ 0x06 ∷ 0xc5 ∷ 0x00 ∷ 0x2d ∷ 0x02 ∷ 0x04 ∷ 0x32 ∷ 0x04 ∷ 0x32 ∷ 0xbe ∷ 0xb8 ∷ 0x00 ∷ 0x03 ∷ 0xb1 ∷ [])) ≡ ends_with 7
unfolding opened_model
below_the_last_length_is_null = refl

negative_length_comes_first : first_act (main_of 2 (0x10 ∷ 0x64 ∷ 0x02 ∷ 0xc5 ∷ 0x00 ∷ 0x1f ∷ 0x02 ∷ 0xb1 ∷ [])) ≡ ends_with 11
unfolding opened_model
negative_length_comes_first = refl

-- 4 cells for the outer one and 5 for its first element leave 2
no_room_for_all_arrays : first_act (program_with 16 100 (code_of 2 1 (0x05 ∷ 0x06 ∷ 0xc5 ∷ 0x00 ∷ 0x1f ∷ 0x02 ∷ 0xb1 ∷ [])) []) ≡ ends_with 16
unfolding opened_model
no_room_for_all_arrays = refl

no_elements : first_act (main_of 2 (0x03 ∷ 0x06 ∷ 0xc5 ∷ 0x00 ∷ 0x1f ∷ 0x02 ∷ 0xbe ∷ 0xb8 ∷ 0x00 ∷ 0x03 ∷ 0xb1 ∷ [])) ≡ exits (pos 0)
unfolding opened_model
no_elements = refl

-- ---- texts

length_of_a_text : first_act (main_of 1 (0x12 ∷ 0x01 ∷ 0xb6 ∷ 0x00 ∷ 0x0e ∷ 0xb8 ∷ 0x00 ∷ 0x03 ∷ 0xb1 ∷ [])) ≡ exits (pos 2)
unfolding opened_model
length_of_a_text = refl

unit_of_a_text : first_act (main_of 2 (0x12 ∷ 0x01 ∷ 0x04 ∷ 0xb6 ∷ 0x00 ∷ 0x06 ∷ 0xb8 ∷ 0x00 ∷ 0x03 ∷ 0xb1 ∷ [])) ≡ exits (pos 105)
unfolding opened_model
unit_of_a_text = refl

-- 31 times 104 and 105
hash_of_a_text : first_act (main_of 1 (0x12 ∷ 0x01 ∷ 0xb6 ∷ 0x00 ∷ 0x10 ∷ 0xb8 ∷ 0x00 ∷ 0x03 ∷ 0xb1 ∷ [])) ≡ exits (pos 3329)
unfolding opened_model
hash_of_a_text = refl

text_equals_itself : first_act (main_of 2 (0x12 ∷ 0x01 ∷ 0x12 ∷ 0x01 ∷ 0xb6 ∷ 0x00 ∷ 0x0f ∷ 0xb8 ∷ 0x00 ∷ 0x03 ∷ 0xb1 ∷ [])) ≡ exits (pos 1)
unfolding opened_model
text_equals_itself = refl

text_equals_no_builder : first_act (main_of 2 (0x12 ∷ 0x01 ∷ 0xbb ∷ 0x00 ∷ 0x04 ∷ 0xb6 ∷ 0x00 ∷ 0x0f ∷ 0xb8 ∷ 0x00 ∷ 0x03 ∷ 0xb1 ∷ [])) ≡ exits (pos 0)
unfolding opened_model
text_equals_no_builder = refl

one_text_is_one_object : first_act (main_of 2 (0x12 ∷ 0x01 ∷ 0x12 ∷ 0x01 ∷ 0xa5 ∷ 0x00 ∷ 0x08 ∷ 0x03 ∷ 0xb8 ∷ 0x00 ∷ 0x03 ∷ 0xb1 ∷ 0x04 ∷ 0xb8 ∷ 0x00 ∷ 0x03 ∷ 0xb1 ∷ [])) ≡ exits (pos 1)
unfolding opened_model
one_text_is_one_object = refl

joined_texts : first_act (main_of 2 (0x12 ∷ 0x01 ∷ 0x12 ∷ 0x01 ∷ 0xb6 ∷ 0x00 ∷ 0x11 ∷ 0xb8 ∷ 0x00 ∷ 0x02 ∷ 0xb1 ∷ [])) ≡ Does (act.Print (codes "hihi"))
unfolding opened_model
joined_texts = refl

joined_text_is_new : first_act (main_of 2 (0x12 ∷ 0x01 ∷ 0x12 ∷ 0x01 ∷ 0xb6 ∷ 0x00 ∷ 0x11 ∷ 0x12 ∷ 0x01 ∷ 0xb6 ∷ 0x00 ∷ 0x0f ∷ 0xb8 ∷ 0x00 ∷ 0x03 ∷ 0xb1 ∷ [])) ≡ exits (pos 0)
unfolding opened_model
joined_text_is_new = refl

joined_with_null : first_act (main_of 2 (0x12 ∷ 0x01 ∷ 0x01 ∷ 0xb6 ∷ 0x00 ∷ 0x11 ∷ 0xb1 ∷ [])) ≡ ends_with 7
unfolding opened_model
joined_with_null = refl

built_text : first_act (main_of 3 (0xbb ∷ 0x00 ∷ 0x04 ∷ 0x59 ∷ 0xb7 ∷ 0x00 ∷ 0x0b ∷ 0x12 ∷ 0x01 ∷ 0xb6 ∷ 0x00 ∷ 0x23 ∷ 0x02 ∷ 0xb6 ∷ 0x00 ∷ 0x0c ∷ 0x01 ∷ 0xb6 ∷ 0x00 ∷ 0x23 ∷ 0xb6 ∷ 0x00 ∷ 0x0d ∷ 0xb8 ∷ 0x00 ∷ 0x02 ∷ 0xb1 ∷ [])) ≡ Does (act.Print (codes "hi-1null"))
unfolding opened_model
built_text = refl

built_of_long_unit_and_bool : first_act (main_of 3 (0xbb ∷ 0x00 ∷ 0x04 ∷ 0x59 ∷ 0xb7 ∷ 0x00 ∷ 0x0b ∷ 0x14 ∷ 0x00 ∷ 0x17 ∷ 0xb6 ∷ 0x00 ∷ 0x16 ∷ 0x11 ∷ 0x00 ∷ 0x41 ∷ 0xb6 ∷ 0x00 ∷ 0x19 ∷ 0x04 ∷ 0xb6 ∷ 0x00 ∷ 0x1a ∷ 0x05 ∷ 0xb6 ∷ 0x00 ∷ 0x1a ∷ 0xb6 ∷ 0x00 ∷ 0x0d ∷ 0xb8 ∷ 0x00 ∷ 0x02 ∷ 0xb1 ∷ [])) ≡ Does (act.Print (codes "7Atruefalse"))
unfolding opened_model
built_of_long_unit_and_bool = refl

builder_without_a_text : first_act (main_of 2 (0xbb ∷ 0x00 ∷ 0x04 ∷ 0x04 ∷ 0xb6 ∷ 0x00 ∷ 0x0c ∷ 0xb1 ∷ [])) ≡ ends_with 7
unfolding opened_model
builder_without_a_text = refl

message_of_an_exception : first_act (main_of 3 (0xbb ∷ 0x00 ∷ 0x07 ∷ 0x59 ∷ 0x12 ∷ 0x01 ∷ 0xb7 ∷ 0x00 ∷ 0x1b ∷ 0xb6 ∷ 0x00 ∷ 0x1c ∷ 0xb8 ∷ 0x00 ∷ 0x02 ∷ 0xb1 ∷ [])) ≡ Does (act.Print (codes "hi"))
unfolding opened_model
message_of_an_exception = refl

print_of_null : first_act (main_of 1 (0x01 ∷ 0xb8 ∷ 0x00 ∷ 0x02 ∷ 0xb1 ∷ [])) ≡ ends_with 7
unfolding opened_model
print_of_null = refl

-- ---- built-in methods

object_equals_itself : first_act (main_of 2 (0xbb ∷ 0x00 ∷ 0x04 ∷ 0x59 ∷ 0xb6 ∷ 0x00 ∷ 0x2e ∷ 0xb8 ∷ 0x00 ∷ 0x03 ∷ 0xb1 ∷ [])) ≡ exits (pos 1)
unfolding opened_model
object_equals_itself = refl

object_equals_no_other : first_act (main_of 2 (0xbb ∷ 0x00 ∷ 0x04 ∷ 0x12 ∷ 0x01 ∷ 0xb6 ∷ 0x00 ∷ 0x2e ∷ 0xb8 ∷ 0x00 ∷ 0x03 ∷ 0xb1 ∷ [])) ≡ exits (pos 0)
unfolding opened_model
object_equals_no_other = refl

spawns : first_act (main_of 1 (0x12 ∷ 0x01 ∷ 0xb8 ∷ 0x00 ∷ 0x2f ∷ 0xb8 ∷ 0x00 ∷ 0x03 ∷ 0xb1 ∷ [])) ≡ Does (act.Spawn (codes "hi"))
unfolding opened_model
spawns = refl

spawned_domain : then_act (main_of 1 (0x12 ∷ 0x01 ∷ 0xb8 ∷ 0x00 ∷ 0x2f ∷ 0xb8 ∷ 0x00 ∷ 0x03 ∷ 0xb1 ∷ [])) (entry 0 (act.Spawn (codes "hi")) (reply.Domain (record { 0 = 2 }) 8) ∷ []) ≡ exits (pos 2)
unfolding opened_model
spawned_domain = refl

kills : first_act (main_of 1 (0x06 ∷ 0xb8 ∷ 0x00 ∷ 0x2b ∷ 0xb1 ∷ [])) ≡ Does (act.Kill (pos 3))
unfolding opened_model
kills = refl

binds : then_act (main_of 2 (0x12 ∷ 0x01 ∷ 0xb8 ∷ 0x00 ∷ 0x15 ∷ 0x4b ∷ 0x12 ∷ 0x01 ∷ 0x2a ∷ 0xb8 ∷ 0x00 ∷ 0x30 ∷ 0xb1 ∷ [])) (entry 0 (act.Lookup (codes "hi")) (reply.Service (record { 0 = 1 }) (class 33)) ∷ []) ≡ Does (act.Bind (codes "hi") (record { 0 = 1 }))
unfolding opened_model
binds = refl

bind_of_null : first_act (main_of 2 (0x12 ∷ 0x01 ∷ 0x01 ∷ 0xb8 ∷ 0x00 ∷ 0x30 ∷ 0xb1 ∷ [])) ≡ ends_with 7
unfolding opened_model
bind_of_null = refl

bind_of_a_text : first_act (main_of 2 (0x12 ∷ 0x01 ∷ 0x12 ∷ 0x01 ∷ 0xb8 ∷ 0x00 ∷ 0x30 ∷ 0xb1 ∷ [])) ≡ ends_with 12
unfolding opened_model
bind_of_a_text = refl

-- the name comes before what is bound
bind_to_no_name : first_act (main_of 2 (0x12 ∷ 0x3a ∷ 0x12 ∷ 0x01 ∷ 0xb8 ∷ 0x00 ∷ 0x30 ∷ 0xb1 ∷ [])) ≡ ends_with 25
unfolding opened_model
bind_to_no_name = refl

lookup_of_no_name : first_act (main_of 1 (0x12 ∷ 0x3a ∷ 0xb8 ∷ 0x00 ∷ 0x15 ∷ 0xb1 ∷ [])) ≡ ends_with 25
unfolding opened_model
lookup_of_no_name = refl

export_of_null : first_act (main_of 3 (0x01 ∷ 0x12 ∷ 0x01 ∷ 0x10 ∷ 0x09 ∷ 0xb8 ∷ 0x00 ∷ 0x27 ∷ 0xb1 ∷ [])) ≡ ends_with 7
unfolding opened_model
export_of_null = refl

export_with_nine_threads : first_act (main_of 3 (0x12 ∷ 0x01 ∷ 0x12 ∷ 0x01 ∷ 0x10 ∷ 0x09 ∷ 0xb8 ∷ 0x00 ∷ 0x27 ∷ 0xb1 ∷ [])) ≡ ends_with 25
unfolding opened_model
export_with_nine_threads = refl

export_under_no_interface : first_act (main_of 3 (0x12 ∷ 0x01 ∷ 0x12 ∷ 0x01 ∷ 0x04 ∷ 0xb8 ∷ 0x00 ∷ 0x27 ∷ 0xb1 ∷ [])) ≡ ends_with 12
unfolding opened_model
export_under_no_interface = refl

reads_two_bytes : then_act (main_of 2 (0x10 ∷ 0x40 ∷ 0xb8 ∷ 0x00 ∷ 0x09 ∷ 0x04 ∷ 0xb6 ∷ 0x00 ∷ 0x31 ∷ 0xb8 ∷ 0x00 ∷ 0x03 ∷ 0xb1 ∷ [])) (entry 0 (act.Alloc (pos 64)) (reply.Made (record { 0 = 1 }) 0) ∷ []) ≡ Does (act.Get (record { 0 = 1 }) (pos 1) 2)
unfolding opened_model
reads_two_bytes = refl

reads_four_bytes : then_act (main_of 2 (0x10 ∷ 0x40 ∷ 0xb8 ∷ 0x00 ∷ 0x09 ∷ 0x04 ∷ 0xb6 ∷ 0x00 ∷ 0x32 ∷ 0xb8 ∷ 0x00 ∷ 0x03 ∷ 0xb1 ∷ [])) (entry 0 (act.Alloc (pos 64)) (reply.Made (record { 0 = 1 }) 0) ∷ []) ≡ Does (act.Get (record { 0 = 1 }) (pos 1) 4)
unfolding opened_model
reads_four_bytes = refl

writes_a_byte : then_act (main_of 3 (0x10 ∷ 0x40 ∷ 0xb8 ∷ 0x00 ∷ 0x09 ∷ 0x04 ∷ 0x11 ∷ 0x01 ∷ 0x2c ∷ 0xb6 ∷ 0x00 ∷ 0x33 ∷ 0xb1 ∷ [])) (entry 0 (act.Alloc (pos 64)) (reply.Made (record { 0 = 1 }) 0) ∷ []) ≡ Does (act.Set (record { 0 = 1 }) (pos 1) 1 (pos 300))
unfolding opened_model
writes_a_byte = refl

writes_two_bytes : then_act (main_of 3 (0x10 ∷ 0x40 ∷ 0xb8 ∷ 0x00 ∷ 0x09 ∷ 0x04 ∷ 0x05 ∷ 0xb6 ∷ 0x00 ∷ 0x34 ∷ 0xb1 ∷ [])) (entry 0 (act.Alloc (pos 64)) (reply.Made (record { 0 = 1 }) 0) ∷ []) ≡ Does (act.Set (record { 0 = 1 }) (pos 1) 2 (pos 2))
unfolding opened_model
writes_two_bytes = refl

writes_four_bytes : then_act (main_of 3 (0x10 ∷ 0x40 ∷ 0xb8 ∷ 0x00 ∷ 0x09 ∷ 0x04 ∷ 0x05 ∷ 0xb6 ∷ 0x00 ∷ 0x35 ∷ 0xb1 ∷ [])) (entry 0 (act.Alloc (pos 64)) (reply.Made (record { 0 = 1 }) 0) ∷ []) ≡ Does (act.Set (record { 0 = 1 }) (pos 1) 4 (pos 2))
unfolding opened_model
writes_four_bytes = refl

copies : then_act (main_of 5 (0x10 ∷ 0x40 ∷ 0xb8 ∷ 0x00 ∷ 0x09 ∷ 0x59 ∷ 0x04 ∷ 0x5f ∷ 0x05 ∷ 0x06 ∷ 0xb6 ∷ 0x00 ∷ 0x36 ∷ 0xb1 ∷ [])) (entry 0 (act.Alloc (pos 64)) (reply.Made (record { 0 = 1 }) 0) ∷ []) ≡ Does (act.Copy (record { 0 = 1 }) (pos 1) (record { 0 = 1 }) (pos 2) (pos 3))
unfolding opened_model
copies = refl

copies_into_null : then_act (main_of 5 (0x10 ∷ 0x40 ∷ 0xb8 ∷ 0x00 ∷ 0x09 ∷ 0x04 ∷ 0x01 ∷ 0x05 ∷ 0x06 ∷ 0xb6 ∷ 0x00 ∷ 0x36 ∷ 0xb1 ∷ [])) (entry 0 (act.Alloc (pos 64)) (reply.Made (record { 0 = 1 }) 0) ∷ []) ≡ ends_with 7
unfolding opened_model
copies_into_null = refl

takes_a_part : then_act (main_of 3 (0x10 ∷ 0x40 ∷ 0xb8 ∷ 0x00 ∷ 0x09 ∷ 0x04 ∷ 0x05 ∷ 0xb6 ∷ 0x00 ∷ 0x37 ∷ 0xb1 ∷ [])) (entry 0 (act.Alloc (pos 64)) (reply.Made (record { 0 = 1 }) 0) ∷ []) ≡ Does (act.Sub (record { 0 = 1 }) (pos 1) (pos 2))
unfolding opened_model
takes_a_part = refl

revokes : then_act (main_of 1 (0x10 ∷ 0x40 ∷ 0xb8 ∷ 0x00 ∷ 0x09 ∷ 0xb6 ∷ 0x00 ∷ 0x38 ∷ 0xb1 ∷ [])) (entry 0 (act.Alloc (pos 64)) (reply.Made (record { 0 = 1 }) 0) ∷ []) ≡ Does (act.Revoke (record { 0 = 1 }))
unfolding opened_model
revokes = refl

drops : then_act (main_of 1 (0x10 ∷ 0x40 ∷ 0xb8 ∷ 0x00 ∷ 0x09 ∷ 0xb6 ∷ 0x00 ∷ 0x39 ∷ 0xb1 ∷ [])) (entry 0 (act.Alloc (pos 64)) (reply.Made (record { 0 = 1 }) 0) ∷ []) ≡ Does (act.Release (record { 0 = 1 }))
unfolding opened_model
drops = refl

longest_text : is_short (replicate 4096 104) ≡ true
unfolding opened_model
longest_text = refl

text_too_long : is_short (replicate 4097 104) ≡ false
unfolding opened_model
text_too_long = refl

longest_name : is_service_name (replicate 255 0x7e) ≡ true
unfolding opened_model
longest_name = refl

name_too_long : is_service_name (replicate 256 0x21) ≡ false
unfolding opened_model
name_too_long = refl

empty_name : is_service_name [] ≡ false
unfolding opened_model
empty_name = refl

unit_below_a_name : is_service_name (0x20 ∷ []) ≡ false
unfolding opened_model
unit_below_a_name = refl

unit_above_a_name : is_service_name (0x7f ∷ []) ≡ false
unfolding opened_model
unit_above_a_name = refl

-- ---- the start

initialiser_comes_first : first_act (main_with 1 (0x04 ∷ 0xb8 ∷ 0x00 ∷ 0x03 ∷ 0xb1 ∷ []) (method_of 9 27 41 (Some (code_of 1 0 (0x12 ∷ 0x01 ∷ 0xb8 ∷ 0x00 ∷ 0x02 ∷ 0xb1 ∷ []))) ∷ [])) ≡ Does (act.Print (codes "hi"))
unfolding opened_model
initialiser_comes_first = refl

main_comes_then : then_act (main_with 1 (0x04 ∷ 0xb8 ∷ 0x00 ∷ 0x03 ∷ 0xb1 ∷ []) (method_of 9 27 41 (Some (code_of 1 0 (0x12 ∷ 0x01 ∷ 0xb8 ∷ 0x00 ∷ 0x02 ∷ 0xb1 ∷ []))) ∷ [])) (entry 0 (act.Print (codes "hi")) reply.Done ∷ []) ≡ exits (pos 1)
unfolding opened_model
main_comes_then = refl

main_does_not_run : first_act (main_with 1 (0x04 ∷ 0xb8 ∷ 0x00 ∷ 0x03 ∷ 0xb1 ∷ []) (method_of 9 27 41 (Some (code_of 1 0 (0x01 ∷ 0xbf ∷ []))) ∷ [])) ≡ ends_with 7
unfolding opened_model
main_does_not_run = refl

-- the text array of main has no local, at any fuel
parameters_without_room : first_act (program_with 64 0 (code_of 0 0 (0xb1 ∷ [])) []) ≡ bad_code
unfolding opened_model
parameters_without_room = refl

length_of_the_arguments : first_act (main_of 1 (0x2a ∷ 0xbe ∷ 0xb8 ∷ 0x00 ∷ 0x03 ∷ 0xb1 ∷ [])) ≡ exits (pos 0)
unfolding opened_model
length_of_the_arguments = refl

-- ---- yielding

yields : first_act (main_of 1 (0xb8 ∷ 0x00 ∷ 0x28 ∷ 0x04 ∷ 0xb8 ∷ 0x00 ∷ 0x03 ∷ 0xb1 ∷ [])) ≡ Does act.Yield
unfolding opened_model
yields = refl

rests : then_act (main_of 1 (0xb8 ∷ 0x00 ∷ 0x28 ∷ 0x04 ∷ 0xb8 ∷ 0x00 ∷ 0x03 ∷ 0xb1 ∷ [])) (entry 0 act.Yield reply.Done ∷ []) ≡ Idle
unfolding opened_model
rests = refl

goes_on : then_act (main_of 1 (0xb8 ∷ 0x00 ∷ 0x28 ∷ 0x04 ∷ 0xb8 ∷ 0x00 ∷ 0x03 ∷ 0xb1 ∷ [])) (entry 0 (act.Go (record { 0 = 0 })) reply.Done ∷ entry 0 act.Yield reply.Done ∷ []) ≡ exits (pos 1)
unfolding opened_model
goes_on = refl
