-- The worked rows, computed.
use Rattle.std.proofs.Common.{◌≡◌, ℕ, Option, Some, None, refl, subst}
use Rattle.std.specs.Prelude.{MatchOption}
use Rattle.std.specs.Str.{is_utf8, chars}
use lib.Utf8.{encode}
use Rattle.gv_base.specs.declared.answers.Code.{Code}
use Rattle.gv_base.specs.declared.answers.Code.TheVariants as code
use Rattle.unicode.specs.GeneralCategory.{general_category}
use Rattle.ucd_category.specs.GeneralCategoryRows.{general_category_rows}
use Rattle.ucd_table.specs.Rows.{value_in}
use Rattle.gv_text.specs.Digits.{value_of}
use Rattle.gv_tokens.specs.Chars.{first_char, char_of}
use Rattle.gv_gotypes.specs.Trees.{File}
use Rattle.gv_gotypes.specs.Scopes.{Source}
use Rattle.gv_gotypes.specs.Told.{told}
use Rattle.gv_gotypes.specs.Files.{file_findings, IsTyped, IsRefusedAt}
use Rattle.gv_gotypes.specs.Rows as row
use Rattle.gv_gotypes.specs.Rows.{AreRows}
use Rattle.gv_gotypes.proofs.Told.{all_told}

-- what is computed is what is told
refused : (s : Source) (f : File) (at : ℕ) (c : Code) → told (file_findings s f) ≡ Some (at, c) → IsRefusedAt s f at c
refused s f at c e =
    subst (λ (o : Option (ℕ × Code)). MatchOption o (IsTyped s f) (λ p. IsRefusedAt s f p.0 p.1)) e (all_told s f)

typed : (s : Source) (f : File) → told (file_findings s f) ≡ None → IsTyped s f
typed s f e =
    subst (λ (o : Option (ℕ × Code)). MatchOption o (IsTyped s f) (λ p. IsRefusedAt s f p.0 p.1)) e (all_told s f)

adder : told (file_findings row.adder_source row.adder_file) ≡ None
unfolding value_of first_char char_of is_utf8 chars general_category general_category_rows value_in encode
adder = refl

sum_too_large_in_an_operation : told (file_findings row.sum_too_large_in_an_operation_source row.sum_too_large_in_an_operation_file) ≡ Some (137, code.ConstTooLarge)
unfolding value_of first_char char_of is_utf8 chars general_category general_category_rows value_in encode
sum_too_large_in_an_operation = refl

unknown_import_before_no_recover : told (file_findings row.unknown_import_before_no_recover_source row.unknown_import_before_no_recover_file) ≡ Some (17, code.Undeclared)
unfolding value_of first_char char_of is_utf8 chars general_category general_category_rows value_in encode
unknown_import_before_no_recover = refl

recover_of_an_unknown_struct : told (file_findings row.recover_of_an_unknown_struct_source row.recover_of_an_unknown_struct_file) ≡ Some (15, code.NoRecover)
unfolding value_of first_char char_of is_utf8 chars general_category general_category_rows value_in encode
recover_of_an_unknown_struct = refl

operation_with_two_results : told (file_findings row.operation_with_two_results_source row.operation_with_two_results_file) ≡ Some (87, code.WrongType)
unfolding value_of first_char char_of is_utf8 chars general_category general_category_rows value_in encode
operation_with_two_results = refl

largest_expression : told (file_findings row.largest_expression_source row.largest_expression_file) ≡ Some (71, code.ConstTooLarge)
unfolding value_of first_char char_of is_utf8 chars general_category general_category_rows value_in encode
largest_expression = refl

inverse_of_a_word_is_the_largest : told (file_findings row.inverse_of_a_word_is_the_largest_source row.inverse_of_a_word_is_the_largest_file) ≡ Some (92, code.ConstTooLarge)
unfolding value_of first_char char_of is_utf8 chars general_category general_category_rows value_in encode
inverse_of_a_word_is_the_largest = refl

two_that_lead_back : told (file_findings row.two_that_lead_back_source row.two_that_lead_back_file) ≡ Some (71, code.WrongType)
unfolding value_of first_char char_of is_utf8 chars general_category general_category_rows value_in encode
two_that_lead_back = refl

number_shifted_by_a_variable : told (file_findings row.number_shifted_by_a_variable_source row.number_shifted_by_a_variable_file) ≡ Some (86, code.WrongType)
unfolding value_of first_char char_of is_utf8 chars general_category general_category_rows value_in encode
number_shifted_by_a_variable = refl

faulty_part_silences : told (file_findings row.faulty_part_silences_source row.faulty_part_silences_file) ≡ Some (92, code.Undeclared)
unfolding value_of first_char char_of is_utf8 chars general_category general_category_rows value_in encode
faulty_part_silences = refl

no_new_name_of_two : told (file_findings row.no_new_name_of_two_source row.no_new_name_of_two_file) ≡ Some (201, code.Twice)
unfolding value_of first_char char_of is_utf8 chars general_category general_category_rows value_in encode
no_new_name_of_two = refl

two_of_a_faulty_operand : told (file_findings row.two_of_a_faulty_operand_source row.two_of_a_faulty_operand_file) ≡ Some (81, code.WrongCount)
unfolding value_of first_char char_of is_utf8 chars general_category general_category_rows value_in encode
two_of_a_faulty_operand = refl

receiver_is_there_already : told (file_findings row.receiver_is_there_already_source row.receiver_is_there_already_file) ≡ Some (84, code.Twice)
unfolding value_of first_char char_of is_utf8 chars general_category general_category_rows value_in encode
receiver_is_there_already = refl

for_with_a_break : told (file_findings row.for_with_a_break_source row.for_with_a_break_file) ≡ Some (117, code.MissingReturn)
unfolding value_of first_char char_of is_utf8 chars general_category general_category_rows value_in encode
for_with_a_break = refl

captured : told (file_findings row.captured_source row.captured_file) ≡ Some (107, code.Captured)
unfolding value_of first_char char_of is_utf8 chars general_category general_category_rows value_in encode
captured = refl

append_of_a_large_byte : told (file_findings row.append_of_a_large_byte_source row.append_of_a_large_byte_file) ≡ Some (95, code.ConstTooLarge)
unfolding value_of first_char char_of is_utf8 chars general_category general_category_rows value_in encode
append_of_a_large_byte = refl

pub all_rows : AreRows
all_rows = record {
  adder = typed row.adder_source row.adder_file adder;
  sum_too_large_in_an_operation = refused row.sum_too_large_in_an_operation_source row.sum_too_large_in_an_operation_file 137 code.ConstTooLarge sum_too_large_in_an_operation;
  unknown_import_before_no_recover = refused row.unknown_import_before_no_recover_source row.unknown_import_before_no_recover_file 17 code.Undeclared unknown_import_before_no_recover;
  recover_of_an_unknown_struct = refused row.recover_of_an_unknown_struct_source row.recover_of_an_unknown_struct_file 15 code.NoRecover recover_of_an_unknown_struct;
  operation_with_two_results = refused row.operation_with_two_results_source row.operation_with_two_results_file 87 code.WrongType operation_with_two_results;
  largest_expression = refused row.largest_expression_source row.largest_expression_file 71 code.ConstTooLarge largest_expression;
  inverse_of_a_word_is_the_largest = refused row.inverse_of_a_word_is_the_largest_source row.inverse_of_a_word_is_the_largest_file 92 code.ConstTooLarge inverse_of_a_word_is_the_largest;
  two_that_lead_back = refused row.two_that_lead_back_source row.two_that_lead_back_file 71 code.WrongType two_that_lead_back;
  number_shifted_by_a_variable = refused row.number_shifted_by_a_variable_source row.number_shifted_by_a_variable_file 86 code.WrongType number_shifted_by_a_variable;
  faulty_part_silences = refused row.faulty_part_silences_source row.faulty_part_silences_file 92 code.Undeclared faulty_part_silences;
  no_new_name_of_two = refused row.no_new_name_of_two_source row.no_new_name_of_two_file 201 code.Twice no_new_name_of_two;
  two_of_a_faulty_operand = refused row.two_of_a_faulty_operand_source row.two_of_a_faulty_operand_file 81 code.WrongCount two_of_a_faulty_operand;
  receiver_is_there_already = refused row.receiver_is_there_already_source row.receiver_is_there_already_file 84 code.Twice receiver_is_there_already;
  for_with_a_break = refused row.for_with_a_break_source row.for_with_a_break_file 117 code.MissingReturn for_with_a_break;
  captured = refused row.captured_source row.captured_file 107 code.Captured captured;
  append_of_a_large_byte = refused row.append_of_a_large_byte_source row.append_of_a_large_byte_file 95 code.ConstTooLarge append_of_a_large_byte;
}
