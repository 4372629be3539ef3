-- The worked rows, computed.
use Rattle.std.proofs.Common.{◌≡◌, refl}
use Rattle.std.specs.Str.{is_utf8, chars}
use lib.Utf8.{encode}
use Rattle.unicode.specs.GeneralCategory.{general_category}
use Rattle.ucd_category.specs.GeneralCategoryRows.{general_category_rows}
use Rattle.ucd_table.specs.Rows.{value_in}
use Rattle.gv_text.specs.Digits.{value_of}
use Rattle.gv_tokens.specs.Chars.{first_char, char_of}
use Rattle.gv_gotypes.specs.Rows.{adder_source, adder_file}
use Rattle.gv_lowering.specs.More.{more_source, more_file, more}
use Rattle.gv_lowering.specs.Programs.{program_of}
use Rattle.gv_lowering.specs.Shapes.{shapes_source, shapes_file, shapes}
use Rattle.gv_lowering.specs.Rows.{Rows, BlankIsTemporary}
use Rattle.gv_lowering.specs.Rows as row

adder : program_of adder_source adder_file ≡ row.adder
unfolding value_of first_char char_of is_utf8 chars general_category general_category_rows value_in encode
adder = refl

shapes_are : program_of shapes_source shapes_file ≡ shapes
unfolding value_of first_char char_of is_utf8 chars general_category general_category_rows value_in encode
shapes_are = refl

more_are : program_of more_source more_file ≡ more
unfolding value_of first_char char_of is_utf8 chars general_category general_category_rows value_in encode
more_are = refl

blank_is_temporary : BlankIsTemporary
blank_is_temporary c w t k env post n h = rw h refl

pub rows : Rows
rows = record { blank = blank_is_temporary; sum = adder; statements = shapes_are; more_statements = more_are; shaped = refl; more_shaped = refl }
