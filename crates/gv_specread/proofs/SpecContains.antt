-- The spec tables begin with the term grammar's rules, sets and acts. Made by tools/grammar.py from spec.grammar: edit that.
use Rattle.std.proofs.Common.{ℕ, List, [], ◌∷◌, refl}
use Rattle.gv_grammar.specs.Fragment.{Contains}
use Rattle.gv_termread.specs.declared.generated.term_table.TheConstants.{CLASS_IDENT, CLASS_NUMBER}
use Rattle.gv_specread.specs.declared.generated.spec_table.TheConstants.{CLASS_BELOW_WORD, CLASS_BLOCKS_SORT, CLASS_BOOL_SORT, CLASS_BYTES_SORT, CLASS_CALL_SORT, CLASS_CRASH_WORD, CLASS_DISKS_WORD, CLASS_FIELD_WORD, CLASS_LEASED_WORD, CLASS_MAP_WB_SORT, CLASS_MAP_WW_SORT, CLASS_NAME_SORT, CLASS_ONE_NUMBER, CLASS_OP_WORD, CLASS_PICK_WORD, CLASS_REFS_SORT, CLASS_REF_SORT, CLASS_REPLY_WORD, CLASS_SLICE_S_SORT, CLASS_SPEC_WORD, CLASS_TWO_NUMBER, CLASS_WHERE_WORD, CLASS_WORDS_SORT, CLASS_WORD_SORT, CLASS_ZERO_NUMBER}
use Rattle.gv_termread.specs.TermFragment.{term_fragment}
use Rattle.gv_specread.specs.SpecActs.{spec_acts, spec_own_acts}
use Rattle.gv_termread.specs.declared.generated.term_acts.Part.{Part}
use Rattle.gv_specread.specs.declared.generated.spec_acts.SpecPart.{SpecPart}
use Rattle.gv_specread.specs.SpecTable.{spec_tables}

abbrev pub spec_free : List ℕ
spec_free = CLASS_IDENT ∷ CLASS_SPEC_WORD ∷ CLASS_DISKS_WORD ∷ CLASS_FIELD_WORD ∷ CLASS_OP_WORD ∷ CLASS_CRASH_WORD ∷ CLASS_WHERE_WORD ∷ CLASS_LEASED_WORD ∷ CLASS_BELOW_WORD ∷ CLASS_REPLY_WORD ∷ CLASS_PICK_WORD ∷ CLASS_WORD_SORT ∷ CLASS_BOOL_SORT ∷ CLASS_BYTES_SORT ∷ CLASS_WORDS_SORT ∷ CLASS_REFS_SORT ∷ CLASS_BLOCKS_SORT ∷ CLASS_MAP_WW_SORT ∷ CLASS_MAP_WB_SORT ∷ CLASS_REF_SORT ∷ CLASS_SLICE_S_SORT ∷ CLASS_CALL_SORT ∷ CLASS_NAME_SORT ∷ []

abbrev pub spec_any_number : List ℕ
spec_any_number = CLASS_NUMBER ∷ CLASS_ZERO_NUMBER ∷ CLASS_ONE_NUMBER ∷ CLASS_TWO_NUMBER ∷ []

pub spec_contains : (text : List ℕ) → Contains spec_tables (spec_acts text) (term_fragment {O = SpecPart} text spec_free spec_any_number)
spec_contains text = record {
  rules = (refl, refl, (refl, refl, (refl, refl, (refl, refl, (refl, refl, (refl, refl, (refl, refl, (refl, refl, (refl, refl, (refl, refl, (refl, refl, (refl, refl, (refl, refl, (refl, refl, (refl, refl, (refl, refl, (refl, refl, (refl, refl, (refl, refl, (refl, refl, (refl, refl, (refl, refl, (refl, refl, (refl, refl, (refl, refl, (refl, refl, (refl, refl, (refl, refl, (refl, refl, (refl, refl, (refl, refl, (refl, refl, (refl, refl, (refl, refl, tt))))))))))))))))))))))))))))))))));
  sets = (refl, (refl, (refl, (refl, (refl, (refl, (refl, (refl, (refl, (refl, (refl, (refl, (refl, (refl, (refl, (refl, tt))))))))))))))));
  more = spec_own_acts text;
  same = refl;
}
