-- Tokens of a text as the grammar of specifications sees them.
use Rattle.std.specs.Prelude.{ℕ, List, [], ◌∷◌, map, codes}
use Rattle.gv_base.specs.declared.token.Kind.{Kind}
use Rattle.gv_base.specs.declared.token.Kind.TheVariants.{Word, Number, Text, Sign, Semi}
use Rattle.gv_base.specs.declared.token.Token.{Token}
use Rattle.gv_termread.specs.declared.token.SeenToken.{SeenToken}
use Rattle.gv_termread.specs.Seen.{listed, bytes_from, seen_as as seen_in_terms}
use Rattle.gv_specread.specs.declared.generated.spec_table.TheConstants.{CLASS_SPEC_WORD, CLASS_DISKS_WORD, CLASS_FIELD_WORD, CLASS_OP_WORD, CLASS_CRASH_WORD, CLASS_WHERE_WORD, CLASS_LEASED_WORD, CLASS_PICK_WORD, CLASS_BELOW_WORD, CLASS_REPLY_WORD, CLASS_WORD_SORT, CLASS_BOOL_SORT, CLASS_BYTES_SORT, CLASS_WORDS_SORT, CLASS_REFS_SORT, CLASS_BLOCKS_SORT, CLASS_MAP_WW_SORT, CLASS_MAP_WB_SORT, CLASS_REF_SORT, CLASS_SLICE_S_SORT, CLASS_CALL_SORT, CLASS_NAME_SORT, CLASS_ZERO_NUMBER, CLASS_ONE_NUMBER, CLASS_TWO_NUMBER, CLASS_L_BRACE, CLASS_R_BRACE, CLASS_SEMI, CLASS_COLON, CLASS_DEFINE, CLASS_ASSIGN, CLASS_ARROW}

abbrev pub spec_words : List (List ℕ × ℕ)
spec_words =
    (codes "spec", CLASS_SPEC_WORD) ∷ (codes "disks", CLASS_DISKS_WORD) ∷ (codes "field", CLASS_FIELD_WORD) ∷ (codes "op", CLASS_OP_WORD)
    ∷ (codes "crash", CLASS_CRASH_WORD) ∷ (codes "where", CLASS_WHERE_WORD) ∷ (codes "reply", CLASS_REPLY_WORD) ∷ (codes "pick", CLASS_PICK_WORD)
    ∷ (codes "below", CLASS_BELOW_WORD) ∷ []

abbrev pub sort_words : List (List ℕ × ℕ)
sort_words =
    (codes "Word", CLASS_WORD_SORT) ∷ (codes "Bool", CLASS_BOOL_SORT) ∷ (codes "Bytes", CLASS_BYTES_SORT) ∷ (codes "Words", CLASS_WORDS_SORT)
    ∷ (codes "Refs", CLASS_REFS_SORT) ∷ (codes "MapWW", CLASS_MAP_WW_SORT) ∷ (codes "MapWB", CLASS_MAP_WB_SORT)
    ∷ (codes "Ref", CLASS_REF_SORT) ∷ (codes "Call", CLASS_CALL_SORT) ∷ (codes "Name", CLASS_NAME_SORT) ∷ []

-- the words of both kinds that have six letters
abbrev pub long_words : List (List ℕ × ℕ)
long_words = (codes "leased", CLASS_LEASED_WORD) ∷ (codes "Blocks", CLASS_BLOCKS_SORT) ∷ (codes "SliceS", CLASS_SLICE_S_SORT) ∷ []

-- the counts of disks are told by their spelling, and `0x1` is a number like another
abbrev pub disk_counts : List (List ℕ × ℕ)
disk_counts = (codes "0", CLASS_ZERO_NUMBER) ∷ (codes "1", CLASS_ONE_NUMBER) ∷ (codes "2", CLASS_TWO_NUMBER) ∷ []

abbrev pub signs : List (List ℕ × ℕ)
signs =
    (codes "{", CLASS_L_BRACE) ∷ (codes "}", CLASS_R_BRACE) ∷ (codes ":", CLASS_COLON) ∷ (codes "=", CLASS_ASSIGN) ∷ (codes ":=", CLASS_DEFINE)
    ∷ (codes "->", CLASS_ARROW) ∷ []

-- the class of a token, where this is its class in a term
unfoldable pub class_of : Kind → ℕ → List ℕ → ℕ
class_of Word class bytes = listed spec_words (listed sort_words (listed long_words class bytes) bytes) bytes
class_of Number class bytes = listed disk_counts class bytes
class_of Text class bytes = class
class_of Sign class bytes = listed signs class bytes
class_of Semi class bytes = CLASS_SEMI

-- a token of a text as the grammar sees it
abbrev pub seen_as : List ℕ → Token → SeenToken
seen_as text t = record {
  class = class_of t.kind (seen_in_terms text t).class (bytes_from text t.start t.end);
  start = t.start;
  end = t.end;
  value = (seen_in_terms text t).value;
}

-- all tokens of a text
abbrev pub seen : List ℕ → List Token → List SeenToken
seen text tokens = map (seen_as text) tokens
