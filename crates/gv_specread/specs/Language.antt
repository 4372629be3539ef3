-- The published grammar of specifications, production by production, with the levels of nesting. Terms are those of
-- gv_termread, in which a word of a specification is a name.
--
-- The first number of a relation is the level before its tokens; all of them give their level back.
use Rattle.std.specs.Prelude.{◌≡◌, ℕ, ◌+◌, Bool, true, false, List, [], ◌∷◌, ◌++◌, Option, Some, None}
use Rattle.gv_grammar.specs.Text.{plain, opens}
use Rattle.gv_termread.specs.declared.generated.term_table.TheConstants.{CLASS_COMMA, CLASS_IDENT, CLASS_L_PAREN, CLASS_NUMBER, CLASS_R_PAREN}
use Rattle.gv_specread.specs.declared.generated.spec_table.TheConstants.{CLASS_ARROW, CLASS_ASSIGN, CLASS_BELOW_WORD, CLASS_BLOCKS_SORT, CLASS_BOOL_SORT, CLASS_BYTES_SORT, CLASS_CALL_SORT, CLASS_COLON, CLASS_CRASH_WORD, CLASS_DEFINE, CLASS_DISKS_WORD, CLASS_FIELD_WORD, CLASS_LEASED_WORD, CLASS_L_BRACE, CLASS_MAP_WB_SORT, CLASS_MAP_WW_SORT, CLASS_NAME_SORT, CLASS_ONE_NUMBER, CLASS_OP_WORD, CLASS_PICK_WORD, CLASS_REFS_SORT, CLASS_REF_SORT, CLASS_REPLY_WORD, CLASS_R_BRACE, CLASS_SEMI, CLASS_SLICE_S_SORT, CLASS_SPEC_WORD, CLASS_TWO_NUMBER, CLASS_WHERE_WORD, CLASS_WORDS_SORT, CLASS_WORD_SORT, CLASS_ZERO_NUMBER}
use Rattle.gv_termread.specs.declared.token.SeenToken.{SeenToken}
use Rattle.gv_termread.specs.declared.placed.PlacedTerm.{PlacedTerm}
use Rattle.gv_termread.specs.Language.{Tokens, Is, AnyOf, Lexicon, makers, of_one, of_two, of_three, constants, IsTerm}
use Rattle.gv_specread.specs.declared.tree.PlacedSort.{PlacedSort}
use Rattle.gv_specread.specs.declared.tree.DisksTree.{DisksTree}
use Rattle.gv_specread.specs.declared.tree.DisksTree.TheVariants.{Zero, One, Two}
use Rattle.gv_specread.specs.declared.tree.FieldTree.{FieldTree}
use Rattle.gv_specread.specs.declared.tree.ParamTree.{ParamTree}
use Rattle.gv_specread.specs.declared.tree.PickTree.{PickTree}
use Rattle.gv_specread.specs.declared.tree.AssignTree.{AssignTree}
use Rattle.gv_specread.specs.declared.tree.ReplyTree.{ReplyTree}
use Rattle.gv_specread.specs.declared.tree.BodyTree.{BodyTree}
use Rattle.gv_specread.specs.declared.tree.OpTree.{OpTree}
use Rattle.gv_specread.specs.declared.tree.SpecTree.{SpecTree}
use Rattle.gv_specread.specs.Trees as read

-- ---- words and numbers

-- the twelve sorts
abbrev pub sorts : List ℕ
sorts =
    CLASS_WORD_SORT ∷ CLASS_BOOL_SORT ∷ CLASS_BYTES_SORT ∷ CLASS_WORDS_SORT ∷ CLASS_REFS_SORT ∷ CLASS_BLOCKS_SORT ∷ CLASS_MAP_WW_SORT ∷ CLASS_MAP_WB_SORT
    ∷ CLASS_REF_SORT ∷ CLASS_SLICE_S_SORT ∷ CLASS_CALL_SORT ∷ CLASS_NAME_SORT ∷ []

-- words that are neither sorts nor functions nor constants of terms, but `reply` and `pick`
abbrev pub plain_words : List ℕ
plain_words = CLASS_IDENT ∷ CLASS_SPEC_WORD ∷ CLASS_DISKS_WORD ∷ CLASS_FIELD_WORD ∷ CLASS_OP_WORD ∷ CLASS_CRASH_WORD ∷ CLASS_WHERE_WORD ∷ CLASS_LEASED_WORD
    ∷ CLASS_BELOW_WORD ∷ []

abbrev pub other_words : List ℕ
other_words = sorts ++ (makers ++ (of_one ++ (of_two ++ (of_three ++ constants))))

-- each word but `reply` may begin an assignment
abbrev pub targets : List ℕ
targets = CLASS_PICK_WORD ∷ (plain_words ++ other_words)

-- and every word is an identifier
abbrev pub identifiers : List ℕ
identifiers = CLASS_REPLY_WORD ∷ targets

-- in a term, words that are neither constants nor functions
abbrev pub free_words : List ℕ
free_words = plain_words ++ (CLASS_REPLY_WORD ∷ CLASS_PICK_WORD ∷ sorts)

abbrev pub numbers : List ℕ
numbers = CLASS_NUMBER ∷ CLASS_ZERO_NUMBER ∷ CLASS_ONE_NUMBER ∷ CLASS_TWO_NUMBER ∷ []

-- a specification as its terms see it
abbrev pub lexicon : List ℕ → Lexicon
lexicon text = record { text = text; names = free_words; numbers = numbers }

-- ---- specifications

-- Disks = "0" | "1" number | "2" number .
pub data IsDisks : DisksTree → Tokens → Type 0 where
  no_disk : (t : SeenToken) → Is CLASS_ZERO_NUMBER t → IsDisks Zero (plain t ∷ [])
  one_disk : (t k : SeenToken) → Is CLASS_ONE_NUMBER t → AnyOf numbers k → IsDisks (One (read.number_of k)) (plain t ∷ plain k ∷ [])
  two_disks : (t k : SeenToken) → Is CLASS_TWO_NUMBER t → AnyOf numbers k → IsDisks (Two (read.number_of k)) (plain t ∷ plain k ∷ [])

-- [ "leased" ]
pub data IsLeased : Bool → Tokens → Type 0 where
  leased : (t : SeenToken) → Is CLASS_LEASED_WORD t → IsLeased true (plain t ∷ [])
  not_leased : IsLeased false []

-- Field = "field" id ":" Sort [ "leased" ] "=" Term ";" .
pub data IsField (text : List ℕ) : ℕ → FieldTree → Tokens → Type 0 where
  field : {n : ℕ} (f i c s a e : SeenToken) {l : Bool} {x : PlacedTerm} {ts us : Tokens} → Is CLASS_FIELD_WORD f → AnyOf identifiers i → Is CLASS_COLON c
      → AnyOf sorts s → IsLeased l ts → Is CLASS_ASSIGN a → IsTerm (lexicon text) n x us → Is CLASS_SEMI e
      → IsField text n (record { name = read.span_of i; sort = read.sort_of s; leased = l; first = x })
      (plain f ∷ plain i ∷ plain c ∷ plain s ∷ ts ++ plain a ∷ us ++ plain e ∷ [])

-- { Field }
pub data IsFields (text : List ℕ) : ℕ → List FieldTree → Tokens → Type 0 where
  no_fields : {n : ℕ} → IsFields text n [] []
  next_field : {n : ℕ} {f : FieldTree} {fs : List FieldTree} {ts us : Tokens} → IsFields text n fs ts → IsField text n f us
      → IsFields text n (fs ++ f ∷ []) (ts ++ us)

-- Param = id ":" Sort .
pub data IsParam : ParamTree → Tokens → Type 0 where
  param : (i c s : SeenToken) → AnyOf identifiers i → Is CLASS_COLON c → AnyOf sorts s
      → IsParam (record { name = read.span_of i; sort = read.sort_of s }) (plain i ∷ plain c ∷ plain s ∷ [])

-- Param { "," Param }
pub data IsParamList : List ParamTree → Tokens → Type 0 where
  one_param : {p : ParamTree} {ts : Tokens} → IsParam p ts → IsParamList (p ∷ []) ts
  next_param : (t : SeenToken) {p : ParamTree} {ps : List ParamTree} {ts us : Tokens} → IsParamList ps ts → Is CLASS_COMMA t → IsParam p us
      → IsParamList (ps ++ p ∷ []) (ts ++ plain t ∷ us)

-- [ Param { "," Param } ]
pub data IsParams : List ParamTree → Tokens → Type 0 where
  no_params : IsParams [] []
  some_params : {ps : List ParamTree} {ts : Tokens} → IsParamList ps ts → IsParams ps ts

-- [ "->" Sort ]
pub data IsReturns : Option PlacedSort → Tokens → Type 0 where
  no_return : IsReturns None []
  returns : (a s : SeenToken) → Is CLASS_ARROW a → AnyOf sorts s → IsReturns (Some (read.sort_of s)) (plain a ∷ plain s ∷ [])

-- [ "where" Term ]
pub data IsAllowed (text : List ℕ) : ℕ → Option PlacedTerm → Tokens → Type 0 where
  all_allowed : {n : ℕ} → IsAllowed text n None []
  allowed : {n : ℕ} (w : SeenToken) {x : PlacedTerm} {ts : Tokens} → Is CLASS_WHERE_WORD w → IsTerm (lexicon text) n x ts
      → IsAllowed text n (Some x) (plain w ∷ ts)

-- "pick" id "below" Term ";"
pub data IsPick (text : List ℕ) : ℕ → PickTree → Tokens → Type 0 where
  pick : {n : ℕ} (w i b e : SeenToken) {x : PlacedTerm} {ts : Tokens} → Is CLASS_PICK_WORD w → AnyOf identifiers i → Is CLASS_BELOW_WORD b
      → IsTerm (lexicon text) n x ts → Is CLASS_SEMI e
      → IsPick text n (record { name = read.span_of i; bound = x }) (plain w ∷ plain i ∷ plain b ∷ ts ++ plain e ∷ [])

-- { "pick" id "below" Term ";" }
pub data IsPicks (text : List ℕ) : ℕ → List PickTree → Tokens → Type 0 where
  no_picks : {n : ℕ} → IsPicks text n [] []
  next_pick : {n : ℕ} {p : PickTree} {ps : List PickTree} {ts us : Tokens} → IsPicks text n ps ts → IsPick text n p us
      → IsPicks text n (ps ++ p ∷ []) (ts ++ us)

-- id ":=" Term ";"
pub data IsAssign (text : List ℕ) : ℕ → AssignTree → Tokens → Type 0 where
  assign : {n : ℕ} (i d e : SeenToken) {x : PlacedTerm} {ts : Tokens} → AnyOf targets i → Is CLASS_DEFINE d → IsTerm (lexicon text) n x ts → Is CLASS_SEMI e
      → IsAssign text n (record { name = read.span_of i; term = x }) (plain i ∷ plain d ∷ ts ++ plain e ∷ [])

-- { id ":=" Term ";" }
pub data IsAssigns (text : List ℕ) : ℕ → List AssignTree → Tokens → Type 0 where
  no_assigns : {n : ℕ} → IsAssigns text n [] []
  next_assign : {n : ℕ} {x : AssignTree} {xs : List AssignTree} {ts us : Tokens} → IsAssigns text n xs ts → IsAssign text n x us
      → IsAssigns text n (xs ++ x ∷ []) (ts ++ us)

-- [ "reply" Term ";" ]
pub data IsReply (text : List ℕ) : ℕ → Option ReplyTree → Tokens → Type 0 where
  no_reply : {n : ℕ} → IsReply text n None []
  reply : {n : ℕ} (w e : SeenToken) {x : PlacedTerm} {ts : Tokens} → Is CLASS_REPLY_WORD w → IsTerm (lexicon text) n x ts → Is CLASS_SEMI e
      → IsReply text n (Some (record { start = w.start; term = x })) (plain w ∷ ts ++ plain e ∷ [])

-- Body = "{" { "pick" id "below" Term ";" } { id ":=" Term ";" } [ "reply" Term ";" ] "}" .
pub data IsBody (text : List ℕ) : ℕ → BodyTree → Tokens → Type 0 where
  body : {n : ℕ} (o c : SeenToken) {ps : List PickTree} {xs : List AssignTree} {r : Option ReplyTree} {ts us vs : Tokens} → Is CLASS_L_BRACE o
      → IsPicks text (n + 1) ps ts → IsAssigns text (n + 1) xs us → IsReply text (n + 1) r vs
      → Is CLASS_R_BRACE c → IsBody text n (record { start = o.start; picks = ps; assigns = xs; reply = r }) (opens n o ∷ ts ++ us ++ vs ++ plain c ∷ [])

-- Op = "op" id "(" [ Param { "," Param } ] ")" [ "->" Sort ] [ "where" Term ] Body .
pub data IsOp (text : List ℕ) : ℕ → OpTree → Tokens → Type 0 where
  op_tree : {n : ℕ} (w i o c : SeenToken) {ps : List ParamTree} {r : Option PlacedSort} {l : Option PlacedTerm} {b : BodyTree} {ts us vs ws : Tokens}
      → Is CLASS_OP_WORD w → AnyOf identifiers i → Is CLASS_L_PAREN o → IsParams ps ts → Is CLASS_R_PAREN c → IsReturns r us → IsAllowed text n l vs
      → IsBody text n b ws
      → IsOp text n (record { name = read.span_of i; params = ps; returns = r; allowed = l; body = b })
      (plain w ∷ plain i ∷ opens n o ∷ ts ++ plain c ∷ us ++ vs ++ ws)

-- { Op }
pub data IsOps (text : List ℕ) : ℕ → List OpTree → Tokens → Type 0 where
  no_ops : {n : ℕ} → IsOps text n [] []
  next_op : {n : ℕ} {o : OpTree} {os : List OpTree} {ts us : Tokens} → IsOps text n os ts → IsOp text n o us → IsOps text n (os ++ o ∷ []) (ts ++ us)

-- Spec = "spec" id ";" "disks" Disks ";" { Field } { Op } "crash" Body .
pub data IsSpec (text : List ℕ) : ℕ → SpecTree → Tokens → Type 0 where
  spec : {n : ℕ} (s i e w f c : SeenToken) {d : DisksTree} {fs : List FieldTree} {os : List OpTree} {b : BodyTree} {ts us vs ws : Tokens}
      → Is CLASS_SPEC_WORD s → AnyOf identifiers i → Is CLASS_SEMI e → Is CLASS_DISKS_WORD w → IsDisks d ts → Is CLASS_SEMI f → IsFields text n fs us
      → IsOps text n os vs → Is CLASS_CRASH_WORD c → IsBody text n b ws
      → IsSpec text n (record { name = read.span_of i; disks_start = w.start; disks = d; fields = fs; ops = os; crash = b })
      (plain s ∷ plain i ∷ plain e ∷ plain w ∷ ts ++ plain f ∷ us ++ vs ++ plain c ∷ ws)
