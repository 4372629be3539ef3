-- Types, lists, calls and simple statements that the published grammar spells are derived, and the steps build their trees.
use Rattle.std.proofs.Common.{◌≡◌, ℕ, ◌+◌, Bool, true, false, List, [], ◌∷◌, ◌++◌, Option, ⊎_elim, refl, append_assoc}
use Rattle.gv_grammar.specs.declared.symbols.Symbol.{Symbol}
use Rattle.gv_grammar.specs.declared.symbols.Symbol.TheVariants.{Token as T, Name as N, Act as A}
use Rattle.gv_grammar.specs.declared.levels.TheConstants.{SAVE, RESTORE}
use Rattle.gv_grammar.specs.Derivation.{is_among}
use Rattle.gv_grammar.specs.Text.{plain, opens}
use Rattle.gv_grammar.proofs.Spelling.{tk, tk_in, op, sv, rs, ac, ru}
use Rattle.gv_grammar.proofs.Meaning.{more_classes}
use Rattle.gv_gosyntax.specs.declared.generated.gosyntax_table.TheConstants.{ACT_ASSIGN, ACT_BLOCK_TYPE, ACT_CALL, ACT_COUNT, ACT_DO, ACT_EXPR, ACT_GROUP, ACT_KEYED, ACT_LEFT, ACT_LITERAL, ACT_MAKE, ACT_MAKE_LENGTH, ACT_MAP_TYPE, ACT_MUTEX, ACT_NAME, ACT_NAMED, ACT_NEW, ACT_NO_EXPRS, ACT_NO_KEYED, ACT_NO_NAMES, ACT_OPERAND, ACT_PAIR, ACT_PAST_EXPRS, ACT_PAST_GROUPS, ACT_PAST_KEYED, ACT_PAST_NAMES, ACT_PAST_TYPES, ACT_POINTERS_TYPE, ACT_POINTER_TYPE, ACT_RESULT, ACT_RETURN, ACT_RIGHT, ACT_SELECT, ACT_SLICE_TYPE, ACT_TYPE, ACT_UPDATE, ACT_VALUE, ACT_WORD_TYPE, CLASS_AMP, CLASS_BLOCK, CLASS_COLON, CLASS_COMMA, CLASS_DOT, CLASS_L_BRACE, CLASS_L_BRACKET, CLASS_L_PAREN, CLASS_MAKE, CLASS_MAP, CLASS_MUTEX, CLASS_NEW, CLASS_R_BRACE, CLASS_R_BRACKET, CLASS_R_PAREN, CLASS_SEMI, CLASS_STAR, CLASS_SYNC, CLASS_TEXT, CLASS_UINT64, NAME_AFTER_EXPR, NAME_AFTER_FIELD, NAME_AFTER_FIRST, NAME_AFTER_KEYED, NAME_AFTER_PARAM, NAME_AFTER_TEXT, NAME_ARGUMENTS, NAME_BUILT_IN, NAME_EXPR, NAME_EXPRS, NAME_FIELDS, NAME_FIRST_ASSIGN, NAME_FIRST_INDEX, NAME_FIRST_MEMBER, NAME_FIRST_NAME, NAME_GROUP, NAME_HEADER, NAME_KEYED, NAME_LEFT, NAME_LITERAL, NAME_MORE_NAMES, NAME_MORE_TYPES, NAME_PARAMS, NAME_PLAIN_RIGHT, NAME_POINTED, NAME_POST, NAME_POST_ASSIGN, NAME_POST_INDEX, NAME_POST_MEMBER, NAME_POST_NAME, NAME_RETURNED, NAME_RETURNED_MEMBER, NAME_RIGHT, NAME_RIGHT_MEMBER, NAME_SIMPLE, NAME_SIMPLE_ASSIGN, NAME_SIMPLE_INDEX, NAME_SIMPLE_MEMBER, NAME_SIMPLE_NAME, NAME_TEXTS, NAME_TYPE_OF, RULE_AFTER_EXPR_END, RULE_AFTER_EXPR_MORE, RULE_AFTER_FIELD_END, RULE_AFTER_FIELD_MORE, RULE_AFTER_KEYED_END, RULE_AFTER_KEYED_MORE, RULE_AFTER_PARAM_END, RULE_AFTER_PARAM_MORE, RULE_AFTER_SYNC_MUTEX, RULE_AFTER_SYNC_NAME, RULE_AFTER_TEXT_END, RULE_AFTER_TEXT_MORE, RULE_ARGUMENTS_LIST, RULE_BUILT_IN_MAKE, RULE_BUILT_IN_NEW, RULE_BUILT_IN_PAIR, RULE_EXPRS_END, RULE_EXPRS_MORE, RULE_FIELDS_END, RULE_FIELDS_MORE, RULE_FIRST_ASSIGN_ONE, RULE_FIRST_ASSIGN_TWO, RULE_FIRST_INDEX_ASSIGN, RULE_FIRST_MEMBER_CALL, RULE_FIRST_MEMBER_MORE, RULE_FIRST_NAME_COUNT, RULE_FIRST_NAME_MORE, RULE_FIRST_NAME_UPDATE, RULE_GROUP_NAMES, RULE_HEADER_BUILTIN, RULE_ITEMS_POINTERS, RULE_ITEMS_WORD, RULE_KEYED_END, RULE_KEYED_MORE, RULE_LEFT_END_END, RULE_LITERAL_FIELDS, RULE_MAKE_REST_LENGTH, RULE_MAKE_REST_NONE, RULE_MORE_NAMES_END, RULE_MORE_NAMES_MORE, RULE_MORE_TYPES_MORE, RULE_PARAMS_END, RULE_PARAMS_MORE, RULE_PLAIN_RIGHT_BUILTIN, RULE_POINTED_NAME, RULE_POINTED_SYNC, RULE_POST_ASSIGN_ONE, RULE_POST_ASSIGN_TWO, RULE_POST_BUILTIN, RULE_POST_INDEX_ASSIGN, RULE_POST_MEMBER_CALL, RULE_POST_MEMBER_MORE, RULE_POST_NAME_COUNT, RULE_POST_NAME_MORE, RULE_POST_NAME_UPDATE, RULE_RETURNED_BUILTIN, RULE_RETURNED_LITERAL, RULE_RETURNED_MEMBER_CALL, RULE_RIGHT_LITERAL, RULE_RIGHT_MEMBER_CALL, RULE_RIGHT_PLAIN, RULE_SIMPLE_ASSIGN_ONE, RULE_SIMPLE_ASSIGN_TWO, RULE_SIMPLE_BUILTIN, RULE_SIMPLE_INDEX_ASSIGN, RULE_SIMPLE_LITERAL, RULE_SIMPLE_MEMBER_CALL, RULE_SIMPLE_MEMBER_MORE, RULE_SIMPLE_NAME_COUNT, RULE_SIMPLE_NAME_MORE, RULE_SIMPLE_NAME_UPDATE, RULE_TEXTS_END, RULE_TEXTS_MORE, RULE_TYPE_OF_BLOCK, RULE_TYPE_OF_MAP, RULE_TYPE_OF_POINTER, RULE_TYPE_OF_SLICE, RULE_TYPE_OF_WORD, SET_AMP, SET_ASSIGNING, SET_BASIC_TYPE, SET_BLOCK, SET_COLON, SET_COMMA, SET_COUNTING, SET_DISK_WORD, SET_DOT, SET_ID, SET_ITEM_TYPE, SET_L_BRACE, SET_L_BRACKET, SET_L_PAREN, SET_MAKE, SET_MAP, SET_MUTEX, SET_NEW, SET_OF_TWO, SET_R_BRACE, SET_R_BRACKET, SET_R_PAREN, SET_SEMI, SET_STAR, SET_STRUCT_NAME, SET_SYNC, SET_TEXT, SET_UINT64, SET_UPDATING}
use Rattle.gv_gosyntax.specs.declared.generated.gosyntax_acts.Part.TheVariants.{Names as PNames, Expr as PExpr, Exprs as PExprs, Keyed as PKeyed, Call as PCall, Right as PRight, Simple as PSimple, Pointed as PPointed, GoType as PGoType, Types as PTypes, Groups as PGroups}
use Rattle.gv_gosyntax.specs.declared.lexeme.Lexeme.{Lexeme}
use Rattle.gv_gosyntax.specs.declared.tree.Expr.{Expr}
use Rattle.gv_gosyntax.specs.declared.tree.Pointed.{Pointed}
use Rattle.gv_gosyntax.specs.declared.tree.GoType.{GoType}
use Rattle.gv_gosyntax.specs.declared.tree.KeyedExpr.{KeyedExpr}
use Rattle.gv_gosyntax.specs.declared.tree.Call.{Call}
use Rattle.gv_gosyntax.specs.declared.tree.Right.{Right}
use Rattle.gv_gosyntax.specs.declared.tree.Simple.{Simple}
use Rattle.gv_gosyntax.specs.declared.tree.Group.{Group}
use Rattle.gv_goparse.specs.Language.{Tokens, other_names, IsItems, IsList, IsPointed, IsType, IsWhole, IsKeyed, IsCall, IsRight, IsLeft, IsSimple, IsName, IsText, IsGroup, first, next, empty, items, closed, named, mutex, type_word, type_slice, type_pointers, type_map, type_pointer, type_block, name, select, index, keyed, function, method, pair, make, make_length, new, literal, value, result, variable, field, item, assign, assign_two, count, update, call, one_name, one_text, group}
use Rattle.gv_goparse.proofs.Operands.{Parts, Read, to, no_header, shape_of, state, on_right, on_left, prim_reads, expr_reads, whole_reads, right_values, expr_at, Shape, Place, alone_shape, member_shape, item_shape}

pub pointed_reads : {p : Pointed} {ts : Tokens} → IsPointed p ts → {s : List Symbol} {us : Tokens} {n : ℕ} {kept : List ℕ} {parts : Parts} {final : Option Parts}
    → Read s us n kept (PPointed p ∷ parts) final → Read (N NAME_POINTED ∷ s) (ts ++ us) n kept parts final
pointed_reads (named i h) k =
    ⊎_elim (λ (q : i.class ≡ CLASS_SYNC). ru RULE_POINTED_SYNC refl (tk SET_SYNC CLASS_SYNC q refl (ru RULE_AFTER_SYNC_NAME refl (ac ACT_NAMED refl k))))
    (λ (q : is_among i.class other_names ≡ true). ru RULE_POINTED_NAME refl (tk_in SET_STRUCT_NAME q (ac ACT_NAMED refl k)))
    (more_classes CLASS_SYNC i.class (is_among i.class other_names) h)
pointed_reads (mutex x d m h i j) k = ru RULE_POINTED_SYNC refl (tk SET_SYNC CLASS_SYNC h refl (ru RULE_AFTER_SYNC_MUTEX refl (tk SET_DOT CLASS_DOT i refl (tk SET_MUTEX CLASS_MUTEX j refl (ac ACT_MUTEX refl k)))))

pub type_reads : {t : GoType} {ts : Tokens} → IsType t ts → {s : List Symbol} {us : Tokens} {n : ℕ} {kept : List ℕ} {parts : Parts} {final : Option Parts}
    → Read s us n kept (PGoType t ∷ parts) final → Read (N NAME_TYPE_OF ∷ s) (ts ++ us) n kept parts final
type_reads (type_word w h) k = ru RULE_TYPE_OF_WORD refl (tk_in SET_BASIC_TYPE h (ac ACT_WORD_TYPE refl k))
type_reads (type_slice o c w i j h) k = ru RULE_TYPE_OF_SLICE refl (tk SET_L_BRACKET CLASS_L_BRACKET i refl (tk SET_R_BRACKET CLASS_R_BRACKET j refl (ru RULE_ITEMS_WORD refl (tk_in SET_ITEM_TYPE h (ac ACT_SLICE_TYPE refl k)))))
type_reads (type_pointers o c x i j l d) k =
    ru RULE_TYPE_OF_SLICE refl (tk SET_L_BRACKET CLASS_L_BRACKET i refl (tk SET_R_BRACKET CLASS_R_BRACKET j refl (ru RULE_ITEMS_POINTERS refl (tk SET_STAR CLASS_STAR l refl (pointed_reads d (ac ACT_POINTERS_TYPE refl k))))))
type_reads (type_map m o x c v h i j l q) k =
    ru RULE_TYPE_OF_MAP refl (tk SET_MAP CLASS_MAP h refl (tk SET_L_BRACKET CLASS_L_BRACKET i refl (tk SET_UINT64 CLASS_UINT64 j refl (tk SET_R_BRACKET CLASS_R_BRACKET l refl (tk SET_UINT64 CLASS_UINT64 q refl (ac ACT_MAP_TYPE refl k))))))
type_reads (type_pointer x h d) k = ru RULE_TYPE_OF_POINTER refl (tk SET_STAR CLASS_STAR h refl (pointed_reads d (ac ACT_POINTER_TYPE refl k)))
type_reads (type_block x d b h i j) k = ru RULE_TYPE_OF_BLOCK refl (tk_in SET_DISK_WORD h (tk SET_DOT CLASS_DOT i refl (tk SET_BLOCK CLASS_BLOCK j refl (ac ACT_BLOCK_TYPE refl k))))

-- arguments
pub exprs_items : {n : ℕ} {xs : List Expr} {ts : Tokens} → IsItems (IsWhole n) CLASS_COMMA xs ts → {s : List Symbol} {us : Tokens} {kept : List ℕ} {parts : Parts} {final : Option Parts}
    → Read (N NAME_AFTER_EXPR ∷ s) us n kept (PExprs xs ∷ parts) final → Read (N NAME_EXPRS ∷ s) (ts ++ us) n kept (PExprs [] ∷ parts) final
exprs_items (first d) k = ru RULE_EXPRS_MORE refl (whole_reads d (ac ACT_EXPR refl k))
exprs_items (next t {ts = ts} {us = vs} d i e) {us = us} k = to (ts ++ (plain t ∷ (vs ++ us))) (simp append_assoc) (exprs_items d (ru RULE_AFTER_EXPR_MORE refl (tk SET_COMMA CLASS_COMMA i refl (ac ACT_PAST_EXPRS refl (ru RULE_EXPRS_MORE refl (whole_reads e (ac ACT_EXPR refl k)))))))

pub exprs_read : {n : ℕ} {xs : List Expr} {ts : Tokens} → IsList (IsWhole n) CLASS_COMMA xs ts → {s : List Symbol} {us : Tokens} {kept : List ℕ} {parts : Parts} {final : Option Parts}
    → Read s us n kept (PExprs xs ∷ parts) final → Read (N NAME_EXPRS ∷ s) (ts ++ us) n kept (PExprs [] ∷ parts) final
exprs_read empty k = ru RULE_EXPRS_END refl k
exprs_read (items d) k = exprs_items d (ru RULE_AFTER_EXPR_END refl k)
exprs_read (closed t {ts = ts} d i) {us = us} k = to (ts ++ (plain t ∷ us)) (simp append_assoc) (exprs_items d (ru RULE_AFTER_EXPR_MORE refl (tk SET_COMMA CLASS_COMMA i refl (ac ACT_PAST_EXPRS refl (ru RULE_EXPRS_END refl k)))))

pub keyed_one : {n : ℕ} {x : KeyedExpr} {ts : Tokens} → IsKeyed n x ts → {s : List Symbol} {us : Tokens} {kept : List ℕ} {parts : Parts} {final : Option Parts} {xs : List KeyedExpr}
    → Read (N NAME_AFTER_KEYED ∷ s) us n kept (PKeyed (xs ++ x ∷ []) ∷ parts) final → Read (N NAME_KEYED ∷ s) (ts ++ us) n kept (PKeyed xs ∷ parts) final
keyed_one (keyed i c h j d) k = ru RULE_KEYED_MORE refl (tk_in SET_ID h (tk SET_COLON CLASS_COLON j refl (whole_reads d (ac ACT_KEYED refl k))))

-- the fields of a literal
pub keyed_items : {n : ℕ} {xs : List KeyedExpr} {ts : Tokens} → IsItems (IsKeyed n) CLASS_COMMA xs ts → {s : List Symbol} {us : Tokens} {kept : List ℕ} {parts : Parts} {final : Option Parts}
    → Read (N NAME_AFTER_KEYED ∷ s) us n kept (PKeyed xs ∷ parts) final → Read (N NAME_KEYED ∷ s) (ts ++ us) n kept (PKeyed [] ∷ parts) final
keyed_items (first d) k = keyed_one d k
keyed_items (next t {ts = ts} {us = vs} d i e) {us = us} k = to (ts ++ (plain t ∷ (vs ++ us))) (simp append_assoc) (keyed_items d (ru RULE_AFTER_KEYED_MORE refl (tk SET_COMMA CLASS_COMMA i refl (ac ACT_PAST_KEYED refl (keyed_one e k)))))

pub keyed_read : {n : ℕ} {xs : List KeyedExpr} {ts : Tokens} → IsList (IsKeyed n) CLASS_COMMA xs ts → {s : List Symbol} {us : Tokens} {kept : List ℕ} {parts : Parts} {final : Option Parts}
    → Read s us n kept (PKeyed xs ∷ parts) final → Read (N NAME_KEYED ∷ s) (ts ++ us) n kept (PKeyed [] ∷ parts) final
keyed_read empty k = ru RULE_KEYED_END refl k
keyed_read (items d) k = keyed_items d (ru RULE_AFTER_KEYED_END refl k)
keyed_read (closed t {ts = ts} d i) {us = us} k = to (ts ++ (plain t ∷ us)) (simp append_assoc) (keyed_items d (ru RULE_AFTER_KEYED_MORE refl (tk SET_COMMA CLASS_COMMA i refl (ac ACT_PAST_KEYED refl (ru RULE_KEYED_END refl k)))))

pub name_list : {xs : List Lexeme} {ts : Tokens} → IsItems IsName CLASS_COMMA xs ts → {s : List Symbol} {us : Tokens} {n : ℕ} {kept : List ℕ} {parts : Parts} {final : Option Parts}
    → Read (N NAME_MORE_NAMES ∷ s) us n kept (PNames xs ∷ parts) final → Read (T SET_ID ∷ A ACT_NAME ∷ N NAME_MORE_NAMES ∷ s) (ts ++ us) n kept (PNames [] ∷ parts) final
name_list (first (one_name i h)) k = tk_in SET_ID h (ac ACT_NAME refl k)
name_list (next t {ts = ts} d i (one_name x h)) {us = us} k = to (ts ++ (plain t ∷ plain x ∷ us)) (simp append_assoc) (name_list d (ru RULE_MORE_NAMES_MORE refl (tk SET_COMMA CLASS_COMMA i refl (ac ACT_PAST_NAMES refl (tk_in SET_ID h (ac ACT_NAME refl k))))))

pub group_reads : {g : Group} {ts : Tokens} → IsGroup g ts → {s : List Symbol} {us : Tokens} {n : ℕ} {kept : List ℕ} {parts : Parts} {final : Option Parts} {gs : List Group}
    → Read s us n kept (PGroups (gs ++ g ∷ []) ∷ parts) final → Read (N NAME_GROUP ∷ s) (ts ++ us) n kept (PGroups gs ∷ parts) final
group_reads (group {ts = ts} {us = vs} d t) {us = us} k =
    to (ts ++ (vs ++ us)) (simp append_assoc) (ru RULE_GROUP_NAMES refl (ac ACT_NO_NAMES refl (name_list d (ru RULE_MORE_NAMES_END refl (type_reads t (ac ACT_GROUP refl k))))))

-- the fields of a struct
pub fields_items : {xs : List Group} {ts : Tokens} → IsItems IsGroup CLASS_SEMI xs ts → {s : List Symbol} {us : Tokens} {n : ℕ} {kept : List ℕ} {parts : Parts} {final : Option Parts}
    → Read (N NAME_AFTER_FIELD ∷ s) us n kept (PGroups xs ∷ parts) final → Read (N NAME_FIELDS ∷ s) (ts ++ us) n kept (PGroups [] ∷ parts) final
fields_items (first d) k = ru RULE_FIELDS_MORE refl (group_reads d k)
fields_items (next t {ts = ts} {us = vs} d i e) {us = us} k = to (ts ++ (plain t ∷ (vs ++ us))) (simp append_assoc) (fields_items d (ru RULE_AFTER_FIELD_MORE refl (tk SET_SEMI CLASS_SEMI i refl (ac ACT_PAST_GROUPS refl (ru RULE_FIELDS_MORE refl (group_reads e k))))))

pub fields_read : {xs : List Group} {ts : Tokens} → IsList IsGroup CLASS_SEMI xs ts → {s : List Symbol} {us : Tokens} {n : ℕ} {kept : List ℕ} {parts : Parts} {final : Option Parts}
    → Read s us n kept (PGroups xs ∷ parts) final → Read (N NAME_FIELDS ∷ s) (ts ++ us) n kept (PGroups [] ∷ parts) final
fields_read empty k = ru RULE_FIELDS_END refl k
fields_read (items d) k = fields_items d (ru RULE_AFTER_FIELD_END refl k)
fields_read (closed t {ts = ts} d i) {us = us} k = to (ts ++ (plain t ∷ us)) (simp append_assoc) (fields_items d (ru RULE_AFTER_FIELD_MORE refl (tk SET_SEMI CLASS_SEMI i refl (ac ACT_PAST_GROUPS refl (ru RULE_FIELDS_END refl k)))))

-- parameters
pub params_items : {xs : List Group} {ts : Tokens} → IsItems IsGroup CLASS_COMMA xs ts → {s : List Symbol} {us : Tokens} {n : ℕ} {kept : List ℕ} {parts : Parts} {final : Option Parts}
    → Read (N NAME_AFTER_PARAM ∷ s) us n kept (PGroups xs ∷ parts) final → Read (N NAME_PARAMS ∷ s) (ts ++ us) n kept (PGroups [] ∷ parts) final
params_items (first d) k = ru RULE_PARAMS_MORE refl (group_reads d k)
params_items (next t {ts = ts} {us = vs} d i e) {us = us} k = to (ts ++ (plain t ∷ (vs ++ us))) (simp append_assoc) (params_items d (ru RULE_AFTER_PARAM_MORE refl (tk SET_COMMA CLASS_COMMA i refl (ac ACT_PAST_GROUPS refl (ru RULE_PARAMS_MORE refl (group_reads e k))))))

pub params_read : {xs : List Group} {ts : Tokens} → IsList IsGroup CLASS_COMMA xs ts → {s : List Symbol} {us : Tokens} {n : ℕ} {kept : List ℕ} {parts : Parts} {final : Option Parts}
    → Read s us n kept (PGroups xs ∷ parts) final → Read (N NAME_PARAMS ∷ s) (ts ++ us) n kept (PGroups [] ∷ parts) final
params_read empty k = ru RULE_PARAMS_END refl k
params_read (items d) k = params_items d (ru RULE_AFTER_PARAM_END refl k)
params_read (closed t {ts = ts} d i) {us = us} k = to (ts ++ (plain t ∷ us)) (simp append_assoc) (params_items d (ru RULE_AFTER_PARAM_MORE refl (tk SET_COMMA CLASS_COMMA i refl (ac ACT_PAST_GROUPS refl (ru RULE_PARAMS_END refl k)))))

pub text_one : {x : Lexeme} {ts : Tokens} → IsText x ts → {s : List Symbol} {us : Tokens} {n : ℕ} {kept : List ℕ} {parts : Parts} {final : Option Parts} {xs : List Lexeme}
    → Read (N NAME_AFTER_TEXT ∷ s) us n kept (PNames (xs ++ x ∷ []) ∷ parts) final → Read (N NAME_TEXTS ∷ s) (ts ++ us) n kept (PNames xs ∷ parts) final
text_one (one_text t i) k = ru RULE_TEXTS_MORE refl (tk SET_TEXT CLASS_TEXT i refl (ac ACT_NAME refl k))

-- imported texts
pub texts_items : {xs : List Lexeme} {ts : Tokens} → IsItems IsText CLASS_SEMI xs ts → {s : List Symbol} {us : Tokens} {n : ℕ} {kept : List ℕ} {parts : Parts} {final : Option Parts}
    → Read (N NAME_AFTER_TEXT ∷ s) us n kept (PNames xs ∷ parts) final → Read (N NAME_TEXTS ∷ s) (ts ++ us) n kept (PNames [] ∷ parts) final
texts_items (first d) k = text_one d k
texts_items (next t {ts = ts} {us = vs} d i e) {us = us} k = to (ts ++ (plain t ∷ (vs ++ us))) (simp append_assoc) (texts_items d (ru RULE_AFTER_TEXT_MORE refl (tk SET_SEMI CLASS_SEMI i refl (ac ACT_PAST_NAMES refl (text_one e k)))))

pub texts_read : {xs : List Lexeme} {ts : Tokens} → IsList IsText CLASS_SEMI xs ts → {s : List Symbol} {us : Tokens} {n : ℕ} {kept : List ℕ} {parts : Parts} {final : Option Parts}
    → Read s us n kept (PNames xs ∷ parts) final → Read (N NAME_TEXTS ∷ s) (ts ++ us) n kept (PNames [] ∷ parts) final
texts_read empty k = ru RULE_TEXTS_END refl k
texts_read (items d) k = texts_items d (ru RULE_AFTER_TEXT_END refl k)
texts_read (closed t {ts = ts} d i) {us = us} k = to (ts ++ (plain t ∷ us)) (simp append_assoc) (texts_items d (ru RULE_AFTER_TEXT_MORE refl (tk SET_SEMI CLASS_SEMI i refl (ac ACT_PAST_NAMES refl (ru RULE_TEXTS_END refl k)))))

pub type_list : {rs : List GoType} {ts : Tokens} → IsItems IsType CLASS_COMMA rs ts → {s : List Symbol} {us : Tokens} {n : ℕ} {kept : List ℕ} {parts : Parts} {final : Option Parts}
    → Read (N NAME_MORE_TYPES ∷ s) us n kept (PTypes rs ∷ parts) final → Read (N NAME_TYPE_OF ∷ A ACT_TYPE ∷ N NAME_MORE_TYPES ∷ s) (ts ++ us) n kept (PTypes [] ∷ parts) final
type_list (first d) k = type_reads d (ac ACT_TYPE refl k)
type_list (next t {ts = ts} {us = vs} d i e) {us = us} k = to (ts ++ (plain t ∷ (vs ++ us))) (simp append_assoc) (type_list d (ru RULE_MORE_TYPES_MORE refl (tk SET_COMMA CLASS_COMMA i refl (ac ACT_PAST_TYPES refl (type_reads e (ac ACT_TYPE refl k))))))

-- A place where a call may begin, by `start` or, with the literals of structs, by `begin`; what comes behind it is `after`.
pub record Calls (header : Bool) (begin start alone member : ℕ) (after : List Symbol) : Type 0 where
  pub by_start : (s : List Symbol) (us : Tokens) (n : ℕ) (kept : List ℕ) (parts : Parts) (final : Option Parts)
      → Read (N start ∷ s) us n kept parts final → Read (N begin ∷ s) us n kept parts final
  pub by_literal : header ≡ false → (s : List Symbol) (us : Tokens) (n : ℕ) (kept : List ℕ) (parts : Parts) (final : Option Parts)
      → Read (N NAME_LITERAL ∷ after ++ s) us n kept parts final → Read (N begin ∷ s) us n kept parts final
  pub by_built_in : (s : List Symbol) (us : Tokens) (n : ℕ) (kept : List ℕ) (parts : Parts) (final : Option Parts)
      → Read (N NAME_BUILT_IN ∷ after ++ s) us n kept parts final → Read (N start ∷ s) us n kept parts final
  pub by_function : (s : List Symbol) (us : Tokens) (n : ℕ) (kept : List ℕ) (parts : Parts) (final : Option Parts)
      → Read (N NAME_ARGUMENTS ∷ after ++ s) us n kept parts final → Read (N alone ∷ s) us n kept parts final
  pub by_method : (s : List Symbol) (us : Tokens) (n : ℕ) (kept : List ℕ) (parts : Parts) (final : Option Parts)
      → Read (N NAME_ARGUMENTS ∷ after ++ s) us n kept parts final → Read (N member ∷ s) us n kept parts final

pub right_calls : Calls false NAME_RIGHT NAME_PLAIN_RIGHT NAME_RIGHT_MEMBER NAME_RIGHT_MEMBER (A ACT_RESULT ∷ [])
right_calls = record {
  by_start = λ s us n kept parts final k. ru RULE_RIGHT_PLAIN refl k;
  by_literal = λ e s us n kept parts final k. ru RULE_RIGHT_LITERAL refl k;
  by_built_in = λ s us n kept parts final k. ru RULE_PLAIN_RIGHT_BUILTIN refl k;
  by_function = λ s us n kept parts final k. ru RULE_RIGHT_MEMBER_CALL refl k;
  by_method = λ s us n kept parts final k. ru RULE_RIGHT_MEMBER_CALL refl k;
}

pub plain_calls : Calls true NAME_PLAIN_RIGHT NAME_PLAIN_RIGHT NAME_RIGHT_MEMBER NAME_RIGHT_MEMBER (A ACT_RESULT ∷ [])
plain_calls = record {
  by_start = λ s us n kept parts final k. k;
  by_literal = λ e s us n kept parts final k. absurd (no_header e);
  by_built_in = λ s us n kept parts final k. ru RULE_PLAIN_RIGHT_BUILTIN refl k;
  by_function = λ s us n kept parts final k. ru RULE_RIGHT_MEMBER_CALL refl k;
  by_method = λ s us n kept parts final k. ru RULE_RIGHT_MEMBER_CALL refl k;
}

pub returned_calls : Calls false NAME_RETURNED NAME_RETURNED NAME_RETURNED_MEMBER NAME_RETURNED_MEMBER (A ACT_RESULT ∷ A ACT_RIGHT ∷ A RESTORE ∷ A ACT_RETURN ∷ [])
returned_calls = record {
  by_start = λ s us n kept parts final k. k;
  by_literal = λ e s us n kept parts final k. ru RULE_RETURNED_LITERAL refl k;
  by_built_in = λ s us n kept parts final k. ru RULE_RETURNED_BUILTIN refl k;
  by_function = λ s us n kept parts final k. ru RULE_RETURNED_MEMBER_CALL refl k;
  by_method = λ s us n kept parts final k. ru RULE_RETURNED_MEMBER_CALL refl k;
}

pub simple_calls : Calls false NAME_SIMPLE NAME_SIMPLE NAME_SIMPLE_NAME NAME_SIMPLE_MEMBER (A ACT_DO ∷ [])
simple_calls = record {
  by_start = λ s us n kept parts final k. k;
  by_literal = λ e s us n kept parts final k. ru RULE_SIMPLE_LITERAL refl k;
  by_built_in = λ s us n kept parts final k. ru RULE_SIMPLE_BUILTIN refl k;
  by_function = λ s us n kept parts final k. ru RULE_SIMPLE_NAME_MORE refl (ru RULE_SIMPLE_MEMBER_CALL refl k);
  by_method = λ s us n kept parts final k. ru RULE_SIMPLE_MEMBER_CALL refl k;
}

pub post_calls : Calls true NAME_POST NAME_POST NAME_POST_NAME NAME_POST_MEMBER (A ACT_DO ∷ [])
post_calls = record {
  by_start = λ s us n kept parts final k. k;
  by_literal = λ e s us n kept parts final k. absurd (no_header e);
  by_built_in = λ s us n kept parts final k. ru RULE_POST_BUILTIN refl k;
  by_function = λ s us n kept parts final k. ru RULE_POST_NAME_MORE refl (ru RULE_POST_MEMBER_CALL refl k);
  by_method = λ s us n kept parts final k. ru RULE_POST_MEMBER_CALL refl k;
}

pub header_calls : Calls true NAME_HEADER NAME_HEADER NAME_FIRST_NAME NAME_FIRST_MEMBER (A ACT_DO ∷ N NAME_AFTER_FIRST ∷ [])
header_calls = record {
  by_start = λ s us n kept parts final k. k;
  by_literal = λ e s us n kept parts final k. absurd (no_header e);
  by_built_in = λ s us n kept parts final k. ru RULE_HEADER_BUILTIN refl k;
  by_function = λ s us n kept parts final k. ru RULE_FIRST_NAME_MORE refl (ru RULE_FIRST_MEMBER_CALL refl k);
  by_method = λ s us n kept parts final k. ru RULE_FIRST_MEMBER_CALL refl k;
}

pub call_reads : {header : Bool} {begin start alone member indexed tail : ℕ} {bracket closing after : List Symbol} → Place start alone member indexed tail bracket closing → Calls header begin start alone member after → {n : ℕ} {c : Call} {ts : Tokens} → IsCall header n c ts → {s : List Symbol} {us : Tokens} {kept : List ℕ} {parts : Parts} {final : Option Parts}
    → ((m : ℕ) → Read (after ++ s) us m kept (PCall c ∷ parts) final) → Read (N begin ∷ s) (ts ++ us) n kept parts final
call_reads p q (function {n = n} i o c {us = vs} h j d l) {us = us} k =
    to (plain i ∷ opens n o ∷ (vs ++ (plain c ∷ us))) (simp append_assoc) (q.by_start _ _ _ _ _ _ (p.by_name _ _ _ _ _ _ (tk_in SET_ID h (ac ACT_OPERAND refl (q.by_function _ _ _ _ _ _ (ru RULE_ARGUMENTS_LIST refl
    (sv (op SET_L_PAREN CLASS_L_PAREN j refl (ac ACT_NO_EXPRS refl (exprs_read d (tk SET_R_PAREN CLASS_R_PAREN l refl (rs (ac ACT_CALL refl (k n))))))))))))))
call_reads p q (method {m = m} x i o c {e = e} {ts = ts} {us = vs} r g h j d l) {us = us} k =
    to (ts ++ (opens m x ∷ plain i ∷ opens (m + 1) o ∷ (vs ++ (plain c ∷ us)))) (simp append_assoc) (q.by_start _ _ _ _ _ _ (prim_reads p r (p.on (shape_of r) _ _ _ _ _ _ (p.by_dot _ _ _ _ _ _ (op SET_DOT CLASS_DOT g refl (tk_in SET_ID h (ac ACT_SELECT refl
    (q.by_method _ _ _ _ _ _ (ru RULE_ARGUMENTS_LIST refl (sv (op SET_L_PAREN CLASS_L_PAREN j refl (ac ACT_NO_EXPRS refl (exprs_read d (tk SET_R_PAREN CLASS_R_PAREN l refl (rs (ac ACT_CALL refl (k (m + 1))))))))))))))))))
call_reads p q (pair {n = n} w o x c {ts = ts} {us = vs} h i d j e l) {us = us} k =
    to (plain w ∷ opens n o ∷ (ts ++ (plain x ∷ (vs ++ (plain c ∷ us))))) (simp append_assoc) (q.by_start _ _ _ _ _ _ (q.by_built_in _ _ _ _ _ _ (ru RULE_BUILT_IN_PAIR refl (tk_in SET_OF_TWO h (sv (op SET_L_PAREN CLASS_L_PAREN i refl
    (whole_reads d (tk SET_COMMA CLASS_COMMA j refl (whole_reads e (tk SET_R_PAREN CLASS_R_PAREN l refl (rs (ac ACT_PAIR refl (k n)))))))))))))
call_reads p q (make {n = n} w o c {ts = ts} h i t l) {us = us} k =
    to (plain w ∷ opens n o ∷ (ts ++ (plain c ∷ us))) (simp append_assoc) (q.by_start _ _ _ _ _ _ (q.by_built_in _ _ _ _ _ _ (ru RULE_BUILT_IN_MAKE refl (tk SET_MAKE CLASS_MAKE h refl (sv (op SET_L_PAREN CLASS_L_PAREN i refl
    (type_reads t (ru RULE_MAKE_REST_NONE refl (tk SET_R_PAREN CLASS_R_PAREN l refl (rs (ac ACT_MAKE refl (k n))))))))))))
call_reads p q (make_length {n = n} w o x c {ts = ts} {us = vs} h i t j d l) {us = us} k =
    to (plain w ∷ opens n o ∷ (ts ++ (plain x ∷ (vs ++ (plain c ∷ us))))) (simp append_assoc) (q.by_start _ _ _ _ _ _ (q.by_built_in _ _ _ _ _ _ (ru RULE_BUILT_IN_MAKE refl (tk SET_MAKE CLASS_MAKE h refl (sv (op SET_L_PAREN CLASS_L_PAREN i refl
    (type_reads t (ru RULE_MAKE_REST_LENGTH refl (tk SET_COMMA CLASS_COMMA j refl (whole_reads d (tk SET_R_PAREN CLASS_R_PAREN l refl (rs (ac ACT_MAKE_LENGTH refl (k n))))))))))))))
call_reads p q (new {n = n} w o x d m c h i j g f l) k =
    q.by_start _ _ _ _ _ _ (q.by_built_in _ _ _ _ _ _ (ru RULE_BUILT_IN_NEW refl (tk SET_NEW CLASS_NEW h refl (sv (op SET_L_PAREN CLASS_L_PAREN i refl
    (tk SET_SYNC CLASS_SYNC j refl (tk SET_DOT CLASS_DOT g refl (tk SET_MUTEX CLASS_MUTEX f refl (tk SET_R_PAREN CLASS_R_PAREN l refl (rs (ac ACT_NEW refl (k n))))))))))))
call_reads p q (literal {n = n} a i o c {ts = ts} z h g j d l) {us = us} k =
    to (plain a ∷ plain i ∷ plain o ∷ (ts ++ (plain c ∷ us))) (simp append_assoc) (q.by_literal z _ _ _ _ _ _ (ru RULE_LITERAL_FIELDS refl (tk SET_AMP CLASS_AMP h refl (tk_in SET_ID g (tk SET_L_BRACE CLASS_L_BRACE j refl
    (ac ACT_NO_KEYED refl (keyed_read d (tk SET_R_BRACE CLASS_R_BRACE l refl (ac ACT_LITERAL refl (k n))))))))))

pub right_reads : {header : Bool} {begin : ℕ} → Calls header begin NAME_PLAIN_RIGHT NAME_RIGHT_MEMBER NAME_RIGHT_MEMBER (A ACT_RESULT ∷ []) → {n : ℕ} {r : Right} {ts : Tokens} → IsRight header n r ts → {s : List Symbol} {us : Tokens} {kept : List ℕ} {parts : Parts} {final : Option Parts}
    → ((m : ℕ) → Read s us m kept (PRight r ∷ parts) final) → Read (N begin ∷ s) (ts ++ us) n kept parts final
right_reads q (value {m = m} d) k = q.by_start _ _ _ _ _ _ (expr_at on_right right_values d (ac ACT_VALUE refl (k m)))
right_reads q (result d) k = call_reads on_right q d (λ m. ac ACT_RESULT refl (k m))

abbrev pub left_shape : {n : ℕ} {e : Expr} {ts : Tokens} → IsLeft n e ts → Shape
left_shape (variable i h) = alone_shape
left_shape (field d i q h j) = member_shape
left_shape (item o c q h d j) = item_shape

pub left_at : {start alone member indexed tail : ℕ} {bracket closing : List Symbol} → Place start alone member indexed tail bracket closing → {n : ℕ} {e : Expr} {ts : Tokens} (l : IsLeft n e ts) → {s : List Symbol} {us : Tokens} {kept : List ℕ} {parts : Parts} {final : Option Parts}
    → ((m : ℕ) → Read (N (state alone member indexed tail (left_shape l)) ∷ s) us m kept (PExpr e ∷ parts) final) → Read (N start ∷ s) (ts ++ us) n kept parts final
left_at p (variable {n = n} i h) k = prim_reads p (name i h) (k n)
left_at p (field {m = m} d i q h j) k = prim_reads p (select d i q h j) (k (m + 1))
left_at p (item {m = m} o c q h d j) k = prim_reads p (index o c q h d j) (k (m + 1))

-- a second left side ends where it may
pub second_reads : {n : ℕ} {e : Expr} {ts : Tokens} → IsLeft n e ts → {s : List Symbol} {us : Tokens} {kept : List ℕ} {parts : Parts} {final : Option Parts}
    → ((m : ℕ) → Read s us m kept (PExpr e ∷ parts) final) → Read (N NAME_LEFT ∷ s) (ts ++ us) n kept parts final
second_reads (variable i h) k = left_at on_left (variable i h) (λ m. ru RULE_LEFT_END_END refl (k m))
second_reads (field d i q h j) k = left_at on_left (field d i q h j) (λ m. ru RULE_LEFT_END_END refl (k m))
second_reads (item o c q h d j) k = left_at on_left (item o c q h d j) (λ m. ru RULE_LEFT_END_END refl (k m))

-- A place where a simple statement begins: `right` begins its right sides, and `after` comes behind it.
pub record Simples (right alone member indexed assign : ℕ) (after : List Symbol) : Type 0 where
  pub by_count : (s : List Symbol) (us : Tokens) (n : ℕ) (kept : List ℕ) (parts : Parts) (final : Option Parts)
      → Read (T SET_COUNTING ∷ A ACT_COUNT ∷ after ++ s) us n kept parts final → Read (N alone ∷ s) us n kept parts final
  pub by_update : (s : List Symbol) (us : Tokens) (n : ℕ) (kept : List ℕ) (parts : Parts) (final : Option Parts)
      → Read (T SET_UPDATING ∷ N NAME_EXPR ∷ A ACT_UPDATE ∷ after ++ s) us n kept parts final → Read (N alone ∷ s) us n kept parts final
  pub to_member : (s : List Symbol) (us : Tokens) (n : ℕ) (kept : List ℕ) (parts : Parts) (final : Option Parts)
      → Read (N member ∷ s) us n kept parts final → Read (N alone ∷ s) us n kept parts final
  pub to_item : (s : List Symbol) (us : Tokens) (n : ℕ) (kept : List ℕ) (parts : Parts) (final : Option Parts)
      → Read (N indexed ∷ s) us n kept parts final → Read (N member ∷ s) us n kept parts final
  pub to_assign : (s : List Symbol) (us : Tokens) (n : ℕ) (kept : List ℕ) (parts : Parts) (final : Option Parts)
      → Read (A ACT_LEFT ∷ N assign ∷ s) us n kept parts final → Read (N indexed ∷ s) us n kept parts final
  pub by_one : (s : List Symbol) (us : Tokens) (n : ℕ) (kept : List ℕ) (parts : Parts) (final : Option Parts)
      → Read (A RESTORE ∷ A SAVE ∷ T SET_ASSIGNING ∷ N right ∷ A ACT_ASSIGN ∷ after ++ s) us n kept parts final → Read (N assign ∷ s) us n kept parts final
  pub by_two : (s : List Symbol) (us : Tokens) (n : ℕ) (kept : List ℕ) (parts : Parts) (final : Option Parts)
      → Read (A RESTORE ∷ A SAVE ∷ T SET_COMMA ∷ A ACT_PAST_EXPRS ∷ N NAME_LEFT ∷ A ACT_EXPR ∷ A RESTORE ∷ A SAVE ∷ T SET_ASSIGNING ∷ N right ∷ A ACT_ASSIGN ∷ after ++ s) us n kept parts final → Read (N assign ∷ s) us n kept parts final

pub in_simples : Simples NAME_RIGHT NAME_SIMPLE_NAME NAME_SIMPLE_MEMBER NAME_SIMPLE_INDEX NAME_SIMPLE_ASSIGN ([])
in_simples = record {
  by_count = λ s us n kept parts final k. ru RULE_SIMPLE_NAME_COUNT refl k;
  by_update = λ s us n kept parts final k. ru RULE_SIMPLE_NAME_UPDATE refl k;
  to_member = λ s us n kept parts final k. ru RULE_SIMPLE_NAME_MORE refl k;
  to_item = λ s us n kept parts final k. ru RULE_SIMPLE_MEMBER_MORE refl k;
  to_assign = λ s us n kept parts final k. ru RULE_SIMPLE_INDEX_ASSIGN refl k;
  by_one = λ s us n kept parts final k. ru RULE_SIMPLE_ASSIGN_ONE refl k;
  by_two = λ s us n kept parts final k. ru RULE_SIMPLE_ASSIGN_TWO refl k;
}

pub in_posts : Simples NAME_PLAIN_RIGHT NAME_POST_NAME NAME_POST_MEMBER NAME_POST_INDEX NAME_POST_ASSIGN ([])
in_posts = record {
  by_count = λ s us n kept parts final k. ru RULE_POST_NAME_COUNT refl k;
  by_update = λ s us n kept parts final k. ru RULE_POST_NAME_UPDATE refl k;
  to_member = λ s us n kept parts final k. ru RULE_POST_NAME_MORE refl k;
  to_item = λ s us n kept parts final k. ru RULE_POST_MEMBER_MORE refl k;
  to_assign = λ s us n kept parts final k. ru RULE_POST_INDEX_ASSIGN refl k;
  by_one = λ s us n kept parts final k. ru RULE_POST_ASSIGN_ONE refl k;
  by_two = λ s us n kept parts final k. ru RULE_POST_ASSIGN_TWO refl k;
}

pub in_headers : Simples NAME_PLAIN_RIGHT NAME_FIRST_NAME NAME_FIRST_MEMBER NAME_FIRST_INDEX NAME_FIRST_ASSIGN (N NAME_AFTER_FIRST ∷ [])
in_headers = record {
  by_count = λ s us n kept parts final k. ru RULE_FIRST_NAME_COUNT refl k;
  by_update = λ s us n kept parts final k. ru RULE_FIRST_NAME_UPDATE refl k;
  to_member = λ s us n kept parts final k. ru RULE_FIRST_NAME_MORE refl k;
  to_item = λ s us n kept parts final k. ru RULE_FIRST_MEMBER_MORE refl k;
  to_assign = λ s us n kept parts final k. ru RULE_FIRST_INDEX_ASSIGN refl k;
  by_one = λ s us n kept parts final k. ru RULE_FIRST_ASSIGN_ONE refl k;
  by_two = λ s us n kept parts final k. ru RULE_FIRST_ASSIGN_TWO refl k;
}

-- a left side, as far as the sign of its assignment or a comma
pub assigned_at : {right start alone member indexed tail assign : ℕ} {bracket closing after : List Symbol} → Place start alone member indexed tail bracket closing → Simples right alone member indexed assign after
    → {n : ℕ} {e : Expr} {ts : Tokens} → IsLeft n e ts → {s : List Symbol} {us : Tokens} {kept : List ℕ} {parts : Parts} {final : Option Parts}
    → ((m : ℕ) → Read (N assign ∷ s) us m kept (PExprs (e ∷ []) ∷ parts) final) → Read (N start ∷ s) (ts ++ us) n kept parts final
assigned_at p q (variable i h) k = left_at p (variable i h) (λ m. q.to_member _ _ _ _ _ _ (q.to_item _ _ _ _ _ _ (q.to_assign _ _ _ _ _ _ (ac ACT_LEFT refl (k m)))))
assigned_at p q (field d i r h j) k = left_at p (field d i r h j) (λ m. q.to_item _ _ _ _ _ _ (q.to_assign _ _ _ _ _ _ (ac ACT_LEFT refl (k m))))
assigned_at p q (item o c r h d j) k = left_at p (item o c r h d j) (λ m. q.to_assign _ _ _ _ _ _ (ac ACT_LEFT refl (k m)))

pub simple_at : {header : Bool} {right start alone member indexed tail assign : ℕ} {bracket closing after : List Symbol} → Place start alone member indexed tail bracket closing
    → Simples right alone member indexed assign after → Calls header start start alone member (A ACT_DO ∷ after) → Calls header right NAME_PLAIN_RIGHT NAME_RIGHT_MEMBER NAME_RIGHT_MEMBER (A ACT_RESULT ∷ [])
    → {n : ℕ} {x : Simple} {ts : Tokens} → IsSimple header n x ts → {s : List Symbol} {us : Tokens} {kept : List ℕ} {parts : Parts} {final : Option Parts}
    → ((m : ℕ) → Read (after ++ s) us m (n ∷ kept) (PSimple x ∷ parts) final) → Read (N start ∷ s) (ts ++ us) n (n ∷ kept) parts final
simple_at p q c r (assign x {ts = ts} {us = vs} l i d) {us = us} k =
    to (ts ++ (plain x ∷ (vs ++ us))) (simp append_assoc) (assigned_at p q l (λ m. q.by_one _ _ _ _ _ _ (rs (sv (tk_in SET_ASSIGNING i (right_reads r d (λ j. ac ACT_ASSIGN refl (k j))))))))
simple_at p q c r (assign_two t x {ts = ts} {us = vs} {vs = ws} l h e i d) {us = us} k =
    to (ts ++ (plain t ∷ (vs ++ (plain x ∷ (ws ++ us))))) (simp append_assoc) (assigned_at p q l (λ m. q.by_two _ _ _ _ _ _ (rs (sv (tk SET_COMMA CLASS_COMMA h refl (ac ACT_PAST_EXPRS refl (second_reads e (λ j. ac ACT_EXPR refl
    (rs (sv (tk_in SET_ASSIGNING i (right_reads r d (λ j. ac ACT_ASSIGN refl (k j))))))))))))))
simple_at p q c r (count {n = n} i x h j) k = p.by_name _ _ _ _ _ _ (tk_in SET_ID h (ac ACT_OPERAND refl (q.by_count _ _ _ _ _ _ (tk_in SET_COUNTING j (ac ACT_COUNT refl (k n))))))
simple_at p q c r (update {m = m} i x h j d) k =
    p.by_name _ _ _ _ _ _ (tk_in SET_ID h (ac ACT_OPERAND refl (q.by_update _ _ _ _ _ _ (tk_in SET_UPDATING j (expr_reads d (ac ACT_UPDATE refl (k m)))))))
simple_at p q c r (call d) k = call_reads p c d (λ m. ac ACT_DO refl (k m))
