-- The published grammar of proof scripts, production by production, with the levels of nesting. Terms are those of
-- gv_termread, in which a word of a script is a name.
--
-- The first number of a relation is the level before its tokens; a second one is the level behind them, where an operator
-- stays open for the rest of its term. All others give their level back.
use Rattle.std.specs.Prelude.{◌≡◌, ◌==◌, ℕ, ◌+◌, Bool, true, false, List, [], ◌∷◌, ◌++◌, Option, Some, None}
use Rattle.gv_grammar.specs.Text.{plain, opens, token_of}
use Rattle.gv_termread.specs.declared.generated.term_table.TheConstants.{CLASS_AND_AND, CLASS_AT_WORD, CLASS_BYTES_WORD, CLASS_CARET, CLASS_COMMA, CLASS_EQUAL, CLASS_LARGE_NUMBER, CLASS_L_PAREN, CLASS_MINUS, CLASS_NUMBER, CLASS_OR_OR, CLASS_PUT_WORD, CLASS_REFS_WORD, CLASS_R_PAREN, CLASS_SL_WORD, CLASS_WORDS_WORD}
use Rattle.gv_scriptsyntax.specs.declared.generated.script_table.TheConstants.{CLASS_ABSURD_WORD, CLASS_ALONE_WORD, CLASS_ASSIGN, CLASS_AS_WORD, CLASS_AXIOM_WORD, CLASS_BOOK_ATOM_WORD, CLASS_BOOK_WORD, CLASS_BOOT_WORD, CLASS_BY_WORD, CLASS_CASES_WORD, CLASS_CASE_WORD, CLASS_CELL_ATOM_WORD, CLASS_CLASH_WORD, CLASS_COLON, CLASS_CONTRA_WORD, CLASS_CRASH_WORD, CLASS_CUT_WORD, CLASS_DONE_WORD, CLASS_DOT_DOT, CLASS_DURING_WORD, CLASS_EACH_WORD, CLASS_EXCEPT_WORD, CLASS_FIELD_ATOM_WORD, CLASS_FOLD_WORD, CLASS_FORGET_WORD, CLASS_GIVEN_WORD, CLASS_GUARD_WORD, CLASS_HALVES_WORD, CLASS_HAVE_WORD, CLASS_HOLE, CLASS_INIT_WORD, CLASS_IN_WORD, CLASS_LET_WORD, CLASS_LIMIT_NUMBER, CLASS_LINEAR_WORD, CLASS_LOCALS_WORD, CLASS_LOCK_WORD, CLASS_L_BRACE, CLASS_L_BRACKET, CLASS_MAP_WORD, CLASS_MERGE_WORD, CLASS_NEW_WORD, CLASS_ONE_ATOM_WORD, CLASS_ON_ATOM_WORD, CLASS_ON_PAIR_WORD, CLASS_OP_WORD, CLASS_OWN_WORD, CLASS_POST_WORD, CLASS_PRED_WORD, CLASS_PRE_WORD, CLASS_PROC_WORD, CLASS_RECOVER_WORD, CLASS_REWRITE_WORD, CLASS_ROOT_WORD, CLASS_R_BRACE, CLASS_R_BRACKET, CLASS_SEMI, CLASS_SET_WORD, CLASS_SHARED_WORD, CLASS_SHARE_WORD, CLASS_SIM_WORD, CLASS_SORT_WORD, CLASS_SPLIT_PART_WORD, CLASS_STEPS_WORD, CLASS_STEP_WORD, CLASS_SUBST_WORD, CLASS_TAKE_WORD, CLASS_THREE_ATOM_WORD, CLASS_TOKEN_WORD, CLASS_TO_WORD, CLASS_UNFOLD_WORD, CLASS_VARS_WORD, CLASS_VOID_WORD, CLASS_WITH_WORD, CLASS_YIELD_WORD}
use Rattle.gv_termread.specs.declared.token.SeenToken.{SeenToken}
use Rattle.gv_termread.specs.declared.placed.PlacedTerm.{PlacedTerm}
use Rattle.gv_termread.specs.Language.{Tokens, Is, AnyOf, makers, of_one, of_two, of_three, constants, comparing, adding, multiplying, inverting, IsTerm, IsComparison, IsSum}
use Rattle.gv_termread.specs.Trees as read
use Rattle.gv_scriptsyntax.specs.Lists.{IsItems, IsList, IsRest, IsSeveral, IsMany}
use Rattle.gv_scriptsyntax.specs.Words.{two_atoms, named, predicates, identifiers, free_words, lexicon}
use Rattle.gv_scriptsyntax.specs.declared.tree.Par.{Par}
use Rattle.gv_scriptsyntax.specs.declared.tree.Inst.{Inst}
use Rattle.gv_scriptsyntax.specs.declared.tree.Atom.{Atom}
use Rattle.gv_scriptsyntax.specs.declared.tree.Atom.TheVariants as atom
use Rattle.gv_scriptsyntax.specs.declared.tree.Item.{Item}
use Rattle.gv_scriptsyntax.specs.declared.tree.Item.TheVariants.{Fact, Held}
use Rattle.gv_scriptsyntax.specs.declared.tree.Factor.{Factor}
use Rattle.gv_scriptsyntax.specs.declared.tree.Have.{Have}
use Rattle.gv_scriptsyntax.specs.declared.tree.Cert.{Cert}
use Rattle.gv_scriptsyntax.specs.declared.tree.Cert.TheVariants as cert
use Rattle.gv_scriptsyntax.specs.declared.tree.Filling.{Filling}
use Rattle.gv_scriptsyntax.specs.declared.tree.Filling.TheVariants as filling
use Rattle.gv_scriptsyntax.specs.declared.tree.Block.{Block}
use Rattle.gv_scriptsyntax.specs.declared.tree.Arm.{Arm}
use Rattle.gv_scriptsyntax.specs.declared.tree.Command.{Command}
use Rattle.gv_scriptsyntax.specs.declared.tree.Command.TheVariants as command
use Rattle.gv_scriptsyntax.specs.declared.tree.Case.{Case}
use Rattle.gv_scriptsyntax.specs.declared.tree.Book.{Book}
use Rattle.gv_scriptsyntax.specs.declared.tree.Pred.{Pred}
use Rattle.gv_scriptsyntax.specs.declared.tree.Cut.{Cut}
use Rattle.gv_scriptsyntax.specs.declared.tree.Op.{Op}
use Rattle.gv_scriptsyntax.specs.declared.tree.Proc.{Proc}
use Rattle.gv_scriptsyntax.specs.declared.tree.Script.{Script}

-- ---- names, parameters and arguments

pub data IsName : SeenToken → Tokens → Type 0 where
  one_name : (i : SeenToken) → AnyOf identifiers i → IsName i (plain i ∷ [])

-- id ":" Sort
pub data IsPar : Par → Tokens → Type 0 where
  one_par : (i c s : SeenToken) → AnyOf identifiers i → Is CLASS_COLON c → Is CLASS_SORT_WORD s
      → IsPar (record { name = i; sort = s }) (plain i ∷ plain c ∷ plain s ∷ [])

-- "(" [ id { "," id } ] ")"
pub data IsNames : ℕ → List SeenToken → Tokens → Type 0 where
  in_names : {n : ℕ} (o c : SeenToken) {xs : List SeenToken} {ts : Tokens} → Is CLASS_L_PAREN o → IsList IsName xs ts → Is CLASS_R_PAREN c
      → IsNames n xs (opens n o ∷ (ts ++ (plain c ∷ [])))

-- "(" [ id ":" Sort { "," id ":" Sort } ] ")"
pub data IsPars : ℕ → List Par → Tokens → Type 0 where
  in_pars : {n : ℕ} (o c : SeenToken) {xs : List Par} {ts : Tokens} → Is CLASS_L_PAREN o → IsList IsPar xs ts → Is CLASS_R_PAREN c
      → IsPars n xs (opens n o ∷ (ts ++ (plain c ∷ [])))

-- all of a text, whose bytes the names in terms are spelled by
module _ (text : List ℕ) where
  abbrev pub IsWhole : ℕ → PlacedTerm → Tokens → Type 0
  IsWhole = IsTerm (lexicon text)

  -- "(" [ Term { "," Term } ] ")"
  pub data IsArguments : ℕ → List PlacedTerm → Tokens → Type 0 where
    in_terms : {n : ℕ} (o c : SeenToken) {xs : List PlacedTerm} {ts : Tokens} → Is CLASS_L_PAREN o → IsList (IsWhole (n + 1)) xs ts → Is CLASS_R_PAREN c
        → IsArguments n xs (opens n o ∷ (ts ++ (plain c ∷ [])))

  -- ---- terms before and behind others

  -- whether tokens begin with one of this class
  abbrev pub begins_with : ℕ → Tokens → Bool
  begins_with class [] = false
  begins_with class (t ∷ ts) = (token_of t).class == class

  -- A term behind another one: a `^` there belongs to the first one.
  pub data IsSecond : ℕ → PlacedTerm → Tokens → Type 0 where
    second_term : {n : ℕ} {e : PlacedTerm} {ts : Tokens} → IsWhole n e ts → begins_with CLASS_CARET ts ≡ false → IsSecond n e ts

  -- A term before another one, an instance or a parenthesis: outside of its parentheses, a function's word has its arguments.
  pub data IsFirstPrim : ℕ → PlacedTerm → Tokens → Type 0 where
    first_number : {n : ℕ} (t : SeenToken) → Is CLASS_NUMBER t → IsFirstPrim n (read.number t) (plain t ∷ [])
    first_constant : {n : ℕ} (t : SeenToken) → AnyOf constants t → IsFirstPrim n (read.constant t) (plain t ∷ [])
    first_variable : {n : ℕ} (t : SeenToken) → AnyOf free_words t → IsFirstPrim n (read.variable text t) (plain t ∷ [])
    first_paren : {n : ℕ} (o c : SeenToken) {e : PlacedTerm} {ts : Tokens} → Is CLASS_L_PAREN o → IsWhole (n + 1) e ts → Is CLASS_R_PAREN c
        → IsFirstPrim n (read.in_parens o e) (opens n o ∷ (ts ++ (plain c ∷ [])))
    first_maker : {n : ℕ} (f o k s c : SeenToken) {e : PlacedTerm} {ts : Tokens} → AnyOf makers f → Is CLASS_L_PAREN o → Is CLASS_NUMBER k → Is CLASS_COMMA s
        → IsWhole (n + 1) e ts → Is CLASS_R_PAREN c → IsFirstPrim n (read.maker f k e) (plain f ∷ opens n o ∷ plain k ∷ plain s ∷ (ts ++ (plain c ∷ [])))
    first_one : {n : ℕ} (f o c : SeenToken) {a : PlacedTerm} {ts : Tokens} → AnyOf of_one f → Is CLASS_L_PAREN o → IsWhole (n + 1) a ts → Is CLASS_R_PAREN c
        → IsFirstPrim n (read.apply f (a ∷ [])) (plain f ∷ opens n o ∷ (ts ++ (plain c ∷ [])))
    first_two : {n : ℕ} (f o s c : SeenToken) {a b : PlacedTerm} {ts us : Tokens} → AnyOf of_two f → Is CLASS_L_PAREN o → IsWhole (n + 1) a ts
        → Is CLASS_COMMA s
        → IsWhole (n + 1) b us → Is CLASS_R_PAREN c
        → IsFirstPrim n (read.apply f (a ∷ b ∷ [])) (plain f ∷ opens n o ∷ (ts ++ (plain s ∷ (us ++ (plain c ∷ [])))))
    first_three : {n : ℕ} (f o s r c : SeenToken) {a b d : PlacedTerm} {ts us vs : Tokens} → AnyOf of_three f → Is CLASS_L_PAREN o → IsWhole (n + 1) a ts
        → Is CLASS_COMMA s → IsWhole (n + 1) b us → Is CLASS_COMMA r → IsWhole (n + 1) d vs → Is CLASS_R_PAREN c
        → IsFirstPrim n (read.apply f (a ∷ b ∷ d ∷ [])) (plain f ∷ opens n o ∷ (ts ++ (plain s ∷ (us ++ (plain r ∷ (vs ++ (plain c ∷ [])))))))

  pub data IsFirstUnary : ℕ → PlacedTerm → ℕ → Tokens → Type 0 where
    first_prim : {n : ℕ} {e : PlacedTerm} {ts : Tokens} → IsFirstPrim n e ts → IsFirstUnary n e n ts
    first_invert : {n m : ℕ} (t : SeenToken) {e : PlacedTerm} {ts : Tokens} → AnyOf inverting t → IsFirstUnary (n + 1) e m ts
        → IsFirstUnary n (read.unary t e) m (opens n t ∷ ts)

  pub data IsFirstProduct : ℕ → PlacedTerm → ℕ → Tokens → Type 0 where
    first_unary : {n m : ℕ} {e : PlacedTerm} {ts : Tokens} → IsFirstUnary n e m ts → IsFirstProduct n e m ts
    first_multiply : {n m k : ℕ} (t : SeenToken) {a b : PlacedTerm} {ts us : Tokens} → IsFirstProduct n a m ts → AnyOf multiplying t
        → IsFirstUnary (m + 1) b k us
        → IsFirstProduct n (read.binary t a b) k (ts ++ (opens m t ∷ us))

  pub data IsFirstSum : ℕ → PlacedTerm → ℕ → Tokens → Type 0 where
    first_product : {n m : ℕ} {e : PlacedTerm} {ts : Tokens} → IsFirstProduct n e m ts → IsFirstSum n e m ts
    first_add : {n m k : ℕ} (t : SeenToken) {a b : PlacedTerm} {ts us : Tokens} → IsFirstSum n a m ts → AnyOf adding t → IsFirstProduct (m + 1) b k us
        → IsFirstSum n (read.binary t a b) k (ts ++ (opens m t ∷ us))

  pub data IsFirstComparison : ℕ → PlacedTerm → ℕ → Tokens → Type 0 where
    first_sum : {n m : ℕ} {e : PlacedTerm} {ts : Tokens} → IsFirstSum n e m ts → IsFirstComparison n e m ts
    first_compare : {n m k : ℕ} (t : SeenToken) {a b : PlacedTerm} {ts us : Tokens} → IsFirstComparison n a m ts → AnyOf comparing t
        → IsFirstSum (m + 1) b k us
        → IsFirstComparison n (read.binary t a b) k (ts ++ (opens m t ∷ us))

  pub data IsFirstConjunction : ℕ → PlacedTerm → ℕ → Tokens → Type 0 where
    first_comparison : {n m : ℕ} {e : PlacedTerm} {ts : Tokens} → IsFirstComparison n e m ts → IsFirstConjunction n e m ts
    first_and : {n m k : ℕ} (t : SeenToken) {a b : PlacedTerm} {ts us : Tokens} → IsFirstConjunction n a m ts → Is CLASS_AND_AND t
        → IsFirstComparison (m + 1) b k us
        → IsFirstConjunction n (read.binary t a b) k (ts ++ (opens m t ∷ us))

  pub data IsFirstDisjunction : ℕ → PlacedTerm → ℕ → Tokens → Type 0 where
    first_conjunction : {n m : ℕ} {e : PlacedTerm} {ts : Tokens} → IsFirstConjunction n e m ts → IsFirstDisjunction n e m ts
    first_or : {n m k : ℕ} (t : SeenToken) {a b : PlacedTerm} {ts us : Tokens} → IsFirstDisjunction n a m ts → Is CLASS_OR_OR t
        → IsFirstConjunction (m + 1) b k us
        → IsFirstDisjunction n (read.binary t a b) k (ts ++ (opens m t ∷ us))

  pub data IsFirst : ℕ → PlacedTerm → Tokens → Type 0 where
    first_term : {n m : ℕ} {e : PlacedTerm} {ts : Tokens} → IsFirstDisjunction n e m ts → IsFirst n e ts

  -- Eq: a term whose last comparison is an `==`, outside of all parentheses. Its levels end with it.
  pub data IsEquation : ℕ → PlacedTerm → Tokens → Type 0 where
    equation : {n m k : ℕ} (t : SeenToken) {a b : PlacedTerm} {ts us : Tokens} → IsComparison (lexicon text) n a m ts → Is CLASS_EQUAL t
        → IsSum (lexicon text) (m + 1) b k us → IsEquation n (read.binary t a b) (ts ++ (opens m t ∷ us))

  -- ---- atoms

  -- Inst = id "(" [ Terms ] ")" .
  pub data IsInst : ℕ → Inst → Tokens → Type 0 where
    inst_of : {n : ℕ} (i : SeenToken) {xs : List PlacedTerm} {ts : Tokens} → AnyOf identifiers i → IsArguments n xs ts
        → IsInst n (record { name = i; terms = xs }) (plain i ∷ ts)

  -- [ "," Term ]
  pub data IsReply : ℕ → Option PlacedTerm → Tokens → Type 0 where
    no_reply : {n : ℕ} → IsReply n None []
    with_reply : {n : ℕ} (s : SeenToken) {a : PlacedTerm} {ts : Tokens} → Is CLASS_COMMA s → IsWhole n a ts → IsReply n (Some a) (plain s ∷ ts)

  -- [ "except" "(" [ Terms ] ")" ]
  pub data IsExcept : ℕ → List PlacedTerm → Tokens → Type 0 where
    no_except : {n : ℕ} → IsExcept n [] []
    except_terms : {n : ℕ} (w : SeenToken) {xs : List PlacedTerm} {ts : Tokens} → Is CLASS_EXCEPT_WORD w → IsArguments n xs ts → IsExcept n xs (plain w ∷ ts)

  -- An atom with a word of its own, but `each`.
  pub data IsBuiltIn : ℕ → Atom → Tokens → Type 0 where
    one_atom : {n : ℕ} (w o c : SeenToken) {a : PlacedTerm} {ts : Tokens} → Is CLASS_ONE_ATOM_WORD w → Is CLASS_L_PAREN o → IsWhole (n + 1) a ts
        → Is CLASS_R_PAREN c
        → IsBuiltIn n (atom.One w a) (plain w ∷ opens n o ∷ (ts ++ (plain c ∷ [])))
    two_atom : {n : ℕ} (w o s c : SeenToken) {a b : PlacedTerm} {ts us : Tokens} → AnyOf two_atoms w → Is CLASS_L_PAREN o → IsWhole (n + 1) a ts
        → Is CLASS_COMMA s → IsWhole (n + 1) b us → Is CLASS_R_PAREN c
        → IsBuiltIn n (atom.Two w a b) (plain w ∷ opens n o ∷ (ts ++ (plain s ∷ (us ++ (plain c ∷ [])))))
    three_atom : {n : ℕ} (w o s r c : SeenToken) {a b d : PlacedTerm} {ts us vs : Tokens} → Is CLASS_THREE_ATOM_WORD w → Is CLASS_L_PAREN o
        → IsWhole (n + 1) a ts
        → Is CLASS_COMMA s → IsWhole (n + 1) b us → Is CLASS_COMMA r → IsWhole (n + 1) d vs → Is CLASS_R_PAREN c
        → IsBuiltIn n (atom.Three w a b d) (plain w ∷ opens n o ∷ (ts ++ (plain s ∷ (us ++ (plain r ∷ (vs ++ (plain c ∷ [])))))))
    cell_atom : {n : ℕ} (w o s i r c : SeenToken) {a b : PlacedTerm} {ts us : Tokens} → Is CLASS_CELL_ATOM_WORD w → Is CLASS_L_PAREN o → IsWhole (n + 1) a ts
        → Is CLASS_COMMA s → AnyOf identifiers i → Is CLASS_COMMA r → IsWhole (n + 1) b us → Is CLASS_R_PAREN c
        → IsBuiltIn n (atom.Cell w a i b) (plain w ∷ opens n o ∷ (ts ++ (plain s ∷ plain i ∷ plain r ∷ (us ++ (plain c ∷ [])))))
    field_atom : {n : ℕ} (w o i s c : SeenToken) {a : PlacedTerm} {ts : Tokens} → Is CLASS_FIELD_ATOM_WORD w → Is CLASS_L_PAREN o → AnyOf identifiers i
        → Is CLASS_COMMA s → IsWhole (n + 1) a ts → Is CLASS_R_PAREN c
        → IsBuiltIn n (atom.Field w i a) (plain w ∷ opens n o ∷ plain i ∷ plain s ∷ (ts ++ (plain c ∷ [])))
    book_atom : {n : ℕ} (w o i s r c : SeenToken) {a b : PlacedTerm} {ts us : Tokens} → Is CLASS_BOOK_ATOM_WORD w → Is CLASS_L_PAREN o → AnyOf identifiers i
        → Is CLASS_COMMA s → IsWhole (n + 1) a ts → Is CLASS_COMMA r → IsWhole (n + 1) b us → Is CLASS_R_PAREN c
        → IsBuiltIn n (atom.Book w i a b) (plain w ∷ opens n o ∷ plain i ∷ plain s ∷ (ts ++ (plain r ∷ (us ++ (plain c ∷ [])))))
    lock_atom : {n : ℕ} (w o s c : SeenToken) {a : PlacedTerm} {p : Inst} {ts us : Tokens} → Is CLASS_LOCK_WORD w → Is CLASS_L_PAREN o → IsWhole (n + 1) a ts
        → Is CLASS_COMMA s → IsInst (n + 1) p us → Is CLASS_R_PAREN c
        → IsBuiltIn n (atom.Lock w a p) (plain w ∷ opens n o ∷ (ts ++ (plain s ∷ (us ++ (plain c ∷ [])))))
    token_atom : {n : ℕ} (w o s i c : SeenToken) {a : PlacedTerm} {xs : List PlacedTerm} {ts us : Tokens} → Is CLASS_TOKEN_WORD w → Is CLASS_L_PAREN o
        → IsWhole (n + 1) a ts → Is CLASS_COMMA s → AnyOf identifiers i → IsRest (IsWhole (n + 1)) xs us → Is CLASS_R_PAREN c
        → IsBuiltIn n (atom.Token w a i xs) (plain w ∷ opens n o ∷ (ts ++ (plain s ∷ plain i ∷ (us ++ (plain c ∷ [])))))
    done_atom : {n : ℕ} (w o c : SeenToken) {a : PlacedTerm} {r : Option PlacedTerm} {ts us : Tokens} → Is CLASS_DONE_WORD w → Is CLASS_L_PAREN o
        → IsWhole (n + 1) a ts → IsReply (n + 1) r us → Is CLASS_R_PAREN c
        → IsBuiltIn n (atom.Done w a r) (plain w ∷ opens n o ∷ (ts ++ (us ++ (plain c ∷ []))))

  -- An atom but `each`. Where an atom stands, `name(` that is no other atom is an instance.
  pub data IsPlainAtom : ℕ → Atom → Tokens → Type 0 where
    built_in : {n : ℕ} {a : Atom} {ts : Tokens} → IsBuiltIn n a ts → IsPlainAtom n a ts
    instance_of : {n : ℕ} (i : SeenToken) {xs : List PlacedTerm} {ts : Tokens} → AnyOf predicates i → IsArguments n xs ts
        → IsPlainAtom n (atom.Instance (record { name = i; terms = xs })) (plain i ∷ ts)

  -- "each" "(" id "in" Term ".." Term [ "except" "(" [ Terms ] ")" ] ":" Atom ")" , the atom being no other `each`
  pub data IsEach : ℕ → Atom → Tokens → Type 0 where
    each_of : {n : ℕ} (w o i p d q c : SeenToken) {a b : PlacedTerm} {xs : List PlacedTerm} {x : Atom} {ts us vs ws : Tokens} → Is CLASS_EACH_WORD w
        → Is CLASS_L_PAREN o → AnyOf identifiers i → Is CLASS_IN_WORD p → IsWhole (n + 1) a ts → Is CLASS_DOT_DOT d → IsWhole (n + 1) b us
        → IsExcept (n + 1) xs vs → Is CLASS_COLON q → IsPlainAtom (n + 1) x ws → Is CLASS_R_PAREN c
        → IsEach n (atom.Each w i a b xs x) (plain w ∷ opens n o ∷ plain i ∷ plain p ∷ (ts ++ (plain d ∷ (us ++ (vs ++ (plain q ∷ (ws ++ (plain c ∷ []))))))))

  pub data IsAtom : ℕ → Atom → Tokens → Type 0 where
    plain_atom : {n : ℕ} {a : Atom} {ts : Tokens} → IsPlainAtom n a ts → IsAtom n a ts
    each_atom : {n : ℕ} {a : Atom} {ts : Tokens} → IsEach n a ts → IsAtom n a ts

  -- Atom | Term , where a parenthesis behind a function's word opens its arguments
  pub data IsItem : ℕ → Item → Tokens → Type 0 where
    fact : {n : ℕ} {e : PlacedTerm} {ts : Tokens} → IsWhole n e ts → IsItem n (Fact e) ts
    held : {n : ℕ} {a : Atom} {ts : Tokens} → IsBuiltIn n a ts → IsItem n (Held a) ts
    held_each : {n : ℕ} {a : Atom} {ts : Tokens} → IsEach n a ts → IsItem n (Held a) ts
    held_plain : {n : ℕ} (i : SeenToken) {xs : List PlacedTerm} {ts : Tokens} → AnyOf named i → IsArguments n xs ts
        → IsItem n (Held (atom.Instance (record { name = i; terms = xs }))) (plain i ∷ ts)
    held_constant : {n : ℕ} (i : SeenToken) {xs : List PlacedTerm} {ts : Tokens} → AnyOf constants i → IsArguments n xs ts
        → IsItem n (Held (atom.Instance (record { name = i; terms = xs }))) (plain i ∷ ts)

  -- { ( Atom | Term ) ";" }
  pub data IsHeapItems : ℕ → List Item → Tokens → Type 0 where
    no_items : {n : ℕ} → IsHeapItems n [] []
    next_item : {n : ℕ} (e : SeenToken) {x : Item} {xs : List Item} {ts us : Tokens} → IsHeapItems n xs ts → IsItem n x us → Is CLASS_SEMI e
        → IsHeapItems n (xs ++ x ∷ []) (ts ++ (us ++ (plain e ∷ [])))

  -- Heap = "{" { ( Atom | Term ) ";" } "}" .
  pub data IsHeap : ℕ → List Item → Tokens → Type 0 where
    heap_of : {n : ℕ} (o c : SeenToken) {xs : List Item} {ts : Tokens} → Is CLASS_L_BRACE o → IsHeapItems (n + 1) xs ts → Is CLASS_R_BRACE c
        → IsHeap n xs (opens n o ∷ (ts ++ (plain c ∷ [])))

  -- "(" Atom { "," Atom } ")"
  pub data IsAtoms : ℕ → List Atom → Tokens → Type 0 where
    in_atoms : {n : ℕ} (o c : SeenToken) {xs : List Atom} {ts : Tokens} → Is CLASS_L_PAREN o → IsItems (IsAtom (n + 1)) xs ts → Is CLASS_R_PAREN c
        → IsAtoms n xs (opens n o ∷ (ts ++ (plain c ∷ [])))

  -- ---- certificates

  -- [ "in" Term ]
  pub data IsWithin : ℕ → Option PlacedTerm → Tokens → Type 0 where
    not_within : {n : ℕ} → IsWithin n None []
    within_term : {n : ℕ} (w : SeenToken) {a : PlacedTerm} {ts : Tokens} → Is CLASS_IN_WORD w → IsWhole n a ts → IsWithin n (Some a) (plain w ∷ ts)

  -- [ "-" ] number Term , the number being up to 2^127-1, or 2^127 behind the sign
  pub data IsFactor : ℕ → Factor → Tokens → Type 0 where
    positive : {n : ℕ} (k : SeenToken) {a : PlacedTerm} {ts : Tokens} → AnyOf (CLASS_NUMBER ∷ CLASS_LARGE_NUMBER ∷ []) k → IsWhole n a ts
        → IsFactor n (record { minus = None; number = k; term = a }) (plain k ∷ ts)
    negative : {n : ℕ} (s k : SeenToken) {a : PlacedTerm} {ts : Tokens} → Is CLASS_MINUS s
        → AnyOf (CLASS_NUMBER ∷ CLASS_LARGE_NUMBER ∷ CLASS_LIMIT_NUMBER ∷ []) k
        → IsWhole n a ts → IsFactor n (record { minus = Some s; number = k; term = a }) (plain s ∷ plain k ∷ ts)

  mutual
    -- Cert = "known" | "compute" | "axiom" number "(" [ Terms ] ")" | "subst" Eq [ "in" Term ] | "contra" Term
    --      | "linear" "[" [ Terms ] "]" "(" [ Factor { "," Factor } ] ")" | "cases" Term "(" Cert ")" "(" Cert ")"
    --      | "steps" "{" { "have" Term "by" Cert ";" } Cert "}" .
    pub data IsCert : ℕ → Cert → Tokens → Type 0 where
      given_word : {n : ℕ} (w : SeenToken) → Is CLASS_GIVEN_WORD w → IsCert n (cert.Given w) (plain w ∷ [])
      by_axiom : {n : ℕ} (w k : SeenToken) {xs : List PlacedTerm} {ts : Tokens} → Is CLASS_AXIOM_WORD w → Is CLASS_NUMBER k → IsArguments n xs ts
          → IsCert n (cert.Axiom w k xs) (plain w ∷ plain k ∷ ts)
      substitute : {n : ℕ} (w : SeenToken) {e : PlacedTerm} {r : Option PlacedTerm} {ts us : Tokens} → Is CLASS_SUBST_WORD w → IsEquation n e ts
          → IsWithin n r us
          → IsCert n (cert.Subst w e r) (plain w ∷ (ts ++ us))
      contra_term : {n : ℕ} (w : SeenToken) {a : PlacedTerm} {ts : Tokens} → Is CLASS_CONTRA_WORD w → IsWhole n a ts
          → IsCert n (cert.Contra w a) (plain w ∷ ts)
      linear_sums : {n : ℕ} (w o c p q : SeenToken) {xs : List PlacedTerm} {fs : List Factor} {ts us : Tokens} → Is CLASS_LINEAR_WORD w → Is CLASS_L_BRACKET o
          → IsList (IsWhole n) xs ts → Is CLASS_R_BRACKET c → Is CLASS_L_PAREN p → IsList (IsFactor (n + 1)) fs us → Is CLASS_R_PAREN q
          → IsCert n (cert.Linear w xs fs) (plain w ∷ plain o ∷ (ts ++ (plain c ∷ opens n p ∷ (us ++ (plain q ∷ [])))))
      by_cases : {n : ℕ} (w o c p q : SeenToken) {e : PlacedTerm} {a b : Cert} {ts us vs : Tokens} → Is CLASS_CASES_WORD w → IsFirst n e ts
          → Is CLASS_L_PAREN o
          → IsCert (n + 1) a us → Is CLASS_R_PAREN c → Is CLASS_L_PAREN p → IsCert (n + 1) b vs → Is CLASS_R_PAREN q
          → IsCert n (cert.Cases w e a b) (plain w ∷ (ts ++ (opens n o ∷ (us ++ (plain c ∷ opens n p ∷ (vs ++ (plain q ∷ [])))))))
      steps_of : {n : ℕ} (w o c : SeenToken) {hs : List Have} {a : Cert} {ts us : Tokens} → Is CLASS_STEPS_WORD w → Is CLASS_L_BRACE o → IsHaves (n + 1) hs ts
          → IsCert (n + 1) a us → Is CLASS_R_BRACE c → IsCert n (cert.Steps w hs a) (plain w ∷ opens n o ∷ (ts ++ (us ++ (plain c ∷ []))))

    pub data IsHaves : ℕ → List Have → Tokens → Type 0 where
      no_haves : {n : ℕ} → IsHaves n [] []
      next_have : {n : ℕ} (w b e : SeenToken) {a : PlacedTerm} {d : Cert} {hs : List Have} {ts us vs : Tokens} → IsHaves n hs ts → Is CLASS_HAVE_WORD w
          → IsWhole n a us → Is CLASS_BY_WORD b → IsCert n d vs → Is CLASS_SEMI e
          → IsHaves n (hs ++ (record { word = w; term = a; proof = d }) ∷ []) (ts ++ (plain w ∷ (us ++ (plain b ∷ (vs ++ (plain e ∷ []))))))

  -- ---- commands. In these, the truth value says whether holes may stand: they don't within the blocks of `map`, `share`,
  -- `crash` and `during`.

  pub data IsProof : Bool → ℕ → Cert → Tokens → Type 0 where
    proved : {h : Bool} {n : ℕ} {a : Cert} {ts : Tokens} → IsCert n a ts → IsProof h n a ts
    proof_hole : {n : ℕ} (q : SeenToken) → Is CLASS_HOLE q → IsProof true n (cert.Hole q) (plain q ∷ [])

  pub data IsFilling : Bool → ℕ → Filling → Tokens → Type 0 where
    filled : {h : Bool} {n : ℕ} (o c : SeenToken) {xs : List PlacedTerm} {ts : Tokens} → Is CLASS_L_PAREN o → IsList (IsWhole (n + 1)) xs ts
        → Is CLASS_R_PAREN c
        → IsFilling h n (filling.Terms xs) (opens n o ∷ (ts ++ (plain c ∷ [])))
    filling_hole : {n : ℕ} (o q c : SeenToken) → Is CLASS_L_PAREN o → Is CLASS_HOLE q → Is CLASS_R_PAREN c
        → IsFilling true n (filling.Hole q) (opens n o ∷ plain q ∷ plain c ∷ [])

  -- [ "with" "(" [ Terms ] ")" ] , [ "as" "(" [ Ids ] ")" ] and [ ";" ]
  pub data IsWith : ℕ → List PlacedTerm → Tokens → Type 0 where
    no_with : {n : ℕ} → IsWith n [] []
    with_terms : {n : ℕ} (w : SeenToken) {xs : List PlacedTerm} {ts : Tokens} → Is CLASS_WITH_WORD w → IsArguments n xs ts → IsWith n xs (plain w ∷ ts)

  pub data IsAs : ℕ → List SeenToken → Tokens → Type 0 where
    no_as : {n : ℕ} → IsAs n [] []
    as_names : {n : ℕ} (w : SeenToken) {xs : List SeenToken} {ts : Tokens} → Is CLASS_AS_WORD w → IsNames n xs ts → IsAs n xs (plain w ∷ ts)

  pub data IsEnding : ℕ → Option SeenToken → Tokens → Type 0 where
    closed : {n : ℕ} (e : SeenToken) → Is CLASS_SEMI e → IsEnding n (Some e) (plain e ∷ [])
    not_closed : {n : ℕ} → IsEnding n None []

  mutual
    -- commands that hold neither a hole nor a block with one
    pub data IsSimple : ℕ → Command → Tokens → Type 0 where
      on_atom : {n : ℕ} (w : SeenToken) {a : Atom} {ts : Tokens}
          → Is CLASS_ON_ATOM_WORD w
          → IsAtom n a ts → IsSimple n (command.OnAtom w a) (plain w ∷ ts)
      let_be : {n : ℕ} (w i q : SeenToken) {a : PlacedTerm} {ts : Tokens} → Is CLASS_LET_WORD w → AnyOf identifiers i → Is CLASS_ASSIGN q → IsWhole n a ts
          → IsSimple n (command.Let w i a) (plain w ∷ plain i ∷ plain q ∷ ts)
      rewrite_to : {n : ℕ} (w q : SeenToken) {a b : PlacedTerm} {ts us : Tokens} → Is CLASS_REWRITE_WORD w → IsWhole n a ts → Is CLASS_TO_WORD q
          → IsWhole n b us
          → IsSimple n (command.Rewrite w a b) (plain w ∷ (ts ++ (plain q ∷ us)))
      clash_of : {n : ℕ} (w : SeenToken) {xs : List Atom} {ts : Tokens} → Is CLASS_CLASH_WORD w → IsItems (IsAtom n) xs ts
          → IsSimple n (command.Clash w xs) (plain w ∷ ts)
      on_pair : {n : ℕ} (w s : SeenToken) {a b : Atom} {ts us : Tokens} → Is CLASS_ON_PAIR_WORD w → IsAtom n a ts → Is CLASS_COMMA s
          → IsAtom n b us → IsSimple n (command.OnPair w a b) (plain w ∷ (ts ++ (plain s ∷ us)))
      halves_new : {n : ℕ} (w v q i : SeenToken) {a : PlacedTerm} {ts : Tokens} → Is CLASS_HALVES_WORD w → Is CLASS_NEW_WORD v → IsWhole n a ts
          → Is CLASS_AS_WORD q
          → AnyOf identifiers i → IsSimple n (command.HalvesNew w a i) (plain w ∷ plain v ∷ (ts ++ (plain q ∷ plain i ∷ [])))
      halves_set : {n : ℕ} (w v : SeenToken) {a b : PlacedTerm} {ts us : Tokens} → Is CLASS_HALVES_WORD w → Is CLASS_SET_WORD v → IsFirst n a ts
          → IsSecond n b us
          → IsSimple n (command.HalvesSet w a b) (plain w ∷ plain v ∷ (ts ++ us))
      split_at : {n : ℕ} (w q : SeenToken) {x : Atom} {a : PlacedTerm} {ts us : Tokens} → Is CLASS_SPLIT_PART_WORD w → IsAtom n x ts
          → Is CLASS_AT_WORD q → IsWhole n a us → IsSimple n (command.At w x a) (plain w ∷ (ts ++ (plain q ∷ us)))
      map_each : {n : ℕ} (w q p i : SeenToken) {xs ys : List Atom} {k : Block} {ts us vs : Tokens} → Is CLASS_MAP_WORD w → IsAtoms n xs ts
          → Is CLASS_TO_WORD q
          → IsAtoms n ys us → Is CLASS_WITH_WORD p → AnyOf identifiers i → IsBlock false n k vs
          → IsSimple n (command.Map w xs ys i k) (plain w ∷ (ts ++ (plain q ∷ (us ++ (plain p ∷ plain i ∷ vs)))))
      alone_word : {n : ℕ} (w : SeenToken) → Is CLASS_ALONE_WORD w → IsSimple n (command.Alone w) (plain w ∷ [])
      sim_call : {n : ℕ} (w : SeenToken) {a : PlacedTerm} {xs : List PlacedTerm} {ts us : Tokens} → Is CLASS_SIM_WORD w → IsWhole n a ts → IsWith n xs us
          → IsSimple n (command.Sim w a xs) (plain w ∷ (ts ++ us))
      on_block : {n : ℕ} (w : SeenToken) {k : Block} {ts : Tokens} → AnyOf (CLASS_SHARE_WORD ∷ CLASS_CRASH_WORD ∷ []) w → IsBlock false n k ts
          → IsSimple n (command.OnBlock w k) (plain w ∷ ts)
      boot_with : {n : ℕ} (w : SeenToken) {xs : List PlacedTerm} {ts : Tokens} → Is CLASS_BOOT_WORD w → IsWith n xs ts
          → IsSimple n (command.Boot w xs) (plain w ∷ ts)
      guard_with : {n : ℕ} (w : SeenToken) {a : PlacedTerm} {p : Inst} {ts us : Tokens} → Is CLASS_GUARD_WORD w → IsFirst n a ts → IsInst n p us
          → IsSimple n (command.Guard w a p) (plain w ∷ (ts ++ us))
      set_book : {n : ℕ} (w i q : SeenToken) {a b : PlacedTerm} {ts us : Tokens} → Is CLASS_BOOK_WORD w → AnyOf identifiers i → IsWhole n a ts
          → Is CLASS_TO_WORD q
          → IsWhole n b us → IsSimple n (command.SetBook w i a b) (plain w ∷ plain i ∷ (ts ++ (plain q ∷ us)))
      forget_block : {n : ℕ} (w q : SeenToken) {a b d : PlacedTerm} {ts us vs : Tokens} → Is CLASS_FORGET_WORD w → IsFirst n a ts → IsSecond n b us
          → Is CLASS_TO_WORD q
          → IsWhole n d vs → IsSimple n (command.Forget w a b d) (plain w ∷ (ts ++ (us ++ (plain q ∷ vs))))
      to_cut : {n : ℕ} (w i : SeenToken) {xs : List PlacedTerm} {ts : Tokens} → Is CLASS_TO_WORD w → AnyOf identifiers i → IsArguments n xs ts
          → IsSimple n (command.To w i xs) (plain w ∷ plain i ∷ ts)
      merge_to : {n : ℕ} (w s q : SeenToken) {x y : Atom} {a : PlacedTerm} {ts us vs : Tokens} → Is CLASS_MERGE_WORD w → IsAtom n x ts → Is CLASS_COMMA s
          → IsAtom n y us
          → Is CLASS_TO_WORD q → IsWhole n a vs → IsSimple n (command.Merge w x y a) (plain w ∷ (ts ++ (plain s ∷ (us ++ (plain q ∷ vs)))))
      void_of : {n : ℕ} (w i : SeenToken) → Is CLASS_VOID_WORD w → AnyOf (CLASS_BYTES_WORD ∷ CLASS_WORDS_WORD ∷ CLASS_REFS_WORD ∷ []) i
          → IsSimple n (command.Void w i) (plain w ∷ plain i ∷ [])
      yield_spare : {n : ℕ} (w s q f o r v c : SeenToken) {x y : Atom} {a b d : PlacedTerm} {ts us vs ws xs : Tokens} → Is CLASS_YIELD_WORD w → IsAtom n x ts
          → Is CLASS_COMMA s → IsAtom n y us → Is CLASS_TO_WORD q → Is CLASS_SL_WORD f → Is CLASS_L_PAREN o → IsWhole (n + 1) a vs → Is CLASS_COMMA r
          → IsWhole (n + 1) b ws → Is CLASS_COMMA v → IsWhole (n + 1) d xs → Is CLASS_R_PAREN c → IsSimple n (command.Yield w x y a b d)
          (plain w ∷ (ts ++ (plain s ∷ (us ++ (plain q ∷ plain f ∷ opens n o ∷ (vs ++ (plain r ∷ (ws ++ (plain v ∷ (xs ++ (plain c ∷ [])))))))))))

    -- commands that a semicolon follows
    pub data IsPlain : Bool → ℕ → Command → Tokens → Type 0 where
      simple : {h : Bool} {n : ℕ} {x : Command} {ts : Tokens} → IsSimple n x ts → IsPlain h n x ts
      have_by : {h : Bool} {n : ℕ} (w b : SeenToken) {a : PlacedTerm} {d : Cert} {ts us : Tokens} → Is CLASS_HAVE_WORD w → IsWhole n a ts → Is CLASS_BY_WORD b
          → IsProof h n d us → IsPlain h n (command.Have w a d) (plain w ∷ (ts ++ (plain b ∷ us)))
      absurd_by : {h : Bool} {n : ℕ} (w b : SeenToken) {d : Cert} {ts : Tokens} → Is CLASS_ABSURD_WORD w → Is CLASS_BY_WORD b → IsProof h n d ts
          → IsPlain h n (command.Absurd w d) (plain w ∷ plain b ∷ ts)
      fold_inst : {h : Bool} {n : ℕ} (w k : SeenToken) {p : Inst} {f : Filling} {ts us : Tokens} → Is CLASS_FOLD_WORD w → IsInst n p ts → Is CLASS_NUMBER k
          → IsFilling h n f us → IsPlain h n (command.Fold w p k f) (plain w ∷ (ts ++ (plain k ∷ us)))
      take_at : {h : Bool} {n : ℕ} (w q : SeenToken) {x : Atom} {a : PlacedTerm} {ts us : Tokens} → AnyOf (CLASS_TAKE_WORD ∷ CLASS_PUT_WORD ∷ []) w
          → IsAtom n x ts → Is CLASS_AT_WORD q → IsWhole n a us → IsPlain h n (command.At w x a) (plain w ∷ (ts ++ (plain q ∷ us)))
      take_hole : {n : ℕ} (w o q : SeenToken) {a : PlacedTerm} {ts : Tokens} → AnyOf (CLASS_TAKE_WORD ∷ CLASS_PUT_WORD ∷ []) w → Is CLASS_HOLE o
          → Is CLASS_AT_WORD q → IsWhole n a ts → IsPlain true n (command.AtHole w o a) (plain w ∷ plain o ∷ plain q ∷ ts)
      unfold_inst : {h : Bool} {n : ℕ} (w : SeenToken) {p : Inst} {xs : List SeenToken} {ts us : Tokens} → Is CLASS_UNFOLD_WORD w → IsInst n p ts
          → IsNames n xs us
          → IsPlain h n (command.Unfold w p xs) (plain w ∷ (ts ++ us))
      step_alone : {h : Bool} {n : ℕ} (w : SeenToken) {xs : List PlacedTerm} {ns : List SeenToken} {d : Option Block} {ts us vs : Tokens}
          → Is CLASS_STEP_WORD w
          → IsWith n xs ts → IsAs n ns us → IsDuring n d vs → IsPlain h n (command.Step w xs ns d []) (plain w ∷ (ts ++ (us ++ vs)))

    -- commands with blocks: such a one is the last of its block
    pub data IsLast : Bool → ℕ → Command → Tokens → Type 0 where
      unfold_arms : {h : Bool} {n : ℕ} (w : SeenToken) {p : Inst} {xs : List Arm} {ts us : Tokens} → Is CLASS_UNFOLD_WORD w → IsInst n p ts → IsArms h n xs us
          → IsLast h n (command.UnfoldArms w p xs) (plain w ∷ (ts ++ us))
      cases_of : {h : Bool} {n : ℕ} (w : SeenToken) {e : PlacedTerm} {a b : Block} {ts us vs : Tokens} → Is CLASS_CASES_WORD w → IsWhole n e ts
          → IsBlock h n a us
          → IsBlock h n b vs → IsLast h n (command.Cases w e a b) (plain w ∷ (ts ++ (us ++ vs)))
      step_blocks : {h : Bool} {n : ℕ} (w : SeenToken) {xs : List PlacedTerm} {ns : List SeenToken} {d : Option Block} {ks : List Block}
          {ts us vs ws : Tokens}
          → Is CLASS_STEP_WORD w → IsWith n xs ts → IsAs n ns us → IsDuring n d vs → IsBlocks h n ks ws
          → IsLast h n (command.Step w xs ns d ks) (plain w ∷ (ts ++ (us ++ (vs ++ ws))))

    -- { Command ";" }
    pub data IsCommands : Bool → ℕ → List Command → Tokens → Type 0 where
      no_commands : {h : Bool} {n : ℕ} → IsCommands h n [] []
      next_command : {h : Bool} {n : ℕ} (e : SeenToken) {x : Command} {xs : List Command} {ts us : Tokens} → IsCommands h n xs ts → IsPlain h n x us
          → Is CLASS_SEMI e
          → IsCommands h n (xs ++ x ∷ []) (ts ++ (us ++ (plain e ∷ [])))

    -- the same, and maybe a command with blocks, whose semicolon may be left out
    pub data IsBody : Bool → ℕ → List Command → Tokens → Type 0 where
      all_plain : {h : Bool} {n : ℕ} {xs : List Command} {ts : Tokens} → IsCommands h n xs ts → IsBody h n xs ts
      with_last : {h : Bool} {b : Option SeenToken} {n : ℕ} {x : Command} {xs : List Command} {ts us vs : Tokens} → IsCommands h n xs ts
          → IsLast h n x us → IsEnding n b vs
          → IsBody h n (xs ++ x ∷ []) (ts ++ (us ++ vs))

    -- Block = "{" { Command ";" } "}" .
    pub data IsBlock : Bool → ℕ → Block → Tokens → Type 0 where
      block_of : {h : Bool} {n : ℕ} (o c : SeenToken) {xs : List Command} {ts : Tokens} → Is CLASS_L_BRACE o → IsBody h (n + 1) xs ts → Is CLASS_R_BRACE c
          → IsBlock h n (record { start = o; commands = xs; end = c }) (opens n o ∷ (ts ++ (plain c ∷ [])))

    -- Arm = "{" "(" [ Ids ] ")" { Command ";" } "}" .
    pub data IsArm : Bool → ℕ → Arm → Tokens → Type 0 where
      arm_of : {h : Bool} {n : ℕ} (o c : SeenToken) {ns : List SeenToken} {xs : List Command} {ts us : Tokens} → Is CLASS_L_BRACE o → IsNames (n + 1) ns ts
          → IsBody h (n + 1) xs us → Is CLASS_R_BRACE c
          → IsArm h n (record { names = ns; block = record { start = o; commands = xs; end = c } }) (opens n o ∷ (ts ++ (us ++ (plain c ∷ []))))

    -- Arm { Arm } and Block { Block }
    pub data IsArms : Bool → ℕ → List Arm → Tokens → Type 0 where
      first_arm : {h : Bool} {n : ℕ} {x : Arm} {ts : Tokens} → IsArm h n x ts → IsArms h n (x ∷ []) ts
      next_arm : {h : Bool} {n : ℕ} {x : Arm} {xs : List Arm} {ts us : Tokens} → IsArms h n xs ts → IsArm h n x us → IsArms h n (xs ++ x ∷ []) (ts ++ us)

    pub data IsBlocks : Bool → ℕ → List Block → Tokens → Type 0 where
      first_block : {h : Bool} {n : ℕ} {x : Block} {ts : Tokens} → IsBlock h n x ts → IsBlocks h n (x ∷ []) ts
      next_block : {h : Bool} {n : ℕ} {x : Block} {xs : List Block} {ts us : Tokens} → IsBlocks h n xs ts → IsBlock h n x us
          → IsBlocks h n (xs ++ x ∷ []) (ts ++ us)

    -- [ "during" Block ]
    pub data IsDuring : ℕ → Option Block → Tokens → Type 0 where
      no_during : {n : ℕ} → IsDuring n None []
      during_block : {n : ℕ} (w : SeenToken) {k : Block} {ts : Tokens} → Is CLASS_DURING_WORD w → IsBlock false n k ts → IsDuring n (Some k) (plain w ∷ ts)

  -- ---- declarations

  -- Case = "case" "(" [ Pars ] ")" Heap .
  pub data IsCase : ℕ → Case → Tokens → Type 0 where
    case_of : {n : ℕ} (w : SeenToken) {ps : List Par} {xs : List Item} {ts us : Tokens} → Is CLASS_CASE_WORD w → IsPars n ps ts → IsHeap n xs us
        → IsCase n (record { vars = ps; items = xs }) (plain w ∷ (ts ++ us))

  -- Book = "book" id ":" Sort number "=" Term ";" .
  pub data IsBook : ℕ → Book → Tokens → Type 0 where
    book_cells : {n : ℕ} (w i q s k p e : SeenToken) {a : PlacedTerm} {ts : Tokens} → Is CLASS_BOOK_WORD w → AnyOf identifiers i → Is CLASS_COLON q
        → Is CLASS_SORT_WORD s
        → Is CLASS_NUMBER k → Is CLASS_ASSIGN p → IsWhole n a ts → Is CLASS_SEMI e
        → IsBook n (record { name = i; sort = s; count = k; first = a }) (plain w ∷ plain i ∷ plain q ∷ plain s ∷ plain k ∷ plain p ∷ (ts ++ (plain e ∷ [])))

  -- Pred = "pred" id "(" [ Pars ] ")" "{" Case { Case } "}" .
  pub data IsPred : ℕ → Pred → Tokens → Type 0 where
    pred_cases : {n : ℕ} (w i o c : SeenToken) {ps : List Par} {xs : List Case} {ts us : Tokens} → Is CLASS_PRED_WORD w → AnyOf identifiers i → IsPars n ps ts
        → Is CLASS_L_BRACE o → IsSeveral (IsCase (n + 1)) xs us → Is CLASS_R_BRACE c
        → IsPred n (record { name = i; params = ps; cases = xs }) (plain w ∷ plain i ∷ (ts ++ (opens n o ∷ (us ++ (plain c ∷ [])))))

  -- Cut = "cut" id "at" number ( "own" | "shared" ) "locals" "(" [ Ids ] ")" "vars" "(" [ Pars ] ")" Heap Block .
  pub data IsCut : ℕ → Cut → Tokens → Type 0 where
    cut_at : {n : ℕ} (w i q k m l v : SeenToken) {ns : List SeenToken} {ps : List Par} {xs : List Item} {b : Block} {ts us vs ws : Tokens}
        → Is CLASS_CUT_WORD w
        → AnyOf identifiers i → Is CLASS_AT_WORD q → Is CLASS_NUMBER k → AnyOf (CLASS_OWN_WORD ∷ CLASS_SHARED_WORD ∷ []) m → Is CLASS_LOCALS_WORD l
        → IsNames n ns ts → Is CLASS_VARS_WORD v → IsPars n ps us → IsHeap n xs vs → IsBlock true n b ws
        → IsCut n (record { name = i; number = k; mode = m; locals = ns; vars = ps; items = xs; block = b })
        (plain w ∷ plain i ∷ plain q ∷ plain k ∷ plain m ∷ plain l ∷ (ts ++ (plain v ∷ (us ++ (vs ++ ws)))))

  -- "op" id Block { Cut }
  pub data IsOp : ℕ → Op → Tokens → Type 0 where
    op_block : {n : ℕ} (w i : SeenToken) {b : Block} {cs : List Cut} {ts us : Tokens} → Is CLASS_OP_WORD w → AnyOf identifiers i → IsBlock true n b ts
        → IsMany (IsCut n) cs us
        → IsOp n (record { name = i; block = b; cuts = cs }) (plain w ∷ plain i ∷ (ts ++ us))

  -- [ "own" Inst ]
  pub data IsOwn : ℕ → Option Inst → Tokens → Type 0 where
    no_own : {n : ℕ} → IsOwn n None []
    own_inst : {n : ℕ} (w : SeenToken) {p : Inst} {ts : Tokens} → Is CLASS_OWN_WORD w → IsInst n p ts → IsOwn n (Some p) (plain w ∷ ts)

  -- Proc = "proc" id [ "own" Inst ] "vars" "(" [ Pars ] ")" "pre" Heap "post" "(" [ Ids ] ")" Heap Block { Cut } .
  pub data IsProc : ℕ → Proc → Tokens → Type 0 where
    proc_block : {n : ℕ} (w i v p q : SeenToken) {r : Option Inst} {ps : List Par} {xs ys : List Item} {ns : List SeenToken} {b : Block} {cs : List Cut}
        {ts us vs ws xt yt zt : Tokens} → Is CLASS_PROC_WORD w → AnyOf identifiers i → IsOwn n r ts → Is CLASS_VARS_WORD v → IsPars n ps us
        → Is CLASS_PRE_WORD p
        → IsHeap n xs vs → Is CLASS_POST_WORD q → IsNames n ns ws → IsHeap n ys xt → IsBlock true n b yt → IsMany (IsCut n) cs zt
        → IsProc n (record { name = i; own = r; vars = ps; pre = xs; results = ns; post = ys; block = b; cuts = cs })
        (plain w ∷ plain i ∷ (ts ++ (plain v ∷ (us ++ (plain p ∷ (vs ++ (plain q ∷ (ws ++ (xt ++ (yt ++ zt))))))))))

  -- Script = { Book } { Pred } "crash" id ";" "root" id ";" "init" Block "recover" Block { Cut } { "op" id Block { Cut } } { Proc } .
  pub data IsScript : ℕ → Script → Tokens → Type 0 where
    script_of : {n : ℕ} (w i e v j f x y : SeenToken) {bs : List Book} {ps : List Pred} {a b : Block} {cs : List Cut} {os : List Op} {rs : List Proc}
        {ts us vs ws xt yt zt : Tokens} → IsMany (IsBook n) bs ts → IsMany (IsPred n) ps us → Is CLASS_CRASH_WORD w → AnyOf identifiers i → Is CLASS_SEMI e
        → Is CLASS_ROOT_WORD v → AnyOf identifiers j → Is CLASS_SEMI f → Is CLASS_INIT_WORD x → IsBlock true n a vs → Is CLASS_RECOVER_WORD y
        → IsBlock true n b ws
        → IsMany (IsCut n) cs xt → IsMany (IsOp n) os yt → IsMany (IsProc n) rs zt
        → IsScript n (record {
          books = bs;
          preds = ps;
          crash_word = w;
          crash = i;
          root_word = v;
          root = j;
          init = a;
          recover = b;
          cuts = cs;
          ops = os;
          procs = rs;
        })
        (ts ++ (us ++ (plain w ∷ plain i ∷ plain e ∷ plain v ∷ plain j ∷ plain f ∷ plain x ∷ (vs ++ (plain y ∷ (ws ++ (xt ++ (yt ++ zt))))))))
