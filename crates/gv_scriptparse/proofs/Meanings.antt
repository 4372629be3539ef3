-- What each name of the grammar means, and what is read so far where only what follows tells what it is.
use Rattle.std.proofs.Common.{◌≡◌, ◌||◌, ⊎_elim, ℕ, Bool, true, false, eqb, List, [], ◌∷◌, ◌++◌, Option, inl, inr, refl, sym, ap, subst, ◌∙◌, append_assoc, arith}
use Rattle.std.proofs.lemmas.List.{append-nil}
use Rattle.gv_grammar.specs.Derivation.{is_among, symbols_of}
use Rattle.std.specs.Prelude.{◌<◌, length}
use Rattle.gv_grammar.specs.Text.{plain, token_of, tokens_of}
use Rattle.gv_grammar.proofs.Meaning.{Meant, Made, mk, Phrase, Tail, more_classes}
use Rattle.gv_termread.specs.declared.generated.term_table.TheConstants.{CLASS_AT_LEAST, CLASS_AT_MOST, CLASS_BANG, CLASS_CARET, CLASS_EQUAL, CLASS_GREATER, CLASS_LESS, CLASS_L_PAREN, CLASS_NOT_EQUAL, CLASS_NUMBER, CLASS_PUT_WORD}
use Rattle.gv_scriptsyntax.specs.declared.generated.script_table.TheConstants.{CLASS_BOOK_ATOM_WORD, CLASS_CELL_ATOM_WORD, CLASS_DONE_WORD, CLASS_EACH_WORD, CLASS_FIELD_ATOM_WORD, CLASS_HALVES_WORD, CLASS_LOCK_WORD, CLASS_ONE_ATOM_WORD, CLASS_SEMI, CLASS_STEP_WORD, CLASS_TAKE_WORD, CLASS_THREE_ATOM_WORD, CLASS_TOKEN_WORD, CLASS_UNFOLD_WORD}
use Rattle.gv_termread.specs.declared.token.SeenToken.{SeenToken}
use Rattle.gv_termread.specs.declared.placed.PlacedTerm.{PlacedTerm}
use Rattle.gv_termread.specs.Language.{Tokens, Is, AnyOf, makers, of_one, of_two, of_three, constants, comparing, inverting, IsDisjunction, IsComparison, IsUnary, IsPrim, term, number, constant, variable, paren, maker, one, two, three}
use Rattle.gv_termread.proofs.Backward.{M}
use Rattle.gv_scriptsyntax.specs.declared.tree.Inst.{Inst}
use Rattle.gv_scriptsyntax.specs.declared.tree.Arm.{Arm}
use Rattle.gv_scriptsyntax.specs.declared.tree.Block.{Block}
use Rattle.gv_scriptsyntax.specs.declared.tree.Command.{Command}
use Rattle.gv_scriptsyntax.specs.declared.tree.Command.TheVariants as command
use Rattle.gv_scriptsyntax.specs.declared.tree.Filling.TheVariants as filling
use Rattle.gv_scriptsyntax.specs.declared.tree.Item.TheVariants.{Fact}
use Rattle.gv_scriptsyntax.specs.Words.{two_atoms, single_atoms, atom_words, named, free_words, lexicon}
use Rattle.gv_scriptsyntax.specs.ScriptTable.{script_tables}
use Rattle.gv_scriptsyntax.proofs.ScriptContains.{script_contains}
use Rattle.gv_scriptparse.proofs.Among.{among_right, among_left}
use Rattle.gv_scriptsyntax.specs.Lists.{IsItems, IsList, IsMany, IsRest, IsSeveral}
use Rattle.gv_scriptsyntax.specs.Language.{IsArguments, IsArm, IsArms, IsAs, IsAtom, IsAtoms, IsBlock, IsBlocks, IsBody, IsBook, IsBuiltIn, IsCase, IsCert, IsCommands, IsCut, IsDuring, IsEach, IsEnding, IsEquation, IsExcept, IsFactor, IsFilling, IsFirst, IsFirstComparison, IsFirstConjunction, IsFirstDisjunction, IsFirstPrim, IsFirstProduct, IsFirstSum, IsFirstUnary, IsHaves, IsHeap, IsHeapItems, IsInst, IsItem, IsName, IsNames, IsOp, IsOwn, IsPar, IsPars, IsPlain, IsPlainAtom, IsPred, IsProc, IsProof, IsReply, IsScript, IsSecond, IsSimple, IsWhole, IsWith, IsWithin, begins_with, fact, filled, in_terms, next_command, second_term, step_alone, step_blocks, unfold_arms, unfold_inst, with_last}

-- ---- classes

pub named_free : (k : ℕ) → is_among k named ≡ true → is_among k free_words ≡ true
named_free k h = among_left k named atom_words h

atom_free : (k : ℕ) → is_among k atom_words ≡ true → is_among k free_words ≡ true
atom_free k h = among_right k named atom_words h

-- a word of one class
pub word_free : (class k : ℕ) → k ≡ class → is_among class free_words ≡ true → is_among k free_words ≡ true
word_free class k e h = subst (λ (j : ℕ). is_among j free_words ≡ true) (sym e) h

pub one_atom_free : (k : ℕ) → k ≡ CLASS_ONE_ATOM_WORD → is_among k free_words ≡ true
one_atom_free k e = word_free CLASS_ONE_ATOM_WORD k e refl

pub two_atoms_free : (k : ℕ) → is_among k two_atoms ≡ true → is_among k free_words ≡ true
two_atoms_free k h = atom_free k (among_right k (CLASS_ONE_ATOM_WORD ∷ []) (two_atoms ++ single_atoms) (among_left k two_atoms single_atoms h))

pub bang_inverts : (k : ℕ) → k ≡ CLASS_BANG → is_among k inverting ≡ true
bang_inverts k e = subst (λ (j : ℕ). is_among j inverting ≡ true) (sym e) refl

pub no_caret : (k : ℕ) → k ≡ CLASS_BANG → eqb k CLASS_CARET ≡ false
no_caret k e = subst (λ (j : ℕ). eqb j CLASS_CARET ≡ false) (sym e) refl

pub equal_compares : (k : ℕ) → k ≡ CLASS_EQUAL → is_among k comparing ≡ true
equal_compares k e = subst (λ (j : ℕ). is_among j comparing ≡ true) (sym e) refl

pub other_compares : (k : ℕ) → is_among k (CLASS_NOT_EQUAL ∷ CLASS_LESS ∷ CLASS_AT_MOST ∷ CLASS_GREATER ∷ CLASS_AT_LEAST ∷ []) ≡ true → is_among k comparing ≡ true
other_compares k h = among_right k (CLASS_EQUAL ∷ []) (CLASS_NOT_EQUAL ∷ CLASS_LESS ∷ CLASS_AT_MOST ∷ CLASS_GREATER ∷ CLASS_AT_LEAST ∷ []) h

-- a class that is among some is no other one
unlike : (k c : ℕ) (cs : List ℕ) → is_among k cs ≡ true → is_among c cs ≡ false → eqb k c ≡ false
unlike k c [] h g = absurd cc
unlike k c (m ∷ ms) h g = go (eqb m c) refl (unlike k c ms)
  where
    left_false : (a b : Bool) → (a || b) ≡ false → a ≡ true → ⊥
    left_false true b p q = absurd cc
    left_false false b p q = absurd cc

    right_false : (a b : Bool) → (a || b) ≡ false → b ≡ false
    right_false true b p = absurd cc
    right_false false b p = p

    go : (b : Bool) → eqb m c ≡ b → (is_among k ms ≡ true → is_among c ms ≡ false → eqb k c ≡ false) → eqb k c ≡ false
    go true e rest = absurd (left_false (eqb m c) (is_among c ms) g e)
    go false e rest =
        ⊎_elim (λ (q : k ≡ m). subst (λ (j : ℕ). eqb j c ≡ false) (sym q) e) (λ (q : is_among k ms ≡ true). rest q (right_false (eqb m c) (is_among c ms) g)) (more_classes m k (is_among k ms) h)

module _ (text : List ℕ) where
  -- ---- relations with a level behind, as those with none

  abbrev pub Disjunction : ℕ → PlacedTerm × ℕ → Tokens → Type 0
  Disjunction n x ps = IsDisjunction (lexicon text) n x.0 x.1 ps

  abbrev pub Comparison : ℕ → PlacedTerm × ℕ → Tokens → Type 0
  Comparison n x ps = IsComparison (lexicon text) n x.0 x.1 ps

  abbrev pub Unary : ℕ → PlacedTerm × ℕ → Tokens → Type 0
  Unary n x ps = IsUnary (lexicon text) n x.0 x.1 ps

  abbrev pub FirstUnary : ℕ → PlacedTerm × ℕ → Tokens → Type 0
  FirstUnary n x ps = IsFirstUnary text n x.0 x.1 ps

  abbrev pub FirstProduct : ℕ → PlacedTerm × ℕ → Tokens → Type 0
  FirstProduct n x ps = IsFirstProduct text n x.0 x.1 ps

  abbrev pub FirstSum : ℕ → PlacedTerm × ℕ → Tokens → Type 0
  FirstSum n x ps = IsFirstSum text n x.0 x.1 ps

  abbrev pub FirstComparison : ℕ → PlacedTerm × ℕ → Tokens → Type 0
  FirstComparison n x ps = IsFirstComparison text n x.0 x.1 ps

  abbrev pub FirstConjunction : ℕ → PlacedTerm × ℕ → Tokens → Type 0
  FirstConjunction n x ps = IsFirstConjunction text n x.0 x.1 ps

  abbrev pub FirstDisjunction : ℕ → PlacedTerm × ℕ → Tokens → Type 0
  FirstDisjunction n x ps = IsFirstDisjunction text n x.0 x.1 ps

  -- a comparison that is an equation, as far as it goes
  abbrev pub IsEquated : ℕ → PlacedTerm × ℕ → Tokens → Type 0
  IsEquated n x ps = IsComparison (lexicon text) n x.0 x.1 ps × IsEquation text n x.0 ps

  -- ---- terms by their first operand

  pub fact_of : (n : ℕ) (us : List SeenToken) → Tail Unary Disjunction us → {x : PlacedTerm} {m : ℕ} {xs : Tokens} → IsUnary (lexicon text) n x m xs → Made (IsItem text n) (tokens_of xs ++ (us ++ []))
  fact_of n us d {x} {m} {xs} h = let a = d n (x, m) xs h in mk (IsItem text n) (Fact a.tree.0) a.placed (fact (term a.spelled)) (a.same ∙ ap (λ (vs : List SeenToken). tokens_of xs ++ vs) (sym (append-nil us)))

  -- tokens that go on begin as they did
  begins_on : (class : ℕ) (xs ys : Tokens) (us : List SeenToken) → (0 < length xs) → tokens_of ys ≡ tokens_of xs ++ us → begins_with text class xs ≡ false → begins_with text class ys ≡ false
  begins_on class [] ys us l e h = absurd (omega (arith, l))
  begins_on class (x ∷ xs) [] us l e h = refl
  begins_on class (x ∷ xs) (y ∷ ys) us l e h =
      let q : token_of y ≡ token_of x = cc in
      subst (λ (t : SeenToken). eqb t.class class ≡ false) (sym q) h

  -- an operand begins with no `^`
  pub record BeginsWell (xs : Tokens) : Type 0 where
    pub some : 0 < length xs
    pub well : begins_with text CLASS_CARET xs ≡ false

  pub prim_begins : {n : ℕ} {x : PlacedTerm} {xs : Tokens} → IsPrim (lexicon text) n x xs → BeginsWell xs
  prim_begins (number t i) = record { some = omega arith; well = unlike t.class CLASS_CARET (CLASS_NUMBER ∷ []) i refl }
  prim_begins (constant t i) = record { some = omega arith; well = unlike t.class CLASS_CARET constants i refl }
  prim_begins (variable t (inl i)) = record { some = omega arith; well = unlike t.class CLASS_CARET free_words i refl }
  prim_begins (variable t (inr (inl i))) = record { some = omega arith; well = unlike t.class CLASS_CARET makers i refl }
  prim_begins (variable t (inr (inr (inl i)))) = record { some = omega arith; well = unlike t.class CLASS_CARET of_one i refl }
  prim_begins (variable t (inr (inr (inr (inl i))))) = record { some = omega arith; well = unlike t.class CLASS_CARET of_two i refl }
  prim_begins (variable t (inr (inr (inr (inr i))))) = record { some = omega arith; well = unlike t.class CLASS_CARET of_three i refl }
  prim_begins (paren o z i d l) = record { some = omega arith; well = subst (λ (k : ℕ). eqb k CLASS_CARET ≡ false) (sym i) refl }
  prim_begins (maker f o j s z h i g l d p) = record { some = omega arith; well = unlike f.class CLASS_CARET makers h refl }
  prim_begins (one f o z h i d l) = record { some = omega arith; well = unlike f.class CLASS_CARET of_one h refl }
  prim_begins (two f o s z h i d l e p) = record { some = omega arith; well = unlike f.class CLASS_CARET of_two h refl }
  prim_begins (three f o s r z h i d l e p b q) = record { some = omega arith; well = unlike f.class CLASS_CARET of_three h refl }

  pub second_of : (n : ℕ) (us vs : List SeenToken) (xs : Tokens) → Tail Unary Disjunction vs → {x : PlacedTerm} {m : ℕ} → IsUnary (lexicon text) n x m xs → BeginsWell xs → tokens_of xs ++ vs ≡ us → Made (IsSecond text n) us
  second_of n us vs xs k {x} {m} h b e =
      let a = k n (x, m) xs h in
      mk (IsSecond text n) a.tree.0 a.placed (second_term (term a.spelled) (begins_on CLASS_CARET xs a.placed vs b.some a.same b.well)) (a.same ∙ e)

  -- ---- commands, as far as what follows tells what they are

  pub data IsUnfolding (h : Bool) : ℕ → (List Command × SeenToken) × Inst → Tokens → Type 0 where
    unfolding_of : {n : ℕ} {w : SeenToken} {p : Inst} {xs : List Command} {ts us : Tokens} → IsCommands text h n xs ts → Is CLASS_UNFOLD_WORD w → IsInst text n p us
        → IsUnfolding h n ((xs, w), p) (ts ++ (plain w ∷ us))

  pub data IsStepping (h : Bool) : ℕ → (((List Command × SeenToken) × List PlacedTerm) × List SeenToken) × Option Block → Tokens → Type 0 where
    stepping_of : {n : ℕ} {w : SeenToken} {gs : List PlacedTerm} {ns : List SeenToken} {d : Option Block} {xs : List Command} {ts us vs ws : Tokens} → IsCommands text h n xs ts → Is CLASS_STEP_WORD w
        → IsWith text n gs us → IsAs text n ns vs → IsDuring text n d ws → IsStepping h n ((((xs, w), gs), ns), d) (ts ++ (plain w ∷ (us ++ (vs ++ ws))))

  pub unfolded : {h : Bool} {n : ℕ} {x : (List Command × SeenToken) × Inst} {ts us : Tokens} {ns : List SeenToken} (e : SeenToken) → IsUnfolding h n x ts → IsNames n ns us → Is CLASS_SEMI e
      → IsCommands text h n (x.0.0 ++ command.Unfold x.0.1 x.1 ns ∷ []) (ts ++ (us ++ (plain e ∷ [])))
  unfolded {h} {n} {ns = ns} e (unfolding_of {w = w} {p = p} {xs = xs} c q i) d g =
      subst (λ (ps : Tokens). IsCommands text h n (xs ++ command.Unfold w p ns ∷ []) ps) (simp append_assoc) (next_command e c (unfold_inst w q i d) g)

  pub unfolded_arms : {h : Bool} {n : ℕ} {x : (List Command × SeenToken) × Inst} {ts us vs : Tokens} {gs : List Arm} {b : Option SeenToken} → IsUnfolding h n x ts → IsArms text h n gs us → IsEnding text n b vs
      → IsBody text h n (x.0.0 ++ command.UnfoldArms x.0.1 x.1 gs ∷ []) (ts ++ (us ++ vs))
  unfolded_arms {h} {n} {gs = gs} (unfolding_of {w = w} {p = p} {xs = xs} c q i) d g =
      subst (λ (ps : Tokens). IsBody text h n (xs ++ command.UnfoldArms w p gs ∷ []) ps) (simp append_assoc) (with_last c (unfold_arms w q i d) g)

  pub stepped : {h : Bool} {n : ℕ} {x : (((List Command × SeenToken) × List PlacedTerm) × List SeenToken) × Option Block} {ts : Tokens} (e : SeenToken) → IsStepping h n x ts → Is CLASS_SEMI e
      → IsCommands text h n (x.0.0.0.0 ++ command.Step x.0.0.0.1 x.0.0.1 x.0.1 x.1 [] ∷ []) (ts ++ (plain e ∷ []))
  stepped {h} {n} e (stepping_of {w = w} {gs = gs} {ns = ns} {d = d} {xs = xs} c q i j k) g =
      subst (λ (ps : Tokens). IsCommands text h n (xs ++ command.Step w gs ns d [] ∷ []) ps) (simp append_assoc) (next_command e c (step_alone w q i j k) g)

  pub stepped_blocks : {h : Bool} {n : ℕ} {x : (((List Command × SeenToken) × List PlacedTerm) × List SeenToken) × Option Block} {ts us vs : Tokens} {ks : List Block} {b : Option SeenToken}
      → IsStepping h n x ts → IsBlocks text h n ks us → IsEnding text n b vs
      → IsBody text h n (x.0.0.0.0 ++ command.Step x.0.0.0.1 x.0.0.1 x.0.1 x.1 ks ∷ []) (ts ++ (us ++ vs))
  stepped_blocks {h} {n} {ks = ks} (stepping_of {w = w} {gs = gs} {ns = ns} {d = d} {xs = xs} c q i j k) l g =
      subst (λ (ps : Tokens). IsBody text h n (xs ++ command.Step w gs ns d ks ∷ []) ps) (simp append_assoc) (with_last c (step_blocks w q i j k l) g)

  pub arguments_fill : {n : ℕ} {xs : List PlacedTerm} {ts : Tokens} → IsArguments text n xs ts → IsFilling text false n (filling.Terms xs) ts
  arguments_fill (in_terms o c h d i) = filled o c h d i

  -- ---- what each name means that no term has

  abbrev pub own_meanings : List (List SeenToken → Type 0)
  own_meanings =
      Phrase (IsScript text)  -- Text
      ∷ Tail (λ n. IsMany (IsBook text n)) (λ n. IsMany (IsBook text n))  -- Books
      ∷ Tail (λ n. IsMany (IsPred text n)) (λ n. IsMany (IsPred text n))  -- Preds
      ∷ Phrase (IsCase text)  -- Case
      ∷ Tail (λ n. IsSeveral (IsCase text n)) (λ n. IsSeveral (IsCase text n))  -- Cases
      ∷ Tail (λ n. IsMany (IsCut text n)) (λ n. IsMany (IsCut text n))  -- Cuts
      ∷ Tail (λ n. IsMany (IsOp text n)) (λ n. IsMany (IsOp text n))  -- Ops
      ∷ Tail (λ n. IsMany (IsProc text n)) (λ n. IsMany (IsProc text n))  -- Procs
      ∷ Phrase (IsOwn text)  -- Own
      ∷ Phrase IsNames  -- InNames
      ∷ Phrase (λ n. IsList IsName)  -- Names
      ∷ Tail (λ n. IsItems IsName) (λ n. IsList IsName)  -- MoreNames
      ∷ Phrase IsPars  -- InPars
      ∷ Phrase (λ n. IsList IsPar)  -- Pars
      ∷ Tail (λ n. IsItems IsPar) (λ n. IsList IsPar)  -- MorePars
      ∷ Phrase (IsArguments text)  -- InTerms
      ∷ Phrase (λ n. IsList (IsWhole text n))  -- Terms
      ∷ Tail (λ n. IsItems (IsWhole text n)) (λ n. IsList (IsWhole text n))  -- MoreTerms
      ∷ Phrase (IsInst text)  -- Inst
      ∷ Phrase (IsAtom text)  -- Atom
      ∷ Phrase (IsPlainAtom text)  -- PlainAtom
      ∷ (λ us. (n : ℕ) (w : SeenToken) → Is CLASS_ONE_ATOM_WORD w → Made (IsBuiltIn text n) (w ∷ us))  -- OneArgs
      ∷ (λ us. (n : ℕ) (w : SeenToken) → AnyOf two_atoms w → Made (IsBuiltIn text n) (w ∷ us))  -- TwoArgs
      ∷ (λ us. (n : ℕ) (w : SeenToken) → Is CLASS_THREE_ATOM_WORD w → Made (IsBuiltIn text n) (w ∷ us))  -- ThreeArgs
      ∷ (λ us. (n : ℕ) (w : SeenToken) → Is CLASS_CELL_ATOM_WORD w → Made (IsBuiltIn text n) (w ∷ us))  -- CellArgs
      ∷ (λ us. (n : ℕ) (w : SeenToken) → Is CLASS_FIELD_ATOM_WORD w → Made (IsBuiltIn text n) (w ∷ us))  -- FieldArgs
      ∷ (λ us. (n : ℕ) (w : SeenToken) → Is CLASS_BOOK_ATOM_WORD w → Made (IsBuiltIn text n) (w ∷ us))  -- BookArgs
      ∷ (λ us. (n : ℕ) (w : SeenToken) → Is CLASS_LOCK_WORD w → Made (IsBuiltIn text n) (w ∷ us))  -- LockArgs
      ∷ (λ us. (n : ℕ) (w : SeenToken) → Is CLASS_TOKEN_WORD w → Made (IsBuiltIn text n) (w ∷ us))  -- TokenArgs
      ∷ Tail (λ n. IsRest (IsWhole text n)) (λ n. IsRest (IsWhole text n))  -- RestTerms
      ∷ (λ us. (n : ℕ) (w : SeenToken) → Is CLASS_DONE_WORD w → Made (IsBuiltIn text n) (w ∷ us))  -- DoneArgs
      ∷ Phrase (IsReply text)  -- Reply
      ∷ (λ us. (n : ℕ) (w : SeenToken) → Is CLASS_EACH_WORD w → Made (IsEach text n) (w ∷ us))  -- EachArgs
      ∷ Phrase (IsExcept text)  -- Except
      ∷ Phrase (λ n. IsItems (IsAtom text n))  -- Atoms
      ∷ Tail (λ n. IsItems (IsAtom text n)) (λ n. IsItems (IsAtom text n))  -- MoreAtoms
      ∷ Phrase (IsAtoms text)  -- InAtoms
      ∷ Phrase (IsHeap text)  -- Heap
      ∷ Tail (IsHeapItems text) (IsHeapItems text)  -- Items
      ∷ Phrase (IsItem text)  -- Item
      ∷ (λ us. (n : ℕ) (w : SeenToken) → AnyOf constants w → Made (IsItem text n) (w ∷ us))  -- ConstantItem
      ∷ (λ us. (n : ℕ) (w : SeenToken) → AnyOf named w → Made (IsItem text n) (w ∷ us))  -- PlainItem
      ∷ (λ us. (n : ℕ) (w : SeenToken) → Is CLASS_ONE_ATOM_WORD w → Made (IsItem text n) (w ∷ us))  -- OneItem
      ∷ (λ us. (n : ℕ) (w : SeenToken) → AnyOf two_atoms w → Made (IsItem text n) (w ∷ us))  -- TwoItem
      ∷ (λ us. (n : ℕ) (w : SeenToken) → Is CLASS_THREE_ATOM_WORD w → Made (IsItem text n) (w ∷ us))  -- ThreeItem
      ∷ (λ us. (n : ℕ) (w : SeenToken) → Is CLASS_CELL_ATOM_WORD w → Made (IsItem text n) (w ∷ us))  -- CellItem
      ∷ (λ us. (n : ℕ) (w : SeenToken) → Is CLASS_FIELD_ATOM_WORD w → Made (IsItem text n) (w ∷ us))  -- FieldItem
      ∷ (λ us. (n : ℕ) (w : SeenToken) → Is CLASS_BOOK_ATOM_WORD w → Made (IsItem text n) (w ∷ us))  -- BookItem
      ∷ (λ us. (n : ℕ) (w : SeenToken) → Is CLASS_LOCK_WORD w → Made (IsItem text n) (w ∷ us))  -- LockItem
      ∷ (λ us. (n : ℕ) (w : SeenToken) → Is CLASS_TOKEN_WORD w → Made (IsItem text n) (w ∷ us))  -- TokenItem
      ∷ (λ us. (n : ℕ) (w : SeenToken) → Is CLASS_DONE_WORD w → Made (IsItem text n) (w ∷ us))  -- DoneItem
      ∷ (λ us. (n : ℕ) (w : SeenToken) → Is CLASS_EACH_WORD w → Made (IsItem text n) (w ∷ us))  -- EachItem
      ∷ (λ us. (n : ℕ) (w : SeenToken) → AnyOf free_words w → Made (IsItem text n) (w ∷ us))  -- VariableItem
      ∷ Tail Unary Disjunction  -- Operators
      ∷ Phrase (IsSecond text)  -- Second
      ∷ Phrase (IsFirst text)  -- First
      ∷ Phrase FirstDisjunction  -- FirstDisjunction
      ∷ Tail FirstDisjunction FirstDisjunction  -- FirstDisjunctionTail
      ∷ Phrase FirstConjunction  -- FirstConjunction
      ∷ Tail FirstConjunction FirstConjunction  -- FirstConjunctionTail
      ∷ Phrase FirstComparison  -- FirstComparison
      ∷ Tail FirstComparison FirstComparison  -- FirstComparisonTail
      ∷ Phrase FirstSum  -- FirstSum
      ∷ Tail FirstSum FirstSum  -- FirstSumTail
      ∷ Phrase FirstProduct  -- FirstProduct
      ∷ Tail FirstProduct FirstProduct  -- FirstProductTail
      ∷ Phrase FirstUnary  -- FirstUnary
      ∷ Phrase (IsFirstPrim text)  -- FirstPrim
      ∷ Phrase (IsEquation text)  -- Equation
      ∷ Tail Comparison (IsEquation text)  -- Unequal
      ∷ Tail IsEquated (IsEquation text)  -- Equated
      ∷ Phrase (IsCert text)  -- Cert
      ∷ Phrase (IsWithin text)  -- Within
      ∷ Phrase (λ n. IsList (IsFactor text n))  -- Factors
      ∷ Tail (λ n. IsItems (IsFactor text n)) (λ n. IsList (IsFactor text n))  -- MoreFactors
      ∷ Phrase (IsFactor text)  -- Factored
      ∷ Tail (IsHaves text) (IsHaves text)  -- Haves
      ∷ Phrase (IsProof text true)  -- CertOrHole
      ∷ Phrase (IsSimple text)  -- Simple
      ∷ (λ us. (n : ℕ) (w : SeenToken) → Is CLASS_HALVES_WORD w → Made (IsSimple text n) (w ∷ us))  -- Halves
      ∷ Phrase (IsWith text)  -- With
      ∷ Phrase (IsAs text)  -- As
      ∷ Phrase (IsDuring text)  -- During
      ∷ Phrase (IsEnding text)  -- Ending
      ∷ Phrase (IsBlock text false)  -- Block
      ∷ Tail (IsCommands text false) (IsBody text false)  -- Commands
      ∷ Tail (IsUnfolding false) (IsBody text false)  -- Unfold
      ∷ Phrase (IsArm text false)  -- Arm
      ∷ Tail (IsArms text false) (IsArms text false)  -- Arms
      ∷ Tail (IsStepping false) (IsBody text false)  -- Step
      ∷ Tail (IsBlocks text false) (IsBlocks text false)  -- Blocks
      ∷ Phrase (IsPlain text false)  -- Plain
      ∷ Phrase (IsBlock text true)  -- HoleyBlock
      ∷ Tail (IsCommands text true) (IsBody text true)  -- HoleyCommands
      ∷ Tail (IsUnfolding true) (IsBody text true)  -- HoleyUnfold
      ∷ Phrase (IsArm text true)  -- HoleyArm
      ∷ Tail (IsArms text true) (IsArms text true)  -- HoleyArms
      ∷ Tail (IsStepping true) (IsBody text true)  -- HoleyStep
      ∷ Tail (IsBlocks text true) (IsBlocks text true)  -- HoleyBlocks
      ∷ Phrase (IsPlain text true)  -- HoleyPlain
      ∷ Phrase (IsFilling text true)  -- Filling
      ∷ (λ us. (n : ℕ) (w : SeenToken) → Is CLASS_L_PAREN w → Made (IsFilling text true n) (w ∷ us))  -- Filled
      ∷ (λ us. (n : ℕ) (w : SeenToken) → AnyOf (CLASS_TAKE_WORD ∷ CLASS_PUT_WORD ∷ []) w → Made (IsPlain text true n) (w ∷ us))  -- Taken
      ∷ []

  abbrev pub Means : ℕ → List SeenToken → Type 0
  Means = M (lexicon text) (script_contains text) own_meanings

  -- a rule keeps the meaning of its name
  abbrev pub Keeps : ℕ → ℕ → Type 0
  Keeps rule of = (us : List SeenToken) → Meant script_tables SeenToken (λ token. token.class) Means (symbols_of script_tables rule) us → Means of us
