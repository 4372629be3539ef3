-- The worked rows, computed.
use Rattle.std.proofs.Common.{◌≡◌, ℕ, ◌≤◌, Bool, true, false, ◌&&◌, ◌||◌, inl, inr, [], ◌∷◌, None, refl, subst, arith}
use Rattle.std.specs.Prelude.{nat_lt, nat_le, nat_eq}
use Rattle.gv_base.specs.Codes.{code_number}
use Rattle.gv_base.specs.declared.answers.Code.{Code}
use Rattle.gv_base.specs.declared.answers.Code.TheVariants as code
use Rattle.gv_text.specs.Answers.{IsNotAfter}
use Rattle.gv_atomic.specs.declared.spec.Spec.{Spec}
use Rattle.gv_termread.specs.declared.generated.term_table.TheConstants.{CLASS_LEN_WORD, CLASS_NIL_WORD}
use Rattle.gv_scriptnames.specs.declared.mention.Mention.TheVariants as mention
use Rattle.gv_scriptnames.specs.declared.outline.Outline.{Outline}
use Rattle.gv_scriptnames.specs.Found.{Found, IsIn, found}
use Rattle.gv_scriptnames.specs.Laws.{IsTypedOutline, IsRefusedOutline}
use Rattle.gv_scriptnames.specs.Rows.{letters, n, number, par, program, case_of, pred, no_body, cut, proc, outline, AreRows}
use Rattle.gv_scriptnames.proofs.Agreement.{moved}
use Rattle.gv_scriptnames.proofs.Wholes.{outline_same}

-- ---- the first of what is found

abbrev is_before : ℕ → Code → ℕ → Code → Bool
is_before at code other other_code = nat_lt at other || (nat_eq at other && nat_le (code_number code) (code_number other_code))

abbrev comes_first : ℕ → Code → Found → Bool
comes_first at code [] = true
comes_first at code (f ∷ fs) = is_before at code f.0 f.1 && comes_first at code fs

place_before : (m n i j : ℕ) → (nat_lt m n || (nat_eq m n && nat_le i j)) ≡ true → m ≤ n
place_before m n i j e = grind arith

number_before : (m n i j : ℕ) → (nat_lt m n || (nat_eq m n && nat_le i j)) ≡ true → m ≡ n → i ≤ j
number_before m n i j e q = grind arith

not_after : (at other : ℕ) (code other_code : Code) → is_before at code other other_code ≡ true → IsNotAfter code_number at code other other_code
not_after at other code other_code e = record {
  place = place_before at other (code_number code) (code_number other_code) e;
  number = λ q. number_before at other (code_number code) (code_number other_code) e q;
}

halves : (a b : Bool) → (a && b) ≡ true → (a ≡ true) × (b ≡ true)
halves true b e = (refl, e)
halves false b e = absurd cc

before_all : (at : ℕ) (code : Code) (fs : Found) → comes_first at code fs ≡ true → (other : ℕ) (other_code : Code) → IsIn fs other other_code → IsNotAfter code_number at code other other_code
before_all at code [] e other other_code h = absurd h
before_all at code (f ∷ fs) e other other_code (inl g) =
    moved (λ m c. IsNotAfter code_number at code m c) f.0 other f.1 other_code g.0 g.1 (not_after at f.0 code f.1 (halves (is_before at code f.0 f.1) (comes_first at code fs) e).0)
before_all at code (f ∷ fs) e other other_code (inr g) = before_all at code fs (halves (is_before at code f.0 f.1) (comes_first at code fs) e).1 other other_code g

refused : (spec : Spec) (s : Outline) (at : ℕ) (code : Code) → IsIn (found letters spec program s) at code → comes_first at code (found letters spec program s) ≡ true
    → IsRefusedOutline letters spec program s at code
refused spec s at code h e = let same = outline_same letters spec program s in record {
  there = same.so at code h;
  others = λ other other_code g. before_all at code (found letters spec program s) e other other_code (same.found other other_code g);
}

typed : (spec : Spec) (s : Outline) → found letters spec program s ≡ [] → IsTypedOutline letters spec program s
typed spec s e at code h = subst (λ (fs : Found). IsIn fs at code) e ((outline_same letters spec program s).found at code h)

-- ---- rows

pub all_rows : AreRows
all_rows = record {
  least = λ spec. typed spec (outline [] [] [] no_body []) refl;
  earlier_predicate = λ spec. typed spec (outline [] (pred 2 [] (mention.Pred (n 1) 1 ∷ []) ∷ []) [] no_body []) refl;
  later_predicate = λ spec. refused spec (outline [] (pred 2 [] (mention.Pred (n 3) 0 ∷ []) ∷ pred 3 [] [] ∷ []) [] no_body []) 3 code.Undeclared (inl (refl, refl)) refl;
  own_predicate = λ spec. refused spec (outline [] (pred 2 [] (mention.Pred (n 2) 0 ∷ []) ∷ []) [] no_body []) 2 code.Undeclared (inl (refl, refl)) refl;
  too_many_terms = λ spec. refused spec (outline [] [] (mention.Pred (n 1) 2 ∷ []) no_body []) 1 code.WrongCount (inl (refl, refl)) refl;
  parameter_twice = λ spec. refused spec (outline [] (pred 2 (par 5 0 ∷ par 5 0 ∷ []) [] ∷ []) [] no_body []) 5 code.Twice (inl (refl, refl)) refl;
  named_as_a_function = λ spec. refused spec (outline [] (record { name = record { class = CLASS_LEN_WORD; start = 2; end = 3; value = 0 }; params = []; cases = case_of [] ∷ [] } ∷ []) [] no_body []) 2 code.Twice (inl (refl, refl)) refl;
  bound_as_a_constant = λ spec. refused spec (outline [] [] (mention.Bound (record { class = CLASS_NIL_WORD; start = 5; end = 6; value = 0 }) ∷ []) no_body []) 5 code.Twice (inl (refl, refl)) refl;
  book_of_none = λ spec. refused spec (outline (record { name = n 2; count = number 3 0 } ∷ []) [] [] no_body []) 3 code.TooMany (inl (refl, refl)) refl;
  book_of_most = λ spec. typed spec (outline (record { name = n 2; count = number 3 65536 } ∷ []) [] [] no_body []) refl;
  cut_at_no_point = λ spec. refused spec (outline [] [] [] (record { block = []; cuts = cut 7 1 [] ∷ [] }) []) 8 code.TooMany (inl (refl, refl)) refl;
  no_such_procedure = λ spec. refused spec (outline [] [] [] no_body (record { name = n 8; own = None; vars = []; results = n 10 ∷ []; pre = []; post = []; body = no_body } ∷ [])) 8 code.Undeclared (inl (refl, refl)) refl;
  local_of_another = λ spec. refused spec (outline [] [] [] (record { block = []; cuts = cut 7 1 (n 4 ∷ []) ∷ [] }) []) 4 code.Undeclared (inr (inl (refl, refl))) refl;
  own_local = λ spec. refused spec (outline [] [] [] no_body (proc (record { block = []; cuts = cut 7 1 (n 4 ∷ []) ∷ [] }) ∷ [])) 8 code.TooMany (inl (refl, refl)) refl;
  cut_of_recovery = λ spec. refused spec (outline [] [] [] (record { block = []; cuts = cut 7 1 [] ∷ [] }) (proc (record { block = mention.Cut (n 7) ∷ []; cuts = [] }) ∷ [])) 7 code.Undeclared (inr (inl (refl, refl))) refl;
  own_cut = λ spec. refused spec (outline [] [] [] (record { block = mention.Cut (n 7) ∷ []; cuts = cut 7 1 [] ∷ [] }) []) 8 code.TooMany (inl (refl, refl)) refl;
  result_as_a_parameter = λ spec. refused spec (outline [] [] [] no_body (record { name = n 9; own = None; vars = []; results = n 4 ∷ []; pre = []; post = []; body = no_body } ∷ [])) 4 code.Twice (inl (refl, refl)) refl;
  two_results = λ spec. refused spec (outline [] [] [] no_body (record { name = n 9; own = None; vars = []; results = n 10 ∷ n 6 ∷ []; pre = []; post = []; body = no_body } ∷ [])) 9 code.WrongCount (inl (refl, refl)) refl;
  no_such_cell = λ spec. refused spec (outline [] [] (mention.Cell (n 5) ∷ []) no_body []) 5 code.Undeclared (inl (refl, refl)) refl;
  no_such_book = λ spec. refused spec (outline [] [] (mention.Book (n 5) ∷ []) no_body []) 5 code.Undeclared (inl (refl, refl)) refl;
}
