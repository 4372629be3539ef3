-- One more of what is printed.
use Rattle.std.proofs.Common.{◌≡◌, ℕ, ◌+◌, ◌<◌, ◌≤◌, Bool, true, false, List, [], ◌∷◌, ◌++◌, length, take, get_or, Some, None, refl, sym, ap, ◌∙◌, arith, append_assoc}
use Rattle.std.specs.Prelude.{slice_get, if◌then◌else◌}
use Rattle.std.proofs.lemmas.List.{take_more, append-nil}
use Rattle.gv_terms.specs.declared.value.Value.{Value}
use Rattle.gv_atomic.specs.declared.spec.Spec.{Spec}
use Rattle.gv_atomic.specs.declared.spec.Op.{Op}
use Rattle.gv_spec.specs.declared.entry.Entry.{Entry}
use Rattle.gv_lines.specs.Lines.{hex_of, are_all, repeated_text, digits_text, values_text, value_text, entry_line, entry_lines, name_in, op_name}

-- the front of a list with one item more
pub front_next : {A : Type 0} (xs : List A) (i : ℕ) (x : A) → i < length xs → x ≡ get_or xs i x → take (i + 1) xs ≡ take i xs ++ x ∷ []
front_next xs i x h is = take_more xs i x h ∙ ap (λ y. take i xs ++ y ∷ []) (sym is)

-- what is appended to a text that a front of the list has made
pub appended : (start out new front text all : List ℕ) → out ≡ start ++ front → new ≡ out ++ text → all ≡ front ++ text → new ≡ start ++ all
appended start out new front text all h k e =
    k ∙ ap (λ (v : List ℕ). v ++ text) h ∙ append_assoc start front text ∙ ap (λ (v : List ℕ). start ++ v) (sym e)

chosen : {A : Type 0} (b : Bool) (x y : A) → b ≡ true → (if b then x else y) ≡ x
chosen true x y h = refl
chosen false x y h = absurd cc

-- ---- bytes

hex_more : (bs : List ℕ) (b : ℕ) → hex_of (bs ++ b ∷ []) ≡ hex_of bs ++ hex_of (b ∷ [])
hex_more [] b = refl
hex_more (c ∷ bs) b = ap (λ (v : List ℕ). hex_of (c ∷ []) ++ v) (hex_more bs b)

pub hex_next : (start out new bs : List ℕ) (i d : ℕ) → i < length bs → out ≡ start ++ hex_of (take i bs) → new ≡ out ++ hex_of (get_or bs i d ∷ [])
    → new ≡ start ++ hex_of (take (i + 1) bs)
hex_next start out new bs i d h so more =
    appended start out new (hex_of (take i bs)) (hex_of (get_or bs i d ∷ [])) (hex_of (take (i + 1) bs)) so more
    (ap hex_of (take_more bs i d h) ∙ hex_more (take i bs) (get_or bs i d))

-- at least two bytes, all of them equal to the first
pub equal_digits : (bs : List ℕ) (b d : ℕ) → 2 ≤ length bs → b ≡ get_or bs 0 d → are_all b bs ≡ true → repeated_text b (length bs) ≡ digits_text bs
equal_digits [] b d h is all = absurd (let l : 2 ≤ 0 = h in omega (arith, l))
equal_digits (c ∷ []) b d h is all = absurd (let l : 2 ≤ 1 = h in omega (arith, l))
equal_digits (c ∷ next ∷ bs) b d h is all =
    let same : are_all c (c ∷ next ∷ bs) ≡ true = ap (λ x. are_all x (c ∷ next ∷ bs)) (sym is) ∙ all in
    ap (λ x. repeated_text x (length (c ∷ next ∷ bs))) is ∙ sym (chosen _ (repeated_text c (length (c ∷ next ∷ bs))) (hex_of (c ∷ next ∷ bs)) same)

pub equal_bytes : (start new bs : List ℕ) (b d : ℕ) → 2 ≤ length bs → b ≡ get_or bs 0 d → are_all b bs ≡ true → new ≡ (start ++ 35 ∷ []) ++ repeated_text b (length bs)
    → new ≡ start ++ 35 ∷ digits_text bs
equal_bytes start new bs b d h is all more =
    more ∙ append_assoc start (35 ∷ []) (repeated_text b (length bs)) ∙ ap (λ (v : List ℕ). start ++ 35 ∷ v) (equal_digits bs b d h is all)

-- ---- values

values_more : (vs : List Value) (v : Value) → values_text (vs ++ v ∷ []) ≡ values_text vs ++ value_text v
values_more [] v = append-nil (value_text v)
values_more (w ∷ vs) v = ap (λ (t : List ℕ). value_text w ++ t) (values_more vs v) ∙ sym (append_assoc (value_text w) (values_text vs) (value_text v))

pub values_next : (start out new : List ℕ) (vs : List Value) (i : ℕ) (v : Value) → i < length vs → v ≡ get_or vs i v → out ≡ start ++ values_text (take i vs)
    → new ≡ out ++ value_text v → new ≡ start ++ values_text (take (i + 1) vs)
values_next start out new vs i v h is so more =
    appended start out new (values_text (take i vs)) (value_text v) (values_text (take (i + 1) vs)) so more (ap values_text (front_next vs i v h is) ∙ values_more (take i vs) v)

-- ---- entries

pub with_name : (s : Spec) (op : ℕ) (o : Op) (out new : List ℕ) → slice_get s.ops op ≡ Some o → new ≡ out ++ o.name → new ≡ out ++ op_name s op
with_name s op o out new is more = more ∙ ap (λ x. out ++ name_in x) (sym is)

-- a number that no operation has is printed as nothing
pub no_name : (s : Spec) (op : ℕ) (out : List ℕ) → slice_get s.ops op ≡ None → out ≡ out ++ op_name s op
no_name s op out none = sym (append-nil out) ∙ ap (λ o. out ++ name_in o) (sym none)

entries_more : (s : Spec) (es : List Entry) (e : Entry) → entry_lines s (es ++ e ∷ []) ≡ entry_lines s es ++ entry_line s e ∷ []
entries_more s [] e = refl
entries_more s (f ∷ es) e = ap (λ ls. entry_line s f ∷ ls) (entries_more s es e)

pub entries_next : (s : Spec) (es : List Entry) (i : ℕ) (e : Entry) → i < length es → e ≡ get_or es i e
    → entry_lines s (take (i + 1) es) ≡ entry_lines s (take i es) ++ entry_line s e ∷ []
entries_next s es i e h is = ap (entry_lines s) (front_next es i e h is) ∙ entries_more s (take i es) e
