-- What the tokens of a text are, by what it begins with.
use Rattle.std.proofs.Common.{◌≡◌, ℕ, ◌+◌, Bool, true, false, cond, List, [], ◌∷◌, ◌++◌, length, Option, Some, None, refl, sym, ap, subst, ◌∙◌, rules, tests, get_or, take, drop, arith, zero, suc}
use Rattle.std.specs.List.{list_all}
use Rattle.std.proofs.lemmas.List.{take-append-drop}
use Rattle.std.specs.Prelude.{◌==◌, IfSome, IfNone}
use Rattle.gv_base.specs.declared.answers.Place.{Place}
use Rattle.gv_small.specs.Tokens.{Piece, word, blank, arrow, sign, Placed, named, signed, arrowed, cut, laid, moved, behind, left_out, semicolon, end_behind, is_word_byte, is_blank, BeginsApart, BeginsBlank, BeginsWord, BeginsArrow, BeginsSign}
use Rattle.gv_small.proofs.Cuts.{cut_word, cut_blank, cut_sign, cut_arrow, cut_dash, GoesOn, blank_word, blank_dash, both, false_true, sign_first, cut_nothing}

ne_false : (a b : ℕ) → (a ≡ b → ⊥) → (a == b) ≡ false
ne_false a b n = search (rules, tests, n)

word_newline : (b : ℕ) → is_word_byte b ≡ true → (b == 10) ≡ false
word_newline b h = ne_false b 10 (λ e. let f : is_word_byte 10 ≡ true = subst (λ k. is_word_byte k ≡ true) e h in false_true f)

pub at_blank : (go : Bool) (pending : Option Place) (p : Place) (b : ℕ) (bs : List ℕ) → is_blank b ≡ true → (b == 10) ≡ false →
    laid go pending p (cut (b ∷ bs)) ≡ laid go pending (moved p b) (cut bs)
at_blank go pending p b bs h n = ap (laid go pending p) (cut_blank b bs (blank_word b h) (blank_dash b h) h) ∙ rw n refl

pub at_newline : (go : Bool) (pending : Option Place) (p : Place) (bs : List ℕ) →
    laid go pending p (cut (10 ∷ bs)) ≡ left_out pending ++ laid go None (moved p 10) (cut bs)
at_newline go pending p bs = ap (laid go pending p) (cut_blank 10 bs refl refl refl)

-- one blank less
pub pass_space : (go : Bool) (pending : Option Place) (p q : Place) (text rest : List ℕ) → BeginsBlank text → (get_or text 0 0 ≡ 10 → ⊥) →
    q ≡ moved p (get_or text 0 0) → rest ≡ drop 1 text → laid go pending p (cut text) ≡ laid go pending q (cut rest)
pass_space go pending p q [] rest h n e r = absurd h
pass_space go pending p q (b ∷ bs) rest h n e r = at_blank go pending p b bs h (ne_false b 10 n) ∙ ap (λ x. laid go pending x (cut bs)) (sym e) ∙ ap (λ (x : List ℕ). laid go pending q (cut x)) (sym r)

pub pass_newline : (go : Bool) (pending : Option Place) (p q : Place) (text rest : List ℕ) → BeginsBlank text → get_or text 0 0 ≡ 10 →
    q ≡ moved p (get_or text 0 0) → rest ≡ drop 1 text → laid go pending p (cut text) ≡ left_out pending ++ laid go None q (cut rest)
pass_newline go pending p q [] rest h n e r = absurd h
pass_newline go pending p q (b ∷ bs) rest h n e r =
    ap (λ x. laid go pending p (cut (x ∷ bs))) n ∙ at_newline go pending p bs ∙ ap (λ x. left_out pending ++ laid go None (moved p x) (cut bs)) (sym n)
    ∙ ap (λ x. left_out pending ++ laid go None x (cut bs)) (sym e) ∙ ap (λ (x : List ℕ). left_out pending ++ laid go None q (cut x)) (sym r)

some_left_out : (o : Option Place) (old new : List Placed) → old ≡ left_out o ++ new → IfSome o (λ p. old ≡ semicolon p ++ new)
some_left_out None old new e = tt
some_left_out (Some p) old new e = e

none_left_out : (o : Option Place) (old new : List Placed) → old ≡ left_out o ++ new → IfNone o (old ≡ new)
none_left_out None old new e = e
none_left_out (Some p) old new e = tt

-- what a newline leaves, where the semicolon before it was taken out of the cursor
pub newline_taken : (go : Bool) (pending found after : Option Place) (p q : Place) (text rest : List ℕ) → BeginsBlank text → get_or text 0 0 ≡ 10 →
    q ≡ moved p (get_or text 0 0) → rest ≡ drop 1 text → found ≡ pending → after ≡ None →
    IfSome found (λ place. laid go pending p (cut text) ≡ semicolon place ++ laid go after q (cut rest)) × IfNone found (laid go pending p (cut text) ≡ laid go after q (cut rest))
newline_taken go pending found after p q text rest h n e r f a =
    let old = laid go pending p (cut text) in
    let new = laid go after q (cut rest) in
    let split : old ≡ left_out found ++ new = pass_newline go pending p q text rest h n e r ∙ ap (λ o. left_out o ++ laid go None q (cut rest)) (sym f) ∙ ap (λ o. left_out found ++ laid go o q (cut rest)) (sym a) in
    (some_left_out found old new split, none_left_out found old new split)

-- ---- one token less

-- a word has no newline, so the place behind it is on its line
pub behind_word : (w : List ℕ) (p : Place) → list_all is_word_byte w ≡ true → behind p w ≡ record { line = p.line; column = p.column + length w }
behind_word [] p h = let e : p.column ≡ p.column + 0 = omega arith in ap (λ n. let x : Place = record { line = p.line; column = n } in x) e
behind_word (b ∷ w) p h =
    let q = both (is_word_byte b) (list_all is_word_byte w) h in
    let no_newline : (b == 10) ≡ false = word_newline b q.0 in
    let step : moved p b ≡ record { line = p.line; column = p.column + 1 } = rw no_newline refl in
    let more : (p.column + 1) + length w ≡ p.column + suc (length w) = omega arith in
    ap (λ x. behind x w) step ∙ behind_word w (record { line = p.line; column = p.column + 1 }) q.1 ∙ ap (λ n. let x : Place = record { line = p.line; column = n } in x) more

pub word_taken : (go : Bool) (pending after : Option Place) (p q : Place) (text w rest : List ℕ) (k : ℕ) → w ≡ take k text → rest ≡ drop k text →
    list_all is_word_byte (take k text) ≡ true → BeginsApart (drop k text) → BeginsWord text → q ≡ record { line = p.line; column = p.column + length w } → after ≡ end_behind go (named w) q →
    laid go pending p (cut text) ≡ record { token = named w; place = p } ∷ laid go after q (cut rest)
word_taken go pending after p q [] w rest k f r h a b e g = absurd b
word_taken go pending after p q (x ∷ xs) w rest zero f r h a b e g = let clash : is_word_byte x ≡ false = a in absurd (false_true (sym clash ∙ b))
word_taken go pending after p q (x ∷ xs) w rest (suc k) f r h a b e g =
    let whole : x ∷ xs ≡ (x ∷ take k xs) ++ drop k xs = ap (λ (v : List ℕ). x ∷ v) (sym (take-append-drop k xs)) in
    let place : behind p (x ∷ take k xs) ≡ q = behind_word (x ∷ take k xs) p h ∙ ap (λ (v : List ℕ). let y : Place = record { line = p.line; column = p.column + length v } in y) (sym f) ∙ sym e in
    let after_is : end_behind go (named (x ∷ take k xs)) q ≡ after = ap (λ (v : List ℕ). end_behind go (named v) q) (sym f) ∙ sym g in
    ap (λ (v : List ℕ). laid go pending p (cut v)) whole
    ∙ ap (laid go pending p) (cut_word x (take k xs) (drop k xs) h a)
    ∙ ap (λ y. let t : Placed = record { token = named (x ∷ take k xs); place = p } in t ∷ laid go (end_behind go (named (x ∷ take k xs)) y) y (cut (drop k xs))) place
    ∙ ap (λ y. let t : Placed = record { token = named (x ∷ take k xs); place = p } in t ∷ laid go y q (cut (drop k xs))) after_is
    ∙ ap (λ (v : List ℕ). let t : Placed = record { token = named v; place = p } in t ∷ laid go after q (cut (drop k xs))) (sym f)
    ∙ ap (λ (v : List ℕ). let t : Placed = record { token = named w; place = p } in t ∷ laid go after q (cut v)) (sym r)

pub arrow_taken : (go : Bool) (pending : Option Place) (p m q : Place) (text rest : List ℕ) → BeginsArrow text → m ≡ moved p 45 → q ≡ moved m 62 → rest ≡ drop 2 text →
    laid go pending p (cut text) ≡ record { token = arrowed; place = p } ∷ laid go None q (cut rest)
arrow_taken go pending p m q [] rest b e f r = absurd b
arrow_taken go pending p m q (x ∷ []) rest b e f r = absurd b
arrow_taken go pending p m q (x ∷ y ∷ xs) rest b e f r =
    let place : moved (moved p 45) 62 ≡ q = ap (λ z. moved z 62) (sym e) ∙ sym f in
    ap (λ (z : ℕ). laid go pending p (cut (z ∷ y ∷ xs))) b.0
    ∙ ap (λ (z : ℕ). laid go pending p (cut (45 ∷ z ∷ xs))) b.1
    ∙ ap (laid go pending p) (cut_arrow xs)
    ∙ ap (λ z. let t : Placed = record { token = arrowed; place = p } in t ∷ laid go None z (cut xs)) place
    ∙ ap (λ (v : List ℕ). let t : Placed = record { token = arrowed; place = p } in t ∷ laid go None q (cut v)) (sym r)

cut_other : (b : ℕ) (bs : List ℕ) → is_word_byte b ≡ false → is_blank b ≡ false → (b ≡ 45 → GoesOn bs) → cut (b ∷ bs) ≡ sign b ∷ cut bs
cut_other b bs w n g = sign_first b bs (b == 45) refl (w, n) g

sign_cut : (b : ℕ) (bs : List ℕ) → BeginsSign (b ∷ bs) → cut (b ∷ bs) ≡ sign b ∷ cut bs
sign_cut b [] h = cut_other b [] h.0 h.1 (λ e. tt)
sign_cut b (c ∷ bs) h = cut_other b (c ∷ bs) h.0 h.1 h.2

pub sign_taken : (go : Bool) (pending after : Option Place) (p q : Place) (text rest : List ℕ) → BeginsSign text → q ≡ moved p (get_or text 0 0) → rest ≡ drop 1 text →
    after ≡ end_behind go (signed (get_or text 0 0)) q → laid go pending p (cut text) ≡ record { token = signed (get_or text 0 0); place = p } ∷ laid go after q (cut rest)
sign_taken go pending after p q [] rest b e r g = absurd b
sign_taken go pending after p q (x ∷ xs) rest b e r g =
    ap (laid go pending p) (sign_cut x xs b)
    ∙ ap (λ z. let t : Placed = record { token = signed x; place = p } in t ∷ laid go (end_behind go (signed x) z) z (cut xs)) (sym e)
    ∙ ap (λ z. let t : Placed = record { token = signed x; place = p } in t ∷ laid go z q (cut xs)) (sym g)
    ∙ ap (λ (v : List ℕ). let t : Placed = record { token = signed x; place = p } in t ∷ laid go after q (cut v)) (sym r)

pub laid_end : (go : Bool) (pending : Option Place) (p : Place) (text : List ℕ) (found : Option Place) → text ≡ [] → pending ≡ found → laid go pending p (cut text) ≡ left_out found
laid_end go pending p text found e f = ap (λ (v : List ℕ). laid go pending p (cut v)) e ∙ ap (laid go pending p) cut_nothing ∙ ap left_out f
