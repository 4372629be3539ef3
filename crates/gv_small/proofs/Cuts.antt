-- The one way to cut a text.
use Rattle.std.proofs.Common.{◌≡◌, ℕ, Bool, true, false, cond, List, [], ◌∷◌, ◌++◌, refl, sym, ap, subst, ◌∙◌, append_assoc, arith, rules, tests}
use Rattle.std.specs.List.{flat_map, list_all, AllByRecursion}
use Rattle.std.specs.Prelude.{◌&&◌, ◌==◌}
use Rattle.gv_small.specs.Tokens.{Piece, word, blank, arrow, sign, cut, grow, single, dash, is_word_byte, is_blank, IsCut, IsPiece, BeginsApart, IsApartFrom, AreApart, bytes_of}

pub both : (a b : Bool) → (a && b) ≡ true → (a ≡ true) × (b ≡ true)
both true b e = (refl, e)
both false b e = absurd cc

pub false_true : false ≡ true → ⊥
false_true q = cc

grow_blank : (x b : ℕ) (ps : List Piece) (c : Bool) → is_blank b ≡ c → grow x (single b ∷ ps) ≡ word (x ∷ []) ∷ single b ∷ ps
grow_blank x b ps true e = rw e refl
grow_blank x b ps false e = rw e refl

grow_dash : (x : ℕ) (ps : List Piece) → grow x (dash ps) ≡ word (x ∷ []) ∷ dash ps
grow_dash x [] = refl
grow_dash x (word w ∷ ps) = refl
grow_dash x (blank c ∷ ps) = refl
grow_dash x (arrow ∷ ps) = refl
grow_dash x (sign c ∷ ps) = go (c == 62) refl
  where
    go : (t : Bool) → (c == 62) ≡ t → grow x (cond (c == 62) (arrow ∷ ps) (sign 45 ∷ sign c ∷ ps)) ≡ word (x ∷ []) ∷ cond (c == 62) (arrow ∷ ps) (sign 45 ∷ sign c ∷ ps)
    go true e = rw e refl
    go false e = rw e refl

grow_other : (x b : ℕ) (ps : List Piece) (t : Bool) → (b == 45) ≡ t →
    grow x (cond (b == 45) (dash ps) (single b ∷ ps)) ≡ word (x ∷ []) ∷ cond (b == 45) (dash ps) (single b ∷ ps)
grow_other x b ps true e = rw e (grow_dash x ps)
grow_other x b ps false e = rw e (grow_blank x b ps (is_blank b) refl)

grow_first : (x : ℕ) (bs : List ℕ) → BeginsApart bs → grow x (cut bs) ≡ word (x ∷ []) ∷ cut bs
unfolding cut
grow_first x [] h = refl
grow_first x (b ∷ bs) h = rw h (grow_other x b (cut bs) (b == 45) refl)

-- a run of word bytes is one word
pub cut_word : (x : ℕ) (w : List ℕ) (bs : List ℕ) → list_all is_word_byte (x ∷ w) ≡ true → BeginsApart bs → cut ((x ∷ w) ++ bs) ≡ word (x ∷ w) ∷ cut bs
unfolding cut
cut_word x [] bs h a = (let p = both (is_word_byte x) true h in rw p.0 (grow_first x bs a))
cut_word x (y ∷ w) bs h a =
    let p = both (is_word_byte x) (list_all is_word_byte (y ∷ w)) h in
    rw (p.0, cut_word y w bs p.1 a) refl

pub cut_blank : (b : ℕ) (bs : List ℕ) → is_word_byte b ≡ false → (b == 45) ≡ false → is_blank b ≡ true → cut (b ∷ bs) ≡ blank b ∷ cut bs
unfolding cut
cut_blank b bs w d h = rw (w, d, h) refl

pub cut_sign : (b : ℕ) (bs : List ℕ) → is_word_byte b ≡ false → (b == 45) ≡ false → is_blank b ≡ false → cut (b ∷ bs) ≡ sign b ∷ cut bs
unfolding cut
cut_sign b bs w d h = rw (w, d, h) refl

pub cut_arrow : (bs : List ℕ) → cut (45 ∷ 62 ∷ bs) ≡ arrow ∷ cut bs
unfolding cut
cut_arrow bs = refl

dash_grow : (c : ℕ) (ps : List Piece) → dash (grow c ps) ≡ sign 45 ∷ grow c ps
dash_grow c [] = refl
dash_grow c (word w ∷ ps) = refl
dash_grow c (blank b ∷ ps) = refl
dash_grow c (arrow ∷ ps) = refl
dash_grow c (sign b ∷ ps) = refl

dash_dash : (ps : List Piece) → dash (dash ps) ≡ sign 45 ∷ dash ps
dash_dash [] = refl
dash_dash (word w ∷ ps) = refl
dash_dash (blank c ∷ ps) = refl
dash_dash (arrow ∷ ps) = refl
dash_dash (sign c ∷ ps) = go (c == 62) refl
  where
    go : (t : Bool) → (c == 62) ≡ t → dash (cond (c == 62) (arrow ∷ ps) (sign 45 ∷ sign c ∷ ps)) ≡ sign 45 ∷ cond (c == 62) (arrow ∷ ps) (sign 45 ∷ sign c ∷ ps)
    go true e = rw e refl
    go false e = rw e refl

dash_single : (c : ℕ) (ps : List Piece) (t : Bool) → (c == 62) ≡ false → is_blank c ≡ t → dash (single c ∷ ps) ≡ sign 45 ∷ single c ∷ ps
dash_single c ps true n e = rw e refl
dash_single c ps false n e = rw (e, n) refl

dash_other : (c : ℕ) (ps : List Piece) (t : Bool) → (c == 62) ≡ false → (c == 45) ≡ t →
    dash (cond (c == 45) (dash ps) (single c ∷ ps)) ≡ sign 45 ∷ cond (c == 45) (dash ps) (single c ∷ ps)
dash_other c ps true n e = rw e (dash_dash ps)
dash_other c ps false n e = rw e (dash_single c ps (is_blank c) n refl)

dash_first : (c : ℕ) (ps : List Piece) (t : Bool) → (c == 62) ≡ false → is_word_byte c ≡ t →
    dash (cond (is_word_byte c) (grow c ps) (cond (c == 45) (dash ps) (single c ∷ ps))) ≡ sign 45 ∷ cond (is_word_byte c) (grow c ps) (cond (c == 45) (dash ps) (single c ∷ ps))
dash_first c ps true n e = rw e (dash_grow c ps)
dash_first c ps false n e = rw e (dash_other c ps (c == 45) n refl)

-- what follows is no `>`
abbrev pub GoesOn : List ℕ → Type 0
GoesOn [] = Unit {0}
GoesOn (c ∷ bs) = (c == 62) ≡ false

pub cut_dash : (bs : List ℕ) → GoesOn bs → cut (45 ∷ bs) ≡ sign 45 ∷ cut bs
unfolding cut
cut_dash [] h = refl
cut_dash (c ∷ bs) h = dash_first c (cut bs) (is_word_byte c) h refl

-- ---- `cut` cuts, and nothing else does

-- a piece before the pieces of a cut
front : (p : Piece) (bs : List ℕ) (ps : List Piece) → IsPiece p → IsApartFrom p ps → IsCut bs ps → IsCut (bytes_of p ++ bs) (p ∷ ps)
front p bs ps i a c = record { whole = ap (λ (w : List ℕ). bytes_of p ++ w) c.whole; pieces = (i, c.pieces); apart = (a, c.apart) }

grow_cut : (b : ℕ) (bs : List ℕ) (ps : List Piece) → is_word_byte b ≡ true → IsCut bs ps → IsCut (b ∷ bs) (grow b ps)
grow_cut b bs [] h c = front (word (b ∷ [])) bs [] (rw h refl) tt c
grow_cut b bs (word [] ∷ ps) h c = absurd c.pieces.0
grow_cut b bs (word (x ∷ w) ∷ ps) h c = record { whole = ap (λ (v : List ℕ). b ∷ v) c.whole; pieces = (rw h c.pieces.0, c.pieces.1); apart = (longer ps c.apart.0, c.apart.1) }
  where
    longer : (ps : List Piece) → IsApartFrom (word (x ∷ w)) ps → IsApartFrom (word (b ∷ x ∷ w)) ps
    longer [] a = tt
    longer (word v ∷ ps) a = a
    longer (blank c ∷ ps) a = tt
    longer (arrow ∷ ps) a = tt
    longer (sign c ∷ ps) a = tt
grow_cut b bs (blank k ∷ ps) h c = front (word (b ∷ [])) bs (blank k ∷ ps) (rw h refl) tt c
grow_cut b bs (arrow ∷ ps) h c = front (word (b ∷ [])) bs (arrow ∷ ps) (rw h refl) tt c
grow_cut b bs (sign k ∷ ps) h c = front (word (b ∷ [])) bs (sign k ∷ ps) (rw h refl) tt c

single_cut : (b : ℕ) (bs : List ℕ) (ps : List Piece) (t : Bool) → is_word_byte b ≡ false → (b == 45) ≡ false → is_blank b ≡ t → IsCut bs ps → IsCut (b ∷ bs) (single b ∷ ps)
single_cut b bs ps true w d e c = rw e (front (blank b) bs ps (w, e) (starts ps) c)
  where
    starts : (ps : List Piece) → IsApartFrom (blank b) ps
    starts [] = tt
    starts (p ∷ ps) = tt
single_cut b bs ps false w d e c = rw e (front (sign b) bs ps (w, e) (starts ps) c)
  where
    starts : (ps : List Piece) → IsApartFrom (sign b) ps
    starts [] = tt
    starts (word v ∷ ps) = tt
    starts (blank k ∷ ps) = tt
    starts (arrow ∷ ps) = tt
    starts (sign k ∷ ps) = rw d refl

arrow_apart : (ps : List Piece) → IsApartFrom arrow ps
arrow_apart [] = tt
arrow_apart (p ∷ ps) = tt

dash_cut : (bs : List ℕ) (ps : List Piece) → IsCut bs ps → IsCut (45 ∷ bs) (dash ps)
dash_cut bs [] c = front (sign 45) bs [] (refl, refl) tt c
dash_cut bs (word v ∷ ps) c = front (sign 45) bs (word v ∷ ps) (refl, refl) tt c
dash_cut bs (blank k ∷ ps) c = front (sign 45) bs (blank k ∷ ps) (refl, refl) tt c
dash_cut bs (arrow ∷ ps) c = front (sign 45) bs (arrow ∷ ps) (refl, refl) tt c
dash_cut bs (sign k ∷ ps) c = go (k == 62) refl
  where
    go : (t : Bool) → (k == 62) ≡ t → IsCut (45 ∷ bs) (cond (k == 62) (arrow ∷ ps) (sign 45 ∷ sign k ∷ ps))
    go true e =
        let same : k ≡ 62 = search (rules, tests, e) in
        rw e (record { whole = ap (λ (v : List ℕ). 45 ∷ v) (c.whole ∙ ap (λ j. j ∷ flat_map bytes_of ps) same); pieces = (tt, c.pieces.1); apart = (arrow_apart ps, c.apart.1) })
    go false e = rw e (front (sign 45) bs (sign k ∷ ps) (refl, refl) (rw e refl) c)

other_cut : (b : ℕ) (bs : List ℕ) (ps : List Piece) (t : Bool) → is_word_byte b ≡ false → (b == 45) ≡ t → IsCut bs ps → IsCut (b ∷ bs) (cond (b == 45) (dash ps) (single b ∷ ps))
other_cut b bs ps true w e c = let same : b ≡ 45 = search (rules, tests, e) in rw e (subst (λ k. IsCut (k ∷ bs) (dash ps)) (sym same) (dash_cut bs ps c))
other_cut b bs ps false w e c = rw e (single_cut b bs ps (is_blank b) w e refl c)

pub cut_cuts : (text : List ℕ) → IsCut text (cut text)
unfolding cut
cut_cuts [] = record { whole = refl; pieces = tt; apart = tt }
cut_cuts (b ∷ bs) = go (is_word_byte b) refl (cut_cuts bs)
  where
    go : (t : Bool) → is_word_byte b ≡ t → IsCut bs (cut bs) → IsCut (b ∷ bs) (cond (is_word_byte b) (grow b (cut bs)) (cond (b == 45) (dash (cut bs)) (single b ∷ cut bs)))
    go true e c = rw e (grow_cut b bs (cut bs) e c)
    go false e c = rw e (other_cut b bs (cut bs) (b == 45) e refl c)

-- what follows a word begins with no word byte
behind_word : (w : List ℕ) (ps : List Piece) → IsApartFrom (word w) ps → AllByRecursion IsPiece ps → BeginsApart (flat_map bytes_of ps)
behind_word w [] a h = tt
behind_word w (word v ∷ ps) a h = absurd a
behind_word w (blank b ∷ ps) a h = h.0.0
behind_word w (arrow ∷ ps) a h = refl
behind_word w (sign b ∷ ps) a h = h.0.0

-- what follows a `-` begins with no `>`
behind_dash : (ps : List Piece) → IsApartFrom (sign 45) ps → AllByRecursion IsPiece ps → GoesOn (flat_map bytes_of ps)
behind_dash [] a h = tt
behind_dash (word [] ∷ ps) a h = absurd h.0
behind_dash (word (x ∷ w) ∷ ps) a h = word_goes x (both (is_word_byte x) (list_all is_word_byte w) h.0).0
  where
    word_goes : (x : ℕ) → is_word_byte x ≡ true → (x == 62) ≡ false
    word_goes x e = go (x == 62) refl
      where
        go : (t : Bool) → (x == 62) ≡ t → t ≡ false
        go true f = let same : x ≡ 62 = search (rules, tests, f) in absurd (false_true (subst (λ k. is_word_byte k ≡ true) same e))
        go false f = refl
behind_dash (blank b ∷ ps) a h = blank_goes b h.0.1
  where
    blank_goes : (x : ℕ) → is_blank x ≡ true → (x == 62) ≡ false
    blank_goes x e = go (x == 62) refl
      where
        go : (t : Bool) → (x == 62) ≡ t → t ≡ false
        go true f = let same : x ≡ 62 = search (rules, tests, f) in absurd (false_true (subst (λ k. is_blank k ≡ true) same e))
        go false f = refl
behind_dash (arrow ∷ ps) a h = refl
behind_dash (sign b ∷ ps) a h = a

pub cut_nothing : cut [] ≡ []
unfolding cut
cut_nothing = refl

pub blank_dash : (b : ℕ) → is_blank b ≡ true → (b == 45) ≡ false
blank_dash b e = go (b == 45) refl
  where
    go : (t : Bool) → (b == 45) ≡ t → t ≡ false
    go true f = let same : b ≡ 45 = search (rules, tests, f) in absurd (false_true (subst (λ k. is_blank k ≡ true) same e))
    go false f = refl

pub sign_first : (b : ℕ) (bs : List ℕ) (t : Bool) → (b == 45) ≡ t → (is_word_byte b ≡ false) × (is_blank b ≡ false) → (b ≡ 45 → GoesOn bs) → cut (b ∷ bs) ≡ sign b ∷ cut bs
sign_first b bs true e h g = let same : b ≡ 45 = search (rules, tests, e) in subst (λ k. cut (k ∷ bs) ≡ sign k ∷ cut bs) (sym same) (cut_dash bs (g same))
sign_first b bs false e h g = cut_sign b bs h.0 e h.1

cut_pieces : (ps : List Piece) → AllByRecursion IsPiece ps → AreApart ps → cut (flat_map bytes_of ps) ≡ ps
cut_pieces [] h a = cut_nothing
cut_pieces (word [] ∷ ps) h a = absurd h.0
cut_pieces (word (x ∷ w) ∷ ps) h a = cut_word x w (flat_map bytes_of ps) h.0 (behind_word (x ∷ w) ps a.0 h.1) ∙ ap (λ (qs : List Piece). word (x ∷ w) ∷ qs) (cut_pieces ps h.1 a.1)
cut_pieces (blank b ∷ ps) h a = cut_blank b (flat_map bytes_of ps) h.0.0 (blank_dash b h.0.1) h.0.1 ∙ ap (λ (qs : List Piece). blank b ∷ qs) (cut_pieces ps h.1 a.1)
cut_pieces (arrow ∷ ps) h a = cut_arrow (flat_map bytes_of ps) ∙ ap (λ (qs : List Piece). arrow ∷ qs) (cut_pieces ps h.1 a.1)
cut_pieces (sign b ∷ ps) h a = sign_first b (flat_map bytes_of ps) (b == 45) refl h.0 (λ e. behind_dash ps (subst (λ k. IsApartFrom (sign k) ps) e a.0) h.1) ∙ ap (λ (qs : List Piece). sign b ∷ qs) (cut_pieces ps h.1 a.1)

-- there is one way to cut a text
pub cut_only : (text : List ℕ) (ps : List Piece) → IsCut text ps → cut text ≡ ps
cut_only text ps c = ap cut c.whole ∙ cut_pieces ps c.pieces c.apart

pub blank_word : (b : ℕ) → is_blank b ≡ true → is_word_byte b ≡ false
blank_word b e = go (b == 32) (b == 9) (b == 10) refl refl refl
  where
    go : (t u v : Bool) → (b == 32) ≡ t → (b == 9) ≡ u → (b == 10) ≡ v → is_word_byte b ≡ false
    go true u v x y z = let same : b ≡ 32 = search (rules, tests, x) in rw same refl
    go false true v x y z = let same : b ≡ 9 = search (rules, tests, y) in rw same refl
    go false false true x y z = let same : b ≡ 10 = search (rules, tests, z) in rw same refl
    go false false false x y z = let e2 : false ≡ true = rw (x, y, z) at e in absurd (false_true e2)

-- the comma, as code writes it
pub cut_comma : cut (44 ∷ []) ≡ sign 44 ∷ []
unfolding cut
cut_comma = refl
