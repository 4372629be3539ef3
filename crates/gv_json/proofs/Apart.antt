-- Lines of the same bytes have the same lines and the same status.
use Rattle.std.proofs.Common.{◌≡◌, ℕ, ◌+◌, ◌*◌, ◌-◌, ◌/◌, ◌%◌, ◌<◌, ◌==◌, nat_lt, Bool, true, false, inl, inr, List, [], ◌∷◌, ◌++◌, map, get_or, codes, decimal, refl, sym, ap, ap₂, ◌∙◌, subst, append_assoc, arith}
use Rattle.std.specs.Prelude.{flat_map, if◌then◌else◌}
use Rattle.std.proofs.lemmas.Bool.{cases_eq, ne_eqb}
use Rattle.std.proofs.lemmas.List.{append_cancel_left}
use Rattle.gv_json.specs.Line.{hex_digit, in_quotes, quoted, as_text, between_commas, list_of, object_of}

-- ---- one byte between quotes

abbrev value_of_digit : ℕ → ℕ
value_of_digit d = if nat_lt d 58 then d - 48 else d - 87

digit_back : (d : ℕ) → d < 16 → value_of_digit (hex_digit d) ≡ d
digit_back d h = grind arith

-- the byte that the letter behind a backslash stands for
abbrev meant : ℕ → List ℕ → ℕ
meant letter xs =
    if letter == 98 then 8
    else if letter == 116 then 9
    else if letter == 110 then 10
    else if letter == 102 then 12
    else if letter == 114 then 13
    else if letter == 117 then 16 * value_of_digit (get_or xs 4 0) + value_of_digit (get_or xs 5 0)
    else letter

-- the byte that the first bytes between quotes stand for
abbrev first : List ℕ → ℕ
first xs = if get_or xs 0 0 == 92 then meant (get_or xs 1 0) xs else get_or xs 0 0

chosen_true : (b : Bool) (x y : List ℕ) → b ≡ true → (if b then x else y) ≡ x
chosen_true true x y h = refl
chosen_true false x y h = absurd cc

chosen_false : (b : Bool) (x y : List ℕ) → b ≡ false → (if b then x else y) ≡ y
chosen_false true x y h = absurd cc
chosen_false false x y h = refl

abbrev unescaped : ℕ → List ℕ
unescaped x = if nat_lt x 32 then codes "\\u00" ++ hex_digit (x / 16) ∷ hex_digit (x % 16) ∷ [] else x ∷ []

digits_back : (x : ℕ) (u : List ℕ) → x < 32 → first ((codes "\\u00" ++ hex_digit (x / 16) ∷ hex_digit (x % 16) ∷ []) ++ u) ≡ x
digits_back x u h =
    let high = digit_back (x / 16) (omega (arith, h)) in
    let low = digit_back (x % 16) (omega (arith, h)) in
    let is : first ((codes "\\u00" ++ hex_digit (x / 16) ∷ hex_digit (x % 16) ∷ []) ++ u) ≡ 16 * value_of_digit (hex_digit (x / 16)) + value_of_digit (hex_digit (x % 16)) = refl in
    is ∙ ap₂ (λ (a b : ℕ). 16 * a + b) high low ∙ omega arith

itself_back : (x : ℕ) (u : List ℕ) → (x ≡ 92 → ⊥) → first (x ∷ u) ≡ x
itself_back x u h = rw (ne_eqb x 92 h) refl

unescaped_back : (b : Bool) (x : ℕ) (u : List ℕ) → nat_lt x 32 ≡ b → (x ≡ 92 → ⊥) → first (unescaped x ++ u) ≡ x
unescaped_back true x u e h =
    ap (λ (v : List ℕ). first (v ++ u)) (chosen_true (nat_lt x 32) (codes "\\u00" ++ hex_digit (x / 16) ∷ hex_digit (x % 16) ∷ []) (x ∷ []) e)
    ∙ digits_back x u (grind (arith, e))
unescaped_back false x u e h =
    ap (λ (v : List ℕ). first (v ++ u)) (chosen_false (nat_lt x 32) (codes "\\u00" ++ hex_digit (x / 16) ∷ hex_digit (x % 16) ∷ []) (x ∷ []) e) ∙ itself_back x u h

byte_back : (x : ℕ) (u : List ℕ) → first (in_quotes x ++ u) ≡ x
byte_back x u =
    let P : ℕ → Type 0 = λ n. first (in_quotes n ++ u) ≡ n in
    elim (cases_eq x 34) [
      | inl e ↦ subst P (sym e) refl
      | inr n34 ↦
          elim (cases_eq x 92) [
            | inl e ↦ subst P (sym e) refl
            | inr n92 ↦
                elim (cases_eq x 8) [
                  | inl e ↦ subst P (sym e) refl
                  | inr n8 ↦
                      elim (cases_eq x 9) [
                        | inl e ↦ subst P (sym e) refl
                        | inr n9 ↦
                            elim (cases_eq x 10) [
                              | inl e ↦ subst P (sym e) refl
                              | inr n10 ↦
                                  elim (cases_eq x 12) [
                                    | inl e ↦ subst P (sym e) refl
                                    | inr n12 ↦
                                        elim (cases_eq x 13) [
                                          | inl e ↦ subst P (sym e) refl
                                          | inr n13 ↦
                                              simp (ne_eqb x 34 n34, ne_eqb x 92 n92, ne_eqb x 8 n8, ne_eqb x 9 n9, ne_eqb x 10 n10, ne_eqb x 12 n12, ne_eqb x 13 n13) (unescaped_back (nat_lt x 32) x u refl n92)
                                        ]
                                  ]
                            ]
                      ]
                ]
          ]
    ]

-- a quote doesn't begin what stands between quotes
no_quote : (x : ℕ) (u v : List ℕ) → 34 ∷ u ≡ in_quotes x ++ v → ⊥
no_quote x u v e =
    let is : 34 ≡ x = ap first e ∙ byte_back x v in
    let other : 34 ∷ u ≡ in_quotes 34 ++ v = e ∙ ap (λ n. in_quotes n ++ v) (sym is) in
    let clash : 34 ≡ 92 = ap (λ (w : List ℕ). get_or w 0 0) other in
    omega (arith, clash)

-- ---- texts

abbrev behind : List ℕ → List ℕ
behind [] = []
behind (x ∷ xs) = xs

inside_apart : (a b u v : List ℕ) → flat_map in_quotes a ++ 34 ∷ u ≡ flat_map in_quotes b ++ 34 ∷ v → (a ≡ b) × (u ≡ v)
inside_apart [] [] u v e = (refl, ap behind e)
inside_apart [] (y ∷ ys) u v e = absurd (no_quote y u (flat_map in_quotes ys ++ 34 ∷ v) (e ∙ append_assoc (in_quotes y) (flat_map in_quotes ys) (34 ∷ v)))
inside_apart (x ∷ xs) [] u v e = absurd (no_quote x v (flat_map in_quotes xs ++ 34 ∷ u) (sym e ∙ append_assoc (in_quotes x) (flat_map in_quotes xs) (34 ∷ u)))
inside_apart (x ∷ xs) (y ∷ ys) u v e =
    let left = flat_map in_quotes xs ++ 34 ∷ u in
    let right = flat_map in_quotes ys ++ 34 ∷ v in
    let both : in_quotes x ++ left ≡ in_quotes y ++ right =
    sym (append_assoc (in_quotes x) (flat_map in_quotes xs) (34 ∷ u)) ∙ e ∙ append_assoc (in_quotes y) (flat_map in_quotes ys) (34 ∷ v) in
    let same : x ≡ y = sym (byte_back x left) ∙ ap first both ∙ byte_back y right in
    let rest : left ≡ right = append_cancel_left (in_quotes y) left right (ap (λ n. in_quotes n ++ left) (sym same) ∙ both) in
    let more = inside_apart xs ys u v rest in
    (ap₂ (λ n (ns : List ℕ). n ∷ ns) same more.0, more.1)

quoted_apart : (a b u v : List ℕ) → quoted a ++ u ≡ quoted b ++ v → (a ≡ b) × (u ≡ v)
quoted_apart a b u v e =
    inside_apart a b u v (sym (append_assoc (flat_map in_quotes a) (34 ∷ []) u) ∙ ap behind e ∙ append_assoc (flat_map in_quotes b) (34 ∷ []) v)

-- ---- lists

abbrev items : List (List ℕ) → List ℕ
items lines = between_commas (map (λ line. quoted (as_text line)) lines)

abbrev read_as : List (List ℕ) → List (List ℕ)
read_as lines = map as_text lines

comma : (line : List ℕ) (next : List ℕ) (lines : List (List ℕ)) (u : List ℕ)
    → items (line ∷ next ∷ lines) ++ 93 ∷ u ≡ quoted (as_text line) ++ 44 ∷ (items (next ∷ lines) ++ 93 ∷ u)
comma line next lines u =
    append_assoc (quoted (as_text line) ++ 44 ∷ []) (items (next ∷ lines)) (93 ∷ u) ∙ append_assoc (quoted (as_text line)) (44 ∷ []) (items (next ∷ lines) ++ 93 ∷ u)

heads : (x y : ℕ) (xs ys : List ℕ) → x ∷ xs ≡ y ∷ ys → x ≡ y
heads x y xs ys e = ap (λ (w : List ℕ). get_or w 0 0) e

items_apart : (xs ys : List (List ℕ)) (u v : List ℕ) → items xs ++ 93 ∷ u ≡ items ys ++ 93 ∷ v → (read_as xs ≡ read_as ys) × (u ≡ v)
items_apart [] [] u v e = (refl, ap behind e)
items_apart [] (b ∷ []) u v e = let h : 93 ≡ 34 = ap (λ (w : List ℕ). get_or w 0 0) e in absurd (omega (arith, h))
items_apart [] (b ∷ c ∷ ys) u v e = let h : 93 ≡ 34 = ap (λ (w : List ℕ). get_or w 0 0) e in absurd (omega (arith, h))
items_apart (a ∷ []) [] u v e = let h : 34 ≡ 93 = ap (λ (w : List ℕ). get_or w 0 0) e in absurd (omega (arith, h))
items_apart (a ∷ c ∷ xs) [] u v e = let h : 34 ≡ 93 = ap (λ (w : List ℕ). get_or w 0 0) e in absurd (omega (arith, h))
items_apart (a ∷ []) (b ∷ []) u v e =
    let p = quoted_apart (as_text a) (as_text b) (93 ∷ u) (93 ∷ v) e in
    (ap (λ (t : List ℕ). t ∷ []) p.0, ap behind p.1)
items_apart (a ∷ []) (b ∷ c ∷ ys) u v e =
    let p = quoted_apart (as_text a) (as_text b) (93 ∷ u) (44 ∷ (items (c ∷ ys) ++ 93 ∷ v)) (e ∙ comma b c ys v) in
    let h : 93 ≡ 44 = heads 93 44 _ _ p.1 in absurd (omega (arith, h))
items_apart (a ∷ c ∷ xs) (b ∷ []) u v e =
    let p = quoted_apart (as_text a) (as_text b) (44 ∷ (items (c ∷ xs) ++ 93 ∷ u)) (93 ∷ v) (sym (comma a c xs u) ∙ e) in
    let h : 44 ≡ 93 = heads 44 93 _ _ p.1 in absurd (omega (arith, h))
items_apart (a ∷ c ∷ xs) (b ∷ d ∷ ys) u v e =
    let p = quoted_apart (as_text a) (as_text b) (44 ∷ (items (c ∷ xs) ++ 93 ∷ u)) (44 ∷ (items (d ∷ ys) ++ 93 ∷ v)) (sym (comma a c xs u) ∙ e ∙ comma b d ys v) in
    let q = items_apart (c ∷ xs) (d ∷ ys) u v (ap behind p.1) in
    (ap₂ (λ (t : List ℕ) (ts : List (List ℕ)). t ∷ ts) p.0 q.0, q.1)

list_apart : (xs ys : List (List ℕ)) (u v : List ℕ) → list_of xs ++ u ≡ list_of ys ++ v → (read_as xs ≡ read_as ys) × (u ≡ v)
list_apart xs ys u v e =
    items_apart xs ys u v (sym (append_assoc (items xs) (93 ∷ []) u) ∙ ap behind e ∙ append_assoc (items ys) (93 ∷ []) v)

-- ---- the line

cut : (a b c d e f g w : List ℕ) → (a ++ b ++ c ++ d ++ e ++ f ++ g) ++ w ≡ a ++ (b ++ (c ++ (d ++ (e ++ (f ++ (g ++ w))))))
cut a b c d e f g w =
    append_assoc (a ++ b ++ c ++ d ++ e ++ f) g w ∙ append_assoc (a ++ b ++ c ++ d ++ e) f (g ++ w) ∙ append_assoc (a ++ b ++ c ++ d) e (f ++ (g ++ w))
    ∙ append_assoc (a ++ b ++ c) d (e ++ (f ++ (g ++ w))) ∙ append_assoc (a ++ b) c (d ++ (e ++ (f ++ (g ++ w)))) ∙ append_assoc a b (c ++ (d ++ (e ++ (f ++ (g ++ w)))))

-- what stands behind the lists
abbrev end_of : ℕ → List ℕ → List ℕ
end_of status rest = decimal status ++ (codes "}" ++ rest)

-- where one line begins as another one does, the texts of their lines are the same, and so is what stands behind them
pub lines_apart : (digests lines : List (List ℕ)) (status : ℕ) (others more : List (List ℕ)) (ends : ℕ) (u v : List ℕ)
    → object_of digests lines status ++ u ≡ object_of others more ends ++ v → (map as_text lines ≡ map as_text more) × (end_of status u ≡ end_of ends v)
lines_apart digests lines status others more ends u v e =
    let front = codes "{\"digests\":" in
    let middle = codes ",\"lines\":" in
    let last = codes ",\"status\":" in
    let close = codes "}" in
    let left = cut front (list_of digests) middle (list_of lines) last (decimal status) close u in
    let right = cut front (list_of others) middle (list_of more) last (decimal ends) close v in
    let one = list_apart digests others (middle ++ (list_of lines ++ (last ++ end_of status u))) (middle ++ (list_of more ++ (last ++ end_of ends v)))
    (append_cancel_left front _ _ (sym left ∙ e ∙ right)) in
    let two = list_apart lines more (last ++ end_of status u) (last ++ end_of ends v) (append_cancel_left middle _ _ one.1) in
    (two.0, append_cancel_left last _ _ two.1)
