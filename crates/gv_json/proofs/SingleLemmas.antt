-- The object stands on one line.
use Rattle.std.proofs.Common.{◌≡◌, ℕ, zero, suc, ◌+◌, ◌/◌, ◌%◌, ◌==◌, nat_lt, Bool, true, false, not, ◌&&◌, inl, inr, List, [], ◌∷◌, ◌++◌, map, codes, decimal, refl, sym, ap, ◌∙◌, subst, arith}
use Rattle.std.specs.Prelude.{flat_map, if◌then◌else◌}
use Rattle.std.specs.Fmt.{digits, digits_onto, digit_glyph}
use Rattle.std.proofs.lemmas.Bool.{cases_eq, ne_eqb}
use Rattle.std.proofs.lemmas.List.Folds.{list_all-append}
use Rattle.gv_json.specs.Line.{hex_digit, in_quotes, quoted, as_text, between_commas, list_of, object_of, is_one_line}

both : (a b : Bool) → a ≡ true → b ≡ true → (a && b) ≡ true
both a b p q = rw p q

pub joined : (xs ys : List ℕ) → is_one_line xs ≡ true → is_one_line ys ≡ true → is_one_line (xs ++ ys) ≡ true
joined xs ys p q = list_all-append (λ x. not (x == 10)) xs ys ∙ both (is_one_line xs) (is_one_line ys) p q

either : (b : Bool) (xs ys : List ℕ) → is_one_line xs ≡ true → is_one_line ys ≡ true → is_one_line (if b then xs else ys) ≡ true
either true xs ys p q = p
either false xs ys p q = q

-- ---- bytes

other : (x : ℕ) → (x ≡ 10 → ⊥) → not (x == 10) ≡ true
other x h = ap not (ne_eqb x 10 h)

high : (b : Bool) (d : ℕ) → (if b then 48 + d else 87 + d) ≡ 10 → ⊥
high true d e = let is : 48 + d ≡ 10 = e in omega (arith, is)
high false d e = let is : 87 + d ≡ 10 = e in omega (arith, is)

digit : (d : ℕ) → not (hex_digit d == 10) ≡ true
digit d = other (hex_digit d) (high (nat_lt d 10) d)

unescaped : (x : ℕ) → (x ≡ 10 → ⊥) → is_one_line (if nat_lt x 32 then codes "\\u00" ++ hex_digit (x / 16) ∷ hex_digit (x % 16) ∷ [] else x ∷ []) ≡ true
unescaped x h =
    either (nat_lt x 32) (codes "\\u00" ++ hex_digit (x / 16) ∷ hex_digit (x % 16) ∷ []) (x ∷ [])
    (both _ _ (digit (x / 16)) (both _ _ (digit (x % 16)) refl)) (both _ _ (other x h) refl)

byte : (x : ℕ) → is_one_line (in_quotes x) ≡ true
byte x =
    let P : ℕ → Type 0 = λ n. is_one_line (in_quotes n) ≡ true in
    elim (cases_eq x 34) [
      | inl e ↦ subst P (sym e) refl
      | inr n34 ↦
          elim (cases_eq x 92) [
            | inl e ↦ subst P (sym e) refl
            | inr n92 ↦
                elim (cases_eq x 8) [
                  | inl e ↦ subst P (sym e) refl
                  | inr n8 ↦
                      elim (cases_eq x 9) [
                        | inl e ↦ subst P (sym e) refl
                        | inr n9 ↦
                            elim (cases_eq x 10) [
                              | inl e ↦ subst P (sym e) refl
                              | inr n10 ↦
                                  elim (cases_eq x 12) [
                                    | inl e ↦ subst P (sym e) refl
                                    | inr n12 ↦
                                        elim (cases_eq x 13) [
                                          | inl e ↦ subst P (sym e) refl
                                          | inr n13 ↦
                                              simp (ne_eqb x 34 n34, ne_eqb x 92 n92, ne_eqb x 8 n8, ne_eqb x 9 n9, ne_eqb x 10 n10, ne_eqb x 12 n12, ne_eqb x 13 n13) (unescaped x n10)
                                        ]
                                  ]
                            ]
                      ]
                ]
          ]
    ]

-- ---- texts and lists

bytes : (text : List ℕ) → is_one_line (flat_map in_quotes text) ≡ true
bytes [] = refl
bytes (x ∷ text) = joined (in_quotes x) (flat_map in_quotes text) (byte x) (bytes text)

text : (t : List ℕ) → is_one_line (quoted t) ≡ true
text t = joined (codes "\"" ++ flat_map in_quotes t) (codes "\"") (joined (codes "\"") (flat_map in_quotes t) refl (bytes t)) refl

items : (lines : List (List ℕ)) → is_one_line (between_commas (map (λ line. quoted (as_text line)) lines)) ≡ true
items [] = refl
items (line ∷ []) = text (as_text line)
items (line ∷ next ∷ lines) =
    let q = quoted (as_text line) in
    let rest = between_commas (map (λ l. quoted (as_text l)) (next ∷ lines)) in
    joined (q ++ codes ",") rest (joined q (codes ",") (text (as_text line)) refl) (items (next ∷ lines))

list : (lines : List (List ℕ)) → is_one_line (list_of lines) ≡ true
list lines =
    let inside = between_commas (map (λ line. quoted (as_text line)) lines) in
    joined (codes "[" ++ inside) (codes "]") (joined (codes "[") inside refl (items lines)) refl

-- ---- numbers

onto : (k n : ℕ) (acc : List ℕ) → is_one_line acc ≡ true → is_one_line (digits_onto k 10 false n acc) ≡ true
onto zero n acc h = h
onto (suc k) n acc h =
    let d = digit_glyph false (n % 10) in
    let more : is_one_line (d ∷ acc) ≡ true = both _ _ (digit (n % 10)) h in
    either (n / 10 == 0) (d ∷ acc) (digits_onto k 10 false (n / 10) (d ∷ acc)) more (onto k (n / 10) (d ∷ acc) more)

pub number : (n : ℕ) → is_one_line (decimal n) ≡ true
unfolding digits
number n = onto 64 n [] refl

-- ---- the object

pub object_is_one_line : (digests lines : List (List ℕ)) (status : ℕ) → is_one_line (object_of digests lines status) ≡ true
object_is_one_line digests lines status =
    let a = codes "{\"digests\":" in
    let b = a ++ list_of digests in
    let c = b ++ codes ",\"lines\":" in
    let d = c ++ list_of lines in
    let e = d ++ codes ",\"status\":" in
    let f = e ++ decimal status in
    joined f (codes "}") (joined e (decimal status) (joined d (codes ",\"status\":") (joined c (list_of lines) (joined b (codes ",\"lines\":")
    (joined a (list_of digests) refl (list digests)) refl) (list lines)) refl) (number status)) refl
