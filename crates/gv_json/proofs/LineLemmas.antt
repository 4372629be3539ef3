-- What is written of texts, lists and the object is the line.
use Rattle.std.proofs.Common.{◌≡◌, ℕ, ◌+◌, ◌<◌, Bool, true, false, inl, inr, List, [], ◌∷◌, ◌++◌, length, map, take, get_or, codes, decimal, refl, sym, ap, ap₂, ◌∙◌, subst, append_assoc, arith}
use Rattle.std.specs.Prelude.{flat_map, if◌then◌else◌, max, ◌≤◌}
use Rattle.std.specs.Str.{IsUtf8, is_utf8}
use Rattle.std.proofs.lemmas.Bool.{cases_eq, ne_eqb}
use Rattle.std.proofs.lemmas.List.{take_more, map-append}
use Rattle.std.proofs.lemmas.Str.{is_utf8-from_IsUtf8, IsUtf8-from_is_utf8}
use Rattle.json.specs.Print.{escape_byte, escape_letter, escape}
use Rattle.json.specs.Print as printed
use Rattle.serde_json.specs.Data.{Data, string, array, depth, items_depth}
use Rattle.serde_json.specs.Written.{compact_text, items_text, has_float, items_have_float}
use Rattle.serde_json.specs.Read.{max_depth}
use Rattle.serde_json.specs.View.{items_of, view}
use Rattle.serde_json.specs.declared.value.Value.{Value}
use Rattle.gv_json.specs.Line.{in_quotes, quoted, as_text, between_commas, list_of, object_of, value_of}

-- ---- bytes as texts

pub whole_text : (bytes : List ℕ) → IsUtf8 bytes → as_text bytes ≡ bytes
whole_text bytes is = rw (is_utf8-from_IsUtf8 bytes is) refl

chosen : (b : Bool) (x y : List ℕ) → (b ≡ true → ⊥) → (if b then x else y) ≡ y
chosen true x y h = absurd (h refl)
chosen false x y h = refl

pub no_text : (bytes : List ℕ) → (IsUtf8 bytes → ⊥) → as_text bytes ≡ []
no_text bytes none = chosen (is_utf8 bytes) bytes [] (λ is. none (IsUtf8-from_is_utf8 bytes is))

-- ---- escapes

same_byte : (x : ℕ) → escape_byte x ≡ in_quotes x
unfolding escape_byte
same_byte x =
    elim (cases_eq x 34) [
      | inl e ↦ subst (λ n. escape_byte n ≡ in_quotes n) (sym e) refl
      | inr n34 ↦
          elim (cases_eq x 92) [
            | inl e ↦ subst (λ n. escape_byte n ≡ in_quotes n) (sym e) refl
            | inr n92 ↦
                elim (cases_eq x 8) [
                  | inl e ↦ subst (λ n. escape_byte n ≡ in_quotes n) (sym e) refl
                  | inr n8 ↦
                      elim (cases_eq x 9) [
                        | inl e ↦ subst (λ n. escape_byte n ≡ in_quotes n) (sym e) refl
                        | inr n9 ↦
                            elim (cases_eq x 10) [
                              | inl e ↦ subst (λ n. escape_byte n ≡ in_quotes n) (sym e) refl
                              | inr n10 ↦
                                  elim (cases_eq x 12) [
                                    | inl e ↦ subst (λ n. escape_byte n ≡ in_quotes n) (sym e) refl
                                    | inr n12 ↦
                                        elim (cases_eq x 13) [
                                          | inl e ↦ subst (λ n. escape_byte n ≡ in_quotes n) (sym e) refl
                                          | inr n13 ↦
                                              simp (ne_eqb x 34 n34, ne_eqb x 92 n92, ne_eqb x 8 n8, ne_eqb x 9 n9, ne_eqb x 10 n10, ne_eqb x 12 n12, ne_eqb x 13 n13) refl
                                        ]
                                  ]
                            ]
                      ]
                ]
          ]
    ]

same_escapes : (text : List ℕ) → escape text ≡ flat_map in_quotes text
same_escapes [] = refl
same_escapes (x ∷ text) = ap₂ (λ (a b : List ℕ). a ++ b) (same_byte x) (same_escapes text)

pub same_quotes : (text : List ℕ) → printed.quoted text ≡ quoted text
same_quotes text = ap (λ (v : List ℕ). 34 ∷ (v ++ 34 ∷ [])) (same_escapes text)

-- ---- lists

-- each of the lines as a value
abbrev pub each : List (List ℕ) → List Data
each lines = map (λ l. string (as_text l)) lines

pub texts_next : (made new : List Value) (v : Value) (lines : List (List ℕ)) (i : ℕ) (line : List ℕ) → i < length lines → line ≡ get_or lines i line
    → map view made ≡ each (take i lines) → new ≡ made ++ v ∷ [] → view v ≡ string (as_text line) → map view new ≡ each (take (i + 1) lines)
texts_next made new v lines i line h is so more shows =
    ap (map view) more ∙ map-append view made (v ∷ []) ∙ ap₂ (λ (a b : List Data). a ++ b) so (ap (λ d. d ∷ []) shows)
    ∙ sym (ap each (take_more lines i line h ∙ ap (λ (v : List ℕ). take i lines ++ v ∷ []) (sym is))
    ∙ map-append (λ l. string (as_text l)) (take i lines) (line ∷ []))

abbrev items_between : List (List ℕ) → List ℕ
items_between lines = between_commas (map (λ line. quoted (as_text line)) lines)

-- behind an item, each one has its comma before it
items_later : (first : List ℕ) (lines : List (List ℕ)) → quoted (as_text first) ++ items_text true (items_of (each lines)) ≡ items_between (first ∷ lines) ++ 93 ∷ []
items_later first [] = refl
items_later first (next ∷ lines) =
    let q = quoted (as_text first) in
    ap (λ (v : List ℕ). q ++ 44 ∷ (v ++ items_text true (items_of (each lines)))) (same_quotes (as_text next))
    ∙ ap (λ (v : List ℕ). q ++ 44 ∷ v) (items_later next lines)
    ∙ sym (append_assoc q (44 ∷ []) (items_between (next ∷ lines) ++ 93 ∷ []))
    ∙ sym (append_assoc (q ++ 44 ∷ []) (items_between (next ∷ lines)) (93 ∷ []))

pub list_text : (lines : List (List ℕ)) → compact_text (array (items_of (each lines))) ≡ list_of lines
list_text [] = refl
list_text (first ∷ lines) =
    ap (λ (v : List ℕ). 91 ∷ (v ++ items_text true (items_of (each lines)))) (same_quotes (as_text first))
    ∙ ap (λ (v : List ℕ). 91 ∷ v) (items_later first lines)

-- ---- the object

no_float_in : (lines : List (List ℕ)) → items_have_float (items_of (each lines)) ≡ false
no_float_in [] = refl
no_float_in (line ∷ lines) = no_float_in lines

pub no_float : (digests lines : List (List ℕ)) (status : ℕ) → has_float (value_of digests lines status) ≡ false
no_float digests lines status = rw (no_float_in digests) (rw (no_float_in lines) refl)

flat : (lines : List (List ℕ)) → items_depth (items_of (each lines)) ≡ 0
flat [] = refl
flat (line ∷ lines) = ap (λ n. max 0 n) (flat lines)

pub shallow : (digests lines : List (List ℕ)) (status : ℕ) → depth (value_of digests lines status) ≤ max_depth
shallow digests lines status = rw (flat digests) (rw (flat lines) (omega arith))

joined_left : (a m b e d l : List ℕ) → a ++ (m ++ (b ++ (e ++ (d ++ l)))) ≡ a ++ m ++ b ++ e ++ d ++ l
joined_left a m b e d l =
    sym (append_assoc a m (b ++ (e ++ (d ++ l)))) ∙ sym (append_assoc (a ++ m) b (e ++ (d ++ l))) ∙ sym (append_assoc (a ++ m ++ b) e (d ++ l))
    ∙ sym (append_assoc (a ++ m ++ b ++ e) d l)

pub object_text : (digests lines : List (List ℕ)) (status : ℕ) → compact_text (value_of digests lines status) ≡ object_of digests lines status
unfolding escape_byte
object_text digests lines status =
    let front = codes "{\"digests\":" in
    let middle = codes ",\"lines\":" in
    let last = codes ",\"status\":" in
    ap₂ (λ (a b : List ℕ). front ++ (a ++ (middle ++ (b ++ (last ++ (decimal status ++ codes "}")))))) (list_text digests) (list_text lines)
    ∙ ap (λ (v : List ℕ). front ++ v) (joined_left (list_of digests) middle (list_of lines) last (decimal status) (codes "}"))
