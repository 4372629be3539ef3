-- Pieces appended one after the other.
use Rattle.std.proofs.Common.{◌≡◌, ℕ, ◌+◌, ◌-◌, ◌≤◌, List, [], ◌++◌, length, take, drop, Option, Some, None, refl, sym, ap, subst, ◌∙◌, arith, append_assoc}
use Rattle.std.proofs.lemmas.List.{append-nil, take-append-drop}
use Rattle.std.proofs.Math.Seq.{take-add}
use Rattle.gv_base.specs.Outside.{Appended}

pub appended_nothing : (o : Option (List ℕ)) → Appended o [] o
appended_nothing None = refl
appended_nothing (Some old) = ap Some (sym (append-nil old))

pub appended_more : (o m n : Option (List ℕ)) (prefix piece : List ℕ) → Appended o prefix m → Appended m piece n → Appended o (prefix ++ piece) n
appended_more None m n prefix piece a b = appended_none m n a b
  where
    appended_none : (m n : Option (List ℕ)) → m ≡ None → Appended m piece n → n ≡ None
    appended_none None n e h = h
    appended_none (Some x) n e h = absurd cc
appended_more (Some old) m n prefix piece a b = go m a b
  where
    go : (m : Option (List ℕ)) → m ≡ Some (old ++ prefix) → Appended m piece n → n ≡ Some (old ++ (prefix ++ piece))
    go None e h = absurd cc
    go (Some x) e h = let same : x ≡ old ++ prefix = cc in h ∙ ap Some (ap (λ (v : List ℕ). v ++ piece) same ∙ append_assoc old prefix piece)

-- the next piece of a text
pub next_piece : (text : List ℕ) (at end : ℕ) (piece : List ℕ) → at ≤ end → end ≤ length text → piece ≡ take (end - at) (drop at text) → take at text ++ piece ≡ take end text
next_piece text at end piece h k e =
    let whole : at + (end - at) ≡ end = omega (arith, h) in
    ap (λ (v : List ℕ). take at text ++ v) e ∙ sym (take-add at (end - at) text) ∙ ap (λ n. take n text) whole

pub put_more : (o m n : Option (List ℕ)) (text : List ℕ) (at end : ℕ) (piece : List ℕ) → at ≤ end → end ≤ length text → piece ≡ take (end - at) (drop at text) →
    Appended o (take at text) m → Appended m piece n → Appended o (take end text) n
put_more o m n text at end piece h k e a b = subst (λ (v : List ℕ). Appended o v n) (next_piece text at end piece h k e) (appended_more o m n (take at text) piece a b)

pub put_prefix : (o m n : Option (List ℕ)) (text : List ℕ) (at end : ℕ) (piece : List ℕ) → at ≤ end → end ≤ length text → piece ≡ take (end - at) (drop at text) →
    Appended o (take at text) m → (prefix : List ℕ) × (rest : List ℕ) × (piece ≡ prefix ++ rest) × Appended m prefix n → (prefix : List ℕ) × (rest : List ℕ) × (text ≡ prefix ++ rest) × Appended o prefix n
put_prefix o m n text at end piece h k e a (prefix, rest, split, b) =
    let whole : text ≡ (take at text ++ prefix) ++ (rest ++ drop end text) =
    sym (take-append-drop end text) ∙ ap (λ (v : List ℕ). v ++ drop end text) (sym (next_piece text at end piece h k e)) ∙ ap (λ (v : List ℕ). (take at text ++ v) ++ drop end text) split
    ∙ ap (λ (v : List ℕ). v ++ drop end text) (sym (append_assoc (take at text) prefix rest)) ∙ append_assoc (take at text ++ prefix) rest (drop end text) in
    (take at text ++ prefix, rest ++ drop end text, whole, appended_more o m n (take at text) prefix a b)
