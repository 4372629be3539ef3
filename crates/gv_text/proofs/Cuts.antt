-- A text is cut in one way.
use Rattle.std.proofs.Common.{◌≡◌, ◌≤◌, ◌<◌, ◌+◌, ◌++◌, ℕ, List, [], ◌∷◌, length, drop, Option, Some, None, refl, sym, ap, subst, ◌∙◌, append_assoc, append-nil, arith}
use Rattle.std.proofs.lemmas.List.{length-append, length-drop, drop-drop, drop_all}
use Rattle.std.specs.List.{AllByRecursion}
use Rattle.gv_base.specs.declared.answers.Code.{Code}
use Rattle.gv_base.specs.declared.token.Token.{Token}
use Rattle.gv_text.specs.Cutting.{Piece, Lexis, Begins, IsLongest, IsCut, IsRight, FaultsAt, wrong, stray}
use Rattle.gv_text.specs.Judging.{mark_length, body_of, HasTokens, HasWrongPiece}
use Rattle.gv_text.proofs.Longest.{one_longest}

-- no right piece begins a text
abbrev pub IsStuck : {F : Type 0} → Lexis F → List ℕ → Type 0
IsStuck {F} kind text = (p : Piece F) → IsLongest kind p text → IsRight kind p → ⊥

pub one_cut : {F : Type 0} (kind : Lexis F) (text : List ℕ) (ps qs : List (Piece F)) (r s : List ℕ) → IsCut kind text ps r → AllByRecursion (IsRight kind) ps → IsStuck kind r
    → IsCut kind text qs s → AllByRecursion (IsRight kind) qs → IsStuck kind s → (ps ≡ qs) × (r ≡ s)
one_cut kind text [] [] r s c a u d b v = (refl, sym c ∙ d)
one_cut kind text [] (q ∷ qs) r s c a u d b v = absurd (u q (subst (IsLongest kind q) c d.0) b.0)
one_cut kind text (p ∷ ps) [] r s c a u d b v = absurd (v p (subst (IsLongest kind p) d c.0) a.0)
one_cut {F} kind text (p ∷ ps) (q ∷ qs) r s c a u d b v =
    let same : p ≡ q = one_longest kind p q text c.0 d.0 in
    let moved : IsCut kind (drop (length p.bytes) text) qs s = subst (λ (x : Piece F). IsCut kind (drop (length x.bytes) text) qs s) (sym same) d.1 in
    let rest = one_cut kind (drop (length p.bytes) text) ps qs r s c.1 a.1 u moved b.1 v in
    (λ i. same i ∷ rest.0 i, rest.1)

cut_more : {F : Type 0} (kind : Lexis F) (text : List ℕ) (ps : List (Piece F)) (rest : List ℕ) (p : Piece F) → IsCut kind text ps rest → IsLongest kind p rest
    → IsCut kind text (ps ++ p ∷ []) (drop (length p.bytes) rest)
cut_more kind text [] rest p c h = (subst (IsLongest kind p) (sym c) h, ap (drop (length p.bytes)) c)
cut_more kind text (x ∷ ps) rest p c h = (c.0, cut_more kind (drop (length x.bytes) text) ps rest p c.1 h)

right_more : {F : Type 0} (kind : Lexis F) (ps : List (Piece F)) (p : Piece F) → AllByRecursion (IsRight kind) ps → IsRight kind p → AllByRecursion (IsRight kind) (ps ++ p ∷ [])
right_more kind [] p a h = (h, tt)
right_more kind (x ∷ ps) p a h = (a.0, right_more kind ps p a.1 h)

-- The tokens of the pieces before a place, and how those of further pieces follow them.
pub record HasReadTo {F : Type 0} (kind : Lexis F) (text : List ℕ) (at : ℕ) (after : List (Piece F) → List Token) (out : List Token) : Type 0 where
  pub pieces : List (Piece F)
  pub within : at ≤ length text
  pub cut : IsCut kind (body_of text) pieces (drop at text)
  pub right : AllByRecursion (IsRight kind) pieces
  pub rest : (more : List (Piece F)) → out ++ after more ≡ kind.tokens_at (mark_length text) (pieces ++ more)

pub none_read : {F : Type 0} (kind : Lexis F) (text : List ℕ) → mark_length text ≤ length text → HasReadTo kind text (mark_length text) (kind.tokens_at (mark_length text)) []
none_read kind text h = record { pieces = []; within = h; cut = refl; right = tt; rest = λ more. refl }

pub has_its_bytes : {F : Type 0} (p : Piece F) (text : List ℕ) → Begins p text → length p.bytes ≤ length text
has_its_bytes p text b = omega (arith, ap length b, length-append p.bytes (drop (length p.bytes) text))

pub one_more_read : {F : Type 0} (kind : Lexis F) (text : List ℕ) (at : ℕ) (after next : List (Piece F) → List Token) (out added : List Token) (p : Piece F) → HasReadTo kind text at after out
    → IsLongest kind p (drop at text) → IsRight kind p → ((more : List (Piece F)) → after (p ∷ more) ≡ added ++ next more)
    → HasReadTo kind text (at + length p.bytes) next (out ++ added)
one_more_read kind text at after next out added p h longest right step =
    record {
      pieces = h.pieces ++ p ∷ [];
      within = omega (arith, has_its_bytes p (drop at text) longest.begins, length-drop at text, h.within);
      cut = subst (IsCut kind (body_of text) (h.pieces ++ p ∷ [])) (drop-drop (length p.bytes) at text) (cut_more kind (body_of text) h.pieces (drop at text) p h.cut longest);
      right = right_more kind h.pieces p h.right right;
      rest = λ more.
          append_assoc out added (next more) ∙ ap (λ tokens. out ++ tokens) (sym (step more)) ∙ h.rest (p ∷ more)
          ∙ ap (kind.tokens_at (mark_length text)) (sym (append_assoc h.pieces (p ∷ []) more));
    }

pub all_read : {F : Type 0} (kind : Lexis F) (text : List ℕ) (at : ℕ) (after : List (Piece F) → List Token) (out : List Token) → HasReadTo kind text at after out → length text ≤ at
    → HasTokens kind text (out ++ after [])
all_read kind text at after out h l =
    record {
      pieces = h.pieces;
      cut = subst (IsCut kind (body_of text) h.pieces) (drop_all at text l) h.cut;
      right = h.right;
      listed = h.rest [] ∙ ap (kind.tokens_at (mark_length text)) (append-nil h.pieces);
    }

pub fault_read : {F : Type 0} (kind : Lexis F) (text : List ℕ) (at : ℕ) (after : List (Piece F) → List Token) (out : List Token) (before : ℕ) (code : Code) → HasReadTo kind text at after out
    → FaultsAt kind (drop at text) before code → HasWrongPiece kind text (at + before) code
fault_read kind text at after out before code h f =
    record {
      pieces = h.pieces;
      rest = drop at text;
      before = before;
      cut = h.cut;
      right = h.right;
      fault = f;
      place = omega (arith, length-drop at text, h.within);
    }

-- ---- one answer

pub end_is_stuck : {F : Type 0} (kind : Lexis F) → IsStuck kind []
end_is_stuck kind p h right = absurd (omega (arith, h.piece.some, has_its_bytes p [] h.begins))

some_differs : (a b : ℕ × Code) → Some a ≡ Some b → a ≡ b
some_differs a b e = cc

not_none : (found : Option (ℕ × Code)) (x : ℕ × Code) → found ≡ Some x → found ≡ None → ⊥
not_none found x e n = cc

pub fault_is_stuck : {F : Type 0} (kind : Lexis F) (text : List ℕ) (before : ℕ) (code : Code) → FaultsAt kind text before code → IsStuck kind text
fault_is_stuck kind text before code (wrong p h e) q g right =
    let same : q ≡ p = one_longest kind q p text g h in
    not_none (kind.fault_of p.form p.bytes) (before, code) e (subst (IsRight kind) same right)
fault_is_stuck kind text before code (stray l none z c) q g right = none q g.piece g.begins

pub fault_is_within : {F : Type 0} (kind : Lexis F) (text : List ℕ) (before : ℕ) (code : Code) → FaultsAt kind text before code → 0 < length text
fault_is_within kind text before code (wrong p h e) = omega (arith, h.piece.some, has_its_bytes p text h.begins)
fault_is_within kind text before code (stray l none z c) = l

-- the fault at one place
pub one_fault : {F : Type 0} (kind : Lexis F) (text : List ℕ) (m n : ℕ) (c d : Code) → FaultsAt kind text m c → FaultsAt kind text n d → (m ≡ n) × (c ≡ d)
one_fault {F} kind text m n c d (wrong p h e) (wrong q g f) =
    let same : p ≡ q = one_longest kind p q text h g in
    let faults : kind.fault_of p.form p.bytes ≡ kind.fault_of q.form q.bytes = ap (λ (x : Piece F). kind.fault_of x.form x.bytes) same in
    let pairs : (m, c) ≡ (n, d) = some_differs (m, c) (n, d) (sym e ∙ faults ∙ f) in
    (ap (λ x. x.0) pairs, ap (λ x. x.1) pairs)
one_fault kind text m n c d (wrong p h e) (stray l none z b) = absurd (none p h.piece h.begins)
one_fault kind text m n c d (stray l none z b) (wrong q g f) = absurd (none q g.piece g.begins)
one_fault kind text m n c d (stray l none z b) (stray k any y a) = (z ∙ sym y, b ∙ sym a)
