-- A piece may change where nobody else owns anything.
use Rattle.std.proofs.Common.{◌≡◌, ℕ, suc, ◌+◌, ◌<◌, ◌≤◌, ◌⊎◌, inl, inr, List, Some, arith, subst, ◌∙◌}
use Rattle.gv_terms.specs.declared.value.Value.{Value}
use Rattle.gv_resources.specs.Kinds.{Kind, most}
use Rattle.gv_resources.specs.Pieces.{Have, Piece, Telling, Fits, IsHeldOrFresh}
use Rattle.gv_resources.specs.Laws.{FrameLaw}

some_or_none : (n : ℕ) → (n ≡ 0) ⊎ (0 < n)
some_or_none n = grind arith

-- the frame has nothing under such a key
none_framed : (p frame : Piece) (tells : Telling) (k : Kind) (key u : List Value) → Fits (λ e. p e + frame e) tells → IsHeldOrFresh p tells k key
    → 0 < frame (Have k key u) → ⊥
none_framed p frame tells k key u f (inl (v, n, m, has)) l =
    let a = f.says k key v (omega arith) in
    let b = f.says k key u (omega arith) in
    let same : u ≡ v = cc in
    let c = f.few k key v (suc n) m in
    let moved : 0 < frame (Have k key v) = subst (λ x. 0 < frame (Have k key x)) same l in
    omega arith
none_framed p frame tells k key u f (inr free) l = let a = f.says k key u (omega arith) in cc

pub frame_law : FrameLaw
frame_law old new frame before now f c = record { says = says; few = few }
  where
    says : (k : Kind) (key v : List Value) → 0 < new (Have k key v) + frame (Have k key v) → now k key ≡ Some v
    says k key v l = elim (some_or_none (frame (Have k key v))) [
      | inl z ↦ c.fits.says k key v (omega arith)
      | inr some ↦ elim (c.state k key) [
        | inl same ↦ same ∙ f.says k key v (omega arith)
        | inr held ↦ absurd (none_framed old frame before k key v f held some)
      ]
    ]

    few : (k : Kind) (key v : List Value) (n : ℕ) → most k ≡ Some n → new (Have k key v) + frame (Have k key v) ≤ n
    few k key v n m = elim (some_or_none (frame (Have k key v))) [
      | inl z ↦ (let b = c.fits.few k key v n m in omega arith)
      | inr some ↦ elim (c.piece k key v) [
        | inl less ↦ (let b = f.few k key v n m in omega arith)
        | inr held ↦ absurd (none_framed old frame before k key v f held some)
      ]
    ]
