-- Blocks that are taken off the front of the tokens.
use Rattle.std.proofs.Common.{◌≡◌, ℕ, zero, suc, ◌<◌, List, [], ◌∷◌, ◌++◌, length, refl, sym, ap, subst, ◌∙◌, arith, Bool, true, false}
use Rattle.std.specs.Prelude.{take, drop, codes, ◌==◌}
use Rattle.gv_base.specs.declared.token.Token.{Token}
use Rattle.gv_smallscript.specs.declared.forms.SmallBlock.{SmallBlock}
use Rattle.gv_smallscript.proofs.Texts.{long}
use Rattle.gv_smallscript.specs.SmallScript.{texts, declarations, commands, IsBlock, AreBlocks}

-- blocks are these, and behind them some that are left
pub record AreBehind (text : List ℕ) (done : List SmallBlock) (left : List Token) (whole : List SmallBlock) : Type 0 where
  pub rest : List SmallBlock
  pub made : whole ≡ done ++ rest
  pub are : AreBlocks text rest left

joins : (xs : List SmallBlock) (y : SmallBlock) (zs : List SmallBlock) → (xs ++ y ∷ []) ++ zs ≡ xs ++ y ∷ zs
joins [] y zs = refl
joins (x ∷ xs) y zs = ap (λ (ws : List SmallBlock). x ∷ ws) (joins xs y zs)

pub taken : (n : ℕ) (ts : List Token) → length ts < n → take n ts ≡ ts
taken zero ts h = absurd (omega (arith, h))
taken (suc n) [] h = refl
taken (suc n) (t ∷ ts) h = ap (λ (us : List Token). t ∷ us) (taken n ts (omega (arith, h)))

-- the declarations have 70 tokens
pub not_fewer : (text : List ℕ) (ts : List Token) → length ts < 70 → texts text (take 70 ts) ≡ declarations → ⊥
not_fewer text ts h k =
    let e : texts text ts ≡ declarations = ap (texts text) (sym (taken 70 ts h)) ∙ k in
    let n : length ts ≡ 70 = sym (long text ts) ∙ ap (λ (ws : List (List ℕ)). length ws) e in
    omega (arith, h, n)

pub not_empty : (ts : List Token) (b : Bool) → b ≡ (length ts == 0) → b ≡ false → ts ≡ [] → ⊥
not_empty [] b e f g = let h : b ≡ true = e in absurd cc
not_empty (t ∷ ts) b e f g = absurd cc

pub empty : (ts : List Token) (b : Bool) → b ≡ (length ts == 0) → b ≡ true → ts ≡ []
empty [] b e f = refl
empty (t ∷ ts) b e f = absurd (grind (arith, e, f))

-- a block has 13 tokens
pub not_shorter : (text : List ℕ) (b : SmallBlock) (ts : List Token) → length ts < 13 → IsBlock text b (take 13 ts) → ⊥
not_shorter text b ts h k =
    let e : texts text ts ≡ codes "op" ∷ b.name ∷ commands = ap (texts text) (sym (taken 13 ts h)) ∙ k.spelled in
    let n : length ts ≡ 13 = sym (long text ts) ∙ ap (λ (ws : List (List ℕ)). length ws) e in
    omega (arith, h, n)

module _ (text : List ℕ) where
  pub one_more : (done bs : List SmallBlock) (b : SmallBlock) (left tokens : List Token) → ((cs : List SmallBlock) → AreBlocks text cs left → AreBlocks text (done ++ cs) tokens)
      → IsBlock text b (take 13 left) → AreBlocks text bs (drop 13 left) → AreBlocks text ((done ++ b ∷ []) ++ bs) tokens
  one_more done bs b left tokens found is are =
      subst (λ (cs : List SmallBlock). AreBlocks text cs tokens) (sym (joins done b bs)) (found (b ∷ bs) (is, are))

  pub one_only : (done bs : List SmallBlock) (b : SmallBlock) (left : List Token) → ((c : SmallBlock) → IsBlock text c (take 13 left) → c ≡ b) → (0 < length left) → AreBehind text done left bs
      → AreBehind text (done ++ b ∷ []) (drop 13 left) bs
  one_only done bs b left same more h = go h.rest h.made h.are
    where
      go : (rest : List SmallBlock) → bs ≡ done ++ rest → AreBlocks text rest left → AreBehind text (done ++ b ∷ []) (drop 13 left) bs
      go [] made are = absurd (omega (arith, more, ap (λ (ts : List Token). length ts) are))
      go (c ∷ cs) made are = record {
        rest = cs;
        made = made ∙ (ap (λ (x : SmallBlock). done ++ x ∷ cs) (same c are.0) ∙ sym (joins done b cs));
        are = are.1;
      }

  pub none_left : (done bs : List SmallBlock) (left : List Token) → ((b : SmallBlock) → IsBlock text b (take 13 left) → ⊥) → (0 < length left) → AreBehind text done left bs → ⊥
  none_left done bs left never more h = go h.rest h.are
    where
      go : (rest : List SmallBlock) → AreBlocks text rest left → ⊥
      go [] are = omega (arith, more, ap (λ (ts : List Token). length ts) are)
      go (c ∷ cs) are = never c are.0

  -- no blocks, and some tokens
  pub some_left : (done bs : List SmallBlock) (left : List Token) → length left < 13 → (left ≡ [] → ⊥) → AreBehind text done left bs → ⊥
  some_left done bs left less more h = go h.rest h.are
    where
      go : (rest : List SmallBlock) → AreBlocks text rest left → ⊥
      go [] are = more are
      go (c ∷ cs) are = not_shorter text c left less are.0

  pub all_found : (done : List SmallBlock) (left tokens : List Token) → ((cs : List SmallBlock) → AreBlocks text cs left → AreBlocks text (done ++ cs) tokens) → left ≡ []
      → AreBlocks text done tokens
  all_found done left tokens found e = subst (λ (cs : List SmallBlock). AreBlocks text cs tokens) (nil done) (found [] e)
    where
      nil : (xs : List SmallBlock) → xs ++ [] ≡ xs
      nil [] = refl
      nil (x ∷ xs) = ap (λ (ys : List SmallBlock). x ∷ ys) (nil xs)
