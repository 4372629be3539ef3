-- A text has at most one small form.
use Rattle.std.proofs.Common.{◌≡◌, ℕ, List, [], ◌∷◌, Some, refl, sym, ap, subst, ◌∙◌}
use Rattle.std.specs.Prelude.{take, drop, codes}
use Rattle.gv_base.specs.Places.{place_at}
use Rattle.gv_base.specs.declared.answers.Place.{Place}
use Rattle.gv_base.specs.declared.token.Token.{Token}
use Rattle.gv_text.proofs.FirstFaults.{decided}
use Rattle.gv_lex.specs.Reading as lex
use Rattle.gv_smallscript.specs.declared.forms.SmallBlock.{SmallBlock}
use Rattle.gv_smallscript.specs.declared.forms.SmallScript.{SmallScript}
use Rattle.gv_smallscript.specs.SmallScript.{commands, IsBlock, AreBlocks, HasForm}
use Rattle.gv_smallscript.specs.Laws.{HasOne}

module _ (text : List ℕ) where
  no_texts : (b : SmallBlock) → IsBlock text b (take 13 []) → ⊥
  no_texts b h = let e : [] ≡ codes "op" ∷ b.name ∷ commands = h.spelled in absurd cc

  pub same_block : (b c : SmallBlock) (ts : List Token) → IsBlock text b ts → IsBlock text c ts → b ≡ c
  same_block b c ts h k =
      let e : codes "op" ∷ b.name ∷ commands ≡ codes "op" ∷ c.name ∷ commands = sym h.spelled ∙ k.spelled in
      let s : Some h.step ≡ Some k.step = sym h.step_is ∙ k.step_is in
      let n : b.name ≡ c.name = cc in
      let t : h.step ≡ k.step = cc in
      let p : b.step ≡ c.step = h.place_is ∙ (ap (λ (x : Token). place_at text x.start) t ∙ sym k.place_is) in
      of_parts b.name c.name b.step c.step n p
    where
      of_parts : (n m : List ℕ) (p q : Place) → n ≡ m → p ≡ q → (let b : SmallBlock = record { name = n; step = p } in b) ≡ record { name = m; step = q }
      of_parts n m p q e f = cc

  pub same_blocks : (bs cs : List SmallBlock) (ts : List Token) → AreBlocks text bs ts → AreBlocks text cs ts → bs ≡ cs
  same_blocks [] [] ts h k = refl
  same_blocks [] (c ∷ cs) ts h k = absurd (no_texts c (subst (λ (us : List Token). IsBlock text c (take 13 us)) h k.0))
  same_blocks (b ∷ bs) [] ts h k = absurd (no_texts b (subst (λ (us : List Token). IsBlock text b (take 13 us)) k h.0))
  same_blocks (b ∷ bs) (c ∷ cs) ts h k =
      let first = same_block b c (take 13 ts) h.0 k.0 in
      let rest = same_blocks bs cs (drop 13 ts) h.1 k.1 in
      cc

  of_ops : (a b : List SmallBlock) → a ≡ b → (let s : SmallScript = record { ops = a } in s) ≡ record { ops = b }
  of_ops a b e = cc

  pub one_form : (ts : List Token) (x y : SmallScript) → HasForm text ts x → HasForm text ts y → x ≡ y
  one_form ts x y h k = of_ops x.ops y.ops (same_blocks x.ops y.ops (drop 70 ts) h.ops k.ops)

  pub same_tokens : (ts us : List Token) → lex.IsRead text ts → lex.IsRead text us → ts ≡ us
  same_tokens ts us h k = (decided lex.own text).one_value ts us h k

pub one_small : HasOne
one_small text x y h k =
    one_form text h.tokens x y h.form (subst (λ (ts : List Token). HasForm text ts y) (same_tokens text k.tokens h.tokens k.cut h.cut) k.form)
