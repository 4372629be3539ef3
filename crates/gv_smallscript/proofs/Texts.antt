-- The texts of tokens beside words.
use Rattle.std.proofs.Common.{◌≡◌, ℕ, zero, suc, ◌+◌, List, [], ◌∷◌, length, Some, None, refl, sym, ap, subst, ◌∙◌, arith}
use Rattle.std.specs.Prelude.{map, take, drop, slice_get, codes}
use Rattle.gv_base.specs.declared.token.Token.{Token}
use Rattle.gv_lex.specs.Reading.{bytes_of}
use Rattle.gv_smallscript.specs.declared.forms.SmallBlock.{SmallBlock}
use Rattle.gv_smallscript.specs.SmallScript.{texts, commands, IsBlock}

module _ {A B C : Type 0} (f : A → C) (g : B → C) where
  -- where lists are the same, so are their items
  pub same_items : (xs : List A) (ys : List B) (at : ℕ) (x : A) (y : B) → slice_get xs at ≡ Some x → slice_get ys at ≡ Some y → map f xs ≡ map g ys → f x ≡ g y
  same_items [] ys at x y p q e = let n : None ≡ Some x = p in absurd cc
  same_items (a ∷ xs) [] at x y p q e = let n : None ≡ Some y = q in absurd cc
  same_items (a ∷ xs) (b ∷ ys) zero x y p q e =
      let r : Some a ≡ Some x = p in
      let s : Some b ≡ Some y = q in
      let h : f a ∷ map f xs ≡ g b ∷ map g ys = e in
      let v : a ≡ x = cc in
      let w : b ≡ y = cc in
      let k : f a ≡ g b = cc in
      ap f (sym v) ∙ (k ∙ ap g w)
  same_items (a ∷ xs) (b ∷ ys) (suc at) x y p q e =
      let h : f a ∷ map f xs ≡ g b ∷ map g ys = e in
      let k : map f xs ≡ map g ys = cc in
      same_items xs ys at x y p q k

  -- one item more
  grown : (xs : List A) (ys : List B) (at : ℕ) (x : A) (y : B) → slice_get xs at ≡ Some x → slice_get ys at ≡ Some y → f x ≡ g y → map f (take at xs) ≡ map g (take at ys)
      → map f (take (suc at) xs) ≡ map g (take (suc at) ys)
  grown [] ys at x y p q e h = let n : None ≡ Some x = p in absurd cc
  grown (a ∷ xs) [] at x y p q e h = let n : None ≡ Some y = q in absurd cc
  grown (a ∷ xs) (b ∷ ys) zero x y p q e h =
      let r : Some a ≡ Some x = p in
      let s : Some b ≡ Some y = q in
      let v : a ≡ x = cc in
      let w : b ≡ y = cc in
      ap (λ (c : C). c ∷ []) (ap f v ∙ (e ∙ ap g (sym w)))
  grown (a ∷ xs) (b ∷ ys) (suc at) x y p q e h =
      let k : f a ∷ map f (take at xs) ≡ g b ∷ map g (take at ys) = h in
      let i : f a ≡ g b = cc in
      let j : map f (take at xs) ≡ map g (take at ys) = cc in
      let m = grown xs ys at x y p q e j in
      ap (λ (c : C). c ∷ map f (take (suc at) xs)) i ∙ ap (λ (cs : List C). g b ∷ cs) m

  pub more_items : (xs : List A) (ys : List B) (at : ℕ) (x : A) (y : B) → slice_get xs at ≡ Some x → slice_get ys at ≡ Some y → f x ≡ g y → map f (take at xs) ≡ map g (take at ys)
      → map f (take (at + 1) xs) ≡ map g (take (at + 1) ys)
  more_items xs ys at x y p q e h =
      let n : suc at ≡ at + 1 = omega arith in
      subst (λ (k : ℕ). map f (take k xs) ≡ map g (take k ys)) n (grown xs ys at x y p q e h)

module _ (text : List ℕ) where
  pub long : (ts : List Token) → length (texts text ts) ≡ length ts
  long [] = refl
  long (t ∷ ts) = let r = long ts in omega (arith, r)

  -- a word, a name and what follows
  pub begun : (ts : List Token) (op name : Token) (w : List ℕ) (ws : List (List ℕ)) → slice_get (take 2 ts) 0 ≡ Some op → slice_get (take 2 ts) 1 ≡ Some name → bytes_of text op ≡ w
      → texts text (drop 2 ts) ≡ ws → texts text ts ≡ w ∷ bytes_of text name ∷ ws
  begun [] op name w ws p q e h = let n : None ≡ Some op = p in absurd cc
  begun (a ∷ []) op name w ws p q e h = let n : None ≡ Some name = q in absurd cc
  begun (a ∷ b ∷ ts) op name w ws p q e h =
      let r : Some a ≡ Some op = p in
      let s : Some b ≡ Some name = q in
      let v : a ≡ op = cc in
      let u : b ≡ name = cc in
      ap (λ (x : Token). bytes_of text x ∷ bytes_of text b ∷ texts text ts) v
      ∙ (ap (λ (x : List ℕ). x ∷ bytes_of text b ∷ texts text ts) e
      ∙ (ap (λ (x : Token). w ∷ bytes_of text x ∷ texts text ts) u ∙ ap (λ (xs : List (List ℕ)). w ∷ bytes_of text name ∷ xs) h))

  -- a block's first token, and the texts behind its name
  pub first_is : (ts : List Token) (op : Token) (b : SmallBlock) → slice_get (take 2 ts) 0 ≡ Some op → IsBlock text b ts → bytes_of text op ≡ codes "op"
  first_is [] op b p h = let n : None ≡ Some op = p in absurd cc
  first_is (a ∷ ts) op b p h =
      let r : Some a ≡ Some op = p in
      let v : a ≡ op = cc in
      let k : bytes_of text a ∷ texts text ts ≡ codes "op" ∷ b.name ∷ commands = h.spelled in
      let i : bytes_of text a ≡ codes "op" = cc in
      ap (bytes_of text) (sym v) ∙ i

  pub rest_is : (ts : List Token) (b : SmallBlock) → IsBlock text b ts → texts text (drop 2 ts) ≡ commands
  rest_is [] b h = let k : [] ≡ codes "op" ∷ b.name ∷ commands = h.spelled in absurd cc
  rest_is (a ∷ []) b h = let k : bytes_of text a ∷ [] ≡ codes "op" ∷ b.name ∷ commands = h.spelled in absurd cc
  rest_is (a ∷ c ∷ ts) b h = let k : bytes_of text a ∷ bytes_of text c ∷ texts text ts ≡ codes "op" ∷ b.name ∷ commands = h.spelled in cc
