-- The text of a script of the small form, and its reading from the front.
use Rattle.std.proofs.Common.{◌≡◌, ℕ, ◌<◌, ◌≤◌, Bool, true, false, cond, List, [], ◌∷◌, ◌++◌, length, Option, Some, None, refl, sym, ap, subst, ◌∙◌, arith}
use Rattle.std.specs.Prelude.{option_map, codes, not, Result, Ok, Err, IsErrAnd, IsTrue, ◌↔◌}
use Rattle.std.proofs.lemmas.Slice.Eq.{bytes_eq-Decides}
use Rattle.std.specs.Str.{bytes_eq}
use Rattle.gv_base.specs.declared.answers.Place.{Place}
use Rattle.gv_base.specs.declared.answers.Refusal.{Refusal}
use Rattle.gv_base.specs.declared.answers.Refusal.TheVariants as refusal
use Rattle.gv_small.specs.Tokens.{Piece, Placed, Token, named, signed, arrowed, plain, cut, kinds, tokens_in, tokens_of}
use Rattle.gv_small.specs.Forms.{is_operation_name, Many}
use Rattle.gv_small.specs.Reading.{is_same, behind_all, behind_placed, word_at, word_placed, word_behind, Refuses, IsReadAs}
use Rattle.gv_small.proofs.Cuts.{cut_cuts, cut_only, false_true}
use Rattle.gv_small.proofs.Many.{Shrinks, IsFound, IsRead, all_of_found, all_of_read}
use Rattle.gv_small.proofs.FormLemmas.{then_case, map_case, same_is, is_same_self, first_is, second_is}
use Rattle.gv_top.specs.SmallScript.{Takes, IsBlock, block, IsSmallScript, declarations}
use Rattle.gv_top.specs.Reading as reading
use Rattle.gv_top.specs.declared.small_script.SmallBlock.{SmallBlock}
use Rattle.gv_top.specs.declared.small_script.SmallScript.{SmallScript}

-- ---- tokens with their places

forgotten_step : (ws : List Token) (ts : List Placed) (b : Bool) → behind_all ws (kinds ts) ≡ option_map kinds (behind_placed ws ts) →
    cond b (behind_all ws (kinds ts)) None ≡ option_map kinds (cond b (behind_placed ws ts) None)
forgotten_step ws ts true e = e
forgotten_step ws ts false e = refl

pub forgotten : (ws : List Token) (ts : List Placed) → behind_all ws (kinds ts) ≡ option_map kinds (behind_placed ws ts)
forgotten [] ts = refl
forgotten (w ∷ ws) [] = refl
forgotten (w ∷ ws) (t ∷ ts) = forgotten_step ws ts (is_same w t.token) (forgotten ws ts)

map_none : {A B : Type 0} (f : A → B) (o : Option A) → option_map f o ≡ None → o ≡ None
map_none f None e = refl
map_none f (Some x) e = absurd cc

pub placed_none : (ws : List Token) (ts : List Placed) → behind_all ws (kinds ts) ≡ None → behind_placed ws ts ≡ None
placed_none ws ts e = map_none kinds (behind_placed ws ts) (sym (forgotten ws ts) ∙ e)

word_forgotten : (p : List ℕ → Bool) (t : Token) (ts : List Placed) → word_at p (t ∷ kinds ts) ≡ None → word_behind p t ts ≡ None
word_forgotten p (named w) ts e = go (p w) refl e
  where
    go : (b : Bool) → p w ≡ b → cond {A = Option (List ℕ × List Token)} b (Some (w, kinds ts)) None ≡ None → cond {A = Option (List ℕ × List Placed)} (p w) (Some (w, ts)) None ≡ None
    go true q e = absurd cc
    go false q e = rw q refl
word_forgotten p arrowed ts e = refl
word_forgotten p (signed b) ts e = refl

pub word_none : (p : List ℕ → Bool) (ts : List Placed) → word_at p (kinds ts) ≡ None → word_placed p ts ≡ None
word_none p [] e = refl
word_none p (t ∷ ts) e = word_forgotten p t.token ts e

takes_step : (w : Token) (ws : List Token) (t : Placed) (ts r : List Placed) → (behind_placed ws ts ≡ Some r → Takes ws ts r) → (b : Bool) → is_same w t.token ≡ b → cond b (behind_placed ws ts) None ≡ Some r → Takes (w ∷ ws) (t ∷ ts) r
takes_step w ws t ts r ih true q e =
    let k = ih e in
    record { front = t ∷ k.front; whole = ap (λ (us : List Placed). t ∷ us) k.whole; kinds_are = ap (λ x. x ∷ kinds k.front) (sym (same_is w t.token q)) ∙ ap (λ (us : List Token). w ∷ us) k.kinds_are }
takes_step w ws t ts r ih false q e = absurd cc

pub takes_found : (ws : List Token) (ts r : List Placed) → behind_placed ws ts ≡ Some r → Takes ws ts r
takes_found [] ts r e = record { front = []; whole = cc; kinds_are = refl }
takes_found (w ∷ ws) [] r e = absurd cc
takes_found (w ∷ ws) (t ∷ ts) r e = takes_step w ws t ts r (takes_found ws ts r) (is_same w t.token) refl e

front_read : (front r : List Placed) → behind_placed (kinds front) (front ++ r) ≡ Some r
front_read [] r = refl
front_read (t ∷ front) r = rw (is_same_self t.token) (front_read front r)

pub takes_read : (ws : List Token) (ts r : List Placed) → Takes ws ts r → behind_placed ws ts ≡ Some r
takes_read ws ts r k = ap (λ (us : List Token). behind_placed us ts) (sym k.kinds_are) ∙ ap (λ (us : List Placed). behind_placed (kinds k.front) us) k.whole ∙ front_read k.front r

length_front : (front r : List Placed) → length r ≤ length (front ++ r)
length_front [] r = omega arith
length_front (t ∷ front) r = let k = length_front front r in omega (arith, k)

takes_length : (ws : List Token) (ts r : List Placed) → Takes ws ts r → length r ≤ length ts
takes_length ws ts r k = subst (λ (us : List Placed). length r ≤ length us) (sym k.whole) (length_front k.front r)

-- ---- words with their places

abbrev placed_word : List ℕ → Place → Placed
placed_word w place = record { token = named w; place = place }

word_placed_found : (p : List ℕ → Bool) (ts : List Placed) (w : List ℕ) (r : List Placed) → word_placed p ts ≡ Some (w, r) → (place : Place) × (ts ≡ placed_word w place ∷ r) × (p w ≡ true)
word_placed_found p [] w r e = absurd cc
word_placed_found p (t ∷ ts) w r e = by_token t.token refl e
  where
    by_token : (k : Token) → t.token ≡ k → word_behind p k ts ≡ Some (w, r) → (place : Place) × (t ∷ ts ≡ placed_word w place ∷ r) × (p w ≡ true)
    by_token (named v) q e = go (p v) refl e
      where
        go : (b : Bool) → p v ≡ b → cond {A = Option (List ℕ × List Placed)} b (Some (v, ts)) None ≡ Some (w, r) → (place : Place) × (t ∷ ts ≡ placed_word w place ∷ r) × (p w ≡ true)
        go true f e =
            let P : List ℕ × List Placed = (v, ts) in
            let Q : List ℕ × List Placed = (w, r) in
            let v_is : v ≡ w = first_is P Q e in
            let r_is : ts ≡ r = second_is P Q e in
            let t_is : t ≡ placed_word w t.place = (λ i. record { token = (q ∙ ap named v_is) i; place = t.place }) in
            (t.place, ap (λ x. x ∷ ts) t_is ∙ ap (λ (us : List Placed). placed_word w t.place ∷ us) r_is, ap p (sym v_is) ∙ f)
        go false f e = absurd cc
    by_token arrowed q e = absurd cc
    by_token (signed b) q e = absurd cc

place_found : (w : List ℕ) (ts : List Placed) (place : Place) (r : List Placed) → reading.place_at w ts ≡ Some (place, r) → ts ≡ placed_word w place ∷ r
place_found w [] place r e = absurd cc
place_found w (t ∷ ts) place r e = by_token t.token refl e
  where
    by_token : (k : Token) → t.token ≡ k → reading.place_behind w k t.place ts ≡ Some (place, r) → t ∷ ts ≡ placed_word w place ∷ r
    by_token (named v) q e = go (bytes_eq v w) refl e
      where
        go : (b : Bool) → bytes_eq v w ≡ b → cond {A = Option (Place × List Placed)} b (Some (t.place, ts)) None ≡ Some (place, r) → t ∷ ts ≡ placed_word w place ∷ r
        go true f e =
            let P : Place × List Placed = (t.place, ts) in
            let Q : Place × List Placed = (place, r) in
            let p_is : t.place ≡ place = first_is P Q e in
            let r_is : ts ≡ r = second_is P Q e in
            let v_is : v ≡ w = (bytes_eq-Decides v w).0 f in
            let t_is : t ≡ placed_word w place = (λ i. record { token = (q ∙ ap named v_is) i; place = p_is i }) in
            ap (λ x. x ∷ ts) t_is ∙ ap (λ (us : List Placed). placed_word w place ∷ us) r_is
        go false f e = absurd cc
    by_token arrowed q e = absurd cc
    by_token (signed b) q e = absurd cc

-- ---- blocks

pub block_found : IsFound reading.is_nothing reading.block IsBlock
block_found ts b r e =
    then_case _ (behind_placed (plain (codes "op")) ts) (b, r) e (λ a a_is e1.
    then_case _ (word_placed is_operation_name a) (b, r) e1 (λ n n_is e2.
    then_case _ (behind_placed (plain (codes "{ open; sim me; close;")) n.1) (b, r) e2 (λ c c_is e3.
    then_case _ (reading.place_at (codes "step") c) (b, r) e3 (λ d d_is e4.
    map_case _ (behind_placed (plain (codes "; }")) d.1) (b, r) e4 (λ k k_is pair.
    made ts a n c d k b r (takes_found (plain (codes "op")) ts a a_is) (word_placed_found is_operation_name a n.0 n.1 n_is) (takes_found (plain (codes "{ open; sim me; close;")) n.1 c c_is) (place_found (codes "step") c d.0 d.1 d_is) (takes_found (plain (codes "; }")) d.1 k k_is)
    (ap (λ z. z.0) pair) (ap (λ z. z.1) pair))))))
  where
    made : (ts a : List Placed) (n : List ℕ × List Placed) (c : List Placed) (d : Place × List Placed) (k : List Placed) (b : SmallBlock) (r : List Placed) →
        Takes (plain (codes "op")) ts a → (place : Place) × (a ≡ placed_word n.0 place ∷ n.1) × (is_operation_name n.0 ≡ true) → Takes (plain (codes "{ open; sim me; close;")) n.1 c →
        c ≡ placed_word (codes "step") d.0 ∷ d.1 → Takes (plain (codes "; }")) d.1 k → record { name = n.0; step = d.0 } ≡ b → k ≡ r → IsBlock b ts r
    made ts a n c d k b r p1 p2 p3 p4 p5 b_is r_is =
        let q1 = subst (λ (us : List Placed). Takes (plain (codes "op")) ts us) p2.1 p1 in
        let q3 = subst (λ (us : List Placed). Takes (plain (codes "{ open; sim me; close;")) n.1 us) p4 p3 in
        let m : IsBlock (record { name = n.0; step = d.0 }) ts k = block n.0 p2.0 d.0 n.1 d.1 q1 p2.2 q3 p5 in
        subst (λ x. IsBlock x ts r) b_is (subst (λ (us : List Placed). IsBlock (record { name = n.0; step = d.0 }) ts us) r_is m)

op_tokens : plain (codes "op") ≡ named (codes "op") ∷ []
unfolding cut
op_tokens = refl

op_something : (ts r : List Placed) → Takes (named (codes "op") ∷ []) ts r → reading.is_nothing ts ≡ false
op_something ts r k = go k.front k.whole k.kinds_are
  where
    go : (front : List Placed) → ts ≡ front ++ r → kinds front ≡ named (codes "op") ∷ [] → reading.is_nothing ts ≡ false
    go [] w e = absurd cc
    go (t ∷ front) w e = rw w refl

pub block_read : IsRead reading.is_nothing reading.block IsBlock
block_read b ts r (block name place step t1 t2 p1 o p2 p3) =
    let c1 = takes_read (plain (codes "op")) ts (placed_word name place ∷ t1) p1 in
    let c2 = takes_read (plain (codes "{ open; sim me; close;")) t1 (placed_word (codes "step") step ∷ t2) p2 in
    let c3 = takes_read (plain (codes "; }")) t2 r p3 in
    (rw (c1, o, c2, c3) refl, op_something ts (placed_word name place ∷ t1) (subst (λ (us : List Token). Takes us ts (placed_word name place ∷ t1)) op_tokens p1))

block_length : (b : SmallBlock) (ts r : List Placed) → IsBlock b ts r → length r < length ts
block_length b ts r (block name place step t1 t2 p1 o p2 p3) =
    let l1 = takes_length (plain (codes "op")) ts (placed_word name place ∷ t1) p1 in
    let l2 = takes_length (plain (codes "{ open; sim me; close;")) t1 (placed_word (codes "step") step ∷ t2) p2 in
    let l3 = takes_length (plain (codes "; }")) t2 r p3 in
    omega (arith, l1, l2, l3)

pub block_shrinks : Shrinks reading.block
block_shrinks ts b r e = block_length b ts r (block_found ts b r e)

-- ---- the text

pub script_found : (text : List ℕ) (left : List Placed) (ops : List SmallBlock) → left ≡ tokens_of false text → reading.script_ops left ≡ Some ops → IsSmallScript text (record { ops = ops })
script_found text left ops l e =
    then_case _ (behind_placed (plain declarations) left) ops e (λ a a_is e1.
    map_case _ (reading.blocks a) ops e1 (λ m m_is ops_is.
    let f = all_of_found reading.is_nothing reading.block IsBlock block_found a m.0 m.1 m_is in
    let f' = subst (λ (us : List Placed). Many IsBlock m.0 a us) (nothing m.1 f.1) f.0 in
    let d = subst (λ (us : List Placed). Takes (plain declarations) us a) l (takes_found (plain declarations) left a a_is) in
    record { pieces = cut text; cut = cut_cuts text; blocks = a; declared = d; ops = subst (λ (xs : List SmallBlock). Many IsBlock xs a []) ops_is f' }))
  where
    nothing : (us : List Placed) → reading.is_nothing us ≡ true → us ≡ []
    nothing [] e = refl
    nothing (t ∷ us) e = absurd cc

pub script_read : (text : List ℕ) (left : List Placed) (script : SmallScript) → left ≡ tokens_of false text → IsSmallScript text script → reading.script_ops left ≡ Some script.ops
script_read text left script l s =
    let same : left ≡ tokens_in false s.pieces = l ∙ ap (λ (ps : List Piece). tokens_in false ps) (cut_only text s.pieces s.cut) in
    let d = takes_read (plain declarations) (tokens_in false s.pieces) s.blocks s.declared in
    ap reading.script_ops same ∙ rw (d, all_of_read reading.is_nothing reading.block IsBlock block_shrinks block_read script.ops s.blocks [] s.ops refl) refl

pub script_only : (text : List ℕ) (left : List Placed) (ops : List SmallBlock) (script : SmallScript) → left ≡ tokens_of false text → reading.script_ops left ≡ Some ops → IsSmallScript text script →
    record { ops = ops } ≡ script
script_only text left ops script l e s =
    let both : Some ops ≡ Some script.ops = sym e ∙ script_read text left script l s in
    let same : ops ≡ script.ops = cc in
    ap (λ (xs : List SmallBlock). let x : SmallScript = record { ops = xs } in x) same

refused_not_read : (o : Option (List SmallBlock)) (script : SmallScript) (e : Refusal) → Refuses o e → o ≡ Some script.ops → IsReadAs script (Err e)
refused_not_read o script refusal.NoMemory r f = tt
refused_not_read o script (refusal.At place code) r f = let clash : None ≡ Some script.ops = sym r.0 ∙ f in absurd cc

pub err_not_read : (o : Option (List SmallBlock)) (script : SmallScript) (r : Result SmallScript Refusal) (e : Refusal) → IsErrAnd r (λ x. x ≡ e) → Refuses o e → o ≡ Some script.ops → IsReadAs script r
err_not_read o script (Ok x) e h r f = absurd h
err_not_read o script (Err x) e h r f = refused_not_read o script x (subst (λ y. Refuses o y) (sym h) r) f

-- where the end isn't reached, something is left
pub something : (ts : List Placed) (b : Bool) → IsTrue b ↔ (kinds ts ≡ []) → b ≡ false → not (reading.is_nothing ts) ≡ true
something [] true h e = absurd cc
something [] false h e = let k : IsTrue false = h.1 refl in absurd (false_true k)
something (t ∷ ts) b h e = refl

pub nothing_left : (ts : List Placed) → kinds ts ≡ [] → ts ≡ []
nothing_left [] e = refl
nothing_left (t ∷ ts) e = absurd cc
