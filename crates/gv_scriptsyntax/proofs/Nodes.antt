-- Lists of nodes that grow, and where the nodes of their parts begin.
use Rattle.std.proofs.Common.{◌≡◌, ℕ, zero, suc, ◌+◌, ◌-◌, ◌<◌, ◌≤◌, ◌⊎◌, inl, inr, List, [], ◌∷◌, ◌++◌, length, Option, Some, None, refl, sym, ap, subst, ◌∙◌, arith}
use Rattle.std.specs.Prelude.{take, drop, slice_get, IsSome}
use Rattle.std.specs.Option.{option_and_then}
use Rattle.std.proofs.lemmas.List.{take-append-le}
use Rattle.std.proofs.lemmas.Bool.{false≢true}
use Rattle.std.proofs.lemmas.Option.{slice_get_within}
use Rattle.gv_grammar.specs.declared.steps.Step.{Step}
use Rattle.gv_termread.specs.declared.generated.term_acts.Part.TheVariants.{Token as PToken}
use Rattle.gv_termread.specs.declared.token.SeenToken.{SeenToken}
use Rattle.gv_scriptsyntax.specs.declared.node.Node.{Node}
use Rattle.gv_scriptsyntax.specs.declared.node.Node.TheVariants.{Token, Made}
use Rattle.gv_scriptsyntax.specs.ScriptActs.{script_built}
use Rattle.gv_scriptsyntax.proofs.Leaving.{act_leaves}
use Rattle.gv_scriptsyntax.specs.Nodes.{Parts, placed, built_on, built, done_by, arity, first_of, MakeOne, IsFormed, HasParts, Allows, left_by}

module _ (text : List ℕ) where
  -- ---- one node more

  built_on_end : (nodes : List Node) (node : Node) (parts : Parts) → built_on text (nodes ++ node ∷ []) parts ≡ option_and_then (λ made. placed text node made) (built_on text nodes parts)
  built_on_end [] node parts = go (placed text node parts)
    where
      go : (made : Option (Parts)) → option_and_then (λ (m : Parts). Some m) made ≡ made
      go None = refl
      go (Some made) = refl
  built_on_end (first ∷ nodes) node parts = go (λ made. built_on_end nodes node made) (placed text first parts)
    where
      go : ((made : Parts) → built_on text (nodes ++ node ∷ []) made ≡ option_and_then (λ (m : Parts). placed text node m) (built_on text nodes made)) → (made : Option (Parts)) → option_and_then (λ (m : Parts). built_on text (nodes ++ node ∷ []) m) made ≡ option_and_then (λ (m : Parts). placed text node m) (option_and_then (λ (m : Parts). built_on text nodes m) made)
      go rest None = refl
      go rest (Some made) = rest made

  pub built_end : (nodes : List Node) (node : Node) → built text (nodes ++ node ∷ []) ≡ option_and_then (λ made. placed text node made) (built text nodes)
  built_end nodes node = built_on_end nodes node []

  take_end : {X : Type 0} (xs : List X) (x : X) → take (length xs + 1) (xs ++ x ∷ []) ≡ xs ++ x ∷ []
  take_end [] x = refl
  take_end {X} (y ∷ xs) x =
      let z : suc (length xs) + 1 ≡ suc (length xs + 1) = omega arith in
      ap (λ (n : ℕ). take n (y ∷ (xs ++ x ∷ []))) z ∙ ap (λ (ys : List X). y ∷ ys) (take_end xs x)

  take_before : {X : Type 0} (xs : List X) (x : X) → take (length xs) (xs ++ x ∷ []) ≡ xs
  take_before [] x = refl
  take_before {X} (y ∷ xs) x = ap (λ (ys : List X). y ∷ ys) (take_before xs x)

  get_end : {X : Type 0} (xs : List X) (x y : X) (at : ℕ) → slice_get (xs ++ x ∷ []) at ≡ Some y → (slice_get xs at ≡ Some y) ⊎ ((at ≡ length xs) × (x ≡ y))
  get_end [] x y zero e = inr (refl, cc)
  get_end [] x y (suc at) e = absurd cc
  get_end (z ∷ xs) x y zero e = inl e
  get_end (z ∷ xs) x y (suc at) e = elim (get_end xs x y at e) [ inl f ↦ inl f | inr f ↦ inr (ap suc f.0, f.1) ]

  one_more : (nodes : List Node) (node : Node) (from end : ℕ) → end ≤ length nodes → MakeOne text nodes from end → MakeOne text (nodes ++ node ∷ []) from end
  one_more nodes node from end l m =
      let s = m.some in
      let k : from ≤ length nodes = omega (arith, l, s) in
      record {
        some = s;
        part = m.part;
        before = m.before;
        made = ap (built text) (take-append-le end nodes (node ∷ []) l) ∙ m.made;
        kept = ap (built text) (take-append-le from nodes (node ∷ []) k) ∙ m.kept;
      }

  -- nodes that are formed stay so where a node that makes one part comes behind them
  pub formed_end : (nodes : List Node) (node : Node) → IsFormed text nodes → MakeOne text (nodes ++ node ∷ []) (first_of (length nodes) node) (length nodes + 1) → IsFormed text (nodes ++ node ∷ [])
  formed_end nodes node f m at other e = go (get_end nodes node other at e)
    where
      go : (slice_get nodes at ≡ Some other) ⊎ ((at ≡ length nodes) × (node ≡ other)) → MakeOne text (nodes ++ node ∷ []) (first_of at other) (at + 1)
      go (inl g) = let l = slice_get_within nodes at other g in one_more nodes node (first_of at other) (at + 1) (omega (arith, l)) (f at other g)
      go (inr (p, q)) =
          subst (λ (x : Node). MakeOne text (nodes ++ node ∷ []) (first_of at x) (at + 1)) q
          (subst (λ (i : ℕ). MakeOne text (nodes ++ node ∷ []) (first_of i node) (i + 1)) (sym p) m)

  -- a token, and what an act makes, behind the nodes
  pub token_one : (nodes : List Node) (token : SeenToken) → IsSome (built text nodes) → MakeOne text (nodes ++ Token token ∷ []) (length nodes) (length nodes + 1)
  token_one nodes token s = go (built text nodes) refl s
    where
      go : (made : Option (Parts)) → built text nodes ≡ made → IsSome made → MakeOne text (nodes ++ Token token ∷ []) (length nodes) (length nodes + 1)
      go None e s = absurd (false≢true s)
      go (Some parts) e s = record {
        some = omega arith;
        part = PToken token;
        before = parts;
        made = ap (built text) (take_end nodes (Token token)) ∙ (built_end nodes (Token token) ∙ ap (λ (m : Option (Parts)). option_and_then (λ made. placed text (Token token) made) m) e);
        kept = ap (built text) (take_before nodes (Token token)) ∙ e;
      }

  pub act_one : (nodes : List Node) (act from : ℕ) (parts made : Parts) → built text nodes ≡ Some parts → done_by text act parts ≡ Some made → from ≤ length nodes
      → built text (take from nodes) ≡ Some (drop (arity act) parts) → MakeOne text (nodes ++ Made act from ∷ []) from (length nodes + 1)
  act_one nodes act from parts made e d l k =
      let left = act_leaves text act parts made d in
      record {
        some = omega (arith, l);
        part = left.part;
        before = drop (arity act) parts;
        made = ap (built text) (take_end nodes (Made act from)) ∙ (built_end nodes (Made act from) ∙ (ap (λ (m : Option (Parts)). option_and_then (λ made. placed text (Made act from) made) m) e ∙ (d ∙ ap Some left.same)));
        kept = ap (built text) (take-append-le from nodes (Made act from ∷ []) l) ∙ k;
      }

  -- ---- back over parts

  -- one part less
  pub step_back : (nodes : List Node) (start : ℕ) (node : Node) (parts : Parts) → IsFormed text nodes → 0 < start → slice_get nodes (start - 1) ≡ Some node → built text (take start nodes) ≡ Some parts
      → built text (take (first_of (start - 1) node) nodes) ≡ Some (drop 1 parts)
  step_back nodes start node parts f l g e =
      let m = f (start - 1) node g in
      let q : (start - 1) + 1 ≡ start = omega (arith, l) in
      let h : built text (take start nodes) ≡ Some (m.part ∷ m.before) = subst (λ (i : ℕ). built text (take i nodes) ≡ Some (m.part ∷ m.before)) q m.made in
      let s : Some parts ≡ Some (m.part ∷ m.before) = sym e ∙ h in
      let r : parts ≡ m.part ∷ m.before = cc in
      m.kept ∙ ap (λ (ps : Parts). Some (drop 1 ps)) (sym r)

  pub some_before : (nodes : List Node) (start : ℕ) (parts : Parts) → built text (take start nodes) ≡ Some parts → 0 < length parts → 0 < start
  some_before nodes zero parts e l = let q : parts ≡ [] = cc in absurd (subst (λ (ps : Parts). 0 < length ps → ⊥) (sym q) (λ h. omega (arith, h)) l)
  some_before nodes (suc start) parts e l = omega arith

  pub drop_more : {X : Type 0} (n : ℕ) (xs : List X) → drop 1 (drop n xs) ≡ drop (n + 1) xs
  drop_more zero xs = refl
  drop_more {X} (suc n) [] = let z : suc n + 1 ≡ suc (n + 1) = omega arith in sym (ap (λ (m : ℕ). drop {A = X} m []) z)
  drop_more {X} (suc n) (x ∷ xs) = let z : suc n + 1 ≡ suc (n + 1) = omega arith in drop_more n xs ∙ sym (ap (λ (m : ℕ). drop m (x ∷ xs)) z)

  pub length_drop : {X : Type 0} (n count : ℕ) (xs : List X) → n < count → count ≤ length xs → 0 < length (drop n xs)
  length_drop zero count xs l k = omega (arith, l, k)
  length_drop (suc n) zero xs l k = absurd (omega (arith, l))
  length_drop (suc n) (suc count) [] l k = absurd (omega (arith, k))
  length_drop (suc n) (suc count) (x ∷ xs) l k = length_drop n count xs (omega (arith, l)) (omega (arith, k))

  pub within_end : {X : Type 0} (xs : List X) (at : ℕ) → at < length xs → (x : X) × (slice_get xs at ≡ Some x)
  within_end [] at l = absurd (omega (arith, l))
  within_end (x ∷ xs) zero l = (x, refl)
  within_end (x ∷ xs) (suc at) l = within_end xs at (omega (arith, l))

  -- where a part is left to be passed, there are nodes
  pub parts_left : (nodes : List Node) (start end count passed : ℕ) → HasParts text nodes end count → ((parts : Parts) → built text (take end nodes) ≡ Some parts → built text (take start nodes) ≡ Some (drop passed parts)) → passed < count
      → 0 < start
  parts_left nodes start end count passed has kept l =
      some_before nodes start (drop passed has.parts) (kept has.parts has.made) (length_drop passed count has.parts l has.enough)

  -- ---- what is read off a node more

  pub take_whole : {X : Type 0} (xs : List X) → take (length xs) xs ≡ xs
  take_whole [] = refl
  take_whole {X} (x ∷ xs) = ap (λ (ys : List X). x ∷ ys) (take_whole xs)

  -- what an act makes where the nodes allow it
  pub record Done (nodes : List Node) (act : ℕ) : Type 0 where
    pub parts : Parts
    pub before : built text nodes ≡ Some parts
    pub made : Parts
    pub done : done_by text act parts ≡ Some made

  pub done_of : (nodes : List Node) (act : ℕ) → Allows text nodes act → Done nodes act
  done_of nodes act h = go (done_by text act h.parts) refl h.accepted
    where
      go : (made : Option (Parts)) → done_by text act h.parts ≡ made → IsSome made → Done nodes act
      go None e s = absurd (false≢true s)
      go (Some made) e s = record { parts = h.parts; before = h.made; made = made; done = e }

  pub has_parts : (nodes : List Node) (act : ℕ) → Allows text nodes act → HasParts text nodes (length nodes) (arity act)
  has_parts nodes act h =
      let d = done_of nodes act h in
      record { parts = d.parts; made = ap (built text) (take_whole nodes) ∙ d.before; enough = (act_leaves text act d.parts d.made d.done).enough }

  pub formed_token : (nodes : List Node) (token : SeenToken) → IsFormed text nodes → IsSome (built text nodes) → IsFormed text (nodes ++ Token token ∷ [])
  formed_token nodes token f s = formed_end nodes (Token token) f (token_one nodes token s)

  pub formed_act : (nodes : List Node) (act from : ℕ) → IsFormed text nodes → Allows text nodes act → from ≤ length nodes
      → ((parts : Parts) → built text nodes ≡ Some parts → built text (take from nodes) ≡ Some (drop (arity act) parts)) → IsFormed text (nodes ++ Made act from ∷ [])
  formed_act nodes act from f h l kept =
      let d = done_of nodes act h in
      formed_end nodes (Made act from) f (act_one nodes act from d.parts d.made d.before d.done l (kept d.parts d.before))

  -- ---- the engine's words

  pub left_same : (steps : List Step) (tokens : List SeenToken) → left_by text steps tokens ≡ script_built text steps tokens
  unfolding done_by
  left_same steps tokens = refl

  -- ---- the parts of a node

  pub fewer_parts : (nodes : List Node) (end count : ℕ) → HasParts text nodes end (count + 1) → HasParts text nodes end count
  fewer_parts nodes end count has = let l = has.enough in record { parts = has.parts; made = has.made; enough = omega (arith, l) }

  pub part_there : (nodes : List Node) (start end count : ℕ) → HasParts text nodes end (count + 1)
      → ((parts : Parts) → built text (take end nodes) ≡ Some parts → built text (take start nodes) ≡ Some (drop count parts)) → 0 < start
  part_there nodes start end count has kept = parts_left nodes start end (count + 1) count has kept (omega arith)
