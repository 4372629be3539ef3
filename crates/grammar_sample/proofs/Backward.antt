-- What is derived is spelled by the published grammar.
use Rattle.std.proofs.Common.{◌≡◌, ℕ, ◌+◌, true, false, ◌||◌, eqb, List, [], ◌∷◌, ◌++◌, Option, Some, None, ◌⊎◌, inl, inr, ⊎_elim, refl, sym, ap, subst, ◌∙◌, append_assoc}
use Rattle.std.specs.Prelude.{map}
use Rattle.std.proofs.lemmas.List.{append-nil, map-append}
use Rattle.gv_grammar.specs.declared.steps.Step.{Step}
use Rattle.gv_grammar.specs.declared.symbols.Symbol.TheVariants.{Name as N}
use Rattle.gv_grammar.specs.Derivation.{Spells as Derived, symbols_of}
use Rattle.gv_grammar.specs.Text.{Placed, plain, opens, tokens_of, Spells}
use Rattle.gv_grammar.proofs.Meaning.{Meant, none, taken, acted, means, RulesMean, all_mean, Made, mk, at, Phrase, Tail, meaning_at, one_class, more_classes}
use Rattle.grammar_sample.specs.declared.generated.sample_table.TheConstants.{CLASS_IDENT, CLASS_NUMBER, CLASS_FUNC, CLASS_L_PAREN, CLASS_R_PAREN, CLASS_COMMA, CLASS_SEMI, CLASS_ASSIGN, CLASS_DEFINE, CLASS_BANG, CLASS_PLUS, CLASS_MINUS, CLASS_STAR, CLASS_L_BRACE, CLASS_R_BRACE, CLASS_DOT, CLASS_IF, CLASS_ELSE, NAME_BLOCK, NAME_STMTS, NAME_AFTER, NAME_STMT, NAME_BRANCH, NAME_BRANCH_REST, NAME_OTHERWISE, NAME_OTHER, NAME_SIMPLE, NAME_DOTS, NAME_SPOT, NAME_RIGHT, NAME_RIGHT_DOTS, NAME_RIGHT_SPOT, NAME_SUM, NAME_SUM_TAIL, NAME_PRODUCT, NAME_PRODUCT_TAIL, NAME_UNARY, NAME_PRIM, NAME_CLOSED, NAME_SELECTS, NAME_ARGS, NAME_MORE_ARGS, RULE_BLOCK_BRACES, RULE_STMTS_SOME, RULE_STMTS_NONE, RULE_AFTER_MORE, RULE_AFTER_END, RULE_STMT_SIMPLE, RULE_STMT_BLOCK, RULE_STMT_BRANCH, RULE_BRANCH_CONDITION, RULE_BRANCH_REST_BODY, RULE_OTHERWISE_OTHER, RULE_OTHERWISE_NONE, RULE_OTHER_BLOCK, RULE_OTHER_BRANCH, RULE_SIMPLE_NAME, RULE_SIMPLE_CLOSED, RULE_DOTS_MEMBER, RULE_SPOT_MEMBER, RULE_SPOT_CALL, RULE_SPOT_ASSIGN, RULE_RIGHT_NOT, RULE_RIGHT_CLOSED, RULE_RIGHT_NAME, RULE_RIGHT_DOTS_MEMBER, RULE_RIGHT_DOTS_VALUE, RULE_RIGHT_SPOT_MEMBER, RULE_RIGHT_SPOT_CALL, RULE_RIGHT_SPOT_VALUE, RULE_SUM_PRODUCT, RULE_SUM_TAIL_MORE, RULE_SUM_TAIL_END, RULE_PRODUCT_UNARY, RULE_PRODUCT_TAIL_MORE, RULE_PRODUCT_TAIL_END, RULE_UNARY_NOT, RULE_UNARY_PRIM, RULE_PRIM_CLOSED, RULE_PRIM_NAME, RULE_CLOSED_NUMBER, RULE_CLOSED_APPLY, RULE_CLOSED_PAREN, RULE_SELECTS_MORE, RULE_SELECTS_END, RULE_ARGS_SOME, RULE_ARGS_NONE, RULE_MORE_ARGS_MORE, RULE_MORE_ARGS_END}
use Rattle.grammar_sample.specs.declared.tree.Token.{Token}
use Rattle.grammar_sample.specs.declared.tree.Expr.{Expr}
use Rattle.grammar_sample.specs.declared.tree.Expr.TheVariants.{Name, Select, Not, Binary}
use Rattle.grammar_sample.specs.declared.tree.Left.{Left}
use Rattle.grammar_sample.specs.declared.tree.Stmt.{Stmt}
use Rattle.grammar_sample.specs.declared.tree.Stmt.TheVariants.{Block, If}
use Rattle.grammar_sample.specs.Tree.{named_as, left_as}
use Rattle.grammar_sample.specs.SampleTable.{sample_tables}
use Rattle.grammar_sample.specs.Language.{Is, IsPrim, number, name, apply, paren, select, IsUnary, not, prim, IsProduct, unary, times, IsSum, product, plus, IsArgs, no_args, some_args, IsList, one, more, IsReceiver, no_receiver, receiver, IsCall, call, IsLeft, variable, field, IsRight, value, result, IsStmt, assign, called, block, branch, IsBranch, only, otherwise, chain, IsBlock, braces, IsExpression, expression, IsStmts, no_stmts, unclosed, closed, IsItems, first, next}

-- a name, maybe of something
data IsHead : ℕ → Option Expr → ℕ → ℕ → List (Placed Token) → Type 0 where
  head : {n m : ℕ} (x : Token) {of : Option Expr} {ts : List (Placed Token)} → IsReceiver n of m ts → Is CLASS_IDENT x → IsHead n of x.value m (ts ++ plain x ∷ [])

-- statements, the last one with its `;`
data IsFront : ℕ → List Stmt → List (Placed Token) → Type 0 where
  no_front : {n : ℕ} → IsFront n [] []
  after : {n : ℕ} (t : Token) {ss : List Stmt} {ts : List (Placed Token)} → IsItems n ss ts → Is CLASS_SEMI t → IsFront n ss (ts ++ plain t ∷ [])

front_next : {n : ℕ} {s : Stmt} {ss : List Stmt} {xs us : List (Placed Token)} → IsFront n ss xs → IsStmt n s us → IsItems n (ss ++ s ∷ []) (xs ++ us)
front_next no_front d = first d
front_next {n = n} {s = s} {ss = ss} {us = us} (after t {ts = ts} h i) d = subst (λ (ps : List (Placed Token)). IsItems n (ss ++ s ∷ []) ps) (sym (append_assoc ts (plain t ∷ []) us)) (next t h i d)

front_stmts : {n : ℕ} {ss : List Stmt} {xs : List (Placed Token)} → IsFront n ss xs → IsStmts n ss xs
front_stmts no_front = no_stmts
front_stmts (after t h i) = closed t h i

-- an `if` as far as its block
data IsHalf : ℕ → Expr × List Stmt → List (Placed Token) → Type 0 where
  half : {n m : ℕ} (i : Token) {e : Expr} {ss : List Stmt} {ts us : List (Placed Token)} → Is CLASS_IF i → IsSum n e m ts → IsBlock n ss us → IsHalf n (e, ss) (plain i ∷ ts ++ us)

half_only : {n : ℕ} {x : Expr × List Stmt} {ps : List (Placed Token)} → IsHalf n x ps → IsBranch n (If x.0 x.1 None) ps
half_only (half i c d b) = only i c d b

half_otherwise : {n : ℕ} {x : Expr × List Stmt} {rs : List Stmt} {ps vs : List (Placed Token)} (l : Token) → IsHalf n x ps → Is CLASS_ELSE l → IsBlock n rs vs → IsBranch n (If x.0 x.1 (Some (Block rs))) (ps ++ plain l ∷ vs)
half_otherwise l (half i c d b) h e = otherwise i l c d b h e

half_chain : {n : ℕ} {x : Expr × List Stmt} {s : Stmt} {ps vs : List (Placed Token)} (l : Token) → IsHalf n x ps → Is CLASS_ELSE l → IsBranch (n + 1) s vs → IsBranch n (If x.0 x.1 (Some s)) (ps ++ opens n l ∷ vs)
half_chain l (half i c d b) h e = chain i l c d b h e

-- relations with a level behind, as those with none
abbrev Prim : ℕ → Expr × ℕ → List (Placed Token) → Type 0
Prim n x ps = IsPrim n x.0 x.1 ps

abbrev Unary : ℕ → Expr × ℕ → List (Placed Token) → Type 0
Unary n x ps = IsUnary n x.0 x.1 ps

abbrev Product : ℕ → Expr × ℕ → List (Placed Token) → Type 0
Product n x ps = IsProduct n x.0 x.1 ps

abbrev Sum : ℕ → Expr × ℕ → List (Placed Token) → Type 0
Sum n x ps = IsSum n x.0 x.1 ps

abbrev Head : ℕ → (Option Expr × ℕ) × ℕ → List (Placed Token) → Type 0
Head n x ps = IsHead n x.0.0 x.0.1 x.1 ps

-- what stands behind an `if`, and behind the `else` of half of one
abbrev BehindIf : List Token → Type 0
BehindIf us = (n : ℕ) (i : Token) → Is CLASS_IF i → Made (IsBranch n) (i ∷ us)

abbrev BehindElse : List Token → Type 0
BehindElse us = (n : ℕ) (x : Expr × List Stmt) (ps : List (Placed Token)) (l : Token) → IsHalf n x ps → Is CLASS_ELSE l → Made (IsBranch n) (tokens_of ps ++ (l ∷ us))

-- what each name means
abbrev meanings : List (List Token → Type 0)
meanings =
    Phrase IsBlock
    ∷ Tail IsFront IsStmts
    ∷ Tail IsItems IsStmts
    ∷ Phrase IsStmt
    ∷ Phrase IsBranch
    ∷ BehindIf
    ∷ Tail IsHalf IsBranch
    ∷ BehindElse
    ∷ Phrase IsStmt
    ∷ Tail Prim IsStmt
    ∷ Tail Head IsStmt
    ∷ Phrase IsRight
    ∷ Tail Prim IsRight
    ∷ Tail Head IsRight
    ∷ Phrase Sum
    ∷ Tail Sum Sum
    ∷ Phrase Product
    ∷ Tail Product Product
    ∷ Phrase Unary
    ∷ Phrase Prim
    ∷ Phrase Prim
    ∷ Tail Prim Prim
    ∷ Phrase IsArgs
    ∷ Tail IsList IsList
    ∷ []

abbrev M : ℕ → List Token → Type 0
M of us = meaning_at meanings of us

-- a rule keeps the meaning of its name
abbrev Keeps : ℕ → ℕ → Type 0
Keeps rule of = (us : List Token) → Meant sample_tables Token (λ token. token.class) M (symbols_of sample_tables rule) us → M of us

is_two : (m n : ℕ) (t : Token) → (eqb m t.class || (eqb n t.class || false)) ≡ true → Is m t ⊎ Is n t
is_two m n t h = ⊎_elim (λ (i : Is m t). inl i) (λ (i : (eqb n t.class || false) ≡ true). inr (one_class n t.class i)) (more_classes m t.class (eqb n t.class || false) h)

head_prim : {n m x : ℕ} {of : Option Expr} {xs : List (Placed Token)} → IsHead n of x m xs → Prim n (named_as of x, m) xs
head_prim (head x no_receiver i) = name x i
head_prim {n = n} (head x (receiver {m = m} d {e = e} {ts = ts} p j) i) = subst (λ us. IsPrim n (Select e x.value) (m + 1) us) (sym (append_assoc ts (opens m d ∷ []) (plain x ∷ []))) (select d x p j i)

head_left : {n m x : ℕ} {of : Option Expr} {xs : List (Placed Token)} → IsHead n of x m xs → IsLeft n (left_as of x) xs
head_left (head x no_receiver i) = variable x i
head_left {n = n} (head x (receiver {m = m} d {e = e} {ts = ts} p j) i) = subst (λ us. IsLeft n (Left.Field e x.value) us) (sym (append_assoc ts (opens m d ∷ []) (plain x ∷ []))) (field d x p j i)

head_call : {n m x : ℕ} {of : Option Expr} {xs us : List (Placed Token)} (o c : Token) {es : List Expr} → IsHead n of x m xs → Is CLASS_L_PAREN o → IsArgs (m + 1) es us → Is CLASS_R_PAREN c
    → IsCall n (record { receiver = of; name = x; arguments = es }) (xs ++ (opens m o ∷ (us ++ plain c ∷ [])))
head_call {n = n} {m = m} {us = us} o c {es = es} (head x {of = of} {ts = ts} h i) j d k = subst (λ ps. IsCall n (record { receiver = of; name = x.value; arguments = es }) ps) (simp append_assoc) (call x o c h i j d k)

block_braces : Keeps RULE_BLOCK_BRACES NAME_BLOCK
block_braces _ (acted (acted (taken o i (acted (means d (taken c j (acted (acted none)))))))) n =
    let s = d (n + 1) [] [] no_front in
    let e = s.same in
    mk (IsBlock n) _ _ (braces o c (one_class CLASS_L_BRACE o.class i) s.spelled (one_class CLASS_R_BRACE c.class j)) (simp (map-append, e))

stmts_some : Keeps RULE_STMTS_SOME NAME_STMTS
stmts_some _ (means {ts = ts} s (acted (means {ts = vs} d none))) n ss xs h =
    let a = s n in
    let e = a.same in
    at (simp (map-append, append_assoc, append-nil, e)) (d n _ _ (front_next h a.spelled))

stmts_none : Keeps RULE_STMTS_NONE NAME_STMTS
stmts_none _ none n ss xs h = mk (IsStmts n) _ _ (front_stmts h) (simp append-nil)

after_more : Keeps RULE_AFTER_MORE NAME_AFTER
after_more _ (taken t i (acted (means {ts = ts} d none))) n ss xs h = at (simp (map-append, append_assoc, append-nil)) (d n ss (xs ++ plain t ∷ []) (after t h (one_class CLASS_SEMI t.class i)))

after_end : Keeps RULE_AFTER_END NAME_AFTER
after_end _ none n ss xs h = mk (IsStmts n) _ _ (unclosed h) (simp append-nil)

stmt_branch : Keeps RULE_STMT_BRANCH NAME_STMT
stmt_branch _ (acted (means {ts = ts} d (acted none))) n = let a = d n in mk (IsStmt n) _ _ (branch a.spelled) (a.same ∙ sym (append-nil ts))

branch_condition : Keeps RULE_BRANCH_CONDITION NAME_BRANCH
branch_condition _ (taken i c (means {ts = ts} d none)) n = at (simp append-nil) (d n i (one_class CLASS_IF i.class c))

branch_rest_body : Keeps RULE_BRANCH_REST_BODY NAME_BRANCH_REST
branch_rest_body _ (acted (means {ts = ts} d (acted (means {ts = vs} b (means {ts = ws} o none))))) n i c =
    let a = d n in
    let s = b n in
    let e = a.same in
    let f = s.same in
    let q : tokens_of (a.placed ++ s.placed) ++ ws ≡ ts ++ (vs ++ (ws ++ [])) = simp (map-append, append_assoc, append-nil, e, f) in
    at (ap (λ (us : List Token). i ∷ us) q) (o n (a.tree.0, s.tree) (plain i ∷ a.placed ++ s.placed) (half i c a.spelled s.spelled))

otherwise_other : Keeps RULE_OTHERWISE_OTHER NAME_OTHERWISE
otherwise_other _ (taken l c (means {ts = ts} d none)) n x ps h = at (simp append-nil) (d n x ps l h (one_class CLASS_ELSE l.class c))

otherwise_none : Keeps RULE_OTHERWISE_NONE NAME_OTHERWISE
otherwise_none _ (acted none) n x ps h = mk (IsBranch n) _ _ (half_only h) (simp append-nil)

other_block : Keeps RULE_OTHER_BLOCK NAME_OTHER
other_block _ (means {ts = ts} d (acted (acted none))) n x ps l h c =
    let a = d n in
    let e = a.same in
    mk (IsBranch n) _ _ (half_otherwise l h c a.spelled) (simp (map-append, append-nil, e))

other_branch : Keeps RULE_OTHER_BRANCH NAME_OTHER
other_branch _ (acted (taken i c (means {ts = ts} d (acted none)))) n x ps l h k =
    let a = d (n + 1) i (one_class CLASS_IF i.class c) in
    let e = a.same in
    mk (IsBranch n) _ _ (half_chain l h k a.spelled) (simp (map-append, append-nil, e))

stmt_simple : Keeps RULE_STMT_SIMPLE NAME_STMT
stmt_simple _ (acted (means {ts = ts} d (acted none))) n = at (sym (append-nil ts)) (d n)

stmt_block : Keeps RULE_STMT_BLOCK NAME_STMT
stmt_block _ (means {ts = ts} d (acted none)) n = let a = d n in mk (IsStmt n) _ _ (block a.spelled) (a.same ∙ sym (append-nil ts))

simple_name : Keeps RULE_SIMPLE_NAME NAME_SIMPLE
simple_name _ (taken t i (acted (means {ts = ts} d none))) n = at (simp append-nil) (d n ((None, t.value), n) (plain t ∷ []) (head t no_receiver (one_class CLASS_IDENT t.class i)))

simple_closed : Keeps RULE_SIMPLE_CLOSED NAME_SIMPLE
simple_closed _ (means {ts = ts} p (means {ts = vs} d none)) n = let a = p n in let e = a.same in at (simp (append-nil, e)) (d n a.tree a.placed a.spelled)

closed_number : Keeps RULE_CLOSED_NUMBER NAME_CLOSED
closed_number _ (taken t i (acted none)) n = mk (Prim n) (_, n) _ (number t (one_class CLASS_NUMBER t.class i)) refl

closed_apply : Keeps RULE_CLOSED_APPLY NAME_CLOSED
closed_apply _ (taken f i (acted (acted (taken o j (acted (means d (taken c k (acted (acted none))))))))) n =
    let a = d (n + 1) in let e = a.same in mk (Prim n) (_, n) _ (apply f o c (one_class CLASS_FUNC f.class i) (one_class CLASS_L_PAREN o.class j) a.spelled (one_class CLASS_R_PAREN c.class k)) (simp (map-append, e))

closed_paren : Keeps RULE_CLOSED_PAREN NAME_CLOSED
closed_paren _ (acted (acted (taken o i (means d (taken c j (acted (acted none))))))) n =
    let a = d (n + 1) in let e = a.same in mk (Prim n) (_, n) _ (paren o c (one_class CLASS_L_PAREN o.class i) a.spelled (one_class CLASS_R_PAREN c.class j)) (simp (map-append, e))

dots_member : Keeps RULE_DOTS_MEMBER NAME_DOTS
dots_member _ (acted (taken d i (taken x j (acted (means {ts = ts} k none))))) n (e, m) xs h =
    at (simp (map-append, append_assoc, append-nil)) (k n ((Some e, x.value), m + 1) ((xs ++ opens m d ∷ []) ++ plain x ∷ []) (head x (receiver d h (one_class CLASS_DOT d.class i)) (one_class CLASS_IDENT x.class j)))

spot_member : Keeps RULE_SPOT_MEMBER NAME_SPOT
spot_member _ (acted (taken d i (taken x j (acted (means {ts = ts} k none))))) n ((of, y), m) xs h =
    at (simp (map-append, append_assoc, append-nil)) (k n ((Some (named_as of y), x.value), m + 1) ((xs ++ opens m d ∷ []) ++ plain x ∷ []) (head x (receiver d (head_prim h) (one_class CLASS_DOT d.class i)) (one_class CLASS_IDENT x.class j)))

spot_call : Keeps RULE_SPOT_CALL NAME_SPOT
spot_call _ (acted (acted (taken o i (acted (means {ts = ts} d (taken c j (acted (acted (acted none))))))))) n ((of, y), m) xs h =
    let a = d (m + 1) in let e = a.same in mk (IsStmt n) _ _ (called (head_call o c h (one_class CLASS_L_PAREN o.class i) a.spelled (one_class CLASS_R_PAREN c.class j))) (simp (map-append, e))

spot_assign : Keeps RULE_SPOT_ASSIGN NAME_SPOT
spot_assign _ (acted (acted (taken t i (means {ts = ts} d (acted none))))) n ((of, y), m) xs h =
    let a = d n in let e = a.same in mk (IsStmt n) _ _ (assign t (head_left h) (is_two CLASS_ASSIGN CLASS_DEFINE t i) a.spelled) (simp (map-append, append-nil, e))

right_not : Keeps RULE_RIGHT_NOT NAME_RIGHT
right_not _ (acted (taken t i (means {ts = ts} d (acted (means {ts = vs} k (means {ts = ws} l (acted none))))))) n =
    let u = d (n + 1) in
    let a = k n (Not u.tree.0, u.tree.1) _ (unary (not t (one_class CLASS_BANG t.class i) u.spelled)) in
    let b = l n a.tree _ (product a.spelled) in
    let e = u.same in
    let q : (t ∷ (tokens_of u.placed ++ vs)) ++ ws ≡ t ∷ (ts ++ (vs ++ (ws ++ []))) = simp (e, append_assoc, append-nil) in
    mk (IsRight n) _ _ (value b.spelled) (b.same ∙ (ap (λ (us : List Token). us ++ ws) a.same ∙ q))

right_closed : Keeps RULE_RIGHT_CLOSED NAME_RIGHT
right_closed _ (means {ts = ts} p (means {ts = vs} d none)) n = let a = p n in let e = a.same in at (simp (append-nil, e)) (d n a.tree a.placed a.spelled)

right_name : Keeps RULE_RIGHT_NAME NAME_RIGHT
right_name _ (taken t i (acted (means {ts = ts} d none))) n = at (simp append-nil) (d n ((None, t.value), n) (plain t ∷ []) (head t no_receiver (one_class CLASS_IDENT t.class i)))

right_dots_member : Keeps RULE_RIGHT_DOTS_MEMBER NAME_RIGHT_DOTS
right_dots_member _ (acted (taken d i (taken x j (acted (means {ts = ts} k none))))) n (e, m) xs h =
    at (simp (map-append, append_assoc, append-nil)) (k n ((Some e, x.value), m + 1) ((xs ++ opens m d ∷ []) ++ plain x ∷ []) (head x (receiver d h (one_class CLASS_DOT d.class i)) (one_class CLASS_IDENT x.class j)))

-- a sum that goes on from a prim, as a right side
sum_value : {n m : ℕ} {e : Expr} {xs : List (Placed Token)} (ts vs : List Token) → IsPrim n e m xs → M NAME_PRODUCT_TAIL ts → M NAME_SUM_TAIL vs → Made (IsRight n) (tokens_of xs ++ (ts ++ (vs ++ [])))
sum_value {n} {m} {e} {xs} ts vs h k l =
    let a = k n (e, m) xs (unary (prim h)) in
    let b = l n a.tree _ (product a.spelled) in
    let f = a.same in
    let g = b.same in
    mk (IsRight n) _ _ (value b.spelled) (simp (g, f, append_assoc, append-nil))

right_dots_value : Keeps RULE_RIGHT_DOTS_VALUE NAME_RIGHT_DOTS
right_dots_value _ (means {ts = ts} k (means {ts = vs} l (acted none))) n x xs h = sum_value ts vs h k l

right_spot_member : Keeps RULE_RIGHT_SPOT_MEMBER NAME_RIGHT_SPOT
right_spot_member _ (acted (taken d i (taken x j (acted (means {ts = ts} k none))))) n ((of, y), m) xs h =
    at (simp (map-append, append_assoc, append-nil)) (k n ((Some (named_as of y), x.value), m + 1) ((xs ++ opens m d ∷ []) ++ plain x ∷ []) (head x (receiver d (head_prim h) (one_class CLASS_DOT d.class i)) (one_class CLASS_IDENT x.class j)))

right_spot_call : Keeps RULE_RIGHT_SPOT_CALL NAME_RIGHT_SPOT
right_spot_call _ (acted (acted (taken o i (acted (means {ts = ts} d (taken c j (acted (acted (acted none))))))))) n ((of, y), m) xs h =
    let a = d (m + 1) in let e = a.same in mk (IsRight n) _ _ (result (head_call o c h (one_class CLASS_L_PAREN o.class i) a.spelled (one_class CLASS_R_PAREN c.class j))) (simp (map-append, e))

right_spot_value : Keeps RULE_RIGHT_SPOT_VALUE NAME_RIGHT_SPOT
right_spot_value _ (acted (means {ts = ts} k (means {ts = vs} l (acted none)))) n ((of, y), m) xs h = sum_value ts vs (head_prim h) k l

sum_product : Keeps RULE_SUM_PRODUCT NAME_SUM
sum_product _ (means {ts = ts} d (means {ts = vs} k none)) n = let a = d n in let e = a.same in at (simp (append-nil, e)) (k n a.tree _ (product a.spelled))

sum_tail_more : Keeps RULE_SUM_TAIL_MORE NAME_SUM_TAIL
sum_tail_more _ (acted (taken t i (means {ts = ts} d (acted (means {ts = vs} k none))))) n (x, m) xs h =
    let a = d (m + 1) in let e = a.same in
    at (simp (map-append, append_assoc, append-nil, e)) (k n (Binary t x a.tree.0, a.tree.1) _ (plus t h (is_two CLASS_PLUS CLASS_MINUS t i) a.spelled))

sum_tail_end : Keeps RULE_SUM_TAIL_END NAME_SUM_TAIL
sum_tail_end _ none n x xs h = mk (Sum n) x _ h (simp append-nil)

product_unary : Keeps RULE_PRODUCT_UNARY NAME_PRODUCT
product_unary _ (means {ts = ts} d (means {ts = vs} k none)) n = let a = d n in let e = a.same in at (simp (append-nil, e)) (k n a.tree _ (unary a.spelled))

product_tail_more : Keeps RULE_PRODUCT_TAIL_MORE NAME_PRODUCT_TAIL
product_tail_more _ (acted (taken t i (means {ts = ts} d (acted (means {ts = vs} k none))))) n (x, m) xs h =
    let a = d (m + 1) in let e = a.same in
    at (simp (map-append, append_assoc, append-nil, e)) (k n (Binary t x a.tree.0, a.tree.1) _ (times t h (one_class CLASS_STAR t.class i) a.spelled))

product_tail_end : Keeps RULE_PRODUCT_TAIL_END NAME_PRODUCT_TAIL
product_tail_end _ none n x xs h = mk (Product n) x _ h (simp append-nil)

unary_not : Keeps RULE_UNARY_NOT NAME_UNARY
unary_not _ (acted (taken t i (means {ts = ts} d (acted none)))) n =
    let a = d (n + 1) in let e = a.same in mk (Unary n) (Not a.tree.0, a.tree.1) _ (not t (one_class CLASS_BANG t.class i) a.spelled) (simp (append-nil, e))

unary_prim : Keeps RULE_UNARY_PRIM NAME_UNARY
unary_prim _ (means {ts = ts} d none) n = let a = d n in mk (Unary n) a.tree _ (prim a.spelled) (a.same ∙ sym (append-nil ts))

prim_closed : Keeps RULE_PRIM_CLOSED NAME_PRIM
prim_closed _ (means {ts = ts} d (means {ts = vs} k none)) n = let a = d n in let e = a.same in at (simp (append-nil, e)) (k n a.tree _ a.spelled)

prim_name : Keeps RULE_PRIM_NAME NAME_PRIM
prim_name _ (taken t i (acted (means {ts = vs} k none))) n = at (simp append-nil) (k n (Name t.value, n) (plain t ∷ []) (name t (one_class CLASS_IDENT t.class i)))

selects_more : Keeps RULE_SELECTS_MORE NAME_SELECTS
selects_more _ (acted (taken d i (taken x j (acted (means {ts = ts} k none))))) n (e, m) xs h =
    at (simp (map-append, append_assoc, append-nil)) (k n (Select e x.value, m + 1) (xs ++ opens m d ∷ plain x ∷ []) (select d x h (one_class CLASS_DOT d.class i) (one_class CLASS_IDENT x.class j)))

selects_end : Keeps RULE_SELECTS_END NAME_SELECTS
selects_end _ none n x xs h = mk (Prim n) x _ h (simp append-nil)

args_some : Keeps RULE_ARGS_SOME NAME_ARGS
args_some _ (acted (means {ts = ts} d (acted (acted (means {ts = vs} k none))))) n =
    let a = d n in let e = a.same in
    let l = k n (a.tree.0 ∷ []) _ (one a.spelled) in
    let f = l.same in
    mk (IsArgs n) _ _ (some_args l.spelled) (simp (f, e, append-nil))

args_none : Keeps RULE_ARGS_NONE NAME_ARGS
args_none _ none n = mk (IsArgs n) _ _ no_args refl

more_args_more : Keeps RULE_MORE_ARGS_MORE NAME_MORE_ARGS
more_args_more _ (taken t i (acted (means {ts = ts} d (acted (acted (means {ts = vs} k none)))))) n es xs h =
    let a = d n in let e = a.same in
    at (simp (map-append, append_assoc, append-nil, e)) (k n _ _ (more t h (one_class CLASS_COMMA t.class i) a.spelled))

more_args_end : Keeps RULE_MORE_ARGS_END NAME_MORE_ARGS
more_args_end _ none n es xs h = mk (IsList n) _ _ h (simp append-nil)

all_rules : RulesMean sample_tables Token (λ token. token.class) M sample_tables.names 0
all_rules = (block_braces, (stmts_some, (stmts_none, (after_more, (after_end, (stmt_simple, (stmt_block, (stmt_branch, (branch_condition, (branch_rest_body, (otherwise_other, (otherwise_none, (other_block, (other_branch, (simple_name, (simple_closed, (dots_member, (spot_member, (spot_call, (spot_assign, (right_not, (right_closed, (right_name, (right_dots_member, (right_dots_value, (right_spot_member, (right_spot_call, (right_spot_value, (sum_product, (sum_tail_more, (sum_tail_end, (product_unary, (product_tail_more, (product_tail_end, (unary_not, (unary_prim, (prim_closed, (prim_name, (closed_number, (closed_apply, (closed_paren, (selects_more, (selects_end, (args_some, (args_none, (more_args_more, (more_args_end, tt)))))))))))))))))))))))))))))))))))))))))))))))

-- what the name of blocks derives is a block
pub whole_means : (level : ℕ) (steps : List Step) (us : List Token) → Derived sample_tables NAME_BLOCK steps (map (λ token. token.class) us) → (ss : List Stmt) × Spells (IsBlock level) ss us
whole_means level steps us d = go us (all_mean sample_tables Token (λ token. token.class) M all_rules d us refl)
  where
    go : (us : List Token) → Meant sample_tables Token (λ token. token.class) M (N NAME_BLOCK ∷ []) us → (ss : List Stmt) × Spells (IsBlock level) ss us
    go _ (means {ts = ts} m none) = let a = m level in (a.tree, record { placed = a.placed; same = a.same ∙ sym (append-nil ts); derived = a.spelled })

-- and what that of sums derives is an expression
pub expression_means : (level : ℕ) (steps : List Step) (us : List Token) → Derived sample_tables NAME_SUM steps (map (λ token. token.class) us) → (e : Expr) × Spells (IsExpression level) e us
expression_means level steps us d = go us (all_mean sample_tables Token (λ token. token.class) M all_rules d us refl)
  where
    go : (us : List Token) → Meant sample_tables Token (λ token. token.class) M (N NAME_SUM ∷ []) us → (e : Expr) × Spells (IsExpression level) e us
    go _ (means {ts = ts} m none) = let a = m level in (a.tree.0, record { placed = a.placed; same = a.same ∙ sym (append-nil ts); derived = expression a.spelled })
