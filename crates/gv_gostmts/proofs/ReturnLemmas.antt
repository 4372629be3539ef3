-- Right sides behind `return`.
use Rattle.std.proofs.Common.{◌≡◌, ℕ, ◌==◌, ◌<◌, List, [], ◌∷◌, ◌++◌, length, map, Option, Some, refl, sym, ap, subst, ◌∙◌, append_assoc, arith}
use Rattle.gv_base.specs.declared.answers.Code.TheVariants.{WrongCount}
use Rattle.gv_gosyntax.specs.declared.generated.gosyntax_acts.Part.TheVariants.{Right as PRight, Rights as PRights}
use Rattle.gv_gosyntax.specs.declared.node.Node.{Node}
use Rattle.gv_gosyntax.specs.declared.tree.Right.{Right as DeclaredRight}
use Rattle.gv_gosyntax.specs.Nodes.{IsPartAt}
use Rattle.gv_gosyntax.specs.declared.tree.Expr.{Expr as DeclaredExpr}
use Rattle.gv_gosyntax.specs.declared.tree.Right.TheVariants as right
use Rattle.gv_gonodes.specs.Right.{IsSomeRight, IsResult}
use Rattle.gv_gonodes.specs.Rights.{IsRight}
use Rattle.gv_operands.specs.declared.types.GoType.{GoType}
use Rattle.gv_operands.specs.declared.part.Want.{Want}
use Rattle.gv_gotypes.specs.Types.{Finding, unless}
use Rattle.gv_gotypes.specs.Trees.{Right, Value, Result, right_of}
use Rattle.gv_gotypes.specs.Scopes.{Env}
use Rattle.gv_gotypes.specs.Places.{want}
use Rattle.gv_gotypes.specs.Calls.{Answer}
use Rattle.gv_gotypes.specs.Assigning.{result_findings}
use Rattle.gv_gotypes.specs.Statements.{returned, returned_call, return_findings, wanted}
use Rattle.gv_gotyped.specs.declared.fault.Fault.{Fault as OneFault}
use Rattle.gv_gotyped.specs.First.{first_of, earliest}
use Rattle.gv_gotyped.proofs.Firsts.{first_both, earliest_of_three, earliest_none}
use Rattle.gv_gosimple.specs.Lefts.{wants_of}
use Rattle.gv_gostmts.specs.Lists.{AreRights, AreSomeRights, IsCallAlone, IsNoCallAlone, right_one, first_want, behind}

-- ---- one after another

pub record First (nodes : List Node) (place : ℕ) (rest : List ℕ) (rs : List DeclaredRight) : Type 0 where
  pub of_first : DeclaredRight
  pub of_rest : List DeclaredRight
  pub same : rs ≡ of_first ∷ of_rest
  pub within : place < length nodes
  pub is : IsPartAt nodes place (PRight of_first)
  pub are : AreRights nodes rest of_rest

by_cons : (nodes : List Node) (place : ℕ) (rest : List ℕ) (rs : List DeclaredRight) → AreRights nodes (place ∷ rest) rs → First nodes place rest rs
by_cons nodes place rest [] h = absurd h
by_cons nodes place rest (r ∷ rs) h = record { of_first = r; of_rest = rs; same = refl; within = h.0; is = h.1; are = h.2 }

pub split : (nodes : List Node) (ps : List ℕ) (place : ℕ) (rest : List ℕ) (rs : List DeclaredRight) → ps ≡ place ∷ rest → AreRights nodes ps rs → First nodes place rest rs
split nodes ps place rest rs q h = by_cons nodes place rest rs (subst (λ (x : List ℕ). AreRights nodes x rs) q h)

by_nil : (nodes : List Node) (rs : List DeclaredRight) → AreRights nodes [] rs → rs ≡ []
by_nil nodes [] h = refl
by_nil nodes (r ∷ rs) h = absurd h

pub nothing : (nodes : List Node) (ps : List ℕ) (rs : List DeclaredRight) → ps ≡ [] → AreRights nodes ps rs → rs ≡ []
nothing nodes ps rs q h = by_nil nodes rs (subst (λ (x : List ℕ). AreRights nodes x rs) q h)

pub some_first : (nodes : List Node) (ps : List ℕ) (place : ℕ) (rest : List ℕ) → ps ≡ place ∷ rest → AreSomeRights nodes ps → IsSomeRight nodes place
some_first nodes ps place rest q some = let f = split nodes ps place rest some.whole q some.are in record { whole = f.of_first; within = f.within; part = f.is }

pub some_rest : (nodes : List Node) (ps : List ℕ) (place : ℕ) (rest : List ℕ) → ps ≡ place ∷ rest → AreSomeRights nodes ps → AreSomeRights nodes rest
some_rest nodes ps place rest q some = let f = split nodes ps place rest some.whole q some.are in record { whole = f.of_rest; are = f.are }

-- ---- from the end

pub record IsSplit (nodes : List Node) (place : ℕ) (places : List ℕ) (rs : List DeclaredRight) : Type 0 where
  pub before : List DeclaredRight
  pub done : List DeclaredRight
  pub whole : rs ≡ before ++ done
  pub there : IsPartAt nodes place (PRights before)
  pub are : AreRights nodes places done

pub split_more : (nodes : List Node) (place rights last : ℕ) (places : List ℕ) (rs : List DeclaredRight) → place < length nodes → (s : IsSplit nodes place places rs)
    → IsRight nodes place rights last s.before → IsSplit nodes rights (last ∷ places) rs
split_more nodes place rights last places rs below s m = record {
  before = m.of_rights;
  done = m.of_last ∷ s.done;
  whole = s.whole ∙ ap (λ (xs : List DeclaredRight). xs ++ s.done) m.made ∙ append_assoc m.of_rights (m.of_last ∷ []) s.done;
  there = m.at_rights.is;
  are = ((let k = m.at_last.before in omega (arith, k, below)), m.at_last.is, s.are);
}

pub split_all : (nodes : List Node) (place : ℕ) (places : List ℕ) (rs : List DeclaredRight) → (s : IsSplit nodes place places rs) → s.before ≡ [] → AreRights nodes places rs
split_all nodes place places rs s e = subst (AreRights nodes places) (sym (s.whole ∙ ap (λ (xs : List DeclaredRight). xs ++ s.done) e)) s.are

-- ---- in the places of results

one_returned : (env : Env) (ks : List (Option GoType)) (r : Right) (rs : List Right) → returned env ks (r ∷ rs) ≡ right_one env (first_want ks) r ++ returned env (behind r ks) rs
one_returned env [] (Value e) rs = refl
one_returned env (k ∷ ks) (Value e) rs = refl
one_returned env [] (Result c) rs = refl
one_returned env (k ∷ ks) (Result c) rs = refl

-- what is told of them all, by what was told of those before and by those that are left
pub record Walked (env : Env) (nodes : List Node) (places : List ℕ) (all kinds : List (Option GoType)) (first : Option OneFault) (rs : List DeclaredRight) : Type 0 where
  pub left : List DeclaredRight
  pub are : AreRights nodes places left
  pub told : first_of (returned env all (map right_of rs)) ≡ earliest first (first_of (returned env kinds (map right_of left)))

pub walked_more : (env : Env) (nodes : List Node) (places rest : List ℕ) (place : ℕ) (all kinds more : List (Option GoType)) (first own then : Option OneFault) (rs : List DeclaredRight)
    → (w : Walked env nodes places all kinds first rs) → (f : First nodes place rest w.left)
    → own ≡ first_of (right_one env (first_want kinds) (right_of f.of_first)) → more ≡ behind (right_of f.of_first) kinds → then ≡ earliest first own
    → Walked env nodes rest all more then rs
walked_more env nodes places rest place all kinds more first own then rs w f o m t =
    let here = right_one env (first_want kinds) (right_of f.of_first) in let others = returned env (behind (right_of f.of_first) kinds) (map right_of f.of_rest) in record {
      left = f.of_rest;
      are = f.are;
      told = w.told
          ∙ ap (λ (xs : List DeclaredRight). earliest first (first_of (returned env kinds (map right_of xs)))) f.same
          ∙ ap (λ (fs : List Finding). earliest first (first_of fs)) (one_returned env kinds (right_of f.of_first) (map right_of f.of_rest))
          ∙ ap (λ (x : Option OneFault). earliest first x) (first_both here others ∙ ap (λ (x : Option OneFault). earliest x (first_of others)) (sym o))
          ∙ sym (earliest_of_three first own (first_of others))
          ∙ ap (λ (x : Option OneFault). earliest x (first_of others)) (sym t)
          ∙ ap (λ (ks : List (Option GoType)). earliest then (first_of (returned env ks (map right_of f.of_rest)))) (sym m);
    }

no_more_returned : (env : Env) (ks : List (Option GoType)) → returned env ks [] ≡ []
no_more_returned env ks = refl

pub walked_all : (env : Env) (nodes : List Node) (places : List ℕ) (all kinds : List (Option GoType)) (first : Option OneFault) (rs : List DeclaredRight)
    → (w : Walked env nodes places all kinds first rs) → w.left ≡ [] → first ≡ first_of (returned env all (map right_of rs))
walked_all env nodes places all kinds first rs w e =
    sym (w.told ∙ ap (λ (xs : List DeclaredRight). earliest first (first_of (returned env kinds (map right_of xs)))) e ∙ earliest_none first)

-- ---- calls

pub as_many : (nodes : List Node) (ps : List ℕ) (rs : List DeclaredRight) → AreRights nodes ps rs → length ps ≡ length rs
as_many nodes [] [] h = refl
as_many nodes [] (r ∷ rs) h = absurd h
as_many nodes (p ∷ ps) [] h = absurd h
as_many nodes (p ∷ ps) (r ∷ rs) h = let k = as_many nodes ps rs h.2 in omega (arith, k)

no_others : (nodes : List Node) (ps rest : List ℕ) (place : ℕ) (rs : List DeclaredRight) → ps ≡ place ∷ rest → length ps ≡ 1 → (f : First nodes place rest rs) → f.of_rest ≡ []
no_others nodes ps rest place rs p n f =
    let a = as_many nodes rest f.of_rest f.are in let b = ap length p in empty f.of_rest (omega (arith, a, b, n))
  where
    empty : (xs : List DeclaredRight) → length xs ≡ 0 → xs ≡ []
    empty [] e = refl
    empty (x ∷ xs) e = absurd (omega (arith, e))

pub is_value_alone : (nodes : List Node) (ps rest : List ℕ) (place : ℕ) (rs : List DeclaredRight) (e : DeclaredExpr) → length ps ≡ 1 → (f : First nodes place rest rs)
    → f.of_first ≡ right.Value e → IsNoCallAlone (map right_of rs)
is_value_alone nodes ps rest place rs e n f made =
    subst (λ (x : List DeclaredRight). IsNoCallAlone (map right_of x)) (sym (f.same ∙ ap (λ (r : DeclaredRight). r ∷ f.of_rest) made)) tt

pub is_call_alone : (nodes : List Node) (ps rest : List ℕ) (place call : ℕ) (rs : List DeclaredRight) → ps ≡ place ∷ rest → length ps ≡ 1 → (f : First nodes place rest rs)
    → IsResult nodes place call f.of_first → IsCallAlone nodes call (map right_of rs)
is_call_alone nodes ps rest place call rs p n f m = record {
  of_call = m.of_result;
  within = (let k = m.at_result.before in let l = f.within in omega (arith, k, l));
  is = m.at_result.is;
  same = ap (λ (xs : List DeclaredRight). map right_of xs)
      (f.same ∙ ap (λ (r : DeclaredRight). r ∷ f.of_rest) m.made ∙ ap (λ (xs : List DeclaredRight). right.Result m.of_result ∷ xs) (no_others nodes ps rest place rs p n f));
}

pub several : (rs : List Right) → (length rs ≡ 1 → ⊥) → IsNoCallAlone rs
several [] h = tt
several (Value e ∷ rs) h = tt
several (Result c ∷ []) h = absurd (h refl)
several (Result c ∷ r ∷ rs) h = tt

pub no_call_alone : (env : Env) (word : ℕ) (rs : List Right) → IsNoCallAlone rs → return_findings env word rs ≡ unless (length rs == length env.results) word WrongCount ++ returned env env.results rs
no_call_alone env word [] h = refl
no_call_alone env word (Value e ∷ rs) h = refl
no_call_alone env word (Result c ∷ []) h = absurd h
no_call_alone env word (Result c ∷ r ∷ rs) h = refl

pub given_none : (ks : List (Option GoType)) (a : Answer) (word start : ℕ) → ks ≡ [] → Some (record { start = word; code = WrongCount }) ≡ first_of (returned_call ks a word start)
given_none [] a word start h = refl
given_none (k ∷ ks) a word start h = absurd cc

pub given_some : (ks : List (Option GoType)) (a : Answer) (word start : ℕ) → (ks ≡ [] → ⊥) → result_findings (wanted ks) a.results word start ≡ returned_call ks a word start
given_some [] a word start h = absurd (h refl)
given_some (k ∷ ks) a word start h = refl

pub wants_more : (wants more : List Want) (ks : List (Option GoType)) (k : Option GoType) (all : List Want) (w : Want)
    → all ≡ wants ++ wants_of (wanted (k ∷ ks)) → w ≡ want k → more ≡ wants ++ w ∷ [] → all ≡ more ++ wants_of (wanted ks)
wants_more wants more ks k all w h e m =
    h ∙ ap (λ (x : Want). wants ++ x ∷ wants_of (wanted ks)) (sym e)
    ∙ sym (ap (λ (xs : List Want). xs ++ wants_of (wanted ks)) m ∙ append_assoc wants (w ∷ []) (wants_of (wanted ks)))
