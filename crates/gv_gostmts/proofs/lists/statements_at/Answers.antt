use Rattle.std.proofs.Common.{◌≡◌, ℕ, List, [], ◌∷◌, ◌++◌, reverse, sym, ap, ◌∙◌, subst, arith}
use Rattle.std.proofs.lemmas.List.{reverse-append}
use Rattle.gv_gosyntax.specs.declared.tree.Stmt.{Stmt}
use Rattle.gv_goends.specs.Trees.{plain}
use Rattle.gv_goends.proofs.Steps.{stmts_there}
use Rattle.gv_gotypes.specs.Statements.{stmts_findings}
use Rattle.gv_gostmts.specs.Lists.{AreWithin}
use Rattle.gv_gostmts.proofs.Steps.{IsSplit, split_more, split_empty, split_all}
use Rattle.gv_gostmts.proofs.lists.statements_at.Goals as goal

pub loop-places-smaller-in-Stmt : goal.loop-places-smaller-in-Stmt
loop-places-smaller-in-Stmt c = let i = c.loop-places.invariant in let m = c.in-Stmt.ensures i.some.whole i.some.part in m.at_stmts.before

pub loop-places-preserved-in-Stmt : goal.loop-places-preserved-in-Stmt
loop-places-preserved-in-Stmt c =
    let i = c.loop-places.invariant in
    let nodes = c.args.nodes.now in
    let m = c.in-Stmt.ensures i.some.whole i.some.part in
    let k = m.at_stmts.before in
    let b = i.below in
    let grown : reverse c.push.new.self.items ≡ c.in-Stmt.stmt ∷ reverse c.loop-places.places.items =
    ap reverse c.in_ok-push-in-Stmt.ensures.items ∙ reverse-append c.loop-places.places.items (c.in-Stmt.stmt ∷ []) in
    record {
      below = omega (arith, k, b);
      some = stmts_there nodes c.loop-places.place c.in-Stmt.stmts m.of_stmts i.some.within m.at_stmts;
      rest = λ ss h. let s = i.rest ss h in
          subst (λ (ps : List ℕ). IsSplit nodes c.args.at c.in-Stmt.stmts ps ss) (sym grown)
          (split_more nodes c.args.at c.loop-places.place c.in-Stmt.stmts c.in-Stmt.stmt (reverse c.loop-places.places.items) ss b s (c.in-Stmt.ensures s.before s.there));
    }

pub loop-places-smaller-in-Empty : goal.loop-places-smaller-in-Empty
loop-places-smaller-in-Empty c = let i = c.loop-places.invariant in let m = c.in-Empty.ensures i.some.whole i.some.part in m.at_stmts.before

pub loop-places-preserved-in-Empty : goal.loop-places-preserved-in-Empty
loop-places-preserved-in-Empty c =
    let i = c.loop-places.invariant in
    let nodes = c.args.nodes.now in
    let m = c.in-Empty.ensures i.some.whole i.some.part in
    let k = m.at_stmts.before in
    let b = i.below in
    record {
      below = omega (arith, k, b);
      some = stmts_there nodes c.loop-places.place c.in-Empty.stmts m.of_stmts i.some.within m.at_stmts;
      rest = λ ss h. let s = i.rest ss h in
          split_empty nodes c.args.at c.loop-places.place c.in-Empty.stmts (reverse c.loop-places.places.items) ss s (c.in-Empty.ensures s.before s.there);
    }

pub loop-places-smaller : goal.loop-places-smaller
loop-places-smaller c = let i = c.loop-places.invariant in let m = c.in-PastStmts.ensures i.some.whole i.some.part in m.at_stmts.before

pub loop-places-preserved : goal.loop-places-preserved
loop-places-preserved c =
    let i = c.loop-places.invariant in
    let nodes = c.args.nodes.now in
    let m = c.in-PastStmts.ensures i.some.whole i.some.part in
    let k = m.at_stmts.before in
    let b = i.below in
    record {
      below = omega (arith, k, b);
      some = stmts_there nodes c.loop-places.place c.in-PastStmts.stmts m.of_stmts i.some.within m.at_stmts;
      rest = λ ss h. let s = i.rest ss h in let n = c.in-PastStmts.ensures s.before s.there in
          record {
            before = n.of_stmts;
            done = s.done;
            there = n.at_stmts.is;
            are = s.are;
            same = λ env. sym (ap (λ (xs : List Stmt). stmts_findings env (plain (xs ++ s.done))) n.made) ∙ s.same env;
          };
    }

pub returns-in-NoStmts : goal.returns-in-NoStmts
returns-in-NoStmts c = λ ss h.
    let s = c.loop-places.invariant.rest ss h in
    subst (λ (ps : List ℕ). AreWithin c.args.nodes.now c.args.at ps ss) (sym c.reverse.ensures.items)
    (split_all c.args.nodes.now c.args.at c.loop-places.place (reverse c.loop-places.places.items) ss s (c.in-NoStmts.ensures s.before s.there))
