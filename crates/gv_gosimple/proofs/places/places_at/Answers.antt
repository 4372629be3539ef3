use Rattle.std.proofs.Common.{◌≡◌, ℕ, List, [], ◌∷◌, ◌++◌, reverse, sym, ap, ◌∙◌, subst}
use Rattle.std.proofs.lemmas.List.{reverse-append}
use Rattle.gv_gosyntax.specs.declared.tree.Expr.{Expr}
use Rattle.gv_gocalls.proofs.ArgumentLemmas.{exprs_there}
use Rattle.gv_gosimple.specs.Lefts.{AreExprs}
use Rattle.gv_gosimple.proofs.Splits.{IsSplit, split_more, split_all, split_last}
use Rattle.gv_gosimple.proofs.places.places_at.Goals as goal

pub loop-places-smaller-in-Expr : goal.loop-places-smaller-in-Expr
loop-places-smaller-in-Expr c = let i = c.loop-places.invariant in let m = c.in-Expr.ensures i.some.whole i.some.part in m.at_exprs.before

pub loop-places-preserved-in-Expr : goal.loop-places-preserved-in-Expr
loop-places-preserved-in-Expr c =
    let i = c.loop-places.invariant in
    let nodes = c.args.nodes.now in
    let m = c.in-Expr.ensures i.some.whole i.some.part in
    let grown : reverse c.push.new.self.items ≡ c.in-Expr.last ∷ reverse c.loop-places.places.items =
    ap reverse c.in_ok-push-in-Expr.ensures.items ∙ reverse-append c.loop-places.places.items (c.in-Expr.last ∷ []) in
    record {
      some = exprs_there nodes c.loop-places.place c.in-Expr.exprs m.of_exprs i.some.within m.at_exprs;
      rest = λ es h. let s = i.rest es h in
          subst (λ (ps : List ℕ). IsSplit nodes c.in-Expr.exprs ps es) (sym grown)
          (split_more nodes c.loop-places.place c.in-Expr.exprs c.in-Expr.last (reverse c.loop-places.places.items) es i.some.within s (c.in-Expr.ensures s.before s.there));
    }

pub loop-places-smaller : goal.loop-places-smaller
loop-places-smaller c = let i = c.loop-places.invariant in let m = c.in-PastExprs.ensures i.some.whole i.some.part in m.at_exprs.before

pub loop-places-preserved : goal.loop-places-preserved
loop-places-preserved c =
    let i = c.loop-places.invariant in
    let nodes = c.args.nodes.now in
    let m = c.in-PastExprs.ensures i.some.whole i.some.part in
    record {
      some = exprs_there nodes c.loop-places.place c.in-PastExprs.exprs m.of_exprs i.some.within m.at_exprs;
      rest = λ es h. let s = i.rest es h in let n = c.in-PastExprs.ensures s.before s.there in
          record { before = n.of_exprs; done = s.done; whole = s.whole ∙ ap (λ (xs : List Expr). xs ++ s.done) n.made; there = n.at_exprs.is; are = s.are };
    }

pub returns-in-NoExprs : goal.returns-in-NoExprs
returns-in-NoExprs c = λ es h.
    let s = c.loop-places.invariant.rest es h in
    subst (λ (ps : List ℕ). AreExprs c.args.nodes.now ps es) (sym c.reverse.ensures.items)
    (split_all c.args.nodes.now c.loop-places.place (reverse c.loop-places.places.items) es s (c.in-NoExprs.ensures s.before s.there))

pub returns-in-Left : goal.returns-in-Left
returns-in-Left c = λ es h.
    let i = c.loop-places.invariant in
    let s = i.rest es h in
    let grown : reverse c.push-in-Left.new.self.items ≡ c.in-Left.left ∷ reverse c.loop-places.places.items =
    ap reverse c.in_ok-push-in-Left.ensures.items ∙ reverse-append c.loop-places.places.items (c.in-Left.left ∷ []) in
    subst (λ (ps : List ℕ). AreExprs c.args.nodes.now ps es) (sym (c.reverse-in-Left.ensures.items ∙ grown))
    (split_last c.args.nodes.now c.loop-places.place c.in-Left.left (reverse c.loop-places.places.items) es i.some.within s (c.in-Left.ensures s.before s.there))
