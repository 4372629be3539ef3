use Rattle.std.proofs.Common.{◌≡◌, ℕ, List, [], ◌∷◌, reverse, sym, ap, ◌∙◌, subst, arith}
use Rattle.std.proofs.lemmas.List.{reverse-append}
use Rattle.gv_godecls.specs.Placed.{AreDecls}
use Rattle.gv_godecls.proofs.Splits.{IsSplit, split_more, split_all, decls_there}
use Rattle.gv_godecls.proofs.decls.decls_at.Goals as goal

pub loop-decls-smaller : goal.loop-decls-smaller
loop-decls-smaller c = (c.in-Decl.ensures c.loop-decls.invariant.some.whole c.loop-decls.invariant.some.part).at_decls.before

pub loop-decls-preserved : goal.loop-decls-preserved
loop-decls-preserved c =
    let i = c.loop-decls.invariant in
    let nodes = c.args.nodes.now in
    let m = c.in-Decl.ensures i.some.whole i.some.part in
    let k = m.at_decls.before in
    let b = i.below in
    let grown : reverse c.push.new.self.items ≡ c.in-Decl.decl ∷ reverse c.loop-decls.places.items =
    ap reverse c.in_ok-push-in-Decl.ensures.items ∙ reverse-append c.loop-decls.places.items (c.in-Decl.decl ∷ []) in
    record {
      below = omega (arith, k, b);
      some = decls_there nodes c.loop-decls.place c.in-Decl.decls m.of_decls i.some.within m.at_decls;
      rest = λ ds h. let s = i.rest ds h in
          subst (λ (ps : List ℕ). IsSplit nodes c.args.at c.in-Decl.decls ps ds) (sym grown)
          (split_more nodes c.args.at c.loop-decls.place c.in-Decl.decls c.in-Decl.decl (reverse c.loop-decls.places.items) ds b s (c.in-Decl.ensures s.before s.there));
    }

pub returns : goal.returns
returns c = λ ds h.
    let s = c.loop-decls.invariant.rest ds h in
    subst (λ (ps : List ℕ). AreDecls c.args.nodes.now c.args.at ps ds) (sym c.reverse.ensures.items)
    (split_all c.args.nodes.now c.args.at c.loop-decls.place (reverse c.loop-decls.places.items) ds s (c.in-NoDecls.ensures s.before s.there))
