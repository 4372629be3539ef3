use Rattle.std.proofs.Common.{[], ◌∷◌, ◌++◌, reverse, sym, ap, ◌∙◌}
use Rattle.std.proofs.lemmas.List.{reverse-append}
use Rattle.gv_goheads.specs.Heads.{heads_of}
use Rattle.gv_goheads.proofs.Splits.{headed_more, decls_there, decl_there}
use Rattle.gv_goheads.proofs.heads.heads_at.Goals as goal

pub head_at-requires-clause-some : goal.head_at-requires-clause-some
head_at-requires-clause-some c =
    let i = c.loop-decls.invariant in
    let m = c.in-Decl.ensures i.some.whole i.some.part in
    decl_there c.args.nodes.now c.loop-decls.place c.in-Decl.decl m.of_decl i.some.within m.at_decl

pub loop-decls-smaller : goal.loop-decls-smaller
loop-decls-smaller c = let i = c.loop-decls.invariant in (c.in-Decl.ensures i.some.whole i.some.part).at_decls.before

pub loop-decls-preserved : goal.loop-decls-preserved
loop-decls-preserved c =
    let i = c.loop-decls.invariant in
    let nodes = c.args.nodes.now in
    let m = c.in-Decl.ensures i.some.whole i.some.part in
    record {
      some = decls_there nodes c.loop-decls.place c.in-Decl.decls m.of_decls i.some.within m.at_decls;
      rest = λ ds h.
          let r = i.rest ds h in
          let n = c.in-Decl.ensures r.lefts r.there in
          headed_more nodes c.loop-decls.place c.in-Decl.decls (reverse c.loop-decls.heads.items) _ c.in_ok-head-in-Decl.head ds n.of_decls n.of_decl r n.made n.at_decls.is
          (c.in_ok-head-in-Decl.ensures n.of_decl n.at_decl.is)
          (ap reverse c.in_ok-push-in-Decl.ensures.items ∙ reverse-append c.loop-decls.heads.items (c.in_ok-head-in-Decl.head ∷ []));
    }

pub returns : goal.returns
returns c = λ ds h.
    let r = c.loop-decls.invariant.rest ds h in
    c.reverse.ensures.items ∙ sym (r.same ∙ ap (λ es. heads_of es ++ reverse c.loop-decls.heads.items) (c.in-NoDecls.ensures r.lefts r.there))
