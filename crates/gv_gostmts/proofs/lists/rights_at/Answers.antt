use Rattle.std.proofs.Common.{◌≡◌, ℕ, List, [], ◌∷◌, ◌++◌, reverse, sym, ap, ◌∙◌, subst}
use Rattle.std.proofs.lemmas.List.{reverse-append}
use Rattle.gv_gosyntax.specs.declared.tree.Right.{Right}
use Rattle.gv_gostmts.specs.Lists.{AreRights}
use Rattle.gv_gostmts.proofs.BlockLemmas.{rights_there}
use Rattle.gv_gostmts.proofs.ReturnLemmas.{IsSplit, split_more, split_all}
use Rattle.gv_gostmts.proofs.lists.rights_at.Goals as goal

pub loop-places-smaller-in-Right : goal.loop-places-smaller-in-Right
loop-places-smaller-in-Right c = let i = c.loop-places.invariant in let m = c.in-Right.ensures i.some.whole i.some.part in m.at_rights.before

pub loop-places-preserved-in-Right : goal.loop-places-preserved-in-Right
loop-places-preserved-in-Right c =
    let i = c.loop-places.invariant in
    let nodes = c.args.nodes.now in
    let m = c.in-Right.ensures i.some.whole i.some.part in
    let grown : reverse c.push.new.self.items ≡ c.in-Right.last ∷ reverse c.loop-places.places.items =
    ap reverse c.in_ok-push-in-Right.ensures.items ∙ reverse-append c.loop-places.places.items (c.in-Right.last ∷ []) in
    record {
      some = rights_there nodes c.loop-places.place c.in-Right.rights m.of_rights i.some.within m.at_rights;
      rest = λ rs h. let s = i.rest rs h in
          subst (λ (ps : List ℕ). IsSplit nodes c.in-Right.rights ps rs) (sym grown)
          (split_more nodes c.loop-places.place c.in-Right.rights c.in-Right.last (reverse c.loop-places.places.items) rs i.some.within s (c.in-Right.ensures s.before s.there));
    }

pub loop-places-smaller : goal.loop-places-smaller
loop-places-smaller c = let i = c.loop-places.invariant in let m = c.in-PastRights.ensures i.some.whole i.some.part in m.at_rights.before

pub loop-places-preserved : goal.loop-places-preserved
loop-places-preserved c =
    let i = c.loop-places.invariant in
    let nodes = c.args.nodes.now in
    let m = c.in-PastRights.ensures i.some.whole i.some.part in
    record {
      some = rights_there nodes c.loop-places.place c.in-PastRights.rights m.of_rights i.some.within m.at_rights;
      rest = λ rs h. let s = i.rest rs h in let n = c.in-PastRights.ensures s.before s.there in
          record { before = n.of_rights; done = s.done; whole = s.whole ∙ ap (λ (xs : List Right). xs ++ s.done) n.made; there = n.at_rights.is; are = s.are };
    }

pub returns-in-NoRights : goal.returns-in-NoRights
returns-in-NoRights c = λ rs h.
    let s = c.loop-places.invariant.rest rs h in
    subst (λ (ps : List ℕ). AreRights c.args.nodes.now ps rs) (sym c.reverse.ensures.items)
    (split_all c.args.nodes.now c.loop-places.place (reverse c.loop-places.places.items) rs s (c.in-NoRights.ensures s.before s.there))
