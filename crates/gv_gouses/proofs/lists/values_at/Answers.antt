use Rattle.std.proofs.Common.{◌≡◌, ℕ, List, [], ◌∷◌, ◌++◌, map, reverse, sym, ap, ◌∙◌, subst}
use Rattle.std.proofs.lemmas.List.{reverse-append}
use Rattle.gv_gosyntax.specs.declared.tree.KeyedExpr.{KeyedExpr}
use Rattle.gv_gocalls.proofs.KeyedLemmas.{keyed_there}
use Rattle.gv_gosimple.specs.Lefts.{AreExprs}
use Rattle.gv_gouses.proofs.ListUses.{IsSplit, split_more, split_all}
use Rattle.gv_gouses.proofs.lists.values_at.Goals as goal

pub loop-places-smaller-in-Keyed : goal.loop-places-smaller-in-Keyed
loop-places-smaller-in-Keyed c = let i = c.loop-places.invariant in let m = c.in-Keyed.ensures i.some.whole i.some.part in m.at_fields.before

pub loop-places-preserved-in-Keyed : goal.loop-places-preserved-in-Keyed
loop-places-preserved-in-Keyed c =
    let i = c.loop-places.invariant in
    let nodes = c.args.nodes.now in
    let m = c.in-Keyed.ensures i.some.whole i.some.part in
    let grown : reverse c.push.new.self.items ≡ c.in-Keyed.value ∷ reverse c.loop-places.places.items =
    ap reverse c.in_ok-push-in-Keyed.ensures.items ∙ reverse-append c.loop-places.places.items (c.in-Keyed.value ∷ []) in
    record {
      some = keyed_there nodes c.loop-places.place c.in-Keyed.fields m.of_fields i.some.within m.at_fields;
      rest = λ ks h. let s = i.rest ks h in
          subst (λ (ps : List ℕ). IsSplit nodes c.in-Keyed.fields ps ks) (sym grown)
          (split_more nodes c.loop-places.place c.in-Keyed.fields c.in-Keyed.value c.in-Keyed.key (reverse c.loop-places.places.items) ks i.some.within s (c.in-Keyed.ensures s.before s.there));
    }

pub loop-places-smaller : goal.loop-places-smaller
loop-places-smaller c = let i = c.loop-places.invariant in let m = c.in-PastKeyed.ensures i.some.whole i.some.part in m.at_fields.before

pub loop-places-preserved : goal.loop-places-preserved
loop-places-preserved c =
    let i = c.loop-places.invariant in
    let nodes = c.args.nodes.now in
    let m = c.in-PastKeyed.ensures i.some.whole i.some.part in
    record {
      some = keyed_there nodes c.loop-places.place c.in-PastKeyed.fields m.of_fields i.some.within m.at_fields;
      rest = λ ks h. let s = i.rest ks h in let n = c.in-PastKeyed.ensures s.before s.there in
          record { before = n.of_fields; done = s.done; whole = s.whole ∙ ap (λ (xs : List KeyedExpr). xs ++ s.done) n.made; there = n.at_fields.is; are = s.are };
    }

pub returns-in-NoKeyed : goal.returns-in-NoKeyed
returns-in-NoKeyed c = λ ks h.
    let s = c.loop-places.invariant.rest ks h in
    subst (λ (ps : List ℕ). AreExprs c.args.nodes.now ps (map (λ (k : KeyedExpr). k.value) ks)) (sym c.reverse.ensures.items)
    (split_all c.args.nodes.now c.loop-places.place (reverse c.loop-places.places.items) ks s (c.in-NoKeyed.ensures s.before s.there))
