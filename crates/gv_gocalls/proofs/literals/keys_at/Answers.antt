use Rattle.std.proofs.Common.{List, [], ◌∷◌, ◌++◌, reverse, sym, ap, ◌∙◌}
use Rattle.std.specs.Prelude.{map}
use Rattle.std.proofs.lemmas.List.{reverse-append}
use Rattle.gv_gosyntax.specs.declared.lexeme.Lexeme.{Lexeme}
use Rattle.gv_gosyntax.specs.declared.tree.KeyedExpr.{KeyedExpr as DeclaredKeyed}
use Rattle.gv_gocalls.proofs.KeyedLemmas.{keyed_there, keys_more}
use Rattle.gv_gocalls.proofs.literals.keys_at.Goals as goal

pub loop-fields-smaller-in-Keyed : goal.loop-fields-smaller-in-Keyed
loop-fields-smaller-in-Keyed c = let i = c.loop-fields.invariant in let m = c.in-Keyed.ensures i.some.whole i.some.part in m.at_fields.before

pub loop-fields-preserved-in-Keyed : goal.loop-fields-preserved-in-Keyed
loop-fields-preserved-in-Keyed c =
    let i = c.loop-fields.invariant in
    let m = c.in-Keyed.ensures i.some.whole i.some.part in
    record {
      some = keyed_there c.args.nodes.now c.loop-fields.place c.in-Keyed.fields m.of_fields i.some.within m.at_fields;
      rest = λ ks h.
          let r = i.rest ks h in
          let n = c.in-Keyed.ensures r.lefts r.there in
          record {
            lefts = n.of_fields;
            there = n.at_fields.is;
            same = keys_more ks r.lefts n.of_fields (record { key = c.in-Keyed.key; value = n.of_value }) (reverse c.loop-fields.keys.items) r.same n.made
                ∙ ap (λ (ts : List Lexeme). map (λ (k : DeclaredKeyed). k.key) n.of_fields ++ ts) (sym (ap reverse c.in_ok-push-in-Keyed.ensures.items ∙ reverse-append c.loop-fields.keys.items (c.in-Keyed.key ∷ [])));
          };
    }

pub loop-fields-smaller : goal.loop-fields-smaller
loop-fields-smaller c = let i = c.loop-fields.invariant in let m = c.in-PastKeyed.ensures i.some.whole i.some.part in m.at_fields.before

pub loop-fields-preserved : goal.loop-fields-preserved
loop-fields-preserved c =
    let i = c.loop-fields.invariant in
    let m = c.in-PastKeyed.ensures i.some.whole i.some.part in
    record {
      some = keyed_there c.args.nodes.now c.loop-fields.place c.in-PastKeyed.fields m.of_fields i.some.within m.at_fields;
      rest = λ ks h.
          let r = i.rest ks h in
          let n = c.in-PastKeyed.ensures r.lefts r.there in
          record {
            lefts = n.of_fields;
            there = n.at_fields.is;
            same = r.same ∙ ap (λ (ys : List DeclaredKeyed). map (λ (k : DeclaredKeyed). k.key) ys ++ reverse c.loop-fields.keys.items) n.made;
          };
    }

pub returns : goal.returns
returns c = λ ks h.
    let r = c.loop-fields.invariant.rest ks h in
    let q = c.in-NoKeyed.ensures r.lefts r.there in
    c.reverse.ensures.items ∙ sym (r.same ∙ ap (λ (ys : List DeclaredKeyed). map (λ (k : DeclaredKeyed). k.key) ys ++ reverse c.loop-fields.keys.items) q)
