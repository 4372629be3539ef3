use Rattle.std.proofs.Common.{List, [], ◌∷◌, ◌++◌, sym, ap, ◌∙◌}
use Rattle.std.specs.Prelude.{map}
use Rattle.gv_gosyntax.specs.declared.tree.KeyedExpr.{KeyedExpr as DeclaredKeyed}
use Rattle.gv_gotypes.specs.Trees.{keyed_of}
use Rattle.gv_gotypes.specs.Calls.{fields_of}
use Rattle.gv_gotyped.specs.First.{first_of}
use Rattle.gv_gowalk.proofs.Steps.{expr_there}
use Rattle.gv_gocalls.specs.Lists.{keyed_alone}
use Rattle.gv_gocalls.proofs.KeyedLemmas.{keyed_there, valued_more}
use Rattle.gv_gocalls.proofs.literals.values_at.Goals as goal

pub returns-in-NoKeyed : goal.returns-in-NoKeyed
returns-in-NoKeyed g c = λ ks h.
    let env = g.N.Names.env c.args.names.now in
    let r = c.loop-first.invariant.rest ks h in
    let q = c.in-NoKeyed.ensures r.lefts r.there in
    r.told
    ∙ sym (ap (λ (ys : List DeclaredKeyed). first_of (keyed_alone env (fields_of env.declared c.args.base) (map keyed_of ys))) (r.same ∙ ap (λ (ys : List DeclaredKeyed). ys ++ r.done) q))

pub keyed_one_at-fault-requires-clause-some : goal.keyed_one_at-fault-requires-clause-some
keyed_one_at-fault-requires-clause-some g c =
    let i = c.loop-first.invariant in
    let m = c.in-Keyed.ensures i.some.whole i.some.part in
    expr_there c.args.nodes.now c.loop-first.place c.in-Keyed.value m.of_value i.some.within m.at_value

pub loop-first-smaller-in-Keyed : goal.loop-first-smaller-in-Keyed
loop-first-smaller-in-Keyed g c = let i = c.loop-first.invariant in let m = c.in-Keyed.ensures i.some.whole i.some.part in m.at_fields.before

pub loop-first-preserved-in-Keyed : goal.loop-first-preserved-in-Keyed
loop-first-preserved-in-Keyed g c =
    let env = g.N.Names.env c.args.names.now in
    let i = c.loop-first.invariant in
    let m = c.in-Keyed.ensures i.some.whole i.some.part in
    record {
      some = keyed_there c.args.nodes.now c.loop-first.place c.in-Keyed.fields m.of_fields i.some.within m.at_fields;
      rest = λ ks h.
          let r = i.rest ks h in
          let n = c.in-Keyed.ensures r.lefts r.there in
          valued_more env (fields_of env.declared c.args.base) c.args.nodes.now c.loop-first.place c.in-Keyed.fields (record { key = c.in-Keyed.key; value = n.of_value })
          n.of_fields c.keyed_one_at-fault.result c.loop-first.first c.earliest-first.result ks r n.made n.at_fields.is
          (c.keyed_one_at-fault.ensures n.of_value n.at_value.is) c.earliest-first.ensures;
    }

pub loop-first-smaller : goal.loop-first-smaller
loop-first-smaller g c = let i = c.loop-first.invariant in let m = c.in-PastKeyed.ensures i.some.whole i.some.part in m.at_fields.before

pub loop-first-preserved : goal.loop-first-preserved
loop-first-preserved g c =
    let i = c.loop-first.invariant in
    let m = c.in-PastKeyed.ensures i.some.whole i.some.part in
    record {
      some = keyed_there c.args.nodes.now c.loop-first.place c.in-PastKeyed.fields m.of_fields i.some.within m.at_fields;
      rest = λ ks h.
          let r = i.rest ks h in
          let n = c.in-PastKeyed.ensures r.lefts r.there in
          record { lefts = n.of_fields; there = n.at_fields.is; done = r.done; same = r.same ∙ ap (λ (ys : List DeclaredKeyed). ys ++ r.done) n.made; told = r.told };
    }
