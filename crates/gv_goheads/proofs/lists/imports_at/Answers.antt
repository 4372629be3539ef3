use Rattle.std.proofs.Common.{◌++◌, reverse, sym, ap, ◌∙◌}
use Rattle.gv_gotypes.specs.Declarations.{all_imports}
use Rattle.gv_goheads.proofs.Splits.{imported_more, imports_there, names_there}
use Rattle.gv_goheads.proofs.lists.imports_at.Goals as goal

pub push_names-requires-clause-some : goal.push_names-requires-clause-some
push_names-requires-clause-some c =
    let i = c.loop-imports.invariant in
    let m = c.in-Import.ensures i.some.whole i.some.part in
    names_there c.args.nodes.now c.loop-imports.place c.in-Import.texts m.of_texts i.some.within m.at_texts

pub loop-imports-smaller : goal.loop-imports-smaller
loop-imports-smaller c = let i = c.loop-imports.invariant in (c.in-Import.ensures i.some.whole i.some.part).at_imports.before

pub loop-imports-preserved : goal.loop-imports-preserved
loop-imports-preserved c =
    let i = c.loop-imports.invariant in
    let nodes = c.args.nodes.now in
    let m = c.in-Import.ensures i.some.whole i.some.part in
    record {
      some = imports_there nodes c.loop-imports.place c.in-Import.imports m.of_imports i.some.within m.at_imports;
      rest = λ tss h.
          let r = i.rest tss h in
          let n = c.in-Import.ensures r.lefts r.there in
          imported_more nodes c.loop-imports.place c.in-Import.imports (reverse c.loop-imports.paths.items) _ n.of_texts tss n.of_imports r n.made n.at_imports.is
          (c.in_ok-push_names-in-Import.ensures n.of_texts n.at_texts.is);
    }

pub returns : goal.returns
returns c = λ tss h.
    let r = c.loop-imports.invariant.rest tss h in
    c.reverse.ensures.items ∙ sym (r.same ∙ ap (λ uss. all_imports uss ++ reverse c.loop-imports.paths.items) (c.in-NoImports.ensures r.lefts r.there))
