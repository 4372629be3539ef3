use Rattle.std.proofs.Common.{◌∙◌, refl, sym, ap, subst, map, length, rules}
use Rattle.std.specs.Prelude.{FitsSigned}
use Rattle.std.specs.Int.{w128}
use Rattle.std.proofs.Math.IntN.{◌-ℤ◌}
use Rattle.std.proofs.lemmas.Int.{to_z-of_z}
use Rattle.gv_terms.specs.Store.{trees_at}
use Rattle.gv_certs.specs.Sums.{one_if}
use Rattle.gv_sums.specs.Reading.{comparison_at, numbered_at, constant_in, AreItems}
use Rattle.gv_sums.proofs.Numbers.{whole_row}
use Rattle.gv_sums.proofs.Parts.{count_is}
use Rattle.gv_sums.proofs.rows.row.Goals as goal

pub returns : goal.returns
returns c =
    let st = c.args.store.now in
    let us = trees_at st c.args.unknowns.now in
    let ns = c.in_ok-all.all.items in
    let fits : FitsSigned w128 c.row_constant-constant.result = search rules in
    record {
      told = whole_row st (trees_at st c.args.sums.now) us (comparison_at st c.args.comparison) c.args.comparison.same c.in_ok-summands.summands.items ns (length c.args.unknowns.now) c.from_vec.result _
          refl c.in_ok-summands.ensures.told (c.in_ok-all.ensures.told ∙ ap (map (numbered_at st us)) c.as_slice.ensures.value) (count_is st us c.args.unknowns.now (length c.args.unknowns.now) refl refl)
          (subst (AreItems (length c.args.unknowns.now) ns) (sym c.from_vec.ensures) (subst (λ xs. AreItems (length c.args.unknowns.now) xs c.in_ok-items.items.items) c.as_slice-3.ensures.value c.in_ok-items.ensures))
          (to_z-of_z w128 c.row_constant-constant.result fits ∙ c.row_constant-constant.ensures ∙ ap (λ xs. constant_in xs -ℤ one_if c.args.comparison.strict) c.as_slice-2.ensures.value);
    }
