use Rattle.std.proofs.Common.{◌≡◌, true, false, sym, rules}
use Rattle.std.specs.Str.{bytes_eq}
use Rattle.gv_smallspec.proofs.OpsLemmas.{found_at, not_yet}
use Rattle.gv_smallspec.proofs.forms.place_of.Goals as goal

pub returns-then-eq : goal.returns-then-eq
returns-then-eq c =
    let n = c.args.name.now in
    let v = c.index-params-at.result in
    let same : bytes_eq v.name n ≡ true = search rules in
    let place = found_at n c.args.params.now c.loop-at.at v c.loop-at-test.true c.index-params-at.is same c.loop-at.invariant in
    let at : c.in_ok-at.at ≡ c.loop-at.at = search rules in
    rw at (sym place)

pub loop-at-preserved : goal.loop-at-preserved
loop-at-preserved c =
    let n = c.args.name.now in
    let v = c.index-params-at.result in
    let other : bytes_eq v.name n ≡ false = search rules in
    not_yet n c.args.params.now c.loop-at.at v c.loop-at-test.true c.index-params-at.is other c.loop-at.invariant
