use Rattle.std.proofs.Common.{◌≡◌, ◌-◌, List, ◌∷◌, length, take, drop, subst}
use Rattle.gv_terms.specs.declared.value.Value.{Value}
use Rattle.gv_machine.proofs.Placed.{IsPlacing, placing_refused, split_first}
use Rattle.gv_machine.proofs.arguments.place_each.Goals as goal

pub returns-in-Err : goal.returns-in-Err
returns-in-Err c =
    let left = c.loop-rest.rest.now in
    let v = c.first-item.result in
    let is : left ≡ v ∷ take (length left - 1) (drop 1 left) = split_first left v c.in-len1-up.len_at_least c.first-item.is in
    let P : List Value → Type 0 = λ rest. IsPlacing c.args.store.now c.args.args.now c.args.values.now.items c.loop-rest.store rest c.loop-rest.values.items in
    placing_refused c.args.store.now c.loop-rest.store c.place.new.store c.args.args.now (take (length left - 1) (drop 1 left)) v c.args.values.now.items
    c.loop-rest.values.items c.in-Err.grow (subst P is c.loop-rest.invariant) c.in-Err.ensures
