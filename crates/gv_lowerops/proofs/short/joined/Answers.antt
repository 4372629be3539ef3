use Rattle.std.proofs.Common.{◌≡◌, ℕ, ◌+◌, [], length, IfOk, subst, arith, rules}
use Rattle.std.proofs.lemmas.Grind.{common_steps}
use Rattle.gv_lowering.specs.Operands as lower
use Rattle.gv_lowerops.specs.Tails.{IsTailBehind, IsReadBehind}
use Rattle.gv_lowerops.proofs.Steady.{joined_both, joined_guarded}
use Rattle.gv_lowerops.proofs.Wholes.{nothing_read, something_read, count_aside}
use Rattle.gv_lowerops.proofs.short.joined.Goals as goal

pub returns-then-is_empty : goal.returns-then-is_empty
returns-then-is_empty g c = λ old mid block r s h set k steady.
    let d = g.P.Places.context c.args.places.now in
    let n = length old.temps.items in
    let m = length block.temps.items in
    let empty : c.args.right.draft.cmds.items ≡ [] = first_of (search rules, grind (arith, common_steps, c.is_empty.ensures, c.if-is_empty.true)) in
    let none = nothing_read block c.args.right (s m) set.cmds k empty in
    subst (λ (t : lower.Tail). IfOk c.unguarded.result (λ made. IsTailBehind old made t)) (joined_both d c.args.place n c.args.sign r s m steady none)
    (c.unguarded.ensures old mid block c.args.used r (s m) h set k (steady m none).temps)

pub returns-else-is_empty : goal.returns-else-is_empty
returns-else-is_empty g c = λ old mid block r s h set k steady.
    let d = g.P.Places.context c.args.places.now in
    let n = length old.temps.items in
    let m = n + length r.temps + 1 in
    let some : c.args.right.draft.cmds.items ≡ [] → ⊥ = λ empty. first_of (search rules, grind (arith, common_steps, c.is_empty.ensures, c.if-is_empty.false, empty)) in
    let moved : IsReadBehind block c.args.right (s m) = subst (λ (x : ℕ). IsReadBehind block c.args.right (s x)) (count_aside old mid block c.args.left c.args.before.items c.args.used r h set) k in
    subst (λ (t : lower.Tail). IfOk c.guarded.result (λ made. IsTailBehind old made t))
    (joined_guarded d c.args.place n c.args.sign r s c.requires steady (something_read block c.args.right (s m) set.cmds moved some))
    (c.guarded.ensures old mid block r (s m) h set moved)
