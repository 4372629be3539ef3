use Rattle.std.proofs.Common.{arith, reverse}
use Rattle.std.proofs.lemmas.List.{length-reverse}
use Rattle.gv_gonames.proofs.Kept.{blocks_room, literals_room}
use Rattle.gv_gonames.proofs.locals.Locals.open_literal.Goals as goal

pub overflow_add-self : goal.overflow_add-self
overflow_add-self c = omega (arith, c.self.invariant.blocks_are, blocks_room (reverse c.self.inside.trail.items), length-reverse c.self.inside.trail.items, c.in_ok-push.ensures.upper_bound, c.in_ok-push.ensures.len, c.in_ok-reserve.ensures.len)

pub overflow_add-self-2 : goal.overflow_add-self-2
overflow_add-self-2 c = omega (arith, c.self.invariant.literals_are, literals_room (reverse c.self.inside.trail.items), length-reverse c.self.inside.trail.items, c.in_ok-push.ensures.upper_bound, c.in_ok-push.ensures.len, c.in_ok-reserve.ensures.len)
