use Rattle.std.proofs.Common.{arith, reverse}
use Rattle.std.proofs.lemmas.List.{length-reverse}
use Rattle.gv_gonames.proofs.Kept.{blocks_room}
use Rattle.gv_gonames.proofs.locals.Locals.open.Goals as goal

pub overflow_add-self : goal.overflow_add-self
overflow_add-self c = omega (arith, c.self.invariant.blocks_are, blocks_room (reverse c.self.inside.trail.items), length-reverse c.self.inside.trail.items, c.in_ok-push.ensures.upper_bound, c.in_ok-push.ensures.len, c.in_ok-push.ensures.lower_bound)
