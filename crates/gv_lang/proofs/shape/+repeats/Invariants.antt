use Rattle.std.proofs.Common.{◌≡◌, ◌+◌, ◌*◌, ◌≤◌, length}
use Rattle.gv_lang.specs.Plain.{tree_of, body_of}
use Rattle.gv_lang.specs.Graph.{size, command_size}
use Rattle.gv_lang.specs.Shape.{repeats}
use Rattle.gv_lang.proofs.shape.+repeats.Given as goal

abbrev pub decreases-command_repeats : goal.decreases-command_repeats
decreases-command_repeats l = 2 * command_size (tree_of l.c.now)

abbrev pub decreases-repeats : goal.decreases-repeats
decreases-repeats l = 2 * size (body_of l.cs.now) + 1

abbrev pub invariant-repeats-loop-rest : goal.invariant-repeats-loop-rest
invariant-repeats-loop-rest l = record {
  same : repeats (body_of l.rest) ≡ repeats (body_of l.initial.rest);
  smaller : size (body_of l.rest) ≤ size (body_of l.cs);
}

abbrev pub decreases-repeats-loop-rest : goal.decreases-repeats-loop-rest
decreases-repeats-loop-rest l = length l.rest
