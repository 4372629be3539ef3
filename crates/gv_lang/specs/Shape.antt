-- Bodies whose every path ends in a Return.
use Rattle.std.specs.Prelude.{Bool, true, false, ◌&&◌, ◌||◌, not}
use Rattle.gv_lang.specs.Tree.{Cmd, Do, If, Loop, Break, Continue, Return, Block, finish, next}

-- whether there is a Break, or a Continue, of the loop that the block stands in
abbrev mutual
  pub breaks : Block → Bool
  breaks finish = false
  breaks (next c b) = command_breaks c || breaks b

  pub command_breaks : Cmd → Bool
  command_breaks (Break place) = true
  command_breaks (If e t f place) = breaks t || breaks f
  command_breaks (Do a place) = false
  command_breaks (Loop body place) = false
  command_breaks (Continue place) = false
  command_breaks (Return es place) = false

abbrev mutual
  pub repeats : Block → Bool
  repeats finish = false
  repeats (next c b) = command_repeats c || repeats b

  pub command_repeats : Cmd → Bool
  command_repeats (Continue place) = true
  command_repeats (If e t f place) = repeats t || repeats f
  command_repeats (Do a place) = false
  command_repeats (Loop body place) = false
  command_repeats (Break place) = false
  command_repeats (Return es place) = false

-- whether no path goes past the end: the last command is a Return, a Loop without a Break of its own, or an If
-- whose two branches end so
abbrev mutual
  pub ends : Block → Bool
  ends finish = false
  ends (next c finish) = command_ends c
  ends (next c (next d b)) = ends (next d b)

  pub command_ends : Cmd → Bool
  command_ends (Return es place) = true
  command_ends (Loop body place) = not (breaks body)
  command_ends (If e t f place) = ends t && ends f
  command_ends (Do a place) = false
  command_ends (Break place) = false
  command_ends (Continue place) = false

abbrev pub is_continue : Cmd → Bool
is_continue (Continue place) = true
is_continue _ = false

abbrev pub ends_in_continue : Block → Bool
ends_in_continue finish = false
ends_in_continue (next c finish) = is_continue c
ends_in_continue (next c (next d b)) = ends_in_continue (next d b)

-- whether each Loop's body ends in Continue
abbrev mutual
  pub loops_end : Block → Bool
  loops_end finish = true
  loops_end (next c b) = command_loops_end c && loops_end b

  pub command_loops_end : Cmd → Bool
  command_loops_end (If e t f place) = loops_end t && loops_end f
  command_loops_end (Loop body place) = ends_in_continue body && loops_end body
  command_loops_end (Do a place) = true
  command_loops_end (Break place) = true
  command_loops_end (Continue place) = true
  command_loops_end (Return es place) = true

-- whether each Break and Continue stands within a Loop, each Loop's body ends in Continue, and the body itself
-- in a way out
abbrev pub is_shaped : Block → Bool
is_shaped body = not (breaks body) && not (repeats body) && loops_end body && ends body
