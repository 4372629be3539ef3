-- What the shape of a command is by its outline.
use Rattle.std.proofs.Common.{◌≡◌, ℕ, suc, ◌+◌, Bool, true, false, ◌&&◌, ◌||◌, not, refl}
use Rattle.gv_lang.specs.Tree.{Cmd, Do, If, Loop, Break, Continue, Return}
use Rattle.gv_lang.specs.Graph.{size, command_size}
use Rattle.gv_lang.specs.Shape.{breaks, command_breaks, repeats, command_repeats, ends, command_ends, is_continue, ends_in_continue, loops_end, command_loops_end}
use Rattle.gv_lang.specs.Outlines.{Sketch, Branches, Loops, Breaks, Repeats, Returns, sketch}

abbrev pub sketch_size : Sketch → ℕ
sketch_size (Branches t f) = suc (size t + size f)
sketch_size (Loops body) = suc (size body)
sketch_size _ = 1

abbrev pub sketch_breaks : Sketch → Bool
sketch_breaks Breaks = true
sketch_breaks (Branches t f) = breaks t || breaks f
sketch_breaks _ = false

abbrev pub sketch_repeats : Sketch → Bool
sketch_repeats Repeats = true
sketch_repeats (Branches t f) = repeats t || repeats f
sketch_repeats _ = false

abbrev pub sketch_ends : Sketch → Bool
sketch_ends Returns = true
sketch_ends (Loops body) = not (breaks body)
sketch_ends (Branches t f) = ends t && ends f
sketch_ends _ = false

abbrev pub sketch_continues : Sketch → Bool
sketch_continues Repeats = true
sketch_continues _ = false

abbrev pub sketch_loops_end : Sketch → Bool
sketch_loops_end (Branches t f) = loops_end t && loops_end f
sketch_loops_end (Loops body) = ends_in_continue body && loops_end body
sketch_loops_end _ = true

pub size_by : (c : Cmd) → command_size c ≡ sketch_size (sketch c)
size_by (Do a place) = refl
size_by (If e t f place) = refl
size_by (Loop body place) = refl
size_by (Break place) = refl
size_by (Continue place) = refl
size_by (Return es place) = refl

pub breaks_by : (c : Cmd) → command_breaks c ≡ sketch_breaks (sketch c)
breaks_by (Do a place) = refl
breaks_by (If e t f place) = refl
breaks_by (Loop body place) = refl
breaks_by (Break place) = refl
breaks_by (Continue place) = refl
breaks_by (Return es place) = refl

pub repeats_by : (c : Cmd) → command_repeats c ≡ sketch_repeats (sketch c)
repeats_by (Do a place) = refl
repeats_by (If e t f place) = refl
repeats_by (Loop body place) = refl
repeats_by (Break place) = refl
repeats_by (Continue place) = refl
repeats_by (Return es place) = refl

pub ends_by : (c : Cmd) → command_ends c ≡ sketch_ends (sketch c)
ends_by (Do a place) = refl
ends_by (If e t f place) = refl
ends_by (Loop body place) = refl
ends_by (Break place) = refl
ends_by (Continue place) = refl
ends_by (Return es place) = refl

pub continues_by : (c : Cmd) → is_continue c ≡ sketch_continues (sketch c)
continues_by (Do a place) = refl
continues_by (If e t f place) = refl
continues_by (Loop body place) = refl
continues_by (Break place) = refl
continues_by (Continue place) = refl
continues_by (Return es place) = refl

pub loops_end_by : (c : Cmd) → command_loops_end c ≡ sketch_loops_end (sketch c)
loops_end_by (Do a place) = refl
loops_end_by (If e t f place) = refl
loops_end_by (Loop body place) = refl
loops_end_by (Break place) = refl
loops_end_by (Continue place) = refl
loops_end_by (Return es place) = refl

pub ruleset outlines = (size_by, breaks_by, repeats_by, ends_by, continues_by, loops_end_by)
