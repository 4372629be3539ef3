-- What stays around a frame when it moves or steps.
use Rattle.std.proofs.Common.{◌≡◌, ℕ, ◌+◌, List, [], ◌∷◌, length, refl, arith}
use Rattle.gv_terms.specs.declared.value.Env.{Env}
use Rattle.gv_world.specs.Store.{Object, Store as World}
use Rattle.gv_lang.specs.Threads.{Frame}
use Rattle.gv_resources.specs.Pieces.{Piece, Fits}
use Rattle.gv_resources.specs.Ghost.{Ghost, Mode}
use Rattle.gv_resources.specs.Told.{told}
use Rattle.gv_seats.specs.Paths.{Path, Bracket, Closed, Opened, Used, after_step}
use Rattle.gv_seats.specs.Seats.{Proof, shape_of, Seat, Base, IsConsistent, Target, AreOwned, IsMarked, of_locks}
use Rattle.gv_seats.specs.Changes.{Nothing, Changed}
use Rattle.gv_seats.specs.Soundness.{Arrives}

pub still_closed : (b : Bracket) → after_step b ≡ Closed → b ≡ Closed
still_closed Closed e = refl
still_closed Opened e = absurd cc
still_closed Used e = absurd cc

-- ---- the record beside the state stays

pub unchanged : (g : Ghost) → Changed Nothing g g
unchanged g = record {
  history = refl;
  moves = refl;
  walk = λ never. refl;
  kept = λ call never. refl;
  book = λ book place never. refl;
  halves = λ never. refl;
  named = λ never. refl;
  shadow = λ disk address never. refl;
  mode = λ never. refl;
  booted = refl;
  calls = refl;
  since = refl;
  gone = refl;
}

pub arrived : (o : Proof) (w : World) (g : Ghost) (start : Env) (f : Frame) (h k : Path) (rest : Piece) → k.procedure ≡ h.procedure → Seat o w g start f k rest
    → Arrives o w g start f h (k ∷ []) rest Nothing
arrived o w g start f h k rest same seat = record { after = g; changed = unchanged g; path = k; place = 0; among = refl; procedure = same; seat = seat }

-- ---- the world stays but for objects

pub consistent_objects : (o : Proof) (w : World) (g : Ghost) (objects : List Object) → length objects ≡ length w.objects → IsConsistent o w g
    → IsConsistent o (record w { objects = objects }) g
consistent_objects o w g objects as_many c = record {
  fresh = λ object l. c.fresh object (let k = as_many in omega arith);
  blocks = record { as_many = c.blocks.as_many; sized = c.blocks.sized; same = c.blocks.same; long = c.blocks.long; whole = c.blocks.whole };
  failures = record { one = c.failures.one; of_two = c.failures.of_two };
  fields = c.fields;
  names = c.names;
  unguarded = c.unguarded;
  walked = c.walked;
}

-- a bracket serves one step
pub base_after : (o : Proof) (w : World) (g : Ghost) (m : Mode) (b : Bracket) (p pool : Piece) (locks : ℕ → Piece) (rest : Piece) → Base o w g m b p pool locks rest
    → Base o w g m (after_step b) p pool locks rest
base_after o w g m b p pool locks rest base = record {
  fits = base.fits;
  mode = base.mode;
  crash = λ shared closed. base.crash shared (still_closed b closed);
  free = base.free;
  consistent = base.consistent;
}

-- another piece that fits in its place
pub base_with : (o : Proof) (w : World) (g : Ghost) (m : Mode) (b : Bracket) (p later pool : Piece) (locks : ℕ → Piece) (rest : Piece) → Base o w g m b p pool locks rest
    → Fits (λ e. later e + (pool e + (of_locks w locks e + rest e))) (told (shape_of o) w g) → Base o w g m b later pool locks rest
base_with o w g m b p later pool locks rest base fits = record {
  fits = fits;
  mode = base.mode;
  crash = base.crash;
  free = base.free;
  consistent = base.consistent;
}

-- where marks were before, or are of what is named
pub still_marked : (w later : World) (rest : Piece) → ((t : Target) → IsMarked later t → IsMarked w t) → AreOwned w rest → AreOwned later rest
still_marked w later rest before still t m = still t (before t m)
