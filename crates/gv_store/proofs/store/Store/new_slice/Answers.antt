use Rattle.std.proofs.Common.{refl, rules}
use Rattle.gv_world.specs.Slices.{new_cell}
use Rattle.gv_store.proofs.Rooms.{room_equal}
use Rattle.gv_store.proofs.store.Store.new_slice.Goals as goal

pub returns-in-Err : goal.returns-in-Err
returns-in-Err c = (room_equal c.args.self.now (new_cell c.args.zero) c.args.count (search rules), refl)
