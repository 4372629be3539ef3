-- An object as the definitions have it.
use Rattle.gv_world.specs.Store.{Object, Cells, Map, Mutex}
use Rattle.gv_cells.specs.declared.object.Kind.{Kind}
use Rattle.gv_cells.specs.declared.object.Kind.TheVariants as kind

abbrev pub object_of : Kind → Object
object_of (kind.Cells cells) = Cells cells.items
object_of (kind.Map entries marked) = Map entries marked
object_of (kind.Mutex locked) = Mutex locked
