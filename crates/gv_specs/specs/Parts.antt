-- The parts of a specification as they are read.
use Rattle.std.specs.Prelude.{ℕ, List, []}
use Rattle.gv_specread.specs.declared.tree.SpecTree.{SpecTree}
use Rattle.gv_specs.specs.declared.reading.Parts.{Parts}
use Rattle.gv_specs.specs.Names.{field_named, with_fields}
use Rattle.gv_specs.specs.Spelled.{AreDisks, IsField, IsOp}
use Rattle.gv_specs.specs.Told.{AreEach}
use Rattle.gv_specs.specs.Bodies.{IsMadeBody}

-- the parts are those of a tree
pub record IsMade (text : List ℕ) (t : SpecTree) (p : Parts) : Type 0 where
  pub its_disks : AreDisks t.disks p.disks.count p.disks.blocks
  pub fields : AreEach (λ i f g. IsField text p.store f g) t.fields p.fields
  pub ops : AreEach (λ i o q. IsOp text p.store (field_named text t.fields) (with_fields text [] t.fields) o q) t.ops p.ops
  pub crash : IsMadeBody text p.store (field_named text t.fields) (with_fields text [] t.fields) t.crash p.crash
