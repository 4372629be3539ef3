-- What holds of the accesses of every store.
use Rattle.std.specs.Prelude.{◌≡◌, ℕ, List, length}
use Rattle.gv_base.specs.declared.answer.Answer.{Answer}
use Rattle.gv_base.specs.declared.answer.Answer.TheVariants.{Next}
use Rattle.gv_base.specs.declared.val.Val.{Val}
use Rattle.gv_world.specs.Store.{Store}
use Rattle.gv_world.specs.Cells.{begin_write, end_write}

abbrev pub IsNext : {A : Type 0} → Answer A → Type 0
IsNext {A} answer = (a : A) × (answer ≡ Next a)

-- a write that has begun can be ended in the store that it left, whatever is written
abbrev pub WritesEnd : Type 0
WritesEnd = (s begun : Store) (object index : ℕ) (items : List Val)
    → begin_write s object index (length items) ≡ Next begun → IsNext (end_write begun object index items)
