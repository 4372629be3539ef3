-- What control does at a command: all that its shape depends on.
use Rattle.gv_lang.specs.declared.outline.Outline.{Outline}
use Rattle.gv_lang.specs.declared.outline.Outline.TheVariants as outline
use Rattle.gv_lang.specs.Tree.{Cmd, Do, If, Loop, Break, Continue, Return, Block}
use Rattle.gv_lang.specs.Plain.{body_of}

pub data Sketch : Type 0 where
  Plain : Sketch
  Branches : Block → Block → Sketch
  Loops : Block → Sketch
  Breaks : Sketch
  Repeats : Sketch
  Returns : Sketch

abbrev pub sketch : Cmd → Sketch
sketch (Do a place) = Plain
sketch (If e t f place) = Branches t f
sketch (Loop body place) = Loops body
sketch (Break place) = Breaks
sketch (Continue place) = Repeats
sketch (Return es place) = Returns

abbrev pub sketch_of : Outline → Sketch
sketch_of outline.Plain = Plain
sketch_of (outline.If then other) = Branches (body_of then.now) (body_of other.now)
sketch_of (outline.Loop body) = Loops (body_of body.now)
sketch_of outline.Break = Breaks
sketch_of outline.Continue = Repeats
sketch_of outline.Return = Returns
