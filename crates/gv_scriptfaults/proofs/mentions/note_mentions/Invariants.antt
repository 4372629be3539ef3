use Rattle.std.proofs.Common.{take}
use Rattle.gv_scriptfaults.specs.Noted.{AreMentions}
use Rattle.gv_scriptfaults.proofs.mentions.note_mentions.Given as goal

abbrev pub invariant-loop-mention : goal.invariant-loop-mention
invariant-loop-mention l = AreMentions l.text l.known l.outside l.cuts (take l.mention-index l.mentions) l.fn.first l.first
