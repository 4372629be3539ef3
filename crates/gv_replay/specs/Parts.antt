-- Which tokens a line may have, one after another.
use Rattle.std.specs.Prelude.{ℕ, Bool, true, false, if◌then◌else◌, Option, Some, None, option_map, List, [], ◌∷◌, ◌++◌, codes}
use Rattle.std.specs.Str.{bytes_eq}
use Rattle.gv_replay.specs.declared.argument.Argument.{Argument}
use Rattle.gv_replay.specs.declared.argument.Number.{Number}
use Rattle.gv_replay.specs.declared.argument.Written.{Written}
use Rattle.gv_replay.specs.declared.argument.Written.TheVariants as written
use Rattle.gv_replay.specs.declared.line.CallLine.{CallLine}
use Rattle.gv_replay.specs.declared.line.Line.{Line}
use Rattle.gv_replay.specs.declared.line.Line.TheVariants as line
use Rattle.gv_replay.specs.declared.line.TextKind.{TextKind}
use Rattle.gv_replay.specs.declared.line.TextKind.TheVariants as text_kind
use Rattle.gv_replay.specs.declared.part.OneByte.{OneByte}
use Rattle.gv_replay.specs.declared.part.Part.{Part}
use Rattle.gv_replay.specs.declared.part.Part.TheVariants as part
use Rattle.gv_replay.specs.declared.sight.Sight.{Sight}
use Rattle.gv_replay.specs.declared.what.What.{What}
use Rattle.gv_replay.specs.declared.what.What.TheVariants as what

-- ---- what one token is

abbrev pub number_by : ℕ → What → Option Number
number_by at (what.Number decimal n) = Some (record { at = at; value = n })
number_by at (what.Word w) = None
number_by at what.Large = None
number_by at (what.Byte b) = None
number_by at (what.Bytes bs) = None
number_by at what.Star = None
number_by at what.Other = None

-- a number below 2^64
abbrev pub number_in : Sight → Option Number
number_in s = number_by s.at s.what

-- `true` or `false`
abbrev pub truth_of : List ℕ → Option Bool
truth_of w = if bytes_eq w (codes "true") then Some true else (if bytes_eq w (codes "false") then Some false else None)

abbrev pub written_by : What → Option Written
written_by (what.Number true n) = Some (written.Word n)
written_by (what.Number false n) = None
written_by (what.Bytes bs) = Some (written.Bytes bs)
written_by (what.Word w) = option_map written.Bool (truth_of w)
written_by what.Large = None
written_by (what.Byte b) = None
written_by what.Star = None
written_by what.Other = None

abbrev pub written_at : ℕ → Written → Argument
written_at at w = record { at = at; written = w }

-- an argument of one token: a decimal number, a truth value, or bytes, but no single byte
abbrev pub plain_in : Sight → Option Argument
plain_in s = option_map (written_at s.at) (written_by s.what)

abbrev pub byte_by : ℕ → What → Option OneByte
byte_by at (what.Byte b) = Some (record { at = at; byte = b })
byte_by at (what.Number decimal n) = None
byte_by at (what.Word w) = None
byte_by at what.Large = None
byte_by at (what.Bytes bs) = None
byte_by at what.Star = None
byte_by at what.Other = None

-- a literal of one byte, which a `*` may follow
abbrev pub byte_in : Sight → Option OneByte
byte_in s = byte_by s.at s.what

abbrev pub is_star : What → Bool
is_star what.Star = true
is_star (what.Number decimal n) = false
is_star (what.Word w) = false
is_star what.Large = false
is_star (what.Byte b) = false
is_star (what.Bytes bs) = false
is_star what.Other = false

-- a byte by itself, and as often as a number says
abbrev pub single : OneByte → Argument
single b = written_at b.at (written.Bytes (b.byte ∷ []))

abbrev pub times : OneByte → Number → Argument
times b n = written_at b.at (written.Repeated b.byte n)

-- ---- the tokens behind one another

-- the words that stand in texts of one kind
abbrev pub own_word : TextKind → ℕ → List ℕ → Option Part
own_word text_kind.History at w =
    if bytes_eq w (codes "answer") then Some part.Answer else (
    if bytes_eq w (codes "boot") then Some (part.Whole (line.Boot [])) else (
    if bytes_eq w (codes "end") then Some (part.Whole line.End) else None))
own_word text_kind.Moves at w =
    if bytes_eq w (codes "answer") then Some part.Answer else (
    if bytes_eq w (codes "boot") then Some (part.Booting []) else (
    if bytes_eq w (codes "act") then Some part.Act else None))
own_word text_kind.Schedule at w =
    if bytes_eq w (codes "step") then Some (part.Step at) else (
    if bytes_eq w (codes "fail") then Some (part.Fail at) else (
    if bytes_eq w (codes "grow") then Some (part.Grow at) else None))

-- `call`, behind which the name of the operation stands at once where calls have no numbers
abbrev pub calling : TextKind → ℕ → Part
calling text_kind.History at = part.Call at
calling text_kind.Moves at = part.Call at
calling text_kind.Schedule at = part.Numbered at None

abbrev pub first_word : TextKind → ℕ → List ℕ → Option Part
first_word kind at w =
    if bytes_eq w (codes "call") then Some (calling kind at) else (
    if bytes_eq w (codes "crash") then Some (part.Whole (line.Crash at)) else own_word kind at w)

abbrev pub first_by : TextKind → ℕ → What → Option Part
first_by kind at (what.Word w) = first_word kind at w
first_by kind at (what.Number decimal n) = None
first_by kind at what.Large = None
first_by kind at (what.Byte b) = None
first_by kind at (what.Bytes bs) = None
first_by kind at what.Star = None
first_by kind at what.Other = None

-- the front of a line that is its first token, where it may be
abbrev pub first : TextKind → Sight → Option Part
first kind s = first_by kind s.at s.what

abbrev pub named_by : ℕ → Option Number → ℕ → What → Option Part
named_by at number op_at (what.Word w) = Some (part.Arguments (record { at = at; number = number; op_at = op_at; op = w; args = [] }))
named_by at number op_at (what.Number decimal n) = None
named_by at number op_at what.Large = None
named_by at number op_at (what.Byte b) = None
named_by at number op_at (what.Bytes bs) = None
named_by at number op_at what.Star = None
named_by at number op_at what.Other = None

abbrev pub named : ℕ → Option Number → Sight → Option Part
named at number s = named_by at number s.at s.what

abbrev pub with_argument : CallLine → Argument → CallLine
with_argument call a = record call { args = call.args ++ a ∷ [] }

-- one more argument, or its first token
abbrev pub argument_by : CallLine → Option OneByte → Option Argument → Option Part
argument_by call (Some b) a = Some (part.ArgumentByte call b)
argument_by call None a = option_map (λ x. part.Arguments (with_argument call x)) a

abbrev pub argument : CallLine → Sight → Option Part
argument call s = argument_by call (byte_in s) (plain_in s)

abbrev pub behind_byte : CallLine → OneByte → Sight → Option Part
behind_byte call last s = if is_star s.what then Some (part.ArgumentStar call last) else argument (with_argument call (single last)) s

abbrev pub repeated : CallLine → OneByte → Sight → Option Part
repeated call last s = option_map (λ n. part.Arguments (with_argument call (times last n))) (number_in s)

abbrev pub answered : Number → Argument → Part
answered number a = part.Whole (line.Answer number (Some a))

abbrev pub reply_by : Number → Option OneByte → Option Argument → Option Part
reply_by number (Some b) a = Some (part.ReplyByte number b)
reply_by number None a = option_map (answered number) a

abbrev pub reply : Number → Sight → Option Part
reply number s = reply_by number (byte_in s) (plain_in s)

abbrev pub starred : Number → OneByte → Sight → Option Part
starred number last s = if is_star s.what then Some (part.ReplyStar number last) else None

abbrev pub repeated_reply : Number → OneByte → Sight → Option Part
repeated_reply number last s = option_map (λ n. answered number (times last n)) (number_in s)

abbrev pub numbered_part : ℕ → Number → Part
numbered_part at n = part.Numbered at (Some n)

abbrev pub numbered : ℕ → Sight → Option Part
numbered at s = option_map (numbered_part at) (number_in s)

abbrev pub replying : Sight → Option Part
replying s = option_map part.Replying (number_in s)

-- one more choice
abbrev pub act_part : Number → Part
act_part n = part.Acting n []

abbrev pub acting : Sight → Option Part
acting s = option_map act_part (number_in s)

abbrev pub more_choices : List ℕ → Number → List ℕ
more_choices choices n = choices ++ n.value ∷ []

abbrev pub chosen : (List ℕ → Part) → List ℕ → Sight → Option Part
chosen front choices s = option_map (λ n. front (more_choices choices n)) (number_in s)

-- the lines of schedules
abbrev pub stepping : ℕ → Sight → Option Part
stepping at s = option_map (part.Stepping at) (number_in s)

abbrev pub counted_part : ℕ → Number → Number → Part
counted_part at thread n = part.Whole (line.Step at thread (Some n))

abbrev pub counted : ℕ → Number → Sight → Option Part
counted at thread s = option_map (counted_part at thread) (number_in s)

abbrev pub failing_part : ℕ → Number → Part
failing_part at disk = part.Whole (line.Fail at disk)

abbrev pub failing : ℕ → Sight → Option Part
failing at s = option_map (failing_part at) (number_in s)

abbrev pub growing : ℕ → Sight → Option Part
growing at s = option_map (part.Growing at) (number_in s)

abbrev pub grown_part : ℕ → Number → Number → Part
grown_part at thread extra = part.Whole (line.Grow at thread extra)

abbrev pub grown : ℕ → Number → Sight → Option Part
grown at thread s = option_map (grown_part at thread) (number_in s)

-- the front of a line with one more token, where it may stand there
abbrev pub next : Part → Sight → Option Part
next (part.Call at) s = numbered at s
next part.Answer s = replying s
next part.Act s = acting s
next (part.Acting number choices) s = chosen (part.Acting number) choices s
next (part.Booting choices) s = chosen part.Booting choices s
next (part.Numbered at number) s = named at number s
next (part.Arguments call) s = argument call s
next (part.ArgumentByte call last) s = behind_byte call last s
next (part.ArgumentStar call last) s = repeated call last s
next (part.Replying number) s = reply number s
next (part.ReplyByte number last) s = starred number last s
next (part.ReplyStar number last) s = repeated_reply number last s
next (part.Step at) s = stepping at s
next (part.Stepping at thread) s = counted at thread s
next (part.Fail at) s = failing at s
next (part.Grow at) s = growing at s
next (part.Growing at thread) s = grown at thread s
next (part.Whole l) s = None

-- the line, where its front may be all of it
abbrev pub line_of : Part → Option Line
line_of (part.Call at) = None
line_of part.Answer = None
line_of part.Act = None
line_of (part.Acting number choices) = Some (line.Act number choices)
line_of (part.Booting choices) = Some (line.Boot choices)
line_of (part.Numbered at number) = None
line_of (part.Arguments call) = Some (line.Call call)
line_of (part.ArgumentByte call last) = Some (line.Call (with_argument call (single last)))
line_of (part.ArgumentStar call last) = None
line_of (part.Replying number) = Some (line.Answer number None)
line_of (part.ReplyByte number last) = Some (line.Answer number (Some (single last)))
line_of (part.ReplyStar number last) = None
line_of (part.Step at) = None
line_of (part.Stepping at thread) = Some (line.Step at thread None)
line_of (part.Fail at) = None
line_of (part.Grow at) = None
line_of (part.Growing at thread) = None
line_of (part.Whole l) = Some l
