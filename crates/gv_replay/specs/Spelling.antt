-- What lines are, by their tokens: the form of each kind of line, and lines one after another.
use Rattle.std.specs.Prelude.{◌≡◌, ℕ, Bool, true, false, Some, None, List, [], ◌∷◌, ◌++◌, codes}
use Rattle.std.specs.List.{AllByRecursion}
use Rattle.gv_replay.specs.declared.argument.Argument.{Argument}
use Rattle.gv_replay.specs.declared.argument.Number.{Number}
use Rattle.gv_replay.specs.declared.line.Line.{Line}
use Rattle.gv_replay.specs.declared.line.Line.TheVariants as line
use Rattle.gv_replay.specs.declared.line.TextKind.{TextKind}
use Rattle.gv_replay.specs.declared.line.TextKind.TheVariants as text_kind
use Rattle.gv_replay.specs.declared.part.OneByte.{OneByte}
use Rattle.gv_replay.specs.declared.sight.Sight.{Sight}
use Rattle.gv_replay.specs.declared.what.What.TheVariants as what
use Rattle.gv_replay.specs.Parts.{number_in, plain_in, byte_in, is_star, single, times}

abbrev pub IsWord : List ℕ → Sight → Type 0
IsWord w s = s.what ≡ what.Word w

-- whether lines of such a text name calls by numbers
abbrev pub numbers_calls : TextKind → Bool
numbers_calls text_kind.History = true
numbers_calls text_kind.Moves = true
numbers_calls text_kind.Schedule = false

-- an argument or a reply: one token, or a byte, `*` and a number
pub data IsValue : List Sight → Argument → Type 0 where
  alone : (s : Sight) (a : Argument) → plain_in s ≡ Some a → IsValue (s ∷ []) a
  one_byte : (s : Sight) (b : OneByte) → byte_in s ≡ Some b → IsValue (s ∷ []) (single b)
  byte_times : (s t u : Sight) (b : OneByte) (n : Number) → byte_in s ≡ Some b → is_star t.what ≡ true → number_in u ≡ Some n
      → IsValue (s ∷ t ∷ u ∷ []) (times b n)

-- any number of arguments
pub data AreValues : List Sight → List Argument → Type 0 where
  no_value : AreValues [] []
  value_and : {ss ts : List Sight} (a : Argument) {rest : List Argument} → IsValue ss a → AreValues ts rest → AreValues (ss ++ ts) (a ∷ rest)

-- any number of choices
pub data AreChoices : List Sight → List ℕ → Type 0 where
  no_choice : AreChoices [] []
  choice_and : (s : Sight) {ss : List Sight} (n : Number) {rest : List ℕ} → number_in s ≡ Some n → AreChoices ss rest → AreChoices (s ∷ ss) (n.value ∷ rest)

-- the tokens of one line
pub data IsLine (kind : TextKind) : List Sight → Line → Type 0 where
  -- call K OP ARGS
  a_call : (w k o : Sight) (n : Number) (op : List ℕ) {ss : List Sight} (args : List Argument)
      → numbers_calls kind ≡ true → IsWord (codes "call") w → number_in k ≡ Some n → IsWord op o → AreValues ss args
      → IsLine kind (w ∷ k ∷ o ∷ ss) (line.Call (record { at = w.at; number = Some n; op_at = o.at; op = op; args = args }))
  -- call OP ARGS
  a_start : (w o : Sight) (op : List ℕ) {ss : List Sight} (args : List Argument) → kind ≡ text_kind.Schedule → IsWord (codes "call") w → IsWord op o
      → AreValues ss args
      → IsLine kind (w ∷ o ∷ ss) (line.Call (record { at = w.at; number = None; op_at = o.at; op = op; args = args }))
  -- answer K
  an_answer : (w k : Sight) (n : Number) → numbers_calls kind ≡ true → IsWord (codes "answer") w → number_in k ≡ Some n
      → IsLine kind (w ∷ k ∷ []) (line.Answer n None)
  -- answer K REPLY
  a_reply : (w k : Sight) (n : Number) {ss : List Sight} (a : Argument) → numbers_calls kind ≡ true → IsWord (codes "answer") w → number_in k ≡ Some n
      → IsValue ss a
      → IsLine kind (w ∷ k ∷ ss) (line.Answer n (Some a))
  -- act K CHOICES
  an_act : (w k : Sight) (n : Number) {ss : List Sight} (choices : List ℕ) → kind ≡ text_kind.Moves → IsWord (codes "act") w → number_in k ≡ Some n
      → AreChoices ss choices
      → IsLine kind (w ∷ k ∷ ss) (line.Act n choices)
  a_crash : (w : Sight) → IsWord (codes "crash") w → IsLine kind (w ∷ []) (line.Crash w.at)
  -- boot in a history, boot CHOICES among moves
  a_boot : (w : Sight) → kind ≡ text_kind.History → IsWord (codes "boot") w → IsLine kind (w ∷ []) (line.Boot [])
  a_choosing_boot : (w : Sight) {ss : List Sight} (choices : List ℕ) → kind ≡ text_kind.Moves → IsWord (codes "boot") w → AreChoices ss choices
      → IsLine kind (w ∷ ss) (line.Boot choices)
  an_end : (w : Sight) → kind ≡ text_kind.History → IsWord (codes "end") w → IsLine kind (w ∷ []) line.End
  -- step T
  a_step : (w t : Sight) (thread : Number) → kind ≡ text_kind.Schedule → IsWord (codes "step") w → number_in t ≡ Some thread
      → IsLine kind (w ∷ t ∷ []) (line.Step w.at thread None)
  -- step T COUNT
  steps : (w t c : Sight) (thread count : Number) → kind ≡ text_kind.Schedule → IsWord (codes "step") w → number_in t ≡ Some thread → number_in c ≡ Some count
      → IsLine kind (w ∷ t ∷ c ∷ []) (line.Step w.at thread (Some count))
  -- fail D
  a_fail : (w d : Sight) (disk : Number) → kind ≡ text_kind.Schedule → IsWord (codes "fail") w → number_in d ≡ Some disk
      → IsLine kind (w ∷ d ∷ []) (line.Fail w.at disk)
  -- grow T X
  a_grow : (w t x : Sight) (thread extra : Number) → kind ≡ text_kind.Schedule → IsWord (codes "grow") w → number_in t ≡ Some thread → number_in x ≡ Some extra
      → IsLine kind (w ∷ t ∷ x ∷ []) (line.Grow w.at thread extra)

-- these tokens stand on one line of the text
abbrev pub OnOneLine : List Sight → Type 0
OnOneLine [] = Unit {0}
OnOneLine (s ∷ ss) = AllByRecursion (λ t. t.starts ≡ false) ss

-- these begin a line of the text, if there are any
abbrev pub StartLine : List Sight → Type 0
StartLine [] = Unit {0}
StartLine (s ∷ ss) = s.starts ≡ true

-- The tokens of a whole text: one line after another, each on a line of the text; nothing stands behind `end`.
pub data AreLines (kind : TextKind) : List Sight → List Line → Type 0 where
  no_line : AreLines kind [] []
  line_and : {ss ts : List Sight} (l : Line) {rest : List Line} → IsLine kind ss l → OnOneLine ss → StartLine ts → (l ≡ line.End → ts ≡ [])
      → AreLines kind ts rest
      → AreLines kind (ss ++ ts) (l ∷ rest)
