-- The table of commands: their words, their files, and what is answered.
use Rattle.std.specs.Prelude.{◌≡◌, ℕ, Bool, true, false, List, [], ◌∷◌, ◌++◌, map, codes, string_bytes}
use Rattle.std.specs.Fmt.{decimal}
use Rattle.std.specs.Str.{bytes_eq}
use Rattle.std.specs.declared.string.String.{String}
use Rattle.std.specs.declared.alloc.Global.{Global}
use Rattle.gv_report.specs.declared.report.Report.{Report}
use Rattle.gv_report.specs.declared.format.Format.{Format}
use Rattle.gv_report.specs.declared.format.Format.TheVariants.{Text, Json}
use Rattle.gv_top.specs.declared.commands.Command as held
use Rattle.gv_top.specs.declared.commands.Command.TheVariants as held_command
use Rattle.gv_top.specs.Files.{Source}
use Rattle.gv_top.specs.Outcome.{ComesBy}
use Rattle.gv_top.specs.Check as check_of
use Rattle.gv_top.specs.Explain as explain_of
use Rattle.gv_top.specs.Replay as replay_of
use Rattle.gv_top.specs.Judge as judge_of
use Rattle.gv_top.specs.Judge.{AreFewNodes}

-- ---- the table: a row for each command

pub data Command : Type 0 where
  check : (package_name spec_name script_name : List ℕ) → Command
  explain : (spec_name history_name moves_name : List ℕ) → Command
  replay : (package_name spec_name schedule_name : List ℕ) → Command
  judge : (spec_name history_name : List ℕ) (most : ℕ) → Command

-- what the table has of a command
pub record Row : Type 1 where
  -- its own words
  pub words : List (List ℕ)
  -- the numbers among them are within their bounds
  pub in_range : Type 0
  -- the names of its files, in the order in which they are fetched
  pub files : List (List ℕ)
  -- the reports that it may give over what the files give, and the format before and after
  pub comes : Source → Format → Report → Format → Type 0

abbrev pub row_of : Command → Row
row_of (check package_name spec_name script_name) = record {
  words = codes "check" ∷ package_name ∷ spec_name ∷ script_name ∷ [];
  in_range = Unit {0};
  files = package_name ∷ spec_name ∷ script_name ∷ [];
  comes = ComesBy (λ source. check_of.Checks source package_name spec_name script_name) check_of.report_of;
}
row_of (explain spec_name history_name moves_name) = record {
  words = codes "explain" ∷ spec_name ∷ history_name ∷ moves_name ∷ [];
  in_range = Unit {0};
  files = spec_name ∷ history_name ∷ moves_name ∷ [];
  comes = ComesBy (λ source. explain_of.Explains source spec_name history_name moves_name) explain_of.report_of;
}
row_of (replay package_name spec_name schedule_name) = record {
  words = codes "replay" ∷ package_name ∷ spec_name ∷ schedule_name ∷ [];
  in_range = Unit {0};
  files = package_name ∷ spec_name ∷ schedule_name ∷ [];
  comes = ComesBy (λ source. replay_of.Replays source package_name spec_name schedule_name) replay_of.report_of;
}
row_of (judge spec_name history_name most) = record {
  words = codes "judge" ∷ spec_name ∷ history_name ∷ decimal most ∷ [];
  in_range = AreFewNodes most;
  files = spec_name ∷ history_name ∷ [];
  comes = ComesBy (λ source. judge_of.Judges source spec_name history_name most) judge_of.report_of;
}

abbrev pub words_of : Command → List (List ℕ)
words_of command = (row_of command).words

abbrev pub AreInRange : Command → Type 0
AreInRange command = (row_of command).in_range

abbrev pub files_of : Command → List (List ℕ)
files_of command = (row_of command).files

abbrev pub Comes : Source → Command → Format → Report → Format → Type 0
Comes source command = (row_of command).comes source

-- ---- words

-- the words' bytes
abbrev pub texts : List (String Global) → List (List ℕ)
texts words = map string_bytes words

-- a last word `json` is always that word
abbrev pub asks_for_json : List (List ℕ) → Bool
asks_for_json [] = false
asks_for_json (word ∷ []) = bytes_eq word (codes "json")
asks_for_json (word ∷ next ∷ words) = asks_for_json (next ∷ words)

-- the words behind a command's own
abbrev pub words_behind : Bool → List (List ℕ)
words_behind true = codes "json" ∷ []
words_behind false = []

-- these are all of a command's own words
pub record AreWordsOf (command : Command) (own : List (List ℕ)) : Type 0 where
  pub words_are : own ≡ words_of command
  pub in_range : AreInRange command

-- the words are a command's, and behind them perhaps `json`
pub record Asks (words : List (List ℕ)) (command : Command) : Type 0 where
  pub words_are : words ≡ words_of command ++ words_behind (asks_for_json words)
  pub in_range : AreInRange command

abbrev pub IsNoCommand : List (List ℕ) → Type 0
IsNoCommand words = (command : Command) → Asks words command → ⊥

-- the format that the words ask for: in JSON, where nothing is fetched yet
abbrev pub first_format : Bool → Format
first_format true = Json []
first_format false = Text

abbrev pub format_for : List (List ℕ) → Format
format_for words = first_format (asks_for_json words)

-- a command as the program holds it
abbrev pub named : held.Command → Command
named (held_command.Check names) = check names.«package».now names.spec.now names.script.now
named (held_command.Explain names) = explain names.spec.now names.history.now names.moves.now
named (held_command.Replay names) = replay names.«package».now names.spec.now names.schedule.now
named (held_command.Judge names) = judge names.spec.now names.history.now names.most
