-- Texts that were made, as the report of them is written.
use Rattle.std.specs.Prelude.{ℕ, List, ◌++◌, codes}
use Rattle.std.specs.Fmt.{decimal}
use Rattle.gv_report.specs.declared.made.Made.{Made}

-- how many bytes each of the three texts has, and how many commands the script has
abbrev pub sizes_line : Made → List ℕ
sizes_line made =
    decimal made.package_bytes ++ codes " " ++ decimal made.spec_bytes ++ codes " " ++ decimal made.script_bytes ++ codes " " ++ decimal made.commands

-- which texts they are, that they are accepted, and their sizes
abbrev pub made_line : Made → List ℕ
made_line made = codes "gen " ++ decimal made.number ++ codes " accepted " ++ sizes_line made
