-- The script grammar as lists. Made by tools/grammar.py from script.grammar: edit that.
use Rattle.gv_grammar.specs.Derivation.{Tables}
use Rattle.gv_scriptsyntax.specs.declared.generated.script_table.TheConstants.{ROOTS, NAMES, SYMBOLS, STARTS, CLASSES, SET_STARTS, TABLE, WIDTH}

abbrev pub script_tables : Tables
script_tables = record { roots = ROOTS; names = NAMES; symbols = SYMBOLS; starts = STARTS; classes = CLASSES; set_starts = SET_STARTS; table = TABLE; width = WIDTH }
