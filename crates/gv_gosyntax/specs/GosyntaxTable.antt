-- The gosyntax grammar as lists. Made by tools/grammar.py from gosyntax.grammar: edit that.
use Rattle.gv_grammar.specs.Derivation.{Tables}
use Rattle.gv_gosyntax.specs.declared.generated.gosyntax_table.TheConstants.{ROOTS, NAMES, SYMBOLS, STARTS, CLASSES, SET_STARTS, TABLE, WIDTH}

abbrev pub gosyntax_tables : Tables
gosyntax_tables = record { roots = ROOTS; names = NAMES; symbols = SYMBOLS; starts = STARTS; classes = CLASSES; set_starts = SET_STARTS; table = TABLE; width = WIDTH }
