-- The spec grammar as lists. Made by tools/grammar.py from spec.grammar: edit that.
use Rattle.gv_grammar.specs.Derivation.{Tables}
use Rattle.gv_specread.specs.declared.generated.spec_table.TheConstants.{ROOTS, NAMES, SYMBOLS, STARTS, CLASSES, SET_STARTS, TABLE, WIDTH}

abbrev pub spec_tables : Tables
spec_tables = record { roots = ROOTS; names = NAMES; symbols = SYMBOLS; starts = STARTS; classes = CLASSES; set_starts = SET_STARTS; table = TABLE; width = WIDTH }
