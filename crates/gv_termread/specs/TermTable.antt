-- The term grammar as lists. Made by tools/grammar.py from term.grammar: edit that.
use Rattle.gv_grammar.specs.Derivation.{Tables}
use Rattle.gv_termread.specs.declared.generated.term_table.TheConstants.{ROOTS, NAMES, SYMBOLS, STARTS, CLASSES, SET_STARTS, TABLE, WIDTH}

abbrev pub term_tables : Tables
term_tables = record { roots = ROOTS; names = NAMES; symbols = SYMBOLS; starts = STARTS; classes = CLASSES; set_starts = SET_STARTS; table = TABLE; width = WIDTH }
