-- The sample grammar as lists. Made by tools/grammar.py from sample.grammar: edit that.
use Rattle.gv_grammar.specs.Derivation.{Tables}
use Rattle.grammar_sample.specs.declared.generated.sample_table.TheConstants.{ROOTS, NAMES, SYMBOLS, STARTS, CLASSES, SET_STARTS, TABLE, WIDTH}

abbrev pub sample_tables : Tables
sample_tables = record { roots = ROOTS; names = NAMES; symbols = SYMBOLS; starts = STARTS; classes = CLASSES; set_starts = SET_STARTS; table = TABLE; width = WIDTH }
