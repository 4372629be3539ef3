-- Worked rows: small packages with their trees, and what the rules answer.
use Rattle.std.specs.Prelude.{ℕ, List, [], ◌∷◌, ◌++◌, codes, Some, None}
use Rattle.gv_base.specs.declared.answers.Code.TheVariants as code
use Rattle.gv_gosyntax.specs.declared.lexeme.Lexeme.{Lexeme}
use Rattle.gv_gosyntax.specs.declared.tree.Pointed.TheVariants as pt
use Rattle.gv_gosyntax.specs.declared.tree.GoType.TheVariants as gt
use Rattle.gv_gotypes.specs.Trees as tr
use Rattle.gv_gotypes.specs.Trees.{File}
use Rattle.gv_gotypes.specs.Scopes.{Source}
use Rattle.gv_gotypes.specs.Files.{IsTyped, IsRefusedAt}

-- a token, by its class and where it stands
abbrev t : ℕ → ℕ → ℕ → Lexeme
t class start end = record { class = class; start = start; end = end }

-- ---- adder: typed

abbrev adder_text : List ℕ
adder_text =
    (codes "package adder\n"
    ++ (codes "\n"
    ++ (codes "type Adder struct{}\n"
    ++ (codes "\n"
    ++ (codes "func Recover() *Adder {\n"
    ++ (codes "\treturn &Adder{}\n"
    ++ (codes "}\n"
    ++ (codes "\n"
    ++ (codes "func (s *Adder) Add(a uint64, b uint64) uint64 {\n"
    ++ (codes "\treturn a + b\n"
    ++ codes "}\n"))))))))))

abbrev pub adder_source : Source
adder_source = record {
  text = adder_text;
  tokens = ((t 1 0 7) ∷ (t 32 8 13) ∷ (t 35 13 13) ∷ (t 3 15 19) ∷ (t 32 20 25) ∷ (t 4 26 32) ∷ (t 40 32 33)
      ∷ (t 41 33 34) ∷ (t 35 34 34) ∷ (t 6 36 40) ∷ (t 32 41 48) ∷ (t 36 48 49) ∷ (t 37 49 50) ∷ (t 61 51 52) ∷ (t 32 52 57) ∷ (t 40 58 59) ∷ (t 14 61
      67) ∷ (t 66 68 69) ∷ (t 32 69 74) ∷ (t 40 74 75) ∷ (t 41 75 76) ∷ (t 35 76 76) ∷ (t 41 77 78) ∷ (t 35 78 78) ∷ (t 6 80 84) ∷ (t 36 85 86) ∷ (t 32
      86 87) ∷ (t 61 88 89) ∷ (t 32 89 94) ∷ (t 37 94 95) ∷ (t 32 96 99) ∷ (t 36 99 100) ∷ (t 32 100 101) ∷ (t 16 102 108) ∷ (t 42 108 109) ∷ (t 32 110
      111) ∷ (t 16 112 118) ∷ (t 37 118 119) ∷ (t 16 120 126) ∷ (t 40 127 128) ∷ (t 14 130 136) ∷ (t 32 137 138) ∷ (t 57 139 140) ∷ (t 32 141 142) ∷ (t
      35 142 142) ∷ (t 41 143 144) ∷ (t 35 144 144) ∷ []);
}

abbrev pub adder_file : File
adder_file = record {
  name = (t 32 8 13);
  imports = ([]);
  decls = ((tr.Struct (t 32 20 25) ([])) ∷ (tr.Func (record {
    receiver = None;
    name = (t 32 41
        48);
    params = ([]);
    results = ((gt.Pointer (t 61 51 52) (pt.Named (t 32 52 57))) ∷ []);
    body = (tr.braces (t 40 58 59) (tr.next (tr.Return (t 14
        61 67) ((tr.Result (tr.Literal (t 66 68 69) (t 32 69 74) ([]))) ∷ [])) tr.no_more) (t 41 77 78));
  })) ∷ (tr.Func (record {
    receiver = (Some (record
        { name = (t 32 86 87); of = (t 32 89 94) }));
    name = (t 32 96 99);
    params = ((record {
      names = ((t 32 100 101) ∷ []);
      kind = (gt.Word (t 16 102
          108));
    }) ∷ (record { names = ((t 32 110 111) ∷ []); kind = (gt.Word (t 16 112 118)) }) ∷ []);
    results = ((gt.Word (t 16 120 126)) ∷ []);
    body =
        (tr.braces (t 40 127 128) (tr.next (tr.Return (t 14 130 136) ((tr.Value (tr.Binary (tr.Name (t 32 137 138)) (t 57 139 140) (tr.Name (t 32 141
        142)))) ∷ [])) tr.no_more) (t 41 143 144));
  })) ∷ []);
}

-- ---- sum too large in an operation: 10:9 ConstTooLarge

abbrev sum_too_large_in_an_operation_text : List ℕ
sum_too_large_in_an_operation_text =
    (codes "package adder\n"
    ++ (codes "\n"
    ++ (codes "type Adder struct{}\n"
    ++ (codes "\n"
    ++ (codes "func Recover() *Adder {\n"
    ++ (codes "\treturn &Adder{}\n"
    ++ (codes "}\n"
    ++ (codes "\n"
    ++ (codes "func (s *Adder) Add(a uint64, b uint64) uint64 {\n"
    ++ (codes "\treturn 18446744073709551615 + 1\n"
    ++ codes "}\n"))))))))))

abbrev pub sum_too_large_in_an_operation_source : Source
sum_too_large_in_an_operation_source = record {
  text = sum_too_large_in_an_operation_text;
  tokens = ((t 1 0 7) ∷ (t 32 8 13) ∷ (t 35 13 13) ∷ (t 3 15
      19) ∷ (t 32 20 25) ∷ (t 4 26 32) ∷ (t 40 32 33) ∷ (t 41 33 34) ∷ (t 35 34 34) ∷ (t 6 36 40) ∷ (t 32 41 48) ∷ (t 36 48 49) ∷ (t 37 49 50) ∷ (t 61
      51 52) ∷ (t 32 52 57) ∷ (t 40 58 59) ∷ (t 14 61 67) ∷ (t 66 68 69) ∷ (t 32 69 74) ∷ (t 40 74 75) ∷ (t 41 75 76) ∷ (t 35 76 76) ∷ (t 41 77 78) ∷ (t
      35 78 78) ∷ (t 6 80 84) ∷ (t 36 85 86) ∷ (t 32 86 87) ∷ (t 61 88 89) ∷ (t 32 89 94) ∷ (t 37 94 95) ∷ (t 32 96 99) ∷ (t 36 99 100) ∷ (t 32 100 101)
      ∷ (t 16 102 108) ∷ (t 42 108 109) ∷ (t 32 110 111) ∷ (t 16 112 118) ∷ (t 37 118 119) ∷ (t 16 120 126) ∷ (t 40 127 128) ∷ (t 14 130 136) ∷ (t 33
      137 157) ∷ (t 57 158 159) ∷ (t 33 160 161) ∷ (t 35 161 161) ∷ (t 41 162 163) ∷ (t 35 163 163) ∷ []);
}

abbrev pub sum_too_large_in_an_operation_file : File
sum_too_large_in_an_operation_file = record {
  name = (t 32 8 13);
  imports = ([]);
  decls = ((tr.Struct (t 32 20 25) ([])) ∷ (tr.Func (record {
    receiver
        = None;
    name = (t 32 41 48);
    params = ([]);
    results = ((gt.Pointer (t 61 51 52) (pt.Named (t 32 52 57))) ∷ []);
    body = (tr.braces (t 40 58 59)
        (tr.next (tr.Return (t 14 61 67) ((tr.Result (tr.Literal (t 66 68 69) (t 32 69 74) ([]))) ∷ [])) tr.no_more) (t 41 77 78));
  })) ∷ (tr.Func (record {
    receiver = (Some (record { name = (t 32 86 87); of = (t 32 89 94) }));
    name = (t 32 96 99);
    params = ((record {
      names = ((t 32 100 101) ∷ []);
      kind = (gt.Word (t 16 102 108));
    }) ∷ (record { names = ((t 32 110 111) ∷ []); kind = (gt.Word (t 16 112 118)) }) ∷ []);
    results = ((gt.Word (t 16
        120 126)) ∷ []);
    body = (tr.braces (t 40 127 128) (tr.next (tr.Return (t 14 130 136) ((tr.Value (tr.Binary (tr.Constant (t 33 137 157)) (t 57 158
        159) (tr.Constant (t 33 160 161)))) ∷ [])) tr.no_more) (t 41 162 163));
  })) ∷ []);
}

-- ---- unknown import before no recover: 2:8 Undeclared

abbrev unknown_import_before_no_recover_text : List ℕ
unknown_import_before_no_recover_text =
    (codes "package p\n"
    ++ codes "import \"fmt\"\n")

abbrev pub unknown_import_before_no_recover_source : Source
unknown_import_before_no_recover_source = record {
  text = unknown_import_before_no_recover_text;
  tokens = ((t 1 0 7) ∷ (t 32 8 9) ∷ (t 35 9 9) ∷ (t 2
      10 16) ∷ (t 34 17 22) ∷ (t 35 22 22) ∷ []);
}

abbrev pub unknown_import_before_no_recover_file : File
unknown_import_before_no_recover_file = record { name = (t 32 8 9); imports = (((t 34 17 22) ∷ []) ∷ []); decls = ([]) }

-- ---- recover of an unknown struct: 2:6 NoRecover

abbrev recover_of_an_unknown_struct_text : List ℕ
recover_of_an_unknown_struct_text =
    (codes "package p\n"
    ++ (codes "func Recover() *U {\n"
    ++ (codes "\treturn nil\n"
    ++ codes "}\n")))

abbrev pub recover_of_an_unknown_struct_source : Source
recover_of_an_unknown_struct_source = record {
  text = recover_of_an_unknown_struct_text;
  tokens = ((t 1 0 7) ∷ (t 32 8 9) ∷ (t 35 9 9) ∷ (t 6 10 14) ∷
      (t 32 15 22) ∷ (t 36 22 23) ∷ (t 37 23 24) ∷ (t 61 25 26) ∷ (t 32 26 27) ∷ (t 40 28 29) ∷ (t 14 31 37) ∷ (t 21 38 41) ∷ (t 35 41 41) ∷ (t 41 42
      43) ∷ (t 35 43 43) ∷ []);
}

abbrev pub recover_of_an_unknown_struct_file : File
recover_of_an_unknown_struct_file = record {
  name = (t 32 8 9);
  imports = ([]);
  decls = ((tr.Func (record {
    receiver = None;
    name = (t 32 15 22);
    params = ([]);
    results = ((gt.Pointer (t 61 25 26) (pt.Named (t 32 26 27))) ∷ []);
    body = (tr.braces (t 40 28 29) (tr.next (tr.Return (t 14 31 37)
        ((tr.Value (tr.Constant (t 21 38 41))) ∷ [])) tr.no_more) (t 41 42 43));
  })) ∷ []);
}

-- ---- operation with two results: 6:27 WrongType

abbrev operation_with_two_results_text : List ℕ
operation_with_two_results_text =
    (codes "package p\n"
    ++ (codes "type T struct{}\n"
    ++ (codes "func Recover() *T {\n"
    ++ (codes "\treturn &T{}\n"
    ++ (codes "}\n"
    ++ (codes "func (t *T) Op() (uint64, bool) {\n"
    ++ (codes "\treturn 1, true\n"
    ++ codes "}\n")))))))

abbrev pub operation_with_two_results_source : Source
operation_with_two_results_source = record {
  text = operation_with_two_results_text;
  tokens = ((t 1 0 7) ∷ (t 32 8 9) ∷ (t 35 9 9) ∷ (t 3 10 14) ∷ (t
      32 15 16) ∷ (t 4 17 23) ∷ (t 40 23 24) ∷ (t 41 24 25) ∷ (t 35 25 25) ∷ (t 6 26 30) ∷ (t 32 31 38) ∷ (t 36 38 39) ∷ (t 37 39 40) ∷ (t 61 41 42) ∷
      (t 32 42 43) ∷ (t 40 44 45) ∷ (t 14 47 53) ∷ (t 66 54 55) ∷ (t 32 55 56) ∷ (t 40 56 57) ∷ (t 41 57 58) ∷ (t 35 58 58) ∷ (t 41 59 60) ∷ (t 35 60
      60) ∷ (t 6 61 65) ∷ (t 36 66 67) ∷ (t 32 67 68) ∷ (t 61 69 70) ∷ (t 32 70 71) ∷ (t 37 71 72) ∷ (t 32 73 75) ∷ (t 36 75 76) ∷ (t 37 76 77) ∷ (t 36
      78 79) ∷ (t 16 79 85) ∷ (t 42 85 86) ∷ (t 18 87 91) ∷ (t 37 91 92) ∷ (t 40 93 94) ∷ (t 14 96 102) ∷ (t 33 103 104) ∷ (t 42 104 105) ∷ (t 19 106
      110) ∷ (t 35 110 110) ∷ (t 41 111 112) ∷ (t 35 112 112) ∷ []);
}

abbrev pub operation_with_two_results_file : File
operation_with_two_results_file = record {
  name = (t 32 8 9);
  imports = ([]);
  decls = ((tr.Struct (t 32 15 16) ([])) ∷ (tr.Func (record {
    receiver =
        None;
    name = (t 32 31 38);
    params = ([]);
    results = ((gt.Pointer (t 61 41 42) (pt.Named (t 32 42 43))) ∷ []);
    body = (tr.braces (t 40 44 45)
        (tr.next (tr.Return (t 14 47 53) ((tr.Result (tr.Literal (t 66 54 55) (t 32 55 56) ([]))) ∷ [])) tr.no_more) (t 41 59 60));
  })) ∷ (tr.Func (record {
    receiver = (Some (record { name = (t 32 67 68); of = (t 32 70 71) }));
    name = (t 32 73 75);
    params = ([]);
    results = ((gt.Word (t 16 79 85)) ∷
        (gt.Word (t 18 87 91)) ∷ []);
    body = (tr.braces (t 40 93 94) (tr.next (tr.Return (t 14 96 102) ((tr.Value (tr.Constant (t 33 103 104))) ∷
        (tr.Value (tr.Constant (t 19 106 110))) ∷ [])) tr.no_more) (t 41 111 112));
  })) ∷ []);
}

-- ---- largest expression: 6:11 ConstTooLarge

abbrev largest_expression_text : List ℕ
largest_expression_text =
    (codes "package p\n"
    ++ (codes "type T struct{}\n"
    ++ (codes "func Recover() *T {\n"
    ++ (codes "\treturn &T{}\n"
    ++ (codes "}\n"
    ++ codes "const c = 5 + (1 - 2)\n")))))

abbrev pub largest_expression_source : Source
largest_expression_source = record {
  text = largest_expression_text;
  tokens = ((t 1 0 7) ∷ (t 32 8 9) ∷ (t 35 9 9) ∷ (t 3 10 14) ∷ (t 32 15 16) ∷ (t 4
      17 23) ∷ (t 40 23 24) ∷ (t 41 24 25) ∷ (t 35 25 25) ∷ (t 6 26 30) ∷ (t 32 31 38) ∷ (t 36 38 39) ∷ (t 37 39 40) ∷ (t 61 41 42) ∷ (t 32 42 43) ∷ (t
      40 44 45) ∷ (t 14 47 53) ∷ (t 66 54 55) ∷ (t 32 55 56) ∷ (t 40 56 57) ∷ (t 41 57 58) ∷ (t 35 58 58) ∷ (t 41 59 60) ∷ (t 35 60 60) ∷ (t 5 61 66) ∷
      (t 32 67 68) ∷ (t 46 69 70) ∷ (t 33 71 72) ∷ (t 57 73 74) ∷ (t 36 75 76) ∷ (t 33 76 77) ∷ (t 58 78 79) ∷ (t 33 80 81) ∷ (t 37 81 82) ∷ (t 35 82
      82) ∷ []);
}

abbrev pub largest_expression_file : File
largest_expression_file = record {
  name = (t 32 8 9);
  imports = ([]);
  decls = ((tr.Struct (t 32 15 16) ([])) ∷ (tr.Func (record {
    receiver = None;
    name = (t 32 31 38);
    params = ([]);
    results = ((gt.Pointer (t 61 41 42) (pt.Named (t 32 42 43))) ∷ []);
    body = (tr.braces (t 40 44 45) (tr.next
        (tr.Return (t 14 47 53) ((tr.Result (tr.Literal (t 66 54 55) (t 32 55 56) ([]))) ∷ [])) tr.no_more) (t 41 59 60));
  })) ∷ (tr.Const (t 32 67 68)
      None (tr.Binary (tr.Constant (t 33 71 72)) (t 57 73 74) (tr.Paren (t 36 75 76) (tr.Binary (tr.Constant (t 33 76 77)) (t 58 78 79) (tr.Constant (t
      33 80 81)))))) ∷ []);
}

-- ---- inverse of a word is the largest: 7:11 ConstTooLarge

abbrev inverse_of_a_word_is_the_largest_text : List ℕ
inverse_of_a_word_is_the_largest_text =
    (codes "package p\n"
    ++ (codes "type T struct{}\n"
    ++ (codes "func Recover() *T {\n"
    ++ (codes "\treturn &T{}\n"
    ++ (codes "}\n"
    ++ (codes "const c = ^uint64(0)\n"
    ++ codes "const d = c + 1\n"))))))

abbrev pub inverse_of_a_word_is_the_largest_source : Source
inverse_of_a_word_is_the_largest_source = record {
  text = inverse_of_a_word_is_the_largest_text;
  tokens = ((t 1 0 7) ∷ (t 32 8 9) ∷ (t 35 9 9) ∷ (t 3
      10 14) ∷ (t 32 15 16) ∷ (t 4 17 23) ∷ (t 40 23 24) ∷ (t 41 24 25) ∷ (t 35 25 25) ∷ (t 6 26 30) ∷ (t 32 31 38) ∷ (t 36 38 39) ∷ (t 37 39 40) ∷ (t
      61 41 42) ∷ (t 32 42 43) ∷ (t 40 44 45) ∷ (t 14 47 53) ∷ (t 66 54 55) ∷ (t 32 55 56) ∷ (t 40 56 57) ∷ (t 41 57 58) ∷ (t 35 58 58) ∷ (t 41 59 60) ∷
      (t 35 60 60) ∷ (t 5 61 66) ∷ (t 32 67 68) ∷ (t 46 69 70) ∷ (t 60 71 72) ∷ (t 16 72 78) ∷ (t 36 78 79) ∷ (t 33 79 80) ∷ (t 37 80 81) ∷ (t 35 81 81)
      ∷ (t 5 82 87) ∷ (t 32 88 89) ∷ (t 46 90 91) ∷ (t 32 92 93) ∷ (t 57 94 95) ∷ (t 33 96 97) ∷ (t 35 97 97) ∷ []);
}

abbrev pub inverse_of_a_word_is_the_largest_file : File
inverse_of_a_word_is_the_largest_file = record {
  name = (t 32 8 9);
  imports = ([]);
  decls = ((tr.Struct (t 32 15 16) ([])) ∷ (tr.Func (record {
    receiver = None;
    name = (t 32 31 38);
    params = ([]);
    results = ((gt.Pointer (t 61 41 42) (pt.Named (t 32 42 43))) ∷ []);
    body = (tr.braces (t 40
        44 45) (tr.next (tr.Return (t 14 47 53) ((tr.Result (tr.Literal (t 66 54 55) (t 32 55 56) ([]))) ∷ [])) tr.no_more) (t 41 59 60));
  })) ∷ (tr.Const
      (t 32 67 68) None (tr.Unary (t 60 71 72) (tr.Convert (t 16 72 78) (tr.Constant (t 33 79 80))))) ∷ (tr.Const (t 32 88 89) None (tr.Binary (tr.Name
      (t 32 92 93)) (t 57 94 95) (tr.Constant (t 33 96 97)))) ∷ []);
}

-- ---- two that lead back: 6:11 WrongType

abbrev two_that_lead_back_text : List ℕ
two_that_lead_back_text =
    (codes "package p\n"
    ++ (codes "type T struct{}\n"
    ++ (codes "func Recover() *T {\n"
    ++ (codes "\treturn &T{}\n"
    ++ (codes "}\n"
    ++ (codes "const c = d + 1\n"
    ++ codes "const d = c\n"))))))

abbrev pub two_that_lead_back_source : Source
two_that_lead_back_source = record {
  text = two_that_lead_back_text;
  tokens = ((t 1 0 7) ∷ (t 32 8 9) ∷ (t 35 9 9) ∷ (t 3 10 14) ∷ (t 32 15 16) ∷ (t 4
      17 23) ∷ (t 40 23 24) ∷ (t 41 24 25) ∷ (t 35 25 25) ∷ (t 6 26 30) ∷ (t 32 31 38) ∷ (t 36 38 39) ∷ (t 37 39 40) ∷ (t 61 41 42) ∷ (t 32 42 43) ∷ (t
      40 44 45) ∷ (t 14 47 53) ∷ (t 66 54 55) ∷ (t 32 55 56) ∷ (t 40 56 57) ∷ (t 41 57 58) ∷ (t 35 58 58) ∷ (t 41 59 60) ∷ (t 35 60 60) ∷ (t 5 61 66) ∷
      (t 32 67 68) ∷ (t 46 69 70) ∷ (t 32 71 72) ∷ (t 57 73 74) ∷ (t 33 75 76) ∷ (t 35 76 76) ∷ (t 5 77 82) ∷ (t 32 83 84) ∷ (t 46 85 86) ∷ (t 32 87 88)
      ∷ (t 35 88 88) ∷ []);
}

abbrev pub two_that_lead_back_file : File
two_that_lead_back_file = record {
  name = (t 32 8 9);
  imports = ([]);
  decls = ((tr.Struct (t 32 15 16) ([])) ∷ (tr.Func (record {
    receiver = None;
    name = (t 32 31 38);
    params = ([]);
    results = ((gt.Pointer (t 61 41 42) (pt.Named (t 32 42 43))) ∷ []);
    body = (tr.braces (t 40 44 45) (tr.next
        (tr.Return (t 14 47 53) ((tr.Result (tr.Literal (t 66 54 55) (t 32 55 56) ([]))) ∷ [])) tr.no_more) (t 41 59 60));
  })) ∷ (tr.Const (t 32 67 68)
      None (tr.Binary (tr.Name (t 32 71 72)) (t 57 73 74) (tr.Constant (t 33 75 76)))) ∷ (tr.Const (t 32 83 84) None (tr.Name (t 32 87 88))) ∷ []);
}

-- ---- number shifted by a variable: 7:7 WrongType

abbrev number_shifted_by_a_variable_text : List ℕ
number_shifted_by_a_variable_text =
    (codes "package p\n"
    ++ (codes "type T struct{}\n"
    ++ (codes "func Recover() *T {\n"
    ++ (codes "\treturn &T{}\n"
    ++ (codes "}\n"
    ++ (codes "func f(x uint64) {\n"
    ++ (codes "\tc := 1 << x\n"
    ++ codes "}\n")))))))

abbrev pub number_shifted_by_a_variable_source : Source
number_shifted_by_a_variable_source = record {
  text = number_shifted_by_a_variable_text;
  tokens = ((t 1 0 7) ∷ (t 32 8 9) ∷ (t 35 9 9) ∷ (t 3 10 14) ∷
      (t 32 15 16) ∷ (t 4 17 23) ∷ (t 40 23 24) ∷ (t 41 24 25) ∷ (t 35 25 25) ∷ (t 6 26 30) ∷ (t 32 31 38) ∷ (t 36 38 39) ∷ (t 37 39 40) ∷ (t 61 41 42)
      ∷ (t 32 42 43) ∷ (t 40 44 45) ∷ (t 14 47 53) ∷ (t 66 54 55) ∷ (t 32 55 56) ∷ (t 40 56 57) ∷ (t 41 57 58) ∷ (t 35 58 58) ∷ (t 41 59 60) ∷ (t 35 60
      60) ∷ (t 6 61 65) ∷ (t 32 66 67) ∷ (t 36 67 68) ∷ (t 32 68 69) ∷ (t 16 70 76) ∷ (t 37 76 77) ∷ (t 40 78 79) ∷ (t 32 81 82) ∷ (t 45 83 85) ∷ (t 33
      86 87) ∷ (t 64 88 90) ∷ (t 32 91 92) ∷ (t 35 92 92) ∷ (t 41 93 94) ∷ (t 35 94 94) ∷ []);
}

abbrev pub number_shifted_by_a_variable_file : File
number_shifted_by_a_variable_file = record {
  name = (t 32 8 9);
  imports = ([]);
  decls = ((tr.Struct (t 32 15 16) ([])) ∷ (tr.Func (record {
    receiver =
        None;
    name = (t 32 31 38);
    params = ([]);
    results = ((gt.Pointer (t 61 41 42) (pt.Named (t 32 42 43))) ∷ []);
    body = (tr.braces (t 40 44 45)
        (tr.next (tr.Return (t 14 47 53) ((tr.Result (tr.Literal (t 66 54 55) (t 32 55 56) ([]))) ∷ [])) tr.no_more) (t 41 59 60));
  })) ∷ (tr.Func (record {
    receiver = None;
    name = (t 32 66 67);
    params = ((record { names = ((t 32 68 69) ∷ []); kind = (gt.Word (t 16 70 76)) }) ∷ []);
    results = ([]);
    body = (tr.braces (t 40 78 79) (tr.next (tr.Simple (tr.Assign ((tr.Name (t 32 81 82)) ∷ []) (t 45 83 85) (tr.Value (tr.Binary (tr.Constant (t 33
        86 87)) (t 64 88 90) (tr.Name (t 32 91 92)))))) tr.no_more) (t 41 93 94));
  })) ∷ []);
}

-- ---- faulty part silences: 7:13 Undeclared

abbrev faulty_part_silences_text : List ℕ
faulty_part_silences_text =
    (codes "package p\n"
    ++ (codes "type T struct{}\n"
    ++ (codes "func Recover() *T {\n"
    ++ (codes "\treturn &T{}\n"
    ++ (codes "}\n"
    ++ (codes "func f(x uint64) {\n"
    ++ (codes "\ty := !(x + z)\n"
    ++ codes "}\n")))))))

abbrev pub faulty_part_silences_source : Source
faulty_part_silences_source = record {
  text = faulty_part_silences_text;
  tokens = ((t 1 0 7) ∷ (t 32 8 9) ∷ (t 35 9 9) ∷ (t 3 10 14) ∷ (t 32 15 16) ∷
      (t 4 17 23) ∷ (t 40 23 24) ∷ (t 41 24 25) ∷ (t 35 25 25) ∷ (t 6 26 30) ∷ (t 32 31 38) ∷ (t 36 38 39) ∷ (t 37 39 40) ∷ (t 61 41 42) ∷ (t 32 42 43)
      ∷ (t 40 44 45) ∷ (t 14 47 53) ∷ (t 66 54 55) ∷ (t 32 55 56) ∷ (t 40 56 57) ∷ (t 41 57 58) ∷ (t 35 58 58) ∷ (t 41 59 60) ∷ (t 35 60 60) ∷ (t 6 61
      65) ∷ (t 32 66 67) ∷ (t 36 67 68) ∷ (t 32 68 69) ∷ (t 16 70 76) ∷ (t 37 76 77) ∷ (t 40 78 79) ∷ (t 32 81 82) ∷ (t 45 83 85) ∷ (t 68 86 87) ∷ (t 36
      87 88) ∷ (t 32 88 89) ∷ (t 57 90 91) ∷ (t 32 92 93) ∷ (t 37 93 94) ∷ (t 35 94 94) ∷ (t 41 95 96) ∷ (t 35 96 96) ∷ []);
}

abbrev pub faulty_part_silences_file : File
faulty_part_silences_file = record {
  name = (t 32 8 9);
  imports = ([]);
  decls = ((tr.Struct (t 32 15 16) ([])) ∷ (tr.Func (record {
    receiver = None;
    name = (t 32 31 38);
    params = ([]);
    results = ((gt.Pointer (t 61 41 42) (pt.Named (t 32 42 43))) ∷ []);
    body = (tr.braces (t 40 44 45) (tr.next
        (tr.Return (t 14 47 53) ((tr.Result (tr.Literal (t 66 54 55) (t 32 55 56) ([]))) ∷ [])) tr.no_more) (t 41 59 60));
  })) ∷ (tr.Func (record {
    receiver = None;
    name = (t 32 66 67);
    params = ((record { names = ((t 32 68 69) ∷ []); kind = (gt.Word (t 16 70 76)) }) ∷ []);
    results = ([]);
    body = (tr.braces (t 40 78 79) (tr.next (tr.Simple (tr.Assign ((tr.Name (t 32 81 82)) ∷ []) (t 45 83 85) (tr.Value (tr.Unary (t 68 86 87)
        (tr.Paren (t 36 87 88) (tr.Binary (tr.Name (t 32 88 89)) (t 57 90 91) (tr.Name (t 32 92 93)))))))) tr.no_more) (t 41 95 96));
  })) ∷ []);
}

-- ---- no new name of two: 16:2 Twice

abbrev no_new_name_of_two_text : List ℕ
no_new_name_of_two_text =
    (codes "package p\n"
    ++ (codes "type T struct{}\n"
    ++ (codes "func Recover() *T {\n"
    ++ (codes "\treturn &T{}\n"
    ++ (codes "}\n"
    ++ (codes "func g(a uint64, b bool) (uint64, bool) {\n"
    ++ (codes "\treturn a, b\n"
    ++ (codes "}\n"
    ++ (codes "func h() {\n"
    ++ (codes "}\n"
    ++ (codes "func w(a uint64) uint64 {\n"
    ++ (codes "\treturn a\n"
    ++ (codes "}\n"
    ++ (codes "func f() {\n"
    ++ (codes "\tx, y := g(1, true)\n"
    ++ (codes "\tx, y := g(2, y)\n"
    ++ codes "}\n"))))))))))))))))

abbrev pub no_new_name_of_two_source : Source
no_new_name_of_two_source = record {
  text = no_new_name_of_two_text;
  tokens = ((t 1 0 7) ∷ (t 32 8 9) ∷ (t 35 9 9) ∷ (t 3 10 14) ∷ (t 32 15 16) ∷ (t 4
      17 23) ∷ (t 40 23 24) ∷ (t 41 24 25) ∷ (t 35 25 25) ∷ (t 6 26 30) ∷ (t 32 31 38) ∷ (t 36 38 39) ∷ (t 37 39 40) ∷ (t 61 41 42) ∷ (t 32 42 43) ∷ (t
      40 44 45) ∷ (t 14 47 53) ∷ (t 66 54 55) ∷ (t 32 55 56) ∷ (t 40 56 57) ∷ (t 41 57 58) ∷ (t 35 58 58) ∷ (t 41 59 60) ∷ (t 35 60 60) ∷ (t 6 61 65) ∷
      (t 32 66 67) ∷ (t 36 67 68) ∷ (t 32 68 69) ∷ (t 16 70 76) ∷ (t 42 76 77) ∷ (t 32 78 79) ∷ (t 18 80 84) ∷ (t 37 84 85) ∷ (t 36 86 87) ∷ (t 16 87
      93) ∷ (t 42 93 94) ∷ (t 18 95 99) ∷ (t 37 99 100) ∷ (t 40 101 102) ∷ (t 14 104 110) ∷ (t 32 111 112) ∷ (t 42 112 113) ∷ (t 32 114 115) ∷ (t 35 115
      115) ∷ (t 41 116 117) ∷ (t 35 117 117) ∷ (t 6 118 122) ∷ (t 32 123 124) ∷ (t 36 124 125) ∷ (t 37 125 126) ∷ (t 40 127 128) ∷ (t 41 129 130) ∷ (t
      35 130 130) ∷ (t 6 131 135) ∷ (t 32 136 137) ∷ (t 36 137 138) ∷ (t 32 138 139) ∷ (t 16 140 146) ∷ (t 37 146 147) ∷ (t 16 148 154) ∷ (t 40 155 156)
      ∷ (t 14 158 164) ∷ (t 32 165 166) ∷ (t 35 166 166) ∷ (t 41 167 168) ∷ (t 35 168 168) ∷ (t 6 169 173) ∷ (t 32 174 175) ∷ (t 36 175 176) ∷ (t 37 176
      177) ∷ (t 40 178 179) ∷ (t 32 181 182) ∷ (t 42 182 183) ∷ (t 32 184 185) ∷ (t 45 186 188) ∷ (t 32 189 190) ∷ (t 36 190 191) ∷ (t 33 191 192) ∷ (t
      42 192 193) ∷ (t 19 194 198) ∷ (t 37 198 199) ∷ (t 35 199 199) ∷ (t 32 201 202) ∷ (t 42 202 203) ∷ (t 32 204 205) ∷ (t 45 206 208) ∷ (t 32 209
      210) ∷ (t 36 210 211) ∷ (t 33 211 212) ∷ (t 42 212 213) ∷ (t 32 214 215) ∷ (t 37 215 216) ∷ (t 35 216 216) ∷ (t 41 217 218) ∷ (t 35 218 218) ∷ []);
}

abbrev pub no_new_name_of_two_file : File
no_new_name_of_two_file = record {
  name = (t 32 8 9);
  imports = ([]);
  decls = ((tr.Struct (t 32 15 16) ([])) ∷ (tr.Func (record {
    receiver = None;
    name = (t 32 31 38);
    params = ([]);
    results = ((gt.Pointer (t 61 41 42) (pt.Named (t 32 42 43))) ∷ []);
    body = (tr.braces (t 40 44 45) (tr.next
        (tr.Return (t 14 47 53) ((tr.Result (tr.Literal (t 66 54 55) (t 32 55 56) ([]))) ∷ [])) tr.no_more) (t 41 59 60));
  })) ∷ (tr.Func (record {
    receiver = None;
    name = (t 32 66 67);
    params = ((record { names = ((t 32 68 69) ∷ []); kind = (gt.Word (t 16 70 76)) }) ∷ (record {
      names = ((t 32
          78 79) ∷ []);
      kind = (gt.Word (t 18 80 84));
    }) ∷ []);
    results = ((gt.Word (t 16 87 93)) ∷ (gt.Word (t 18 95 99)) ∷ []);
    body = (tr.braces (t 40
        101 102) (tr.next (tr.Return (t 14 104 110) ((tr.Value (tr.Name (t 32 111 112))) ∷ (tr.Value (tr.Name (t 32 114 115))) ∷ [])) tr.no_more) (t 41
        116 117));
  })) ∷ (tr.Func (record {
    receiver = None;
    name = (t 32 123 124);
    params = ([]);
    results = ([]);
    body = (tr.braces (t 40 127 128)
        tr.no_more (t 41 129 130));
  })) ∷ (tr.Func (record {
    receiver = None;
    name = (t 32 136 137);
    params = ((record {
      names = ((t 32 138 139) ∷ []);
      kind = (gt.Word (t 16 140 146));
    }) ∷ []);
    results = ((gt.Word (t 16 148 154)) ∷ []);
    body = (tr.braces (t 40 155 156) (tr.next (tr.Return (t 14
        158 164) ((tr.Value (tr.Name (t 32 165 166))) ∷ [])) tr.no_more) (t 41 167 168));
  })) ∷ (tr.Func (record {
    receiver = None;
    name = (t 32 174 175);
    params = ([]);
    results = ([]);
    body = (tr.braces (t 40 178 179) (tr.next (tr.Simple (tr.Assign ((tr.Name (t 32 181 182)) ∷ (tr.Name (t 32 184
        185)) ∷ []) (t 45 186 188) (tr.Result (tr.Function (tr.Name (t 32 189 190)) ((tr.Constant (t 33 191 192)) ∷ (tr.Constant (t 19 194 198)) ∷ [])))))
        (tr.next (tr.Simple (tr.Assign ((tr.Name (t 32 201 202)) ∷ (tr.Name (t 32 204 205)) ∷ []) (t 45 206 208) (tr.Result (tr.Function (tr.Name (t 32
        209 210)) ((tr.Constant (t 33 211 212)) ∷ (tr.Name (t 32 214 215)) ∷ []))))) tr.no_more)) (t 41 217 218));
  })) ∷ []);
}

-- ---- two of a faulty operand: 7:2 WrongCount

abbrev two_of_a_faulty_operand_text : List ℕ
two_of_a_faulty_operand_text =
    (codes "package p\n"
    ++ (codes "type T struct{}\n"
    ++ (codes "func Recover() *T {\n"
    ++ (codes "\treturn &T{}\n"
    ++ (codes "}\n"
    ++ (codes "func f(x uint64) {\n"
    ++ (codes "\tv, ok := x + true\n"
    ++ codes "}\n")))))))

abbrev pub two_of_a_faulty_operand_source : Source
two_of_a_faulty_operand_source = record {
  text = two_of_a_faulty_operand_text;
  tokens = ((t 1 0 7) ∷ (t 32 8 9) ∷ (t 35 9 9) ∷ (t 3 10 14) ∷ (t 32 15
      16) ∷ (t 4 17 23) ∷ (t 40 23 24) ∷ (t 41 24 25) ∷ (t 35 25 25) ∷ (t 6 26 30) ∷ (t 32 31 38) ∷ (t 36 38 39) ∷ (t 37 39 40) ∷ (t 61 41 42) ∷ (t 32
      42 43) ∷ (t 40 44 45) ∷ (t 14 47 53) ∷ (t 66 54 55) ∷ (t 32 55 56) ∷ (t 40 56 57) ∷ (t 41 57 58) ∷ (t 35 58 58) ∷ (t 41 59 60) ∷ (t 35 60 60) ∷ (t
      6 61 65) ∷ (t 32 66 67) ∷ (t 36 67 68) ∷ (t 32 68 69) ∷ (t 16 70 76) ∷ (t 37 76 77) ∷ (t 40 78 79) ∷ (t 32 81 82) ∷ (t 42 82 83) ∷ (t 32 84 86) ∷
      (t 45 87 89) ∷ (t 32 90 91) ∷ (t 57 92 93) ∷ (t 19 94 98) ∷ (t 35 98 98) ∷ (t 41 99 100) ∷ (t 35 100 100) ∷ []);
}

abbrev pub two_of_a_faulty_operand_file : File
two_of_a_faulty_operand_file = record {
  name = (t 32 8 9);
  imports = ([]);
  decls = ((tr.Struct (t 32 15 16) ([])) ∷ (tr.Func (record {
    receiver =
        None;
    name = (t 32 31 38);
    params = ([]);
    results = ((gt.Pointer (t 61 41 42) (pt.Named (t 32 42 43))) ∷ []);
    body = (tr.braces (t 40 44 45)
        (tr.next (tr.Return (t 14 47 53) ((tr.Result (tr.Literal (t 66 54 55) (t 32 55 56) ([]))) ∷ [])) tr.no_more) (t 41 59 60));
  })) ∷ (tr.Func (record {
    receiver = None;
    name = (t 32 66 67);
    params = ((record { names = ((t 32 68 69) ∷ []); kind = (gt.Word (t 16 70 76)) }) ∷ []);
    results = ([]);
    body = (tr.braces (t 40 78 79) (tr.next (tr.Simple (tr.Assign ((tr.Name (t 32 81 82)) ∷ (tr.Name (t 32 84 86)) ∷ []) (t 45 87 89) (tr.Value
        (tr.Binary (tr.Name (t 32 90 91)) (t 57 92 93) (tr.Constant (t 19 94 98)))))) tr.no_more) (t 41 99 100));
  })) ∷ []);
}

-- ---- receiver is there already: 7:6 Twice

abbrev receiver_is_there_already_text : List ℕ
receiver_is_there_already_text =
    (codes "package p\n"
    ++ (codes "type T struct{}\n"
    ++ (codes "func Recover() *T {\n"
    ++ (codes "\treturn &T{}\n"
    ++ (codes "}\n"
    ++ (codes "func (s *T) m() {\n"
    ++ (codes "\tvar s []uint64\n"
    ++ codes "}\n")))))))

abbrev pub receiver_is_there_already_source : Source
receiver_is_there_already_source = record {
  text = receiver_is_there_already_text;
  tokens = ((t 1 0 7) ∷ (t 32 8 9) ∷ (t 35 9 9) ∷ (t 3 10 14) ∷ (t 32
      15 16) ∷ (t 4 17 23) ∷ (t 40 23 24) ∷ (t 41 24 25) ∷ (t 35 25 25) ∷ (t 6 26 30) ∷ (t 32 31 38) ∷ (t 36 38 39) ∷ (t 37 39 40) ∷ (t 61 41 42) ∷ (t
      32 42 43) ∷ (t 40 44 45) ∷ (t 14 47 53) ∷ (t 66 54 55) ∷ (t 32 55 56) ∷ (t 40 56 57) ∷ (t 41 57 58) ∷ (t 35 58 58) ∷ (t 41 59 60) ∷ (t 35 60 60) ∷
      (t 6 61 65) ∷ (t 36 66 67) ∷ (t 32 67 68) ∷ (t 61 69 70) ∷ (t 32 70 71) ∷ (t 37 71 72) ∷ (t 32 73 74) ∷ (t 36 74 75) ∷ (t 37 75 76) ∷ (t 40 77 78)
      ∷ (t 8 80 83) ∷ (t 32 84 85) ∷ (t 38 86 87) ∷ (t 39 87 88) ∷ (t 16 88 94) ∷ (t 35 94 94) ∷ (t 41 95 96) ∷ (t 35 96 96) ∷ []);
}

abbrev pub receiver_is_there_already_file : File
receiver_is_there_already_file = record {
  name = (t 32 8 9);
  imports = ([]);
  decls = ((tr.Struct (t 32 15 16) ([])) ∷ (tr.Func (record {
    receiver =
        None;
    name = (t 32 31 38);
    params = ([]);
    results = ((gt.Pointer (t 61 41 42) (pt.Named (t 32 42 43))) ∷ []);
    body = (tr.braces (t 40 44 45)
        (tr.next (tr.Return (t 14 47 53) ((tr.Result (tr.Literal (t 66 54 55) (t 32 55 56) ([]))) ∷ [])) tr.no_more) (t 41 59 60));
  })) ∷ (tr.Func (record {
    receiver = (Some (record { name = (t 32 67 68); of = (t 32 70 71) }));
    name = (t 32 73 74);
    params = ([]);
    results = ([]);
    body = (tr.braces (t
        40 77 78) (tr.next (tr.Var (t 8 80 83) (t 32 84 85) (gt.Slice (t 38 86 87) (t 16 88 94)) None) tr.no_more) (t 41 95 96));
  })) ∷ []);
}

-- ---- for with a break: 12:1 MissingReturn

abbrev for_with_a_break_text : List ℕ
for_with_a_break_text =
    (codes "package p\n"
    ++ (codes "type T struct{}\n"
    ++ (codes "func Recover() *T {\n"
    ++ (codes "\treturn &T{}\n"
    ++ (codes "}\n"
    ++ (codes "func f(b bool) uint64 {\n"
    ++ (codes "\tfor {\n"
    ++ (codes "\t\tif b {\n"
    ++ (codes "\t\t\tbreak\n"
    ++ (codes "\t\t}\n"
    ++ (codes "\t}\n"
    ++ codes "}\n")))))))))))

abbrev pub for_with_a_break_source : Source
for_with_a_break_source = record {
  text = for_with_a_break_text;
  tokens = ((t 1 0 7) ∷ (t 32 8 9) ∷ (t 35 9 9) ∷ (t 3 10 14) ∷ (t 32 15 16) ∷ (t 4 17
      23) ∷ (t 40 23 24) ∷ (t 41 24 25) ∷ (t 35 25 25) ∷ (t 6 26 30) ∷ (t 32 31 38) ∷ (t 36 38 39) ∷ (t 37 39 40) ∷ (t 61 41 42) ∷ (t 32 42 43) ∷ (t 40
      44 45) ∷ (t 14 47 53) ∷ (t 66 54 55) ∷ (t 32 55 56) ∷ (t 40 56 57) ∷ (t 41 57 58) ∷ (t 35 58 58) ∷ (t 41 59 60) ∷ (t 35 60 60) ∷ (t 6 61 65) ∷ (t
      32 66 67) ∷ (t 36 67 68) ∷ (t 32 68 69) ∷ (t 18 70 74) ∷ (t 37 74 75) ∷ (t 16 76 82) ∷ (t 40 83 84) ∷ (t 11 86 89) ∷ (t 40 90 91) ∷ (t 9 94 96) ∷
      (t 32 97 98) ∷ (t 40 99 100) ∷ (t 12 104 109) ∷ (t 35 109 109) ∷ (t 41 112 113) ∷ (t 35 113 113) ∷ (t 41 115 116) ∷ (t 35 116 116) ∷ (t 41 117
      118) ∷ (t 35 118 118) ∷ []);
}

abbrev pub for_with_a_break_file : File
for_with_a_break_file = record {
  name = (t 32 8 9);
  imports = ([]);
  decls = ((tr.Struct (t 32 15 16) ([])) ∷ (tr.Func (record {
    receiver = None;
    name
        = (t 32 31 38);
    params = ([]);
    results = ((gt.Pointer (t 61 41 42) (pt.Named (t 32 42 43))) ∷ []);
    body = (tr.braces (t 40 44 45) (tr.next
        (tr.Return (t 14 47 53) ((tr.Result (tr.Literal (t 66 54 55) (t 32 55 56) ([]))) ∷ [])) tr.no_more) (t 41 59 60));
  })) ∷ (tr.Func (record {
    receiver = None;
    name = (t 32 66 67);
    params = ((record { names = ((t 32 68 69) ∷ []); kind = (gt.Word (t 18 70 74)) }) ∷ []);
    results = ((gt.Word
        (t 16 76 82)) ∷ []);
    body = (tr.braces (t 40 83 84) (tr.next (tr.For (t 11 86 89) (record { first = None; condition = None; post = None })
        (tr.braces (t 40 90 91) (tr.next (tr.If (t 9 94 96) (tr.Name (t 32 97 98)) (tr.braces (t 40 99 100) (tr.next (tr.Jump (t 12 104 109)) tr.no_more)
        (t 41 112 113)) tr.no_branch) tr.no_more) (t 41 115 116))) tr.no_more) (t 41 117 118));
  })) ∷ []);
}

-- ---- captured: 9:8 Captured

abbrev captured_text : List ℕ
captured_text =
    (codes "package p\n"
    ++ (codes "type T struct{}\n"
    ++ (codes "func Recover() *T {\n"
    ++ (codes "\treturn &T{}\n"
    ++ (codes "}\n"
    ++ (codes "func f(y uint64) {\n"
    ++ (codes "\ty = 1\n"
    ++ (codes "\tgo func() {\n"
    ++ (codes "\t\tx := y\n"
    ++ (codes "\t}()\n"
    ++ codes "}\n"))))))))))

abbrev pub captured_source : Source
captured_source = record {
  text = captured_text;
  tokens = ((t 1 0 7) ∷ (t 32 8 9) ∷ (t 35 9 9) ∷ (t 3 10 14) ∷ (t 32 15 16) ∷ (t 4 17 23) ∷ (t 40 23
      24) ∷ (t 41 24 25) ∷ (t 35 25 25) ∷ (t 6 26 30) ∷ (t 32 31 38) ∷ (t 36 38 39) ∷ (t 37 39 40) ∷ (t 61 41 42) ∷ (t 32 42 43) ∷ (t 40 44 45) ∷ (t 14
      47 53) ∷ (t 66 54 55) ∷ (t 32 55 56) ∷ (t 40 56 57) ∷ (t 41 57 58) ∷ (t 35 58 58) ∷ (t 41 59 60) ∷ (t 35 60 60) ∷ (t 6 61 65) ∷ (t 32 66 67) ∷ (t
      36 67 68) ∷ (t 32 68 69) ∷ (t 16 70 76) ∷ (t 37 76 77) ∷ (t 40 78 79) ∷ (t 32 81 82) ∷ (t 46 83 84) ∷ (t 33 85 86) ∷ (t 35 86 86) ∷ (t 15 88 90) ∷
      (t 6 91 95) ∷ (t 36 95 96) ∷ (t 37 96 97) ∷ (t 40 98 99) ∷ (t 32 102 103) ∷ (t 45 104 106) ∷ (t 32 107 108) ∷ (t 35 108 108) ∷ (t 41 110 111) ∷ (t
      36 111 112) ∷ (t 37 112 113) ∷ (t 35 113 113) ∷ (t 41 114 115) ∷ (t 35 115 115) ∷ []);
}

abbrev pub captured_file : File
captured_file = record {
  name = (t 32 8 9);
  imports = ([]);
  decls = ((tr.Struct (t 32 15 16) ([])) ∷ (tr.Func (record {
    receiver = None;
    name = (t 32
        31 38);
    params = ([]);
    results = ((gt.Pointer (t 61 41 42) (pt.Named (t 32 42 43))) ∷ []);
    body = (tr.braces (t 40 44 45) (tr.next (tr.Return (t
        14 47 53) ((tr.Result (tr.Literal (t 66 54 55) (t 32 55 56) ([]))) ∷ [])) tr.no_more) (t 41 59 60));
  })) ∷ (tr.Func (record {
    receiver = None;
    name
        = (t 32 66 67);
    params = ((record { names = ((t 32 68 69) ∷ []); kind = (gt.Word (t 16 70 76)) }) ∷ []);
    results = ([]);
    body = (tr.braces (t 40
        78 79) (tr.next (tr.Simple (tr.Assign ((tr.Name (t 32 81 82)) ∷ []) (t 46 83 84) (tr.Value (tr.Constant (t 33 85 86))))) (tr.next (tr.Go (t 15 88
        90) (tr.braces (t 40 98 99) (tr.next (tr.Simple (tr.Assign ((tr.Name (t 32 102 103)) ∷ []) (t 45 104 106) (tr.Value (tr.Name (t 32 107 108)))))
        tr.no_more) (t 41 110 111))) tr.no_more)) (t 41 114 115));
  })) ∷ []);
}

-- ---- append of a large byte: 7:16 ConstTooLarge

abbrev append_of_a_large_byte_text : List ℕ
append_of_a_large_byte_text =
    (codes "package p\n"
    ++ (codes "type T struct{}\n"
    ++ (codes "func Recover() *T {\n"
    ++ (codes "\treturn &T{}\n"
    ++ (codes "}\n"
    ++ (codes "func f(s []byte) {\n"
    ++ (codes "\ts = append(s, 256)\n"
    ++ codes "}\n")))))))

abbrev pub append_of_a_large_byte_source : Source
append_of_a_large_byte_source = record {
  text = append_of_a_large_byte_text;
  tokens = ((t 1 0 7) ∷ (t 32 8 9) ∷ (t 35 9 9) ∷ (t 3 10 14) ∷ (t 32 15
      16) ∷ (t 4 17 23) ∷ (t 40 23 24) ∷ (t 41 24 25) ∷ (t 35 25 25) ∷ (t 6 26 30) ∷ (t 32 31 38) ∷ (t 36 38 39) ∷ (t 37 39 40) ∷ (t 61 41 42) ∷ (t 32
      42 43) ∷ (t 40 44 45) ∷ (t 14 47 53) ∷ (t 66 54 55) ∷ (t 32 55 56) ∷ (t 40 56 57) ∷ (t 41 57 58) ∷ (t 35 58 58) ∷ (t 41 59 60) ∷ (t 35 60 60) ∷ (t
      6 61 65) ∷ (t 32 66 67) ∷ (t 36 67 68) ∷ (t 32 68 69) ∷ (t 38 70 71) ∷ (t 39 71 72) ∷ (t 17 72 76) ∷ (t 37 76 77) ∷ (t 40 78 79) ∷ (t 32 81 82) ∷
      (t 46 83 84) ∷ (t 26 85 91) ∷ (t 36 91 92) ∷ (t 32 92 93) ∷ (t 42 93 94) ∷ (t 33 95 98) ∷ (t 37 98 99) ∷ (t 35 99 99) ∷ (t 41 100 101) ∷ (t 35 101
      101) ∷ []);
}

abbrev pub append_of_a_large_byte_file : File
append_of_a_large_byte_file = record {
  name = (t 32 8 9);
  imports = ([]);
  decls = ((tr.Struct (t 32 15 16) ([])) ∷ (tr.Func (record {
    receiver = None;
    name = (t 32 31 38);
    params = ([]);
    results = ((gt.Pointer (t 61 41 42) (pt.Named (t 32 42 43))) ∷ []);
    body = (tr.braces (t 40 44 45) (tr.next
        (tr.Return (t 14 47 53) ((tr.Result (tr.Literal (t 66 54 55) (t 32 55 56) ([]))) ∷ [])) tr.no_more) (t 41 59 60));
  })) ∷ (tr.Func (record {
    receiver = None;
    name = (t 32 66 67);
    params = ((record { names = ((t 32 68 69) ∷ []); kind = (gt.Slice (t 38 70 71) (t 17 72 76)) }) ∷ []);
    results = ([]);
    body = (tr.braces (t 40 78 79) (tr.next (tr.Simple (tr.Assign ((tr.Name (t 32 81 82)) ∷ []) (t 46 83 84) (tr.Result (tr.Pair (t 26
        85 91) (tr.Name (t 32 92 93)) (tr.Constant (t 33 95 98)))))) tr.no_more) (t 41 100 101));
  })) ∷ []);
}

-- ---- all

pub record AreRows : Type 0 where
  pub adder : IsTyped adder_source adder_file
  pub sum_too_large_in_an_operation : IsRefusedAt sum_too_large_in_an_operation_source sum_too_large_in_an_operation_file 137 code.ConstTooLarge
  pub unknown_import_before_no_recover : IsRefusedAt unknown_import_before_no_recover_source unknown_import_before_no_recover_file 17 code.Undeclared
  pub recover_of_an_unknown_struct : IsRefusedAt recover_of_an_unknown_struct_source recover_of_an_unknown_struct_file 15 code.NoRecover
  pub operation_with_two_results : IsRefusedAt operation_with_two_results_source operation_with_two_results_file 87 code.WrongType
  pub largest_expression : IsRefusedAt largest_expression_source largest_expression_file 71 code.ConstTooLarge
  pub inverse_of_a_word_is_the_largest : IsRefusedAt inverse_of_a_word_is_the_largest_source inverse_of_a_word_is_the_largest_file 92 code.ConstTooLarge
  pub two_that_lead_back : IsRefusedAt two_that_lead_back_source two_that_lead_back_file 71 code.WrongType
  pub number_shifted_by_a_variable : IsRefusedAt number_shifted_by_a_variable_source number_shifted_by_a_variable_file 86 code.WrongType
  pub faulty_part_silences : IsRefusedAt faulty_part_silences_source faulty_part_silences_file 92 code.Undeclared
  pub no_new_name_of_two : IsRefusedAt no_new_name_of_two_source no_new_name_of_two_file 201 code.Twice
  pub two_of_a_faulty_operand : IsRefusedAt two_of_a_faulty_operand_source two_of_a_faulty_operand_file 81 code.WrongCount
  pub receiver_is_there_already : IsRefusedAt receiver_is_there_already_source receiver_is_there_already_file 84 code.Twice
  pub for_with_a_break : IsRefusedAt for_with_a_break_source for_with_a_break_file 117 code.MissingReturn
  pub captured : IsRefusedAt captured_source captured_file 107 code.Captured
  pub append_of_a_large_byte : IsRefusedAt append_of_a_large_byte_source append_of_a_large_byte_file 95 code.ConstTooLarge
