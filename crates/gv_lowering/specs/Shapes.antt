-- A package with most kinds of statements and calls, as its tree, and its program, which was written from the rules.
use Rattle.std.specs.Prelude.{ℕ, List, [], ◌∷◌, ◌++◌, codes, Some, None}
use Rattle.std.specs.Fmt.{decimal}
use Rattle.gv_base.specs.declared.answers.Place.{Place}
use Rattle.gv_gosyntax.specs.declared.lexeme.Lexeme.{Lexeme}
use Rattle.gv_gosyntax.specs.declared.tree.Pointed.TheVariants as pt
use Rattle.gv_gosyntax.specs.declared.tree.GoType.TheVariants as gt
use Rattle.gv_gotypes.specs.Trees as go
use Rattle.gv_gotypes.specs.Trees.{File}
use Rattle.gv_gotypes.specs.Scopes.{Source}
use Rattle.gv_lang.specs.declared.pure.Unary.TheVariants as unary
use Rattle.gv_lang.specs.declared.pure.Binary.TheVariants as binary
use Rattle.gv_lang.specs.declared.program.ItemKind.TheVariants as item
use Rattle.gv_lang.specs.declared.program.LocalKind.{LocalKind}
use Rattle.gv_lang.specs.declared.program.LocalKind.TheVariants as kind
use Rattle.gv_lang.specs.declared.program.Local.{Local}
use Rattle.gv_lang.specs.Tree.{Number, Nil, LocalAt, One, Two, Let, Div, Rem, New, Load, Store, At, Len, MapGet, MapPut, MapDelete, DiskRead, DiskWrite, Sub, Append, Call, Spawn, Do, If, Loop, Break, Continue, Return, finish, next, Proc, Program}

-- a token, by its class and where it stands
abbrev t : ℕ → ℕ → ℕ → Lexeme
t class start end = record { class = class; start = start; end = end }

abbrev shapes_text : List ℕ
shapes_text =
    (codes "package shapes\n" ++
    (codes "\n" ++
    (codes "import \"example.com/disk\"\n" ++
    (codes "\n" ++
    (codes "type S struct {\n" ++
    (codes "\tn uint64\n" ++
    (codes "\tm map[uint64]uint64\n" ++
    (codes "}\n" ++
    (codes "\n" ++
    (codes "func Recover() *S {\n" ++
    (codes "\treturn &S{n: 0}\n" ++
    (codes "}\n" ++
    (codes "\n" ++
    (codes "func (s *S) F(a uint64, _ bool) uint64 {\n" ++
    (codes "\tx := a/2 + s.n\n" ++
    (codes "\tx, ok := s.m[x]\n" ++
    (codes "\tif ok && s.n > 3 {\n" ++
    (codes "\t\tx++\n" ++
    (codes "\t}\n" ++
    (codes "\treturn x\n" ++
    (codes "}\n" ++
    (codes "\n" ++
    (codes "func (s *S) G(b []byte) uint64 {\n" ++
    (codes "\tt := uint64(0)\n" ++
    (codes "\tfor i := uint64(0); i < uint64(len(b)); i++ {\n" ++
    (codes "\t\tif b[i] == byte(t) {\n" ++
    (codes "\t\t\tcontinue\n" ++
    (codes "\t\t}\n" ++
    (codes "\t\tt += uint64(b[i])\n" ++
    (codes "\t}\n" ++
    (codes "\treturn t\n" ++
    (codes "}\n" ++
    (codes "\n" ++
    (codes "func (s *S) H(a uint64) {\n" ++
    (codes "\tt := a\n" ++
    (codes "\tif a == 1 {\n" ++
    (codes "\t\tt := s.n\n" ++
    (codes "\t\ts.n = t + s.n*s.n\n" ++
    (codes "\t}\n" ++
    (codes "\tgo func() {\n" ++
    (codes "\t\ts.n = t + a\n" ++
    (codes "\t}()\n" ++
    (codes "}\n" ++
    (codes "\n" ++
    (codes "func two(d uint64) (uint64, bool) {\n" ++
    (codes "\treturn d, d != 0\n" ++
    (codes "}\n" ++
    (codes "\n" ++
    (codes "func (s *S) K(d uint64) uint64 {\n" ++
    (codes "\ttwo(d)\n" ++
    (codes "\t_, ok := two(s.n)\n" ++
    (codes "\tvar z uint64\n" ++
    (codes "\tif !ok {\n" ++
    (codes "\t\treturn s.K(d / 2)\n" ++
    (codes "\t} else {\n" ++
    (codes "\t\tz = d << 1\n" ++
    (codes "\t}\n" ++
    (codes "\ts.m[z] = s.n % 3\n" ++
    (codes "\tdelete(s.m, d)\n" ++
    (codes "\treturn z\n" ++
    (codes "}\n" ++
    (codes "\n" ++
    (codes "func (s *S) L(b []byte, c []uint64) []byte {\n" ++
    (codes "\tdisk.Write(s.n, b)\n" ++
    (codes "\tdisk.Barrier()\n" ++
    (codes "\tv := disk.Read(uint64(len(c)) - 1)\n" ++
    (codes "\tc = append(c[1:], c[0])\n" ++
    (codes "\tfor s.n < 9 {\n" ++
    (codes "\t\tbreak\n" ++
    (codes "\t}\n" ++
    (codes "\treturn v[s.n:]\n" ++
    codes "}\n")))))))))))))))))))))))))))))))))))))))))))))))))))))))))))))))))))))))

abbrev pub shapes_source : Source
shapes_source = record { text = shapes_text; tokens = ((t 1 0 7) ∷ (t 32 8 14) ∷ (t 35 14 14) ∷ (t 2 16 22) ∷ (t 34 23 41) ∷ (t 35 41 41) ∷ (t 3 43 47) ∷ (t 32 48 49) ∷ (t 4 50 56) ∷ (t 40 57 58) ∷ (t 32 60 61) ∷ (t 16 62 68) ∷ (t 35 68 68) ∷ (t 32 70 71) ∷ (t 7 72 75) ∷ (t 38 75 76) ∷ (t 16 76 82) ∷ (t 39 82 83) ∷ (t 16 83 89) ∷ (t 35 89 89) ∷ (t 41 90 91) ∷ (t 35 91 91) ∷ (t 6 93 97) ∷ (t 32 98 105) ∷ (t 36 105 106) ∷ (t 37 106 107) ∷ (t 61 108 109) ∷ (t 32 109 110) ∷ (t 40 111 112) ∷ (t 14 114 120) ∷ (t 66 121 122) ∷ (t 32 122 123) ∷ (t 40 123 124) ∷ (t 32 124 125) ∷ (t 44 125 126) ∷ (t 33 127 128) ∷ (t 41 128 129) ∷ (t 35 129 129) ∷ (t 41 130 131) ∷ (t 35 131 131) ∷ (t 6 133 137) ∷ (t 36 138 139) ∷ (t 32 139 140) ∷ (t 61 141 142) ∷ (t 32 142 143) ∷ (t 37 143 144) ∷ (t 32 145 146) ∷ (t 36 146 147) ∷ (t 32 147 148) ∷ (t 16 149 155) ∷ (t 42 155 156) ∷ (t 32 157 158) ∷ (t 18 159 163) ∷ (t 37 163 164) ∷ (t 16 165 171) ∷ (t 40 172 173) ∷ (t 32 175 176) ∷ (t 45 177 179) ∷ (t 32 180 181) ∷ (t 62 181 182) ∷ (t 33 182 183) ∷ (t 57 184 185) ∷ (t 32 186 187) ∷ (t 43 187 188) ∷ (t 32 188 189) ∷ (t 35 189 189) ∷ (t 32 191 192) ∷ (t 42 192 193) ∷ (t 32 194 196) ∷ (t 45 197 199) ∷ (t 32 200 201) ∷ (t 43 201 202) ∷ (t 32 202 203) ∷ (t 38 203 204) ∷ (t 32 204 205) ∷ (t 39 205 206) ∷ (t 35 206 206) ∷ (t 9 208 210) ∷ (t 32 211 213) ∷ (t 50 214 216) ∷ (t 32 217 218) ∷ (t 43 218 219) ∷ (t 32 219 220) ∷ (t 55 221 222) ∷ (t 33 223 224) ∷ (t 40 225 226) ∷ (t 32 229 230) ∷ (t 47 230 232) ∷ (t 35 232 232) ∷ (t 41 234 235) ∷ (t 35 235 235) ∷ (t 14 237 243) ∷ (t 32 244 245) ∷ (t 35 245 245) ∷ (t 41 246 247) ∷ (t 35 247 247) ∷ (t 6 249 253) ∷ (t 36 254 255) ∷ (t 32 255 256) ∷ (t 61 257 258) ∷ (t 32 258 259) ∷ (t 37 259 260) ∷ (t 32 261 262) ∷ (t 36 262 263) ∷ (t 32 263 264) ∷ (t 38 265 266) ∷ (t 39 266 267) ∷ (t 17 267 271) ∷ (t 37 271 272) ∷ (t 16 273 279) ∷ (t 40 280 281) ∷ (t 32 283 284) ∷ (t 45 285 287) ∷ (t 16 288 294) ∷ (t 36 294 295) ∷ (t 33 295 296) ∷ (t 37 296 297) ∷ (t 35 297 297) ∷ (t 11 299 302) ∷ (t 32 303 304) ∷ (t 45 305 307) ∷ (t 16 308 314) ∷ (t 36 314 315) ∷ (t 33 315 316) ∷ (t 37 316 317) ∷ (t 35 317 318) ∷ (t 32 319 320) ∷ (t 53 321 322) ∷ (t 16 323 329) ∷ (t 36 329 330) ∷ (t 24 330 333) ∷ (t 36 333 334) ∷ (t 32 334 335) ∷ (t 37 335 336) ∷ (t 37 336 337) ∷ (t 35 337 338) ∷ (t 32 339 340) ∷ (t 47 340 342) ∷ (t 40 343 344) ∷ (t 9 347 349) ∷ (t 32 350 351) ∷ (t 38 351 352) ∷ (t 32 352 353) ∷ (t 39 353 354) ∷ (t 51 355 357) ∷ (t 17 358 362) ∷ (t 36 362 363) ∷ (t 32 363 364) ∷ (t 37 364 365) ∷ (t 40 366 367) ∷ (t 13 371 379) ∷ (t 35 379 379) ∷ (t 41 382 383) ∷ (t 35 383 383) ∷ (t 32 386 387) ∷ (t 69 388 390) ∷ (t 16 391 397) ∷ (t 36 397 398) ∷ (t 32 398 399) ∷ (t 38 399 400) ∷ (t 32 400 401) ∷ (t 39 401 402) ∷ (t 37 402 403) ∷ (t 35 403 403) ∷ (t 41 405 406) ∷ (t 35 406 406) ∷ (t 14 408 414) ∷ (t 32 415 416) ∷ (t 35 416 416) ∷ (t 41 417 418) ∷ (t 35 418 418) ∷ (t 6 420 424) ∷ (t 36 425 426) ∷ (t 32 426 427) ∷ (t 61 428 429) ∷ (t 32 429 430) ∷ (t 37 430 431) ∷ (t 32 432 433) ∷ (t 36 433 434) ∷ (t 32 434 435) ∷ (t 16 436 442) ∷ (t 37 442 443) ∷ (t 40 444 445) ∷ (t 32 447 448) ∷ (t 45 449 451) ∷ (t 32 452 453) ∷ (t 35 453 453) ∷ (t 9 455 457) ∷ (t 32 458 459) ∷ (t 51 460 462) ∷ (t 33 463 464) ∷ (t 40 465 466) ∷ (t 32 469 470) ∷ (t 45 471 473) ∷ (t 32 474 475) ∷ (t 43 475 476) ∷ (t 32 476 477) ∷ (t 35 477 477) ∷ (t 32 480 481) ∷ (t 43 481 482) ∷ (t 32 482 483) ∷ (t 46 484 485) ∷ (t 32 486 487) ∷ (t 57 488 489) ∷ (t 32 490 491) ∷ (t 43 491 492) ∷ (t 32 492 493) ∷ (t 61 493 494) ∷ (t 32 494 495) ∷ (t 43 495 496) ∷ (t 32 496 497) ∷ (t 35 497 497) ∷ (t 41 499 500) ∷ (t 35 500 500) ∷ (t 15 502 504) ∷ (t 6 505 509) ∷ (t 36 509 510) ∷ (t 37 510 511) ∷ (t 40 512 513) ∷ (t 32 516 517) ∷ (t 43 517 518) ∷ (t 32 518 519) ∷ (t 46 520 521) ∷ (t 32 522 523) ∷ (t 57 524 525) ∷ (t 32 526 527) ∷ (t 35 527 527) ∷ (t 41 529 530) ∷ (t 36 530 531) ∷ (t 37 531 532) ∷ (t 35 532 532) ∷ (t 41 533 534) ∷ (t 35 534 534) ∷ (t 6 536 540) ∷ (t 32 541 544) ∷ (t 36 544 545) ∷ (t 32 545 546) ∷ (t 16 547 553) ∷ (t 37 553 554) ∷ (t 36 555 556) ∷ (t 16 556 562) ∷ (t 42 562 563) ∷ (t 18 564 568) ∷ (t 37 568 569) ∷ (t 40 570 571) ∷ (t 14 573 579) ∷ (t 32 580 581) ∷ (t 42 581 582) ∷ (t 32 583 584) ∷ (t 52 585 587) ∷ (t 33 588 589) ∷ (t 35 589 589) ∷ (t 41 590 591) ∷ (t 35 591 591) ∷ (t 6 593 597) ∷ (t 36 598 599) ∷ (t 32 599 600) ∷ (t 61 601 602) ∷ (t 32 602 603) ∷ (t 37 603 604) ∷ (t 32 605 606) ∷ (t 36 606 607) ∷ (t 32 607 608) ∷ (t 16 609 615) ∷ (t 37 615 616) ∷ (t 16 617 623) ∷ (t 40 624 625) ∷ (t 32 627 630) ∷ (t 36 630 631) ∷ (t 32 631 632) ∷ (t 37 632 633) ∷ (t 35 633 633) ∷ (t 32 635 636) ∷ (t 42 636 637) ∷ (t 32 638 640) ∷ (t 45 641 643) ∷ (t 32 644 647) ∷ (t 36 647 648) ∷ (t 32 648 649) ∷ (t 43 649 650) ∷ (t 32 650 651) ∷ (t 37 651 652) ∷ (t 35 652 652) ∷ (t 8 654 657) ∷ (t 32 658 659) ∷ (t 16 660 666) ∷ (t 35 666 666) ∷ (t 9 668 670) ∷ (t 68 671 672) ∷ (t 32 672 674) ∷ (t 40 675 676) ∷ (t 14 679 685) ∷ (t 32 686 687) ∷ (t 43 687 688) ∷ (t 32 688 689) ∷ (t 36 689 690) ∷ (t 32 690 691) ∷ (t 62 692 693) ∷ (t 33 694 695) ∷ (t 37 695 696) ∷ (t 35 696 696) ∷ (t 41 698 699) ∷ (t 10 700 704) ∷ (t 40 705 706) ∷ (t 32 709 710) ∷ (t 46 711 712) ∷ (t 32 713 714) ∷ (t 64 715 717) ∷ (t 33 718 719) ∷ (t 35 719 719) ∷ (t 41 721 722) ∷ (t 35 722 722) ∷ (t 32 724 725) ∷ (t 43 725 726) ∷ (t 32 726 727) ∷ (t 38 727 728) ∷ (t 32 728 729) ∷ (t 39 729 730) ∷ (t 46 731 732) ∷ (t 32 733 734) ∷ (t 43 734 735) ∷ (t 32 735 736) ∷ (t 63 737 738) ∷ (t 33 739 740) ∷ (t 35 740 740) ∷ (t 25 742 748) ∷ (t 36 748 749) ∷ (t 32 749 750) ∷ (t 43 750 751) ∷ (t 32 751 752) ∷ (t 42 752 753) ∷ (t 32 754 755) ∷ (t 37 755 756) ∷ (t 35 756 756) ∷ (t 14 758 764) ∷ (t 32 765 766) ∷ (t 35 766 766) ∷ (t 41 767 768) ∷ (t 35 768 768) ∷ (t 6 770 774) ∷ (t 36 775 776) ∷ (t 32 776 777) ∷ (t 61 778 779) ∷ (t 32 779 780) ∷ (t 37 780 781) ∷ (t 32 782 783) ∷ (t 36 783 784) ∷ (t 32 784 785) ∷ (t 38 786 787) ∷ (t 39 787 788) ∷ (t 17 788 792) ∷ (t 42 792 793) ∷ (t 32 794 795) ∷ (t 38 796 797) ∷ (t 39 797 798) ∷ (t 16 798 804) ∷ (t 37 804 805) ∷ (t 38 806 807) ∷ (t 39 807 808) ∷ (t 17 808 812) ∷ (t 40 813 814) ∷ (t 29 816 820) ∷ (t 43 820 821) ∷ (t 32 821 826) ∷ (t 36 826 827) ∷ (t 32 827 828) ∷ (t 43 828 829) ∷ (t 32 829 830) ∷ (t 42 830 831) ∷ (t 32 832 833) ∷ (t 37 833 834) ∷ (t 35 834 834) ∷ (t 29 836 840) ∷ (t 43 840 841) ∷ (t 32 841 848) ∷ (t 36 848 849) ∷ (t 37 849 850) ∷ (t 35 850 850) ∷ (t 32 852 853) ∷ (t 45 854 856) ∷ (t 29 857 861) ∷ (t 43 861 862) ∷ (t 32 862 866) ∷ (t 36 866 867) ∷ (t 16 867 873) ∷ (t 36 873 874) ∷ (t 24 874 877) ∷ (t 36 877 878) ∷ (t 32 878 879) ∷ (t 37 879 880) ∷ (t 37 880 881) ∷ (t 58 882 883) ∷ (t 33 884 885) ∷ (t 37 885 886) ∷ (t 35 886 886) ∷ (t 32 888 889) ∷ (t 46 890 891) ∷ (t 26 892 898) ∷ (t 36 898 899) ∷ (t 32 899 900) ∷ (t 38 900 901) ∷ (t 33 901 902) ∷ (t 44 902 903) ∷ (t 39 903 904) ∷ (t 42 904 905) ∷ (t 32 906 907) ∷ (t 38 907 908) ∷ (t 33 908 909) ∷ (t 39 909 910) ∷ (t 37 910 911) ∷ (t 35 911 911) ∷ (t 11 913 916) ∷ (t 32 917 918) ∷ (t 43 918 919) ∷ (t 32 919 920) ∷ (t 53 921 922) ∷ (t 33 923 924) ∷ (t 40 925 926) ∷ (t 12 929 934) ∷ (t 35 934 934) ∷ (t 41 936 937) ∷ (t 35 937 937) ∷ (t 14 939 945) ∷ (t 32 946 947) ∷ (t 38 947 948) ∷ (t 32 948 949) ∷ (t 43 949 950) ∷ (t 32 950 951) ∷ (t 44 951 952) ∷ (t 39 952 953) ∷ (t 35 953 953) ∷ (t 41 954 955) ∷ (t 35 955 955) ∷ []) }

abbrev pub shapes_file : File
shapes_file = record { name = (t 32 8 14); imports = (((t 34 23 41) ∷ []) ∷ []); decls = ((go.Struct (t 32 48 49) ((record { names = ((t 32 60 61) ∷ []); kind = (gt.Word (t 16 62 68)) }) ∷ (record { names = ((t 32 70 71) ∷ []); kind = (gt.Map (t 7 72 75)) }) ∷ [])) ∷ (go.Func (record { receiver = None; name = (t 32 98 105); params = ([]); results = ((gt.Pointer (t 61 108 109) (pt.Named (t 32 109 110))) ∷ []); body = (go.braces (t 40 111 112) (go.next (go.Return (t 14 114 120) ((go.Result (go.Literal (t 66 121 122) (t 32 122 123) ((record { key = (t 32 124 125); value = (go.Constant (t 33 127 128)) }) ∷ []))) ∷ [])) go.no_more) (t 41 130 131)) })) ∷ (go.Func (record { receiver = (Some (record { name = (t 32 139 140); of = (t 32 142 143) })); name = (t 32 145 146); params = ((record { names = ((t 32 147 148) ∷ []); kind = (gt.Word (t 16 149 155)) }) ∷ (record { names = ((t 32 157 158) ∷ []); kind = (gt.Word (t 18 159 163)) }) ∷ []); results = ((gt.Word (t 16 165 171)) ∷ []); body = (go.braces (t 40 172 173) (go.next (go.Simple (go.Assign ((go.Name (t 32 175 176)) ∷ []) (t 45 177 179) (go.Value (go.Binary (go.Binary (go.Name (t 32 180 181)) (t 62 181 182) (go.Constant (t 33 182 183))) (t 57 184 185) (go.Select (go.Name (t 32 186 187)) (t 32 188 189)))))) (go.next (go.Simple (go.Assign ((go.Name (t 32 191 192)) ∷ (go.Name (t 32 194 196)) ∷ []) (t 45 197 199) (go.Value (go.Index (go.Select (go.Name (t 32 200 201)) (t 32 202 203)) (go.Name (t 32 204 205)))))) (go.next (go.If (t 9 208 210) (go.Binary (go.Name (t 32 211 213)) (t 50 214 216) (go.Binary (go.Select (go.Name (t 32 217 218)) (t 32 219 220)) (t 55 221 222) (go.Constant (t 33 223 224)))) (go.braces (t 40 225 226) (go.next (go.Simple (go.Count (go.Name (t 32 229 230)) (t 47 230 232))) go.no_more) (t 41 234 235)) go.no_branch) (go.next (go.Return (t 14 237 243) ((go.Value (go.Name (t 32 244 245))) ∷ [])) go.no_more)))) (t 41 246 247)) })) ∷ (go.Func (record { receiver = (Some (record { name = (t 32 255 256); of = (t 32 258 259) })); name = (t 32 261 262); params = ((record { names = ((t 32 263 264) ∷ []); kind = (gt.Slice (t 38 265 266) (t 17 267 271)) }) ∷ []); results = ((gt.Word (t 16 273 279)) ∷ []); body = (go.braces (t 40 280 281) (go.next (go.Simple (go.Assign ((go.Name (t 32 283 284)) ∷ []) (t 45 285 287) (go.Value (go.Convert (t 16 288 294) (go.Constant (t 33 295 296)))))) (go.next (go.For (t 11 299 302) (record { first = (Some (go.Assign ((go.Name (t 32 303 304)) ∷ []) (t 45 305 307) (go.Value (go.Convert (t 16 308 314) (go.Constant (t 33 315 316)))))); condition = (Some (go.Binary (go.Name (t 32 319 320)) (t 53 321 322) (go.Convert (t 16 323 329) (go.Convert (t 24 330 333) (go.Name (t 32 334 335)))))); post = (Some (go.Count (go.Name (t 32 339 340)) (t 47 340 342))) }) (go.braces (t 40 343 344) (go.next (go.If (t 9 347 349) (go.Binary (go.Index (go.Name (t 32 350 351)) (go.Name (t 32 352 353))) (t 51 355 357) (go.Convert (t 17 358 362) (go.Name (t 32 363 364)))) (go.braces (t 40 366 367) (go.next (go.Jump (t 13 371 379)) go.no_more) (t 41 382 383)) go.no_branch) (go.next (go.Simple (go.Update (go.Name (t 32 386 387)) (t 69 388 390) (go.Convert (t 16 391 397) (go.Index (go.Name (t 32 398 399)) (go.Name (t 32 400 401)))))) go.no_more)) (t 41 405 406))) (go.next (go.Return (t 14 408 414) ((go.Value (go.Name (t 32 415 416))) ∷ [])) go.no_more))) (t 41 417 418)) })) ∷ (go.Func (record { receiver = (Some (record { name = (t 32 426 427); of = (t 32 429 430) })); name = (t 32 432 433); params = ((record { names = ((t 32 434 435) ∷ []); kind = (gt.Word (t 16 436 442)) }) ∷ []); results = ([]); body = (go.braces (t 40 444 445) (go.next (go.Simple (go.Assign ((go.Name (t 32 447 448)) ∷ []) (t 45 449 451) (go.Value (go.Name (t 32 452 453))))) (go.next (go.If (t 9 455 457) (go.Binary (go.Name (t 32 458 459)) (t 51 460 462) (go.Constant (t 33 463 464))) (go.braces (t 40 465 466) (go.next (go.Simple (go.Assign ((go.Name (t 32 469 470)) ∷ []) (t 45 471 473) (go.Value (go.Select (go.Name (t 32 474 475)) (t 32 476 477))))) (go.next (go.Simple (go.Assign ((go.Select (go.Name (t 32 480 481)) (t 32 482 483)) ∷ []) (t 46 484 485) (go.Value (go.Binary (go.Name (t 32 486 487)) (t 57 488 489) (go.Binary (go.Select (go.Name (t 32 490 491)) (t 32 492 493)) (t 61 493 494) (go.Select (go.Name (t 32 494 495)) (t 32 496 497))))))) go.no_more)) (t 41 499 500)) go.no_branch) (go.next (go.Go (t 15 502 504) (go.braces (t 40 512 513) (go.next (go.Simple (go.Assign ((go.Select (go.Name (t 32 516 517)) (t 32 518 519)) ∷ []) (t 46 520 521) (go.Value (go.Binary (go.Name (t 32 522 523)) (t 57 524 525) (go.Name (t 32 526 527)))))) go.no_more) (t 41 529 530))) go.no_more))) (t 41 533 534)) })) ∷ (go.Func (record { receiver = None; name = (t 32 541 544); params = ((record { names = ((t 32 545 546) ∷ []); kind = (gt.Word (t 16 547 553)) }) ∷ []); results = ((gt.Word (t 16 556 562)) ∷ (gt.Word (t 18 564 568)) ∷ []); body = (go.braces (t 40 570 571) (go.next (go.Return (t 14 573 579) ((go.Value (go.Name (t 32 580 581))) ∷ (go.Value (go.Binary (go.Name (t 32 583 584)) (t 52 585 587) (go.Constant (t 33 588 589)))) ∷ [])) go.no_more) (t 41 590 591)) })) ∷ (go.Func (record { receiver = (Some (record { name = (t 32 599 600); of = (t 32 602 603) })); name = (t 32 605 606); params = ((record { names = ((t 32 607 608) ∷ []); kind = (gt.Word (t 16 609 615)) }) ∷ []); results = ((gt.Word (t 16 617 623)) ∷ []); body = (go.braces (t 40 624 625) (go.next (go.Simple (go.Calling (go.Function (go.Name (t 32 627 630)) ((go.Name (t 32 631 632)) ∷ [])))) (go.next (go.Simple (go.Assign ((go.Name (t 32 635 636)) ∷ (go.Name (t 32 638 640)) ∷ []) (t 45 641 643) (go.Result (go.Function (go.Name (t 32 644 647)) ((go.Select (go.Name (t 32 648 649)) (t 32 650 651)) ∷ []))))) (go.next (go.Var (t 8 654 657) (t 32 658 659) (gt.Word (t 16 660 666)) None) (go.next (go.If (t 9 668 670) (go.Unary (t 68 671 672) (go.Name (t 32 672 674))) (go.braces (t 40 675 676) (go.next (go.Return (t 14 679 685) ((go.Result (go.Function (go.Select (go.Name (t 32 686 687)) (t 32 688 689)) ((go.Binary (go.Name (t 32 690 691)) (t 62 692 693) (go.Constant (t 33 694 695))) ∷ []))) ∷ [])) go.no_more) (t 41 698 699)) (go.branch (go.Nested (go.braces (t 40 705 706) (go.next (go.Simple (go.Assign ((go.Name (t 32 709 710)) ∷ []) (t 46 711 712) (go.Value (go.Binary (go.Name (t 32 713 714)) (t 64 715 717) (go.Constant (t 33 718 719)))))) go.no_more) (t 41 721 722))))) (go.next (go.Simple (go.Assign ((go.Index (go.Select (go.Name (t 32 724 725)) (t 32 726 727)) (go.Name (t 32 728 729))) ∷ []) (t 46 731 732) (go.Value (go.Binary (go.Select (go.Name (t 32 733 734)) (t 32 735 736)) (t 63 737 738) (go.Constant (t 33 739 740)))))) (go.next (go.Simple (go.Calling ((go.Pair (t 25 742 748) (go.Select (go.Name (t 32 749 750)) (t 32 751 752)) (go.Name (t 32 754 755)))))) (go.next (go.Return (t 14 758 764) ((go.Value (go.Name (t 32 765 766))) ∷ [])) go.no_more))))))) (t 41 767 768)) })) ∷ (go.Func (record { receiver = (Some (record { name = (t 32 776 777); of = (t 32 779 780) })); name = (t 32 782 783); params = ((record { names = ((t 32 784 785) ∷ []); kind = (gt.Slice (t 38 786 787) (t 17 788 792)) }) ∷ (record { names = ((t 32 794 795) ∷ []); kind = (gt.Slice (t 38 796 797) (t 16 798 804)) }) ∷ []); results = ((gt.Slice (t 38 806 807) (t 17 808 812)) ∷ []); body = (go.braces (t 40 813 814) (go.next (go.Simple (go.Calling (go.Function (go.Select (go.Name (t 29 816 820)) (t 32 821 826)) ((go.Select (go.Name (t 32 827 828)) (t 32 829 830)) ∷ (go.Name (t 32 832 833)) ∷ [])))) (go.next (go.Simple (go.Calling (go.Function (go.Select (go.Name (t 29 836 840)) (t 32 841 848)) ([])))) (go.next (go.Simple (go.Assign ((go.Name (t 32 852 853)) ∷ []) (t 45 854 856) (go.Result (go.Function (go.Select (go.Name (t 29 857 861)) (t 32 862 866)) ((go.Binary (go.Convert (t 16 867 873) (go.Convert (t 24 874 877) (go.Name (t 32 878 879)))) (t 58 882 883) (go.Constant (t 33 884 885))) ∷ []))))) (go.next (go.Simple (go.Assign ((go.Name (t 32 888 889)) ∷ []) (t 46 890 891) (go.Result (go.Pair (t 26 892 898) (go.Slice (go.Name (t 32 899 900)) (go.bound (go.Constant (t 33 901 902))) go.left_out) (go.Index (go.Name (t 32 906 907)) (go.Constant (t 33 908 909))))))) (go.next (go.For (t 11 913 916) (record { first = None; condition = (Some (go.Binary (go.Select (go.Name (t 32 917 918)) (t 32 919 920)) (t 53 921 922) (go.Constant (t 33 923 924)))); post = None }) (go.braces (t 40 925 926) (go.next (go.Jump (t 12 929 934)) go.no_more) (t 41 936 937))) (go.next (go.Return (t 14 939 945) ((go.Value (go.Slice (go.Name (t 32 946 947)) (go.bound (go.Select (go.Name (t 32 948 949)) (t 32 950 951))) go.left_out)) ∷ [])) go.no_more)))))) (t 41 954 955)) })) ∷ []) }

-- ---- its program

abbrev at : ℕ → ℕ → Place
at line column = record { line = line; column = column }

abbrev of : List ℕ → LocalKind → Local
of name k = record { name = name; kind = k }

abbrev recover : Proc
recover = record {
  name = (codes "Recover");
  params = 0;
  locals = of (codes "t." ++ decimal 1) kind.Ref ∷ [];
  results = kind.Ref ∷ [];
  body = (next (Do (New 0 0 ((Number 0) ∷ Nil ∷ [])) (at 11 2)) (next (Return ((LocalAt 0) ∷ []) (at 11 2)) finish));
}

abbrev reads : Proc
reads = record {
  name = (codes "S.F");
  params = 3;
  locals = of (codes "s") kind.Ref ∷ of (codes "a") kind.Word ∷ of (codes "_." ++ decimal 3) kind.Bool ∷ of (codes "t." ++ decimal 1) kind.Word ∷ of (codes "t." ++ decimal 2) kind.Word ∷ of (codes "x") kind.Word ∷ of (codes "t." ++ decimal 3) kind.Ref ∷ of (codes "ok") kind.Bool ∷ of (codes "t." ++ decimal 4) kind.Bool ∷ of (codes "t." ++ decimal 5) kind.Word ∷ [];
  results = kind.Word ∷ [];
  body = (next (Do (Div 3 (LocalAt 1) (Number 2)) (at 15 2)) (next (Do (Load 4 (LocalAt 0) 0 0) (at 15 2)) (next (Do (Let 5 (Two binary.Plus (LocalAt 3) (LocalAt 4))) (at 15 2)) (next (Do (Load 6 (LocalAt 0) 0 1) (at 16 2)) (next (Do (MapGet 5 7 (LocalAt 6) (LocalAt 5)) (at 16 2)) (next (Do (Let 8 (LocalAt 7)) (at 17 2)) (next (If (LocalAt 8) (next (Do (Load 9 (LocalAt 0) 0 0) (at 17 2)) (next (Do (Let 8 (Two binary.Less (Number 3) (LocalAt 9))) (at 17 2)) finish)) finish (at 17 2)) (next (If (LocalAt 8) (next (Do (Let 5 (Two binary.Plus (LocalAt 5) (Number 1))) (at 18 3)) finish) finish (at 17 2)) (next (Return ((LocalAt 5) ∷ []) (at 20 2)) finish)))))))));
}

abbrev loops : Proc
loops = record {
  name = (codes "S.G");
  params = 2;
  locals = of (codes "s") kind.Ref ∷ of (codes "b") kind.Slice ∷ of (codes "t") kind.Word ∷ of (codes "i") kind.Word ∷ of (codes "t." ++ decimal 1) kind.Word ∷ of (codes "t." ++ decimal 2) kind.Word ∷ of (codes "t." ++ decimal 3) kind.Word ∷ of (codes "t." ++ decimal 4) kind.Word ∷ [];
  results = kind.Word ∷ [];
  body = (next (Do (Let 2 (Number 0)) (at 24 2)) (next (Do (Let 3 (Number 0)) (at 25 6)) (next (Loop (next (Do (Len 4 (LocalAt 1)) (at 25 2)) (next (If (Two binary.Less (LocalAt 3) (LocalAt 4)) finish (next (Break (at 25 2)) finish) (at 25 2)) (next (Do (At 5 (LocalAt 1) (LocalAt 3)) (at 26 3)) (next (Do (Rem 6 (LocalAt 2) (Number 256)) (at 26 3)) (next (If (Two binary.Equal (LocalAt 5) (LocalAt 6)) (next (Do (Let 3 (Two binary.Plus (LocalAt 3) (Number 1))) (at 25 42)) (next (Continue (at 27 4)) finish)) finish (at 26 3)) (next (Do (At 7 (LocalAt 1) (LocalAt 3)) (at 29 3)) (next (Do (Let 2 (Two binary.Plus (LocalAt 2) (LocalAt 7))) (at 29 3)) (next (Do (Let 3 (Two binary.Plus (LocalAt 3) (Number 1))) (at 25 42)) (next (Continue (at 25 2)) finish))))))))) (at 25 2)) (next (Return ((LocalAt 2) ∷ []) (at 31 2)) finish))));
}

abbrev spawns : Proc
spawns = record {
  name = (codes "S.H");
  params = 2;
  locals = of (codes "s") kind.Ref ∷ of (codes "a") kind.Word ∷ of (codes "t") kind.Word ∷ of (codes "t." ++ decimal 2) kind.Word ∷ of (codes "t." ++ decimal 1) kind.Word ∷ of (codes "t." ++ decimal 3) kind.Word ∷ [];
  results = [];
  body = (next (Do (Let 2 (LocalAt 1)) (at 35 2)) (next (If (Two binary.Equal (LocalAt 1) (Number 1)) (next (Do (Load 3 (LocalAt 0) 0 0) (at 37 3)) (next (Do (Load 4 (LocalAt 0) 0 0) (at 38 3)) (next (Do (Load 5 (LocalAt 0) 0 0) (at 38 3)) (next (Do (Store (LocalAt 0) 0 0 (Two binary.Plus (LocalAt 3) (Two binary.Times (LocalAt 4) (LocalAt 5)))) (at 38 3)) finish)))) finish (at 36 2)) (next (Do (Spawn 4 ((LocalAt 0) ∷ (LocalAt 2) ∷ (LocalAt 1) ∷ [])) (at 40 2)) (next (Return ([]) (at 43 1)) finish))));
}

abbrev literal : Proc
literal = record {
  name = (codes "S.H." ++ decimal 1);
  params = 3;
  locals = of (codes "s") kind.Ref ∷ of (codes "t") kind.Word ∷ of (codes "a") kind.Word ∷ [];
  results = [];
  body = (next (Do (Store (LocalAt 0) 0 0 (Two binary.Plus (LocalAt 1) (LocalAt 2))) (at 41 3)) (next (Return ([]) (at 42 2)) finish));
}

abbrev two : Proc
two = record {
  name = (codes "two");
  params = 1;
  locals = of (codes "d") kind.Word ∷ [];
  results = kind.Word ∷ kind.Bool ∷ [];
  body = (next (Return ((LocalAt 0) ∷ (One unary.Not (Two binary.Equal (LocalAt 0) (Number 0))) ∷ []) (at 46 2)) finish);
}

abbrev calls : Proc
calls = record {
  name = (codes "S.K");
  params = 2;
  locals = of (codes "s") kind.Ref ∷ of (codes "d") kind.Word ∷ of (codes "t." ++ decimal 1) kind.Word ∷ of (codes "t." ++ decimal 2) kind.Bool ∷ of (codes "t." ++ decimal 3) kind.Word ∷ of (codes "t." ++ decimal 4) kind.Word ∷ of (codes "ok") kind.Bool ∷ of (codes "z") kind.Word ∷ of (codes "t." ++ decimal 5) kind.Word ∷ of (codes "t." ++ decimal 6) kind.Word ∷ of (codes "t." ++ decimal 7) kind.Ref ∷ of (codes "t." ++ decimal 8) kind.Word ∷ of (codes "t." ++ decimal 9) kind.Word ∷ of (codes "t." ++ decimal 10) kind.Ref ∷ [];
  results = kind.Word ∷ [];
  body = (next (Do (Call (2 ∷ 3 ∷ []) 5 ((LocalAt 1) ∷ [])) (at 50 2)) (next (Do (Load 4 (LocalAt 0) 0 0) (at 51 2)) (next (Do (Call (5 ∷ 6 ∷ []) 5 ((LocalAt 4) ∷ [])) (at 51 2)) (next (Do (Let 7 (Number 0)) (at 52 2)) (next (If (One unary.Not (LocalAt 6)) (next (Do (Div 8 (LocalAt 1) (Number 2)) (at 54 3)) (next (Do (Call (9 ∷ []) 6 ((LocalAt 0) ∷ (LocalAt 8) ∷ [])) (at 54 3)) (next (Return ((LocalAt 9) ∷ []) (at 54 3)) finish))) (next (Do (Let 7 (Two binary.ShiftLeft (LocalAt 1) (Number 1))) (at 56 3)) finish) (at 53 2)) (next (Do (Load 10 (LocalAt 0) 0 1) (at 58 2)) (next (Do (Load 11 (LocalAt 0) 0 0) (at 58 2)) (next (Do (Rem 12 (LocalAt 11) (Number 3)) (at 58 2)) (next (Do (MapPut (LocalAt 10) (LocalAt 7) (LocalAt 12)) (at 58 2)) (next (Do (Load 13 (LocalAt 0) 0 1) (at 59 2)) (next (Do (MapDelete (LocalAt 13) (LocalAt 1)) (at 59 2)) (next (Return ((LocalAt 7) ∷ []) (at 60 2)) finish))))))))))));
}

abbrev slices : Proc
slices = record {
  name = (codes "S.L");
  params = 3;
  locals = of (codes "s") kind.Ref ∷ of (codes "b") kind.Slice ∷ of (codes "c") kind.Slice ∷ of (codes "t." ++ decimal 1) kind.Word ∷ of (codes "t." ++ decimal 2) kind.Word ∷ of (codes "t." ++ decimal 3) kind.Word ∷ of (codes "v") kind.Slice ∷ of (codes "t." ++ decimal 4) kind.Word ∷ of (codes "t." ++ decimal 5) kind.Slice ∷ of (codes "t." ++ decimal 6) kind.Word ∷ of (codes "t." ++ decimal 7) kind.Word ∷ of (codes "t." ++ decimal 8) kind.Word ∷ of (codes "t." ++ decimal 9) kind.Word ∷ of (codes "t." ++ decimal 10) kind.Slice ∷ [];
  results = kind.Slice ∷ [];
  body = (next (Do (Load 3 (LocalAt 0) 0 0) (at 64 2)) (next (Do (DiskWrite (Number 0) (LocalAt 3) (LocalAt 1)) (at 64 2)) (next (Do (Let 4 (Number 0)) (at 65 2)) (next (Do (Len 5 (LocalAt 2)) (at 66 2)) (next (Do (DiskRead 6 (Two binary.Minus (LocalAt 5) (Number 1))) (at 66 2)) (next (Do (Len 7 (LocalAt 2)) (at 67 2)) (next (Do (Sub 8 (LocalAt 2) (Number 1) (LocalAt 7)) (at 67 2)) (next (Do (At 9 (LocalAt 2) (Number 0)) (at 67 2)) (next (Do (Append 2 item.Word (LocalAt 8) (LocalAt 9)) (at 67 2)) (next (Loop (next (Do (Load 10 (LocalAt 0) 0 0) (at 68 2)) (next (If (Two binary.Less (LocalAt 10) (Number 9)) finish (next (Break (at 68 2)) finish) (at 68 2)) (next (Break (at 69 3)) (next (Continue (at 68 2)) finish)))) (at 68 2)) (next (Do (Load 11 (LocalAt 0) 0 0) (at 71 2)) (next (Do (Len 12 (LocalAt 6)) (at 71 2)) (next (Do (Sub 13 (LocalAt 6) (LocalAt 11) (LocalAt 12)) (at 71 2)) (next (Return ((LocalAt 13) ∷ []) (at 71 2)) finish))))))))))))));
}

abbrev pub shapes : Program
shapes = record {
  structs = record { name = codes "S"; fields = of (codes "n") kind.Word ∷ of (codes "m") kind.Ref ∷ [] } ∷ [];
  procs = recover ∷ reads ∷ loops ∷ spawns ∷ literal ∷ two ∷ calls ∷ slices ∷ [];
  recover = 0;
  ops = 1 ∷ 2 ∷ 3 ∷ 6 ∷ 7 ∷ [];
}
