-- A package with locks, disks, slices and literals within literals, as its tree, and its program, which was written from the rules.
use Rattle.std.specs.Prelude.{ℕ, List, [], ◌∷◌, ◌++◌, codes, Some, None}
use Rattle.std.specs.Fmt.{decimal}
use Rattle.gv_base.specs.declared.answers.Place.{Place}
use Rattle.gv_gosyntax.specs.declared.lexeme.Lexeme.{Lexeme}
use Rattle.gv_gosyntax.specs.declared.tree.Pointed.TheVariants as pt
use Rattle.gv_gosyntax.specs.declared.tree.GoType.TheVariants as gt
use Rattle.gv_gotypes.specs.Trees as go
use Rattle.gv_gotypes.specs.Trees.{File}
use Rattle.gv_gotypes.specs.Scopes.{Source}
use Rattle.gv_lang.specs.declared.pure.Unary.TheVariants as unary
use Rattle.gv_lang.specs.declared.pure.Binary.TheVariants as binary
use Rattle.gv_lang.specs.declared.program.ItemKind.TheVariants as item
use Rattle.gv_lang.specs.declared.program.LocalKind.{LocalKind}
use Rattle.gv_lang.specs.declared.program.LocalKind.TheVariants as kind
use Rattle.gv_lang.specs.declared.program.Local.{Local}
use Rattle.gv_lang.specs.Tree.{Number, Nil, NilSlice, LocalAt, One, Two, Let, Div, Rem, New, Load, Store, MakeSlice, At, Put, NewMap, MapGet, MapPut, NewMutex, Lock, Unlock, DiskRead2, DiskWrite, Get64, Put64, Sub, Append, Call, Spawn, Do, If, Loop, Continue, Return, finish, next, Proc, Program}

-- a token, by its class and where it stands
abbrev t : ℕ → ℕ → ℕ → Lexeme
t class start end = record { class = class; start = start; end = end }

abbrev more_text : List ℕ
more_text =
    (codes "package more\n" ++
    (codes "\n" ++
    (codes "import (\n" ++
    (codes "\t\"sync\"\n" ++
    (codes "\t\"example.com/twodisk\"\n" ++
    (codes "\t\"example.com/machine\"\n" ++
    (codes ")\n" ++
    (codes "\n" ++
    (codes "type P struct {\n" ++
    (codes "\tmu *sync.Mutex\n" ++
    (codes "\tq *P\n" ++
    (codes "\tbs []byte\n" ++
    (codes "\tps []*P\n" ++
    (codes "}\n" ++
    (codes "\n" ++
    (codes "func Recover() *P {\n" ++
    (codes "\tm := new(sync.Mutex)\n" ++
    (codes "\tp := &P{bs: nil, mu: m}\n" ++
    (codes "\tp.q = next(p)\n" ++
    (codes "\treturn p.q\n" ++
    (codes "}\n" ++
    (codes "\n" ++
    (codes "func next(p *P) *P {\n" ++
    (codes "\tif p == nil || p.q != nil {\n" ++
    (codes "\t\treturn nil\n" ++
    (codes "\t}\n" ++
    (codes "\treturn &P{q: p}\n" ++
    (codes "}\n" ++
    (codes "\n" ++
    (codes "func (p *P) Run(n uint64) []byte {\n" ++
    (codes "\tp.mu.Lock()\n" ++
    (codes "\tp.ps = make([]*P, n)\n" ++
    (codes "\tp.ps[0] = next(p.q)\n" ++
    (codes "\tb := byte(n)\n" ++
    (codes "\tbs := append(p.bs, b)\n" ++
    (codes "\tappend(bs, 7)\n" ++
    (codes "\tm := make(map[uint64]uint64, n)\n" ++
    (codes "\tm[n] = m[n] + 1\n" ++
    (codes "\treturn bs\n" ++
    (codes "}\n" ++
    (codes "\n" ++
    (codes "func (p *P) Go() {\n" ++
    (codes "\tfor {\n" ++
    (codes "\t\tv, ok := twodisk.Read(0, 1)\n" ++
    (codes "\t\tif !ok {\n" ++
    (codes "\t\t\tcontinue\n" ++
    (codes "\t\t}\n" ++
    (codes "\t\tx := machine_get(v)\n" ++
    (codes "\t\tmachine.UInt64Put(v, x)\n" ++
    (codes "\t\ttwodisk.Write(1, 1, v)\n" ++
    (codes "\t\tgo func() {\n" ++
    (codes "\t\t\tgo func() {\n" ++
    (codes "\t\t\t\tp.mu.Unlock()\n" ++
    (codes "\t\t\t}()\n" ++
    (codes "\t\t\tp.Go()\n" ++
    (codes "\t\t}()\n" ++
    (codes "\t\tgo func() {\n" ++
    (codes "\t\t\tvar x bool = v[1] < v[2]\n" ++
    (codes "\t\t\tvar y []byte = v[:3]\n" ++
    (codes "\t\t\tnext(p)\n" ++
    (codes "\t\t\tx = y[0] > 1 && x\n" ++
    (codes "\t\t}()\n" ++
    (codes "\t}\n" ++
    (codes "}\n" ++
    (codes "\n" ++
    (codes "func machine_get(b []byte) uint64 {\n" ++
    (codes "\tn := machine.UInt64Get(b)\n" ++
    (codes "\tn /= 3\n" ++
    (codes "\tn &^= n % 4\n" ++
    (codes "\treturn n\n" ++
    codes "}\n"))))))))))))))))))))))))))))))))))))))))))))))))))))))))))))))))))))))

abbrev pub more_source : Source
more_source = record { text = more_text; tokens = ((t 1 0 7) ∷ (t 32 8 12) ∷ (t 35 12 12) ∷ (t 2 14 20) ∷ (t 36 21 22) ∷ (t 34 24 30) ∷ (t 35 30 30) ∷ (t 34 32 53) ∷ (t 35 53 53) ∷ (t 34 55 76) ∷ (t 35 76 76) ∷ (t 37 77 78) ∷ (t 35 78 78) ∷ (t 3 80 84) ∷ (t 32 85 86) ∷ (t 4 87 93) ∷ (t 40 94 95) ∷ (t 32 97 99) ∷ (t 61 100 101) ∷ (t 27 101 105) ∷ (t 43 105 106) ∷ (t 28 106 111) ∷ (t 35 111 111) ∷ (t 32 113 114) ∷ (t 61 115 116) ∷ (t 32 116 117) ∷ (t 35 117 117) ∷ (t 32 119 121) ∷ (t 38 122 123) ∷ (t 39 123 124) ∷ (t 17 124 128) ∷ (t 35 128 128) ∷ (t 32 130 132) ∷ (t 38 133 134) ∷ (t 39 134 135) ∷ (t 61 135 136) ∷ (t 32 136 137) ∷ (t 35 137 137) ∷ (t 41 138 139) ∷ (t 35 139 139) ∷ (t 6 141 145) ∷ (t 32 146 153) ∷ (t 36 153 154) ∷ (t 37 154 155) ∷ (t 61 156 157) ∷ (t 32 157 158) ∷ (t 40 159 160) ∷ (t 32 162 163) ∷ (t 45 164 166) ∷ (t 23 167 170) ∷ (t 36 170 171) ∷ (t 27 171 175) ∷ (t 43 175 176) ∷ (t 28 176 181) ∷ (t 37 181 182) ∷ (t 35 182 182) ∷ (t 32 184 185) ∷ (t 45 186 188) ∷ (t 66 189 190) ∷ (t 32 190 191) ∷ (t 40 191 192) ∷ (t 32 192 194) ∷ (t 44 194 195) ∷ (t 21 196 199) ∷ (t 42 199 200) ∷ (t 32 201 203) ∷ (t 44 203 204) ∷ (t 32 205 206) ∷ (t 41 206 207) ∷ (t 35 207 207) ∷ (t 32 209 210) ∷ (t 43 210 211) ∷ (t 32 211 212) ∷ (t 46 213 214) ∷ (t 32 215 219) ∷ (t 36 219 220) ∷ (t 32 220 221) ∷ (t 37 221 222) ∷ (t 35 222 222) ∷ (t 14 224 230) ∷ (t 32 231 232) ∷ (t 43 232 233) ∷ (t 32 233 234) ∷ (t 35 234 234) ∷ (t 41 235 236) ∷ (t 35 236 236) ∷ (t 6 238 242) ∷ (t 32 243 247) ∷ (t 36 247 248) ∷ (t 32 248 249) ∷ (t 61 250 251) ∷ (t 32 251 252) ∷ (t 37 252 253) ∷ (t 61 254 255) ∷ (t 32 255 256) ∷ (t 40 257 258) ∷ (t 9 260 262) ∷ (t 32 263 264) ∷ (t 51 265 267) ∷ (t 21 268 271) ∷ (t 49 272 274) ∷ (t 32 275 276) ∷ (t 43 276 277) ∷ (t 32 277 278) ∷ (t 52 279 281) ∷ (t 21 282 285) ∷ (t 40 286 287) ∷ (t 14 290 296) ∷ (t 21 297 300) ∷ (t 35 300 300) ∷ (t 41 302 303) ∷ (t 35 303 303) ∷ (t 14 305 311) ∷ (t 66 312 313) ∷ (t 32 313 314) ∷ (t 40 314 315) ∷ (t 32 315 316) ∷ (t 44 316 317) ∷ (t 32 318 319) ∷ (t 41 319 320) ∷ (t 35 320 320) ∷ (t 41 321 322) ∷ (t 35 322 322) ∷ (t 6 324 328) ∷ (t 36 329 330) ∷ (t 32 330 331) ∷ (t 61 332 333) ∷ (t 32 333 334) ∷ (t 37 334 335) ∷ (t 32 336 339) ∷ (t 36 339 340) ∷ (t 32 340 341) ∷ (t 16 342 348) ∷ (t 37 348 349) ∷ (t 38 350 351) ∷ (t 39 351 352) ∷ (t 17 352 356) ∷ (t 40 357 358) ∷ (t 32 360 361) ∷ (t 43 361 362) ∷ (t 32 362 364) ∷ (t 43 364 365) ∷ (t 32 365 369) ∷ (t 36 369 370) ∷ (t 37 370 371) ∷ (t 35 371 371) ∷ (t 32 373 374) ∷ (t 43 374 375) ∷ (t 32 375 377) ∷ (t 46 378 379) ∷ (t 22 380 384) ∷ (t 36 384 385) ∷ (t 38 385 386) ∷ (t 39 386 387) ∷ (t 61 387 388) ∷ (t 32 388 389) ∷ (t 42 389 390) ∷ (t 32 391 392) ∷ (t 37 392 393) ∷ (t 35 393 393) ∷ (t 32 395 396) ∷ (t 43 396 397) ∷ (t 32 397 399) ∷ (t 38 399 400) ∷ (t 33 400 401) ∷ (t 39 401 402) ∷ (t 46 403 404) ∷ (t 32 405 409) ∷ (t 36 409 410) ∷ (t 32 410 411) ∷ (t 43 411 412) ∷ (t 32 412 413) ∷ (t 37 413 414) ∷ (t 35 414 414) ∷ (t 32 416 417) ∷ (t 45 418 420) ∷ (t 17 421 425) ∷ (t 36 425 426) ∷ (t 32 426 427) ∷ (t 37 427 428) ∷ (t 35 428 428) ∷ (t 32 430 432) ∷ (t 45 433 435) ∷ (t 26 436 442) ∷ (t 36 442 443) ∷ (t 32 443 444) ∷ (t 43 444 445) ∷ (t 32 445 447) ∷ (t 42 447 448) ∷ (t 32 449 450) ∷ (t 37 450 451) ∷ (t 35 451 451) ∷ (t 26 453 459) ∷ (t 36 459 460) ∷ (t 32 460 462) ∷ (t 42 462 463) ∷ (t 33 464 465) ∷ (t 37 465 466) ∷ (t 35 466 466) ∷ (t 32 468 469) ∷ (t 45 470 472) ∷ (t 22 473 477) ∷ (t 36 477 478) ∷ (t 7 478 481) ∷ (t 38 481 482) ∷ (t 16 482 488) ∷ (t 39 488 489) ∷ (t 16 489 495) ∷ (t 42 495 496) ∷ (t 32 497 498) ∷ (t 37 498 499) ∷ (t 35 499 499) ∷ (t 32 501 502) ∷ (t 38 502 503) ∷ (t 32 503 504) ∷ (t 39 504 505) ∷ (t 46 506 507) ∷ (t 32 508 509) ∷ (t 38 509 510) ∷ (t 32 510 511) ∷ (t 39 511 512) ∷ (t 57 513 514) ∷ (t 33 515 516) ∷ (t 35 516 516) ∷ (t 14 518 524) ∷ (t 32 525 527) ∷ (t 35 527 527) ∷ (t 41 528 529) ∷ (t 35 529 529) ∷ (t 6 531 535) ∷ (t 36 536 537) ∷ (t 32 537 538) ∷ (t 61 539 540) ∷ (t 32 540 541) ∷ (t 37 541 542) ∷ (t 32 543 545) ∷ (t 36 545 546) ∷ (t 37 546 547) ∷ (t 40 548 549) ∷ (t 11 551 554) ∷ (t 40 555 556) ∷ (t 32 559 560) ∷ (t 42 560 561) ∷ (t 32 562 564) ∷ (t 45 565 567) ∷ (t 30 568 575) ∷ (t 43 575 576) ∷ (t 32 576 580) ∷ (t 36 580 581) ∷ (t 33 581 582) ∷ (t 42 582 583) ∷ (t 33 584 585) ∷ (t 37 585 586) ∷ (t 35 586 586) ∷ (t 9 589 591) ∷ (t 68 592 593) ∷ (t 32 593 595) ∷ (t 40 596 597) ∷ (t 13 601 609) ∷ (t 35 609 609) ∷ (t 41 612 613) ∷ (t 35 613 613) ∷ (t 32 616 617) ∷ (t 45 618 620) ∷ (t 32 621 632) ∷ (t 36 632 633) ∷ (t 32 633 634) ∷ (t 37 634 635) ∷ (t 35 635 635) ∷ (t 32 638 645) ∷ (t 43 645 646) ∷ (t 32 646 655) ∷ (t 36 655 656) ∷ (t 32 656 657) ∷ (t 42 657 658) ∷ (t 32 659 660) ∷ (t 37 660 661) ∷ (t 35 661 661) ∷ (t 30 664 671) ∷ (t 43 671 672) ∷ (t 32 672 677) ∷ (t 36 677 678) ∷ (t 33 678 679) ∷ (t 42 679 680) ∷ (t 33 681 682) ∷ (t 42 682 683) ∷ (t 32 684 685) ∷ (t 37 685 686) ∷ (t 35 686 686) ∷ (t 15 689 691) ∷ (t 6 692 696) ∷ (t 36 696 697) ∷ (t 37 697 698) ∷ (t 40 699 700) ∷ (t 15 704 706) ∷ (t 6 707 711) ∷ (t 36 711 712) ∷ (t 37 712 713) ∷ (t 40 714 715) ∷ (t 32 720 721) ∷ (t 43 721 722) ∷ (t 32 722 724) ∷ (t 43 724 725) ∷ (t 32 725 731) ∷ (t 36 731 732) ∷ (t 37 732 733) ∷ (t 35 733 733) ∷ (t 41 737 738) ∷ (t 36 738 739) ∷ (t 37 739 740) ∷ (t 35 740 740) ∷ (t 32 744 745) ∷ (t 43 745 746) ∷ (t 32 746 748) ∷ (t 36 748 749) ∷ (t 37 749 750) ∷ (t 35 750 750) ∷ (t 41 753 754) ∷ (t 36 754 755) ∷ (t 37 755 756) ∷ (t 35 756 756) ∷ (t 15 759 761) ∷ (t 6 762 766) ∷ (t 36 766 767) ∷ (t 37 767 768) ∷ (t 40 769 770) ∷ (t 8 774 777) ∷ (t 32 778 779) ∷ (t 18 780 784) ∷ (t 46 785 786) ∷ (t 32 787 788) ∷ (t 38 788 789) ∷ (t 33 789 790) ∷ (t 39 790 791) ∷ (t 53 792 793) ∷ (t 32 794 795) ∷ (t 38 795 796) ∷ (t 33 796 797) ∷ (t 39 797 798) ∷ (t 35 798 798) ∷ (t 8 802 805) ∷ (t 32 806 807) ∷ (t 38 808 809) ∷ (t 39 809 810) ∷ (t 17 810 814) ∷ (t 46 815 816) ∷ (t 32 817 818) ∷ (t 38 818 819) ∷ (t 44 819 820) ∷ (t 33 820 821) ∷ (t 39 821 822) ∷ (t 35 822 822) ∷ (t 32 826 830) ∷ (t 36 830 831) ∷ (t 32 831 832) ∷ (t 37 832 833) ∷ (t 35 833 833) ∷ (t 32 837 838) ∷ (t 46 839 840) ∷ (t 32 841 842) ∷ (t 38 842 843) ∷ (t 33 843 844) ∷ (t 39 844 845) ∷ (t 55 846 847) ∷ (t 33 848 849) ∷ (t 50 850 852) ∷ (t 32 853 854) ∷ (t 35 854 854) ∷ (t 41 857 858) ∷ (t 36 858 859) ∷ (t 37 859 860) ∷ (t 35 860 860) ∷ (t 41 862 863) ∷ (t 35 863 863) ∷ (t 41 864 865) ∷ (t 35 865 865) ∷ (t 6 867 871) ∷ (t 32 872 883) ∷ (t 36 883 884) ∷ (t 32 884 885) ∷ (t 38 886 887) ∷ (t 39 887 888) ∷ (t 17 888 892) ∷ (t 37 892 893) ∷ (t 16 894 900) ∷ (t 40 901 902) ∷ (t 32 904 905) ∷ (t 45 906 908) ∷ (t 32 909 916) ∷ (t 43 916 917) ∷ (t 32 917 926) ∷ (t 36 926 927) ∷ (t 32 927 928) ∷ (t 37 928 929) ∷ (t 35 929 929) ∷ (t 32 931 932) ∷ (t 74 933 935) ∷ (t 33 936 937) ∷ (t 35 937 937) ∷ (t 32 939 940) ∷ (t 79 941 944) ∷ (t 32 945 946) ∷ (t 63 947 948) ∷ (t 33 949 950) ∷ (t 35 950 950) ∷ (t 14 952 958) ∷ (t 32 959 960) ∷ (t 35 960 960) ∷ (t 41 961 962) ∷ (t 35 962 962) ∷ []) }

abbrev pub more_file : File
more_file = record { name = (t 32 8 12); imports = (((t 34 24 30) ∷ (t 34 32 53) ∷ (t 34 55 76) ∷ []) ∷ []); decls = ((go.Struct (t 32 85 86) ((record { names = ((t 32 97 99) ∷ []); kind = (gt.Pointer (t 61 100 101) (pt.Mutex (t 27 101 105))) }) ∷ (record { names = ((t 32 113 114) ∷ []); kind = (gt.Pointer (t 61 115 116) (pt.Named (t 32 116 117))) }) ∷ (record { names = ((t 32 119 121) ∷ []); kind = (gt.Slice (t 38 122 123) (t 17 124 128)) }) ∷ (record { names = ((t 32 130 132) ∷ []); kind = (gt.Pointers (t 38 133 134) (pt.Named (t 32 136 137))) }) ∷ [])) ∷ (go.Func (record { receiver = None; name = (t 32 146 153); params = ([]); results = ((gt.Pointer (t 61 156 157) (pt.Named (t 32 157 158))) ∷ []); body = (go.braces (t 40 159 160) (go.next (go.Simple (go.Assign ((go.Name (t 32 162 163)) ∷ []) (t 45 164 166) (go.Result (go.New (t 23 167 170))))) (go.next (go.Simple (go.Assign ((go.Name (t 32 184 185)) ∷ []) (t 45 186 188) (go.Result (go.Literal (t 66 189 190) (t 32 190 191) ((record { key = (t 32 192 194); value = (go.Constant (t 21 196 199)) }) ∷ (record { key = (t 32 201 203); value = (go.Name (t 32 205 206)) }) ∷ []))))) (go.next (go.Simple (go.Assign ((go.Select (go.Name (t 32 209 210)) (t 32 211 212)) ∷ []) (t 46 213 214) (go.Result (go.Function (go.Name (t 32 215 219)) ((go.Name (t 32 220 221)) ∷ []))))) (go.next (go.Return (t 14 224 230) ((go.Value (go.Select (go.Name (t 32 231 232)) (t 32 233 234))) ∷ [])) go.no_more)))) (t 41 235 236)) })) ∷ (go.Func (record { receiver = None; name = (t 32 243 247); params = ((record { names = ((t 32 248 249) ∷ []); kind = (gt.Pointer (t 61 250 251) (pt.Named (t 32 251 252))) }) ∷ []); results = ((gt.Pointer (t 61 254 255) (pt.Named (t 32 255 256))) ∷ []); body = (go.braces (t 40 257 258) (go.next (go.If (t 9 260 262) (go.Binary (go.Binary (go.Name (t 32 263 264)) (t 51 265 267) (go.Constant (t 21 268 271))) (t 49 272 274) (go.Binary (go.Select (go.Name (t 32 275 276)) (t 32 277 278)) (t 52 279 281) (go.Constant (t 21 282 285)))) (go.braces (t 40 286 287) (go.next (go.Return (t 14 290 296) ((go.Value (go.Constant (t 21 297 300))) ∷ [])) go.no_more) (t 41 302 303)) go.no_branch) (go.next (go.Return (t 14 305 311) ((go.Result (go.Literal (t 66 312 313) (t 32 313 314) ((record { key = (t 32 315 316); value = (go.Name (t 32 318 319)) }) ∷ []))) ∷ [])) go.no_more)) (t 41 321 322)) })) ∷ (go.Func (record { receiver = (Some (record { name = (t 32 330 331); of = (t 32 333 334) })); name = (t 32 336 339); params = ((record { names = ((t 32 340 341) ∷ []); kind = (gt.Word (t 16 342 348)) }) ∷ []); results = ((gt.Slice (t 38 350 351) (t 17 352 356)) ∷ []); body = (go.braces (t 40 357 358) (go.next (go.Simple (go.Calling (go.Function (go.Select (go.Select (go.Name (t 32 360 361)) (t 32 362 364)) (t 32 365 369)) ([])))) (go.next (go.Simple (go.Assign ((go.Select (go.Name (t 32 373 374)) (t 32 375 377)) ∷ []) (t 46 378 379) (go.Result (go.Make (t 22 380 384) (gt.Pointers (t 38 385 386) (pt.Named (t 32 388 389))) (Some (go.Name (t 32 391 392))))))) (go.next (go.Simple (go.Assign ((go.Index (go.Select (go.Name (t 32 395 396)) (t 32 397 399)) (go.Constant (t 33 400 401))) ∷ []) (t 46 403 404) (go.Result (go.Function (go.Name (t 32 405 409)) ((go.Select (go.Name (t 32 410 411)) (t 32 412 413)) ∷ []))))) (go.next (go.Simple (go.Assign ((go.Name (t 32 416 417)) ∷ []) (t 45 418 420) (go.Value (go.Convert (t 17 421 425) (go.Name (t 32 426 427)))))) (go.next (go.Simple (go.Assign ((go.Name (t 32 430 432)) ∷ []) (t 45 433 435) (go.Result (go.Pair (t 26 436 442) (go.Select (go.Name (t 32 443 444)) (t 32 445 447)) (go.Name (t 32 449 450)))))) (go.next (go.Simple (go.Calling ((go.Pair (t 26 453 459) (go.Name (t 32 460 462)) (go.Constant (t 33 464 465)))))) (go.next (go.Simple (go.Assign ((go.Name (t 32 468 469)) ∷ []) (t 45 470 472) (go.Result (go.Make (t 22 473 477) (gt.Map (t 7 478 481)) (Some (go.Name (t 32 497 498))))))) (go.next (go.Simple (go.Assign ((go.Index (go.Name (t 32 501 502)) (go.Name (t 32 503 504))) ∷ []) (t 46 506 507) (go.Value (go.Binary (go.Index (go.Name (t 32 508 509)) (go.Name (t 32 510 511))) (t 57 513 514) (go.Constant (t 33 515 516)))))) (go.next (go.Return (t 14 518 524) ((go.Value (go.Name (t 32 525 527))) ∷ [])) go.no_more))))))))) (t 41 528 529)) })) ∷ (go.Func (record { receiver = (Some (record { name = (t 32 537 538); of = (t 32 540 541) })); name = (t 32 543 545); params = ([]); results = ([]); body = (go.braces (t 40 548 549) (go.next (go.For (t 11 551 554) (record { first = None; condition = None; post = None }) (go.braces (t 40 555 556) (go.next (go.Simple (go.Assign ((go.Name (t 32 559 560)) ∷ (go.Name (t 32 562 564)) ∷ []) (t 45 565 567) (go.Result (go.Function (go.Select (go.Name (t 30 568 575)) (t 32 576 580)) ((go.Constant (t 33 581 582)) ∷ (go.Constant (t 33 584 585)) ∷ []))))) (go.next (go.If (t 9 589 591) (go.Unary (t 68 592 593) (go.Name (t 32 593 595))) (go.braces (t 40 596 597) (go.next (go.Jump (t 13 601 609)) go.no_more) (t 41 612 613)) go.no_branch) (go.next (go.Simple (go.Assign ((go.Name (t 32 616 617)) ∷ []) (t 45 618 620) (go.Result (go.Function (go.Name (t 32 621 632)) ((go.Name (t 32 633 634)) ∷ []))))) (go.next (go.Simple (go.Calling (go.Function (go.Select (go.Name (t 32 638 645)) (t 32 646 655)) ((go.Name (t 32 656 657)) ∷ (go.Name (t 32 659 660)) ∷ [])))) (go.next (go.Simple (go.Calling (go.Function (go.Select (go.Name (t 30 664 671)) (t 32 672 677)) ((go.Constant (t 33 678 679)) ∷ (go.Constant (t 33 681 682)) ∷ (go.Name (t 32 684 685)) ∷ [])))) (go.next (go.Go (t 15 689 691) (go.braces (t 40 699 700) (go.next (go.Go (t 15 704 706) (go.braces (t 40 714 715) (go.next (go.Simple (go.Calling (go.Function (go.Select (go.Select (go.Name (t 32 720 721)) (t 32 722 724)) (t 32 725 731)) ([])))) go.no_more) (t 41 737 738))) (go.next (go.Simple (go.Calling (go.Function (go.Select (go.Name (t 32 744 745)) (t 32 746 748)) ([])))) go.no_more)) (t 41 753 754))) (go.next (go.Go (t 15 759 761) (go.braces (t 40 769 770) (go.next (go.Var (t 8 774 777) (t 32 778 779) (gt.Word (t 18 780 784)) (Some (go.Value (go.Binary (go.Index (go.Name (t 32 787 788)) (go.Constant (t 33 789 790))) (t 53 792 793) (go.Index (go.Name (t 32 794 795)) (go.Constant (t 33 796 797))))))) (go.next (go.Var (t 8 802 805) (t 32 806 807) (gt.Slice (t 38 808 809) (t 17 810 814)) (Some (go.Value (go.Slice (go.Name (t 32 817 818)) go.left_out (go.bound (go.Constant (t 33 820 821))))))) (go.next (go.Simple (go.Calling (go.Function (go.Name (t 32 826 830)) ((go.Name (t 32 831 832)) ∷ [])))) (go.next (go.Simple (go.Assign ((go.Name (t 32 837 838)) ∷ []) (t 46 839 840) (go.Value (go.Binary (go.Binary (go.Index (go.Name (t 32 841 842)) (go.Constant (t 33 843 844))) (t 55 846 847) (go.Constant (t 33 848 849))) (t 50 850 852) (go.Name (t 32 853 854)))))) go.no_more)))) (t 41 857 858))) go.no_more))))))) (t 41 862 863))) go.no_more) (t 41 864 865)) })) ∷ (go.Func (record { receiver = None; name = (t 32 872 883); params = ((record { names = ((t 32 884 885) ∷ []); kind = (gt.Slice (t 38 886 887) (t 17 888 892)) }) ∷ []); results = ((gt.Word (t 16 894 900)) ∷ []); body = (go.braces (t 40 901 902) (go.next (go.Simple (go.Assign ((go.Name (t 32 904 905)) ∷ []) (t 45 906 908) (go.Result (go.Function (go.Select (go.Name (t 32 909 916)) (t 32 917 926)) ((go.Name (t 32 927 928)) ∷ []))))) (go.next (go.Simple (go.Update (go.Name (t 32 931 932)) (t 74 933 935) (go.Constant (t 33 936 937)))) (go.next (go.Simple (go.Update (go.Name (t 32 939 940)) (t 79 941 944) (go.Binary (go.Name (t 32 945 946)) (t 63 947 948) (go.Constant (t 33 949 950))))) (go.next (go.Return (t 14 952 958) ((go.Value (go.Name (t 32 959 960))) ∷ [])) go.no_more)))) (t 41 961 962)) })) ∷ []) }

-- ---- its program

abbrev at : ℕ → ℕ → Place
at line column = record { line = line; column = column }

abbrev of : List ℕ → LocalKind → Local
of name k = record { name = name; kind = k }

abbrev recover : Proc
recover = record {
  name = (codes "Recover");
  params = 0;
  locals = of (codes "m") kind.Ref ∷ of (codes "p") kind.Ref ∷ of (codes "t." ++ decimal 1) kind.Ref ∷ of (codes "t." ++ decimal 2) kind.Ref ∷ [];
  results = kind.Ref ∷ [];
  body = (next (Do (NewMutex 0) (at 17 2)) (next (Do (New 1 0 ((LocalAt 0) ∷ Nil ∷ NilSlice ∷ NilSlice ∷ [])) (at 18 2)) (next (Do (Call (2 ∷ []) 1 ((LocalAt 1) ∷ [])) (at 19 2)) (next (Do (Store (LocalAt 1) 0 1 (LocalAt 2)) (at 19 2)) (next (Do (Load 3 (LocalAt 1) 0 1) (at 20 2)) (next (Return ((LocalAt 3) ∷ []) (at 20 2)) finish))))));
}

abbrev alternatives : Proc
alternatives = record {
  name = (codes "next");
  params = 1;
  locals = of (codes "p") kind.Ref ∷ of (codes "t." ++ decimal 1) kind.Bool ∷ of (codes "t." ++ decimal 2) kind.Ref ∷ of (codes "t." ++ decimal 3) kind.Ref ∷ [];
  results = kind.Ref ∷ [];
  body = (next (Do (Let 1 (Two binary.Equal (LocalAt 0) Nil)) (at 24 2)) (next (If (LocalAt 1) finish (next (Do (Load 2 (LocalAt 0) 0 1) (at 24 2)) (next (Do (Let 1 (One unary.Not (Two binary.Equal (LocalAt 2) Nil))) (at 24 2)) finish)) (at 24 2)) (next (If (LocalAt 1) (next (Return (Nil ∷ []) (at 25 3)) finish) finish (at 24 2)) (next (Do (New 3 0 (Nil ∷ (LocalAt 0) ∷ NilSlice ∷ NilSlice ∷ [])) (at 27 2)) (next (Return ((LocalAt 3) ∷ []) (at 27 2)) finish)))));
}

abbrev makes : Proc
makes = record {
  name = (codes "P.Run");
  params = 2;
  locals = of (codes "p") kind.Ref ∷ of (codes "n") kind.Word ∷ of (codes "t." ++ decimal 1) kind.Ref ∷ of (codes "t." ++ decimal 2) kind.Slice ∷ of (codes "t." ++ decimal 3) kind.Slice ∷ of (codes "t." ++ decimal 4) kind.Ref ∷ of (codes "t." ++ decimal 5) kind.Ref ∷ of (codes "b") kind.Word ∷ of (codes "t." ++ decimal 6) kind.Slice ∷ of (codes "bs") kind.Slice ∷ of (codes "t." ++ decimal 7) kind.Slice ∷ of (codes "m") kind.Ref ∷ of (codes "t." ++ decimal 8) kind.Word ∷ of (codes "t." ++ decimal 9) kind.Bool ∷ [];
  results = kind.Slice ∷ [];
  body = (next (Do (Load 2 (LocalAt 0) 0 0) (at 31 2)) (next (Do (Lock (LocalAt 2)) (at 31 2)) (next (Do (MakeSlice 3 item.Ref (LocalAt 1)) (at 32 2)) (next (Do (Store (LocalAt 0) 0 3 (LocalAt 3)) (at 32 2)) (next (Do (Load 4 (LocalAt 0) 0 3) (at 33 2)) (next (Do (Load 5 (LocalAt 0) 0 1) (at 33 2)) (next (Do (Call (6 ∷ []) 1 ((LocalAt 5) ∷ [])) (at 33 2)) (next (Do (Put (LocalAt 4) (Number 0) (LocalAt 6)) (at 33 2)) (next (Do (Rem 7 (LocalAt 1) (Number 256)) (at 34 2)) (next (Do (Load 8 (LocalAt 0) 0 2) (at 35 2)) (next (Do (Append 9 item.Byte (LocalAt 8) (LocalAt 7)) (at 35 2)) (next (Do (Append 10 item.Byte (LocalAt 9) (Number 7)) (at 36 2)) (next (Do (NewMap 11) (at 37 2)) (next (Do (MapGet 12 13 (LocalAt 11) (LocalAt 1)) (at 38 2)) (next (Do (MapPut (LocalAt 11) (LocalAt 1) (Two binary.Plus (LocalAt 12) (Number 1))) (at 38 2)) (next (Return ((LocalAt 9) ∷ []) (at 39 2)) finish))))))))))))))));
}

abbrev disks : Proc
disks = record {
  name = (codes "P.Go");
  params = 1;
  locals = of (codes "p") kind.Ref ∷ of (codes "v") kind.Slice ∷ of (codes "ok") kind.Bool ∷ of (codes "x") kind.Word ∷ [];
  results = [];
  body = (next (Loop (next (Do (DiskRead2 1 2 (Number 0) (Number 1)) (at 44 3)) (next (If (One unary.Not (LocalAt 2)) (next (Continue (at 46 4)) finish) finish (at 45 3)) (next (Do (Call (3 ∷ []) 7 ((LocalAt 1) ∷ [])) (at 48 3)) (next (Do (Put64 (LocalAt 1) (LocalAt 3)) (at 49 3)) (next (Do (DiskWrite (Number 1) (Number 1) (LocalAt 1)) (at 50 3)) (next (Do (Spawn 4 ((LocalAt 0) ∷ [])) (at 51 3)) (next (Do (Spawn 6 ((LocalAt 1) ∷ (LocalAt 0) ∷ [])) (at 57 3)) (next (Continue (at 43 2)) finish)))))))) (at 43 2)) (next (Return ([]) (at 64 1)) finish));
}

abbrev first_literal : Proc
first_literal = record {
  name = (codes "P.Go." ++ decimal 1);
  params = 1;
  locals = of (codes "p") kind.Ref ∷ [];
  results = [];
  body = (next (Do (Spawn 5 ((LocalAt 0) ∷ [])) (at 52 4)) (next (Do (Call ([]) 3 ((LocalAt 0) ∷ [])) (at 55 4)) (next (Return ([]) (at 56 3)) finish)));
}

abbrev inner_literal : Proc
inner_literal = record {
  name = (codes "P.Go." ++ (decimal 1 ++ (codes "." ++ decimal 1)));
  params = 1;
  locals = of (codes "p") kind.Ref ∷ of (codes "t." ++ decimal 1) kind.Ref ∷ [];
  results = [];
  body = (next (Do (Load 1 (LocalAt 0) 0 0) (at 53 5)) (next (Do (Unlock (LocalAt 1)) (at 53 5)) (next (Return ([]) (at 54 4)) finish)));
}

abbrev second_literal : Proc
second_literal = record {
  name = (codes "P.Go." ++ decimal 2);
  params = 2;
  locals = of (codes "v") kind.Slice ∷ of (codes "p") kind.Ref ∷ of (codes "t." ++ decimal 1) kind.Word ∷ of (codes "t." ++ decimal 2) kind.Word ∷ of (codes "x") kind.Bool ∷ of (codes "y") kind.Slice ∷ of (codes "t." ++ decimal 3) kind.Ref ∷ of (codes "t." ++ decimal 4) kind.Word ∷ [];
  results = [];
  body = (next (Do (At 2 (LocalAt 0) (Number 1)) (at 58 4)) (next (Do (At 3 (LocalAt 0) (Number 2)) (at 58 4)) (next (Do (Let 4 (Two binary.Less (LocalAt 2) (LocalAt 3))) (at 58 4)) (next (Do (Sub 5 (LocalAt 0) (Number 0) (Number 3)) (at 59 4)) (next (Do (Call (6 ∷ []) 1 ((LocalAt 1) ∷ [])) (at 60 4)) (next (Do (At 7 (LocalAt 5) (Number 0)) (at 61 4)) (next (Do (Let 4 (Two binary.And (Two binary.Less (Number 1) (LocalAt 7)) (LocalAt 4))) (at 61 4)) (next (Return ([]) (at 62 3)) finish))))))));
}

abbrev updates : Proc
updates = record {
  name = (codes "machine_get");
  params = 1;
  locals = of (codes "b") kind.Slice ∷ of (codes "n") kind.Word ∷ of (codes "t." ++ decimal 1) kind.Word ∷ [];
  results = kind.Word ∷ [];
  body = (next (Do (Get64 1 (LocalAt 0)) (at 67 2)) (next (Do (Div 1 (LocalAt 1) (Number 3)) (at 68 2)) (next (Do (Rem 2 (LocalAt 1) (Number 4)) (at 69 2)) (next (Do (Let 1 (Two binary.BitClear (LocalAt 1) (LocalAt 2))) (at 69 2)) (next (Return ((LocalAt 1) ∷ []) (at 70 2)) finish)))));
}

abbrev pub more : Program
more = record {
  structs = record { name = codes "P"; fields = of (codes "mu") kind.Ref ∷ of (codes "q") kind.Ref ∷ of (codes "bs") kind.Slice ∷ of (codes "ps") kind.Slice ∷ [] } ∷ [];
  procs = recover ∷ alternatives ∷ makes ∷ disks ∷ first_literal ∷ inner_literal ∷ second_literal ∷ updates ∷ [];
  recover = 0;
  ops = 2 ∷ 3 ∷ [];
}
