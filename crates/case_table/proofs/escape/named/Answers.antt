use Rattle.std.proofs.Common.{sym, subst}
use Rattle.case_table.specs.Escapes.{Names, newline, return, tab, backslash}
use Rattle.case_table.proofs.escape.named.Goals as goal

pub returns-in-110 : goal.returns-in-110
returns-in-110 c = subst (λ sign. Names sign 10) (sym c.in-110.is) newline

pub returns-in-114 : goal.returns-in-114
returns-in-114 c = subst (λ sign. Names sign 13) (sym c.in-114.is) return

pub returns-in-116 : goal.returns-in-116
returns-in-116 c = subst (λ sign. Names sign 9) (sym c.in-116.is) tab

pub returns-in-92 : goal.returns-in-92
returns-in-92 c = subst (λ sign. Names sign 92) (sym c.in-92.is) backslash
