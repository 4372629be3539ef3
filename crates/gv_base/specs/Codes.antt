-- The names and numbers of the codes of refusal.
use Rattle.std.specs.Prelude.{ℕ, List, codes}
use Rattle.gv_base.specs.declared.answers.Code.{Code}
use Rattle.gv_base.specs.declared.answers.Code.TheVariants.{BadUtf8, BadChar, OpenComment, OpenText, BadNumber, Unexpected, NotInProfile, TooDeep, EndOfText, Undeclared, Twice, WrongType, WrongCount, NotAssignable, MissingReturn, Captured, ConstTooLarge, NoRecover, TooLong, Interface, Disks, TooMany, TooManyCells, TooManyEvents}

-- the name, as a report writes it
abbrev pub code_name : Code → List ℕ
code_name BadUtf8 = codes "BadUtf8"
code_name BadChar = codes "BadChar"
code_name OpenComment = codes "OpenComment"
code_name OpenText = codes "OpenText"
code_name BadNumber = codes "BadNumber"
code_name Unexpected = codes "Unexpected"
code_name NotInProfile = codes "NotInProfile"
code_name TooDeep = codes "TooDeep"
code_name EndOfText = codes "EndOfText"
code_name Undeclared = codes "Undeclared"
code_name Twice = codes "Twice"
code_name WrongType = codes "WrongType"
code_name WrongCount = codes "WrongCount"
code_name NotAssignable = codes "NotAssignable"
code_name MissingReturn = codes "MissingReturn"
code_name Captured = codes "Captured"
code_name ConstTooLarge = codes "ConstTooLarge"
code_name NoRecover = codes "NoRecover"
code_name TooLong = codes "TooLong"
code_name Interface = codes "Interface"
code_name Disks = codes "Disks"
code_name TooMany = codes "TooMany"
code_name TooManyCells = codes "TooManyCells"
code_name TooManyEvents = codes "TooManyEvents"

-- the number: of two codes at one place the lower wins
abbrev pub code_number : Code → ℕ
code_number BadUtf8 = 1
code_number BadChar = 2
code_number OpenComment = 3
code_number OpenText = 4
code_number BadNumber = 5
code_number Unexpected = 6
code_number NotInProfile = 7
code_number TooDeep = 8
code_number EndOfText = 9
code_number Undeclared = 10
code_number Twice = 11
code_number WrongType = 12
code_number WrongCount = 13
code_number NotAssignable = 14
code_number MissingReturn = 15
code_number Captured = 16
code_number ConstTooLarge = 17
code_number NoRecover = 18
code_number TooLong = 19
code_number Interface = 20
code_number Disks = 21
code_number TooMany = 22
code_number TooManyCells = 23
code_number TooManyEvents = 24
