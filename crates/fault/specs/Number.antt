-- The number of a fault, and of every answer that is a value or a fault (rules H and K1). Definitions only.
use Rattle.std.specs.Prelude.{ℕ, Result, Ok, Err}
use Rattle.fault.specs.declared.Fault.{Fault}
use Rattle.fault.specs.declared.Fault.TheVariants.{BadLength, BadKind, BadParent, TaskParent, BadChildren, TooDeep, BadBuffer, NotInPlan, NotApplicable, BadAnswer, BadPick, BadText, NothingToUndo, BadDepth, NotRenumbered, UnknownPoint, NoFreePoint, BadTable, BadDesk, NotRepeatable, BadCount, TooManyNodes, LastPlan, NotSmall, BadMarks, BadTarget, NoWay}

-- H1 to H9, H13, H15, H20 to H28: the number of each
abbrev pub fault_number : Fault → ℕ
fault_number BadLength = 1
fault_number BadKind = 2
fault_number BadParent = 3
fault_number TaskParent = 4
fault_number BadChildren = 5
fault_number TooDeep = 6
fault_number BadBuffer = 7
fault_number NotInPlan = 8
fault_number NotApplicable = 9
fault_number BadAnswer = 13
fault_number BadPick = 14
fault_number BadText = 15
fault_number NothingToUndo = 16
fault_number BadDepth = 17
fault_number NotRenumbered = 18
fault_number UnknownPoint = 19
fault_number NoFreePoint = 20
fault_number BadTable = 21
fault_number BadDesk = 22
fault_number NotRepeatable = 23
fault_number BadCount = 24
fault_number TooManyNodes = 25
fault_number LastPlan = 26
fault_number NotSmall = 27
fault_number BadMarks = 28
fault_number BadTarget = 29
fault_number NoWay = 30

-- H0: 0 where a call passed, else its fault's number
abbrev pub number_of : {T : Type 0} → Result T Fault → ℕ
number_of (Ok _) = 0
number_of (Err f) = fault_number f

-- K1: the value of a call that has one, 0 where it is refused
abbrev pub value_of : Result ℕ Fault → ℕ
value_of (Ok x) = x
value_of (Err _) = 0
