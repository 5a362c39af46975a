-- The refusals of the code, by the numbers of 01's table (01, Answer numbers), and what its results mean as steps.
use Rattle.std.specs.Prelude.{ℕ, Result, Ok, Err}
use Rattle.cdf.specs.Step.{Step, got, stop}
use Rattle.cdf.specs.declared.refusal.Refusal.{Refusal}
use Rattle.cdf.specs.declared.refusal.Refusal.TheVariants.{Unfinished, Truncated, NotCdf, Version, WordRange, NotUtf8, Padding, TypeCode, ListStart, Capacity, Model, Sizes, Rest, SizeBelowRecords, Ends, NoVariable, OtherType, NoRecord, NoElement, Window, FileSize, OutputRoom, Tables, BeginInHeader, BeginTooFar}

-- the number of each
abbrev pub number : Refusal → ℕ
number Unfinished = 1
number Truncated = 2
number NotCdf = 3
number Version = 4
number WordRange = 5
number NotUtf8 = 6
number Padding = 7
number TypeCode = 8
number ListStart = 9
number Capacity = 10
number Model = 11
number Sizes = 12
number Rest = 13
number SizeBelowRecords = 14
number Ends = 15
number NoVariable = 16
number OtherType = 17
number NoRecord = 18
number NoElement = 19
number Window = 20
number FileSize = 21
number OutputRoom = 22
number Tables = 23
number BeginInHeader = 24
number BeginTooFar = 25

-- a result that has no place of its own: the value, or the refusal by its number
abbrev pub of_result : {A : Type 0} → Result A Refusal → Step A
of_result (Ok x) = got x 0
of_result (Err k) = stop (number k) 0

-- the number that a result answers (01, number 0: "accepted")
abbrev pub answered : {A : Type 0} → Result A Refusal → ℕ
answered (Ok _) = 0
answered (Err k) = number k
