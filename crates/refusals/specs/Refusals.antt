-- The number that document 01, "What is refused, in checking order", gives each refusal, and that of an answer.
-- Assumes nothing.
use Rattle.std.specs.Prelude.{ℕ, Result, Ok, Err}
use Rattle.refusals.specs.declared.Refusal.{Refusal}
use Rattle.refusals.specs.declared.Refusal.TheVariants.{BadLine, UnfitMemory, UnknownKind, BadDate, BadField, BeforeLatest, NotBusinessDay, AlreadyExists, DoesNotExist, NoRowLeft, NotLive, WrongSequence, BadTiming, Lapsed, WrongState, BeforeDue, AfterLastDay}

abbrev pub number_of : Refusal → ℕ
number_of BadLine = 1
number_of UnfitMemory = 2
number_of UnknownKind = 3
number_of BadDate = 4
number_of BadField = 5
number_of BeforeLatest = 6
number_of NotBusinessDay = 7
number_of AlreadyExists = 8
number_of DoesNotExist = 9
number_of NoRowLeft = 10
number_of NotLive = 11
number_of WrongSequence = 12
number_of BadTiming = 13
number_of Lapsed = 14
number_of WrongState = 15
number_of BeforeDue = 16
number_of AfterLastDay = 17

-- the number of an answer: 0 where nothing is refused
abbrev pub answer_number : {A : Type 0} → Result A Refusal → ℕ
answer_number (Ok x) = 0
answer_number (Err r) = number_of r
