-- Laws of specs/Refusals. To cite: `number_of_pos` (0 is no refusal's number), `number_of_most`. Assumes nothing.
use Prim.Native.Nat.{◌≤◌}
use lib.Dec.{lit≤}
use Rattle.refusals.specs.Refusals.{number_of}
use Rattle.refusals.specs.declared.Refusal.{Refusal}
use Rattle.refusals.specs.declared.Refusal.TheVariants.{BadLine, UnfitMemory, UnknownKind, BadDate, BadField, BeforeLatest, NotBusinessDay, AlreadyExists, DoesNotExist, NoRowLeft, NotLive, WrongSequence, BadTiming, Lapsed, WrongState, BeforeDue, AfterLastDay}

number_range : (r : Refusal) → (1 ≤ number_of r) × (number_of r ≤ 17)
number_range BadLine = (lit≤ tt, lit≤ tt)
number_range UnfitMemory = (lit≤ tt, lit≤ tt)
number_range UnknownKind = (lit≤ tt, lit≤ tt)
number_range BadDate = (lit≤ tt, lit≤ tt)
number_range BadField = (lit≤ tt, lit≤ tt)
number_range BeforeLatest = (lit≤ tt, lit≤ tt)
number_range NotBusinessDay = (lit≤ tt, lit≤ tt)
number_range AlreadyExists = (lit≤ tt, lit≤ tt)
number_range DoesNotExist = (lit≤ tt, lit≤ tt)
number_range NoRowLeft = (lit≤ tt, lit≤ tt)
number_range NotLive = (lit≤ tt, lit≤ tt)
number_range WrongSequence = (lit≤ tt, lit≤ tt)
number_range BadTiming = (lit≤ tt, lit≤ tt)
number_range Lapsed = (lit≤ tt, lit≤ tt)
number_range WrongState = (lit≤ tt, lit≤ tt)
number_range BeforeDue = (lit≤ tt, lit≤ tt)
number_range AfterLastDay = (lit≤ tt, lit≤ tt)

pub number_of_pos : (r : Refusal) → 1 ≤ number_of r
number_of_pos r = (number_range r).0

pub number_of_most : (r : Refusal) → number_of r ≤ 17
number_of_most r = (number_range r).1
