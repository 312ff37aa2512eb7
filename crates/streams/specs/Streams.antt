-- What a read and a write give, and where bytes are known, which. A stream that failed answers `Err`. Assumes nothing.
use Rattle.std.specs.Prelude.{◌≡◌, Bool, ◌||◌, List, ℕ, ◌+◌, ◌≤◌, ◌<◌, ℤ, pos, Option, Result, Ok, Err, length, take, slice_range}
use Rattle.std.specs.Io.KnownBytes.{Keeps, Appends, Consumes, IsAtEnd}
use Rattle.std.specs.Ordering.{int_eq}
use Rattle.streams.specs.declared.StreamFailed.{StreamFailed}

-- ---- errors: by which a call is made again, 11 (it would block) or 4 (it was interrupted)

abbrev pub is_passing : ℤ → Bool
is_passing error = int_eq error (pos 11) || int_eq error (pos 4)

-- ---- a read: so many bytes, none at the end of the input

-- the buffer has them behind the first `from`; without room behind those there is no end to be seen
pub record Room (from n long : ℕ) : Type 0 where
  pub room : from < long
  pub inside : from + n ≤ long

abbrev pub Inside : ℕ → ℕ → Result ℕ StreamFailed → Type 0
Inside from long (Ok n) = Room from n long
Inside from long (Err e) = Unit

-- the first `from` bytes stay as they are
pub record ReadBehind (from : ℕ) (buffer : List ℕ) (r : Result ℕ StreamFailed) (buffer' : List ℕ) : Type 0 where
  pub front : take from buffer' ≡ take from buffer
  pub inside : Inside from (length buffer') r

-- where there is nothing to write, all of it is written
abbrev pub WholeWhenEmpty : ℕ → Result Unit StreamFailed → Type 0
WholeWhenEmpty bytes r = bytes ≡ 0 → r ≡ Ok tt

-- ---- bytes that are known, as those of a reader over memory: what it has left, and what a writer holds. Of standard input and
-- output none is known, and then nothing is said

-- what was read are the next bytes of the input; none is left at the end, and a read that failed took none
abbrev pub ReadOnce : Option (List ℕ) → Option (List ℕ) → ℕ → List ℕ → Result ℕ StreamFailed → Type 0
ReadOnce left left' from buffer' (Ok n) = Consumes left left' (slice_range buffer' from (from + n)) × (n ≡ 0 → Keeps left left' × IsAtEnd left')
ReadOnce left left' from buffer' (Err e) = Keeps left left'

-- all bytes are written, each once and in their order; where that failed, the first of them
abbrev pub WrittenOnce : Option (List ℕ) → Option (List ℕ) → List ℕ → Result Unit StreamFailed → Type 0
WrittenOnce held held' bytes (Ok _) = Appends held held' bytes
WrittenOnce held held' bytes (Err e) = (n : ℕ) × (n ≤ length bytes) × Appends held held' (take n bytes)
