use Rattle.digits.proofs.Laws.Words.{blanks_led, blanks_last}
use Rattle.digits.specs.Words.{bytes_of}
use Rattle.digits.specs.Field.{read_field, read_number, read_digits}
use native.Mathlib.Omega.{arith}
use mathlib.Core.Path.{refl, ◌∙◌}
use Rattle.digits.proofs.reading.eight.Goals as goal

pub returns-then-w-eq3467807035425300512 : goal.returns-then-w-eq3467807035425300512
unfolding bytes_of read_field read_number read_digits
returns-then-w-eq3467807035425300512 c = rw c.if-w-eq3467807035425300512.true

pub returns-then-w-eq9042521604759584 : goal.returns-then-w-eq9042521604759584
returns-then-w-eq9042521604759584 c =
    c.led.ensures ∙ blanks_last _ c.ranges.w.fits c.if-w-eq9042521604759584.true

pub returns-then-w-eq35322350018592 : goal.returns-then-w-eq35322350018592
returns-then-w-eq35322350018592 c =
    c.led-then-w-eq35322350018592.ensures ∙ blanks_led 6 0 _ c.ranges.w.fits refl c.if-w-eq35322350018592.true c.if-w-eq9042521604759584.false

pub returns-then-w-eq137977929760 : goal.returns-then-w-eq137977929760
returns-then-w-eq137977929760 c =
    c.led-then-w-eq137977929760.ensures ∙ blanks_led 5 1 _ c.ranges.w.fits refl c.if-w-eq137977929760.true c.if-w-eq35322350018592.false

pub returns-then-w-eq538976288 : goal.returns-then-w-eq538976288
returns-then-w-eq538976288 c =
    c.led-then-w-eq538976288.ensures ∙ blanks_led 4 2 _ c.ranges.w.fits refl c.if-w-eq538976288.true c.if-w-eq137977929760.false

pub returns-then-w-eq2105376 : goal.returns-then-w-eq2105376
returns-then-w-eq2105376 c =
    c.led-then-w-eq2105376.ensures ∙ blanks_led 3 3 _ c.ranges.w.fits refl c.if-w-eq2105376.true c.if-w-eq538976288.false

pub returns-then-w-eq8224 : goal.returns-then-w-eq8224
returns-then-w-eq8224 c =
    c.led-then-w-eq8224.ensures ∙ blanks_led 2 4 _ c.ranges.w.fits refl c.if-w-eq8224.true c.if-w-eq2105376.false

pub returns-then-w-eq32 : goal.returns-then-w-eq32
returns-then-w-eq32 c =
    c.led-then-w-eq32.ensures ∙ blanks_led 1 5 _ c.ranges.w.fits refl c.if-w-eq32.true c.if-w-eq8224.false

pub returns : goal.returns
returns c =
    c.led-2.ensures ∙ blanks_led 0 6 _ c.ranges.w.fits refl (omega arith) c.if-w-eq32.false
