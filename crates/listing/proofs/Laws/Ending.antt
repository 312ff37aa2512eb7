-- Laws of the end of the input, for `ending::end_text`. To cite: `end_refused`, `end_none`, `end_line`. Assumes nothing.
use Rattle.std.proofs.Common.{Err, Ok}
use mathlib.Core.Path.{◌≡◌, sym, ap}
use mathlib.Core.Bool.{true, false, cond}
use mathlib.Core.List.{List}
use Prim.Native.Nat.{ℕ, ◌+◌}
use native.Mathlib.Omega.{arith}
use borrow.Author.Tests.{leb-true, ltb-true}
use lib.Dec.{ltb}
use lib.ListN.{length}
use Rattle.common.proofs.Tests.{and_halves}
use Rattle.refusals.specs.Refusals.{number_of}
use Rattle.refusals.specs.declared.Refusal.TheVariants.{BadLine, UnfitMemory}
use Rattle.digits.specs.Field.{pasted}
use Rattle.report.specs.Layout.{last_number, answer_line, answer_length, answer_fits}
use Rattle.listing.specs.Listing.{end_fits, EndTaken}
use Rattle.run.specs.Run.{ends_line}
use Rattle.report.proofs.Laws.Layout.{length_answer_line, answer_fits_made}

module _ (lines partial : ℕ) (out : List ℕ) where
  pub end_refused : end_fits out ≡ false → EndTaken lines partial out (Err UnfitMemory) out
  end_refused f = record { answer_is = rw f; number_is = rw f; out_is = rw f }

  pub end_none : end_fits out ≡ true → ends_line lines partial ≡ false → EndTaken lines partial out (Ok (record { lines = lines; written = 0 })) out
  end_none f n = record { answer_is = rw (f, n); number_is = rw f; out_is = rw (f, n) }

  pub end_line : (number : ℕ) (out' : List ℕ)
      → end_fits out ≡ true
      → ends_line lines partial ≡ true
      → number ≡ number_of BadLine
      → out' ≡ cond (answer_fits 0 (lines + 1) number out) (pasted 0 (answer_line (lines + 1) number) out) out
      → EndTaken lines partial out (Ok (record { lines = lines + 1; written = answer_length })) out'
  end_line number out' f n e w =
      let few = ltb-true lines last_number (and_halves (ltb lines last_number) n).0 in
      let fits =
      answer_fits_made 0 (lines + 1) number out (leb-true answer_length (length out) f) (omega arith) (omega (arith, e)) in
      record {
        answer_is = rw (f, n) (ap (λ (w : ℕ). Ok (record { lines = lines + 1; written = w })) (sym (length_answer_line (lines + 1) (number_of BadLine))));
        number_is = rw f;
        out_is = rw (f, n) (rw (fits, e) at w);
      }
