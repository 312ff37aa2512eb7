-- Laws of the listing, specs/Listing. To cite: `listed_is`. The rest serves the functions of src/listing.rt. Assumes nothing.
use mathlib.Core.Path.{◌≡◌, refl, sym, ap, ◌∙◌}
use mathlib.Core.Bool.{Bool, true, false, cond, ◌&&◌}
use mathlib.Core.Logic.{◌≢◌}
use mathlib.Core.List.{List, [], ◌++◌}
use Prim.Native.Nat.{ℕ, zero, suc, ◌+◌, ◌*◌, ◌≤◌, ◌<◌}
use native.Mathlib.Nat.{zero-add}
use native.Mathlib.Numerals.{add-one}
use native.Mathlib.Omega.{arith}
use borrow.Author.Tests.{leb-true, le-leb, ltb-true, ltb-false}
use lib.Dec.{leb, ltb, lit≤}
use lib.IntN.{ℤ, pos, nat_abs}
use lib.ListN.{length, get_or, length-append, get_or-eq_default}
use mir.Syntax.{w64}
use mir.Val.{to_z, of_z, SFits}
use mir.Facts.{to_z-of_z}
use Rattle.std.proofs.Common.{Ok, Err}
use Rattle.refusals.specs.declared.Refusal.TheVariants.{UnfitMemory}
use Rattle.common.proofs.Tests.{and_halves, either}
use Rattle.positions.specs.Positions.{position_limit, position, InLimit}
use Rattle.positions.proofs.Laws.Integers.{size_within, bits_back}
use Rattle.digits.specs.Field.{pasted}
use Rattle.tables.specs.Limits.{creditor_count, debtor_count, bank_count}
use Rattle.tables.specs.Ledger.{Ledger}
use Rattle.fitness.specs.Fitness.{fit, position_fit}
use Rattle.fitness.proofs.Laws.Fitness.{Fit, fit_facts, position_facts, compensation_facts, creditors_fit_at, positions_fit_at}
use Rattle.model.specs.declared.Figure.{Figure}
use Rattle.model.specs.declared.Figure.TheVariants.{Creditor, Debtor, Bank, Compensation}
use Rattle.model.specs.Step.{kind_of, figure_of}
use Rattle.report.specs.Layout.{position_line, position_length, widest_kind, last_number, position_fits}
use Rattle.listing.specs.Listing.{table_output, listing_room, listed, Listed}
use Rattle.run.specs.Run.{position_output, kind_output, positions_output}
use Rattle.digits.proofs.Laws.Buffer.{Written, written_none, written_length, written_more}
use Rattle.run.proofs.Laws.Positions.{position_output_zero, position_output_line, figures_output_none, figures_output_more, figures_output_same, length_figures_output, positions_output_kinds}
use Rattle.report.proofs.Laws.Layout.{length_position_line, position_fits_is}

-- ---- a position of 0, and another: as the code tests its 64 bits

module _ (kind number : ℕ) (cents : ℤ) where
  zero_none : SFits w64 cents → of_z w64 cents ≡ 0 → position_output kind number cents ≡ []
  zero_none f e = position_output_zero kind number cents (sym (to_z-of_z f) ∙ ap (to_z w64) e)

  other_line : of_z w64 cents ≢ 0 → position_output kind number cents ≡ position_line kind number cents
  other_line n = position_output_line kind number cents (λ e. n (ap (of_z w64) e))

  pub line_long : of_z w64 cents ≢ 0 → position_length ≡ length (position_output kind number cents)
  line_long n = rw (other_line n) (sym (length_position_line kind number cents))

module _ (at kind number : ℕ) (cents : ℤ) (out : List ℕ) where
  pub zero_written : SFits w64 cents → of_z w64 cents ≡ 0 → Written at out (position_output kind number cents) at out
  zero_written f e = rw (zero_none kind number cents f e) (written_none at out)

  pub line_written : (last : List ℕ)
      → of_z w64 cents ≢ 0
      → last ≡ pasted at (position_line kind number cents) out
      → last ≡ pasted at (position_output kind number cents) out
  line_written last n e = rw (other_line kind number cents n) e

  pub position_fits_made :
      at + position_length ≤ length out → kind ≤ widest_kind → number ≤ last_number → nat_abs cents ≤ position_limit
      → position_fits at kind number cents out ≡ true
  position_fits_made r k n z =
      sym
      (position_fits_is at kind number cents out true true
      (sym (le-leb (at + position_length) (length out) r))
      (sym (size_within position_limit cents z)))
      ∙ rw (le-leb kind widest_kind k, le-leb number last_number n)

-- ---- a table written number by number

-- the kind of a figure fits its columns
kind_fits : (figure : Figure) → kind_of figure ≤ widest_kind
kind_fits Creditor = lit≤ tt
kind_fits Debtor = lit≤ tt
kind_fits Bank = lit≤ tt
kind_fits Compensation = lit≤ tt

-- there is room for all lines of a table, and each can be written
abbrev pub Ready : ℕ → List ℤ → List ℕ → Type 0
Ready at positions out =
    (at + length positions * position_length ≤ length out)
    × (length positions ≤ last_number)
    × InLimit position_limit positions

pub table_start : (at kind : ℕ) (positions : List ℤ) (out : List ℕ) → Written at out (table_output kind positions 0) at out
table_start at kind positions out = rw (figures_output_none kind (position positions)) (written_none at out)

module _ (at : ℕ) (figure : Figure) (positions : List ℤ) (out : List ℕ) (ready : Ready at positions out) where
  abbrev kind : ℕ
  kind = kind_of figure

  table_inside : (i : ℕ) → i ≤ length positions → at + length (table_output kind positions i) ≤ length out
  table_inside i h = omega (arith, length_figures_output kind (position positions) i, ready.0)

  module _ (i next : ℕ) (now : List ℕ) (w : Written at out (table_output kind positions i) next now) (h : i < length positions) where
    -- the next position, as its 64 bits are read
    abbrev cents : ℤ
    cents = to_z w64 (of_z w64 (get_or positions i (pos 0)))

    cents_back : cents ≡ get_or positions i (pos 0)
    unfolding position
    cents_back = bits_back (get_or positions i (pos 0)) (omega (arith, ready.2 (suc i)))

    pub table_fits : position_fits next kind (i + 1) cents now ≡ true
    unfolding position
    table_fits =
        let room : next + position_length ≤ length now =
        omega (
          arith,
          w.place,
          length_figures_output kind (position positions) i,
          ready.0,
          written_length at out (table_output kind positions i) next now w (table_inside i (omega arith)),
        ) in
        rw cents_back
        (position_fits_made next kind (i + 1) (get_or positions i (pos 0)) now room (kind_fits figure) (omega (arith, ready.1)) (ready.2 (suc i)))

    pub table_more : (r : ℕ) (last : List ℕ)
        → r ≡ next + length (position_output kind (i + 1) cents)
        → last ≡ pasted next (position_output kind (i + 1) cents) now
        → Written at out (table_output kind positions (i + 1)) r last
    unfolding position
    table_more r last p q =
        rw (figures_output_more kind (position positions) i, ap (position positions) (add-one i))
        (written_more at out (table_output kind positions i) next now w (table_inside i (omega arith)) _ last r (rw cents_back at p) (rw cents_back at q))

-- ---- the whole listing

-- the entries of a table are within the limit
table_within : (positions : List ℤ)
    → ((i : ℕ) → i < length positions → position_fit (get_or positions i (pos 0)) ≡ true)
    → InLimit position_limit positions
unfolding position
table_within positions f zero = omega arith
table_within positions f (suc i) =
    either (ltb i (length positions))
    (λ t. position_facts (get_or positions i (pos 0)) (f i (ltb-true i (length positions) t)))
    (λ t. rw (get_or-eq_default positions (pos 0) (ltb-false i (length positions) t)) (omega arith))

-- all lines of a table
abbrev pub all_output : ℕ → List ℤ → List ℕ
all_output kind positions = table_output kind positions (length positions)

-- what is written before the second kind, the third, and the total
module _ (l : Ledger) where
  abbrev pub first_kind : List ℕ
  first_kind = all_output 1 l.creditor_positions

  abbrev pub two_kinds : List ℕ
  two_kinds = first_kind ++ all_output 2 l.debtor_positions

  abbrev pub three_kinds : List ℕ
  three_kinds = two_kinds ++ all_output 3 l.bank_positions

  -- all lines of a kind
  all_kind :
      (kind : ℕ) (positions : List ℤ) (count : ℕ) → length positions ≡ count
      → ((number : ℕ) → figure_of l kind number ≡ position positions number)
      → all_output kind positions ≡ kind_output l kind count
  all_kind kind positions count e f =
      ap (table_output kind positions) e ∙ figures_output_same kind (position positions) (figure_of l kind) count (λ i h. sym (f (suc i)))

module _ (l : Ledger) (out : List ℕ) where
  pub listed_is : (memory room : Bool) → memory ≡ fit l → room ≡ leb listing_room (length out) → memory && room ≡ listed l out
  unfolding listed
  listed_is memory room e f = rw (e, f)

  -- as the code tests it
  pub listed_when : (memory r : Bool) → memory ≡ fit l → memory && leb listing_room (length out) ≡ r → listed l out ≡ r
  listed_when memory r e f = sym (listed_is memory (leb listing_room (length out)) e refl) ∙ f

  pub listed_refused : listed l out ≡ false → Listed l out (Err UnfitMemory) out
  listed_refused f = record { answer_is = rw f; number_is = rw f; out_is = rw f }

  module _ (h : listed l out ≡ true) where
    pub listing_room_lem : listing_room ≤ length out
    unfolding listed
    listing_room_lem = leb-true listing_room (length out) (and_halves (fit l) h).1

    pub listing_fit : Fit l
    unfolding listed
    listing_fit = fit_facts l (and_halves (fit l) h).0

    creditors_size : length l.creditor_positions ≡ creditor_count
    creditors_size = listing_fit.sizes.creditor_positions_lem

    debtors_size : length l.debtor_positions ≡ debtor_count
    debtors_size = listing_fit.sizes.debtor_positions_lem

    banks_size : length l.bank_positions ≡ bank_count
    banks_size = listing_fit.sizes.bank_positions_lem

    first_length : length (first_kind l) ≤ creditor_count * position_length
    first_length = omega (arith, length_figures_output 1 (position l.creditor_positions) (length l.creditor_positions), creditors_size)

    two_length : length (two_kinds l) ≤ (creditor_count + debtor_count) * position_length
    two_length =
        omega (
          arith,
          first_length,
          length-append (first_kind l) (all_output 2 l.debtor_positions),
          length_figures_output 2 (position l.debtor_positions) (length l.debtor_positions),
          debtors_size,
        )

    three_length : length (three_kinds l) ≤ (creditor_count + debtor_count + bank_count) * position_length
    three_length =
        omega (
          arith,
          two_length,
          length-append (two_kinds l) (all_output 3 l.bank_positions),
          length_figures_output 3 (position l.bank_positions) (length l.bank_positions),
          banks_size,
        )

    pub creditors_ready : Ready 0 l.creditor_positions out
    creditors_ready = (
      omega (arith, creditors_size, listing_room_lem),
      omega (arith, creditors_size),
      table_within l.creditor_positions
          (λ i k.
          (creditors_fit_at l.creditors l.creditor_positions listing_fit.creditors i
          (omega (arith, k, creditors_size, listing_fit.sizes.creditor_table))).position_fit_lem),
    )

    first_inside : 0 + length (first_kind l) ≤ length out
    first_inside = omega (arith, first_length, listing_room_lem)

    two_inside : 0 + length (two_kinds l) ≤ length out
    two_inside = omega (arith, two_length, listing_room_lem)

    three_inside : 0 + length (three_kinds l) ≤ length out
    three_inside = omega (arith, three_length, listing_room_lem)

    -- the kinds and the total are the listing
    positions_output_is : three_kinds l ++ position_line 4 0 l.compensation ≡ positions_output l
    positions_output_is =
        rw (
          positions_output_kinds l,
          all_kind l 1 l.creditor_positions creditor_count creditors_size (λ number. refl),
          all_kind l 2 l.debtor_positions debtor_count debtors_size (λ number. refl),
          all_kind l 3 l.bank_positions bank_count banks_size (λ number. refl),
        )

    cents_size : nat_abs l.compensation ≤ position_limit
    cents_size = (compensation_facts l.compensation listing_fit.header.cents).to

    -- the creditors are written
    module _ (d : ℕ) (one : List ℕ) (p : d ≡ 0 + length (first_kind l)) (q : one ≡ pasted 0 (first_kind l) out) where
      first : Written 0 out (first_kind l) d one
      first = record { place = p; bytes = q }

      pub debtors_ready : Ready d l.debtor_positions one
      debtors_ready = (
        omega (arith, debtors_size, listing_room_lem, first_length, p, written_length 0 out (first_kind l) d one first first_inside),
        omega (arith, debtors_size),
        table_within l.debtor_positions (positions_fit_at l.debtor_positions listing_fit.debtors),
      )

      -- and the debtors
      module _ (b : ℕ) (two : List ℕ) (r : b ≡ d + length (all_output 2 l.debtor_positions)) (s : two ≡ pasted d (all_output 2 l.debtor_positions) one) where
        second : Written 0 out (two_kinds l) b two
        second = written_more 0 out (first_kind l) d one first first_inside _ two b r s

        pub banks_ready : Ready b l.bank_positions two
        banks_ready = (
          omega (arith, banks_size, listing_room_lem, two_length, second.place, written_length 0 out (two_kinds l) b two second two_inside),
          omega (arith, banks_size),
          table_within l.bank_positions (positions_fit_at l.bank_positions listing_fit.banks),
        )

        -- and the banks: the total is next, be it 0
        module _ (t : ℕ) (three : List ℕ) (u : t ≡ b + length (all_output 3 l.bank_positions)) (v : three ≡ pasted b (all_output 3 l.bank_positions) two) where
          third : Written 0 out (three_kinds l) t three
          third = written_more 0 out (two_kinds l) b two second two_inside _ three t u v

          total_room : t + position_length ≤ length out
          total_room = omega (arith, listing_room_lem, three_length, third.place)

          total_fits : position_fits t 4 0 l.compensation three ≡ true
          total_fits =
              position_fits_made t 4 0 l.compensation three
              (omega (arith, total_room, written_length 0 out (three_kinds l) t three third three_inside))
              (omega arith)
              (omega arith)
              cents_size

          -- the total as its 64 bits are read
          pub listing_done : (cents : ℤ) (last : List ℕ)
              → cents ≡ to_z w64 (of_z w64 l.compensation)
              → last ≡ cond (position_fits t 4 0 cents three) (pasted t (position_line 4 0 cents) three) three
              → Listed l out (Ok (t + position_length)) last
          listing_done cents last e w =
              let line = position_line 4 0 l.compensation in
              let z : cents ≡ l.compensation = e ∙ bits_back l.compensation (omega (arith, cents_size)) in
              let all : Written 0 out (positions_output l) (t + position_length) last =
              rw (← positions_output_is)
              (written_more 0 out (three_kinds l) t three third three_inside line last (t + position_length)
              (omega (arith, length_position_line 4 0 l.compensation))
              (rw (z, total_fits) at w)) in
              record { answer_is = rw h (ap Ok (all.place ∙ zero-add _)); number_is = rw h; out_is = rw h all.bytes }
