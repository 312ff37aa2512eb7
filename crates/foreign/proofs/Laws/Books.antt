-- Laws of specs/Books: an opening over lent cells, from that of the tables. To cite: `open_done`, `open_left`. Assumes nothing.
use Rattle.std.proofs.Common.{Err, Ok}
use mathlib.Core.Path.{◌≡◌, refl, ap, ◌∙◌}
use mathlib.Core.Bool.{true}
use mathlib.Core.List.{List, [], ◌∷◌}
use Prim.Native.Nat.{ℕ}
use lib.IntN.{ℤ}
use Rattle.refusals.specs.declared.Refusal.{Refusal}
use Rattle.refusals.specs.Refusals.{number_of}
use Rattle.tables.specs.declared.Header.{Header}
use Rattle.tables.specs.Ledger.{Ledger, ledger}
use Rattle.opening.specs.Opening.{open_result, opening, fresh}
use Rattle.opening.proofs.Laws.Opening.{opened_done}
use Rattle.model.proofs.Laws.Opened.{was_opened, was_refused}
use Rattle.cells.specs.Cells.{cells_fit, header_in, fresh_header, fresh_state, fresh_cents, head_of}
use Rattle.cells.proofs.Laws.Cells.{state_cells_fit_lem, fresh_state_lem, fresh_cents_lem}
use Rattle.foreign.specs.Books.{OpenCall}

-- the tables of a ledger under another header
abbrev pub under : Header → Ledger → Ledger
under h l = ledger h l.mandates l.collections l.creditors l.creditor_positions l.debtor_positions l.bank_positions

-- ---- the opening

module _ (state : List ℕ) (cents : List ℤ) (l : Ledger) where
  -- l' is the ledger of the header that the opening leaves
  module _ (f : cells_fit state cents ≡ true) (l' : Ledger) where
    pub open_done :
        open_result 0 l' ≡ opening l
        → (state' : List ℕ) (cents' : List ℤ) → state' ≡ fresh_state state → cents' ≡ fresh_cents cents
        → OpenCall state cents l 0 state' cents' (under (header_in state' cents') l')
    unfolding fresh
    open_done e state' cents' s z =
        let w = was_opened l l' (Ok tt) e refl in
        let s' = s ∙ fresh_state_lem state (state_cells_fit_lem state cents f) in
        let z' = z ∙ fresh_cents_lem state cents f in
        record {
          answer_is = rw (f, w.sizes);
          state_is = rw (f, w.sizes) s';
          cents_is = rw (f, w.sizes) z';
          book_is =
              rw (f, w.sizes)
              (ap (λ (x : List ℕ). under (header_in x cents') l') s'
              ∙ ap (λ (x : List ℤ). under (header_in (0 ∷ 0 ∷ 0 ∷ 0 ∷ 0 ∷ 0 ∷ 0 ∷ []) x) l') z'
              ∙ ap (under fresh_header) (w.is ∙ opened_done l w.sizes));
        }

    pub open_left : (x : Refusal) → open_result (number_of x) l' ≡ opening l → (r : ℕ) → r ≡ number_of x → OpenCall state cents l r state cents (under (head_of l) l')
    open_left x e r n =
        let w = was_refused l l' (Err x) e x refl in
        record {
          answer_is = rw (f, w.sizes) (n ∙ w.number);
          state_is = rw (f, w.sizes);
          cents_is = rw (f, w.sizes);
          book_is = rw (f, w.sizes) (ap (under (head_of l)) w.is);
        }
