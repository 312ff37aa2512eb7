-- Cells that are as many as they should be: what was written to them is read, and all of them together. To cite: `state_whole`,
-- `header_back`, `header_of_whole`, `fresh_state_lem`, `fresh_cents_lem`, `reads_back`. Assumes nothing.
use mathlib.Core.Path.{◌≡◌, refl, sym, ap, ◌∙◌}
use mathlib.Core.Bool.{true}
use mathlib.Core.List.{List, [], ◌∷◌, ◌++◌, append-nil}
use Prim.Native.Nat.{ℕ, ◌≤◌}
use native.Mathlib.Nat.{zero-add}
use native.Mathlib.Omega.{arith}
use borrow.Author.Tests.{eqb-true}
use lib.IntN.{ℤ, pos}
use lib.ListN.{length, drop, set}
use lib.Seq.{sets, sets-eq, drop-length}
use Rattle.common.proofs.Tests.{and_halves}
use Rattle.tables.specs.declared.Header.{Header}
use Rattle.cells.specs.declared.Counts.{Counts}
use Rattle.cells.specs.Cells.{state_cells_fit, cells_fit, header_in, header_state, header_cents, counts_state, state_cells, fresh_header, fresh_counts, fresh_state, fresh_cents, ReadsBack}

-- as many stores as there are cells
sets_whole : {A : Type 0} (vs l : List A) → length l ≡ length vs → sets l 0 vs ≡ vs
sets_whole {A} vs l e =
    let n : length vs ≤ length l = omega (arith, e) in
    sets-eq vs l 0 (rw zero-add n)
    ∙ ap (λ (n : ℕ). vs ++ drop n l) (zero-add (length vs) ∙ sym e)
    ∙ ap (λ (r : List A). vs ++ r) (drop-length l)
    ∙ append-nil vs

pub state_length : (state : List ℕ) → state_cells_fit state ≡ true → length state ≡ 7
state_length state h = eqb-true (length state) 7 h

pub state_whole : (state : List ℕ) → state_cells_fit state ≡ true → (h : Header) (c : Counts) → counts_state c (header_state h state) ≡ state_cells h c
state_whole state f h c = sets_whole (state_cells h c) state (state_length state f)

pub fresh_state_lem : (state : List ℕ) → state_cells_fit state ≡ true → fresh_state state ≡ 0 ∷ 0 ∷ 0 ∷ 0 ∷ 0 ∷ 0 ∷ 0 ∷ []
fresh_state_lem state f = state_whole state f fresh_header fresh_counts

module _ (state : List ℕ) (cents : List ℤ) (f : cells_fit state cents ≡ true) where
  pub state_cells_fit_lem : state_cells_fit state ≡ true
  state_cells_fit_lem = (and_halves (state_cells_fit state) f).0

  pub cents_length : length cents ≡ 2
  cents_length = eqb-true (length cents) 2 (and_halves (state_cells_fit state) f).1

  pub fresh_cents_lem : fresh_cents cents ≡ pos 0 ∷ pos 0 ∷ []
  fresh_cents_lem = sets_whole (pos 0 ∷ pos 0 ∷ []) cents cents_length

  cents_head : (z : ℤ) → set cents 0 z ≡ z ∷ drop 1 cents
  cents_head z = sets-eq (z ∷ []) cents 0 (omega (arith, cents_length))

  -- the header that was written is the one that is read, also where the other cells were
  pub header_back : (h : Header) → header_in (header_state h state) (header_cents h cents) ≡ h
  header_back h =
      let s = sets-eq (h.latest ∷ h.mandates ∷ h.collections ∷ []) state 0 (omega (arith, state_length state state_cells_fit_lem)) in
      ap (λ (x : List ℕ). header_in x (header_cents h cents)) s
      ∙ ap (header_in (h.latest ∷ h.mandates ∷ h.collections ∷ drop 3 state)) (cents_head h.compensation)

  pub header_of_whole : (h : Header) (c : Counts) → header_in (state_cells h c) (header_cents h cents) ≡ h
  header_of_whole h c = ap (header_in (state_cells h c)) (cents_head h.compensation)

pub reads_back : ReadsBack
reads_back =
    record {
      header = λ h c figure. refl;
      lines = λ h c. refl;
      filled = λ h c. refl;
      written = λ h c n. refl;
      figure = λ total old z. refl;
      event = λ e. refl;
    }
