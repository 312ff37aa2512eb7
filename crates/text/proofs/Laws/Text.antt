-- Laws of specs/Text, for the functions of src/text.rt in their order. To cite: `mandates_from`, `collections_from`, `taken_by_index`,
-- `known_kept`; `line_refused`, `output_line`; `AnsweredTo` with `answered_start`, `answered_line`, `answered_end`. Assumes nothing.
use Rattle.std.specs.List.{copy_within}
use Rattle.std.proofs.Common.{Err, Ok, Option, Some, None, IfSome, Result}
use mathlib.Core.Path.{◌≡◌, refl, sym, ap, ◌∙◌}
use mathlib.Core.Bool.{Bool, true, false, cond}
use mathlib.Core.Logic.{◌≢◌}
use mathlib.Core.List.{List, [], ◌++◌}
use Prim.Native.Nat.{ℕ, ◌+◌, ◌-◌, ◌*◌, ◌/◌, ◌≤◌, ◌<◌, min}
use native.Mathlib.Nat.{add-sub_cancel_left, zero-add}
use native.Mathlib.Omega.{arith}
use borrow.Author.Tests.{lt-ltb, leb-true}
use lib.Dec.{ltb, leb}
use lib.ListN.{length, take, drop, get_or, length-append, length-take, length-drop}
use lib.Seq.{length-take-le, get_or-drop, get_or-take, ext_get_or}
use Rattle.common.proofs.Tests.{and_halves}
use Rattle.refusals.specs.declared.Refusal.{Refusal}
use Rattle.refusals.proofs.Laws.Refusals.{number_of_most}
use Rattle.events.specs.declared.Event.{Event}
use Rattle.events.specs.Limits.{checked}
use Rattle.fitness.specs.Fitness.{fit}
use Rattle.book.specs.Acting.{names_mandate, names_collection, named_mandate, named_collection, ActedFrom}
use Rattle.book.specs.Events.{Taken}
use Rattle.book.proofs.Laws.Events.{taken_from}
use Rattle.digits.specs.Field.{pasted}
use Rattle.lines.specs.Line.{line_end, read_line}
use Rattle.tables.specs.Ledger.{Ledger}
use Rattle.model.specs.declared.HandedOn.{HandedOn}
use Rattle.model.proofs.Laws.Handed.{outcome_refused}
use Rattle.model.specs.Step.{answer_number, after}
use Rattle.index.proofs.Laws.Following.{indexed_kept, index_holds}
use Rattle.index.specs.declared.Index.{Index}
use Rattle.index.specs.Index.{first_row}
use Rattle.tables.specs.Lookup.{MayStart}
use Rattle.std.proofs.Math.Logic.{∥∥₁_elim}
use Rattle.std.proofs.Props.{props}
use Rattle.model.proofs.Laws.Batch.{after_safe}
use Rattle.model.proofs.Laws.Grown.{mandates_grown, collections_grown}
use Rattle.report.specs.Layout.{answer_length, answer_line, answer_fits, last_number, last_answer}
use Rattle.run.specs.Run.{Run, run_at, clipped_length, clipped, answer_to, after_line, ended, line_output, take_text, text_output}
use Rattle.report.specs.Cut.{end_from}
use Rattle.report.proofs.Laws.Cut.{FirstEnd, end_from_at}
use Rattle.digits.proofs.Laws.Buffer.{pasted_next}
use Rattle.report.proofs.Laws.Layout.{length_answer_line, answer_fits_made}
use Rattle.run.proofs.Laws.Run.{Answering, answering_start, answering_line, rest_after, rest_output}
use Rattle.report.specs.declared.layout.Progress.{Progress}
use Rattle.text.specs.Text.{Known, LineTaken, LineAnswered, LinesAnswered, piece_fits}

-- ---- what is known of the tables

-- it stays so: an event keeps safe memory safe, and the rows that the indexes cover; so does a line, and one that is answered
module _ (safe : Bool) (mandates collections : Index) where
  event_known : (l : Ledger) (e : Event) → Known safe mandates collections l → Known safe mandates collections (after l e)
  event_known l e w =
      record {
        when_safe = λ s. after_safe l e (w.when_safe s);
        mandates = indexed_kept mandates l.mandates _ l.mandates_used _ w.mandates (mandates_grown l e);
        collections = indexed_kept collections l.collections _ l.collections_used _ w.collections (collections_grown l e);
      }

  line_known : (l : Ledger) (a : Result Event Refusal) → Known safe mandates collections l → Known safe mandates collections (after_line l a)
  line_known l (Ok e) w = event_known l e w
  line_known l (Err r) w = w

  ended_known : (l : Ledger) (n : ℕ) (line : List ℕ) → Known safe mandates collections l → Known safe mandates collections (ended (run_at l n []) line).book
  ended_known l n line w = by_more (ltb n last_number)
    where
      by_more : (more : Bool) → Known safe mandates collections (cond more (run_at (after_line l (read_line line)) (n + 1) []) (run_at l n [])).book
      by_more true = line_known l (read_line line) w
      by_more false = w

-- where a number is named, the lookup may start in the first row that the index has for it
named_start :
    (index : Index) (cells : List ℕ) (used number start : ℕ) (test : Bool) (named : Option ℕ)
    → named ≡ cond test (Some number) None
    → IfSome named (λ n. start ≡ first_row index cells n)
    → MayStart cells used number (first_row index cells number)
    → test ≡ true → MayStart cells used number start
named_start index cells used number start test named e h m t =
    let q : named ≡ Some number = e ∙ rw t refl in
    let s : start ≡ first_row index cells number = rw q at h in
    rw s m

module _ (safe : Bool) (mandates collections : Index) (l : Ledger) (k : ∥ Known safe mandates collections l ∥₁) where
  pub mandates_from : (number : ℕ) → MayStart l.mandates l.mandates_used number (first_row mandates l.mandates number)
  mandates_from number = ∥∥₁_elim k (Prim.hlevel props) (λ w. index_holds _ _ _ _ w.mandates)

  pub collections_from : (number : ℕ) → MayStart l.collections l.collections_used number (first_row collections l.collections number)
  collections_from number = ∥∥₁_elim k (Prim.hlevel props) (λ w. index_holds _ _ _ _ w.collections)

  -- an event acted on from the rows that the indexes have for what it names; l' is the ledger as its cells were lent
  pub taken_by_index :
      (l' : Ledger) (e : Event) (mandate collection : Option ℕ) (i j : ℕ) (r : Result HandedOn Refusal) (l'' : Ledger)
      → l' ≡ l → fit l ≡ true → checked e ≡ (Ok tt)
      → mandate ≡ named_mandate e → IfSome mandate (λ n. i ≡ first_row mandates l'.mandates n)
      → collection ≡ named_collection e → IfSome collection (λ n. j ≡ first_row collections l'.collections n)
      → ActedFrom i j l e r l'' → Taken l e r l''
  taken_by_index l' e mandate collection i j r l'' same f w p q s t d =
      taken_from l e i j r l'' f w
      (named_start mandates l.mandates l.mandates_used e.mandate i (names_mandate e.kind) mandate p (rw same at q) (mandates_from e.mandate))
      (named_start collections l.collections l.collections_used e.a j (names_collection e.kind) collection s (rw same at t) (collections_from e.a))
      d

  -- after an event
  pub known_kept : (l' : Ledger) (e : Event) → l' ≡ after l e → ∥ Known safe mandates collections l' ∥₁
  known_kept l' e t = ∥∥₁_elim k (Prim.hlevel props) (λ w. ∣ rw t (event_known safe mandates collections l e w) ∣₁)

-- ---- a line

-- an event that is refused: so is its line
pub line_refused :
    (l : Ledger) (line : List ℕ) (e : Event) (r : Result HandedOn Refusal) (x : Refusal) (l' : Ledger)
    → read_line line ≡ Ok e → Taken l e r l' → r ≡ Err x → LineTaken l line (Err x) l'
line_refused l line e r x l' s t q = record {
  answer_is = rw s (sym (outcome_refused l e x (sym t.outcome_is ∙ q)));
  after_is = rw s t.after_is;
}

-- ---- a line that has ended

-- the number of an answer has at most three digits
answer_narrow : (a : Result Unit Refusal) → answer_number a ≤ last_answer
answer_narrow (Ok tt) = omega arith
answer_narrow (Err r) = omega (arith, number_of_most r)

module _ (l : Ledger) (p : Progress) (line out : List ℕ) (h : p.lines < last_number) (room : p.written + answer_length ≤ length out) where
  pub output_line : (r : Result Unit Refusal) (l' : Ledger) (number : ℕ) (out' : List ℕ)
      → LineTaken l line r l'
      → number ≡ answer_number r
      → out' ≡ cond (answer_fits p.written (p.lines + 1) number out) (pasted p.written (answer_line (p.lines + 1) number) out) out
      → LineAnswered l p line out (record { lines = p.lines + 1; written = p.written + answer_length }) l' out'
  output_line r l' number out' t e w =
      let f = lt-ltb p.lines last_number h in
      let q : number ≡ answer_number (answer_to l (read_line line)) = e ∙ ap answer_number t.answer_is in
      let fits = answer_fits_made p.written (p.lines + 1) number out room (omega arith) (rw e (answer_narrow r)) in
      record {
        run = rw (f, t.after_is);
        bytes = rw (f, ← q) (rw fits at w);
        written = rw f (ap (λ (n : ℕ). p.written + n) (sym (length_answer_line (p.lines + 1) (answer_number (answer_to l (read_line line))))));
      }

-- ---- the lines of a text

-- a line writes one answer at most
ended_short : (r : Run) (line : List ℕ) → length (line_output r line) ≤ answer_length
ended_short r line = by_more (ltb r.lines last_number)
  where
    by_more : (more : Bool) → length (cond more (answer_line (r.lines + 1) (answer_number (answer_to r.book (read_line line)))) []) ≤ answer_length
    by_more true = omega (arith, length_answer_line (r.lines + 1) (answer_number (answer_to r.book (read_line line))))
    by_more false = omega arith

-- where the next line ends
pub end_inside : (text : List ℕ) (at k : ℕ) → end_from text at ≡ Some k → k < length text
end_inside text at k e = (end_from_at text at k e).inside

pub end_onward : (text : List ℕ) (at k : ℕ) → end_from text at ≡ Some k → at ≤ k
end_onward text at k e = (end_from_at text at k e).onward

-- the lines before a place have been answered
pub record AnsweredTo
    (s : Run) (text out : List ℕ) (at : ℕ) (l : Ledger) (p : Progress) (out' : List ℕ) : Type 0 where
  pub answered : Answering s text at l p.lines (text_output s (take at text))
  pub bytes : out' ≡ pasted 0 (text_output s (take at text)) out
  pub written : p.written ≡ length (text_output s (take at text))
  pub few : p.written ≤ answer_length * at
  pub inside : at ≤ length text

module _ (text out : List ℕ) where
  pub answered_start : (l : Ledger) (p : Progress)
      → p.written ≡ 0
      → AnsweredTo (run_at l p.lines []) text out 0 l p out
  unfolding take_text text_output
  answered_start l p z =
      record {
        answered = answering_start l p.lines text;
        bytes = refl;
        written = z;
        few = omega arith;
        inside = omega arith;
      }

  -- one line more, from at to k; what was known of the tables is known of them after it
  module _ (s : Run) (at k : ℕ) (f : FirstEnd text at k) where
    pub answered_line : (l l' : Ledger) (p r : Progress) (line mid next : List ℕ)
        → AnsweredTo s text out at l p mid
        → line ≡ take (k + 1 - at) (drop at text)
        → LineAnswered l p line mid r l' next
        → AnsweredTo s text out (k + 1) l' r next
        × ((safe : Bool) (mandates collections : Index) → Known safe mandates collections l → Known safe mandates collections l')
    answered_line l l' p r line mid next t e w =
        let written = text_output s (take at text) in
        let more = line_output (run_at l p.lines []) line in
        let a = answering_line text at k f s l p.lines written line t.answered e l' r.lines w.run in
        let q : text_output s (take (k + 1) text) ≡ written ++ more = a.so_far in
        let n : length (text_output s (take (k + 1) text)) ≡ length written + length more = ap length q ∙ length-append written more in (
          record {
            answered = record { now = a.now; so_far = refl };
            bytes = rw q (pasted_next 0 written out p.written more mid next (omega arith) (sym t.written) t.bytes (rw (zero-add) w.bytes));
            written = omega (arith, w.written, t.written, n);
            few = omega (arith, w.written, t.few, ended_short (run_at l p.lines []) line, f.onward);
            inside = omega (arith, f.inside);
          },
          λ safe mandates collections known. rw (ap (λ (x : Run). x.book) w.run) (ended_known safe mandates collections l p.lines line known),
        )

  -- no line ends behind the place
  pub answered_end : (s : Run) (at : ℕ) (l : Ledger) (p : Progress) (out' : List ℕ)
      → AnsweredTo s text out at l p out'
      → ((j : ℕ) → at ≤ j → j < length text → get_or text j 0 ≢ line_end)
      → LinesAnswered s text out (record { progress = p; at = at }) l out'
  answered_end s at l p out' t none =
      let q = rest_output text at none s l p.lines (text_output s (take at text)) t.answered in
      record {
        run = rest_after text at none s l p.lines (text_output s (take at text)) t.answered;
        bytes = rw q t.bytes;
        written = rw q t.written;
        inside = t.inside;
      }

-- ---- the partial line

-- its bytes, as many as are kept
pub partial_length : (text : List ℕ) (at filled n : ℕ) → at ≤ filled → filled ≤ length text → n ≡ min (filled - at) clipped_length → n ≡ length (clipped (drop at (take filled text)))
partial_length text at filled n h k e =
    e
    ∙ omega (arith, length-take clipped_length (drop at (take filled text)), length-drop at (take filled text), length-take-le filled text k)

-- what is copied to the front
pub partial_kept : (text : List ℕ) (at filled n : ℕ) → at ≤ filled → filled ≤ length text → n ≡ min (filled - at) clipped_length
    → copy_within text at (at + n) 0 ≡ pasted 0 (clipped (drop at (take filled text))) text
partial_kept text at filled n h k e =
    ap (λ (m : ℕ). take m (drop at text) ++ drop (0 + m) text) (add-sub_cancel_left at n)
    ∙ ap (λ (x : List ℕ). x ++ drop (0 + n) text) kept_same
    ∙ ap (λ (m : ℕ). clipped (drop at (take filled text)) ++ drop (0 + m) text) (partial_length text at filled n h k e)
  where
    kept_same : take n (drop at text) ≡ clipped (drop at (take filled text))
    kept_same =
        let d = drop at text in
        let x = drop at (take filled text) in
        let m : n ≤ filled - at = omega arith in
        let c = length-take-le n d (omega (arith, length-drop at text)) in
        ext_get_or 0 (take n d) (clipped x)
        (c ∙ partial_length text at filled n h k e)
        (λ j l.
        get_or-take n d j 0 (omega arith)
        ∙ get_or-drop at text j 0
        ∙ sym (get_or-take filled text (at + j) 0 (omega arith))
        ∙ sym (get_or-drop at (take filled text) j 0)
        ∙ sym (get_or-take clipped_length x j 0 (omega arith)))

-- ---- the call for a piece

module _ (filled : ℕ) (text out : List ℕ) (fits : piece_fits filled text out ≡ true) where
  pub piece_long : filled ≤ length text
  piece_long = leb-true filled (length text) (and_halves (leb filled (length text)) fits).0

  pub piece_count : filled ≡ length (take filled text)
  piece_count = sym (length-take-le filled text piece_long)

  pub piece_room : answer_length * length (take filled text) ≤ length out
  piece_room =
      omega (arith, piece_count, leb-true filled (length out / answer_length) (and_halves (leb filled (length text)) fits).1)
