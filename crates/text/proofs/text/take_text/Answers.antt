-- `take_text` meets its contract: refused, or the lines answered and the partial one moved to the front. Assumes nothing.
use Rattle.std.proofs.Common.{◌≡◌, sym, ap, subst, ◌∙◌}
use Rattle.index.specs.Index.{Indexed}
use Rattle.index.proofs.Laws.Following.{indexed_made}
use Rattle.safety.specs.Safety.{is_safe}
use Rattle.safety.proofs.Laws.Safety.{safe_facts}
use Rattle.tables.specs.Ledger.{Ledger, ledger_of, ledger_in}
use Rattle.text.specs.Text.{Known}
use Rattle.text.proofs.text.take_text.Goals as goal

pub invariant_of-tables : goal.invariant_of-tables
invariant_of-tables c =
    let same : ledger_of c.view-view.result ≡ ledger_in c.args.book.now = c.view-view.ensures in
    let known : Known c.is_safe-safe.result c.of-mandates.result c.of-collections.result (ledger_in c.args.book.now) =
    record {
      when_safe = λ s. safe_facts _ (sym (c.is_safe-safe.ensures ∙ ap is_safe same) ∙ s);
      mandates = subst (λ (k : Ledger). Indexed c.of-mandates.result k.mandates k.mandates_used) same (rw c.of-mandates.ensures (indexed_made _ _));
      collections = subst (λ (k : Ledger). Indexed c.of-collections.result k.collections k.collections_used) same (rw c.of-collections.ensures (indexed_made _ _));
    } in
    record { known = ∣ known ∣₁ }
