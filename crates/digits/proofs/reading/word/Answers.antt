use Rattle.digits.proofs.Laws.Words.{word_front}
use Rattle.digits.proofs.reading.word.Goals as goal

pub returns : goal.returns
returns c =
    let chunk = rw c.unwrap.ensures at c.first_chunk.ensures.cases in
    word_front c.args.bytes.now _ c.unwrap.result.now c.requires (λ i. (c.type_inv.bytes i).fits) chunk.same c.from_le_bytes.ensures
