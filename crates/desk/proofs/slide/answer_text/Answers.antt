-- `answer_text` meets what it calls: each answer has 21 bytes. Assumes nothing.
use Rattle.desk.proofs.Laws.Slide.{all_wide}
use Rattle.desk.proofs.slide.answer_text.Goals as goal

pub answer_piece-requires : goal.answer_piece-requires
answer_piece-requires c = all_wide
