use Rattle.slide.specs.Input.{InputTaken}
use Rattle.slide.proofs.take_input.Given as goal

abbrev pub invariant-loop : goal.invariant-loop
invariant-loop g l =
    InputTaken (g.R.Read.remaining l.initial.input) (g.R.Read.remaining l.input) (g.W.Write.contents l.initial.output) (g.W.Write.contents l.output)
    l.p.lines l.p.partial l.text
