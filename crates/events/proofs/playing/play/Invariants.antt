use Rattle.events.proofs.Going.{Going}
use Rattle.events.proofs.playing.play.Given as goal

abbrev pub invariant-loop-turn : goal.invariant-loop-turn
invariant-loop-turn l = Going l.program l.initial.«data» l.schedule l._turn l.index l.core l.«data» l.counts
