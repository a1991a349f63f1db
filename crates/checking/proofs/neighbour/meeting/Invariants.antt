use Rattle.face.specs.Tables.{tables}
use Rattle.checking.proofs.Meetings.{Unanswered, Unmet}
use Rattle.checking.proofs.neighbour.meeting.Given as goal

abbrev pub invariant-loop-f : goal.invariant-loop-f
invariant-loop-f l = Unmet (tables l.cells) l.c l.d l.f

abbrev pub invariant-loop-g : goal.invariant-loop-g
invariant-loop-g l = Unanswered (tables l.cells) l.d l.f l.g
