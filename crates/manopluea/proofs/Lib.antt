-- demand 1: each call's reply is the lowest condition that applies, and a refusal keeps all lent memory
pub mod Replies
-- the three demands, of the calls' definitions and from the input alone
pub mod Demands
-- a longer reach only refines, and without one the rows are document 01's with 0 after each (document 02, A5)
pub mod WithinReach
-- the listing keeps to its ceiling, which alters no list that is given (document 02, A13)
pub mod Ceilings
-- a drawing is the listing's rows, each number exact, and FAR exactly where a row names a corner too far (document 02, A2)
pub mod Drawings
-- several stands in one call are single calls, so demand 2 holds for each of them
pub mod Together
-- a promise said twice: of the answer, and in document 01's numbers
pub mod Numbered
-- the twelve measured examples, computed from the listing's definition
pub mod Cases
-- the door change, computed on plan Q
pub mod ChangesOfQ
-- a stated reach, computed on plan Q
pub mod ReachOfQ
-- a ceiling of crossings, computed on plan Q
pub mod CeilingsOfQ
-- drawings, computed: at 16,777,216 mm and beyond
pub mod DrawingsComputed
-- several stands in one call, computed on plan Q
pub mod MorningOfQ
-- wrong versions break the demand that document 01 names
pub mod ShutOut
-- a plan of triangles is answered alike in either kind (document 02, A14)
pub mod EitherKind
