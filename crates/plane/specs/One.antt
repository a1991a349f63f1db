-- Exactly one of two or of three holds.

pub data OneOfTwo (A B : Type 0) : Type 0 where
  first : A → ¬ B → OneOfTwo A B
  second : ¬ A → B → OneOfTwo A B

pub data OneOfThree (A B C : Type 0) : Type 0 where
  first : A → ¬ B → ¬ C → OneOfThree A B C
  second : ¬ A → B → ¬ C → OneOfThree A B C
  third : ¬ A → ¬ B → C → OneOfThree A B C
