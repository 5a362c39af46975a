-- The lines of a text (01, listing program: "reads standard input, one file a line").
use Rattle.std.specs.Prelude.{ℕ, cond, List, [], ◌∷◌, ◌++◌, length, eqb}

-- the line end
abbrev pub newline : ℕ
newline = 10

-- the lines of a text, after the characters `begun` of the first: a line end closes a line and opens none, and what stands after the last line
-- end is a line where it is not empty ("A last line needs no line end")
unfoldable pub lines : List ℕ → List ℕ → List (List ℕ)
lines begun [] = cond (eqb (length begun) 0) [] (begun ∷ [])
lines begun (c ∷ cs) = cond (eqb c newline) (begun ∷ lines [] cs) (lines (begun ++ (c ∷ [])) cs)
