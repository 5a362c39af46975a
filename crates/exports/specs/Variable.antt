-- A variable's numbers, as a caller keeps them between reads.
use Rattle.std.specs.Prelude.{ℕ, ◌&&◌, List, [], ◌∷◌, ◌++◌, length, get_or, drop, leb}
use Rattle.cdf.specs.Step.{Step, got, need}
use Rattle.cdf.specs.Below.{between}
use Rattle.items.specs.Types.{size_of}
use Rattle.found.specs.declared.variable.Spread.{Spread}

-- begin, how many records, record size, elements a record, type code. The bytes of an element are those of the type
unfoldable pub spread_words : Spread → List ℕ
spread_words v = v.begin ∷ v.records ∷ v.step ∷ v.chunk ∷ v.code ∷ []

-- a variable put down in an output: 22 where it is too short; what lies after stays
unfoldable pub placed : List ℕ → Spread → Step (List ℕ)
placed out v = need (leb 5 (length out)) 22 0 (got (spread_words v ++ drop 5 out) 0)

-- the numbers taken up again
unfoldable pub spread_of : List ℕ → Spread
spread_of s =
    record {
      begin = get_or s 0 0;
      records = get_or s 1 0;
      step = get_or s 2 0;
      chunk = get_or s 3 0;
      width = size_of (get_or s 4 0);
      code = get_or s 4 0;
    }

-- 23 where they are too few or the type is none; each read tests the rest (`kept`)
unfoldable pub taken : List ℕ → Step Spread
taken s = need (leb 5 (length s) && between 1 6 (get_or s 4 0)) 23 0 (got (spread_of s) 0)
