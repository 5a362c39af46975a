-- How the code tests a variable's row.
use Rattle.std.specs.Prelude.{Bool, ◌&&◌, leb}
use Rattle.cdf.specs.Below.{between}
use Rattle.grammar.specs.Tables.{max_rank}
use Rattle.grammar.specs.declared.tables.Var.{Var}

-- the part of a row that is tested by itself
abbrev pub row_holds : Var → Bool
row_holds v = leb v.rank max_rank && between 1 6 v.code
