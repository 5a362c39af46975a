-- The variable that a read asks for, in tables that are tested first (01, Answer numbers: 23, 16 and 17; Records).
use Rattle.std.specs.Prelude.{ℕ, Bool, cond, ◌&&◌, ltb, leb, eqb}
use Rattle.cdf.specs.Step.{Step, got, bind, need}
use Rattle.cdf.specs.Below.{between, all_below}
use Rattle.items.specs.Types.{size_of}
use Rattle.grammar.specs.Tables.{max_dims, max_vars, max_rank, var_at}
use Rattle.grammar.specs.declared.tables.Var.{Var}
use Rattle.grammar.specs.declared.tables.Tables.{Tables}
use Rattle.model.specs.Model.{ids_hold}
use Rattle.sizes.specs.Records.{is_record, chunk, record_size, sizes_hold, ends_hold}
use Rattle.found.specs.declared.variable.Spread.{Spread}

-- 01, number 23: "a read tests the numbers of dimensions, variables and dimensions a variable, .. type codes"
unfoldable pub shape_holds : Tables → Bool
shape_holds t = leb t.ndims max_dims && (leb t.nvars max_vars && all_below t.nvars (λ i. leb (var_at t i).rank max_rank && between 1 6 (var_at t i).code))

-- ".. ids, .. that the unlimited dimension stands only first, and rules 12 and 15 in the tables handed to it"
unfoldable pub tables_hold : Tables → Bool
tables_hold t = shape_holds t && (ids_hold t && (sizes_hold t && ends_hold t t.count))

-- how a variable's values are spread over the file. 01, Records: "a fixed variable has record 0 only"
unfoldable pub spread : Tables → Var → Spread
spread t v =
    record {
      begin = v.begin;
      records = cond (is_record t.dims v) t.count 1;
      step = record_size t;
      chunk = chunk t.dims v;
      width = size_of v.code;
      code = v.code;
    }

-- 01, Order of reads: 23, then 16
unfoldable pub sought : Tables → ℕ → Step Spread
sought t i =
    need (tables_hold t) 23 0 (
    need (ltb i t.nvars) 16 0 (
    got (spread t (var_at t i)) 0))

-- and then 17, which "belongs to typed reads"
unfoldable pub sought_as : ℕ → Tables → ℕ → Step Spread
sought_as code t i = bind (sought t i) (λ v _. need (eqb v.code code) 17 0 (got v 0))
