-- Tables that can be written (01, Answer numbers: "The writer tests all: ..", 23).
use Rattle.std.specs.Prelude.{ℕ, ◌+◌, ◌*◌, Bool, ◌&&◌, List, length, leb, eqb}
use Rattle.cdf.specs.Step.{number_of, given_or}
use Rattle.cdf.specs.Below.{all_below}
use Rattle.items.specs.Types.{size_of}
use Rattle.grammar.specs.Tables.{max_dims, max_vars, max_attrs, max_rank, dim_at, attr_at, var_at}
use Rattle.grammar.specs.Meaning.{Contents, said}
use Rattle.grammar.specs.declared.tables.Tables.{Tables}
use Rattle.rules.specs.Capacity.{fits}
use Rattle.rules.specs.Range.{in_range}
use Rattle.rules.specs.Encode.{encode}
use Rattle.model.specs.Model.{model_holds}
use Rattle.sizes.specs.Records.{sizes_hold, ends_hold, max_position}
use Rattle.sizes.specs.Count.{record_count}

module _ (s : List ℕ) (t : Tables) where
  -- "names .. inside the text buffer"
  abbrev pub is_inside : ℕ → ℕ → Bool
  is_inside at n = leb (at + n) (length s)

  -- a dimension's name
  abbrev pub dim_inside : ℕ → Bool
  dim_inside i = is_inside (dim_at t i).name (dim_at t i).chars

  -- an attribute's name, and "attribute bytes"
  abbrev pub attr_inside : ℕ → Bool
  attr_inside i = is_inside (attr_at t i).name (attr_at t i).chars && is_inside (attr_at t i).values ((attr_at t i).count * size_of (attr_at t i).code)

  -- a variable's name; its dimensions and its attributes are rows that there are
  abbrev pub var_inside : ℕ → Bool
  var_inside i = is_inside (var_at t i).name (var_at t i).chars && (leb (var_at t i).rank max_rank && leb ((var_at t i).first + (var_at t i).attrs) t.nattrs)

  -- every row below its count, and the counts within the tables
  unfoldable pub rows_inside : Bool
  rows_inside =
      leb t.ndims max_dims
      && (leb t.nvars max_vars
      && (leb t.nattrs max_attrs
      && (leb t.globals t.nattrs
      && (all_below t.ndims dim_inside
      && (all_below t.nattrs attr_inside
      && all_below t.nvars var_inside)))))

  -- what is to be written
  abbrev pub to_write : Contents
  to_write = (said s t).contents

  -- "the count against word and size": it is the one that the reader would answer
  unfoldable pub count_holds : Bool
  count_holds = eqb (number_of (record_count t)) 0 && eqb (given_or 0 (record_count t)) t.count

  -- "size from the header's length to 2^62"
  unfoldable pub size_holds : Bool
  size_holds = leb (length (encode to_write)) t.size && leb t.size max_position

  -- "The writer tests all": 23 where this does not hold
  unfoldable pub writable : Bool
  writable =
      rows_inside
      && (fits to_write
      && (in_range to_write
      && (model_holds s t
      && (sizes_hold t
      && (count_holds
      && (ends_hold t t.count
      && size_holds))))))
