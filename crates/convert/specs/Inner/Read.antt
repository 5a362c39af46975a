-- A header that was read, and its tables in another version.
use Rattle.std.specs.Prelude.{ℕ, ◌+◌, ◌≡◌, Result, Ok, Err, List}
use Rattle.cdf.specs.declared.refusal.Refusal.{Refusal}
use Rattle.cdf.specs.declared.refusal.Stop.{Stop}
use Rattle.cdf.specs.Magic.{both_versions}
use Rattle.grammar.specs.declared.tables.Attr.{Attr}
use Rattle.grammar.specs.declared.tables.Var.{Var}
use Rattle.grammar.specs.declared.tables.Tables.{Tables}
use Rattle.order.specs.Inner.Lengths.{var_alone, attrs_length}
use Rattle.header.specs.Header.{read_header}
use Rattle.header.specs.declared.reader.HeaderAnswer.{HeaderAnswer as Header}
use Rattle.header.specs.declared.reader.Header.{Header as Accepted}

-- a header that the code's reader has accepted
abbrev pub as_read : Accepted → Header
as_read h = record { number = 0; place = 0; end = h.end; tables = h.tables }

-- a result whose refusals have no place
abbrev pub stopped : {A : Type 0} → Result A Refusal → Result A Stop
stopped (Ok x) = Ok x
stopped (Err k) = Err (record { why = k; place = 0 })

-- the reader's answer to a prefix s of some file, which it accepts
pub record Read (s : List ℕ) (h : Header) : Type 0 where
  pub size : ℕ
  pub is : h ≡ read_header s size both_versions
  pub accepted : h.number ≡ 0

-- tables that say another version and are the same otherwise
abbrev pub versioned : ℕ → Tables → Tables
versioned version t =
    record {
      version = version;
      word = t.word;
      count = t.count;
      size = t.size;
      ndims = t.ndims;
      dims = t.dims;
      nattrs = t.nattrs;
      globals = t.globals;
      attrs = t.attrs;
      nvars = t.nvars;
      vars = t.vars;
    }

-- a variable as it is written in a version, whose attributes stand among the rows xs
abbrev pub var_length : ℕ → List Attr → Var → ℕ
var_length version xs v = var_alone version v + attrs_length xs v.first v.attrs
