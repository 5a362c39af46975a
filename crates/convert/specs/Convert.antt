-- Widening and narrowing (01, Widening and narrowing): a file in another version. Its header is written in that version; what lies behind the header stays as it is and moves
-- as one.
use Rattle.std.specs.Prelude.{ℕ, ◌+◌, ◌-◌, ◌≡◌, Bool, Result, Ok, Err, List, ◌++◌, map, length, take, drop, ltb, leb}
use Rattle.bigendian.specs.Number.{half}
use Rattle.cdf.specs.Below.{all_below}
use Rattle.cdf.specs.Form.{form}
use Rattle.cdf.specs.Magic.{both_versions}
use Rattle.cdf.specs.Refusals.{number}
use Rattle.cdf.specs.declared.refusal.Stop.{Stop}
use Rattle.cdf.specs.Step.{Step, got, stop, need, into}
use Rattle.grammar.specs.Tables.{var_at}
use Rattle.grammar.specs.Meaning.{Contents}
use Rattle.grammar.specs.declared.tables.Var.{Var}
use Rattle.grammar.specs.declared.tables.Tables.{Tables}
use Rattle.rules.specs.Encode.{encode}
use Rattle.order.specs.Writable.{to_write}
use Rattle.sizes.specs.Records.{ends_hold, max_position}
use Rattle.header.specs.Header.{read_header, after_header}
use Rattle.header.specs.declared.reader.HeaderAnswer.{HeaderAnswer as Header}
use Rattle.writer.specs.Writes.{write_header}
use Rattle.convert.specs.declared.convert.Converted.{Converted as Made}
use Rattle.convert.specs.declared.convert.ConvertedAnswer.{ConvertedAnswer as Converted}

-- where a position behind a header that ended at `old` lies behind one that ends at `new`: it "moves by new header length minus old". Asked only of positions from `old` on
abbrev pub moved : ℕ → ℕ → ℕ → ℕ
moved old new p = p - old + new

-- what a header says, in another version (BNF: magic)
abbrev pub in_version : ℕ → Contents → Contents
in_version version m = record { version = version; word = m.word; dimensions = m.dimensions; globals = m.globals; variables = m.variables }

-- a variable with its begin moved
abbrev pub moved_var : (ℕ → ℕ) → Var → Var
moved_var f v =
    record {
      name = v.name;
      chars = v.chars;
      ids = v.ids;
      rank = v.rank;
      first = v.first;
      attrs = v.attrs;
      code = v.code;
      vsize = v.vsize;
      begin = f v.begin;
    }

-- tables in another version: "Every begin moves .. The new size moves as much"; "words, names, attributes, vsize stay"
unfoldable pub moved_tables : ℕ → (ℕ → ℕ) → Tables → Tables
moved_tables version f t =
    record {
      version = version;
      word = t.word;
      count = t.count;
      size = f t.size;
      ndims = t.ndims;
      dims = t.dims;
      nattrs = t.nattrs;
      globals = t.globals;
      attrs = t.attrs;
      nvars = t.nvars;
      vars = map (moved_var f) (take t.nvars t.vars) ++ drop t.nvars t.vars;
    }

-- a new file: the output that its header was put into, and its size
pub record New : Type 0 where
  pub output : List ℕ
  pub size : ℕ

module _ (version : ℕ) (s : List ℕ) (h : Header) where
  -- "new header length": where the header ends in the version. A begin takes as many bytes wherever it lies, so that it is known before the begins move
  abbrev pub new_end : ℕ
  new_end = length (encode (in_version version (to_write s h.tables)))

  -- the tables of the new file, whose names and values stand in the old header
  abbrev pub new_tables : Tables
  new_tables = moved_tables version (moved h.end new_end) h.tables

  -- 24 otherwise: "a begin lies below the header's end". Asked also where the version stays
  abbrev pub begins_behind : Bool
  begins_behind = all_below h.tables.nvars (λ i. leb h.end (var_at h.tables i).begin)

  -- 25 otherwise: "a moved begin above 2147483647", which has no form in version 1. In version 2 every one has, so that 25 belongs to narrowing
  abbrev pub begins_fit : Bool
  begins_fit = all_below new_tables.nvars (λ i. ltb (var_at new_tables i).begin (half (form version).begin_bytes))

  -- 01, Order: "24, 25, new size over 2^62 (21), new ends (15), 22". The new header is what the writer makes of the new tables; its own 23 never comes (`ConvertedIsWritable`)
  unfoldable pub converted : List ℕ → Step New
  converted out =
      need begins_behind 24 0 (
      need begins_fit 25 0 (
      need (leb new_tables.size max_position) 21 0 (
      need (ends_hold new_tables new_tables.count) 15 0 (
      into (λ o. record { output = o; size = new_tables.size }) (write_header s new_tables out)))))

-- the file of that size which starts with s, in the version: "the header's refusals" with their places, then as above. Its place is the new header's length
unfoldable pub convert : ℕ → List ℕ → ℕ → List ℕ → Step New
convert version s size out = after_header (read_header s size both_versions) (λ h. converted version s h out)

-- length and size "are 0 in any refusal"
abbrev pub answer_of : Step New → Converted
answer_of (got x n) = record { number = 0; place = 0; new_length = n; size = x.size }
answer_of (stop k p) = record { number = k; place = p; new_length = 0; size = 0 }

-- and the output, which stays as it was in a refusal
abbrev pub output_or : List ℕ → Step New → List ℕ
output_or out (got x _) = x.output
output_or out (stop _ _) = out

-- what the code's result tells
abbrev pub converted_of : Result Made Stop → Converted
converted_of (Ok x) = record { number = 0; place = 0; new_length = x.length; size = x.size }
converted_of (Err k) = record { number = number k.why; place = k.place; new_length = 0; size = 0 }

-- the contract of both: where y is to be answered and `out` stood in the output, r tells the answer and the output is `new`
abbrev pub Converts : List ℕ → Step New → Result Made Stop → List ℕ → Type 0
Converts out y r new = (converted_of r ≡ answer_of y) × (new ≡ output_or out y)
