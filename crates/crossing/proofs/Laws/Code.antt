-- All tables that the code has are full: what their type says of them.
use Prim.Native.Nat.{ℕ, ◌^◌, ◌<◌}
use native.Mathlib.Omega.{arith}
use mathlib.Core.Path.{◌≡◌}
use mathlib.Core.Bool.{true}
use mathlib.Core.List.{List}
use lib.ListN.{length}
use lib.Dec.{ltb}
use borrow.Author.Tests.{lt-ltb}
use mir.Val.{Val}
use denote.Builtin.{u32}
use denote.Shadow.{shadow}
use denote.Struct.Declared.{row}
use Rattle.cdf.proofs.Laws.Below.{all_hold}
use Rattle.grammar.specs.contracts.tables.Tables.{the_type}
use Rattle.grammar.specs.contracts.tables.Dim as dim_type
use Rattle.grammar.specs.contracts.tables.Attr as attr_type
use Rattle.grammar.specs.contracts.tables.Var as var_type
use Rattle.grammar.proofs.Laws.Arrays.{element}
use Rattle.grammar.specs.Tables.{no_dim, no_attr, no_var, dim_at, attr_at, var_at, id_at}
use Rattle.grammar.specs.declared.tables.Dim.{Dim}
use Rattle.grammar.specs.declared.tables.Attr.{Attr}
use Rattle.grammar.specs.declared.tables.Var.{Var}
use Rattle.grammar.specs.declared.tables.Tables.{Tables}
use Rattle.crossing.specs.Words.{dim_in_fields, attr_in_fields, var_in_fields, tables_in_fields, Full}

-- rows whose numbers are below the limits of their fields
dim-fits : (d : Dim) → d.chars < 4294967296 → d.length < 4294967296 → dim_in_fields d ≡ true
unfolding dim_in_fields
dim-fits d a b = rw (lt-ltb d.chars 4294967296 a, lt-ltb d.length 4294967296 b)

attr-fits : (a : Attr) → a.chars < 65536 → a.code < 65536 → a.count < 4294967296 → attr_in_fields a ≡ true
unfolding attr_in_fields
attr-fits a x y z = rw (lt-ltb a.chars 65536 x, lt-ltb a.code 65536 y, lt-ltb a.count 4294967296 z)

var-fits : (v : Var) → v.chars < 4294967296 → v.rank < 256 → v.first < 256 → v.attrs < 256 → v.code < 256 → ((k : ℕ) → k < 8 → id_at v k < 4294967296) → var_in_fields v ≡ true
unfolding var_in_fields
var-fits v a b d e f ids =
    rw (lt-ltb v.chars 4294967296 a, lt-ltb v.rank 256 b, lt-ltb v.first 256 d, lt-ltb v.attrs 256 e, lt-ltb v.code 256 f)
    (all_hold (λ k. ltb (id_at v k) (2 ^ 32)) 8 (λ k l. lt-ltb (id_at v k) (2 ^ 32) (ids k l)))

-- the lengths of the arrays
module _ (t : Tables) (vs : List Val) (good : shadow ((row the_type).own_val t vs)) where
  many-dims : length t.dims ≡ 32
  many-dims = good.1.1.1.1.1.1.1.0.1.0.1

  many-attrs : length t.attrs ≡ 128
  many-attrs = good.1.1.1.1.1.1.1.1.1.1.0.1.0.1

  many-vars : length t.vars ≡ 64
  many-vars = good.1.1.1.1.1.1.1.1.1.1.1.1.0.1.0.1

  -- and the rows
  code-dim : (i : ℕ) → i < 32 → dim_in_fields (dim_at t i) ≡ true
  code-dim i h =
      let d = (element (row dim_type.the_type).own_val no_dim t.dims _ good.1.1.1.1.1.1.1.0.1.1 i (omega (arith, many-dims))).1 in
      dim-fits (dim_at t i) d.1.1.1.0.1 d.1.1.1.1.0.1

  code-attr : (i : ℕ) → i < 128 → attr_in_fields (attr_at t i) ≡ true
  code-attr i h =
      let a = (element (row attr_type.the_type).own_val no_attr t.attrs _ good.1.1.1.1.1.1.1.1.1.1.0.1.1 i (omega (arith, many-attrs))).1 in
      attr-fits (attr_at t i) a.1.1.1.0.1 a.1.1.1.1.0.1 a.1.1.1.1.1.0.1

  code-ids : (i : ℕ) → i < 64 → length (var_at t i).ids ≡ 8
  code-ids i h =
      let v = (element (row var_type.the_type).own_val no_var t.vars _ good.1.1.1.1.1.1.1.1.1.1.1.1.0.1.1 i (omega (arith, many-vars))).1 in
      v.1.1.1.1.0.1.0.1

  code-var : (i : ℕ) → i < 64 → var_in_fields (var_at t i) ≡ true
  code-var i h =
      let v = (element (row var_type.the_type).own_val no_var t.vars _ good.1.1.1.1.1.1.1.1.1.1.1.1.0.1.1 i (omega (arith, many-vars))).1 in
      var-fits (var_at t i) v.1.1.1.0.1 v.1.1.1.1.1.0.1 v.1.1.1.1.1.1.0.1 v.1.1.1.1.1.1.1.0.1 v.1.1.1.1.1.1.1.1.0.1
      (λ k l. (element u32.own_val 0 (var_at t i).ids _ v.1.1.1.1.0.1.1 k (omega (arith, code-ids i h))).1.1)

  code_fits : tables_in_fields t ≡ true
  unfolding tables_in_fields
  code_fits = rw (lt-ltb t.version 256 good.1.1.0.1, all_hold _ 32 code-dim, all_hold _ 128 code-attr) (all_hold _ 64 code-var)

  pub code-full : Full t
  code-full = record { dims = many-dims; attrs = many-attrs; vars = many-vars; ids = code-ids; fits = code_fits }
