use Prim.Native.Nat.{◌+◌, ◌<◌}
use native.Mathlib.Omega.{arith}
use borrow.Author.Rules.{rules}
use mathlib.Core.Path.{◌≡◌, refl, sym, subst, ◌∙◌}
use mathlib.Core.List.{◌++◌}
use lib.ListN.{length, take, drop, get_or, length-set}
use lib.Seq.{get_or-take, length-take-le}
use Rattle.grammar.specs.Tables.{no_var}
use Rattle.grammar.specs.declared.tables.Var.{Var}
use Rattle.convert.specs.Convert.{moved, moved_var, moved_tables}
use Rattle.convert.proofs.Laws.Moved.{still-row, one_more, all-up}
use Rattle.convert.proofs.begins.moved_tables.Goals as goal

pub loop-v-init : goal.loop-v-init
loop-v-init c = record { long = refl; is = refl }

pub moved-v-requires : goal.moved-v-requires
moved-v-requires c =
    let t = c.args.t.now in
    let l : length t.vars ≡ 64 = search rules in
    let few = c.requires.nvars_bound.0 in
    let m = length-take-le t.nvars t.vars (omega arith) in
    let h : c.loop-v.v-index < t.nvars = omega arith in
    let e = still-row (moved_var (moved c.args.old c.args.new)) no_var (take t.nvars t.vars) c.loop-v.v-items c.loop-v.v-index c.loop-v-test.true c.loop-v.invariant.is ∙ get_or-take t.nvars t.vars c.loop-v.v-index no_var h in
    subst (λ (v : Var). v.begin + c.args.new < 18446744073709551616) (sym e) (c.requires.by_index c.loop-v.v-index h)

pub loop-v-preserved : goal.loop-v-preserved
loop-v-preserved c =
    let v = get_or c.loop-v.v-items c.loop-v.v-index no_var in
    let e : record { name = v.name; chars = v.chars; ids = v.ids; rank = v.rank; first = v.first; attrs = v.attrs; code = v.code; vsize = v.vsize; begin = c.moved-v.result } ≡ moved_var (moved c.args.old c.args.new) v =
    λ j. record { name = v.name; chars = v.chars; ids = v.ids; rank = v.rank; first = v.first; attrs = v.attrs; code = v.code; vsize = v.vsize; begin = c.moved-v.ensures j } in
    record {
      long = length-set c.loop-v.v-items c.loop-v.v-index _ ∙ c.loop-v.invariant.long;
      is = one_more (moved_var (moved c.args.old c.args.new)) no_var (take c.args.t.now.nvars c.args.t.now.vars) c.loop-v.v-items c.loop-v.v-index _ c.loop-v-test.true c.loop-v.invariant.is e;
    }

pub returns : goal.returns
unfolding moved_tables
returns c =
    let t = c.args.t.now in
    let v = c.loop-v.invariant.is ∙ all-up (moved_var (moved c.args.old c.args.new)) no_var t.nvars c.loop-v.v-index t.vars c.loop-v-test.false in
    λ j. record { version = c.args.version; word = t.word; count = t.count; ndims = t.ndims; dims = t.dims; nattrs = t.nattrs; globals = t.globals; attrs = t.attrs; nvars = t.nvars; size = c.moved.ensures j; vars = v j ++ drop t.nvars t.vars }
