use Rattle.std.proofs.Common.{◌≡◌, ℕ, ◌<◌, true}
use Rattle.model.specs.Model.{distinct, dim_names, var_names, attr_names}
use Rattle.model.proofs.Laws.Model.{Own}
use Rattle.model.proofs.rules.names_hold.Given as goal

abbrev pub invariant-loop-v : goal.invariant-loop-v
invariant-loop-v l =
    record {
      dims : distinct l.s (dim_names l.t) l.t.ndims ≡ true;
      vars : distinct l.s (var_names l.t) l.t.nvars ≡ true;
      globals : distinct l.s (attr_names l.t 0) l.t.globals ≡ true;
      own : (i : ℕ) → i < l.v-index → Own l.s l.t i ≡ true;
    }
