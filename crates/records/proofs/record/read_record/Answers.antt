use native.Mathlib.Omega.{arith}
use Rattle.std.proofs.Common.{◌≡◌, ◌∙◌, rules}
use Rattle.cdf.specs.Refusals.{number, answered}
use Rattle.records.proofs.Laws.Filled.{record-of-fits, decoder-asks, record-stop, record-got}
use Rattle.records.proofs.record.read_record.Goals as goal

pub slice_bounds-records-count : goal.slice_bounds-records-count
slice_bounds-records-count g c = let h = record-of-fits _ _ _ _ _ g.met.T.Element.sized _ (rw c.CODE.ensures at c.in_ok-x.ensures) in h.inside

pub slice_bounds-records-start : goal.slice_bounds-records-start
slice_bounds-records-start g c = let h = record-of-fits _ _ _ _ _ g.met.T.Element.sized _ (rw c.CODE.ensures at c.in_ok-x.ensures) in omega (arith, h.inside)

pub records-requires : goal.records-requires
records-requires g c = let asked = decoder-asks c.args.window.bytes.now (record-of-fits _ _ _ _ _ g.met.T.Element.sized _ (rw c.CODE.ensures at c.in_ok-x.ensures)) in record { chunk_in_bounds = asked.0; by_index = asked.1 }

pub returns-in_err-x : goal.returns-in_err-x
returns-in_err-x g c =
    let h = record-stop g.T.Element.value _ _ _ _ _ g.met.T.Element.sized _ (rw c.CODE.ensures at c.in_err-x.ensures) in
    let told : answered c.from_residual.result ≡ number c.in_err-x.field-0.0 = search rules in
    (told ∙ h.0, h.1)

pub returns : goal.returns
returns g c = record-got g.T.Element.value _ _ _ _ _ g.met.T.Element.sized _ (rw c.CODE.ensures at c.in_ok-x.ensures) c.records.ensures
