use native.Mathlib.Omega.{arith}
use borrow.Author.Rules.{rules}
use Prim.Native.Nat.{◌≤◌}
use Rattle.cdf.specs.declared.refusal.Refusal.TheVariants.{BeginInHeader, BeginTooFar, FileSize, Ends}
use Rattle.header.proofs.Laws.Header.{passed}
use Rattle.sizes.specs.Records.{max_position}
use Rattle.order.proofs.Laws.Chain.{fails, holds}
use Rattle.convert.specs.Convert.{new_tables}
use Rattle.convert.specs.Inner.Read.{as_read}
use Rattle.convert.proofs.Laws.Read.{table-inside, table-within, table-sizes, size_small, begin-small, new-facts}
use Rattle.convert.proofs.Laws.Convert.{stops-with, by-24, by-25, by-21, by-15, refused-last, given-last, behind-is, made, made-fit, made-size, made_ends, made-writes}
use Rattle.convert.proofs.convert.in_version.Goals as goal

pub begins_behind-requires : goal.begins_behind-requires
begins_behind-requires c = (table-within c.args.prefix.now (as_read c.args.h.now) c.requires).vars

pub returns-then-not-begins_behind : goal.returns-then-not-begins_behind
returns-then-not-begins_behind c =
    stops-with c.args.version c.args.prefix.now (as_read c.args.h.now) c.args.out.now BeginInHeader (by-24 c.args.version c.args.prefix.now (as_read c.args.h.now) c.args.out.now (fails (behind-is c.args.version c.args.prefix.now (as_read c.args.h.now) c.requires c.begins_behind.ensures) c.if-not-begins_behind.true))

pub header_len-requires : goal.header_len-requires
header_len-requires c = (table-inside c.args.prefix.now (as_read c.args.h.now) c.requires).counted

pub moved_tables-u-requires : goal.moved_tables-u-requires
moved_tables-u-requires c =
    let n = c.header_len.ensures.1 in
    let k = size_small c.args.prefix.now (as_read c.args.h.now) c.requires in
    record { nvars_bound = ((table-within c.args.prefix.now (as_read c.args.h.now) c.requires).vars, omega arith); by_index = λ i m. let g = begin-small c.args.h.now.tables (table-sizes c.args.prefix.now (as_read c.args.h.now) c.requires) i m in omega arith }

pub begins_below-requires : goal.begins_below-requires
begins_below-requires c =
    let is = made c.args.version c.args.prefix.now (as_read c.args.h.now) c.requires c.header_len.ensures.0 c.moved_tables-u.ensures in
    (new-facts c.args.version c.args.prefix.now (as_read c.args.h.now) c.requires is).few

pub returns-then-not-begins_below : goal.returns-then-not-begins_below
returns-then-not-begins_below c =
    let is = made c.args.version c.args.prefix.now (as_read c.args.h.now) c.requires c.header_len.ensures.0 c.moved_tables-u.ensures in
    let fit = made-fit c.args.version c.args.prefix.now (as_read c.args.h.now) is c.requires (search rules) c.begin_end.ensures c.begins_below.ensures in
    let back = holds (behind-is c.args.version c.args.prefix.now (as_read c.args.h.now) c.requires c.begins_behind.ensures) c.if-not-begins_behind.false in
    stops-with c.args.version c.args.prefix.now (as_read c.args.h.now) c.args.out.now BeginTooFar (by-25 c.args.version c.args.prefix.now (as_read c.args.h.now) c.args.out.now back (fails fit c.if-not-begins_below.true))

pub returns-then-u-gt-MAX_POSITION : goal.returns-then-u-gt-MAX_POSITION
returns-then-u-gt-MAX_POSITION c =
    let is = made c.args.version c.args.prefix.now (as_read c.args.h.now) c.requires c.header_len.ensures.0 c.moved_tables-u.ensures in
    let fit = made-fit c.args.version c.args.prefix.now (as_read c.args.h.now) is c.requires (search rules) c.begin_end.ensures c.begins_below.ensures in
    let back = holds (behind-is c.args.version c.args.prefix.now (as_read c.args.h.now) c.requires c.begins_behind.ensures) c.if-not-begins_behind.false in
    let z = made-size c.args.version c.args.prefix.now (as_read c.args.h.now) is in
    stops-with c.args.version c.args.prefix.now (as_read c.args.h.now) c.args.out.now FileSize (by-21 c.args.version c.args.prefix.now (as_read c.args.h.now) c.args.out.now back (holds fit c.if-not-begins_below.false) (omega (arith, c.if-u-gt-MAX_POSITION.true)))

pub new_ends_hold-requires : goal.new_ends_hold-requires
new_ends_hold-requires c =
    let is = made c.args.version c.args.prefix.now (as_read c.args.h.now) c.requires c.header_len.ensures.0 c.moved_tables-u.ensures in
    let k = new-facts c.args.version c.args.prefix.now (as_read c.args.h.now) c.requires is in
    (k.shaped, k.ids, k.suffice)

pub returns-then-not-new_ends_hold : goal.returns-then-not-new_ends_hold
returns-then-not-new_ends_hold c =
    let is = made c.args.version c.args.prefix.now (as_read c.args.h.now) c.requires c.header_len.ensures.0 c.moved_tables-u.ensures in
    let fit = made-fit c.args.version c.args.prefix.now (as_read c.args.h.now) is c.requires (search rules) c.begin_end.ensures c.begins_below.ensures in
    let back = holds (behind-is c.args.version c.args.prefix.now (as_read c.args.h.now) c.requires c.begins_behind.ensures) c.if-not-begins_behind.false in
    let z = made-size c.args.version c.args.prefix.now (as_read c.args.h.now) is in
    let l : (new_tables c.args.version c.args.prefix.now (as_read c.args.h.now)).size ≤ max_position = omega (arith, c.if-u-gt-MAX_POSITION.false) in
    stops-with c.args.version c.args.prefix.now (as_read c.args.h.now) c.args.out.now Ends (by-15 c.args.version c.args.prefix.now (as_read c.args.h.now) c.args.out.now back (holds fit c.if-not-begins_below.false) l (fails (made_ends c.args.version c.args.prefix.now (as_read c.args.h.now) is c.new_ends_hold.ensures) c.if-not-new_ends_hold.true))

pub returns-in_err-length : goal.returns-in_err-length
returns-in_err-length c =
    let is = made c.args.version c.args.prefix.now (as_read c.args.h.now) c.requires c.header_len.ensures.0 c.moved_tables-u.ensures in
    let fit = made-fit c.args.version c.args.prefix.now (as_read c.args.h.now) is c.requires (search rules) c.begin_end.ensures c.begins_below.ensures in
    let back = holds (behind-is c.args.version c.args.prefix.now (as_read c.args.h.now) c.requires c.begins_behind.ensures) c.if-not-begins_behind.false in
    let z = made-size c.args.version c.args.prefix.now (as_read c.args.h.now) is in
    let l : (new_tables c.args.version c.args.prefix.now (as_read c.args.h.now)).size ≤ max_position = omega (arith, c.if-u-gt-MAX_POSITION.false) in
    refused-last c.args.version c.args.prefix.now (as_read c.args.h.now) c.args.out.now back (holds fit c.if-not-begins_below.false) l (holds (made_ends c.args.version c.args.prefix.now (as_read c.args.h.now) is c.new_ends_hold.ensures) c.if-not-new_ends_hold.false) (made-writes c.args.version c.args.prefix.now (as_read c.args.h.now) is _ _ _ c.write_header.ensures) c.in_err-length.was (passed c.from_residual.result c.from_residual.ensures.1)

pub returns : goal.returns
returns c =
    let is = made c.args.version c.args.prefix.now (as_read c.args.h.now) c.requires c.header_len.ensures.0 c.moved_tables-u.ensures in
    let fit = made-fit c.args.version c.args.prefix.now (as_read c.args.h.now) is c.requires (search rules) c.begin_end.ensures c.begins_below.ensures in
    let back = holds (behind-is c.args.version c.args.prefix.now (as_read c.args.h.now) c.requires c.begins_behind.ensures) c.if-not-begins_behind.false in
    let z = made-size c.args.version c.args.prefix.now (as_read c.args.h.now) is in
    let l : (new_tables c.args.version c.args.prefix.now (as_read c.args.h.now)).size ≤ max_position = omega (arith, c.if-u-gt-MAX_POSITION.false) in
    given-last c.args.version c.args.prefix.now (as_read c.args.h.now) c.args.out.now back (holds fit c.if-not-begins_below.false) l (holds (made_ends c.args.version c.args.prefix.now (as_read c.args.h.now) is c.new_ends_hold.ensures) c.if-not-new_ends_hold.false) (made-writes c.args.version c.args.prefix.now (as_read c.args.h.now) is _ _ _ c.write_header.ensures) c.in_ok-length.was z
