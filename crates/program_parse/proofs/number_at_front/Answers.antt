-- `program_parse::number_at_front` meets its contract: the tests of a number's form in their order.
use native.Mathlib.Omega.{arith}
use Rattle.octets.proofs.Stores.{to_end}
use Rattle.program.specs.Program.{is_digit}
use Rattle.program_parse.proofs.Digits.{front_most}
use Rattle.program_parse.proofs.Parsing.{fits-none, fits_some, number_large, number_long, number-none, number-stands, number_unspaced}
use Rattle.program_parse.proofs.number_at_front.Goals as goal

pub returns-then-n-lt1 : goal.returns-then-n-lt1
returns-then-n-lt1 c = number-none c.args.s.now c.count_digits-n.ensures c.if-n-lt1.true

pub returns-then-n-gt-MOST_DIGITS : goal.returns-then-n-gt-MOST_DIGITS
returns-then-n-gt-MOST_DIGITS c =
    number_long c.args.s.now c.count_digits-n.ensures c.if-n-lt1.false c.if-n-gt-MOST_DIGITS.true

pub slice_bounds-starts_with-count : goal.slice_bounds-starts_with-count
slice_bounds-starts_with-count c =
    omega (arith, c.count_digits-n.ensures, front_most is_digit c.args.s.now)

pub slice_bounds-starts_with-start : goal.slice_bounds-starts_with-start
slice_bounds-starts_with-start c =
    omega (arith, c.count_digits-n.ensures, front_most is_digit c.args.s.now)

pub returns-in_err-value : goal.returns-in_err-value
returns-in_err-value c =
    rw c.from_residual.ensures
    (number_large c.args.s.now c.count_digits-n.ensures c.if-n-lt1.false c.if-n-gt-MOST_DIGITS.false
    c.value_of.ensures (fits-none c.try_from.result c.try_from.ensures c.in_err-value.ensures.variant))

pub returns-then-not-starts_with : goal.returns-then-not-starts_with
returns-then-not-starts_with c =
    let s = c.args.s.now in
    let f = fits_some c.try_from.result c.try_from.ensures c.in_ok-value.ensures.value in
    number_unspaced s c.count_digits-n.ensures c.if-n-lt1.false c.if-n-gt-MOST_DIGITS.false c.value_of.ensures
    f.0 (rw (to_end s c.count_digits-n.result) at c.starts_with.ensures) c.if-not-starts_with.true

pub returns : goal.returns
returns c =
    let s = c.args.s.now in
    let f = fits_some c.try_from.result c.try_from.ensures c.in_ok-value.ensures.value in
    number-stands s c.count_digits-n.ensures c.if-n-lt1.false c.if-n-gt-MOST_DIGITS.false c.value_of.ensures
    f.0 (rw (to_end s c.count_digits-n.result) at c.starts_with.ensures) f.1 c.if-not-starts_with.false
