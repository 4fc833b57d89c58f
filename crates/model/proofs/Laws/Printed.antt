-- What the library prints of a number is its numeral. By its last digit, which both write after what is left.
use Rattle.std.specs.Prelude.{ℕ, suc, ◌^◌, ◌<◌, ◌≡◌, refl}
use Rattle.std.specs.Fmt.{decimal as printed}
use Rattle.std.proofs.Common.{arith, lt-ltb, le-ltb}
use Rattle.std.proofs.lemmas.Fmt.{decimal_from_appends, length-decimal-le_succ}
use Rattle.lists.specs.Decimal.{digits, decimal}

pub numeral-printed : (n : ℕ) → n < 2 ^ 64 → decimal n ≡ printed n
numeral-printed n h =
    decimal_from_appends digits
    record { one = λ k m l. rw (lt-ltb m 10 l) refl; more = λ k m l. rw (le-ltb m 10 l) refl }
    (suc n) n h (omega (arith, length-decimal-le_succ n h))
