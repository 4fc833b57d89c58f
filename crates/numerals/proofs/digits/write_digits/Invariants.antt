-- `numerals::digits::write_digits` meets its contract: the digits of the rest, then the buffer from there on, are what the buffer shall hold.
-- Assumes nothing.
use Rattle.numerals.specs.Laws.Digits.{DigitsLeft}
use Rattle.numerals.proofs.digits.write_digits.Given as goal

abbrev pub invariant-loop-place : goal.invariant-loop-place
invariant-loop-place l = DigitsLeft l.base l.first l.count l.n l.initial.buf l.place l.rest l.buf
