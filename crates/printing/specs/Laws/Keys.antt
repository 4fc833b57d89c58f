-- A key written byte by byte, by what is left of it.
use Rattle.std.specs.Prelude.{ℕ, ◌+◌, ◌<◌, ◌≤◌, List, get_or, drop, set}
use native.Mathlib.Omega.{arith}
use Rattle.std.proofs.Math.Numerals.{add-one}
use Rattle.std.proofs.Common.{sym, subst, drop_of_length-le, drop-cons}
use Rattle.std.proofs.Math.ListN.{length}
use Rattle.lists.specs.Buffers.{Writes}
use Rattle.lists.proofs.Laws.Buffers.{Unwritten, unwritten-byte, unwritten-none}

module _ {key before : List ℕ} {i : ℕ} {now : List ℕ} (u : Unwritten key before (drop i key) i now) where
  pub byte_inside : i < length key → i < length now
  byte_inside h = omega (arith, u.fits, u.as_long)

  pub key-next : i < length key → Unwritten key before (drop (i + 1) key) (i + 1) (set now i (get_or key i 0))
  key-next h =
      let here = subst (λ t. Unwritten key before t i now) (drop-cons key i 0 h) u in
      subst (λ n. Unwritten key before (drop n key) (i + 1) (set now i (get_or key i 0))) (sym (add-one i)) (unwritten-byte here)

  pub key-all : length key ≤ i → Writes key before i now
  key-all h = unwritten-none (subst (λ t. Unwritten key before t i now) (drop_of_length-le key {i = i} h) u)
