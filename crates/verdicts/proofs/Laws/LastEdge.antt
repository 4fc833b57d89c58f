-- Whether the last edge shares its node and its name with another, told by keys: the last key is that of the last edge, and two keys begin with the
-- same bits exactly if their edges have one node and one name.
use Rattle.std.specs.Prelude.{ℕ, suc, ◌-◌, ◌/◌, ◌%◌, ◌^◌, ◌≡◌, false, ◌&&◌, length, eqb, Option, None, Some, option_map, slice_get}
use Rattle.std.proofs.Common.{arith, ap, ◌∙◌, sym}
use Rattle.std.proofs.Math.Path.{refl}
use mathlib.Core.List.{List, [], ◌∷◌, map}
use Rattle.lists.specs.Lists.{last_of}
use Rattle.lists.proofs.Laws.Lists.{both, equals, same_truth}
use Rattle.graph.specs.Packed.{unpack_triple}
use Rattle.verdicts.specs.Verdicts.{shares_with, last_shares}

pub shares-key : (a b : ℕ) → (eqb (a / 2 ^ 22) (b / 2 ^ 22) && eqb (a / 2 ^ 16 % 2 ^ 6) (b / 2 ^ 16 % 2 ^ 6)) ≡ eqb (a / 2 ^ 16) (b / 2 ^ 16)
shares-key a b =
    same_truth (eqb (a / 2 ^ 22) (b / 2 ^ 22) && eqb (a / 2 ^ 16 % 2 ^ 6) (b / 2 ^ 16 % 2 ^ 6)) (eqb (a / 2 ^ 16) (b / 2 ^ 16)) (
      (λ h. let r = simp (both, equals) at h in (equals (a / 2 ^ 16) (b / 2 ^ 16)).1 (omega arith)),
      λ h. let r = (equals (a / 2 ^ 16) (b / 2 ^ 16)).0 h in simp (both, equals) (omega arith, omega arith),
    )

last-triple : (keys : List ℕ) → last_of (map unpack_triple keys) ≡ option_map unpack_triple (slice_get keys (length keys - 1))
last-triple [] = refl
last-triple (k ∷ []) = refl
last-triple (k ∷ j ∷ keys) =
    let before : length (j ∷ keys) - 1 ≡ length keys = omega arith in
    let last : length (k ∷ j ∷ keys) - 1 ≡ suc (length keys) = omega arith in
    last-triple (j ∷ keys)
    ∙ ap (λ i. option_map unpack_triple (slice_get (j ∷ keys) i)) before
    ∙ ap (λ i. option_map unpack_triple (slice_get (k ∷ j ∷ keys) i)) (sym last)

module _ (edges : List ℕ) (edge : ℕ) where
  last-is : {o : Option ℕ} → o ≡ slice_get edges (length edges - 1)
      → shares_with (option_map unpack_triple o) (unpack_triple edge) ≡ last_shares (map unpack_triple edges) (unpack_triple edge)
  unfolding last_shares
  last-is h = ap (λ o. shares_with (option_map unpack_triple o) (unpack_triple edge)) h ∙ ap (λ o. shares_with o (unpack_triple edge)) (sym (last-triple edges))

  pub shares-none : None ≡ slice_get edges (length edges - 1) → false ≡ last_shares (map unpack_triple edges) (unpack_triple edge)
  shares-none h = last-is h

  pub shares-last : {k : ℕ} → Some k ≡ slice_get edges (length edges - 1)
      → eqb (k / 2 ^ 16) (edge / 2 ^ 16) ≡ last_shares (map unpack_triple edges) (unpack_triple edge)
  shares-last {k} h = sym (shares-key k edge) ∙ last-is h
