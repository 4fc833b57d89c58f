-- Packed triples: a key holds the three numbers of a triple, keys have the order of triples, and tell which triples are among others.
-- By arithmetic on the places of the numbers.
use Rattle.std.specs.Prelude.{ℕ, ◌/◌, ◌%◌, ◌^◌, ◌<◌, ◌≡◌, refl, Bool, true, false, ◌||◌, List, [], ◌∷◌, map, eqb, ltb}
use Rattle.std.proofs.Common.{arith, ap, ap₂, ◌∙◌, sym, ⊎_elim, ltb-true, lt-ltb, le-ltb, eq-eqb, eqb-true}
use Rattle.lists.specs.Lists.{member}
use Rattle.lists.specs.Order.{same, before}
use Rattle.lists.proofs.Laws.Lists.{same_truth, eqb-symmetric}
use Rattle.lists.proofs.Laws.Order.{same-list, before-cons, before-number, before-total}
use Rattle.model.specs.Graph.{row, has}
use Rattle.graph.specs.Packed.{pack_triple, unpack_triple, triple}

-- # Numbers in a key
abbrev pack : ℕ → ℕ → ℕ → ℕ
pack s n t = pack_triple (triple s n t)

pub unpack-packed : (s n t : ℕ) → n < 2 ^ 6 → t < 2 ^ 16 → unpack_triple (pack s n t) ≡ triple s n t
unpack-packed s n t h k =
    let source : pack s n t / 2 ^ 22 ≡ s = omega arith in
    let name : pack s n t / 2 ^ 16 % 2 ^ 6 ≡ n = omega arith in
    let target : pack s n t % 2 ^ 16 ≡ t = omega arith in
    ap (λ (i : ℕ). triple i (pack s n t / 2 ^ 16 % 2 ^ 6) (pack s n t % 2 ^ 16)) source ∙ ap₂ (triple s) name target

pub packed-unpack : (k : ℕ) → k ≡ pack (k / 2 ^ 22) (k / 2 ^ 16 % 2 ^ 6) (k % 2 ^ 16)
packed-unpack k = omega arith

-- # Order
pack-rises : (s n t r m u : ℕ) → n < 2 ^ 6 → t < 2 ^ 16 → m < 2 ^ 6 → u < 2 ^ 16
    → before (s ∷ n ∷ t ∷ []) (r ∷ m ∷ u ∷ []) ≡ true → pack s n t < pack r m u
pack-rises s n t r m u hn ht hm hu h =
    ⊎_elim (λ (l : s < r). omega arith)
    (λ e. let same : s ≡ r = e.0 in
    ⊎_elim (λ (l : n < m). omega arith)
    (λ f. let also : n ≡ m = f.0 in
    let last : t < u = ltb-true t u (rw before-number at f.1) in
    omega arith)
    ((before-cons n m (t ∷ []) (u ∷ [])).0 e.1))
    ((before-cons s r (n ∷ t ∷ []) (m ∷ u ∷ [])).0 h)

triple-rises : (a b : ℕ) → before (row (unpack_triple a)) (row (unpack_triple b)) ≡ true → a < b
triple-rises a b h =
    let l : pack (a / 2 ^ 22) (a / 2 ^ 16 % 2 ^ 6) (a % 2 ^ 16) < pack (b / 2 ^ 22) (b / 2 ^ 16 % 2 ^ 6) (b % 2 ^ 16) =
    pack-rises _ _ _ _ _ _ (omega arith) (omega arith) (omega arith) (omega arith) h in
    rw (← packed-unpack a, ← packed-unpack b) at l

pub triple-same : (a b : ℕ) → same (row (unpack_triple a)) (row (unpack_triple b)) ≡ eqb a b
triple-same a b = same_truth (same (row (unpack_triple a)) (row (unpack_triple b))) (eqb a b) (
  (λ h. let e = (same-list (row (unpack_triple a)) (row (unpack_triple b))).0 h in eq-eqb a b (cc (packed-unpack a, packed-unpack b))),
  λ h. (same-list (row (unpack_triple a)) (row (unpack_triple b))).1 (ap (λ k. row (unpack_triple k)) (eqb-true a b h)),
)

pub triple-order : (a b : ℕ) → before (row (unpack_triple a)) (row (unpack_triple b)) ≡ ltb a b
triple-order a b = go (before (row (unpack_triple a)) (row (unpack_triple b))) (eqb a b) refl refl
  where
    go : (t e : Bool) → before (row (unpack_triple a)) (row (unpack_triple b)) ≡ t → eqb a b ≡ e → t ≡ ltb a b
    go true e p q = sym (lt-ltb a b (triple-rises a b p))
    go false true p q = let e : a ≡ b = eqb-true a b q in sym (le-ltb a b (omega arith))
    go false false p q =
        let l : b < a = triple-rises b a (before-total (row (unpack_triple a)) (row (unpack_triple b)) p (triple-same a b ∙ q)) in
        sym (le-ltb a b (omega arith))

-- # A triple among triples, by its key
pub has-triple : (ks : List ℕ) (k : ℕ) → has (map unpack_triple ks) (unpack_triple k) ≡ member ks k
has-triple [] k = refl
has-triple (x ∷ ks) k = ap₂ ◌||◌ (triple-same x k ∙ eqb-symmetric x k) (has-triple ks k)

pub has-packed : (ks : List ℕ) (s n t : ℕ) → n < 2 ^ 6 → t < 2 ^ 16 → member ks (pack s n t) ≡ has (map unpack_triple ks) (triple s n t)
has-packed ks s n t h k = sym (has-triple ks (pack s n t)) ∙ ap (has (map unpack_triple ks)) (unpack-packed s n t h k)
