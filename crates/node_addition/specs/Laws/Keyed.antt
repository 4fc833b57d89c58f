-- The images to which arms lead, as one key: it gives the arms back, so that it tells images from others.
-- By induction on the arms: a digit is what a key leaves when the digits behind it are cut off.
use Rattle.std.specs.Prelude.{ℕ, suc, ◌+◌, ◌*◌, ◌/◌, ◌%◌, ◌^◌, ◌<◌, ◌≡◌, refl, length}
use Rattle.std.proofs.Common.{div-one, arith, ap, ap₂, ◌∙◌, sym, pow-add}
use Rattle.std.proofs.Math.Nat.{div-div-eq-div-mul}
use mathlib.Core.List.Memᴰ
use mathlib.Core.List.{List, [], ◌∷◌, map, foldl}
use Rattle.lists.specs.Lists.{◌∈◌, ◌!◌}
use Rattle.model.specs.Operations.{Arm, arms_at}
use Rattle.graph.specs.Packed.{unpack_arm}
use Rattle.notes.specs.Visits.{joint_key}
use Rattle.node_addition.specs.Added.{arms_to}

-- the nodes of arms as digits in base 2 ^ 16, after those that are in `key`
unfoldable pub key_after : (key : ℕ) → List Arm → ℕ
key_after key es = foldl (λ k a. k * 2 ^ 16 + a.node) key es

abbrev pub key_of : List Arm → ℕ
key_of es = key_after 0 es

-- arms of the same names, that lead to nodes of an instance
pub record Placed (arms : List ℕ) (es : List Arm) : Type 0 where
  pub names : map (λ a. a.name) es ≡ map (λ a. a / 2 ^ 16) arms
  pub below : (a : Arm) → a ∈ es → a.node < 2 ^ 16

pub placed_first : (a : ℕ) (arms : List ℕ) (e : Arm) (es : List Arm) → Placed (a ∷ arms) (e ∷ es) → e.name ≡ a / 2 ^ 16
placed_first a arms e es p = let q = p.names in cc

pub placed-rest : (a : ℕ) (arms : List ℕ) (e : Arm) (es : List Arm) → Placed (a ∷ arms) (e ∷ es) → Placed arms es
placed-rest a arms e es p = let q = p.names in record { names = cc; below = λ b i. p.below b (Memᴰ.tail i) }

pub placed-not-less : {e : Arm} {es : List Arm} → Placed [] (e ∷ es) → ⊥
placed-not-less p = let q = p.names in let z : ◌≡◌ {A = ℕ} 0 1 = cc in omega arith

pub placed-not-more : {a : ℕ} {arms : List ℕ} → Placed (a ∷ arms) [] → ⊥
placed-not-more p = let q = p.names in let z : ◌≡◌ {A = ℕ} 0 1 = cc in omega arith

pub joint-key : (m arms : List ℕ) → joint_key m arms ≡ key_of (arms_at m (map unpack_arm arms))
unfolding joint_key key_after
joint-key m arms = go 0 arms
  where
    go : (k : ℕ) (arms : List ℕ) → foldl (λ key part. key * 2 ^ 16 + m ! (part % 2 ^ 16)) k arms
        ≡ foldl (λ k (a : Arm). k * 2 ^ 16 + a.node) k (arms_at m (map unpack_arm arms))
    go k [] = refl
    go k (a ∷ arms) = go (k * 2 ^ 16 + m ! (a % 2 ^ 16)) arms

-- without the digits of the arms, a key is what it was before
key-before : (k : ℕ) (arms : List ℕ) (es : List Arm) → Placed arms es → key_after k es / 2 ^ (16 * length arms) ≡ k
unfolding key_after
key-before k [] [] p = div-one k
key-before k [] (e ∷ es) p = absurd (placed-not-less p)
key-before k (a ∷ arms) [] p = absurd (placed-not-more p)
key-before k (a ∷ arms) (e ∷ es) p =
    let n = e.node in
    let x = key_after (k * 2 ^ 16 + n) es in
    let l : n < 2 ^ 16 = p.below e (Memᴰ.head refl) in
    let q = key-before (k * 2 ^ 16 + n) arms es (placed-rest a arms e es p) in
    let more : 16 * suc (length arms) ≡ 16 * length arms + 16 = omega arith in
    let wide : 2 ^ (16 * suc (length arms)) ≡ 2 ^ (16 * length arms) * 2 ^ 16 = ap (λ i. 2 ^ i) more ∙ pow-add 2 (16 * length arms) 16 in
    let last : (k * 2 ^ 16 + n) / 2 ^ 16 ≡ k = omega arith in
    ap (λ w. x / w) wide ∙ sym (div-div-eq-div-mul x (2 ^ (16 * length arms)) (2 ^ 16)) ∙ ap (λ y. y / 2 ^ 16) q ∙ last

-- the arms to which a key leads are those of which it was made
pub arms-back : (k : ℕ) (arms : List ℕ) (es : List Arm) → Placed arms es → map unpack_arm (arms_to arms (key_after k es)) ≡ es
unfolding arms_to key_after
arms-back k [] [] p = refl
arms-back k [] (e ∷ es) p = absurd (placed-not-less p)
arms-back k (a ∷ arms) [] p = absurd (placed-not-more p)
arms-back k (a ∷ arms) (e ∷ es) p =
    let n = e.node in
    let x = key_after (k * 2 ^ 16 + n) es in
    let l : n < 2 ^ 16 = p.below e (Memᴰ.head refl) in
    let first : e.name ≡ a / 2 ^ 16 = placed_first a arms e es p in
    let more = placed-rest a arms e es p in
    let q = key-before (k * 2 ^ 16 + n) arms es more in
    let y = x / 2 ^ (16 * length arms) in
    let name : (a / 2 ^ 16 * 2 ^ 16 + y % 2 ^ 16) / 2 ^ 16 ≡ e.name = omega arith in
    let node : (a / 2 ^ 16 * 2 ^ 16 + y % 2 ^ 16) % 2 ^ 16 ≡ n = omega arith in
    ap₂ {C = List Arm} (λ b l. b ∷ l) (ap₂ {C = Arm} (λ i j. record { name = i; node = j }) name node) (arms-back (k * 2 ^ 16 + n) arms es more)

pub key-determines : (arms : List ℕ) (es fs : List Arm) → Placed arms es → Placed arms fs → key_of es ≡ key_of fs → es ≡ fs
key-determines arms es fs p q e = sym (arms-back 0 arms es p) ∙ ap (λ k. map unpack_arm (arms_to arms k)) e ∙ arms-back 0 arms fs q
