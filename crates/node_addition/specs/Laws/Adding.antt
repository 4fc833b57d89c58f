-- The arms for a key and new nodes for keys, as code makes them, by what is left of the list that code walks.
use Rattle.std.specs.Prelude.{ℕ, suc, ◌+◌, ◌-◌, ◌*◌, ◌/◌, ◌%◌, ◌^◌, ◌<◌, ◌≤◌, ◌≡◌, List, [], ◌∷◌, ◌++◌, length, take, drop, set, Result, Ok, Err}
use Rattle.std.specs.Bool.{⊤}
use native.Mathlib.Omega.{arith}
use Rattle.std.proofs.Common.{div-one, ap, ap₂, ◌∙◌, ⊎_elim, append_assoc, length-set, length-append, drop-cons, take-suc, length-take-le, drop_at, shr-shr}
use Rattle.std.proofs.Math.Numerals.{add-one}
use Rattle.std.proofs.Math.Path.{refl, sym}
use mathlib.Core.List.Memᴰ
use Rattle.std.proofs.Math.ListN.{drop_of_length-le}
use Rattle.std.proofs.lemmas.List.{set_split}
use Rattle.lists.specs.Lists.{◌!◌, Below}
use Rattle.lists.proofs.Laws.Lists.{in-cons}
use Rattle.model.specs.Refusals.{◌>>=◌}
use Rattle.model.specs.declared.Refusal.{Refusal}
use Rattle.graph.specs.Packed.{unpack_instance}
use Rattle.graph.specs.declared.instance.PackedInstance.{PackedInstance}
use Rattle.growth.specs.Growth.{judged, Makes, Addable, Grows}
use Rattle.node_addition.specs.Added.{arms_to, added_for}

-- # The arms for a key
arms_to-last : (arms : List ℕ) (a key : ℕ) → arms_to (arms ++ (a ∷ [])) key ≡ arms_to arms (key / 2 ^ 16) ++ ((a / 2 ^ 16 * 2 ^ 16 + key % 2 ^ 16) ∷ [])
unfolding arms_to
arms_to-last [] a key = rw div-one
arms_to-last (b ∷ arms) a key =
    let n : 16 * length (arms ++ (a ∷ [])) ≡ 16 + 16 * length arms = omega (arith, length-append arms (a ∷ [])) in
    let e : key / 2 ^ (16 * length (arms ++ (a ∷ []))) ≡ key / 2 ^ 16 / 2 ^ (16 * length arms) =
    ap (λ (j : ℕ). key / 2 ^ j) n ∙ sym (shr-shr key 16 (16 * length arms)) in
    ap₂ (λ (d : ℕ) (l : List ℕ). (b / 2 ^ 16 * 2 ^ 16 + d % 2 ^ 16) ∷ l) e (arms_to-last arms a key)

-- the arms from i on are there, and the numbers of the first i are left in the key
pub record ArmsLeft (arms : List ℕ) (key : ℕ) (i left : ℕ) (to : List ℕ) : Type 0 where
  pub reached : i ≤ length arms
  pub as_long : length to ≡ length arms
  pub leaves : arms_to (take i arms) left ++ drop i to ≡ arms_to arms key

module _ (arms : List ℕ) (key : ℕ) where
  module _ (i left : ℕ) (to : List ℕ) where
    pub arms-left-fewer : ArmsLeft arms key i left to → 0 < i
        → ArmsLeft arms key (i - 1) (left / 2 ^ 16) (set to (i - 1) (arms ! (i - 1) / 2 ^ 16 * 2 ^ 16 + left % 2 ^ 16))
    arms-left-fewer h l =
        let j = i - 1 in
        let arm = arms ! j / 2 ^ 16 * 2 ^ 16 + left % 2 ^ 16 in
        let next : i ≡ suc j = omega arith in
        let there : drop j (set to j arm) ≡ arm ∷ drop (suc j) to =
        ap (drop j) (set_split to j arm (omega (arith, h.reached, h.as_long)))
        ∙ drop_at (take j to) (arm ∷ drop (suc j) to) j (length-take-le j to (omega (arith, h.reached, h.as_long))) in
        let last : arms_to (take i arms) left ≡ arms_to (take j arms) (left / 2 ^ 16) ++ (arm ∷ []) =
        ap (λ (k : ℕ). arms_to (take k arms) left) next ∙ ap (λ (l : List ℕ). arms_to l left) (take-suc arms j 0 (omega (arith, h.reached)))
        ∙ arms_to-last (take j arms) (arms ! j) left in
        record {
          reached = omega (arith, h.reached);
          as_long = simp length-set h.as_long;
          leaves = rw there (sym (append_assoc (arms_to (take j arms) (left / 2 ^ 16)) (arm ∷ []) (drop (suc j) to))
              ∙ ap₂ (λ (front : List ℕ) (k : ℕ). front ++ drop k to) (sym last) (sym next) ∙ h.leaves);
        }

    pub arms-left-none : ArmsLeft arms key i left to → i ≤ 0 → to ≡ arms_to arms key
    unfolding arms_to
    arms-left-none h l = let none : i ≡ 0 = omega arith in rw none at h.leaves

arms_to-length : (arms : List ℕ) (key : ℕ) → length (arms_to arms key) ≡ length arms
unfolding arms_to
arms_to-length [] key = refl
arms_to-length (a ∷ arms) key = ap suc (arms_to-length arms key)

arms_to-below : (arms : List ℕ) (key : ℕ) → Below (2 ^ 22) arms → Below (2 ^ 22) (arms_to arms key)
unfolding arms_to
arms_to-below [] key below k i = absurd (Memᴰ.not-nil i)
arms_to-below (a ∷ arms) key below k i =
    ⊎_elim
    (λ (q : k ≡ a / 2 ^ 16 * 2 ^ 16 + key / 2 ^ (16 * length arms) % 2 ^ 16). omega (arith, below a (Memᴰ.head refl)))
    (arms_to-below arms key (λ b j. below b (Memᴰ.tail j)) k)
    (in-cons.0 i)

pub arms-below : (arms to : List ℕ) (key : ℕ) → Below (2 ^ 22) arms → to ≡ arms_to arms key → Below (2 ^ 22) to
arms-below arms to key below e = rw e (arms_to-below arms key below)

-- # A new node for each key
-- nodes for the keys before i are there
pub record Adding (class : ℕ) (arms keys : List ℕ) (d : PackedInstance) (i : ℕ) (grown : PackedInstance) : Type 0 where
  pub addable : Addable grown
  pub left : added_for class arms (drop i keys) (unpack_instance grown) ≡ added_for class arms keys (unpack_instance d)

module _ (class : ℕ) (arms keys : List ℕ) (d : PackedInstance) where
  module _ (i : ℕ) (grown : PackedInstance) (h : Adding class arms keys d i grown) where
    module _ (to : List ℕ) (l : i < length keys) (here : to ≡ arms_to arms (keys ! i)) (v : Result ⊤ Refusal) (next : PackedInstance)
        (g : Grows grown class to v next) where
      turn : added_for class arms keys (unpack_instance d)
          ≡ judged v (unpack_instance next) >>= λ e. added_for class arms (drop (i + 1) keys) e
      unfolding added_for
      turn = sym h.left ∙ rw (drop-cons keys i 0, add-one i, ← here, ← g.outcome)

      pub adding-refused : (r : Refusal) → v ≡ Err r → Makes (added_for class arms keys (unpack_instance d)) (Err r) next
      adding-refused r e = record { fits = record { few_nodes = g.addable.few_nodes; few_edges = g.addable.few_edges }; makes = sym (turn ∙ rw e) }

      pub adding-next : v ≡ Ok tt → Adding class arms keys d (i + 1) next
      adding-next e = record { addable = g.addable; left = sym (turn ∙ rw e) }

    pub adding-all : length keys ≤ i → Makes (added_for class arms keys (unpack_instance d)) (Ok tt) grown
    unfolding added_for
    adding-all l =
        record {
          fits = record { few_nodes = h.addable.few_nodes; few_edges = h.addable.few_edges };
          makes = rw drop_of_length-le at h.left;
        }
