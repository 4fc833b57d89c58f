-- What tells which keys go: marks of numbers, or the keys themselves; and a pass over keys from its start to its end.
use Rattle.std.specs.Prelude.{ℕ, ◌*◌, ◌/◌, ◌%◌, ◌^◌, ◌<◌, ◌≤◌, ◌≡◌, refl, Bool, true, false, cond, ◌||◌, length, take, eqb}
use Rattle.std.proofs.Common.{arith, le_refl, take_all}
use mathlib.Core.List.{List}
use borrow.Author.Tests.{eq-eqb, ne_eqb}
use Rattle.lists.specs.Lists.{keep, member, ◌!◌, Below}
use Rattle.lists.proofs.Laws.Places.{at_place}
use Rattle.model.specs.Limits
use Rattle.keys.specs.Keys.{keys_rise, Front}
use Rattle.graph.specs.Packed.{Fits}
use Rattle.graph.specs.declared.instance.PackedInstance.{PackedInstance}
use Rattle.deletion.specs.Deleted.{words, marked, Marks}
use Rattle.deletion.specs.Laws.Marked.{Marking}
use Rattle.deletion.specs.Laws.Retained.{Retaining}

-- # Whether a key goes
-- a node by its number (0), an edge by one of its ends (1), where numbers are marked; or a key itself
unfoldable pub goes : (what : ℕ) → (gone : List ℕ) → (key : ℕ) → Bool
goes what gone key =
    cond (eqb what 0) (marked gone (key / 2 ^ 38))
    (cond (eqb what 1) (marked gone (key / 2 ^ 22) || marked gone (key % 2 ^ 16))
    (member gone key))

module _ (what : ℕ) (gone : List ℕ) (key : ℕ) (r : Bool) where
  pub goes-node : what ≡ 0 → r ≡ marked gone (key / 2 ^ 38) → r ≡ goes what gone key
  unfolding goes
  goes-node e h = rw (eq-eqb what 0 e) h

  pub goes-source : what ≡ 1 → r ≡ marked gone (key / 2 ^ 22) → r ≡ true → true ≡ goes what gone key
  unfolding goes
  goes-source e h t = rw (eq-eqb what 1 e, ne_eqb what 0 (omega arith), ← h, t)

  pub goes-target : what ≡ 1 → (s : Bool) → s ≡ marked gone (key / 2 ^ 22) → s ≡ false → r ≡ marked gone (key % 2 ^ 16) → r ≡ goes what gone key
  unfolding goes
  goes-target e s h t k = rw (eq-eqb what 1 e, ne_eqb what 0 (omega arith), ← h, t) k

  pub goes-itself : (what ≡ 0 → ⊥) → (what ≡ 1 → ⊥) → r ≡ member gone key → r ≡ goes what gone key
  unfolding goes
  goes-itself d e h = rw (ne_eqb what 0 d, ne_eqb what 1 e) h

-- # What tells
-- marks or rising keys, that tell what goes
pub record Tells (what : ℕ) (gone : List ℕ) : Type 0 where
  pub marks : what ≤ 1 → length gone ≡ words
  pub keys : 2 ≤ what → keys_rise gone ≡ true

module _ (what : ℕ) (gone : List ℕ) where
  pub tells-nodes : Tells what gone → what ≡ 0 → length gone ≡ words
  tells-nodes t e = t.marks (omega arith)

  pub tells-ends : Tells what gone → what ≡ 1 → length gone ≡ words
  tells-ends t e = t.marks (omega arith)

  pub tells-keys : Tells what gone → (what ≡ 0 → ⊥) → (what ≡ 1 → ⊥) → keys_rise gone ≡ true
  tells-keys t f g = t.keys (omega (arith, f, g))

pub marks-tell : (what : ℕ) {numbers : List ℕ} (marks : List ℕ) → what ≤ 1 → Marks numbers marks → Tells what marks
marks-tell what marks l m = record { marks = λ h. m.room; keys = λ h. absurd (omega arith) }

pub keys-tell : (gone : List ℕ) → keys_rise gone ≡ true → Tells 2 gone
keys-tell gone h = record { marks = λ l. absurd (omega arith); keys = λ l. h }

-- # Marking
module _ (numbers marks : List ℕ) (i : ℕ) (h : Marking numbers i marks) where
  pub marking-end : length numbers ≤ i → Marks numbers marks
  marking-end l = rw (take_all i numbers l) at h.done

  pub marking-place : Below (2 ^ 16) numbers → i < length numbers → numbers ! i / 64 * 8 < 2 ^ 64
  marking-place below l = omega (arith, below (numbers ! i) (at_place numbers i 0 l))

-- # The pass
module _ {stays : ℕ → Bool} where
  pub retaining-start : (before : List ℕ) (count : ℕ) → count ≤ length before → Retaining stays before count before 0 0
  retaining-start before count h = record { few = le_refl 0; reached = omega arith; inside = h; room = refl; front = refl; rest = refl }

  pub retaining-end : {before keys : List ℕ} {count kept next : ℕ} → Retaining stays before count keys kept next → count ≤ next
      → Front keys kept (keep stays (take count before))
  retaining-end {count = count} {next = next} i h =
      let e : next ≡ count = omega (arith, i.reached) in
      record { few = omega (arith, i.few, i.reached, i.inside); front = rw e at i.front }

-- # Room
module _ {d : PackedInstance} (fits : Fits d) where
  pub nodes-room : length d.nodes ≡ Limits.nodes → d.order ≤ length d.nodes
  nodes-room h = omega (arith, fits.few_nodes)

  pub edges_room_lem : length d.edges ≡ Limits.edges → d.size ≤ length d.edges
  edges_room_lem h = omega (arith, fits.few_edges)
