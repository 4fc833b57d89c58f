-- Keys of edges looked at pair by pair, by the place that is reached; and keys put at the front of an array one by one.
use Rattle.std.specs.Prelude.{ℕ, ◌+◌, ◌-◌, ◌/◌, ◌^◌, ◌<◌, ◌≤◌, ◌≡◌, refl, suc, List, [], ◌∷◌, length, take, drop, set, None}
use Rattle.std.proofs.Common.{arith, ap, ◌∙◌, sym, zero-add, drop-cons, drop-drop, length-drop}
use Rattle.std.proofs.Math.Seq.{take-length}
use Rattle.lists.specs.Lists.{◌!◌}
use Rattle.lists.specs.Buffers.{at_front}
use Rattle.graph.specs.declared.declarations.Declarations.{Declarations}
use Rattle.edge_addition.specs.Joined.{first_torn}
use Rattle.edge_addition.specs.Laws.Joining.{none-left, whole-apart}
use Rattle.growth.specs.Laws.Growing.{Put, put-more}
use Rattle.growth.specs.Laws.Room.{put-none, put-long}

-- # The search for neighbours that clash
-- no two neighbours before place i do
pub record WholeBefore (names : Declarations) (edges : List ℕ) (i : ℕ) : Type 0 where
  pub started : 1 ≤ i
  pub left : first_torn names edges ≡ first_torn names (drop (i - 1) edges)

module _ (names : Declarations) (edges : List ℕ) where
  pub whole-start : WholeBefore names edges 1
  whole-start = record { started = omega arith; left = refl }

  module _ (i : ℕ) (h : WholeBefore names edges i) where
    pub whole-end : length edges ≤ i → None ≡ first_torn names edges
    whole-end l = none-left names edges (drop (i - 1) edges) h.left 2 refl (omega (arith, length-drop (i - 1) edges, h.started))

    module _ (inside : i < length edges) where
      pair : take 2 (drop (i - 1) edges) ≡ edges ! (i - 1) ∷ edges ! i ∷ []
      pair =
          let e : suc (i - 1) ≡ i = omega (arith, h.started) in
          ap (take 2) (drop-cons edges (i - 1) 0 (omega arith)
          ∙ ap (λ (l : List ℕ). edges ! (i - 1) ∷ l) (ap (λ n. drop n edges) e ∙ drop-cons edges i 0 inside))

      pub whole_apart : (edges ! (i - 1) / 2 ^ 16 ≡ edges ! i / 2 ^ 16 → ⊥) → WholeBefore names edges (i + 1)
      whole_apart d =
          let next : i + 1 - 1 ≡ i - 1 + 1 = omega (arith, h.started) in
          record {
            started = omega arith;
            left =
                whole-apart names edges (drop (i - 1) edges) h.left (edges ! (i - 1) ∷ edges ! i ∷ []) 2 refl
                (omega (arith, length-drop (i - 1) edges, h.started)) (sym pair) d
                ∙ ap (first_torn names) (drop-drop 1 (i - 1) edges ∙ ap (λ n. drop n edges) (sym next));
          }

-- # Keys put at the front
module _ (keys before : List ℕ) where
  pub keys_none : length keys ≤ length before → Put keys 0 before 0 before
  keys_none h = put-none keys 0 before (rw zero-add h)

  module _ (i : ℕ) (now : List ℕ) (h : Put keys 0 before i now) where
    pub keys-more : i < length keys → Put keys 0 before (i + 1) (set now i (keys ! i))
    keys-more l = rw zero-add at (put-more keys 0 before i now h l)

    pub keys-inside : i < length keys → i < length now
    keys-inside l = omega (arith, h.room, put-long keys 0 before i now h)

    pub keys-long : length now ≡ length before
    keys-long = put-long keys 0 before i now h

    pub keys-all : length keys ≤ i → now ≡ at_front keys before
    keys-all l =
        let all : i ≡ length keys = omega (arith, h.few) in
        rw (h.put, all, take-length, zero-add)

-- # Room
pub joined-fits : (ks edges : List ℕ) {room : ℕ} → length ks ≤ room → length edges ≡ room → length ks ≤ length edges
joined-fits ks edges few full = omega arith
