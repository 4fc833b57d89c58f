-- New nodes for groups, as code adds them: the step for one group, case by case, and the steps that are left.
use Rattle.std.specs.Prelude.{ℕ, suc, ◌+◌, ◌*◌, ◌^◌, ◌<◌, ◌≤◌, ◌≡◌, refl, Bool, true, false, cond, List, [], map, length, drop, eqb, Result, Ok, Err}
use Rattle.std.specs.Bool.{⊤}
use Rattle.std.proofs.Common.{arith, add-one, ap, ◌∙◌, subst, drop_of_length-le, drop-cons, eq-eqb, ne_eqb}
use Rattle.std.proofs.Math.Path.{sym}
use mathlib.Core.List.Memᴰ
use Rattle.lists.specs.Lists.{◌∈◌, any, ◌!◌, Below}
use Rattle.lists.proofs.Laws.Lists.{in-keep, in_map}
use Rattle.model.specs.Graph.{Instance}
use Rattle.model.specs.Refusals.{Outcome, accepted, ◌>>=◌, in_turn}
use Rattle.model.specs.declared.Refusal.{Refusal}
use Rattle.graph.specs.Packed.{unpack_instance}
use Rattle.graph.specs.declared.instance.PackedInstance.{PackedInstance}
use Rattle.growth.specs.Growth.{judged, Addable, Grows}
use Rattle.edge_runs.specs.Runs.{has_targets}
use Rattle.groups.specs.Groups.{alike, arms_led_by}
use Rattle.abstraction.specs.Grouped.{GrowsTo, added_with, added_at}

-- # One group
module _ (class : ℕ) (arms old numbers : List ℕ) (b : ℕ) (d : PackedInstance) (addable : Addable d) where
  abbrev added : Outcome Instance
  added = added_with class arms old numbers b (unpack_instance d)

  as_it_was : added ≡ accepted (unpack_instance d) → GrowsTo added (Ok tt) d
  as_it_was e = record { outcome = sym e; addable = addable }

  pub none-to-add : length arms ≡ 0 → GrowsTo added (Ok tt) d
  unfolding added_with
  none-to-add e = as_it_was (rw (eq-eqb (length arms) 0 e))

  module _ (some : length arms ≡ 0 → ⊥) (o : Bool) (has : o ≡ any (has_targets old b arms) numbers) where
    pub had-before : o ≡ true → GrowsTo added (Ok tt) d
    unfolding added_with
    had-before t = as_it_was (rw (ne_eqb (length arms) 0 some, sym has ∙ t))

    pub group-new : o ≡ false → (v : Result ⊤ Refusal) (grown : PackedInstance) → Grows d class arms v grown → GrowsTo added v grown
    unfolding added_with
    group-new lacks v grown g = record { outcome = rw (ne_eqb (length arms) 0 some, sym has ∙ lacks) g.outcome; addable = g.addable }

-- # The groups that are left
-- what is to come of the images, by those from i on
pub record Adding (class : ℕ) (images : List ℕ) (a : ℕ) (old numbers : List ℕ) (b : ℕ) (whole : Outcome Instance) (d : PackedInstance) (i : ℕ) : Type 0
  where
    pub addable : Addable d
    pub rest : in_turn (drop i images) (added_at class images a old numbers b) (unpack_instance d) ≡ whole

module _ (class : ℕ) (images : List ℕ) (a : ℕ) (old numbers : List ℕ) (b : ℕ) where
  abbrev step : ℕ → Instance → Outcome Instance
  step = added_at class images a old numbers b

  pub adding-none : (d : PackedInstance) → Addable d
      → Adding class images a old numbers b (in_turn images (added_at class images a old numbers b) (unpack_instance d)) d 0
  adding-none d h = record { addable = h; rest = refl }

  module _ (whole : Outcome Instance) (d : PackedInstance) (i : ℕ) (h : Adding class images a old numbers b whole d i) where
    pub adding-all : length images ≤ i → GrowsTo whole (Ok tt) d
    adding-all past =
        record {
          outcome = ap (λ (l : List ℕ). in_turn l step (unpack_instance d)) (sym (drop_of_length-le images past)) ∙ h.rest;
          addable = h.addable;
        }

    module _ (edges : List ℕ) (same : edges ≡ old) (arms : List ℕ) (l : i < length images)
        (led : arms ≡ arms_led_by edges a b images (images ! i)) (grown : PackedInstance) where
      stepped : (v : Result ⊤ Refusal) → GrowsTo (added_with class arms old numbers b (unpack_instance d)) v grown
          → (judged v (unpack_instance grown) >>= λ now. in_turn (drop (suc i) images) step now) ≡ whole
      stepped v grows =
          ap (λ o. o >>= λ now. in_turn (drop (suc i) images) step now)
          (grows.outcome
          ∙ ap (λ (arms : List ℕ). added_with class arms old numbers b (unpack_instance d)) led
          ∙ ap (λ (edges : List ℕ). added_with class (arms_led_by edges a b images (images ! i)) old numbers b (unpack_instance d)) same)
          ∙ ap (λ (l : List ℕ). in_turn l step (unpack_instance d)) (sym (drop-cons images i 0 l))
          ∙ h.rest

      pub adding-refused : (r : Refusal) → GrowsTo (added_with class arms old numbers b (unpack_instance d)) (Err r) grown
          → GrowsTo whole (Err r) grown
      adding-refused r grows = record { outcome = stepped (Err r) grows; addable = grows.addable }

      pub adding-more : GrowsTo (added_with class arms old numbers b (unpack_instance d)) (Ok tt) grown
          → Adding class images a old numbers b whole grown (i + 1)
      adding-more grows = record { addable = grows.addable; rest = rw (add-one i) (stepped (Ok tt) grows) }

-- arms of the name to images fit an edge's key
pub arms-below : (old : List ℕ) (a b : ℕ) (images : List ℕ) (i : ℕ) (arms : List ℕ) → b < 2 ^ 6 → Below (2 ^ 16) images
    → arms ≡ arms_led_by old a b images i → Below (2 ^ 22) arms
unfolding arms_led_by
arms-below old a b images i arms h below led k j =
    go (eqb (alike old a images i ! 0) i) (subst (λ (l : List ℕ). k ∈ l) led j)
  where
    go : (t : Bool) → k ∈ cond t (map (λ j. b * 2 ^ 16 + j) (alike old a images i)) [] → k < 2 ^ 22
    go true m =
        let r = (in_map (λ j. b * 2 ^ 16 + j) (alike old a images i)).0 m in
        let e : k ≡ b * 2 ^ 16 + r.0 = r.2 in
        let n : r.0 < 2 ^ 16 = below r.0 ((in-keep _ images).0 r.1).0 in
        omega arith
    go false m = absurd (Memᴰ.not-nil m)
