-- What is noted at a matching, key by key from the first to the last, and by what a walk is told to note.
use Rattle.std.specs.Prelude.{ℕ, ◌+◌, ◌*◌, ◌/◌, ◌%◌, ◌^◌, ◌<◌, ◌≤◌, ◌≡◌, List}
use Rattle.std.proofs.Common.{◌∙◌, ap, take_all}
use mathlib.Core.List.{map}
use Rattle.std.proofs.Math.ListN.{length}
use Rattle.std.proofs.lemmas.List.{length-map}
use Rattle.lists.specs.Lists.{◌!◌}
use Rattle.lists.proofs.Laws.Places.{map_at}
use Rattle.model.specs.Limits
use Rattle.notes.specs.Notes.{note, note_all}
use Rattle.notes.specs.Visits.{edge_key, joint_key, edge_keys, keys_of, visited}
use Rattle.notes.specs.Laws.InTurn.{InTurn, noting-none, noting-next, noting-all}
use Rattle.notes.specs.declared.noting.Arms.{Arms}
use Rattle.notes.specs.declared.noting.Noting.{Noting}
use Rattle.notes.specs.declared.noting.Noting.TheVariants as noting
use Rattle.visits.specs.Laws.Visits.{Joining}

-- # The key of an edge
pub edge-made : (m : List ℕ) (part source target : ℕ) → source ≡ m ! (part / 2 ^ 22) → target ≡ m ! (part % 2 ^ 16)
    → source * 2 ^ 22 + part / 2 ^ 16 % 2 ^ 6 * 2 ^ 16 + target ≡ edge_key m part
edge-made m part source target e f = rw (e, f)

-- # One key for all arms
pub joining-all : {m parts : List ℕ} {i key : ℕ} → Joining m parts i key → length parts ≤ i → key ≡ joint_key m parts
joining-all {m} {parts} {i} j l = j.joined ∙ ap (joint_key m) (take_all i parts l)

-- # A key for each edge
module _ {before : List ℕ} (f : ℕ → ℕ) (parts : List ℕ) where
  pub edges_none : InTurn before (map f parts) 0 before
  edges_none = noting-none

  module _ {i : ℕ} {log : List ℕ} (n : InTurn before (map f parts) i log) where
    pub edges-next : {after : List ℕ} (r : ℕ) → i < length parts → r ≡ f (parts ! i) → after ≡ note log r
        → InTurn before (map f parts) (i + 1) after
    edges-next r l e m = noting-next n (rw length-map l) (rw (map_at f parts i l, ← e) m)

    pub edges-all : length parts ≤ i → log ≡ note_all before (map f parts)
    edges-all l = noting-all n (rw length-map l)

-- # A visit
pub parts-few : (arms : Arms) → length arms.parts.now ≤ Limits.arms
parts-few arms = arms.few

module _ (before m : List ℕ) {after : List ℕ} where
  pub visited-nothing : after ≡ before → after ≡ visited (keys_of noting.Nothing) before m
  visited-nothing h = h

  pub visited-together : (arms : Arms) (r : ℕ) → r ≡ joint_key m arms.parts.now → after ≡ note before r
      → after ≡ visited (keys_of (noting.Arms arms)) before m
  visited-together arms r e h = rw (← e) h

  pub visited-apart : (what : Noting) (parts : List ℕ) → keys_of what ≡ edge_keys parts → after ≡ note_all before (map (edge_key m) parts)
      → after ≡ visited (keys_of what) before m
  visited-apart what parts e h = rw e h
