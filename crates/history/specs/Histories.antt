-- The undo history as a list of stored instances, newest first.
use Rattle.std.specs.Prelude.{◌≤◌, ◌≡◌, List, ◌∷◌, take}
use Rattle.model.specs.Limits
use Rattle.graph.specs.declared.history.History.{History}
use Rattle.graph.specs.declared.instance.PackedInstance.{PackedInstance}

-- the copies that stand
abbrev pub copies_of : History → List PackedInstance
copies_of h = take h.depth h.copies

-- "Apply puts the old drawing at the head of the copies, drops a ninth"
pub record PushedOn (h : History) (d : PackedInstance) (r : History) : Type 0 where
  pub pushed : copies_of r ≡ take Limits.copies (d ∷ copies_of h)
  pub few : r.depth ≤ Limits.copies

-- "Undo takes the head copy off the list"
pub record PoppedOff (h : History) (newest : PackedInstance) (r : History) : Type 0 where
  pub popped : copies_of h ≡ newest ∷ copies_of r
  pub few : r.depth ≤ Limits.copies
