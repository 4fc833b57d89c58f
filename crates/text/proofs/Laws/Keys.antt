-- The kind of a line sought by its key.
use Rattle.std.specs.Prelude.{ℕ, ◌≡◌, refl, false, List, ◌∷◌, ◌&&◌}
use Rattle.lists.specs.Lists.{find}
use Rattle.lists.specs.Order.{same}
use Rattle.lists.specs.Text.{pieces}
use Rattle.model.specs.Files.{in_form}
use Rattle.forms.specs.Forms.{kind_of}
use Rattle.forms.specs.declared.LineKind.{LineKind}

-- a kind with another key is passed by
pub left_other : (word numbers : List ℕ) (kind : LineKind) (kinds : List LineKind) → same (kind_of kind).form.key word ≡ false
    → find (λ k. same (kind_of k).form.key word && in_form (kind_of k).form.below (pieces 44 numbers)) (kind ∷ kinds)
    ≡ find (λ k. same (kind_of k).form.key word && in_form (kind_of k).form.below (pieces 44 numbers)) kinds
left_other word numbers kind kinds e = rw e refl
