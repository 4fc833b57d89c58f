-- One drawing within another: every node and every edge of the first is in the second.
-- What stands in the first, of a class, stands in the second, and so does the permission of an edge.
use Rattle.std.specs.Prelude.{ℕ, ◌≡◌, true}
use Rattle.model.specs.Graph.{Triple, Scheme, Instance, of_class, permits}
use Rattle.model.proofs.Laws.Graph.{of-class}
use Rattle.model.specs.Meaning.{Within}
use Rattle.model.proofs.Laws.Sound.{joins-weaker}

pub within-itself : (d : Instance) → Within d d
within-itself d = record { nodes = λ n i. i; edges = λ t i. i }

pub within-through : {d e f : Instance} → Within d e → Within e f → Within d f
within-through h k = record { nodes = λ n i. k.nodes n (h.nodes n i); edges = λ t i. k.edges t (h.edges t i) }

pub of-class-within : {d e : Instance} → Within d e → (i c : ℕ) → of_class d i c ≡ true → of_class e i c ≡ true
of-class-within {d} {e} h i c k = let r = (of-class d i c).0 k in (of-class e i c).1 (r.0, h.nodes r.0 r.1, r.2)

pub permits-within : {d e : Instance} → Within d e → (s : Scheme) (t : Triple) → permits s d t ≡ true → permits s e t ≡ true
permits-within {d} {e} h s t =
    joins-weaker s (of_class d t.source) (of_class e t.source) t.name (of_class d t.target) (of_class e t.target)
    (of-class-within h t.source) (of-class-within h t.target)
