-- The images of edges and of a node: where the matchings send them.
-- By the members of the lists of which they are made.
use Rattle.std.specs.Prelude.{ℕ, ◌≡◌, ◌↔◌, false, List, map}
use Rattle.lists.specs.Lists.{◌∈◌, ◌!◌, member}
use Rattle.lists.proofs.Laws.Lists.{fails, in_map, in-each, in-numbers}
use Rattle.model.specs.Graph.{Triple, has}
use Rattle.model.specs.Matching.{image}
use Rattle.model.specs.Operations.{images, images_of}
use Rattle.model.specs.Meaning.{NoImage, NoEdgeImage}
use Rattle.model.proofs.Laws.Graph.{has-edge}

module _ (ts : List Triple) (ms : List (List ℕ)) (t : Triple) where
  pub in-images : (t ∈ images ts ms) ↔ ((m : List ℕ) × (m ∈ ms) × ((u : Triple) × (u ∈ ts) × (t ≡ image m u)))
  in-images = (
    (λ h. let r = (in-each ms (λ m. map (image m) ts)).0 h in (r.0, r.1, (in_map (image r.0) ts).0 r.2)),
    λ h. (in-each ms (λ m. map (image m) ts)).1 (h.0, h.1, (in_map (image h.0) ts).1 h.2),
  )

  pub no-edge-image : (has (images ts ms) t ≡ false) ↔ NoEdgeImage ts ms t
  no-edge-image = (
    (λ h m i u j e. (fails (has (images ts ms) t)).0 h ((has-edge (images ts ms) t).1 (in-images.1 (m, i, (u, j, e))))),
    λ h.
        (fails (has (images ts ms) t)).1 (λ k.
        let r = in-images.0 ((has-edge (images ts ms) t).0 k) in
        h r.0 r.1 r.2.0 r.2.1 r.2.2),
  )

pub no-image : (p : ℕ) (ms : List (List ℕ)) (i : ℕ) → (member (images_of p ms) i ≡ false) ↔ NoImage p ms i
no-image p ms i = (
  (λ h m j e. (fails (member (images_of p ms) i)).0 h ((in-numbers (images_of p ms) i).1 ((in_map (λ l. l ! p) ms).1 (m, j, e)))),
  λ h.
      (fails (member (images_of p ms) i)).1 (λ k.
      let r = (in_map (λ l. l ! p) ms).0 ((in-numbers (images_of p ms) i).0 k) in
      h r.0 r.1 r.2),
)
