-- Keys that stay: those that have been looked at and don't go stand at the front, and what is left to look at is as it was. What stays of stored keys
-- is what stays of the nodes and edges that they stand for.
use Rattle.std.specs.Prelude.{ℕ, suc, ◌+◌, ◌/◌, ◌%◌, ◌^◌, ◌<◌, ◌≤◌, ◌≡◌, Bool, true, false, ◌||◌, length, take, drop, set}
use Rattle.std.proofs.Common.{arith, add-one, ◌∙◌, length-set, length-take, length-take-le, take-suc, take-suc-set, drop-drop, drop-set-lt, get_or-drop}
use Rattle.std.proofs.Math.Path.{ap, ap₂, sym}
use Rattle.std.proofs.Math.Bool.{not}
use mathlib.Core.List.{List, [], ◌∷◌, ◌++◌, map, append-nil}
use Rattle.lists.specs.Lists.{keep, member, ◌!◌}
use Rattle.lists.proofs.Laws.Lists.{keep_append, keep-map, keep-length}
use Rattle.lists.proofs.Laws.Maps.{keep_same}
use Rattle.model.specs.Graph.{Triple, Node}
use Rattle.keys.specs.Keys.{Front}
use Rattle.graph.specs.Packed.{unpack_node, unpack_triple, pack_triple, unpack_instance, Fits}
use Rattle.graph.proofs.Laws.Triples.{packed-unpack}
use Rattle.graph.specs.declared.instance.PackedInstance.{PackedInstance}
use Rattle.deletion.specs.Deleted.{marked, Marks, node_stays, edge_stays, WithoutNodes, WithoutEdges}

-- # The pass
-- of the first `count` of the keys as they stood before, `next` have been looked at, and the first `kept` are those of them that stay
pub record Retaining (stays : ℕ → Bool) (before : List ℕ) (count : ℕ) (keys : List ℕ) (kept next : ℕ) : Type 0 where
  pub few : kept ≤ next
  pub reached : next ≤ count
  pub inside : count ≤ length keys
  pub room : length keys ≡ length before
  pub front : take kept keys ≡ keep stays (take next before)
  pub rest : drop next keys ≡ drop next before

module _ {stays : ℕ → Bool} where
  module _ {before keys : List ℕ} {count kept next : ℕ} (i : Retaining stays before count keys kept next) where
    module _ (l : next < count) (r : Bool) (asked : r ≡ stays (keys ! next)) where
      same_key : keys ! next ≡ before ! next
      same_key =
          let e : next + 0 ≡ next = omega arith in
          sym (get_or-drop next keys 0 0 ∙ ap (λ n. keys ! n) e)
          ∙ ap (λ (xs : List ℕ). xs ! 0) i.rest
          ∙ get_or-drop next before 0 0 ∙ ap (λ n. before ! n) e

      one_more : keep stays (take (suc next) before) ≡ take kept keys ++ keep stays ((keys ! next) ∷ [])
      one_more =
          let m : next < length before = omega (arith, i.inside, i.room) in
          ap (keep stays) (take-suc before next 0 m)
          ∙ keep_append stays (take next before) ((before ! next) ∷ [])
          ∙ ap₂ (λ (xs : List ℕ) k. xs ++ keep stays (k ∷ [])) (sym i.front) (sym same_key)

      rest-after : drop (suc next) keys ≡ drop (suc next) before
      rest-after =
          let e : next + 1 ≡ suc next = add-one next in
          rw e at (sym (drop-drop 1 next keys) ∙ ap (λ (xs : List ℕ). drop 1 xs) i.rest ∙ drop-drop 1 next before)

      pub retaining-gone : r ≡ false → Retaining stays before count keys kept (next + 1)
      retaining-gone h =
          let t : stays (keys ! next) ≡ false = sym asked ∙ h in
          record {
            few = omega (arith, i.few);
            reached = omega arith;
            inside = i.inside;
            room = i.room;
            front = rw add-one (sym (one_more ∙ rw t (append-nil (take kept keys))));
            rest = rw add-one rest-after;
          }

      pub retaining-kept : r ≡ true → Retaining stays before count (set keys kept (keys ! next)) (kept + 1) (next + 1)
      retaining-kept h =
          let t : stays (keys ! next) ≡ true = sym asked ∙ h in
          let m : kept < length keys = omega (arith, i.few, i.inside) in
          record {
            few = omega (arith, i.few);
            reached = omega arith;
            inside = rw length-set i.inside;
            room = length-set keys kept (keys ! next) ∙ i.room;
            front = rw (add-one kept, add-one next) (take-suc-set keys kept (keys ! next) m ∙ sym (one_more ∙ rw t));
            rest = rw add-one (drop-set-lt (suc next) keys kept (keys ! next) (omega (arith, i.few)) ∙ rest-after);
          }

-- # What is left of an instance
front-few : {keys : List ℕ} {kept : ℕ} (stays : ℕ → Bool) (before : List ℕ) (count : ℕ) → Front keys kept (keep stays (take count before))
    → kept ≤ count
front-few {keys} {kept} stays before count f =
    omega (
      arith,
      length-take-le kept keys f.few,
      ap length f.front,
      keep-length stays (take count before),
      length-take count before,
    )

module _ (gone marks : List ℕ) (m : Marks gone marks) where
  nodes-left : (ks : List ℕ) → map unpack_node (keep (node_stays marks) ks) ≡ keep (λ n. not (member gone n.number)) (map unpack_node ks)
  nodes-left ks =
      ap (map unpack_node)
      (keep_same (λ k. not (marked marks (k / 2 ^ 38))) (λ k. not (member gone (k / 2 ^ 38))) ks (λ k i. ap not (m.same (k / 2 ^ 38))))
      ∙ sym (keep-map unpack_node (λ n. not (member gone n.number)) ks)

  edges-apart : (ks : List ℕ) → map unpack_triple (keep (edge_stays marks) ks)
      ≡ keep (λ e. not (member gone e.source || member gone e.target)) (map unpack_triple ks)
  edges-apart ks =
      ap (map unpack_triple)
      (keep_same
      (λ k. not (marked marks (k / 2 ^ 22) || marked marks (k % 2 ^ 16)))
      (λ k. not (member gone (k / 2 ^ 22) || member gone (k % 2 ^ 16)))
      ks
      (λ k i. ap₂ (λ a b. not (a || b)) (m.same (k / 2 ^ 22)) (m.same (k % 2 ^ 16))))
      ∙ sym (keep-map unpack_triple (λ e. not (member gone e.source || member gone e.target)) ks)

module _ (gone : List ℕ) where
  edges-left : (ks : List ℕ) → map unpack_triple (keep (λ k. not (member gone k)) ks)
      ≡ keep (λ e. not (member gone (pack_triple e))) (map unpack_triple ks)
  edges-left ks =
      ap (map unpack_triple)
      (keep_same (λ k. not (member gone k)) (λ k. not (member gone (pack_triple (unpack_triple k)))) ks
      (λ k i. ap (λ n. not (member gone n)) (packed-unpack k)))
      ∙ sym (keep-map unpack_triple (λ e. not (member gone (pack_triple e))) ks)

module _ {d : PackedInstance} (fits : Fits d) where
  module _ {gone edges : List ℕ} {size : ℕ} where
    pub without-nodes-left : {marks nodes : List ℕ} {order : ℕ} → Marks gone marks
        → Front nodes order (keep (node_stays marks) (take d.order d.nodes))
        → Front edges size (keep (edge_stays marks) (take d.size d.edges))
        → WithoutNodes gone d (record { nodes = nodes; order = order; edges = edges; size = size })
    unfolding unpack_instance
    without-nodes-left {marks} m f g = record {
      fits = record {
        few_nodes = omega (arith, front-few _ d.nodes d.order f, fits.few_nodes);
        few_edges = omega (arith, front-few _ d.edges d.size g, fits.few_edges);
      };
      left = ap₂ (λ (ns : List (Node ℕ)) (es : List Triple). record { nodes = ns; edges = es })
          (ap (map unpack_node) f.front ∙ nodes-left gone marks m (take d.order d.nodes))
          (ap (map unpack_triple) g.front ∙ edges-apart gone marks m (take d.size d.edges));
    }

    pub without-edges-left : Front edges size (keep (λ k. not (member gone k)) (take d.size d.edges))
        → WithoutEdges gone d (record { nodes = d.nodes; order = d.order; edges = edges; size = size })
    unfolding unpack_instance
    without-edges-left g = record {
      fits = record { few_nodes = fits.few_nodes; few_edges = omega (arith, front-few _ d.edges d.size g, fits.few_edges) };
      left = ap (λ (es : List Triple). record { nodes = map unpack_node (take d.order d.nodes); edges = es })
          (ap (map unpack_triple) g.front ∙ edges-left gone (take d.size d.edges));
    }
