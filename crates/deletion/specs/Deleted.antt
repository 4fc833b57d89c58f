-- What is left when keys that are noted go.
use Rattle.std.specs.Prelude.{ℕ, ◌/◌, ◌%◌, ◌^◌, ◌≡◌, Bool, not, ◌&&◌, ◌||◌, List, length, eqb, ltb}
use Rattle.lists.specs.Lists.{keep, member, ◌!◌}
use Rattle.model.specs.Graph.{Instance}
use Rattle.graph.specs.Packed.{bit, pack_triple, unpack_instance, Fits}
use Rattle.graph.specs.declared.instance.PackedInstance.{PackedInstance}

-- # Which keys go
-- numbers of nodes are marked in so many words, 64 in each
abbrev pub words : ℕ
words = 1024

unfoldable pub marked : (marks : List ℕ) → (n : ℕ) → Bool
marked marks n = ltb n (2 ^ 16) && eqb (bit (marks ! (n / 64)) (n % 64)) 1

-- the numbers that are marked
pub record Marks (numbers marks : List ℕ) : Type 0 where
  pub room : length marks ≡ words
  pub same : (n : ℕ) → marked marks n ≡ member numbers n

-- a node goes by its number, an edge by the number of one of its ends
abbrev pub node_stays : (marks : List ℕ) → (key : ℕ) → Bool
node_stays marks key = not (marked marks (key / 2 ^ 38))

abbrev pub edge_stays : (marks : List ℕ) → (key : ℕ) → Bool
edge_stays marks key = not (marked marks (key / 2 ^ 22) || marked marks (key % 2 ^ 16))

-- # What is left
-- without the nodes that have these numbers, and every edge at them
abbrev pub without_nodes : List ℕ → Instance → Instance
without_nodes gone d = record {
  nodes = keep (λ n. not (member gone n.number)) d.nodes;
  edges = keep (λ e. not (member gone e.source || member gone e.target)) d.edges;
}

-- without the edges that have these keys
abbrev pub without_edges : List ℕ → Instance → Instance
without_edges gone d = record { nodes = d.nodes; edges = keep (λ e. not (member gone (pack_triple e))) d.edges }

pub record WithoutNodes (gone : List ℕ) (d r : PackedInstance) : Type 0 where
  pub fits : Fits r
  pub left : unpack_instance r ≡ without_nodes gone (unpack_instance d)

pub record WithoutEdges (gone : List ℕ) (d r : PackedInstance) : Type 0 where
  pub fits : Fits r
  pub left : unpack_instance r ≡ without_edges gone (unpack_instance d)
