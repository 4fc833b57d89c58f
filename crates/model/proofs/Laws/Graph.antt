-- What the tests on schemes, instances and patterns say, as statements on classes, names, nodes and edges.
-- Each record is one test taken apart, with an equivalence between the two.
use Rattle.std.specs.Prelude.{ℕ, ◌<◌, ◌≤◌, ◌≡◌, refl, ◌↔◌, Bool, true, false, List, [], ◌∷◌, map, length, Option}
use Rattle.std.proofs.Common.{ap, sym}
use Rattle.std.proofs.Math.Logic.Iff
use mathlib.Core.List.Memᴰ
use Rattle.lists.specs.Lists.{◌∈◌, any, count_from}
use Rattle.lists.specs.Order.{same, rising}
use Rattle.lists.proofs.Laws.Lists.{Truth, any-member, all-members, no_member, both, not_so, at_most}
use Rattle.lists.proofs.Laws.Order.{same-list}
use Rattle.model.specs.Limits
use Rattle.model.specs.Graph.{Declared, Triple, Scheme, Node, Graph, Instance, Pattern, declares, is_object, row}
use Rattle.model.specs.Graph.{has, joins, stands, of_class, permits, nodes_rise}
use Rattle.model.specs.Graph.{torn, twins, conforms_by, scheme_listed, in_values, instance_listed, given_in, pattern_listed}
use Rattle.model.specs.Files.{triple_of}

-- # Edges and nodes
pub row-determines : (t u : Triple) → row t ≡ row u → t ≡ u
row-determines t u e = ap triple_of e

pub has-edge : (ts : List Triple) (t : Triple) → (has ts t ≡ true) ↔ (t ∈ ts)
has-edge ts t = (
  (λ h.
      let r = (any-member (λ u. same (row u) (row t)) ts).0 h in
      Memᴰ.cast (sym (row-determines r.0 t ((same-list (row r.0) (row t)).0 r.2))) r.1),
  λ i. (any-member (λ u. same (row u) (row t)) ts).1 (t, i, (same-list (row t) (row t)).1 refl),
)

module _ {Value : Type 0} (g : Graph Value) where
  pub stands-node : (i : ℕ) → (stands g i ≡ true) ↔ ((n : Node Value) × (n ∈ g.nodes) × (n.number ≡ i))
  stands-node i = simp Truth Iff.rfl

  pub of-class : (i c : ℕ) → (of_class g i c ≡ true) ↔ ((n : Node Value) × (n ∈ g.nodes) × ((n.number ≡ i) × (n.class ≡ c)))
  of-class i c = simp Truth Iff.rfl

pub joins-triple : (s : Scheme) (from : ℕ → Bool) (name : ℕ) (to : ℕ → Bool)
    → (joins s from name to ≡ true) ↔ ((t : Triple) × (t ∈ s.permitted) × (((from t.source ≡ true) × (t.name ≡ name)) × (to t.target ≡ true)))
joins-triple s from name to = simp Truth Iff.rfl

-- # Listed and conforming
pub record ListedDeclarations (below : ℕ) (ds : List Declared) : Type 0 where
  pub rise : rising (map (λ d. d.number ∷ []) ds) ≡ true
  pub within : (d : Declared) → d ∈ ds → (d.number < below) × (d.kind < Limits.kinds)

pub record ListedScheme (s : Scheme) : Type 0 where
  pub classes : ListedDeclarations Limits.classes s.classes
  pub names : ListedDeclarations Limits.names s.names
  pub few : length s.permitted ≤ Limits.permitted
  pub rise : rising (map row s.permitted) ≡ true
  pub declared : (t : Triple) → t ∈ s.permitted
      → ((is_object s t.source ≡ true) × (declares s.names t.name ≡ true)) × (declares s.classes t.target ≡ true)

pub listed-scheme : (s : Scheme) → (scheme_listed s ≡ true) ↔ ListedScheme s
unfolding scheme_listed
listed-scheme s = (
  (λ h.
      let r = simp (both, at_most, all-members) at h in
      let classes = r.0.0.0.0 in
      let names = r.0.0.0.1 in
      record {
        classes = record { rise = classes.0; within = classes.1 };
        names = record { rise = names.0; within = names.1 };
        few = r.0.0.1;
        rise = r.0.1;
        declared = r.1;
      }),
  λ r.
      let classes = r.classes in
      let names = r.names in
      simp (both, at_most, all-members) (((((classes.rise, classes.within), (names.rise, names.within)), r.few), r.rise), r.declared),
)

pub record ListedGraph {Value : Type 0} (most_nodes most_edges : ℕ) (g : Graph Value) : Type 0 where
  pub few-nodes : length g.nodes ≤ most_nodes
  pub nodes-rise : nodes_rise g ≡ true
  pub few-edges : length g.edges ≤ most_edges
  pub edges-rise : rising (map row g.edges) ≡ true
  pub ends : (e : Triple) → e ∈ g.edges → (stands g e.source ≡ true) × (stands g e.target ≡ true)

pub record ListedInstance (s : Scheme) (d : Instance) : Type 0 where
  pub graph : ListedGraph Limits.nodes Limits.edges d
  pub within : (n : Node ℕ) → n ∈ d.nodes → (n.number ≤ Limits.last_number) × (in_values s n.class n.value ≡ true)

pub listed-instance : (s : Scheme) (d : Instance) → (instance_listed s d ≡ true) ↔ ListedInstance s d
unfolding instance_listed
listed-instance s d = (
  (λ h.
      let r = simp (both, at_most, all-members) at h in
      let g = r.0 in
      record {
        graph = record { few-nodes = g.0.0.0.0; nodes-rise = g.0.0.0.1; few-edges = g.0.0.1; edges-rise = g.0.1; ends = g.1 };
        within = r.1;
      }),
  λ r.
      let g = r.graph in
      simp (both, at_most, all-members) (((((g.few-nodes, g.nodes-rise), g.few-edges), g.edges-rise), g.ends), r.within),
)

pub record ListedPattern (s : Scheme) (p : Pattern) : Type 0 where
  pub graph : ListedGraph Limits.pattern_nodes Limits.pattern_edges p
  pub numbered : map (λ n. n.number) p.nodes ≡ count_from 0 (length p.nodes)
  pub given : (n : Node (Option ℕ)) → n ∈ p.nodes → given_in s n.class n.value ≡ true

pub listed-pattern : (s : Scheme) (p : Pattern) → (pattern_listed s p ≡ true) ↔ ListedPattern s p
unfolding pattern_listed
listed-pattern s p = (
  (λ h.
      let r = simp (both, at_most, all-members, same-list) at h in
      let g = r.0.0 in
      record {
        graph = record { few-nodes = g.0.0.0.0; nodes-rise = g.0.0.0.1; few-edges = g.0.0.1; edges-rise = g.0.1; ends = g.1 };
        numbered = r.0.1;
        given = r.1;
      }),
  λ r.
      let g = r.graph in
      simp (both, at_most, all-members, same-list)
      ((((((g.few-nodes, g.nodes-rise), g.few-edges), g.edges-rise), g.ends), r.numbered), r.given),
)

-- "each edge has a permitted triple of classes, no node has two edges of one functional name, and no two nodes share both class and value in a value class"
pub record Conforming {Value : Type 0} (equal : Value → Value → Bool) (s : Scheme) (g : Graph Value) : Type 0 where
  pub permitted : (e : Triple) → e ∈ g.edges → permits s g e ≡ true
  pub whole : (n : Node Value) → n ∈ g.nodes → torn s g.edges n.number ≡ false
  pub apart : (n : Node Value) → n ∈ g.nodes → (m : Node Value) → m ∈ g.nodes → twins equal s n m ≡ false

pub conforming : {Value : Type 0} (equal : Value → Value → Bool) (s : Scheme) (g : Graph Value) → (conforms_by equal s g ≡ true) ↔ Conforming equal s g
unfolding conforms_by
conforming equal s g = (
  (λ h.
      let r = simp (both, not_so, all-members) at h in
      record {
        permitted = r.0.0;
        whole = (no_member (λ n. torn s g.edges n.number) g.nodes).0 r.0.1;
        apart = λ n i. (no_member (twins equal s n) g.nodes).0 ((no_member (λ m. any (twins equal s m) g.nodes) g.nodes).0 r.1 n i);
      }),
  λ r.
      simp (both, not_so, all-members) (
        (r.permitted, (no_member (λ n. torn s g.edges n.number) g.nodes).1 r.whole),
        (no_member (λ m. any (twins equal s m) g.nodes) g.nodes).1 (λ n i. (no_member (twins equal s n) g.nodes).1 (r.apart n i)),
      ),
)
