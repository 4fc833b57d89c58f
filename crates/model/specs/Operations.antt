-- "Five operations": what applying a rule makes of an instance, or refusal 9 to 12, and the counts that apply reports.
use Rattle.std.specs.Prelude.{ℕ, suc, ◌+◌, max, Bool, cond, not, ◌&&◌, ◌||◌, List, [], ◌∷◌, ◌++◌, map, length, eqb, ltb, leb, Option, None, Some}
use Rattle.lists.specs.Lists.{any, all, keep, find, each, ◌!◌, member, same_set}
use Rattle.lists.specs.Order.{same, before}
use Rattle.model.specs.Limits
use Rattle.model.specs.Graph.{Triple, Scheme, Node, Instance, Pattern, row, has, torn}
use Rattle.model.specs.Matching.{image, matchings}
use Rattle.model.specs.Refusals.{Outcome, accepted, refused, in_turn}
use Rattle.model.specs.declared.Difference.{Difference}
use Rattle.model.specs.declared.Counts.{Counts}
use Rattle.model.specs.declared.Refusal.TheVariants.{NodesFull, NumbersFull, EdgesFull, FunctionalClash}

-- "each a functional name and a pattern node"
pub record Arm : Type 0 where
  pub name : ℕ
  pub node : ℕ

-- the actions of codes 0 to 5
pub data Action : Type 0 where
  pattern_only : Action
  add_node : (K : ℕ) → List Arm → Action
  add_edges : List Triple → Action
  delete_node : (p : ℕ) → Action
  delete_edges : List Triple → Action
  abstract : (p K a b : ℕ) → Action

pub record Rule : Type 0 where
  pub pattern : Pattern
  pub action : Action

-- # New nodes
-- "House: a new node's number is the largest number standing plus 1, or 0 in an empty drawing"
abbrev pub next_number : List (Node ℕ) → ℕ
next_number [] = 0
next_number (n ∷ ns) = max (suc n.number) (next_number ns)

-- a new K node with an edge to each target; "For new nodes 9, 10, 11 are tried at each new node in turn"
unfoldable pub with_node : ℕ → (edges : List Arm) → Instance → Outcome Instance
with_node K edges d =
    let n = next_number d.nodes in
    let new = map {B = Triple} (λ a. record { source = n; name = a.name; target = a.node }) edges in
    cond (leb Limits.nodes (length d.nodes)) (refused NodesFull)
    (cond (ltb Limits.last_number n) (refused NumbersFull)
    (cond (ltb Limits.edges (length d.edges + length new)) (refused EdgesFull)
    (accepted (record { nodes = d.nodes ++ (record { number = n; class = K; value = 0 } ∷ []); edges = d.edges ++ new }))))

-- 1. "In rising order, a matching for which no K node, old or just added, has all the arm edges to its images gets a new K node with
-- exactly those edges."
abbrev pub arms_at : List ℕ → List Arm → List Arm
arms_at m arms = map {B = Arm} (λ a. record { name = a.name; node = m ! a.node }) arms

abbrev pub served : ℕ → List Arm → Instance → Bool
served K edges d =
    let linked : Node ℕ → Arm → Bool = λ n a. has d.edges (record { source = n.number; name = a.name; target = a.node }) in
    any (λ n. eqb n.class K && all (linked n) edges) d.nodes

-- a new K node for each place in turn that is not served then
abbrev pub new_nodes : {Place : Type 0} → ℕ → (served : Place → Instance → Bool) → (edges : Place → List Arm) → List Place → Instance → Outcome Instance
new_nodes K served edges places d = in_turn places (λ x now. cond (served x now) (accepted now) (with_node K (edges x) now)) d

unfoldable pub node_addition : ℕ → List Arm → List (List ℕ) → Instance → Outcome Instance
node_addition K arms ms d = new_nodes K (λ m now. served K (arms_at m arms) now) (λ m. arms_at m arms) ms d

-- # Edges
-- an edge joined to rising edges, at its place, once; edges joined one after the other
abbrev pub join_edge : Triple → List Triple → List Triple
join_edge e [] = e ∷ []
join_edge e (f ∷ fs) = cond (before (row e) (row f)) (e ∷ f ∷ fs) (cond (same (row e) (row f)) (f ∷ fs) (f ∷ join_edge e fs))

abbrev pub join_edges : List Triple → List Triple → List Triple
join_edges [] es = es
join_edges (e ∷ new) es = join_edges new (join_edge e es)

-- the images of edges between pattern nodes, of all matchings
abbrev pub images : List Triple → List (List ℕ) → List Triple
images ts ms = each ms (λ m. map (image m) ts)

-- 2. "The images of all matchings are joined to the edges"; "for edge addition 11 before 12", and 12 returns the "smallest such node"
abbrev pub unless_torn : Option (Node ℕ) → Instance → Outcome Instance
unless_torn (Some n) d = refused (FunctionalClash n.number)
unless_torn None d = accepted d

unfoldable pub edge_addition : Scheme → List Triple → List (List ℕ) → Instance → Outcome Instance
edge_addition s ts ms d =
    let es = join_edges (images ts ms) d.edges in
    cond (ltb Limits.edges (length es)) (refused EdgesFull)
    (unless_torn (find (λ n. torn s es n.number) d.nodes) (record { nodes = d.nodes; edges = es }))

-- the images of one pattern node are the numbers that the matchings have at its place
abbrev pub images_of : ℕ → List (List ℕ) → List ℕ
images_of p ms = map (λ m. m ! p) ms

-- 3. "Its images go, with every edge at them"
unfoldable pub node_deletion : ℕ → List (List ℕ) → Instance → Instance
node_deletion p ms d =
    let gone : ℕ → Bool = member (images_of p ms) in
    record {
      nodes = keep (λ n. not (gone n.number)) d.nodes;
      edges = keep (λ e. not (gone e.source || gone e.target)) d.edges;
    }

-- 4. "Their images go."
unfoldable pub edge_deletion : List Triple → List (List ℕ) → Instance → Instance
edge_deletion ts ms d = record { nodes = d.nodes; edges = keep (λ e. not (has (images ts ms) e)) d.edges }

-- # Abstraction
-- a node's a-targets: "targets of their edges named a; b-targets likewise"
abbrev pub targets : List Triple → ℕ → ℕ → List ℕ
targets es name i = map (λ e. e.target) (keep (λ e. eqb e.source i && eqb e.name name) es)

-- "grouped by equal sets of a-targets ..; images with no a-edge form one group. Groups are taken by smallest member": of rising numbers,
-- the group of each one that is the first of its group
abbrev pub groups : List Triple → ℕ → List ℕ → List (List ℕ)
groups es a is =
    each is (λ i.
    let group = keep (λ j. same_set (targets es a i) (targets es a j)) is in
    cond (eqb (group ! 0) i) (group ∷ []) [])

-- the groups of a pattern node's images. "House: only images of p are grouped"
abbrev pub groups_of : ℕ → ℕ → List (List ℕ) → Instance → List (List ℕ)
groups_of p a ms d = groups d.edges a (keep (member (images_of p ms)) (map (λ n. n.number) d.nodes))

-- 5. "A group for which no K node of the old drawing has exactly that group as its b-targets gets a new K node with those b-edges."
abbrev pub grouped : ℕ → ℕ → Instance → List ℕ → Bool
grouped K b old group = any (λ n. eqb n.class K && same_set (targets old.edges b n.number) group) old.nodes

abbrev pub group_arms : ℕ → List ℕ → List Arm
group_arms b group = map (λ i. record { name = b; node = i }) group

unfoldable pub abstraction : ℕ → ℕ → ℕ → ℕ → List (List ℕ) → Instance → Outcome Instance
abstraction p K a b ms old = new_nodes K (λ group now. grouped K b old group) (group_arms b) (groups_of p a ms old) old

-- # Applying a rule
unfoldable pub perform : Scheme → Action → List (List ℕ) → Instance → Outcome Instance
perform s pattern_only ms d = accepted d
perform s (add_node K arms) ms d = node_addition K arms ms d
perform s (add_edges ts) ms d = edge_addition s ts ms d
perform s (delete_node p) ms d = accepted (node_deletion p ms d)
perform s (delete_edges ts) ms d = accepted (edge_deletion ts ms d)
perform s (abstract p K a b) ms d = abstraction p K a b ms d

-- "All matchings are those in the drawing before the operation."
unfoldable pub applied : Scheme → Rule → Instance → Outcome Instance
applied s r d = perform s r.action (matchings r.pattern d) d

-- how many nodes and edges the first instance has and the second has not
abbrev pub only_in : List (List ℕ) → List (List ℕ) → ℕ
only_in xs ys = length (keep (λ x. not (any (same x) ys)) xs)

abbrev pub node_row : Node ℕ → List ℕ
node_row n = n.number ∷ n.class ∷ n.value ∷ []

abbrev pub difference : Instance → Instance → Difference
difference d e =
    let nodes : Instance → List (List ℕ) = λ g. map node_row g.nodes in
    let edges : Instance → List (List ℕ) = λ g. map row g.edges in
    record { nodes = only_in (nodes d) (nodes e); edges = only_in (edges d) (edges e) }

-- "how many matchings the old drawing has, how many nodes and edges only the new drawing has, and how many only the old one has"
unfoldable pub counts : Pattern → (old new : Instance) → Counts
counts p old new =
    record { matchings = length (matchings p old); added = difference new old; removed = difference old new }
