-- What stored values mean: the scheme, instance, pattern, rule and copies that a packed value stands for. Every reading is total, so that no key
-- has to be well formed to mean something.
use Rattle.std.specs.Prelude.{ℕ, suc, ◌+◌, ◌*◌, ◌/◌, ◌%◌, ◌^◌, ◌<◌, ◌≤◌, ◌≡◌, Bool, true, cond, List, [], ◌∷◌, ◌++◌, map, length, take, eqb, ltb, Option, None, Some}
use Rattle.lists.specs.Lists.{all, keep, count_from}
use Rattle.lists.specs.Order.{rising}
use Rattle.model.specs.Limits
use Rattle.model.specs.Graph.{Declared, Triple, Scheme, Node, Instance, Pattern, row, scheme_listed, pattern_listed, pattern_conforms}
use Rattle.model.specs.Operations.{Arm, Action, pattern_only, add_node, add_edges, delete_node, delete_edges, abstract, Rule}
use Rattle.model.specs.Sound.{Sound, suits}
use Rattle.graph.specs.declared.declarations.Declarations.{Declarations}
use Rattle.graph.specs.declared.scheme.PackedScheme.{PackedScheme}
use Rattle.graph.specs.declared.instance.PackedInstance.{PackedInstance}
use Rattle.graph.specs.declared.pattern.PackedPattern.{PackedPattern}
use Rattle.graph.specs.declared.rule.Operation.{Operation}
use Rattle.graph.specs.declared.rule.Operation.TheVariants.{PatternOnly, NodeAddition, EdgeAddition, NodeDeletion, EdgeDeletion, Abstraction, Other}
use Rattle.graph.specs.declared.rule.PackedAction.{PackedAction}
use Rattle.graph.specs.declared.rule.PackedRule.{PackedRule}
use Rattle.graph.specs.declared.history.History.{History}

-- how many values each number of a key has room for, in a triple, a node and a declared number
abbrev pub triple_rooms : List ℕ
triple_rooms = 2 ^ 16 ∷ 2 ^ 6 ∷ 2 ^ 16 ∷ []

abbrev pub node_rooms : List ℕ
node_rooms = 2 ^ 16 ∷ 2 ^ 6 ∷ 2 ^ 32 ∷ []

abbrev pub declared_rooms : List ℕ
declared_rooms = 2 ^ 6 ∷ 2 ∷ []

-- source (16 bits), name (6), target (16): rising triples are rising keys. A permitted triple packs the same way.
abbrev pub unpack_triple : ℕ → Triple
unpack_triple k = record { source = k / 2 ^ 22; name = k / 2 ^ 16 % 2 ^ 6; target = k % 2 ^ 16 }

abbrev pub pack_triple : Triple → ℕ
pack_triple t = t.source * 2 ^ 22 + t.name * 2 ^ 16 + t.target

-- rising triples
abbrev pub triples_rise : List ℕ → Bool
triples_rise ks = rising (map row (map unpack_triple ks))

-- number (16 bits), class (6), value (32)
abbrev pub unpack_node : ℕ → Node ℕ
unpack_node k = record { number = k / 2 ^ 38; class = k / 2 ^ 32 % 2 ^ 6; value = k % 2 ^ 32 }

-- class (6 bits), whether a value is given (1), value (32); numbered by its place, from i on
abbrev pub unpack_pattern_node : ℕ → ℕ → Node (Option ℕ)
unpack_pattern_node i k = record { number = i; class = k / 2 ^ 33 % 2 ^ 6; value = cond (eqb (k / 2 ^ 32 % 2) 1) (Some (k % 2 ^ 32)) None }

abbrev pub unpack_pattern_nodes : ℕ → List ℕ → List (Node (Option ℕ))
unpack_pattern_nodes i [] = []
unpack_pattern_nodes i (k ∷ ks) = unpack_pattern_node i k ∷ unpack_pattern_nodes (suc i) ks

-- bit n of a set says whether n is in it
abbrev pub bit : ℕ → ℕ → ℕ
bit set n = set / 2 ^ n % 2

-- classes and names have the same limit
unfoldable pub unpack_declared : Declarations → List Declared
unpack_declared d =
    map {B = Declared} (λ n. record { number = n; kind = bit d.second n }) (keep (λ n. eqb (bit d.declared n) 1) (count_from 0 Limits.classes))

-- declared numbers as they are listed: number (6 bits), kind (1)
abbrev pub pack_declared : Declared → ℕ
pack_declared d = d.number * 2 + d.kind

unfoldable pub declared_rows : Declarations → List ℕ
declared_rows d = map pack_declared (unpack_declared d)

-- what the parts of a stored value stand for, of which the keys are those that stand
abbrev pub scheme_of : (classes names : Declarations) → (permitted : List ℕ) → Scheme
scheme_of classes names permitted =
    record { classes = unpack_declared classes; names = unpack_declared names; permitted = map unpack_triple permitted }

abbrev pub instance_of : (nodes edges : List ℕ) → Instance
instance_of nodes edges = record { nodes = map unpack_node nodes; edges = map unpack_triple edges }

abbrev pub pattern_of : (nodes edges : List ℕ) → Pattern
pattern_of nodes edges = record { nodes = unpack_pattern_nodes 0 nodes; edges = map unpack_triple edges }

unfoldable pub unpack_scheme : PackedScheme → Scheme
unpack_scheme s = scheme_of s.classes s.names (take s.permissions s.permitted)

unfoldable pub unpack_instance : PackedInstance → Instance
unpack_instance d = instance_of (take d.order d.nodes) (take d.size d.edges)

unfoldable pub unpack_pattern : PackedPattern → Pattern
unpack_pattern p = pattern_of (take p.order p.nodes) (take p.size p.edges)

-- name (6 bits), pattern node (16)
abbrev pub unpack_arm : ℕ → Arm
unpack_arm k = record { name = k / 2 ^ 16; node = k % 2 ^ 16 }

-- of a group line p (16 bits), K (6), a (6), b (6)
abbrev pub group_node : ℕ → ℕ
group_node k = k / 2 ^ 18

abbrev pub group_class : ℕ → ℕ
group_class k = k / 2 ^ 12 % 2 ^ 6

abbrev pub group_a : ℕ → ℕ
group_a k = k / 2 ^ 6 % 2 ^ 6

abbrev pub group_b : ℕ → ℕ
group_b k = k % 2 ^ 6

abbrev pub action_of : Operation → (head : ℕ) → (parts : List ℕ) → Action
action_of PatternOnly head parts = pattern_only
action_of NodeAddition head parts = add_node head (map unpack_arm parts)
action_of EdgeAddition head parts = add_edges (map unpack_triple parts)
action_of NodeDeletion head parts = delete_node head
action_of EdgeDeletion head parts = delete_edges (map unpack_triple parts)
action_of Abstraction head parts = abstract (group_node head) (group_class head) (group_a head) (group_b head)
action_of (Other number) head parts = pattern_only

unfoldable pub unpack_action : PackedAction → Action
unpack_action a = action_of a.operation a.head (take a.count a.parts)

unfoldable pub unpack_rule : PackedRule → Rule
unpack_rule r = record { pattern = unpack_pattern r.pattern; action = unpack_action r.action }

unfoldable pub unpack_history : History → List Instance
unpack_history h = map unpack_instance (take h.depth h.copies)

abbrev pub triple : ℕ → ℕ → ℕ → Triple
triple source name target = record { source = source; name = name; target = target }

-- # Invariants
-- neither set has a bit from n on where all declared numbers are below n
pub record Snug (d : Declarations) : Type 0 where
  pub snug : (n : ℕ) → all (λ c. ltb c.number n) (unpack_declared d) ≡ true → (d.declared < 2 ^ n) × (d.second < 2 ^ n)

-- counts within the room, and what is stored is sound
pub record StoredScheme (s : PackedScheme) : Type 0 where
  pub classes : Snug s.classes
  pub names : Snug s.names
  pub few : s.permissions ≤ Limits.permitted
  pub listed : scheme_listed (unpack_scheme s) ≡ true

-- no more nodes and edges than there is room for
pub record Fits (d : PackedInstance) : Type 0 where
  pub few_nodes : d.order ≤ Limits.nodes
  pub few_edges : d.size ≤ Limits.edges

pub record StoredInstance (s : Scheme) (d : PackedInstance) : Type 0 where
  pub few_nodes : d.order ≤ Limits.nodes
  pub few_edges : d.size ≤ Limits.edges
  pub sound : Sound s (unpack_instance d)

pub record StoredPattern (s : Scheme) (p : PackedPattern) : Type 0 where
  pub few_nodes : p.order ≤ Limits.pattern_nodes
  pub few_edges : p.size ≤ Limits.pattern_edges
  pub listed : pattern_listed s (unpack_pattern p) ≡ true
  pub conforming : pattern_conforms s (unpack_pattern p) ≡ true

pub record StoredRule (s : Scheme) (r : PackedRule) : Type 0 where
  pub pattern : StoredPattern s r.pattern
  pub few : r.action.count ≤ Limits.puts
  pub suited : suits s (unpack_pattern r.pattern) (unpack_action r.action) ≡ true

-- # Declarations
pub record FreshDeclarations (d : Declarations) : Type 0 where
  pub empty : unpack_declared d ≡ []
  pub snug : Snug d

-- one number more, with its kind
pub record DeclaredWith (d : Declarations) (n kind : ℕ) (r : Declarations) : Type 0 where
  pub with : unpack_declared r ≡ unpack_declared d ++ (record { number = n; kind = kind } ∷ [])
  pub snug : Snug r

-- # Fresh values: empty, with room for as much as the limits allow
pub record FreshScheme (s : PackedScheme) : Type 0 where
  pub empty : unpack_scheme s ≡ record { classes = []; names = []; permitted = [] }
  pub snug : Snug s.classes × Snug s.names
  pub none : s.permissions ≡ 0
  pub room : length s.permitted ≡ Limits.permitted

pub record FreshInstance (d : PackedInstance) : Type 0 where
  pub empty : unpack_instance d ≡ record { nodes = []; edges = [] }
  pub nodes_room : length d.nodes ≡ Limits.nodes
  pub edges_room : length d.edges ≡ Limits.edges

pub record FreshPattern (p : PackedPattern) : Type 0 where
  pub empty : unpack_pattern p ≡ record { nodes = []; edges = [] }
  pub order : p.order ≡ 0
  pub size : p.size ≡ 0
  pub nodes_room : length p.nodes ≡ Limits.pattern_nodes
  pub edges_room : length p.edges ≡ Limits.pattern_edges

pub record FreshAction (a : PackedAction) : Type 0 where
  pub operation : a.operation ≡ PatternOnly
  pub head : a.head ≡ 0
  pub none : a.count ≡ 0
  pub room : length a.parts ≡ Limits.puts

pub record FreshRule (r : PackedRule) : Type 0 where
  pub pattern : FreshPattern r.pattern
  pub action : FreshAction r.action

pub record FreshHistory (h : History) : Type 0 where
  pub empty : unpack_history h ≡ []
  pub room : length h.copies ≡ Limits.copies
