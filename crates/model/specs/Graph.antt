-- "Scheme, drawing, pattern".
use Rattle.std.specs.Prelude.{ℕ, Bool, false, not, ◌&&◌, ◌||◌, List, [], ◌∷◌, map, length, eqb, ltb, leb, Option, None, Some}
use Rattle.lists.specs.Lists.{any, all, count_from}
use Rattle.lists.specs.Order.{same, rising}
use Rattle.model.specs.Limits

-- a class, "of kind 0 (object) or 1 (value)", or an edge name, "of kind 0 (functional) or 1 (multivalued)"
pub record Declared : Type 0 where
  pub number : ℕ
  pub kind : ℕ

-- a permitted triple, of classes, or an edge: "(source number, name, target number)"
pub record Triple : Type 0 where
  pub source : ℕ
  pub name : ℕ
  pub target : ℕ

-- "The scheme lists the declared classes and names with their kinds, and permitted triples"
pub record Scheme : Type 0 where
  pub classes : List Declared
  pub names : List Declared
  pub permitted : List Triple

-- "A node has a number 0..65535, a class and, in a value class, a value"
pub record Node (Value : Type 0) : Type 0 where
  pub number : ℕ
  pub class : ℕ
  pub value : Value

pub record Graph (Value : Type 0) : Type 0 where
  pub nodes : List (Node Value)
  pub edges : List Triple

-- the document's drawing; a node of an object class has value 0, as in its file
abbrev pub Instance : Type 0
Instance = Graph ℕ

-- "A pattern has .. nodes, numbered 0 upwards as written .. a value may be left out"
abbrev pub Pattern : Type 0
Pattern = Graph (Option ℕ)

-- # Kinds
abbrev pub declares : List Declared → ℕ → Bool
declares ds n = any (λ d. eqb d.number n) ds

abbrev pub of_kind : ℕ → List Declared → ℕ → Bool
of_kind k ds n = any (λ d. eqb d.number n && eqb d.kind k) ds

abbrev pub is_object : Scheme → ℕ → Bool
is_object s c = of_kind 0 s.classes c

abbrev pub is_value : Scheme → ℕ → Bool
is_value s c = of_kind 1 s.classes c

abbrev pub is_functional : Scheme → ℕ → Bool
is_functional s n = of_kind 0 s.names n

abbrev pub is_multivalued : Scheme → ℕ → Bool
is_multivalued s n = of_kind 1 s.names n

-- # Triples
abbrev pub row : Triple → List ℕ
row t = t.source ∷ t.name ∷ t.target ∷ []

abbrev pub has : List Triple → Triple → Bool
has ts t = any (λ u. same (row u) (row t)) ts

-- a permitted triple has the name, with classes that pass at its two ends
abbrev pub joins : Scheme → (ℕ → Bool) → ℕ → (ℕ → Bool) → Bool
joins s from name to = any (λ t. from t.source && eqb t.name name && to t.target) s.permitted

-- # Conformity
module _ {Value : Type 0} where
  abbrev pub stands : Graph Value → ℕ → Bool
  stands g i = any (λ n. eqb n.number i) g.nodes

  abbrev pub of_class : Graph Value → ℕ → ℕ → Bool
  of_class g i c = any (λ n. eqb n.number i && eqb n.class c) g.nodes

  -- the edge "has a permitted triple of classes"
  abbrev pub permits : Scheme → Graph Value → Triple → Bool
  permits s g e = joins s (of_class g e.source) e.name (of_class g e.target)

-- two edges of one functional name at one node
abbrev pub clash : Scheme → Triple → Triple → Bool
clash s e f =
    is_functional s e.name && eqb e.source f.source && eqb e.name f.name && not (eqb e.target f.target)

-- the node "has two edges of one functional name"
abbrev pub torn : Scheme → List Triple → ℕ → Bool
torn s es i = any (λ e. eqb e.source i && any (clash s e) es) es

-- `equal` says when two values are the same
module _ {Value : Type 0} (equal : Value → Value → Bool) where
  -- two nodes that "share both class and value in a value class"
  abbrev pub twins : Scheme → Node Value → Node Value → Bool
  twins s n m =
      not (eqb n.number m.number) && is_value s n.class && eqb n.class m.class && equal n.value m.value

  -- "each edge has a permitted triple of classes, no node has two edges of one functional name, and no two nodes share both class and
  -- value in a value class. House: nothing more is required."
  unfoldable pub conforms_by : Scheme → Graph Value → Bool
  conforms_by s g =
      all (permits s g) g.edges
      && not (any (λ n. torn s g.edges n.number) g.nodes)
      && not (any (λ n. any (twins s n) g.nodes) g.nodes)

-- "A drawing conforms if"
abbrev pub conforms : Scheme → Instance → Bool
conforms s d = conforms_by eqb s d

-- a value left out is shared with no node
abbrev pub both_given : Option ℕ → Option ℕ → Bool
both_given None w = false
both_given (Some v) None = false
both_given (Some v) (Some w) = eqb v w

-- a pattern "conforms as a drawing does, but a value may be left out"
abbrev pub pattern_conforms : Scheme → Pattern → Bool
pattern_conforms s p = conforms_by both_given s p

-- # Limits and order
-- rising numbers below a limit, each of a kind
abbrev pub declarations : ℕ → List Declared → Bool
declarations below ds = rising (map (λ d. d.number ∷ []) ds) && all (λ d. ltb d.number below && ltb d.kind Limits.kinds) ds

-- a scheme within the limits, in the order in which it is listed; "the first class is an object class"
unfoldable pub scheme_listed : Scheme → Bool
scheme_listed s =
    declarations Limits.classes s.classes
    && declarations Limits.names s.names
    && leb (length s.permitted) Limits.permitted
    && rising (map row s.permitted)
    && all (λ t. is_object s t.source && declares s.names t.name && declares s.classes t.target) s.permitted

-- "Nodes are listed by rising number, edges by rising triple"; "none twice"; an edge's ends stand
abbrev pub nodes_rise : {Value : Type 0} → Graph Value → Bool
nodes_rise g = rising (map (λ n. n.number ∷ []) g.nodes)

abbrev pub graph_listed : {Value : Type 0} → (most_nodes most_edges : ℕ) → Graph Value → Bool
graph_listed most_nodes most_edges g =
    leb (length g.nodes) most_nodes
    && nodes_rise g
    && leb (length g.edges) most_edges
    && rising (map row g.edges)
    && all (λ e. stands g e.source && stands g e.target) g.edges

-- the value is one that a node of the class may have
abbrev pub in_values : Scheme → ℕ → ℕ → Bool
in_values s c v = is_value s c && leb v Limits.last_value || is_object s c && eqb v 0

unfoldable pub instance_listed : Scheme → Instance → Bool
instance_listed s d =
    graph_listed Limits.nodes Limits.edges d
    && all (λ n. leb n.number Limits.last_number && in_values s n.class n.value) d.nodes

-- a value is given only in a value class
abbrev pub given_in : Scheme → ℕ → Option ℕ → Bool
given_in s c None = declares s.classes c
given_in s c (Some v) = is_value s c && leb v Limits.last_value

unfoldable pub pattern_listed : Scheme → Pattern → Bool
pattern_listed s p =
    graph_listed Limits.pattern_nodes Limits.pattern_edges p
    && same (map (λ n. n.number) p.nodes) (count_from 0 (length p.nodes))
    && all (λ n. given_in s n.class n.value) p.nodes
