-- Worked cases beside E1 to E10: what "Plausible, and a fault" names and the examples don't show, the limits at their edge, and each of the
-- fourteen refusals.
use Rattle.std.specs.Prelude.{ℕ, ◌≡◌, refl, Bool, true, false, ◌&&◌, List, [], ◌∷◌, ◌++◌, map, length, take, replicate, None, Some}
use Rattle.lists.specs.Lists.{any, each, count_from}
use Rattle.model.specs.Graph.{Declared, Triple, Scheme, Node, Instance, Pattern, conforms, pattern_conforms, scheme_listed, instance_listed, pattern_listed}
use Rattle.model.specs.Operations.{applied}
use Rattle.model.specs.Refusals.{Outcome, accepted, refused, ◌>>=◌}
use Rattle.model.specs.Files.RuleText.{read_rule}
use Rattle.model.specs.Record.{Record, shut, opened, Call, Open, Apply, Undo, Close, First, After, Save, step}
use Rattle.model.specs.Trial.{trial}
use Rattle.model.proofs.Examples.{computing, lines, J, J7, J65535, R, two_free, empty, E7Rule, opening, told, answers}

-- # Drawings at the limits
-- class 0 and class 1 are object classes; name 0 is functional and the others are multivalued; every name may join class 0 with class 0, and
-- name 0 class 1 with class 0
abbrev wide : Scheme
wide =
    record {
      classes = map {B = Declared} (λ c. record { number = c; kind = 0 }) (0 ∷ 1 ∷ []);
      names = record { number = 0; kind = 0 } ∷ map {B = Declared} (λ n. record { number = n; kind = 1 }) (count_from 1 63);
      permitted = map {B = Triple} (λ n. record { source = 0; name = n; target = 0 }) (count_from 0 64) ++ (record { source = 1; name = 0; target = 0 } ∷ []);
    }

abbrev nodes_to : ℕ → List (Node ℕ)
nodes_to k = map {B = Node ℕ} (λ i. record { number = i; class = 0; value = 0 }) (count_from 0 k)

-- all triples between 0, 1 and 2 with `count` names from `first` on, in rising order; the first k edges with multivalued names
abbrev triples_of : (first count : ℕ) → List Triple
triples_of first count =
    each (0 ∷ 1 ∷ 2 ∷ []) (λ i.
    each (count_from first count) (λ n. map {B = Triple} (λ j. record { source = i; name = n; target = j }) (0 ∷ 1 ∷ 2 ∷ [])))

abbrev edges_to : ℕ → List Triple
edges_to k = take k (triples_of 1 63)

abbrev with_nodes : ℕ → Instance
with_nodes k = record { nodes = nodes_to k; edges = [] }

abbrev with_edges : ℕ → Instance
with_edges k = record { nodes = nodes_to 3; edges = edges_to k }

-- a new class-1 node; one for each class-0 node, with an edge to it; a functional edge from each class-0 node to each
abbrev new_node : List ℕ
new_node = lines "op=1 make=1"

abbrev new_arm : List ℕ
new_arm = lines "op=1 pnode=0,0,0 make=1 arm=0,0"

abbrev clashes : List ℕ
clashes = lines "op=2 pnode=0,0,0 pnode=0,0,0 put=0,0,1"

-- how many nodes and edges there are after a rule, or the refusal
abbrev sizes : Outcome Instance → List ℕ
sizes (accepted d) = 0 ∷ length d.nodes ∷ length d.edges ∷ []
sizes (refused r) = told (refused r)

abbrev sizes_after : (rule : List ℕ) → Instance → List ℕ
sizes_after rule d = sizes (read_rule wide rule >>= λ r. applied wide r d)

abbrev fits : Outcome Bool → Bool
fits (accepted b) = b
fits (refused r) = false

-- what holds of an open record's scheme and instance
abbrev holds : (Scheme → Instance → Bool) → Record → Bool
holds test shut = false
holds test (opened s d cs) = test s d

-- # Badly listed: each breaks one thing that a listing asks
abbrev declared' : (number kind : ℕ) → Declared
declared' n k = record { number = n; kind = k }

abbrev triple : (source name target : ℕ) → Triple
triple i n j = record { source = i; name = n; target = j }

-- classes 0 (object) and 1 (value), name 0 (functional)
abbrev small : List Triple → Scheme
small ts = record { classes = declared' 0 0 ∷ declared' 1 1 ∷ []; names = declared' 0 0 ∷ []; permitted = ts }

abbrev classes_only : List Declared → Scheme
classes_only cs = record { classes = cs; names = []; permitted = [] }

-- falling classes; a class twice; class 64; kind 2; name 64; a triple from a value class, with no such name, to no such class; falling
-- triples; 257 triples
abbrev bad_schemes : List Scheme
bad_schemes =
    classes_only (declared' 1 0 ∷ declared' 0 0 ∷ [])
    ∷ classes_only (declared' 1 0 ∷ declared' 1 1 ∷ [])
    ∷ classes_only (declared' 64 0 ∷ [])
    ∷ classes_only (declared' 0 2 ∷ [])
    ∷ record { classes = []; names = declared' 64 0 ∷ []; permitted = [] }
    ∷ small (triple 1 0 0 ∷ [])
    ∷ small (triple 0 1 0 ∷ [])
    ∷ small (triple 0 0 2 ∷ [])
    ∷ small (triple 0 0 1 ∷ triple 0 0 0 ∷ [])
    ∷ record { classes = map (λ c. declared' c 0) (count_from 0 3); names = wide.names; permitted = take 257 (triples_of 0 64) }
    ∷ []

abbrev node : {Value : Type 0} → (number class : ℕ) → Value → Node Value
node i c v = record { number = i; class = c; value = v }

-- falling nodes; number 65536; no such class; a value on an object node; value 65536; an edge with no target; an edge twice; 257 nodes;
-- 513 edges
abbrev bad_instances : List Instance
bad_instances =
    record { nodes = node 2 0 0 ∷ node 1 0 0 ∷ []; edges = [] }
    ∷ record { nodes = node 65536 0 0 ∷ []; edges = [] }
    ∷ record { nodes = node 1 2 0 ∷ []; edges = [] }
    ∷ record { nodes = node 1 0 5 ∷ []; edges = [] }
    ∷ record { nodes = node 1 1 65536 ∷ []; edges = [] }
    ∷ record { nodes = node 1 0 0 ∷ []; edges = triple 1 0 2 ∷ [] }
    ∷ record { nodes = node 1 0 0 ∷ []; edges = triple 1 0 1 ∷ triple 1 0 1 ∷ [] }
    ∷ record { nodes = nodes_to 257; edges = [] }
    ∷ record { nodes = nodes_to 3; edges = edges_to 513 }
    ∷ []

-- numbered from 1; no such class; a value on an object node; value 65536; an edge with no source; seven nodes; nine edges
abbrev bad_patterns : List Pattern
bad_patterns =
    record { nodes = node 1 0 None ∷ []; edges = [] }
    ∷ record { nodes = node 0 2 None ∷ []; edges = [] }
    ∷ record { nodes = node 0 0 (Some 0) ∷ []; edges = [] }
    ∷ record { nodes = node 0 1 (Some 65536) ∷ []; edges = [] }
    ∷ record { nodes = node 0 0 None ∷ []; edges = triple 1 0 0 ∷ [] }
    ∷ record { nodes = map (λ i. node i 0 None) (count_from 0 7); edges = [] }
    ∷ record { nodes = map (λ i. node i 0 None) (count_from 0 3); edges = triples_of 0 1 }
    ∷ []

abbrev answer : Record → Call → List ℕ
answer r c = told (step r c).answer

pub record Cases : Type 0 where
  -- J conforms, within the limits and in order, and so does the pattern of R in it; nothing that is badly listed passes
  pub listed : holds (λ s d. scheme_listed s && instance_listed s d && conforms s d) (opening J) ≡ true
  pub pattern-listed :
      holds (λ s d. fits (read_rule s R >>= λ r. accepted (pattern_listed s r.pattern && pattern_conforms s r.pattern))) (opening J)
      ≡ true
  pub schemes-not-listed : any scheme_listed bad_schemes ≡ false
  pub instances-not-listed : any (instance_listed (small [])) bad_instances ≡ false
  pub patterns-not-listed : any (pattern_listed (small [])) bad_patterns ≡ false
  -- "with the given value where one is given": of the two values of J7 a pattern finds the one that it gives
  pub given-values :
      answer (opening J7) (First (lines "op=0 pnode=1,1,720")) ∷ answer (opening J7) (Apply (lines "op=0 pnode=1,1,601")) ∷ []
      ≡ (0 ∷ 7 ∷ []) ∷ (0 ∷ 0 ∷ 0 ∷ 0 ∷ 0 ∷ 0 ∷ []) ∷ []
  -- "or 0 in an empty drawing"
  pub first-number : trial (lines "class=0,0") (lines "op=1 make=0") ≡ lines "done=1,1,0,0,0 class=0,0 node=0,0,0"
  -- a node just added is no image: node 1 gets a node, and that one gets none
  pub added-unmatched :
      trial (lines "class=0,0 name=0,0 may=0,0,0 node=1,0,0") (lines "op=1 pnode=0,0,0 make=0 arm=0,0")
      ≡ lines "done=1,1,1,0,0 class=0,0 name=0,0 may=0,0,0 node=1,0,0 node=2,0,0 edge=2,0,1"
  -- a K node that has both groups as b-targets serves neither
  pub extra-targets :
      trial
      (lines "class=0,0 class=1,0 name=0,1 name=1,1 may=0,0,0 may=1,1,0 node=1,0,0 node=2,0,0 node=3,1,0 edge=1,0,1 edge=3,1,1 edge=3,1,2")
      (lines "op=5 pnode=0,0,0 group=0,1,0,1")
      ≡ lines "done=2,2,2,0,0 class=0,0 class=1,0 name=0,1 name=1,1 may=0,0,0 may=1,1,0 node=1,0,0 node=2,0,0 node=3,1,0 node=4,1,0 node=5,1,0 edge=1,0,1 edge=3,1,1 edge=3,1,2 edge=4,1,1 edge=5,1,2"
  -- images with no a-edge are one group, and the group's smallest member comes first
  pub no-a-edge :
      trial (lines "class=0,0 name=1,1 may=0,1,0 node=3,0,0 node=5,0,0") (lines "op=5 pnode=0,0,0 group=0,0,1,1")
      ≡ lines "done=2,1,2,0,0 class=0,0 name=1,1 may=0,1,0 node=3,0,0 node=5,0,0 node=6,0,0 edge=6,1,3 edge=6,1,5"
  -- every edge at a deleted node goes, at either end
  pub both_ends :
      trial
      (lines "class=0,0 class=1,0 name=1,1 may=0,1,1 may=1,1,0 node=1,0,0 node=2,1,0 node=3,0,0 edge=1,1,2 edge=2,1,3")
      (lines "op=3 pnode=1,0,0 drop=0")
      ≡ lines "done=1,0,0,1,2 class=0,0 class=1,0 name=1,1 may=0,1,1 may=1,1,0 node=1,0,0 node=3,0,0"
  -- the images of the pattern's own edges go, and no others
  pub cut-edges :
      trial J (lines "op=4 pnode=0,0,0 pnode=0,0,0 pedge=0,1,1 cut=0,1,1")
      ≡ lines "done=1,0,0,0,1 class=0,0 class=1,1 name=0,0 name=1,1 may=0,0,1 may=0,1,0 node=3,0,0 node=5,0,0 node=6,1,600 edge=3,0,6"
  -- an edge that stands already is not added
  pub put-again : answer (opening J) (Apply (lines "op=2 pnode=0,0,0 pnode=1,0,0 pedge=0,0,1 put=0,0,1")) ≡ 0 ∷ 1 ∷ 0 ∷ 0 ∷ 0 ∷ 0 ∷ []
  -- the 256th node and the 512th edge are accepted, the next are not
  pub last-node : sizes_after new_node (with_nodes 255) ≡ 0 ∷ 256 ∷ 0 ∷ []
  pub node_over : sizes_after new_node (with_nodes 256) ≡ 9 ∷ 0 ∷ []
  pub last-edge : sizes_after new_arm (with_edges 509) ≡ 0 ∷ 6 ∷ 512 ∷ []
  pub edge-over : sizes_after new_arm (with_edges 510) ≡ 11 ∷ 0 ∷ []
  -- 11 is tried before 12: nine further edges are too many, and would tear each node
  pub edges-before-clash : sizes_after clashes (with_edges 510) ≡ 11 ∷ 0 ∷ []
  pub clash-alone : sizes_after clashes (with_edges 0) ≡ 12 ∷ 0 ∷ []
  -- a ninth copy is dropped: of nine applies eight are undone
  pub ninth-copy :
      answers ((Open J ∷ replicate 9 (Apply empty)) ++ replicate 9 Undo)
      ≡ (((0 ∷ 2 ∷ 2 ∷ []) ∷ replicate 9 (0 ∷ 1 ∷ 0 ∷ 0 ∷ 0 ∷ 0 ∷ [])) ++ replicate 8 (0 ∷ [])) ++ ((8 ∷ 0 ∷ []) ∷ [])
  -- a file at the front of the buffer, the rest left; one byte less is refused, and every byte left
  pub saves : (step (opening J) (Save (J ++ (1 ∷ 2 ∷ [])))).buffer ≡ J ++ (1 ∷ 2 ∷ [])
  pub saves-exactly : (step (opening J) (Save (replicate (length J) 7))).buffer ≡ J
  pub short : (step (opening J) (Save (replicate 114 7))).buffer ≡ replicate 114 7
  -- close reports nothing
  pub closed : answers (Open J ∷ Close ∷ []) ≡ (0 ∷ 2 ∷ 2 ∷ []) ∷ (0 ∷ []) ∷ []
  -- each refusal, in the order of the table
  pub each-refusal :
      answer shut (Open (lines "class=0,0 class=0,1"))
      ∷ answer (opening J) (First (lines "op=0 pnode=0,0,0 pnode=0,0,0 pnode=0,0,0 pnode=0,0,0 pnode=0,0,0 pnode=0,0,0 pnode=0,0,0"))
      ∷ answer shut (Open (lines "class=0,0 node=3,1,0"))
      ∷ answer shut (Open (lines "class=1,1 node=3,1,9 node=4,1,9"))
      ∷ answer (opening J) (Apply (lines "op=1 make=1"))
      ∷ answer shut Undo
      ∷ answer (opening J) (Open J)
      ∷ answer (opening J) Undo
      ∷ sizes_after new_node (with_nodes 256)
      ∷ answer (opening J65535) (Apply E7Rule)
      ∷ sizes_after new_arm (with_edges 510)
      ∷ answer (opening J7) (Apply (lines "op=2 pnode=0,0,0 pnode=1,0,0 put=0,0,1"))
      ∷ answer (opening J) (Save (replicate 114 7))
      ∷ answer (opening J) (After two_free (3 ∷ []))
      ∷ []
      ≡ (1 ∷ 2 ∷ [])
      ∷ (2 ∷ 8 ∷ [])
      ∷ (3 ∷ 2 ∷ [])
      ∷ (4 ∷ 3 ∷ [])
      ∷ (5 ∷ 2 ∷ [])
      ∷ (6 ∷ 0 ∷ [])
      ∷ (7 ∷ 0 ∷ [])
      ∷ (8 ∷ 0 ∷ [])
      ∷ (9 ∷ 0 ∷ [])
      ∷ (10 ∷ 0 ∷ [])
      ∷ (11 ∷ 0 ∷ [])
      ∷ (12 ∷ 3 ∷ [])
      ∷ (13 ∷ 115 ∷ [])
      ∷ (14 ∷ 2 ∷ [])
      ∷ []

pub cases : Cases
unfolding computing scheme_listed instance_listed pattern_listed
cases =
    record {
      listed = refl;
      pattern-listed = refl;
      schemes-not-listed = refl;
      instances-not-listed = refl;
      patterns-not-listed = refl;
      given-values = refl;
      first-number = refl;
      added-unmatched = refl;
      extra-targets = refl;
      no-a-edge = refl;
      both_ends = refl;
      cut-edges = refl;
      put-again = refl;
      last-node = refl;
      node_over = refl;
      last-edge = refl;
      edge-over = refl;
      edges-before-clash = refl;
      clash-alone = refl;
      ninth-copy = refl;
      saves = refl;
      saves-exactly = refl;
      short = refl;
      closed = refl;
      each-refusal = refl;
    }
