-- What the theorems speak of: document 01's sentences as statements, most of them on members where the definitions have lists and tests.
use Rattle.std.specs.Prelude.{ℕ, suc, ◌≤◌, ◌≡◌, ◌↔◌, ◌⊎◌, Bool, true, false, List, [], ◌∷◌, ◌++◌, map, length, take, eqb, Option, None, Some}
use Rattle.lists.specs.Lists.{◌∈◌, keep, ◌!◌}
use Rattle.lists.specs.Order.{rising}
use Rattle.lists.specs.Buffers.{at_front}
use Rattle.model.specs.Limits
use Rattle.model.specs.Graph.{Triple, Scheme, Node, Instance, Pattern, row, stands}
use Rattle.model.specs.Matching.{image}
use Rattle.model.specs.Operations.{Arm, Action, pattern_only, add_node, add_edges, delete_node, delete_edges, abstract, Rule}
use Rattle.model.specs.Operations.{arms_at, served, groups_of, grouped, group_arms, next_number, new_nodes, applied, node_row, counts}
use Rattle.model.specs.Refusals.{Outcome, accepted}
use Rattle.model.specs.Files.DrawingFile.{Contents, read_drawing}
use Rattle.model.specs.Files.RuleText.{read_rule}
use Rattle.model.specs.Record.{Record, shut, opened, Call, Open, Apply, Undo, Close, First, After, Save, Report, counted, saved, Left, lent, run}
use Rattle.model.specs.declared.Difference.{Difference}
use Rattle.model.specs.declared.Counts.{Counts}

-- # A matching
-- the drawing node is "of the same class, with the given value where one is given"
abbrev pub Fits : Node (Option ℕ) → Node ℕ → Type 0
Fits q n = (q.class ≡ n.class) × ((w : ℕ) → q.value ≡ Some w → w ≡ n.value)

-- a drawing node with the number i fits
abbrev pub FitsAt : Instance → Node (Option ℕ) → ℕ → Type 0
FitsAt d q i = (n : Node ℕ) × (n ∈ d.nodes) × ((n.number ≡ i) × Fits q n)

-- one number for each pattern node, in their order, at which the node fits
abbrev pub Sent : List (Node (Option ℕ)) → Instance → List ℕ → Type 0
Sent [] d [] = Unit {0}
Sent [] d (i ∷ m) = ⊥
Sent (q ∷ qs) d [] = ⊥
Sent (q ∷ qs) d (i ∷ m) = FitsAt d q i × Sent qs d m

-- "A matching sends each pattern node to a drawing node .. so that each pattern edge lands on an edge."
pub record Matches (p : Pattern) (d : Instance) (m : List ℕ) : Type 0 where
  pub sent : Sent p.nodes d m
  pub lands : (e : Triple) → e ∈ p.edges → image m e ∈ d.edges

-- # Operations
pub data Adds : Action → Type 0 where
  adds-node : {K : ℕ} {arms : List Arm} → Adds (add_node K arms)
  adds-edges : {ts : List Triple} → Adds (add_edges ts)
  abstracts : {p K a b : ℕ} → Adds (abstract p K a b)

pub data Deletes : Action → Type 0 where
  deletes-node : {p : ℕ} → Deletes (delete_node p)
  deletes-edges : {ts : List Triple} → Deletes (delete_edges ts)

-- every node and every edge of the first drawing is in the second
pub record Within (d e : Instance) : Type 0 where
  pub nodes : (n : Node ℕ) → n ∈ d.nodes → n ∈ e.nodes
  pub edges : (t : Triple) → t ∈ d.edges → t ∈ e.edges

-- the edges hold the old ones, and where each edge of ts lands
pub record HoldsBoth (ts : List Triple) (ms : List (List ℕ)) (d : Instance) (es : List Triple) : Type 0 where
  pub old : (t : Triple) → t ∈ d.edges → t ∈ es
  pub new : (m : List ℕ) → m ∈ ms → (t : Triple) → t ∈ ts → image m t ∈ es

-- just the old edges and the images, none twice, in rising order
pub record Joined (ts : List Triple) (ms : List (List ℕ)) (d : Instance) (es : List Triple) : Type 0 where
  pub rise : rising (map row es) ≡ true
  pub members : (t : Triple) → (t ∈ es) ↔ (((m : List ℕ) × (m ∈ ms) × ((u : Triple) × (u ∈ ts) × (t ≡ image m u))) ⊎ (t ∈ d.edges))

-- no matching sends the pattern node p to the number; no edge of ts lands on the triple
abbrev pub NoImage : (p : ℕ) → List (List ℕ) → ℕ → Type 0
NoImage p ms i = (m : List ℕ) → m ∈ ms → i ≡ m ! p → ⊥

abbrev pub NoEdgeImage : (ts : List Triple) → List (List ℕ) → Triple → Type 0
NoEdgeImage ts ms t = (m : List ℕ) → m ∈ ms → (u : Triple) → u ∈ ts → t ≡ image m u → ⊥

-- # New nodes
-- every edge starts at a node that stands
abbrev pub SourcesStand : Instance → Type 0
SourcesStand d = (t : Triple) → t ∈ d.edges → stands d t.source ≡ true

-- the edge that a node's number and an arm make
abbrev pub edge_at : ℕ → Arm → Triple
edge_at i a = record { source = i; name = a.name; target = a.node }

-- "a new node's number is the largest number standing plus 1, or 0 in an empty drawing"
abbrev pub NextNumber : List (Node ℕ) → ℕ → Type 0
NextNumber ns i =
    ((ns ≡ []) × (i ≡ 0))
    ⊎ ((n : Node ℕ) × (n ∈ ns) × (i ≡ suc n.number) × ((m : Node ℕ) → m ∈ ns → m.number ≤ n.number))

-- the next new node of a drawing
abbrev pub next_node : (K : ℕ) → Instance → Node ℕ
next_node K d = record { number = next_number d.nodes; class = K; value = 0 }

module _ {Place : Type 0} (K : ℕ) (served : Place → Instance → Bool) (arms : Place → List Arm) where
  -- the place x has its turn: the places in front of it have had theirs, and the drawing is `now`
  pub record Turn (places : List Place) (d : Instance) (x : Place) : Type 0 where
    pub front : List Place
    pub back : List Place
    pub split : places ≡ front ++ x ∷ back
    pub now : Instance
    pub reached : new_nodes K served arms front d ≡ accepted now

  -- n is the new node of the place x: when x has its turn it is not served, n is the next node then, and in the end the edges that start
  -- at n are exactly those of x
  pub record New (places : List Place) (d e : Instance) (x : Place) (n : Node ℕ) : Type 0 where
    pub turn : Turn places d x
    pub unserved : served x turn.now ≡ false
    pub next : n ≡ next_node K turn.now
    pub stays : n ∈ e.nodes
    pub starts : (t : Triple) → ((t ∈ e.edges) × (t.source ≡ n.number)) ↔ ((a : Arm) × (a ∈ arms x) × (t ≡ edge_at n.number a))

  -- e is d with new nodes: it has all that d has, each of its nodes is old or the new node of a place, each of its edges is old or starts at a
  -- new node, and each place is served when it has its turn, by what stays, or gets a new node
  pub record WithNew (places : List Place) (d e : Instance) : Type 0 where
    pub old : Within d e
    pub nodes : (n : Node ℕ) → n ∈ e.nodes → (n ∈ d.nodes) ⊎ ((x : Place) × New places d e x n)
    pub edges : (t : Triple) → t ∈ e.edges → (t ∈ d.edges) ⊎ ((x : Place) × (n : Node ℕ) × (New places d e x n) × (t.source ≡ n.number))
    pub gets : (x : Place) → x ∈ places
        → ((t : Turn places d x) × (Within t.now e) × (served x t.now ≡ true)) ⊎ ((n : Node ℕ) × New places d e x n)

-- # What each action leaves of the drawing d, of which ms are the matchings
abbrev pub Leaves : Action → List (List ℕ) → (d e : Instance) → Type 0
-- "Applying 0 changes nothing but counts and keeps a copy."
Leaves pattern_only ms d e = e ≡ d
-- "a matching for which no K node, old or just added, has all the arm edges to its images gets a new K node with exactly those edges"
Leaves (add_node K arms) ms d e =
    WithNew K (λ m now. served K (arms_at m arms) now) (λ m. arms_at m arms) ms d e × ((m : List ℕ) → m ∈ ms → served K (arms_at m arms) e ≡ true)
-- "The images of all matchings are joined to the edges": the smallest set that holds both
Leaves (add_edges ts) ms d e =
    (e.nodes ≡ d.nodes) × HoldsBoth ts ms d e.edges × ((es : List Triple) → HoldsBoth ts ms d es → (t : Triple) → t ∈ e.edges → t ∈ es)
-- "Its images go, with every edge at them"
Leaves (delete_node p) ms d e =
    ((n : Node ℕ) → (n ∈ e.nodes) ↔ ((n ∈ d.nodes) × NoImage p ms n.number))
    × ((t : Triple) → (t ∈ e.edges) ↔ ((t ∈ d.edges) × NoImage p ms t.source × NoImage p ms t.target))
-- "Their images go."
Leaves (delete_edges ts) ms d e = (e.nodes ≡ d.nodes) × ((t : Triple) → (t ∈ e.edges) ↔ ((t ∈ d.edges) × NoEdgeImage ts ms t))
-- "A group for which no K node of the old drawing has exactly that group as its b-targets gets a new K node with those b-edges."
Leaves (abstract p K a b) ms d e =
    WithNew K (λ group now. grouped K b d group) (group_arms b) (groups_of p a ms d) d e
    × ((group : List ℕ) → group ∈ groups_of p a ms d → grouped K b e group ≡ true)

-- # Counts
-- k is how many members of xs are not in ys: the length of a list, rising by rows and so with none twice, of just these
pub record CountsOnly {A : Type 0} (row_of : A → List ℕ) (xs ys : List A) (k : ℕ) : Type 0 where
  pub only : List A
  pub rise : rising (map row_of only) ≡ true
  pub members : (z : A) → (z ∈ only) ↔ ((z ∈ xs) × (z ∈ ys → ⊥))
  pub count : k ≡ length only

-- how many nodes and edges d has and e has not
pub record Differs (d e : Instance) (k : Difference) : Type 0 where
  pub nodes : CountsOnly node_row d.nodes e.nodes k.nodes
  pub edges : CountsOnly row d.edges e.edges k.edges

-- the list holds just the matchings, none twice, and k is its length
pub record CountsMatchings (p : Pattern) (d : Instance) (k : ℕ) : Type 0 where
  pub found : List (List ℕ)
  pub rise : rising found ≡ true
  pub members : (m : List ℕ) → (m ∈ found) ↔ Matches p d m
  pub count : k ≡ length found

-- "how many matchings the old drawing has, how many nodes and edges only the new drawing has, and how many only the old one has"
pub record Reports (p : Pattern) (old new : Instance) (k : Counts) : Type 0 where
  pub matchings : CountsMatchings p old k.matchings
  pub added : Differs new old k.added
  pub removed : Differs old new k.removed

-- # Files
-- how many lines of a text are "ended by byte 10"; an accepted text has no others
abbrev pub line_count : List ℕ → ℕ
line_count text = length (keep (eqb 10) text)

-- no accepted drawing file has more bytes: each kind of line at its widest, and in full number
abbrev pub most_of_drawing : ℕ
most_of_drawing = 20032

-- the first bytes of a file and of a rule text that decide how it is answered: enough for one more line of each kind than may stand, each at
-- its widest
abbrev pub enough_of_drawing : ℕ
enough_of_drawing = 20106

abbrev pub enough_of_rule : ℕ
enough_of_rule = 465

-- # Calls
-- "A refused call changes nothing", neither the record nor the buffer that is lent
pub record Unchanged (r : Record) (c : Call) (left : Left (Outcome Report)) : Type 0 where
  pub state : left.state ≡ r
  pub buffer : left.buffer ≡ lent c

-- "changing nothing in the session": first, after, save
pub data Asks : Call → Type 0 where
  first : (rule : List ℕ) → Asks (First rule)
  after : (rule list : List ℕ) → Asks (After rule list)
  save : (buffer : List ℕ) → Asks (Save buffer)

-- what an accepted apply has read and made, the record that it leaves, and its report
pub record Applied (s : Scheme) (d : Instance) (cs : List Instance) (rule : List ℕ) (after : Record) (y : Report) : Type 0 where
  pub read : Rule
  pub reads : read_rule s rule ≡ accepted read
  pub new : Instance
  pub makes : applied s read d ≡ accepted new
  pub state : after ≡ opened s new (take Limits.copies (d ∷ cs))
  pub answer : y ≡ counted (counts read.pattern d new)

-- what save leaves of a buffer that is long enough, and its answer
abbrev pub written : Record → (file buffer : List ℕ) → Left (Outcome Report)
written r file buffer = record { state = r; answer = accepted (saved (length file)); buffer = at_front file buffer }

-- the call with its text cut to so many bytes: a file to m, a rule to n
abbrev pub cut_texts : (m n : ℕ) → Call → Call
cut_texts m n (Open file) = Open (take m file)
cut_texts m n (Apply rule) = Apply (take n rule)
cut_texts m n Undo = Undo
cut_texts m n Close = Close
cut_texts m n (First rule) = First (take n rule)
cut_texts m n (After rule list) = After (take n rule) list
cut_texts m n (Save buffer) = Save buffer

abbrev pub scheme_of : Record → Option Scheme
scheme_of shut = None
scheme_of (opened s d cs) = Some s

-- the scheme is that of a file which an open among the calls has read when the record was shut, and no close comes after it
pub record SinceOpen (r : Record) (calls : List Call) (s : Scheme) : Type 0 where
  pub before : List Call
  pub file : List ℕ
  pub after : List Call
  pub split : calls ≡ before ++ Open file ∷ after
  pub was-shut : (run r before).state ≡ shut
  pub contents : Contents
  pub reads : read_drawing file ≡ accepted contents
  pub scheme : contents.scheme ≡ s
  pub unclosed : Close ∈ after → ⊥
