-- "When the engine declines" as a relation: which refusal a call gets on a record. "Each is returned if its cause holds and no earlier one
-- does, never otherwise."
use Rattle.std.specs.Prelude.{ℕ, suc, ◌+◌, ◌<◌, ◌≤◌, ◌≡◌, Bool, true, false, not, ◌&&◌, List, [], ◌∷◌, ◌++◌, map, length, Option, None, Some}
use Rattle.model.specs.Limits
use Rattle.model.specs.Graph.{Triple, Scheme, Node, Instance, torn}
use Rattle.model.specs.Matching.{matchings}
use Rattle.model.specs.Operations.{Arm, Action, add_node, add_edges, abstract, Rule, next_number, arms_at, served}
use Rattle.model.specs.Operations.{grouped, group_arms, groups_of}
use Rattle.model.specs.Refusals.{accepted}
use Rattle.lists.specs.Text.{pieces}
use Rattle.model.specs.Files.{Line, Format, lines_of, checks_of, in_place, crowded}
use Rattle.model.specs.Files.DrawingFile.{drawing_format, file_text}
use Rattle.model.specs.Files.RuleText.{rule_format, read_rule}
use Rattle.model.specs.Record.{Record, shut, opened, Call, Open, Apply, Undo, Close, First, After, Save}
use Rattle.model.specs.Meaning.{Joined, Turn}
use Rattle.model.specs.declared.Refusal.{Refusal}
use Rattle.model.specs.declared.Refusal.TheVariants.{Malformed, TooMany, Undeclared, Nonconforming, BadAction, NotOpen, AlreadyOpen}
use Rattle.model.specs.declared.Refusal.TheVariants.{NoCopy, NodesFull, NumbersFull, EdgesFull, FunctionalClash, BufferShort, LengthDiffers}
use Rattle.lists.specs.Lists.{◌∈◌}
use Rattle.lists.specs.Order.{Smallest}

-- # Texts
module _ {K : Type 0} (f : Format K) where
  -- none of causes 1 to 5 applies to the line, and to none of the lines, each under those above it
  abbrev pub passes : (above : List (Line K)) → Line K → Bool
  passes above l =
      let c = checks_of f above l in
      in_place f above l && not (crowded f above l) && c.declared && c.conforming && c.suited

  abbrev pub all_pass : (above ls : List (Line K)) → Bool
  all_pass above [] = true
  all_pass above (l ∷ ls) = passes above l && all_pass (above ++ (l ∷ [])) ls

  -- what is wrong with a line under the lines above it, "tried 1 to 5"
  pub data BadLine (above : List (Line K)) : Option (Line K) → Refusal → Type 0 where
    -- 1: "line out of form, range, turn or order"
    out-of-form : BadLine above None (Malformed (suc (length above)))
    out-of-turn : {l : Line K} → in_place f above l ≡ false → BadLine above (Some l) (Malformed (suc (length above)))
    -- 2: "more .. lines than allowed"
    too_many : {l : Line K} → in_place f above l ≡ true → crowded f above l ≡ true → BadLine above (Some l) (TooMany (suc (length above)))
    -- 3: "class, name or (pattern) node not declared above"
    undeclared : {l : Line K} → in_place f above l ≡ true → crowded f above l ≡ false → (checks_of f above l).declared ≡ false
        → BadLine above (Some l) (Undeclared (suc (length above)))
    -- 4: "line breaks conformity" and the like
    nonconforming : {l : Line K} → in_place f above l ≡ true → crowded f above l ≡ false → (checks_of f above l).declared ≡ true
        → (checks_of f above l).conforming ≡ false → BadLine above (Some l) (Nonconforming (suc (length above)))
    -- 5: "action line: wrong kind" and the like
    bad-action : {l : Line K} → in_place f above l ≡ true → crowded f above l ≡ false → (checks_of f above l).declared ≡ true
        → (checks_of f above l).conforming ≡ true → (checks_of f above l).suited ≡ false → BadLine above (Some l) (BadAction (suc (length above)))

  -- "the first bad line", or a line "missing at the end (then one past the last line)"
  pub data BadText (text : List ℕ) : Refusal → Type 0 where
    first-bad : (above : List (Line K)) (o : Option (Line K)) (rest : List (Option (Line K))) {x : Refusal}
        → lines_of f (pieces 10 text) ≡ map Some above ++ o ∷ rest → all_pass [] above ≡ true → BadLine above o x → BadText text x
    missing : (ls : List (Line K))
        → lines_of f (pieces 10 text) ≡ map Some ls → all_pass [] ls ≡ true → f.complete ls ≡ false → BadText text (Malformed (suc (length ls)))

-- # Operations
-- "For new nodes 9, 10, 11 are tried at each new node in turn": there is no room in the drawing for a node with these edges
pub data NoRoom (d : Instance) (edges : List Arm) : Refusal → Type 0 where
  nodes-full : Limits.nodes ≤ length d.nodes → NoRoom d edges NodesFull
  numbers-full : length d.nodes < Limits.nodes → Limits.last_number < next_number d.nodes → NoRoom d edges NumbersFull
  edges-full : length d.nodes < Limits.nodes → next_number d.nodes ≤ Limits.last_number
      → Limits.edges < length d.edges + length edges → NoRoom d edges EdgesFull

-- a place that is not served when it has its turn, and then there is no room for its node
pub record Stuck {Place : Type 0} (K : ℕ) (served : Place → Instance → Bool) (edges : Place → List Arm) (places : List Place) (d : Instance) (x : Refusal)
    : Type 0 where
  pub place : Place
  pub turn : Turn K served edges places d place
  pub unserved : served place turn.now ≡ false
  pub full : NoRoom turn.now (edges place) x

-- 12: "smallest such node", of those to which the edges give "two edges of one functional name"
abbrev pub SmallestTorn : Scheme → Instance → List Triple → Option (Node ℕ) → Type 0
SmallestTorn s d es o = Smallest (λ n. n.number ∷ []) (λ n. (n ∈ d.nodes) × (torn s es n.number ≡ true)) o

-- 9 to 12, of an operation on a drawing with its matchings; "for edge addition 11 before 12"
pub data Declines (s : Scheme) (ms : List (List ℕ)) (d : Instance) : Action → Refusal → Type 0 where
  adding : {K : ℕ} {arms : List Arm} {x : Refusal}
      → Stuck K (λ m now. served K (arms_at m arms) now) (λ m. arms_at m arms) ms d x → Declines s ms d (add_node K arms) x
  abstracting : {p K a b : ℕ} {x : Refusal}
      → Stuck K (λ group now. grouped K b d group) (group_arms b) (groups_of p a ms d) d x → Declines s ms d (abstract p K a b) x
  union-full : {ts : List Triple} (es : List Triple) → Joined ts ms d es → Limits.edges < length es → Declines s ms d (add_edges ts) EdgesFull
  clash : {ts : List Triple} (es : List Triple) {n : Node ℕ} → Joined ts ms d es → length es ≤ Limits.edges → SmallestTorn s d es (Some n)
      → Declines s ms d (add_edges ts) (FunctionalClash n.number)

abbrev pub opens : Call → Bool
opens (Open file) = true
opens (Apply rule) = false
opens Undo = false
opens Close = false
opens (First rule) = false
opens (After rule list) = false
opens (Save buffer) = false

-- the rule text of a call that has one
abbrev pub rule_of : Call → Option (List ℕ)
rule_of (Open file) = None
rule_of (Apply rule) = Some rule
rule_of Undo = None
rule_of Close = None
rule_of (First rule) = Some rule
rule_of (After rule list) = Some rule
rule_of (Save buffer) = None

-- the table. "Order: 6 or 7; then the first bad line, tried 1 to 5; then 14, or 8, or 13."
pub data Cause : Record → Call → Refusal → Type 0 where
  -- 6: "any call but open while shut"; 7: "open while open"
  not-open : {c : Call} → opens c ≡ false → Cause shut c NotOpen
  already-open : {s : Scheme} {d : Instance} {cs : List Instance} {file : List ℕ} → Cause (opened s d cs) (Open file) AlreadyOpen
  -- 1 to 5
  bad-file : {file : List ℕ} {x : Refusal} → BadText drawing_format file x → Cause shut (Open file) x
  bad-rule : {s : Scheme} {d : Instance} {cs : List Instance} {c : Call} {rule : List ℕ} {x : Refusal}
      → rule_of c ≡ Some rule → BadText (rule_format s) rule x → Cause (opened s d cs) c x
  -- 8: "undo with no copy"
  no_copy : {s : Scheme} {d : Instance} → Cause (opened s d []) Undo NoCopy
  -- 9 to 12
  declined : {s : Scheme} {d : Instance} {cs : List Instance} {rule : List ℕ} {r : Rule} {x : Refusal}
      → read_rule s rule ≡ accepted r → Declines s (matchings r.pattern d) d r.action x → Cause (opened s d cs) (Apply rule) x
  -- 13: "save buffer too short", with the bytes needed
  buffer-short : {s : Scheme} {d : Instance} {cs : List Instance} {buffer : List ℕ}
      → length buffer < length (file_text s d) → Cause (opened s d cs) (Save buffer) (BufferShort (length (file_text s d)))
  -- 14: "after: list length differs from the pattern's", with the pattern's length
  length-differs : {s : Scheme} {d : Instance} {cs : List Instance} {rule list : List ℕ} {r : Rule} → read_rule s rule ≡ accepted r
      → (length list ≡ length r.pattern.nodes → ⊥) → Cause (opened s d cs) (After rule list) (LengthDiffers (length r.pattern.nodes))
