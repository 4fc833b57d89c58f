-- Each refusal is given exactly when its cause holds and no earlier one does: the record's answers and the table of refusals agree.
-- Call by call; texts by the laws of reading, operations by the places that get a new node and by the joined edges.
use Rattle.std.specs.Prelude.{ℕ, ◌+◌, ◌≡◌, refl, ◌↔◌, Bool, true, false, cond, length, eqb, ltb, leb, Option, None, Some}
use Rattle.std.proofs.Common.{arith, ap, ◌∙◌, sym, inl, true≢false, ne_eqb, ltb-true, ltb-false, leb-true, leb-false, lt-ltb, le-ltb, le-leb}
use Rattle.std.proofs.Math.Path.{subst}
use Rattle.std.proofs.Math.Logic.{⊎_elim}
use Rattle.std.proofs.Math.Logic.Iff
use mathlib.Core.List.{List, [], ◌∷◌, map}
use Rattle.std.proofs.lemmas.List.{length-map}
use Rattle.std.proofs.lemmas.Bool.{eqb-false, lt-leb}
use Rattle.model.specs.Limits
use Rattle.model.specs.Graph.{Triple, Scheme, Node, Instance, torn, nodes_rise}
use Rattle.lists.specs.Lists.{find}
use Rattle.lists.proofs.Laws.Order.{finds-smallest}
use Rattle.model.specs.Operations.{Arm, Action, pattern_only, add_node, add_edges, delete_node, delete_edges, abstract, with_node, next_number, new_nodes}
use Rattle.model.specs.Operations.{node_addition, join_edges, images, unless_torn, edge_addition, groups_of, abstraction, perform, applied}
use Rattle.model.specs.Refusals.{Outcome, accepted, refused}
use Rattle.model.specs.Record.{Record, shut, opened, Call, Open, Apply, Undo, Close, First, After, Save, accept, step}
use Rattle.model.specs.Matching.{matchings}
use Rattle.model.specs.Sound.{SoundRecord}
use Rattle.model.specs.Files.{read}
use Rattle.model.specs.Files.DrawingFile.{drawing_format, read_drawing, file_text}
use Rattle.model.specs.Files.RuleText.{rule_format, read_rule}
use Rattle.model.specs.Causes.{BadText, NoRoom, nodes-full, numbers-full, edges-full, Stuck}
use Rattle.model.specs.Causes.{SmallestTorn, Declines, adding, abstracting, union-full, clash, Cause, opens, rule_of}
use Rattle.model.specs.Causes.{not-open, already-open, bad-file, bad-rule, no_copy, declined, buffer-short, length-differs}
use Rattle.model.proofs.Laws.Sound.{WellFormed, well-formed}
use Rattle.model.proofs.Laws.Calls.{step-refuses}
use Rattle.model.proofs.Laws.EdgeAddition.{joined, joined_once}
use Rattle.model.proofs.Laws.Reading.{read-refused}
use Rattle.model.proofs.Laws.Outcomes.{refused-not-accepted, same-refusal, unless-refused, otherwise-refused, then-refused, made-refused, in_turn-refused}
use Rattle.model.specs.declared.Refusal.{Refusal}
use Rattle.model.specs.declared.Refusal.TheVariants.{FunctionalClash}
use Rattle.model.specs.declared.Refusal.TheVariants.{NotOpen}

-- # New nodes
no_room : (K : ℕ) (edges : List Arm) (d : Instance) {x : Refusal} → (with_node K edges d ≡ refused x) ↔ NoRoom d edges x
unfolding with_node
no_room K edges d {x} = (to, from x)
  where
    n : ℕ
    n = next_number d.nodes

    new : List Triple
    new = map (λ a. record { source = n; name = a.name; target = a.node }) edges

    to : with_node K edges d ≡ refused x → NoRoom d edges x
    to h = ⊎_elim
        (λ q. subst (NoRoom d edges) q.1 (nodes-full (leb-true Limits.nodes (length d.nodes) q.0)))
        (λ q.
        let room = leb-false Limits.nodes (length d.nodes) q.0 in
        ⊎_elim
        (λ p. subst (NoRoom d edges) p.1 (numbers-full room (ltb-true Limits.last_number n p.0)))
        (λ p.
        let number = ltb-false Limits.last_number n p.0 in
        ⊎_elim
        (λ r. subst (NoRoom d edges) r.1 (edges-full room number (rw length-map at (ltb-true Limits.edges (length d.edges + length new) r.0))))
        (λ r. absurd (refused-not-accepted (sym r.1)))
        ((unless-refused (ltb Limits.edges (length d.edges + length new)) _ _ x).0 p.1))
        ((unless-refused (ltb Limits.last_number n) _ _ x).0 q.1))
        ((unless-refused (leb Limits.nodes (length d.nodes)) _ _ x).0 h)

    from : (x : Refusal) → NoRoom d edges x → with_node K edges d ≡ refused x
    from x (nodes-full h) = rw (le-leb Limits.nodes (length d.nodes) h)
    from x (numbers-full h k) = rw (lt-leb Limits.nodes (length d.nodes) h, lt-ltb Limits.last_number n k)
    from x (edges-full h k l) =
        rw (lt-leb Limits.nodes (length d.nodes) h, le-ltb Limits.last_number n k, lt-ltb Limits.edges (length d.edges + length new) (rw length-map l))

module _ {Place : Type 0} (K : ℕ) (served : Place → Instance → Bool) (edges : Place → List Arm) (places : List Place) (d : Instance) {x : Refusal} where
  stuck : (new_nodes K served edges places d ≡ refused x) ↔ Stuck K served edges places d x
  stuck = (
    (λ h.
        let r = (in_turn-refused at_place places d x).0 h in
        let q = (otherwise-refused (served r.at r.reached) (with_node K (edges r.at) r.reached) r.reached x).0 r.stops in
        record {
          place = r.at;
          turn = record { front = r.front; back = r.back; split = r.split; now = r.reached; reached = r.goes };
          unserved = q.0;
          full = (no_room K (edges r.at) r.reached).0 q.1;
        }),
    λ r.
        let t = r.turn in
        let stops = (otherwise-refused (served r.place t.now) (with_node K (edges r.place) t.now) t.now x).1
        (r.unserved, (no_room K (edges r.place) t.now).1 r.full) in
        (in_turn-refused at_place places d x).1
        (record { front = t.front; at = r.place; back = t.back; reached = t.now; split = t.split; goes = t.reached; stops = stops }),
  )
    where
      at_place : Place → Instance → Outcome Instance
      at_place p now = cond (served p now) (accepted now) (with_node K (edges p) now)

-- # Edge addition
smallest-torn : (s : Scheme) (d : Instance) (es : List Triple) (o : Option (Node ℕ)) → nodes_rise d ≡ true
    → (find (λ m. torn s es m.number) d.nodes ≡ o) ↔ SmallestTorn s d es o
smallest-torn s d es o h = finds-smallest (λ m. m.number ∷ []) (λ m. torn s es m.number) d.nodes o h

unless-torn : (o : Option (Node ℕ)) (d : Instance) {x : Refusal}
    → (unless_torn o d ≡ refused x) ↔ ((n : Node ℕ) × (o ≡ Some n) × (FunctionalClash n.number ≡ x))
unless-torn None d = ((λ h. absurd (refused-not-accepted (sym h))), λ h. let z : ◌≡◌ {A = ℕ} 0 1 = cc in absurd (omega arith))
unless-torn (Some n) d = ((λ h. (n, refl, same-refusal h)), λ h. cc)

-- # Operations
module _ (s : Scheme) (ms : List (List ℕ)) (d : Instance) (w : WellFormed s d) where
  edge-addition-declines : (ts : List Triple) {x : Refusal} → edge_addition s ts ms d ≡ refused x → Declines s ms d (add_edges ts) x
  unfolding edge_addition
  edge-addition-declines ts {x} e =
      let es = join_edges (images ts ms) d.edges in
      let j = joined ts ms d w.edges-rise in
      ⊎_elim
      (λ q. subst (Declines s ms d (add_edges ts)) q.1 (union-full es j (ltb-true Limits.edges (length es) q.0)))
      (λ q.
      let r = (unless-torn (find (λ n. torn s es n.number) d.nodes) _).0 q.1 in
      subst (Declines s ms d (add_edges ts)) r.2
      (clash es j (ltb-false Limits.edges (length es) q.0) ((smallest-torn s d es (Some r.0) w.nodes-rise).0 r.1)))
      ((unless-refused (ltb Limits.edges (length es)) _ _ x).0 e)

  -- an operation is refused with 9 to 12 only, and for their causes
  perform-declines : (a : Action) (x : Refusal) → perform s a ms d ≡ refused x → Declines s ms d a x
  unfolding perform node_addition abstraction
  perform-declines pattern_only x e = absurd (refused-not-accepted (sym e))
  perform-declines (add_node K arms) x e = adding ((stuck K _ _ ms d).0 e)
  perform-declines (add_edges ts) x e = edge-addition-declines ts e
  perform-declines (delete_node p) x e = absurd (refused-not-accepted (sym e))
  perform-declines (delete_edges ts) x e = absurd (refused-not-accepted (sym e))
  perform-declines (abstract p K a b) x e = abstracting ((stuck K _ _ (groups_of p a ms d) d).0 e)

  -- .. and for each of these causes
  declines-perform : (a : Action) (x : Refusal) → Declines s ms d a x → perform s a ms d ≡ refused x
  unfolding perform node_addition abstraction edge_addition
  declines-perform pattern_only x h = elim h [ ]
  declines-perform (delete_node p) x h = elim h [ ]
  declines-perform (delete_edges ts) x h = elim h [ ]
  declines-perform (add_node K arms) x (adding r) = (stuck K _ _ ms d).1 r
  declines-perform (abstract p K a b) x (abstracting r) = (stuck K _ _ (groups_of p a ms d) d).1 r
  declines-perform (add_edges ts) x (union-full es j k) =
      let union = join_edges (images ts ms) d.edges in
      let same = joined_once ts ms d es union j (joined ts ms d w.edges-rise) in
      rw (lt-ltb Limits.edges (length union) (rw same at k))
  declines-perform (add_edges ts) x (clash es {n = n} j k r) =
      let union = join_edges (images ts ms) d.edges in
      let same = joined_once ts ms d es union j (joined ts ms d w.edges-rise) in
      let smallest = subst (λ (fs : List Triple). SmallestTorn s d fs (Some n)) same r in
      rw (le-ltb Limits.edges (length union) (rw same at k), (smallest-torn s d union (Some n) w.nodes-rise).1 smallest)

-- # Calls
open-refused : (t : List ℕ) (x : Refusal) → (read_drawing t ≡ refused x) ↔ BadText drawing_format t x
unfolding read_drawing
open-refused t x = Iff.trans (made-refused (read drawing_format t) _ x) (read-refused drawing_format t x)

rule-refused : (s : Scheme) (t : List ℕ) (x : Refusal) → (read_rule s t ≡ refused x) ↔ BadText (rule_format s) t x
unfolding read_rule
rule-refused s t x = Iff.trans (made-refused (read (rule_format s) t) _ x) (read-refused (rule_format s) t x)

refused-cause : (r : Record) (c : Call) {x : Refusal} → SoundRecord r → accept r c ≡ refused x → Cause r c x
unfolding accept applied
refused-cause shut (Open file) h e =
    ⊎_elim (λ q. bad-file ((open-refused file _).0 q)) (λ q. absurd (refused-not-accepted (sym q.2))) ((then-refused (read_drawing file) _ _).0 e)
refused-cause shut (Apply rule) h e = subst (Cause shut (Apply rule)) (same-refusal e) (not-open refl)
refused-cause shut Undo h e = subst (Cause shut Undo) (same-refusal e) (not-open refl)
refused-cause shut Close h e = subst (Cause shut Close) (same-refusal e) (not-open refl)
refused-cause shut (First rule) h e = subst (Cause shut (First rule)) (same-refusal e) (not-open refl)
refused-cause shut (After rule list) h e = subst (Cause shut (After rule list)) (same-refusal e) (not-open refl)
refused-cause shut (Save buffer) h e = subst (Cause shut (Save buffer)) (same-refusal e) (not-open refl)
refused-cause (opened s d cs) (Open file) h e = subst (Cause (opened s d cs) (Open file)) (same-refusal e) already-open
refused-cause (opened s d cs) (Apply rule) {x} h e =
    ⊎_elim (λ q. bad-rule refl ((rule-refused s rule _).0 q))
    (λ q. ⊎_elim
    (λ p. declined q.1 (perform-declines s (matchings q.0.pattern d) d (well-formed s d h.drawing) q.0.action x p))
    (λ p. absurd (refused-not-accepted (sym p.2)))
    ((then-refused (applied s q.0 d) _ _).0 q.2))
    ((then-refused (read_rule s rule) _ _).0 e)
refused-cause (opened s d []) Undo h e = subst (Cause (opened s d []) Undo) (same-refusal e) no_copy
refused-cause (opened s d (c ∷ cs)) Undo h e = absurd (refused-not-accepted (sym e))
refused-cause (opened s d cs) Close h e = absurd (refused-not-accepted (sym e))
refused-cause (opened s d cs) (First rule) h e =
    ⊎_elim (λ q. bad-rule refl ((rule-refused s rule _).0 q)) (λ q. absurd (refused-not-accepted (sym q.2))) ((then-refused (read_rule s rule) _ _).0 e)
refused-cause (opened s d cs) (After rule list) h e =
    ⊎_elim (λ q. bad-rule refl ((rule-refused s rule _).0 q))
    (λ q.
    let k = length q.0.pattern.nodes in
    let r = (otherwise-refused (eqb (length list) k) _ _ _).0 q.2 in
    subst (Cause (opened s d cs) (After rule list)) (same-refusal r.1) (length-differs q.1 (eqb-false (length list) k r.0)))
    ((then-refused (read_rule s rule) _ _).0 e)
refused-cause (opened s d cs) (Save buffer) h e =
    let r = (otherwise-refused (leb (length (file_text s d)) (length buffer)) _ _ _).0 e in
    subst (Cause (opened s d cs) (Save buffer)) (same-refusal r.1) (buffer-short (leb-false (length (file_text s d)) (length buffer) r.0))

shut-refused : (c : Call) → opens c ≡ false → accept shut c ≡ refused NotOpen
unfolding accept
shut-refused (Open file) h = absurd (true≢false h)
shut-refused (Apply rule) h = refl
shut-refused Undo h = refl
shut-refused Close h = refl
shut-refused (First rule) h = refl
shut-refused (After rule list) h = refl
shut-refused (Save buffer) h = refl

no-rule : {rule : List ℕ} → ◌≡◌ {A = Option (List ℕ)} None (Some rule) → ⊥
no-rule h = let z : ◌≡◌ {A = ℕ} 0 1 = cc in omega arith

bad-rule-refused : (s : Scheme) (d : Instance) (cs : List Instance) (c : Call) {rule : List ℕ} {x : Refusal} → rule_of c ≡ Some rule
    → read_rule s rule ≡ refused x → accept (opened s d cs) c ≡ refused x
unfolding accept
bad-rule-refused s d cs (Open file) h e = absurd (no-rule h)
bad-rule-refused s d cs (Apply rule) h e = (then-refused (read_rule s rule) _ _).1 (inl (ap (read_rule s) (cc) ∙ e))
bad-rule-refused s d cs Undo h e = absurd (no-rule h)
bad-rule-refused s d cs Close h e = absurd (no-rule h)
bad-rule-refused s d cs (First rule) h e = (then-refused (read_rule s rule) _ _).1 (inl (ap (read_rule s) (cc) ∙ e))
bad-rule-refused s d cs (After rule list) h e = (then-refused (read_rule s rule) _ _).1 (inl (ap (read_rule s) (cc) ∙ e))
bad-rule-refused s d cs (Save buffer) h e = absurd (no-rule h)

cause-refused : {r : Record} {c : Call} {x : Refusal} → SoundRecord r → Cause r c x → accept r c ≡ refused x
unfolding accept applied
cause-refused h (not-open {c = c} n) = shut-refused c n
cause-refused h already-open = refl
cause-refused h (bad-file {file = file} b) = (then-refused (read_drawing file) _ _).1 (inl ((open-refused file _).1 b))
cause-refused h (bad-rule {s = s} {d = d} {cs = cs} {c = c} {rule = rule} q b) = bad-rule-refused s d cs c q ((rule-refused s rule _).1 b)
cause-refused h no_copy = refl
cause-refused h (declined {s = s} {d = d} {rule = rule} {r = r} {x = x} e q) =
    let sound = well-formed s d h.drawing in
    rw e ((then-refused (applied s r d) _ _).1 (inl (declines-perform s (matchings r.pattern d) d sound r.action x q)))
cause-refused h (buffer-short {s = s} {d = d} {buffer = buffer} k) = rw (lt-leb (length (file_text s d)) (length buffer) k)
cause-refused h (length-differs {list = list} {r = r} e k) = rw (e, ne_eqb (length list) (length r.pattern.nodes) k)

-- a call is answered with a refusal exactly if the table gives it
pub refused-exactly : (r : Record) (c : Call) (x : Refusal) → SoundRecord r → ((step r c).answer ≡ refused x) ↔ Cause r c x
refused-exactly r c x h = ((λ e. refused-cause r c h ((step-refuses r c).0 e)), λ q. (step-refuses r c).1 (cause-refused h q))
