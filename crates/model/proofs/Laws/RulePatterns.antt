-- The pattern of an accepted rule text is sorted, within the limits and conforms.
-- Each line was checked under the lines above it, where all lines of earlier keys stand.
use Rattle.std.specs.Prelude.{ℕ, suc, ◌<◌, ◌≤◌, ◌≡◌, Bool, true, false, cond, not, ◌||◌, List, [], ◌∷◌, ◌++◌, map, length, take, leb, Option, None, Some}
use Rattle.std.proofs.Common.{arith, ap, ◌∙◌, subst, ⊎_elim, append-nil, take_all, eqb-true, le-leb}
use Rattle.std.proofs.Math.Path.{refl, ap₂, sym}
use mathlib.Core.List.Memᴰ
use Rattle.std.proofs.lemmas.Simd.{map-map}
use Rattle.std.proofs.lemmas.List.{length-map}
use Rattle.std.proofs.Math.Dec.{eqb}
use Rattle.lists.specs.Lists.{◌∈◌, any, count_from, ◌!◌}
use Rattle.lists.specs.Order.{rising}
use Rattle.lists.proofs.Laws.Order.{rising-count-from}
use Rattle.lists.proofs.Laws.Lists.{both, one_of, not_so, in-cons, in_map}
use Rattle.lists.proofs.Laws.Places.{by-places}
use Rattle.lists.proofs.Laws.Maps.{map_same}
use Rattle.lists.specs.Radix.{within}
use Rattle.lists.proofs.Laws.Count.{within-length, within-at}
use Rattle.model.specs.Limits
use Rattle.model.specs.Graph.{Triple, Scheme, Node, declares, is_object, is_value, row, stands, given_in, pattern_conforms, conforms_by}
use Rattle.model.specs.Files.{Line, numbers_of, triple_of}
use Rattle.model.specs.Files.RuleText.{RuleKey, op=, pnode=, pedge=, make=, arm=, put=, drop=, cut=, group=, rule_form, RuleLines, nodes_from, pattern_in}
use Rattle.model.specs.Files.RuleText.{rule_checks, rule_format}
use Rattle.model.proofs.Laws.Graph.{ListedScheme, ListedPattern}
use Rattle.model.proofs.Laws.Kinds.{value-class}
use Rattle.model.proofs.Laws.Keys.{earlier-above}
use Rattle.model.proofs.Laws.Places.{Place, place-of-key}
use Rattle.model.proofs.Laws.Lines.{Regular}
use Rattle.model.proofs.Laws.Passing.{Passing, Meets, meets-iff, passing-keeps, passing-in-order, numbers-append, key-rises}
use Rattle.model.proofs.Laws.Passing.{within-key, room_of, passing-room}

pub regular : (s : Scheme) → Regular (rule_format s)
unfolding rule_format
regular s = record { spelled-apart = refl; turns-rise = refl; plain = refl; numbered = refl; limited = refl }

-- # Pattern nodes
nodes-length : (i : ℕ) (xs : List (List ℕ)) → length (nodes_from i xs) ≡ length xs
nodes-length i [] = refl
nodes-length i (x ∷ xs) = ap suc (nodes-length (suc i) xs)

nodes-numbered : (i : ℕ) (xs : List (List ℕ)) → map (λ n. n.number) (nodes_from i xs) ≡ count_from i (length xs)
nodes-numbered i [] = refl
nodes-numbered i (x ∷ xs) = ap (λ (l : List ℕ). i ∷ l) (nodes-numbered (suc i) xs)

numbered-rise : (i : ℕ) (xs : List (List ℕ)) → rising (map (λ n. n.number ∷ []) (nodes_from i xs)) ≡ true
numbered-rise i xs =
    ap rising (sym (map-map (λ k. k ∷ []) (λ n. n.number) (nodes_from i xs)) ∙ ap (map (λ k. k ∷ [])) (nodes-numbered i xs)) ∙ rising-count-from i (length xs)

-- # Values
given_by : (s : Scheme) → ListedScheme s → (c given v : ℕ) → declares s.classes c ≡ true → (not (is_object s c) || eqb given 0) ≡ true → v ≤ Limits.last_value
    → (t : Bool) → eqb given 1 ≡ t → given_in s c (cond t (Some v) None) ≡ true
given_by s listed c given v d h l true e =
    let object : is_object s c ≡ false =
    ⊎_elim (not_so (is_object s c)).0 (λ z. absurd (omega (arith, eqb-true given 1 e, eqb-true given 0 z)))
    ((one_of (not (is_object s c)) (eqb given 0)).0 h) in
    (both (is_value s c) (leb v Limits.last_value)).1 (value-class s listed.classes c d object, le-leb v Limits.last_value l)
given_by s listed c given v d h l false e = d

-- a pattern node is what a line says
in-nodes : (i : ℕ) (xs : List (List ℕ)) (n : Node (Option ℕ)) → n ∈ nodes_from i xs
    → (x : List ℕ) × (x ∈ xs) × ((n.class ≡ x ! 0) × (n.value ≡ cond (eqb (x ! 1) 1) (Some (x ! 2)) None))
in-nodes i [] n h = absurd (Memᴰ.not-nil h)
in-nodes i (x ∷ xs) n h = ⊎_elim
    (λ e. (x, Memᴰ.head refl, (ap (λ (m : Node (Option ℕ)). m.class) e, ap (λ (m : Node (Option ℕ)). m.value) e)))
    (λ j. let r = in-nodes (suc i) xs n j in (r.0, Memᴰ.tail r.1, r.2)) (in-cons.0 h)

-- # The pattern
module _ (s : Scheme) (ls : RuleLines) (passing : Passing (rule_format s) ls) where
  abbrev pub numbers : RuleKey → List (List ℕ)
  numbers k = numbers_of rule_form k ls

  abbrev pub At : RuleKey → List ℕ → Type 0
  At k x = Place (rule_format s) ls (record { key = k; numbers = x })

  key-listed : (k : RuleKey) → k ∈ (rule_format s).keys
  unfolding rule_format
  key-listed op= = Memᴰ.head refl
  key-listed pnode= = search (Memᴰ.head, Memᴰ.tail) depth 12
  key-listed pedge= = search (Memᴰ.head, Memᴰ.tail) depth 12
  key-listed make= = search (Memᴰ.head, Memᴰ.tail) depth 12
  key-listed arm= = search (Memᴰ.head, Memᴰ.tail) depth 12
  key-listed put= = search (Memᴰ.head, Memᴰ.tail) depth 12
  key-listed drop= = search (Memᴰ.head, Memᴰ.tail) depth 12
  key-listed cut= = search (Memᴰ.head, Memᴰ.tail) depth 12
  key-listed group= = search (Memᴰ.head, Memᴰ.tail) depth 12

  pub at_key : (k : RuleKey) (x : List ℕ) → x ∈ numbers k → At k x
  unfolding rule_format
  at_key k x i = place-of-key (rule_format s) (regular s) ls passing k (key-listed k) x i

  -- the lines of an earlier turn stand above
  pub earlier : (k j : RuleKey) (x : List ℕ) (p : At k x) → (rule_form j).turn < (rule_form k).turn → numbers j ≡ numbers_of rule_form j p.above
  unfolding rule_format
  earlier k j x p h =
      sym (earlier-above (rule_format s) ls p.above p.below record { key = k; numbers = x }
      (passing-in-order (rule_format s) (regular s) ls passing) p.split j h)

  pub limits : (k : RuleKey) (x : List ℕ) → x ∈ numbers k → within (rule_form k).below x ≡ true
  unfolding rule_format
  limits k x i = within-key (rule_format s) (regular s) k (key-listed k) ls passing.in-form x i

  pub few : (k : RuleKey) → length (numbers k) ≤ room_of (rule_form k)
  unfolding rule_format
  few k = passing-room (rule_format s) (regular s) k (key-listed k) ls passing

  pub rise : (k : RuleKey) (n : ℕ) → (rule_form k).by ≡ Some n → rising (map (take n) (numbers k)) ≡ true
  unfolding rule_format
  rise k n e = key-rises (rule_format s) (regular s) k (key-listed k) n e ls passing.in-form (passing-in-order (rule_format s) (regular s) ls passing)

  -- # The pattern
  -- the pattern's nodes are known at its edges, and the whole pattern at the action's lines
  same-stands : (k : RuleKey) (x : List ℕ) (p : At k x) → (rule_form pnode=).turn < (rule_form k).turn → (i : ℕ)
      → stands (pattern_in p.above) i ≡ true → stands (pattern_in ls) i ≡ true
  same-stands k x p h i = subst (λ (xs : List (List ℕ)). any (λ n. eqb n.number i) (nodes_from 0 xs) ≡ true) (sym (earlier k pnode= x p h))

  pub same-pattern : (k : RuleKey) (x : List ℕ) (p : At k x) → (rule_form pedge=).turn < (rule_form k).turn → pattern_in p.above ≡ pattern_in ls
  same-pattern k x p h =
      ap₂ (λ (xs es : List (List ℕ)). record { nodes = nodes_from 0 xs; edges = map triple_of es })
      (sym (earlier k pnode= x p (omega arith))) (sym (earlier k pedge= x p h))

  pub triples-rise : (k : RuleKey) → (rule_form k).by ≡ Some 3 → length (rule_form k).below ≡ 3 → rising (map row (map triple_of (numbers k))) ≡ true
  triples-rise k e n = rw (map-map row triple_of (numbers k), map_same (λ x. row (triple_of x)) (take 3) (numbers k) whole) (rise k 3 e)
    where
      whole : (x : List ℕ) → x ∈ numbers k → row (triple_of x) ≡ take 3 x
      whole x i =
          let l : length x ≡ 3 = within-length (rule_form k).below x (limits k x i) ∙ n in
          by-places 3 x l ∙ sym (take_all 3 x (omega arith))

  node-given : ListedScheme s → (n : Node (Option ℕ)) → n ∈ (pattern_in ls).nodes → given_in s n.class n.value ≡ true
  unfolding rule_format rule_checks
  node-given listed n i =
      let r = in-nodes 0 (numbers pnode=) n i in
      let x = r.0 in
      let p = at_key pnode= x r.1 in
      let valued = ((both (not (is_object s (x ! 0)) || eqb (x ! 1) 0) _).0 p.meets.conforming).0 in
      let small = within-at (rule_form pnode=).below x (limits pnode= x r.1) 2 (omega arith) in
      ap₂ (given_in s) r.2.0 r.2.1 ∙ given_by s listed (x ! 0) (x ! 1) (x ! 2) p.meets.declared valued (omega arith) (eqb (x ! 1) 1) refl

  edge-ends : (e : Triple) → e ∈ (pattern_in ls).edges → (stands (pattern_in ls) e.source ≡ true) × (stands (pattern_in ls) e.target ≡ true)
  unfolding rule_format rule_checks
  edge-ends e i =
      let r = (in_map triple_of (numbers pedge=)).0 i in
      let x = r.0 in
      let p = at_key pedge= x r.1 in
      let k = simp both at p.meets.declared in
      let there = same-stands pedge= x p (omega arith) in
      rw r.2 (there (x ! 0) k.0.0, there (x ! 2) k.1)

  pub pattern-listed : ListedScheme s → ListedPattern s (pattern_in ls)
  pattern-listed listed =
      record {
        graph = record {
          few-nodes = rw nodes-length (few pnode=);
          nodes-rise = numbered-rise 0 (numbers pnode=);
          few-edges = rw length-map (few pedge=);
          edges-rise = triples-rise pedge= refl refl;
          ends = edge-ends;
        };
        numbered = nodes-numbered 0 (numbers pnode=) ∙ ap (count_from 0) (sym (nodes-length 0 (numbers pnode=)));
        given = node-given listed;
      }

-- a line of another key leaves the pattern
same-pattern-with : (above : RuleLines) (k : RuleKey) (x : List ℕ) → eqb (rule_form k).turn (rule_form pnode=).turn ≡ false
    → eqb (rule_form k).turn (rule_form pedge=).turn ≡ false → pattern_in (above ++ (record { key = k; numbers = x } ∷ [])) ≡ pattern_in above
same-pattern-with above k x h g =
    ap₂ (λ (xs es : List (List ℕ)). record { nodes = nodes_from 0 xs; edges = map triple_of es }) (kept pnode= h) (kept pedge= g)
  where
    kept : (j : RuleKey) → eqb (rule_form k).turn (rule_form j).turn ≡ false
        → numbers_of rule_form j (above ++ (record { key = k; numbers = x } ∷ [])) ≡ numbers_of rule_form j above
    kept j e = numbers-append rule_form j above (record { key = k; numbers = x } ∷ []) ∙ rw e (append-nil (numbers_of rule_form j above))

-- with each line the pattern conforms
pattern-conforms-with : (s : Scheme) (above : RuleLines) (l : Line RuleKey) → pattern_conforms s (pattern_in above) ≡ true → Meets (rule_format s) above l
    → pattern_conforms s (pattern_in (above ++ (l ∷ []))) ≡ true
unfolding rule_format rule_checks
pattern-conforms-with s above l h m = go l.key l.numbers m.conforming
  where
    other : (k : RuleKey) (x : List ℕ) → eqb (rule_form k).turn (rule_form pnode=).turn ≡ false → eqb (rule_form k).turn (rule_form pedge=).turn ≡ false
        → pattern_conforms s (pattern_in (above ++ (record { key = k; numbers = x } ∷ []))) ≡ true
    other k x a b = ap (pattern_conforms s) (same-pattern-with above k x a b) ∙ h

    go : (k : RuleKey) (x : List ℕ) → (rule_checks s above k x).conforming ≡ true
        → pattern_conforms s (pattern_in (above ++ (record { key = k; numbers = x } ∷ []))) ≡ true
    go op= x c = other op= x refl refl
    go pnode= x c = ((both (not (is_object s (x ! 0)) || eqb (x ! 1) 0) _).0 c).1
    go pedge= x c = c
    go make= x c = other make= x refl refl
    go arm= x c = other arm= x refl refl
    go put= x c = other put= x refl refl
    go drop= x c = other drop= x refl refl
    go cut= x c = other cut= x refl refl
    go group= x c = other group= x refl refl

pub pattern-conforms : (s : Scheme) (ls : RuleLines) → Passing (rule_format s) ls → pattern_conforms s (pattern_in ls) ≡ true
unfolding conforms_by
pattern-conforms s ls h =
    passing-keeps (rule_format s) (λ above. pattern_conforms s (pattern_in above) ≡ true)
    (λ above l p i g. pattern-conforms-with s above l p ((meets-iff (rule_format s) above l).0 g)) refl ls h
