-- The action of an accepted rule text suits its pattern, and so an accepted rule is sound.
-- The code has one kind of action line, of which the first stands; an action line was checked under the whole pattern.
use Prim.Native.Nat.{ℕ, zero, suc, ◌<◌, ◌≤◌}
use Rattle.std.proofs.Common.{arith, ap, ◌∙◌, sym, inl, inr, eq-eqb, eqb-true, ltb-true}
use Rattle.std.specs.Prelude.{◌≡◌, ◌⊎◌, Bool, length, take, get_or, eqb, Some}
use Rattle.std.proofs.Math.Path.{refl, subst}
use Rattle.std.proofs.Math.Logic.{⊎_elim}
use Rattle.std.proofs.Math.Bool.{true}
use Rattle.std.proofs.lemmas.Bool.{false≢true}
use mathlib.Core.List.Memᴰ
use mathlib.Core.List.{List, [], ◌∷◌, map, map-map}
use Rattle.std.proofs.Math.ListN.{length-map}
use Rattle.std.proofs.Math.Dec.{ltb}
use Rattle.lists.specs.Lists.{◌∈◌, any, all, ◌!◌}
use Rattle.lists.specs.Order.{rising}
use Rattle.lists.proofs.Laws.Lists.{both, one_of, any-member, all-members, at_most, in-keep, in_map, in-append}
use Rattle.lists.proofs.Laws.Places.{first_member}
use Rattle.lists.proofs.Laws.Maps.{map_same}
use Rattle.lists.proofs.Laws.Count.{within-length}
use Rattle.model.specs.Limits
use Rattle.model.specs.Graph.{Triple, Scheme, Pattern, is_functional, has, joins, stands, of_class, permits, scheme_listed}
use Rattle.model.specs.Operations.{Rule, Action, Arm, pattern_only, add_node, add_edges, delete_node, delete_edges, abstract}
use Rattle.model.specs.Refusals.{accepted}
use Rattle.model.specs.Files.{Line, numbers_of, triple_of, read}
use Rattle.model.specs.Files.RuleText.{RuleKey, op=, pnode=, pedge=, make=, arm=, put=, drop=, cut=, group=, rule_form, RuleLines, pattern_in}
use Rattle.model.specs.InForm.{code_of}
use Rattle.model.specs.Files.RuleText.{arm_of, numbers_at, action_in, stand, has_code, rule_checks, rule_format, read_rule}
use Rattle.model.specs.Sound.{some_edges, suits, SoundRule}
use Rattle.model.proofs.Laws.Graph.{listed-scheme, listed-pattern}
use Rattle.model.proofs.Laws.Outcomes.{then-accepted}
use Rattle.model.proofs.Laws.Lines.{accepted-readable}
use Rattle.model.proofs.Laws.Passing.{Passing, room_of, numbers-append}
use Rattle.model.proofs.Laws.RulePatterns.{At, at_key, earlier, limits, few, rise, same-pattern, triples-rise, pattern-listed, pattern-conforms}

-- the key that an action of a code must have
abbrev pub lead : ℕ → RuleKey
lead c = get_or (op= ∷ make= ∷ put= ∷ drop= ∷ cut= ∷ group= ∷ []) c op=

-- # Lists
one-member : {A : Type 0} (xs : List A) {x y : A} → length xs ≤ 1 → x ∈ xs → y ∈ xs → x ≡ y
one-member [] h i j = absurd (Memᴰ.not-nil i)
one-member (a ∷ []) h i j = Memᴰ.eq_of_singleton i ∙ sym (Memᴰ.eq_of_singleton j)
one-member (a ∷ b ∷ xs) h i j = absurd (omega arith)

any-length : {A : Type 0} (xs : List A) → any (λ x. true) xs ≡ true → 1 ≤ length xs
any-length [] h = absurd (false≢true h)
any-length (x ∷ xs) h = omega arith

module _ (s : Scheme) (ls : RuleLines) (passing : Passing (rule_format s) ls) where
  abbrev numbers : RuleKey → List (List ℕ)
  numbers k = numbers_of rule_form k ls

  pub line-numbers : (l : Line RuleKey) → l ∈ ls → l.numbers ∈ numbers l.key
  line-numbers l i =
      (in_map (λ (m : Line RuleKey). m.numbers) _).1 (l, (in-keep _ ls).1 (i, eq-eqb (rule_form l.key).turn (rule_form l.key).turn refl), refl)

  stand-line : (k : RuleKey) (x : List ℕ) → x ∈ numbers k → stand k ls ≡ true
  stand-line k x i = (any-member (λ y. true) (numbers k)).1 (x, i, refl)

  -- what a line above has stands in the whole
  above-any : (k : RuleKey) (x : List ℕ) (p : At s ls passing k x) (j : RuleKey) (t : List ℕ → Bool)
      → any t (numbers_of rule_form j p.above) ≡ true → (y : List ℕ) × (y ∈ numbers j) × (t y ≡ true)
  above-any k x p j t h =
      let l : Line RuleKey = record { key = k; numbers = x } in
      let r = (any-member t (numbers_of rule_form j p.above)).0 h in
      let split = ap (numbers_of rule_form j) p.split ∙ numbers-append rule_form j p.above (l ∷ p.below) in
      (r.0, subst (λ (ys : List (List ℕ)). r.0 ∈ ys) (sym split) ((in-append (numbers_of rule_form j p.above) _).1 (inl r.1)), r.2)

  above-code : (k : RuleKey) (x : List ℕ) (p : At s ls passing k x) (c : ℕ) → has_code c p.above ≡ true → has_code c ls ≡ true
  above-code k x p c h = (any-member (λ y. eqb (y ! 0) c) (numbers op=)).1 (above-any k x p op= (λ y. eqb (y ! 0) c) h)

  made : (x : List ℕ) → x ∈ numbers make= → has_code 1 ls ≡ true
  unfolding rule_format rule_checks
  made x i = let p = at_key s ls passing make= x i in above-code make= x p 1 p.meets.placed

  -- an action line stands under its own code, whose leading line stands
  pub led-by : (k : RuleKey) (x : List ℕ) → x ∈ numbers k → (rule_form pedge=).turn < (rule_form k).turn
      → (has_code (code_of k) ls ≡ true) × (stand (lead (code_of k)) ls ≡ true)
  unfolding rule_format rule_checks
  led-by op= x i h = absurd (omega arith)
  led-by pnode= x i h = absurd (omega arith)
  led-by pedge= x i h = absurd (omega arith)
  led-by make= x i h = (made x i, stand-line make= x i)
  led-by arm= x i h =
      let p = at_key s ls passing arm= x i in
      let r = above-any arm= x p make= (λ y. true) p.meets.placed in
      (made r.0 r.1, stand-line make= r.0 r.1)
  led-by put= x i h = let p = at_key s ls passing put= x i in (above-code put= x p 2 p.meets.placed, stand-line put= x i)
  led-by drop= x i h = let p = at_key s ls passing drop= x i in (above-code drop= x p 3 p.meets.placed, stand-line drop= x i)
  led-by cut= x i h = let p = at_key s ls passing cut= x i in (above-code cut= x p 4 p.meets.placed, stand-line cut= x i)
  led-by group= x i h = let p = at_key s ls passing group= x i in (above-code group= x p 5 p.meets.placed, stand-line group= x i)

  -- op stands once, so there is one code
  one_code : (c e : ℕ) → has_code c ls ≡ true → has_code e ls ≡ true → c ≡ e
  one_code c e h k =
      let a = (any-member (λ y. eqb (y ! 0) c) (numbers op=)).0 h in
      let b = (any-member (λ y. eqb (y ! 0) e) (numbers op=)).0 k in
      let same = one-member (numbers op=) (few s ls passing op=) a.1 b.1 in
      sym (eqb-true (a.0 ! 0) c a.2) ∙ ap (λ (y : List ℕ). y ! 0) same ∙ eqb-true (b.0 ! 0) e b.2

  -- where no line is missing at the end
  module _ (complete : (rule_format s).complete ls ≡ true) where
    -- under a code other than 0 the leading line of its action stands
    leads : (c : ℕ) → 0 < c → has_code c ls ≡ true → stand (lead c) ls ≡ true
    unfolding rule_format
    leads c h k =
        ⊎_elim
        (λ z. absurd (omega (arith, one_code c 0 k z)))
        (λ a.
        let r = (any-member (λ (l : Line RuleKey). ltb (rule_form pedge=).turn (rule_form l.key).turn) ls).0 a in
        let l = r.0 in
        let q = led-by l.key l.numbers (line-numbers l r.1) (ltb-true (rule_form pedge=).turn (rule_form l.key).turn r.2) in
        subst (λ (e : ℕ). stand (lead e) ls ≡ true) (one_code (code_of l.key) c q.0 k) q.1)
        ((one_of (has_code 0 ls) _).0 complete)

    -- # Each action
    first_of : (k : RuleKey) → stand k ls ≡ true → numbers_at k ls ∈ numbers k
    first_of k h = first_member (numbers k) [] ((any-member (λ x. true) (numbers k)).0 h).1

    -- the first k numbers of the lines of a key, as the lines rise by them
    firsts-rise : (k : RuleKey) (n : ℕ) → (rule_form k).by ≡ Some n → (f : List ℕ → List ℕ) → ((x : List ℕ) → x ∈ numbers k → f x ≡ take n x)
        → rising (map f (numbers k)) ≡ true
    firsts-rise k n e f h = rw (map_same f (take n) (numbers k) h) (rise s ls passing k n e)

    arms-rise : rising (map (λ a. a.name ∷ []) (map arm_of (numbers arm=))) ≡ true
    arms-rise =
        rw (map-map (λ (a : Arm). a.name ∷ []) arm_of (numbers arm=))
        (firsts-rise arm= 1 refl (λ x. (x ! 0) ∷ []) (λ x i. first x (within-length (rule_form arm=).below x (limits s ls passing arm= x i))))
      where
        first : (x : List ℕ) → length x ≡ 2 → (x ! 0) ∷ [] ≡ take 1 x
        first [] h = absurd (omega arith)
        first (n ∷ x) h = refl

    arm-suits : (a : Arm) → a ∈ map arm_of (numbers arm=)
        → (is_functional s a.name ≡ true) × (joins s (eqb (numbers_at make= ls ! 0)) a.name (of_class (pattern_in ls) a.node) ≡ true)
    unfolding rule_format rule_checks
    arm-suits a i =
        let r = (in_map arm_of (numbers arm=)).0 i in
        let x = r.0 in
        let p = at_key s ls passing arm= x r.1 in
        let q = (both (is_functional s (x ! 0)) _).0 p.meets.suited in
        let joined : List (List ℕ) → Pattern → Type 0 = λ ms m. joins s (eqb (get_or ms 0 [] ! 0)) (x ! 0) (of_class m (x ! 1)) ≡ true in
        let makes = numbers_of rule_form make= p.above in
        let whole = subst (joined makes) (same-pattern s ls passing arm= x p (omega arith)) q.1 in
        rw r.2 (q.0, subst (λ (ms : List (List ℕ)). joined ms (pattern_in ls)) (sym (earlier s ls passing arm= make= x p (omega arith))) whole)

    suits-make : has_code 1 ls ≡ true → suits s (pattern_in ls) (add_node (numbers_at make= ls ! 0) (map arm_of (numbers arm=))) ≡ true
    unfolding suits rule_format rule_checks
    suits-make h =
        let made = at_key s ls passing make= (numbers_at make= ls) (first_of make= (leads 1 (omega arith) h)) in
        simp (both, at_most, all-members) (((made.meets.suited, rw length-map (few s ls passing arm=)), arms-rise), arm-suits)

    some_edges_lem : (k : RuleKey) (most : ℕ) → stand k ls ≡ true → room_of (rule_form k) ≡ most → (rule_form k).by ≡ Some 3 → length (rule_form k).below ≡ 3
        → some_edges most (map triple_of (numbers k)) ≡ true
    some_edges_lem k most h m e n =
        simp (both, at_most) ((rw length-map (any-length (numbers k) h), rw (length-map, ← m) (few s ls passing k)), triples-rise s ls passing k e n)

    -- what each line's triple passes under the pattern above it, all triples pass under the whole pattern
    triples-pass : (k : RuleKey) (test : Pattern → Triple → Bool) → (rule_form pedge=).turn < (rule_form k).turn
        → ((x : List ℕ) (p : At s ls passing k x) → test (pattern_in p.above) (triple_of x) ≡ true)
        → all (test (pattern_in ls)) (map triple_of (numbers k)) ≡ true
    triples-pass k test t h =
        (all-members (test (pattern_in ls)) (map triple_of (numbers k))).1 (λ e i.
        let r = (in_map triple_of (numbers k)).0 i in
        let p = at_key s ls passing k r.0 r.1 in
        rw r.2 (subst (λ (m : Pattern). test m (triple_of r.0) ≡ true) (same-pattern s ls passing k r.0 p t) (h r.0 p)))

    suits-put : has_code 2 ls ≡ true → suits s (pattern_in ls) (add_edges (map triple_of (numbers put=))) ≡ true
    unfolding suits rule_format rule_checks
    suits-put h =
        (both _ _).1 (
          some_edges_lem put= Limits.puts (leads 2 (omega arith) h) refl refl refl,
          triples-pass put= (λ m t. permits s m t) (omega arith) (λ x p. p.meets.suited),
        )

    suits-cut : has_code 4 ls ≡ true → suits s (pattern_in ls) (delete_edges (map triple_of (numbers cut=))) ≡ true
    unfolding suits rule_format rule_checks
    suits-cut h =
        (both _ _).1 (
          some_edges_lem cut= Limits.cuts (leads 4 (omega arith) h) refl refl refl,
          triples-pass cut= (λ m t. has m.edges t) (omega arith) (λ x p. p.meets.suited),
        )

    suits-drop : has_code 3 ls ≡ true → suits s (pattern_in ls) (delete_node (numbers_at drop= ls ! 0)) ≡ true
    unfolding suits rule_format rule_checks
    suits-drop h =
        let x = numbers_at drop= ls in
        let p = at_key s ls passing drop= x (first_of drop= (leads 3 (omega arith) h)) in
        subst (λ (m : Pattern). stands m (x ! 0) ≡ true) (same-pattern s ls passing drop= x p (omega arith)) p.meets.declared

    suits-group : has_code 5 ls ≡ true
        → let x = numbers_at group= ls in suits s (pattern_in ls) (abstract (x ! 0) (x ! 1) (x ! 2) (x ! 3)) ≡ true
    unfolding suits rule_format rule_checks
    suits-group h =
        let x = numbers_at group= ls in
        let p = at_key s ls passing group= x (first_of group= (leads 5 (omega arith) h)) in
        subst (λ (m : Pattern). suits s m (abstract (x ! 0) (x ! 1) (x ! 2) (x ! 3)) ≡ true)
        (same-pattern s ls passing group= x p (omega arith)) p.meets.suited

    -- the code, if there is one
    code-stands : (xs : List (List ℕ)) → (any (λ x. eqb (x ! 0) (get_or xs 0 [] ! 0)) xs ≡ true) ⊎ (get_or xs 0 [] ! 0 ≡ 0)
    code-stands [] = inr refl
    code-stands (x ∷ xs) = inl ((one_of (eqb (x ! 0) (x ! 0)) _).1 (inl (eq-eqb (x ! 0) (x ! 0) refl)))

    action-suits : suits s (pattern_in ls) (action_in ls) ≡ true
    unfolding suits
    action-suits = go (numbers_at op= ls ! 0) (code-stands (numbers op=))
      where
        g : List ℕ
        g = numbers_at group= ls

        actions : List Action
        actions =
            pattern_only
            ∷ add_node (numbers_at make= ls ! 0) (map arm_of (numbers arm=))
            ∷ add_edges (map triple_of (numbers put=))
            ∷ delete_node (numbers_at drop= ls ! 0)
            ∷ delete_edges (map triple_of (numbers cut=))
            ∷ abstract (g ! 0) (g ! 1) (g ! 2) (g ! 3)
            ∷ []

        code : (c : ℕ) → 0 < c → (has_code c ls ≡ true) ⊎ (c ≡ 0) → has_code c ls ≡ true
        code c h o = ⊎_elim (λ k. k) (λ e. absurd (omega arith)) o

        go : (c : ℕ) → (has_code c ls ≡ true) ⊎ (c ≡ 0) → suits s (pattern_in ls) (get_or actions c pattern_only) ≡ true
        go zero o = refl
        go (suc zero) o = suits-make (code 1 (omega arith) o)
        go (suc (suc zero)) o = suits-put (code 2 (omega arith) o)
        go (suc (suc (suc zero))) o = suits-drop (code 3 (omega arith) o)
        go (suc (suc (suc (suc zero)))) o = suits-cut (code 4 (omega arith) o)
        go (suc (suc (suc (suc (suc zero))))) o = suits-group (code 5 (omega arith) o)
        go (suc (suc (suc (suc (suc (suc c)))))) o = refl

-- an accepted rule text gives a pattern that is sorted, within the limits and conforms, and an action that suits it
pub rule-is-sound : (s : Scheme) (t : List ℕ) (r : Rule) → scheme_listed s ≡ true → read_rule s t ≡ accepted r → SoundRule s r
unfolding read_rule
rule-is-sound s t r listed h =
    let a = (then-accepted (read (rule_format s) t) _ _).0 h in
    let q = accepted-readable (rule_format s) t a.0 a.1 in
    let passing : Passing (rule_format s) a.0 = record { in-form = q.written.in-form; pass = q.pass } in
    subst (SoundRule s) (cc a.2) (record {
      listed = (listed-pattern s (pattern_in a.0)).1 (pattern-listed s a.0 passing ((listed-scheme s).0 listed));
      conforming = pattern-conforms s a.0 passing;
      suited = action-suits s a.0 passing q.complete;
    })
