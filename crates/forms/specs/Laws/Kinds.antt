-- The table of kinds: what holds of each kind, and the keys of drawing files and rule texts in it.
-- What holds of each kind is a test that antt computes over all of them, and one law that gives it at a kind.
use Rattle.std.specs.Prelude.{ℕ, zero, suc, ◌+◌, ◌^◌, ◌<◌, ◌≤◌, ◌≡◌, refl, Bool, true, false, not, ◌&&◌, List, [], ◌∷◌, ◌++◌, map, length, take, drop, ltb, Option, Some}
use Rattle.std.proofs.Common.{arith, ◌∙◌, get_or-take, leb-true}
use Rattle.std.proofs.Math.Path.{ap, sym}
use Rattle.std.proofs.lemmas.Bool.{false≢true}
use Rattle.std.proofs.Math.ListN.{get_or, get_or-append}
use Rattle.std.proofs.lemmas.List.{length-map}
use Rattle.std.proofs.Math.Seq.{take-append_seam}
use Rattle.std.proofs.Math.Dec.{leb}
use Rattle.lists.specs.Lists.{all, find, ◌!◌}
use Rattle.lists.specs.Order.{same}
use Rattle.lists.specs.Radix.{product, within, lowest}
use Rattle.lists.proofs.Laws.Lists.{both, less, at_most, not_so, all-members}
use Rattle.lists.proofs.Laws.Order.{same-list}
use Rattle.lists.proofs.Laws.Apart.{found-member}
use Rattle.lists.proofs.Laws.Count.{within-cons, within-length}
use Rattle.model.specs.Files.{full}
use Rattle.model.specs.Files.DrawingFile.{DrawingKey, class=, name=, may=, node=, edge=, drawing_form}
use Rattle.model.specs.Files.RuleText.{RuleKey, op=, pnode=, pedge=, make=, arm=, put=, drop=, cut=, group=, rule_form}
use Rattle.forms.specs.Forms.{Kind, drawing_kind, rule_kind, drawing_kinds, rule_kinds, of_drawing, turn_of, kind_of, key_number, most_numbers, padded, packed_form}
use Rattle.forms.specs.Forms.{drawing_key, rule_key}
use Rattle.forms.specs.Laws.KeyNumbers.{Bytes, bytes-tested}
use Rattle.forms.specs.declared.Form.{Form as PackedForm}
use Rattle.forms.specs.declared.LineKind.{LineKind}
use Rattle.forms.specs.declared.LineKind.TheVariants.{Class, Name, May, Node, Edge, Op, Pnode, Pedge, Make, Arm, Put, Drop, Cut, Group}

-- # What holds of each kind
abbrev all_kinds : List LineKind
all_kinds = drawing_kinds ++ rule_kinds

-- the kind that has the key
abbrev keyed : List ℕ → Option LineKind
keyed key = find (λ k. same (kind_of k).form.key key) all_kinds

kind-keyed : (kind : LineKind) → keyed (kind_of kind).form.key ≡ Some kind
unfolding kind_of
kind-keyed Class = refl
kind-keyed Name = refl
kind-keyed May = refl
kind-keyed Node = refl
kind-keyed Edge = refl
kind-keyed Op = refl
kind-keyed Pnode = refl
kind-keyed Pedge = refl
kind-keyed Make = refl
kind-keyed Arm = refl
kind-keyed Put = refl
kind-keyed Drop = refl
kind-keyed Cut = refl
kind-keyed Group = refl

-- a kind stands among all at its turn, which is that of no other
kind-placed : (kind : LineKind) → get_or all_kinds (turn_of kind) Class ≡ kind
kind-placed Class = refl
kind-placed Name = refl
kind-placed May = refl
kind-placed Node = refl
kind-placed Edge = refl
kind-placed Op = refl
kind-placed Pnode = refl
kind-placed Pedge = refl
kind-placed Make = refl
kind-placed Arm = refl
kind-placed Put = refl
kind-placed Drop = refl
kind-placed Cut = refl
kind-placed Group = refl

pub turns-apart : (i j : LineKind) → turn_of i ≡ turn_of j → i ≡ j
turns-apart i j e = sym (kind-placed i) ∙ ap (λ n. get_or all_kinds n Class) e ∙ kind-placed j

-- a test that all kinds pass
of-each : (p : Kind → Bool) → all (λ k. p (kind_of k)) all_kinds ≡ true → (kind : LineKind) → p (kind_of kind) ≡ true
of-each p t kind =
    let named = λ (k : LineKind). same (kind_of k).form.key (kind_of kind).form.key in
    (all-members (λ k. p (kind_of k)) all_kinds).0 t kind (found-member named all_kinds (kind-keyed kind)).0

within_wider : (bs rs ns : List ℕ) → within (map suc rs) bs ≡ true → within bs ns ≡ true → within rs ns ≡ true
within_wider [] [] ns h w = w
within_wider [] (r ∷ rs) ns h w = absurd (false≢true h)
within_wider (b ∷ bs) [] ns h w = absurd (false≢true h)
within_wider (b ∷ bs) (r ∷ rs) [] h w = w
within_wider (b ∷ bs) (r ∷ rs) (n ∷ ns) h w =
    let v = (within-cons (suc r) b (map suc rs) bs).0 h in
    let u = (within-cons b n bs ns).0 w in
    (within-cons r n rs ns).1 (omega arith, within_wider bs rs ns v.1 u.1)

wider : (bs rs : List ℕ) → within (map suc rs) bs ≡ true → (i : ℕ) → i < length bs → bs ! i ≤ rs ! i
wider [] rs h i l = absurd (omega arith)
wider (b ∷ bs) [] h i l = absurd (false≢true h)
wider (b ∷ bs) (r ∷ rs) h zero l = omega (arith, ((within-cons (suc r) b (map suc rs) bs).0 h).0)
wider (b ∷ bs) (r ∷ rs) h (suc i) l = wider bs rs ((within-cons (suc r) b (map suc rs) bs).0 h).1 i (omega arith)

-- there is a room for each number of a line, at least as wide as its limit; 1 to 4 numbers, rows below 2 ^ 54, and
-- there may be such a line
pub record Roomy (k : Kind) : Type 0 where
  pub fits : (ns : List ℕ) → within k.form.below ns ≡ true → within k.rooms ns ≡ true
  pub wide : (i : ℕ) → i < length k.form.below → k.form.below ! i ≤ k.rooms ! i
  pub as_many : length k.rooms ≡ length k.form.below
  pub some_number : 1 ≤ length k.form.below
  pub few : length k.form.below ≤ most_numbers
  pub some-room : 0 < product k.rooms
  pub small : product k.rooms ≤ 2 ^ 54
  pub one-may-stand : full k.form.most 0 ≡ false

abbrev roomy : Kind → Bool
roomy k =
    within (map suc k.rooms) k.form.below
    && (leb 1 (length k.form.below)
    && (leb (length k.form.below) most_numbers
    && (ltb 0 (product k.rooms) && (leb (product k.rooms) (2 ^ 54) && not (full k.form.most 0)))))

roomy-kind : (k : Kind) → roomy k ≡ true → Roomy k
roomy-kind k h =
    let t = simp (both, less, at_most, not_so) at h in
    record {
      fits = λ ns. within_wider k.form.below k.rooms ns t.0;
      wide = λ i l. wider k.form.below k.rooms t.0 i l;
      as_many = sym (within-length (map suc k.rooms) k.form.below t.0 ∙ length-map k.rooms suc);
      some_number = t.1.0;
      few = t.1.1.0;
      some-room = t.1.1.1.0;
      small = t.1.1.1.1.0;
      one-may-stand = t.1.1.1.1.1;
    }

pub kind-roomy : (kind : LineKind) → Roomy (kind_of kind)
unfolding kind_of
kind-roomy kind = roomy-kind (kind_of kind) (of-each roomy refl kind)

-- a key has at most 5 bytes, and belongs to no other kind
abbrev spelled : Kind → Bool
spelled k = all (λ b. ltb b 256) k.form.key && leb (length k.form.key) 5

pub kind-spelled : (kind : LineKind) → Bytes (kind_of kind).form.key × (length (kind_of kind).form.key ≤ 5)
unfolding kind_of
kind-spelled kind =
    let key = (kind_of kind).form.key in
    let t = (both (all (λ b. ltb b 256) key) (leb (length key) 5)).0 (of-each spelled refl kind) in
    (bytes-tested key t.0, leb-true (length key) 5 t.1)

-- a key's bytes are the digits of its number
pub kind-written : (kind : LineKind)
    → lowest 256 0 (length (kind_of kind).form.key) (key_number (kind_of kind).form.key) ≡ (kind_of kind).form.key
unfolding kind_of lowest key_number
kind-written kind =
    let key = (kind_of kind).form.key in
    (same-list (lowest 256 0 (length key) (key_number key)) key).0
    (of-each (λ k. same (lowest 256 0 (length k.form.key) (key_number k.form.key)) k.form.key) refl kind)

pub keys-apart : (i j : LineKind) → (kind_of i).form.key ≡ (kind_of j).form.key → i ≡ j
keys-apart i j k = let one : Some i ≡ Some j = sym (kind-keyed i) ∙ ap keyed k ∙ kind-keyed j in cc

-- # Numbers of a form, in an array of four
pub padded-at : (ns : List ℕ) (i : ℕ) → length ns ≤ most_numbers → i < length ns → get_or (padded ns) i 0 ≡ get_or ns i 0
padded-at ns i few h = get_or-take most_numbers (ns ++ (0 ∷ 0 ∷ 0 ∷ 0 ∷ [])) i 0 (omega arith) ∙ get_or-append ns (0 ∷ 0 ∷ 0 ∷ 0 ∷ []) 0 i h

pub filled : (ns : List ℕ) → length ns ≤ most_numbers → ns ++ drop (length ns) (0 ∷ 0 ∷ 0 ∷ 0 ∷ []) ≡ padded ns
filled [] h = refl
filled (a ∷ []) h = refl
filled (a ∷ b ∷ []) h = refl
filled (a ∷ b ∷ c ∷ []) h = refl
filled (a ∷ b ∷ c ∷ d ∷ []) h = refl
filled (a ∷ b ∷ c ∷ d ∷ e ∷ ns) h = absurd (omega arith)

pub padded-front : (ns : List ℕ) → length ns ≤ most_numbers → take (length ns) (padded ns) ≡ ns
padded-front ns h = ap (take (length ns)) (sym (filled ns h)) ∙ take-append_seam ns (drop (length ns) (0 ∷ 0 ∷ 0 ∷ 0 ∷ []))

module _ (kind : LineKind) {form : PackedForm} (made : form ≡ packed_form (kind_of kind)) where
  pub form-numbers : form.numbers ≡ length (kind_of kind).rooms
  unfolding packed_form
  form-numbers = ap (λ f. f.numbers) made ∙ sym (kind-roomy kind).as_many

  pub form-few : form.numbers ≤ most_numbers
  form-few = let k = kind-roomy kind in omega (arith, form-numbers, k.as_many, k.few)

  pub form-room : (i : ℕ) → i < form.numbers → get_or form.room i 0 ≡ get_or (kind_of kind).rooms i 0
  unfolding packed_form
  form-room i l =
      let k = kind-roomy kind in
      ap (λ f. get_or f.room i 0) made
      ∙ padded-at (kind_of kind).rooms i (omega (arith, k.few, k.as_many)) (omega (arith, form-numbers))

-- # The keys of a drawing file, and those of a rule text
pub drawing-kind : (kind : LineKind) → of_drawing kind ≡ true → kind_of kind ≡ drawing_kind (drawing_key kind)
unfolding kind_of
drawing-kind Class h = refl
drawing-kind Name h = refl
drawing-kind May h = refl
drawing-kind Node h = refl
drawing-kind Edge h = refl
drawing-kind Op h = absurd (false≢true h)
drawing-kind Pnode h = absurd (false≢true h)
drawing-kind Pedge h = absurd (false≢true h)
drawing-kind Make h = absurd (false≢true h)
drawing-kind Arm h = absurd (false≢true h)
drawing-kind Put h = absurd (false≢true h)
drawing-kind Drop h = absurd (false≢true h)
drawing-kind Cut h = absurd (false≢true h)
drawing-kind Group h = absurd (false≢true h)

pub rule-kind : (kind : LineKind) → of_drawing kind ≡ false → kind_of kind ≡ rule_kind (rule_key kind)
unfolding kind_of
rule-kind Class h = absurd (false≢true (sym h))
rule-kind Name h = absurd (false≢true (sym h))
rule-kind May h = absurd (false≢true (sym h))
rule-kind Node h = absurd (false≢true (sym h))
rule-kind Edge h = absurd (false≢true (sym h))
rule-kind Op h = refl
rule-kind Pnode h = refl
rule-kind Pedge h = refl
rule-kind Make h = refl
rule-kind Arm h = refl
rule-kind Put h = refl
rule-kind Drop h = refl
rule-kind Cut h = refl
rule-kind Group h = refl

drawing-kind-form : (k : DrawingKey) → (drawing_kind k).form ≡ drawing_form k
drawing-kind-form class= = refl
drawing-kind-form name= = refl
drawing-kind-form may= = refl
drawing-kind-form node= = refl
drawing-kind-form edge= = refl

rule-kind-form : (k : RuleKey) → (rule_kind k).form ≡ rule_form k
rule-kind-form op= = refl
rule-kind-form pnode= = refl
rule-kind-form pedge= = refl
rule-kind-form make= = refl
rule-kind-form arm= = refl
rule-kind-form put= = refl
rule-kind-form drop= = refl
rule-kind-form cut= = refl
rule-kind-form group= = refl

pub drawing-form : (kind : LineKind) → of_drawing kind ≡ true → (kind_of kind).form ≡ drawing_form (drawing_key kind)
drawing-form kind h = ap (λ k. k.form) (drawing-kind kind h) ∙ drawing-kind-form (drawing_key kind)

pub rule-form : (kind : LineKind) → of_drawing kind ≡ false → (kind_of kind).form ≡ rule_form (rule_key kind)
rule-form kind h = ap (λ k. k.form) (rule-kind kind h) ∙ rule-kind-form (rule_key kind)

-- a key's turn is its kind's among those of its format
pub drawing-turn : (kind : LineKind) → of_drawing kind ≡ true → (drawing_form (drawing_key kind)).turn ≡ turn_of kind
drawing-turn Class h = refl
drawing-turn Name h = refl
drawing-turn May h = refl
drawing-turn Node h = refl
drawing-turn Edge h = refl
drawing-turn Op h = absurd (false≢true h)
drawing-turn Pnode h = absurd (false≢true h)
drawing-turn Pedge h = absurd (false≢true h)
drawing-turn Make h = absurd (false≢true h)
drawing-turn Arm h = absurd (false≢true h)
drawing-turn Put h = absurd (false≢true h)
drawing-turn Drop h = absurd (false≢true h)
drawing-turn Cut h = absurd (false≢true h)
drawing-turn Group h = absurd (false≢true h)

pub rule-turn : (kind : LineKind) → of_drawing kind ≡ false → (rule_form (rule_key kind)).turn + 5 ≡ turn_of kind
rule-turn Class h = absurd (false≢true (sym h))
rule-turn Name h = absurd (false≢true (sym h))
rule-turn May h = absurd (false≢true (sym h))
rule-turn Node h = absurd (false≢true (sym h))
rule-turn Edge h = absurd (false≢true (sym h))
rule-turn Op h = refl
rule-turn Pnode h = refl
rule-turn Pedge h = refl
rule-turn Make h = refl
rule-turn Arm h = refl
rule-turn Put h = refl
rule-turn Drop h = refl
rule-turn Cut h = refl
rule-turn Group h = refl
