-- The line that a text is: the kind is looked up by its key, and its row is read.
-- A key belongs to one kind, so that numbers out of form under it are a line out of form.
use Rattle.std.specs.Prelude.{ℕ, suc, ◌+◌, ◌-◌, ◌<◌, ◌≤◌, Bool, true, false, cond, ◌&&◌, ◌||◌, ltb, length, drop, option_map, unwrap_or, position, Option, None, Some}
use Rattle.std.proofs.Common.{arith, add-one, ◌∙◌, length-take-le, ltb-true, ltb-false, lt-ltb}
use Prim.Native.Nat.compare
use Rattle.std.proofs.Math.Path.{◌≡◌, refl, ap, sym, subst}
use mathlib.Core.List.{List, [], ◌∷◌, map}
use Rattle.std.proofs.lemmas.Bool.{false≢true}
use Rattle.std.proofs.lemmas.Option.{cond_some}
use Rattle.std.specs.List.{position_or_len}
use Rattle.std.proofs.Math.ListN.{take}
use Rattle.std.proofs.Math.Dec.{eqb}
use borrow.Author.Rules.{part_to_end}
use Rattle.lists.specs.Lists.{any, find, ◌∈◌}
use Rattle.lists.specs.Order.{same}
use Rattle.lists.specs.Text.{pieces}
use Rattle.lists.specs.Decimal.{value}
use Rattle.lists.specs.Radix.{within, rank}
use Rattle.lists.proofs.Laws.Lists.{both, fails, finds-none, all-members, no_member}
use Rattle.lists.proofs.Laws.Apart.{found-member}
use Rattle.lists.proofs.Laws.Order.{same-list}
use Rattle.lists.proofs.Laws.Maps.{find-map}
use Rattle.lists.proofs.Laws.Count.{rank_below}
use Rattle.lists.proofs.Laws.Radix.{unrank-rank}
use Rattle.lists.proofs.Laws.Text.{pieces-parted}
use Rattle.model.specs.Files.{Line, Format, in_form, line_of}
use Rattle.model.specs.Files.DrawingFile.{drawing_format}
use Rattle.model.specs.Files.RuleText.{rule_format}
use Rattle.model.proofs.Laws.Lines.{line-spelled}
use Rattle.numerals.specs.Scan.{up_to}
use Rattle.forms.specs.Forms.{drawing_kinds, rule_kinds, of_drawing, kind_of, key_number, packed_form, drawing_key, rule_key}
use Rattle.text.specs.Lines.{row_numbers, drawing_line, rule_line, Tabled, table_format, packed_line, kind_with, line_in, row_in}
use Rattle.text.specs.Lines.{DrawingParsed, RuleParsed}
use Rattle.forms.specs.Laws.KeyNumbers.{Bytes, bytes_take, key-same}
use Rattle.numerals.specs.Laws.Scan.{up_to-bound, up_to-found, pieces-up-to, pieces_whole}
use Rattle.forms.specs.Laws.Kinds.{kind-roomy, kind-spelled, keys-apart, drawing-form, rule-form}
use Rattle.text.specs.Laws.Rows.{tested-is, tested-not}
use Rattle.forms.specs.declared.LineKind.{LineKind}
use Rattle.text.specs.declared.lines.Line.{Line as PackedLine}

-- # Looking up
module _ (word numbers : List ℕ) where
  -- the kind's key is the word, and the numbers are in the kind's form
  abbrev named : LineKind → Bool
  named k = same (kind_of k).form.key word

  abbrev formed : LineKind → Bool
  formed k = in_form (kind_of k).form.below (pieces 44 numbers)

  abbrev suits : LineKind → Bool
  suits k = named k && formed k

  suits-none : (kinds : List LineKind) → find named kinds ≡ None → find suits kinds ≡ None
  suits-none kinds h =
      (finds-none suits kinds).1
      (λ k i. (fails (suits k)).1 (λ t. absurd (false≢true (sym ((finds-none named kinds).0 h k i) ∙ ((both (named k) (formed k)).0 t).0))))

  module _ (kind : LineKind) where
    suits-not : (kinds : List LineKind) → find named kinds ≡ Some kind → formed kind ≡ false → find suits kinds ≡ None
    suits-not kinds h f =
        let here : same (kind_of kind).form.key word ≡ true = (found-member named kinds h).1 in
        (finds-none suits kinds).1
        (λ k i.
        (fails (suits k)).1
        (λ t.
        let there = (both (named k) (formed k)).0 t in
        let one_key = (same-list (kind_of k).form.key word).0 there.0 ∙ sym ((same-list (kind_of kind).form.key word).0 here) in
        absurd (false≢true (sym f ∙ ap formed (sym (keys-apart k kind one_key)) ∙ there.1))))

    suits-some : (kinds : List LineKind) → find named kinds ≡ Some kind → formed kind ≡ true → find suits kinds ≡ Some kind
    suits-some [] h f = let z : ◌≡◌ {A = ℕ} 0 1 = cc in absurd (omega arith)
    suits-some (k ∷ kinds) h f = go (named k) (λ e. suits-some kinds e f) h
      where
        go : (t : Bool) → (find named kinds ≡ Some kind → find suits kinds ≡ Some kind) → cond t (Some k) (find named kinds) ≡ Some kind
            → cond (t && formed k) (Some k) (find suits kinds) ≡ Some kind
        go true later e = let one : k ≡ kind = cc in rw (one, f)
        go false later e = later e

module _ (word : List ℕ) (spelled : Bytes word) {key : ℕ} (keyed : key ≡ key_number word) where
  form-key : (k : LineKind) → eqb (packed_form (kind_of k)).key key ≡ same (kind_of k).form.key word
  unfolding packed_form
  form-key k =
      let t = kind-spelled k in
      ap (λ n. eqb (key_number (kind_of k).form.key) n) keyed ∙ key-same (kind_of k).form.key word t.0 spelled t.1

  kind-named : (kinds : List LineKind) → kind_with key kinds ≡ find (named word []) kinds
  kind-named [] = refl
  kind-named (k ∷ kinds) = rw (form-key k, kind-named kinds)

-- a word, a byte = and numbers
pub record Parted (s word numbers : List ℕ) : Type 0 where
  pub spelled : Bytes word
  pub parts : pieces 61 s ≡ word ∷ numbers ∷ []

module _ {s word numbers : List ℕ} (p : Parted s word numbers) (kinds : List LineKind) {key : ℕ} (keyed : key ≡ key_number word)
    {o : Option LineKind} (sought : o ≡ kind_with key kinds) where
  found : find (named word numbers) kinds ≡ o
  found = sym (sought ∙ kind-named word p.spelled keyed kinds)

  pub sought-nowhere : o ≡ None → None ≡ line_in kinds s
  unfolding line_in
  sought-nowhere e = rw (p.parts, suits-none word numbers kinds (found ∙ e))

  module _ {kind : LineKind} (e : o ≡ Some kind) {m : Option ℕ} (read : m ≡ row_in kind numbers) where
    pub sought-read : {row : ℕ} → m ≡ Some row → Some (record { kind = kind; row = row }) ≡ line_in kinds s
    unfolding line_in row_in
    sought-read {row} i =
        let ts = pieces 44 numbers in
        let t = tested-is (in_form (kind_of kind).form.below ts) (rank (kind_of kind).rooms (map value ts)) row (sym read ∙ i) in
        rw (p.parts, suits-some word numbers kind kinds (found ∙ e) t.0, t.1)

    pub sought-not : m ≡ None → None ≡ line_in kinds s
    unfolding line_in row_in
    sought-not i =
        let ts = pieces 44 numbers in
        let t = tested-not (in_form (kind_of kind).form.below ts) (rank (kind_of kind).rooms (map value ts)) (sym read ∙ i) in
        rw (p.parts, suits-not word numbers kind kinds (found ∙ e) t)

-- # Where the byte = stands
module _ (s : List ℕ) {o : Option ℕ} (sought : o ≡ position (λ b. eqb b 61) s) where
  pub equals-at : {n : ℕ} → o ≡ Some n → n ≡ up_to 61 s
  equals-at e = ap (λ r. unwrap_or r (length s)) (sym e ∙ sought) ∙ up_to-found 61 s

  pub equals-before : {n : ℕ} → o ≡ Some n → n < length s
  equals-before {n} e =
      let m = position_or_len (λ b. eqb b 61) s in
      let r = cond_some (ltb m (length s)) m n (sym (sym e ∙ sought)) in
      rw r.1 at (ltb-true m (length s) r.0)

  pub equals-nowhere : o ≡ None → length s ≡ up_to 61 s
  equals-nowhere e = ap (λ r. unwrap_or r (length s)) (sym e ∙ sought) ∙ up_to-found 61 s

module _ (s : List ℕ) {n : ℕ} (found : n ≡ up_to 61 s) where
  pub without-equals : (kinds : List LineKind) → n ≡ length s → None ≡ line_in kinds s
  unfolding line_in
  without-equals kinds e = rw (pieces_whole 61 s (omega arith))

  module _ (inside : n ≡ length s → ⊥) where
    pub equals-inside : n < length s
    equals-inside = omega (arith, up_to-bound 61 s)

    pub word-length : n ≡ length (take n s)
    word-length = sym (length-take-le n s (omega (arith, equals-inside)))

    abbrev after : List ℕ
    after = take (length s - (n + 1)) (drop (n + 1) s)

    two-parts : pieces 61 s ≡ take n s ∷ pieces 61 after
    two-parts =
        let whole : drop (suc n) s ≡ after = ap (λ m. drop m s) (sym (add-one n)) ∙ sym (part_to_end s (n + 1)) in
        rw (← whole, found) (pieces-up-to 61 s (omega (arith, equals-inside)))

    module _ {u : ℕ} (again : u ≡ up_to 61 after) where
      pub two-equals : (kinds : List LineKind) → u < length after → None ≡ line_in kinds s
      unfolding line_in
      two-equals kinds h =
          let p = pieces-parted 61 (drop (suc (up_to 61 after)) after) in
          rw (two-parts, pieces-up-to 61 after (omega arith), p.parted)

      pub parted : Bytes s → length after ≤ u → Parted s (take n s) after
      parted b l = record { spelled = bytes_take n s b; parts = rw (two-parts, pieces_whole 61 after (omega arith)) }

-- a byte = that is among others stands before their end
up_to-any : (s : List ℕ) → any (λ b. eqb b 61) s ≡ ltb (up_to 61 s) (length s)
unfolding up_to
up_to-any [] = refl
up_to-any (x ∷ xs) = go (eqb x 61) (up_to-any xs)
  where
    go : (t : Bool) → any (λ b. eqb b 61) xs ≡ ltb (up_to 61 xs) (length xs)
        → (t || any (λ b. eqb b 61) xs) ≡ ltb (cond t 0 (suc (up_to 61 xs))) (suc (length xs))
    go true h = sym (lt-ltb 0 (suc (length xs)) (omega arith))
    go false h = rw compare.suc-suc h

module _ (s : List ℕ) {t : Bool} (found : t ≡ any (λ b. eqb b 61) s) where
  pub equals-again : t ≡ true → up_to 61 s < length s
  equals-again e = ltb-true _ _ (sym (up_to-any s) ∙ sym found ∙ e)

  pub no-equals-again : t ≡ false → length s ≤ up_to 61 s
  no-equals-again e = ltb-false _ _ (sym (up_to-any s) ∙ sym found ∙ e)

-- # The same line in another format
module _ (kinds : List LineKind) (s : List ℕ) where
  -- a line of the table is of one of its kinds, and its numbers have room
  record InTable (l : Line LineKind) : Type 0 where
    listed : l.key ∈ kinds
    room : within (kind_of l.key).rooms l.numbers ≡ true

  line-in-table : (l : Line LineKind) → line_of (table_format kinds) (pieces 61 s) ≡ Some l → InTable l
  line-in-table l e =
      let f = (line-spelled (table_format kinds) s l e).1 in
      record { listed = f.listed; room = (kind-roomy l.key).fits l.numbers f.limited }

  -- so is the line that the code reads
  parsed-tabled : (l : PackedLine) → line_in kinds s ≡ Some l → Tabled l × (l.kind ∈ kinds)
  unfolding line_in
  parsed-tabled l e = go (line_of (table_format kinds) (pieces 61 s)) refl e
    where
      go : (o : Option (Line LineKind)) → line_of (table_format kinds) (pieces 61 s) ≡ o → option_map packed_line o ≡ Some l
          → Tabled l × (l.kind ∈ kinds)
      go None f g = let z : ◌≡◌ {A = ℕ} 0 1 = cc in absurd (omega arith)
      go (Some m) f g =
          let t = line-in-table m f in
          let same_line : packed_line m ≡ l = cc in
          subst (λ (k : PackedLine). Tabled k × (k.kind ∈ kinds)) same_line
          (record { row = rank_below (kind_of m.key).rooms m.numbers t.room }, t.listed)

  -- a format whose keys stand for these kinds
  module _ {K : Type 0} (f : Format K) (key_at : LineKind → K) (keys : f.keys ≡ map key_at kinds)
      (forms : (k : LineKind) → k ∈ kinds → f.form_of (key_at k) ≡ (kind_of k).form) where
    abbrev keyed : Line LineKind → Line K
    keyed l = record { key = key_at l.key; numbers = l.numbers }

    line-keyed : (ps : List (List ℕ)) → line_of f ps ≡ option_map keyed (line_of (table_format kinds) ps)
    line-keyed [] = refl
    line-keyed (word ∷ []) = refl
    line-keyed (word ∷ numbers ∷ []) =
        let ts = pieces 44 numbers in
        let q : K → Bool = λ k. same (f.form_of k).key word && in_form (f.form_of k).below ts in
        let found = find-map key_at (suits word numbers) q kinds (λ k i. rw (forms k i)) in
        rw (keys, found) (go ts (find (suits word numbers) kinds))
      where
        go : (ts : List (List ℕ)) (o : Option LineKind)
            → option_map {U = Line K} (λ k. record { key = k; numbers = map value ts }) (option_map key_at o)
            ≡ option_map keyed (option_map {U = Line LineKind} (λ k. record { key = k; numbers = map value ts }) o)
        go ts None = refl
        go ts (Some k) = refl
    line-keyed (word ∷ numbers ∷ more ∷ rest) = refl

    -- what the code reads as a line, as a line of the format
    parsed-line : option_map {U = Line K} (λ l. record { key = key_at l.kind; numbers = row_numbers l }) (line_in kinds s) ≡ line_of f (pieces 61 s)
    unfolding line_in
    parsed-line = go (line_of (table_format kinds) (pieces 61 s)) refl ∙ sym (line-keyed (pieces 61 s))
      where
        go : (o : Option (Line LineKind)) → line_of (table_format kinds) (pieces 61 s) ≡ o
            → option_map {U = Line K} (λ l. record { key = key_at l.kind; numbers = row_numbers l }) (option_map packed_line o) ≡ option_map keyed o
        go None e = refl
        go (Some l) e =
            ap (λ (ns : List ℕ). Some record { key = key_at l.key; numbers = ns })
            (unrank-rank (kind_of l.key).rooms l.numbers (line-in-table l e).room)

-- # Lines of drawing files and of rule texts
of-drawing : (k : LineKind) → k ∈ drawing_kinds → of_drawing k ≡ true
of-drawing = (all-members of_drawing drawing_kinds).0 refl

of-rule : (k : LineKind) → k ∈ rule_kinds → of_drawing k ≡ false
of-rule = (no_member of_drawing rule_kinds).0 refl

pub drawing-parsed : (s : List ℕ) (r : Option PackedLine) → r ≡ line_in drawing_kinds s → DrawingParsed s r
unfolding drawing_format
drawing-parsed s r e =
    record {
      line =
          ap (option_map drawing_line) e
          ∙ parsed-line drawing_kinds s drawing_format drawing_key refl (λ k i. sym (drawing-form k (of-drawing k i)));
      tabled = λ l g. let t = parsed-tabled drawing_kinds s l (sym e ∙ g) in (t.0, of-drawing l.kind t.1);
    }

pub rule-parsed : (t : List ℕ) (r : Option PackedLine) → r ≡ line_in rule_kinds t → RuleParsed t r
unfolding rule_format
rule-parsed t r e =
    record {
      line = λ s.
          ap (option_map rule_line) e ∙ parsed-line rule_kinds t (rule_format s) rule_key refl (λ k i. sym (rule-form k (of-rule k i)));
      tabled = λ l g. let p = parsed-tabled rule_kinds t l (sym e ∙ g) in (p.0, of-rule l.kind p.1);
    }
